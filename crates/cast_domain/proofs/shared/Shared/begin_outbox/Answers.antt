use Rattle.std.proofs.Common.{◌∙◌}
use Rattle.cast_message.specs.declared.client.Push.TheVariants as push
use Rattle.cast_types.specs.declared.refusal.Refusal.TheVariants.{Slow}
use Rattle.cast_store.specs.Store.{kept_in, next_in}
use Rattle.cast_timer.specs.Rows.{owed_in}
use Rattle.cast_outbox.specs.Outboxes.{outboxes_in}
use Rattle.cast_domain.proofs.Boxes.{box_begun}
use Rattle.cast_domain.proofs.Shares.{leaves}
use Rattle.cast_domain.proofs.shared.Shared.begin_outbox.Goals as goal

pub returns-in_err-push-clause-others : goal.returns-in_err-push-clause-others
returns-in_err-push-clause-others c =
    leaves c.args.domain _ _ (λ e other. λ i. record {
      kept = kept_in c.args.self.now.store e;
      next = next_in c.args.self.now.store e;
      owed = owed_in c.args.self.now.timers e;
      outboxes = (c.push.ensures.others e other ∙ c.open.ensures.others e other) i;
    })

pub returns-clause-part : goal.returns-clause-part
returns-clause-part c = λ i. record {
  kept = kept_in c.args.self.now.store c.args.domain;
  next = next_in c.args.self.now.store c.args.domain;
  owed = owed_in c.args.self.now.timers c.args.domain;
  outboxes =
      (c.in_ok-push.ensures.ok ∙ box_begun (outboxes_in c.args.self.now.outboxes c.args.domain) c.args.serial (push.Closed Slow)
      c.args.entry (outboxes_in c.open.new.self c.args.domain) c.in_ok-open.ensures.ok) i;
}

pub returns-clause-others : goal.returns-clause-others
returns-clause-others c =
    leaves c.args.domain _ _ (λ e other. λ i. record {
      kept = kept_in c.args.self.now.store e;
      next = next_in c.args.self.now.store e;
      owed = owed_in c.args.self.now.timers e;
      outboxes = (c.push.ensures.others e other ∙ c.open.ensures.others e other) i;
    })
