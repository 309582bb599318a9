use Rattle.cast_store.specs.Store.{kept_in, next_in}
use Rattle.cast_timer.specs.Rows.{owed_in}
use Rattle.cast_domain.proofs.Shares.{leaves}
use Rattle.cast_domain.proofs.shared.Shared.close_outbox.Goals as goal

pub returns-clause-others : goal.returns-clause-others
returns-clause-others c =
    leaves c.args.domain _ _ (λ e other. λ i. record {
      kept = kept_in c.args.self.now.store e;
      next = next_in c.args.self.now.store e;
      owed = owed_in c.args.self.now.timers e;
      outboxes = c.close.ensures.others e other i;
    })
