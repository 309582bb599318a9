use Rattle.cast_timer.specs.Rows.{owed_in}
use Rattle.cast_outbox.specs.Outboxes.{outboxes_in}
use Rattle.cast_domain.proofs.Shares.{leaves}
use Rattle.cast_domain.proofs.shared.Shared.put.Goals as goal

pub returns-clause-others : goal.returns-clause-others
returns-clause-others c =
    leaves c.args.domain _ _ (λ e other. let stays = c.put.ensures.others e other in λ i. record {
      kept = stays.0 i;
      next = stays.1 i;
      owed = owed_in c.args.self.now.timers e;
      outboxes = outboxes_in c.args.self.now.outboxes e;
    })
