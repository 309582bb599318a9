use Rattle.std.proofs.Common.{not, rules}
use Rattle.std.specs.Prelude.{◌==◌}
use Rattle.cast_outbox.proofs.Kept.{retained}
use Rattle.cast_outbox.proofs.outboxes.drop_slots.Goals as goal

pub returns : goal.returns
returns c =
    retained _ (λ x. not (x.domain == c.args.domain.0)) _ (λ key old keep new next called. search rules) 0 _ _ c.retain.ensures.retained
