use Rattle.std.proofs.Common.{not, rules}
use Rattle.std.specs.Prelude.{◌==◌}
use Rattle.cast_store.proofs.Slots.{retained}
use Rattle.cast_store.proofs.store.drop_slots.Goals as goal

pub returns : goal.returns
returns c =
    retained _ (λ s. not (s.domain.0 == c.args.domain.0)) _ (λ key old keep new next called. search rules) 0 _ _ c.retain.ensures.retained
