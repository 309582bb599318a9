-- Events that are applied one after another.
use Rattle.std.proofs.Common.{◌≢◌, List, [], ◌∷◌, ◌++◌, Result, Err, refl, subst}
use Rattle.cast_domain.specs.declared.domain.Domain.{Domain}
use Rattle.cast_events.specs.declared.event.Event.{Event}
use Rattle.cast_events.specs.declared.event.Taken.{Taken}
use Rattle.cast_events.specs.declared.log.Fault.{Fault}
use Rattle.cast_events.specs.declared.log.Fault.TheVariants.{NoMemory}
use Rattle.cast_table.specs.Tables.{AreApplied, IsApplied, Lent}

-- one more event
pub applied_more : (answers : List (Result Taken Fault)) (events : List Event) (a : Result Taken Fault) (e : Event)
    (old middle new : List Domain) (first last next : Lent) → AreApplied answers events old middle first last → a ≢ Err NoMemory →
    IsApplied a e middle new last next → AreApplied (answers ++ a ∷ []) (events ++ e ∷ []) old new first next
applied_more [] [] a e old middle new first last next applied begun one = (
  begun,
  new,
  next,
  subst (λ ds. IsApplied a e ds new first next) applied.0 (subst (λ l. IsApplied a e middle new l next) applied.1 one),
  (refl, refl),
)
applied_more [] (f ∷ events) a e old middle new first last next applied begun one = absurd applied
applied_more (b ∷ answers) [] a e old middle new first last next applied begun one = absurd applied
applied_more (b ∷ answers) (f ∷ events) a e old middle new first last next applied begun one = (
  applied.0,
  applied.1,
  applied.2,
  applied.3,
  applied_more answers events a e applied.1 middle new applied.2 last next applied.4 begun one,
)
