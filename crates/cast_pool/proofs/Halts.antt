-- An event halts at most as many domains as there are.
use Rattle.std.proofs.Common.{◌≡◌, ℕ, ◌≤◌, List, [], ◌∷◌, length, Option, Some, None, Result, Ok, Err, sym, subst, arith, length-append}
use Rattle.std.specs.Prelude.{slice_get}
use Rattle.cast_types.specs.declared.names.DomainNo.{DomainNo}
use Rattle.cast_events.specs.declared.event.Event.{Event}
use Rattle.cast_events.specs.declared.event.Taken.{Taken}
use Rattle.cast_events.specs.declared.log.Fault.{Fault}
use Rattle.cast_events.specs.declared.log.Fault.TheVariants.{NoMemory, Halted, NoDomain}
use Rattle.cast_events.specs.Events.{domain_of}
use Rattle.cast_domain.specs.declared.domain.Domain.{Domain}
use Rattle.cast_table.specs.Tables.{Lent, IsAppliedAt, IsAppliedTo, IsApplied, NotesHalts, NotesHaltsOf}
use Rattle.cast_table.specs.Tables.{answer_in_turn, halted_by, halted_in_turn, place_named}
use Rattle.cast_table.proofs.Places.{none_some}

one_at_most : (a : Result Taken Fault) → length (halted_by a) ≤ 1
one_at_most (Ok t) = omega arith
one_at_most (Err NoMemory) = omega arith
one_at_most (Err (Halted d)) = omega arith
one_at_most (Err NoDomain) = omega arith

stopped_few : (olds news : List Domain) → length (halted_in_turn olds news) ≤ length olds
stopped_few [] news = omega arith
stopped_few (o ∷ olds) [] = omega arith
stopped_few (o ∷ olds) (n ∷ news) =
    let sizes = length-append (halted_by (answer_in_turn o n)) (halted_in_turn olds news) in
    let one = one_at_most (answer_in_turn o n) in
    let rest = stopped_few olds news in
    omega (arith, sizes, one, rest)

some_stand : (ds : List Domain) (k : ℕ) (d : Domain) → slice_get ds k ≡ Some d → 1 ≤ length ds
some_stand [] k d stands = absurd (none_some d stands)
some_stand (x ∷ ds) k d stands = omega arith

other_fault : (d : DomainNo) → ◌≡◌ {A = Result Taken Fault} (Err (Halted d)) (Err NoDomain) → ⊥
other_fault d e = cc

module _ (event : Event) (olds news : List Domain) (before after : Lent) where
  halting_stands : (d : DomainNo) (p : Option ℕ) → IsAppliedAt p (Err (Halted d)) event olds news before after → 1 ≤ length olds
  halting_stands d None applied = absurd (other_fault d applied.0)
  halting_stands d (Some k) applied = some_stand olds k applied.domain applied.stands

  few_named : (a : Result Taken Fault) (n : DomainNo) (halted : List DomainNo) → IsAppliedTo (Some n) a event olds news before after →
      NotesHaltsOf (Some n) a olds news [] halted → length halted ≤ length olds
  few_named (Ok t) n halted applied notes = subst (λ hs. length hs ≤ length olds) (sym notes) (omega arith)
  few_named (Err NoMemory) n halted applied notes = subst (λ hs. length hs ≤ length olds) (sym notes) (omega arith)
  few_named (Err (Halted d)) n halted applied notes =
      subst (λ hs. length hs ≤ length olds) (sym notes.1) (halting_stands d (place_named n olds) applied)
  few_named (Err NoDomain) n halted applied notes = subst (λ hs. length hs ≤ length olds) (sym notes) (omega arith)

  few_by : (o : Option DomainNo) (a : Result Taken Fault) (halted : List DomainNo) → IsAppliedTo o a event olds news before after →
      NotesHaltsOf o a olds news [] halted → length halted ≤ length olds
  few_by None a halted applied notes = subst (λ hs. length hs ≤ length olds) (sym notes) (stopped_few olds news)
  few_by (Some n) a halted applied notes = few_named a n halted applied notes

  pub few_halted : (a : Result Taken Fault) (halted : List DomainNo) → IsApplied a event olds news before after →
      NotesHalts a event olds news [] halted → length halted ≤ length olds
  few_halted a halted applied notes = few_by (domain_of event) a halted applied notes
