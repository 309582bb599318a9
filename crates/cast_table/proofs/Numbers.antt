-- No event changes the numbers of domains, so each number keeps its place.
use Rattle.std.proofs.Common.{◌≡◌, ℕ, zero, suc, ◌+◌, cond, List, [], ◌∷◌, get_or, Option}
use Rattle.std.proofs.Common.{Some, None, Result, Ok, Err, slice_set, refl, sym, ap, ◌∙◌}
use Rattle.std.specs.Prelude.{map}
use Rattle.std.specs.List.{position_from}
use Rattle.cast_types.specs.declared.names.DomainNo.{DomainNo}
use Rattle.cast_domain.specs.declared.domain.Domain.{Domain}
use Rattle.cast_domain.specs.Records.{number_of}
use Rattle.cast_events.specs.declared.event.Event.{Event}
use Rattle.cast_events.specs.declared.event.Taken.{Taken}
use Rattle.cast_events.specs.declared.log.Fault.{Fault}
use Rattle.cast_events.specs.declared.log.Fault.TheVariants.{NoMemory, Halted, NoDomain}
use Rattle.cast_events.specs.Events.{domain_of}
use Rattle.cast_table.specs.Tables.{AreTurns, IsApplied, IsAppliedAt, IsAppliedTo, IsTicked}
use Rattle.cast_table.specs.Tables.{IsTurn, Lent, answer_in_turn, domain_eq, place_named}
use Rattle.cast_table.proofs.Places.{read_at}

-- where the numbers stay, so do the places

named_by_number : (n : DomainNo) (k : ℕ) (ds : List Domain) →
    position_from (λ d. domain_eq (number_of d) n) k ds ≡ position_from (λ m. domain_eq m n) k (map number_of ds)
named_by_number n k [] = refl
named_by_number n k (d ∷ ds) = ap (cond (domain_eq (number_of d) n) (Some k)) (named_by_number n (k + 1) ds)

pub named_same : (n : DomainNo) (olds news : List Domain) → map number_of news ≡ map number_of olds →
    place_named n olds ≡ place_named n news
named_same n olds news same =
    named_by_number n 0 olds ∙ ap (position_from (λ m. domain_eq m n) 0) (sym same) ∙ sym (named_by_number n 0 news)

-- a turn leaves the number of its domain

pub turn_number : (a : Result Taken Fault) (event : Event) (old new : Domain) (before after : Lent) → IsTurn a event old new before after →
    number_of new ≡ number_of old
turn_number (Ok taken) event old new before after turn = turn.number
turn_number (Err NoMemory) event old new before after turn = ap number_of turn.0
turn_number (Err (Halted d)) event old new before after turn = turn.1.number
turn_number (Err NoDomain) event old new before after turn = absurd turn

pub numbers_set : (ds : List Domain) (place : ℕ) (old new : Domain) → old ≡ get_or ds place old → number_of new ≡ number_of old →
    map number_of (slice_set ds place new) ≡ map number_of ds
numbers_set [] place old new read number = refl
numbers_set (d ∷ ds) zero old new read number = ap (λ m. m ∷ map number_of ds) (number ∙ ap number_of read)
numbers_set (d ∷ ds) (suc place) old new read number = ap (λ ms. number_of d ∷ ms) (numbers_set ds place old new read number)

-- and so do the turns of all

pub turns_numbers : (event : Event) (olds news : List Domain) (before after : Lent) → AreTurns event olds news before after →
    map number_of news ≡ map number_of olds
turns_numbers event [] [] before after turns = refl
turns_numbers event [] (n ∷ news) before after turns = absurd turns
turns_numbers event (o ∷ olds) [] before after turns = absurd turns
turns_numbers event (o ∷ olds) (n ∷ news) before after turns =
    let number = turn_number (answer_in_turn o n) event o n before turns.0 turns.1 in
    let later = turns_numbers event olds news turns.0 after turns.2 in
    λ i. number i ∷ later i

-- and so does any event

tick_numbers : (a : Result Taken Fault) (event : Event) (olds news : List Domain) (before after : Lent) →
    IsTicked a event olds news before after → map number_of news ≡ map number_of olds
tick_numbers (Ok taken) event olds news before after ticked = turns_numbers event olds news before after ticked.2
tick_numbers (Err NoMemory) event olds news before after ticked = ap (map number_of) ticked.0
tick_numbers (Err (Halted d)) event olds news before after ticked = turns_numbers event olds news before after ticked.1
tick_numbers (Err NoDomain) event olds news before after ticked = absurd ticked

place_numbers : (place : Option ℕ) (a : Result Taken Fault) (event : Event) (olds news : List Domain) (before after : Lent) →
    IsAppliedAt place a event olds news before after → map number_of news ≡ map number_of olds
place_numbers None a event olds news before after applied = ap (map number_of) applied.1
place_numbers (Some place) a event olds news before after applied =
    ap (map number_of) applied.others
    ∙ numbers_set olds place applied.domain applied.next (sym (read_at olds place applied.domain applied.domain applied.stands))
    (turn_number a event applied.domain applied.next before after applied.turn)

pub applied_numbers : (a : Result Taken Fault) (event : Event) (olds news : List Domain) (before after : Lent) →
    IsApplied a event olds news before after → map number_of news ≡ map number_of olds
applied_numbers a event olds news before after applied = go (domain_of event) applied
  where
    go : (named : Option DomainNo) → IsAppliedTo named a event olds news before after → map number_of news ≡ map number_of olds
    go None ticked = tick_numbers a event olds news before after ticked
    go (Some d) at = place_numbers (place_named d olds) a event olds news before after at
