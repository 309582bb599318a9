-- What one event does to the domains of a table.
use Rattle.std.proofs.Common.{◌≡◌, ℕ, zero, suc, ◌<◌, List, [], ◌∷◌, ◌++◌, length, get_or}
use Rattle.std.proofs.Common.{Some, Result, Ok, Err, slice_set, refl, ap, subst, ◌∙◌, arith}
use Rattle.std.specs.Prelude.{slice_get}
use Rattle.std.proofs.lemmas.List.{append-nil}
use Rattle.cast_types.specs.declared.names.DomainNo.{DomainNo}
use Rattle.cast_domain.specs.declared.domain.Domain.{Domain}
use Rattle.cast_events.specs.declared.event.Event.{Event}
use Rattle.cast_events.specs.declared.event.Taken.{Taken}
use Rattle.cast_domain.specs.Records.{number_of}
use Rattle.cast_events.specs.declared.log.Fault.{Fault}
use Rattle.cast_events.specs.declared.log.Fault.TheVariants.{NoMemory, Halted, NoDomain}
use Rattle.cast_table.specs.Tables.{IsTurn, IsAppliedAt, Lent, NotesOne, halted_by, place_named}
use Rattle.cast_table.proofs.Places.{named_there, stands_at}

-- what stands at a place, and is written there again, changes nothing
at_place : {X : Type 0} (xs : List X) (i : ℕ) → i < length xs → (x : X) × (slice_get xs i ≡ Some x) × (xs ≡ slice_set xs i x)
at_place [] i below = absurd (omega arith)
at_place (x ∷ xs) zero below = (x, refl, refl)
at_place (x ∷ xs) (suc i) below = let later = at_place xs i (omega arith) in (later.0, later.1, ap (λ rest. x ∷ rest) later.2)

-- the number of a domain that is halted
noted_one : (b : Result Taken Fault) (event : Event) (old new : Domain) (first last : Lent) → IsTurn b event old new first last →
    (number : DomainNo) → number_of old ≡ number → (before after : List DomainNo) → after ≡ before ++ halted_by b →
    NotesOne b number before after
noted_one (Ok t) event old new first last turn number named before after noted = noted ∙ append-nil before
noted_one (Err NoMemory) event old new first last turn number named before after noted = noted ∙ append-nil before
noted_one (Err (Halted d)) event old new first last turn number named before after noted = (turn.0 ∙ named, noted)
noted_one (Err NoDomain) event old new first last turn number named before after noted = absurd turn

module _ (number : DomainNo) (place : ℕ) (event : Event) (domains : List Domain) (found : Some place ≡ place_named number domains)
    (below : place < length domains) where
  -- there is no memory to begin with
  pub not_begun : (before after : Lent) → after ≡ before →
      IsAppliedAt (place_named number domains) (Err NoMemory) event domains domains before after
  not_begun before after same =
      let at = at_place domains place below in
      subst (λ o. IsAppliedAt o (Err NoMemory) event domains domains before after) found
      (record { domain = at.0; next = at.0; stands = at.1; others = at.2; turn = (refl, same) })

  module _ (old new : Domain) (read : old ≡ get_or domains place old) (b : Result Taken Fault) (first last : Lent)
      (turn : IsTurn b event old new first last) where
    -- the domain takes its turn
    pub turn_applied : (before after : Lent) → first ≡ before → last ≡ after →
        IsAppliedAt (place_named number domains) b event domains (slice_set domains place new) before after
    turn_applied before after begins ends =
        subst (λ o. IsAppliedAt o b event domains (slice_set domains place new) before after) found
        (record {
          domain = old;
          next = new;
          stands = stands_at domains place old below read;
          others = refl;
          turn = subst (λ l. IsTurn b event old new before l) ends (subst (λ l. IsTurn b event old new l last) begins turn);
        })

    -- and is noted by its number where it is halted
    pub turn_noted : (before after : List DomainNo) → after ≡ before ++ halted_by b → NotesOne b number before after
    turn_noted before after noted =
        let named = named_there number domains place old found (stands_at domains place old below read) in
        noted_one b event old new first last turn number named before after noted
