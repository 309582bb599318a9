-- What an entry makes of what one domain stands for, by the domain's turn.
use Rattle.std.proofs.Common.{◌≡◌, ◌≢◌, true, false, Option, Some, None, Result, Ok, Err, refl, sym, ap, subst, ◌∙◌}
use Rattle.std.proofs.lemmas.Bool.{false≢true, or_left}
use Rattle.cast_types.specs.declared.names.DomainNo.{DomainNo}
use Rattle.cast_events.specs.declared.event.Taken.{Taken}
use Rattle.cast_events.specs.declared.log.Fault.{Fault}
use Rattle.cast_events.specs.declared.log.Fault.TheVariants.{NoMemory, Halted, NoDomain}
use Rattle.cast_rules.specs.State.{State}
use Rattle.cast_domain.specs.declared.domain.Domain.{Domain}
use Rattle.cast_domain.specs.declared.shared.Shared.{Shared}
use Rattle.cast_domain.specs.Records.{number_of}
use Rattle.cast_domain.specs.Shared.{Part, part_of}
use Rattle.cast_table.specs.Tables.{domain_eq, IsTurn, Lent, halted_by}
use Rattle.cast_table.specs.Owns.{names, is_own}
use Rattle.cast_table.proofs.Parts.{domain_itself, other_unnamed}
use Rattle.cast_events.specs.declared.entry.Noted.{Noted}
use Rattle.cast_events.specs.declared.entry.Noted.TheVariants as noted
use Rattle.cast_events.specs.declared.entry.Entry.{Entry}
use Rattle.cast_pool.specs.Traces.{StandsFor, Leads, is_among}
use Rattle.cast_trail.specs.Notes.{noted_of, noted_taken}

-- where the domain stands for something, the entry leads from there to what it stands for then
pub record Next (e : Entry) (end : Part) (n : DomainNo) (s : Option State) (new : Domain) : Type 0 where
  pub state : Option State
  pub leads : Leads n e s state
  pub stands : StandsFor new end state

-- whatever the old domain stood for, with its part of what is shared before and after
pub record Follows (e : Entry) (start : Shared) (end : Shared) (old : Domain) (new : Domain) : Type 0 where
  pub number : number_of new ≡ number_of old
  pub next : (s : Option State) → StandsFor old (part_of (number_of old) start) s →
      Next e (part_of (number_of old) end) (number_of old) s new

same_note : (a b : Noted) → Some a ≡ Some b → a ≡ b
same_note a b e = cc

module _ (e : Entry) (old new : Domain) (before after : Lent) (own : is_own (number_of old) e.event ≡ true) where
  -- it made its step, or refused
  took : (t : Taken) → (names (number_of old) e.event ≡ true → Some e.answer ≡ noted_of (Ok t)) →
      is_among (number_of old) e.halted ≡ false → IsTurn (Ok t) e.event old new before after → (s : Option State) →
      StandsFor old (part_of (number_of old) before.shared) s → Next e (part_of (number_of old) after.shared) (number_of old) s new
  took t says runs turn (Some s) stands =
      let step = turn.steps stands.0 s stands.1 in
      record {
        state = Some step.end;
        leads = (
          runs,
          (λ _. record { answer = t; steps = step.steps; kept = λ named. same_note e.answer (noted_taken t) (says named) }),
          (λ other. absurd (false≢true (sym other ∙ own))),
        );
        stands = (turn.halted ∙ stands.0, step.means);
      }
  took t says runs turn None stands =
      let refused = turn.refuses stands in
      record {
        state = None;
        leads = (runs, λ named. same_note e.answer (noted_taken t) (says named) ∙ ap noted_taken refused.0);
        stands = turn.halted ∙ stands;
      }

  -- it found no memory
  stopped_in : (d : DomainNo) → (names (number_of old) e.event ≡ true → Some e.answer ≡ noted_of (Err (Halted d))) →
      is_among (number_of old) e.halted ≡ true → IsTurn (Err (Halted d)) e.event old new before after → (s : Option State) →
      StandsFor old (part_of (number_of old) before.shared) s → Next e (part_of (number_of old) after.shared) (number_of old) s new
  stopped_in d says stops turn (Some s) stands =
      record {
        state = None;
        leads = (stops, own, λ named. same_note e.answer (noted.Halted d) (says named) ∙ ap noted.Halted turn.0);
        stands = turn.1.stops;
      }
  stopped_in d says stops turn None stands = absurd (false≢true (sym turn.1.ran ∙ stands))

  halted_itself : (d : DomainNo) → d ≡ number_of old → is_among (number_of old) (halted_by (Err (Halted d))) ≡ true
  halted_itself d same = or_left (domain_eq (number_of old) d) false (ap (domain_eq (number_of old)) same ∙ domain_itself (number_of old))

  turned_from : (a : Result Taken Fault) → a ≢ Err NoMemory → (names (number_of old) e.event ≡ true → Some e.answer ≡ noted_of a) →
      is_among (number_of old) e.halted ≡ is_among (number_of old) (halted_by a) → IsTurn a e.event old new before after →
      (number_of new ≡ number_of old) × ((s : Option State) → StandsFor old (part_of (number_of old) before.shared) s →
      Next e (part_of (number_of old) after.shared) (number_of old) s new)
  turned_from (Ok t) begun says halts turn = (turn.number, took t says halts turn)
  turned_from (Err NoMemory) begun says halts turn = absurd (begun refl)
  turned_from (Err (Halted d)) begun says halts turn =
      (turn.1.number, stopped_in d says (halts ∙ halted_itself d turn.0) turn)
  turned_from (Err NoDomain) begun says halts turn = absurd turn

  -- a domain whose turn it was
  pub turned : (a : Result Taken Fault) → a ≢ Err NoMemory → (names (number_of old) e.event ≡ true → Some e.answer ≡ noted_of a) →
      is_among (number_of old) e.halted ≡ is_among (number_of old) (halted_by a) → IsTurn a e.event old new before after →
      (start end : Shared) → part_of (number_of old) before.shared ≡ part_of (number_of old) start →
      part_of (number_of old) end ≡ part_of (number_of old) after.shared → Follows e start end old new
  turned a begun says halts turn start end came goes =
      let made = turned_from a begun says halts turn in
      record {
        number = made.0;
        next = λ s stands.
            let next = made.1 s (subst (λ p. StandsFor old p s) (sym came) stands) in
            record { state = next.state; leads = next.leads; stands = subst (λ p. StandsFor new p next.state) (sym goes) next.stands };
      }

-- a domain that the event is not for stays
module _ (e : Entry) (d : Domain) (other : is_own (number_of d) e.event ≡ false) (runs : is_among (number_of d) e.halted ≡ false) where
  leads_on : (s : Option State) → Leads (number_of d) e s s
  leads_on (Some s) = (runs, (λ own. absurd (false≢true (sym other ∙ own))), λ _. refl)
  leads_on None = (runs, λ named. absurd (false≢true (sym (other_unnamed (number_of d) e.event other) ∙ named)))

  pub left : (start end : Shared) → part_of (number_of d) end ≡ part_of (number_of d) start → Follows e start end d d
  left start end same =
      record {
        number = refl;
        next = λ s stands. record { state = s; leads = leads_on s; stands = subst (λ p. StandsFor d p s) (sym same) stands };
      }
