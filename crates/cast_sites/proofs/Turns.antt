-- What one turn does to the domain whose turn it is, and that it leaves all others what they have.
use Rattle.std.proofs.Common.{◌≡◌, ℕ, true, false, List, ◌++◌, Result, Ok, Err, sym, ap, subst, ◌∙◌, ◌⊎◌, inl, inr}
use Rattle.std.proofs.lemmas.Bool.{cases_Bool}
use Rattle.std.proofs.lemmas.List.{append-nil}
use Rattle.cast_types.specs.declared.names.DomainNo.{DomainNo}
use Rattle.cast_types.specs.declared.names.SiteNo.{SiteNo}
use Rattle.cast_message.specs.declared.client.Push.{Push}
use Rattle.cast_message.specs.declared.site.SiteFrame.{SiteFrame}
use Rattle.cast_events.specs.declared.event.Event.{Event}
use Rattle.cast_events.specs.declared.event.Outs.{Outs}
use Rattle.cast_events.specs.declared.event.Taken.{Taken}
use Rattle.cast_events.specs.declared.log.Fault.{Fault}
use Rattle.cast_events.specs.declared.log.Fault.TheVariants.{NoMemory, Halted, NoDomain}
use Rattle.cast_rules.specs.Run.{IsStep}
use Rattle.cast_rules.specs.State.{State}
use Rattle.cast_domain.specs.declared.domain.Domain.{Domain}
use Rattle.cast_domain.specs.declared.shared.Shared.{Shared}
use Rattle.cast_domain.specs.Fits.{Represents, with_domain}
use Rattle.cast_domain.specs.Records.{number_of, is_halted}
use Rattle.cast_domain.specs.Shared.{part_of}
use Rattle.cast_domain.specs.Stepped.{IsStepOf}
use Rattle.cast_domain.proofs.Shares.{others_part}
use Rattle.cast_table.specs.Owns.{is_own}
use Rattle.cast_table.specs.Tables.{domain_eq, IsTurn, Lent, part_in}
use Rattle.cast_table.proofs.Parts.{domain_flipped}
use Rattle.cast_sites.proofs.Tagged.{given_in, given_more, given_other, given_own}

-- what was sent and pushed for a domain, and its part of what is shared, stay
pub record Keeps (q : DomainNo) (before : Lent) (after : Lent) : Type 0 where
  pub frames : given_in q after.outs.frames ≡ given_in q before.outs.frames
  pub pushes : given_in q after.outs.pushed ≡ given_in q before.outs.pushed
  pub part : part_of q after.shared ≡ part_of q before.shared

pub keeps_same : (q : DomainNo) (before after : Lent) → after ≡ before → Keeps q before after
keeps_same q before after same =
    record {
      frames = ap (λ (l : Lent). given_in q l.outs.frames) same;
      pushes = ap (λ (l : Lent). given_in q l.outs.pushed) same;
      part = ap (λ (l : Lent). part_of q l.shared) same;
    }

pub keeps_both : (q : DomainNo) (before between after : Lent) → Keeps q before between → Keeps q between after → Keeps q before after
keeps_both q before between after one two =
    record { frames = two.frames ∙ one.frames; pushes = two.pushes ∙ one.pushes; part = two.part ∙ one.part }

-- a domain that is not halted stands for some history
abbrev pub Stands : Shared → Domain → Type 0
Stands shared x = is_halted x ≡ false → (s : State) × Represents x (part_of (number_of x) shared) s

-- an event takes a history to the one that the domain stands for then, and what the step sends and pushes is added
pub record Stepped (e : Event) (old : Domain) (new : Domain) (before : Lent) (after : Lent) (s : State) : Type 0 where
  pub answer : Taken
  pub end : State
  pub steps : IsStep s e answer end
  pub means : Represents new (part_of (number_of old) after.shared) end
  pub frames : given_in (number_of old) after.outs.frames ≡ given_in (number_of old) before.outs.frames ++ end.frames
  pub pushes : given_in (number_of old) after.outs.pushed ≡ given_in (number_of old) before.outs.pushed ++ end.pushes

-- a domain makes its step, whatever history it stands for
pub record Goes (e : Event) (old : Domain) (new : Domain) (before : Lent) (after : Lent) : Type 0 where
  pub number : number_of new ≡ number_of old
  pub own : is_own (number_of old) e ≡ true
  pub ran : is_halted old ≡ false
  pub leads : (s : State) → Represents old (part_of (number_of old) before.shared) s → Stepped e old new before after s

-- it is halted
pub record Stops (old : Domain) (new : Domain) (before : Lent) (after : Lent) : Type 0 where
  pub number : number_of new ≡ number_of old
  pub stops : is_halted new ≡ true
  pub frames : given_in (number_of old) after.outs.frames ≡ given_in (number_of old) before.outs.frames
  pub pushes : given_in (number_of old) after.outs.pushed ≡ given_in (number_of old) before.outs.pushed

-- it stays as it is
pub record Stays (old : Domain) (new : Domain) (before : Lent) (after : Lent) : Type 0 where
  pub same : new ≡ old
  pub keeps : Keeps (number_of old) before after

-- one of these
abbrev pub Moves : Event → Lent → Lent → Domain → Domain → Type 0
Moves e before after old new = Stays old new before after ⊎ (Stops old new before after ⊎ Goes e old new before after)

pub moved_number : (e : Event) (before after : Lent) (old new : Domain) → Moves e before after old new → number_of new ≡ number_of old
moved_number e before after old new (inl stays) = ap number_of stays.same
moved_number e before after old new (inr (inl stops)) = stops.number
moved_number e before after old new (inr (inr goes)) = goes.number

-- A turn

module _ (e : Event) (old new : Domain) (before after : Lent) where
  -- what a step sends and pushes bears the domain's number
  module _ (s : State) (answer : Taken) (step : IsStepOf s e answer new (part_in after old) before.outs after.outs)
      (number : number_of new ≡ number_of old) where
    step_number : step.end.config.domain ≡ number_of old
    step_number = sym (ap (λ c. c.config.domain) step.means.fits.core) ∙ number

    step_frames : (r : DomainNo) → given_in r after.outs.frames
        ≡ given_in r before.outs.frames ++ given_in r (with_domain (number_of old) step.end.frames)
    step_frames r =
        ap (λ (o : Outs). given_in r o.frames) step.outs
        ∙ given_more r before.outs.frames (with_domain step.end.config.domain step.end.frames)
        ∙ ap (λ d. given_in r before.outs.frames ++ given_in r (with_domain d step.end.frames)) step_number

    step_pushes : (r : DomainNo) → given_in r after.outs.pushed
        ≡ given_in r before.outs.pushed ++ given_in r (with_domain (number_of old) step.end.pushes)
    step_pushes r =
        ap (λ (o : Outs). given_in r o.pushed) step.outs
        ∙ given_more r before.outs.pushed (with_domain step.end.config.domain step.end.pushes)
        ∙ ap (λ d. given_in r before.outs.pushed ++ given_in r (with_domain d step.end.pushes)) step_number

    own_step : Stepped e old new before after s
    own_step =
        record {
          answer = answer;
          end = step.end;
          steps = step.steps;
          means = step.means;
          frames =
              step_frames (number_of old)
              ∙ ap (λ (more : List (SiteNo × SiteFrame)). given_in (number_of old) before.outs.frames ++ more)
              (given_own (number_of old) step.end.frames);
          pushes =
              step_pushes (number_of old)
              ∙ ap (λ (more : List (ℕ × Push)). given_in (number_of old) before.outs.pushed ++ more)
              (given_own (number_of old) step.end.pushes);
        }

  -- others keep what they have
  pub turn_keeps : (a : Result Taken Fault) (r : DomainNo) → Stands before.shared old → domain_eq (number_of old) r ≡ false →
      IsTurn a e old new before after → Keeps r before after
  turn_keeps (Ok t) r stands other turn =
      elim (cases_Bool (is_halted old)) [
        | inl was ↦ keeps_same r before after (turn.refuses was).2
        | inr ran ↦
            let here = stands ran in
            let step = turn.steps ran here.0 here.1 in
            record {
              frames =
                  step_frames here.0 t step turn.number r
                  ∙ ap (λ (more : List (SiteNo × SiteFrame)). given_in r before.outs.frames ++ more)
                  (given_other (number_of old) r step.end.frames other)
                  ∙ append-nil (given_in r before.outs.frames);
              pushes =
                  step_pushes here.0 t step turn.number r
                  ∙ ap (λ (more : List (ℕ × Push)). given_in r before.outs.pushed ++ more)
                  (given_other (number_of old) r step.end.pushes other)
                  ∙ append-nil (given_in r before.outs.pushed);
              part = others_part (number_of old) r before.shared after.shared turn.others (domain_flipped (number_of old) r other);
            }
      ]
  turn_keeps (Err NoMemory) r stands other turn = keeps_same r before after turn.1
  turn_keeps (Err (Halted d)) r stands other turn =
      record {
        frames = ap (λ (o : Outs). given_in r o.frames) turn.1.outs;
        pushes = ap (λ (o : Outs). given_in r o.pushed) turn.1.outs;
        part = others_part (number_of old) r before.shared after.shared turn.1.others (domain_flipped (number_of old) r other);
      }
  turn_keeps (Err NoDomain) r stands other turn = absurd turn

  -- the domain itself
  pub turn_moves : (a : Result Taken Fault) → is_own (number_of old) e ≡ true → IsTurn a e old new before after →
      Moves e before after old new
  turn_moves (Ok t) own turn =
      elim (cases_Bool (is_halted old)) [
        | inl was ↦
            inl (record { same = (turn.refuses was).1; keeps = keeps_same (number_of old) before after (turn.refuses was).2 })
        | inr ran ↦
            inr (inr (record {
              number = turn.number;
              own = own;
              ran = ran;
              leads = λ s means. own_step s t (turn.steps ran s means) turn.number;
            }))
      ]
  turn_moves (Err NoMemory) own turn = inl (record { same = turn.0; keeps = keeps_same (number_of old) before after turn.1 })
  turn_moves (Err (Halted d)) own turn =
      inr (inl (record {
        number = turn.1.number;
        stops = turn.1.stops;
        frames = ap (λ (o : Outs). given_in (number_of old) o.frames) turn.1.outs;
        pushes = ap (λ (o : Outs). given_in (number_of old) o.pushed) turn.1.outs;
      }))
  turn_moves (Err NoDomain) own turn = absurd turn

  -- seen from an earlier moment, and from a later one, where the turns between are others'
  pub moves_within : (first last : Lent) → Keeps (number_of old) first before → Moves e before after old new →
      Keeps (number_of old) after last → Moves e first last old new
  moves_within first last came (inl stays) goes_on =
      inl (record {
        same = stays.same;
        keeps = keeps_both (number_of old) first after last
            (keeps_both (number_of old) first before after came stays.keeps) goes_on;
      })
  moves_within first last came (inr (inl stops)) goes_on =
      inr (inl (record {
        number = stops.number;
        stops = stops.stops;
        frames = goes_on.frames ∙ stops.frames ∙ came.frames;
        pushes = goes_on.pushes ∙ stops.pushes ∙ came.pushes;
      }))
  moves_within first last came (inr (inr goes)) goes_on =
      inr (inr (record {
        number = goes.number;
        own = goes.own;
        ran = goes.ran;
        leads = λ s means.
            let step = goes.leads s (subst (λ p. Represents old p s) (sym came.part) means) in
            record {
              answer = step.answer;
              end = step.end;
              steps = step.steps;
              means = subst (λ p. Represents new p step.end) (sym goes_on.part) step.means;
              frames = goes_on.frames ∙ step.frames ∙ ap (λ front. front ++ step.end.frames) came.frames;
              pushes = goes_on.pushes ∙ step.pushes ∙ ap (λ front. front ++ step.end.pushes) came.pushes;
            };
      }))
