-- What each domain of a table has given so far, beside what a daemon gives that serves it alone.
-- `HasGiven` says that what the table answered, sent and pushed for a domain is what the daemon
-- would that has this domain alone. An event of another domain changes nothing of this domain's
-- part (`keeps_same`, `kept_given`). An event of its own is one step of both, and what the step
-- sends bears the domain's number (`turn_number`). A domain that is halted gives nothing more.
use Rattle.std.proofs.Common.{◌≡◌, ◌≢◌, ℕ, ◌<◌, true, false, cond, List, [], ◌∷◌, ◌++◌, map, take, length, Option}
use Rattle.std.proofs.Common.{Some, None, is_some, Result, Ok, Err, refl, sym, ap, subst, ◌∙◌, inl, inr, arith}
use Rattle.std.specs.List.{AllZip}
use Rattle.std.proofs.lemmas.Bool.{cases_Bool, eq-eqb, false≢true, and_parts, ne_eqb, or_parts}
use Rattle.std.proofs.lemmas.List.{map-append, append-nil, length-take-le, take-append-le, take_at}
use Rattle.cast_types.specs.declared.names.DomainNo.{DomainNo}
use Rattle.cast_types.specs.declared.names.SiteNo.{SiteNo}
use Rattle.cast_types.specs.Names.{group_cmp}
use Rattle.cast_types.specs.Rising.{is_rising}
use Rattle.cast_message.specs.declared.client.Push.{Push}
use Rattle.cast_message.specs.declared.site.SiteFrame.{SiteFrame}
use Rattle.cast_events.specs.declared.config.DomainConfig.{DomainConfig}
use Rattle.cast_domain.specs.declared.domain.Domain.{Domain}
use Rattle.cast_events.specs.declared.event.Event.{Event}
use Rattle.cast_events.specs.declared.event.Outs.{Outs}
use Rattle.cast_events.specs.declared.event.Taken.{Taken}
use Rattle.cast_domain.specs.declared.shared.Shared.{Shared}
use Rattle.cast_events.specs.Outs.{no_outs}
use Rattle.cast_domain.specs.Records.{number_of, is_halted}
use Rattle.cast_domain.specs.Shared.{Part, part_of, no_part, LeavesOthers}
use Rattle.cast_rules.specs.State.{State, opening}
use Rattle.cast_domain.specs.Fits.{Represents, with_domain}
use Rattle.cast_rules.specs.Run.{IsRun}
use Rattle.cast_domain.specs.Stepped.{IsStepOf}
use Rattle.cast_events.specs.declared.log.Fault.{Fault}
use Rattle.cast_events.specs.declared.log.Fault.TheVariants.{NoMemory, Halted, NoDomain}
use Rattle.cast_events.specs.declared.log.Given.{Given}
use Rattle.cast_table.specs.Tables.{domain_eq, IsNew, IsTurn, Lent, part_in, halted_by}
use Rattle.cast_table.specs.Owns.{is_configured, have_rising_groups, names, is_own}
use Rattle.cast_table.proofs.Parts.{domain_flipped, other_unnamed}
use Rattle.cast_table.proofs.Places.{IsNumbered, none_some, same_some}
use Rattle.cast_isolation.specs.Replays.{Served, IsServed, IsNamedAnswer, is_own_at, own, until}
use Rattle.cast_isolation.specs.Replays.{taken_by, named_answers, frames_of, pushes_of, by_session}
use Rattle.cast_isolation.proofs.Parts.{own_more, named_more, own_one, own_none, named_one, named_none, own_at_within}
use Rattle.cast_isolation.proofs.Parts.{own_at_more, own_at_last, named_front, tagged_more, tagged_own, tagged_other}
use Rattle.cast_isolation.proofs.Later.{IsLater, configs_of, later_same, later_halted, number_halted}
use Rattle.cast_isolation.proofs.Runs.{run_more, run_length}

-- what a domain gave, where this was sent and pushed
abbrev pub given_with : List (SiteNo × SiteFrame) → List (ℕ × Push) → Domain → Given
given_with sent pushed d =
    record { domain = number_of d; pushes = by_session pushed; sent = sent; halted = is_halted d }

-- a domain was served so, and where it was not halted, it stands for where its run alone led
pub record HasServed (here : SiteNo) (events : List Event) (answers : List (Result Taken Fault)) (sent : List (SiteNo × SiteFrame))
    (pushed : List (ℕ × Push)) (part : Part) (s : Served) (d : Domain) : Type 0 where
  pub served : IsServed here events answers s (given_with sent pushed d)
  pub told : served.pushed ≡ pushed
  pub means : s.halt ≡ None → Represents d part served.end

-- the same with what is lent
abbrev pub HasGiven : SiteNo → List Event → List (Result Taken Fault) → Lent → Served → Domain → Type 0
HasGiven here events answers l s d =
    HasServed here events answers (frames_of s.config.domain l.outs.frames) (pushes_of s.config.domain l.outs.pushed)
    (part_of s.config.domain l.shared) s d

not_there : (o : Option ℕ) → is_some o ≡ false → o ≡ None
not_there None none = refl
not_there (Some n) none = absurd (false≢true (sym none))

-- what is sent and pushed for a domain, and its part of what is shared, stay
pub record Keeps (q : DomainNo) (before : Lent) (after : Lent) : Type 0 where
  pub frames : frames_of q after.outs.frames ≡ frames_of q before.outs.frames
  pub pushes : pushes_of q after.outs.pushed ≡ pushes_of q before.outs.pushed
  pub part : part_of q after.shared ≡ part_of q before.shared

pub keeps_same : (q : DomainNo) (before after : Lent) → after ≡ before → Keeps q before after
keeps_same q before after same =
    record {
      frames = ap (λ (l : Lent). frames_of q l.outs.frames) same;
      pushes = ap (λ (l : Lent). pushes_of q l.outs.pushed) same;
      part = ap (λ (l : Lent). part_of q l.shared) same;
    }

pub keeps_both : (q : DomainNo) (before between after : Lent) → Keeps q before between → Keeps q between after → Keeps q before after
keeps_both q before between after one two =
    record { frames = two.frames ∙ one.frames; pushes = two.pushes ∙ one.pushes; part = two.part ∙ one.part }

-- Before the first event

new_given : (here : SiteNo) (c : DomainConfig) (d : Domain) (l : Lent) → l.outs ≡ no_outs →
    ((q : DomainNo) → part_of q l.shared ≡ no_part) → is_rising group_cmp c.groups ≡ true → IsNew here c d →
    HasGiven here [] [] l (record { config = c; halt = None }) d
new_given here c d l none unshared rising new =
    let means : Represents d (part_of c.domain l.shared) (opening here c) =
    subst (λ p. Represents d p (opening here c)) (sym (unshared c.domain)) (new.begins rising) in
    record {
      served =
          record {
            domain = new.number;
            shown = new.running;
            halted = λ place wrong. absurd (none_some place wrong);
            taken = [];
            pushed = pushes_of c.domain l.outs.pushed;
            end = opening here c;
            answered = refl;
            runs = (
              ap (λ (o : Outs). frames_of c.domain o.frames) none,
              ap (λ (o : Outs). pushes_of c.domain o.pushed) none,
              refl,
            );
            pushes = refl;
          };
      told = refl;
      means = λ _. means;
    }

-- What others do

-- what is kept of what is lent is all that is known of it
pub kept_given : (here : SiteNo) (events : List Event) (answers : List (Result Taken Fault)) (before after : Lent) (s : Served)
    (d : Domain) → Keeps s.config.domain before after → HasGiven here events answers before s d → HasGiven here events answers after s d
kept_given here events answers before after s d kept so_far =
    let q : DomainNo = s.config.domain in
    subst (λ part. HasServed here events answers (frames_of q after.outs.frames) (pushes_of q after.outs.pushed) part s d) (sym kept.part)
    (subst (λ pushed. HasServed here events answers (frames_of q after.outs.frames) pushed (part_of q before.shared) s d) (sym kept.pushes)
    (subst (λ sent. HasServed here events answers sent (pushes_of q before.outs.pushed) (part_of q before.shared) s d)
    (sym kept.frames) so_far))

-- the parts of others stay
part_kept : (d q : DomainNo) (old new : Shared) → domain_eq d q ≡ false → LeavesOthers d old new → part_of q new ≡ part_of q old
part_kept d q old new differ others =
    let other : domain_eq q d ≡ false = domain_flipped d q differ in
    let here : (s : Shared) → cond (domain_eq q d) no_part (part_of q s) ≡ part_of q s =
    λ s. ap (λ b. cond b no_part (part_of q s)) other in
    sym (here new) ∙ ap (λ (rest : DomainNo → Part). rest q) others ∙ here old

-- One more event, of which the domain does not know

module _ (here : SiteNo) (events : List Event) (answers : List (Result Taken Fault)) (e : Event) (a : Result Taken Fault)
    (long : length events ≡ length answers) (sent : List (SiteNo × SiteFrame)) (pushed : List (ℕ × Push)) (part : Part) (d : Domain) where
  -- the events before the halt and their answers are the same
  carried : (s : Served) → taken_by s (events ++ e ∷ []) ≡ taken_by s events → named_answers s.config.domain
      (until s.halt (events ++ e ∷ [])) (answers ++ a ∷ []) ≡ named_answers s.config.domain (until s.halt events) answers →
      HasServed here events answers sent pushed part s d → HasServed here (events ++ e ∷ []) (answers ++ a ∷ []) sent pushed part s d
  carried s events_same answers_same so_far =
      let was = so_far.served in
      record {
        served =
            record {
              domain = was.domain;
              shown = was.shown;
              halted = λ place at. own_at_more s.config.domain events (e ∷ []) place (was.halted place at);
              taken = was.taken;
              pushed = was.pushed;
              end = was.end;
              answered = answers_same ∙ was.answered ∙ sym (ap (λ es. map Ok (named_answers s.config.domain es was.taken)) events_same);
              runs = subst (λ es. IsRun (opening here s.config) es was.taken sent was.pushed was.end) (sym events_same) was.runs;
              pushes = was.pushes;
            };
        told = so_far.told;
        means = so_far.means;
      }

  -- behind its halt
  behind_halt : (c : DomainConfig) (n : ℕ) → HasServed here events answers sent pushed part (record { config = c; halt = Some n }) d →
      HasServed here (events ++ e ∷ []) (answers ++ a ∷ []) sent pushed part (record { config = c; halt = Some n }) d
  behind_halt c n so_far =
      let within : n < length events = own_at_within c.domain events n (so_far.served.halted n refl) in
      let front : take n (events ++ e ∷ []) ≡ take n events = take-append-le n events (e ∷ []) (omega arith) in
      let few = length-take-le n events (omega arith) in
      carried (record { config = c; halt = Some n }) (ap (own c.domain) front)
      (ap (λ es. named_answers c.domain es (answers ++ a ∷ [])) front ∙ named_front c.domain (take n events) answers (a ∷ []) (omega arith))
      so_far

  -- the event is not the domain's own
  pub other_event : (c : DomainConfig) (halt : Option ℕ) → is_own c.domain e ≡ false →
      HasServed here events answers sent pushed part (record { config = c; halt = halt }) d →
      HasServed here (events ++ e ∷ []) (answers ++ a ∷ []) sent pushed part (record { config = c; halt = halt }) d
  other_event c None other so_far =
      carried (record { config = c; halt = None })
      (own_more c.domain events e ∙ ap (λ more. own c.domain events ++ more) (own_none c.domain e other) ∙ append-nil (own c.domain events))
      (named_more c.domain events answers e a long
      ∙ ap (λ more. named_answers c.domain events answers ++ more) (named_none c.domain e a (other_unnamed c.domain e other))
      ∙ append-nil (named_answers c.domain events answers))
      so_far
  other_event c (Some n) other so_far = behind_halt c n so_far

-- A turn of the domain

pub turn_number : (b : Result Taken Fault) (e : Event) (old new : Domain) (before after : Lent) → IsTurn b e old new before after →
    number_of new ≡ number_of old
turn_number (Ok t) e old new before after turn = turn.number
turn_number (Err NoMemory) e old new before after turn = ap number_of turn.0
turn_number (Err (Halted d)) e old new before after turn = turn.1.number
turn_number (Err NoDomain) e old new before after turn = absurd turn

module _ (here : SiteNo) (events : List Event) (answers : List (Result Taken Fault)) (e : Event) (s : Served) (old new : Domain)
    (before after : Lent) (so_far : HasGiven here events answers before s old) where
  -- the domain's part by the name that it is configured under
  own_means : (t : State) → Represents old (part_of s.config.domain before.shared) t → Represents old (part_in before old) t
  own_means t means = subst (λ (n : DomainNo). Represents old (part_of n before.shared) t) (sym so_far.served.domain) means

  -- what a step sends and pushes bears the domain's number
  step_number : (t : State) (taken : Taken) (step : IsStepOf t e taken new (part_in after old) before.outs after.outs) →
      number_of new ≡ number_of old → step.end.config.domain ≡ s.config.domain
  step_number t taken step number = sym (ap (λ c. c.config.domain) step.means.fits.core) ∙ number ∙ so_far.served.domain

  step_frames : (t : State) (taken : Taken) (step : IsStepOf t e taken new (part_in after old) before.outs after.outs) (r : DomainNo) →
      number_of new ≡ number_of old →
      frames_of r after.outs.frames ≡ frames_of r before.outs.frames ++ frames_of r (with_domain s.config.domain step.end.frames)
  step_frames t taken step r number =
      ap (λ (o : Outs). frames_of r o.frames) step.outs
      ∙ tagged_more r before.outs.frames (with_domain step.end.config.domain step.end.frames)
      ∙ ap (λ d. frames_of r before.outs.frames ++ frames_of r (with_domain d step.end.frames)) (step_number t taken step number)

  step_pushes : (t : State) (taken : Taken) (step : IsStepOf t e taken new (part_in after old) before.outs after.outs) (r : DomainNo) →
      number_of new ≡ number_of old →
      pushes_of r after.outs.pushed ≡ pushes_of r before.outs.pushed ++ pushes_of r (with_domain s.config.domain step.end.pushes)
  step_pushes t taken step r number =
      ap (λ (o : Outs). pushes_of r o.pushed) step.outs
      ∙ tagged_more r before.outs.pushed (with_domain step.end.config.domain step.end.pushes)
      ∙ ap (λ d. pushes_of r before.outs.pushed ++ pushes_of r (with_domain d step.end.pushes)) (step_number t taken step number)

  -- what others have stays
  pub turn_keeps : (b : Result Taken Fault) → IsTurn b e old new before after → (r : DomainNo) → domain_eq s.config.domain r ≡ false →
      Keeps r before after
  turn_keeps (Ok t) turn r other =
      let differ : domain_eq (number_of old) r ≡ false = ap (λ n. domain_eq n r) so_far.served.domain ∙ other in
      elim (cases_Bool (is_halted old)) [
        | inl was ↦ keeps_same r before after (turn.refuses was).2
        | inr ran ↦
            let means = so_far.means (not_there s.halt (sym so_far.served.shown ∙ ran)) in
            let step = turn.steps ran so_far.served.end (own_means so_far.served.end means) in
            record {
              frames =
                  step_frames so_far.served.end t step r turn.number
                  ∙ ap (λ more. frames_of r before.outs.frames ++ more) (tagged_other s.config.domain r step.end.frames other)
                  ∙ append-nil (frames_of r before.outs.frames);
              pushes =
                  step_pushes so_far.served.end t step r turn.number
                  ∙ ap (λ more. pushes_of r before.outs.pushed ++ more) (tagged_other s.config.domain r step.end.pushes other)
                  ∙ append-nil (pushes_of r before.outs.pushed);
              part = part_kept (number_of old) r before.shared after.shared differ turn.others;
            }
      ]
  turn_keeps (Err NoMemory) turn r other = keeps_same r before after turn.1
  turn_keeps (Err (Halted d)) turn r other =
      let differ : domain_eq (number_of old) r ≡ false = ap (λ n. domain_eq n r) so_far.served.domain ∙ other in
      record {
        frames = ap (λ (o : Outs). frames_of r o.frames) turn.1.outs;
        pushes = ap (λ (o : Outs). pushes_of r o.pushed) turn.1.outs;
        part = part_kept (number_of old) r before.shared after.shared differ turn.1.others;
      }
  turn_keeps (Err NoDomain) turn r other = absurd turn

-- the answers so far and the next, to an event that names the domain, and to a tick
module _ (d : DomainNo) (events : List Event) (answers : List (Result Taken Fault)) (e : Event) (a : Result Taken Fault)
    (long : length events ≡ length answers) (taken : List Taken) (t : Taken) (alike : length (own d events) ≡ length taken)
    (its : is_own d e ≡ true) where
  answered_more : (names d e ≡ true → a ≡ Ok t) → named_answers d events answers ≡ map Ok (named_answers d (own d events) taken) →
      named_answers d (events ++ e ∷ []) (answers ++ a ∷ []) ≡ map Ok (named_answers d (own d (events ++ e ∷ [])) (taken ++ t ∷ []))
  answered_more answer was =
      let next : named_answers d (e ∷ []) (a ∷ []) ≡ map Ok (named_answers d (e ∷ []) (t ∷ [])) =
      elim (cases_Bool (names d e)) [
        | inl named ↦ named_one d e a named ∙ ap (λ x. x ∷ []) (answer named) ∙ sym (ap (map Ok) (named_one d e t named))
        | inr unnamed ↦ named_none d e a unnamed ∙ sym (ap (map Ok) (named_none d e t unnamed))
      ] in
      let one : own d (events ++ e ∷ []) ≡ own d events ++ e ∷ [] =
      own_more d events e ∙ ap (λ more. own d events ++ more) (own_one d e its) in
      named_more d events answers e a long
      ∙ ap (λ front. front ++ named_answers d (e ∷ []) (a ∷ [])) was
      ∙ ap (λ back. map Ok (named_answers d (own d events) taken) ++ back) next
      ∙ sym (map-append Ok (named_answers d (own d events) taken) (named_answers d (e ∷ []) (t ∷ [])))
      ∙ sym (ap (map Ok) (named_more d (own d events) taken e t alike))
      ∙ sym (ap (λ es. map Ok (named_answers d es (taken ++ t ∷ []))) one)

-- where a domain was halted, after it answered so in its turn
abbrev pub halt_after : ℕ → Option ℕ → Result Taken Fault → Option ℕ
halt_after place halt (Ok t) = halt
halt_after place halt (Err NoMemory) = halt
halt_after place halt (Err (Halted d)) = Some place
halt_after place halt (Err NoDomain) = halt

-- all that is known of a domain after its turn
pub record HasTurned (here : SiteNo) (events : List Event) (answers : List (Result Taken Fault)) (place : ℕ) (after : Lent)
    (b : Result Taken Fault) (was : Served) (now : Served) (d : Domain) : Type 0 where
  pub given : HasGiven here events answers after now d
  pub later : IsLater place was now
  pub halts : number_halted place now ≡ halted_by b
  pub says : IsNamedAnswer place now.config.domain now.halt b

module _ (here : SiteNo) (events : List Event) (answers : List (Result Taken Fault)) (e : Event) (a : Result Taken Fault)
    (long : length events ≡ length answers) (c : DomainConfig) (old new : Domain) (before after : Lent)
    (its : is_own c.domain e ≡ true) where
  abbrev running : Served
  running = record { config = c; halt = None }

  abbrev halted : ℕ → Served
  halted n = record { config = c; halt = Some n }

  -- the step of a domain that runs
  steps : (t : Taken) → (names c.domain e ≡ true → a ≡ Ok t) → IsTurn (Ok t) e old new before after →
      HasGiven here events answers before running old → HasGiven here (events ++ e ∷ []) (answers ++ a ∷ []) after running new
  steps t answer turn so_far =
      let was = so_far.served in
      let step =
      turn.steps was.shown was.end (own_means here events answers e running old new before after so_far was.end (so_far.means refl)) in
      let frames : frames_of c.domain after.outs.frames ≡ frames_of c.domain before.outs.frames ++ step.end.frames =
      step_frames here events answers e running old new before after so_far was.end t step c.domain turn.number
      ∙ ap (λ more. frames_of c.domain before.outs.frames ++ more) (tagged_own c.domain step.end.frames) in
      let pushes : pushes_of c.domain after.outs.pushed ≡ was.pushed ++ step.end.pushes =
      step_pushes here events answers e running old new before after so_far was.end t step c.domain turn.number
      ∙ (λ i. sym so_far.told i ++ tagged_own c.domain step.end.pushes i) in
      let one : own c.domain events ++ e ∷ [] ≡ own c.domain (events ++ e ∷ []) =
      sym (own_more c.domain events e ∙ ap (λ more. own c.domain events ++ more) (own_one c.domain e its)) in
      let alike =
      run_length (opening here c) (own c.domain events) was.taken (frames_of c.domain before.outs.frames) was.pushed was.end was.runs in
      let means : Represents new (part_of c.domain after.shared) step.end =
      subst (λ (n : DomainNo). Represents new (part_of n after.shared) step.end) was.domain step.means in
      record {
        served =
            record {
              domain = turn.number ∙ was.domain;
              shown = turn.halted ∙ was.shown;
              halted = λ place wrong. absurd (none_some place wrong);
              taken = was.taken ++ t ∷ [];
              pushed = pushes_of c.domain after.outs.pushed;
              end = step.end;
              answered = answered_more c.domain events answers e a long was.taken t alike its answer was.answered;
              runs =
                  subst (λ es. IsRun (opening here c) es (was.taken ++ t ∷ []) (frames_of c.domain after.outs.frames)
                  (pushes_of c.domain after.outs.pushed) step.end) one
                  (subst (λ pushed. IsRun (opening here c) (own c.domain events ++ e ∷ []) (was.taken ++ t ∷ [])
                  (frames_of c.domain after.outs.frames) pushed step.end) (sym pushes)
                  (subst (λ sent. IsRun (opening here c) (own c.domain events ++ e ∷ []) (was.taken ++ t ∷ [])
                  sent (was.pushed ++ step.end.pushes) step.end) (sym frames)
                  (run_more (opening here c) (own c.domain events) was.taken (frames_of c.domain before.outs.frames)
                  was.pushed was.end e t step.end was.runs step.steps)));
              pushes = refl;
            };
        told = refl;
        means = λ _. means;
      }

  -- a domain that runs finds no memory
  stops : (d : DomainNo) → IsTurn (Err (Halted d)) e old new before after → HasGiven here events answers before running old →
      HasGiven here (events ++ e ∷ []) (answers ++ a ∷ []) after (halted (length events)) new
  stops d turn so_far =
      let was = so_far.served in
      let front : take (length events) (events ++ e ∷ []) ≡ events = take_at events (e ∷ []) (length events) refl in
      let frames : frames_of c.domain before.outs.frames ≡ frames_of c.domain after.outs.frames =
      sym (ap (λ (o : Outs). frames_of c.domain o.frames) turn.1.outs) in
      let told : was.pushed ≡ pushes_of c.domain after.outs.pushed =
      so_far.told ∙ sym (ap (λ (o : Outs). pushes_of c.domain o.pushed) turn.1.outs) in
      record {
        served =
            record {
              domain = turn.1.number ∙ was.domain;
              shown = turn.1.stops;
              halted = λ place at.
                  subst (λ n. is_own_at c.domain (events ++ e ∷ []) n ≡ true) (same_some (length events) place at)
                  (own_at_last c.domain events e its);
              taken = was.taken;
              pushed = was.pushed;
              end = was.end;
              answered =
                  ap (λ es. named_answers c.domain es (answers ++ a ∷ [])) front
                  ∙ named_front c.domain events answers (a ∷ []) (omega arith)
                  ∙ was.answered
                  ∙ sym (ap (λ es. map Ok (named_answers c.domain (own c.domain es) was.taken)) front);
              runs =
                  subst (λ es. IsRun (opening here c) (own c.domain es) was.taken (frames_of c.domain after.outs.frames) was.pushed was.end)
                  (sym front)
                  (subst (λ sent. IsRun (opening here c) (own c.domain events) was.taken sent was.pushed was.end) frames was.runs);
              pushes = ap by_session (sym told);
            };
        told = told;
        means = λ wrong. absurd (none_some (length events) (sym wrong));
      }

  -- a domain that is halted refuses
  refuses : (n : ℕ) (t : Taken) → IsTurn (Ok t) e old new before after → HasGiven here events answers before (halted n) old →
      HasGiven here (events ++ e ∷ []) (answers ++ a ∷ []) after (halted n) new
  refuses n t turn so_far =
      let left = turn.refuses so_far.served.shown in
      let more =
      behind_halt here events answers e a long (frames_of c.domain before.outs.frames) (pushes_of c.domain before.outs.pushed)
      (part_of c.domain before.shared) old c n so_far in
      subst (λ l. HasGiven here (events ++ e ∷ []) (answers ++ a ∷ []) l (halted n) new) (sym left.2)
      (subst (HasGiven here (events ++ e ∷ []) (answers ++ a ∷ []) before (halted n)) (sym left.1) more)

  pub own_turn : (halt : Option ℕ) (b : Result Taken Fault) → b ≢ Err NoMemory → (names c.domain e ≡ true → a ≡ b) →
      IsTurn b e old new before after →
      HasGiven here events answers before (record { config = c; halt = halt }) old → HasTurned here (events ++ e ∷ []) (answers ++ a ∷ [])
      (length events) after b (record { config = c; halt = halt }) (record { config = c; halt = halt_after (length events) halt b }) new
  own_turn None (Ok t) begun answer turn so_far =
      record {
        given = steps t answer turn so_far;
        later = later_same (length events) running;
        halts = refl;
        says = tt;
      }
  own_turn (Some n) (Ok t) begun answer turn so_far =
      let within : n < length events = own_at_within c.domain events n (so_far.served.halted n refl) in
      record {
        given = refuses n t turn so_far;
        later = later_same (length events) (halted n);
        halts = ap (λ b. cond b (c.domain ∷ []) []) (ne_eqb n (length events) (λ same. absurd (omega arith)));
        says = (λ at. absurd (omega arith), λ behind i. Ok ((turn.refuses so_far.served.shown).0 i));
      }
  own_turn None (Err (Halted d)) begun answer turn so_far =
      let number : c.domain ≡ d = sym (turn.0 ∙ so_far.served.domain) in
      record {
        given = stops d turn so_far;
        later = later_halted (length events) c;
        halts = ap (λ b. cond b (c.domain ∷ []) []) (eq-eqb (length events) (length events) refl) ∙ (λ i. number i ∷ []);
        says = (λ at i. Err (Halted (sym number i)), λ behind. absurd (omega arith));
      }
  own_turn (Some n) (Err (Halted d)) begun answer turn so_far =
      absurd (false≢true (sym turn.1.ran ∙ so_far.served.shown))
  own_turn halt (Err NoMemory) begun answer turn so_far = absurd (begun refl)
  own_turn halt (Err NoDomain) begun answer turn so_far = absurd turn

-- All domains

-- none was halted yet
abbrev pub unhalted : List DomainConfig → List Served
unhalted cs = map (λ c. record { config = c; halt = None }) cs

module _ (here : SiteNo) (l : Lent) (none : l.outs ≡ no_outs) (unshared : (q : DomainNo) → part_of q l.shared ≡ no_part) where
  pub all_new_given : (cs : List DomainConfig) (ds : List Domain) → have_rising_groups cs ≡ true → AllZip (IsNew here) cs ds →
      AllZip (HasGiven here [] [] l) (unhalted cs) ds
  all_new_given [] [] rising new = new
  all_new_given [] (d ∷ ds) rising new = absurd new
  all_new_given (c ∷ cs) [] rising new = absurd new
  all_new_given (c ∷ cs) (d ∷ ds) rising new =
      let parts = and_parts (is_rising group_cmp c.groups) (have_rising_groups cs) rising in
      (new_given here c d l none unshared parts.0 new.0, all_new_given cs ds parts.1 new.1)

pub unhalted_configs : (cs : List DomainConfig) → configs_of (unhalted cs) ≡ cs
unhalted_configs [] = refl
unhalted_configs (c ∷ cs) = ap (λ rest. c ∷ rest) (unhalted_configs cs)

module _ (here : SiteNo) (events : List Event) (answers : List (Result Taken Fault)) where
  pub all_numbered : (l : Lent) (served : List Served) (ds : List Domain) → AllZip (HasGiven here events answers l) served ds →
      AllZip IsNumbered (configs_of served) ds
  all_numbered l [] [] so_far = so_far
  all_numbered l [] (d ∷ ds) so_far = absurd so_far
  all_numbered l (s ∷ served) [] so_far = absurd so_far
  all_numbered l (s ∷ served) (d ∷ ds) so_far = (so_far.0.served.domain, all_numbered l served ds so_far.1)

  -- every domain but the one of this number
  pub all_kept : (before after : Lent) (n : DomainNo) → ((q : DomainNo) → domain_eq n q ≡ false → Keeps q before after) →
      (served : List Served) (ds : List Domain) → is_configured n (configs_of served) ≡ false →
      AllZip (HasGiven here events answers before) served ds → AllZip (HasGiven here events answers after) served ds
  all_kept before after n kept [] [] none so_far = so_far
  all_kept before after n kept [] (d ∷ ds) none so_far = absurd so_far
  all_kept before after n kept (s ∷ served) [] none so_far = absurd so_far
  all_kept before after n kept (s ∷ served) (d ∷ ds) none so_far =
      let parts = or_parts (domain_eq s.config.domain n) (is_configured n (configs_of served)) none in (
        kept_given here events answers before after s d (kept s.config.domain (domain_flipped s.config.domain n parts.0)) so_far.0,
        all_kept before after n kept served ds parts.1 so_far.1,
      )
