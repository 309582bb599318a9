-- Steps and whole runs of one domain.
use Rattle.std.specs.Prelude.{◌≡◌, ℕ, ◌==◌, List, [], ◌∷◌, ◌++◌, map, filter}
use Rattle.cast_types.specs.declared.names.SiteNo.{SiteNo}
use Rattle.cast_message.specs.declared.site.SiteFrame.{SiteFrame}
use Rattle.cast_message.specs.declared.client.Push.{Push}
use Rattle.cast_events.specs.declared.config.DomainConfig.{DomainConfig}
use Rattle.cast_events.specs.declared.event.Event.{Event}
use Rattle.cast_events.specs.declared.event.Taken.{Taken}
use Rattle.cast_rules.specs.State.{State, opening}
use Rattle.cast_types.specs.Repeat.{iterate}
use Rattle.cast_rules.specs.Rest.{RestsAt, pass, let_go}
use Rattle.cast_rules.specs.Step.{act_of_event, answer_of_event}

-- before an event nothing of it is sent, delivered or pushed
abbrev pub before_event : State → State
before_event s = record s { frames = []; deliveries = []; pushes = [] }

-- what an event does at once; what is free then is let go
abbrev pub after_event : State → Event → State
after_event s e = let_go (act_of_event (before_event s) e)

-- an event takes s to t, with an answer. The frames sent, the deliveries and the entries pushed
-- stand in t
pub record IsStep (s : State) (e : Event) (answer : Taken) (t : State) : Type 0 where
  pub answers : answer ≡ answer_of_event (before_event s) e
  pub rests : RestsAt (after_event s e) t

-- events take s to t, with an answer to each, with these frames sent, and with these entries pushed
-- to sessions
abbrev pub IsRun : State → List Event → List Taken → List (SiteNo × SiteFrame) → List (ℕ × Push)
    → State → Type 0
IsRun s [] [] sent pushed t = (sent ≡ []) × (pushed ≡ []) × (t ≡ s)
IsRun s [] (a ∷ answers) sent pushed t = ⊥
IsRun s (e ∷ events) [] sent pushed t = ⊥
IsRun s (e ∷ events) (a ∷ answers) sent pushed t =
    (u : State) × (later : List (SiteNo × SiteFrame)) × (more : List (ℕ × Push))
    × IsStep s e a u
    × (sent ≡ u.frames ++ later)
    × (pushed ≡ u.pushes ++ more)
    × IsRun u events answers later more t

-- the entries that were pushed to the session of a serial, in order
abbrev pub entries_for : List (ℕ × Push) → ℕ → List Push
entries_for pushed k = map (λ x. x.1) (filter (λ x. x.0 == k) pushed)

-- The same, computed: each event is followed by so many passes

abbrev pub step_in : ℕ → State → Event → State
step_in n s e = iterate n pass (after_event s e)

-- the answers, the frames, the entries pushed and the last state
pub record Ran : Type 0 where
  pub answers : List Taken
  pub sent : List (SiteNo × SiteFrame)
  pub pushed : List (ℕ × Push)
  pub state : State

abbrev pub ran_on : ℕ → Ran → Event → Ran
ran_on n r e =
    let t : State = step_in n r.state e in
    record {
      answers = r.answers ++ answer_of_event (before_event r.state) e ∷ [];
      sent = r.sent ++ t.frames;
      pushed = r.pushed ++ t.pushes;
      state = t;
    }

abbrev pub run_in : ℕ → Ran → List Event → Ran
run_in n r [] = r
run_in n r (e ∷ events) = run_in n (ran_on n r e) events

abbrev pub run_of : ℕ → SiteNo → DomainConfig → List Event → Ran
run_of n here config events =
    run_in n (record { answers = []; sent = []; pushed = []; state = opening here config }) events
