-- A run is one: events say what a domain served alone answers, sends and pushes.
-- They say where it ends, too. A public law.
use Rattle.std.specs.Prelude.{◌≡◌, ℕ, List}
use Rattle.cast_types.specs.declared.names.SiteNo.{SiteNo}
use Rattle.cast_message.specs.declared.site.SiteFrame.{SiteFrame}
use Rattle.cast_message.specs.declared.client.Push.{Push}
use Rattle.cast_events.specs.declared.event.Event.{Event}
use Rattle.cast_events.specs.declared.event.Taken.{Taken}
use Rattle.cast_rules.specs.State.{State}
use Rattle.cast_rules.specs.Run.{IsRun}

-- what a run gives
pub record Outcome : Type 0 where
  pub answers : List Taken
  pub sent : List (SiteNo × SiteFrame)
  pub pushed : List (ℕ × Push)
  pub end : State

abbrev pub RunsAs : State → List Event → Outcome → Type 0
RunsAs s events o = IsRun s events o.answers o.sent o.pushed o.end

-- the same events lead from the same state to the same
abbrev pub RunIsOne : Type 0
RunIsOne =
    (s : State) (events : List Event) (a b : Outcome) → RunsAs s events a
    → RunsAs s events b → a ≡ b
