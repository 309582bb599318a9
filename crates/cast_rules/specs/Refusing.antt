-- What a refused event leaves, and a refused command: a public law.
use Rattle.std.specs.Prelude.{◌≡◌, ℕ, true, Some}
use Rattle.cast_types.specs.declared.refusal.Refusal.{Refusal}
use Rattle.cast_message.specs.declared.client.Request.{Request}
use Rattle.cast_message.specs.declared.client.Request.TheVariants.{Join, Leave, Cast, Pass}
use Rattle.cast_message.specs.Replies.{reply_to}
use Rattle.cast_events.specs.declared.event.Event.{Event}
use Rattle.cast_events.specs.declared.event.Event.TheVariants as event
use Rattle.cast_message.specs.declared.client.Command.TheVariants as command
use Rattle.cast_events.specs.declared.event.Taken.TheVariants.{Refused}
use Rattle.cast_events.specs.Session.{is_open}
use Rattle.cast_types.specs.declared.names.DomainNo.{DomainNo}
use Rattle.cast_rules.specs.State.{State}
use Rattle.cast_rules.specs.History.{history}
use Rattle.cast_rules.specs.Step.{act_of_event, answer_of_event}
use Rattle.cast_rules.specs.Rules.Commands.{join, leave, cast, pass_token}
use Rattle.cast_rules.specs.Rules.Leaving.{Attempt, tell}

-- what a request leads to before its program is told, and why it is refused, if it is
abbrev pub attempt : State → ℕ → Request → Attempt State
attempt s k (Join tag g) = join history s k g
attempt s k (Leave tag g) = leave history s k g
attempt s k (Cast tag g kind payload) = cast history s k g kind payload
attempt s k (Pass tag g to) = pass_token history s k g to

-- an event that is refused leaves the state as it was
abbrev pub RefusedLeaves : Type 0
RefusedLeaves =
    (s : State) (e : Event) (refusal : Refusal) → answer_of_event s e ≡ Refused refusal →
    act_of_event s e ≡ s

-- and a request that is refused, of an open session, leads to its reply alone, with what a full
-- outbox makes of that
abbrev pub RefusedReplies : Type 0
RefusedReplies =
    (s : State) (d : DomainNo) (k : ℕ) (request : Request) (refusal : Refusal) →
    is_open (s.session k) ≡ true → (attempt s k request).1 ≡ Some refusal →
    act_of_event s (event.Command d k (command.Request request))
    ≡ tell history s k (reply_to request (Some refusal))
