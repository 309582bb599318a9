-- What a whole step changes whose event is refused, or whose command is.
-- A step is the event and all that follows from it: messages let go, deliveries, set-order
-- messages, flushes, until nothing changes.
use Rattle.std.specs.Prelude.{◌≡◌, ℕ, true, false, List, [], ◌∷◌, Some}
use Rattle.cast_types.specs.declared.names.DomainNo.{DomainNo}
use Rattle.cast_types.specs.declared.names.SiteNo.{SiteNo}
use Rattle.cast_types.specs.declared.refusal.Refusal.{Refusal}
use Rattle.cast_message.specs.Replies.{reply_to}
use Rattle.cast_message.specs.declared.client.Command.TheVariants as command
use Rattle.cast_message.specs.declared.client.Push.{Push}
use Rattle.cast_message.specs.declared.client.Request.{Request}
use Rattle.cast_events.specs.Session.{is_open, pushed_to}
use Rattle.cast_events.specs.declared.config.DomainConfig.{DomainConfig}
use Rattle.cast_events.specs.declared.event.Event.{Event}
use Rattle.cast_events.specs.declared.event.Event.TheVariants as event
use Rattle.cast_events.specs.declared.event.Taken.{Taken}
use Rattle.cast_events.specs.declared.event.Taken.TheVariants.{Nothing, Refused}
use Rattle.cast_rules.specs.Refusing.{attempt}
use Rattle.cast_rules.specs.Run.{IsStep, before_event}
use Rattle.cast_rules.specs.State.{State, is_filled, set_session}
use Rattle.cast_world.specs.Network.{Network, Reaches}
use Rattle.cast_world.specs.declared.step.Step.{Step}

-- a history to which an entry was added that its program was pushed, and nothing else: no frame was
-- sent, and nothing was delivered
abbrev pub with_entry : State → ℕ → Push → State
with_entry s k entry =
    record (set_session s k (pushed_to (s.session k) entry)) {
      frames = [];
      deliveries = [];
      pushes = (k, entry) ∷ [];
    }

-- wherever a list of steps has led, a step whose event is refused leaves the history of its site as
-- it was. It sends nothing, delivers nothing, and pushes nothing
abbrev pub AllRefusedLeave : Type 0
AllRefusedLeave =
    (sites : List SiteNo) (config : SiteNo → DomainConfig) (steps : List Step) (w : Network)
    (s : SiteNo) (e : Event) (refusal : Refusal) (t : State) →
    Reaches sites config steps w → IsStep (w.at s) e (Refused refusal) t →
    t ≡ before_event (w.at s)

-- and a step whose event is a request that is refused, of an open session whose outbox has room,
-- leaves it as it was but for the reply: that is pushed to this session, and nothing else is
abbrev pub AllRefusedReply : Type 0
AllRefusedReply =
    (sites : List SiteNo) (config : SiteNo → DomainConfig) (steps : List Step) (w : Network)
    (s : SiteNo) (d : DomainNo) (k : ℕ) (request : Request) (refusal : Refusal) (answer : Taken)
    (t : State) →
    Reaches sites config steps w →
    is_open ((w.at s).session k) ≡ true → is_filled (w.at s) k ≡ false →
    (attempt (before_event (w.at s)) k request).1 ≡ Some refusal →
    IsStep (w.at s) (event.Command d k (command.Request request)) answer t →
    (answer ≡ Nothing) × (t ≡ with_entry (w.at s) k (reply_to request (Some refusal)))
