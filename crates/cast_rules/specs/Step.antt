-- What each event does to a history before it comes to rest, and what it is answered.
-- These are the rules of events for a history.
use Rattle.std.specs.Prelude.{ℕ, ◌+◌}
use Rattle.cast_message.specs.declared.client.Push.TheVariants as push
use Rattle.cast_events.specs.Session.{first_session, first_entries}
use Rattle.cast_events.specs.declared.event.Event.{Event}
use Rattle.cast_events.specs.declared.event.Taken.{Taken}
use Rattle.cast_rules.specs.State.{State, local, with_push, sessions, taking, setting_quota}
use Rattle.cast_rules.specs.History.{history}
use Rattle.cast_rules.specs.Rules.Interface.{Sessions}
use Rattle.cast_rules.specs.Rules.Events as rules

-- the next serial is given, and its session is open
abbrev pub opening_next : State → State
opening_next s =
    let k : ℕ = s.used + 1 in
    with_push (record s { used = k }) k (first_session (local s k)) (push.Opened (local s k))

abbrev pub sessions_given : Sessions State
sessions_given = record {
  used = λ s. s.used;
  count = sessions;
  open_next = opening_next;
  entries = λ s k most. first_entries most (s.session k);
  take = taking;
  set_quota = setting_quota;
}

abbrev pub act_of_event : State → Event → State
act_of_event = rules.on_event history sessions_given

abbrev pub answer_of_event : State → Event → Taken
answer_of_event = rules.answer_to_event history sessions_given
