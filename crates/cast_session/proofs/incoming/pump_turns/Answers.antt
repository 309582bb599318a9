use Rattle.cast_session.specs.Ahead.{bytes_of}
use Rattle.cast_session.proofs.Calls.{called_again}
use Rattle.cast_session.proofs.Pumping.{cut_fits, with_room, went_on, ends_in_them, ends_at_end}
use Rattle.cast_session.proofs.Pumping.{ends_at_read_fault, ends_without_room, granted}
use Rattle.cast_session.proofs.incoming.pump_turns.Goals as goal

pub loop-turn-init : goal.loop-turn-init
loop-turn-init g c = (
  record { made = c.begin.ensures.calls; well = c.begin.ensures.failed },
  c.requires.cut,
  λ before old start. rw c.begin.ensures.device start,
)

pub make_room-requires : goal.make_room-requires
make_room-requires g c = cut_fits (bytes_of c.loop-turn.ahead) c.loop-turn.invariant.1

pub returns-then-is_err-clause-pumped : goal.returns-then-is_err-clause-pumped
returns-then-is_err-clause-pumped g c = λ before old start. ends_without_room (c.loop-turn.invariant.2 before old start)

pub fill-requires-clause-room : goal.fill-requires-clause-room
fill-requires-clause-room g c = granted c.make_room.result c.if-is_err.ensures.value c.make_room.ensures.ok

pub returns-in-End-clause-pumped : goal.returns-in-End-clause-pumped
returns-in-End-clause-pumped g c = λ before old start.
    let pumping = with_room (bytes_of c.make_room.new.self) (c.loop-turn.invariant.2 before old start) c.make_room.ensures.same in
    ends_at_end pumping (rw c.in-End.is at c.fill.ensures.filled)

pub returns-in-ReadFault-clause-pumped : goal.returns-in-ReadFault-clause-pumped
returns-in-ReadFault-clause-pumped g c = λ before old start.
    let pumping = with_room (bytes_of c.make_room.new.self) (c.loop-turn.invariant.2 before old start) c.make_room.ensures.same in
    ends_at_read_fault pumping (rw c.in-ReadFault.is at c.fill.ensures.filled)

pub returns-in-Err-clause-pumped : goal.returns-in-Err-clause-pumped
returns-in-Err-clause-pumped g c = λ before old start.
    let pumping = with_room (bytes_of c.make_room.new.self) (c.loop-turn.invariant.2 before old start) c.make_room.ensures.same in
    ends_in_them (g.S.Sink.taken c.hand_on.new.sink) c.in-Err.end pumping c.fill.ensures.filled (rw c.bytes.ensures at c.in-Err.ensures)

pub loop-turn-preserved : goal.loop-turn-preserved
loop-turn-preserved g c =
    let hands = rw c.bytes.ensures at c.in-Ok.ensures in (
      called_again c.loop-turn.invariant.0 c.fill.ensures.calls c.fill.ensures.failed (λ failed. let is = c.in-More.is in cc),
      rw c.drop_front.ensures hands.2,
      λ before old start.
          let pumping = with_room (bytes_of c.make_room.new.self) (c.loop-turn.invariant.2 before old start) c.make_room.ensures.same in
          went_on (g.S.Sink.taken c.hand_on.new.sink) c.in-Ok.count (bytes_of c.drop_front.new.self)
          pumping c.fill.ensures.filled hands c.drop_front.ensures,
    )

pub returns-clause-pumped : goal.returns-clause-pumped
returns-clause-pumped g c = c.loop-turn.invariant.2
