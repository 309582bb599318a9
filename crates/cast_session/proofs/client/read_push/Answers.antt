use Rattle.cast_session.proofs.ReadingPush.{ends_at_push, ends_at_request, ends_at_fault, ends_before_a_frame}
use Rattle.cast_session.proofs.ReadingPush.{ends_within_a_frame, ends_at_read_fault, ends_at_last_turn}
use Rattle.cast_session.proofs.client.read_push.Goals as goal

pub returns-in-Frame-Push-clause-read : goal.returns-in-Frame-Push-clause-read
returns-in-Frame-Push-clause-read g c =
    rw c.in-Frame-Push.field-0-is (ends_at_push c.loop-turn.invariant.1 (rw c.in-Frame-Push.field-0-is at c.in-Frame-Push.ensures.read))

pub returns-in-Frame-Request-clause-read : goal.returns-in-Frame-Request-clause-read
returns-in-Frame-Request-clause-read g c =
    ends_at_request c.loop-turn.invariant.1 (rw c.in-Frame-Request.field-0-is at c.in-Frame-Request.ensures.read)

pub returns-in-Fault-clause-read : goal.returns-in-Fault-clause-read
returns-in-Fault-clause-read g c = ends_at_fault c.loop-turn.invariant.1 (rw c.in-Fault.is at c.read_more.ensures.read)

pub returns-in-End-clause-read : goal.returns-in-End-clause-read
returns-in-End-clause-read g c =
    ends_before_a_frame c.loop-turn.invariant.1 c.loop-turn.incoming.is_part (rw c.in-End.is at c.read_more.ensures.read)
    (c.is_empty.ensures.0 c.if-is_empty.true)

pub returns-in-End-2-clause-read : goal.returns-in-End-2-clause-read
returns-in-End-2-clause-read g c =
    ends_within_a_frame c.loop-turn.invariant.1 c.loop-turn.incoming.is_part (rw c.in-End-2.is at c.read_more.ensures.read)
    (λ none. let full = c.is_empty.ensures.1 none in let test = c.if-is_empty.false in cc)

pub returns-in-ReadFault-clause-read : goal.returns-in-ReadFault-clause-read
returns-in-ReadFault-clause-read g c =
    ends_at_read_fault c.loop-turn.invariant.1 c.loop-turn.incoming.is_part (rw c.in-ReadFault.is at c.read_more.ensures.read)

pub returns-clause-read : goal.returns-clause-read
returns-clause-read g c = ends_at_last_turn c.loop-turn.invariant.1 c.loop-turn.incoming.is_part
