use Rattle.cast_session.proofs.Calls.{CalledWell}
use Rattle.cast_session.proofs.ReadingPush.{Awaiting}
use Rattle.cast_session.proofs.client.read_push.Given as goal

abbrev pub invariant-loop-turn : goal.invariant-loop-turn
invariant-loop-turn g l =
    CalledWell l.reader l._turn
    × Awaiting (g.R.Read.remaining l.fn.reader.device) (g.R.Read.remaining l.reader.device) l.incoming.bytes.items
