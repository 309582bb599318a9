use Rattle.std.proofs.Common.{None}
use Rattle.cast_session.specs.Ahead.{bytes_of}
use Rattle.cast_session.specs.Incoming.{GoesOn}
use Rattle.cast_session.specs.Pushes.{IsCut}
use Rattle.cast_session.proofs.Calls.{CalledWell}
use Rattle.cast_session.proofs.incoming.pump_turns.Given as goal

abbrev pub invariant-loop-turn : goal.invariant-loop-turn
invariant-loop-turn g l =
    CalledWell l.reader l._turn
    × IsCut (bytes_of l.ahead)
    × GoesOn (g.R.Read.remaining l.fn.reader.device) (g.R.Read.remaining l.reader.device) (g.S.Sink.taken l.fn.sink) (g.S.Sink.taken l.sink)
    (bytes_of l.fn.ahead) (bytes_of l.ahead) None
