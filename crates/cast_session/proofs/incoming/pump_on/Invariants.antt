use Rattle.cast_session.specs.Ahead.{bytes_of}
use Rattle.cast_session.specs.Incoming.{Pumping}
use Rattle.cast_session.proofs.incoming.pump_on.Given as goal

abbrev pub invariant-loop : goal.invariant-loop
invariant-loop g l =
    Pumping (g.R.Read.remaining l.fn.reader.device) (g.R.Read.remaining l.reader.device) (g.S.Sink.taken l.fn.sink) (g.S.Sink.taken l.sink)
    (bytes_of l.ahead)
