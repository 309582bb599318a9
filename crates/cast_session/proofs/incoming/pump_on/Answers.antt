use Rattle.cast_session.specs.Ahead.{bytes_of}
use Rattle.cast_session.proofs.Pumping.{begun}
use Rattle.cast_session.proofs.incoming.pump_on.Goals as goal

pub loop-init : goal.loop-init
loop-init g c =
    begun (g.R.Read.remaining c.args.reader.now.device) (g.S.Sink.taken c.args.sink.now) (bytes_of c.new-ahead.result) c.new-ahead.ensures

pub pump_turns-requires : goal.pump_turns-requires
pump_turns-requires g c = record { cut = c.loop.invariant.cut }

pub returns-in-Some-pump_turns-clause-pumped : goal.returns-in-Some-pump_turns-clause-pumped
returns-in-Some-pump_turns-clause-pumped g c = rw c.in-Some-pump_turns.is at (c.pump_turns.ensures.pumped _ _ c.loop.invariant)

pub loop-preserved : goal.loop-preserved
loop-preserved g c = rw c.in_default.is at (c.pump_turns.ensures.pumped _ _ c.loop.invariant)
