use Rattle.cast_session.specs.Ahead.{bytes_of}
use Rattle.cast_session.proofs.Pumping.{no_bytes_are_cut, begun, ends_at_last_turn}
use Rattle.cast_session.proofs.incoming.pump_in.Goals as goal

pub pump_turns-requires : goal.pump_turns-requires
pump_turns-requires g c = record { cut = no_bytes_are_cut (bytes_of c.new-ahead.result) c.new-ahead.ensures }

pub returns-in-Some-clause-pumped : goal.returns-in-Some-clause-pumped
returns-in-Some-clause-pumped g c =
    let start =
    begun (g.R.Read.remaining c.args.reader.now.device) (g.S.Sink.taken c.args.sink.now) (bytes_of c.new-ahead.result)
    c.new-ahead.ensures in
    rw c.in-Some.is at (c.pump_turns.ensures.pumped _ _ start)

pub returns-clause-pumped : goal.returns-clause-pumped
returns-clause-pumped g c =
    let start =
    begun (g.R.Read.remaining c.args.reader.now.device) (g.S.Sink.taken c.args.sink.now) (bytes_of c.new-ahead.result)
    c.new-ahead.ensures in
    ends_at_last_turn (rw c.in-None.is at (c.pump_turns.ensures.pumped _ _ start))
