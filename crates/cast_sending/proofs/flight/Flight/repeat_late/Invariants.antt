use Rattle.cast_sending.specs.Flights.{Answers}
use Rattle.cast_sending.proofs.flight.Flight.repeat_late.Given as goal

abbrev pub invariant-loop-turn : goal.invariant-loop-turn
invariant-loop-turn l = Answers l.fn.self l.self l._turn l.fn.outs l.outs
