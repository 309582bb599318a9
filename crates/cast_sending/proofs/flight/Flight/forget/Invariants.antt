use Rattle.cast_sending.specs.Flights.{Repeats}
use Rattle.std.proofs.Common.{[]}
use Rattle.cast_sending.proofs.flight.Flight.forget.Given as goal

abbrev pub invariant-loop-turn : goal.invariant-loop-turn
invariant-loop-turn l = Repeats l.fn.self l.self []

abbrev pub invariant-loop-turn-2 : goal.invariant-loop-turn-2
invariant-loop-turn-2 l = Repeats l.fn.self l.self []
