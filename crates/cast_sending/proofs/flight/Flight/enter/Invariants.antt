use Rattle.std.proofs.Common.{◌≤◌, length}
use Rattle.cast_sending.specs.Flights.{Enters}
use Rattle.cast_sending.proofs.Parts.{flying}
use Rattle.cast_sending.proofs.flight.Flight.enter.Given as goal

abbrev pub invariant-loop-turn : goal.invariant-loop-turn
invariant-loop-turn l = record {
  sent : length l.self-inside.sent.items ≤ 1024;
  early : length l.self-inside.early.items ≤ 1024;
  entered : Enters l.fn.self
      (flying l.self-inside.domain l.self-inside.site l.self-inside.sent.items l.self-inside.early.items);
}

abbrev pub invariant-loop-turn-2 : goal.invariant-loop-turn-2
invariant-loop-turn-2 l = record {
  sent : length l.self-inside.sent.items ≤ 1024;
  early : length l.self-inside.early.items ≤ 1024;
  entered : Enters l.fn.self
      (flying l.self-inside.domain l.self-inside.site l.self-inside.sent.items l.self-inside.early.items);
}
