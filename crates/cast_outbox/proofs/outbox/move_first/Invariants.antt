use Rattle.std.proofs.Common.{◌≡◌, ◌+◌, ◌++◌}
use Rattle.std.specs.VecDeque.{deque_len, deque_capacity}
use Rattle.cast_outbox.proofs.outbox.move_first.Given as goal

-- the two queues together hold what the first one held
abbrev pub invariant-loop : goal.invariant-loop
invariant-loop l = record {
  whole : l.into.items ++ l.from.items ≡ l.initial.from.items;
  moved : deque_len l.into ≡ l.counter;
  left : l.counter + deque_len l.from ≡ deque_len l.initial.from;
  room : deque_capacity l.into ≡ deque_capacity l.initial.into;
}
