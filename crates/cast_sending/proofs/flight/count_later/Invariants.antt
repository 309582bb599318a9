use Rattle.std.proofs.Common.{◌≡◌, length}
use Rattle.cast_sending.specs.Marks.{marks_of}
use Rattle.cast_sending.proofs.flight.count_later.Given as goal

abbrev pub invariant-loop-place : goal.invariant-loop-place
invariant-loop-place l = record {
  same : marks_of l.line.items ≡ marks_of l.fn.line.items;
  long : length l.line.items ≡ length l.fn.line.items;
}
