use Rattle.std.proofs.Common.{◌≡◌, ◌-◌, None}
use Rattle.cast_field.specs.Reading.{many, clock_above, group_of}
use Rattle.cast_field.proofs.Many.{with_front}
use Rattle.cast_field.proofs.reading.read_clocks.Given as goal

abbrev pub invariant-loop : goal.invariant-loop
invariant-loop l =
    with_front l.clocks.items (many clock_above group_of (l.count - l.counter) l.last l.rest)
    ≡ many clock_above group_of l.count None l.bytes
