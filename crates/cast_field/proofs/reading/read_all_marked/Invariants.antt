use Rattle.std.proofs.Common.{◌≡◌, ◌-◌, None}
use Rattle.cast_field.specs.Reading.{many, marked_above, id_of}
use Rattle.cast_field.proofs.Many.{with_front}
use Rattle.cast_field.proofs.reading.read_all_marked.Given as goal

abbrev pub invariant-loop : goal.invariant-loop
invariant-loop l =
    with_front l.entries.items (many marked_above id_of (l.count - l.counter) l.last l.rest) ≡ many marked_above id_of l.count None l.bytes
