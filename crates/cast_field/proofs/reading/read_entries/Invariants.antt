use Rattle.std.proofs.Common.{◌≡◌, ◌-◌, None}
use Rattle.cast_field.specs.Reading.{many, entry_above, process_of}
use Rattle.cast_field.proofs.Many.{with_front}
use Rattle.cast_field.proofs.reading.read_entries.Given as goal

abbrev pub invariant-loop : goal.invariant-loop
invariant-loop l =
    with_front l.entries.items (many entry_above process_of (l.count - l.counter) l.last l.rest)
    ≡ many entry_above process_of l.count None l.bytes
