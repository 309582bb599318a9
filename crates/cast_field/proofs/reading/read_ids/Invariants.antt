use Rattle.std.proofs.Common.{◌≡◌, ◌-◌}
use Rattle.cast_field.specs.Reading.{many, id_at, nothing_of}
use Rattle.cast_field.proofs.Many.{with_front}
use Rattle.cast_field.proofs.reading.read_ids.Given as goal

abbrev pub invariant-loop : goal.invariant-loop
invariant-loop l = with_front l.ids.items (many id_at nothing_of (l.count - l.counter) tt l.rest) ≡ many id_at nothing_of l.count tt l.bytes
