use Rattle.std.proofs.Common.{◌≡◌, ◌-◌, None}
use Rattle.cast_field.specs.Reading.{many, proc_above, some_proc}
use Rattle.cast_field.proofs.Many.{with_front}
use Rattle.cast_field.proofs.reading.read_procs.Given as goal

abbrev pub invariant-loop : goal.invariant-loop
invariant-loop l =
    with_front l.procs.items (many proc_above some_proc (l.count - l.counter) l.last l.rest)
    ≡ many proc_above some_proc l.count None l.bytes
