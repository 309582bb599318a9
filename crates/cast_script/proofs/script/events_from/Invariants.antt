use Rattle.std.proofs.Common.{◌≡◌, [], ◌∷◌, drop, map}
use Rattle.cast_script.specs.WordReadings.{each}
use Rattle.cast_script.specs.Readings.{event_at, numbered_line}
use Rattle.cast_script.proofs.Each.{with_front}
use Rattle.cast_script.proofs.script.events_from.Given as goal

-- what was read, and what is still read
abbrev pub invariant-loop-line : goal.invariant-loop-line
invariant-loop-line l =
    with_front l.events (each event_at (map numbered_line (drop l.line-index l.lines)))
    ≡ with_front (l.fn.first ∷ []) (each event_at (map numbered_line l.lines))
