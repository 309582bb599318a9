use Rattle.std.proofs.Common.{◌≡◌, ◌≤◌, length, take}
use Rattle.std.specs.Vec.{vec_capacity}
use Rattle.cast_delay.specs.Admitted.{busy_places}
use Rattle.cast_delay.proofs.rows.note_each.Given as goal

-- of the rows that were passed the places are noted, and there is room for those of the others
abbrev pub invariant-loop-place : goal.invariant-loop-place
invariant-loop-place l = record {
  noted : l.busy.items ≡ busy_places 0 (take l.place l.rows);
  room : length l.rows ≤ vec_capacity l.busy;
}
