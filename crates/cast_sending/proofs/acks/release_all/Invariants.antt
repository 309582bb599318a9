use Rattle.std.proofs.Common.{◌≤◌, take}
use Rattle.cast_sending.specs.Acks.{Released}
use Rattle.cast_sending.proofs.acks.release_all.Given as goal

-- the messages before are served
abbrev pub invariant-loop-place : goal.invariant-loop-place
invariant-loop-place l = record {
  served : Released l.fn.acks.items l.fn.frames.items (take l.place l.delivered) l.frames.items l.acks.items l.lost;
  few : l.lost ≤ l.place;
}
