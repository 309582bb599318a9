use Rattle.std.proofs.Common.{take}
use Rattle.std.specs.List.{flat_map}
use Rattle.cast_sending.specs.Acks.{AddsAll, undelivered}
use Rattle.cast_sending.proofs.acks.hold_all.Given as goal

-- those of the frames before wait
abbrev pub invariant-loop-place : goal.invariant-loop-place
invariant-loop-place l = AddsAll l.fn.acks.items (flat_map (undelivered l.delivered) (take l.place l.frames)) l.acks.items
