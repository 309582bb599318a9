use Rattle.std.proofs.Common.{◌≡◌, ◌++◌, take}
use Rattle.std.specs.List.{flat_map}
use Rattle.cast_link.specs.Bundles.{head, in_bundle}
use Rattle.cast_link.proofs.packing.bundle_of.Given as goal

-- those that are put
abbrev pub invariant-loop-frame : goal.invariant-loop-frame
invariant-loop-frame l = l.out.items ≡ head ++ flat_map in_bundle (take l.frame-index l.frames)
