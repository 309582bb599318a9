use Rattle.std.proofs.Common.{◌≡◌, ◌+◌, ◌≤◌, IsTrue, length, take}
use Rattle.std.specs.List.{flat_map}
use Rattle.cast_link.specs.Bundles.{fit, in_bundle}
use Rattle.cast_link.proofs.packing.fitting_count.Given as goal

-- how many fit, and how long the bundle of them is
abbrev pub invariant-loop-frame : goal.invariant-loop-frame
invariant-loop-frame l = record {
  counted : l.count ≡ l.frame-index;
  fitting : IsTrue (fit (take l.count l.frames));
  long : l.len ≡ 4 + length (flat_map in_bundle (take l.count l.frames));
  bounded : 1 ≤ l.count → l.len ≤ l.most;
}
