-- A list of one item as it lies in memory: where no block is, and whose the memory is, no contract says.
use Rattle.std.proofs.Common.{refl, [], ◌∷◌, arith}
use Rattle.std.specs.Global.{Vec}
use denote.RawPtr.{null_ptr}

abbrev pub vec_of_one : {X : Type 0} → X → Vec X
vec_of_one x = record {
  ptr = null_ptr;
  len = 1;
  cap = 1;
  alloc = record { memory = record { seal = tt } };
  items = x ∷ [];
  ok = (refl, omega arith);
  small = omega arith;
}
