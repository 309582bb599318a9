use Rattle.std.proofs.Common.{◌≡◌, map, take, drop}
use Rattle.cast_edge.specs.Endings.{changed}
use Rattle.cast_edge.proofs.endings.change_each.Given as goal

-- those as far as the loop has come are changed
abbrev pub invariant-loop-one : goal.invariant-loop-one
invariant-loop-one l = record {
  before : take l.one-index l.endings ≡ map (changed l.fn.number l.fn.change) (take l.one-index l.fn.endings);
  after : drop l.one-index l.endings ≡ drop l.one-index l.fn.endings;
}
