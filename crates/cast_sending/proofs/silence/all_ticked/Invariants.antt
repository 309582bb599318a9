use Rattle.std.proofs.Common.{◌≡◌, map, take, drop}
use Rattle.cast_sending.specs.Silences.{ticked}
use Rattle.cast_sending.proofs.silence.all_ticked.Given as goal

-- a tick later as far as the loop has come
abbrev pub invariant-loop-one : goal.invariant-loop-one
invariant-loop-one l = record {
  before : take l.one-index l.sites ≡ map (λ one. (one.0, ticked one.1)) (take l.one-index l.fn.sites);
  after : drop l.one-index l.sites ≡ drop l.one-index l.fn.sites;
}
