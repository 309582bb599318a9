use Rattle.std.proofs.Common.{◌≡◌, drop}
use Rattle.std.specs.FinMap.Entries.{find}
use Rattle.cast_types.proofs.sorted.find.Given as goal

-- the key is found among what is left as in all
abbrev pub invariant-loop-k : goal.invariant-loop-k
invariant-loop-k g l = find g.K.Ord.cmp l.key (drop l.k-index l.entries) ≡ find g.K.Ord.cmp l.key l.entries
