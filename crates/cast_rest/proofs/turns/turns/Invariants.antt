use Rattle.std.proofs.Common.{◌≡◌, map, take}
use Rattle.cast_domain.specs.Records.{records_in}
use Rattle.cast_domain.specs.RestCalls.{turn_at}
use Rattle.cast_rest.proofs.turns.turns.Given as goal

-- the turns in the groups so far
abbrev pub invariant-loop-record : goal.invariant-loop-record
invariant-loop-record l =
    l.turns.items ≡ map (λ x. (x.name, turn_at (records_in l.fn.domain l.fn.lent) l.fn.process x)) (take l.record-index l.record-items)
