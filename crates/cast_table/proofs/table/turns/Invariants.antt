use Rattle.std.proofs.Common.{◌≤◌}
use Rattle.std.specs.Vec.{vec_capacity}
use Rattle.cast_table.specs.Tables.{lending}
use Rattle.cast_table.proofs.Turns.{Turned}
use Rattle.cast_table.proofs.table.turns.Given as goal

-- the domains so far have taken their turns, and no room is lost
abbrev pub invariant-loop-domain : goal.invariant-loop-domain
invariant-loop-domain l =
    Turned l.event l.fn.domains.items l.domain-items l.domain-index (lending l.fn.shared l.fn.outs l.fn.halted.items)
    (lending l.shared l.outs l.halted.items)
    × (vec_capacity l.fn.halted ≤ vec_capacity l.halted)
