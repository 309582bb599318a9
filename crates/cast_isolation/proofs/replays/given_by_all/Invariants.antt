use Rattle.std.proofs.Common.{◌≡◌, ◌++◌, map, drop}
use Rattle.cast_table.specs.Tables.{domains_of, pick_domains}
use Rattle.cast_isolation.specs.Replays.{given_of}
use Rattle.cast_isolation.proofs.replays.given_by_all.Given as goal

-- what was given, and what the domains that are left are to give
abbrev pub invariant-loop-config : goal.invariant-loop-config
invariant-loop-config l =
    l.given ++ map (given_of l.outs) (pick_domains (drop l.config-index l.config-items) l.domains.items)
    ≡ map (given_of l.outs) (pick_domains l.config-items (domains_of l.fn.table))
