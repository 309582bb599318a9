use Rattle.std.proofs.Common.{◌≡◌, [], map, drop}
use Rattle.cast_types.specs.Names.{site_cmp}
use Rattle.cast_types.specs.Sets.{with_items}
use Rattle.cast_view.proofs.sites.sites_of.Given as goal

-- the sites so far with those that are left are all
abbrev pub invariant-loop-process : goal.invariant-loop-process
invariant-loop-process l =
    with_items site_cmp l.sites.items (map (λ p. p.site) (drop l.process-index l.processes))
    ≡ with_items site_cmp [] (map (λ p. p.site) l.processes)
