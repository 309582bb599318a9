use Rattle.std.proofs.Common.{◌≡◌, [], drop, map}
use Rattle.cast_script.specs.Readings.{domains_on, numbered_line}
use Rattle.cast_script.proofs.script.parse_domains.Given as goal

-- what is still read behind the domains that were read
abbrev pub invariant-loop-index : goal.invariant-loop-index
invariant-loop-index l =
    domains_on l.site l.end l.domains (map numbered_line (drop l.index l.lines)) ≡ domains_on l.site l.end [] (map numbered_line l.lines)
