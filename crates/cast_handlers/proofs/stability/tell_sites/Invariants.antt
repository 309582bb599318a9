use Rattle.std.proofs.Common.{◌≡◌, drop}
use Rattle.std.specs.List.{fold}
use Rattle.cast_rules.specs.Rules.Stability.{tell_stable}
use Rattle.cast_domain.specs.Shared.{Part}
use Rattle.cast_domain.specs.Calls.{records}
use Rattle.cast_domain.specs.Records.{records_of}
use Rattle.cast_handlers.proofs.stability.tell_sites.Given as goal

-- what is left to tell leads to the same records
abbrev pub invariant-loop-site : goal.invariant-loop-site
invariant-loop-site l =
    (part : Part) → fold (tell_stable records l.id l.count) (records_of l.domain part l.outs) (drop l.site-index l.sites)
    ≡ fold (tell_stable records l.id l.count) (records_of l.domain part l.fn.outs) l.sites
