use Rattle.std.proofs.Common.{◌≡◌, drop}
use Rattle.cast_script.specs.Words.{rises_from}
use Rattle.cast_script.proofs.words.sites_rise.Given as goal

abbrev pub invariant-loop-site : goal.invariant-loop-site
invariant-loop-site l = rises_from (λ x. x.0) 0 l.sites ≡ rises_from (λ x. x.0) l.last (drop l.site-index l.sites)
