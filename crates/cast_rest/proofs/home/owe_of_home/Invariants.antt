use Rattle.std.proofs.Common.{◌≡◌, drop}
use Rattle.std.specs.List.{fold}
use Rattle.cast_rules.specs.Rules.Home.{owe_of_home}
use Rattle.cast_domain.specs.Calls.{records}
use Rattle.cast_domain.specs.Records.{GivesBack, records_in}
use Rattle.cast_rest.proofs.home.owe_of_home.Given as goal

-- what is left to owe leads to the same records
abbrev pub invariant-loop-site : goal.invariant-loop-site
invariant-loop-site l = record {
  back : GivesBack l.domain.config.domain l.fn.lent l.lent;
  left : fold (owe_of_home records l.kind l.place) (records_in l.domain l.lent) (drop l.site-index l.sites)
      ≡ fold (owe_of_home records l.kind l.place) (records_in l.domain l.fn.lent) l.sites;
}
