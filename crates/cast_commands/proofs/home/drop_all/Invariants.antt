use Rattle.std.proofs.Common.{◌≡◌, drop}
use Rattle.std.specs.List.{fold}
use Rattle.cast_rules.specs.Rules.Home.{drop_want}
use Rattle.cast_domain.specs.Calls.{records}
use Rattle.cast_domain.specs.Records.{GivesBack, records_in}
use Rattle.cast_commands.proofs.home.drop_all.Given as goal

-- what is left to drop leads to the same records
abbrev pub invariant-loop-wanted : goal.invariant-loop-wanted
invariant-loop-wanted l = record {
  back : GivesBack l.domain.config.domain l.fn.lent l.lent;
  left : fold (drop_want records l.place l.still) (records_in l.domain l.lent) (drop l.wanted-index l.before)
      ≡ fold (drop_want records l.place l.still) (records_in l.domain l.fn.lent) l.before;
}
