use Rattle.std.proofs.Common.{◌≡◌, false, drop}
use Rattle.std.specs.List.{fold, list_any}
use Rattle.std.specs.Prelude.{◌||◌}
use Rattle.cast_domain.specs.Flags.{wants_more}
use Rattle.cast_rules.specs.Rules.Home.{want}
use Rattle.cast_domain.specs.Calls.{records}
use Rattle.cast_domain.specs.Records.{GivesBack, records_in}
use Rattle.cast_rest.proofs.home.want_all.Given as goal

-- what is left to want leads to the same records
abbrev pub invariant-loop-wanted : goal.invariant-loop-wanted
invariant-loop-wanted l = record {
  back : GivesBack l.domain.config.domain l.fn.lent l.lent;
  left : fold (want records l.place) (records_in l.domain l.lent) (drop l.wanted-index l.wants)
      ≡ fold (want records l.place) (records_in l.domain l.fn.lent) l.wants;
  told : (l.changed || list_any (wants_more (records_in l.domain l.lent) l.place) (drop l.wanted-index l.wants))
      ≡ list_any (wants_more (records_in l.domain l.fn.lent) l.place) l.wants;
  still : l.changed ≡ false → records_in l.domain l.lent ≡ records_in l.domain l.fn.lent;
}
