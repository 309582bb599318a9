use Rattle.std.proofs.Common.{◌≡◌, false, drop}
use Rattle.std.specs.List.{fold, list_any}
use Rattle.std.specs.Prelude.{◌||◌}
use Rattle.cast_domain.specs.Flags.{wants_own_more}
use Rattle.cast_rules.specs.Rules.Flushes.{want_own}
use Rattle.cast_domain.specs.Calls.{records}
use Rattle.cast_domain.specs.Records.{GivesBack, records_in}
use Rattle.cast_rest.proofs.flushes.want_all_missing.Given as goal

-- what is left to want leads to the same records
abbrev pub invariant-loop-name : goal.invariant-loop-name
invariant-loop-name l = record {
  back : GivesBack l.domain.config.domain l.fn.lent l.lent;
  left : fold (want_own records l.place) (records_in l.domain l.lent) (drop l.name-index l.missing)
      ≡ fold (want_own records l.place) (records_in l.domain l.fn.lent) l.missing;
  told : (l.changed || list_any (wants_own_more (records_in l.domain l.lent) l.place) (drop l.name-index l.missing))
      ≡ list_any (wants_own_more (records_in l.domain l.fn.lent) l.place) l.missing;
  still : l.changed ≡ false → records_in l.domain l.lent ≡ records_in l.domain l.fn.lent;
}
