use Rattle.std.proofs.Common.{◌≡◌}
use Rattle.std.specs.List.{fold}
use Rattle.cast_rules.specs.Rules.Owing.{send_for}
use Rattle.cast_domain.specs.Calls.{records}
use Rattle.cast_domain.specs.Records.{GivesBack, records_in}
use Rattle.cast_domain.specs.Resent.{IsFrameOf}
use Rattle.cast_commands.proofs.owing.send_all.Given as goal

-- the frames that are left lead to the same records, and what was sent last is what its key stands for
abbrev pub invariant-loop-key : goal.invariant-loop-key
invariant-loop-key l = record {
  back : GivesBack l.domain.config.domain l.fn.lent l.lent;
  stands : IsFrameOf (records_in l.domain l.lent) l.last;
  left : fold (send_for records) (records_in l.domain l.lent) l.key-iterator.rest.items
      ≡ fold (send_for records) (records_in l.domain l.fn.lent) l.fn.keys.items;
}
