use Rattle.std.proofs.Common.{◌≡◌, drop, vec_len}
use Rattle.std.specs.List.{fold}
use Rattle.cast_rules.specs.Rules.Views.{tell_view}
use Rattle.cast_domain.specs.Calls.{records}
use Rattle.cast_domain.specs.Records.{KeepsBeside, records_in}
use Rattle.cast_domain.proofs.domain.Domain.tell_view.Given as goal

-- the serials that are left lead to the same records
abbrev pub invariant-loop-serial : goal.invariant-loop-serial
invariant-loop-serial l = record {
  stays : KeepsBeside l.fn.self l.fn.lent l.self l.lent;
  len : vec_len l.self.groups ≡ vec_len l.fn.self.groups;
  left : fold (tell_view records l.group l.view l.members) (records_in l.self l.lent) (drop l.serial-index l.serials)
      ≡ fold (tell_view records l.group l.view l.members) (records_in l.fn.self l.fn.lent) l.serials;
}
