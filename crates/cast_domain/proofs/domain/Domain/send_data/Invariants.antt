use Rattle.std.proofs.Common.{◌≡◌, drop}
use Rattle.std.specs.List.{fold}
use Rattle.cast_rules.specs.Rules.Sending.{send_data}
use Rattle.cast_domain.specs.Calls.{records}
use Rattle.cast_domain.specs.Records.{GivesBack, records_in}
use Rattle.cast_domain.proofs.domain.Domain.send_data.Given as goal

-- what is left to send leads to the same records
abbrev pub invariant-loop-site : goal.invariant-loop-site
invariant-loop-site l = record {
  back : GivesBack l.self.config.domain l.fn.lent l.lent;
  left : fold (send_data records l.id) (records_in l.self l.lent) (drop l.site-index l.sites)
      ≡ fold (send_data records l.id) (records_in l.self l.fn.lent) l.sites;
}
