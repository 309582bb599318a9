use Rattle.std.proofs.Common.{◌∙◌, sym, ap}
use Rattle.std.specs.Prelude.{if◌then◌else◌}
use Rattle.cast_domain.specs.Records.{records_of}
use Rattle.cast_domain.specs.PartCalls.{local_in}
use Rattle.cast_domain.specs.ViewCalls.{put_out_in}
use Rattle.cast_domain.proofs.domain.Domain.put_out_if.Goals as goal

pub returns-in_ok-put_out-clause-made : goal.returns-in_ok-put_out-clause-made
returns-in_ok-put_out-clause-made c o part =
    let r = records_of c.args.self.now part o in
    c.in_ok-put_out.ensures.made o part
    ∙ sym (ap (λ b. if b then put_out_in c.args.group r (local_in r c.args.serial) else r)
    (sym (c.is_put_out.ensures o part) ∙ c.if-is_put_out.true))

pub returns-else-is_put_out-clause-made : goal.returns-else-is_put_out-clause-made
returns-else-is_put_out-clause-made c o part =
    let r = records_of c.args.self.now part o in
    sym (ap (λ b. if b then put_out_in c.args.group r (local_in r c.args.serial) else r)
    (sym (c.is_put_out.ensures o part) ∙ c.if-is_put_out.false))
