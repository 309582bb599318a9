use Rattle.std.proofs.Common.{◌∙◌, ap}
use Rattle.cast_domain.specs.Shared.{part_boxing}
use Rattle.cast_domain.specs.Records.{records_in}
use Rattle.cast_domain.proofs.domain.Domain.push_entry.Goals as goal

pub returns-clause-made : goal.returns-clause-made
returns-clause-made c =
    let r = records_in c.args.self.now c.args.lent.now in
    λ j. record r {
      part = (c.in_ok-push-2.ensures.part ∙ ap (part_boxing r.part c.args.serial) c.requires) j;
      frames = c.in_ok-push.ensures.frames j;
      delivered = c.in_ok-push.ensures.delivered j;
      pushed = c.in_ok-push.ensures.pushed j;
    }
