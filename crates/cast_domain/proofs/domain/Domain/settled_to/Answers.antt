use Rattle.std.proofs.Common.{◌∙◌, ap}
use Rattle.cast_events.specs.Outs.{no_outs}
use Rattle.cast_order.specs.Hand.{settled_by}
use Rattle.cast_order.specs.Log.{hand_here, log_of}
use Rattle.cast_domain.specs.Shared.{no_part}
use Rattle.cast_domain.specs.Records.{records_of}
use Rattle.cast_domain.specs.PartCalls.{settled_in}
use Rattle.cast_domain.proofs.domain.Domain.settled_to.Goals as goal

pub returns : goal.returns
returns c =
    let d = c.args.self.now in
    let x = c.args.kept.now in
    let p = c.args.process in
    c.settled_places.ensures
    ∙ ap (λ n. settled_by n (hand_here (log_of d.orders x.name) p))
    (c.stable_count-stable.ensures no_outs no_part ∙ ap (λ v. settled_in (records_of d no_part no_outs) x.name v p) c.number.ensures)
