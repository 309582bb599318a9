use Rattle.std.proofs.Common.{◌∙◌}
use Rattle.cast_order.proofs.Told.{looked_up}
use Rattle.cast_order.proofs.log.id_at.Goals as goal

pub returns : goal.returns
returns c = c.copied.ensures ∙ c.get.ensures.value ∙ looked_up c.args.place c.args.facts.now.entries
