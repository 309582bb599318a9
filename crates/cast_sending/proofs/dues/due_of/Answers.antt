use Rattle.std.proofs.Common.{◌∙◌}
use Rattle.cast_sending.proofs.Known.{looked_up}
use Rattle.cast_sending.proofs.dues.due_of.Goals as goal

pub returns : goal.returns
returns c = c.copied.ensures ∙ (c.get.ensures.value ∙ looked_up c.args.id c.args.dues.now.entries)
