use Rattle.std.proofs.lemmas.Bool.{ltb-true}
use Rattle.cast_pace.proofs.Rising.{below_all}
use Rattle.cast_pace.proofs.casts.is_above.Goals as goal

pub returns-else-is_empty : goal.returns-else-is_empty
returns-else-is_empty c above = below_all c.args.key c.args.casts.now c.requires (ltb-true _ c.args.key above)
