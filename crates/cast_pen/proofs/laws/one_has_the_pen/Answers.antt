use Rattle.cast_pen.proofs.Holders.{one_holder}
use Rattle.cast_pen.proofs.laws.one_has_the_pen.Goals as goal

pub returns : goal.returns
returns c = one_holder
