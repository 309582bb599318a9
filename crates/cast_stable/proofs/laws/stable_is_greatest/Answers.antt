use Rattle.cast_stable.proofs.Greatest.{stable_greatest}
use Rattle.cast_stable.proofs.laws.stable_is_greatest.Goals as goal

pub returns : goal.returns
returns c = stable_greatest
