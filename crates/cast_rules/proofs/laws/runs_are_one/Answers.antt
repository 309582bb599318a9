use Rattle.cast_rules.proofs.Agreeing.{run_is_one}
use Rattle.cast_rules.proofs.laws.runs_are_one.Goals as goal

pub returns : goal.returns
returns c = run_is_one
