use Rattle.cast_rules.proofs.Noting as noting
use Rattle.cast_rules.proofs.laws.acts_are_noted.Goals as goal

pub returns : goal.returns
returns c = record { noted = noting.acts_are_noted }
