use Rattle.cast_rules.proofs.Settles.{settles_one, turns_are_enough}
use Rattle.cast_rules.proofs.laws.deliveries_end.Goals as goal

pub returns : goal.returns
returns c = record { settled = settles_one; turns = turns_are_enough }
