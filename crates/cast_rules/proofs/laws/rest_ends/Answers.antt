use Rattle.cast_rules.proofs.Rests.{moves_pass, comes_to_rest, rests_at_one}
use Rattle.cast_rules.proofs.laws.rest_ends.Goals as goal

pub returns : goal.returns
returns c = record { passes = moves_pass; ends = comes_to_rest; one = rests_at_one }
