use Rattle.cast_client.proofs.Fronts.{part_wants}
use Rattle.cast_client.proofs.laws.part_wants_the_rest.Goals as goal

pub returns : goal.returns
returns c = part_wants
