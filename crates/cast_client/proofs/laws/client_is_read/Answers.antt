use Rattle.cast_client.proofs.Fronts.{client_again}
use Rattle.cast_client.proofs.laws.client_is_read.Goals as goal

pub returns : goal.returns
returns c = client_again
