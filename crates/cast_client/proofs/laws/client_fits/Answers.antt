use Rattle.cast_client.proofs.Fronts.{client_spelled_fits}
use Rattle.cast_client.proofs.laws.client_fits.Goals as goal

pub returns : goal.returns
returns c = client_spelled_fits
