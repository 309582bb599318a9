use Rattle.cast_client.proofs.Fronts.{spellings_differ}
use Rattle.cast_client.proofs.laws.client_spellings_differ.Goals as goal

pub returns : goal.returns
returns c = spellings_differ
