use Rattle.cast_sending.proofs.Quietness.{silent_sites_are_sent_few}
use Rattle.cast_sending.proofs.laws.silent_sites_are_sent_few.Goals as goal

pub returns : goal.returns
returns c = silent_sites_are_sent_few
