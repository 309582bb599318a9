use Rattle.cast_datagrams.proofs.Seals.{senders_seal_what_is_spelled}
use Rattle.cast_datagrams.proofs.laws.senders_seal_what_is_spelled.Goals as goal

pub returns : goal.returns
returns c = senders_seal_what_is_spelled
