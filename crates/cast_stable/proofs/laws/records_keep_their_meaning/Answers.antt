use Rattle.cast_stable.proofs.Meanings.{new_fits, tell_fits, receive_fits, ack_fits, learn_fits}
use Rattle.cast_stable.proofs.laws.records_keep_their_meaning.Goals as goal

pub returns-clause-new : goal.returns-clause-new
returns-clause-new c = new_fits

pub returns-clause-tell : goal.returns-clause-tell
returns-clause-tell c = tell_fits

pub returns-clause-receive : goal.returns-clause-receive
returns-clause-receive c = receive_fits

pub returns-clause-ack : goal.returns-clause-ack
returns-clause-ack c = ack_fits

pub returns-clause-learn_stable : goal.returns-clause-learn_stable
returns-clause-learn_stable c = learn_fits
