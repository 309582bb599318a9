use Rattle.cast_client.proofs.Stays.{frame_stays, fault_stays, wanting_stays}
use Rattle.cast_client.proofs.laws.more_comes.Goals as goal

pub returns-clause-frame : goal.returns-clause-frame
returns-clause-frame c = frame_stays

pub returns-clause-fault : goal.returns-clause-fault
returns-clause-fault c = fault_stays

pub returns-clause-wanting : goal.returns-clause-wanting
returns-clause-wanting c = wanting_stays
