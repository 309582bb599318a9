use Rattle.cast_session.proofs.Heard.{commands_stay, fault_ends, requests_then_bad}
use Rattle.cast_session.proofs.laws.commands_stay.Goals as goal

pub returns-clause-commands : goal.returns-clause-commands
returns-clause-commands c = commands_stay

pub returns-clause-fault : goal.returns-clause-fault
returns-clause-fault c = fault_ends

pub returns-clause-bad : goal.returns-clause-bad
returns-clause-bad c = requests_then_bad
