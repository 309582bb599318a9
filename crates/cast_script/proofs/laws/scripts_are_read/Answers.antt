use Rattle.cast_script.proofs.Spelled.{read_is_spelled, spelled_is_read}
use Rattle.cast_script.proofs.laws.scripts_are_read.Goals as goal

pub returns-clause-read : goal.returns-clause-read
returns-clause-read c = read_is_spelled

pub returns-clause-spelled : goal.returns-clause-spelled
returns-clause-spelled c = spelled_is_read
