use Rattle.std.proofs.Common.{rules}
use Rattle.cast_device.proofs.watched.Watched.read.Goals as goal

pub returns-in_default-clause-failed : goal.returns-in_default-clause-failed
returns-in_default-clause-failed g c = search rules
