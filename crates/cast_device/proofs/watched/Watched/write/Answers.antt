use Rattle.std.proofs.Common.{rules}
use Rattle.cast_device.proofs.watched.Watched.write.Goals as goal

pub returns-in-Err-clause-failed : goal.returns-in-Err-clause-failed
returns-in-Err-clause-failed g c = search rules
