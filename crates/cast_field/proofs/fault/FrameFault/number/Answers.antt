use Rattle.std.proofs.Common.{rules}
use Rattle.cast_field.proofs.fault.FrameFault.number.Goals as goal

pub returns-in-Range : goal.returns-in-Range
returns-in-Range c = search rules
