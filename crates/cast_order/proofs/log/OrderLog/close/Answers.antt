use Rattle.std.proofs.Common.{rules}
use Rattle.cast_order.proofs.log.OrderLog.close.Goals as goal

pub returns : goal.returns
returns c = search rules
