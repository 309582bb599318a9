use Rattle.std.proofs.Common.{rules}
use Rattle.cast_view.proofs.home.HomeSide.decided_holder.Goals as goal

pub returns-then-is_listed-clause-value : goal.returns-then-is_listed-clause-value
returns-then-is_listed-clause-value c = search rules
