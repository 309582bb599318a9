use Rattle.std.proofs.Common.{rules}
use Rattle.cast_view.proofs.home.HomeSide.start.Goals as goal

pub returns-clause-new : goal.returns-clause-new
returns-clause-new c = search rules
