use Rattle.std.proofs.Common.{rules}
use Rattle.cast_view.proofs.home.HomeSide.ask.Goals as goal

pub returns-clause-answer : goal.returns-clause-answer
returns-clause-answer c = search rules

pub returns-clause-new : goal.returns-clause-new
returns-clause-new c = search rules
