use Rattle.std.proofs.Common.{rules}
use Rattle.cast_session.proofs.incoming.end_bad.Goals as goal

pub returns-then-eq : goal.returns-then-eq
returns-then-eq g c = search rules
