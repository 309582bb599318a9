use Rattle.std.proofs.Common.{refl}
use Rattle.cast_step.proofs.domain.step.Goals as goal

pub returns-then-domain-clause-halted : goal.returns-then-domain-clause-halted
returns-then-domain-clause-halted c halted = (refl, refl, refl, refl)
