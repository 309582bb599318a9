use Rattle.std.proofs.Common.{refl, inl, inr}
use Rattle.cast_pool.proofs.worker.answer.Goals as goal

pub returns-in-Ok-clause-answered : goal.returns-in-Ok-clause-answered
returns-in-Ok-clause-answered g c = inl (c.in-Ok.job.task, c.in-Ok.ensures.job.1, c.complete.ensures.done)

pub returns-in-Err-clause-answered : goal.returns-in-Err-clause-answered
returns-in-Err-clause-answered g c = inr (c.in-Err.ensures.fault.1, refl)
