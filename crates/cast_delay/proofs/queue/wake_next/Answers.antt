use Rattle.cast_delay.proofs.queue.wake_next.Goals as goal

pub returns-in-None : goal.returns-in-None
returns-in-None c = rw c.forget.ensures c.requires.none
