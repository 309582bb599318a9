use Rattle.cast_replay.proofs.run.RunFault.say.Goals as goal

pub returns-in-BadLine : goal.returns-in-BadLine
returns-in-BadLine g c = rw c.in-BadLine.is (rw (c.format-number.ensures.text, c.text-why.ensures) at c.tell-in-BadLine.ensures)

pub returns-in-NoMemory : goal.returns-in-NoMemory
returns-in-NoMemory g c = rw c.in-NoMemory.is c.tell-in-NoMemory.ensures
