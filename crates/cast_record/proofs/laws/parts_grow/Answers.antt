use Rattle.cast_record.proofs.Selections.{more_takes_all, nothing_behind_the_end}
use Rattle.cast_record.proofs.laws.parts_grow.Goals as goal

pub returns-clause-more : goal.returns-clause-more
returns-clause-more c = more_takes_all

pub returns-clause-end : goal.returns-clause-end
returns-clause-end c = nothing_behind_the_end
