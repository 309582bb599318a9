use Rattle.cast_index.proofs.Firsts.{if_least}
use Rattle.cast_index.proofs.index.entry_behind.Goals as goal

pub returns-in-None-clause-some : goal.returns-in-None-clause-some
returns-in-None-clause-some c =
    rw c.in-None.is (if_least c.args.entries.now.keys c.first.result c.first.ensures.member c.first.ensures.least)
