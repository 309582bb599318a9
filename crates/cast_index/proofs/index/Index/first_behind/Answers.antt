use Rattle.cast_index.proofs.Firsts.{first_id, fewer_left}
use Rattle.cast_index.proofs.index.Index.first_behind.Goals as goal

pub returns-clause-some : goal.returns-clause-some
returns-clause-some c =
    rw (← c.self.view_is) (first_id c.self.inside.entries.keys c.args.after c.in_ok-entry.entry.now c.in_ok-entry.ensures.some)

pub returns-clause-fewer : goal.returns-clause-fewer
returns-clause-fewer c =
    rw (← c.self.view_is) (fewer_left c.self.inside.entries.keys c.args.after c.in_ok-entry.entry.now c.in_ok-entry.ensures.some)
