use Rattle.cast_timer.proofs.Rows.{holds_first}
use Rattle.cast_timer.proofs.moments.add_first.Goals as goal

pub returns-clause-ok : goal.returns-clause-ok
returns-clause-ok c =
    holds_first c.args.moment c.args.moments.now.entries c.insert-2.new.self.entries c.new-keys.result c.insert.new.self c.args.key
    c.requires c.new-keys.ensures.empty c.in_ok-insert-2.ensures.updates.0 c.insert-2.ensures.ordered c.insert.ensures.ordered
    c.in_ok-insert.ensures.updates.0
