use Rattle.std.proofs.lemmas.Result.{on_ok_weaker}
use Rattle.cast_sending.proofs.Known.{learnt, few_learnt}
use Rattle.cast_sending.proofs.dues.learn.Goals as goal

pub returns-clause-learns : goal.returns-clause-learns
returns-clause-learns c =
    learnt c.insert.result c.args.dues.now.entries c.make_room.new.dues.entries c.insert.new.self.entries c.args.id c.args.due
    c.make_room.ensures c.insert.ensures.old (on_ok_weaker c.insert.result (λ updates. updates.0) c.insert.ensures.updates)
    c.insert.ensures.len c.insert.ensures.absent c.insert.ensures.err

pub returns-clause-few : goal.returns-clause-few
returns-clause-few c =
    few_learnt c.args.dues.now.entries c.insert.new.self.entries c.args.id c.args.due c.requires (returns-clause-learns c)
