use Rattle.cast_edge.proofs.Powers.{none_between}
use Rattle.cast_edge.proofs.count.Count.reach.Goals as goal

pub returns-then-digits-clause-not_due : goal.returns-then-digits-clause-not_due
returns-then-digits-clause-not_due c due =
    none_between c.args.self.now.reported c.args.so_far c.digits.result c.digits-2.result due.0 c.if-digits.true
    c.digits.ensures.below c.digits-2.ensures.above due.1 due.2
