use Rattle.std.proofs.Common.{rules}
use Rattle.cast_delay.proofs.Looks.{unseen_by}
use Rattle.cast_delay.proofs.queue.first_unseen_by.Goals as goal

pub returns-in-Some : goal.returns-in-Some
returns-in-Some c =
    unseen_by c.args.offered.now c.args.settled c.in-Some.looked.now _ c.first_unseen.result (search rules) c.first_unseen.ensures
