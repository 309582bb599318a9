use Rattle.std.proofs.Common.{◌≡◌, max, rules}
use Rattle.cast_delay.proofs.Looks.{unseen_max}
use Rattle.cast_delay.proofs.queue.first_unseen.Goals as goal

pub returns : goal.returns
returns c =
    let is : c.max.result ≡ max c.args.settled c.count_below.result = search rules in
    rw is (unseen_max c.args.offered.now c.args.settled c.count_below.result c.args.looked.now c.requires.settled
    c.count_below.ensures.within c.count_below.ensures.below)
