use Rattle.std.proofs.Common.{◌≤◌, arith}
use Rattle.cast_edge.proofs.Powers.{ten_to}
use Rattle.cast_edge.proofs.count.digits.Goals as goal

pub returns-in-Some-clause-above : goal.returns-in-Some-clause-above
returns-in-Some-clause-above c k less =
    let up : k ≤ c.in-Some.power = omega (arith, less) in omega (arith, ten_to k c.in-Some.power up, c.in-Some.ensures.power_le)
