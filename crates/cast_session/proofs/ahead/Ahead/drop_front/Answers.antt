use Rattle.std.proofs.Common.{◌≤◌, arith}
use Rattle.std.proofs.lemmas.List.{length-take-le}
use Rattle.cast_session.proofs.Room.{shifted}
use Rattle.cast_session.proofs.ahead.Ahead.drop_front.Goals as goal

pub returns : goal.returns
returns c =
    let here = c.args.self.now in
    let len = length-take-le here.len here.room.items here.within in
    let few : c.args.count ≤ here.len = omega (arith, len, c.requires) in
    rw c.copy_within.ensures.items (shifted here.room.items c.args.count here.len few here.within)
