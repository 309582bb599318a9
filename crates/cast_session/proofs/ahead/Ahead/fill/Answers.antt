use Rattle.std.proofs.Common.{rules, ◌≡◌, ◌-◌, length, take}
use Rattle.std.proofs.lemmas.List.{places}
use Rattle.cast_session.proofs.Room.{filled}
use Rattle.cast_session.proofs.ahead.Ahead.fill.Goals as goal

pub returns-in-Ok-clause-filled : goal.returns-in-Ok-clause-filled
returns-in-Ok-clause-filled g c =
    let here = c.args.self.now in
    let sizes : length c.read.new.room ≡ length here.room.items - here.len = search (rules, places) in
    record {
      came = take c.in-Ok.count c.read.new.room;
      consumed = c.in-Ok.ensures.bytes.0;
      behind = rw c.deref_mut.ensures.value (filled here.room.items c.read.new.room here.room.len here.len c.in-Ok.count here.room.ok.0
          here.within sizes c.in-Ok.ensures.bound.0);
      as_said = tt;
    }
