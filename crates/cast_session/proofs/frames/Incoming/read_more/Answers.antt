use Rattle.std.proofs.Common.{rules, ◌≡◌, min, length, arith}
use Rattle.std.proofs.lemmas.List.{places}
use Rattle.cast_session.proofs.Fronts.{some_is_wanting, ended, has_read}
use Rattle.cast_session.proofs.frames.Incoming.read_more.Goals as goal

pub returns-in-Ok-eq0-clause-read : goal.returns-in-Ok-eq0-clause-read
returns-in-Ok-eq0-clause-read g c =
    let a = g.R.Read.remaining c.args.reader.now.device in
    let b = g.R.Read.remaining c.read.new.self.device in
    let some = some_is_wanting c.args.self.now.bytes.items c.args.self.now.wanting c.args.self.now.is_part in
    let room : length c.read.new.room ≡ min c.args.self.now.wanting 4096 = search (rules, places) in
    let read = rw c.in-Ok-eq0.is at c.read.ensures.bytes in
    ended a b c.args.self.now.bytes.items c.read.new.room c.in-Ok-eq0.field-0 c.in-Ok-eq0.field-0-test (omega (arith, room, some))
    read.0 read.1

pub returns-in-Ok-clause-read : goal.returns-in-Ok-clause-read
returns-in-Ok-clause-read g c =
    let a = g.R.Read.remaining c.args.reader.now.device in
    let b = g.R.Read.remaining c.read.new.self.device in
    let room : length c.read.new.room ≡ min c.args.self.now.wanting 4096 = search (rules, places) in
    let here = c.args.self.now in
    has_read c.add.result a b here.bytes.items c.add.new.self.bytes.items c.read.new.room c.in-Ok.count here.wanting here.is_part
    (omega (arith, room)) c.in-Ok.ensures.bytes.0 c.add.ensures
