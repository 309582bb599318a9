use Rattle.std.proofs.Common.{None, sym}
use Rattle.std.proofs.lemmas.List.{append-nil}
use Rattle.cast_sending.proofs.Early.{one_pushed}
use Rattle.cast_sending.proofs.acks.release_one.Goals as goal

pub returns-in-Some : goal.returns-in-Some
returns-in-Some c =
    one_pushed c.args.acks.now.items c.take.new.acks.items c.args.frames.now.items c.push.new.frames.items c.args.delivery
    c.in-Some.site c.push.result c.in-Some.ensures.some c.push.ensures

pub returns-in-None : goal.returns-in-None
returns-in-None c = (None, (c.in-None.ensures.none, c.in-None.ensures.same), sym (append-nil c.args.frames.now.items))
