use Rattle.std.proofs.Common.{subst, sym}
use Rattle.cast_pace.specs.Following.{KeysRise}
use Rattle.cast_pace.proofs.Rising.{pushed_rise, rest_rise}
use Rattle.cast_pace.proofs.casts.note_in.Goals as goal

pub returns-then-len-most-clause-rise : goal.returns-then-len-most-clause-rise
returns-then-len-most-clause-rise c =
    subst KeysRise (sym c.remove.ensures.items)
    (rest_rise c.push.new.self.items
    (pushed_rise c.args.key c.args.casts.now.items c.deref.result.now c.push.new.self.items _ c.requires c.deref.ensures.value
    (c.is_above.ensures c.if-not-is_above.false) c.push.ensures.items))

pub returns-else-len-most-clause-rise : goal.returns-else-len-most-clause-rise
returns-else-len-most-clause-rise c =
    pushed_rise c.args.key c.args.casts.now.items c.deref.result.now c.push.new.self.items _ c.requires c.deref.ensures.value
    (c.is_above.ensures c.if-not-is_above.false) c.push.ensures.items
