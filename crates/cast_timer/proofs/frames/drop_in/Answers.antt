use Rattle.std.proofs.Common.{None, sym, ◌∙◌}
use Rattle.cast_timer.specs.Index.{due_of}
use Rattle.cast_timer.proofs.Index.{looked_up, moved}
use Rattle.cast_timer.proofs.Kept.{keeps_both, keeps_taken}
use Rattle.cast_timer.proofs.frames.drop_in.Goals as goal

pub loop-key-preserved : goal.loop-key-preserved
loop-key-preserved c =
    let key = c.in-Some.key in
    let dues = c.loop-key.dues.entries in
    let new = c.pop_first.new.self.entries in
    keeps_both c.args.domain c.args.moments.now.entries c.loop-key.moments.entries c.take.new.moments.entries (due_of dues) (due_of new)
    c.loop-key.invariant
    (keeps_taken c.args.domain c.loop-key.moments.entries c.take.new.moments.entries c.in-Some.due key c.take.ensures (due_of dues)
    (due_of new) c.loop-key.invariant.kept (sym (looked_up key dues) ∙ c.in-Some.ensures.value)
    (moved key None dues new c.in-Some.ensures.updates.0))
