use Rattle.std.proofs.Common.{None, sym, ap, ◌∙◌}
use Rattle.std.specs.Prelude.{is_some}
use Rattle.std.proofs.lemmas.Bool.{false≢true}
use Rattle.cast_timer.specs.Index.{due_of}
use Rattle.cast_timer.proofs.Index.{looked_up, moved}
use Rattle.cast_timer.proofs.Kept.{keeps_taken}
use Rattle.cast_timer.proofs.frames.pay_in.Goals as goal

pub returns-in-Some-clause-kept : goal.returns-in-Some-clause-kept
returns-in-Some-clause-kept c =
    let key = c.args.key.now in
    let dues = c.args.dues.now.entries in
    let some = sym (looked_up key dues) ∙ sym c.in-Some.ensures.value in
    keeps_taken c.args.domain c.args.moments.now.entries c.take.new.moments.entries c.in-Some.due key c.take.ensures (due_of dues)
    (due_of c.remove.new.self.entries) c.requires some (moved key None dues c.remove.new.self.entries c.remove.ensures.updates.0)

pub returns-in-Some-clause-paid : goal.returns-in-Some-clause-paid
returns-in-Some-clause-paid c = moved c.args.key.now None c.args.dues.now.entries c.remove.new.self.entries c.remove.ensures.updates.0

pub returns-in_default-clause-paid : goal.returns-in_default-clause-paid
returns-in_default-clause-paid c = moved c.args.key.now None c.args.dues.now.entries c.remove.new.self.entries c.remove.ensures.updates.0

-- no frame of the key was owed
pub returns-in_default-clause-fewer : goal.returns-in_default-clause-fewer
returns-in_default-clause-fewer c some =
    absurd (false≢true (ap is_some (c.in_default.ensures.value ∙ looked_up c.args.key.now c.args.dues.now.entries) ∙ some))
