use Rattle.std.proofs.Common.{None, Option, ℕ, cond, ap, ◌∙◌}
use Rattle.cast_timer.specs.Owed.{is_upto}
use Rattle.cast_timer.specs.Index.{due_of}
use Rattle.cast_timer.proofs.Kept.{keeps_both, paid_among}
use Rattle.cast_timer.proofs.frames.pay_upto_in.Goals as goal

pub loop-due-smaller : goal.loop-due-smaller
loop-due-smaller c = c.pay_in.ensures.fewer c.in-Some.ensures.some.1

pub loop-due-preserved : goal.loop-due-preserved
loop-due-preserved c =
    let key = c.args.key.now in
    let dues = c.loop-due.dues.entries in
    let new = c.pay_in.new.dues.entries in
    record {
      kept = keeps_both c.args.domain c.args.moments.now.entries c.loop-due.moments.entries c.pay_in.new.moments.entries (due_of dues)
          (due_of new) c.loop-due.invariant.kept c.pay_in.ensures.kept;
      paid = λ q.
          ap (λ (m : Option ℕ). cond (is_upto key q) None m) (c.pay_in.ensures.paid q)
          ∙ paid_among (is_upto key) c.in-Some.due (due_of dues) c.in-Some.ensures.some.0 q
          ∙ c.loop-due.invariant.paid q;
    }
