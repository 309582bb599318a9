use Rattle.std.proofs.Common.{◌+◌, None, refl, arith}
use Rattle.cast_timer.proofs.Rows.{row_moved, shaped_moved, filled_moved}
use Rattle.cast_timer.proofs.Searches.{at_time, one_gone, all_gone}
use Rattle.cast_timer.proofs.moments.drop_due.Goals as goal

pub loop-due-preserved : goal.loop-due-preserved
loop-due-preserved c =
    let rows = c.loop-due.moments.entries in
    let d = c.args.domain in
    let t = c.in-Some.due in
    let next = c.in-Some.ensures.some in
    record {
      within = omega (arith, next.within, c.if-due-now.false);
      shaped = shaped_moved (at_time t d)
          rows c.remove.new.self.entries None (row_moved (at_time t d) None rows c.remove.new.self.entries c.remove.ensures.updates.0)
          c.remove.ensures.ordered refl c.loop-due.invariant.shaped;
      filled = λ filled. filled_moved (at_time t d) rows c.remove.new.self.entries None (row_moved (at_time t d)
          None rows c.remove.new.self.entries c.remove.ensures.updates.0) refl (c.loop-due.invariant.filled filled);
      held = one_gone d c.args.moments.now.entries rows c.remove.new.self.entries c.loop-due.from c.args.now t next
          c.loop-due.invariant.held c.remove.ensures.updates.0;
    }

pub returns-then-due-now-clause-shaped : goal.returns-then-due-now-clause-shaped
returns-then-due-now-clause-shaped c =
    let rows = c.loop-due.moments.entries in
    let p = at_time c.in-Some.due c.args.domain in
    shaped_moved p rows c.remove.new.self.entries None (row_moved p None rows c.remove.new.self.entries c.remove.ensures.updates.0)
    c.remove.ensures.ordered refl c.loop-due.invariant.shaped

pub returns-then-due-now-clause-filled : goal.returns-then-due-now-clause-filled
returns-then-due-now-clause-filled c filled =
    let rows = c.loop-due.moments.entries in
    let p = at_time c.in-Some.due c.args.domain in
    filled_moved p rows c.remove.new.self.entries None (row_moved p None rows c.remove.new.self.entries c.remove.ensures.updates.0)
    refl (c.loop-due.invariant.filled filled)

pub returns-then-due-now-clause-dropped : goal.returns-then-due-now-clause-dropped
returns-then-due-now-clause-dropped c =
    let d = c.args.domain in
    let t = c.in-Some.due in
    let new = c.remove.new.self.entries in
    all_gone d c.args.moments.now.entries new (t + 1) c.args.now (λ s low high. absurd (omega (arith, c.if-due-now.true)))
    (one_gone d c.args.moments.now.entries c.loop-due.moments.entries new c.loop-due.from c.args.now t c.in-Some.ensures.some
    c.loop-due.invariant.held c.remove.ensures.updates.0)
    (omega (arith, c.if-due-now.true))

pub returns-in_default-clause-dropped : goal.returns-in_default-clause-dropped
returns-in_default-clause-dropped c =
    all_gone c.args.domain c.args.moments.now.entries c.loop-due.moments.entries c.loop-due.from c.args.now c.in_default.ensures.none
    c.loop-due.invariant.held (omega (arith, c.loop-due.invariant.within))
