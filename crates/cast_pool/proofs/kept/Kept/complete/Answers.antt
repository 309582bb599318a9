use Rattle.std.proofs.Common.{refl}
use Rattle.cast_pool.proofs.kept.Kept.complete.Goals as goal

pub returns-then-may_trim-clause-done : goal.returns-then-may_trim-clause-done
returns-then-may_trim-clause-done g c =
    rw c.if-may_trim.true
    (record {
      led = c.trace_leads.ensures.leads;
      between = c.serve_one-done.new.self;
      done = c.serve_one-done.ensures.done;
      trimmed = c.let_go.ensures;
    })

pub returns-else-may_trim-clause-done : goal.returns-else-may_trim-clause-done
returns-else-may_trim-clause-done g c =
    rw c.if-may_trim.false
    (record {
      led = c.trace_leads.ensures.leads;
      between = c.serve_one-done.new.self;
      done = c.serve_one-done.ensures.done;
      trimmed = refl;
    })
