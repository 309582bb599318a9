use Rattle.std.proofs.Common.{◌≡◌, ◌∙◌, sym, ap, rules}
use Rattle.std.specs.Prelude.{slice_get}
use Rattle.cast_delay.specs.Admitted.{is_idle}
use Rattle.cast_delay.proofs.Admitted.{idle_may_not}
use Rattle.cast_delay.proofs.Queues.{none_means}
use Rattle.cast_delay.proofs.queue.Delay.busy_from.Goals as goal

-- a process that is in no group takes no message
pub returns-clause-idle : goal.returns-clause-idle
returns-clause-idle c = λ i row from below at.
    let q = c.args.self.now in
    let same : q.rows ≡ c.self.inside.rows = search rules in
    let found = c.busy_from.ensures.idle i row from below (sym (ap (λ rows. slice_get rows i) same) ∙ at) in
    let idle = ap (λ rows. is_idle rows row.process) same ∙ found.1 in
    (found.0, λ _. none_means q row.process (idle_may_not q row.process idle))
