use Rattle.std.proofs.Common.{◌≡◌, ◌+◌, false, subst}
use Rattle.cast_stable.specs.Runs.{Run, contains}
use Rattle.cast_stable.proofs.Runs.{next_apart}
use Rattle.cast_stable.proofs.counted.Counted.upto.Goals as goal

pub returns-clause-next : goal.returns-clause-next
returns-clause-next c =
    let run : Run = record { upto = c.self.inside.upto; above = c.self.inside.above.keys } in
    subst (λ r. contains r (c.self.inside.upto + 1) ≡ false) c.self.view_is (next_apart run c.self.invariant)
