use Rattle.std.proofs.Common.{sym, ap, ◌∙◌}
use Rattle.cast_stable.specs.Runs.{Run, greatest}
use Rattle.cast_stable.proofs.Last.{greatest_last}
use Rattle.cast_stable.proofs.counted.Counted.greatest.Goals as goal

pub returns-in-Some : goal.returns-in-Some
returns-in-Some c =
    let run : Run = record { upto = c.self.inside.upto; above = c.self.inside.above.keys } in
    record { value = sym (greatest_last run c.in-Some.last.now c.self.invariant c.in-Some.ensures.last) ∙ ap greatest c.self.view_is }
