use Rattle.std.proofs.Common.{◌≡◌, ◌≢◌, ◌+◌, sym, ap, ◌∙◌, arith}
use Rattle.std.proofs.lemmas.Grind.{common_steps}
use Rattle.cast_stable.specs.Runs.{Run, absorb}
use Rattle.cast_stable.proofs.Runs.{absorbed_apart}
use Rattle.cast_stable.proofs.counted.absorb.Goals as goal

-- the first count that is left does not go on with the run
stopped : (c : goal.Then-ne) → c.in-Some.next.now ≢ c.loop-next.last + 1
stopped c = grind (arith, common_steps)

ends : (c : goal.Then-ne) → absorb c.args.count c.args.above.now.keys ≡ record { upto = c.loop-next.last; above = c.loop-next.above.keys }
ends c =
    sym c.loop-next.invariant
    ∙ absorbed_apart c.loop-next.last c.in-Some.next.now c.loop-next.above.keys c.in-Some.ensures.first (stopped c)

pub returns-then-ne-clause-last : goal.returns-then-ne-clause-last
returns-then-ne-clause-last c = ap (λ (r : Run). r.upto) (sym (ends c))

pub returns-then-ne-clause-rest : goal.returns-then-ne-clause-rest
returns-then-ne-clause-rest c = ap (λ (r : Run). r.above) (sym (ends c))
