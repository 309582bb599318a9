use Rattle.std.proofs.Common.{◌≡◌, ◌++◌, ◌∷◌, [], take, ◌+◌, sym, ap, subst, ◌∙◌}
use Rattle.std.proofs.lemmas.List.{take_more, take_all}
use Rattle.cast_world.specs.declared.step.Step.{Step}
use Rattle.cast_world.specs.declared.world.World.{World}
use Rattle.cast_world.specs.Worlds.{Runs}
use Rattle.cast_world.proofs.Standing.{runs_none, runs_more}
use Rattle.cast_world.proofs.world.World.take_all.Goals as goal

pub loop-step-init : goal.loop-step-init
loop-step-init c = runs_none c.args.self.now

pub loop-step-preserved : goal.loop-step-preserved
loop-step-preserved c =
    let i = c.loop-step.step-index in
    let steps = c.args.steps.now in
    let step : Step = c.step-item.result in
    let old : World = c.args.self.now in
    let one : take i steps ++ step ∷ [] ≡ take (i + 1) steps =
    ap (λ x. take i steps ++ x ∷ []) c.step-item.is ∙ sym (take_more steps i step c.loop-step-test.true) in
    subst (λ ss. Runs ss old c.take.new.self)
    one (runs_more (take i steps) step old c.loop-step.self c.take.new.self c.loop-step.invariant c.in_ok-take.ensures)

pub returns : goal.returns
returns c =
    let old : World = c.args.self.now in
    subst (λ ss. Runs ss old c.loop-step.self) (take_all c.loop-step.step-index c.args.steps.now c.loop-step-test.false)
    c.loop-step.invariant
