use Rattle.std.proofs.Common.{◌≡◌, ◌+◌, ◌≤◌, List, ◌∷◌, length, subst, ap, inl, inr, arith}
use Rattle.std.specs.Vec.Iter.{into_iter_items}
use Rattle.std.proofs.lemmas.Bool.{cases_Bool, not_from_false}
use Rattle.cast_sending.specs.Frames.{Frame, is_stable}
use Rattle.cast_sending.proofs.Waits.{HeldSoFar, all_held, few_lost, none_held, one_lost, one_waits, one_goes}
use Rattle.cast_sending.proofs.stables.hold_all.Goals as goal

pub overflow_add-lost : goal.overflow_add-lost
overflow_add-lost c =
    let few : c.loop-frame.lost + length (into_iter_items c.loop-frame.frame-iterator) ≤ length c.args.frames.items =
    few_lost c.loop-frame.invariant in
    let some : length (into_iter_items c.loop-frame.frame-iterator) ≡ length (c.in-Some.frame ∷ into_iter_items c.next.new.self) =
    ap length c.in-Some.ensures.steps.0 in
    omega (arith, few, some, c.args.frames.ok.0, c.args.frames.small)

pub loop-frame-preserved-then-not-is_kept : goal.loop-frame-preserved-then-not-is_kept
loop-frame-preserved-then-not-is_kept c =
    let came = c.args.frames.items in
    let old = c.args.waiting.now.items in
    let turned =
    subst (λ (l : List Frame). HeldSoFar old came l c.loop-frame.others.items c.loop-frame.waiting.items c.loop-frame.lost)
    c.in-Some.ensures.steps.0
    c.loop-frame.invariant in
    let lost = c.if-not-is_kept.ensures.lost in
    rw (lost.0, lost.1) (one_lost turned)

pub loop-frame-preserved : goal.loop-frame-preserved
loop-frame-preserved c =
    let came = c.args.frames.items in
    let old = c.args.waiting.now.items in
    let turned =
    subst (λ (l : List Frame). HeldSoFar old came l c.loop-frame.others.items c.loop-frame.waiting.items c.loop-frame.lost)
    c.in-Some.ensures.steps.0
    c.loop-frame.invariant in
    elim (cases_Bool (is_stable c.in-Some.frame)) [
      | inl stable ↦
          let waits = c.if-not-is_kept.ensures.waits stable in
          rw waits.1 (one_waits turned stable waits.0 c.hold_one-is_kept.ensures.stables)
      | inr other ↦
          let goes = c.if-not-is_kept.ensures.goes (not_from_false (is_stable c.in-Some.frame) other) in
          rw (goes.0, goes.1) (one_goes turned other)
    ]

pub loop-frame-init : goal.loop-frame-init
loop-frame-init c =
    none_held c.args.waiting.now.items c.args.frames.items (into_iter_items c.into_iter-frame-iterator.result) c.new-others.result.items
    c.into_iter-frame-iterator.ensures.into_iter_gives.0 c.new-others.ensures.items c.requires

pub returns-clause-held : goal.returns-clause-held
returns-clause-held c =
    let none : length (into_iter_items c.loop-frame.frame-iterator) ≡ 0 =
    omega (arith, c.in-None.ensures.steps.0, c.loop-frame.frame-iterator.rest.ok.0) in
    all_held (into_iter_items c.loop-frame.frame-iterator) none c.loop-frame.invariant
