use Rattle.std.proofs.Common.{◌≡◌, ◌+◌, ◌≤◌, ℕ, List, ◌∷◌, length, take, subst, ap, ◌∙◌, inl, inr, arith}
use Rattle.std.specs.Vec.Iter.{into_iter_items}
use Rattle.std.proofs.lemmas.Bool.{cases_Bool, not_from_false}
use Rattle.cast_sending.specs.Frames.{Frame}
use Rattle.cast_sending.specs.Stables.{is_joined}
use Rattle.cast_sending.proofs.Waits.{JoinedSoFar, few_left_out, all_joined, going_first, none_joined, one_left_out, one_joins, one_stays}
use Rattle.cast_sending.proofs.stables.join_all.Goals as goal

pub overflow_add-lost : goal.overflow_add-lost
overflow_add-lost c =
    let few : c.loop-frame.lost + length (into_iter_items c.loop-frame.frame-iterator) ≤ length c.args.waiting.items =
    few_left_out c.loop-frame.invariant.joined in
    let some : length (into_iter_items c.loop-frame.frame-iterator) ≡ length (c.in-Some.frame ∷ into_iter_items c.next.new.self) =
    ap length c.in-Some.ensures.steps.0 in
    omega (arith, few, some, c.args.waiting.ok.0, c.args.waiting.small)

pub loop-frame-preserved-then-not-is_kept : goal.loop-frame-preserved-then-not-is_kept
loop-frame-preserved-then-not-is_kept c =
    let old = c.args.waiting.items in
    let going = c.args.going.now.items in
    let turned =
    subst (λ (l : List Frame). JoinedSoFar old going l c.loop-frame.going.items c.loop-frame.others.items c.loop-frame.lost)
    c.in-Some.ensures.steps.0
    c.loop-frame.invariant.joined in
    let lost = c.if-not-is_kept.ensures.lost in
    record { joined = rw (lost.0, lost.1) (one_left_out turned); count = c.loop-frame.invariant.count }

pub loop-frame-preserved : goal.loop-frame-preserved
loop-frame-preserved c =
    let old = c.args.waiting.items in
    let going = c.args.going.now.items in
    let turned =
    subst (λ (l : List Frame). JoinedSoFar old going l c.loop-frame.going.items c.loop-frame.others.items c.loop-frame.lost)
    c.in-Some.ensures.steps.0
    c.loop-frame.invariant.joined in
    let first : take c.len-count.result c.loop-frame.going.items ≡ going =
    ap (λ (n : ℕ). take n c.loop-frame.going.items) c.loop-frame.invariant.count ∙ going_first c.loop-frame.invariant.joined in
    let same : is_joined (take c.len-count.result c.loop-frame.going.items) c.in-Some.frame ≡ is_joined going c.in-Some.frame =
    ap (λ (l : List Frame). is_joined l c.in-Some.frame) first in
    elim (cases_Bool (is_joined going c.in-Some.frame)) [
      | inl joins ↦
          let goes = c.if-not-is_kept.ensures.joins (same ∙ joins) in
          record { joined = rw (goes.0, goes.1) (one_joins turned joins); count = c.loop-frame.invariant.count }
      | inr stays ↦
          let waits =
          c.if-not-is_kept.ensures.waits
          (not_from_false (is_joined (take c.len-count.result c.loop-frame.going.items) c.in-Some.frame) (same ∙ stays)) in
          record { joined = rw (waits.0, waits.1) (one_stays turned stays); count = c.loop-frame.invariant.count }
    ]

pub loop-frame-init : goal.loop-frame-init
loop-frame-init c = record {
  joined = none_joined c.args.waiting.items c.args.going.now.items (into_iter_items c.into_iter-frame-iterator.result)
      c.new-others.result.items
      c.into_iter-frame-iterator.ensures.into_iter_gives.0 c.new-others.ensures.items;
  count = omega (arith, c.len-count.ensures, c.args.going.now.ok.0);
}

pub returns : goal.returns
returns c =
    let none : length (into_iter_items c.loop-frame.frame-iterator) ≡ 0 =
    omega (arith, c.in-None.ensures.steps.0, c.loop-frame.frame-iterator.rest.ok.0) in
    all_joined (into_iter_items c.loop-frame.frame-iterator) none c.loop-frame.invariant.joined
