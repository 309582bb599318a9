use Rattle.std.proofs.Common.{◌≡◌, ◌∷◌, suc, length, ap, sym, ◌∙◌, arith}
use Rattle.std.specs.Vec.Iter.{into_iter_items}
use Rattle.std.specs.FinMap.Entries.{is_sorted-put}
use Rattle.cast_types.specs.Names.{group_cmp}
use Rattle.cast_types.proofs.Orders.{group_total}
use Rattle.cast_clock.specs.News.{put_all}
use Rattle.cast_clock.proofs.Entries.{as_T, from_T}
use Rattle.cast_clock.proofs.clocks.put_all.Goals as goal

pub loop-group-preserved : goal.loop-group-preserved
loop-group-preserved c =
    let before = c.loop-group.clocks.items in
    let left = into_iter_items c.next.new.self in
    let first : into_iter_items c.loop-group.group-iterator ≡ (c.in-Some.group, c.in-Some.clock) ∷ left = c.in-Some.ensures.steps.0 in
    let count : length (into_iter_items c.loop-group.group-iterator) ≡ suc (length left) = ap length first in
    let made = c.in_ok-place.ensures.value in
    record {
      same = ap (put_all left) made ∙ ap (λ xs. put_all xs before) (sym first) ∙ c.loop-group.invariant.same;
      room = omega (arith, count, c.loop-group.invariant.room, c.in_ok-place.ensures.len, c.in_ok-place.ensures.capacity);
      in_order = rw made
          (from_T _ (is_sorted-put group_cmp group_total c.in-Some.group c.in-Some.clock before (as_T _ c.loop-group.invariant.in_order)));
    }
