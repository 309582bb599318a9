use Rattle.std.proofs.Common.{◌≡◌, true, ap, sym, subst, ◌∙◌, get_or, ◌<◌, length, arith, rules}
use Rattle.std.specs.Prelude.{IsTrue}
use Rattle.std.specs.Ordering.{is_eq}
use Rattle.std.specs.FinMap.Entries.{find, is_sorted}
use Rattle.std.proofs.lemmas.List.{get_or_default}
use Rattle.std.proofs.lemmas.List.Sorted.{answers_always}
use Rattle.cast_types.specs.declared.names.GroupNo.{GroupNo}
use Rattle.cast_types.specs.declared.clock.Clock.{Clock}
use Rattle.cast_types.specs.Names.{group_cmp}
use Rattle.cast_types.specs.Stamps.{ClockList, is_stamp}
use Rattle.cast_types.proofs.Orders.{group_total}
use Rattle.cast_clock.proofs.Valid.{sorted_stamp}
use Rattle.cast_clock.proofs.Halving.{found_here, search_found, search_absent}
use Rattle.cast_ready.proofs.row.clock_near.Goals as goal

rising : (clocks stamp : ClockList) → clocks ≡ stamp → IsTrue (is_stamp stamp) → is_sorted group_cmp clocks ≡ true
rising clocks stamp same valid = sorted_stamp clocks (subst (λ t. IsTrue (is_stamp t)) (sym same) valid)

-- the group at the place is the one that is asked for
pub returns-then-is_eq : goal.returns-then-is_eq
returns-then-is_eq c =
    let clocks = c.clocks-clocks.result.now in
    let place = c.args.place in
    let tested = c.index-clocks-place.result in
    let read = c.index-clocks-place-then-is_eq.result in
    let within : place < length clocks = omega arith in
    let value = c.clocks-clocks.ensures.value in
    let up = rising clocks c.args.times.now value c.clocks-clocks.ensures.valid in
    let tie : is_eq (group_cmp (get_or clocks place read).0 c.args.group) ≡ true =
    ap (λ e. is_eq (group_cmp e.0 c.args.group)) (get_or_default clocks place read tested within)
    ∙ ap is_eq (sym c.cmp.ensures)
    ∙ sym c.is_eq.ensures
    ∙ c.if-is_eq.true in
    sym (found_here group_cmp group_total c.args.group clocks place read up within tie) ∙ ap (find group_cmp c.args.group) value

pub returns-in-Ok : goal.returns-in-Ok
returns-in-Ok c =
    let clocks = c.clocks-clocks.result.now in
    let value = c.clocks-clocks.ensures.value in
    let by_group = c.in-Ok.ensures.position (λ (e : GroupNo × Clock). e.0) (answers_always _ _ _ (λ f a r g called. search rules)) in
    sym (search_found group_cmp group_total c.args.group clocks c.in-Ok.found c.index-clocks-found.result
    (rising clocks c.args.times.now value c.clocks-clocks.ensures.valid) c.in-Ok.ensures.bound by_group)
    ∙ ap (find group_cmp c.args.group) value

pub returns-in-Err : goal.returns-in-Err
returns-in-Err c =
    let clocks = c.clocks-clocks.result.now in
    let value = c.clocks-clocks.ensures.value in
    let by_group = c.in-Err.ensures.position (λ (e : GroupNo × Clock). e.0) (answers_always _ _ _ (λ f a r g called. search rules)) in
    sym (search_absent group_cmp group_total c.args.group clocks c.in-Err.next
    (rising clocks c.args.times.now value c.clocks-clocks.ensures.valid) by_group)
    ∙ ap (find group_cmp c.args.group) value
