use Rattle.std.proofs.Common.{◌≡◌, ◌∙◌, ◌<◌, ◌≤◌, length, set, Ok, Err, sym, subst, rules}
use Rattle.std.specs.List.Sorted.{IsBinarySearchResult}
use Rattle.std.specs.List.{insert}
use Rattle.cast_types.specs.declared.names.GroupNo.{GroupNo}
use Rattle.cast_types.specs.declared.clock.Clock.{Clock}
use Rattle.cast_types.specs.Names.{group_cmp}
use Rattle.cast_types.proofs.Orders.{group_total}
use Rattle.cast_clock.proofs.Halving.{put_found, put_absent}
use Rattle.cast_clock.proofs.clocks.put_near.Goals as goal

-- the group was there, and its clock is written over
pub returns-in-Ok-clause-value : goal.returns-in-Ok-clause-value
returns-in-Ok-clause-value c =
    let es = c.args.clocks.now.items in
    let searched =
    subst (λ l. IsBinarySearchResult (λ (e : GroupNo × Clock). group_cmp e.0 c.args.group) l (Ok c.in-Ok.at))
    c.deref.ensures.value c.in-Ok.ensures.position in
    let within : c.in-Ok.at < length es = search rules in
    let is = put_found group_cmp group_total c.args.group c.args.clock es c.in-Ok.at c.index_mut.result.now c.requires within searched in
    (λ i. set es c.in-Ok.at ((c.index_mut.ensures.value i).0, c.args.clock)) ∙ sym is

-- it was not, and stands between those below it and those above
pub returns-in_ok-insert-in-Err-clause-value : goal.returns-in_ok-insert-in-Err-clause-value
returns-in_ok-insert-in-Err-clause-value c =
    let es = c.args.clocks.now.items in
    let searched =
    subst (λ l. IsBinarySearchResult (λ (e : GroupNo × Clock). group_cmp e.0 c.args.group) l (Err c.in-Err.at))
    c.deref.ensures.value c.in-Err.ensures.position in
    let within : c.in-Err.at ≤ length es = search rules in
    let items : c.insert.new.self.items ≡ insert es c.in-Err.at (c.args.group, c.args.clock) = search rules in
    items ∙ sym (put_absent group_cmp group_total c.args.group c.args.clock es c.in-Err.at c.requires within searched)
