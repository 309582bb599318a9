use Rattle.std.proofs.Common.{◌≡◌, ◌∙◌, sym, ap, true, not, Some, length, arith}
use Rattle.std.specs.Prelude.{◌&&◌}
use Rattle.cast_clock.specs.Times.{with_bump}
use Rattle.cast_ready.specs.Ready.{is_member}
use Rattle.cast_order.specs.Log.{log_of, next_places}
use Rattle.cast_rules.specs.Rules.Room.{may_order}
use Rattle.cast_rules.specs.Rules.Sending.{may_raise}
use Rattle.cast_rules.specs.Rules.Order.{may_list}
use Rattle.cast_domain.specs.Records.{Records, records_in}
use Rattle.cast_rules.specs.Rules.Release as release
use Rattle.cast_domain.specs.PartCalls.{local_in, record_at, standing_of, time_of}
use Rattle.cast_domain.specs.Calls.{records}
use Rattle.cast_domain.specs.RestCalls.{resting_records}
use Rattle.cast_domain.proofs.Attempts.{places_made, places_none, places_missing, places_unraised, raised_none, raised_some}
use Rattle.cast_domain.proofs.Loops.{groups_let_go}
use Rattle.cast_rest.proofs.order.set_order_by.Goals as goal

pub returns-then-not-may_list-clause-made : goal.returns-then-not-may_list-clause-made
returns-then-not-may_list-clause-made c =
    let r = records_in c.args.domain.now c.args.lent.now in
    let p = c.process-holder.ensures in
    sym (places_none r c.args.place c.args.serial
    ((λ j. is_member (standing_of r.delay (sym p j) (record_at r.groups c.args.place).name)
    && (not (record_at r.groups c.args.place).here.frozen
    && may_order records r)) ∙ sym c.may_list.ensures ∙ c.if-not-may_list.true))

pub returns-in_default-clause-made : goal.returns-in_default-clause-made
returns-in_default-clause-made c =
    let r = records_in c.args.domain.now c.args.lent.now in
    let p = c.process-holder.ensures in
    let i = c.args.place in
    let name : c.record.result.now.name ≡ (record_at r.groups i).name = ap (λ x. x.name) c.record.ensures in
    sym (places_missing r i c.args.serial
    ((λ j. next_places (log_of r.orders (sym name j)) (sym p j)) ∙ sym c.in_ok-places.ensures ∙ c.in_default.is))

pub returns-in_default-2-clause-made : goal.returns-in_default-2-clause-made
returns-in_default-2-clause-made c =
    let r = records_in c.args.domain.now c.args.lent.now in
    let p = c.process-holder.ensures in
    let i = c.args.place in
    let h = c.record.result.now.name in
    let holder = c.process-holder.result in
    let name : h ≡ (record_at r.groups i).name = ap (λ x. x.name) c.record.ensures in
    let may : may_list records resting_records r i c.args.serial ≡ true =
    (λ j. is_member (standing_of r.delay (sym p j) (record_at r.groups c.args.place).name)
    && (not (record_at r.groups c.args.place).here.frozen
    && may_order records r)) ∙ sym c.may_list.ensures ∙ c.if-not-may_list.false in
    let next : next_places (log_of r.orders (record_at r.groups i).name) (local_in r c.args.serial) ≡ Some c.in-Some.places =
    (λ j. next_places (log_of r.orders (sym name j)) (sym p j)) ∙ sym c.in_ok-places.ensures ∙ c.in-Some.is in
    let raised =
    raised_none (may_raise (time_of r.delay holder) h holder) (with_bump (time_of r.delay holder) h holder)
    (sym c.in_default-2.is ∙ c.in_ok-time.ensures) in
    sym (places_unraised r i c.args.serial c.in-Some.places may next
    ((λ j. may_raise (time_of r.delay (sym p j)) (sym name j) (sym p j)) ∙ raised))

pub returns-clause-made : goal.returns-clause-made
returns-clause-made c =
    let r = records_in c.args.domain.now c.args.lent.now in
    let p = c.process-holder.ensures in
    let i = c.args.place in
    let h = c.record.result.now.name in
    let holder = c.process-holder.result in
    let name : h ≡ (record_at r.groups i).name = ap (λ x. x.name) c.record.ensures in
    let may : may_list records resting_records r i c.args.serial ≡ true =
    (λ j. is_member (standing_of r.delay (sym p j) (record_at r.groups c.args.place).name)
    && (not (record_at r.groups c.args.place).here.frozen
    && may_order records r)) ∙ sym c.may_list.ensures ∙ c.if-not-may_list.false in
    let next : next_places (log_of r.orders (record_at r.groups i).name) (local_in r c.args.serial) ≡ Some c.in-Some.places =
    (λ j. next_places (log_of r.orders (sym name j)) (sym p j)) ∙ sym c.in_ok-places.ensures ∙ c.in-Some.is in
    let raised =
    raised_some (may_raise (time_of r.delay holder) h holder) (with_bump (time_of r.delay holder) h holder)
    c.in-Some-2.time c.in-Some-2.stamp (sym c.in-Some-2.is ∙ c.in_ok-time.ensures) in
    c.let_go.ensures.made
    ∙ ap (release.let_go records resting_records) c.in_ok-send_places.ensures.made
    ∙ sym (places_made r i c.args.serial c.in-Some.places may next
    ((λ j. may_raise (time_of r.delay (sym p j)) (sym name j) (sym p j)) ∙ raised.0))

pub send_places-requires-clause-raised : goal.send_places-requires-clause-raised
send_places-requires-clause-raised c =
    let r = records_in c.args.domain.now c.args.lent.now in
    let p = c.process-holder.ensures in
    let holder = c.process-holder.result in
    let h = c.record.result.now.name in
    let name : h ≡ (record_at r.groups c.args.place).name = ap (λ x. x.name) c.record.ensures in
    let raised =
    raised_some (may_raise (time_of r.delay holder) h holder) (with_bump (time_of r.delay holder) h holder)
    c.in-Some-2.time c.in-Some-2.stamp (sym c.in-Some-2.is ∙ c.in_ok-time.ensures) in
    raised.1 ∙ λ j. with_bump (time_of r.delay (p j)) (name j) (p j)

pub returns-clause-len : goal.returns-clause-len
returns-clause-len c =
    let let_go_leaves : length c.let_go.new.self.groups.items ≡ length c.send_places.new.domain.groups.items =
    ap (λ (x : Records). length x.groups) c.let_go.ensures.made
    ∙ ap length (groups_let_go (records_in c.send_places.new.domain c.send_places.new.lent)) in
    let sent = c.in_ok-send_places.ensures.len in
    omega (arith, let_go_leaves, sent)
