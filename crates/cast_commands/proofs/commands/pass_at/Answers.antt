use Rattle.std.proofs.Common.{◌≡◌, ◌∙◌, sym, ap, true, false, not, Some, None, []}
use Rattle.std.specs.Prelude.{if◌then◌else◌, is_some}
use Rattle.std.specs.Option.{option_map_or}
use Rattle.cast_types.specs.Names.{proc_eq}
use Rattle.cast_types.specs.Sets.{is_among}
use Rattle.cast_types.specs.declared.refusal.Refusal.TheVariants.{HeldFull}
use Rattle.cast_clock.specs.Times.{with_bump, count_in}
use Rattle.cast_message.specs.declared.message.Body.TheVariants as body
use Rattle.cast_message.specs.declared.message.Message.{Message}
use Rattle.cast_ready.specs.Ready.{is_member}
use Rattle.cast_order.specs.Log.{hand_here, log_of}
use Rattle.cast_view.specs.MemberSide.{members_of}
use Rattle.cast_rules.specs.Rules.Room.{may_order}
use Rattle.cast_rules.specs.Rules.Sending.{send_message, may_raise}
use Rattle.cast_rules.specs.Rules.Leaving.{Attempt}
use Rattle.cast_rules.specs.Rules.Commands.{body_handing, hand_over, message_sent, send_own}
use Rattle.cast_domain.specs.Records.{Records, records_in}
use Rattle.cast_domain.specs.PartCalls.{awaits_own_in, local_in, note_sent_by, record_at, standing_of, time_of}
use Rattle.cast_domain.specs.ReleaseCalls.{place_to_pass_of}
use Rattle.cast_domain.specs.Calls.{records}
use Rattle.cast_domain.proofs.Attempts.{raised_some}
use Rattle.cast_domain.proofs.Handing.{pass_past}
use Rattle.cast_domain.proofs.Loops.{seen_as}
use Rattle.cast_commands.proofs.commands.pass_at.Goals as goal

pub returns-in_default-place_to_pass-clause-made : goal.returns-in_default-place_to_pass-clause-made
returns-in_default-place_to_pass-clause-made c =
    let r = records_in c.args.domain.now c.args.lent.now in
    let k = c.args.serial in
    let g = c.args.group in
    let i = c.args.at in
    let q = c.process-process.result in
    let x = record_at r.groups i in
    let here : q ≡ local_in r k = c.process-process.ensures in
    let kept : c.record-kept.result.now ≡ x = c.record-kept.ensures in
    let member : is_member (standing_of r.delay q g) ≡ true = ap is_member (sym c.standing.ensures.value ∙ c.in-Member.is) in
    let named : is_among proc_eq c.args.to (members_of x.here) ≡ true =
    sym (c.is_named.ensures ∙ ap (is_among proc_eq c.args.to) (c.members.ensures.value ∙ ap (λ y. members_of y.here) kept))
    ∙ c.if-not-is_named.false in
    let going : x.here.frozen ≡ false = sym (c.is_frozen.ensures ∙ ap (λ y. y.here.frozen) kept) ∙ c.if-is_frozen.false in
    let own : awaits_own_in r q ≡ false = sym c.awaits_own.ensures ∙ c.if-awaits_own.false in
    let first : c.first.result ≡ (hand_here (log_of r.orders x.name) q).first =
    c.first.ensures ∙ ap (λ y. (hand_here (log_of r.orders y.name) q).first) kept in
    let holding : is_some (hand_here (log_of r.orders x.name) q).first ≡ true =
    ap is_some (sym first) ∙ c.is_none.ensures ∙ ap not c.if-is_none.false in
    let room : may_order records r ≡ true = sym c.has_order_room.ensures ∙ c.if-not-has_order_room.false in
    let raised = raised_some (may_raise (time_of r.delay q) g q) (with_bump (time_of r.delay q) g q) c.in-Some.time c.in-Some.stamp
    (sym c.in-Some.is ∙ c.in_ok-time.ensures) in
    let past = pass_past r k g c.args.to i q here member named going own holding room raised.0 in
    let none : place_to_pass_of r q x ≡ None =
    sym (c.place_to_pass.ensures ∙ ap (place_to_pass_of r q) kept) ∙ c.in_default-place_to_pass.is in
    sym (past ∙ ap (λ o. option_map_or (hand_over records r k g c.args.to i) o (r, Some HeldFull)) none)

-- handed over to itself, it stays where it is
pub returns-then-eq-clause-made : goal.returns-then-eq-clause-made
returns-then-eq-clause-made c =
    let r = records_in c.args.domain.now c.args.lent.now in
    let k = c.args.serial in
    let g = c.args.group in
    let i = c.args.at in
    let q = c.process-process.result in
    let x = record_at r.groups i in
    let here : q ≡ local_in r k = c.process-process.ensures in
    let kept : c.record-kept.result.now ≡ x = c.record-kept.ensures in
    let member : is_member (standing_of r.delay q g) ≡ true = ap is_member (sym c.standing.ensures.value ∙ c.in-Member.is) in
    let named : is_among proc_eq c.args.to (members_of x.here) ≡ true =
    sym (c.is_named.ensures ∙ ap (is_among proc_eq c.args.to) (c.members.ensures.value ∙ ap (λ y. members_of y.here) kept))
    ∙ c.if-not-is_named.false in
    let going : x.here.frozen ≡ false = sym (c.is_frozen.ensures ∙ ap (λ y. y.here.frozen) kept) ∙ c.if-is_frozen.false in
    let own : awaits_own_in r q ≡ false = sym c.awaits_own.ensures ∙ c.if-awaits_own.false in
    let first : c.first.result ≡ (hand_here (log_of r.orders x.name) q).first =
    c.first.ensures ∙ ap (λ y. (hand_here (log_of r.orders y.name) q).first) kept in
    let holding : is_some (hand_here (log_of r.orders x.name) q).first ≡ true =
    ap is_some (sym first) ∙ c.is_none.ensures ∙ ap not c.if-is_none.false in
    let room : may_order records r ≡ true = sym c.has_order_room.ensures ∙ c.if-not-has_order_room.false in
    let raised = raised_some (may_raise (time_of r.delay q) g q) (with_bump (time_of r.delay q) g q) c.in-Some.time c.in-Some.stamp
    (sym c.in-Some.is ∙ c.in_ok-time.ensures) in
    let past = pass_past r k g c.args.to i q here member named going own holding room raised.0 in
    let place : place_to_pass_of r q x ≡ Some c.in-Some-place_to_pass.place =
    sym (c.place_to_pass.ensures ∙ ap (place_to_pass_of r q) kept) ∙ c.in-Some-place_to_pass.is in
    let same : proc_eq c.args.to (local_in r k) ≡ true = ap (proc_eq c.args.to) (sym here) ∙ sym c.eq.ensures ∙ c.if-eq.true in
    let sends : Attempt Records = (
      send_own records r k (message_sent records r k g i (body_handing c.in-Some-place_to_pass.place c.args.to)),
      None,
    ) in
    sym (past
    ∙ ap (λ o. option_map_or (hand_over records r k g c.args.to i) o (r, Some HeldFull)) place
    ∙ ap (λ b. if b then (r, None) else sends) same)

pub note_sent-requires : goal.note_sent-requires
note_sent-requires c =
    let r = records_in c.args.domain.now c.args.lent.now in
    let q = c.process-process.result in
    let g = c.args.group in
    let raised = raised_some (may_raise (time_of r.delay q) g q) (with_bump (time_of r.delay q) g q) c.in-Some.time c.in-Some.stamp
    (sym c.in-Some.is ∙ c.in_ok-time.ensures) in
    raised.2 ∙ sym raised.1

pub returns-clause-made : goal.returns-clause-made
returns-clause-made c =
    let r = records_in c.args.domain.now c.args.lent.now in
    let k = c.args.serial in
    let g = c.args.group in
    let i = c.args.at in
    let q = c.process-process.result in
    let x = record_at r.groups i in
    let here : q ≡ local_in r k = c.process-process.ensures in
    let kept : c.record-kept.result.now ≡ x = c.record-kept.ensures in
    let member : is_member (standing_of r.delay q g) ≡ true = ap is_member (sym c.standing.ensures.value ∙ c.in-Member.is) in
    let named : is_among proc_eq c.args.to (members_of x.here) ≡ true =
    sym (c.is_named.ensures ∙ ap (is_among proc_eq c.args.to) (c.members.ensures.value ∙ ap (λ y. members_of y.here) kept))
    ∙ c.if-not-is_named.false in
    let going : x.here.frozen ≡ false = sym (c.is_frozen.ensures ∙ ap (λ y. y.here.frozen) kept) ∙ c.if-is_frozen.false in
    let own : awaits_own_in r q ≡ false = sym c.awaits_own.ensures ∙ c.if-awaits_own.false in
    let first : c.first.result ≡ (hand_here (log_of r.orders x.name) q).first =
    c.first.ensures ∙ ap (λ y. (hand_here (log_of r.orders y.name) q).first) kept in
    let holding : is_some (hand_here (log_of r.orders x.name) q).first ≡ true =
    ap is_some (sym first) ∙ c.is_none.ensures ∙ ap not c.if-is_none.false in
    let room : may_order records r ≡ true = sym c.has_order_room.ensures ∙ c.if-not-has_order_room.false in
    let raised = raised_some (may_raise (time_of r.delay q) g q) (with_bump (time_of r.delay q) g q) c.in-Some.time c.in-Some.stamp
    (sym c.in-Some.is ∙ c.in_ok-time.ensures) in
    let past = pass_past r k g c.args.to i q here member named going own holding room raised.0 in
    let to = c.args.to in
    let at = c.in-Some-place_to_pass.place in
    let place : place_to_pass_of r q x ≡ Some at =
    sym (c.place_to_pass.ensures ∙ ap (place_to_pass_of r q) kept) ∙ c.in-Some-place_to_pass.is in
    let other : proc_eq to (local_in r k) ≡ false = ap (proc_eq to) (sym here) ∙ sym c.eq.ensures ∙ c.if-eq.false in
    let sends : Attempt Records = (send_own records r k (message_sent records r k g i (body_handing at to)), None) in
    let stamp : c.in-Some.stamp ≡ with_bump (time_of r.delay (local_in r k)) g (local_in r k) =
    raised.2 ∙ ap (λ y. with_bump (time_of r.delay y) g y) here in
    let time : c.in-Some.time ≡ with_bump (time_of r.delay (local_in r k)) g (local_in r k) =
    raised.1 ∙ ap (λ y. with_bump (time_of r.delay y) g y) here in
    let view : c.number.result ≡ x.here.number = c.number.ensures ∙ ap (λ y. y.here.number) kept in
    let count : c.count.result ≡ count_in (with_bump (time_of r.delay (local_in r k)) g (local_in r k)) g (local_in r k) =
    c.count.ensures ∙ λ j. count_in (time j) g (here j) in
    let placed : c.from_parts.result ≡ record { first = at; ids = []; holder = Some to } =
    c.from_parts.ensures ∙ λ j. record { first = at; ids = c.new.ensures.items j; holder = Some to } in
    let made : Message = record {
      id = record { group = g; view = c.number.result; proc = q; count = c.count.result };
      times = c.in-Some.stamp;
      body = body.Order c.from_parts.result;
    } in
    let noted : records_in c.note_sent.new.self c.args.lent.now ≡ note_sent_by r q made =
    seen_as c.args.domain.now c.note_sent.new.self c.in_ok-note_sent.ensures.same c.args.lent.now.shared.now c.args.lent.now.outs.now
    ∙ c.in_ok-note_sent.ensures.made c.args.lent.now.outs.now r.part in
    let sent : records_in c.send_message.new.self c.send_message.new.lent
    ≡ send_own records r k (message_sent records r k g i (body_handing at to)) =
    c.in_ok-send_message.ensures.made
    ∙ (λ j. send_message records (noted j) made)
    ∙ λ j. send_message records (note_sent_by r (here j) (record {
      id = record { group = g; view = view j; proc = here j; count = count j };
      times = stamp j;
      body = body.Order (placed j);
    })) (record {
      id = record { group = g; view = view j; proc = here j; count = count j };
      times = stamp j;
      body = body.Order (placed j);
    }) in
    ap (λ s. (s, None)) sent
    ∙ sym (past
    ∙ ap (λ o. option_map_or (hand_over records r k g to i) o (r, Some HeldFull)) place
    ∙ ap (λ b. if b then (r, None) else sends) other)
