use Rattle.std.proofs.Common.{◌≡◌, ◌+◌, ◌∙◌, sym, ap, false, true, None, length, arith}
use Rattle.std.specs.Prelude.{nat_lt}
use Rattle.std.proofs.lemmas.Bool.Decides.{nat_tests}
use Rattle.std.proofs.Math.Nat.{min_comm}
use Rattle.cast_events.specs.declared.limits.TheConstants.{MAX_CASTS}
use Rattle.cast_types.specs.declared.limits.TheConstants.{MAX_PAYLOAD}
use Rattle.cast_clock.specs.Times.{with_bump, count_in}
use Rattle.cast_message.specs.declared.message.Message.{Message}
use Rattle.cast_rules.specs.Rules.Commands.{body_of}
use Rattle.cast_ready.specs.Ready.{is_member}
use Rattle.cast_rules.specs.Rules.Room.{may_receive}
use Rattle.cast_rules.specs.Rules.Sending.{send_message, may_raise}
use Rattle.cast_domain.specs.Records.{records_in}
use Rattle.cast_domain.specs.PartCalls.{awaits_own_in, count_cast_in, note_sent_by, record_at, standing_of, time_of, local_in}
use Rattle.cast_domain.specs.Calls.{records}
use Rattle.cast_domain.proofs.Attempts.{sent, cast_made, cast_owned, cast_full, cast_unraised, raised_none, raised_some}
use Rattle.cast_domain.proofs.Loops.{seen_as}
use Rattle.cast_commands.proofs.commands.cast_at.Goals as goal

pub returns-then-not-has_room-clause-made : goal.returns-then-not-has_room-clause-made
returns-then-not-has_room-clause-made c =
    let r = records_in c.args.domain.now c.args.lent.now in
    let going : (record_at r.groups c.args.at).here.frozen ≡ false =
    sym (c.is_frozen.ensures ∙ ap (λ x. x.here.frozen) c.record.ensures) ∙ c.if-is_frozen.false in
    let short : nat_lt MAX_PAYLOAD (length c.args.payload.now) ≡ false = grind (arith, nat_tests) in
    let member : is_member (standing_of r.delay (local_in r c.args.serial) c.args.group) ≡ true =
    ap is_member
    (sym (c.standing.ensures.value ∙ ap (λ x. standing_of r.delay x c.args.group) c.process-process.ensures) ∙ c.in-Member.is) in
    let own_is : c.awaits_own.result ≡ awaits_own_in r (local_in r c.args.serial) =
    c.awaits_own.ensures ∙ ap (awaits_own_in r) c.process-process.ensures in
    sym (cast_full r c.args.serial c.args.group c.args.kind c.args.payload.now c.args.at short member going
    (sym own_is ∙ c.if-awaits_own.false) (sym c.has_room.ensures ∙ c.if-not-has_room.true))

pub returns-then-awaits_own-clause-made : goal.returns-then-awaits_own-clause-made
returns-then-awaits_own-clause-made c =
    let r = records_in c.args.domain.now c.args.lent.now in
    let going : (record_at r.groups c.args.at).here.frozen ≡ false =
    sym (c.is_frozen.ensures ∙ ap (λ x. x.here.frozen) c.record.ensures) ∙ c.if-is_frozen.false in
    let short : nat_lt MAX_PAYLOAD (length c.args.payload.now) ≡ false = grind (arith, nat_tests) in
    let member : is_member (standing_of r.delay (local_in r c.args.serial) c.args.group) ≡ true =
    ap is_member
    (sym (c.standing.ensures.value ∙ ap (λ x. standing_of r.delay x c.args.group) c.process-process.ensures) ∙ c.in-Member.is) in
    let own_is : c.awaits_own.result ≡ awaits_own_in r (local_in r c.args.serial) =
    c.awaits_own.ensures ∙ ap (awaits_own_in r) c.process-process.ensures in
    sym (cast_owned r c.args.serial c.args.group c.args.kind c.args.payload.now c.args.at short member going
    (sym own_is ∙ c.if-awaits_own.true))

pub returns-in_default-clause-made : goal.returns-in_default-clause-made
returns-in_default-clause-made c =
    let r = records_in c.args.domain.now c.args.lent.now in
    let k = c.args.serial in
    let g = c.args.group in
    let p : c.process-process.result ≡ local_in r k = c.process-process.ensures in
    let q = c.process-process.result in
    let going : (record_at r.groups c.args.at).here.frozen ≡ false =
    sym (c.is_frozen.ensures ∙ ap (λ x. x.here.frozen) c.record.ensures) ∙ c.if-is_frozen.false in
    let short : nat_lt MAX_PAYLOAD (length c.args.payload.now) ≡ false = grind (arith, nat_tests) in
    let member : is_member (standing_of r.delay (local_in r k) g) ≡ true =
    ap is_member (sym (c.standing.ensures.value ∙ ap (λ x. standing_of r.delay x g) p) ∙ c.in-Member.is) in
    let own : awaits_own_in r (local_in r k) ≡ false = sym (c.awaits_own.ensures ∙ ap (awaits_own_in r) p) ∙ c.if-awaits_own.false in
    let room : may_receive records r ≡ true = sym c.has_room.ensures ∙ c.if-not-has_room.false in
    let may : may_raise (time_of r.delay q) g q ≡ false =
    raised_none (may_raise (time_of r.delay q) g q) (with_bump (time_of r.delay q) g q) (sym c.in_default.is ∙ c.in_ok-time.ensures) in
    sym (cast_unraised r k g c.args.kind c.args.payload.now c.args.at short member going own room
    (ap (λ x. may_raise (time_of r.delay x) g x) (sym p) ∙ may))

pub returns-clause-made : goal.returns-clause-made
returns-clause-made c =
    let r = records_in c.args.domain.now c.args.lent.now in
    let k = c.args.serial in
    let i = c.args.at in
    let g = c.args.group in
    let p : c.process-process.result ≡ local_in r k = c.process-process.ensures in
    let q = c.process-process.result in
    let raised = raised_some (may_raise (time_of r.delay q) g q) (with_bump (time_of r.delay q) g q) c.in-Some.time c.in-Some.stamp
    (sym c.in-Some.is ∙ c.in_ok-time.ensures) in
    let time : c.in-Some.time ≡ with_bump (time_of r.delay (local_in r k)) g (local_in r k) =
    raised.1 ∙ ap (λ x. with_bump (time_of r.delay x) g x) p in
    let stamp : c.in-Some.stamp ≡ with_bump (time_of r.delay (local_in r k)) g (local_in r k) =
    raised.2 ∙ ap (λ x. with_bump (time_of r.delay x) g x) p in
    let view : c.number.result ≡ (record_at r.groups i).here.number = c.number.ensures ∙ ap (λ x. x.here.number) c.record-2.ensures in
    let count : c.count.result ≡ count_in (with_bump (time_of r.delay (local_in r k)) g (local_in r k)) g (local_in r k) =
    c.count.ensures ∙ λ j. count_in (time j) g (p j) in
    let going : (record_at r.groups c.args.at).here.frozen ≡ false =
    sym (c.is_frozen.ensures ∙ ap (λ x. x.here.frozen) c.record.ensures) ∙ c.if-is_frozen.false in
    let short : nat_lt MAX_PAYLOAD (length c.args.payload.now) ≡ false = grind (arith, nat_tests) in
    let member : is_member (standing_of r.delay (local_in r k) g) ≡ true =
    ap is_member (sym (c.standing.ensures.value ∙ ap (λ x. standing_of r.delay x g) p) ∙ c.in-Member.is) in
    let room : may_receive records r ≡ true = sym c.has_room.ensures ∙ c.if-not-has_room.false in
    let own : awaits_own_in r (local_in r k) ≡ false = sym (c.awaits_own.ensures ∙ ap (awaits_own_in r) p) ∙ c.if-awaits_own.false in
    let may : may_raise (time_of r.delay (local_in r k)) g (local_in r k) ≡ true =
    ap (λ x. may_raise (time_of r.delay x) g x) (sym p) ∙ raised.0 in
    let content : c.body_of.result ≡ body_of c.args.kind c.args.payload.now =
    c.body_of.ensures ∙ ap (body_of c.args.kind) c.in_ok-content.ensures in
    let made : Message = record {
      id = record { group = g; view = c.number.result; proc = q; count = c.count.result };
      times = c.in-Some.stamp;
      body = c.body_of.result;
    } in
    let noted : records_in c.note_sent.new.self c.args.lent.now ≡ note_sent_by r q made =
    seen_as c.args.domain.now c.note_sent.new.self c.in_ok-note_sent.ensures.same c.args.lent.now.shared.now c.args.lent.now.outs.now
    ∙ c.in_ok-note_sent.ensures.made c.args.lent.now.outs.now r.part in
    let sends : records_in c.send_message.new.self c.send_message.new.lent ≡ sent r k g c.args.kind c.args.payload.now i =
    c.in_ok-send_message.ensures.made
    ∙ (λ j. send_message records (noted j) made)
    ∙ λ j. send_message records (note_sent_by r (p j) (record {
      id = record { group = g; view = view j; proc = p j; count = count j };
      times = stamp j;
      body = content j;
    })) (record {
      id = record { group = g; view = view j; proc = p j; count = count j };
      times = stamp j;
      body = content j;
    }) in
    ap (λ x. (x, None))
    ((λ j. record (records_in c.send_message.new.self c.send_message.new.lent) {
      casts = (c.saturating_add-domain.ensures
          ∙ min_comm (c.send_message.new.self.casts + 1) MAX_CASTS) j;
    }) ∙ ap count_cast_in sends)
    ∙ sym (cast_made r k g c.args.kind c.args.payload.now i short member going own room may)
