use Rattle.std.proofs.Common.{◌≡◌, ◌∙◌, sym, ap, true, false}
use Rattle.std.specs.Prelude.{if◌then◌else◌}
use Rattle.cast_message.specs.declared.site.SiteFrame.TheVariants as frame
use Rattle.cast_stable.specs.Acks.{is_received_in}
use Rattle.cast_rules.specs.Rules.Data.{acknowledge, want_no_more}
use Rattle.cast_rules.specs.Rules.Room.{may_take}
use Rattle.cast_domain.specs.Records.{Records, records_in}
use Rattle.cast_domain.specs.PartCalls.{receive_in, send_in}
use Rattle.cast_domain.specs.Calls.{records}
use Rattle.cast_handlers.proofs.data.use_data.Goals as goal

pub returns-then-is_received-clause-made : goal.returns-then-is_received-clause-made
returns-then-is_received-clause-made c =
    let r = records_in c.args.domain.now c.args.lent.now in
    let m = c.args.message.now in
    let new : Records =
    if may_take records r m.body then want_no_more records (acknowledge records (receive_in r m) c.args.from m.id) m.id else r in
    let received : is_received_in r.acks m.id ≡ true = sym c.is_received.ensures.value ∙ c.if-is_received.true in
    c.in_ok-send.ensures r.part ∙ sym (ap (λ b. if b then send_in r c.args.from (frame.Ack m.id) else new) received)

pub returns-then-not-may_take-clause-made : goal.returns-then-not-may_take-clause-made
returns-then-not-may_take-clause-made c =
    let r = records_in c.args.domain.now c.args.lent.now in
    let m = c.args.message.now in
    let first : Records = want_no_more records (acknowledge records (receive_in r m) c.args.from m.id) m.id in
    let received : is_received_in r.acks m.id ≡ false = sym c.is_received.ensures.value ∙ c.if-is_received.false in
    let full : may_take records r m.body ≡ false = sym c.may_take.ensures ∙ c.if-not-may_take.true in
    sym (ap (λ b. if b then first else r) full)
    ∙ sym (ap (λ b. if b then send_in r c.args.from (frame.Ack m.id) else (if may_take records r m.body then first else r)) received)

pub returns-clause-made : goal.returns-clause-made
returns-clause-made c =
    let r = records_in c.args.domain.now c.args.lent.now in
    let m = c.args.message.now in
    let first : Records = want_no_more records (acknowledge records (receive_in r m) c.args.from m.id) m.id in
    let received : is_received_in r.acks m.id ≡ false = sym c.is_received.ensures.value ∙ c.if-is_received.false in
    let room : may_take records r m.body ≡ true = sym c.may_take.ensures ∙ c.if-not-may_take.false in
    c.want_no_more.ensures.made
    ∙ ap (λ x. want_no_more records x m.id)
    (c.in_ok-acknowledge.ensures.made
    ∙ ap (λ x. acknowledge records x c.args.from m.id) (c.in_ok-receive.ensures.made ∙ ap (receive_in r) c.in_ok-copy.ensures))
    ∙ sym (ap (λ b. if b then first else r) room)
    ∙ sym (ap (λ b. if b then send_in r c.args.from (frame.Ack m.id) else (if may_take records r m.body then first else r)) received)
