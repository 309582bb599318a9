use Rattle.std.proofs.Common.{◌≡◌, true, false, ◌∙◌, sym, ap}
use Rattle.std.specs.Prelude.{if◌then◌else◌}
use Rattle.cast_message.specs.declared.site.SiteFrame.TheVariants as frame
use Rattle.cast_rules.specs.Rules.Data.{is_used, is_outdated, use_data}
use Rattle.cast_domain.specs.Records.{records_in}
use Rattle.cast_domain.specs.PartCalls.{record_at, send_in}
use Rattle.cast_domain.specs.Calls.{records}
use Rattle.cast_handlers.proofs.data.on_data.Goals as goal

pub returns-in_ok-send-clause-made : goal.returns-in_ok-send-clause-made
returns-in_ok-send-clause-made c =
    let lent = c.args.lent.now in
    let r = records_in c.args.domain.now lent in
    let i = c.args.place in
    let m = c.args.message.now in
    let x = record_at r.groups i in
    let told = send_in r c.args.from (frame.Out x.name x.here.number) in
    let unused : is_used records r i c.args.from m ≡ false = sym (c.is_used.ensures lent.outs.now r.part) ∙ c.if-is_used.false in
    let old : is_outdated records r i c.args.from m ≡ true = sym (c.is_outdated.ensures lent.outs.now r.part) ∙ c.if-is_outdated.true in
    let number = c.number-view.ensures ∙ ap (λ y. y.here.number) c.record-record.ensures in
    c.in_ok-send.ensures r.part
    ∙ (λ j. send_in r c.args.from (frame.Out (c.record-record.ensures j).name (number j)))
    ∙ sym (ap (λ b. if b then told else r) old)
    ∙ sym (ap (λ b. if b then use_data records r c.args.from m else if is_outdated records r i c.args.from m then told else r) unused)

pub returns-else-is_outdated-clause-made : goal.returns-else-is_outdated-clause-made
returns-else-is_outdated-clause-made c =
    let lent = c.args.lent.now in
    let r = records_in c.args.domain.now lent in
    let i = c.args.place in
    let m = c.args.message.now in
    let x = record_at r.groups i in
    let told = send_in r c.args.from (frame.Out x.name x.here.number) in
    let unused : is_used records r i c.args.from m ≡ false = sym (c.is_used.ensures lent.outs.now r.part) ∙ c.if-is_used.false in
    let current : is_outdated records r i c.args.from m ≡ false =
    sym (c.is_outdated.ensures lent.outs.now r.part) ∙ c.if-is_outdated.false in
    sym (ap (λ b. if b then told else r) current)
    ∙ sym (ap (λ b. if b then use_data records r c.args.from m else if is_outdated records r i c.args.from m then told else r) unused)
