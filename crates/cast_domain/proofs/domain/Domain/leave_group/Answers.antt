use Rattle.std.proofs.Common.{◌≡◌, ◌∙◌, sym, ap, true, false}
use Rattle.std.specs.Prelude.{◌==◌, if◌then◌else◌}
use Rattle.std.proofs.lemmas.Bool.{eq-eqb, ne_eqb}
use Rattle.std.proofs.lemmas.Result.{on_ok_weaker}
use Rattle.cast_types.specs.declared.limits.TheConstants.{MAX_NUMBER}
use Rattle.cast_types.specs.declared.names.Standing.TheVariants.{Outside}
use Rattle.cast_message.specs.declared.site.Change.TheVariants as change
use Rattle.cast_ready.specs.declared.row.ProcessUpdate.TheVariants as fact
use Rattle.cast_rules.specs.Rules.Asking.{request}
use Rattle.cast_domain.specs.declared.record.GroupRecord.{GroupRecord}
use Rattle.cast_domain.specs.Records.{records_in}
use Rattle.cast_domain.specs.PartCalls.{local_in, note_outside_in, record_at, tell_in}
use Rattle.cast_domain.specs.Calls.{records}
use Rattle.cast_domain.proofs.Loops.{seen_as}
use Rattle.cast_domain.proofs.domain.Domain.leave_group.Goals as goal

pub returns-then-asked-clause-made : goal.returns-then-asked-clause-made
returns-then-asked-clause-made c =
    let d = c.args.self.now in
    let lent = c.args.lent.now in
    let r = records_in d lent in
    let k = c.args.serial in
    let i = c.args.place in
    let g = c.args.group in
    let p : c.process-process.result ≡ local_in r k = c.process-process.ensures in
    let told : records_in c.tell.new.self lent ≡ note_outside_in r k g =
    seen_as d c.tell.new.self c.in_ok-tell.ensures.kept lent.shared.now lent.outs.now
    ∙ c.in_ok-tell.ensures.made lent.outs.now r.part ∙ ap (λ q. tell_in r q (fact.Standing g Outside)) p in
    let asked : c.request_count-asked.result ≡ (record_at r.groups i).here.asked =
    c.request_count-asked.ensures ∙ ap (λ (x : GroupRecord). x.here.asked) c.record.ensures in
    let last : ((record_at r.groups i).here.asked == MAX_NUMBER) ≡ true =
    eq-eqb (record_at r.groups i).here.asked MAX_NUMBER (sym asked ∙ c.if-asked.true) in
    told ∙ sym (ap (λ b. if b then note_outside_in r k g else request records (note_outside_in r k g) i change.Leave (local_in r k)) last)

pub returns-clause-made : goal.returns-clause-made
returns-clause-made c =
    let d = c.args.self.now in
    let lent = c.args.lent.now in
    let r = records_in d lent in
    let k = c.args.serial in
    let i = c.args.place in
    let g = c.args.group in
    let p : c.process-process.result ≡ local_in r k = c.process-process.ensures in
    let told : records_in c.tell.new.self lent ≡ note_outside_in r k g =
    seen_as d c.tell.new.self c.in_ok-tell.ensures.kept lent.shared.now lent.outs.now
    ∙ c.in_ok-tell.ensures.made lent.outs.now r.part ∙ ap (λ q. tell_in r q (fact.Standing g Outside)) p in
    let asked : c.request_count-asked.result ≡ (record_at r.groups i).here.asked =
    c.request_count-asked.ensures ∙ ap (λ (x : GroupRecord). x.here.asked) c.record.ensures in
    let left : ((record_at r.groups i).here.asked == MAX_NUMBER) ≡ false =
    ne_eqb (record_at r.groups i).here.asked MAX_NUMBER (λ same. c.if-asked.false (asked ∙ same)) in
    on_ok_weaker c.request.result (λ made.
    made
    ∙ (λ j. request records (told j) i change.Leave (p j))
    ∙ sym (ap (λ b. if b then note_outside_in r k g else request records (note_outside_in r k g) i change.Leave (local_in r k)) left))
    c.request.ensures.made
