use Rattle.std.proofs.Common.{◌≡◌, ◌∙◌, sym, ap, true, false}
use Rattle.std.specs.Prelude.{Bool, if◌then◌else◌}
use Rattle.cast_types.specs.declared.names.Standing.TheVariants.{Outside}
use Rattle.cast_types.specs.declared.refusal.Refusal.TheVariants.{GroupFull}
use Rattle.cast_message.specs.declared.client.Push.TheVariants as push
use Rattle.cast_ready.specs.declared.row.ProcessUpdate.TheVariants as fact
use Rattle.cast_rules.specs.Rules.Requests.{is_joining_by}
use Rattle.cast_rules.specs.Rules.Leaving.{tell}
use Rattle.cast_domain.specs.declared.record.GroupRecord.{GroupRecord}
use Rattle.cast_domain.specs.Records.{Records, records_in}
use Rattle.cast_domain.specs.PartCalls.{local_in, note_outside_in, record_at, standing_of, tell_in}
use Rattle.cast_domain.specs.Calls.{records}
use Rattle.cast_domain.proofs.Loops.{seen_as}
use Rattle.cast_handlers.proofs.requests.deny.Goals as goal

-- what is done where the process joins by the request, or does not
abbrev denied : Bool → Records → Records → Records
denied b told old = if b then told else old

pub returns-in_ok-push-clause-made : goal.returns-in_ok-push-clause-made
returns-in_ok-push-clause-made c =
    let d = c.args.domain.now in
    let lent = c.args.lent.now in
    let r = records_in d lent in
    let k = c.args.asking.proc.serial in
    let number = c.args.asking.number in
    let g = (record_at r.groups c.args.place).name in
    let name : c.record.result.now.name ≡ g = ap (λ (x : GroupRecord). x.name) c.record.ensures in
    let own = c.process-process.ensures in
    let joins : is_joining_by (standing_of r.delay (local_in r k) g) number ≡ true =
    (λ j. is_joining_by (standing_of r.delay (sym own j) (sym name j)) number)
    ∙ ap (λ v. is_joining_by v number) (sym c.standing.ensures.value) ∙ sym c.is_joining_by.ensures ∙ c.if-is_joining_by.true in
    c.in_ok-push.ensures.made
    ∙ ap (λ x. tell records x k (push.Denied c.record.result.now.name GroupFull))
    (seen_as d c.tell.new.self c.in_ok-tell.ensures.kept lent.shared.now lent.outs.now ∙ c.in_ok-tell.ensures.made lent.outs.now r.part)
    ∙ (λ j. tell records (tell_in r (own j) (fact.Standing (name j) Outside)) k (push.Denied (name j) GroupFull))
    ∙ sym (ap (λ b. denied b (tell records (note_outside_in r k g) k (push.Denied g GroupFull)) r) joins)

pub returns-else-is_joining_by-clause-made : goal.returns-else-is_joining_by-clause-made
returns-else-is_joining_by-clause-made c =
    let r = records_in c.args.domain.now c.args.lent.now in
    let k = c.args.asking.proc.serial in
    let number = c.args.asking.number in
    let g = (record_at r.groups c.args.place).name in
    let name : c.record.result.now.name ≡ g = ap (λ (x : GroupRecord). x.name) c.record.ensures in
    let own = c.process-process.ensures in
    let joins : is_joining_by (standing_of r.delay (local_in r k) g) number ≡ false =
    (λ j. is_joining_by (standing_of r.delay (sym own j) (sym name j)) number)
    ∙ ap (λ v. is_joining_by v number) (sym c.standing.ensures.value) ∙ sym c.is_joining_by.ensures ∙ c.if-is_joining_by.false in
    sym (ap (λ b. denied b (tell records (note_outside_in r k g) k (push.Denied g GroupFull)) r) joins)
