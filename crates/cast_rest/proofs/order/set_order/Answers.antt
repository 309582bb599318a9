use Rattle.std.proofs.Common.{◌≡◌, ◌∙◌, false, sym, ap}
use Rattle.cast_order.specs.Log.{log_of, waits_in}
use Rattle.cast_domain.specs.Records.{records_in}
use Rattle.cast_domain.specs.PartCalls.{record_at}
use Rattle.cast_domain.specs.RestCalls.{resting_records}
use Rattle.cast_domain.proofs.Idle.{idle_each, idle_told}
use Rattle.cast_rest.proofs.order.set_order.Goals as goal

pub returns-then-not-waits-clause-made : goal.returns-then-not-waits-clause-made
returns-then-not-waits-clause-made c =
    let r = records_in c.args.domain.now c.args.lent.now in
    let i = c.args.place in
    let idle : waits_in (log_of r.orders (record_at r.groups i).name) ≡ false =
    ap (λ x. waits_in (log_of r.orders x.name)) (sym c.record.ensures) ∙ sym c.waits.ensures ∙ c.if-not-waits.true in
    sym (idle_each r i (resting_records.holders r i) idle)

pub returns-then-not-waits-clause-told : goal.returns-then-not-waits-clause-told
returns-then-not-waits-clause-told c =
    let r = records_in c.args.domain.now c.args.lent.now in
    let i = c.args.place in
    let idle : waits_in (log_of r.orders (record_at r.groups i).name) ≡ false =
    ap (λ x. waits_in (log_of r.orders x.name)) (sym c.record.ensures) ∙ sym c.waits.ensures ∙ c.if-not-waits.true in
    sym (idle_told r i (resting_records.holders r i) idle)
