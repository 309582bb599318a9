use Rattle.std.proofs.Common.{◌≡◌, ◌∙◌, ap}
use Rattle.cast_order.specs.Log.{log_of, change_in, oldest_in, forgot}
use Rattle.cast_domain.specs.declared.record.GroupRecord.{GroupRecord}
use Rattle.cast_domain.specs.Records.{records_of}
use Rattle.cast_domain.specs.PartCalls.{record_at}
use Rattle.cast_domain.specs.Trims.{count_first, is_over_of}
use Rattle.cast_commands.proofs.trim.trim_order.Goals as goal

pub returns-clause-made : goal.returns-clause-made
returns-clause-made c o part =
    let r = records_of c.args.domain.now part o in
    let kept = c.args.kept.now in
    let x : GroupRecord = record_at r.groups c.args.place in
    let over : c.over_first-over.result ≡ count_first (is_over_of r x kept) (oldest_in (log_of r.orders c.record.result.now.name)) =
    c.over_first-over.ensures ∙ ap (count_first (is_over_of r x kept)) c.oldest.ensures in
    (λ i. record r { orders = c.forget_first.ensures i })
    ∙ (λ i. record r { orders = change_in c.record.result.now.name (forgot (over i)) r.orders })
    ∙ ap (λ (y : GroupRecord).
    record r { orders = change_in y.name (forgot (count_first (is_over_of r x kept) (oldest_in (log_of r.orders y.name)))) r.orders })
    c.record.ensures
