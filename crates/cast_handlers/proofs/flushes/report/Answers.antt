use Rattle.std.proofs.Common.{◌≡◌, ◌∙◌, Option, ap, filter}
use Rattle.std.specs.Prelude.{min}
use Rattle.std.proofs.lemmas.Result.{IfOk-weaker}
use Rattle.cast_types.specs.declared.limits.TheConstants.{MAX_POSITION}
use Rattle.cast_types.specs.declared.names.Proc.{Proc}
use Rattle.cast_message.specs.Receipts.{messages}
use Rattle.cast_message.specs.Tail.{Tail}
use Rattle.cast_message.specs.KeptIds.{KeptList}
use Rattle.cast_order.specs.Log.{log_of, whole_kept}
use Rattle.cast_view.specs.MemberSide.{report_of}
use Rattle.cast_rules.specs.Reports.{kept_list}
use Rattle.cast_domain.specs.Records.{records_in}
use Rattle.cast_domain.specs.PartCalls.{record_at}
use Rattle.cast_domain.specs.FlushCalls.{had_of, holder_in, is_kept_of, report_at, tail_in}
use Rattle.cast_handlers.proofs.flushes.report.Goals as goal

pub returns : goal.returns
returns c =
    let r = records_in c.args.domain.now c.args.lent.now in
    let x = c.record-record.result.now in
    let holder : ◌≡◌ {A = Option Proc} c.holder_here-holder.result (holder_in r x.name) =
    c.holder_here-holder.ensures c.args.lent.now.outs.now r.part in
    let tail : ◌≡◌ {A = Tail} c.tail_from-tail.result (tail_in (log_of r.orders x.name) (holder_in r x.name)) =
    c.tail_from-tail.ensures
    ∙ (λ j. record { start = min MAX_POSITION (c.in_ok-start.ensures j).0; ids = (c.in_ok-start.ensures j).1 })
    ∙ ap (tail_in (log_of r.orders x.name)) holder in
    let kept : ◌≡◌ {A = KeptList} c.in_ok-kept.kept
    (kept_list (filter (is_kept_of x) (messages r.part.kept)) (whole_kept (log_of r.orders x.name) (holder_in r x.name))) =
    c.in_ok-kept.ensures
    ∙ (λ j. kept_list (filter (is_kept_of x) (messages (c.messages.ensures.value j))) (whole_kept (log_of r.orders x.name) (holder j))) in
    let had : c.as_slice.result.now ≡ had_of r x = c.as_slice.ensures.value ∙ c.in_ok-had.ensures in
    IfOk-weaker c.flush_report.result
    (λ report. report ≡ report_of x.here c.as_slice.result.now c.tail_from-tail.result c.in_ok-kept.kept)
    (λ report. report ≡ report_at r (record_at r.groups c.args.place))
    (λ report is.
    is
    ∙ (λ j. report_of x.here (had j) (tail j) (kept j))
    ∙ ap (report_at r) c.record-record.ensures)
    c.flush_report.ensures
