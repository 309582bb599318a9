use Rattle.std.proofs.Common.{filter}
use Rattle.cast_message.specs.Receipts.{messages}
use Rattle.cast_order.specs.Log.{log_of, whole_kept}
use Rattle.cast_rules.specs.Reports.{is_unplaced}
use Rattle.cast_domain.specs.FlushCalls.{is_kept_of}
use Rattle.cast_domain.proofs.Marks.{marks_more}
use Rattle.cast_handlers.proofs.flushes.mark_names.Goals as goal

pub loop-name-preserved : goal.loop-name-preserved
loop-name-preserved c =
    let x = c.args.group.now in
    marks_more
    (is_unplaced (filter (is_kept_of x) (messages c.args.kept.now)) (whole_kept (log_of c.args.domain.now.orders x.name) c.args.holder))
    c.args.names.now c.loop-name.name-index _ c.loop-name.marked.items c.push.new.self.items c.is_unplaced.result
    c.loop-name-test.true c.in_ok-push.ensures.items c.is_unplaced.ensures c.loop-name.invariant
