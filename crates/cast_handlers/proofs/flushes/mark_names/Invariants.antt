use Rattle.std.proofs.Common.{◌≡◌, map, filter, take}
use Rattle.cast_message.specs.Receipts.{messages}
use Rattle.cast_order.specs.Log.{log_of, whole_kept}
use Rattle.cast_rules.specs.Reports.{is_unplaced}
use Rattle.cast_domain.specs.FlushCalls.{is_kept_of}
use Rattle.cast_handlers.proofs.flushes.mark_names.Given as goal

-- the names so far with their marks
abbrev pub invariant-loop-name : goal.invariant-loop-name
invariant-loop-name l =
    l.marked.items
    ≡ map (λ e. (
      e,
      is_unplaced (filter (is_kept_of l.fn.group) (messages l.fn.kept)) (whole_kept (log_of l.fn.domain.orders l.fn.group.name) l.holder) e,
    )) (take l.name-index l.names)
