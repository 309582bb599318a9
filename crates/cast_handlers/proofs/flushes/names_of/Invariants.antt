use Rattle.std.proofs.Common.{◌≡◌, map, filter, drop}
use Rattle.cast_types.specs.Names.{entry_cmp, entry_of}
use Rattle.cast_types.specs.Sets.{with_items, set_of}
use Rattle.cast_message.specs.Receipts.{messages}
use Rattle.cast_domain.specs.FlushCalls.{is_kept_of}
use Rattle.cast_handlers.proofs.flushes.names_of.Given as goal

-- the names so far with those of the messages that are left are all
abbrev pub invariant-loop-position : goal.invariant-loop-position
invariant-loop-position l =
    with_items entry_cmp l.names.items (map (λ m. entry_of m.id) (filter (is_kept_of l.group) (messages (drop l.position l.kept))))
    ≡ set_of entry_cmp (map (λ m. entry_of m.id) (filter (is_kept_of l.group) (messages l.kept)))
