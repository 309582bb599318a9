use Rattle.std.proofs.Common.{◌≡◌, ◌&&◌, drop}
use Rattle.std.specs.List.{list_any}
use Rattle.cast_domain.specs.FlushCalls.{is_kept_of, is_abcast_named}
use Rattle.cast_handlers.proofs.flushes.is_abcast_among.Given as goal

-- none of those so far is
abbrev pub invariant-loop-position : goal.invariant-loop-position
invariant-loop-position l =
    list_any (λ r. is_kept_of l.group r.message && is_abcast_named l.name r.message) (drop l.position l.kept)
    ≡ list_any (λ r. is_kept_of l.group r.message && is_abcast_named l.name r.message) l.kept
