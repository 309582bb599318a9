use Rattle.std.proofs.Common.{◌≡◌, take}
use Rattle.cast_view.proofs.phase.copy_messages.Given as goal

-- those so far
abbrev pub invariant-loop-message : goal.invariant-loop-message
invariant-loop-message l = l.copied.items ≡ take l.message-index l.messages
