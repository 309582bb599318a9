use Rattle.std.proofs.Common.{◌≡◌, map}
use Rattle.cast_delay.proofs.offers.copy_messages.Given as goal

-- those so far
abbrev pub invariant-loop-message : goal.invariant-loop-message
invariant-loop-message l = l.copied.items ≡ map (λ x. x.now) l.yielded
