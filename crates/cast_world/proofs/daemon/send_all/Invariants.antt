use Rattle.std.proofs.Common.{◌≡◌, ◌++◌}
use Rattle.cast_world.proofs.Standing.{packets_from}
use Rattle.cast_world.proofs.daemon.send_all.Given as goal

-- the frames so far are on the network
abbrev pub invariant-loop-to : goal.invariant-loop-to
invariant-loop-to l = l.sent.items ≡ l.fn.sent.items ++ packets_from l.from l.yielded
