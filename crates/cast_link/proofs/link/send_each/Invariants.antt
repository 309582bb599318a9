use Rattle.std.proofs.Common.{◌≡◌, ◌+◌, take}
use Rattle.cast_link.specs.Wires.{AddsAll, Stays}
use Rattle.cast_link.proofs.link.send_each.Given as goal

-- what the wire was given so far, that what waits in it is what waited, and how many were counted
abbrev pub invariant-loop-datagram : goal.invariant-loop-datagram
invariant-loop-datagram g l =
    AddsAll (g.W.Wire.given l.fn.wire) (g.W.Wire.given l.wire) (take l.datagram-index l.datagrams)
    × Stays (g.W.Wire.waiting l.fn.wire) (g.W.Wire.waiting l.wire)
    × (l.sent.sent + l.sent.lost ≡ l.datagram-index)
    × (g.W.Wire.failed l.wire ≡ g.W.Wire.failed l.fn.wire + l.sent.lost)
