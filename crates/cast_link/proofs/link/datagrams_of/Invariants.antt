use Rattle.std.proofs.Common.{◌≡◌, ◌++◌, drop}
use Rattle.cast_link.specs.Links.{datagrams_of}
use Rattle.cast_link.proofs.link.datagrams_of.Given as goal

-- those that are made, and those still to be made
abbrev pub invariant-loop-frame : goal.invariant-loop-frame
invariant-loop-frame l = l.datagrams.items ++ datagrams_of l.own (drop l.frame-index l.frames) ≡ datagrams_of l.own l.frames
