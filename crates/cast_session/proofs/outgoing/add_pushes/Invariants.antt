use Rattle.std.proofs.Common.{◌≡◌, ◌++◌, take}
use Rattle.cast_session.specs.Outgoing.{spelled_pushes}
use Rattle.cast_session.proofs.outgoing.add_pushes.Given as goal

abbrev pub invariant-loop-push : goal.invariant-loop-push
invariant-loop-push l = l.out.items ≡ l.fn.out.items ++ spelled_pushes (take l.push-index l.pushes)
