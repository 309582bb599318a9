use Rattle.std.proofs.Common.{IsTrue, sym, subst, refl}
use Rattle.cast_types.specs.Counts.{is_counts}
use Rattle.cast_clock.proofs.Valid.{is_time-put}
use Rattle.cast_clock.proofs.times.Times.enter.Goals as goal

pub invariant_of-self-2 : goal.invariant_of-self-2
invariant_of-self-2 c =
    rw c.in_ok-put.ensures.ok
    (is_time-put c.self.inside.clocks.items c.args.group _ c.self.invariant (subst (λ x. IsTrue (is_counts x)) (sym c.new.ensures) refl))
