use Rattle.std.proofs.Common.{length, sym, ap, subst, arith}
use Rattle.cast_pool.specs.Kept.{IsLed, seen_of}
use Rattle.cast_pool.proofs.Serving.{led_trimmed}
use Rattle.cast_pool.proofs.kept.Kept.cut.Goals as goal

pub invariant_of-self : goal.invariant_of-self
invariant_of-self g c =
    let k = c.self.inside in
    let new = c.cut.new.self in
    let items = c.cut.ensures.items in
    let len = ap length items in
    let count = c.cut.ensures.count in
    let counted = c.self.invariant.1 in
    let few = c.self.invariant.2 in (
      subst (λ s. IsLed s) (sym (λ i. seen_of k.config (count i) (items i) k.table))
          (led_trimmed k.config k.trail.count k.trail.entries.items k.table c.self.invariant.0),
      omega (arith, len, count, counted),
      omega (arith, len, count, few),
    )
