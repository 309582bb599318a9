use Rattle.std.proofs.Common.{◌≡◌, ◌≤◌, length, drop, take, arith, rules}
use Rattle.cast_seal.specs.Seals.{begins_with}
use Rattle.cast_seal.proofs.Seals.{parts_are_sealed, sealed_has_parts}
use Rattle.cast_seal.proofs.sealing.is_sealed.Goals as goal

pub returns-then-begins : goal.returns-then-begins
returns-then-begins c =
    let k = c.args.key.now in
    let d = c.args.datagram.now in
    let long : 38 ≤ length d = search rules in
    let begins : take 6 d ≡ begins_with k.number c.args.from = search rules in (
      λ t. parts_are_sealed k c.args.from c.args.to d (λ i. omega (arith, c.type_inv.datagram i)) long begins (c.has_sum.ensures.0 t),
      λ s. c.has_sum.ensures.1 (sealed_has_parts k c.args.from c.args.to (drop 38 d) d s).sum,
    )
