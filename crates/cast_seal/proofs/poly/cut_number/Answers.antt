use Rattle.std.proofs.Common.{arith}
use Rattle.cast_seal.proofs.Poly1305.{byte_before, one_alone}
use Rattle.cast_seal.proofs.poly.cut_number.Goals as goal

pub loop-place-init : goal.loop-place-init
loop-place-init c = (omega arith, one_alone c.args.rest.now)

pub overflow_mul-number : goal.overflow_mul-number
overflow_mul-number c =
    let both = byte_before c.args.rest.now c.loop-place.place c.loop-place.number (λ i. omega (arith, c.type_inv.rest i)) c.requires
    (omega (arith, c.loop-place-test.true)) c.loop-place.invariant.0 c.loop-place.invariant.1 in
    omega (arith, both.1)

pub overflow_add-number : goal.overflow_add-number
overflow_add-number c =
    let both = byte_before c.args.rest.now c.loop-place.place c.loop-place.number (λ i. omega (arith, c.type_inv.rest i)) c.requires
    (omega (arith, c.loop-place-test.true)) c.loop-place.invariant.0 c.loop-place.invariant.1 in
    omega (arith, both.1)

pub loop-place-preserved : goal.loop-place-preserved
loop-place-preserved c =
    let both = byte_before c.args.rest.now c.loop-place.place c.loop-place.number (λ i. omega (arith, c.type_inv.rest i)) c.requires
    (omega (arith, c.loop-place-test.true)) c.loop-place.invariant.0 c.loop-place.invariant.1 in
    (omega (arith, c.loop-place.invariant.0), both.0)
