use Rattle.std.proofs.Common.{◌≡◌, ◌≤◌, Ok, List, ℕ, length, sym, subst, arith}
use Rattle.std.specs.Int.{w16}
use Rattle.cast_field.specs.Reading.{number_at, payload_at}
use Rattle.cast_field.proofs.Parts.{payload_takes}
use Rattle.cast_field.proofs.reading.read_payload.Goals as goal

pub from_bytes-requires : goal.from_bytes-requires
unfolding payload_at
from_bytes-requires c =
    let size : number_at w16 0 16384 c.args.bytes.now ≡ Ok (c.in_ok-len.len, c.in_ok-len.rest.now) = c.in_ok-len.ensures in
    let read : payload_at c.args.bytes.now ≡ Ok (c.in_ok-payload.payload.now, c.in_ok-payload.rest.now) = rw size c.in_ok-payload.ensures in
    let few =
    (payload_takes c.args.bytes.now (c.in_ok-payload.payload.now, c.in_ok-payload.rest.now) (λ i. omega (arith, c.type_inv.bytes i))
    read).holds in
    let same : c.in_ok-payload-2.payload ≡ c.in_ok-payload.payload.now = c.in_ok-payload-2.ensures in
    subst (λ (p : List ℕ). length p ≤ 16384) (sym same) few
