use Rattle.std.proofs.Common.{◌≡◌, Ok, refl, arith}
use Rattle.std.specs.Int.{w16, w32}
use Rattle.cast_field.specs.Reading.{number_at, many, id_at, nothing_of, tail_at}
use Rattle.cast_field.proofs.Orders.{tail_takes}
use Rattle.cast_field.proofs.reading.read_tail.Goals as goal

pub from_parts-requires : goal.from_parts-requires
unfolding tail_at
from_parts-requires c =
    let start : number_at w32 0 4000000000 c.args.bytes.now ≡ Ok (c.in_ok-start.start, c.in_ok-start.rest.now) = c.in_ok-start.ensures in
    let size : number_at w16 0 c.args.most c.in_ok-start.rest.now ≡ Ok (c.in_ok-count.count, c.in_ok-count.rest.now) =
    c.in_ok-count.ensures in
    let ids : many id_at nothing_of c.in_ok-count.count tt c.in_ok-count.rest.now ≡ Ok (c.in_ok-ids.ids.items, c.in_ok-ids.rest.now) =
    c.in_ok-ids.ensures in
    let read : tail_at c.args.most c.args.bytes.now
    ≡ Ok (record { start = c.in_ok-start.start; ids = c.in_ok-ids.ids.items }, c.in_ok-ids.rest.now) = rw (start, size, ids) refl in
    (tail_takes c.args.most c.requires c.args.bytes.now
    (record { start = c.in_ok-start.start; ids = c.in_ok-ids.ids.items }, c.in_ok-ids.rest.now) (λ i. omega (arith, c.type_inv.bytes i))
    read).holds.0.short

pub returns : goal.returns
unfolding tail_at
returns c = rw (c.in_ok-start.ensures, c.in_ok-count.ensures, c.in_ok-ids.ensures, c.from_parts.ensures) refl
