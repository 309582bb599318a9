use Rattle.std.proofs.Common.{◌≡◌, Ok, refl, subst, arith}
use Rattle.std.specs.Int.{w32}
use Rattle.cast_message.specs.Placement.{Placement}
use Rattle.cast_field.specs.Reading.{byte_at, number_at, many, id_at, nothing_of, least_ids, new_holder_at, sequence_at}
use Rattle.cast_field.proofs.Orders.{sequence_takes}
use Rattle.cast_field.proofs.reading.read_placement.Goals as goal

pub from_parts-requires : goal.from_parts-requires
unfolding sequence_at
from_parts-requires c =
    let made : Placement = record { first = c.in_ok-first.first; ids = c.in_ok-ids.ids.items; holder = c.in_ok-holder.holder } in
    let first : number_at w32 1 4000000000 c.args.bytes.now ≡ Ok (c.in_ok-first.first, c.in_ok-first.rest.now) = c.in_ok-first.ensures in
    let size : byte_at (least_ids c.args.handing) 64 c.in_ok-first.rest.now ≡ Ok (c.in_ok-count.count, c.in_ok-count.rest.now) =
    subst (λ n. byte_at n 64 c.in_ok-first.rest.now ≡ Ok (c.in_ok-count.count, c.in_ok-count.rest.now))
    c.least_ids.ensures c.in_ok-count.ensures in
    let ids : many id_at nothing_of c.in_ok-count.count tt c.in_ok-count.rest.now ≡ Ok (c.in_ok-ids.ids.items, c.in_ok-ids.rest.now) =
    c.in_ok-ids.ensures in
    let holder : new_holder_at c.args.handing c.in_ok-ids.rest.now ≡ Ok (c.in_ok-holder.holder, c.in_ok-holder.rest.now) =
    c.in_ok-holder.ensures in
    let read : sequence_at c.args.handing c.args.bytes.now ≡ Ok (made, c.in_ok-holder.rest.now) = rw (first, size, ids, holder) refl in
    (sequence_takes c.args.handing c.args.bytes.now (made, c.in_ok-holder.rest.now) (λ i. omega (arith, c.type_inv.bytes i))
    read).holds.0.short

pub returns : goal.returns
unfolding sequence_at
returns c =
    let size : byte_at (least_ids c.args.handing) 64 c.in_ok-first.rest.now ≡ Ok (c.in_ok-count.count, c.in_ok-count.rest.now) =
    subst (λ n. byte_at n 64 c.in_ok-first.rest.now ≡ Ok (c.in_ok-count.count, c.in_ok-count.rest.now))
    c.least_ids.ensures c.in_ok-count.ensures in
    rw (c.in_ok-first.ensures, size, c.in_ok-ids.ensures, c.in_ok-holder.ensures, c.from_parts.ensures) refl
