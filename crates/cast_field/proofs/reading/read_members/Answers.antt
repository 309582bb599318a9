use Rattle.std.proofs.Common.{◌≡◌, Ok, None, refl, arith}
use Rattle.cast_field.specs.Reading.{byte_at, many, proc_above, some_proc, holder_at, members_at}
use Rattle.cast_field.proofs.Fields.{byte_takes}
use Rattle.cast_field.proofs.Holders.{procs_take, members_take}
use Rattle.cast_field.proofs.reading.read_members.Goals as goal

pub read_holder-requires : goal.read_holder-requires
read_holder-requires c =
    let size : byte_at 0 64 c.args.bytes.now ≡ Ok (c.in_ok-count.count, c.in_ok-count.rest.now) = c.in_ok-count.ensures in
    let first =
    byte_takes 0 64 c.args.bytes.now (c.in_ok-count.count, c.in_ok-count.rest.now) (λ i. omega (arith, c.type_inv.bytes i)) size in
    let second =
    procs_take c.in_ok-count.count c.in_ok-count.rest.now (c.in_ok-list.list.items, c.in_ok-list.rest.now)
    first.rest_fits c.in_ok-list.ensures in
    rw c.deref.ensures.value (omega (arith, first.holds.below, second.holds.0))

pub from_parts-requires : goal.from_parts-requires
unfolding members_at
from_parts-requires c =
    let size : byte_at 0 64 c.args.bytes.now ≡ Ok (c.in_ok-count.count, c.in_ok-count.rest.now) = c.in_ok-count.ensures in
    let list : many proc_above some_proc c.in_ok-count.count None c.in_ok-count.rest.now
    ≡ Ok (c.in_ok-list.list.items, c.in_ok-list.rest.now) = c.in_ok-list.ensures in
    let holder : holder_at c.in_ok-list.list.items c.in_ok-list.rest.now ≡ Ok (c.in_ok-holder.holder, c.in_ok-holder.rest.now) =
    rw (← c.deref.ensures.value) c.in_ok-holder.ensures in
    let read : members_at c.args.bytes.now
    ≡ Ok (record { list = c.in_ok-list.list.items; holder = c.in_ok-holder.holder }, c.in_ok-holder.rest.now) =
    rw (size, list, holder) refl in
    (members_take c.args.bytes.now (record { list = c.in_ok-list.list.items; holder = c.in_ok-holder.holder }, c.in_ok-holder.rest.now)
    (λ i. omega (arith, c.type_inv.bytes i)) read).holds.sorted
