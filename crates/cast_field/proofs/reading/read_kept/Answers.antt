use Rattle.std.proofs.Common.{◌≡◌, Ok, arith, refl}
use Rattle.std.specs.Int.{w16}
use Rattle.cast_field.specs.Reading.{number_at, kept_at}
use Rattle.cast_field.proofs.Orders.{kept_takes}
use Rattle.cast_field.proofs.reading.read_kept.Goals as goal

pub from_entries-requires : goal.from_entries-requires
unfolding kept_at
from_entries-requires c =
    let size : number_at w16 0 2048 c.args.bytes.now ≡ Ok (c.in_ok-count.count, c.in_ok-count.rest.now) = c.in_ok-count.ensures in
    let read : kept_at c.args.bytes.now ≡ Ok (c.in_ok-entries.entries.items, c.in_ok-entries.rest.now) = rw size c.in_ok-entries.ensures in
    (kept_takes c.args.bytes.now (c.in_ok-entries.entries.items, c.in_ok-entries.rest.now) (λ i. omega (arith, c.type_inv.bytes i))
    read).holds.sorted

pub returns : goal.returns
unfolding kept_at
returns c = rw (c.in_ok-count.ensures, c.in_ok-entries.ensures, c.from_entries.ensures) refl
