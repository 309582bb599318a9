use Rattle.std.proofs.Common.{◌≡◌, Ok, arith, refl}
use Rattle.cast_field.specs.Reading.{byte_at, times_at}
use Rattle.cast_field.proofs.Parts.{times_takes}
use Rattle.cast_field.proofs.reading.read_times.Goals as goal

pub from_clocks-requires : goal.from_clocks-requires
unfolding times_at
from_clocks-requires c =
    let size : byte_at 1 32 c.args.bytes.now ≡ Ok (c.in_ok-count.count, c.in_ok-count.rest.now) = c.in_ok-count.ensures in
    let read : times_at c.args.bytes.now ≡ Ok (c.in_ok-clocks.clocks.items, c.in_ok-clocks.rest.now) = rw size c.in_ok-clocks.ensures in
    (times_takes c.args.bytes.now (c.in_ok-clocks.clocks.items, c.in_ok-clocks.rest.now) (λ i. omega (arith, c.type_inv.bytes i))
    read).holds.sorted

pub returns : goal.returns
unfolding times_at
returns c = rw (c.in_ok-count.ensures, c.in_ok-clocks.ensures, c.in_ok-from_clocks.ensures) refl
