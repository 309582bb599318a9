use Rattle.std.proofs.Common.{◌≡◌, Ok, arith, refl}
use Rattle.cast_field.specs.Reading.{byte_at, counts_at}
use Rattle.cast_field.proofs.Parts.{counts_takes}
use Rattle.cast_field.proofs.reading.read_counts.Goals as goal

pub from_entries-requires : goal.from_entries-requires
unfolding counts_at
from_entries-requires c =
    let size : byte_at 0 64 c.args.bytes.now ≡ Ok (c.in_ok-count.count, c.in_ok-count.rest.now) = c.in_ok-count.ensures in
    let read : counts_at c.args.bytes.now ≡ Ok (c.in_ok-entries.entries.items, c.in_ok-entries.rest.now) =
    rw size c.in_ok-entries.ensures in
    (counts_takes c.args.bytes.now (c.in_ok-entries.entries.items, c.in_ok-entries.rest.now) (λ i. omega (arith, c.type_inv.bytes i))
    read).holds.sorted

pub returns : goal.returns
unfolding counts_at
returns c = rw (c.in_ok-count.ensures, c.in_ok-entries.ensures, c.from_entries.ensures) refl
