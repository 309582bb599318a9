use Rattle.std.proofs.Common.{◌≡◌, ◌≤◌, true, length, rules}
use Rattle.std.specs.Prelude.{nat_lt}
use Rattle.std.proofs.lemmas.List.Sorted.{IsPartitionPoint-from_clause}
use Rattle.cast_index.specs.Rises.{rises}
use Rattle.cast_delay.specs.Offers.{key_of}
use Rattle.cast_delay.proofs.Orderly.{rising_parted, below_first}
use Rattle.cast_delay.proofs.offers.Offers.count_below.Goals as goal

-- the closure tells whether a message's key is below the number
pub returns-clause-below : goal.returns-clause-below
returns-clause-below c =
    let items = c.self.inside.messages.items in
    let rising : rises key_of items ≡ true = search rules in
    let within : c.partition_point.result ≤ length items = search rules in
    let parted =
    IsPartitionPoint-from_clause (λ o. nat_lt (key_of o) c.args.number) items c.partition_point.result c.partition_point.ensures.partitioned
    (rising_parted c.args.number items rising) (λ a r f called. search rules) in
    rw (← c.self.view_is) (below_first c.args.number items c.partition_point.result within parted)
