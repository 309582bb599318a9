use Rattle.std.proofs.Common.{arith, rules}
use Rattle.std.specs.Prelude.{nat_lt}
use Rattle.std.proofs.lemmas.Bool.{ltb-true, ltb-false}
use Rattle.std.proofs.lemmas.List.Sorted.{IsPartitionedBy-ltb, IsPartitionPoint-from_clause}
use Rattle.cast_delay.proofs.rows.count_below.Goals as goal

-- the closure tells whether a place is below the one
pub returns-clause-below : goal.returns-clause-below
returns-clause-below c = λ i lt within.
    let places = c.args.places.now in
    let parted =
    IsPartitionPoint-from_clause (λ k. nat_lt k c.args.place) places c.partition_point.result c.partition_point.ensures.partitioned
    (IsPartitionedBy-ltb (λ k. k) places c.args.place c.requires) (λ a r f called. search rules) in
    ltb-true _ c.args.place (parted.0 i 0 (omega arith) lt)

pub returns-clause-others : goal.returns-clause-others
returns-clause-others c = λ i le within.
    let places = c.args.places.now in
    let parted =
    IsPartitionPoint-from_clause (λ k. nat_lt k c.args.place) places c.partition_point.result c.partition_point.ensures.partitioned
    (IsPartitionedBy-ltb (λ k. k) places c.args.place c.requires) (λ a r f called. search rules) in
    ltb-false _ c.args.place (parted.1 i 0 le within)
