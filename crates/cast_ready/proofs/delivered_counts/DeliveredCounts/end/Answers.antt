use Rattle.std.proofs.Common.{not}
use Rattle.std.specs.FinMap.Entries.{is_sorted, is_sorted-where_key}
use Rattle.cast_types.specs.Sources.{source_cmp, is_ended, but_ended}
use Rattle.cast_types.proofs.CountLists.{true_of, passes}
use Rattle.cast_ready.proofs.delivered_counts.DeliveredCounts.end.Goals as goal

pub invariant_of-self : goal.invariant_of-self
invariant_of-self c =
    let es = c.self.inside.counts.items in
    rw c.end_in.ensures
    (true_of (is_sorted source_cmp (but_ended c.args.group c.args.number es))
    (is_sorted-where_key source_cmp (λ s. not (is_ended c.args.group c.args.number s))
    es (passes (is_sorted source_cmp es) c.self.invariant)))
