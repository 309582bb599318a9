use Rattle.std.proofs.Common.{◌≡◌, rules}
use Rattle.std.specs.FinMap.Entries.{put}
use Rattle.cast_types.specs.Sources.{source_cmp}
use Rattle.cast_types.proofs.Sources.{source_total}
use Rattle.cast_types.proofs.CountLists.{sorted-put}
use Rattle.cast_ready.proofs.delivered_counts.DeliveredCounts.put.Goals as goal

pub invariant_of-self-2 : goal.invariant_of-self-2
invariant_of-self-2 c =
    let items : c.put_in.new.counts.items ≡ put source_cmp c.args.source c.args.count c.self.inside.counts.items = search rules in
    rw items (sorted-put source_cmp source_total c.args.source c.args.count c.self.inside.counts.items c.self.invariant)
