use Rattle.cast_types.specs.Names.{entry_cmp}
use Rattle.cast_flush.proofs.Gathered.{added_more}
use Rattle.cast_flush.proofs.reports.add_kept.Goals as goal

-- the id of one more message is added before those of the rest
pub loop-id-preserved : goal.loop-id-preserved
loop-id-preserved c =
    added_more entry_cmp (λ k. k.0) c.loop-id.ids.keys c.insert_id.new.ids.keys _ c.entries-id-items.result.now c.loop-id.id-index _
    c.loop-id-test.true c.in_ok-insert_id.ensures.ok c.loop-id.invariant
