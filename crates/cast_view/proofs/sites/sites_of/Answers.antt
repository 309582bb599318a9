use Rattle.cast_types.specs.Names.{site_cmp}
use Rattle.cast_flush.proofs.Gathered.{added_more}
use Rattle.cast_view.proofs.sites.sites_of.Goals as goal

-- the site of one more process is added before those of the rest
pub loop-process-preserved : goal.loop-process-preserved
loop-process-preserved c =
    added_more site_cmp (λ p. p.site)
    c.loop-process.sites.items c.insert_site.new.sites.items _ c.args.processes.now c.loop-process.process-index _
    c.loop-process-test.true c.in_ok-insert_site.ensures.ok c.loop-process.invariant
