use Rattle.cast_types.specs.Names.{site_cmp}
use Rattle.cast_flush.proofs.Gathered.{added_next}
use Rattle.cast_view.proofs.sites.sites_and.Goals as goal

-- one more site is added before the rest
pub loop-site-preserved : goal.loop-site-preserved
loop-site-preserved c =
    added_next site_cmp c.loop-site.sites.items c.insert_site.new.sites.items _ c.args.others.now c.loop-site.site-index _
    c.loop-site-test.true c.in_ok-insert_site.ensures.ok c.loop-site.invariant
