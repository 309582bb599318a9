use Rattle.std.proofs.Common.{ap, ◌∙◌}
use Rattle.std.specs.FinMap.Entries.{put}
use Rattle.cast_types.specs.Names.{site_cmp}
use Rattle.cast_view.proofs.phase.with_report.Goals as goal

pub returns : goal.returns
returns c = c.from_vec.ensures ∙ c.in_ok-put.ensures.ok ∙ ap (put site_cmp c.args.site c.args.report) c.into_vec-all.ensures
