use Rattle.std.proofs.Common.{◌∙◌}
use Rattle.cast_timer.specs.Owed.{is_of_view}
use Rattle.cast_timer.specs.Rows.{is_held}
use Rattle.cast_timer.proofs.Kept.{none_told, told_all}
use Rattle.cast_timer.proofs.frames.take_view.Goals as goal

pub returns-clause-taken : goal.returns-clause-taken
returns-clause-taken c p k =
    let test = is_of_view c.args.group in
    none_told c.args.domain test c.loop-key.key-iterator p k (is_held c.loop-key.moments.entries p k) c.in-None.ensures.steps.0
    ∙ c.loop-key.invariant.held p k
    ∙ told_all c.args.domain test c.args.dues.now.entries c.args.moments.now.entries c.requires p k
