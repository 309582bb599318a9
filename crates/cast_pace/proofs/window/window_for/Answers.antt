use Rattle.std.proofs.Common.{ap, ◌∙◌}
use Rattle.std.specs.Prelude.{min}
use Rattle.cast_pace.proofs.Fitting.{fitting_window}
use Rattle.cast_pace.proofs.window.window_for.Goals as goal

pub returns : goal.returns
returns c = record {
  window =
      fitting_window c.args.held c.args.sites c.args.room c.args.len c.window_of.result c.min-window.result c.requires.others
      c.window_of.ensures.window (c.min-window.ensures ∙ ap (min c.window_of.result) c.max.ensures);
}
