use Rattle.std.proofs.Common.{sym, ap, ◌∙◌}
use Rattle.cast_types.specs.Names.{site_eq}
use Rattle.cast_types.specs.Sets.{is_among}
use Rattle.cast_view.specs.Home.{awaits_installed}
use Rattle.cast_view.proofs.phase.Phase.awaits_installed.Goals as goal

-- those are awaited that are waited for
pub returns-in-Installing : goal.returns-in-Installing
returns-in-Installing c =
    c.is_among.ensures
    ∙ ap (is_among site_eq c.args.site) c.as_slice.ensures
    ∙ sym (ap (λ p. awaits_installed p c.args.site) c.in-Installing.is)
