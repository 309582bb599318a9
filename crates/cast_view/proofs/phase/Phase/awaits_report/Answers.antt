use Rattle.std.proofs.Common.{◌≡◌, Bool, true, not, ◌&&◌, sym, ap, ◌∙◌}
use Rattle.cast_types.specs.Names.{site_eq}
use Rattle.cast_types.specs.Sets.{is_among}
use Rattle.cast_flush.specs.Reports.{Reports, has_report}
use Rattle.cast_view.specs.Home.{awaits_report}
use Rattle.cast_view.proofs.phase.Phase.awaits_report.Goals as goal

-- a site that is awaited counts where it has not reported
pub returns-then-is_among : goal.returns-then-is_among
returns-then-is_among c =
    let among : is_among site_eq c.args.site c.in-Gathering.awaited ≡ true =
    sym (ap (is_among site_eq c.args.site) c.as_slice.ensures) ∙ sym c.is_among.ensures ∙ c.if-is_among.true in
    ap not (c.has_report.ensures ∙ ap (λ (r : Reports). has_report r c.args.site) c.as_slice-then-is_among.ensures)
    ∙ sym (ap (λ (b : Bool). b && not (has_report c.in-Gathering.reports c.args.site)) among)
    ∙ sym (ap (λ p. awaits_report p c.args.site) c.in-Gathering.is)
