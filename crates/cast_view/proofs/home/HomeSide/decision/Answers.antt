use Rattle.std.proofs.Common.{◌≡◌, List, ap, ◌∙◌}
use Rattle.cast_types.specs.declared.names.Proc.{Proc}
use Rattle.cast_types.specs.Counts.{CountList}
use Rattle.cast_flush.specs.Reports.{cut_from}
use Rattle.cast_flush.specs.Decisions.{order_from}
use Rattle.cast_view.specs.Home.{Home}
use Rattle.cast_view.proofs.home.HomeSide.decision.Goals as goal

-- each part is that of the definition
pub returns : goal.returns
returns c =
    let cuts : c.in_ok-cut.cut ≡ cut_from c.args.self.now.members.list c.args.reports.now =
    c.in_ok-cut.ensures
    ∙ ap (λ (l : List Proc). cut_from l c.args.reports.now) c.list.ensures.value
    ∙ ap (λ (h : Home). cut_from h.members.list c.args.reports.now) c.self.view_is in
    let tails = c.in_ok-tail.ensures ∙ ap (λ (cut : CountList). order_from cut c.args.reports.now) cuts in
    let answers =
    c.from_vec-answers.ensures ∙ c.in_ok-from_slice.ensures.items ∙ c.entries.ensures ∙ ap (λ (h : Home). h.answers) c.self.view_is in
    λ i. record { cut = cuts i; tail = tails i; answers = answers i }
