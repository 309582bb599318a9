use Rattle.std.proofs.Common.{◌≡◌, List, sym, ap, ◌∙◌}
use Rattle.cast_types.specs.declared.names.Proc.{Proc}
use Rattle.cast_view.specs.declared.phase.Phase.{Phase}
use Rattle.cast_view.specs.Home.{Home, decide_view, decided_list, decided_phase}
use Rattle.cast_view.specs.contracts.home.HomeSide.{the_view}
use Rattle.cast_view.proofs.Flushes.{decision_taken}
use Rattle.cast_view.proofs.home.HomeSide.decide.Goals as goal

-- the phase is that of the decided home
pub returns-clause-new : goal.returns-clause-new
returns-clause-new c =
    let old = the_view c.self.inside in
    let phases : c.in_ok-phase.phase ≡ decided_phase old (decided_list old) c.self.inside.flush =
    c.in_ok-phase.ensures
    ∙ ap (λ (l : List Proc). decided_phase old l c.into_phase.result) c.as_slice.ensures.value
    ∙ ap (decided_phase old c.in_ok-list.list) (c.into_phase.ensures ∙ c.replace-flush.ensures.value)
    ∙ ap (λ (l : List Proc). decided_phase old l c.self.inside.flush) (c.in_ok-list.ensures.value ∙ ap decided_list (sym c.self.view_is)) in
    c.set_phase.ensures
    ∙ ap (λ (h : Home). record h { phase = c.in_ok-phase.phase }) c.pass_to.ensures
    ∙ ap (λ (p : Phase). record (decide_view old) { phase = p }) phases
    ∙ ap decide_view c.self.view_is
    ∙ decision_taken c.args.group c.args.self.now (sym c.in_ok-may_decide.ensures ∙ c.if-not-branch.false)
