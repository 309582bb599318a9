use Rattle.std.proofs.Common.{◌≡◌, List, Vec, Global, ap, ◌∙◌}
use Rattle.std.proofs.lemmas.Result.{IfOk-weaker}
use Rattle.cast_types.specs.declared.names.Proc.{Proc}
use Rattle.cast_types.specs.Names.{Entry}
use Rattle.cast_types.specs.Counts.{CountList}
use Rattle.cast_flush.specs.Reports.{wanting, cut_from}
use Rattle.cast_view.specs.Home.{Home}
use Rattle.cast_view.proofs.home.HomeSide.wanted_ids.Goals as goal

-- what is wanting of the cut of the members is what is wanting
pub returns : goal.returns
returns c =
    let cuts : c.in_ok-cut.cut ≡ cut_from c.self.inside.members.list c.args.reports.now =
    c.in_ok-cut.ensures ∙ ap (λ (l : List Proc). cut_from l c.args.reports.now) c.list.ensures.value in
    let same : wanting c.args.group c.self.inside.number c.in_ok-cut.cut c.args.reports.now c.args.bodies.now ≡ wanting c.args.group
    c.args.self.now.number (cut_from c.args.self.now.members.list c.args.reports.now) c.args.reports.now c.args.bodies.now =
    ap (λ (cut : CountList). wanting c.args.group c.self.inside.number cut c.args.reports.now c.args.bodies.now) cuts
    ∙ ap (λ (h : Home). wanting c.args.group h.number (cut_from h.members.list c.args.reports.now) c.args.reports.now c.args.bodies.now)
    c.self.view_is in
    IfOk-weaker c.wanted_ids.result
    (λ (l : Vec Entry Global). l.items ≡ wanting c.args.group c.self.inside.number c.in_ok-cut.cut c.args.reports.now c.args.bodies.now)
    (λ (l : Vec Entry Global). l.items ≡ wanting c.args.group c.args.self.now.number
    (cut_from c.args.self.now.members.list c.args.reports.now) c.args.reports.now c.args.bodies.now) (λ l is. is ∙ same)
    c.wanted_ids.ensures
