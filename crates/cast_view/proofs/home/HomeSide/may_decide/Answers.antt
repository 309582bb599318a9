use Rattle.std.proofs.Common.{◌≡◌, ℕ, true, sym, ap, ◌∙◌}
use Rattle.std.specs.Prelude.{◌==◌}
use Rattle.cast_flush.specs.Reports.{is_complete, wanting, cut_from}
use Rattle.cast_view.proofs.Flushes.{decides_when_empty}
use Rattle.cast_view.proofs.home.HomeSide.may_decide.Goals as goal

-- all have reported, and it may decide when nothing is wanted
pub returns-in_ok-ids-in-Gathering : goal.returns-in_ok-ids-in-Gathering
returns-in_ok-ids-in-Gathering c =
    let gathers = sym c.phase.ensures ∙ c.in-Gathering.is in
    let complete : is_complete c.in-Gathering.awaited c.in-Gathering.reports ≡ true = cc c.if-is_complete.ensures in
    let lacked : c.in_ok-ids-in-Gathering.ids.items ≡ wanting c.args.group c.args.self.now.number
    (cut_from c.args.self.now.members.list c.in-Gathering.reports) c.in-Gathering.reports c.in-Gathering.bodies =
    rw (← c.as_slice-in-Gathering.ensures, ← c.as_slice-in-Gathering-2.ensures) c.in_ok-ids-in-Gathering.ensures in
    c.is_empty-in-Gathering.ensures
    ∙ ap (λ (n : ℕ). n == 0) c.in_ok-ids-in-Gathering.ids.ok.0
    ∙ decides_when_empty c.args.group c.args.self.now c.in-Gathering.awaited c.in-Gathering.reports c.in-Gathering.bodies
    c.in_ok-ids-in-Gathering.ids.items gathers complete lacked
