use Rattle.std.proofs.Common.{◌≡◌, List, true, take, sym, ◌∙◌}
use Rattle.std.specs.List.{filter_map}
use Rattle.std.proofs.lemmas.Result.{IfOk-weaker}
use Rattle.cast_types.specs.declared.names.SiteNo.{SiteNo}
use Rattle.cast_types.specs.Names.{Entry}
use Rattle.cast_flush.specs.Reports.{is_complete, wanting, want_of, cut_from}
use Rattle.cast_view.specs.Home.{wants_in}
use Rattle.cast_view.proofs.Flushes.{wants_when_complete}
use Rattle.cast_view.proofs.home.HomeSide.wants.Goals as goal

-- all have reported, and the first that are lacked are wanted
pub returns-in_ok-ids-in-Gathering : goal.returns-in_ok-ids-in-Gathering
returns-in_ok-ids-in-Gathering c =
    let gathers = sym c.phase.ensures ∙ c.in-Gathering.is in
    let complete : is_complete c.in-Gathering.awaited c.in-Gathering.reports ≡ true = cc c.if-is_complete.ensures in
    let lacked : c.in_ok-ids-in-Gathering.ids.items ≡ wanting c.args.group c.args.self.now.number
    (cut_from c.args.self.now.members.list c.in-Gathering.reports) c.in-Gathering.reports c.in-Gathering.bodies =
    rw (← c.as_slice-in-Gathering.ensures, ← c.as_slice-in-Gathering-2.ensures) c.in_ok-ids-in-Gathering.ensures in
    let same : filter_map (want_of c.as_slice-in-Gathering-3.result.now) (take 64 c.deref.result.now)
    ≡ wants_in c.args.group c.args.self.now c.args.self.now.phase =
    rw (c.as_slice-in-Gathering-3.ensures, c.deref.ensures.value)
    (wants_when_complete c.args.group c.args.self.now c.in-Gathering.awaited c.in-Gathering.reports c.in-Gathering.bodies
    c.in_ok-ids-in-Gathering.ids.items gathers complete lacked) in
    IfOk-weaker c.wants_of-in-Gathering.result
    (λ l. l ≡ filter_map (want_of c.as_slice-in-Gathering-3.result.now) (take 64 c.deref.result.now))
    (λ (l : List (SiteNo × Entry)). l ≡ wants_in c.args.group c.args.self.now c.args.self.now.phase) (λ l is. is ∙ same)
    c.wants_of-in-Gathering.ensures
