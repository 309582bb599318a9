use Rattle.std.proofs.Common.{◌≡◌, true, ◌∙◌, sym, ap}
use Rattle.cast_types.specs.Names.{site_eq}
use Rattle.cast_message.specs.declared.site.SiteFrame.TheVariants as frame
use Rattle.cast_view.specs.declared.member.Verdict.TheVariants.{Again, Skips, Completes, Pends}
use Rattle.cast_view.specs.MemberSide.{verdict_of}
use Rattle.cast_domain.specs.Records.{records_in}
use Rattle.cast_domain.specs.PartCalls.{record_at, send_in}
use Rattle.cast_domain.specs.Calls.{records}
use Rattle.cast_domain.proofs.Loops.{seen_as}
use Rattle.cast_domain.proofs.Verdicts.{installed_by}
use Rattle.cast_handlers.proofs.views.on_install.Goals as goal

pub returns-in_ok-send-in-Again-clause-made : goal.returns-in_ok-send-in-Again-clause-made
returns-in_ok-send-in-Again-clause-made c =
    let r = records_in c.args.domain.now c.args.lent.now in
    let home : site_eq c.args.from r.config.home ≡ true = sym c.is_from_home.ensures ∙ c.if-not-is_from_home.false in
    let verdict : verdict_of (record_at r.groups c.args.place).here c.args.view ≡ Again =
    ap (λ y. verdict_of y.here c.args.view) (sym c.record.ensures) ∙ sym c.verdict.ensures ∙ c.in-Again.is in
    installed_by records r c.args.place c.args.from c.args.view c.args.members.now c.args.request c.args.cut.now c.args.tail.now Again _
    home verdict
    (c.in_ok-send-in-Again.ensures r.part ∙ ap (λ y. send_in r c.args.from (frame.Installed y.name c.args.view)) c.record-in-Again.ensures)

pub returns-in_ok-install_view-in-Skips-clause-made :
    goal.returns-in_ok-install_view-in-Skips-clause-made
returns-in_ok-install_view-in-Skips-clause-made c =
    let r = records_in c.args.domain.now c.args.lent.now in
    let home : site_eq c.args.from r.config.home ≡ true = sym c.is_from_home.ensures ∙ c.if-not-is_from_home.false in
    let verdict : verdict_of (record_at r.groups c.args.place).here c.args.view ≡ Skips =
    ap (λ y. verdict_of y.here c.args.view) (sym c.record.ensures) ∙ sym c.verdict.ensures ∙ c.in-Skips.is in
    installed_by records r c.args.place c.args.from c.args.view c.args.members.now c.args.request c.args.cut.now c.args.tail.now Skips _
    home verdict
    (c.in_ok-install_view-in-Skips.ensures.made c.args.cut.now)

pub returns-in_ok-install_view-in-Completes-clause-made :
    goal.returns-in_ok-install_view-in-Completes-clause-made
returns-in_ok-install_view-in-Completes-clause-made c =
    let r = records_in c.args.domain.now c.args.lent.now in
    let home : site_eq c.args.from r.config.home ≡ true = sym c.is_from_home.ensures ∙ c.if-not-is_from_home.false in
    let verdict : verdict_of (record_at r.groups c.args.place).here c.args.view ≡ Completes =
    ap (λ y. verdict_of y.here c.args.view) (sym c.record.ensures) ∙ sym c.verdict.ensures ∙ c.in-Completes.is in
    installed_by records r c.args.place c.args.from c.args.view c.args.members.now c.args.request c.args.cut.now c.args.tail.now Completes _
    home verdict
    (c.in_ok-install_view-in-Completes.ensures.made c.args.cut.now)

pub returns-in_ok-pend-in-Pends-clause-made : goal.returns-in_ok-pend-in-Pends-clause-made
returns-in_ok-pend-in-Pends-clause-made c =
    let d = c.args.domain.now in
    let lent = c.args.lent.now in
    let r = records_in d lent in
    let home : site_eq c.args.from r.config.home ≡ true = sym c.is_from_home.ensures ∙ c.if-not-is_from_home.false in
    let verdict : verdict_of (record_at r.groups c.args.place).here c.args.view ≡ Pends =
    ap (λ y. verdict_of y.here c.args.view) (sym c.record.ensures) ∙ sym c.verdict.ensures ∙ c.in-Pends.is in
    installed_by records r c.args.place c.args.from c.args.view c.args.members.now c.args.request c.args.cut.now c.args.tail.now Pends _
    home verdict
    (seen_as d _ c.in_ok-pend-in-Pends.ensures.same lent.shared.now lent.outs.now
    ∙ c.in_ok-pend-in-Pends.ensures.made lent.outs.now r.part)
