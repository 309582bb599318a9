use Rattle.std.proofs.Common.{◌≡◌, ◌∙◌, sym, ap, true}
use Rattle.std.specs.Prelude.{◌&&◌, if◌then◌else◌}
use Rattle.std.proofs.lemmas.Bool.{and_from}
use Rattle.cast_types.specs.Names.{site_eq}
use Rattle.cast_timer.specs.declared.key.OwedKind.TheVariants.{Install}
use Rattle.cast_view.specs.Home.{takes_installed}
use Rattle.cast_view.specs.Home.HomeMove.{Installed}
use Rattle.cast_rules.specs.Rules.Keys.{home_key}
use Rattle.cast_domain.specs.Records.{records_in}
use Rattle.cast_domain.specs.PartCalls.{move_home_in, pay_in, record_at}
use Rattle.cast_handlers.proofs.home.on_installed.Goals as goal

pub returns-then-takes_installed-clause-made : goal.returns-then-takes_installed-clause-made
returns-then-takes_installed-clause-made c =
    let r = records_in c.args.domain.now c.args.lent.now in
    let i = c.args.place in
    let from = c.args.from in
    let x = record_at r.groups i in
    let awaited : takes_installed x.home from c.args.view ≡ true =
    ap (λ y. takes_installed y.home from c.args.view) (sym c.record.ensures) ∙ sym c.takes_installed.ensures ∙ c.if-takes_installed.true in
    let now : (site_eq r.site r.config.home && takes_installed x.home from c.args.view) ≡ true =
    and_from _ _ (sym c.is_home.ensures ∙ c.if-is_home.true) awaited in
    let key : c.home_key-key.result ≡ home_key Install x.name from =
    c.home_key-key.ensures ∙ ap (λ y. home_key Install y.name from) c.record-then-takes_installed.ensures in
    (λ j. record ((c.pay.ensures.made ∙ ap (pay_in r) key) j) { groups = c.installed_at.ensures j })
    ∙ sym (ap (λ b. if b then move_home_in (pay_in r (home_key Install x.name from)) i (Installed from c.args.view) else r) now)
