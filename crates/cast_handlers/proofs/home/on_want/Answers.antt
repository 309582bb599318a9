use Rattle.std.proofs.Common.{◌≡◌, ◌∙◌, sym, ap, false, not, Some}
use Rattle.std.specs.Prelude.{◌&&◌, if◌then◌else◌}
use Rattle.std.specs.Option.{option_map_or}
use Rattle.cast_types.specs.Names.{site_eq}
use Rattle.cast_message.specs.declared.site.SiteFrame.TheVariants as frame
use Rattle.cast_rules.specs.Rules.Home.{forwardable}
use Rattle.cast_domain.specs.Shared.{part_of}
use Rattle.cast_domain.specs.Records.{Records, records_in}
use Rattle.cast_domain.specs.PartCalls.{send_in}
use Rattle.cast_domain.specs.Calls.{records}
use Rattle.cast_handlers.proofs.home.on_want.Goals as goal

pub returns-in_ok-send-in-Some-clause-made : goal.returns-in_ok-send-in-Some-clause-made
returns-in_ok-send-in-Some-clause-made c =
    let d = c.args.domain.now in
    let r : Records = records_in d c.args.lent.now in
    let from = c.args.from in
    let found : forwardable records r c.args.place c.args.id ≡ Some c.in-Some.message = sym c.in_ok-message.ensures ∙ c.in-Some.is in
    let other : (site_eq from r.site && not (site_eq r.site r.config.home)) ≡ false = sym c.is_own_want.ensures ∙ c.if-is_own_want.false in
    c.in_ok-send-in-Some.ensures (part_of d.config.domain c.args.lent.now.shared.now)
    ∙ sym (ap (λ o. option_map_or (λ m. send_in r from (frame.Forward m)) o r) found)
    ∙ sym (ap (λ b. if b then r else option_map_or (λ m. send_in r from (frame.Forward m)) (forwardable records r c.args.place c.args.id) r)
    other)
