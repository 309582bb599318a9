use Rattle.std.proofs.Common.{◌≡◌, ◌∙◌, true, false, length, Some, None, refl, sym, ap, subst}
use Rattle.std.specs.List.{slice_get}
use Rattle.std.proofs.lemmas.Bool.{eq-eqb}
use Rattle.std.proofs.lemmas.Option.{get_or_from_slice_get, slice_get_past, slice_get_read}
use Rattle.std.proofs.lemmas.Result.{IfOk-weaker}
use Rattle.cast_types.specs.Names.{site_eq}
use Rattle.cast_message.specs.declared.site.SiteFrame.{SiteFrame}
use Rattle.cast_events.specs.declared.event.Event.TheVariants as event
use Rattle.cast_world.specs.declared.daemon.Daemon.{Daemon}
use Rattle.cast_world.specs.declared.world.World.{World}
use Rattle.cast_world.specs.declared.step.Packet.{Packet}
use Rattle.cast_world.specs.Worlds.{Hands, ServesAt}
use Rattle.cast_world.proofs.Handlers.{not_true, not_false}
use Rattle.cast_world.proofs.Standing.{there, hands, hands_none, hands_elsewhere, names_at}
use Rattle.cast_world.proofs.world.World.hand.Goals as goal

pub serve_at-requires-clause-own : goal.serve_at-requires-clause-own
serve_at-requires-clause-own c =
    let old : World = c.args.self.now in
    let read : Daemon = c.index.result.now in
    names_at c.args.place old.daemons.items (event.Frame read.number c.in-Some.packet.now.from c.in_ok-copy.field-0)
    read c.index.ensures (eq-eqb read.number.0 read.number.0 refl)

pub returns : goal.returns
returns c =
    let old : World = c.args.self.now in
    let s = c.args.site in
    let place = c.args.place in
    let first = there s old.daemons.items place c.requires.named in
    let read : Daemon = c.index.result.now in
    let same : read ≡ first.daemon = c.index.ensures ∙ get_or_from_slice_get old.daemons.items place first.daemon read first.stands in
    let number : read.number ≡ first.daemon.number = ap (λ (d : Daemon). d.number) same in
    let p : Packet = c.in-Some.packet.now in
    let has : slice_get old.sent.items c.args.number ≡ Some p =
    ap (λ ps. slice_get ps c.args.number) (sym c.deref.ensures.value)
    ∙ slice_get_read c.deref.result.now (length c.deref.result.now)
    c.args.number p refl c.in-Some.ensures.lookup.3.0 c.in-Some.ensures.lookup.1 in
    let to_it : site_eq p.to s ≡ true = not_true (site_eq p.to s) (sym c.ne.ensures ∙ c.if-ne.false) in
    IfOk-weaker c.serve_at.result (λ _. ServesAt s (event.Frame read.number p.from c.in_ok-copy.field-0) old c.serve_at.new.self)
    (λ _. Hands s c.args.number old c.serve_at.new.self)
    (λ _ served. hands s place old c.requires.named c.args.number p c.serve_at.new.self read.number number has to_it
    (subst (λ (f : SiteFrame). ServesAt s (event.Frame read.number p.from f) old c.serve_at.new.self) c.in_ok-copy.ensures served))
    c.serve_at.ensures

pub returns-in_default : goal.returns-in_default
returns-in_default c =
    let old : World = c.args.self.now in
    let has : slice_get old.sent.items c.args.number ≡ None =
    ap (λ ps. slice_get ps c.args.number) (sym c.deref.ensures.value)
    ∙ slice_get_past c.deref.result.now c.args.number c.in_default.ensures.lookup.3 in
    hands_none c.args.site c.args.place old c.requires.named c.args.number has

pub returns-then-ne : goal.returns-then-ne
returns-then-ne c =
    let old : World = c.args.self.now in
    let p : Packet = c.in-Some.packet.now in
    let has : slice_get old.sent.items c.args.number ≡ Some p =
    ap (λ ps. slice_get ps c.args.number) (sym c.deref.ensures.value)
    ∙ slice_get_read c.deref.result.now (length c.deref.result.now)
    c.args.number p refl c.in-Some.ensures.lookup.3.0 c.in-Some.ensures.lookup.1 in
    let other : site_eq p.to c.args.site ≡ false = not_false (site_eq p.to c.args.site) (sym c.ne.ensures ∙ c.if-ne.true) in
    hands_elsewhere c.args.site c.args.place old c.requires.named c.args.number p has other
