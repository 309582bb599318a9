use Rattle.std.proofs.Common.{◌≡◌, ◌∙◌, Some, None, sym, ap, subst}
use Rattle.std.proofs.lemmas.Result.{IfOk-weaker}
use Rattle.cast_world.specs.declared.step.Happening.{Happening}
use Rattle.cast_world.specs.declared.world.World.{World}
use Rattle.cast_world.specs.Worlds.{Acts, Hands, Takes, place_named}
use Rattle.cast_world.proofs.Standing.{takes_local, takes_nowhere, takes_sent}
use Rattle.cast_world.proofs.world.World.take.Goals as goal

pub returns-in_default : goal.returns-in_default
returns-in_default c =
    let old : World = c.args.self.now in
    let s = c.args.step.now.site in
    let none : place_named s old.daemons.items ≡ None =
    ap (place_named s) (sym c.deref.ensures.value) ∙ sym c.place_of.ensures.named ∙ c.in_default.is in
    takes_nowhere c.args.step.now old none

pub returns-in-Local : goal.returns-in-Local
returns-in-Local c =
    let old : World = c.args.self.now in
    let s = c.args.step.now.site in
    let named : place_named s old.daemons.items ≡ Some c.in-Some.place =
    ap (place_named s) (sym c.deref.ensures.value) ∙ sym c.place_of.ensures.named ∙ c.in-Some.is in
    IfOk-weaker c.act.result (λ _. Acts s c.in-Local.event old c.act.new.self) (λ _. Takes c.args.step.now old c.act.new.self)
    (λ _ acts. subst (λ (what : Happening). Takes (record { site = s; what = what }) old c.act.new.self) (sym c.in-Local.is)
    (takes_local s c.in-Some.place c.in-Local.event old c.act.new.self named acts)) c.act.ensures

pub returns-in-Sent : goal.returns-in-Sent
returns-in-Sent c =
    let old : World = c.args.self.now in
    let s = c.args.step.now.site in
    let named : place_named s old.daemons.items ≡ Some c.in-Some.place =
    ap (place_named s) (sym c.deref.ensures.value) ∙ sym c.place_of.ensures.named ∙ c.in-Some.is in
    IfOk-weaker c.hand.result (λ _. Hands s c.in-Sent.number old c.hand.new.self) (λ _. Takes c.args.step.now old c.hand.new.self)
    (λ _ hands. subst (λ (what : Happening). Takes (record { site = s; what = what }) old c.hand.new.self) (sym c.in-Sent.is)
    (takes_sent s c.in-Some.place c.in-Sent.number old c.hand.new.self named hands)) c.hand.ensures
