use Rattle.std.proofs.Common.{◌≡◌, ◌∙◌, Some, None, List, [], sym, ap}
use Rattle.std.specs.Prelude.{◌==◌, if◌then◌else◌}
use Rattle.std.proofs.lemmas.Option.{get_or_from_slice_get}
use Rattle.std.proofs.lemmas.Result.{IfOk-weaker}
use Rattle.cast_types.specs.declared.names.Uid.{Uid}
use Rattle.cast_world.specs.Ids.{ids_of}
use Rattle.cast_world.specs.declared.daemon.Daemon.{Daemon}
use Rattle.cast_world.specs.declared.world.World.{World}
use Rattle.cast_world.specs.Network.{Network}
use Rattle.cast_world.specs.Worlds.{StandsFor, delivered_at, place_named}
use Rattle.cast_world.proofs.Standing.{there, delivered_there, delivered_nowhere}
use Rattle.cast_world.proofs.world.World.delivered.Goals as goal

pub returns-in-Some-clause-ids : goal.returns-in-Some-clause-ids
returns-in-Some-clause-ids c =
    let world : World = c.args.self.now in
    let p = c.args.process in
    let d = c.args.domain in
    let place = c.in-Some.place in
    let named : place_named p.site world.daemons.items ≡ Some place =
    ap (place_named p.site) (sym c.deref.ensures.value) ∙ sym c.place_of.ensures.named ∙ c.in-Some.is in
    let first = there p.site world.daemons.items place named in
    let read : Daemon = c.index.result.now in
    let same : read ≡ first.daemon = c.index.ensures ∙ get_or_from_slice_get world.daemons.items place first.daemon read first.stands in
    IfOk-weaker c.ids_of.result (λ (ids : List Uid). ids ≡ (if read.number.0 == d.0 then ids_of p read.delivered else []))
    (λ (ids : List Uid). (w : Network) → StandsFor world w → ids ≡ delivered_at w d p)
    (λ ids is w stands. is
    ∙ ap (λ (x : Daemon). if x.number.0 == d.0 then ids_of p x.delivered else []) same
    ∙ delivered_there world place p d named w stands) c.ids_of.ensures

pub returns-in-None-clause-ids : goal.returns-in-None-clause-ids
returns-in-None-clause-ids c =
    let world : World = c.args.self.now in
    let p = c.args.process in
    let none : place_named p.site world.daemons.items ≡ None =
    ap (place_named p.site) (sym c.deref.ensures.value) ∙ sym c.place_of.ensures.named ∙ c.in-None.is in
    λ w stands. c.new.ensures ∙ delivered_nowhere world p c.args.domain none w stands
