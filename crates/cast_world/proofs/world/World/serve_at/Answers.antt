use Rattle.std.proofs.Common.{◌≡◌, ◌∙◌, true, refl, subst, sym}
use Rattle.std.proofs.lemmas.Option.{get_or_from_slice_get}
use Rattle.std.proofs.lemmas.Result.{IfOk-weaker}
use Rattle.cast_world.specs.declared.daemon.Daemon.{Daemon}
use Rattle.cast_world.specs.declared.world.World.{World}
use Rattle.cast_world.specs.Network.{names}
use Rattle.cast_world.specs.Worlds.{Serves, ServesAt}
use Rattle.cast_world.proofs.Standing.{there, serves_at}
use Rattle.cast_world.proofs.world.World.serve_at.Goals as goal

pub returns : goal.returns
returns c =
    let old : World = c.args.self.now in
    let s = c.args.site in
    let place = c.args.place in
    let e = c.args.event.now in
    let first = there s old.daemons.items place c.requires.named in
    let read : Daemon = c.index_mut-daemon.result.now in
    let same : read ≡ first.daemon =
    c.index_mut-daemon.ensures.value ∙ get_or_from_slice_get old.daemons.items place first.daemon read first.stands in
    IfOk-weaker c.serve.result (λ _. Serves e read c.serve.new.self old.sent.items c.serve.new.sent.items) (λ _. ServesAt s e old _)
    (λ _ served. serves_at s place old _ c.requires.named e c.serve.new.self
    (subst (λ d. Serves e d c.serve.new.self old.sent.items c.serve.new.sent.items) same served) refl refl) c.serve.ensures

pub serve-requires : goal.serve-requires
serve-requires c =
    let old : World = c.args.self.now in
    let s = c.args.site in
    let place = c.args.place in
    let first = there s old.daemons.items place c.requires.named in
    let read : Daemon = c.index_mut-daemon.result.now in
    let same : read ≡ first.daemon =
    c.index_mut-daemon.ensures.value ∙ get_or_from_slice_get old.daemons.items place first.daemon read first.stands in
    subst (λ (d : Daemon). names d.number c.args.event.now ≡ true) (sym same) (c.requires.own first.daemon first.stands)
