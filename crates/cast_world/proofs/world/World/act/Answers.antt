use Rattle.std.proofs.Common.{◌≡◌, ◌∙◌, true, false, sym, ap}
use Rattle.std.specs.Prelude.{◌&&◌}
use Rattle.std.proofs.lemmas.Option.{get_or_from_slice_get}
use Rattle.std.proofs.lemmas.Result.{IfOk-weaker}
use Rattle.cast_world.specs.declared.daemon.Daemon.{Daemon}
use Rattle.cast_world.specs.declared.world.World.{World}
use Rattle.cast_world.specs.Network.{is_local, names}
use Rattle.cast_world.specs.Worlds.{Acts, ServesAt}
use Rattle.cast_world.proofs.Standing.{there, acts, acts_not, names_at}
use Rattle.cast_world.proofs.world.World.act.Goals as goal
use Rattle.cast_world.proofs.world.World.act.Goals.{else-is_local-via-then-is_local+else-names, else-is_local-via-else-is_local}

pub serve_at-requires-clause-own : goal.serve_at-requires-clause-own
serve_at-requires-clause-own c =
    let old : World = c.args.self.now in
    let place = c.args.place in
    let read : Daemon = c.index.result.now in
    names_at place old.daemons.items c.args.event.now read (c.index.ensures) (sym c.names.ensures ∙ c.if-names.true)

pub returns-then-names : goal.returns-then-names
returns-then-names c =
    let old : World = c.args.self.now in
    let s = c.args.site in
    let place = c.args.place in
    let e = c.args.event.now in
    let first = there s old.daemons.items place c.requires.named in
    let read : Daemon = c.index.result.now in
    let same : read ≡ first.daemon = c.index.ensures ∙ get_or_from_slice_get old.daemons.items place first.daemon read first.stands in
    let number : read.number ≡ first.daemon.number = ap (λ (d : Daemon). d.number) same in
    let one : is_local e ≡ true = sym c.is_local.ensures ∙ c.if-is_local.true in
    let two : names read.number e ≡ true = sym c.names.ensures ∙ c.if-names.true in
    IfOk-weaker c.serve_at.result (λ _. ServesAt s e old c.serve_at.new.self) (λ _. Acts s e old c.serve_at.new.self)
    (λ _ served. acts s place old c.requires.named e c.serve_at.new.self read.number number (λ i. one i && two i) served) c.serve_at.ensures

pub returns-else-is_local : goal.returns-else-is_local
returns-else-is_local c =
    let old : World = c.args.self.now in
    let s = c.args.site in
    let place = c.args.place in
    let e = c.args.event.now in
    let first = there s old.daemons.items place c.requires.named in
    let read : Daemon = c.index.result.now in
    let same : read ≡ first.daemon = c.index.ensures ∙ get_or_from_slice_get old.daemons.items place first.daemon read first.stands in
    let number : read.number ≡ first.daemon.number = ap (λ (d : Daemon). d.number) same in
    acts_not s place old c.requires.named e read.number number (elim c.else-is_local.branch [
      | else-is_local-via-then-is_local+else-names w ↦
          let one : is_local e ≡ true = sym c.is_local.ensures ∙ w.if-is_local.true in
          let two : names read.number e ≡ false = sym w.names.ensures ∙ w.if-names.false in
          (λ i. one i && two i)
      | else-is_local-via-else-is_local w ↦
          (let one : is_local e ≡ false = sym c.is_local.ensures ∙ w.if-is_local.false in ap (λ b. b && names read.number e) one)
    ])
