use Rattle.std.proofs.Common.{◌≡◌, ◌<◌, length, Bool, Option, unwrap_or, ap, sym, ◌∙◌, arith}
use Rattle.cast_types.specs.declared.names.GroupNo.{GroupNo}
use Rattle.cast_types.specs.declared.clock.Clock.{Clock}
use Rattle.cast_clock.specs.Times.{first_clock, clock_of, join_clocks, clock_has_room}
use Rattle.cast_clock.proofs.News.{all_stops, all_goes, known_fits, known_listed}
use Rattle.cast_clock.proofs.clocks.all_fit.Goals as goal

pub returns-then-not-fits_joined : goal.returns-then-not-fits_joined
returns-then-not-fits_joined c =
    let e = c.loop-group-item.result in
    let fits : GroupNo × Clock → Bool = λ x. clock_has_room (join_clocks (clock_of c.args.mine.now x.0) x.1) in
    let tested : c.fits_joined.result ≡ fits e =
    c.fits_joined.ensures
    ∙ ap (λ (o : Option Clock). clock_has_room (join_clocks (unwrap_or o (first_clock 0)) e.1)) c.find_near-next.ensures in
    all_stops fits c.args.theirs.now c.loop-group.group-index e (omega arith) c.loop-group-item.is c.loop-group.invariant
    (sym tested ∙ c.if-not-fits_joined.true)

-- the group is known
pub loop-group-preserved-then-is_passed : goal.loop-group-preserved-then-is_passed
loop-group-preserved-then-is_passed c =
    let e = c.loop-group-item.result in
    let mine = c.args.mine.now in
    let theirs = c.args.theirs.now in
    let at : c.loop-group.group-index < length theirs = omega arith in
    let known =
    known_listed mine theirs c.args.known.now c.loop-group.group-index e at c.loop-group-item.is c.requires.viewed c.requires.known
    c.is_passed.ensures.valid (c.is_passed.ensures.listed c.if-is_passed.true) in
    all_goes (λ x. clock_has_room (join_clocks (clock_of mine x.0) x.1)) theirs c.loop-group.group-index e at c.loop-group-item.is
    c.loop-group.invariant (known_fits mine e.0 e.1 c.requires.time known)

pub loop-group-preserved : goal.loop-group-preserved
loop-group-preserved c =
    let e = c.loop-group-item.result in
    let fits : GroupNo × Clock → Bool = λ x. clock_has_room (join_clocks (clock_of c.args.mine.now x.0) x.1) in
    let tested : c.fits_joined.result ≡ fits e =
    c.fits_joined.ensures
    ∙ ap (λ (o : Option Clock). clock_has_room (join_clocks (unwrap_or o (first_clock 0)) e.1)) c.find_near-next.ensures in
    all_goes fits c.args.theirs.now c.loop-group.group-index e (omega arith) c.loop-group-item.is c.loop-group.invariant
    (sym tested ∙ c.if-not-fits_joined.false)
