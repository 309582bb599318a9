use Rattle.std.proofs.Common.{◌≡◌, sym, ◌∙◌}
use Rattle.cast_clock.specs.Times.{clock_of, has_room, with_bump}
use Rattle.cast_clock.proofs.Valid.{is_time-put, bumped_fits, bumped_valid}
use Rattle.cast_clock.proofs.times.Times.bump.Goals as goal

pub returns-then-not-has_place-clause-too_many : goal.returns-then-not-has_place-clause-too_many
returns-then-not-has_place-clause-too_many c = λ _.
    let is : c.in_ok-clock.clock ≡ clock_of c.self.inside.clocks.items c.args.group = cc (c.in_ok-clock.ensures, c.deref.ensures.value) in
    let fits : has_room (with_bump c.self.inside.clocks.items c.args.group c.args.process) ≡ c.has_place.result =
    bumped_fits c.self.inside.clocks.items c.args.group c.args.process c.in_ok-clock.clock c.get-count.result c.has_place.result
    c.self.invariant is c.get-count.ensures c.has_place.ensures in
    cc (fits, c.self.view_is, c.if-not-has_place.true)

pub returns-clause-fits : goal.returns-clause-fits
returns-clause-fits c =
    let is : c.in_ok-clock.clock ≡ clock_of c.self.inside.clocks.items c.args.group = cc (c.in_ok-clock.ensures, c.deref.ensures.value) in
    let fits : has_room (with_bump c.self.inside.clocks.items c.args.group c.args.process) ≡ c.has_place.result =
    bumped_fits c.self.inside.clocks.items c.args.group c.args.process c.in_ok-clock.clock c.get-count.result c.has_place.result
    c.self.invariant is c.get-count.ensures c.has_place.ensures in
    cc (fits, c.self.view_is, c.if-not-has_place.false)

pub invariant_of-self-2 : goal.invariant_of-self-2
invariant_of-self-2 c =
    let is : c.in_ok-clock.clock ≡ clock_of c.self.inside.clocks.items c.args.group = cc (c.in_ok-clock.ensures, c.deref.ensures.value) in
    rw c.in_ok-put.ensures.ok (is_time-put c.self.inside.clocks.items c.args.group _ c.self.invariant
    (bumped_valid c.self.inside.clocks.items c.args.group c.args.process c.in_ok-clock.clock c.get-count.result _ c.self.invariant is
    (sym c.has_place.ensures ∙ c.if-not-has_place.false) c.in_ok-set.ensures.ok))
