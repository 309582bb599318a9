use Rattle.std.proofs.Common.{IsTrue, ◌∙◌, subst}
use Rattle.cast_clock.specs.Times.{is_time}
use Rattle.cast_clock.proofs.News.{all_fit, has_room-join}
use Rattle.cast_clock.proofs.Valid.{sorted_stamp}
use Rattle.cast_clock.proofs.times.Times.has_room_but.Goals as goal

pub returns : goal.returns
returns c =
    let mine = c.args.self.now in
    let theirs = c.args.stamp.now in
    let valid : IsTrue (is_time mine) = subst (λ t. IsTrue (is_time t)) c.self.view_is c.self.invariant in
    c.all_fit.ensures
    ∙ (λ i. all_fit ((c.deref.ensures.value ∙ c.self.view_is) i) (c.clocks.ensures.value i))
    ∙ has_room-join mine theirs valid (sorted_stamp theirs c.clocks.ensures.valid)
