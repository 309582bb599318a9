use Rattle.std.proofs.Common.{◌≡◌, List, get_or, length, ◌<◌, subst}
use Rattle.cast_sending.specs.Acks.{NoneWaitsFor, WaitingAck}
use Rattle.cast_sending.proofs.Early.{taken_out}
use Rattle.cast_sending.proofs.acks.take.Goals as goal

pub returns-in-None-clause-none : goal.returns-in-None-clause-none
returns-in-None-clause-none c =
    subst (λ (l : List WaitingAck). NoneWaitsFor l c.args.domain c.args.id) c.deref.ensures.value c.in-None.ensures.none

pub returns-in-Some-clause-some : goal.returns-in-Some-clause-some
returns-in-Some-clause-some c =
    let place = c.in-Some.place in
    let one : WaitingAck = c.remove.result in
    taken_out c.args.acks.now.items c.remove.new.self.items place c.args.domain c.args.id one
    (subst (λ (l : List WaitingAck). place < length l) c.deref.ensures.value c.in-Some.ensures.within) c.remove.ensures.value
    (subst (λ (l : List WaitingAck). (get_or l place one).0 ≡ c.args.domain) c.deref.ensures.value (c.in-Some.ensures.domain one))
    (subst (λ (l : List WaitingAck). (get_or l place one).2 ≡ c.args.id) c.deref.ensures.value (c.in-Some.ensures.id one))
    c.remove.ensures.items
