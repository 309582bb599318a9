use Rattle.std.proofs.Common.{◌≡◌, ◌++◌, ◌∷◌, ◌∙◌, [], true, List, Contains, subst, rules}
use Rattle.std.specs.Prelude.{nat_le}
use Rattle.std.specs.List.{list_all}
use Rattle.cast_index.specs.Rises.{rises}
use Rattle.cast_ready.specs.declared.offered.Offered.{Offered}
use Rattle.cast_delay.specs.Offers.{key_of}
use Rattle.cast_delay.proofs.Floors.{last_times}
use Rattle.cast_delay.proofs.Passed.{offer_passed}
use Rattle.cast_delay.proofs.queue.Delay.offer.Goals as goal

-- the message that came last alone has its key
pub look_at-requires-clause-last : goal.look_at-requires-clause-last
look_at-requires-clause-last c = λ rising o there same.
    let d = c.self.inside in
    let last : Offered =
    record { key = c.args.key; id = c.args.message.now.id; atomic = c.is_atomic.result; times = c.in_ok-copy.field-0 } in
    let items : c.push.new.self ≡ d.offered ++ last ∷ [] = c.in_ok-push.ensures.ok in
    let copied : c.in_ok-copy.field-0 ≡ c.args.message.now.times = search rules in
    last_times d.offered last (subst (λ (os : List Offered). rises key_of os ≡ true) items rising) o
    (subst (λ (os : List Offered). Contains os o) items there) same ∙ copied

-- none of a key from this one on was looked at
pub invariant_of-self-else-not-are_upto : goal.invariant_of-self-else-not-are_upto
invariant_of-self-else-not-are_upto c =
    let d = c.self.inside in
    let last : Offered =
    record { key = c.args.key; id = c.args.message.now.id; atomic = c.is_atomic.result; times = c.in_ok-copy.field-0 } in
    let items : c.push.new.self ≡ d.offered ++ last ∷ [] = c.in_ok-push.ensures.ok in
    let rising : rises key_of c.push.new.self ≡ true = search rules in
    let upto : list_all (λ l. nat_le l.below last.key.0) d.waits ≡ true = search rules in
    rw items (offer_passed d.gates d.rows d.offered last d.settled d.waits (rw (← items) rising) upto d.floor c.look_at.new.floor
    c.self.invariant (rw (← items) c.look_at.ensures))
