-- ABCASTs are delivered in one order, which the view's holder sets, by worked examples.
use Rattle.std.specs.Prelude.{◌≡◌, ℕ, false, List, [], ◌∷◌, Some, None, refl}
use Rattle.cast_types.specs.declared.names.Proc.{Proc}
use Rattle.cast_types.specs.declared.refusal.Refusal.TheVariants.{OwnAbcast}
use Rattle.cast_types.specs.Names.{Entry}
use Rattle.cast_message.specs.declared.message.Body.TheVariants as body
use Rattle.cast_message.specs.declared.message.Message.{Message}
use Rattle.cast_message.specs.declared.site.SiteFrame.TheVariants as frame
use Rattle.cast_message.specs.declared.client.CastKind.TheVariants as kind
use Rattle.cast_message.specs.declared.client.Push.TheVariants as push
use Rattle.cast_events.specs.declared.event.Event.{Event}
use Rattle.cast_order.specs.Order.{known_order}
use Rattle.cast_rules.specs.Run.{Ran, run_of}
use Rattle.cast_rules.proofs.Words.{site, group, uid, at, alone, config, opens, asks_join, casts, casts_as}
use Rattle.cast_rules.proofs.Words.{comes, data_from, install, then_run, pushed_after, proc, p11, p21}

abbrev p31 : Proc
p31 = proc 3 1

-- a process casts an ABCAST without payload
abbrev abcasts : ℕ → ℕ → ℕ → Event
abcasts k tag g = casts_as kind.Atomic k tag g []

-- an ABCAST without payload of view 3 of group 1, whose time counts these
abbrev atomic : Proc → ℕ → List Entry → Message
atomic p n counts = record { id = uid 1 3 p n; times = at 1 3 counts ∷ []; body = body.Atomic [] }

-- a site of 1.1, 2.1 and 3.1, which are view 3 of group 1; 1.1 is the holder, and the home is site 9
placed : ℕ → Ran
placed s = run_of 2 (site s) (config 9 (site 1 ∷ site 2 ∷ site 3 ∷ site 9 ∷ []) (group 1 ∷ group 2 ∷ []))
    (opens ∷ asks_join 1 7 1 ∷ comes 9 (frame.Asked (group 1) 1 false)
    ∷ comes 9 (install 1 3 (p11 ∷ p21 ∷ p31 ∷ []) p11 1) ∷ [])

-- 2.1 casts c, and then the ABCAST first; 3.1 has delivered c and casts the ABCAST second
c : Message
c = alone 1 3 p21 1

first : Message
first = atomic p21 2 ((p21, 2) ∷ [])

second : Message
second = atomic p31 1 ((p21, 1) ∷ (p31, 1) ∷ [])

-- the holder lists both, in its order of delivery
places : Message
places =
    record {
      id = uid 1 3 p11 1;
      times = at 1 3 ((p11, 1) ∷ (p21, 2) ∷ (p31, 1) ∷ []) ∷ [];
      body = body.Order (record { first = 1; ids = (p21, 2) ∷ (p31, 1) ∷ []; holder = None });
    }

-- the holder receives the ABCASTs before c; it delivers them after c, in order of receipt, and tells that order
at_holder : Ran
unfolding known_order placed c first second
at_holder = then_run (placed 1) (data_from 2 first ∷ data_from 3 second ∷ data_from 2 c ∷ [])

at_holder_pushes : pushed_after 3 at_holder ≡
    push.Deliver (uid 1 3 p21 1) kind.Causal [] ∷ push.Deliver (uid 1 3 p21 2) kind.Atomic []
    ∷ push.Deliver (uid 1 3 p31 1) kind.Atomic [] ∷ []
unfolding known_order at_holder placed c first second
at_holder_pushes = refl

at_holder_sent : at_holder.sent ≡
    (site 2, frame.Ack (uid 1 3 p21 2)) ∷ (site 3, frame.Ack (uid 1 3 p31 1)) ∷ (site 2, frame.Ack (uid 1 3 p21 1))
    ∷ (site 2, frame.Data places) ∷ (site 3, frame.Data places) ∷ []
unfolding known_order at_holder placed c first second places
at_holder_sent = refl

-- 2.1 delivers its own ABCAST in its turn, and neither before the holder has told the order
at_sender : Ran
unfolding known_order placed second places
at_sender = then_run (placed 2) (casts 1 1 1 [] ∷ abcasts 1 2 1 ∷ data_from 3 second ∷ data_from 1 places ∷ [])

at_sender_pushes : pushed_after 3 at_sender ≡
    push.Reply 1 None ∷ push.Deliver (uid 1 3 p21 1) kind.Causal [] ∷ push.Reply 2 None
    ∷ push.Deliver (uid 1 3 p21 2) kind.Atomic [] ∷ push.Deliver (uid 1 3 p31 1) kind.Atomic [] ∷ []
unfolding known_order at_sender placed second places
at_sender_pushes = refl

-- 3.1 knows the order before it has the first of the two
at_other : Ran
unfolding known_order placed c first places
at_other = then_run (placed 3) (data_from 2 c ∷ abcasts 1 2 1 ∷ data_from 1 places ∷ data_from 2 first ∷ [])

at_other_pushes : pushed_after 3 at_other ≡
    push.Deliver (uid 1 3 p21 1) kind.Causal [] ∷ push.Reply 2 None
    ∷ push.Deliver (uid 1 3 p21 2) kind.Atomic [] ∷ push.Deliver (uid 1 3 p31 1) kind.Atomic [] ∷ []
unfolding known_order at_other placed c first places
at_other_pushes = refl

-- an ABCAST of its own that a process has not delivered keeps it from casting, and what happened after it waits
later : Message
later = record { id = uid 1 3 p31 1; times = at 1 3 ((p21, 1) ∷ (p31, 1) ∷ []) ∷ at 2 2 [] ∷ []; body = body.Causal [] }

place : Message
place =
    record {
      id = uid 1 3 p11 1;
      times = at 1 3 ((p11, 1) ∷ (p21, 1) ∷ []) ∷ at 2 2 ((p11, 1) ∷ []) ∷ [];
      body = body.Order (record { first = 1; ids = (p21, 1) ∷ []; holder = None });
    }

after_own : Message
after_own = record {
  id = uid 1 3 p21 2;
  times = at 1 3 ((p11, 1) ∷ (p21, 2) ∷ (p31, 1) ∷ []) ∷ at 2 2 ((p11, 1) ∷ []) ∷ [];
  body = body.Causal [];
}

own_waits : Ran
unfolding known_order placed later place
own_waits = then_run (placed 2) (abcasts 1 1 1 ∷ data_from 3 later ∷ casts 1 2 1 [] ∷ data_from 1 place ∷ casts 1 3 1 [] ∷ [])

own_waits_pushes : pushed_after 3 own_waits ≡
    push.Reply 1 None ∷ push.Reply 2 (Some OwnAbcast)
    ∷ push.Deliver (uid 1 3 p21 1) kind.Atomic [] ∷ push.Deliver (uid 1 3 p31 1) kind.Causal []
    ∷ push.Reply 3 None ∷ push.Deliver (uid 1 3 p21 2) kind.Causal [] ∷ []
unfolding known_order own_waits placed later place
own_waits_pushes = refl

own_waits_sent : own_waits.sent ≡
    (site 1, frame.Data (atomic p21 1 ((p21, 1) ∷ []))) ∷ (site 3, frame.Data (atomic p21 1 ((p21, 1) ∷ [])))
    ∷ (site 3, frame.Ack (uid 1 3 p31 1)) ∷ (site 1, frame.Ack (uid 1 3 p11 1))
    ∷ (site 1, frame.Data after_own) ∷ (site 3, frame.Data after_own) ∷ []
unfolding known_order own_waits placed later place after_own
own_waits_sent = refl
