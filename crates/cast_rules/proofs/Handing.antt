-- The token is handed over, by worked examples.
use Rattle.std.specs.Prelude.{◌≡◌, ℕ, false, List, [], ◌∷◌, Some, None, refl}
use Rattle.cast_types.specs.declared.names.Proc.{Proc}
use Rattle.cast_types.specs.declared.refusal.Refusal.TheVariants.{NotMember, OwnAbcast, HeldFull, NotHolder}
use Rattle.cast_types.specs.Names.{Entry}
use Rattle.cast_message.specs.declared.message.Body.TheVariants as body
use Rattle.cast_message.specs.declared.message.Message.{Message}
use Rattle.cast_message.specs.declared.site.SiteFrame.TheVariants as frame
use Rattle.cast_message.specs.declared.client.CastKind.TheVariants as kind
use Rattle.cast_message.specs.declared.client.Push.TheVariants as push
use Rattle.cast_events.specs.declared.event.Event.{Event}
use Rattle.cast_order.specs.Order.{known_order}
use Rattle.cast_rules.specs.Run.{Ran, run_of}
use Rattle.cast_rules.proofs.Words.{site, group, uid, at, alone, config, opens, asks_join, casts_as, passes, lists, hands_over}
use Rattle.cast_rules.proofs.Words.{comes, data_from, install, in_second_view, then_run, pushed_after, proc, p11, p21}

-- a process casts an ABCAST without payload
abbrev abcasts : ℕ → ℕ → ℕ → Event
abcasts k tag g = casts_as kind.Atomic k tag g []

-- an ABCAST without payload of a view of group 1, whose time counts these
abbrev atomic : ℕ → Proc → ℕ → List Entry → Message
atomic view p n counts = record { id = uid 1 view p n; times = at 1 view counts ∷ []; body = body.Atomic [] }

-- 1.1 hands the token over to 2.1, which orders what 1.1 casts then
over : Message
over = hands_over (uid 1 2 p11 1) (at 1 2 ((p11, 1) ∷ []) ∷ []) 1 p21

ordered : Message
ordered = lists (uid 1 2 p21 1) (at 1 2 ((p11, 2) ∷ (p21, 1) ∷ []) ∷ []) 1 ((p11, 2) ∷ [])

handed : Ran
unfolding known_order ordered
handed = then_run in_second_view (passes 1 9 1 p21 ∷ passes 1 10 1 p21 ∷ abcasts 1 11 1 ∷ passes 1 12 1 p21 ∷ data_from 2 ordered ∷ [])

handed_pushes : pushed_after 3 handed ≡
    push.Reply 9 None ∷ push.Reply 10 (Some NotHolder) ∷ push.Reply 11 None ∷ push.Reply 12 (Some OwnAbcast)
    ∷ push.Deliver (uid 1 2 p11 2) kind.Atomic [] ∷ []
unfolding known_order handed ordered
handed_pushes = refl

handed_sent : handed.sent ≡
    (site 2, frame.Data over) ∷ (site 2, frame.Data (atomic 2 p11 2 ((p11, 2) ∷ []))) ∷ (site 2, frame.Ack (uid 1 2 p21 1)) ∷ []
unfolding known_order handed ordered over
handed_sent = refl

-- 2.1 takes it up, and orders its own ABCAST
at_second : Ran
at_second = run_of 2 (site 2) (config 9 (site 1 ∷ site 2 ∷ site 9 ∷ []) (group 1 ∷ []))
    (opens ∷ asks_join 1 7 1 ∷ comes 9 (frame.Asked (group 1) 1 false) ∷ comes 9 (install 1 2 (p11 ∷ p21 ∷ []) p11 1) ∷ [])

taken_up : Ran
unfolding known_order at_second over
taken_up = then_run at_second (passes 1 1 1 p11 ∷ data_from 1 over ∷ abcasts 1 2 1 ∷ [])

taken_up_pushes : pushed_after 3 taken_up
    ≡ push.Reply 1 (Some NotHolder) ∷ push.Reply 2 None ∷ push.Deliver (uid 1 2 p21 1) kind.Atomic [] ∷ []
unfolding known_order taken_up at_second over
taken_up_pushes = refl

taken_up_sent : taken_up.sent ≡
    (site 1, frame.Ack (uid 1 2 p11 1)) ∷ (site 1, frame.Data (atomic 2 p21 1 ((p11, 1) ∷ (p21, 1) ∷ [])))
    ∷ (site 1, frame.Data (lists (uid 1 2 p21 2) (at 1 2 ((p11, 1) ∷ (p21, 2) ∷ []) ∷ []) 1 ((p21, 1) ∷ []))) ∷ []
unfolding known_order taken_up at_second over
taken_up_sent = refl

-- it holds the token once it has delivered the hand-over, and not when that is received
early : Message
early = hands_over (uid 1 2 p11 2) (at 1 2 ((p11, 2) ∷ []) ∷ []) 1 p21

waits_for : Ran
unfolding known_order at_second early
waits_for = then_run at_second (data_from 1 early ∷ passes 1 1 1 p11 ∷ data_from 1 (alone 1 2 p11 1) ∷ passes 1 2 1 p11 ∷ [])

waits_for_pushes : pushed_after 3 waits_for
    ≡ push.Reply 1 (Some NotHolder) ∷ push.Deliver (uid 1 2 p11 1) kind.Causal [] ∷ push.Reply 2 None ∷ []
unfolding known_order waits_for at_second early
waits_for_pushes = refl

-- it is not handed over before all that its holder ordered is stable
p31 : Proc
p31 = proc 3 1

at_first : Ran
unfolding p31
at_first = run_of 2 (site 1) (config 9 (site 1 ∷ site 2 ∷ site 3 ∷ site 9 ∷ []) (group 1 ∷ []))
    (opens ∷ asks_join 1 7 1 ∷ comes 9 (frame.Asked (group 1) 1 false) ∷ comes 9 (install 1 3 (p11 ∷ p21 ∷ p31 ∷ []) p11 1) ∷ [])

settles : Ran
unfolding known_order at_first p31
settles = then_run at_first
    (abcasts 1 1 1 ∷ passes 1 2 1 p21 ∷ comes 2 (frame.Ack (uid 1 3 p11 1)) ∷ comes 3 (frame.Ack (uid 1 3 p11 1))
    ∷ comes 2 (frame.Ack (uid 1 3 p11 2)) ∷ comes 3 (frame.Ack (uid 1 3 p11 2)) ∷ passes 1 3 1 p21 ∷ [])

settles_pushes : pushed_after 3 settles ≡
    push.Reply 1 None ∷ push.Deliver (uid 1 3 p11 1) kind.Atomic [] ∷ push.Reply 2 (Some HeldFull) ∷ push.Reply 3 None ∷ []
unfolding known_order settles at_first p31
settles_pushes = refl

-- it is handed over to no process outside the view, and to itself nothing is
refused : Ran
unfolding known_order
refused = then_run in_second_view (passes 1 1 1 (proc 2 2) ∷ passes 1 2 1 p11 ∷ [])

refused_pushes : pushed_after 3 refused ≡ push.Reply 1 (Some NotMember) ∷ push.Reply 2 None ∷ []
unfolding known_order refused
refused_pushes = refl

refused_sent : refused.sent ≡ []
unfolding known_order refused
refused_sent = refl
