-- A message waits for what happened before it in another group, and a process that is joining waits for the view that takes
-- it in.
use Rattle.std.specs.Prelude.{◌≡◌, ℕ, false, List, [], ◌∷◌, refl}
use Rattle.cast_types.specs.declared.names.Proc.{Proc}
use Rattle.cast_types.specs.Names.{Entry}
use Rattle.cast_message.specs.declared.message.Body.TheVariants as body
use Rattle.cast_message.specs.declared.message.Message.{Message}
use Rattle.cast_message.specs.declared.site.SiteFrame.TheVariants as frame
use Rattle.cast_message.specs.declared.client.CastKind.TheVariants as kind
use Rattle.cast_message.specs.declared.client.Push.TheVariants as push
use Rattle.cast_rules.specs.Run.{Ran, run_of}
use Rattle.cast_rules.proofs.Words.{site, group, uid, at, members, config, opens, asks_join, comes}
use Rattle.cast_rules.proofs.Words.{data_from, install, then_run, pushed_after, proc, p11, p21}

-- a causal message without payload, of view 2 of a group, whose time counts these in groups 1 and 2
abbrev counting : ℕ → Proc → ℕ → List Entry → List Entry → Message
counting g p n first second =
    record { id = uid g 2 p n; times = at 1 2 first ∷ at 2 2 second ∷ []; body = body.Causal [] }

-- 2.1 casts x to group 1 and then y to group 2
abbrev x : Message
x = counting 1 p21 1 ((p21, 1) ∷ []) []

abbrev y : Message
y = counting 2 p21 1 ((p21, 1) ∷ []) ((p21, 1) ∷ [])

-- 1.1 is with 2.1 in view 2 of both groups, and the home is site 9
in_both : Ran
in_both = run_of 2 (site 1) (config 9 (site 1 ∷ site 2 ∷ site 9 ∷ []) (group 1 ∷ group 2 ∷ []))
    (opens ∷ asks_join 1 7 1 ∷ asks_join 1 8 2
    ∷ comes 9 (frame.Asked (group 1) 1 false) ∷ comes 9 (frame.Asked (group 2) 1 false)
    ∷ comes 9 (install 1 2 (p11 ∷ p21 ∷ []) p11 1) ∷ comes 9 (install 2 2 (p11 ∷ p21 ∷ []) p11 1) ∷ [])

y_alone : pushed_after 5 (then_run in_both (data_from 2 y ∷ [])) ≡ []
unfolding in_both
y_alone = refl

y_then_x : pushed_after 5 (then_run in_both (data_from 2 y ∷ data_from 2 x ∷ [])) ≡
    push.Deliver (uid 1 2 p21 1) kind.Causal [] ∷ push.Deliver (uid 2 2 p21 1) kind.Causal [] ∷ []
unfolding in_both
y_then_x = refl

y_then_x_sent : (then_run in_both (data_from 2 y ∷ data_from 2 x ∷ [])).sent ≡
    (site 2, frame.Ack (uid 2 2 p21 1)) ∷ (site 2, frame.Ack (uid 1 2 p21 1)) ∷ []
unfolding in_both
y_then_x_sent = refl

-- 3.1 is with 1.1 in view 2 of group 2, and asks to join group 1, of which its site has no view
abbrev p31 : Proc
p31 = proc 3 1

joining : Ran
joining = run_of 2 (site 3) (config 1 (site 1 ∷ site 3 ∷ []) (group 1 ∷ group 2 ∷ []))
    (opens ∷ asks_join 1 8 2 ∷ comes 1 (frame.Asked (group 2) 1 false)
    ∷ comes 1 (install 2 2 (p11 ∷ p31 ∷ []) p11 1) ∷ asks_join 1 9 1 ∷ [])

-- 1.1 casts into to group 1, in the view that takes 3.1 in, and then early to group 2
abbrev into : Message
into = counting 1 p11 1 ((p11, 1) ∷ []) []

abbrev early : Message
early = counting 2 p11 1 ((p11, 1) ∷ []) ((p11, 1) ∷ [])

-- early waits, since its time tells of a view that 3.1 has not entered; into is of a view that the site does not have
waits : Ran
waits = then_run joining (data_from 1 early ∷ data_from 1 into ∷ [])

waits_pushes : pushed_after 4 waits ≡ []
unfolding waits joining
waits_pushes = refl

waits_sent : waits.sent ≡ (site 1, frame.Ack (uid 2 2 p11 1)) ∷ []
unfolding waits joining
waits_sent = refl

-- the view takes 3.1 in, and early still waits, for into
enters : Ran
enters = then_run waits (comes 1 (frame.Asked (group 1) 1 false) ∷ comes 1 (install 1 2 (p11 ∷ p31 ∷ []) p11 1) ∷ [])

enters_pushes : pushed_after 4 enters ≡ push.View (group 1) 2 (members (p11 ∷ p31 ∷ []) p11) ∷ []
unfolding enters waits joining
enters_pushes = refl

enters_sent : enters.sent ≡ (site 1, frame.Installed (group 1) 2) ∷ []
unfolding enters waits joining
enters_sent = refl

-- into comes again: both are delivered in their order
goes_on : Ran
goes_on = then_run enters (data_from 1 into ∷ [])

goes_on_pushes : pushed_after 5 goes_on ≡
    push.Deliver (uid 1 2 p11 1) kind.Causal [] ∷ push.Deliver (uid 2 2 p11 1) kind.Causal [] ∷ []
unfolding goes_on enters waits joining
goes_on_pushes = refl

goes_on_sent : goes_on.sent ≡ (site 1, frame.Ack (uid 1 2 p11 1)) ∷ []
unfolding goes_on enters waits joining
goes_on_sent = refl
