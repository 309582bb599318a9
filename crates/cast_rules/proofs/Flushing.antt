-- A site takes part in a flush: it freezes the view and reports, the Install of the next view waits until what its cut covers is delivered,
-- and the site passes to that view.
use Rattle.std.specs.Prelude.{◌≡◌, ℕ, Bool, false, List, [], ◌∷◌, map, Some, None, refl}
use Rattle.cast_types.specs.declared.names.Proc.{Proc}
use Rattle.cast_types.specs.declared.refusal.Refusal.TheVariants.{Flushing}
use Rattle.cast_types.specs.Names.{Entry}
use Rattle.cast_message.specs.declared.message.Message.{Message}
use Rattle.cast_message.specs.declared.client.CastKind.TheVariants as kind
use Rattle.cast_message.specs.declared.client.Push.TheVariants as push
use Rattle.cast_message.specs.declared.site.Change.TheVariants as change
use Rattle.cast_message.specs.declared.site.SiteFrame.{SiteFrame}
use Rattle.cast_message.specs.declared.site.SiteFrame.TheVariants as frame
use Rattle.cast_events.specs.Session.{first_session}
use Rattle.cast_order.specs.Order.{known_order}
use Rattle.cast_view.specs.declared.phase.Phase.TheVariants.{Idle}
use Rattle.cast_view.specs.Home.{Home}
use Rattle.cast_view.specs.MemberSide.{MemberSide}
use Rattle.cast_rules.specs.Entering.{in_view}
use Rattle.cast_rules.specs.State.{opening, no_process}
use Rattle.cast_rules.specs.Run.{Ran, run_of}
use Rattle.cast_rules.proofs.Words.{site, group, proc, uid, members, config, alone, opens, asks_join, asks_leave, casts}
use Rattle.cast_rules.proofs.Words.{suspects, comes, data_from, install, p11, p21, in_second_view, then_run, pushed_after}

-- a report: how many messages of each process the site has had, and which it keeps, marked where it knows no place for an ABCAST
flushed : ℕ → List Entry → List (Entry × Bool) → SiteFrame
flushed view counts kept = frame.Flushed (group 1) view counts (record { start = 0; ids = [] }) kept

-- the Install of a view of group 1, whose holder is 1.1, with the cut of the one before it
installed : ℕ → List Proc → ℕ → List Entry → SiteFrame
installed view ps request cut =
    frame.Install (group 1) view (members ps p11) request cut (record { start = 0; ids = [] })

-- Alone: a site is its own home, and its process joins

own_home : Ran
own_home = run_of 2 (site 1) (config 1 (site 1 ∷ []) (group 1 ∷ [])) (
    opens ∷ asks_join 1 7 1
    ∷ comes 1 (frame.Ask (group 1) 1 change.Join p11)
    ∷ comes 1 (frame.Asked (group 1) 1 false)
    ∷ comes 1 (install 1 1 (p11 ∷ []) p11 1)
    ∷ comes 1 (frame.Installed (group 1) 1) ∷ [])

own_home_sent : own_home.sent ≡
    (site 1, frame.Ask (group 1) 1 change.Join p11) ∷ (site 1, frame.Asked (group 1) 1 false)
    ∷ (site 1, install 1 1 (p11 ∷ []) p11 1) ∷ (site 1, frame.Installed (group 1) 1) ∷ []
unfolding known_order own_home
own_home_sent = refl

-- it leaves, and joins again before the home has flushed the view: it is in the next one
anew : Ran
unfolding own_home flushed
anew = then_run own_home (
    asks_leave 1 8 1
    ∷ comes 1 (frame.Ask (group 1) 2 change.Leave p11)
    ∷ asks_join 1 9 1
    ∷ comes 1 (frame.Asked (group 1) 2 false)
    ∷ comes 1 (frame.Prepare (group 1) 1)
    ∷ comes 1 (frame.Ask (group 1) 3 change.Join p11)
    ∷ comes 1 (flushed 1 [] [])
    ∷ comes 1 (install 1 2 (p11 ∷ []) p11 3) ∷ [])

anew_sent : anew.sent ≡
    (site 1, frame.Ask (group 1) 2 change.Leave p11)
    ∷ (site 1, frame.Asked (group 1) 2 false) ∷ (site 1, frame.Prepare (group 1) 1)
    ∷ (site 1, frame.Ask (group 1) 3 change.Join p11)
    ∷ (site 1, flushed 1 [] [])
    ∷ (site 1, frame.Asked (group 1) 3 false)
    ∷ (site 1, install 1 2 (p11 ∷ []) p11 3)
    ∷ (site 1, frame.Installed (group 1) 2) ∷ []
unfolding known_order own_home anew flushed
anew_sent = refl

anew_pushes : pushed_after 2 anew ≡
    push.View (group 1) 1 (members (p11 ∷ []) p11) ∷ push.Reply 8 None ∷ push.Reply 9 None
    ∷ push.View (group 1) 2 (members (p11 ∷ []) p11) ∷ []
unfolding known_order own_home anew flushed
anew_pushes = refl

-- A site fails: 1.1, 2.1 and 3.1 are view 3 of group 1, 1.1 is the holder, and site 1 is the home

p31 : Proc
p31 = proc 3 1

third : Home
third =
    record {
      number = 3;
      members = members (p11 ∷ p21 ∷ p31 ∷ []) p11;
      joins = [];
      leavings = [];
      suspected = [];
      answers = (site 1, record { number = 1; full = false }) ∷ (site 2, record { number = 1; full = false })
          ∷ (site 3, record { number = 1; full = false }) ∷ [];
      phase = Idle;
    }

third_here : MemberSide
third_here =
    record {
      number = 3;
      view = Some (members (p11 ∷ p21 ∷ p31 ∷ []) p11);
      frozen = false;
      pending = None;
      asked = 1;
      requests = [];
    }

abbrev at_third : Ran
at_third =
    record {
      answers = [];
      sent = [];
      pushed = (1, push.Opened p11) ∷ [];
      state = record (opening (site 1) (config 1 (site 1 ∷ site 2 ∷ site 3 ∷ []) (group 1 ∷ []))) {
        used = 1;
        session = λ k. first_session p11;
        process = λ k. in_view (group 1) 3 no_process;
        group = λ g. third_here;
        home = λ g. third;
      };
    }

-- the first message of 3.1 has come to site 2 alone, and the second one to site 1 alone, where it waits
x : Message
x = alone 1 3 p31 1

z : Message
z = alone 1 3 p31 2

-- site 3 is suspected: the others report, and the home wants the first message from site 2
failed : Ran
unfolding third third_here flushed x z p31
failed = then_run at_third (
    data_from 3 z ∷ suspects 3
    ∷ comes 1 (frame.Prepare (group 1) 3)
    ∷ comes 1 (flushed 3 [] (((p31, 2), false) ∷ []))
    ∷ comes 2 (flushed 3 ((p31, 1) ∷ []) (((p31, 1), false) ∷ [])) ∷ [])

failed_sent : failed.sent ≡
    (site 3, frame.Ack (uid 1 3 p31 2))
    ∷ (site 1, frame.Prepare (group 1) 3) ∷ (site 2, frame.Prepare (group 1) 3)
    ∷ (site 1, flushed 3 [] (((p31, 2), false) ∷ []))
    ∷ (site 2, frame.Want (uid 1 3 p31 1)) ∷ []
unfolding known_order failed third third_here flushed x z p31
failed_sent = refl

-- the message comes, and the next view is decided
decided : Ran
unfolding failed third third_here flushed x z p31
decided = then_run failed (comes 2 (frame.Forward x) ∷ [])

fourth : SiteFrame
fourth = installed 4 (p11 ∷ p21 ∷ []) 1 ((p31, 1) ∷ [])

decided_sent : decided.sent ≡ (site 1, fourth) ∷ (site 2, fourth) ∷ []
unfolding known_order decided failed third third_here flushed installed fourth x z p31
decided_sent = refl

-- it waits at site 1, which wants the message too; it comes again, and changes nothing
pends : Ran
unfolding decided failed third third_here flushed installed fourth x z p31
pends = then_run decided (comes 1 fourth ∷ comes 1 fourth ∷ [])

pends_sent : pends.sent ≡ (site 1, frame.Want (uid 1 3 p31 1)) ∷ []
unfolding known_order pends decided failed third third_here flushed installed fourth x z p31
pends_sent = refl

pends_pushes : pushed_after 1 pends ≡ []
unfolding known_order pends decided failed third third_here flushed installed fourth x z p31
pends_pushes = refl

-- the home forwards it, and the view that ends is complete
completed : Ran
unfolding pends decided failed third third_here flushed installed fourth x z p31
completed = then_run pends (comes 1 (frame.Want (uid 1 3 p31 1)) ∷ comes 1 (frame.Forward x) ∷ [])

completed_sent : completed.sent ≡ (site 1, frame.Forward x) ∷ (site 1, frame.Installed (group 1) 4) ∷ []
unfolding known_order completed pends decided failed third third_here flushed installed fourth x z p31
completed_sent = refl

completed_pushes : pushed_after 1 completed ≡
    push.Deliver (uid 1 3 p31 1) kind.Causal [] ∷ push.View (group 1) 4 (members (p11 ∷ p21 ∷ []) p11) ∷ []
unfolding known_order completed pends decided failed third third_here flushed installed fourth x z p31
completed_pushes = refl

-- the message that waited is kept no more
completed_kept : completed.state.kept ≡ []
unfolding known_order completed pends decided failed third third_here flushed installed fourth x z p31
completed_kept = refl

-- a later message of site 3 is answered: it has no part in the view that the group has now
late : Ran
unfolding completed pends decided failed third third_here flushed installed fourth x z p31
late = then_run completed (data_from 3 (alone 1 3 p31 3) ∷ [])

late_sent : late.sent ≡ (site 3, frame.Out (group 1) 4) ∷ []
unfolding known_order late completed pends decided failed third third_here flushed installed fourth x z p31
late_sent = refl

late_pushes : pushed_after 3 late ≡ []
unfolding known_order late completed pends decided failed third third_here flushed installed fourth x z p31
late_pushes = refl

-- In a frozen group

-- nothing is cast
cast_late : Ran
cast_late = then_run in_second_view (comes 9 (frame.Prepare (group 1) 2) ∷ casts 1 8 1 [] ∷ [])

cast_late_pushes : pushed_after 3 cast_late ≡ push.Reply 8 (Some Flushing) ∷ []
unfolding known_order cast_late
cast_late_pushes = refl

cast_late_sent : cast_late.sent ≡ (site 9, flushed 2 [] []) ∷ []
unfolding known_order cast_late flushed
cast_late_sent = refl

-- The first message of 2.1 is delivered before the flush, and is told to be stable in it; the second one comes in it. Neither is let go,
-- and the second one is not delivered
frozen : Ran
frozen = then_run in_second_view (
    data_from 2 (alone 1 2 p21 1)
    ∷ comes 9 (frame.Prepare (group 1) 2)
    ∷ data_from 2 (alone 1 2 p21 2)
    ∷ comes 2 (frame.Stable (uid 1 2 p21 1)) ∷ [])

frozen_pushes : pushed_after 3 frozen ≡ push.Deliver (uid 1 2 p21 1) kind.Causal [] ∷ []
unfolding known_order frozen
frozen_pushes = refl

frozen_sent : frozen.sent ≡
    (site 2, frame.Ack (uid 1 2 p21 1))
    ∷ (site 9, flushed 2 ((p21, 1) ∷ []) (((p21, 1), false) ∷ []))
    ∷ (site 2, frame.Ack (uid 1 2 p21 2)) ∷ []
unfolding known_order frozen flushed
frozen_sent = refl

frozen_kept : frozen.state.kept ≡ alone 1 2 p21 1 ∷ alone 1 2 p21 2 ∷ []
unfolding known_order frozen
frozen_kept = refl

-- where the cut covers the second message, it is delivered before the next view
covered_by : List Entry → Ran
unfolding frozen installed
covered_by cut = then_run frozen (comes 9 (installed 3 (p11 ∷ p21 ∷ []) 1 cut) ∷ [])

covered_pushes : pushed_after 4 (covered_by ((p21, 2) ∷ [])) ≡
    push.Deliver (uid 1 2 p21 2) kind.Causal [] ∷ push.View (group 1) 3 (members (p11 ∷ p21 ∷ []) p11) ∷ []
unfolding known_order covered_by frozen installed
covered_pushes = refl

covered_kept : (covered_by ((p21, 2) ∷ [])).state.kept ≡ []
unfolding known_order covered_by frozen installed
covered_kept = refl

-- and else never
uncovered_pushes : pushed_after 4 (covered_by ((p21, 1) ∷ [])) ≡ push.View (group 1) 3 (members (p11 ∷ p21 ∷ []) p11) ∷ []
unfolding known_order covered_by frozen installed
uncovered_pushes = refl

uncovered_kept : (covered_by ((p21, 1) ∷ [])).state.kept ≡ []
unfolding known_order covered_by frozen installed
uncovered_kept = refl

-- An Install waits for a message, which is wanted from the home, and comes from its own site: it is acknowledged, the view is complete, and
-- nothing is owed any more
comes_at_last : Ran
unfolding installed
comes_at_last = then_run in_second_view (
    comes 9 (frame.Prepare (group 1) 2)
    ∷ comes 9 (installed 3 (p11 ∷ p21 ∷ []) 1 ((p21, 1) ∷ []))
    ∷ data_from 2 (alone 1 2 p21 1) ∷ [])

comes_at_last_sent : comes_at_last.sent ≡
    (site 9, flushed 2 [] []) ∷ (site 9, frame.Want (uid 1 2 p21 1))
    ∷ (site 2, frame.Ack (uid 1 2 p21 1)) ∷ (site 9, frame.Installed (group 1) 3) ∷ []
unfolding known_order comes_at_last flushed installed
comes_at_last_sent = refl

comes_at_last_pushes : pushed_after 3 comes_at_last ≡
    push.Deliver (uid 1 2 p21 1) kind.Causal [] ∷ push.View (group 1) 3 (members (p11 ∷ p21 ∷ []) p11) ∷ []
unfolding known_order comes_at_last flushed installed
comes_at_last_pushes = refl

comes_at_last_owed : map (λ o. o.key) comes_at_last.state.owed ≡ []
unfolding known_order comes_at_last flushed installed
comes_at_last_owed = refl
