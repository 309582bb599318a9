-- What tests of the rules are for. Over rules that lack one test, a schedule ends in what the laws
-- exclude: each of these is computed.
-- Each part names the test that is left out, runs a schedule, and states the law that then fails.
use Rattle.cast_delay.proofs.MemberLemmas.{member_any}
use Rattle.cast_types.proofs.Contains.{contains_here}
use Rattle.cast_types.proofs.Orders.{group_itself, uid_itself}
use Rattle.cast_world.proofs.Allowed.{contains_more}
use Rattle.std.proofs.Common.{ap, arith, inl, inr, subst, sym, ◌∙◌}
use Rattle.std.proofs.lemmas.Bool.{and_from, eq-eqb, or_left, or_right, true≢false}
use Rattle.std.proofs.lemmas.List.Elements.{Contains-append_left, Contains-append_right}
use Rattle.cast_message.specs.declared.message.Body.TheVariants as body
use Rattle.cast_rules.specs.Acts.{Act}
use Rattle.cast_rules.specs.Acts.Act.{Delivered, Entered, Left, Sent as Sends}
use Rattle.cast_types.specs.Names.{group_eq, uid_eq}
use Rattle.cast_types.specs.declared.names.Uid.{Uid}
use Rattle.cast_world.specs.HappenedBefore.{HappenedBefore, IsDue, acts_of, edge}
use Rattle.std.specs.List.{find, fold, list_any}
use Rattle.std.specs.Prelude.{Bool, Contains, List, None, Some, [], false, filter, length, map, min, nat_lt}
use Rattle.std.specs.Prelude.{refl, slice_get, suc, true, zero, ℕ, ◌&&◌, ◌++◌, ◌+◌, ◌==◌, ◌||◌, ◌∷◌, ◌≡◌}
use Rattle.cast_ready.specs.Ready.{Process, is_ready}
use Rattle.cast_events.specs.declared.event.Event.{Event}
use Rattle.cast_flush.specs.Reports.{Reports, greatest_count}
use Rattle.cast_message.specs.declared.message.Message.{Message}
use Rattle.cast_rules.specs.History.{history}
use Rattle.cast_rules.specs.Resting.{resting}
use Rattle.cast_rules.specs.Rules.Events as events
use Rattle.cast_rules.specs.Rules.Interface.{Resting, Site}
use Rattle.cast_rules.specs.Rules.Release as release
use Rattle.cast_rules.specs.Rules.Rest as rest
use Rattle.cast_rules.specs.Run.{before_event}
use Rattle.cast_rules.specs.State.{State, gate_of, set_home}
use Rattle.cast_rules.specs.Step.{sessions_given}
use Rattle.cast_rules.specs.Turns.{turn_of}
use Rattle.cast_types.specs.Counts.{CountList, count_of}
use Rattle.cast_types.specs.Repeat.{iterate}
use Rattle.cast_types.specs.declared.names.GroupNo.{GroupNo}
use Rattle.cast_types.specs.declared.names.Proc.{Proc}
use Rattle.cast_types.specs.declared.names.Standing.{Standing}
use Rattle.cast_types.specs.declared.names.Standing.TheVariants.{Joining, Member, Outside}
use Rattle.cast_view.specs.Home.{Home, apply_move as home_moved}
use Rattle.cast_view.specs.declared.phase.Phase.{Phase}
use Rattle.cast_view.specs.declared.phase.Phase.TheVariants.{Gathering, Idle, Installing}
use Rattle.cast_world.proofs.Schedules.{both, casts, delivered, group, hand, is_leaving, joins}
use Rattle.cast_world.proofs.Schedules.{never_left, pair, passes_at, proc, suspects, three, trio, uid}
use Rattle.cast_world.specs.Agreement.{Passes, delivered_of}
use Rattle.cast_world.specs.Laws.{DeliversInOrder, SameMessages}
use Rattle.cast_world.specs.Network.{Network, event_of, move_site}
use Rattle.cast_world.specs.declared.step.Happening.TheVariants.{Sent}
use Rattle.cast_world.specs.declared.step.Step.{Step}

-- Steps of a network whose daemons go by these rules
module _ (d : Site State GroupNo) (q : Resting State GroupNo) where
  abbrev step_by : State → Event → State
  step_by s e = iterate 3 (rest.pass d q) (release.let_go d q (events.on_event d sessions_given (before_event s) e))

  abbrev happens_by : Network → Step → Network
  happens_by w step = elim (event_of w step) [ Some e ↦ move_site w step.site (step_by (w.at step.site) e) | None ↦ w ]

  abbrev leads_by : Network → List Step → Network
  leads_by w [] = w
  leads_by w (step ∷ steps) = leads_by (happens_by w step) steps

  -- hands every frame from the i-th on to its site, in order, and those that are sent meanwhile
  abbrev drained_by : ℕ → ℕ → Network → Network
  drained_by zero i w = w
  drained_by (suc n) i w =
      elim (slice_get w.sent i) [ Some p ↦ drained_by n (i + 1) (happens_by w (record { site = p.to; what = Sent i })) | None ↦ w ]

-- a message may be delivered where it passes this test
abbrev delivering : (State → ℕ → Message → Bool) → Resting State GroupNo
delivering test = record resting { next_ready = λ s k. find (test s k) s.got }

-- How the law of causal delivery fails, by what a process did

is_delivery_of : Uid → Act → Bool
is_delivery_of u (Sends m) = false
is_delivery_of u (Delivered m) = uid_eq m.id u
is_delivery_of u (Entered g view cut) = false
is_delivery_of u (Left g) = false

is_entry_of : GroupNo → ℕ → Act → Bool
is_entry_of g n (Sends m) = false
is_entry_of g n (Delivered m) = false
is_entry_of g n (Entered h view cut) = group_eq g h && (n == view)
is_entry_of g n (Left h) = false

-- an act that passes the one test stands before one that passes the other
stands : (Act → Bool) → (Act → Bool) → List Act → Bool
stands first second [] = false
stands first second (x ∷ acts) = (first x && list_any second acts) || stands first second acts

stands_there : (first second : Act → Bool) (a b c : List Act) (x y : Act) → first x ≡ true → second y ≡ true →
    stands first second (a ++ x ∷ b ++ y ∷ c) ≡ true
unfolding stands
stands_there first second [] b c x y one two =
    let later = member_any second (b ++ y ∷ c) y (Contains-append_right b (y ∷ c) y (contains_here y c)) two in
    or_left (first x && list_any second (b ++ y ∷ c)) (stands first second (b ++ y ∷ c))
    (and_from (first x) (list_any second (b ++ y ∷ c)) one later)
stands_there first second (z ∷ a) b c x y one two =
    let acts : List Act = a ++ x ∷ b ++ y ∷ c in
    or_right (first z && list_any second acts) (stands first second acts) (stands_there first second a b c x y one two)

-- x happened before m, and is due to a process that did this: it delivered m, and did not deliver x earlier
breaks_causality : (w : Network) (p : Proc) (acts : List Act) (x m : Message) (cut : CountList) → acts_of w p ≡ acts →
    HappenedBefore w x m →
    Contains acts (Delivered m) → Contains acts (Entered x.id.group x.id.view cut) →
    list_any is_leaving acts ≡ false → list_any (is_entry_of x.id.group (x.id.view + 1)) acts ≡ false →
    stands (is_delivery_of x.id) (is_delivery_of m.id) acts ≡ false → DeliversInOrder w → ⊥
unfolding is_delivery_of is_entry_of
breaks_causality w p acts x m cut did before delivers entered stays none not_before law =
    let g : GroupNo = x.id.group in
    let next : (CountList → Act) = λ to. Entered g (x.id.view + 1) to in
    let is_due : IsDue acts x.id m = record {
      entered = (cut, entered);
      stays = λ a b c to is at. never_left g acts stays
          (subst (λ l. Contains l (Left g)) (sym is)
          (Contains-append_left (a ++ Entered g x.id.view to ∷ b) (Delivered m ∷ c) (Left g)
          (Contains-append_right a (Entered g x.id.view to ∷ b) (Left g) (contains_more (Entered g x.id.view to) b (Left g) at))));
      cut = λ a b c to is. absurd
          (true≢false
          (sym
          (member_any (is_entry_of g (x.id.view + 1)) acts (next to)
          (subst (λ l. Contains l (next to)) (sym is)
          (Contains-append_left (a ++ next to ∷ b) (Delivered m ∷ c) (next to)
          (Contains-append_right a (next to ∷ b) (next to) (contains_here (next to) b))))
          (and_from (group_eq g g) ((x.id.view + 1) == (x.id.view + 1)) (group_itself g) (eq-eqb (x.id.view + 1) (x.id.view + 1) refl)))
          ∙ none));
    } in
    let there =
    law p x m (subst (λ l. Contains l (Delivered m)) (sym did) delivers) before (subst (λ l. IsDue l x.id m) (sym did) is_due) in
    true≢false
    (sym
    (ap (stands (is_delivery_of x.id) (is_delivery_of m.id)) (sym did ∙ there.3)
    ∙ stands_there (is_delivery_of x.id) (is_delivery_of m.id) there.0 there.1 there.2 (Delivered x) (Delivered m) (uid_itself x.id)
    (uid_itself m.id))
    ∙ not_before)

-- an empty causal message, whose time is in groups 1 and 2, each in view 2
causal : Uid → CountList → CountList → Message
causal u first second = record {
  id = u;
  times = (group 1, record { view = 2; counts = first }) ∷ (group 2, record { view = 2; counts = second }) ∷ [];
  body = body.Causal [];
}

-- Missing messages are looked for in a message's own group alone

own_group_alone : State → ℕ → Message → Bool
own_group_alone s k m = is_ready (m.id.group ∷ []) (gate_of s) (turn_of s k) (s.process k) m

-- 2.1 casts x in group 1 and then y in group 2, and y comes first
crossed_over : Network
unfolding both own_group_alone
crossed_over =
    let n : ℕ = length both.sent in
    leads_by history (delivering own_group_alone) both (casts 2 1 ∷ casts 2 2 ∷ hand 1 (n + 1) ∷ hand 1 n ∷ [])

-- it is delivered before x, which happened before it
crossed_over_delivered : delivered crossed_over 1 ≡ uid 2 2 (proc 2 1) 1 ∷ uid 1 2 (proc 2 1) 1 ∷ []
unfolding crossed_over both own_group_alone
crossed_over_delivered = refl

-- what a process casts in group 1, and then in group 2
x_of : Proc → Message
x_of p = causal (uid 1 2 p 1) ((p, 1) ∷ []) []

y_of : Proc → Message
y_of p = causal (uid 2 2 p 1) ((p, 1) ∷ []) ((p, 1) ∷ [])

crossed_over_sent :
    acts_of crossed_over (proc 2 1)
    ≡ Entered (group 1) 2 [] ∷ Entered (group 2) 2 [] ∷ Sends (x_of (proc 2 1)) ∷ Delivered (x_of (proc 2 1)) ∷ Sends (y_of (proc 2 1))
    ∷ Delivered (y_of (proc 2 1)) ∷ []
unfolding crossed_over both own_group_alone causal x_of y_of
crossed_over_sent = refl

crossed_over_did :
    acts_of crossed_over (proc 1 1)
    ≡ Entered (group 1) 1 [] ∷ Entered (group 2) 1 [] ∷ Entered (group 1) 2 [] ∷ Entered (group 2) 2 [] ∷ Delivered (y_of (proc 2 1))
    ∷ Delivered (x_of (proc 2 1)) ∷ []
unfolding crossed_over both own_group_alone causal x_of y_of
crossed_over_did = refl

-- so the law of causal delivery does not hold of it
crossed_over_breaks_causality : DeliversInOrder crossed_over → ⊥
unfolding stands is_delivery_of is_entry_of is_leaving causal x_of y_of
crossed_over_breaks_causality =
    let x : Message = x_of (proc 2 1) in
    let y : Message = y_of (proc 2 1) in
    breaks_causality crossed_over (proc 1 1)
    (Entered (group 1) 1 [] ∷ Entered (group 2) 1 [] ∷ Entered (group 1) 2 [] ∷ Entered (group 2) 2 [] ∷ Delivered y ∷ Delivered x ∷ [])
    x y [] crossed_over_did
    (edge {x = x} {y = y}
    (inl (Entered (group 1) 2 [] ∷ Entered (group 2) 2 [] ∷ [], Delivered x ∷ [], Delivered y ∷ [], crossed_over_sent)))
    (4, omega arith, refl) (2, omega arith, refl) refl refl refl

-- and it fails, too, where the sender of one message delivered the other. 1.1 casts x in group 1; 2.1 delivers it and casts y in group 2;
-- y comes to 3.1 first
relayed : Network
unfolding trio own_group_alone
relayed =
    let n : ℕ = length trio.sent in
    leads_by history (delivering own_group_alone) trio (casts 1 1 ∷ hand 2 n ∷ casts 2 2 ∷ hand 3 (n + 3) ∷ hand 3 (n + 1) ∷ [])

relayed_delivered : delivered relayed 3 ≡ uid 2 2 (proc 2 1) 1 ∷ uid 1 3 (proc 1 1) 1 ∷ []
unfolding relayed trio own_group_alone
relayed_delivered = refl

relayed_x : Message
relayed_x = record {
  id = uid 1 3 (proc 1 1) 1;
  times = (group 1, record { view = 3; counts = (proc 1 1, 1) ∷ [] }) ∷ [];
  body = body.Causal [];
}

relayed_y : Message
relayed_y = record {
  id = uid 2 2 (proc 2 1) 1;
  times = (group 1, record { view = 3; counts = (proc 1 1, 1) ∷ [] }) ∷ (group 2, record { view = 2; counts = (proc 2 1, 1) ∷ [] }) ∷ [];
  body = body.Causal [];
}

relayed_sent :
    acts_of relayed (proc 2 1)
    ≡ Entered (group 1) 2 [] ∷ Entered (group 2) 1 [] ∷ Entered (group 1) 3 [] ∷ Entered (group 2) 2 [] ∷ Delivered relayed_x
    ∷ Sends relayed_y ∷ Delivered relayed_y ∷ []
unfolding relayed trio own_group_alone relayed_x relayed_y
relayed_sent = refl

relayed_did :
    acts_of relayed (proc 3 1) ≡ Entered (group 1) 3 [] ∷ Entered (group 2) 2 [] ∷ Delivered relayed_y ∷ Delivered relayed_x ∷ []
unfolding relayed trio own_group_alone relayed_x relayed_y
relayed_did = refl

relayed_breaks_causality : DeliversInOrder relayed → ⊥
unfolding stands is_delivery_of is_entry_of is_leaving relayed_x relayed_y
relayed_breaks_causality =
    breaks_causality relayed (proc 3 1)
    (Entered (group 1) 3 [] ∷ Entered (group 2) 2 [] ∷ Delivered relayed_y ∷ Delivered relayed_x ∷ []) relayed_x relayed_y [] relayed_did
    (edge {x = relayed_x} {y = relayed_y}
    (inr (
      Entered (group 1) 2 [] ∷ Entered (group 2) 1 [] ∷ Entered (group 1) 3 [] ∷ Entered (group 2) 2 [] ∷ [],
      [],
      Delivered relayed_y ∷ [],
      relayed_sent,
    )))
    (2, omega arith, refl) (0, omega arith, refl) refl refl refl

-- What a joining process had heard of is not looked at

no_mark : Standing → Standing
no_mark Outside = Outside
no_mark (Joining request heard) = Outside
no_mark Member = Member

unmarked : Process → Process
unmarked p = record p { standing = λ g. no_mark (p.standing g) }

without_marks : State → ℕ → Message → Bool
without_marks s k m = is_ready s.config.groups (gate_of s) (turn_of s k) (unmarked (s.process k)) m

-- 3.1 joins group 1. 1.1, in the new view already, casts x in group 1 and then y in group 2, and y comes first
joined_over : Network
unfolding pair no_mark unmarked without_marks
joined_over =
    let n : ℕ = length pair.sent in
    leads_by history (delivering without_marks) pair
    (joins 3 1 ∷ hand 1 n ∷ hand 1 (n + 2) ∷ hand 1 (n + 3) ∷ hand 1 (n + 4)
    ∷ casts 1 1 ∷ casts 1 2 ∷ hand 3 (n + 8) ∷ hand 3 (n + 7) ∷ hand 3 (n + 5) ∷ hand 3 (n + 7) ∷ [])

-- it is delivered, and x behind it, which is due to 3.1 in that view
joined_over_delivered : delivered joined_over 3 ≡ uid 2 2 (proc 1 1) 1 ∷ uid 1 2 (proc 1 1) 1 ∷ []
unfolding joined_over pair no_mark unmarked without_marks
joined_over_delivered = refl

joined_over_sent :
    acts_of joined_over (proc 1 1)
    ≡ Entered (group 1) 1 [] ∷ Entered (group 2) 1 [] ∷ Entered (group 2) 2 [] ∷ Entered (group 1) 2 [] ∷ Sends (x_of (proc 1 1))
    ∷ Delivered (x_of (proc 1 1)) ∷ Sends (y_of (proc 1 1)) ∷ Delivered (y_of (proc 1 1)) ∷ []
unfolding joined_over pair no_mark unmarked without_marks causal x_of y_of
joined_over_sent = refl

joined_over_did :
    acts_of joined_over (proc 3 1)
    ≡ Entered (group 2) 2 [] ∷ Delivered (y_of (proc 1 1)) ∷ Entered (group 1) 2 [] ∷ Delivered (x_of (proc 1 1)) ∷ []
unfolding joined_over pair no_mark unmarked without_marks causal x_of y_of
joined_over_did = refl

joined_over_breaks_causality : DeliversInOrder joined_over → ⊥
unfolding stands is_delivery_of is_entry_of is_leaving causal x_of y_of
joined_over_breaks_causality =
    let x : Message = x_of (proc 1 1) in
    let y : Message = y_of (proc 1 1) in
    breaks_causality joined_over (proc 3 1) (Entered (group 2) 2 [] ∷ Delivered y ∷ Entered (group 1) 2 [] ∷ Delivered x ∷ [])
    x y [] joined_over_did
    (edge {x = x} {y = y} (inl (
      Entered (group 1) 1 [] ∷ Entered (group 2) 1 [] ∷ Entered (group 2) 2 [] ∷ Entered (group 1) 2 [] ∷ [],
      Delivered x ∷ [],
      Delivered y ∷ [],
      joined_over_sent,
    )))
    (1, omega arith, refl) (2, omega arith, refl) refl refl refl

-- The cut has the least counts that are reported, and not the greatest

least_count : Reports → Proc → ℕ
least_count reports p = fold (λ n r. min n (count_of r.1.counts p)) (greatest_count reports p) reports

least_counts : List Proc → Reports → CountList
least_counts members reports = filter (λ e. nat_lt 0 e.1) (map (λ p. (p, least_count reports p)) members)

levelled_in : List Proc → Phase → Phase
levelled_in members Idle = Idle
levelled_in members (Gathering awaited reports bodies) =
    Gathering awaited (map (λ r. (r.0, record r.1 { counts = least_counts members reports })) reports) bodies
levelled_in members (Installing waiting decision bodies) = Installing waiting decision bodies

-- to the home it is as if all had reported these counts
levelled : Home → Home
levelled h = record h { phase = levelled_in h.members.list h.phase }

least_cut : Site State GroupNo
least_cut = record history {
  home = λ s g. levelled (s.home g);
  move_home = λ s g move. set_home s g (home_moved move (levelled (s.home g)));
}

-- 3.1 casts x, which comes to site 2 alone, and site 3 is suspected
short : Network
unfolding three least_count least_counts levelled_in levelled least_cut
short =
    let n : ℕ = length three.sent in
    drained_by least_cut resting 60 (n + 2) (leads_by least_cut resting three (casts 3 1 ∷ hand 2 (n + 1) ∷ suspects 1 3 ∷ []))

-- 1.1 and 2.1 pass to the next view, and only 2.1 has delivered x
short_delivered : delivered short 1 ≡ []
unfolding short three least_count least_counts levelled_in levelled least_cut
short_delivered = refl

short_delivered_there : delivered short 2 ≡ uid 1 3 (proc 3 1) 1 ∷ []
unfolding short three least_count least_counts levelled_in levelled least_cut
short_delivered_there = refl

short_passes : Passes short (proc 1 1) (group 1) 3
unfolding short three least_count least_counts levelled_in levelled least_cut is_leaving
short_passes = passes_at short (proc 1 1) (group 1) 3 [] [] 2 0 refl refl refl

short_passes_there : Passes short (proc 2 1) (group 1) 3
unfolding short three least_count least_counts levelled_in levelled least_cut is_leaving
short_passes_there = passes_at short (proc 2 1) (group 1) 3 [] [] 1 1 refl refl refl

-- so the law that views agree does not hold of them
short_differs : SameMessages short (delivered_of short) → ⊥
unfolding short three least_count least_counts levelled_in levelled least_cut
short_differs same =
    let at = (same (proc 1 1) (proc 2 1) (group 1) 3 short_passes short_passes_there (uid 1 3 (proc 3 1) 1)).1 (0, omega arith, refl) in
    omega (arith, at.1)

-- A site goes on delivering once it answered Prepare

though_frozen : State → ℕ → Message → Bool
though_frozen s k m = is_ready s.config.groups (λ g. record (gate_of s g) { frozen = false }) (turn_of s k) (s.process k) m

-- 3.1 casts x, and site 3 is suspected. x comes to site 2 once that has reported that it has nothing of 3.1
late : Network
unfolding three though_frozen
late =
    let n : ℕ = length three.sent in
    drained_by history (delivering though_frozen) 60 (n + 4)
    (leads_by history (delivering though_frozen) three (casts 3 1 ∷ suspects 1 3 ∷ hand 1 (n + 2) ∷ hand 2 (n + 3) ∷ hand 2 (n + 1) ∷ []))

-- 1.1 and 2.1 pass to the next view, and only 2.1 has delivered x
late_delivered : delivered late 1 ≡ []
unfolding late three though_frozen
late_delivered = refl

late_delivered_there : delivered late 2 ≡ uid 1 3 (proc 3 1) 1 ∷ []
unfolding late three though_frozen
late_delivered_there = refl

late_passes : Passes late (proc 1 1) (group 1) 3
unfolding late three though_frozen is_leaving
late_passes = passes_at late (proc 1 1) (group 1) 3 [] [] 2 0 refl refl refl

late_passes_there : Passes late (proc 2 1) (group 1) 3
unfolding late three though_frozen is_leaving
late_passes_there = passes_at late (proc 2 1) (group 1) 3 [] [] 1 1 refl refl refl

late_differs : SameMessages late (delivered_of late) → ⊥
unfolding late three though_frozen
late_differs same =
    let at = (same (proc 1 1) (proc 2 1) (group 1) 3 late_passes late_passes_there (uid 1 3 (proc 3 1) 1)).1 (0, omega arith, refl) in
    omega (arith, at.1)
