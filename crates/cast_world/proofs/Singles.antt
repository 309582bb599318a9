-- No message is kept twice, whatever frames come, where their stamps are in order.
-- `single_after` says so of each run of events. The invariant is `Single`: each name is kept once
-- at most (`KeptOnce`); each kept message was received; and each process counts the kept messages
-- of its own name (`CountsOwn`). So a message that a process sends has a new name, since its count
-- is above those; one that another site sends is taken only where it was not received. No other
-- move adds a message.
use Rattle.std.proofs.Common.{ap, arith, inl, inr, subst, sym, ◌∙◌}
use Rattle.std.proofs.lemmas.Bool.{and_from, and_parts, cases_Bool, eq-eqb, false_from_ne_true, false≢true, true≢false}
use Rattle.std.proofs.lemmas.List.Elements.{Contains-append_left, Contains-push_cases, filter-append}
use Rattle.std.proofs.lemmas.List.{length-append}
use Rattle.std.proofs.lemmas.List.Folds.{list_any_at}
use Rattle.std.specs.FinMap.Entries.{is_sorted}
use Rattle.std.specs.List.{AllByRecursion, list_any}
use Rattle.std.specs.Prelude.{◌&&◌, ◌+◌, ◌++◌, ◌<◌, ◌==◌, Bool, Contains, List, [], cond, false}
use Rattle.std.specs.Prelude.{filter, if◌then◌else◌, length, not, refl, true, ℕ, ◌∷◌, ◌≡◌, ◌≤◌, ◌⊎◌}
use Rattle.cast_clock.specs.Times.{with_bump, count_in, entering, join, view_of}
use Rattle.cast_ready.specs.Ready.{Process, is_member, is_outside}
use Rattle.cast_rules.specs.Effects.{next_message}
use Rattle.cast_rules.specs.Entering.{enters, in_view, is_put_out, put_outside, passing, putting_out}
use Rattle.cast_rules.specs.Lawful.{IsTyped, IsTypedFrame}
use Rattle.cast_rules.specs.Owing.{paying, paying_view}
use Rattle.cast_rules.specs.Rules.Keys.{message_key}
use Rattle.cast_rules.specs.Run.{IsRun, IsStep, after_event, before_event}
use Rattle.cast_rules.specs.State.{State, gate_of, is_ended, is_group, is_received, local, noting_sent, opening}
use Rattle.cast_rules.specs.State.{outside, receiving, releasing_ended, set_group, set_standing, with_delivery}
use Rattle.cast_rules.specs.Turns.{is_ready_for, turn_of}
use Rattle.cast_message.specs.Membership.{Membership}
use Rattle.cast_message.specs.declared.client.Push.{Push}
use Rattle.cast_message.specs.declared.message.Body.{Body}
use Rattle.cast_message.specs.declared.message.Message.{Message}
use Rattle.cast_message.specs.declared.site.SiteFrame.{SiteFrame}
use Rattle.cast_message.specs.declared.site.SiteFrame.TheVariants as frame
use Rattle.cast_events.specs.declared.config.DomainConfig.{DomainConfig}
use Rattle.cast_events.specs.declared.event.Event.{Event}
use Rattle.cast_events.specs.declared.event.Event.TheVariants as event
use Rattle.cast_events.specs.declared.event.Taken.{Taken}
use Rattle.cast_timer.proofs.Owing.{key_itself}
use Rattle.cast_timer.specs.Owed.{is_of_view, key_eq, owed_cmp, paid, renew, with_owed}
use Rattle.cast_timer.specs.declared.key.Owed.{Owed}
use Rattle.cast_timer.specs.declared.key.OwedKey.{OwedKey}
use Rattle.cast_timer.specs.declared.key.OwedKind.TheVariants as kinds
use Rattle.cast_types.proofs.Orders.{group_itself, site_itself, uid_itself}
use Rattle.cast_types.specs.Counts.{CountList, count_of}
use Rattle.cast_types.specs.declared.clock.Clock.{Clock}
use Rattle.cast_types.specs.Names.{group_cmp, group_eq, proc_eq, site_eq, uid_eq}
use Rattle.cast_types.specs.Sets.{is_among, set_at}
use Rattle.cast_types.specs.Stamps.{ClockList}
use Rattle.cast_types.specs.declared.names.GroupNo.{GroupNo}
use Rattle.cast_types.specs.declared.names.Proc.{Proc}
use Rattle.cast_types.specs.declared.names.SiteNo.{SiteNo}
use Rattle.cast_types.specs.declared.names.Standing.{Standing}
use Rattle.cast_types.specs.declared.names.Standing.TheVariants.{Joining, Member, Outside}
use Rattle.cast_types.specs.declared.names.Uid.{Uid}
use Rattle.cast_view.specs.MemberSide.{MemberSide, frozen_side, is_pending, is_taken_in, with_answer, with_pending, with_request, with_view}
use Rattle.cast_world.proofs.Acts.{contains_here}
use Rattle.cast_world.proofs.Allowed.{contains_more, passed, ready_allowed, same_uid}
use Rattle.cast_world.proofs.Bounding.{both_less, covers_waits, filter_none, found_owed, number_up}
use Rattle.cast_world.proofs.Events.{HasCome, any_happens, event_keeps_fully, rests_keeps_fully, sets_any}
use Rattle.cast_world.proofs.Facts.{IsAllowed}
use Rattle.cast_world.proofs.Homes.{among_kept, item_was}
use Rattle.cast_world.proofs.Kept.{FullyKept, FullyKeptByTelling, IsNew, IsOwed, Lacks, Wants, asked, unknown}
use Rattle.cast_world.proofs.Laters.{set_all, set_group_all}
use Rattle.cast_world.proofs.Local.{cases_group, not_joining}
use Rattle.cast_world.proofs.Moves.{member_is}
use Rattle.cast_world.proofs.Ones.{outside_not_member, set_here, set_other}
use Rattle.cast_world.proofs.Steps.{group_among}
use Rattle.cast_world.proofs.Times.{below_bumped, below_join, below_view, bumped_count, bumped_view, entered_view}
use Rattle.cast_world.proofs.Times.{join_sorted, other_clock, other_view, put_sorted, sorted_once, view_join}
use Rattle.cast_world.proofs.Views.{still_member}
use Rattle.cast_world.proofs.WindowSteps.{received_got}
use Rattle.cast_world.specs.Bounds.{covers}
use Rattle.cast_world.specs.Laws.{Below}

-- Lists of messages

abbrev pub KeptOnce : List Message → Type 0
KeptOnce kept = (u : Uid) → length (filter (λ m. uid_eq m.id u) kept) ≤ 1

-- nothing passes a test that fails each item
none_pass : {A : Type 0} (p : A → Bool) (xs : List A) → ((x : A) → Contains xs x → p x ≡ false) → length (filter p xs) ≡ 0
none_pass p [] fails = refl
none_pass {A} p (x ∷ xs) fails =
    (λ i. length (cond (fails x (0, omega arith, refl) i) (x ∷ filter p xs) (filter p xs)))
    ∙ none_pass p xs (λ y at. fails y (contains_more x xs y at))

not_received : (got : List Message) (u : Uid) → ((m : Message) → Contains got m → m.id ≡ u → ⊥) → list_any (λ m. uid_eq m.id u) got ≡ false
not_received got u none =
    false_from_ne_true (list_any (λ m. uid_eq m.id u) got) (λ e. let has = received_got got u e in none has.0 has.1 has.2)

never_got : (got : List Message) (u : Uid) → list_any (λ m. uid_eq m.id u) got ≡ false → (m : Message) → Contains got m → m.id ≡ u → ⊥
never_got got u none m at is =
    false≢true (sym none ∙ list_any_at (λ (x : Message). uid_eq x.id u)
    got at.0 m at.1 (ap (λ (x : Message). uid_eq x.id u) at.2 ∙ ap (λ v. uid_eq v u) is ∙ uid_itself u))

-- one more message, of a name that is not there
once_more : (kept : List Message) (m : Message) → ((x : Message) → Contains kept x → x.id ≡ m.id → ⊥) → KeptOnce kept →
    KeptOnce (kept ++ m ∷ [])
once_more kept m new once u = go (uid_eq m.id u) refl
  where
    go : (b : Bool) → uid_eq m.id u ≡ b → length (filter (λ x. uid_eq x.id u) (kept ++ m ∷ [])) ≤ 1
    go true same =
        let none =
        none_pass (λ x. uid_eq x.id u)
        kept (λ x at. false_from_ne_true (uid_eq x.id u) (λ is. new x at (same_uid x.id u is ∙ sym (same_uid m.id u same)))) in
        let whole =
        ap length (filter-append (λ (x : Message). uid_eq x.id u) kept (m ∷ []))
        ∙ length-append (filter (λ x. uid_eq x.id u) kept) (filter (λ x. uid_eq x.id u) (m ∷ [])) in
        let one : length {A = Message} (cond (uid_eq m.id u) (m ∷ []) []) ≡ 1 = ap (λ b. length {A = Message} (cond b (m ∷ []) [])) same in
        omega (arith, none, whole, one)
    go false other = let was = once u in let is = filter_none (λ (x : Message). uid_eq x.id u) kept m other in omega (arith, was, is)

-- Times

-- a time that covers all that another covers counts no less in a view that both have
counts_rise : (s t : ClockList) → Below s t → (g : GroupNo) → view_of t g ≡ view_of s g → (p : Proc) → count_in s g p ≤ count_in t g p
counts_rise s t up g same p =
    elim (up record { group = g; view = view_of s g; proc = p; count = count_in s g p } (inr (refl, omega arith))) [
      | inl above ↦ absurd (omega (arith, above, same))
      | inr level ↦ level.1
    ]

-- One process of this site

-- its time is of its groups' views; and while no flush has frozen a group, each kept message of its view that bears the process's name is
-- one that its time counts
pub record CountsOwn (me : Proc) (groups : List GroupNo) (group : GroupNo → MemberSide) (kept : List Message) (p : Process) : Type 0 where
  current : (g : GroupNo) → p.standing g ≡ Member → view_of p.time g ≡ (group g).number
  known : (g : GroupNo) → is_outside (p.standing g) ≡ false → Contains groups g
  sorted : is_sorted group_cmp p.time ≡ true
  counted : (m : Message) → Contains kept m → m.id.proc ≡ me → p.standing m.id.group ≡ Member → (group m.id.group).frozen ≡ false →
      m.id.view ≡ (group m.id.group).number →
      m.id.count ≤ count_in p.time m.id.group me

module _ (me : Proc) (groups : List GroupNo) (group : GroupNo → MemberSide) (kept : List Message) (p : Process)
    (o : CountsOwn me groups group kept p) where
  -- where groups change, but for their numbers, and none thaws
  group_one : (b : GroupNo → MemberSide) → ((h : GroupNo) → (b h).number ≡ (group h).number) →
      ((h : GroupNo) → (b h).frozen ≡ false → (group h).frozen ≡ false) → CountsOwn me groups b kept p
  group_one b same open_it = record {
    current = λ g is. o.current g is ∙ sym (same g);
    known = o.known;
    sorted = o.sorted;
    counted = λ m at own is thawed view. o.counted m at own is (open_it m.id.group thawed) (view ∙ same m.id.group);
  }

  -- where fewer messages are kept
  fewer_one : (less : List Message) → ((m : Message) → Contains less m → Contains kept m) → CountsOwn me groups group less p
  fewer_one less from = record {
    current = o.current;
    known = o.known;
    sorted = o.sorted;
    counted = λ m at own is thawed view. o.counted m (from m at) own is thawed view;
  }

  -- and where one more is
  more_one : (m : Message) →
      (m.id.proc ≡ me → p.standing m.id.group ≡ Member → (group m.id.group).frozen ≡ false → m.id.count ≤ count_in p.time m.id.group me) →
      CountsOwn me groups group (kept ++ m ∷ []) p
  more_one m new = record {
    current = o.current;
    known = o.known;
    sorted = o.sorted;
    counted = λ x at own is thawed view. elim (Contains-push_cases kept m x at) [
      | inl old ↦ o.counted x old own is thawed view
      | inr same ↦
          subst (λ (z : Message). z.id.proc ≡ me → p.standing z.id.group ≡ Member → (group z.id.group).frozen ≡ false →
          z.id.count ≤ count_in p.time z.id.group me) same new own is thawed
    ];
  }

  -- where it becomes a member of none
  stands_one : (st : GroupNo → Standing) → ((h : GroupNo) → st h ≡ Member → p.standing h ≡ Member) →
      ((h : GroupNo) → is_outside (st h) ≡ false → Contains groups h) →
      CountsOwn me groups group kept (record p { standing = st })
  stands_one st member known = record {
    current = λ g is. o.current g (member g is);
    known = known;
    sorted = o.sorted;
    counted = λ m at own is thawed view. o.counted m at own (member m.id.group is) thawed view;
  }

  -- where its time covers more, of the same views
  time_one : (t : ClockList) (delivered : List Uid) → Below p.time t → is_sorted group_cmp t ≡ true →
      ((g : GroupNo) → p.standing g ≡ Member → view_of t g ≡ view_of p.time g) →
      CountsOwn me groups group kept (record p { time = t; delivered = delivered })
  time_one t delivered up sorted same = record {
    current = λ g is. same g is ∙ o.current g is;
    known = o.known;
    sorted = sorted;
    counted = λ m at own is thawed view. (
        let was = o.counted m at own is thawed view in
        let more = counts_rise p.time t up m.id.group (same m.id.group is) me in
        omega (arith, was, more)
        );
  }

-- The whole site

-- no message is kept twice. But for some groups, a Want of the site's own is owed only while an Install waits, and but for some messages,
-- only of what was not received
pub record Single (past : GroupNo → Type 0) (spared : Uid → Type 0) (home_here : Bool) (here : SiteNo) (config : DomainConfig)
    (process : ℕ → Process) (group : GroupNo → MemberSide)
    (got kept : List Message) (owed : List Owed) : Type 0 where
  pub once : KeptOnce kept
  had : (m : Message) → Contains kept m → Contains got m
  reached : (m : Message) → Contains kept m → m.id.view ≤ (group m.id.group).number
  stamped : (m : Message) → Contains got m → is_sorted group_cmp m.times ≡ true
  lacked : (w : Uid) (y : Owed) → Contains owed y → y.key ≡ message_key kinds.Want w config.home →
      past w.group
      ⊎ ((is_pending (group w.group) ≡ true) × (w.view ≡ (group w.group).number → spared w ⊎ (list_any (λ m. uid_eq m.id w) got ≡ false)))
  pub waits : (g : GroupNo) → is_pending (group g) ≡ true → ((group g).frozen ≡ true) × Contains config.groups g
  ones : (k : ℕ) → CountsOwn (record { site = here; serial = k }) config.groups group kept (process k)
  homes : site_eq here config.home ≡ home_here

abbrev pub NoGroup : GroupNo → Type 0
NoGroup g = ⊥

abbrev pub NoMessage : Uid → Type 0
NoMessage u = ⊥

abbrev Typed : SiteNo → SiteFrame → Type 0
Typed from f = IsTypedFrame f

module _ (home_here : Bool) where
  abbrev pub At : (GroupNo → Type 0) → (Uid → Type 0) → State → Type 0
  At past spared s = Single past spared home_here s.here s.config s.process s.group s.got s.kept s.owed

  abbrev pub Now : State → Type 0
  Now = At NoGroup NoMessage

  module _ (past : GroupNo → Type 0) (spared : Uid → Type 0) where
    -- one group changes, but for its number, and does not thaw
    group_single : (s : State) (g : GroupNo) (v : MemberSide) → v.number ≡ (s.group g).number →
        (v.frozen ≡ false → (s.group g).frozen ≡ false) → (is_pending (s.group g) ≡ true → is_pending v ≡ true) →
        (is_pending v ≡ true → (v.frozen ≡ true) × Contains s.config.groups g) → At past spared s → At past spared (set_group s g v)
    group_single s g v number thaws still waits x = record {
      once = x.once;
      had = x.had;
      reached = λ m at. (let was = x.reached m at in let same = same_number m.id.group in omega (arith, was, same));
      stamped = x.stamped;
      lacked = λ w y at is. elim (x.lacked w y at is) [
        | inl gone ↦ inl gone
        | inr (pending, none) ↦
            inr (
              set_group_all (λ h (z : MemberSide). is_pending (s.group h) ≡ true → is_pending z ≡ true) s.group g v (λ h e. e)
                  still w.group pending,
              λ view. none (view ∙ same_number w.group),
            )
      ];
      waits = set_group_all (λ h (z : MemberSide). is_pending z ≡ true → (z.frozen ≡ true) × Contains s.config.groups h)
          s.group g v x.waits waits;
      ones = λ k. group_one (local s k) s.config.groups s.group s.kept (s.process k) (x.ones k) (set_at group_eq s.group g v) same_number
          (set_group_all (λ h (z : MemberSide). z.frozen ≡ false → (s.group h).frozen ≡ false) s.group g v (λ h e. e) thaws);
      homes = x.homes;
    }
      where
        same_number : (h : GroupNo) → (set_at group_eq s.group g v h).number ≡ (s.group h).number
        same_number = set_group_all (λ h (z : MemberSide). z.number ≡ (s.group h).number) s.group g v (λ h. refl) number

    -- fewer messages are kept
    fewer_single : (s : State) (lets : Message → Bool) → At past spared s → At past spared (record s { kept = filter lets s.kept })
    fewer_single s lets x = record {
      once = λ u. (let less = both_less (λ (m : Message). uid_eq m.id u) lets (λ m. uid_eq m.id u) (λ m stays is. is) s.kept in
          let was = x.once u in
          omega (arith, less, was));
      had = λ m at. x.had m (among_kept lets s.kept m at);
      reached = λ m at. x.reached m (among_kept lets s.kept m at);
      stamped = x.stamped;
      lacked = x.lacked;
      waits = x.waits;
      ones = λ k. fewer_one (local s k) s.config.groups s.group s.kept (s.process k) (x.ones k) (filter lets s.kept)
          (λ m at. among_kept lets s.kept m at);
      homes = x.homes;
    }

    -- one process changes
    process_single : (s : State) (k : ℕ) (p : Process) → CountsOwn (local s k) s.config.groups s.group s.kept p → At past spared s →
        At past spared (record s { process = set_at (λ a b. a == b) s.process k p })
    process_single s k p one x = record {
      once = x.once;
      had = x.had;
      reached = x.reached;
      stamped = x.stamped;
      lacked = x.lacked;
      waits = x.waits;
      ones = set_all (λ j (q : Process). CountsOwn (local s j) s.config.groups s.group s.kept q) s.process k p x.ones one;
      homes = x.homes;
    }

    -- a frame more is owed
    owed_single : (s : State) (key : OwedKey) (due : ℕ) (before : List Owed) → ((y : Owed) → Contains before y → Contains s.owed y) →
        At past spared s →
        ((w : Uid) → key ≡ message_key kinds.Want w s.config.home → past w.group
        ⊎ ((is_pending (s.group w.group) ≡ true) × (w.view ≡ (s.group w.group).number → spared w ⊎ (is_received s w ≡ false)))) →
        At past spared (record s { owed = with_owed before key due })
    owed_single s key due before less x new = record {
      once = x.once;
      had = x.had;
      reached = x.reached;
      stamped = x.stamped;
      lacked = λ w y at is. elim (item_was owed_cmp (record { due = due; key = key }) before y at) [
        | inl same ↦ new w (ap (λ (z : Owed). z.key) same ∙ is)
        | inr old ↦ x.lacked w y (less y old) is
      ];
      waits = x.waits;
      ones = x.ones;
      homes = x.homes;
    }

    -- a Want that is owed is of a message that a waiting Install covers, and that was not received
    wanted_single : (s : State) (key : OwedKey) → Wants s key → Lacks s key → (w : Uid) → key ≡ message_key kinds.Want w s.config.home →
        past w.group ⊎ ((is_pending (s.group w.group) ≡ true) × (w.view ≡ (s.group w.group).number → spared w ⊎ (is_received s w ≡ false)))
    wanted_single s key wants lacks w is =
        let named_it : Uid = record { group = w.group; view = (s.group w.group).number; proc = w.proc; count = w.count } in
        let covers_it : covers (s.group w.group) named_it ≡ true = subst (λ (k : OwedKey). Wants s k) is wants in
        let lacks_it : is_received s named_it ≡ false = subst (λ (k : OwedKey). Lacks s k) is lacks in
        inr (
          covers_waits (s.group w.group) named_it covers_it,
          λ view. inr (ap (λ n. is_received s (record { group = w.group; view = n; proc = w.proc; count = w.count })) view ∙ lacks_it),
        )

    paid_single : (s : State) (test : OwedKey → Bool) → At past spared s → At past spared (record s { owed = paid test s.owed })
    paid_single s test x = record {
      once = x.once;
      had = x.had;
      reached = x.reached;
      stamped = x.stamped;
      lacked = λ w y at is. x.lacked w y (among_kept (λ (z : Owed). not (test z.key)) s.owed y at) is;
      waits = x.waits;
      ones = x.ones;
      homes = x.homes;
    }

    renewed_single : (s : State) (key : OwedKey) (due : ℕ) → At past spared s → IsOwed s key →
        At past spared (record s { owed = renew s.owed key due })
    renewed_single s key due x (y, at, is) =
        owed_single s key due (paid (key_eq key) s.owed) (λ z there. among_kept (λ (v : Owed). not (key_eq key v.key)) s.owed z there)
        x (λ w same. x.lacked w y at (is ∙ same))

    -- a process is outside a group
    outside_single : (s : State) (k : ℕ) (g : GroupNo) → At past spared s → At past spared (outside s k g)
    outside_single s k g x =
        let p : Process = s.process k in
        process_single s k (record p { standing = set_at group_eq p.standing g Outside })
        (stands_one (local s k) s.config.groups s.group s.kept p (x.ones k) (set_at group_eq p.standing g Outside)
        (set_group_all (λ h (z : Standing). z ≡ Member → p.standing h ≡ Member) p.standing g Outside (λ h e. e)
        (λ e. absurd (outside_not_member e)))
        (set_group_all (λ h (z : Standing). is_outside z ≡ false → Contains s.config.groups h) p.standing g Outside (x.ones k).known
        (λ e. absurd (true≢false e)))) x

    telling : FullyKeptByTelling Typed (At past spared)
    telling = record {
      emits = λ s to f x says adds draws. x;
      books = λ s moment casts x. x;
      pushes = λ s k p x agrees. x;
      owes = λ s key due x owes wants lacks awaited. owed_single s key due s.owed (λ y at. at) x (wanted_single s key wants lacks);
      renews = λ s key due x owes owed. renewed_single s key due x owed;
      pays = λ s test x. paid_single s test x;
      releases = λ s lets x. fewer_single s (λ m. not (lets m.id)) x;
      sets_session = λ s k v x same. x;
      parts = λ s k g x. outside_single s k g x;
      requests = λ s g what p x inside. group_single s g (with_request (s.group g) what p) refl (λ e. e) (λ e. e) (x.waits g) x;
    }

  -- A message is received

  received_single : (spared : Uid → Type 0) (s : State) (m : Message) → ((x : Message) → Contains s.kept x → x.id ≡ m.id → ⊥) →
      m.id.view ≤ (s.group m.id.group).number → is_sorted group_cmp m.times ≡ true →
      ((w : Uid) → NoMessage w ⊎ (is_received s w ≡ false) → (is_pending (s.group w.group) ≡ true) →
      spared w ⊎ (is_received (receiving s m) w ≡ false)) →
      ((k : ℕ) → m.id.proc ≡ local s k → ((s.process k).standing m.id.group) ≡ Member → (s.group m.id.group).frozen ≡ false →
      m.id.count ≤ count_in (s.process k).time m.id.group (local s k)) →
      Now s → At NoGroup spared (receiving s m)
  received_single spared s m new view sorted still counted x = record {
    once = once_more s.kept m new x.once;
    had = λ y at. elim (Contains-push_cases s.kept m y at) [
      | inl old ↦ Contains-append_left s.got (m ∷ []) y (x.had y old)
      | inr same ↦ subst (Contains (s.got ++ m ∷ [])) same (contains_here s.got [] m)
    ];
    reached = λ y at. elim (Contains-push_cases s.kept m y at) [
      | inl old ↦ x.reached y old
      | inr same ↦ subst (λ (z : Message). z.id.view ≤ (s.group z.id.group).number) same view
    ];
    stamped = λ y at. elim (Contains-push_cases s.got m y at) [
      | inl old ↦ x.stamped y old
      | inr same ↦ subst (λ (z : Message). is_sorted group_cmp z.times ≡ true) same sorted
    ];
    lacked = λ w y at is. elim (x.lacked w y at is) [
      | inl gone ↦ absurd gone
      | inr (pending, none) ↦ inr (pending, λ now. still w (none now) pending)
    ];
    waits = x.waits;
    ones = λ k. more_one (local s k) s.config.groups s.group s.kept (s.process k) (x.ones k) m (counted k);
    homes = x.homes;
  }

  -- what was not received is not received with another message
  other_lacked : (s : State) (m : Message) (w : Uid) → (m.id ≡ w → ⊥) → is_received s w ≡ false → is_received (receiving s m) w ≡ false
  other_lacked s m w apart none = not_received (s.got ++ m ∷ []) w (λ y at is. elim (Contains-push_cases s.got m y at) [
    | inl old ↦ never_got s.got w none y old is
    | inr same ↦ apart (ap (λ (z : Message). z.id) same ∙ is)
  ])

  receives_single : (s : State) (from : SiteNo) (m : Message) → Now s → Typed from (frame.Data m) ⊎ Typed from (frame.Forward m) →
      m.id.view ≡ (s.group m.id.group).number → IsNew s m →
      At NoGroup (λ w. w ≡ m.id) (receiving s m)
  receives_single s from m x came view new =
      received_single (λ w. w ≡ m.id) s m (unlike new) (omega (arith, view))
      (and_parts (is_sorted group_cmp m.times) _ (elim came [ inl sent ↦ sent.0 | inr body ↦ body.0 ])).0
      (λ w none pending. elim (cases_Bool (uid_eq w m.id)) [
        | inl same ↦ inl (same_uid w m.id same)
        | inr apart ↦ elim none [
          | inl never ↦ absurd never
          | inr lacked ↦ inr (other_lacked s m w (λ is. false≢true (sym apart ∙ ap (λ u. uid_eq u m.id) (sym is) ∙ uid_itself m.id)) lacked)
        ]
      ])
      (counted new) x
    where
      unlike : IsNew s m → (y : Message) → Contains s.kept y → y.id ≡ m.id → ⊥
      unlike (unknown lacked elsewhere) y at is = never_got s.got m.id lacked y (x.had y at) is
      unlike (asked pending owed) y at is =
          let found = found_owed s.owed (message_key kinds.Want m.id s.config.home) owed in
          elim (x.lacked m.id found.0 found.1 found.2) [
            | inl never ↦ never
            | inr (waiting, none) ↦ elim (none view) [ inl never ↦ never | inr lacked ↦ never_got s.got m.id lacked y (x.had y at) is ]
          ]

      counted : IsNew s m → (k : ℕ) → m.id.proc ≡ local s k → ((s.process k).standing m.id.group) ≡ Member →
          (s.group m.id.group).frozen ≡ false → m.id.count ≤ count_in (s.process k).time m.id.group (local s k)
      counted (unknown lacked elsewhere) k own is thawed =
          absurd (false≢true (sym elsewhere ∙ ap (λ (p : Proc). site_eq p.site s.here) own ∙ site_itself s.here))
      counted (asked pending owed) k own is thawed = absurd (false≢true (sym thawed ∙ (x.waits m.id.group pending).0))

  received_paid : (s : State) (u : Uid) → At NoGroup (λ w. w ≡ u) s → Now (paying s (message_key kinds.Want u s.config.home))
  received_paid s u x = record {
    once = x.once;
    had = x.had;
    reached = x.reached;
    stamped = x.stamped;
    lacked = λ w y at is. elim (x.lacked w y (among_kept test s.owed y at) is) [
      | inl never ↦ absurd never
      | inr (pending, none) ↦ inr (
        pending,
        λ view. elim (none view) [
          | inl same ↦
              let paid_it : key_eq key y.key ≡ true =
              ap (key_eq key) (is ∙ ap (λ v. message_key kinds.Want v s.config.home) same) ∙ key_itself key in
              absurd (false≢true (sym (ap not paid_it) ∙ passed test s.owed y at))
          | inr lacked ↦ inr lacked
        ],
      )
    ];
    waits = x.waits;
    ones = x.ones;
    homes = x.homes;
  }
    where
      key : OwedKey
      key = message_key kinds.Want u s.config.home

      test : Owed → Bool
      test z = not (key_eq key z.key)

  -- A process sends or delivers a message

  sends_single : (s : State) (g : GroupNo) (k : ℕ) (content : Body) → Now s → is_member ((s.process k).standing g) ≡ true →
      (s.group g).frozen ≡ false →
      Now (receiving (noting_sent s k (next_message s g k content)) (next_message s g k content))
  sends_single s g k content x member thawed =
      received_single NoMessage sent m unlike (omega arith) sorted
      (λ w none pending. elim none [
        | inl never ↦ absurd never
        | inr lacked ↦
            inr (other_lacked s m w
            (λ is. false≢true (sym thawed ∙ (x.waits g (ap (λ (u : Uid). is_pending (s.group u.group)) is ∙ pending)).0)) lacked)
      ]) counted sent_single
    where
      p : Process
      p = s.process k

      m : Message
      m = next_message s g k content

      sent : State
      sent = noting_sent s k m

      is : p.standing g ≡ Member
      is = member_is (p.standing g) member

      sorted : is_sorted group_cmp m.times ≡ true
      sorted = put_sorted g _ p.time (x.ones k).sorted

      -- its count is above all that are kept
      unlike : (y : Message) → Contains s.kept y → y.id ≡ m.id → ⊥
      unlike y at same =
          let group : y.id.group ≡ g = ap (λ (u : Uid). u.group) same in
          let low : y.id.count ≤ count_in p.time y.id.group (local s k) =
          (x.ones k).counted y at (ap (λ (u : Uid). u.proc) same) (ap p.standing group ∙ is) (ap (λ h. (s.group h).frozen) group ∙ thawed)
          (ap (λ (u : Uid). u.view) same ∙ ap (λ h. (s.group h).number) (sym group)) in
          let there : count_in p.time y.id.group (local s k) ≡ count_in p.time g (local s k) =
          ap (λ h. count_in p.time h (local s k)) group in
          let count : y.id.count ≡ count_in (with_bump p.time g (local s k)) g (local s k) = ap (λ (u : Uid). u.count) same in
          let up : count_in (with_bump p.time g (local s k)) g (local s k) ≡ count_in p.time g (local s k) + 1 =
          bumped_count p.time g (local s k) in
          omega (arith, low, there, count, up)

      sent_single : Now sent
      sent_single = process_single NoGroup NoMessage s k (record p { time = m.times }) (
          time_one (local s k) s.config.groups s.group s.kept p (x.ones k) m.times p.delivered (below_bumped p.time g (local s k))
          sorted (λ h member_of. bumped_view p.time g (local s k) h)
          ) x

      counted : (j : ℕ) → m.id.proc ≡ local sent j → ((sent.process j).standing m.id.group) ≡ Member → (s.group m.id.group).frozen ≡ false →
          m.id.count ≤ count_in (sent.process j).time m.id.group (local sent j)
      counted j own stands open_it =
          let same : k ≡ j = ap (λ (q : Proc). q.serial) own in
          subst (λ i. m.id.count ≤ count_in (sent.process i).time g (local s i)) same
          (subst (λ (q : Process). m.id.count ≤ count_in q.time g (local s k))
          (sym (ap (λ b. if b then record p { time = m.times } else p) (eq-eqb k k refl))) (omega arith))

  delivers_single : (s : State) (k : ℕ) (m : Message) → Now s → Contains s.got m → is_ready_for s k m ≡ true → Now (with_delivery s k m)
  delivers_single s k m x at ready =
      process_single NoGroup NoMessage s k (record p { time = join p.time m.times; delivered = p.delivered ++ m.id ∷ [] }) (
      time_one (local s k) s.config.groups s.group s.kept p o (join p.time m.times) (p.delivered ++ m.id ∷ []) (below_join p.time m.times)
      (join_sorted p.time m.times o.sorted)
      (λ g is.
      let low : view_of m.times g ≤ view_of p.time g = allowed.view g is in
      let up = view_join p.time m.times (sorted_once m.times (x.stamped m at)) g (view_of p.time g) (omega arith) low in
      let down = below_view p.time (join p.time m.times) (below_join p.time m.times) g in
      omega (arith, up, down))
      ) x
    where
      p : Process
      p = s.process k

      o : CountsOwn (local s k) s.config.groups s.group s.kept p
      o = x.ones k

      allowed : IsAllowed p m
      allowed = ready_allowed s.config.groups (gate_of s) (turn_of s k) p m o.known (λ g is. sym (o.current g is)) ready

  -- A process asks to join

  joins_single : (s : State) (k : ℕ) (g : GroupNo) (request heard : ℕ) → Now s → is_group s g ≡ true →
      Now (set_standing s k g (Joining request heard))
  joins_single s k g request heard x known =
      let p : Process = s.process k in
      process_single NoGroup NoMessage s k (record p { standing = set_at group_eq p.standing g (Joining request heard) }) (
      stands_one (local s k) s.config.groups s.group s.kept p (x.ones k) (set_at group_eq p.standing g (Joining request heard))
      (set_group_all (λ h (z : Standing). z ≡ Member → p.standing h ≡ Member) p.standing g (Joining request heard) (λ h e. e)
      (λ e. absurd (not_joining request heard (sym e))))
      (set_group_all (λ h (z : Standing). is_outside z ≡ false → Contains s.config.groups h) p.standing g (Joining request heard)
      (x.ones k).known (λ e. group_among s.config.groups g known))
      ) x

  -- A site passes to a view

  module _ (s : State) (g : GroupNo) (skipped : Bool) (n : ℕ) (members : Membership) (request : ℕ) (cut : CountList) (x : Now s)
      (above : (s.group g).number < n) where
    abbrev left : State
    left = putting_out s g skipped members

    abbrev side : MemberSide
    side = with_view s.here n members (s.group g)

    abbrev now : GroupNo → MemberSide
    now = set_at group_eq s.group g side

    number_now : (now g).number ≡ n
    number_now = ap (λ (z : MemberSide). z.number) (set_here s.group g side g refl)

    left_time : (k : ℕ) → (left.process k).time ≡ (s.process k).time
    left_time k = go (is_put_out s g skipped members k)
      where
        go : (b : Bool) → (if b then put_outside g (s.process k) else s.process k).time ≡ (s.process k).time
        go true = refl
        go false = refl

    left_other : (k : ℕ) (h : GroupNo) → (g ≡ h → ⊥) → (left.process k).standing h ≡ (s.process k).standing h
    left_other k h apart = go (is_put_out s g skipped members k)
      where
        go : (b : Bool) → (if b then put_outside g (s.process k) else s.process k).standing h ≡ (s.process k).standing h
        go true = set_other (s.process k).standing g Outside h apart
        go false = refl

    left_inside : (k : ℕ) (h : GroupNo) → is_outside ((left.process k).standing h) ≡ false → is_outside ((s.process k).standing h) ≡ false
    left_inside k h = go (is_put_out s g skipped members k)
      where
        go : (b : Bool) → is_outside ((if b then put_outside g (s.process k) else s.process k).standing h) ≡ false →
            is_outside ((s.process k).standing h) ≡ false
        go true e =
            set_group_all (λ i (z : Standing). is_outside z ≡ false → is_outside ((s.process k).standing i) ≡ false)
            (s.process k).standing g Outside (λ i inside. inside) (λ inside. absurd (true≢false inside)) h e
        go false e = e

    -- a kept message is of no view that is new
    old : (m : Message) → Contains s.kept m → m.id.view ≡ (now m.id.group).number → g ≡ m.id.group → ⊥
    old m at view same =
        let low = x.reached m at in
        let number : (s.group m.id.group).number ≡ (s.group g).number = ap (λ h. (s.group h).number) (sym same) in
        let new : m.id.view ≡ n = view ∙ ap (λ h. (now h).number) (sym same) ∙ number_now in
        omega (arith, low, number, new, above)

    passed_one : (k : ℕ) → CountsOwn (local s k) s.config.groups now s.kept ((passing s g skipped n members request cut).process k)
    passed_one k = go (enters left g members request k) refl
      where
        o : CountsOwn (local s k) s.config.groups s.group s.kept (s.process k)
        o = x.ones k

        -- who stays a member is taken in
        stays : enters left g members request k ≡ false → (left.process k).standing g ≡ Member → ⊥
        stays not_in is =
            let named_it = (still_member s g skipped members k is).2 in
            false≢true (sym not_in ∙ and_from (is_taken_in request ((left.process k).standing g))
            (is_among proc_eq (local s k) members.list) (ap (is_taken_in request) is) named_it)

        -- who is taken in was not outside
        was_in : enters left g members request k ≡ true → is_outside ((s.process k).standing g) ≡ false
        was_in in_it =
            left_inside k g (taken ((left.process k).standing g)
            (and_parts (is_taken_in request ((left.process k).standing g)) (is_among proc_eq (local s k) members.list) in_it).0)
          where
            taken : (st : Standing) → is_taken_in request st ≡ true → is_outside st ≡ false
            taken Outside e = absurd (false≢true e)
            taken (Joining number heard) e = refl
            taken Member e = refl

        group_here : (h : GroupNo) → (g ≡ h → ⊥) → now h ≡ s.group h
        group_here h apart = set_other s.group g side h apart

        go : (b : Bool) → enters left g members request k ≡ b →
            CountsOwn (local s k) s.config.groups now s.kept (if b then in_view g n (left.process k) else left.process k)
        go true in_it = record {
          current = λ h is. elim (cases_group g h) [
            | inl same ↦
                subst (λ i. view_of (entering (left.process k).time g n) i ≡ (now i).number)
                same (entered_view (left.process k).time g n ∙ sym number_now)
            | inr apart ↦
                other_view (left.process k).time g n h apart ∙ ap (λ t. view_of t h) (left_time k)
                ∙ o.current h (sym (left_other k h apart) ∙ sym (set_other (left.process k).standing g Member h apart) ∙ is)
                ∙ ap (λ (z : MemberSide). z.number) (sym (group_here h apart))
          ];
          known = λ h inside. elim (cases_group g h) [
            | inl same ↦ subst (Contains s.config.groups) same (o.known g (was_in in_it))
            | inr apart ↦ o.known h (left_inside k h (ap is_outside (sym (set_other (left.process k).standing g Member h apart)) ∙ inside))
          ];
          sorted = put_sorted g _ (left.process k).time (ap (is_sorted group_cmp) (left_time k) ∙ o.sorted);
          counted = λ m at own is thawed view. elim (cases_group g m.id.group) [
            | inl same ↦ absurd (old m at view same)
            | inr apart ↦
                let was : m.id.count ≤ count_in (s.process k).time m.id.group (local s k) =
                o.counted m at own
                (sym (left_other k m.id.group apart) ∙ sym (set_other (left.process k).standing g Member m.id.group apart) ∙ is)
                (ap (λ (z : MemberSide). z.frozen) (sym (group_here m.id.group apart)) ∙ thawed)
                (view ∙ ap (λ (z : MemberSide). z.number) (group_here m.id.group apart)) in
                let same : count_in (entering (left.process k).time g n) m.id.group (local s k)
                ≡ count_in (s.process k).time m.id.group (local s k) =
                ap (λ (c : Clock). count_of c.counts (local s k)) (other_clock (left.process k).time g n m.id.group apart)
                ∙ ap (λ t. count_in t m.id.group (local s k)) (left_time k) in
                omega (arith, was, same)
          ];
        }
        go false not_in = record {
          current = λ h is. elim (cases_group g h) [
            | inl same ↦ absurd (stays not_in (ap (left.process k).standing same ∙ is))
            | inr apart ↦
                ap (λ t. view_of t h) (left_time k)
                ∙ o.current h (sym (left_other k h apart) ∙ is)
                ∙ ap (λ (z : MemberSide). z.number) (sym (group_here h apart))
          ];
          known = λ h inside. o.known h (left_inside k h inside);
          sorted = ap (is_sorted group_cmp) (left_time k) ∙ o.sorted;
          counted = λ m at own is thawed view. elim (cases_group g m.id.group) [
            | inl same ↦ absurd (old m at view same)
            | inr apart ↦
                let was : m.id.count ≤ count_in (s.process k).time m.id.group (local s k) =
                o.counted m at own (sym (left_other k m.id.group apart) ∙ is)
                (ap (λ (z : MemberSide). z.frozen) (sym (group_here m.id.group apart)) ∙ thawed)
                (view ∙ ap (λ (z : MemberSide). z.number) (group_here m.id.group apart)) in
                let same : count_in (left.process k).time m.id.group (local s k) ≡ count_in (s.process k).time m.id.group (local s k) =
                ap (λ t. count_in t m.id.group (local s k)) (left_time k) in
                omega (arith, was, same)
          ];
        }

    passes_single : At (λ h. g ≡ h) NoMessage (passing s g skipped n members request cut)
    passes_single = record {
      once = x.once;
      had = x.had;
      reached = λ m at. (
          let was = x.reached m at in
          let up =
          set_group_all (λ h (z : MemberSide). (s.group h).number ≤ z.number) s.group g side (λ h. omega arith) (omega (arith, above))
          m.id.group in
          omega (arith, was, up)
          );
      stamped = x.stamped;
      lacked = λ w y at is. elim (cases_group g w.group) [
        | inl same ↦ inl same
        | inr apart ↦ elim (x.lacked w y at is) [
          | inl never ↦ absurd never
          | inr (pending, none) ↦
              inr (
                ap (λ (z : MemberSide). is_pending z) (set_other s.group g side w.group apart) ∙ pending,
                λ view. none (view ∙ ap (λ (z : MemberSide). z.number) (set_other s.group g side w.group apart)),
              )
        ]
      ];
      waits = set_group_all (λ h (z : MemberSide). is_pending z ≡ true → (z.frozen ≡ true) × Contains s.config.groups h)
          s.group g side x.waits (λ e. absurd (false≢true e));
      ones = passed_one;
      homes = x.homes;
    }

  ends_single : (s : State) (g : GroupNo) → At (λ h. g ≡ h) NoMessage s → Now (paying_view (releasing_ended s g) g)
  ends_single s g x =
      let y = fewer_single (λ h. g ≡ h) NoMessage s (λ m. not (is_ended s g m.id)) x in
      record {
        once = y.once;
        had = y.had;
        reached = y.reached;
        stamped = y.stamped;
        lacked = λ w o at is. elim (y.lacked w o (among_kept (λ (z : Owed). not (is_of_view g z.key)) s.owed o at) is) [
          | inl same ↦
              let of_view : is_of_view g o.key ≡ true =
              ap (is_of_view g) is ∙ ap (λ b. b && true) (ap (λ h. group_eq h g) (sym same) ∙ group_itself g) in
              absurd (false≢true (sym (ap not of_view) ∙ passed (λ (z : Owed). not (is_of_view g z.key)) s.owed o at))
          | inr waits ↦ inr waits
        ];
        waits = y.waits;
        ones = y.ones;
        homes = y.homes;
      }

  -- Each move

  kept_single : FullyKept Now (λ g. At (λ h. g ≡ h) NoMessage) (λ u. At NoGroup (λ w. w ≡ u)) Typed home_here true
  kept_single = record {
    telling = telling NoGroup NoMessage;
    between = λ g. telling (λ h. g ≡ h) NoMessage;
    during = λ u. telling NoGroup (λ w. w ≡ u);
    truly = inr ((λ s key x owed is known. x), λ s key due x owed. renewed_single NoGroup NoMessage s key due x owed);
    fixed = λ s x. x.homes;
    opens = λ s x. x;
    answers = λ s g x. group_single NoGroup NoMessage s g (with_answer (s.group g)) refl (λ e. e) (λ e. e) (x.waits g) x;
    joins = λ s k g x open_it known out. joins_single s k g ((s.group g).asked + 1) (view_of (s.process k).time g) x known;
    sends = λ s g k content x member may room thawed asked_for. sends_single s g k content x member thawed;
    receives = λ s from m x came view member may new. receives_single s from m x came view new;
    received = λ s u x. received_paid s u x;
    acknowledged = λ s from u x came. x;
    learns = λ s from u x came. x;
    delivers = λ s k m x at ready. delivers_single s k m x at ready;
    freezes = λ s g x current. group_single NoGroup NoMessage s g (frozen_side (s.group g)) refl (λ e. absurd (true≢false e)) (λ e. e)
        (λ e. (refl, (x.waits g e).1)) x;
    pends = λ s from g p tail x came current quiet known. group_single NoGroup NoMessage s g (with_pending (s.group g) p)
        refl (λ e. absurd (true≢false e)) (λ e. refl) (λ e. (refl, group_among s.config.groups g known)) x;
    passes = λ s g skipped n members request cut x comes.
        passes_single s g skipped n members request cut x (number_up Typed s g skipped n members request cut comes);
    ends = λ s g x. ends_single s g x;
    homes = λ s g what x may. x;
  }

  -- Events

  typed_came : (e : Event) → IsTyped e → HasCome Typed e
  typed_came (event.Open d) typed = tt
  typed_came (event.Command d n c) typed = tt
  typed_came (event.Gone d n) typed = tt
  typed_came (event.Frame d from f) typed = typed
  typed_came (event.Suspect d site) typed = tt
  typed_came (event.Quota d name value) typed = tt
  typed_came (event.Take d n most) typed = tt
  typed_came (event.Tick t) typed = tt

  step_single : (s : State) (e : Event) (answer : Taken) (t : State) → IsStep s e answer t → IsTyped e → Now s → Now t
  step_single s e answer t is typed x =
      rests_keeps_fully Now (λ g. At (λ h. g ≡ h) NoMessage) (λ u. At NoGroup (λ w. w ≡ u))
      Typed home_here true kept_single (after_event s e) t is.rests
      (event_keeps_fully Now (λ g. At (λ h. g ≡ h) NoMessage) (λ u. At NoGroup (λ w. w ≡ u))
      Typed home_here true kept_single s e x (typed_came e typed)
      (sets_any Now (λ u quotas y. y) (before_event s) e x) (any_happens e))

  run_single : (events : List Event) (answers : List Taken) (s t : State) (sent : List (SiteNo × SiteFrame)) (pushed : List (ℕ × Push)) →
      AllByRecursion IsTyped events →
      IsRun s events answers sent pushed t → Now s → Now t
  run_single [] [] s t sent pushed typed run x = subst Now (sym run.2) x
  run_single [] (a ∷ answers) s t sent pushed typed run x = absurd run
  run_single (e ∷ events) [] s t sent pushed typed run x = absurd run
  run_single (e ∷ events) (a ∷ answers) s t sent pushed typed (u, later, more, is, sent_is, pushed_is, rest) x =
      run_single events answers u t later more typed.1 rest (step_single s e a u is typed.0 x)

pub single_after : (here : SiteNo) (config : DomainConfig) (events : List Event) (answers : List Taken) (sent : List (SiteNo × SiteFrame))
    (pushed : List (ℕ × Push)) (s : State) → AllByRecursion IsTyped events →
    IsRun (opening here config) events answers sent pushed s → Now (site_eq here config.home) s
single_after here config events answers sent pushed s typed run =
    run_single (site_eq here config.home) events answers (opening here config) s sent pushed typed run record {
      once = λ u. omega arith;
      had = λ m at. absurd (omega (arith, at.1));
      reached = λ m at. absurd (omega (arith, at.1));
      stamped = λ m at. absurd (omega (arith, at.1));
      lacked = λ w y at is. absurd (omega (arith, at.1));
      waits = λ g e. absurd (false≢true e);
      ones = λ k. record {
        current = λ g is. absurd (outside_not_member is);
        known = λ g inside. absurd (true≢false inside);
        sorted = refl;
        counted = λ m at own is thawed view. absurd (omega (arith, at.1));
      };
      homes = refl;
    }
