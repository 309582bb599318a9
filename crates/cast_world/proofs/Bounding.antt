-- What is kept is bounded, whatever frames come.
-- `what_is_kept_is_bounded` says so. The invariant is `Bounded`: at most twice the quota of
-- messages are kept that no waiting Install covers (`few`), each kept message is of its group's
-- view, and a Want is owed only of a message that the site or the home still waits for. A site
-- takes a message only where the quota has room or an Install waits for it, so receiving keeps
-- this. While a site passes to a view, the messages of the view before it are set apart, and it
-- lets all of them go.
use Rattle.std.proofs.Common.{ap, arith, inl, inr, subst, sym, ◌∙◌}
use Rattle.std.proofs.lemmas.Bool.{and_from, eq-eqb, eqb-true, false_from_ne_true, false≢true, lt-ltb, ltb-true, true≢false}
use Rattle.std.proofs.lemmas.List.Elements.{Contains-push_cases, filter-append}
use Rattle.std.proofs.lemmas.List.{length-append}
use Rattle.std.specs.List.{AllByRecursion}
use Rattle.std.specs.Prelude.{◌&&◌, ◌*◌, ◌+◌, ◌++◌, ◌<◌, ◌==◌, ◌||◌, Bool, Contains, List, None, Option, Some, [], cond}
use Rattle.std.specs.Prelude.{false, filter, if◌then◌else◌, length, nat_lt, not, refl, true, ℕ, ◌∷◌, ◌≡◌, ◌≤◌, ◌⊎◌}
use Rattle.cast_ready.specs.Ready.{covered_entries}
use Rattle.cast_order.proofs.Told.{order_in_words}
use Rattle.cast_rules.specs.Effects.{next_message}
use Rattle.cast_rules.specs.History.{history}
use Rattle.cast_rules.specs.Order.{facts_in}
use Rattle.cast_rules.specs.Owing.{paying_view}
use Rattle.cast_rules.specs.Rules.Keys.{id_in, message_key}
use Rattle.cast_rules.specs.Rules.Room.{may_order, may_receive, may_take}
use Rattle.cast_rules.specs.Run.{IsRun, IsStep, after_event, before_event}
use Rattle.cast_rules.specs.State.{State, is_ended, noting_sent, opening, receiving, releasing, releasing_ended, set_group}
use Rattle.cast_message.specs.Bodies.{kind_of}
use Rattle.cast_message.specs.Membership.{Membership}
use Rattle.cast_message.specs.declared.client.Push.{Push}
use Rattle.cast_message.specs.declared.message.Body.{Body}
use Rattle.cast_message.specs.declared.message.Message.{Message}
use Rattle.cast_message.specs.declared.site.SiteFrame.{SiteFrame}
use Rattle.cast_events.specs.declared.config.DomainConfig.{DomainConfig}
use Rattle.cast_events.specs.declared.event.Event.{Event}
use Rattle.cast_events.specs.declared.event.Event.TheVariants as event
use Rattle.cast_events.specs.declared.event.Taken.{Taken}
use Rattle.cast_quota.specs.Quotas.{with_quota}
use Rattle.cast_quota.specs.declared.quotas.Quotas.{Quotas}
use Rattle.cast_quota.specs.declared.quotas.QuotaName.{QuotaName}
use Rattle.cast_quota.specs.declared.quotas.QuotaName.TheVariants.{Sessions, Held, Outbox, Resend}
use Rattle.cast_timer.proofs.Owing.{same_key}
use Rattle.cast_timer.specs.Owed.{is_of_messages, is_of_view, is_owed, key_eq, owed_cmp, paid, renew, with_owed}
use Rattle.cast_timer.specs.declared.key.Owed.{Owed}
use Rattle.cast_timer.specs.declared.key.OwedKey.{OwedKey}
use Rattle.cast_timer.specs.declared.key.OwedKind.{OwedKind}
use Rattle.cast_timer.specs.declared.key.OwedKind.TheVariants as kinds
use Rattle.cast_timer.specs.declared.key.Side.{Side}
use Rattle.cast_timer.specs.declared.key.Side.TheVariants as side
use Rattle.cast_types.proofs.Orders.{group_itself}
use Rattle.cast_types.specs.Counts.{CountList}
use Rattle.cast_types.specs.Names.{entry_eq, entry_of, group_eq, is_order, site_eq}
use Rattle.cast_types.specs.Sets.{is_among, set_at}
use Rattle.cast_types.specs.declared.names.GroupNo.{GroupNo}
use Rattle.cast_types.specs.declared.names.SiteNo.{SiteNo}
use Rattle.cast_types.specs.declared.names.Uid.{Uid}
use Rattle.cast_view.specs.MemberSide.{MemberSide, frozen_side, is_pending, with_answer, with_pending, with_request, with_view}
use Rattle.cast_view.specs.declared.member.Pending.{Pending}
use Rattle.cast_world.proofs.Allowed.{contains_more, passed}
use Rattle.cast_world.proofs.Events.{SetsWell, any_came, any_happens, event_keeps_fully, rests_keeps_fully}
use Rattle.cast_world.proofs.Homes.{among_kept, item_was}
use Rattle.cast_world.proofs.Kept.{Any, Comes, FullyKept, FullyKeptByTelling, IsOwed, MayReceive, Wants}
use Rattle.cast_world.proofs.Kept.{WantsAt, WantsOf, completes, ends, fits, installs, skips, wanted}
use Rattle.cast_world.proofs.Laters.{set_group_all}
use Rattle.cast_world.proofs.Local.{cases_group}
use Rattle.cast_world.proofs.Ones.{set_here, set_other}
use Rattle.cast_world.specs.Bounds.{IsHeldAtMost, SetsAtMost, WhatIsKeptIsBounded, covers}

-- Lists

filter_all : {A : Type 0} (p : A → Bool) (xs : List A) → length (filter p xs) ≤ length xs
filter_all p [] = omega arith
filter_all p (x ∷ xs) = go (p x) (filter_all p xs)
  where
    go : (b : Bool) → length (filter p xs) ≤ length xs → length (cond b (x ∷ filter p xs) (filter p xs)) ≤ length (x ∷ xs)
    go true less = omega (arith, less)
    go false less = omega (arith, less)

-- where each item of a list that passes one test passes another
filter_less : {A : Type 0} (p q : A → Bool) (xs : List A) → ((x : A) → Contains xs x → p x ≡ true → q x ≡ true) →
    length (filter p xs) ≤ length (filter q xs)
filter_less p q [] more = omega arith
filter_less {A} p q (x ∷ xs) more =
    go (p x) (q x) (more x (0, omega arith, refl)) (filter_less p q xs (λ y at. more y (contains_more x xs y at)))
  where
    go : (b c : Bool) → (b ≡ true → c ≡ true) → length (filter p xs) ≤ length (filter q xs) →
        length (cond b (x ∷ filter p xs) (filter p xs)) ≤ length (cond c (x ∷ filter q xs) (filter q xs))
    go true true one less = omega (arith, less)
    go true false one less = absurd (false≢true (one refl))
    go false true one less = omega (arith, less)
    go false false one less = less

-- where what passes two tests passes a third
pub both_less : {A : Type 0} (p q r : A → Bool) → ((x : A) → q x ≡ true → p x ≡ true → r x ≡ true) → (xs : List A) →
    length (filter p (filter q xs)) ≤ length (filter r xs)
both_less p q r more [] = omega arith
both_less {A} p q r more (x ∷ xs) = go (q x) (p x) (r x) refl refl refl (both_less p q r more xs)
  where
    go : (b c d : Bool) → q x ≡ b → p x ≡ c → r x ≡ d → length (filter p (filter q xs)) ≤ length (filter r xs) →
        length (filter p (cond b (x ∷ filter q xs) (filter q xs))) ≤ length (cond d (x ∷ filter r xs) (filter r xs))
    go true true true eb ec ed less =
        subst (λ z. length (cond z (x ∷ filter p (filter q xs)) (filter p (filter q xs))) ≤ length (x ∷ filter r xs)) (sym ec)
        (omega (arith, less))
    go true true false eb ec ed less = absurd (false≢true (sym ed ∙ more x eb ec))
    go true false true eb ec ed less =
        subst (λ z. length (cond z (x ∷ filter p (filter q xs)) (filter p (filter q xs))) ≤ length (x ∷ filter r xs)) (sym ec)
        (omega (arith, less))
    go true false false eb ec ed less =
        subst (λ z. length (cond z (x ∷ filter p (filter q xs)) (filter p (filter q xs))) ≤ length (filter r xs)) (sym ec) less
    go false c true eb ec ed less = omega (arith, less)
    go false c false eb ec ed less = less

-- one more item is at most one more that passes
filter_one : {A : Type 0} (p : A → Bool) (xs : List A) (x : A) → length (filter p (xs ++ x ∷ [])) ≤ length xs + 1
filter_one {A} p xs x = let all = filter_all p (xs ++ x ∷ []) in omega (arith, all, length-append xs (x ∷ []))

-- and none, where it does not pass
pub filter_none : {A : Type 0} (p : A → Bool) (xs : List A) (x : A) → p x ≡ false → length (filter p (xs ++ x ∷ [])) ≡ length (filter p xs)
filter_none {A} p xs x e =
    ap length (filter-append p xs (x ∷ []))
    ∙ length-append (filter p xs) (filter p (x ∷ []))
    ∙ (λ i. length (filter p xs) + length {A = A} (cond (e i) (x ∷ []) []))
    ∙ omega arith

-- a frame that is found owed is owed
pub found_owed : (owed : List Owed) (key : OwedKey) → is_owed owed key ≡ true → (y : Owed) × Contains owed y × (y.key ≡ key)
found_owed [] key e = absurd (false≢true e)
found_owed (y ∷ owed) key e = go (key_eq y.key key) refl (found_owed owed key)
  where
    go : (b : Bool) → key_eq y.key key ≡ b → (is_owed owed key ≡ true → (z : Owed) × Contains owed z × (z.key ≡ key)) →
        (z : Owed) × Contains (y ∷ owed) z × (z.key ≡ key)
    go true same more = (y, (0, omega arith, refl), same_key y.key key same)
    go false other more =
        let r = more (subst (λ b. (b || is_owed owed key) ≡ true) other e) in
        (r.0, contains_more y owed r.0 r.1, r.2)

-- a site passes to a view of a greater number
pub number_up : (Came : SiteNo → SiteFrame → Type 0) (s : State) (g : GroupNo) (skipped : Bool) (n : ℕ) (members : Membership) (request : ℕ)
    (cut : CountList) → Comes Came s g skipped n members request cut →
    (s.group g).number < n
number_up Came s g skipped n members request cut (completes p waits has unskipped is ms rq ct) = omega (arith, is)
number_up Came s g skipped n members request cut (installs from tail came none unskipped up) = up
number_up Came s g skipped n members request cut (skips from tail came is up) = up
number_up Came s g skipped n members request cut (ends from came is up ms) = up

-- what is covered is covered by an Install that waits
pub covers_waits : (group : MemberSide) (u : Uid) → covers group u ≡ true → is_pending group ≡ true
covers_waits group u = go group.pending
  where
    go : (o : Option Pending) →
        (elim o as (λ p. Bool) [
          | Some p ↦ (u.view == group.number) && is_among entry_eq (entry_of u) (covered_entries p.cut)
          | None ↦
              false
        ]) ≡ true →
        (elim o as (λ p. Bool) [ Some p ↦ true | None ↦ false ]) ≡ true
    go (Some p) e = refl
    go None e = e

-- What holds at every moment. While the site passes to a view of a group, messages of the view before are still kept, and frames about it
-- owed

abbrev over : Option GroupNo → (GroupNo → MemberSide) → Uid → Bool
over None group u = false
over (Some g) group u = group_eq u.group g && nat_lt u.view (group g).number

abbrev past : Option GroupNo → OwedKey → Bool
past None key = false
past (Some g) key = is_of_view g key

-- neither of a view that is over nor covered
abbrev is_loose : Option GroupNo → (GroupNo → MemberSide) → Message → Bool
is_loose o group m = not (over o group m.id || covers (group m.id.group) m.id)

record Bounded (most : ℕ) (home_here : Bool) (o : Option GroupNo) (here : SiteNo) (config : DomainConfig) (quotas : Quotas)
    (group : GroupNo → MemberSide) (kept : List Message) (owed : List Owed) : Type 0 where
  few : length (filter (is_loose o group) kept) ≤ 2 * most
  current : (m : Message) → Contains kept m → (over o group m.id ≡ true) ⊎ (m.id.view ≡ (group m.id.group).number)
  wants : (x : Owed) → Contains owed x → (past o x.key ≡ true) ⊎ WantsOf group x.key x.key.kind
  quota : quotas.held ≤ most
  homes : site_eq here config.home ≡ home_here

module _ (most : ℕ) (home_here : Bool) where
  abbrev At : Option GroupNo → State → Type 0
  At o s = Bounded most home_here o s.here s.config s.quotas s.group s.kept s.owed

  -- Groups that change, but for their numbers, and cover no less

  same_over : (o : Option GroupNo) (a b : GroupNo → MemberSide) → ((h : GroupNo) → (b h).number ≡ (a h).number) → (u : Uid) →
      over o b u ≡ over o a u
  same_over None a b same u = refl
  same_over (Some g) a b same u = ap (λ n. group_eq u.group g && nat_lt u.view n) (same g)

  still_wants : (a b : GroupNo → MemberSide) → ((h : GroupNo) → (b h).number ≡ (a h).number) →
      ((u : Uid) → covers (a u.group) u ≡ true → covers (b u.group) u ≡ true) → (key : OwedKey) (kind : OwedKind) →
      WantsOf a key kind → WantsOf b key kind
  still_wants a b same more key kinds.Ask w = tt
  still_wants a b same more key kinds.Data w = tt
  still_wants a b same more key kinds.Prepare w = tt
  still_wants a b same more key kinds.Want w = go key.side w
    where
      go : (by : Side) → WantsAt a key by → WantsAt b key by
      go side.Site c = ap (λ n. covers (b key.group) (id_in n key)) (same key.group) ∙ more (id_in (a key.group).number key) c
      go side.Home c = tt
  still_wants a b same more key kinds.Install w = tt
  still_wants a b same more key kinds.Ack w = tt

  loose_before : (v c w d : Bool) → w ≡ v → (c ≡ true → d ≡ true) → not (w || d) ≡ true → not (v || c) ≡ true
  loose_before true c true d same more loose = loose
  loose_before true c false d same more loose = absurd (false≢true same)
  loose_before false false w d same more loose = refl
  loose_before false true true d same more loose = absurd (true≢false same)
  loose_before false true false true same more loose = loose
  loose_before false true false false same more loose = absurd (false≢true (more refl))

  groups_bounded : (o : Option GroupNo) (s : State) (b : GroupNo → MemberSide) → ((h : GroupNo) → (b h).number ≡ (s.group h).number) →
      ((u : Uid) → covers (s.group u.group) u ≡ true → covers (b u.group) u ≡ true) →
      At o s → At o (record s { group = b })
  groups_bounded o s b same more x = record {
    few = (
        let less = filter_less (is_loose o b) (is_loose o s.group) s.kept (λ m at loose.
        loose_before (over o s.group m.id) (covers (s.group m.id.group) m.id) (over o b m.id) (covers (b m.id.group) m.id)
        (same_over o s.group b same m.id) (more m.id) loose) in
        let was = x.few in
        omega (arith, less, was)
        );
    current = λ m at. elim (x.current m at) [
      | inl gone ↦ inl (same_over o s.group b same m.id ∙ gone)
      | inr is ↦ inr (is ∙ sym (same m.id.group))
    ];
    wants = λ y at. elim (x.wants y at) [ inl gone ↦ inl gone | inr w ↦ inr (still_wants s.group b same more y.key y.key.kind w) ];
    quota = x.quota;
    homes = x.homes;
  }

  -- one group changes in nothing that matters here
  group_bounded : (o : Option GroupNo) (s : State) (g : GroupNo) (v : MemberSide) → v.number ≡ (s.group g).number →
      ((u : Uid) → covers (s.group g) u ≡ true → covers v u ≡ true) → At o s → At o (set_group s g v)
  group_bounded o s g v number more x = groups_bounded o s (set_at group_eq s.group g v)
      (set_group_all (λ h (z : MemberSide). z.number ≡ (s.group h).number) s.group g v (λ h. refl) number)
      (λ u. set_group_all (λ h (z : MemberSide). covers (s.group h) u ≡ true → covers z u ≡ true) s.group g v (λ h e. e) (more u) u.group) x

  -- What is owed

  owed_bounded : (o : Option GroupNo) (s : State) (key : OwedKey) (due : ℕ) (before : List Owed) →
      ((x : Owed) → Contains before x → Contains s.owed x) → At o s → (past o key ≡ true) ⊎ Wants s key →
      At o (record s { owed = with_owed before key due })
  owed_bounded o s key due before less x wants = record {
    few = x.few;
    current = x.current;
    wants = λ y at. elim (item_was owed_cmp (record { due = due; key = key }) before y at) [
      | inl new ↦ subst (λ (z : Owed). (past o z.key ≡ true) ⊎ WantsOf s.group z.key z.key.kind) new wants
      | inr old ↦ x.wants y (less y old)
    ];
    quota = x.quota;
    homes = x.homes;
  }

  paid_bounded : (o : Option GroupNo) (s : State) (test : OwedKey → Bool) → At o s → At o (record s { owed = paid test s.owed })
  paid_bounded o s test x = record {
    few = x.few;
    current = x.current;
    wants = λ y at. x.wants y (among_kept (λ (z : Owed). not (test z.key)) s.owed y at);
    quota = x.quota;
    homes = x.homes;
  }

  renewed_bounded : (o : Option GroupNo) (s : State) (key : OwedKey) (due : ℕ) → At o s → IsOwed s key →
      At o (record s { owed = renew s.owed key due })
  renewed_bounded o s key due x (y, at, is) =
      owed_bounded o s key due (paid (key_eq key) s.owed) (among_kept (λ (z : Owed). not (key_eq key z.key)) s.owed) x
      (subst (λ (k : OwedKey). (past o k ≡ true) ⊎ Wants s k) is (x.wants y at))

  released_bounded : (o : Option GroupNo) (s : State) (lets : Uid → Bool) → At o s → At o (releasing s lets)
  released_bounded o s lets x = record {
    few = (
        let less = both_less (is_loose o s.group) (λ m. not (lets m.id)) (is_loose o s.group) (λ m kept loose. loose) s.kept in
        let was = x.few in
        omega (arith, less, was)
        );
    current = λ m at. x.current m (among_kept (λ y. not (lets y.id)) s.kept m at);
    wants = x.wants;
    quota = x.quota;
    homes = x.homes;
  }

  telling : (o : Option GroupNo) → FullyKeptByTelling Any (At o)
  telling o = record {
    emits = λ s to f x says adds draws. x;
    books = λ s moment casts x. x;
    pushes = λ s k p x agrees. x;
    owes = λ s key due x owes wants lacks awaited. owed_bounded o s key due s.owed (λ y at. at) x (inr wants);
    renews = λ s key due x owes owed. renewed_bounded o s key due x owed;
    pays = λ s test x. paid_bounded o s test x;
    releases = λ s lets x. released_bounded o s lets x;
    sets_session = λ s k v x same. x;
    parts = λ s k g x. x;
    requests = λ s g what p x inside. group_bounded o s g (with_request (s.group g) what p) refl (λ u e. e) x;
  }

  -- Messages

  -- there is room for fewer than twice the quota
  room_below : (s : State) (b : Body) → may_take history s b ≡ true → length s.kept < 2 * s.quotas.held
  room_below s b = go (is_order (kind_of b))
    where
      go : (order : Bool) → (if order then may_order history s else may_receive history s) ≡ true → length s.kept < 2 * s.quotas.held
      go true room = ltb-true (length s.kept) (2 * s.quotas.held) room
      go false room = let below = ltb-true (length s.kept) s.quotas.held room in omega (arith, below)

  received_bounded : (s : State) (m : Message) → At None s → m.id.view ≡ (s.group m.id.group).number →
      length (filter (is_loose None s.group) (s.kept ++ m ∷ [])) ≤ 2 * most → At None (receiving s m)
  received_bounded s m x view few = record {
    few = few;
    current = λ y at. elim (Contains-push_cases s.kept m y at) [
      | inl old ↦ x.current y old
      | inr new ↦ subst (λ (z : Message). (false ≡ true) ⊎ (z.id.view ≡ (s.group z.id.group).number)) new (inr view)
    ];
    wants = x.wants;
    quota = x.quota;
    homes = x.homes;
  }

  fits_bounded : (s : State) (m : Message) → At None s → may_take history s m.body ≡ true →
      length (filter (is_loose None s.group) (s.kept ++ m ∷ [])) ≤ 2 * most
  fits_bounded s m x room =
      let one = filter_one (is_loose None s.group) s.kept m in
      let below = room_below s m.body room in
      let quota = x.quota in
      omega (arith, one, below, quota)

  receives_bounded : (s : State) (m : Message) → At None s → m.id.view ≡ (s.group m.id.group).number → MayReceive s m →
      At None (receiving s m)
  receives_bounded s m x view (fits room) = received_bounded s m x view (fits_bounded s m x room)
  receives_bounded s m x view (wanted owed) =
      let key : OwedKey = message_key kinds.Want m.id s.config.home in
      let found = found_owed s.owed key owed in
      let covered_it : covers (s.group m.id.group) m.id ≡ true =
      ap (λ n. covers (s.group m.id.group) (record { group = m.id.group; view = n; proc = m.id.proc; count = m.id.count })) view
      ∙ elim (subst (λ (k : OwedKey). (false ≡ true) ⊎ WantsOf s.group k k.kind) found.2 (x.wants found.0 found.1)) as
      (λ either. covers (s.group m.id.group) (id_in (s.group m.id.group).number key) ≡ true) [
        | inl none ↦
            absurd (false≢true none)
        | inr yes_it ↦ yes_it
      ] in
      received_bounded s m x view (
      let same = filter_none (is_loose None s.group) s.kept m (ap not covered_it) in
      let was = x.few in
      omega (arith, same, was)
      )

  -- A site passes to a view

  module _ (s : State) (g : GroupNo) (n : ℕ) (v : MemberSide) (x : At None s) (up : (s.group g).number < n) (numbered : v.number ≡ n) where
    abbrev now : GroupNo → MemberSide
    now = set_at group_eq s.group g v

    number_now : (now g).number ≡ n
    number_now = ap (λ (z : MemberSide). z.number) (set_here s.group g v g refl) ∙ numbered

    here_over : (m : Message) → Contains s.kept m → m.id.group ≡ g → over (Some g) now m.id ≡ true
    here_over m at same =
        let view : m.id.view ≡ (s.group g).number = elim (x.current m at) as (λ either. m.id.view ≡ (s.group g).number) [
          | inl none ↦ absurd (false≢true none)
          | inr is ↦ is ∙ ap (λ (h : GroupNo). (s.group h).number) same
        ] in
        and_from (group_eq m.id.group g) (nat_lt m.id.view (now g).number) (eq-eqb m.id.group.0 g.0 (ap (λ (h : GroupNo). h.0) same))
        (lt-ltb m.id.view (now g).number (let later = number_now in omega (arith, view, up, later)))

    passed_few : length (filter (is_loose (Some g) now) s.kept) ≤ 2 * most
    passed_few =
        let less = filter_less (is_loose (Some g) now) (is_loose None s.group) s.kept (λ m at loose. elim (cases_group g m.id.group) [
          | inl same ↦ absurd (false≢true (sym (ap (λ b. not (b || covers (now m.id.group) m.id)) (here_over m at (sym same))) ∙ loose))
          | inr apart ↦
              ap (λ z. not (covers z m.id)) (sym (set_other s.group g v m.id.group apart))
              ∙ loose_before false (covers (now m.id.group) m.id) (over (Some g) now m.id) (covers (now m.id.group) m.id)
              (ap (λ b. b && nat_lt m.id.view (now g).number) (other_group apart)) (λ e. e) loose
        ]) in
        let was = x.few in
        omega (arith, less, was)
      where
        other_group : {h : GroupNo} → (g ≡ h → ⊥) → group_eq h g ≡ false
        other_group {h} apart = false_from_ne_true (group_eq h g) (λ same. apart (sym (ap (λ k. record { 0 = k }) (eqb-true h.0 g.0 same))))

    passed_wants : (key : OwedKey) (kind : OwedKind) → key.kind ≡ kind → WantsOf s.group key kind →
        (is_of_view g key ≡ true) ⊎ WantsOf now key kind
    passed_wants key kinds.Ask e w = inr tt
    passed_wants key kinds.Data e w = inr tt
    passed_wants key kinds.Prepare e w = inr tt
    passed_wants key kinds.Want e w = go key.side refl w
      where
        go : (by : Side) → key.side ≡ by → WantsAt s.group key by → (is_of_view g key ≡ true) ⊎ WantsAt now key by
        go side.Site is c = elim (cases_group g key.group) [
          | inl same ↦
              inl ((λ i. group_eq key.group (same i) && is_of_messages (e i) (is i)) ∙ ap (λ b. b && true) (group_itself key.group))
          | inr apart ↦ inr (subst (λ z. covers z (id_in z.number key) ≡ true) (sym (set_other s.group g v key.group apart)) c)
        ]
        go side.Home is c = inr tt
    passed_wants key kinds.Install e w = inr tt
    passed_wants key kinds.Ack e w = inr tt

    passes_bounded : At (Some g) (record s { group = now })
    passes_bounded = record {
      few = passed_few;
      current = λ m at. elim (cases_group g m.id.group) [
        | inl same ↦ inl (here_over m at (sym same))
        | inr apart ↦ elim (x.current m at) [
          | inl none ↦ absurd (false≢true none)
          | inr is ↦ inr (is ∙ ap (λ (z : MemberSide). z.number) (sym (set_other s.group g v m.id.group apart)))
        ]
      ];
      wants = λ y at. elim (x.wants y at) [ inl none ↦ absurd (false≢true none) | inr w ↦ passed_wants y.key y.key.kind refl w ];
      quota = x.quota;
      homes = x.homes;
    }

  ends_bounded : (s : State) (g : GroupNo) → At (Some g) s → At None (paying_view (releasing_ended s g) g)
  ends_bounded s g x = record {
    few = (
        let less =
        both_less (is_loose None s.group) (λ m. not (is_ended s g m.id)) (is_loose (Some g) s.group)
        (λ m stays loose. both_not (is_ended s g m.id) (covers (s.group m.id.group) m.id) stays loose) s.kept in
        let was = x.few in
        omega (arith, less, was)
        );
    current = λ m at. elim (x.current m (among_kept (λ y. not (is_ended s g y.id)) s.kept m at)) [
      | inl gone ↦ absurd (false≢true (ap not (sym gone) ∙ passed (λ y. not (is_ended s g y.id)) s.kept m at))
      | inr is ↦ inr is
    ];
    wants = λ y at. elim (x.wants y (among_kept (λ (z : Owed). not (is_of_view g z.key)) s.owed y at)) [
      | inl gone ↦ absurd (false≢true (ap not (sym gone) ∙ passed (λ (z : Owed). not (is_of_view g z.key)) s.owed y at))
      | inr w ↦ inr w
    ];
    quota = x.quota;
    homes = x.homes;
  }
    where
      both_not : (b c : Bool) → not b ≡ true → not c ≡ true → not (b || c) ≡ true
      both_not true c nb nc = nb
      both_not false c nb nc = nc

  -- Each move

  kept_bounded : FullyKept (At None) (λ g. At (Some g)) (λ u. At None) Any home_here true
  kept_bounded = record {
    telling = telling None;
    between = λ g. telling (Some g);
    during = λ u. telling None;
    truly = inr ((λ s key x owed is known. x), λ s key due x owed. renewed_bounded None s key due x owed);
    fixed = λ s x. x.homes;
    opens = λ s x. x;
    answers = λ s g x. group_bounded None s g (with_answer (s.group g)) refl (λ u e. e) x;
    joins = λ s k g x open_it known out. x;
    sends = λ s g k content x member may room open_it asked_for.
        let m : Message = next_message s g k content in
        received_bounded (noting_sent s k m) m x refl (fits_bounded (noting_sent s k m) m x room);
    receives = λ s from m x came view member may new. receives_bounded s m x view may;
    received = λ s u x. paid_bounded None s (key_eq (message_key kinds.Want u s.config.home)) x;
    acknowledged = λ s from u x came. x;
    learns = λ s from u x came. x;
    delivers = λ s k m x c ready. x;
    freezes = λ s g x current. group_bounded None s g (frozen_side (s.group g)) refl (λ u e. e) x;
    pends = λ s from g p tail x came current quiet known.
        group_bounded None s g (with_pending (s.group g) p) refl (λ u e. absurd (false≢true (sym quiet ∙ covers_waits (s.group g) u e))) x;
    passes = λ s g skipped n members request cut x comes.
        passes_bounded s g n (with_view s.here n members (s.group g)) x (number_up Any s g skipped n members request cut comes) refl;
    ends = λ s g x. ends_bounded s g x;
    homes = λ s g what x may. x;
  }

  -- Events

  sets_bounded : (s : State) (e : Event) → At None s → SetsAtMost most e → SetsWell (At None) s e
  sets_bounded s (event.Open d) x most_it = tt
  sets_bounded s (event.Command d k c) x most_it = tt
  sets_bounded s (event.Gone d k) x most_it = tt
  sets_bounded s (event.Frame d from f) x most_it = tt
  sets_bounded s (event.Suspect d site) x most_it = tt
  sets_bounded s (event.Quota d name value) x most_it = record {
    few = x.few;
    current = x.current;
    wants = x.wants;
    quota = go name most_it;
    homes = x.homes;
  }
    where
      go : (name : QuotaName) → IsHeldAtMost most name value → (with_quota name value s.quotas).held ≤ most
      go Sessions is = x.quota
      go Held is = is
      go Outbox is = x.quota
      go Resend is = x.quota
  sets_bounded s (event.Take d k n) x most_it = tt
  sets_bounded s (event.Tick t) x most_it = tt

  step_bounded : (s : State) (e : Event) (answer : Taken) (t : State) → IsStep s e answer t → SetsAtMost most e → At None s → At None t
  step_bounded s e answer t is sets x =
      rests_keeps_fully (At None) (λ g. At (Some g)) (λ u. At None) Any home_here true kept_bounded (after_event s e) t is.rests
      (event_keeps_fully (At None) (λ g. At (Some g)) (λ u. At None) Any home_here true kept_bounded s e x (any_came e)
      (sets_bounded (before_event s) e x sets) (any_happens e))

  run_bounded : (events : List Event) (answers : List Taken) (s t : State) (sent : List (SiteNo × SiteFrame)) (pushed : List (ℕ × Push)) →
      AllByRecursion (SetsAtMost most) events →
      IsRun s events answers sent pushed t → At None s → At None t
  run_bounded [] [] s t sent pushed sets run x = subst (At None) (sym run.2) x
  run_bounded [] (a ∷ answers) s t sent pushed sets run x = absurd run
  run_bounded (e ∷ events) [] s t sent pushed sets run x = absurd run
  run_bounded (e ∷ events) (a ∷ answers) s t sent pushed sets (u, later, more, is, sent_is, pushed_is, rest) x =
      run_bounded events answers u t later more sets.1 rest (step_bounded s e a u is sets.0 x)

pub what_is_kept_is_bounded : WhatIsKeptIsBounded
what_is_kept_is_bounded most here config events answers sent pushed s quota sets run =
    let x = run_bounded most (site_eq here config.home) events answers (opening here config) s sent pushed sets run
    (record {
      few = omega arith;
      current = λ m at. absurd (omega (arith, at.1));
      wants = λ y at. absurd (omega (arith, at.1));
      quota = quota;
      homes = refl;
    }) in
    record {
      few = x.few;
      current = λ m at. elim (x.current m at) [ inl none ↦ absurd (false≢true none) | inr is ↦ is ];
      placed = λ g. (order_in_words (facts_in s g)).most;
    }
