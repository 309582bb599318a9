-- What has come to rest has nothing left to be done.
-- `rest_is_quiet` says so: nothing is ready, no frame has still to be owed, no order to be told,
-- no Install completed, and no message let go. By `Rests` each part of a pass changes nothing or
-- lowers what is to be done. A pass that changes nothing lowers nothing, so each of its parts
-- changes nothing; and a part that changes nothing had nothing to do.
use Rattle.std.proofs.Common.{◌≡◌, ℕ, zero, suc, Bool, true, false, not, List, [], ◌∷◌, length}
use Rattle.std.proofs.Common.{Option, Some, None, refl, sym, ap, subst, ◌∙◌, inl, inr, arith}
use Rattle.std.specs.Prelude.{◌&&◌, ◌||◌, is_some, if◌then◌else◌, filter}
use Rattle.std.specs.List.{fold, find, list_all, list_any, range_with_len}
use Rattle.std.specs.Option.{option_map_or}
use Rattle.std.proofs.lemmas.Bool.{and_from, or_cases, false_from_ne_true, false≢true}
use Rattle.std.proofs.lemmas.Option.{none-some}
use Rattle.cast_types.specs.declared.names.SiteNo.{SiteNo}
use Rattle.cast_types.specs.declared.names.GroupNo.{GroupNo}
use Rattle.cast_types.specs.Names.{Entry, group_eq}
use Rattle.cast_types.specs.Sets.{is_among}
use Rattle.cast_types.specs.Repeat.{iterate}
use Rattle.cast_types.proofs.Orders.{same_group}
use Rattle.cast_message.specs.declared.message.Body.TheVariants as body
use Rattle.cast_timer.specs.declared.key.OwedKey.{OwedKey}
use Rattle.cast_timer.specs.declared.key.OwedKind.{OwedKind}
use Rattle.cast_timer.specs.declared.key.OwedKind.TheVariants.{Prepare, Install}
use Rattle.cast_ready.specs.Ready.{covered_entries, is_member}
use Rattle.cast_message.specs.Placement.{Placement}
use Rattle.cast_rules.specs.Order.{order_told, unlisted_ids, has_place, holds, holders}
use Rattle.cast_rules.specs.Rules.Room.{may_order}
use Rattle.cast_rules.specs.Rules.Sending.{may_raise}
use Rattle.cast_timer.specs.Owed.{is_owed}
use Rattle.cast_timer.proofs.Owing.{owing_owes}
use Rattle.cast_view.specs.declared.member.Pending.{Pending}
use Rattle.cast_view.specs.MemberSide.{is_pending}
use Rattle.cast_view.specs.Home.{is_empty, wants_in, may_start, may_decide, awaited_of, waiting_of, apply_move}
use Rattle.cast_view.specs.Home.HomeMove.{Started, Decided}
use Rattle.cast_rules.specs.State.{State, local, serials, emit, set_home}
use Rattle.cast_rules.specs.Owing.{next_due, noting_owed}
use Rattle.cast_rules.specs.Turns.{is_ready_for}
use Rattle.cast_rules.specs.Reports.{has_delivered_cut, missing_in}
use Rattle.cast_rules.specs.History.{history}
use Rattle.cast_rules.specs.Resting.{resting, places_of}
use Rattle.cast_rules.specs.Effects.{delivering, sending}
use Rattle.cast_rules.specs.Rules.Owing.{frame_for, send_for, owe}
use Rattle.cast_rules.specs.Rules.Asking.{is_home}
use Rattle.cast_rules.specs.Rules.Keys.{home_key, want_key}
use Rattle.cast_rules.specs.Rules.Home.{owe_of_home, start, wants, want, want_bodies, decide, lead_group, lead}
use Rattle.cast_rules.specs.Rules.Flushes.{own_want_key, complete, want_own, complete_or_want, go_on, go_on_all}
use Rattle.cast_rules.specs.Rest.{is_free, let_go, deliver_first, deliver_all, settle, set_order_by, set_order, set_orders, pass, RestsAt}
use Rattle.cast_rules.specs.Run.{after_event, before_event}
use Rattle.cast_rules.specs.Step.{act_of_event}
use Rattle.cast_rules.specs.Endings.{Falls, Moves}
use Rattle.cast_rules.specs.AtRest.{NoneIsFree, lists_some, IsGroupAtRest, RestIsQuiet}
use Rattle.cast_rules.proofs.Totals.{In}
use Rattle.cast_rules.proofs.Listings.{in_kept}
use Rattle.cast_rules.proofs.Settles.{settles_one}
use Rattle.cast_rules.proofs.Setting.{may_set_order, set_order_is}
use Rattle.cast_rules.proofs.Alikes.{Alike, alike_owe}
use Rattle.cast_rules.proofs.Rests.{falls_then, falls_order, falls_led, started_less, decided_less, moves_then, moves_fold}
use Rattle.cast_rules.proofs.Rests.{moves_iterate, moves_settle, moves_set_order_by, moves_set_order, moves_set_orders, moves_go_on}
use Rattle.cast_rules.proofs.Rests.{moves_go_on_all, moves_start, moves_want_bodies, moves_decide, moves_lead_group, moves_lead}
use Rattle.cast_rules.proofs.Rests.{let_go_less, moves_want, moves_wanted, moves_want_own, moves_wanted_own, missing_covered}

-- Lists

all_in : {A : Type 0} (p : A → Bool) (xs : List A) → ((x : A) → In x xs → p x ≡ true) → list_all p xs ≡ true
all_in p [] h = refl
all_in p (x ∷ xs) h = and_from (p x) (list_all p xs) (h x (inl refl)) (all_in p xs (λ y at. h y (inr at)))

none_found : {A : Type 0} (p : A → Bool) (xs : List A) → find p xs ≡ None → list_any p xs ≡ false
none_found p [] e = refl
none_found p (x ∷ xs) e = elim (p x) as (λ b. p x ≡ b → list_any p (x ∷ xs) ≡ false) [
  | true ↦ λ is. absurd (none-some x (sym e ∙ ap (λ b. if b then Some x else find p xs) is))
  | false ↦ λ not. ap (λ b. b || list_any p xs) not ∙ none_found p xs (sym (ap (λ b. if b then Some x else find p xs) not) ∙ e)
] refl

all_kept : {A : Type 0} (p : A → Bool) (xs : List A) → list_all p (filter p xs) ≡ true
all_kept p [] = refl
all_kept p (x ∷ xs) = elim (p x) as (λ b. p x ≡ b → list_all p (if b then x ∷ filter p xs else filter p xs) ≡ true) [
  | true ↦ λ is. and_from (p x) (list_all p (filter p xs)) is (all_kept p xs)
  | false ↦ λ _. all_kept p xs
] refl

pub in_groups : (g : GroupNo) (gs : List GroupNo) → is_among group_eq g gs ≡ true → In g gs
in_groups g [] at = absurd (false≢true at)
in_groups g (x ∷ gs) at = elim (or_cases (group_eq g x) (is_among group_eq g gs) at) [
  | inl same ↦ inl (same_group g x same)
  | inr there ↦ inr (in_groups g gs there)
]

-- A set-order message is sent where there is some to list

all_tests : (m w o e h y : Bool) (q : Placement) →
    ((m && (w && o)) && (is_some (if e && h then Some q else None) && y)) ≡ (m && (w && (o && (e && (h && y)))))
all_tests false w o e h y q = refl
all_tests true false o e h y q = refl
all_tests true true false e h y q = refl
all_tests true true true false h y q = refl
all_tests true true true true false y q = refl
all_tests true true true true true y q = refl

pub may_set_is : (s : State) (g : GroupNo) (k : ℕ) → lists_some s g k ≡ may_set_order s g k
may_set_is s g k =
    all_tests (is_member ((s.process k).standing g)) (not (s.group g).frozen) (may_order history s) (not (is_empty (unlisted_ids s g k)))
    (has_place (order_told s g)) (may_raise (s.process k).time g (local s k)) (places_of s g k)

-- What falls is another state

falls_never : (s t : State) → Falls s t → t ≡ s → ⊥
falls_never s t f same = itself (subst (Falls s) same f)
  where
    itself : Falls s s → ⊥
    itself (inl fewer) = omega (arith, fewer)
    itself (inr (_, inl less)) = omega (arith, less)
    itself (inr (_, inr (_, fewer))) = omega (arith, fewer)

-- where two moves lead back, neither changes anything
still_first : (s t u : State) → Moves s t → Moves t u → u ≡ s → t ≡ s
still_first s t u a b same = elim a.way [
  | inl e ↦ e
  | inr f ↦ elim b.way [
    | inl e ↦ sym e ∙ same
    | inr h ↦ absurd (falls_never s u (falls_then s t u f h) same)
  ]
]

-- and so over a list
still_fold : {X : Type 0} (o : State) (f : State → X → State) (xs : List X) →
    ((x : X) → In x xs → (s : State) → s.used ≡ o.used → s.config ≡ o.config → Moves s (f s x)) → (s : State) → s.used ≡ o.used →
    s.config ≡ o.config → fold f s xs ≡ s → (x : X) → In x xs → f s x ≡ s
still_fold o f [] h s u c same y at = absurd at
still_fold o f (x ∷ xs) h s u c same y at =
    let a : Moves s (f s x) = h x (inl refl) s u c in
    let first : f s x ≡ s =
    still_first s (f s x) (fold f (f s x) xs) a (moves_fold o f xs (λ z there. h z (inr there)) (f s x) (a.used ∙ u) (a.config ∙ c)) same in
    elim at [
      | inl e ↦ subst (λ z. f s z ≡ s) (sym e) first
      | inr there ↦ still_fold o f xs (λ z in_it. h z (inr in_it)) s u c (subst (λ z. fold f z xs ≡ s) first same) y there
    ]

-- The parts of a pass that changes nothing

module _ (s : State) (same : pass s ≡ s) where
  settled : settle s ≡ s
  settled =
      let a : State = settle s in
      let b : State = set_orders a in
      let c : State = go_on_all history resting b in
      still_first s a (pass s) (moves_settle s)
      (moves_then a b (pass s) (moves_set_orders a) (moves_then b c (pass s) (moves_go_on_all b) (moves_lead c))) same

  after_settle : lead history (go_on_all history resting (set_orders s)) ≡ s
  after_settle = subst (λ x. lead history (go_on_all history resting (set_orders x)) ≡ s) settled same

  ordered : set_orders s ≡ s
  ordered =
      let b : State = set_orders s in
      let c : State = go_on_all history resting b in
      still_first s b (lead history c) (moves_set_orders s) (moves_then b c (lead history c) (moves_go_on_all b) (moves_lead c))
      after_settle

  after_orders : lead history (go_on_all history resting s) ≡ s
  after_orders = subst (λ x. lead history (go_on_all history resting x) ≡ s) ordered after_settle

  gone_on : go_on_all history resting s ≡ s
  gone_on =
      let c : State = go_on_all history resting s in
      still_first s c (lead history c) (moves_go_on_all s) (moves_lead c) after_orders

  led : lead history s ≡ s
  led = subst (λ x. lead history x ≡ s) gone_on after_orders

  -- nothing is ready for any process
  nothing_ready : list_all (λ k. not (list_any (is_ready_for s k) s.got)) (serials s) ≡ true
  nothing_ready = all_in (λ k. not (list_any (is_ready_for s k) s.got)) (serials s) (λ k at.
      let still : deliver_all s k ≡ s =
      still_fold s deliver_all (serials s)
      (λ j there t u c. moves_iterate (length t.got) j t (subst (λ n. In j (range_with_len 1 n)) (sym u) there)) s refl refl settled k at in
      let none : find (is_ready_for s k) s.got ≡ None = subst (λ x. find (is_ready_for x k) x.got ≡ None) still (settles_one s k) in
      ap not (none_found (is_ready_for s k) s.got none))

  -- a frame that the rules owe is owed
  owed_still : (key : OwedKey) → owe history s key ≡ s → is_owed s.owed key ≡ true
  owed_still key =
      elim (is_owed s.owed key)
      as (λ b. is_owed s.owed key ≡ b → (if b then s else noting_owed (send_for history s key) key) ≡ s → is_owed s.owed key ≡ true) [
        | true ↦ λ is _. is
        | false ↦ λ _ is.
            subst (λ (x : State). is_owed x.owed key ≡ true)
            is (owing_owes (send_for history s key).owed key (next_due (send_for history s key)))
      ] refl

  module _ (g : GroupNo) (at : In g s.config.groups) where
    -- who holds the token of its view lists nothing more
    still_set : set_order s g ≡ s
    still_set =
        still_fold s set_order s.config.groups (λ h there t u c. moves_set_order t h (subst (λ x. In h x.groups) (sym c) there))
        s refl refl ordered g at

    lists_none : (k : ℕ) → In k (holders s g) → lists_some s g k ≡ false
    lists_none k there = false_from_ne_true (lists_some s g k) (λ lists.
        let may : may_set_order s g k ≡ true = sym (may_set_is s g k) ∙ lists in
        let given : (j : ℕ) → In j (holders s g) → In j (serials s) = λ j among. (in_kept (holds s g) (serials s) j among).1 in
        let by : set_order_by s g k ≡ s =
        still_fold s (λ t j. set_order_by t g j) (holders s g)
        (λ j among t u c. moves_set_order_by t g j (subst (λ x. In g x.groups) (sym c) at)
        (subst (λ n. In j (range_with_len 1 n)) (sym u) (given j among))) s refl refl still_set k there in
        let t : State = let_go (sending s g k (body.Order (places_of s g k))) in
        falls_never s t (falls_order s g k at (given k there) may)
        (sym (ap (λ b. if b then t else s) may) ∙ sym (set_order_is s g k) ∙ by))

    nothing_listed : list_all (λ k. not (lists_some s g k)) (holders s g) ≡ true
    nothing_listed = all_in (λ k. not (lists_some s g k)) (holders s g) (λ k there. ap not (lists_none k there))

    group_goes_on : go_on history resting s g ≡ s
    group_goes_on =
        still_fold s (go_on history resting) s.config.groups (λ h there t u c. moves_go_on t h (subst (λ x. In h x.groups) (sym c) there))
        s refl refl gone_on g at

    waits_on : (p : Pending) → (s.group g).pending ≡ Some p → complete_or_want history resting s g p ≡ s
    waits_on p waits =
        subst (λ o. elim o as (λ _. State) [ Some q ↦ complete_or_want history resting s g q | None ↦ s ] ≡ s) waits group_goes_on

    -- no Install that waits can be completed
    nothing_completed : (p : Pending) → (s.group g).pending ≡ Some p → has_delivered_cut s g p.cut ≡ false
    nothing_completed p waits = false_from_ne_true (has_delivered_cut s g p.cut) (λ cut.
        let t : State = let_go (complete history s g p) in
        let same_as : t ≡ s = sym (ap (λ b. if b then t else fold (want_own history g) s (missing_in s g p.cut)) cut) ∙ waits_on p waits in
        let is : is_pending (s.group g) ≡ true =
        ap (λ (o : Option Pending). elim o as (λ _. Bool) [ Some q ↦ true | None ↦ false ]) waits in
        falls_never s t (inl (let_go_less s g p at is)) same_as)

    -- and what the site lacks of it is wanted
    own_wanted : (p : Pending) → (s.group g).pending ≡ Some p →
        list_all (λ e. is_owed s.owed (own_want_key history s g e)) (missing_in s g p.cut) ≡ true
    own_wanted p waits =
        let es : List Entry = missing_in s g p.cut in
        let none : has_delivered_cut s g p.cut ≡ false = nothing_completed p waits in
        let same_as : fold (want_own history g) s es ≡ s =
        sym (ap (λ b. if b then let_go (complete history s g p) else fold (want_own history g) s es) none) ∙ waits_on p waits in
        all_in (λ e. is_owed s.owed (own_want_key history s g e))
        es (λ e there. owed_still (own_want_key history s g e) (wanted es (missing_covered s g p.cut) same_as e there))
      where
        wanted : (es : List Entry) → ((e : Entry) → In e es → In e (covered_entries p.cut)) → fold (want_own history g) s es ≡ s →
            (e : Entry) → In e es → want_own history g s e ≡ s
        wanted [] among same_as e there = absurd there
        wanted (x ∷ es) among same_as e there =
            let t : State = want_own history g s x in
            let a : Alike s t = alike_owe s (own_want_key history s g x) in
            let rest : Moves t (fold (want_own history g) t es) =
            moves_wanted_own t g p es (subst (λ c. In g c.groups) (sym a.config) at)
            (subst (λ y. (y g).pending ≡ Some p) (sym a.group) waits) (λ v in_it. among v (inr in_it)) in
            let first : t ≡ s =
            still_first s t (fold (want_own history g) t es) (moves_want_own s g p x at waits (among x (inl refl))) rest same_as in
            elim there [
              | inl e_is ↦ subst (λ z. want_own history g s z ≡ s) (sym e_is) first
              | inr later ↦
                  wanted es (λ v in_it. among v (inr in_it)) (subst (λ z. fold (want_own history g) z es ≡ s) first same_as) e later
            ]

    module _ (home : is_home history s ≡ true) where
      group_led : lead_group history s g ≡ s
      group_led =
          let all : fold (lead_group history) s s.config.groups ≡ s =
          sym (ap (λ b. if b then fold (lead_group history) s s.config.groups else s) home) ∙ led in
          still_fold s (lead_group history)
          s.config.groups (λ h there t u c. moves_lead_group t h (subst (λ x. In h x.groups) (sym c) there)) s refl refl all g at

      started : start history s g ≡ s
      started =
          let t : State = start history s g in
          let u : State = want_bodies history t g in
          let a : Moves s t = moves_start s g at in
          let b : Moves t u = moves_want_bodies t g (subst (λ c. In g c.groups) (sym a.config) at) in
          still_first s t (decide history u g)
          a (moves_then t u (decide history u g) b (moves_decide u g (subst (λ c. In g c.groups) (sym (b.config ∙ a.config)) at))) group_led

      after_start : decide history (want_bodies history s g) g ≡ s
      after_start = subst (λ x. decide history (want_bodies history x g) g ≡ s) started group_led

      bodies : want_bodies history s g ≡ s
      bodies =
          let u : State = want_bodies history s g in
          let b : Moves s u = moves_want_bodies s g at in
          still_first s u (decide history u g) b (moves_decide u g (subst (λ c. In g c.groups) (sym b.config) at)) after_start

      none_decided : decide history s g ≡ s
      none_decided = subst (λ x. decide history x g ≡ s) bodies after_start

      nothing_started : may_start (s.home g) ≡ false
      nothing_started = false_from_ne_true (may_start (s.home g)) (λ may.
          let t : State = set_home s g (apply_move Started (s.home g)) in
          let u : State = fold (owe_of_home history Prepare g) t (awaited_of (t.home g).phase) in
          falls_never s u (falls_led s g Started Prepare (awaited_of (t.home g).phase) at (started_less (s.home g) may))
          (sym (ap (λ b. if b then u else s) may) ∙ started))

      nothing_decided : may_decide g (s.home g) ≡ false
      nothing_decided = false_from_ne_true (may_decide g (s.home g)) (λ may.
          let t : State = set_home s g (apply_move Decided (s.home g)) in
          let u : State = fold (owe_of_home history Install g) t (waiting_of (t.home g).phase) in
          falls_never s u (falls_led s g Decided Install (waiting_of (t.home g).phase) at (decided_less g (s.home g) may))
          (sym (ap (λ b. if b then u else s) may) ∙ none_decided))

      home_wanted : list_all (λ w. is_owed s.owed (want_key g w)) (wants history s g) ≡ true
      home_wanted = all_in (λ w. is_owed s.owed (want_key g w)) (wants history s g) (λ w there.
          owed_still (want_key g w) (wanted (wants history s g) (λ v in_it. in_it) bodies w there))
        where
          wanted : (ws : List (SiteNo × Entry)) → ((w : SiteNo × Entry) → In w ws → In w (wants history s g)) →
              fold (want history g) s ws ≡ s → (w : SiteNo × Entry) → In w ws → want history g s w ≡ s
          wanted [] among same_as w there = absurd there
          wanted (x ∷ ws) among same_as w there =
              let t : State = want history g s x in
              let a : Alike s t = alike_owe s (want_key g x) in
              let rest : Moves t (fold (want history g) t ws) =
              moves_wanted t g ws (subst (λ c. In g c.groups) (sym a.config) at)
              (λ v in_it. subst (λ h. In v (wants_in g (h g) (h g).phase)) (sym a.home) (among v (inr in_it))) in
              let first : t ≡ s = still_first s t (fold (want history g) t ws) (moves_want s g x at (among x (inl refl))) rest same_as in
              elim there [
                | inl w_is ↦ subst (λ z. want history g s z ≡ s) (sym w_is) first
                | inr later ↦ wanted ws (λ v in_it. among v (inr in_it)) (subst (λ z. fold (want history g) z ws ≡ s) first same_as) w later
              ]

    group_rests : IsGroupAtRest s g
    group_rests = record {
      listed = nothing_listed;
      waits = nothing_completed;
      wanted = own_wanted;
      started = nothing_started;
      decided = nothing_decided;
      lacked = home_wanted;
    }

-- No kept message is free

none_free_let_go : (s : State) → NoneIsFree (let_go s)
none_free_let_go s = all_kept (λ m. not (is_free s m.id)) s.kept

none_free_owe : (s : State) → NoneIsFree s → (key : OwedKey) → NoneIsFree (owe history s key)
none_free_owe s n key = elim (is_owed s.owed key) as (λ b. NoneIsFree (if b then s else noting_owed (send_for history s key) key)) [
  | true ↦ n
  | false ↦
      elim (frame_for history s key) as (λ o. NoneIsFree (noting_owed (option_map_or (emit s key.site) o s) key)) [ Some f ↦ n | None ↦ n ]
]

none_free_fold : {X : Type 0} (f : State → X → State) → ((s : State) (x : X) → NoneIsFree s → NoneIsFree (f s x)) →
    (xs : List X) (s : State) → NoneIsFree s → NoneIsFree (fold f s xs)
none_free_fold f step [] s n = n
none_free_fold f step (x ∷ xs) s n = none_free_fold f step xs (f s x) (step s x n)

none_free_iterate : (f : State → State) → ((s : State) → NoneIsFree s → NoneIsFree (f s)) → (n : ℕ) (s : State) → NoneIsFree s →
    NoneIsFree (iterate n f s)
none_free_iterate f step zero s n = n
none_free_iterate f step (suc i) s n = none_free_iterate f step i (f s) (step s n)

none_free_first : (k : ℕ) (s : State) → NoneIsFree s → NoneIsFree (deliver_first k s)
none_free_first k s n =
    elim (find (is_ready_for s k) s.got) as (λ o. NoneIsFree (elim o [ Some m ↦ let_go (delivering s k m) | None ↦ s ])) [
      | Some m ↦ none_free_let_go (delivering s k m)
      | None ↦ n
    ]

none_free_set_order_by : (g : GroupNo) (s : State) (k : ℕ) → NoneIsFree s → NoneIsFree (set_order_by s g k)
none_free_set_order_by g s k n = subst NoneIsFree (sym (set_order_is s g k))
    (elim (may_set_order s g k) as (λ b. NoneIsFree (if b then let_go (sending s g k (body.Order (places_of s g k))) else s)) [
      | true ↦ none_free_let_go (sending s g k (body.Order (places_of s g k)))
      | false ↦ n
    ])

none_free_set_order : (s : State) (g : GroupNo) → NoneIsFree s → NoneIsFree (set_order s g)
none_free_set_order s g n = none_free_fold (λ t k. set_order_by t g k) (none_free_set_order_by g) (holders s g) s n

none_free_go_on : (s : State) (g : GroupNo) → NoneIsFree s → NoneIsFree (go_on history resting s g)
none_free_go_on s g n =
    elim (s.group g).pending as (λ o. NoneIsFree (elim o [ Some p ↦ complete_or_want history resting s g p | None ↦ s ])) [
      | Some p ↦
          elim (has_delivered_cut s g p.cut)
          as (λ b. NoneIsFree (if b then let_go (complete history s g p) else fold (want_own history g) s (missing_in s g p.cut))) [
            | true ↦ none_free_let_go (complete history s g p)
            | false ↦
                none_free_fold (want_own history g) (λ t e m. none_free_owe t m (own_want_key history t g e)) (missing_in s g p.cut) s n
          ]
      | None ↦ n
    ]

none_free_home : (kind : OwedKind) (g : GroupNo) (sites : List SiteNo) (s : State) → NoneIsFree s →
    NoneIsFree (fold (owe_of_home history kind g) s sites)
none_free_home kind g sites s n = none_free_fold (owe_of_home history kind g) (λ t to m. none_free_owe t m (home_key kind g to)) sites s n

none_free_if : (b : Bool) (s t : State) → NoneIsFree s → NoneIsFree t → NoneIsFree (if b then s else t)
none_free_if true s t n m = n
none_free_if false s t n m = m

none_free_lead_group : (s : State) (g : GroupNo) → NoneIsFree s → NoneIsFree (lead_group history s g)
none_free_lead_group s g n =
    let t : State = start history s g in
    let u : State = want_bodies history t g in
    let a : NoneIsFree t =
    none_free_if (may_start (s.home g)) _ s (none_free_home Prepare g
    (awaited_of ((set_home s g (apply_move Started (s.home g))).home g).phase) (set_home s g (apply_move Started (s.home g))) n) n in
    let b : NoneIsFree u = none_free_fold (want history g) (λ x w m. none_free_owe x m (want_key g w)) (wants history t g) t a in
    none_free_if (may_decide g (u.home g)) _ u (none_free_home Install g
    (waiting_of ((set_home u g (apply_move Decided (u.home g))).home g).phase) (set_home u g (apply_move Decided (u.home g))) b) b

none_free_pass : (s : State) → NoneIsFree s → NoneIsFree (pass s)
none_free_pass s n =
    let a : State = settle s in
    let b : State = set_orders a in
    let c : State = go_on_all history resting b in
    let first : NoneIsFree a =
    none_free_fold deliver_all (λ t k m. none_free_iterate (deliver_first k) (none_free_first k) (length t.got) t m) (serials s) s n in
    let second : NoneIsFree b = none_free_fold set_order none_free_set_order a.config.groups a first in
    let third : NoneIsFree c = none_free_fold (go_on history resting) none_free_go_on b.config.groups b second in
    none_free_if (is_home history c) (fold (lead_group history) c c.config.groups)
    c (none_free_fold (lead_group history) none_free_lead_group c.config.groups c third) third

none_free_rests : (s t : State) → RestsAt s t → NoneIsFree s → NoneIsFree t
none_free_rests s t (n, leads, rest) none = subst NoneIsFree leads (none_free_iterate pass none_free_pass n s none)

pub rest_is_quiet : RestIsQuiet
rest_is_quiet s e answer t step =
    let still : pass t ≡ t = step.rests.2 in
    record {
      free = none_free_rests (after_event s e) t step.rests (none_free_let_go (act_of_event (before_event s) e));
      ready = nothing_ready t still;
      groups = λ g listed. group_rests t still g (in_groups g t.config.groups listed);
    }
