-- What has nothing left to be done stays as it is.
use Rattle.std.proofs.Common.{◌≡◌, ℕ, zero, suc, Bool, true, false, not, List, [], ◌∷◌}
use Rattle.std.proofs.Common.{length, Option, Some, None, refl, sym, ap, subst, ◌∙◌, inl, inr}
use Rattle.std.specs.Prelude.{◌&&◌, ◌||◌, if◌then◌else◌}
use Rattle.std.specs.List.{fold, find, list_all, list_any}
use Rattle.std.proofs.lemmas.Bool.{and_parts, or_left, or_right, not-true, false≢true}
use Rattle.cast_types.specs.declared.names.GroupNo.{GroupNo}
use Rattle.cast_types.specs.Names.{group_eq}
use Rattle.cast_types.specs.Sets.{is_among}
use Rattle.cast_types.specs.Repeat.{iterate}
use Rattle.cast_types.proofs.Orders.{group_itself}
use Rattle.cast_message.specs.declared.message.Body.TheVariants as body
use Rattle.cast_timer.specs.declared.key.OwedKey.{OwedKey}
use Rattle.cast_timer.specs.declared.key.OwedKind.TheVariants.{Prepare, Install}
use Rattle.cast_timer.specs.Owed.{is_owed}
use Rattle.cast_view.specs.declared.member.Pending.{Pending}
use Rattle.cast_view.specs.Home.{HomeMove, may_start, may_decide, awaited_of, waiting_of, apply_move}
use Rattle.cast_view.specs.Home.HomeMove.{Started, Decided}
use Rattle.cast_rules.specs.State.{State, serials, set_home}
use Rattle.cast_rules.specs.Order.{holders}
use Rattle.cast_rules.specs.Turns.{is_ready_for}
use Rattle.cast_rules.specs.Reports.{has_delivered_cut, missing_in}
use Rattle.cast_rules.specs.History.{history}
use Rattle.cast_rules.specs.Resting.{resting, places_of}
use Rattle.cast_rules.specs.Effects.{delivering, sending}
use Rattle.cast_rules.specs.Rules.Owing.{send_for, owe}
use Rattle.cast_rules.specs.Owing.{noting_owed}
use Rattle.cast_rules.specs.Rules.Asking.{is_home}
use Rattle.cast_rules.specs.Rules.Keys.{want_key}
use Rattle.cast_rules.specs.Rules.Home.{owe_of_home, start, wants, want, want_bodies, decide, lead_group, lead}
use Rattle.cast_rules.specs.Rules.Flushes.{own_want_key, complete, want_own, complete_or_want, go_on, go_on_all}
use Rattle.cast_rules.specs.Rest.{is_free, let_go, deliver_first, deliver_all, settle, set_order_by, set_order, set_orders}
use Rattle.cast_rules.specs.AtRest.{lists_some, IsGroupAtRest, is_group_at_rest, QuietStays, RestIsComputed}
use Rattle.cast_rules.proofs.Totals.{In}
use Rattle.cast_rules.proofs.Setting.{set_order_is}
use Rattle.cast_rules.proofs.Quiet.{may_set_is, in_groups}

-- Lists

still_over : {X : Type 0} (f : State → X → State) (xs : List X) (s : State) → ((x : X) → In x xs → f s x ≡ s) → fold f s xs ≡ s
still_over f [] s h = refl
still_over f (x ∷ xs) s h = subst (λ z. fold f z xs ≡ s) (sym (h x (inl refl))) (still_over f xs s (λ y at. h y (inr at)))

still_again : (f : State → State) (n : ℕ) (s : State) → f s ≡ s → iterate n f s ≡ s
still_again f zero s e = refl
still_again f (suc n) s e = subst (λ z. iterate n f z ≡ s) (sym e) (still_again f n s e)

pub in_all : {A : Type 0} (p : A → Bool) (xs : List A) → list_all p xs ≡ true → (x : A) → In x xs → p x ≡ true
in_all p [] all x at = absurd at
in_all p (y ∷ xs) all x at =
    let parts = and_parts (p y) (list_all p xs) all in
    elim at [
      | inl is ↦ subst (λ z. p z ≡ true) (sym is) parts.0
      | inr there ↦ in_all p xs parts.1 x there
    ]

not_any : {A : Type 0} (p : A → Bool) (xs : List A) → not (list_any p xs) ≡ true → find p xs ≡ None
not_any p [] e = refl
not_any p (x ∷ xs) e = elim (p x) as (λ b. not (b || list_any p xs) ≡ true → (if b then Some x else find p xs) ≡ None) [
  | true ↦ λ never. absurd (false≢true never)
  | false ↦ λ later. not_any p xs later
] e

among_groups : (g : GroupNo) (gs : List GroupNo) → In g gs → is_among group_eq g gs ≡ true
among_groups g [] at = absurd at
among_groups g (x ∷ gs) (inl is) = or_left (group_eq g x) (is_among group_eq g gs) (subst (λ z. group_eq g z ≡ true) is (group_itself g))
among_groups g (x ∷ gs) (inr there) = or_right (group_eq g x) (is_among group_eq g gs) (among_groups g gs there)

-- The parts of a pass

-- what is owed is not owed again
owed_stays : (s : State) (key : OwedKey) → is_owed s.owed key ≡ true → owe history s key ≡ s
owed_stays s key is = ap (λ b. if b then s else noting_owed (send_for history s key) key) is

none_delivered : (s : State) (k : ℕ) → not (list_any (is_ready_for s k) s.got) ≡ true → deliver_all s k ≡ s
none_delivered s k none =
    still_again (deliver_first k) (length s.got) s
    (ap (λ o. elim o as (λ _. State) [ Some m ↦ let_go (delivering s k m) | None ↦ s ]) (not_any (is_ready_for s k) s.got none))

module _ (s : State) (g : GroupNo) (rests : IsGroupAtRest s g) where
  none_listed : set_order s g ≡ s
  none_listed = still_over (λ t k. set_order_by t g k) (holders s g) s (λ k there.
      let t : State = let_go (sending s g k (body.Order (places_of s g k))) in
      set_order_is s g k ∙ ap (λ b. if b then t else s)
      (sym (may_set_is s g k) ∙ not-true (lists_some s g k) (in_all (λ j. not (lists_some s g j)) (holders s g) rests.listed k there)))

  none_completed : go_on history resting s g ≡ s
  none_completed =
      elim (s.group g).pending
      as (λ o. (s.group g).pending ≡ o → elim o as (λ _. State) [ Some p ↦ complete_or_want history resting s g p | None ↦ s ] ≡ s) [
        | Some p ↦ λ is.
            ap (λ b. if b then let_go (complete history s g p) else fold (want_own history g) s (missing_in s g p.cut)) (rests.waits p is)
            ∙ still_over (want_own history g) (missing_in s g p.cut) s (λ e at.
            owed_stays s (own_want_key history s g e)
            (in_all (λ x. is_owed s.owed (own_want_key history s g x)) (missing_in s g p.cut) (rests.wanted p is) e at))
        | None ↦ λ _. refl
      ] refl

  none_led : is_home history s ≡ true → lead_group history s g ≡ s
  none_led home =
      let moved_on : HomeMove → State = λ move. set_home s g (apply_move move (s.home g)) in
      let first : start history s g ≡ s =
      ap (λ b. if b then fold (owe_of_home history Prepare g) (moved_on Started) (awaited_of ((moved_on Started).home g).phase) else s)
      (rests.started home) in
      let second : want_bodies history s g ≡ s =
      still_over (want history g) (wants history s g) s (λ w at.
      owed_stays s (want_key g w) (in_all (λ x. is_owed s.owed (want_key g x)) (wants history s g) (rests.lacked home) w at)) in
      let third : decide history s g ≡ s =
      ap (λ b. if b then fold (owe_of_home history Install g) (moved_on Decided) (waiting_of ((moved_on Decided).home g).phase) else s)
      (rests.decided home) in
      ap (λ x. decide history (want_bodies history x g) g) first ∙ ap (λ x. decide history x g) second ∙ third

-- A pass changes nothing
pub quiet_stays : QuietStays
quiet_stays s rests =
    let each : (g : GroupNo) → In g s.config.groups → IsGroupAtRest s g = λ g at. rests.groups g (among_groups g s.config.groups at) in
    let first : settle s ≡ s =
    still_over deliver_all (serials s)
    s (λ k at. none_delivered s k (in_all (λ j. not (list_any (is_ready_for s j) s.got)) (serials s) rests.ready k at)) in
    let second : set_orders s ≡ s = still_over set_order s.config.groups s (λ g at. none_listed s g (each g at)) in
    let third : go_on_all history resting s ≡ s =
    still_over (go_on history resting) s.config.groups s (λ g at. none_completed s g (each g at)) in
    let fourth : lead history s ≡ s =
    elim (is_home history s) as (λ b. is_home history s ≡ b → (if b then fold (lead_group history) s s.config.groups else s) ≡ s) [
      | true ↦ λ home. still_over (lead_group history) s.config.groups s (λ g at. none_led s g (each g at) home)
      | false ↦ λ _. refl
    ] refl in
    ap (λ x. lead history (go_on_all history resting (set_orders x))) first
    ∙ ap (λ x. lead history (go_on_all history resting x)) second
    ∙ ap (lead history) third
    ∙ fourth

-- What is computed

of_home : (home started decided lacked : Bool) → (not home || (not started && (not decided && lacked))) ≡ true → home ≡ true →
    (started ≡ false) × (decided ≡ false) × (lacked ≡ true)
of_home false started decided lacked all home = absurd (false≢true home)
of_home true true decided lacked all home = absurd (false≢true all)
of_home true false true lacked all home = absurd (false≢true all)
of_home true false false lacked all home = (refl, refl, all)

group_computed : (s : State) (g : GroupNo) → is_group_at_rest s g ≡ true → IsGroupAtRest s g
group_computed s g is =
    let waiting : Option Pending → Bool =
    λ o. elim o [
      | Some p ↦ not (has_delivered_cut s g p.cut) && list_all (λ e. is_owed s.owed (own_want_key history s g e)) (missing_in s g p.cut)
      | None ↦ true
    ] in
    let a = and_parts (list_all (λ k. not (lists_some s g k)) (holders s g)) _ is in
    let b = and_parts (waiting (s.group g).pending) _ a.1 in
    let pending : (p : Pending) → (s.group g).pending ≡ Some p → waiting (Some p) ≡ true = λ p at. sym (ap waiting at) ∙ b.0 in
    let parts : (p : Pending) → (s.group g).pending ≡ Some p → (not (has_delivered_cut s g p.cut) ≡ true)
    × (list_all (λ e. is_owed s.owed (own_want_key history s g e)) (missing_in s g p.cut) ≡ true) =
    λ p at. and_parts (not (has_delivered_cut s g p.cut)) _ (pending p at) in
    let led : is_home history s ≡ true → (may_start (s.home g) ≡ false)
    × (may_decide g (s.home g) ≡ false)
    × (list_all (λ w. is_owed s.owed (want_key g w)) (wants history s g) ≡ true) =
    of_home (is_home history s) (may_start (s.home g)) (may_decide g (s.home g))
    (list_all (λ w. is_owed s.owed (want_key g w)) (wants history s g)) b.1 in
    record {
      listed = a.0;
      waits = λ p at. not-true (has_delivered_cut s g p.cut) (parts p at).0;
      wanted = λ p at. (parts p at).1;
      started = λ home. (led home).0;
      decided = λ home. (led home).1;
      lacked = λ home. (led home).2;
    }

pub computed_rest : RestIsComputed
computed_rest s is =
    let a = and_parts (list_all (λ m. not (is_free s m.id)) s.kept) _ is in
    let b = and_parts (list_all (λ k. not (list_any (is_ready_for s k) s.got)) (serials s)) _ a.1 in
    record {
      free = a.0;
      ready = b.0;
      groups = λ g listed. group_computed s g (in_all (is_group_at_rest s) s.config.groups b.1 g (in_groups g s.config.groups listed));
    }
