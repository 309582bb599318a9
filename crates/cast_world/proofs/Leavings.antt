-- A process that leaves all its groups is outside each, and leaves sessions and entries as they are.
use Rattle.std.proofs.Common.{ap, arith, inl, inr, subst, sym, ◌∙◌}
use Rattle.std.proofs.lemmas.Bool.{eq-eqb}
use Rattle.std.specs.List.{fold}
use Rattle.std.specs.Option.{option_and_then, option_map, option_map_or}
use Rattle.std.specs.Prelude.{◌++◌, ◌==◌, Bool, Contains, List, None, Option, Some, [], false, if◌then◌else◌, refl, true, ℕ, ◌∷◌, ◌≡◌}
use Rattle.cast_ready.specs.Ready.{Process, is_outside}
use Rattle.cast_rules.specs.History.{history}
use Rattle.cast_rules.specs.Owing.{noting_owed}
use Rattle.cast_rules.specs.Rules.Asking.{ask_home, request}
use Rattle.cast_rules.specs.Rules.Keys.{ask_key}
use Rattle.cast_rules.specs.Rules.Leaving.{Attempt, close_session, leave_all, leave_each}
use Rattle.cast_rules.specs.Rules.Owing.{ask_frame, frame_of_kind, owe}
use Rattle.cast_rules.specs.State.{State, going, is_filled, is_group, local, outside, set_group, set_session, with_push}
use Rattle.cast_message.specs.declared.client.Push.{Push}
use Rattle.cast_message.specs.declared.site.Change.TheVariants as change
use Rattle.cast_events.specs.Session.{Session, is_open, no_session, tell_end}
use Rattle.cast_timer.specs.Owed.{is_owed}
use Rattle.cast_types.specs.Names.{group_eq}
use Rattle.cast_types.specs.Sets.{set_at}
use Rattle.cast_types.specs.declared.limits.TheConstants.{MAX_NUMBER}
use Rattle.cast_types.specs.declared.names.GroupNo.{GroupNo}
use Rattle.cast_types.specs.declared.names.SiteNo.{SiteNo}
use Rattle.cast_types.specs.declared.names.Standing.{Standing}
use Rattle.cast_types.specs.declared.names.Standing.TheVariants.{Outside}
use Rattle.cast_types.specs.declared.refusal.Refusal.{Refusal}
use Rattle.cast_types.specs.declared.refusal.Refusal.TheVariants.{NotMember, Slow}
use Rattle.cast_view.specs.Home.{is_empty}
use Rattle.cast_view.specs.MemberSide.{first_asking, with_request}
use Rattle.cast_view.specs.declared.member.PendingRequest.{PendingRequest}
use Rattle.cast_world.proofs.Acts.{contains_cons}
use Rattle.cast_world.proofs.Keeps.{keeps_fold}
use Rattle.cast_world.proofs.Kept.{Any, KeptByOwing}
use Rattle.cast_world.proofs.Laters.{set_all}
use Rattle.cast_world.proofs.Steps.{group_among}
use Rattle.cast_world.proofs.Telling.{asked_keeps, leave_at_keeps, outcome}
use Rattle.cast_message.specs.declared.client.Push.TheVariants as push
use Rattle.cast_timer.specs.declared.key.OwedKind.TheVariants as kinds

-- the same state with these sessions and entries
abbrev pub told_so : State → (ℕ → Session) → List (ℕ × Push) → State
told_so s session pushes = record s { session = session; pushes = pushes }

-- What leaving is made of, with its tests apart

abbrev with_leave : State → ℕ → GroupNo → State
with_leave s k g = set_group s g (with_request (s.group g) change.Leave (local s k))

abbrev left_now : State → ℕ → GroupNo → Bool → Bool → Attempt State
left_now s k g out last =
    if out then (s, Some NotMember)
    else (if last then outside s k g else request history (outside s k g) g change.Leave (local s k), None)

-- Leaving reads neither sessions nor entries

module _ (session : ℕ → Session) (pushes : List (ℕ × Push)) where
  abbrev so : State → State
  so s = told_so s session pushes

  sent_so : (s : State) (g : GroupNo) (to : SiteNo) (o : Option PendingRequest) →
      option_map_or (history.send (so s) to) (option_map (ask_frame g) o) (so s)
      ≡ so (option_map_or (history.send s to) (option_map (ask_frame g) o) s)
  sent_so s g to (Some a) = refl
  sent_so s g to None = refl

  abbrev owed_now : State → GroupNo → SiteNo → Bool → Bool → State
  owed_now s g to owed known =
      if owed then s
      else noting_owed (option_map_or (history.send s to)
      (option_and_then (λ h. frame_of_kind history s h (ask_key g to) kinds.Ask) (if known then Some g else None)) s) (ask_key g to)

  owe_ask : (s : State) (g : GroupNo) (to : SiteNo) → owe history (so s) (ask_key g to) ≡ so (owe history s (ask_key g to))
  owe_ask s g to = go (is_owed s.owed (ask_key g to)) (is_group s g)
    where
      go : (owed known : Bool) → owed_now (so s) g to owed known ≡ so (owed_now s g to owed known)
      go true known = refl
      go false true = ap (λ u. noting_owed u (ask_key g to)) (sent_so s g to (first_asking (s.group g).requests))
      go false false = refl

  ask_so : (s : State) (g : GroupNo) → ask_home history (so s) g ≡ so (ask_home history s g)
  ask_so s g = go (is_empty (s.group g).requests)
    where
      go : (b : Bool) → (if b then so s else owe history (so s) (ask_key g s.config.home))
          ≡ so (if b then s else owe history s (ask_key g s.config.home))
      go true = refl
      go false = owe_ask s g s.config.home

  request_so : (s : State) (g : GroupNo) (k : ℕ) →
      request history (so s) g change.Leave (local s k) ≡ so (request history s g change.Leave (local s k))
  request_so s g k = go (is_empty (s.group g).requests)
    where
      go : (b : Bool) → (if b then ask_home history (with_leave (so s) k g) g else with_leave (so s) k g)
          ≡ so (if b then ask_home history (with_leave s k g) g else with_leave s k g)
      go true = ask_so (with_leave s k g) g
      go false = refl

  leave_so : (k : ℕ) (s : State) (g : GroupNo) → leave_each history k (so s) g ≡ so (leave_each history k s g)
  leave_so k s g = go (is_outside ((s.process k).standing g)) ((s.group g).asked == MAX_NUMBER)
    where
      go : (out last : Bool) → outcome (left_now (so s) k g out last) ≡ so (outcome (left_now s k g out last))
      go true last = refl
      go false true = refl
      go false false = request_so (outside s k g) g k

  leave_groups_so : (k : ℕ) (groups : List GroupNo) (s : State) →
      fold (leave_each history k) (so s) groups ≡ so (fold (leave_each history k) s groups)
  leave_groups_so k [] s = refl
  leave_groups_so k (g ∷ groups) s =
      ap (λ u. fold (leave_each history k) u groups) (leave_so k s g) ∙ leave_groups_so k groups (leave_each history k s g)

  leave_all_so : (k : ℕ) (s : State) → leave_all history (so s) k ≡ so (leave_all history s k)
  leave_all_so k s = leave_groups_so k s.config.groups s

-- so they stay
pub left_same : (s : State) (k : ℕ) → leave_all history s k ≡ told_so (leave_all history s k) s.session s.pushes
left_same s k = leave_all_so s.session s.pushes k s

-- a session that is closed may as well be closed last
abbrev pub why_closed : State → ℕ → Refusal → Refusal
why_closed s k refusal = if is_filled s k then Slow else refusal

pub closed_last : (s : State) (k : ℕ) (refusal : Refusal) → is_open (s.session k) ≡ true →
    close_session history s k refusal
    ≡ with_push (leave_all history s k) k (tell_end (why_closed s k refusal) (s.session k)) (push.Closed (why_closed s k refusal))
closed_last s k refusal open_it =
    let why : Refusal = why_closed s k refusal in
    let now : ℕ → Session = set_at (λ a b. a == b) s.session k (tell_end why (s.session k)) in
    let more : List (ℕ × Push) = s.pushes ++ (k, push.Closed why) ∷ [] in
    ap (λ b. leave_all history (if b then told_so s now more else s) k) open_it
    ∙ leave_all_so now more k s
    ∙ (λ i. told_so (leave_all history s k)
    (set_at (λ a b. a == b) (sym (left_same s k) i).session k (tell_end why (s.session k)))
    ((sym (left_same s k) i).pushes ++ (k, push.Closed why) ∷ []))

-- and one that is gone may go last
pub gone_last : (s : State) (k : ℕ) → leave_all history (going s k) k ≡ set_session (leave_all history s k) k no_session
gone_last s k =
    leave_all_so (set_at (λ a b. a == b) s.session k no_session) s.pushes k s
    ∙ (λ i. told_so (leave_all history s k)
    (set_at (λ a b. a == b) (sym (left_same s k) i).session k no_session) (sym (left_same s k) i).pushes)

-- Who has left all groups is outside each that is configured

-- a process is outside these groups
abbrev OutsideOf : ℕ → List GroupNo → State → Type 0
OutsideOf k groups s = (g : GroupNo) → Contains groups g → is_outside ((s.process k).standing g) ≡ true

-- and stays so
outside_owing : (k : ℕ) (groups : List GroupNo) → KeptByOwing Any (OutsideOf k groups)
outside_owing k groups = record {
  emits = λ t to f i says adds draws. i;
  books = λ t moment casts i. i;
  owes = λ t key due i owes wants lacks awaited. i;
  renews = λ t key due i owes owed. i;
  pays = λ t test i. i;
  releases = λ t passes i. i;
  parts = λ t j h i. set_all (λ n (p : Process). n ≡ k → (g : GroupNo) → Contains groups g → is_outside (p.standing g) ≡ true)
      t.process j (record (t.process j) { standing = set_at group_eq (t.process j).standing h Outside })
      (λ n same g at. ap (λ x. is_outside ((t.process x).standing g)) same ∙ i g at)
      (λ same g at. still (group_eq h g) ((t.process j).standing g) (ap (λ x. is_outside ((t.process x).standing g)) same ∙ i g at))
      k refl;
  requests = λ t g what p i inside. i;
}
  where
    still : (b : Bool) (x : Standing) → is_outside x ≡ true → is_outside (if b then Outside else x) ≡ true
    still true x e = refl
    still false x e = e

-- who leaves one group is outside it
leaves_one : (k : ℕ) (s : State) (g : GroupNo) → is_outside (((leave_each history k s g).process k).standing g) ≡ true
leaves_one k s g = go (is_outside ((s.process k).standing g)) refl ((s.group g).asked == MAX_NUMBER)
  where
    here : OutsideOf k (g ∷ []) (outside s k g)
    here h at = elim (contains_cons g [] h at) [
      | inl same ↦
          ap is_outside (ap (λ (p : Process). p.standing h)
          (ap (λ b. if b then record (s.process k) { standing = set_at group_eq (s.process k).standing g Outside } else s.process k)
          (eq-eqb k k refl))
          ∙ ap (λ b. if b then Outside else (s.process k).standing h) (eq-eqb g.0 h.0 (ap (λ (x : GroupNo). x.0) same)))
      | inr none ↦ absurd (omega (arith, none.1))
    ]

    go : (b : Bool) → is_outside ((s.process k).standing g) ≡ b → (last : Bool) →
        is_outside (((outcome (left_now s k g b last)).process k).standing g) ≡ true
    go true e last = e
    go false e true = here g (0, omega arith, refl)
    go false e false =
        asked_keeps (OutsideOf k (g ∷ [])) (outside_owing k (g ∷ [])) (outside s k g) g change.Leave (local s k) here g
        (0, omega arith, refl)

leaves_groups : (k : ℕ) (groups : List GroupNo) (s : State) → OutsideOf k groups (fold (leave_each history k) s groups)
leaves_groups k [] s g at = absurd (omega (arith, at.1))
leaves_groups k (h ∷ groups) s g at = elim (contains_cons h groups g at) [
  | inl same ↦
      let i : OutsideOf k (h ∷ []) (leave_each history k s h) =
      λ x there. elim (contains_cons h [] x there) [
        | inl is ↦ subst (λ y. is_outside (((leave_each history k s h).process k).standing y) ≡ true) is (leaves_one k s h)
        | inr none ↦ absurd (omega (arith, none.1))
      ] in
      keeps_fold (OutsideOf k (h ∷ [])) (leave_each history k)
      (λ t x j. leave_at_keeps (OutsideOf k (h ∷ [])) (outside_owing k (h ∷ [])) t k x j) groups (leave_each history k s h) i g
      (0, omega arith, same)
  | inr later ↦ leaves_groups k groups (leave_each history k s h) g later
]

pub leaves_all : (k : ℕ) (s : State) (g : GroupNo) → is_group s g ≡ true →
    is_outside (((leave_all history s k).process k).standing g) ≡ true
leaves_all k s g known = leaves_groups k s.config.groups s g (group_among s.config.groups g known)
