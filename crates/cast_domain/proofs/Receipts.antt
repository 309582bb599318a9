-- What a history says of receipts, as a group of it changes.
use Rattle.std.proofs.Common.{◌≡◌, ◌<◌, ◌≤◌, true, false, ◌&&◌, ◌||◌, List, refl, sym, ap, subst, ◌∙◌, inl, inr, arith}
use Rattle.std.specs.Prelude.{◌==◌, nat_lt, if◌then◌else◌}
use Rattle.std.proofs.lemmas.Bool.{cases_Bool, and_parts, and_from, or_cases, or_left, or_right}
use Rattle.std.proofs.lemmas.Bool.{eqb-true, eq-eqb, ltb-true, lt-ltb, false_from_ne_true}
use Rattle.cast_types.specs.declared.names.SiteNo.{SiteNo}
use Rattle.cast_types.specs.declared.names.GroupNo.{GroupNo}
use Rattle.cast_types.specs.declared.source.Source.{Source}
use Rattle.cast_types.specs.Names.{site_eq, group_eq, proc_eq}
use Rattle.cast_types.specs.Sets.{is_among, set_at}
use Rattle.cast_types.specs.Sources.{is_ended}
use Rattle.cast_types.proofs.Orders.{same_group, group_itself}
use Rattle.cast_view.specs.MemberSide.{MemberSide, no_group, members_of}
use Rattle.cast_view.specs.Sites.{other_sites}
use Rattle.cast_rules.specs.State.{State, set_group, others_of, may_speak}
use Rattle.cast_domain.specs.Fits.{is_live, past_of}

-- what holds of a group holds after a change that leaves it
pub group_same : {A : Type 0} (f : MemberSide → A) (s : State) (g : GroupNo) (v : MemberSide) → f v ≡ f (s.group g) → (h : GroupNo) →
    f ((set_group s g v).group h) ≡ f (s.group h)
group_same f s g v same h = elim (cases_Bool (group_eq g h)) [
  | inl here ↦ ap (λ b. f (if b then v else s.group h)) here ∙ same ∙ ap (λ k. f (s.group k)) (same_group g h here)
  | inr other ↦ ap (λ b. f (if b then v else s.group h)) other
]

-- what is of the group's view, of a process that may speak, is of a live source
pub live_now : (s : State) (x : Source) → (s.group x.group).number ≡ x.view → may_speak s x.group x.process ≡ true → is_live s x ≡ true
live_now s x same may =
    or_right (nat_lt (s.group x.group).number x.view) (((s.group x.group).number == x.view) && may_speak s x.group x.process)
    (and_from ((s.group x.group).number == x.view) (may_speak s x.group x.process) (eq-eqb (s.group x.group).number x.view same) may)

-- the other sites of a group's view, as they are told
pub others_told : (s : State) (g : GroupNo) (v : MemberSide) →
    set_at group_eq (others_of s) g (other_sites s.here (members_of v)) ≡ others_of (set_group s g v)
others_told s g v = λ i h. at_group h i
  where
    at_group : (h : GroupNo) → set_at group_eq (others_of s) g (other_sites s.here (members_of v)) h ≡ others_of (set_group s g v) h
    at_group h =
        elim (group_eq g h)
        as (λ b. ◌≡◌ {A = List SiteNo} (if b then other_sites s.here (members_of v) else other_sites s.here (members_of (s.group h)))
        (other_sites s.here (members_of (if b then v else s.group h)))) [ true ↦ refl | false ↦ refl ]

same_members : (v w : MemberSide) → v.view ≡ w.view → members_of v ≡ members_of w
same_members v w same = λ i. members_of (record no_group { view = same i })

others_same : (s : State) (g : GroupNo) (v : MemberSide) → v.view ≡ (s.group g).view → others_of s ≡ others_of (set_group s g v)
others_same s g v same = λ i h. other_sites s.here (at_group h i)
  where
    at_group : (h : GroupNo) → members_of (s.group h) ≡ members_of ((set_group s g v).group h)
    at_group h = elim (cases_Bool (group_eq g h)) [
      | inl here ↦
          ap (λ k. members_of (s.group k)) (sym (same_group g h here))
          ∙ sym (same_members v (s.group g) same)
          ∙ ap (λ b. members_of (if b then v else s.group h)) (sym here)
      | inr other ↦ ap (λ b. members_of (if b then v else s.group h)) (sym other)
    ]

-- what a history says of receipts stays where a group keeps its number and its view
pub past_same : (s : State) (g : GroupNo) (v : MemberSide) → v.number ≡ (s.group g).number → v.view ≡ (s.group g).view →
    past_of s ≡ past_of (set_group s g v)
past_same s g v number view =
    let others = others_same s g v view in
    let views = group_same (λ x. x.view) s g v view in
    let numbers = group_same (λ x. x.number) s g v number in
    λ i. record (past_of s) {
      others = others i;
      is_live = λ x. nat_lt (sym (numbers x.group) i) x.view
          || ((sym (numbers x.group) i == x.view)
          && (is_among proc_eq x.process (members_of (record no_group { view = sym (views x.group) i })) || site_eq x.process.site s.here));
    }

-- a source of a group that is live in a view of it is of that view or a later one
reached : (s : State) (g : GroupNo) (v : MemberSide) (x : Source) → group_eq g x.group ≡ true → is_live (set_group s g v) x ≡ true →
    v.number ≤ x.view
reached s g v x here live =
    let now : (nat_lt v.number x.view || ((v.number == x.view) && may_speak (set_group s g v) x.group x.process)) ≡ true =
    subst (λ b. (nat_lt (if b then v else s.group x.group).number x.view
    || (((if b then v else s.group x.group).number == x.view) && may_speak (set_group s g v) x.group x.process)) ≡ true) here live in
    elim (or_cases (nat_lt v.number x.view) ((v.number == x.view) && may_speak (set_group s g v) x.group x.process) now) [
      | inl later ↦ let up = ltb-true v.number x.view later in omega (arith, up)
      | inr this ↦
          let same = eqb-true v.number x.view (and_parts (v.number == x.view) (may_speak (set_group s g v) x.group x.process) this).0 in
          omega (arith, same)
    ]

-- a source that is live in a later view of a group was live before
was_live : (s : State) (g : GroupNo) (v : MemberSide) → (s.group g).number < v.number → (x : Source) → is_live (set_group s g v) x ≡ true →
    is_live s x ≡ true
was_live s g v newer x live = elim (cases_Bool (group_eq g x.group)) [
  | inl here ↦
      let before : (s.group x.group).number < v.number = subst (λ h. (s.group h).number < v.number) (same_group g x.group here) newer in
      let up = reached s g v x here live in
      or_left (nat_lt (s.group x.group).number x.view) (((s.group x.group).number == x.view) && may_speak s x.group x.process)
      (lt-ltb (s.group x.group).number x.view (omega (arith, before, up)))
  | inr other ↦
      subst (λ b. (nat_lt (if b then v else s.group x.group).number x.view || (((if b then v else s.group x.group).number == x.view)
      && (is_among proc_eq x.process (members_of (if b then v else s.group x.group)) || site_eq x.process.site s.here))) ≡ true) other live
]

-- and it is of no view before that one
pub live_and_stands : (s : State) (g : GroupNo) (v : MemberSide) → (s.group g).number < v.number → (x : Source) →
    is_live (set_group s g v) x ≡ true → (is_live s x ≡ true) × (is_ended g v.number x ≡ false)
live_and_stands s g v newer x live = (
  was_live s g v newer x live,
  false_from_ne_true (is_ended g v.number x) (λ over.
      let parts = and_parts (group_eq x.group g) (nat_lt x.view v.number) over in
      let here : group_eq g x.group ≡ true = ap (λ h. group_eq g h) (same_group x.group g parts.0) ∙ group_itself g in
      let below = ltb-true x.view v.number parts.1 in
      let up = reached s g v x here live in
      absurd (omega (arith, below, up))),
)
