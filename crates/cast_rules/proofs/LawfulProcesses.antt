-- What holds of each history that events lead to is kept where one process changes.
-- `lawful_process` says so of a process that becomes a member of no group, and delivered what it
-- delivered; `lawful_standing` of its standing in one group, and `lawful_outside` of one that
-- leaves a group. The other processes, the groups and the messages stand as they were, and a
-- message that was spent while the process was a member is spent without it.
use Rattle.std.proofs.Common.{◌≡◌, ℕ, true, false, refl, sym, ap, subst, ◌∙◌, inl, inr, arith}
use Rattle.std.specs.Prelude.{◌==◌, if◌then◌else◌}
use Rattle.std.proofs.lemmas.Bool.{false≢true, eqb-true}
use Rattle.cast_types.specs.declared.names.GroupNo.{GroupNo}
use Rattle.cast_types.specs.declared.names.Uid.{Uid}
use Rattle.cast_types.specs.declared.names.Standing.{Standing}
use Rattle.cast_types.specs.declared.names.Standing.TheVariants.{Outside}
use Rattle.cast_types.specs.Names.{group_eq}
use Rattle.cast_types.specs.Sets.{set_at}
use Rattle.cast_types.proofs.Orders.{same_group}
use Rattle.cast_clock.specs.Times.{view_of}
use Rattle.cast_ready.specs.Ready.{Process, is_member, is_outside, has_delivered}
use Rattle.cast_rules.specs.State.{State, is_group, set_process, set_standing, outside, acts_outside}
use Rattle.cast_rules.specs.Lawful.{IsSpent, IsLawful}
use Rattle.cast_rules.proofs.Lawful.{Placed, PlacedIn, placed_of, lawful_from, reached_on}
use Rattle.cast_rules.proofs.Lawful.{ActsOn, outside_on, traced_on, kept_map, spent_on}
use Rattle.cast_rules.proofs.SameLaw.{lawful_same, same_acts}

-- one process changes, becomes a member of no group, and delivered what it delivered
pub lawful_process : (s : State) (k : ℕ) (v : Process) → IsLawful s → ((g : GroupNo) → PlacedIn s v g) →
    ((g : GroupNo) → is_member (v.standing g) ≡ true → is_member ((s.process k).standing g) ≡ true) →
    ((u : Uid) → has_delivered (s.process k) u ≡ true → has_delivered v u ≡ true) → IsLawful (set_process s k v)
lawful_process s k v l placed member more = lawful_from s (set_process s k v) l refl
    (λ j g. elim (k == j) as (λ b. PlacedIn s (if b then v else s.process j) g) [ true ↦ placed g | false ↦ placed_of s l j g ])
    l.stamped
    (kept_map (IsSpent s) (IsSpent (set_process s k v)) (spent_on s (set_process s k v) refl (λ g. refl) members grown)
    s.got s.kept l.spent)
    l.listed
    (traced_on s (set_process s k v) refl (λ j. refl) (λ g. omega arith) (λ g p _ is. is) grown (λ j a at. inl at) l.traced)
    l.waiting
  where
    members : (j : ℕ) (g : GroupNo) → is_member ((if k == j then v else s.process j).standing g) ≡ true →
        is_member ((s.process j).standing g) ≡ true
    members j g =
        elim (k == j)
        as (λ b. k == j ≡ b → is_member ((if b then v else s.process j).standing g) ≡ true → is_member ((s.process j).standing g) ≡ true) [
          | true ↦ λ same is. ap (λ i. is_member ((s.process i).standing g)) (sym (eqb-true k j same)) ∙ member g is
          | false ↦ λ _ is. is
        ] refl

    grown : (j : ℕ) (u : Uid) → has_delivered (s.process j) u ≡ true → has_delivered (if k == j then v else s.process j) u ≡ true
    grown j u =
        elim (k == j) as (λ b. k == j ≡ b → has_delivered (s.process j) u ≡ true → has_delivered (if b then v else s.process j) u ≡ true) [
          | true ↦ λ same is. more u (ap (λ i. has_delivered (s.process i) u) (eqb-true k j same) ∙ is)
          | false ↦ λ _ is. is
        ] refl

-- a process is no member of a group from then on, and in no other way of one that is not configured
pub lawful_standing : (s : State) (k : ℕ) (g : GroupNo) (v : Standing) → is_member v ≡ false → IsLawful s →
    (is_outside v ≡ false → is_group s g ≡ true) → IsLawful (set_standing s k g v)
lawful_standing s k g v none l listed =
    lawful_process s k (record (s.process k) { standing = set_at group_eq (s.process k).standing g v }) l
    (λ h. elim (group_eq g h) as (λ b. group_eq g h ≡ b →
    Placed (is_group s h) (if b then v else (s.process k).standing h) (view_of (s.process k).time h) (s.group h)) [
      | true ↦ λ is. record {
        known = λ inside. subst (λ x. is_group s x ≡ true) (same_group g h is) (listed inside);
        current = λ member. absurd (false≢true (sym none ∙ member));
        viewed = λ member. absurd (false≢true (sym none ∙ member));
      }
      | false ↦ λ _. placed_of s l k h
    ] refl)
    (λ h. elim (group_eq g h)
    as (λ b. is_member (if b then v else (s.process k).standing h) ≡ true → is_member ((s.process k).standing h) ≡ true) [
      | true ↦ λ member. absurd (false≢true (sym none ∙ member))
      | false ↦ λ is. is
    ])
    (λ u is. is)

pub left_on : (s : State) (k : ℕ) (g : GroupNo) → ActsOn (set_standing s k g Outside) (acts_outside s k g)
left_on s k g j x at = elim (outside_on s k g j x at) [
  | inl before ↦ inl before
  | inr now ↦ inr (reached_on s (set_standing s k g Outside) (λ h. omega arith) x now)
]

-- a process is outside a group from then on
pub lawful_outside : (s : State) (k : ℕ) (g : GroupNo) → IsLawful s → IsLawful (outside s k g)
lawful_outside s k g l =
    lawful_same (set_standing s k g Outside) (outside s k g) (same_acts (set_standing s k g Outside) (acts_outside s k g) (left_on s k g))
    (lawful_standing s k g Outside refl l (λ inside. absurd (false≢true (sym inside))))
