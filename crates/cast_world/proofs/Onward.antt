-- A process is taken in only by a view above the one that its time had: of a whole step.
use Rattle.std.proofs.Common.{arith, inl, inr, subst, sym, ◌∙◌}
use Rattle.std.specs.Prelude.{◌<◌, Bool, List, false, if◌then◌else◌, refl, true, ℕ, ◌≡◌, ◌≤◌, ◌⊎◌}
use Rattle.cast_clock.specs.Times.{entering, join, view_of}
use Rattle.cast_ready.specs.Ready.{Process}
use Rattle.cast_rules.specs.Entering.{all_parted, completing, enters, in_view, put_outside}
use Rattle.cast_rules.specs.State.{State, outside, set_process}
use Rattle.cast_message.specs.Membership.{Membership}
use Rattle.cast_message.specs.declared.message.Message.{Message}
use Rattle.cast_types.specs.Counts.{CountList}
use Rattle.cast_types.specs.Names.{group_eq}
use Rattle.cast_types.specs.Sets.{set_at}
use Rattle.cast_types.specs.declared.names.GroupNo.{GroupNo}
use Rattle.cast_types.specs.declared.names.Standing.{Standing}
use Rattle.cast_types.specs.declared.names.Standing.TheVariants.{Joining, Member, Outside}
use Rattle.cast_types.specs.declared.names.Uid.{Uid}
use Rattle.cast_world.proofs.Laters.{set_all}
use Rattle.cast_world.proofs.Local.{cases_group, not_joining}
use Rattle.cast_world.proofs.Ones.{outside_not_member, set_other}
use Rattle.cast_world.proofs.Times.{below_join, below_view, entered_view, other_view}

-- the views of its time do not fall, and where it is a member it was one, or has a later view
abbrev pub Onward : Process → Process → Type 0
Onward p q =
    (g : GroupNo) →
    (view_of p.time g ≤ view_of q.time g) × (q.standing g ≡ Member → (p.standing g ≡ Member) ⊎ (view_of p.time g < view_of q.time g))

pub onward_same : (p : Process) → Onward p p
onward_same p g = (omega arith, λ e. inl e)

pub onward_then : (p q r : Process) → Onward p q → Onward q r → Onward p r
onward_then p q r one two g =
    let a = (one g).0 in
    let b = (two g).0 in (
      omega (arith, a, b),
      λ e. elim ((two g).1 e) [
        | inl was ↦ elim ((one g).1 was) [ inl before ↦ inl before | inr up ↦ inr (omega (arith, up, b)) ]
        | inr up ↦ inr (omega (arith, up, a))
      ],
    )

-- where the standing is as it was or none
pub stands : (s : Standing) (b : Bool) → (if b then Outside else s) ≡ Member → s ≡ Member
stands s true e = absurd (outside_not_member e)
stands s false e = e

pub onward_parted : (p : Process) (g : GroupNo) → Onward p (put_outside g p)
onward_parted p g h = (omega arith, λ e. inl (stands (p.standing h) (group_eq g h) e))

pub asks : (s : Standing) (b : Bool) (number heard : ℕ) → (if b then Joining number heard else s) ≡ Member → s ≡ Member
asks s true number heard e = absurd (not_joining number heard (sym e))
asks s false number heard e = e

pub onward_joins : (p : Process) (g : GroupNo) (number heard : ℕ) →
    Onward p (record p { standing = set_at group_eq p.standing g (Joining number heard) })
onward_joins p g number heard h = (omega arith, λ e. inl (asks (p.standing h) (group_eq g h) number heard e))

pub onward_time : (p : Process) (m : Message) → ((g : GroupNo) → view_of p.time g ≤ view_of m.times g) →
    Onward p (record p { time = m.times })
onward_time p m up g = (up g, λ e. inl e)

pub onward_delivers : (p : Process) (m : Message) (us : List Uid) → Onward p (record p { time = join p.time m.times; delivered = us })
onward_delivers p m us g = (below_view p.time (join p.time m.times) (below_join p.time m.times) g, λ e. inl e)

pub onward_enters : (p : Process) (g : GroupNo) (n : ℕ) → view_of p.time g < n → Onward p (in_view g n p)
onward_enters p g n above h = elim (cases_group g h) [
  | inl same ↦
      let up : view_of p.time h < view_of (entering p.time g n) h =
      subst (λ x. view_of p.time x < view_of (entering p.time g n) x)
      same (subst (λ v. view_of p.time g < v) (sym (entered_view p.time g n)) above) in
      (omega (arith, up), λ e. inr up)
  | inr apart ↦
      let as_was = other_view p.time g n h apart in
      (omega (arith, as_was), λ e. inl (sym (set_other p.standing g Member h apart) ∙ e))
]

abbrev pub AllOnward : State → State → Type 0
AllOnward s t = (k : ℕ) → Onward (s.process k) (t.process k)

pub all_same : (s : State) → AllOnward s s
all_same s k = onward_same (s.process k)

pub all_then : (s t u : State) → AllOnward s t → AllOnward t u → AllOnward s u
all_then s t u one two k = onward_then (s.process k) (t.process k) (u.process k) (one k) (two k)

pub all_set : (s : State) (k : ℕ) (p : Process) → Onward (s.process k) p → AllOnward s (set_process s k p)
all_set s k p one = set_all (λ j q. Onward (s.process j) q) s.process k p (λ j. onward_same (s.process j)) one

pub all_part : (s : State) (k : ℕ) (g : GroupNo) → AllOnward s (outside s k g)
all_part s k g = all_set s k (put_outside g (s.process k)) (onward_parted (s.process k) g)

pub all_parted_onward : (s : State) (g : GroupNo) (goes : ℕ → Bool) → AllOnward s (all_parted s g goes)
all_parted_onward s g goes k = go (goes k)
  where
    go : (b : Bool) → Onward (s.process k) (if b then put_outside g (s.process k) else s.process k)
    go true = onward_parted (s.process k) g
    go false = onward_same (s.process k)

pub all_completing : (s : State) (g : GroupNo) (n : ℕ) (members : Membership) (request : ℕ) (cut : CountList) →
    ((k : ℕ) → enters s g members request k ≡ true → view_of (s.process k).time g < n) → AllOnward s (completing s g n members request cut)
all_completing s g n members request cut above k = go (enters s g members request k) refl
  where
    go : (b : Bool) → enters s g members request k ≡ b → Onward (s.process k) (if b then in_view g n (s.process k) else s.process k)
    go true e = onward_enters (s.process k) g n (above k e)
    go false e = onward_same (s.process k)
