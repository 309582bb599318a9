-- A message that is ready is allowed.
use Rattle.cast_types.proofs.Orders.{uid_itself}
use Rattle.std.proofs.Common.{ap, arith, inl, inr, subst, sym, ◌∙◌}
use Rattle.std.proofs.lemmas.Bool.{and_parts, cases_lt, eqb-true, false_from_ne_true, false≢true, leb-true, ltb-true, or_cases, true≢false}
use Rattle.std.proofs.lemmas.List.Elements.{Contains-append_left, Contains-append_right}
use Rattle.std.proofs.lemmas.Map.Views.{tells_apart}
use Rattle.std.specs.FinMap.Entries.{find}
use Rattle.std.specs.List.{list_all, list_any, range_with_len}
use Rattle.std.specs.Ordering.{eq_by_cmp}
use Rattle.std.specs.Prelude.{◌+◌, ◌<◌, ◌==◌, Bool, Contains, List, [], cond, false, filter}
use Rattle.std.specs.Prelude.{map, not, refl, suc, take, true, zero, ◌||◌, ℕ, ◌∷◌, ◌≡◌, ◌≤◌}
use Rattle.cast_clock.specs.Times.{clock_of, count_in, has_room, join, view_of}
use Rattle.cast_ready.specs.Ready.{Process, covered_entries, first_of, group_allows, has_delivered, has_turn}
use Rattle.cast_ready.specs.Ready.{is_causally_ready, is_member, is_open_to, is_outside, is_ready, past_in}
use Rattle.cast_ready.specs.declared.gate.Gate.{Gate}
use Rattle.cast_ready.specs.declared.turn.Turn.{Turn}
use Rattle.cast_message.specs.Bodies.{kind_of}
use Rattle.cast_message.specs.declared.message.Message.{Message}
use Rattle.cast_types.specs.Counts.{CountList, count_of}
use Rattle.cast_types.specs.Sets.{is_among}
use Rattle.cast_types.specs.Names.{entry_of, is_atomic, uid_in, proc_cmp, uid_eq}
use Rattle.cast_types.specs.declared.names.GroupNo.{GroupNo}
use Rattle.cast_types.specs.declared.names.Proc.{Proc}
use Rattle.cast_types.specs.declared.names.Standing.TheVariants.{Member}
use Rattle.cast_types.specs.declared.names.Uid.{Uid}
use Rattle.cast_world.proofs.Facts.{ComesNew, IsAllowed}
use Rattle.cast_world.proofs.Times.{proc_exact, unwrapped}

pub passes : {X : Type 0} (test : X → Bool) (xs : List X) → list_all test xs ≡ true → (x : X) → Contains xs x → test x ≡ true
passes test [] e x at = absurd (omega (arith, at.1))
passes test (y ∷ xs) e x (zero, lt, is) = subst (λ z. test z ≡ true) is (and_parts _ _ e).0
passes test (y ∷ xs) e x (suc k, lt, is) = passes test xs (and_parts _ _ e).1 x (k, omega arith, is)

-- what passes the test of a filter
pub passed : {X : Type 0} (test : X → Bool) (xs : List X) (x : X) → Contains (filter test xs) x → test x ≡ true
passed test [] x at = absurd (omega (arith, at.1))
passed {X} test (y ∷ ys) x at = go (test y) refl at (passed test ys x)
  where
    go : (b : Bool) → test y ≡ b → Contains (cond b (y ∷ filter test ys) (filter test ys)) x →
        (Contains (filter test ys) x → test x ≡ true) → test x ≡ true
    go true e (zero, lt, is) more = ap test (sym is) ∙ e
    go true e (suc n, lt, is) more = more (n, omega arith, is)
    go false e has more = more has

pub contains_more : {X : Type 0} (y : X) (xs : List X) (x : X) → Contains xs x → Contains (y ∷ xs) x
contains_more y xs x (k, lt, is) = (suc k, omega (arith, lt), is)

-- what is taken of a list is of it
pub taken_of : {X : Type 0} (n : ℕ) (xs : List X) (x : X) → Contains (take n xs) x → Contains xs x
taken_of zero xs x at = absurd (omega (arith, at.1))
taken_of (suc n) [] x at = absurd (omega (arith, at.1))
taken_of (suc n) (y ∷ xs) x (zero, lt, is) = (0, omega arith, is)
taken_of (suc n) (y ∷ xs) x (suc k, lt, is) = let r = taken_of n xs x (k, omega (arith, lt), is) in (suc r.0, omega (arith, r.1), r.2)

-- what an equality that holds of each item finds
pub among_of : {X : Type 0} (eq : X → X → Bool) → ((x : X) → eq x x ≡ true) → (xs : List X) (x : X) → Contains xs x →
    is_among eq x xs ≡ true
among_of eq itself [] x at = absurd (omega (arith, at.1))
among_of eq itself (y ∷ xs) x (zero, lt, is) = ap (λ b. b || list_any (eq x) xs) (subst (λ z. eq x z ≡ true) (sym is) (itself x))
among_of eq itself (y ∷ xs) x (suc k, lt, is) = go (eq x y) (among_of eq itself xs x (k, omega arith, is))
  where
    go : (b : Bool) → list_any (eq x) xs ≡ true → (b || list_any (eq x) xs) ≡ true
    go true r = refl
    go false r = r

pub contains_mapped : {X Y : Type 0} (f : X → Y) (xs : List X) (x : X) → Contains xs x → Contains (map f xs) (f x)
contains_mapped f [] x at = absurd (omega (arith, at.1))
contains_mapped f (y ∷ xs) x (zero, lt, is) = (0, omega arith, ap f is)
contains_mapped f (y ∷ xs) x (suc k, lt, is) = contains_more (f y) (map f xs) (f x) (contains_mapped f xs x (k, omega arith, is))

pub contains_kept : {X : Type 0} (test : X → Bool) (xs : List X) (x : X) → Contains xs x → test x ≡ true → Contains (filter test xs) x
contains_kept test [] x at yes_it = absurd (omega (arith, at.1))
contains_kept test (y ∷ xs) x (zero, lt, is) yes_it =
    subst (λ b. Contains (cond b (y ∷ filter test xs) (filter test xs)) x) (sym (ap test is ∙ yes_it)) (0, omega arith, is)
contains_kept test (y ∷ xs) x (suc k, lt, is) yes_it = go (test y) (contains_kept test xs x (k, omega arith, is) yes_it)
  where
    go : (b : Bool) → Contains (filter test xs) x → Contains (cond b (y ∷ filter test xs) (filter test xs)) x
    go true at = contains_more y (filter test xs) x at
    go false at = at

pub contains_range : (a n k : ℕ) → a ≤ k → k < a + n → Contains (range_with_len a n) k
contains_range a zero k le lt = absurd (omega arith)
contains_range a (suc n) k le lt = elim (cases_lt a k) [
  | inl more ↦ contains_more a (range_with_len (a + 1) n) k (contains_range (a + 1) n k (omega arith) (omega arith))
  | inr less ↦ let same : a ≡ k = omega (arith, less, le) in (0, omega arith, same)
]

pub contains_covered : (c : CountList) (p : Proc) (n : ℕ) → 1 ≤ n → n ≤ count_of c p → Contains (covered_entries c) (p, n)
contains_covered [] p n one le = absurd (omega (arith, one, le))
contains_covered (e ∷ c) p n one le = go (eq_by_cmp proc_cmp p e.0) refl (contains_covered c p n one)
  where
    is : count_of (e ∷ c) p ≡ cond (eq_by_cmp proc_cmp p e.0) e.1 (count_of c p)
    is = unwrapped (eq_by_cmp proc_cmp p e.0) e.1 0 (find proc_cmp p c)

    go : (b : Bool) → eq_by_cmp proc_cmp p e.0 ≡ b → (n ≤ count_of c p → Contains (covered_entries c) (p, n)) →
        Contains (covered_entries (e ∷ c)) (p, n)
    go true tie more =
        let low : n ≤ e.1 = subst (λ k. n ≤ k) (is ∙ ap (λ b. cond b e.1 (count_of c p)) tie) le in
        let at = contains_mapped (λ (k : ℕ). (e.0, k)) (range_with_len 1 e.1) n (contains_range 1 e.1 n one (omega (arith, low))) in
        Contains-append_left (first_of e) (covered_entries c) (p, n)
        (subst (λ (q : Proc). Contains (first_of e) (q, n)) (sym (tells_apart proc_exact p e.0 tie)) at)
    go false tie more =
        Contains-append_right (first_of e) (covered_entries c) (p, n)
        (more (subst (λ k. n ≤ k) (is ∙ ap (λ b. cond b e.1 (count_of c p)) tie) le))

pub same_uid : (a b : Uid) → uid_eq a b ≡ true → a ≡ b
same_uid a b e =
    let g = and_parts _ _ e in
    let v = and_parts _ _ g.1 in
    let pc = and_parts _ _ v.1 in
    let p = and_parts _ _ pc.0 in
    let group : a.group.0 ≡ b.group.0 = eqb-true _ _ g.0 in
    let view : a.view ≡ b.view = eqb-true _ _ v.0 in
    let site : a.proc.site.0 ≡ b.proc.site.0 = eqb-true _ _ p.0 in
    let serial : a.proc.serial ≡ b.proc.serial = eqb-true _ _ p.1 in
    let count : a.count ≡ b.count = eqb-true _ _ pc.1 in
    λ i. record {
      group = record { 0 = group i };
      view = view i;
      proc = record { site = record { 0 = site i }; serial = serial i };
      count = count i;
    }

pub found_among : (u : Uid) (us : List Uid) → list_any (uid_eq u) us ≡ true → Contains us u
found_among u [] e = absurd (false≢true e)
found_among u (v ∷ us) e = go (uid_eq u v) refl (found_among u us)
  where
    go : (b : Bool) → uid_eq u v ≡ b → (list_any (uid_eq u) us ≡ true → Contains us u) → Contains (v ∷ us) u
    go true same more = (0, omega arith, sym (same_uid u v same))
    go false other more = contains_more v us u (more (subst (λ b. (b || list_any (uid_eq u) us) ≡ true) other e))

past_delivered : (p : Process) (m : Message) (h : GroupNo) (u : Uid) → list_all (has_delivered p) (past_in m h) ≡ true → u.group ≡ h →
    u.view ≡ view_of m.times h →
    1 ≤ u.count → u.count ≤ count_in m.times h u.proc → (u ≡ m.id → ⊥) → Contains p.delivered u
past_delivered p m h u all group view one le other =
    let is : uid_in h (view_of m.times h) (u.proc, u.count) ≡ u =
    λ i. record { group = sym group i; view = sym view i; proc = u.proc; count = u.count } in
    let at =
    contains_mapped (uid_in h (view_of m.times h)) (covered_entries (clock_of m.times h).counts) (u.proc, u.count)
    (contains_covered (clock_of m.times h).counts u.proc u.count one le) in
    let apart : not (uid_eq m.id u) ≡ true = ap not (false_from_ne_true (uid_eq m.id u) (λ same. other (sym (same_uid m.id u same)))) in
    found_among u p.delivered (passes (has_delivered p) (past_in m h) all u
    (contains_kept (λ v. not (uid_eq m.id v)) (map (uid_in h (view_of m.times h)) (covered_entries (clock_of m.times h).counts))
    u (subst (λ v. Contains (map (uid_in h (view_of m.times h)) (covered_entries (clock_of m.times h).counts)) v) is at) apart))

-- a message that is ready is new, and all groups allow it
parts_of_ready : (groups : List GroupNo) (gate : GroupNo → Gate) (turn : GroupNo → Turn) (p : Process) (m : Message) →
    is_ready groups gate turn p m ≡ true →
    (not (has_delivered p m.id) ≡ true) × (list_all (λ h. group_allows (p.standing h) p (gate h) m h) groups ≡ true)
parts_of_ready groups gate turn p m ready =
    let a =
    and_parts (is_causally_ready groups gate p m)
    (not (is_atomic (kind_of m.body)) || has_turn (turn m.id.group) (entry_of m.id)) ready in
    let b = and_parts (is_member (p.standing m.id.group)) _ a.0 in
    let c = and_parts (m.id.view == (gate m.id.group).number) _ b.1 in
    let d = and_parts (is_open_to (gate m.id.group) (entry_of m.id)) _ c.1 in
    let e = and_parts (not (has_delivered p m.id)) _ d.1 in
    (e.0, (and_parts _ (has_room (join p.time m.times)) e.1).0)

-- it was not delivered
pub ready_new : (groups : List GroupNo) (gate : GroupNo → Gate) (turn : GroupNo → Turn) (p : Process) (m : Message) →
    is_ready groups gate turn p m ≡ true → ComesNew m → Contains p.delivered m.id → ⊥
ready_new groups gate turn p m ready new_one at =
    true≢false (sym (parts_of_ready groups gate turn p m ready).0 ∙ ap not (among_of uid_eq uid_itself p.delivered m.id at))

module _ (groups : List GroupNo) (gate : GroupNo → Gate) (turn : GroupNo → Turn) (p : Process) (m : Message)
    (known : (g : GroupNo) → is_outside (p.standing g) ≡ false → Contains groups g)
    (numbers : (g : GroupNo) → p.standing g ≡ Member → (gate g).number ≡ view_of p.time g)
    (ready : is_ready groups gate turn p m ≡ true) where
  all_allow : list_all (λ h. group_allows (p.standing h) p (gate h) m h) groups ≡ true
  all_allow = (parts_of_ready groups gate turn p m ready).1

  as_member : (g : GroupNo) → p.standing g ≡ Member → group_allows Member p (gate g) m g ≡ true
  as_member g is = subst (λ st. group_allows st p (gate g) m g ≡ true) is (passes _ groups all_allow g (known g (ap is_outside is)))

  pub ready_allowed : IsAllowed p m
  ready_allowed = record {
    view = λ g is. elim (or_cases _ _ (as_member g is)) [
      | inl lower ↦ let lt = ltb-true (view_of m.times g) (gate g).number lower in let n = numbers g is in omega (arith, lt, n)
      | inr level ↦
          let same = eqb-true (view_of m.times g) (gate g).number (and_parts _ _ level).0 in let n = numbers g is in omega (arith, same, n)
    ];
    past = λ u looks is view current le one other. elim (or_cases _ _ (as_member u.group is)) [
      | inl lower ↦
          absurd (let lt = ltb-true (view_of m.times u.group) (gate u.group).number lower in
          let n = numbers u.group is in
          omega (arith, lt, n, view, current))
      | inr level ↦ past_delivered p m u.group u (and_parts _ _ level).1 refl view one le other
    ];
    heard = λ g request heard heeds is.
        leb-true _ _ (subst (λ st. group_allows st p (gate g) m g ≡ true) is (passes _ groups all_allow g (known g (ap is_outside is))));
  }
