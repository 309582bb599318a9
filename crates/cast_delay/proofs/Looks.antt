-- Which messages can be ready for a process, by what was looked at for it.
use Rattle.std.proofs.Common.{◌≡◌, ◌⊎◌, ℕ, zero, suc, ◌+◌, ◌<◌, ◌≤◌, max, Bool, true, false, cond, not, ◌&&◌, List, [], ◌∷◌}
use Rattle.std.proofs.Common.{length, take, get_or, Contains, Option, Some, None, Less, refl, sym, ap, subst, ◌∙◌, inl, inr, arith}
use Rattle.std.specs.Prelude.{nat_lt, nat_le, ◌==◌}
use Rattle.std.specs.List.{list_all, list_any, find, AllByRecursion}
use Rattle.std.specs.List.Sorted.{IsStrictlySortedBy}
use Rattle.std.specs.Option.{option_map, option_map_or}
use Rattle.std.specs.Ordering.{nat_cmp}
use Rattle.std.proofs.lemmas.Bool.{cases_lt, cases_eq, false≢true, false_from_ne_true, and_parts, and_from, and_right}
use Rattle.std.proofs.lemmas.Bool.{or_cases, not-true, not_from_false, ltb-true, lt-ltb, leb-true, eqb-true, eq-eqb, ne_eqb}
use Rattle.std.proofs.lemmas.Cmp.{nat_cmp_total, ranked}
use Rattle.std.proofs.lemmas.Map.Lookups.{exact_unsigned}
use Rattle.std.proofs.lemmas.Map.Views.{btree_set_contains_iff}
use Rattle.cast_types.specs.declared.names.GroupNo.{GroupNo}
use Rattle.cast_types.specs.declared.names.Key.{Key}
use Rattle.cast_types.specs.declared.names.Uid.{Uid}
use Rattle.cast_types.specs.declared.names.Standing.TheVariants.{Outside, Member}
use Rattle.cast_types.specs.Names.{proc_eq, uid_eq, Entry as Count}
use Rattle.cast_types.proofs.Orders.{group_exact, same_proc}
use Rattle.cast_types.proofs.Contains.{contains_here, contains_later}
use Rattle.cast_clock.specs.Times.{clock_of, view_of}
use Rattle.cast_clock.proofs.Entries.{found_or, option_cases}
use Rattle.cast_message.specs.Receipts.{key_eq}
use Rattle.cast_index.specs.Index.{has, is_pair}
use Rattle.cast_index.specs.Rises.{rises, all_below}
use Rattle.cast_ready.specs.declared.gate.Gate.{Gate}
use Rattle.cast_ready.specs.declared.row.Row.{Row}
use Rattle.cast_ready.specs.declared.offered.Offered.{Offered}
use Rattle.cast_delay.specs.declared.looked.Looked.{Looked}
use Rattle.cast_ready.specs.Ready.{is_member}
use Rattle.cast_ready.specs.Rows.{gate_in, standing_in, done_in, needed_count, has_past, row_allows}
use Rattle.cast_ready.specs.Rows.{is_causally_ready_row, awaits_row, awaits_now, is_after, holds_back}
use Rattle.cast_delay.specs.Queue.{offered_under}
use Rattle.cast_delay.specs.Offers.{key_of, none_of}
use Rattle.cast_delay.specs.Waits.{is_awake, IsKnown, IsWithin, IsWaking, IsUnseen, IsUnseenBy, AreKnown, Adds}
use Rattle.cast_delay.proofs.Delivers.{ready_parts, only_member}
use Rattle.cast_delay.proofs.ListLemmas.{all_each, contains_cases}
use Rattle.cast_delay.proofs.MemberLemmas.{any_member, none_found, found_member, found_least, first_is, same_item}
use Rattle.cast_delay.proofs.LookedAt.{first_there}

-- what stands among the first items but one more
taken_cases : {A : Type 0} (xs : List A) (n k : ℕ) (d : A) → k ≡ n + 1 → n < length xs → (x : A) → Contains (take k xs) x →
    Contains (take n xs) x ⊎ (x ≡ get_or xs n d)
taken_cases [] n k d is lt x there = absurd (omega (arith, lt))
taken_cases (y ∷ ys) n zero d is lt x there = absurd (omega (arith, is))
taken_cases (y ∷ ys) zero (suc k) d is lt x there = elim (contains_cases y x (take k ys) there) [
  | inl here ↦ inr (sym here)
  | inr later ↦ let none : k ≡ 0 = omega (arith, is) in absurd (none_there x (subst (λ j. Contains (take j ys) x) none later))
]
  where
    none_there : (z : _) → Contains (take 0 ys) z → ⊥
    none_there z in_it = omega (arith, in_it.1)
taken_cases (y ∷ ys) (suc n) (suc k) d is lt x there = elim (contains_cases y x (take k ys) there) [
  | inl here ↦ inl (subst (λ z. Contains (y ∷ take n ys) z) here (contains_here y (take n ys)))
  | inr later ↦
      elim (taken_cases ys n k d (omega (arith, is)) (omega (arith, lt)) x later) [
        | inl before ↦ inl (contains_later x y (take n ys) before)
        | inr last ↦ inr last
      ]
]

all_of : {A : Type 0} (t : A → Bool) (xs : List A) → ((x : A) → Contains xs x → t x ≡ true) → list_all t xs ≡ true
all_of t [] each = refl
all_of t (x ∷ xs) each =
    and_from (t x) (list_all t xs) (each x (contains_here x xs)) (all_of t xs (λ y there. each y (contains_later y x xs there)))

module _ (gates : List (GroupNo × Gate)) (row : Row) where
  -- what is ready is awaited
  pub ready_awaited : (o : Offered) → is_causally_ready_row gates row o.id o.times ≡ true → awaits_now gates row o.id ≡ true
  ready_awaited o ready =
      let parts = ready_parts gates row o.id o.times ready in
      let done = done_in row o.id.group o.id.view o.id.proc in
      and_from (awaits_row row o.id) (o.id.view == (gate_in gates o.id.group).number)
      (and_from (is_member (standing_in row o.id.group)) (nat_lt done o.id.count) (ap is_member parts.member)
      (lt-ltb done o.id.count parts.fresh))
      (eq-eqb o.id.view (gate_in gates o.id.group).number parts.current)

  -- and nothing holds it back
  pub not_held : (o : Offered) (u : Uid) → holds_back gates row o u ≡ true → is_causally_ready_row gates row o.id o.times ≡ true → ⊥
  not_held o u held ready =
      let g = u.group in
      let v = view_of o.times g in
      let n = (gate_in gates g).number in
      let counts = (clock_of o.times g).counts in
      let behind : Count → Bool = λ e. proc_eq e.0 u.proc && nat_le u.count (needed_count o.id g u.view e) in
      let parts = and_parts (is_after o u) (awaits_now gates row u) held in
      let after = and_parts (v == u.view) (list_any behind counts) parts.0 in
      let now = and_parts (awaits_row row u) (u.view == n) parts.1 in
      let awaited = and_parts (is_member (standing_in row g)) (nat_lt (done_in row g u.view u.proc) u.count) now.0 in
      let allowed =
      found_or group_exact (λ h s. row_allows row (gate_in gates h).number o.id o.times h s) Outside (λ q. refl)
      row.standings (ready_parts gates row o.id o.times ready).allowed g in
      let here : row_allows row n o.id o.times g Member ≡ true =
      subst (λ s. row_allows row n o.id o.times g s ≡ true) (only_member (standing_in row g) awaited.0) allowed in
      let view : v ≡ u.view = eqb-true v u.view after.0 in
      elim (or_cases (nat_lt v n) ((v == n) && has_past row o.id g v counts) here) [
        | inl lower ↦ omega (arith, ltb-true v n lower, view, eqb-true u.view n now.1)
        | inr rest ↦
            let past = (and_parts (v == n) (has_past row o.id g v counts) rest).1 in
            let e = any_member behind counts after.1 in
            let tests = and_parts (proc_eq e.0.0 u.proc) (nat_le u.count (needed_count o.id g u.view e.0)) e.2 in
            let enough = all_each (λ d. nat_le (needed_count o.id g v d) (done_in row g v d.0)) counts past e.0 e.1 in
            let done : done_in row g v e.0.0 ≡ done_in row g u.view u.proc =
            λ i. done_in row g (view i) (same_proc e.0.0 u.proc tests.0 i) in
            omega (
              arith,
              leb-true (needed_count o.id g v e.0) (done_in row g v e.0.0) enough,
              leb-true u.count (needed_count o.id g u.view e.0) tests.1,
              ltb-true (done_in row g u.view u.proc) u.count awaited.1,
              ap (λ w. needed_count o.id g w e.0) view,
              done,
            )
      ]

  -- so of what is known only what is awake can be ready
  pub awake_if_ready : (l : Looked) (o : Offered) → IsKnown gates row l o → is_causally_ready_row gates row o.id o.times ≡ true →
      is_awake l o.key.0 ≡ true
  awake_if_ready l o (inl awake) ready = awake
  awake_if_ready l o (inr (inl past)) ready = absurd (false≢true (sym past ∙ ready_awaited o ready))
  awake_if_ready l o (inr (inr (u, filed, holds))) ready = absurd (not_held o u holds ready)

  -- what is known stays known
  pub known_more : (k : Key) (old new : Looked) → Adds k old new → (o : Offered) → IsKnown gates row old o → IsKnown gates row new o
  known_more k old new adds o (inl awake) = inl (adds.awake o.key.0 awake)
  known_more k old new adds o (inr (inl past)) = inr (inl past)
  known_more k old new adds o (inr (inr (u, filed, holds))) = inr (inr (u, adds.filed u o.key filed, holds))

  pub waking_more : (id : Uid) (k : Key) (old new : Looked) → Adds k old new → (o : Offered) → IsWaking gates row id old o →
      IsWaking gates row id new o
  waking_more id k old new adds o (inl known) = inl (known_more k old new adds o known)
  waking_more id k old new adds o (inr filed) = inr (adds.filed id o.key filed)

  -- one is looked at again
  module _ (offered : List Offered) (rising : rises key_of offered ≡ true) (id : Uid) (key : Key) (old mid : Looked)
      (awake : (k : ℕ) → is_awake old k ≡ true →
      is_awake mid k ≡ true) (now : (u : Uid) (k : Key) → has mid.filed u k ≡ cond (is_pair id key u k) false (has old.filed u k)) where
    filed_still : (o : Offered) → (o.key.0 ≡ key.0 → ⊥) → (u : Uid) → has old.filed u o.key ≡ true → has mid.filed u o.key ≡ true
    filed_still o apart u filed =
        now u o.key
        ∙ ap (λ b. cond b false (has old.filed u o.key))
        (and_right (uid_eq id u) (key.0 == o.key.0) (ne_eqb key.0 o.key.0 (λ same. apart (sym same))))
        ∙ filed

    waking_mid : (o : Offered) → (o.key.0 ≡ key.0 → ⊥) → IsWaking gates row id old o → IsWaking gates row id mid o
    waking_mid o apart (inl (inl is)) = inl (inl (awake o.key.0 is))
    waking_mid o apart (inl (inr (inl past))) = inl (inr (inl past))
    waking_mid o apart (inl (inr (inr (u, filed, holds)))) = inl (inr (inr (u, filed_still o apart u filed, holds)))
    waking_mid o apart (inr filed) = inr (filed_still o apart id filed)

    pub waking_none : offered_under offered key ≡ None → (o : Offered) → Contains offered o → IsWaking gates row id old o →
        IsWaking gates row id mid o
    waking_none none o there =
        waking_mid o (λ same. none_found (λ (m : Offered). key_eq m.key key) offered none o there (eq-eqb o.key.0 key.0 same))

    pub waking_one : (m : Offered) (new : Looked) → offered_under offered key ≡ Some m → IsKnown gates row new m → Adds m.key mid new →
        (o : Offered) → Contains offered o → IsWaking gates row id old o → IsWaking gates row id new o
    waking_one m new under known adds o there waking =
        let found = found_member (λ (x : Offered). key_eq x.key key) offered m under in
        elim (cases_eq o.key.0 key.0) [
          | inl same ↦
              let is : m ≡ o = same_item key_of offered m o rising found.0 there (omega (arith, same, eqb-true m.key.0 key.0 found.1)) in
              inl (subst (λ x. IsKnown gates row new x) is known)
          | inr apart ↦ waking_more id m.key mid new adds o (waking_mid o apart waking)
        ]

-- what was added is below the bound
pub within_more : (k : Key) (old new : Looked) → Adds k old new → k.0 < old.below → IsWithin old → IsWithin new
within_more k old new adds lt within = record {
  awake = λ j is. elim (adds.awake_only j is) [
    | inl was ↦ omega (arith, within.awake j was, adds.below)
    | inr same ↦ omega (arith, lt, same, adds.below)
  ];
  filed = λ u j is. elim (adds.filed_only u j is) [
    | inl was ↦ omega (arith, within.filed u j was, adds.below)
    | inr same ↦ omega (arith, lt, same, adds.below)
  ];
}

-- and what is left is
pub within_less : (id : Uid) (key : Key) (old mid : Looked) → old.below ≤ mid.below →
    ((k : ℕ) → is_awake mid k ≡ true → is_awake old k ≡ true) →
    ((u : Uid) (k : Key) → has mid.filed u k ≡ cond (is_pair id key u k) false (has old.filed u k)) → IsWithin old → IsWithin mid
within_less id key old mid same awake now within = record {
  awake = λ k is. omega (arith, same, within.awake k (awake k is));
  filed = λ u k is. omega (arith, same, within.filed u k (left (is_pair id key u k) (has old.filed u k) (sym (now u k) ∙ is)));
}
  where
    left : (b h : Bool) → cond b false h ≡ true → h ≡ true
    left true h is = absurd (false≢true is)
    left false h is = is

-- one more of the first messages is known
pub first_more : (gates : List (GroupNo × Gate)) (row : Row) (k : Key) (old new : Looked) → Adds k old new →
    (offered : List Offered) (n : ℕ) (m : Offered) → n < length offered → m ≡ get_or offered n m → IsKnown gates row new m →
    ((o : Offered) → Contains (take n offered) o → IsKnown gates row old o) → (o : Offered) → Contains (take (n + 1) offered) o →
    IsKnown gates row new o
first_more gates row k old new adds offered n m lt at known before o there = elim (taken_cases offered n (n + 1) m refl lt o there) [
  | inl earlier ↦ known_more gates row k old new adds o (before o earlier)
  | inr last ↦ subst (λ x. IsKnown gates row new x) (at ∙ sym last) known
]

-- Questions

-- keys in rising order rise
keys_rise : (ks : List ℕ) → IsStrictlySortedBy nat_cmp ks → rises (λ (k : ℕ). k) ks ≡ true
unfolding IsStrictlySortedBy
keys_rise [] sorted = refl
keys_rise (k ∷ ks) sorted = and_from (list_all (λ j. nat_lt k j) ks) (rises (λ (j : ℕ). j) ks) (each k ks sorted.0) (keys_rise ks sorted.1)
  where
    each : (n : ℕ) (xs : List ℕ) → AllByRecursion (λ x. nat_cmp n x ≡ Less) xs → list_all (λ j. nat_lt n j) xs ≡ true
    each n [] all = refl
    each n (x ∷ xs) all = and_from (nat_lt n x) (list_all (λ j. nat_lt n j) xs) (lt-ltb n x (ranked n x Less (sym all.0))) (each n xs all.1)

module _ (gates : List (GroupNo × Gate)) (row : Row) (offered : List Offered) (l : Looked)
    (rising : rises key_of offered ≡ true) (known : AreKnown gates row offered l) (t : Offered → Bool)
    (only : (o : Offered) → t o ≡ true → is_causally_ready_row gates row o.id o.times ≡ true) where
  -- whether the message under a key passes
  abbrev passes : ℕ → Bool
  passes k = option_map_or t (offered_under offered (record { 0 = k })) false

  under_is : (o : Offered) → Contains offered o → offered_under offered o.key ≡ Some o
  under_is o there =
      first_is key_of (λ (m : Offered). key_eq m.key o.key) offered o rising there (eq-eqb o.key.0 o.key.0 refl)
      (λ x x_there same. omega (arith, eqb-true x.key.0 o.key.0 same))

  passes_so : (k : ℕ) → passes k ≡ true → (o : Offered) × Contains offered o × (o.key.0 ≡ k) × (t o ≡ true)
  passes_so k is = elim (option_cases (offered_under offered (record { 0 = k }))) [
    | inl none ↦ absurd (false≢true (sym (ap (λ (m : Option Offered). option_map_or t m false) none) ∙ is))
    | inr (o, under) ↦
        let found = found_member (λ (m : Offered). key_eq m.key (record { 0 = k })) offered o under in
        (o, found.0, eqb-true o.key.0 k found.1, sym (ap (λ (m : Option Offered). option_map_or t m false) under) ∙ is)
  ]

  -- what was looked at and passes is awake
  awake_passes : (o : Offered) → Contains offered o → o.key.0 < l.below → t o ≡ true →
      Contains l.awake.keys o.key.0 × (passes o.key.0 ≡ true)
  awake_passes o there lt is =
      let awake = awake_if_ready gates row l o (known.each o there lt) (only o is) in (
        (btree_set_contains_iff nat_cmp_total exact_unsigned l.awake o.key.0).0 awake,
        ap (λ (m : Option Offered). option_map_or t m false) (under_is o there) ∙ is,
      )

  -- the first that is awake and passes is the first that passes
  pub awake_is : (k : ℕ) → IsStrictlySortedBy nat_cmp l.awake.keys → find passes l.awake.keys ≡ Some k →
      (o : Offered) × (find t offered ≡ Some o) × (offered_under offered o.key ≡ Some o) × (o.key.0 ≡ k)
  awake_is k sorted is =
      let at = found_member passes l.awake.keys k is in
      let o = passes_so k at.1 in
      let below = known.within.awake k ((btree_set_contains_iff nat_cmp_total exact_unsigned l.awake k).1 at.0) in
      let first : find t offered ≡ Some o.0 =
      first_is key_of t offered o.0 rising o.1 o.3 (λ x there passing. elim (cases_lt x.key.0 l.below) [
        | inl lt ↦
            let awake = awake_passes x there lt passing in
            omega (arith, o.2, found_least (λ (j : ℕ). j) passes l.awake.keys k (keys_rise l.awake.keys sorted) is x.key.0 awake.0 awake.1)
        | inr ge ↦ omega (arith, o.2, below, ge)
      ]) in
      (o.0, first, under_is o.0 o.1, o.2)

  pub awake_first : (k : ℕ) → IsStrictlySortedBy nat_cmp l.awake.keys → find passes l.awake.keys ≡ Some k →
      option_map (λ (o : Offered). o.key) (find t offered) ≡ Some (record { 0 = k })
  awake_first k sorted is =
      let o = awake_is k sorted is in ap (option_map (λ (m : Offered). m.key)) o.1 ∙ (λ i. Some (record { 0 = o.3 i }))

  -- and so is what stands under its key
  pub awake_under : (k : ℕ) → IsStrictlySortedBy nat_cmp l.awake.keys → find passes l.awake.keys ≡ Some k →
      offered_under offered (record { 0 = k }) ≡ find t offered
  awake_under k sorted is = let o = awake_is k sorted is in (λ i. offered_under offered (record { 0 = sym o.3 i })) ∙ o.2 ∙ sym o.1

  -- where none that is awake passes, none does of those that need not be looked at
  module _ (n settled : ℕ) (unseen : IsUnseen offered settled l n) (none : none_of t settled offered ≡ true) where
    unseen_none : ((k : ℕ) → Contains l.awake.keys k → passes k ≡ true → ⊥) → none_of t n offered ≡ true
    unseen_none not_so = all_of (λ o. not (t o)) (take n offered) (λ o there. not_from_false (t o) (elim (unseen.each o there) [
      | inl before ↦ not-true (t o) (all_each (λ m. not (t m)) (take settled offered) none o before)
      | inr lt ↦
          false_from_ne_true (t o)
          (λ is. let awake = awake_passes o (first_there offered n o there) lt is in not_so o.key.0 awake.0 awake.1)
    ]))

    pub unseen_found : find passes l.awake.keys ≡ None → none_of t n offered ≡ true
    unseen_found is = unseen_none (λ k there. none_found passes l.awake.keys is k there)

-- so many are settled or have lower keys
pub unseen_max : (offered : List Offered) (settled n : ℕ) (l : Looked) → settled ≤ length offered → n ≤ length offered →
    all_below key_of l.below (take n offered) ≡ true → IsUnseen offered settled l (max settled n)
unseen_max offered settled n l s_within n_within below = record { within = omega (arith, s_within, n_within); each = either }
  where
    either : (o : Offered) → Contains (take (max settled n) offered) o → Contains (take settled offered) o ⊎ (o.key.0 < l.below)
    either o there = elim (cases_lt settled n) [
      | inl less ↦
          let is : max settled n ≡ n = omega (arith, less) in
          inr (ltb-true o.key.0 l.below (all_each (λ (m : Offered). nat_lt (key_of m) l.below) (take n offered)
          below o (subst (λ j. Contains (take j offered) o) is there)))
      | inr more ↦
          let is : max settled n ≡ settled = omega (arith, more) in
          inl (subst (λ j. Contains (take j offered) o) is there)
    ]

pub unseen_by : (offered : List Offered) (settled : ℕ) (l : Looked) (kept : Option Looked) (n : ℕ) → kept ≡ Some l →
    IsUnseen offered settled l n → IsUnseenBy offered settled kept n
unseen_by offered settled l kept n is unseen = record {
  within = unseen.within;
  each = λ o there. elim (unseen.each o there) [ inl before ↦ inl before | inr lt ↦ inr (l, is, lt) ];
}
