-- Rows by their moments: what is owed by them rises, and has what is held in them.
-- `owed_rises` says that what is owed rises where the rows do, and `owed_held` that a frame is
-- owed exactly if its key is held at its moment. Rows stand in the order of their moments, and the
-- keys of each row in theirs, so frames come moment by moment. `Holds` is one change of one row:
-- `holds_with`, `holds_first` and `holds_dropped` say that writing, adding and removing a row
-- change no other key.
use Rattle.std.proofs.Common.{◌≡◌, ℕ, Bool, true, false, cond, ◌&&◌, ◌||◌, List, [], ◌∷◌, ◌++◌, Ordering, Less}
use Rattle.std.proofs.Common.{Equal, Greater, Option, Some, None, length, refl, sym, ap, ◌∙◌, inl, inr, arith}
use Rattle.std.specs.Prelude.{◌==◌, Result, Ok, Err, OnOk, OnErr}
use Rattle.std.specs.List.{list_any, list_all, AllByRecursion}
use Rattle.std.specs.List.Sorted.{IsStrictlySortedBy}
use Rattle.std.specs.Option.{option_map_or}
use Rattle.std.specs.Ordering.{is_lt, nat_cmp, ordering_then}
use Rattle.std.specs.BTreeMap.{is_at}
use Rattle.std.specs.BTreeSet.{BTreeSet}
use Rattle.std.specs.Map.{keys_of, lookup}
use Rattle.std.proofs.lemmas.Bool.{and_parts, and_from, cases_Bool, eqb-true, eq-eqb, false_from_ne_true, false≢true}
use Rattle.std.proofs.lemmas.Cmp.{tied_itself, nat_cmp_total}
use Rattle.std.proofs.lemmas.Map.Lookups.{exact_unsigned}
use Rattle.cast_types.specs.declared.names.DomainNo.{DomainNo}
use Rattle.cast_types.specs.Rising.{is_rising}
use Rattle.cast_timer.specs.declared.key.Moment.{Moment}
use Rattle.cast_timer.specs.declared.key.OwedKey.{OwedKey}
use Rattle.cast_timer.specs.declared.key.Owed.{Owed}
use Rattle.cast_timer.specs.Owed.{key_cmp, owed_cmp, key_eq}
use Rattle.cast_timer.specs.Rows.{Row, moment_cmp, moment_eq, is_of, frames_at, frames_of, owed_among, owed_in, row_at}
use Rattle.cast_timer.specs.Rows.{keys_at, has_key, has_some, is_filled, is_held, IsShaped, IsFilled, Changes, Holds}
use Rattle.cast_timer.specs.Index.{frame_eq, has}
use Rattle.cast_timer.specs.contracts.key.MomentOrd.TheImpl as moments
use Rattle.cast_timer.specs.contracts.key.OwedKeyOrd.TheImpl as keys
use Rattle.cast_timer.proofs.Derived.{key_order}
use Rattle.cast_timer.proofs.Index.{tests, key_tests}
use Rattle.cast_timer.proofs.Orders.{moment_total, before}
use Rattle.cast_timer.proofs.Owing.{key_itself, both_tie}

-- Moments

pub same_domain : (d e : DomainNo) → (d.0 == e.0) ≡ true → d ≡ e
same_domain d e same = ap (λ (n : ℕ). record { 0 = n }) (eqb-true d.0 e.0 same)

pub same_moment : (p q : Moment) → moment_eq p q ≡ true → p ≡ q
same_moment p q same =
    let parts = and_parts (p.due == q.due) (p.domain.0 == q.domain.0) same in
    let due = eqb-true p.due q.due parts.0 in
    let domain = same_domain p.domain q.domain parts.1 in
    λ i. record { due = due i; domain = domain i }

pub moment_itself : (p : Moment) → moment_eq p p ≡ true
moment_itself p = and_from (p.due == p.due) (p.domain.0 == p.domain.0) (eq-eqb p.due p.due refl) (eq-eqb p.domain.0 p.domain.0 refl)

tied_moment : (p q : Moment) → moment_cmp p q ≡ Equal → moment_eq p q ≡ true
tied_moment p q tie =
    let parts = both_tie (nat_cmp p.due q.due) (nat_cmp p.domain.0 q.domain.0) tie in
    and_from (p.due == q.due) (p.domain.0 == q.domain.0) (eq-eqb p.due q.due (exact_unsigned p.due q.due parts.0))
    (eq-eqb p.domain.0 q.domain.0 (exact_unsigned p.domain.0 q.domain.0 parts.1))

-- a test by the order is the test of equality
pub moment_tests : (p q : Moment) → is_at (moments.cmp-value.it p) q ≡ moment_eq p q
moment_tests p q =
    tests (moment_cmp p q) (moment_eq p q) (tied_moment p q)
    (λ same. ap (moment_cmp p) (sym (same_moment p q same)) ∙ tied_itself moment_total p)

-- so rows are looked up by moments, and keys are searched for by keys
pub looked_at : (p : Moment) (rows : List Row) → lookup (is_at (moments.cmp-value.it p)) rows ≡ row_at rows p
looked_at p rows = ap (λ (f : Moment → Bool). lookup f rows) (λ i q. moment_tests p q i)

pub contained : (k : OwedKey) (ks : List OwedKey) → list_any (is_at (keys.cmp-value.it k)) ks ≡ has_key k ks
contained k ks = ap (λ (f : OwedKey → Bool). list_any f ks) (λ i j. key_tests k j i)

-- Lists in order

module _ {A : Type 0} (R S : A → A → Ordering) (same : (a b : A) → R a b ≡ S a b) where
  before_sorted : (x : A) (xs : List A) → AllByRecursion (λ y. R x y ≡ Less) xs → list_all (λ y. is_lt (S x y)) xs ≡ true
  before_sorted x [] all = refl
  before_sorted x (y ∷ ys) all =
      and_from (is_lt (S x y)) (list_all (λ z. is_lt (S x z)) ys) (ap is_lt (sym (same x y) ∙ all.0)) (before_sorted x ys all.1)

  pub rising_sorted : (xs : List A) → IsStrictlySortedBy R xs → is_rising S xs ≡ true
  unfolding IsStrictlySortedBy
  rising_sorted [] sorted = refl
  rising_sorted (x ∷ xs) sorted =
      and_from (list_all (λ y. is_lt (S x y)) xs) (is_rising S xs) (before_sorted x xs sorted.0) (rising_sorted xs sorted.1)

pub keys_rise : (ks : List OwedKey) → IsStrictlySortedBy keys.cmp-value.it ks → is_rising key_cmp ks ≡ true
keys_rise ks = rising_sorted keys.cmp-value.it key_cmp key_order ks

pub moments_rise : (rows : List Row) → IsStrictlySortedBy moments.cmp-value.it (keys_of rows) → is_rising moment_cmp (keys_of rows) ≡ true
moments_rise rows = rising_sorted moments.cmp-value.it moment_cmp (λ p q. refl) (keys_of rows)

-- Rows after a moment

-- whether a moment is before all rows
abbrev pub leads : Moment → List Row → Bool
leads p rows = list_all (λ q. is_lt (moment_cmp p q)) (keys_of rows)

pub not_among : (p : Moment) (rows : List Row) → leads p rows ≡ true → row_at rows p ≡ None
not_among p [] all = refl
not_among p (r ∷ rs) all =
    let parts = and_parts (is_lt (moment_cmp p r.0)) (leads p rs) all in
    let other =
    false_from_ne_true (moment_eq p r.0)
    (λ same. false≢true (sym (ap is_lt (ap (moment_cmp p) (sym (same_moment p r.0 same)) ∙ tied_itself moment_total p)) ∙ parts.0)) in
    ap (λ b. cond b (Some r.1) (row_at rs p)) other ∙ not_among p rs parts.1

pub none_held : (rows : List Row) (p : Moment) (k : OwedKey) → row_at rows p ≡ None → is_held rows p k ≡ false
none_held rows p k none = ap (λ (o : Option (BTreeSet OwedKey)). has_key k (option_map_or (λ s. s.keys) o [])) none

-- the rows behind the first are in order too
pub rest_shaped : (r : Row) (rs : List Row) → IsShaped (r ∷ rs) → IsShaped rs
rest_shaped r rs shaped =
    let parts = and_parts (leads r.0 rs) (is_rising moment_cmp (keys_of rs)) shaped.moments in
    record {
      moments = parts.1;
      keys = λ p. elim (cases_Bool (moment_eq p r.0)) [
        | inl same ↦
            ap (λ (o : Option (BTreeSet OwedKey)). is_rising key_cmp (option_map_or (λ s. s.keys) o []))
            (ap (row_at rs) (same_moment p r.0 same) ∙ not_among r.0 rs parts.0)
        | inr other ↦
            ap (λ b. is_rising key_cmp (option_map_or (λ s. s.keys) (cond b (Some r.1) (row_at rs p)) [])) (sym other) ∙ shaped.keys p
      ];
    }

first_rises : (r : Row) (rs : List Row) → IsShaped (r ∷ rs) → is_rising key_cmp r.1.keys ≡ true
first_rises r rs shaped =
    ap (λ b. is_rising key_cmp (option_map_or (λ s. s.keys) (cond b (Some r.1) (row_at rs r.0)) [])) (sym (moment_itself r.0))
    ∙ shaped.keys r.0

-- What is owed

pub has_append : (xs ys : List Owed) (o : Owed) → has (xs ++ ys) o ≡ (has xs o || has ys o)
has_append [] ys o = refl
has_append (x ∷ xs) ys o = ap (λ b. frame_eq o x || b) (has_append xs ys o) ∙ group (frame_eq o x) (has xs o) (has ys o)
  where
    group : (a b c : Bool) → (a || (b || c)) ≡ ((a || b) || c)
    group true b c = refl
    group false b c = refl

pub has_frames : (p : Moment) (ks : List OwedKey) (o : Owed) → has (frames_at p ks) o ≡ ((o.due == p.due) && has_key o.key ks)
has_frames p [] o = none (o.due == p.due)
  where
    none : (b : Bool) → false ≡ (b && false)
    none true = refl
    none false = refl
has_frames p (k ∷ ks) o =
    ap (λ b. ((o.due == p.due) && key_eq o.key k) || b) (has_frames p ks o) ∙ spread (o.due == p.due) (key_eq o.key k) (has_key o.key ks)
  where
    spread : (a b c : Bool) → ((a && b) || (a && c)) ≡ (a && (b || c))
    spread true b c = refl
    spread false b c = refl

-- a frame is owed if its key is held at its moment
pub owed_has : (rows : List Row) (d : DomainNo) (o : Owed) → is_rising moment_cmp (keys_of rows) ≡ true →
    has (owed_among rows d) o ≡ is_held rows (record { due = o.due; domain = d }) o.key
owed_has [] d o rising = refl
owed_has (r ∷ rs) d o rising =
    let p : Moment = record { due = o.due; domain = d } in
    let parts = and_parts (leads r.0 rs) (is_rising moment_cmp (keys_of rs)) rising in
    has_append (frames_of d r) (owed_among rs d) o
    ∙ ap (λ b. has (frames_of d r) o || b) (owed_has rs d o parts.1)
    ∙ elim (cases_Bool (is_of d r.0)) [
      | inl its ↦
          ap (λ b. has (cond b (frames_at r.0 r.1.keys) []) o || is_held rs p o.key) its
          ∙ ap (λ b. b || is_held rs p o.key) (has_frames r.0 r.1.keys o)
          ∙ elim (cases_Bool (o.due == r.0.due)) [
            | inl then ↦
                let same : moment_eq p r.0 ≡ true = and_from (o.due == r.0.due) (d.0 == r.0.domain.0) then its in
                let none = none_held rs p o.key (ap (row_at rs) (same_moment p r.0 same) ∙ not_among r.0 rs parts.0) in
                (λ i. ((then i) && has_key o.key r.1.keys) || none i)
                ∙ nothing (has_key o.key r.1.keys)
                ∙ ap (λ b. has_key o.key (option_map_or (λ s. s.keys) (cond b (Some r.1) (row_at rs p)) [])) (sym same)
            | inr apart ↦
                ap (λ b. (b && has_key o.key r.1.keys) || is_held rs p o.key) apart
                ∙ ap (λ b. has_key o.key (option_map_or (λ s. s.keys) (cond (b && (d.0 == r.0.domain.0)) (Some r.1) (row_at rs p)) []))
                (sym apart)
          ]
      | inr other ↦
          ap (λ b. has (cond b (frames_at r.0 r.1.keys) []) o || is_held rs p o.key) other
          ∙ ap (λ b. has_key o.key (option_map_or (λ s. s.keys) (cond b (Some r.1) (row_at rs p)) []))
          (sym (ap (λ b. (o.due == r.0.due) && b) other ∙ never (o.due == r.0.due)))
    ]
  where
    nothing : (b : Bool) → (b || false) ≡ b
    nothing true = refl
    nothing false = refl

    never : (b : Bool) → (b && false) ≡ false
    never true = refl
    never false = refl

all_append : {A : Type 0} (test : A → Bool) (xs ys : List A) → list_all test xs ≡ true → list_all test ys ≡ true →
    list_all test (xs ++ ys) ≡ true
all_append test [] ys all more = more
all_append {A = A} test (x ∷ xs) ys all more =
    let parts = and_parts (test x) (list_all test xs) all in
    and_from (test x) (list_all test (xs ++ ys)) parts.0 (all_append test xs ys parts.1 more)

-- a frame of a moment is before those of later moments of its domain
module _ (p : Moment) (k : OwedKey) where
  sooner : (q : Moment) → is_of p.domain q ≡ true → is_lt (moment_cmp p q) ≡ true → nat_cmp p.due q.due ≡ Less
  sooner q its less = elim (nat_cmp p.due q.due) as (λ r. is_lt (ordering_then r (nat_cmp p.domain.0 q.domain.0)) ≡ true → r ≡ Less) [
    | Less ↦ λ h. refl
    | Equal ↦ λ h.
        absurd (false≢true
        (sym (ap is_lt (ap (nat_cmp p.domain.0) (sym (eqb-true p.domain.0 q.domain.0 its)) ∙ tied_itself nat_cmp_total p.domain.0)) ∙ h))
    | Greater ↦ λ h. absurd (false≢true h)
  ] less

  before_frames : (q : Moment) (js : List OwedKey) → nat_cmp p.due q.due ≡ Less →
      before (record { due = p.due; key = k }) (frames_at q js) ≡ true
  before_frames q [] less = refl
  before_frames q (j ∷ js) less =
      and_from (is_lt (owed_cmp (record { due = p.due; key = k }) (record { due = q.due; key = j })))
      (before (record { due = p.due; key = k }) (frames_at q js))
      (ap (λ r. is_lt (ordering_then r (key_cmp k j))) less)
      (before_frames q js less)

  before_rows : (rows : List Row) → leads p rows ≡ true → before (record { due = p.due; key = k }) (owed_among rows p.domain) ≡ true
  before_rows [] all = refl
  before_rows (r ∷ rs) all =
      let parts = and_parts (is_lt (moment_cmp p r.0)) (leads p rs) all in
      all_append (λ o. is_lt (owed_cmp (record { due = p.due; key = k }) o)) (frames_of p.domain r) (owed_among rs p.domain)
      (elim (cases_Bool (is_of p.domain r.0)) [
        | inl its ↦
            ap (λ b. before (record { due = p.due; key = k }) (cond b (frames_at r.0 r.1.keys) [])) its
            ∙ before_frames r.0 r.1.keys (sooner r.0 its parts.0)
        | inr other ↦ ap (λ b. before (record { due = p.due; key = k }) (cond b (frames_at r.0 r.1.keys) [])) other
      ])
      (before_rows rs parts.1)

-- frames of a moment rise with their keys
before_keys : (p : Moment) (k : OwedKey) (ks : List OwedKey) → list_all (λ j. is_lt (key_cmp k j)) ks ≡ true →
    before (record { due = p.due; key = k }) (frames_at p ks) ≡ true
before_keys p k [] all = refl
before_keys p k (j ∷ js) all =
    let parts = and_parts (is_lt (key_cmp k j)) (list_all (λ i. is_lt (key_cmp k i)) js) all in
    and_from (is_lt (owed_cmp (record { due = p.due; key = k }) (record { due = p.due; key = j })))
    (before (record { due = p.due; key = k }) (frames_at p js))
    (ap (λ r. is_lt (ordering_then r (key_cmp k j))) (tied_itself nat_cmp_total p.due) ∙ parts.0)
    (before_keys p k js parts.1)

pub rising_with : (p : Moment) (ks : List OwedKey) (os : List Owed) → is_rising key_cmp ks ≡ true → is_rising owed_cmp os ≡ true →
    ((k : OwedKey) → before (record { due = p.due; key = k }) os ≡ true) → is_rising owed_cmp (frames_at p ks ++ os) ≡ true
rising_with p [] os rising more all = more
rising_with p (k ∷ ks) os rising more all =
    let parts = and_parts (list_all (λ j. is_lt (key_cmp k j)) ks) (is_rising key_cmp ks) rising in
    and_from (before (record { due = p.due; key = k }) (frames_at p ks ++ os)) (is_rising owed_cmp (frames_at p ks ++ os))
    (all_append (λ o. is_lt (owed_cmp (record { due = p.due; key = k }) o)) (frames_at p ks) os (before_keys p k ks parts.0) (all k))
    (rising_with p ks os parts.1 more all)

owed_rises_among : (rows : List Row) (d : DomainNo) → IsShaped rows → is_rising owed_cmp (owed_among rows d) ≡ true
owed_rises_among [] d shaped = refl
owed_rises_among (r ∷ rs) d shaped =
    let rest = owed_rises_among rs d (rest_shaped r rs shaped) in
    let parts = and_parts (leads r.0 rs) (is_rising moment_cmp (keys_of rs)) shaped.moments in
    elim (cases_Bool (is_of d r.0)) [
      | inl its ↦
          ap (λ b. is_rising owed_cmp (cond b (frames_at r.0 r.1.keys) [] ++ owed_among rs d)) its
          ∙ rising_with r.0 r.1.keys (owed_among rs d) (first_rises r rs shaped) rest
          (λ k. ap (λ (e : DomainNo). before (record { due = r.0.due; key = k }) (owed_among rs e)) (same_domain d r.0.domain its)
          ∙ before_rows r.0 k rs parts.0)
      | inr other ↦ ap (λ b. is_rising owed_cmp (cond b (frames_at r.0 r.1.keys) [] ++ owed_among rs d)) other ∙ rest
    ]

pub owed_rises : (rows : List Row) (d : DomainNo) → IsShaped rows → is_rising owed_cmp (owed_in rows d) ≡ true
unfolding owed_in
owed_rises rows d shaped = owed_rises_among rows d shaped

pub owed_held : (rows : List Row) (d : DomainNo) (o : Owed) → IsShaped rows →
    has (owed_in rows d) o ≡ is_held rows (record { due = o.due; domain = d }) o.key
unfolding owed_in
owed_held rows d o shaped = owed_has rows d o shaped.moments

-- Changes

-- the row of a moment after one row is changed
pub row_moved : (p : Moment) (w : Option (BTreeSet OwedKey)) (old new : List Row) →
    ((q : Moment) →
    lookup (is_at (moments.cmp-value.it q)) new ≡ cond (is_at (moments.cmp-value.it p) q) w (lookup (is_at (moments.cmp-value.it q)) old)) →
    (q : Moment) → row_at new q ≡ cond (moment_eq p q) w (row_at old q)
row_moved p w old new is q = sym (looked_at q new) ∙ is q ∙ (λ i. cond (moment_tests p q i) w (looked_at q old i))

-- whether a set has a key after one key is put in or taken out
pub key_moved : (k : OwedKey) (b : Bool) (old new : List OwedKey) →
    ((j : OwedKey) →
    list_any (is_at (keys.cmp-value.it j)) new ≡ cond (is_at (keys.cmp-value.it k) j) b (list_any (is_at (keys.cmp-value.it j)) old)) →
    (j : OwedKey) → has_key j new ≡ cond (key_eq k j) b (has_key j old)
key_moved k b old new is j = sym (contained j new) ∙ is j ∙ (λ i. cond (key_tests k j i) b (contained j old i))

module _ (p : Moment) (old new : List Row) (s : Option (BTreeSet OwedKey))
    (moved : (q : Moment) → row_at new q ≡ cond (moment_eq p q) s (row_at old q)) where
  pub shaped_moved : IsStrictlySortedBy moments.cmp-value.it (keys_of new) → is_rising key_cmp (option_map_or (λ s. s.keys) s []) ≡ true →
      IsShaped old → IsShaped new
  shaped_moved sorted rising shaped = record {
    moments = moments_rise new sorted;
    keys = λ q. ap (λ (o : Option (BTreeSet OwedKey)). is_rising key_cmp (option_map_or (λ s. s.keys) o [])) (moved q)
        ∙ elim (cases_Bool (moment_eq p q)) [
          | inl here ↦ ap (λ b. is_rising key_cmp (option_map_or (λ s. s.keys) (cond b s (row_at old q)) [])) here ∙ rising
          | inr other ↦ ap (λ b. is_rising key_cmp (option_map_or (λ s. s.keys) (cond b s (row_at old q)) [])) other ∙ shaped.keys q
        ];
  }

  pub held_moved : (q : Moment) (j : OwedKey) →
      is_held new q j ≡ cond (moment_eq p q) (has_key j (option_map_or (λ s. s.keys) s [])) (is_held old q j)
  held_moved q j =
      ap (λ (o : Option (BTreeSet OwedKey)). has_key j (option_map_or (λ s. s.keys) o [])) (moved q)
      ∙ either (moment_eq p q)
    where
      either : (b : Bool) → has_key j (option_map_or (λ s. s.keys) (cond b s (row_at old q)) [])
          ≡ cond b (has_key j (option_map_or (λ s. s.keys) s [])) (is_held old q j)
      either true = refl
      either false = refl

  -- the other rows
  pub rest_moved : (q : Moment) → moment_eq p q ≡ false → row_at new q ≡ row_at old q
  rest_moved q other = moved q ∙ ap (λ b. cond b s (row_at old q)) other

  pub filled_moved : option_map_or (λ w. has_some w.keys) s true ≡ true → IsFilled old → IsFilled new
  filled_moved some filled q =
      ap (λ (o : Option (BTreeSet OwedKey)). option_map_or (λ w. has_some w.keys) o true) (moved q)
      ∙ elim (cases_Bool (moment_eq p q)) [
        | inl here ↦ ap (λ b. option_map_or (λ w. has_some w.keys) (cond b s (row_at old q)) true) here ∙ some
        | inr other ↦ ap (λ b. option_map_or (λ w. has_some w.keys) (cond b s (row_at old q)) true) other ∙ filled q
      ]

  -- where the row has one key more or less
  pub changes_moved : (k : OwedKey) (b : Bool) → IsStrictlySortedBy moments.cmp-value.it (keys_of new) →
      is_rising key_cmp (option_map_or (λ s. s.keys) s []) ≡ true →
      ((j : OwedKey) → has_key j (option_map_or (λ s. s.keys) s []) ≡ cond (key_eq k j) b (has_key j (keys_at old p))) →
      Changes p k b old new
  changes_moved k b sorted rising has_now = record {
    shaped = shaped_moved sorted rising;
    rest = rest_moved;
    held = λ q j. held_moved q j ∙ elim (cases_Bool (moment_eq p q)) [
      | inl here ↦
          ap (λ c. cond c (has_key j (option_map_or (λ s. s.keys) s [])) (is_held old q j)) here
          ∙ has_now j
          ∙ ap (λ (r : Moment). cond (key_eq k j) b (is_held old r j)) (same_moment p q here)
          ∙ ap (λ c. cond (c && key_eq k j) b (is_held old q j)) (sym here)
      | inr other ↦
          ap (λ c. cond c (has_key j (option_map_or (λ s. s.keys) s [])) (is_held old q j)) other
          ∙ ap (λ c. cond (c && key_eq k j) b (is_held old q j)) (sym other)
    ];
  }

-- what has a key has some
pub some_by : (k : OwedKey) (ks : List OwedKey) → has_key k ks ≡ true → has_some ks ≡ true
some_by k [] there = absurd (false≢true there)
some_by k (j ∷ js) there = refl

-- a moment at which a frame is held has a key
filled_held : (rows : List Row) (p : Moment) (k : OwedKey) → is_held rows p k ≡ true → is_filled rows p ≡ true
filled_held rows p k there = by_row (row_at rows p) there
  where
    by_row : (o : Option (BTreeSet OwedKey)) → has_key k (option_map_or (λ s. s.keys) o []) ≡ true →
        option_map_or (λ s. has_some s.keys) o true ≡ true
    by_row None there = refl
    by_row (Some s) there = some_by k s.keys there

-- where the moment that is changed has a key, if it is there
pub holds_filled : (p : Moment) (k : OwedKey) (b : Bool) (old new : List Row) → Changes p k b old new → is_filled new p ≡ true →
    Holds p k b old new
holds_filled p k b old new changes some = record {
  shaped = changes.shaped;
  held = changes.held;
  filled = λ filled q. elim (cases_Bool (moment_eq p q)) [
    | inl here ↦ ap (is_filled new) (sym (same_moment p q here)) ∙ some
    | inr other ↦ ap (λ (o : Option (BTreeSet OwedKey)). option_map_or (λ s. has_some s.keys) o true) (changes.rest q other) ∙ filled q
  ];
}

-- where a key is put in
pub holds_with : (p : Moment) (k : OwedKey) (old new : List Row) → Changes p k true old new → Holds p k true old new
holds_with p k old new changes =
    holds_filled p k true old new changes
    (filled_held new p k
    (changes.held p k ∙ ap (λ b. cond b true (is_held old p k)) (and_from (moment_eq p p) (key_eq k k) (moment_itself p) (key_itself k))))

-- where a key is put into the keys of a moment or taken out
pub changes_written : (p : Moment) (old new : List Row) (s w : BTreeSet OwedKey) (k : OwedKey) (b : Bool) →
    lookup (is_at (moments.cmp-value.it p)) old ≡ Some s →
    ((q : Moment) → lookup (is_at (moments.cmp-value.it q)) new ≡ cond (is_at (moments.cmp-value.it p) q) (Some w)
    (lookup (is_at (moments.cmp-value.it q)) old)) → IsStrictlySortedBy moments.cmp-value.it (keys_of new) →
    IsStrictlySortedBy keys.cmp-value.it w.keys →
    ((j : OwedKey) → list_any (is_at (keys.cmp-value.it j)) w.keys ≡ cond (is_at (keys.cmp-value.it k) j)
    b (list_any (is_at (keys.cmp-value.it j)) s.keys)) → Changes p k b old new
changes_written p old new s w k b at moved sorted rising has_now =
    changes_moved p old new (Some w) (row_moved p (Some w) old new moved) k b sorted (keys_rise w.keys rising)
    (λ j. key_moved k b s.keys w.keys has_now j
    ∙ ap (λ (o : Option (BTreeSet OwedKey)). cond (key_eq k j) b (has_key j (option_map_or (λ s. s.keys) o []))) (sym at ∙ looked_at p old))

-- where the first key of a moment is put in
pub holds_first : (p : Moment) (old new : List Row) (e w : BTreeSet OwedKey) (k : OwedKey) → row_at old p ≡ None → e.keys ≡ [] →
    ((q : Moment) → lookup (is_at (moments.cmp-value.it q)) new ≡ cond (is_at (moments.cmp-value.it p) q) (Some w)
    (lookup (is_at (moments.cmp-value.it q)) old)) → IsStrictlySortedBy moments.cmp-value.it (keys_of new) →
    IsStrictlySortedBy keys.cmp-value.it w.keys →
    ((j : OwedKey) → list_any (is_at (keys.cmp-value.it j)) w.keys ≡ cond (is_at (keys.cmp-value.it k) j)
    true (list_any (is_at (keys.cmp-value.it j)) e.keys)) → Holds p k true old new
holds_first p old new e w k free empty moved sorted rising has_now =
    holds_with p k old new
    (changes_moved p old new (Some w) (row_moved p (Some w) old new moved) k true sorted (keys_rise w.keys rising)
    (λ j. key_moved k true e.keys w.keys has_now j
    ∙ ap (λ ks. cond (key_eq k j) true (has_key j ks)) empty
    ∙ ap (λ (o : Option (BTreeSet OwedKey)). cond (key_eq k j) true (has_key j (option_map_or (λ s. s.keys) o []))) (sym free)))

-- where a moment that has no key is taken out
pub holds_dropped : (p : Moment) (k : OwedKey) (old between new : List Row) → Changes p k false old between →
    ((j : OwedKey) → is_held between p j ≡ false) →
    ((q : Moment) → lookup (is_at (moments.cmp-value.it q)) new ≡ cond (is_at (moments.cmp-value.it p) q) None
    (lookup (is_at (moments.cmp-value.it q)) between)) → IsStrictlySortedBy moments.cmp-value.it (keys_of new) → Holds p k false old new
holds_dropped p k old between new changes none moved sorted =
    let rows = row_moved p None between new moved in
    record {
      shaped = λ shaped. shaped_moved p between new None rows sorted refl (changes.shaped shaped);
      filled = λ filled q.
          ap (λ (o : Option (BTreeSet OwedKey)). option_map_or (λ s. has_some s.keys) o true) (rows q)
          ∙ elim (cases_Bool (moment_eq p q)) [
            | inl here ↦ ap (λ b. option_map_or (λ s. has_some s.keys) (cond b None (row_at between q)) true) here
            | inr other ↦
                ap (λ b. option_map_or (λ s. has_some s.keys) (cond b None (row_at between q)) true) other
                ∙ ap (λ (o : Option (BTreeSet OwedKey)). option_map_or (λ s. has_some s.keys) o true) (changes.rest q other)
                ∙ filled q
          ];
      held = λ q j.
          held_moved p between new None rows q j
          ∙ elim (cases_Bool (moment_eq p q)) [
            | inl here ↦
                ap (λ b. cond b false (is_held between q j)) here
                ∙ sym (ap (λ (r : Moment). is_held between r j) (sym (same_moment p q here)) ∙ none j)
            | inr other ↦ ap (λ b. cond b false (is_held between q j)) other
          ]
          ∙ changes.held q j;
    }

-- a moment whose keys are some has one
pub some_left : (p : Moment) (old new : List Row) (w : BTreeSet OwedKey) →
    ((q : Moment) → lookup (is_at (moments.cmp-value.it q)) new ≡ cond (is_at (moments.cmp-value.it p) q) (Some w)
    (lookup (is_at (moments.cmp-value.it q)) old)) → (length w.keys ≡ 0 → ⊥) → is_filled new p ≡ true
some_left p old new w moved some =
    ap (λ (o : Option (BTreeSet OwedKey)). option_map_or (λ s. has_some s.keys) o true) (row_moved p (Some w) old new moved p)
    ∙ ap (λ b. option_map_or (λ s. has_some s.keys) (cond b (Some w) (row_at old p)) true) (moment_itself p)
    ∙ by_length w.keys some
  where
    by_length : (ks : List OwedKey) → (length ks ≡ 0 → ⊥) → has_some ks ≡ true
    by_length [] some = absurd (some refl)
    by_length (k ∷ ks) some = refl

-- a moment whose keys are none has no frame
pub none_left : (p : Moment) (old new : List Row) (w : BTreeSet OwedKey) →
    ((q : Moment) → lookup (is_at (moments.cmp-value.it q)) new ≡ cond (is_at (moments.cmp-value.it p) q) (Some w)
    (lookup (is_at (moments.cmp-value.it q)) old)) → length w.keys ≡ 0 → (k : OwedKey) → is_held new p k ≡ false
none_left p old new w moved none k =
    held_moved p old new (Some w) (row_moved p (Some w) old new moved) p k
    ∙ ap (λ b. cond b (has_key k w.keys) (is_held old p k)) (moment_itself p)
    ∙ empty w.keys none
  where
    empty : (ks : List OwedKey) → length ks ≡ 0 → has_key k ks ≡ false
    empty [] none = refl
    empty (j ∷ js) none = absurd (omega arith)

-- what holds anyway holds with an error
pub on_err : {X E P : Type 0} (r : Result X E) → P → OnErr r P
on_err (Ok x) p = tt
on_err (Err e) p = p

-- two things that hold with one result
pub on_ok_both : {X E P Q R : Type 0} (r : Result X E) → (P → Q → R) → OnOk r P → OnOk r Q → OnOk r R
on_ok_both (Ok x) f p q = f p q
on_ok_both (Err e) f p q = tt

pub on_err_both : {X E P Q R : Type 0} (r : Result X E) → (P → Q → R) → OnErr r P → OnErr r Q → OnErr r R
on_err_both (Ok x) f p q = tt
on_err_both (Err e) f p q = f p q
