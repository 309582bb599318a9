-- What an index of ids says of receipts once one is added, and once one is taken out.
use Rattle.std.proofs.Common.{◌≡◌, ◌≢◌, ℕ, zero, suc, ◌<◌, ◌≤◌, Bool, true, false, cond, ◌&&◌, ◌||◌, List, [], ◌∷◌, ◌++◌}
use Rattle.std.proofs.Common.{length, get_or, Option, Some, None, refl, sym, ap, subst, ◌∙◌, inl, inr, arith, Contains}
use Rattle.std.specs.Prelude.{◌==◌, nat_lt}
use Rattle.std.specs.Option.{IfNone, IfSome, option_map}
use Rattle.std.specs.List.{list_any, list_all, find, remove}
use Rattle.std.proofs.lemmas.Bool.{cases_Bool, and_parts, and_from, or_cases, false≢true}
use Rattle.std.proofs.lemmas.Bool.{false_from_ne_true, ltb-true, eqb-true, eq-eqb, ne_eqb}
use Rattle.cast_types.specs.declared.names.Key.{Key}
use Rattle.cast_types.specs.declared.names.Uid.{Uid}
use Rattle.cast_types.specs.declared.source.Source.{Source}
use Rattle.cast_types.specs.Names.{uid_eq}
use Rattle.cast_types.specs.Sources.{source_of}
use Rattle.cast_types.proofs.Orders.{same_uid, uid_itself}
use Rattle.cast_types.proofs.Contains.{contains_here, contains_later}
use Rattle.cast_index.specs.declared.entry.Entry.{Entry}
use Rattle.cast_index.specs.Index.{has, is_behind, HasCount, IsCountRange, IsFirstBehind, IsFirstOf}
use Rattle.cast_index.proofs.Rises.{above_at}
use Rattle.cast_store.specs.declared.receipt.Receipt.{Receipt}
use Rattle.cast_store.specs.Lines.{number_of, key_of, is_numbered, slot_under, slot_of, is_named, HasAbcast, HasAbcastRange}
use Rattle.cast_store.specs.Lines.{HasAbcastsOf, HasIdsOf, HasNoAbcast, HasNoneOf, IsFirstReceipt, IsReceivedOf, IsLedByReceipts}
use Rattle.cast_store.proofs.Numbers.{first_parts}

same_key : (r : Receipt) (k : Key) → r.number ≡ k.0 → key_of r ≡ k
same_key r k same = ap (λ n. record { 0 = n }) same

or_more : (a b : Bool) → b ≡ true → (a || b) ≡ true
or_more true b h = refl
or_more false b h = h

any_contained : (test : Receipt → Bool) (xs : List Receipt) (r : Receipt) → Contains xs r → test r ≡ true → list_any test xs ≡ true
any_contained test xs r (k, lt, at) passes = go xs k lt at
  where
    go : (ys : List Receipt) (i : ℕ) → i < length ys → get_or ys i r ≡ r → list_any test ys ≡ true
    go [] i lt at = absurd (omega (arith, lt))
    go (y ∷ ys) zero lt at = ap (λ b. b || list_any test ys) (ap test at ∙ passes)
    go (y ∷ ys) (suc i) lt at = or_more (test y) (list_any test ys) (go ys i (omega (arith, lt)) at)

-- Of the receipts that pass a test

module _ (wanted : Receipt → Bool) where
  -- whether a receipt passes, and an id and a key are its
  abbrev pub is_wanted : Uid → Key → Receipt → Bool
  is_wanted u k r = wanted r && is_named u k r

  -- an index has the ids of those that pass
  abbrev pub HasWanted : List Entry → List Receipt → Type 0
  HasWanted entries receipts = (u : Uid) (k : Key) → has entries u k ≡ list_any (is_wanted u k) receipts

  number_is : (u : Uid) (k : Key) (r : Receipt) → is_wanted u k r ≡ true → r.number ≡ k.0
  number_is u k r named =
      eqb-true r.number k.0 (and_parts (uid_eq r.id u) (r.number == k.0) (and_parts (wanted r) (is_named u k r) named).1).1

  not_wanted : (u : Uid) (k : Key) (r : Receipt) → r.number ≢ k.0 → is_wanted u k r ≡ false
  not_wanted u k r differ = false_from_ne_true (is_wanted u k r) (λ named. differ (number_is u k r named))

  -- One more

  any_push : (u : Uid) (k : Key) (xs : List Receipt) (x : Receipt) →
      list_any (is_wanted u k) (xs ++ x ∷ []) ≡ cond (is_wanted u k x) true (list_any (is_wanted u k) xs)
  any_push u k [] x = or_cond (is_wanted u k x)
    where
      or_cond : (b : Bool) → (b || false) ≡ cond b true false
      or_cond true = refl
      or_cond false = refl
  any_push u k (y ∷ ys) x =
      ap (λ b. is_wanted u k y || b) (any_push u k ys x) ∙ swap (is_wanted u k y) (is_wanted u k x) (list_any (is_wanted u k) ys)
    where
      swap : (a b c : Bool) → (a || cond b true c) ≡ cond b true (a || c)
      swap true true c = refl
      swap true false c = refl
      swap false b c = refl

  pub ids_push : (old new : List Entry) (xs : List Receipt) (x : Receipt) → HasWanted old xs →
      ((u : Uid) (k : Key) → has new u k ≡ cond (is_wanted u k x) true (has old u k)) → HasWanted new (xs ++ x ∷ [])
  ids_push old new xs x ids named u k = named u k ∙ ap (λ b. cond (is_wanted u k x) true b) (ids u k) ∙ sym (any_push u k xs x)

  -- One less

  -- no receipt behind has the number of the first
  apart_any : (k : Key) (xs : List Receipt) → list_all (λ s. nat_lt k.0 s.number) xs ≡ true → (u : Uid) →
      list_any (is_wanted u k) xs ≡ false
  apart_any k [] all u = refl
  apart_any k (x ∷ xs) all u =
      let parts = and_parts (nat_lt k.0 x.number) (list_all (λ s. nat_lt k.0 s.number) xs) all in
      let lt = ltb-true k.0 x.number parts.0 in
      ap (λ b. b || list_any (is_wanted u k) xs) (not_wanted u k x (λ same. omega (arith, same, lt)))
      ∙ apart_any k xs parts.1 u

  any_remove : (next : ℕ) (xs : List Receipt) (i : ℕ) (d : Receipt) → is_numbered next xs ≡ true → i < length xs → (u : Uid) (k : Key) →
      cond (is_wanted u k (get_or xs i d)) false (list_any (is_wanted u k) xs) ≡ list_any (is_wanted u k) (remove xs i)
  any_remove next [] i d rises lt u k = absurd (omega (arith, lt))
  any_remove next (x ∷ xs) zero d rises lt u k =
      let parts = first_parts next x xs rises in
      elim (cases_Bool (is_wanted u k x)) [
        | inl here ↦
            let keys = same_key x k (number_is u k x here) in
            ap (λ b. cond b false (b || list_any (is_wanted u k) xs)) here
            ∙ sym (ap (λ q. list_any (is_wanted u q) xs) (sym keys) ∙ apart_any (key_of x) xs parts.1 u)
        | inr other ↦ ap (λ b. cond b false (b || list_any (is_wanted u k) xs)) other
      ]
  any_remove next (x ∷ xs) (suc i) d rises lt u k =
      let parts = first_parts next x xs rises in
      let r = get_or xs i d in
      let above = above_at number_of x.number xs i d parts.1 (omega (arith, lt)) in
      elim (cases_Bool (is_wanted u k x)) [
        | inl here ↦
            let same = number_is u k x here in
            let other = not_wanted u k r (λ back. omega (arith, back, same, above)) in
            ap (λ b. cond b false (is_wanted u k x || list_any (is_wanted u k) xs)) other
            ∙ ap (λ b. b || list_any (is_wanted u k) xs) here
            ∙ sym (ap (λ b. b || list_any (is_wanted u k) (remove xs i)) here)
        | inr other ↦
            ap (λ b. cond (is_wanted u k r) false (b || list_any (is_wanted u k) xs)) other
            ∙ any_remove next xs i d parts.2 (omega (arith, lt)) u k
            ∙ sym (ap (λ b. b || list_any (is_wanted u k) (remove xs i)) other)
      ]

  pub ids_remove : (next : ℕ) (old new : List Entry) (xs : List Receipt) (i : ℕ) (d : Receipt) → is_numbered next xs ≡ true →
      i < length xs → HasWanted old xs → ((u : Uid) (k : Key) → has new u k ≡ cond (is_wanted u k (get_or xs i d)) false (has old u k)) →
      HasWanted new (remove xs i)
  ids_remove next old new xs i d rises lt ids unnamed u k =
      unnamed u k ∙ ap (λ b. cond (is_wanted u k (get_or xs i d)) false b) (ids u k) ∙ any_remove next xs i d rises lt u k

  -- What an index has

  -- is there
  wanted_of : (xs : List Receipt) (u : Uid) (k : Key) → list_any (is_wanted u k) xs ≡ true →
      (r : Receipt) × Contains xs r × (key_of r ≡ k) × (r.id ≡ u) × (wanted r ≡ true)
  wanted_of [] u k there = absurd (false≢true there)
  wanted_of (x ∷ xs) u k there = elim (or_cases (is_wanted u k x) (list_any (is_wanted u k) xs) there) [
    | inl here ↦
        let parts = and_parts (wanted x) (is_named u k x) here in
        let ids = and_parts (uid_eq x.id u) (x.number == k.0) parts.1 in
        (x, contains_here x xs, same_key x k (number_is u k x here), same_uid x.id u ids.0, parts.0)
    | inr later ↦ let r = wanted_of xs u k later in (r.0, contains_later r.0 x xs r.1, r.2, r.3, r.4)
  ]

  -- and all that is there and passes it has
  has_wanted : (xs : List Receipt) (r : Receipt) → Contains xs r → wanted r ≡ true → list_any (is_wanted r.id (key_of r)) xs ≡ true
  has_wanted xs r there passes =
      any_contained (is_wanted r.id (key_of r)) xs r there
      (and_from (wanted r) (is_named r.id (key_of r) r)
      passes (and_from (uid_eq r.id r.id) (r.number == r.number) (uid_itself r.id) (eq-eqb r.number r.number refl)))

-- no receipt has the next number
pub not_named : (next : ℕ) (xs : List Receipt) (u : Uid) → is_numbered next xs ≡ true →
    list_any (is_named u (record { 0 = next })) xs ≡ false
not_named next [] u rises = refl
not_named next (x ∷ xs) u rises =
    let parts = first_parts next x xs rises in
    ap (λ b. b || list_any (is_named u (record { 0 = next })) xs)
    (not_wanted (λ _. true) u (record { 0 = next }) x (λ same. omega (arith, same, parts.0)))
    ∙ not_named next xs u parts.2

-- what an index of all has is there
receipt_of : (xs : List Receipt) (u : Uid) (k : Key) → list_any (is_named u k) xs ≡ true →
    (r : Receipt) × Contains xs r × (key_of r ≡ k) × (r.id ≡ u)
receipt_of xs u k there = let r = wanted_of (λ _. true) xs u k there in (r.0, r.1, r.2, r.3)

has_receipt : (r : Receipt) (xs : List Receipt) → Contains xs r → list_any (is_named r.id (key_of r)) xs ≡ true
has_receipt r xs there = has_wanted (λ _. true) xs r there refl

-- The first of an id

pub none_of : (xs : List Receipt) (u : Uid) → ((k : Key) → list_any (is_named u k) xs ≡ false) → slot_of xs u ≡ None
none_of xs u none = ap (λ (o : Option Receipt). option_map (λ r. r.slot) o) (go xs none)
  where
    go : (ys : List Receipt) → ((k : Key) → list_any (is_named u k) ys ≡ false) → find (λ r. uid_eq r.id u) ys ≡ None
    go [] none = refl
    go (y ∷ ys) none = elim (cases_Bool (uid_eq y.id u)) [
      | inl same ↦
          absurd (false≢true (sym (none (key_of y)) ∙ ap (λ b. b || list_any (is_named u (key_of y)) ys)
          (and_from (uid_eq y.id u) (y.number == y.number) same (eq-eqb y.number y.number refl))))
      | inr other ↦
          ap (λ b. cond b (Some y) (find (λ r. uid_eq r.id u) ys)) other
          ∙ go ys (λ k. later (is_named u k y) (list_any (is_named u k) ys) (none k))
    ]
      where
        later : (a b : Bool) → (a || b) ≡ false → b ≡ false
        later true b h = absurd (false≢true (sym h))
        later false b h = h

pub first_of : (next : ℕ) (xs : List Receipt) (u : Uid) (k : Key) → is_numbered next xs ≡ true → list_any (is_named u k) xs ≡ true →
    ((j : Key) → list_any (is_named u j) xs ≡ true → k.0 ≤ j.0) → slot_under xs k.0 ≡ slot_of xs u
first_of next xs u k rises there least = ap (λ (o : Option Receipt). option_map (λ r. r.slot) o) (go xs rises there least)
  where
    behind : (x : Receipt) (ys : List Receipt) → list_all (λ s. nat_lt x.number s.number) ys ≡ true → list_any (is_named u k) ys ≡ true →
        x.number < k.0
    behind x [] above named = absurd (false≢true named)
    behind x (y ∷ ys) above named =
        let parts = and_parts (nat_lt x.number y.number) (list_all (λ s. nat_lt x.number s.number) ys) above in
        elim (or_cases (is_named u k y) (list_any (is_named u k) ys) named) [
          | inl here ↦
              let lt = ltb-true x.number y.number parts.0 in
              let same = eqb-true y.number k.0 (and_parts (uid_eq y.id u) (y.number == k.0) here).1 in
              omega (arith, lt, same)
          | inr later ↦ behind x ys parts.1 later
        ]

    go : (ys : List Receipt) → is_numbered next ys ≡ true → list_any (is_named u k) ys ≡ true →
        ((j : Key) → list_any (is_named u j) ys ≡ true → k.0 ≤ j.0) → find (λ r. r.number == k.0) ys ≡ find (λ r. uid_eq r.id u) ys
    go [] rises there least = absurd (false≢true there)
    go (y ∷ ys) rises there least =
        let parts = first_parts next y ys rises in
        elim (cases_Bool (uid_eq y.id u)) [
          | inl same ↦
              let most =
              least (key_of y) (ap (λ b. b || list_any (is_named u (key_of y)) ys)
              (and_from (uid_eq y.id u) (y.number == y.number) same (eq-eqb y.number y.number refl))) in
              let key : (y.number == k.0) ≡ true = elim (or_cases (is_named u k y) (list_any (is_named u k) ys) there) [
                | inl here ↦ (and_parts (uid_eq y.id u) (y.number == k.0) here).1
                | inr later ↦ let lt = behind y ys parts.1 later in absurd (omega (arith, lt, most))
              ] in
              ap (λ b. cond b (Some y) (find (λ r. r.number == k.0) ys)) key
              ∙ sym (ap (λ b. cond b (Some y) (find (λ r. uid_eq r.id u) ys)) same)
          | inr other ↦
              let later : list_any (is_named u k) ys ≡ true = elim (or_cases (is_named u k y) (list_any (is_named u k) ys) there) [
                | inl here ↦ absurd (false≢true (sym other ∙ (and_parts (uid_eq y.id u) (y.number == k.0) here).0))
                | inr more ↦ more
              ] in
              let lt = behind y ys parts.1 later in
              ap (λ b. cond b (Some y) (find (λ r. r.number == k.0) ys)) (ne_eqb y.number k.0 (λ same. omega (arith, same, lt)))
              ∙ go ys parts.2 later (λ j named. least j (or_more (is_named u j y) (list_any (is_named u j) ys) named))
              ∙ sym (ap (λ b. cond b (Some y) (find (λ r. uid_eq r.id u) ys)) other)
        ]

-- Those that no receipt of their source stands before

-- of the source of each id that stands not behind a source, an id with no greater count fails
abbrev pub HasFailed : (Uid → Type 0) → List Entry → Option Source → Type 0
HasFailed Fails entries after =
    (u : Uid) (k : Key) → has entries u k ≡ true → is_behind after u ≡ false →
    (v : Uid) × (j : Key) × (has entries v j ≡ true) × (source_of v ≡ source_of u) × (v.count ≤ u.count) × Fails v

pub one_more : (Fails : Uid → Type 0) (entries : List Entry) (after : Option Source) (id : Uid) → IsFirstBehind entries after id →
    Fails id → HasFailed Fails entries after → HasFailed Fails entries (Some (source_of id))
one_more Fails entries after id first fails failed u k there not_behind = elim (cases_Bool (is_behind after u)) [
  | inl behind ↦ elim (first.least u k there behind) [
    | inl same ↦ (id, first.there.0, first.there.1, sym same.0, same.1, fails)
    | inr further ↦ absurd (false≢true (sym not_behind ∙ further))
  ]
  | inr before ↦ failed u k there before
]

pub all_led : (Fails : Uid → Type 0) (entries : List Entry) (receipts : List Receipt) (after : Option Source) → HasIdsOf entries receipts →
    ((u : Uid) (k : Key) → has entries u k ≡ true → is_behind after u ≡ false) → HasFailed Fails entries after →
    IsLedByReceipts Fails receipts
all_led Fails entries receipts after ids none failed r there =
    let named = ids r.id (key_of r) ∙ has_receipt r receipts there in
    let v = failed r.id (key_of r) named (none r.id (key_of r) named) in
    let s = receipt_of receipts v.0 v.1 (sym (ids v.0 v.1) ∙ v.2) in
    let at = s.3 in
    (s.0, s.1, ap source_of at ∙ v.3, subst (λ (w : Uid). w.count ≤ r.id.count) (sym at) v.4, subst Fails (sym at) v.5)

first_received : (Passes : Uid → Type 0) (entries : List Entry) (receipts : List Receipt) (id : Uid) (key : Key) →
    HasIdsOf entries receipts → has entries id key ≡ true → Passes id → IsReceivedOf Passes receipts key
first_received Passes entries receipts id key ids there passes =
    let r = receipt_of receipts id key (sym (ids id key) ∙ there) in
    (r.0, r.1, r.2, subst Passes (sym r.3) passes)

pub some_received : (Passes : Uid → Type 0) (entries : List Entry) (receipts : List Receipt) (id : Uid) (o : Option Key) →
    HasIdsOf entries receipts → IfSome o (λ key. (has entries id key ≡ true) × ((k : Key) → has entries id k ≡ true → key.0 ≤ k.0)) →
    Passes id → IfSome o (IsReceivedOf Passes receipts)
some_received Passes entries receipts id None ids found passes = tt
some_received Passes entries receipts id (Some key) ids found passes = first_received Passes entries receipts id key ids found.0 passes

-- The first of a source

pub first_of_received : (entries : List Entry) (receipts : List Receipt) (s : Source) (o : Option (Uid × Key)) → HasIdsOf entries receipts →
    IfSome o (IsFirstOf entries s) → IfSome o (IsFirstReceipt receipts s)
first_of_received entries receipts s None ids found = tt
first_of_received entries receipts s (Some first) ids found =
    let r = receipt_of receipts first.0 first.1 (sym (ids first.0 first.1) ∙ found.there) in
    record {
      there = (r.0, r.1, r.3, r.2);
      own = found.own;
      least = λ x there its. found.least x.id (key_of x) (ids x.id (key_of x) ∙ has_receipt x receipts there) its;
    }

pub none_of_received : (entries : List Entry) (receipts : List Receipt) (s : Source) (o : Option (Uid × Key)) → HasIdsOf entries receipts →
    IfNone o ((u : Uid) (k : Key) → has entries u k ≡ true → source_of u ≢ s) → IfNone o (HasNoneOf receipts s)
none_of_received entries receipts s None ids none = λ r there. none r.id (key_of r) (ids r.id (key_of r) ∙ has_receipt r receipts there)
none_of_received entries receipts s (Some first) ids none = tt

-- The counts of the ABCASTs of a source

-- an id of a source that an index of the ABCASTs has is that of a receipt
counted : (entries : List Entry) (receipts : List Receipt) (s : Source) (n : ℕ) → HasAbcastsOf entries receipts → HasCount entries s n →
    HasAbcast receipts s n
counted entries receipts s n abcasts (u, k, there, its, is) =
    let r = wanted_of (λ r. r.atomic) receipts u k (sym (abcasts u k) ∙ there) in
    (r.0, r.1, r.4, ap source_of r.3 ∙ its, ap (λ (v : Uid). v.count) r.3 ∙ is)

pub range_received : (entries : List Entry) (receipts : List Receipt) (s : Source) (o : Option (ℕ × ℕ)) → HasAbcastsOf entries receipts →
    IfSome o (IsCountRange entries s) → IfSome o (HasAbcastRange receipts s)
range_received entries receipts s None abcasts counts = tt
range_received entries receipts s (Some range) abcasts counts = record {
  least = counted entries receipts s range.0 abcasts counts.least;
  greatest = counted entries receipts s range.1 abcasts counts.greatest;
  within = λ r there atomic its.
      counts.within r.id (key_of r) (abcasts r.id (key_of r) ∙ has_wanted (λ r. r.atomic) receipts r there atomic) its;
}

pub none_received : (entries : List Entry) (receipts : List Receipt) (s : Source) (o : Option (ℕ × ℕ)) → HasAbcastsOf entries receipts →
    IfNone o ((u : Uid) (k : Key) → has entries u k ≡ true → source_of u ≢ s) → IfNone o (HasNoAbcast receipts s)
none_received entries receipts s None abcasts none = λ r there its.
    false_from_ne_true r.atomic
    (λ atomic. none r.id (key_of r) (abcasts r.id (key_of r) ∙ has_wanted (λ r. r.atomic) receipts r there atomic) its)
none_received entries receipts s (Some range) abcasts none = tt
