-- Free messages are let go one by one, whichever comes first.
use Rattle.std.proofs.Common.{◌≡◌, ℕ, zero, suc, ◌<◌, ◌≤◌, Bool, true, false, cond, not, ◌&&◌, ◌||◌, List, []}
use Rattle.std.proofs.Common.{◌∷◌, map, length, Contains, Option, Some, None, refl, sym, ap, ◌∙◌, inl, inr, arith}
use Rattle.std.specs.Prelude.{nat_lt, nat_le, filter, get_or}
use Rattle.std.specs.List.{fold}
use Rattle.std.specs.Option.{IfNone}
use Rattle.std.proofs.lemmas.Bool.{cases_Bool, false≢true, and_parts, and_from, or_cases, eqb-true}
use Rattle.std.proofs.lemmas.Bool.{eq-eqb, ltb-true, lt-ltb, leb-true, le-leb, false_from_ne_true}
use Rattle.cast_types.specs.declared.names.Key.{Key}
use Rattle.cast_types.specs.declared.names.SiteNo.{SiteNo}
use Rattle.cast_types.specs.declared.names.Uid.{Uid}
use Rattle.cast_types.specs.declared.source.Source.{Source}
use Rattle.cast_types.specs.Names.{site_eq}
use Rattle.cast_types.specs.Sources.{source_cmp, source_of}
use Rattle.cast_message.specs.declared.message.Received.{Received}
use Rattle.cast_message.specs.Receipts.{key_eq}
use Rattle.cast_store.specs.Ids.{IsKeptOf, IsLedBy, KeepsFirst, KeepsNoneOf}
use Rattle.cast_ready.specs.declared.row.Row.{Row}
use Rattle.cast_ready.specs.declared.offered.Offered.{Offered}
use Rattle.cast_ready.specs.Ready.{is_member}
use Rattle.cast_ready.specs.Rows.{standing_in, done_in, awaits_row}
use Rattle.cast_delay.specs.Queue.{is_awaited}
use Rattle.cast_stable.specs.Acks.{Acks, is_stable_among, is_stable_in, others_in, told_count, least_acked}
use Rattle.cast_rules.specs.Rules.Release as release
use Rattle.cast_domain.specs.Records.{Records}
use Rattle.cast_domain.specs.FlushCalls.{is_open_in}
use Rattle.cast_domain.specs.ReleaseCalls.{release_in}
use Rattle.cast_domain.specs.Calls.{records}
use Rattle.cast_domain.specs.RestCalls.{resting_records}
use Rattle.cast_domain.specs.Freed.{AreNotFree, AreNotFreeBut}
use Rattle.cast_domain.proofs.Releases.{fold_release, is_key, filter_twice, filter_same}
use Rattle.cast_types.proofs.Bools.{neither}
use Rattle.cast_types.proofs.Orders.{tie_self, tie_same}
use Rattle.cast_types.proofs.Sources.{source_exact, source_total}
use Rattle.cast_delay.proofs.Finds.{kept_parts}
use Rattle.std.specs.Ordering.{eq_by_cmp}

-- a message is free
abbrev pub free : Records → Uid → Bool
free r u = release.is_free records resting_records r u

-- Which keys are those of free messages

module _ {X : Type 0} (key_of : X → Key) where
  abbrev but : List X → Key → List X
  but xs key = filter (λ x. not (key_eq (key_of x) key)) xs

  fold_but : (keys : List Key) (xs : List X) → fold but xs keys ≡ filter (λ x. not (is_key keys (key_of x))) xs
  fold_but [] xs = sym (all xs)
    where
      all : (ys : List X) → filter (λ y. not (is_key [] (key_of y))) ys ≡ ys
      all [] = refl
      all (y ∷ ys) = ap (λ rest. y ∷ rest) (all ys)
  fold_but (key ∷ keys) xs =
      fold_but keys (but xs key)
      ∙ filter_twice (λ x. not (is_key keys (key_of x))) (λ x. not (key_eq (key_of x) key)) xs
      ∙ filter_same (λ x. not (key_eq (key_of x) key) && not (is_key keys (key_of x))) (λ x. not (is_key (key ∷ keys) (key_of x)))
      xs (λ x at. neither (key_eq (key_of x) key) (is_key keys (key_of x)))

  -- to take a key out first changes nothing of what is left once all are
  but_first : (keys later : List Key) (key : Key) → ((k : Key) → is_key keys k ≡ (key_eq k key || is_key later k)) → (xs : List X) →
      fold but (but xs key) later ≡ fold but xs keys
  but_first keys later key same xs =
      fold_but later (but xs key)
      ∙ filter_twice (λ x. not (is_key later (key_of x))) (λ x. not (key_eq (key_of x) key)) xs
      ∙ filter_same (λ x. not (key_eq (key_of x) key) && not (is_key later (key_of x))) (λ x. not (is_key keys (key_of x))) xs
      (λ x at. neither (key_eq (key_of x) key) (is_key later (key_of x)) ∙ ap not (sym (same (key_of x))))
      ∙ sym (fold_but keys xs)

abbrev keys_in : (Received → Bool) → List Received → List Key
keys_in test xs = map (λ x. x.key) (filter test xs)

same_key : (a b : Key) → key_eq a b ≡ true → a ≡ b
same_key a b e = ap (λ n. record { 0 = n }) (eqb-true a.0 b.0 e)

key_itself : (k : Key) → key_eq k k ≡ true
key_itself k = eq-eqb k.0 k.0 refl

-- a key that passes is that of one that does
passing_key : (test : Received → Bool) (xs : List Received) (x : Received) → Contains xs x → test x ≡ true →
    is_key (keys_in test xs) x.key ≡ true
passing_key test xs x (i, lt, at) pass = go xs i lt at
  where
    more : (b : Bool) (y : Received) (rest : List Received) → is_key (map (λ z. z.key) rest) x.key ≡ true →
        is_key (map (λ z. z.key) (cond b (y ∷ rest) rest)) x.key ≡ true
    more true y rest h = later (key_eq x.key y.key) (is_key (map (λ z. z.key) rest) x.key) h
      where
        later : (a b : Bool) → b ≡ true → (a || b) ≡ true
        later true b h = refl
        later false b h = h
    more false y rest h = h

    go : (ys : List Received) (j : ℕ) → j < length ys → get_or ys j x ≡ x → is_key (keys_in test ys) x.key ≡ true
    go [] j lt at = absurd (omega (arith, lt))
    go (y ∷ ys) zero lt at =
        ap (λ b. is_key (map (λ z. z.key) (cond b (y ∷ filter test ys) (filter test ys))) x.key) (ap test at ∙ pass)
        ∙ ap (λ (z : Received). key_eq x.key z.key || is_key (keys_in test ys) x.key) at
        ∙ ap (λ b. b || is_key (keys_in test ys) x.key) (key_itself x.key)
    go (y ∷ ys) (suc j) lt at = more (test y) y (filter test ys) (go ys j (omega (arith, lt)) at)

-- but for one key, those of what is left once that is taken out are the same
others : (test : Received → Bool) (key k : Key) → key_eq k key ≡ false → (xs : List Received) →
    is_key (keys_in test xs) k ≡ is_key (keys_in test (but (λ x. x.key) xs key)) k
others test key k apart [] = refl
others test key k apart (x ∷ xs) = elim (cases_Bool (key_eq x.key key)) [
  | inl taken ↦
      let other : key_eq k x.key ≡ false = ap (key_eq k) (same_key x.key key taken) ∙ apart in
      skip (test x) other
      ∙ others test key k apart xs
      ∙ sym (ap (λ b. is_key (keys_in test (cond (not b) (x ∷ but (λ y. y.key) xs key) (but (λ y. y.key) xs key))) k) taken)
  | inr stays ↦
      split (test x) (filter test xs)
      ∙ ap (λ b. (test x && key_eq k x.key) || b) (others test key k apart xs)
      ∙ sym (ap (λ b. is_key (keys_in test (cond (not b) (x ∷ but (λ y. y.key) xs key) (but (λ y. y.key) xs key))) k) stays
      ∙ split (test x) (filter test (but (λ y. y.key) xs key)))
]
  where
    skip : (b : Bool) → key_eq k x.key ≡ false →
        is_key (map (λ z. z.key) (cond b (x ∷ filter test xs) (filter test xs))) k ≡ is_key (keys_in test xs) k
    skip true other = ap (λ c. c || is_key (keys_in test xs) k) other
    skip false other = refl

    split : (b : Bool) (rest : List Received) →
        is_key (map (λ z. z.key) (cond b (x ∷ rest) rest)) k ≡ ((b && key_eq k x.key) || is_key (map (λ z. z.key) rest) k)
    split true rest = refl
    split false rest = refl

key_first : (test : Received → Bool) (xs : List Received) (key : Key) → is_key (keys_in test xs) key ≡ true → (k : Key) →
    is_key (keys_in test xs) k ≡ (key_eq k key || is_key (keys_in test (but (λ x. x.key) xs key)) k)
key_first test xs key there k = elim (cases_Bool (key_eq k key)) [
  | inl same ↦
      ap (is_key (keys_in test xs)) (same_key k key same)
      ∙ there
      ∙ sym (ap (λ b. b || is_key (keys_in test (but (λ x. x.key) xs key)) k) same)
  | inr apart ↦ others test key k apart xs ∙ sym (ap (λ b. b || is_key (keys_in test (but (λ x. x.key) xs key)) k) apart)
]

-- Letting go

-- one free message is let go, and then all that are free: as if all were at once
pub let_go_first : (r : Records) (key : Key) → IsKeptOf (λ id. free r id ≡ true) r.part.kept key →
    release.let_go records resting_records (release_in r key) ≡ release.let_go records resting_records r
let_go_first r key (x, there, is, pass) =
    let test : Received → Bool = λ y. free r y.message.id in
    let keys : List Key = keys_in test r.part.kept in
    let later : List Key = keys_in test (but (λ y. y.key) r.part.kept key) in
    let found : is_key keys key ≡ true = ap (is_key keys) (sym is) ∙ passing_key test r.part.kept x there pass in
    let same = key_first test r.part.kept key found in
    fold_release later (release_in r key)
    ∙ (λ i. record r {
      part = record r.part { kept = but_first (λ (y : Received). y.key) keys later key same r.part.kept i };
      delay = record r.delay { offered = but_first (λ (o : Offered). o.key) keys later key same r.delay.offered i };
    })
    ∙ sym (fold_release keys r)

-- where none is free, nothing is let go
pub none_let_go : (r : Records) → AreNotFree r → release.let_go records resting_records r ≡ r
none_let_go r none = ap (λ keys. fold release_in r keys) (go r.part.kept (λ x there. none x there))
  where
    go : (xs : List Received) → ((x : Received) → Contains xs x → free r x.message.id ≡ false) → keys_in (λ y. free r y.message.id) xs ≡ []
    go [] none = refl
    go (x ∷ xs) none =
        ap (λ b. map (λ (z : Received). z.key) (cond b (x ∷ filter (λ y. free r y.message.id) xs) (filter (λ y. free r y.message.id) xs)))
        (none x (0, omega arith, refl))
        ∙ go xs (λ y at. none y (suc at.0, omega (arith, at.1), at.2))

-- and fewer are kept than before
pub fewer_kept : (r : Records) (key : Key) (P : Uid → Type 0) → IsKeptOf P r.part.kept key →
    length (release_in r key).part.kept < length r.part.kept
fewer_kept r key P (x, (i, lt, at), is, pass) = go r.part.kept i lt at
  where
    at_most : (ys : List Received) → length (but (λ y. y.key) ys key) ≤ length ys
    at_most [] = omega arith
    at_most (y ∷ ys) = let rest = at_most ys in elim (cases_Bool (key_eq y.key key)) [
      | inl taken ↦ rw taken (omega (arith, rest))
      | inr stays ↦ rw stays (omega (arith, rest))
    ]

    go : (ys : List Received) (j : ℕ) → j < length ys → get_or ys j x ≡ x → length (but (λ y. y.key) ys key) < length ys
    go [] j lt at = absurd (omega (arith, lt))
    go (y ∷ ys) zero lt at =
        let rest = at_most ys in
        let taken : key_eq y.key key ≡ true = ap (λ (z : Received). key_eq z.key key) at ∙ ap (λ k. key_eq k key) is ∙ key_itself key in
        rw taken (omega (arith, rest))
    go (y ∷ ys) (suc j) lt at = let rest = go ys j (omega (arith, lt)) at in elim (cases_Bool (key_eq y.key key)) [
      | inl taken ↦ let most = at_most ys in rw taken (omega (arith, most))
      | inr stays ↦ rw stays (omega (arith, rest))
    ]

-- Where the first of a source is not free, none behind it is

earlier_le : (a b n : ℕ) → a ≤ b → nat_le b n ≡ true → nat_le a n ≡ true
earlier_le a b n le h = let most = leb-true b n h in le-leb a n (omega (arith, le, most))

-- a count below one that is stable is stable
stable_before : (l : Acks) (sites : List SiteNo) (v u : Uid) → source_of v ≡ source_of u → v.count ≤ u.count →
    is_stable_among l sites u ≡ true → is_stable_among l sites v ≡ true
stable_before l [] v u same le stable = refl
stable_before l (site ∷ sites) v u same le stable =
    let here : site_eq v.proc.site l.here ≡ site_eq u.proc.site l.here = ap (λ (s : Source). site_eq s.process.site l.here) same in
    let told : told_count l (source_of v) ≡ told_count l (source_of u) = ap (told_count l) same in
    let least : least_acked l (source_of v) (site ∷ sites) ≡ least_acked l (source_of u) (site ∷ sites) =
    ap (λ s. least_acked l s (site ∷ sites)) same in
    (λ i. cond (here i) (nat_le v.count (least i)) (nat_le v.count (told i)))
    ∙ go (site_eq u.proc.site l.here) stable
  where
    go : (b : Bool) →
        cond b (nat_le u.count (least_acked l (source_of u) (site ∷ sites))) (nat_le u.count (told_count l (source_of u))) ≡ true →
        cond b (nat_le v.count (least_acked l (source_of u) (site ∷ sites))) (nat_le v.count (told_count l (source_of u))) ≡ true
    go true h = earlier_le v.count u.count (least_acked l (source_of u) (site ∷ sites)) le h
    go false h = earlier_le v.count u.count (told_count l (source_of u)) le h

-- who awaits a count awaits those above it
awaited_before : (rows : List Row) (v u : Uid) → source_of v ≡ source_of u → v.count ≤ u.count → is_awaited rows v ≡ true →
    is_awaited rows u ≡ true
awaited_before [] v u same le awaited = absurd (false≢true awaited)
awaited_before (row ∷ rows) v u same le awaited = elim (or_cases (awaits_row row v) (is_awaited rows v) awaited) [
  | inl here ↦
      let parts = and_parts (is_member (standing_in row v.group)) (nat_lt (done_in row v.group v.view v.proc) v.count) here in
      let lt = ltb-true (done_in row v.group v.view v.proc) v.count parts.1 in
      let done : done_in row v.group v.view v.proc ≡ done_in row u.group u.view u.proc =
      ap (λ (s : Source). done_in row s.group s.view s.process) same in
      let member : is_member (standing_in row u.group) ≡ true =
      ap (λ (s : Source). is_member (standing_in row s.group)) (sym same) ∙ parts.0 in
      ap (λ b. b || is_awaited rows u) (and_from (is_member (standing_in row u.group)) (nat_lt (done_in row u.group u.view u.proc) u.count)
      member (lt-ltb (done_in row u.group u.view u.proc) u.count (omega (arith, lt, le, done))))
  | inr there ↦ later (awaits_row row u) (is_awaited rows u) (awaited_before rows v u same le there)
]
  where
    later : (a b : Bool) → b ≡ true → (a || b) ≡ true
    later true b h = refl
    later false b h = h

free_before : (r : Records) (v u : Uid) → source_of v ≡ source_of u → v.count ≤ u.count → free r u ≡ true → free r v ≡ true
free_before r v u same le h =
    let first = and_parts (is_open_in r u) (is_stable_in r.acks u && not (is_awaited r.delay.rows u)) h in
    let second = and_parts (is_stable_in r.acks u) (not (is_awaited r.delay.rows u)) first.1 in
    let opened : is_open_in r v ≡ true =
    ap (λ (s : Source). is_open_in r (record { group = s.group; view = s.view; proc = s.process; count = v.count })) same ∙ first.0 in
    let sites : others_in r.acks v.group ≡ others_in r.acks u.group = ap (λ (s : Source). others_in r.acks s.group) same in
    let stable : is_stable_in r.acks v ≡ true =
    ap (λ o. is_stable_among r.acks o v) sites ∙ stable_before r.acks (others_in r.acks u.group) v u same le second.0 in
    let given : is_awaited r.delay.rows v ≡ false =
    false_from_ne_true (is_awaited r.delay.rows v)
    (λ waits. false≢true (sym (ap not (awaited_before r.delay.rows v u same le waits)) ∙ second.1)) in
    and_from (is_open_in r v) (is_stable_in r.acks v && not (is_awaited r.delay.rows v)) opened
    (and_from (is_stable_in r.acks v) (not (is_awaited r.delay.rows v)) stable (ap not given))

pub none_free : (r : Records) → IsLedBy (λ id. free r id ≡ false) r.part.kept → AreNotFree r
none_free r led x there =
    let first = led x there in
    false_from_ne_true (free r x.message.id)
    (λ h. false≢true (sym first.4 ∙ free_before r first.0.message.id x.message.id first.2 first.3 h))

pub led_as : (P Q : Uid → Type 0) → ((id : Uid) → P id → Q id) → (kept : List Received) → IsLedBy P kept → IsLedBy Q kept
led_as P Q implied kept led x there = let first = led x there in (first.0, first.1, first.2, first.3, implied first.0.message.id first.4)

pub if_none_free : {A : Type 0} (r : Records) (P : Uid → Type 0) → ((id : Uid) → P id → free r id ≡ false) → (o : Option A) →
    IfNone o (IsLedBy P r.part.kept) → IfNone o (AreNotFree r)
if_none_free r P implied None led = none_free r (led_as P (λ id. free r id ≡ false) implied r.part.kept led)
if_none_free r P implied (Some x) led = tt

-- Where none is free but such as are of a source

-- one more is let go
pub but_released : (s : Source) (r : Records) (key : Key) → AreNotFreeBut s r → AreNotFreeBut s (release_in r key)
but_released s r key none x there apart = none x (kept_parts (λ y. not (key_eq y.key key)) r.part.kept x there).0 apart

-- none of the source is either
none_of : (s : Source) (r : Records) →
    ((x : Received) → Contains r.part.kept x → source_of x.message.id ≡ s → free r x.message.id ≡ false) → AreNotFreeBut s r → AreNotFree r
none_of s r own others x there = elim (cases_Bool (eq_by_cmp source_cmp (source_of x.message.id) s)) [
  | inl same ↦ own x there (tie_same source_exact (source_of x.message.id) s same)
  | inr apart ↦ others x there (λ is. false≢true (sym apart ∙ tie_self source_total (source_of x.message.id) s is))
]

-- none of it is kept
pub none_kept_of : (s : Source) (r : Records) → KeepsNoneOf r.part.kept s → AreNotFreeBut s r → AreNotFree r
none_kept_of s r none = none_of s r (λ x there its. absurd (none x there its))

-- its first message is not free
pub first_not_free : (s : Source) (r : Records) (first : Uid × Key) → KeepsFirst r.part.kept s first → free r first.0 ≡ false →
    AreNotFreeBut s r → AreNotFree r
first_not_free s r first is held =
    none_of s r (λ x there its. false_from_ne_true (free r x.message.id)
    (λ h. false≢true (sym held ∙ free_before r first.0 x.message.id (is.own ∙ sym its) (is.least x there its) h)))
