-- The first entry behind a source, and that fewer stand behind its own.
use Rattle.std.proofs.Common.{◌≡◌, ◌<◌, Bool, true, false, cond, not, List, [], ◌∷◌, filter, Ordering}
use Rattle.std.proofs.Common.{Less, Equal, Greater, Option, Some, None, refl, sym, ap, subst, ◌∙◌, inl, inr, Bor}
use Rattle.std.specs.Prelude.{◌==◌, ◌&&◌, ◌||◌, IsTrue}
use Rattle.std.specs.List.{list_any, find, AllByRecursion}
use Rattle.std.specs.List.Sorted.{IsStrictlySortedBy}
use Rattle.std.specs.Option.{IfNone, IfSome, option_copied}
use Rattle.std.specs.Ordering.{is_gt, is_lt, is_le}
use Rattle.std.proofs.lemmas.Bool.{and_parts, and_from, cases_Bool, eqb-true, eq-eqb, or_cases, or_right, false≢true}
use Rattle.std.proofs.lemmas.Cmp.{tied_itself}
use Rattle.std.proofs.lemmas.Option.{none-some, same_Some}
use Rattle.cast_types.specs.declared.names.Uid.{Uid}
use Rattle.cast_types.specs.declared.names.Key.{Key}
use Rattle.cast_types.specs.declared.source.Source.{Source}
use Rattle.cast_types.specs.Names.{uid_eq}
use Rattle.cast_types.specs.Sources.{source_cmp, source_of}
use Rattle.cast_types.proofs.Lengths.{filter_fewer}
use Rattle.cast_types.proofs.Orders.{same_uid, uid_itself}
use Rattle.cast_types.proofs.Rising.{less_is}
use Rattle.cast_types.proofs.Sources.{source_total}
use Rattle.cast_index.specs.declared.entry.Entry.{Entry}
use Rattle.cast_index.specs.Index.{entry_cmp, has, is_behind, is_from, behind_count, lowest_past, IsFirstEntry, IsFirstBehind}
use Rattle.cast_index.proofs.Orders.{entry_total, contained, ordered, from_lowest}
use Rattle.std.specs.BTreeMap.{is_at}
use Rattle.std.specs.BTreeMap.Range.{range_contains}
use Rattle.std.specs.declared.ops.Bound.TheVariants.{Included, Unbounded}

pub first_id : (entries : List Entry) (after : Option Source) (e : Entry) → IsFirstEntry entries (λ x. is_behind after x.id) e →
    IsFirstBehind entries after e.id
first_id entries after e first = record {
  there = (record { 0 = e.number }, first.there);
  behind = first.passes;
  least = λ u k there behind. ordered e u k (first.first u k there behind);
}

-- what stands behind a source that stands behind another stands behind that too
pub further : (after : Option Source) (id u : Uid) → is_behind after id ≡ true → is_behind (Some (source_of id)) u ≡ true →
    is_behind after u ≡ true
further None id u behind more = refl
further (Some s) id u behind more =
    ap is_lt (source_total.trans s (source_of id) (source_of u) (less_is (source_cmp s (source_of id)) behind)
    (less_is (source_cmp (source_of id) (source_of u)) more))

-- no source stands behind itself
pub not_itself : (u : Uid) → is_behind (Some (source_of u)) u ≡ false
not_itself u = ap is_lt (tied_itself source_total (source_of u))

any_from : (entries : List Entry) (u : Uid) (k : Key) (test : Entry → Bool) → has entries u k ≡ true →
    test (record { id = u; number = k.0 }) ≡ true → list_any test entries ≡ true
any_from [] u k test there passes = absurd (false≢true there)
any_from (e ∷ es) u k test there passes = elim (or_cases (uid_eq u e.id && (k.0 == e.number)) (has es u k) there) [
  | inl here ↦
      let parts = and_parts (uid_eq u e.id) (k.0 == e.number) here in
      let ids = same_uid u e.id parts.0 in
      let numbers = eqb-true k.0 e.number parts.1 in
      ap (λ b. b || list_any test es) (ap test (λ i. record { id = sym ids i; number = sym numbers i }) ∙ passes)
  | inr later ↦ rw (any_from es u k test later passes) (or_right (test e) true refl)
]

pub fewer_left : (entries : List Entry) (after : Option Source) (e : Entry) → IsFirstEntry entries (λ x. is_behind after x.id) e →
    behind_count entries (Some (source_of e.id)) < behind_count entries after
fewer_left entries after e first =
    filter_fewer (λ x. is_behind (Some (source_of e.id)) x.id) (λ x. is_behind after x.id)
    (λ x more. further after e.id x.id first.passes more)
    entries
    (any_from entries e.id (record { 0 = e.number }) (λ x. is_behind after x.id && not (is_behind (Some (source_of e.id)) x.id)) first.there
    (and_from (is_behind after e.id) (not (is_behind (Some (source_of e.id)) e.id)) first.passes (ap not (not_itself e.id))))

-- The first entry that a search finds

-- an entry that is among some is one of them
pub same_entry : (e : Entry) (u : Uid) (k : Key) → (uid_eq u e.id && (k.0 == e.number)) ≡ true → e ≡ record { id = u; number = k.0 }
same_entry e u k h =
    let parts = and_parts (uid_eq u e.id) (k.0 == e.number) h in
    let ids = same_uid u e.id parts.0 in
    let numbers = eqb-true k.0 e.number parts.1 in
    λ i. record { id = sym ids i; number = sym numbers i }

pub above : (e : Entry) (entries : List Entry) → AllByRecursion (λ y. entry_cmp e y ≡ Less) entries → (u : Uid) (k : Key) →
    has entries u k ≡ true → is_le (entry_cmp e (record { id = u; number = k.0 })) ≡ true
above e [] all u k there = absurd (false≢true there)
above e (x ∷ xs) all u k there = elim (or_cases (uid_eq u x.id && (k.0 == x.number)) (has xs u k) there) [
  | inl here ↦ ap (λ y. is_le (entry_cmp e y)) (sym (same_entry x u k here)) ∙ ap is_le all.0
  | inr later ↦ above e xs all.1 u k later
]

pub is_among : (e : Entry) (entries : List Entry) → has (e ∷ entries) e.id (record { 0 = e.number }) ≡ true
is_among e entries =
    ap (λ b. b || has entries e.id (record { 0 = e.number }))
    (and_from (uid_eq e.id e.id) (e.number == e.number) (uid_itself e.id) (eq-eqb e.number e.number refl))

pub more : (a b : Bool) → b ≡ true → (a || b) ≡ true
more true b h = refl
more false b h = h

pub first_found : (entries : List Entry) → IsStrictlySortedBy entry_cmp entries → (test : Entry → Bool) (e : Entry) →
    find test entries ≡ Some e → IsFirstEntry entries test e
unfolding IsStrictlySortedBy
first_found [] sorted test e found = absurd (cc)
first_found (x ∷ xs) sorted test e found = elim (cases_Bool (test x)) [
  | inl pass ↦
      let same : x ≡ e = same_Some x e (sym (ap (λ b. cond b (Some x) (find test xs)) pass) ∙ found) in
      subst (IsFirstEntry (x ∷ xs) test) same
      (record {
        there = is_among x xs;
        passes = pass;
        first = λ u k there passes. elim (or_cases (uid_eq u x.id && (k.0 == x.number)) (has xs u k) there) [
          | inl here ↦ ap (λ y. is_le (entry_cmp x y)) (sym (same_entry x u k here)) ∙ ap is_le (tied_itself entry_total x)
          | inr later ↦ above x xs sorted.0 u k later
        ];
      })
  | inr fail ↦
      let rest = first_found xs sorted.1 test e (sym (ap (λ b. cond b (Some x) (find test xs)) fail) ∙ found) in
      record {
        there = more (uid_eq e.id x.id && (e.number == x.number)) (has xs e.id (record { 0 = e.number })) rest.there;
        passes = rest.passes;
        first = λ u k there passes. elim (or_cases (uid_eq u x.id && (k.0 == x.number)) (has xs u k) there) [
          | inl here ↦ absurd (false≢true (sym fail ∙ ap test (same_entry x u k here) ∙ passes))
          | inr later ↦ rest.first u k later passes
        ];
      }
]

pub none_found : (entries : List Entry) (test : Entry → Bool) → find test entries ≡ None → (u : Uid) (k : Key) → has entries u k ≡ true →
    test (record { id = u; number = k.0 }) ≡ false
none_found [] test none u k there = absurd (false≢true there)
none_found (x ∷ xs) test none u k there = elim (cases_Bool (test x)) [
  | inl pass ↦ absurd (none-some x (sym none ∙ ap (λ b. cond b (Some x) (find test xs)) pass))
  | inr fail ↦ elim (or_cases (uid_eq u x.id && (k.0 == x.number)) (has xs u k) there) [
    | inl here ↦ ap test (sym (same_entry x u k here)) ∙ fail
    | inr later ↦ none_found xs test (sym (ap (λ b. cond b (Some x) (find test xs)) fail) ∙ none) u k later
  ]
]

-- what is first of those that pass is what a search finds
pub head_found : (test : Entry → Bool) (entries : List Entry) (e : Entry) (rest : List Entry) → filter test entries ≡ e ∷ rest →
    find test entries ≡ Some e
head_found test [] e rest kept = absurd (cc)
head_found test (x ∷ xs) e rest kept = elim (cases_Bool (test x)) [
  | inl pass ↦
      ap (λ b. cond b (Some x) (find test xs)) pass ∙ head (sym (ap (λ b. cond b (x ∷ filter test xs) (filter test xs)) pass) ∙ kept)
  | inr fail ↦
      ap (λ b. cond b (Some x) (find test xs)) fail
      ∙ head_found test xs e rest (sym (ap (λ b. cond b (x ∷ filter test xs) (filter test xs)) fail) ∙ kept)
]
  where
    head : x ∷ filter test xs ≡ e ∷ rest → Some x ≡ Some e
    head same = cc

pub none_kept : (test : Entry → Bool) (entries : List Entry) → filter test entries ≡ [] → find test entries ≡ None
none_kept test [] kept = refl
none_kept test (x ∷ xs) kept = elim (cases_Bool (test x)) [
  | inl pass ↦ absurd (some (sym (ap (λ b. cond b (x ∷ filter test xs) (filter test xs)) pass) ∙ kept))
  | inr fail ↦
      ap (λ b. cond b (Some x) (find test xs)) fail
      ∙ none_kept test xs (sym (ap (λ b. cond b (x ∷ filter test xs) (filter test xs)) fail) ∙ kept)
]
  where
    some : x ∷ filter test xs ≡ [] → ⊥
    some e = cc

-- What stands from a bound on

and_true : (b : Bool) → (b && true) ≡ b
and_true true = refl
and_true false = refl

pub kept_from : (lowest : Entry) (entries : List Entry) →
    filter (range_contains entry_cmp (Included lowest) Unbounded) entries ≡ filter (is_from lowest) entries
kept_from lowest [] = refl
kept_from lowest (x ∷ xs) = λ i. cond (and_true (is_from lowest x) i) (x ∷ kept_from lowest xs i) (kept_from lowest xs i)

-- a source stands behind another where its entries are at or above the lowest of those
pub first_behind : (entries : List Entry) (s : Source) (e : Entry) → IsFirstEntry entries (is_from (lowest_past s)) e →
    IsFirstEntry entries (λ x. is_behind (Some s) x.id) e
first_behind entries s e first = record {
  there = first.there;
  passes = sym (from_lowest s e) ∙ first.passes;
  first = λ u k there behind. first.first u k there (from_lowest s (record { id = u; number = k.0 }) ∙ behind);
}

-- What a call promises of what it gives

pub if_none : {A : Type 0} (P : Type 0) → P → (o : Option A) → IfNone o P
if_none P holds None = holds
if_none P holds (Some x) = tt

pub if_some : {A : Type 0} (P Q : A → Type 0) → ((x : A) → P x → Q x) → (o : Option A) → IfSome o P → IfSome o Q
if_some P Q implied None holds = tt
if_some P Q implied (Some x) holds = implied x holds

pub none_as : {A : Type 0} (P Q : Type 0) → (P → Q) → (o : Option A) → IfNone o P → IfNone o Q
none_as P Q implied None holds = implied holds
none_as P Q implied (Some x) holds = tt

pub if_found : (entries : List Entry) → IsStrictlySortedBy entry_cmp entries → (test : Entry → Bool) (o : Option (Bor Entry)) →
    option_copied o ≡ find test entries → IfSome o (λ e. IsFirstEntry entries test e.now)
if_found entries sorted test None found = tt
if_found entries sorted test (Some e) found = first_found entries sorted test e.now (sym found)

pub if_not_found : (entries : List Entry) (test : Entry → Bool) (o : Option (Bor Entry)) → option_copied o ≡ find test entries →
    IfNone o ((u : Uid) (k : Key) → has entries u k ≡ true → test (record { id = u; number = k.0 }) ≡ false)
if_not_found entries test None found = none_found entries test (sym found)
if_not_found entries test (Some e) found = tt

not_greater : (o : Ordering) → is_gt o ≡ false → is_le o ≡ true
not_greater Less h = refl
not_greater Equal h = refl
not_greater Greater h = sym h

pub if_least : (entries : List Entry) (o : Option (Bor Entry)) → IfSome o (λ e. IsTrue (list_any (is_at (entry_cmp e.now)) entries)) →
    IfSome o (λ e. (q : Entry) → IsTrue (list_any (is_at (entry_cmp q)) entries) → is_gt (entry_cmp e.now q) ≡ false) →
    IfSome o (λ e. IsFirstEntry entries (λ _. true) e.now)
if_least entries None member least = tt
if_least entries (Some e) member least = record {
  there = sym (contained entries e.now.id (record { 0 = e.now.number })) ∙ member;
  passes = refl;
  first = λ u k there _. not_greater (entry_cmp e.now (record { id = u; number = k.0 }))
      (least (record { id = u; number = k.0 }) (contained entries u k ∙ there));
}
