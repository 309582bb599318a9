-- What is among the sets that are made of lists, and what a test finds in lists that are made of others.
use Rattle.std.proofs.Common.{◌≡◌, ℕ, ◌+◌, ◌<◌, Bool, true, false, cond, List, [], ◌∷◌, ◌++◌, length, get_or}
use Rattle.std.proofs.Common.{drop, map, Ordering, Less, Equal, Greater, refl, sym, ap, ◌∙◌, inl, inr}
use Rattle.std.specs.Prelude.{◌&&◌, ◌||◌}
use Rattle.std.specs.List.{list_any, filter, flat_map}
use Rattle.std.proofs.lemmas.Bool.{cases_Bool, false≢true}
use Rattle.std.proofs.lemmas.List.{at_drop_more}
use Rattle.std.proofs.lemmas.Map.Lookups.{CmpEqualImpliesEq}
use Rattle.cast_types.specs.Names.{Entry, entry_eq}
use Rattle.cast_types.specs.Sets.{with_item, with_items, set_of, is_among, at_order}
use Rattle.cast_types.proofs.Orders.{entry_itself, same_entry}
use Rattle.cast_types.proofs.Bools.{or_turned, or_moved, same_bools, and_none}

-- an `or` with false is the other test, and an `and` with false is false
or_none : (a : Bool) → a ≡ (a || false)
or_none true = refl
or_none false = refl

-- a test that stands twice in an `or` counts once
or_twice : (a b c : Bool) → a ≡ b → (b || c) ≡ (a || (b || c))
or_twice true true c e = refl
or_twice true false c e = absurd (false≢true (sym e))
or_twice false b c e = refl

-- lists that are made of others

-- a test finds in a list that is made of two what it finds in one of them
pub any_append : {A : Type 0} (test : A → Bool) (xs ys : List A) → list_any test (xs ++ ys) ≡ (list_any test xs || list_any test ys)
any_append test [] ys = refl
any_append test (x ∷ xs) ys = ap (λ b. test x || b) (any_append test xs ys) ∙ grouped (test x) (list_any test xs) (list_any test ys)
  where
    grouped : (a b c : Bool) → (a || (b || c)) ≡ ((a || b) || c)
    grouped true b c = refl
    grouped false b c = refl

-- and in the lists that are made of a list's items, what it finds in that of some item
pub any_flat_map : {A B : Type 0} (test : B → Bool) (f : A → List B) (xs : List A) →
    list_any test (flat_map f xs) ≡ list_any (λ x. list_any test (f x)) xs
any_flat_map test f [] = refl
any_flat_map test f (x ∷ xs) = any_append test (f x) (flat_map f xs) ∙ ap (λ b. list_any test (f x) || b) (any_flat_map test f xs)

-- in what a function gives of a list's items, what the test of that finds in the list
pub any_map : {A B : Type 0} (test : B → Bool) (f : A → B) (xs : List A) → list_any test (map f xs) ≡ list_any (λ x. test (f x)) xs
any_map test f [] = refl
any_map test f (x ∷ xs) = ap (λ b. test (f x) || b) (any_map test f xs)

-- in what another test keeps, what both of them find in the list
pub any_filter : {A : Type 0} (test keep : A → Bool) (xs : List A) → list_any test (filter keep xs) ≡ list_any (λ x. keep x && test x) xs
any_filter test keep [] = refl
any_filter test keep (x ∷ xs) =
    elim (keep x)
    as (λ b. list_any test (cond b (x ∷ filter keep xs) (filter keep xs)) ≡ ((b && test x) || list_any (λ y. keep y && test y) xs)) [
      | true ↦ ap (λ b. test x || b) (any_filter test keep xs)
      | false ↦ any_filter test keep xs
    ]

-- tests that agree find alike
pub any_same : {A : Type 0} (s t : A → Bool) → ((x : A) → s x ≡ t x) → (xs : List A) → list_any s xs ≡ list_any t xs
any_same s t same [] = refl
any_same s t same (x ∷ xs) = λ i. same x i || any_same s t same xs i

-- what never passes is found nowhere
any_false : {A : Type 0} (xs : List A) → list_any (λ _. false) xs ≡ false
any_false [] = refl
any_false (x ∷ xs) = any_false xs

-- a condition that does not depend on the item may stand before the search
pub any_and : {A : Type 0} (b : Bool) (test : A → Bool) (xs : List A) → list_any (λ x. b && test x) xs ≡ (b && list_any test xs)
any_and true test xs = refl
any_and false test xs = any_false xs

-- sets

-- what is added after other items is added to the set of these
pub with_items_append : {A : Type 0} (cmp : A → A → Ordering) (s xs ys : List A) →
    with_items cmp s (xs ++ ys) ≡ with_items cmp (with_items cmp s xs) ys
with_items_append cmp s [] ys = refl
with_items_append cmp s (x ∷ xs) ys = with_items_append cmp (with_item cmp x s) xs ys

-- the next item of a list is added before the rest
pub added_next : {A : Type 0} (cmp : A → A → Ordering) (s t u : List A) (xs : List A) (i : ℕ) (d : A) → i < length xs →
    t ≡ with_item cmp (get_or xs i d) s → with_items cmp s (drop i xs) ≡ u → with_items cmp t (drop (i + 1) xs) ≡ u
added_next cmp s t u xs i d within added so_far =
    ap (λ v. with_items cmp v (drop (i + 1) xs)) added
    ∙ sym (at_drop_more (with_items cmp s) xs i d within)
    ∙ so_far

-- and so is what a function gives of it
pub added_more : {X A : Type 0} (cmp : A → A → Ordering) (f : X → A) (s t u : List A) (xs : List X) (i : ℕ) (d : X) → i < length xs →
    t ≡ with_item cmp (f (get_or xs i d)) s → with_items cmp s (map f (drop i xs)) ≡ u → with_items cmp t (map f (drop (i + 1) xs)) ≡ u
added_more cmp f s t u xs i d within added so_far =
    ap (λ v. with_items cmp v (map f (drop (i + 1) xs))) added
    ∙ sym (at_drop_more (λ ys. with_items cmp s (map f ys)) xs i d within)
    ∙ so_far

module _ {A : Type 0} (cmp : A → A → Ordering) (keep : A → Bool) (s t u : List A) (xs : List A) (i : ℕ) (d : A)
    (within : i < length xs) where
  -- the next item is added where a test keeps it
  pub kept_next : (tail : List A) → keep (get_or xs i d) ≡ true → t ≡ with_item cmp (get_or xs i d) s →
      with_items cmp s (filter keep (drop i xs) ++ tail) ≡ u → with_items cmp t (filter keep (drop (i + 1) xs) ++ tail) ≡ u
  kept_next tail keeps added so_far =
      ap (λ v. with_items cmp v (filter keep (drop (i + 1) xs) ++ tail)) added
      ∙ sym
      (ap (λ b. with_items cmp s (cond b (get_or xs i d ∷ filter keep (drop (i + 1) xs)) (filter keep (drop (i + 1) xs)) ++ tail)) keeps)
      ∙ sym (at_drop_more (λ ys. with_items cmp s (filter keep ys ++ tail)) xs i d within)
      ∙ so_far

  -- and else it is passed over
  pub passed_next : (tail : List A) → keep (get_or xs i d) ≡ false → t ≡ s → with_items cmp s (filter keep (drop i xs) ++ tail) ≡ u →
      with_items cmp t (filter keep (drop (i + 1) xs) ++ tail) ≡ u
  passed_next tail passes same so_far =
      ap (λ v. with_items cmp v (filter keep (drop (i + 1) xs) ++ tail)) same
      ∙ sym
      (ap (λ b. with_items cmp s (cond b (get_or xs i d ∷ filter keep (drop (i + 1) xs)) (filter keep (drop (i + 1) xs)) ++ tail)) passes)
      ∙ sym (at_drop_more (λ ys. with_items cmp s (filter keep ys ++ tail)) xs i d within)
      ∙ so_far

-- the items of one more member of a list are added before those of the rest
pub gathered_more : {X A : Type 0} (cmp : A → A → Ordering) (f : X → List A) (s t u : List A) (xs : List X) (i : ℕ) (x : X) →
    i < length xs → x ≡ get_or xs i x → t ≡ with_items cmp s (f x) → with_items cmp s (flat_map f (drop i xs)) ≡ u →
    with_items cmp t (flat_map f (drop (i + 1) xs)) ≡ u
gathered_more {A} cmp f s t u xs i x within read added so_far =
    let rest : List A = flat_map f (drop (i + 1) xs) in
    ap (λ v. with_items cmp v rest) added
    ∙ sym (with_items_append cmp s (f x) rest)
    ∙ ap (λ y. with_items cmp s (f y ++ rest)) read
    ∙ sym (at_drop_more (λ ys. with_items cmp s (flat_map f ys)) xs i x within)
    ∙ so_far

module _ {A : Type 0} (cmp : A → A → Ordering) (exact : CmpEqualImpliesEq cmp) (test : A → Bool) where
  -- a test finds in a set with one more item what it finds in the set, or the item
  any_with_item : (x : A) (s : List A) → list_any test (with_item cmp x s) ≡ (test x || list_any test s)
  any_with_item x [] = refl
  any_with_item x (y ∷ ys) =
      elim (cmp x y) as (λ o. cmp x y ≡ o →
      list_any test (at_order o (x ∷ y ∷ ys) (y ∷ ys) (y ∷ with_item cmp x ys)) ≡ (test x || (test y || list_any test ys))) [
        | Less ↦ λ _. refl
        | Equal ↦ λ tie. or_twice (test x) (test y) (list_any test ys) (ap test (exact x y tie))
        | Greater ↦ λ _. ap (λ b. test y || b) (any_with_item x ys) ∙ or_turned (test x) (test y) (list_any test ys)
      ] refl

  -- and in a set with more items, what it finds in the set or among these
  any_with_items : (s xs : List A) → list_any test (with_items cmp s xs) ≡ (list_any test s || list_any test xs)
  any_with_items s [] = or_none (list_any test s)
  any_with_items s (x ∷ xs) =
      any_with_items (with_item cmp x s) xs
      ∙ ap (λ b. b || list_any test xs) (any_with_item x s)
      ∙ or_moved (test x) (list_any test s) (list_any test xs)

  -- a test finds in a list's set what it finds in the list
  pub any_set : (xs : List A) → list_any test (set_of cmp xs) ≡ list_any test xs
  any_set xs = any_with_items [] xs

-- entries

-- the test of two entries may be turned round
turned : (a b : Entry) → entry_eq a b ≡ true → entry_eq b a ≡ true
turned a b h = ap (λ z. entry_eq b z) (same_entry a b h) ∙ entry_itself b

pub entry_turned : (a b : Entry) → entry_eq a b ≡ entry_eq b a
entry_turned a b = same_bools (entry_eq a b) (entry_eq b a) (turned a b) (turned b a)

-- an entry is among what a test keeps where it passes and is among the entries
pub among_filter : (keep : Entry → Bool) (e : Entry) (xs : List Entry) →
    is_among entry_eq e (filter keep xs) ≡ (keep e && is_among entry_eq e xs)
among_filter keep e xs =
    any_filter (entry_eq e) keep xs
    ∙ any_same (λ x. keep x && entry_eq e x) (λ x. keep e && entry_eq e x) guarded xs
    ∙ any_and (keep e) (entry_eq e) xs
  where
    guarded : (x : Entry) → (keep x && entry_eq e x) ≡ (keep e && entry_eq e x)
    guarded x = elim (cases_Bool (entry_eq e x)) [
      | inl same ↦ ap (λ z. keep z && entry_eq e x) (sym (same_entry e x same))
      | inr other ↦ ap (λ b. keep x && b) other ∙ and_none (keep x) ∙ sym (ap (λ b. keep e && b) other ∙ and_none (keep e))
    ]
