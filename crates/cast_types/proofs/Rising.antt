-- A set in rising order stays so when an item is added, and when items are taken out.
use Rattle.std.proofs.Common.{◌≡◌, Bool, true, false, List, [], ◌∷◌, filter, Ordering, Less, Equal, Greater, refl, ap, ◌∙◌}
use Rattle.std.specs.Prelude.{if◌then◌else◌}
use Rattle.std.specs.List.{list_all}
use Rattle.std.specs.Ordering.{is_lt, ordering_reverse}
use Rattle.std.specs.Cmp.{IsTotalOrder}
use Rattle.std.proofs.lemmas.Bool.{and_parts, and_from, false≢true}
use Rattle.cast_types.specs.Sets.{with_item, with_items, at_order}
use Rattle.cast_types.specs.Rising.{is_rising}

-- what is less is Less
pub less_is : (o : Ordering) → is_lt o ≡ true → o ≡ Less
less_is Less h = refl
less_is Equal h = absurd (false≢true h)
less_is Greater h = absurd (false≢true h)

-- what holds of each item of a list holds of each that is kept of it
pub all_kept : {A : Type 0} (test keep : A → Bool) (xs : List A) → list_all test xs ≡ true → list_all test (filter keep xs) ≡ true
all_kept test keep [] all = refl
all_kept test keep (x ∷ xs) all =
    let parts = and_parts (test x) (list_all test xs) all in
    let rest = all_kept test keep xs parts.1 in
    elim (keep x) as (λ b. list_all test (if b then x ∷ filter keep xs else filter keep xs) ≡ true) [
      | true ↦ and_from (test x) (list_all test (filter keep xs)) parts.0 rest
      | false ↦ rest
    ]

-- what is kept of a rising list rises
pub rising_kept : {A : Type 0} (cmp : A → A → Ordering) (keep : A → Bool) (xs : List A) → is_rising cmp xs ≡ true →
    is_rising cmp (filter keep xs) ≡ true
rising_kept cmp keep [] rising = refl
rising_kept cmp keep (x ∷ xs) rising =
    let parts = and_parts (list_all (λ y. is_lt (cmp x y)) xs) (is_rising cmp xs) rising in
    let rest = rising_kept cmp keep xs parts.1 in
    elim (keep x) as (λ b. is_rising cmp (if b then x ∷ filter keep xs else filter keep xs) ≡ true) [
      | true ↦
          and_from (list_all (λ y. is_lt (cmp x y)) (filter keep xs)) (is_rising cmp (filter keep xs))
          (all_kept (λ y. is_lt (cmp x y)) keep xs parts.0) rest
      | false ↦ rest
    ]

module _ {A : Type 0} (cmp : A → A → Ordering) (total : IsTotalOrder cmp) where
  -- what is below the first of a list is below each of it
  pub below_more : (x y : A) (ys : List A) → cmp x y ≡ Less → list_all (λ z. is_lt (cmp y z)) ys ≡ true →
      list_all (λ z. is_lt (cmp x z)) ys ≡ true
  below_more x y [] less all = refl
  below_more x y (z ∷ zs) less all =
      let parts = and_parts (is_lt (cmp y z)) (list_all (λ w. is_lt (cmp y w)) zs) all in
      and_from (is_lt (cmp x z)) (list_all (λ w. is_lt (cmp x w)) zs)
      (ap is_lt (total.trans x y z less (less_is (cmp y z) parts.0)))
      (below_more x y zs less parts.1)

  -- what is below an item and below each of a set is below each of both
  below_both : (z x : A) (xs : List A) → cmp z x ≡ Less → list_all (λ y. is_lt (cmp z y)) xs ≡ true →
      list_all (λ y. is_lt (cmp z y)) (with_item cmp x xs) ≡ true
  below_both z x [] less all = and_from (is_lt (cmp z x)) true (ap is_lt less) refl
  below_both z x (y ∷ ys) less all =
      let parts = and_parts (is_lt (cmp z y)) (list_all (λ w. is_lt (cmp z w)) ys) all in
      elim (cmp x y) as (λ o. list_all (λ w. is_lt (cmp z w)) (at_order o (x ∷ y ∷ ys) (y ∷ ys) (y ∷ with_item cmp x ys)) ≡ true) [
        | Less ↦ and_from (is_lt (cmp z x)) (list_all (λ w. is_lt (cmp z w)) (y ∷ ys)) (ap is_lt less) all
        | Equal ↦ all
        | Greater ↦
            and_from (is_lt (cmp z y)) (list_all (λ w. is_lt (cmp z w)) (with_item cmp x ys)) parts.0 (below_both z x ys less parts.1)
      ]

  pub rising-with_item : (x : A) (xs : List A) → is_rising cmp xs ≡ true → is_rising cmp (with_item cmp x xs) ≡ true
  rising-with_item x [] rising = refl
  rising-with_item x (y ∷ ys) rising =
      let parts = and_parts (list_all (λ z. is_lt (cmp y z)) ys) (is_rising cmp ys) rising in
      elim (cmp x y) as (λ o. cmp x y ≡ o → is_rising cmp (at_order o (x ∷ y ∷ ys) (y ∷ ys) (y ∷ with_item cmp x ys)) ≡ true) [
        | Less ↦ λ is.
            and_from (list_all (λ z. is_lt (cmp x z)) (y ∷ ys)) (is_rising cmp (y ∷ ys))
            (and_from (is_lt (cmp x y)) (list_all (λ z. is_lt (cmp x z)) ys) (ap is_lt is) (below_more x y ys is parts.0))
            rising
        | Equal ↦ λ is. rising
        | Greater ↦ λ is.
            and_from (list_all (λ z. is_lt (cmp y z)) (with_item cmp x ys)) (is_rising cmp (with_item cmp x ys))
            (below_both y x ys (total.antisymm y x ∙ ap ordering_reverse is) parts.0)
            (rising-with_item x ys parts.1)
      ] refl

  -- and when each item of a list is added
  pub rising-with_items : (xs s : List A) → is_rising cmp s ≡ true → is_rising cmp (with_items cmp s xs) ≡ true
  rising-with_items [] s rising = rising
  rising-with_items (x ∷ xs) s rising = rising-with_items xs (with_item cmp x s) (rising-with_item x s rising)
