-- Lists in which a number of each item rises: where an item stands, and what is left without one.
use Rattle.std.proofs.Common.{◌≡◌, ℕ, zero, suc, ◌+◌, ◌-◌, ◌<◌, ◌≤◌, Bool, true, false, cond, not, List, [], ◌∷◌, ◌++◌, length}
use Rattle.std.proofs.Common.{length-take, take, get_or, Option, Some, None, Ok, Err, refl, sym, ap, ◌∙◌, inl, inr, arith}
use Rattle.std.specs.Prelude.{◌==◌, nat_lt, slice_get}
use Rattle.std.specs.List.{list_all, filter, find, position, position_or_len, remove}
use Rattle.std.specs.List.Sorted.{IsBinarySearchResult, IsNonDecreasingBy}
use Rattle.std.specs.Ordering.{nat_cmp, ordering_index}
use Rattle.std.proofs.lemmas.Bool.{cases_Bool, cases_lt, and_parts, and_from, ltb-true, ltb-false, lt-ltb, le-ltb, eqb-true, eq-eqb, ne_eqb}
use Rattle.std.proofs.lemmas.Bool.Decides.{nat_tests}
use Rattle.std.proofs.lemmas.Cmp.{ranked}
use Rattle.std.proofs.lemmas.Option.{cond_some, slice_get_past}
use Rattle.std.proofs.lemmas.List.{take_all}
use Rattle.std.proofs.lemmas.List.Folds.{find_at}
use Rattle.cast_types.proofs.Rising.{all_kept}
use Rattle.cast_index.specs.Rises.{rises, all_below}

module _ {X : Type 0} (n : X → ℕ) where
  pub parts_of : (x : X) (xs : List X) → rises n (x ∷ xs) ≡ true → (list_all (λ y. nat_lt (n x) (n y)) xs ≡ true) × (rises n xs ≡ true)
  parts_of x xs up = and_parts (list_all (λ y. nat_lt (n x) (n y)) xs) (rises n xs) up

  pub above_at : (m : ℕ) (xs : List X) (i : ℕ) (d : X) → list_all (λ y. nat_lt m (n y)) xs ≡ true → i < length xs → m < n (get_or xs i d)
  above_at m [] i d all lt = absurd (omega arith)
  above_at m (x ∷ xs) zero d all lt = ltb-true m (n x) (and_parts (nat_lt m (n x)) (list_all (λ y. nat_lt m (n y)) xs) all).0
  above_at m (x ∷ xs) (suc i) d all lt =
      above_at m xs i d (and_parts (nat_lt m (n x)) (list_all (λ y. nat_lt m (n y)) xs) all).1 (omega arith)

  -- the numbers at two places
  at_two : (xs : List X) (i j : ℕ) (d : X) → rises n xs ≡ true → i < j → j < length xs → n (get_or xs i d) < n (get_or xs j d)
  at_two [] i j d up lt within = absurd (omega arith)
  at_two (x ∷ xs) i zero d up lt within = absurd (omega arith)
  at_two (x ∷ xs) zero (suc j) d up lt within = above_at (n x) xs j d (parts_of x xs up).0 (omega arith)
  at_two (x ∷ xs) (suc i) (suc j) d up lt within = at_two xs i j d (parts_of x xs up).1 (omega arith) (omega arith)

  -- one more at the end
  pub all_push : (t : X → Bool) (xs : List X) (x : X) → list_all t xs ≡ true → t x ≡ true → list_all t (xs ++ x ∷ []) ≡ true
  all_push t [] x all last = and_from (t x) true last refl
  all_push t (y ∷ ys) x all last =
      let parts = and_parts (t y) (list_all t ys) all in
      and_from (t y) (list_all t (ys ++ x ∷ [])) parts.0 (all_push t ys x parts.1 last)

  all_higher : (low high : ℕ) → low ≤ high → (xs : List X) → all_below n low xs ≡ true → all_below n high xs ≡ true
  all_higher low high le [] all = refl
  all_higher low high le (x ∷ xs) all =
      let parts = and_parts (nat_lt (n x) low) (all_below n low xs) all in
      and_from (nat_lt (n x) high) (all_below n high xs) (lt-ltb (n x) high (omega (arith, ltb-true (n x) low parts.0)))
      (all_higher low high le xs parts.1)

  pub below_push : (low high : ℕ) (xs : List X) (x : X) → low ≤ n x → n x < high → all_below n low xs ≡ true →
      all_below n high (xs ++ x ∷ []) ≡ true
  below_push low high xs x le lt all =
      all_push (λ y. nat_lt (n y) high) xs x (all_higher low high (omega (arith, le, lt)) xs all) (lt-ltb (n x) high lt)

  pub rises_push : (low : ℕ) (xs : List X) (x : X) → low ≤ n x → rises n xs ≡ true → all_below n low xs ≡ true →
      rises n (xs ++ x ∷ []) ≡ true
  rises_push low [] x le up all = refl
  rises_push low (y ∷ ys) x le up all =
      let parts = parts_of y ys up in
      let below = and_parts (nat_lt (n y) low) (all_below n low ys) all in
      and_from (list_all (λ z. nat_lt (n y) (n z)) (ys ++ x ∷ [])) (rises n (ys ++ x ∷ []))
      (all_push (λ z. nat_lt (n y) (n z)) ys x parts.0 (lt-ltb (n y) (n x) (omega (arith, le, ltb-true (n y) low below.0))))
      (rises_push low ys x le parts.1 below.1)

  -- some taken out
  pub rises_kept : (keep : X → Bool) (xs : List X) → rises n xs ≡ true → rises n (filter keep xs) ≡ true
  rises_kept keep [] up = refl
  rises_kept keep (x ∷ xs) up =
      let parts = parts_of x xs up in
      let rest = rises_kept keep xs parts.1 in
      elim (keep x) as (λ b. rises n (cond b (x ∷ filter keep xs) (filter keep xs)) ≡ true) [
        | true ↦
            and_from (list_all (λ y. nat_lt (n x) (n y)) (filter keep xs)) (rises n (filter keep xs))
            (all_kept (λ y. nat_lt (n x) (n y)) keep xs parts.0) rest
        | false ↦ rest
      ]

  module _ (k : ℕ) where
    abbrev is_k : X → Bool
    is_k x = n x == k

    -- where the number stands
    place_is : (xs : List X) (i : ℕ) (d : X) → rises n xs ≡ true → i < length xs → n (get_or xs i d) ≡ k → position_or_len is_k xs ≡ i
    place_is [] i d up lt is = absurd (omega arith)
    place_is (x ∷ xs) zero d up lt is = ap (λ b. cond (not b) (1 + position_or_len is_k xs) 0) (eq-eqb (n x) k is)
    place_is (x ∷ xs) (suc i) d up lt is =
        let above = above_at (n x) xs i d (parts_of x xs up).0 (omega arith) in
        ap (λ b. cond (not b) (1 + position_or_len is_k xs) 0) (ne_eqb (n x) k (λ same. omega (arith, above, is, same)))
        ∙ ap (λ m. 1 + m) (place_is xs i d (parts_of x xs up).1 (omega arith) is)
        ∙ omega arith

    place_none : (xs : List X) → ((i : ℕ) (d : X) → i < length xs → n (get_or xs i d) ≡ k → ⊥) → position_or_len is_k xs ≡ length xs
    place_none [] none = refl
    place_none (x ∷ xs) none =
        ap (λ b. cond (not b) (1 + position_or_len is_k xs) 0) (ne_eqb (n x) k (none 0 x (omega arith)))
        ∙ ap (λ m. 1 + m) (place_none xs (λ i d lt. none (suc i) d (omega (arith, lt))))
        ∙ omega arith

    -- the comparisons with k rise along the list, as a binary search asks
    comparisons_rise : (xs : List X) → rises n xs ≡ true → IsNonDecreasingBy (λ x. ordering_index (nat_cmp (n x) k)) xs
    comparisons_rise xs up i j d le lt =
        let keys : n (get_or xs i d) ≤ n (get_or xs j d) =
        grind (arith, at_two xs i j d up, λ (same : i ≡ j). ap (λ m. n (get_or xs m d)) same) in
        grind (arith, nat_tests)

    -- a binary search finds the place of the number
    pub searched_ok : (xs : List X) (i : ℕ) → rises n xs ≡ true → i < length xs → IsBinarySearchResult (λ x. nat_cmp (n x) k) xs (Ok i) →
        position is_k xs ≡ Some i
    searched_ok [] i up lt is = absurd (omega (arith, lt))
    searched_ok (x ∷ xs) i up lt is =
        let place = place_is (x ∷ xs) i x up lt (ranked (n (get_or (x ∷ xs) i x)) k _ (sym (is x))) in
        (λ j. cond {A = Option ℕ} (nat_lt (place j) (length (x ∷ xs))) (Some (place j)) None)
        ∙ ap (λ b. cond {A = Option ℕ} b (Some i) None) (lt-ltb i (length (x ∷ xs)) lt)

    pub searched_err : (xs : List X) (i : ℕ) → rises n xs ≡ true → IsBinarySearchResult (λ x. nat_cmp (n x) k) xs (Err i) →
        position is_k xs ≡ None
    searched_err xs i up parted =
        let parts = parted (comparisons_rise xs up) in
        let none : (j : ℕ) (d : X) → j < length xs → n (get_or xs j d) ≡ k → ⊥ = λ j d lt is. elim (cases_lt j i) [
          | inl before ↦ omega (arith, is, ranked (n (get_or xs j d)) k _ (sym (parts.0 j d (omega arith) before)))
          | inr behind ↦ omega (arith, is, ranked (n (get_or xs j d)) k _ (sym (parts.1 j d behind lt)))
        ] in
        let place = place_none xs none in
        (λ j. cond {A = Option ℕ} (nat_lt (place j) (length xs)) (Some (place j)) None)
        ∙ ap (λ b. cond {A = Option ℕ} b (Some (length xs)) None) (le-ltb (length xs) (length xs) (omega arith))

    -- no other number is the first one's
    apart : (xs : List X) → list_all (λ y. nat_lt k (n y)) xs ≡ true → filter (λ x. not (is_k x)) xs ≡ xs
    apart [] all = refl
    apart (x ∷ xs) all =
        let parts = and_parts (nat_lt k (n x)) (list_all (λ y. nat_lt k (n y)) xs) all in
        ap (λ b. cond (not b) (x ∷ filter (λ y. not (is_k y)) xs) (filter (λ y. not (is_k y)) xs))
        (ne_eqb (n x) k (λ same. omega (arith, same, ltb-true k (n x) parts.0)))
        ∙ ap (λ rest. x ∷ rest) (apart xs parts.1)

    -- so to take out the item at its place is to take out all that have the number
    removed_at : (xs : List X) (i : ℕ) → rises n xs ≡ true → position_or_len is_k xs ≡ i → i < length xs →
        remove xs i ≡ filter (λ x. not (is_k x)) xs
    removed_at [] i up at lt = absurd (omega arith)
    removed_at (x ∷ xs) i up at lt =
        let parts = parts_of x xs up in
        elim (cases_Bool (is_k x)) [
          | inl here ↦
              let first : i ≡ 0 = sym at ∙ ap (λ b. cond (not b) (1 + position_or_len is_k xs) 0) here in
              ap (remove (x ∷ xs)) first
              ∙ sym (apart xs (ap (λ m. list_all (λ y. nat_lt m (n y)) xs) (sym (eqb-true (n x) k here)) ∙ parts.0))
              ∙ sym (ap (λ b. cond (not b) (x ∷ filter (λ y. not (is_k y)) xs) (filter (λ y. not (is_k y)) xs)) here)
          | inr there ↦
              let j = position_or_len is_k xs in
              let later : i ≡ suc j = sym at ∙ ap (λ b. cond (not b) (1 + j) 0) there ∙ omega arith in
              ap (remove (x ∷ xs)) later
              ∙ ap (λ rest. x ∷ rest) (removed_at xs j parts.1 refl (omega (arith, later, lt)))
              ∙ sym (ap (λ b. cond (not b) (x ∷ filter (λ y. not (is_k y)) xs) (filter (λ y. not (is_k y)) xs)) there)
        ]

    -- the place is within the list
    pub place_within : (xs : List X) (i : ℕ) → position is_k xs ≡ Some i → i < length xs
    place_within xs i is =
        let at = position_or_len is_k xs in
        let parts = cond_some (nat_lt at (length xs)) at i is in
        omega (arith, parts.1, ltb-true at (length xs) parts.0)

    pub removed_is : (xs : List X) (i : ℕ) → rises n xs ≡ true → position is_k xs ≡ Some i → remove xs i ≡ filter (λ x. not (is_k x)) xs
    removed_is xs i up is =
        let at = position_or_len is_k xs in
        let parts = cond_some (nat_lt at (length xs)) at i is in
        removed_at xs i up parts.1 (place_within xs i is)

    -- of the first m one less is left then, where it stood among these
    apart_first : (xs : List X) (m : ℕ) → list_all (λ y. nat_lt k (n y)) xs ≡ true → filter (λ x. not (is_k x)) (take m xs) ≡ take m xs
    apart_first [] zero all = refl
    apart_first [] (suc m) all = refl
    apart_first (x ∷ xs) zero all = refl
    apart_first (x ∷ xs) (suc m) all =
        let parts = and_parts (nat_lt k (n x)) (list_all (λ y. nat_lt k (n y)) xs) all in
        ap (λ b. cond (not b) (x ∷ filter (λ y. not (is_k y)) (take m xs)) (filter (λ y. not (is_k y)) (take m xs)))
        (ne_eqb (n x) k (λ same. omega (arith, same, ltb-true k (n x) parts.0)))
        ∙ ap (λ rest. x ∷ rest) (apart_first xs m parts.1)

    less_one : (xs : List X) (i m : ℕ) → rises n xs ≡ true → position_or_len is_k xs ≡ i → i < m → m ≤ length xs →
        length (filter (λ x. not (is_k x)) (take m xs)) + 1 ≡ m
    less_one [] i m up at lt le = absurd (omega arith)
    less_one (x ∷ xs) i zero up at lt le = absurd (omega arith)
    less_one (x ∷ xs) i (suc m) up at lt le =
        let parts = parts_of x xs up in
        let rest = filter (λ y. not (is_k y)) (take m xs) in
        elim (cases_Bool (is_k x)) [
          | inl here ↦
              let all : rest ≡ take m xs =
              apart_first xs m (ap (λ l. list_all (λ y. nat_lt l (n y)) xs) (sym (eqb-true (n x) k here)) ∙ parts.0) in
              let is : length (cond (not (is_k x)) (x ∷ rest) rest) ≡ length (take m xs) =
              ap (λ b. length (cond (not b) (x ∷ rest) rest)) here ∙ ap length all in
              omega (arith, is, length-take m xs, le)
          | inr there ↦
              let j = position_or_len is_k xs in
              let later : i ≡ suc j = sym at ∙ ap (λ b. cond (not b) (1 + j) 0) there ∙ omega arith in
              let is : length (cond (not (is_k x)) (x ∷ rest) rest) ≡ length (x ∷ rest) =
              ap (λ b. length (cond (not b) (x ∷ rest) rest)) there in
              omega (arith, is, less_one xs j m parts.1 refl (omega (arith, later, lt)) (omega (arith, le)))
        ]

    pub one_less : (xs : List X) (i m : ℕ) → rises n xs ≡ true → position is_k xs ≡ Some i → i < m → m ≤ length xs →
        length (filter (λ x. not (is_k x)) (take m xs)) ≡ m - 1
    one_less xs i m up is lt le =
        let at = position_or_len is_k xs in
        let parts = cond_some (nat_lt at (length xs)) at i is in
        omega (arith, less_one xs i m up parts.1 lt le)

    -- and all are, where none among them had the number
    as_many : (xs : List X) (m : ℕ) → m ≤ position_or_len is_k xs → filter (λ x. not (is_k x)) (take m xs) ≡ take m xs
    as_many [] zero le = refl
    as_many [] (suc m) le = refl
    as_many (x ∷ xs) zero le = refl
    as_many (x ∷ xs) (suc m) le = elim (cases_Bool (is_k x)) [
      | inl here ↦ absurd (omega (arith, le, ap (λ b. cond (not b) (1 + position_or_len is_k xs) 0) here))
      | inr there ↦
          let j = position_or_len is_k xs in
          let later : position_or_len is_k (x ∷ xs) ≡ 1 + j = ap (λ b. cond (not b) (1 + j) 0) there in
          ap (λ b. cond (not b) (x ∷ filter (λ y. not (is_k y)) (take m xs)) (filter (λ y. not (is_k y)) (take m xs))) there
          ∙ ap (λ rest. x ∷ rest) (as_many xs m (omega (arith, le, later)))
    ]

    pub none_less : (xs : List X) (i m : ℕ) → position is_k xs ≡ Some i → m ≤ i → m ≤ length xs →
        length (filter (λ x. not (is_k x)) (take m xs)) ≡ m
    none_less xs i m is behind le =
        let at = position_or_len is_k xs in
        let parts = cond_some (nat_lt at (length xs)) at i is in
        ap length (as_many xs m (omega (arith, behind, parts.1))) ∙ omega (arith, length-take m xs, le)

    past : (at len : ℕ) → cond {A = Option ℕ} (nat_lt at len) (Some at) None ≡ None → len ≤ at
    past at len none = elim (cases_Bool (nat_lt at len)) [
      | inl passes ↦ absurd (cc (ap (λ b. cond {A = Option ℕ} b (Some at) None) passes))
      | inr fails ↦ ltb-false at len fails
    ]

    pub none_taken : (xs : List X) (m : ℕ) → position is_k xs ≡ None → m ≤ length xs → filter (λ x. not (is_k x)) (take m xs) ≡ take m xs
    none_taken xs m none le = as_many xs m (omega (arith, le, past (position_or_len is_k xs) (length xs) none))

    pub none_fewer : (xs : List X) (m : ℕ) → position is_k xs ≡ None → m ≤ length xs → length (filter (λ x. not (is_k x)) (take m xs)) ≡ m
    none_fewer xs m none le = ap length (none_taken xs m none le) ∙ omega (arith, length-take m xs, le)

    pub none_removed : (xs : List X) → position is_k xs ≡ None → filter (λ x. not (is_k x)) xs ≡ xs
    none_removed xs none =
        ap (filter (λ x. not (is_k x))) (sym (take_all (length xs) xs (omega arith)))
        ∙ none_taken xs (length xs) none (omega arith)
        ∙ take_all (length xs) xs (omega arith)

    -- what a search finds stands at the place
    pub found_at : (xs : List X) (i : ℕ) → position is_k xs ≡ Some i → find is_k xs ≡ slice_get xs i
    found_at xs i is =
        let at = position_or_len is_k xs in
        find_at is_k xs ∙ ap (slice_get xs) (cond_some (nat_lt at (length xs)) at i is).1

    pub not_found : (xs : List X) → position is_k xs ≡ None → find is_k xs ≡ None
    not_found xs none = find_at is_k xs ∙ slice_get_past xs (position_or_len is_k xs) (past (position_or_len is_k xs) (length xs) none)
