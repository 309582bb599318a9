-- What a binary search finds among entries whose keys rise, and what is put there.
use Rattle.std.proofs.Common.{◌≡◌, ℕ, zero, suc, ◌<◌, ◌≤◌, true, cond, List, [], ◌∷◌, length, get_or, set, Some}
use Rattle.std.proofs.Common.{None, Ok, Err, Ordering, Less, Equal, Greater, refl, sym, ap, ◌∙◌, inl, inr, arith}
use Rattle.std.specs.List.{insert}
use Rattle.std.specs.List.Sorted.{IsBinarySearchResult, IsNonDecreasingBy}
use Rattle.std.specs.Ordering.{is_lt, is_eq, ordering_reverse, ordering_index}
use Rattle.std.specs.Cmp.{IsTotalOrder}
use Rattle.std.specs.FinMap.Entries.{find, put, is_sorted, below_all, by_order}
use Rattle.std.proofs.lemmas.Bool.{cases_eq, and_parts}
use Rattle.cast_types.proofs.Rising.{less_is}
use Rattle.cast_clock.proofs.Entries.{equal_is}

module _ {K : Type 0} (R : K → K → Ordering) (total : IsTotalOrder R) where
  turned : (a b : K) (o : Ordering) → R a b ≡ o → R b a ≡ ordering_reverse o
  turned a b o is = total.antisymm b a ∙ ap ordering_reverse is

  -- what is below a key that ties with another is below that
  below_tie : (a b s : K) → R a b ≡ Less → R b s ≡ Equal → R a s ≡ Less
  below_tie a b s less tie = turned s a Greater (sym (total.congr b s a tie) ∙ turned a b Less less)

  pub lower : (a b s : K) → R a b ≡ Less → (o : Ordering) → R b s ≡ o → ordering_index (R a s) ≤ ordering_index o
  lower a b s less Less is = omega (arith, ap ordering_index (total.trans a b s less is))
  lower a b s less Equal is = omega (arith, ap ordering_index (below_tie a b s less is))
  lower a b s less Greater is =
      elim (R a s) as (λ o. ordering_index o ≤ 2) [ Less ↦ omega arith | Equal ↦ omega arith | Greater ↦ omega arith ]

module _ {K V : Type 0} (R : K → K → Ordering) (total : IsTotalOrder R) where
  above_at : (k : K) (es : List (K × V)) (i : ℕ) (d : K × V) → below_all R k es ≡ true → i < length es → R k (get_or es i d).0 ≡ Less
  above_at k [] i d all lt = absurd (omega arith)
  above_at k (e ∷ es) zero d all lt = less_is (R k e.0) (and_parts (is_lt (R k e.0)) (below_all R k es) all).0
  above_at k (e ∷ es) (suc i) d all lt = above_at k es i d (and_parts (is_lt (R k e.0)) (below_all R k es) all).1 (omega arith)

  -- the keys at two places
  at_two : (es : List (K × V)) (i j : ℕ) (d : K × V) → is_sorted R es ≡ true → i < j → j < length es →
      R (get_or es i d).0 (get_or es j d).0 ≡ Less
  at_two [] i j d up lt within = absurd (omega arith)
  at_two (e ∷ es) i zero d up lt within = absurd (omega arith)
  at_two (e ∷ es) zero (suc j) d up lt within = above_at e.0 es j d (and_parts (below_all R e.0 es) (is_sorted R es) up).0 (omega arith)
  at_two (e ∷ es) (suc i) (suc j) d up lt within =
      at_two es i j d (and_parts (below_all R e.0 es) (is_sorted R es) up).1 (omega arith) (omega arith)

  module _ (s : K) where
    -- the comparisons with a key rise along the list, as a binary search asks
    comparisons_rise : (es : List (K × V)) → is_sorted R es ≡ true → IsNonDecreasingBy (λ e. ordering_index (R e.0 s)) es
    comparisons_rise es up i j d le lt = elim (cases_eq i j) [
      | inl same ↦ omega (arith, ap (λ n. ordering_index (R (get_or es n d).0 s)) same)
      | inr differ ↦ lower R total (get_or es i d).0 (get_or es j d).0 s (at_two es i j d up (omega arith) lt) (R (get_or es j d).0 s) refl
    ]

    -- an entry whose key ties is found, and the keys before it are below
    greater_before : (e : K × V) (es : List (K × V)) (i : ℕ) (d : K × V) → below_all R e.0 es ≡ true → i < length es →
        R (get_or es i d).0 s ≡ Equal → R s e.0 ≡ Greater
    greater_before e es i d all lt tie =
        turned R total e.0 s Less (below_tie R total e.0 (get_or es i d).0 s (above_at e.0 es i d all lt) tie)

    found_at : (es : List (K × V)) (i : ℕ) (d : K × V) → is_sorted R es ≡ true → i < length es → R (get_or es i d).0 s ≡ Equal →
        find R s es ≡ Some (get_or es i d).1
    found_at [] i d up lt tie = absurd (omega arith)
    found_at (e ∷ es) zero d up lt tie = ap (λ o. cond (is_eq o) (Some e.1) (find R s es)) (turned R total e.0 s Equal tie)
    found_at (e ∷ es) (suc i) d up lt tie =
        let parts = and_parts (below_all R e.0 es) (is_sorted R es) up in
        ap (λ o. cond (is_eq o) (Some e.1) (find R s es)) (greater_before e es i d parts.0 (omega arith) tie)
        ∙ found_at es i d parts.1 (omega arith) tie

    pub search_found : (es : List (K × V)) (i : ℕ) (d : K × V) → is_sorted R es ≡ true → i < length es →
        IsBinarySearchResult (λ e. R e.0 s) es (Ok i) → find R s es ≡ Some (get_or es i d).1
    search_found es i d up lt is = found_at es i d up lt (is d)

    -- so is the one at a place where the key is tested
    pub found_here : (es : List (K × V)) (i : ℕ) (d : K × V) → is_sorted R es ≡ true → i < length es →
        is_eq (R (get_or es i d).0 s) ≡ true → find R s es ≡ Some (get_or es i d).1
    found_here es i d up lt tie = found_at es i d up lt (equal_is (R (get_or es i d).0 s) tie)

    put_at : (v : V) (es : List (K × V)) (i : ℕ) (d : K × V) → is_sorted R es ≡ true → i < length es → R (get_or es i d).0 s ≡ Equal →
        put R s v es ≡ set es i ((get_or es i d).0, v)
    put_at v [] i d up lt tie = absurd (omega arith)
    put_at v (e ∷ es) zero d up lt tie =
        ap (λ o. by_order o ((s, v) ∷ e ∷ es) ((e.0, v) ∷ es) (e ∷ put R s v es)) (turned R total e.0 s Equal tie)
    put_at v (e ∷ es) (suc i) d up lt tie =
        let parts = and_parts (below_all R e.0 es) (is_sorted R es) up in
        ap (λ o. by_order o ((s, v) ∷ e ∷ es) ((e.0, v) ∷ es) (e ∷ put R s v es)) (greater_before e es i d parts.0 (omega arith) tie)
        ∙ ap (λ rest. e ∷ rest) (put_at v es i d parts.1 (omega arith) tie)

    pub put_found : (v : V) (es : List (K × V)) (i : ℕ) (d : K × V) → is_sorted R es ≡ true → i < length es →
        IsBinarySearchResult (λ e. R e.0 s) es (Ok i) → put R s v es ≡ set es i ((get_or es i d).0, v)
    put_found v es i d up lt is = put_at v es i d up lt (is d)

    -- where no key ties, none is found
    absent : (es : List (K × V)) (i : ℕ) → ((j : ℕ) (d : K × V) → j < i → j < length es → R (get_or es j d).0 s ≡ Less) →
        ((j : ℕ) (d : K × V) → i ≤ j → j < length es → R (get_or es j d).0 s ≡ Greater) → find R s es ≡ None
    absent [] i less more = refl
    absent (e ∷ es) zero less more =
        ap (λ o. cond (is_eq o) (Some e.1) (find R s es)) (turned R total e.0 s Greater (more 0 e (omega arith) (omega arith)))
        ∙ absent es zero (λ j d lt. absurd (omega (arith, lt))) (λ j d le lt. more (suc j) d (omega arith) (omega (arith, lt)))
    absent (e ∷ es) (suc i) less more =
        ap (λ o. cond (is_eq o) (Some e.1) (find R s es)) (turned R total e.0 s Less (less 0 e (omega arith) (omega arith)))
        ∙ absent es i (λ j d lt within. less (suc j) d (omega (arith, lt)) (omega (arith, within)))
        (λ j d le lt. more (suc j) d (omega (arith, le)) (omega (arith, lt)))

    -- and one that is put stands between those below and those above
    put_between : (v : V) (es : List (K × V)) (i : ℕ) → i ≤ length es →
        ((j : ℕ) (d : K × V) → j < i → j < length es → R (get_or es j d).0 s ≡ Less) →
        ((j : ℕ) (d : K × V) → i ≤ j → j < length es → R (get_or es j d).0 s ≡ Greater) → put R s v es ≡ insert es i (s, v)
    put_between v [] zero le less more = refl
    put_between v [] (suc i) le less more = absurd (omega (arith, le))
    put_between v (e ∷ es) zero le less more =
        ap (λ o. by_order o ((s, v) ∷ e ∷ es) ((e.0, v) ∷ es) (e ∷ put R s v es))
        (turned R total e.0 s Greater (more 0 e (omega arith) (omega arith)))
    put_between v (e ∷ es) (suc i) le less more =
        ap (λ o. by_order o ((s, v) ∷ e ∷ es) ((e.0, v) ∷ es) (e ∷ put R s v es))
        (turned R total e.0 s Less (less 0 e (omega arith) (omega arith)))
        ∙ ap (λ rest. e ∷ rest)
        (put_between v es i (omega (arith, le)) (λ j d lt within. less (suc j) d (omega (arith, lt)) (omega (arith, within)))
        (λ j d within lt. more (suc j) d (omega (arith, within)) (omega (arith, lt))))

    pub search_absent : (es : List (K × V)) (i : ℕ) → is_sorted R es ≡ true → IsBinarySearchResult (λ e. R e.0 s) es (Err i) →
        find R s es ≡ None
    search_absent es i up parted =
        let parts = parted (comparisons_rise es up) in
        absent es i (λ j d lt within. parts.0 j d (omega arith) lt) parts.1

    pub put_absent : (v : V) (es : List (K × V)) (i : ℕ) → is_sorted R es ≡ true → i ≤ length es →
        IsBinarySearchResult (λ e. R e.0 s) es (Err i) → put R s v es ≡ insert es i (s, v)
    put_absent v es i up le parted =
        let parts = parted (comparisons_rise es up) in
        put_between v es i le (λ j d lt within. parts.0 j d (omega arith) lt) parts.1
