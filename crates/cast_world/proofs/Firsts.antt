-- The elements of a list, each where it stands first; and filters of lists.
use Rattle.cast_types.proofs.Orders.{entry_itself, same_entry}
use Rattle.std.proofs.Common.{ap, append_assoc, arith, inl, inr, subst, sym, ◌∙◌}
use Rattle.std.proofs.lemmas.Bool.{false_from_ne_true, true≢false}
use Rattle.std.proofs.lemmas.List.Elements.{filter-append}
use Rattle.std.proofs.lemmas.List.{append-nil, length-append}
use Rattle.std.specs.Prelude.{◌+◌, ◌++◌, Bool, Contains, List, Some, [], cond, drop, false, filter}
use Rattle.std.specs.Prelude.{length, not, refl, suc, take, true, zero, ℕ, ◌∷◌, ◌≡◌, ◌≤◌, ◌⊎◌}
use Rattle.cast_order.specs.Order.{next_of}
use Rattle.cast_types.specs.Names.{Entry, entry_eq}
use Rattle.cast_world.proofs.Allowed.{contains_more, passed}
use Rattle.cast_world.proofs.Homes.{among_kept}
use Rattle.cast_world.proofs.Listings.{keeps_every}
use Rattle.cast_world.proofs.Orders.{Apart}
use Rattle.cast_world.specs.Agreement.{IsPrefix}

-- the rest of a list without an element
abbrev pub but : Entry → List Entry → List Entry
but x xs = filter (λ y. not (entry_eq x y)) xs

abbrev pub firsts : List Entry → List Entry
firsts [] = []
firsts (x ∷ xs) = x ∷ but x (firsts xs)

pub firsts_had : (xs : List Entry) (e : Entry) → Contains (firsts xs) e → Contains xs e
firsts_had [] e at = at
firsts_had (x ∷ xs) e (zero, lt, is) = (0, omega arith, is)
firsts_had (x ∷ xs) e (suc n, lt, is) =
    contains_more x xs e (firsts_had xs e (among_kept (λ y. not (entry_eq x y)) (firsts xs) e (n, omega (arith, lt), is)))

pub apart_kept : {X : Type 0} (test : X → Bool) (xs : List X) → Apart xs → Apart (filter test xs)
apart_kept test [] apart = tt
apart_kept {X} test (x ∷ xs) apart = go (test x) (apart_kept test xs apart.1)
  where
    go : (b : Bool) → Apart (filter test xs) → Apart (cond b (x ∷ filter test xs) (filter test xs))
    go true more = ((λ at. apart.0 (among_kept test xs x at)), more)
    go false more = more

pub firsts_apart : (xs : List Entry) → Apart (firsts xs)
firsts_apart [] = tt
firsts_apart (x ∷ xs) = (
  (λ at. true≢false (sym (passed (λ y. not (entry_eq x y)) (firsts xs) x at) ∙ ap not (entry_itself x))),
  apart_kept (λ y. not (entry_eq x y)) (firsts xs) (firsts_apart xs),
)

-- what has no repetitions begins its first elements
pub firsts_begin : (xs ys : List Entry) → Apart xs → IsPrefix xs (firsts (xs ++ ys))
firsts_begin [] ys apart = (firsts ys, refl)
firsts_begin (x ∷ xs) ys apart =
    let more = firsts_begin xs ys apart.1 in (
      but x more.0,
      ap (λ l. x ∷ l) (
          ap (λ l. l ++ but x more.0) (sym (keeps_every (λ y. not (entry_eq x y))
          xs (λ y at. ap not (false_from_ne_true (entry_eq x y) (λ same. apart.0 (subst (Contains xs) (sym (same_entry x y same)) at))))))
          ∙ sym (filter-append (λ y. not (entry_eq x y)) xs more.0) ∙ ap (but x) more.1),
    )

-- the first one that was not delivered is the first one of the first elements
next_kept : (has keep : Entry → Bool) (xs : List Entry) → ((y : Entry) → keep y ≡ false → has y ≡ true) →
    next_of has (filter keep xs) ≡ next_of has xs
next_kept has keep [] all = refl
next_kept has keep (x ∷ xs) all = go (keep x) refl (next_kept has keep xs all)
  where
    go : (b : Bool) → keep x ≡ b → next_of has (filter keep xs) ≡ next_of has xs →
        next_of has (cond b (x ∷ filter keep xs) (filter keep xs)) ≡ next_of has (x ∷ xs)
    go true e more = ap (λ r. cond (not (has x)) (Some x) r) more
    go false e more = more ∙ sym (ap (λ b. cond (not b) (Some x) (next_of has xs)) (all x e))

pub next_first : (has : Entry → Bool) (xs : List Entry) → next_of has (firsts xs) ≡ next_of has xs
next_first has [] = refl
next_first has (x ∷ xs) = go (has x) refl (next_first has xs)
  where
    is_same : (b : Bool) → not b ≡ false → b ≡ true
    is_same true e = refl
    is_same false e = absurd (true≢false e)

    go : (b : Bool) → has x ≡ b → next_of has (firsts xs) ≡ next_of has xs →
        cond (not b) (Some x) (next_of has (but x (firsts xs))) ≡ cond (not b) (Some x) (next_of has xs)
    go false e more = refl
    go true e more =
        next_kept has (λ y. not (entry_eq x y)) (firsts xs) (λ y same. ap has (sym (same_entry x y (is_same (entry_eq x y) same))) ∙ e)
        ∙ more

-- Filters

pub kept_twice : {X : Type 0} (test : X → Bool) (xs : List X) → filter test (filter test xs) ≡ filter test xs
kept_twice test xs = keeps_every test (filter test xs) (passed test xs)

pub kept_length : {X : Type 0} (test : X → Bool) (xs : List X) → length (filter test xs) ≤ length xs
kept_length test [] = omega arith
kept_length test (x ∷ xs) = go (test x) (kept_length test xs)
  where
    go : (b : Bool) → length (filter test xs) ≤ length xs → length (cond b (x ∷ filter test xs) (filter test xs)) ≤ length (x ∷ xs)
    go true le = omega (arith, le)
    go false le = omega (arith, le)

pub prefix_kept : {X : Type 0} (test : X → Bool) (xs ys : List X) → IsPrefix xs ys → IsPrefix (filter test xs) (filter test ys)
prefix_kept test xs ys p = (filter test p.0, sym (filter-append test xs p.0) ∙ ap (filter test) p.1)

-- Prefixes of one length

take_of : {X : Type 0} (k : ℕ) (xs ys : List X) → k ≤ length xs → take k xs ≡ take k (xs ++ ys)
take_of zero xs ys low = refl
take_of (suc k) [] ys low = absurd (omega (arith, low))
take_of (suc k) (x ∷ xs) ys low = ap (λ l. x ∷ l) (take_of k xs ys (omega (arith, low)))

pub take_begin : {X : Type 0} (n : ℕ) (xs ys : List X) → IsPrefix xs ys → n ≤ length xs → take n xs ≡ take n ys
take_begin n xs ys p le = take_of n xs p.0 le ∙ ap (take n) p.1

pub drop_length : {X : Type 0} (n : ℕ) (xs : List X) → n ≤ length xs → length (drop n xs) + n ≡ length xs
drop_length zero xs le = omega arith
drop_length (suc n) [] le = absurd (omega (arith, le))
drop_length (suc n) (x ∷ xs) le = let more = drop_length n xs (omega (arith, le)) in omega (arith, more)

empty : {X : Type 0} (l : List X) → length l ≡ 0 → l ≡ []
empty [] e = refl
empty (z ∷ l) e = absurd (omega (arith, e))

-- of two that are comparable the shorter begins the longer
pub shorter_begins : {X : Type 0} (xs ys : List X) → IsPrefix xs ys ⊎ IsPrefix ys xs → length xs ≤ length ys → IsPrefix xs ys
shorter_begins xs ys (inl p) le = p
shorter_begins xs ys (inr p) le = (
  [],
  (let whole = ap length p.1 in let parts = length-append ys p.0 in
      let none : p.0 ≡ [] = empty p.0 (omega (arith, whole, parts, le)) in
      ap (λ l. l ++ []) (sym p.1) ∙ append_assoc ys p.0 [] ∙ ap (λ l. ys ++ l) (ap (λ l. l ++ []) none) ∙ append-nil ys),
)
