-- Counted lists are read as they were written, and what is read of a sorted list is sorted.
use Rattle.std.proofs.Common.{◌≡◌, ℕ, zero, suc, Bool, true, false, List, [], ◌∷◌, ◌++◌, length, Option}
use Rattle.std.proofs.Common.{Some, None, Ordering, Ok, Err, refl, sym, ap, subst, ◌∙◌, append_assoc}
use Rattle.std.specs.List.{flat_map, list_all, AllByRecursion}
use Rattle.std.specs.Ordering.{is_lt}
use Rattle.std.specs.Cmp.{IsTotalOrder}
use Rattle.std.specs.FinMap.Entries.{is_sorted, below_all}
use Rattle.std.proofs.lemmas.Bool.{and_parts, and_from}
use Rattle.std.proofs.lemmas.List.Concat.{flat_map-cons}
use Rattle.cast_field.specs.declared.fault.FrameFault.TheVariants.{NotSorted}
use Rattle.cast_types.specs.Rising.{is_rising}
use Rattle.cast_field.specs.Reading.{◌>>=◌, Reader, many, above}
use Rattle.cast_field.proofs.Fields.{IsBytes, bind_ok, ok_is, pass_ok, Took, joined, Takes, Again}
use Rattle.cast_types.proofs.Rising.{less_is}

-- a fact of each item in view of the one before
abbrev pub AllFrom : {S A : Type 0} → (S → A → Type 0) → (A → S) → S → List A → Type 0
AllFrom F seen s [] = Unit {0}
AllFrom F seen s (x ∷ xs) = F s x × AllFrom F seen (seen x) xs

pub many_takes : {S A : Type 0} (item : S → Reader A) (seen : A → S) (spell : A → List ℕ) (F : S → A → Type 0)
    → ((s : S) → Takes (item s) spell (F s)) → (n : ℕ) (s : S) (bytes : List ℕ) (x : List A × List ℕ) → IsBytes bytes
    → many item seen n s bytes ≡ Ok x
    → Took bytes (flat_map spell x.0) x.1 ((length x.0 ≡ n) × AllFrom F seen s x.0)
unfolding many
many_takes {A = A} item seen spell F one zero s bytes x fits e =
    subst (λ (y : List A × List ℕ). Took bytes (flat_map spell y.0) y.1 ((length y.0 ≡ 0) × AllFrom F seen s y.0)) (ok_is ([], bytes) x e)
    (record { parts = refl; rest_fits = fits; holds = (refl, tt) })
many_takes {A = A} item seen spell F one (suc n) s bytes x fits e =
    let a = bind_ok (item s bytes) (λ first. many item seen n (seen first.0) first.1 >>= λ others. Ok (first.0 ∷ others.0, others.1)) x e in
    let b = bind_ok (many item seen n (seen a.0.0) a.0.1) (λ others. Ok (a.0.0 ∷ others.0, others.1)) x a.2 in
    let first = one s bytes a.0 fits a.1 in
    let second = many_takes item seen spell F one n (seen a.0.0) a.0.1 b.0 first.rest_fits b.1 in
    let both : bytes ≡ flat_map spell (a.0.0 ∷ b.0.0) ++ b.0.1 =
    joined bytes (spell a.0.0) a.0.1 (flat_map spell b.0.0) b.0.1 first.parts second.parts
    ∙ ap (λ (t : List ℕ). t ++ b.0.1) (sym (flat_map-cons spell a.0.0 b.0.0)) in
    let made : List A × List ℕ = (a.0.0 ∷ b.0.0, b.0.1) in
    subst (λ (y : List A × List ℕ). Took bytes (flat_map spell y.0) y.1 ((length y.0 ≡ suc n) × AllFrom F seen s y.0)) (ok_is made x b.2)
    (record { parts = both; rest_fits = second.rest_fits; holds = (ap suc second.holds.0, (first.holds, second.holds.1)) })

pub many_again : {S A : Type 0} (item : S → Reader A) (seen : A → S) (spell : A → List ℕ) (F : S → A → Type 0)
    → ((s : S) → Again (item s) spell (F s)) → (xs : List A) (s : S) (rest : List ℕ) → AllFrom F seen s xs
    → many item seen (length xs) s (flat_map spell xs ++ rest) ≡ Ok (xs, rest)
unfolding many
many_again item seen spell F one [] s rest fits = refl
many_again item seen spell F one (x ∷ xs) s rest fits =
    let regrouped : flat_map spell (x ∷ xs) ++ rest ≡ spell x ++ (flat_map spell xs ++ rest) =
    ap (λ (t : List ℕ). t ++ rest) (flat_map-cons spell x xs) ∙ append_assoc (spell x) (flat_map spell xs) rest in
    ap (many item seen (suc (length xs)) s) regrouped
    ∙ rw (one s x (flat_map spell xs ++ rest) fits.0, many_again item seen spell F one xs (seen x) rest fits.1) refl

-- ---- keys above the one before

abbrev pub IsAbove : {K : Type 0} → (K → K → Ordering) → Option K → K → Type 0
IsAbove R None k = Unit {0}
IsAbove R (Some last) k = is_lt (R last k) ≡ true

pub above_is : {K : Type 0} (R : K → K → Ordering) (last : Option K) (k x : K × List ℕ) → above R last k ≡ Ok x
    → (k ≡ x) × IsAbove R last k.0
unfolding above
above_is R None k x e = (ok_is k x e, tt)
above_is R (Some last) k x e = let g = pass_ok (is_lt (R last k.0)) NotSorted (Ok k) x e in (ok_is k x g.1, g.0)

pub above_again : {K : Type 0} (R : K → K → Ordering) (last : Option K) (k : K × List ℕ) → IsAbove R last k.0 → above R last k ≡ Ok k
unfolding above
above_again R None k h = refl
above_again R (Some last) k h = rw h refl

-- what comes of a key: it is the first, above the one before, or refused
pub above_first : {K : Type 0} (R : K → K → Ordering) (last : Option K) (k : K × List ℕ) → last ≡ None → above R last k ≡ Ok k
unfolding above
above_first R last k is = rw is refl

pub above_passed : {K : Type 0} (R : K → K → Ordering) (last : Option K) (p : K) (k : K × List ℕ) → last ≡ Some p → is_lt (R p k.0) ≡ true
    → above R last k ≡ Ok k
unfolding above
above_passed R last p k is is_less = rw (is, is_less) refl

pub above_refused : {K : Type 0} (R : K → K → Ordering) (last : Option K) (p : K) (k : K × List ℕ) → last ≡ Some p → is_lt (R p k.0) ≡ false
    → above R last k ≡ Err NotSorted
unfolding above
above_refused R last p k is not_less = rw (is, not_less) refl

chain : {K : Type 0} {R : K → K → Ordering} → IsTotalOrder R → (x y z : K) → is_lt (R x y) ≡ true → is_lt (R y z) ≡ true
    → is_lt (R x z) ≡ true
chain {R = R} o x y z p q = ap is_lt (o.trans x y z (less_is (R x y) p) (less_is (R y z) q))

-- an item above the one before
abbrev pub SortedMap : {K X : Type 0} → (K → K → Ordering) → (K × X → Type 0) → Option K → K × X → Type 0
SortedMap R P last e = P e × IsAbove R last e.0

abbrev pub key_of : {K X : Type 0} → K × X → Option K
key_of e = Some e.0

abbrev pub Placed : {K : Type 0} → (K → K → Ordering) → (K → Type 0) → Option K → K → Type 0
Placed R P last k = P k × IsAbove R last k

abbrev pub some_of : {K : Type 0} → K → Option K
some_of k = Some k

module _ {K X : Type 0} (R : K → K → Ordering) (o : IsTotalOrder R) where
  abbrev Under : Option K → List (K × X) → Type 0
  Under None es = Unit {0}
  Under (Some k) es = below_all R k es ≡ true

  lower : (x y : K) (es : List (K × X)) → is_lt (R x y) ≡ true → below_all R y es ≡ true → below_all R x es ≡ true
  lower x y [] p h = refl
  lower x y (e ∷ es) p h =
      let parts = and_parts (is_lt (R y e.0)) (below_all R y es) h in
      and_from (is_lt (R x e.0)) (below_all R x es) (chain o x y e.0 p parts.0) (lower x y es p parts.1)

  under_cons : (last : Option K) (e : K × X) (es : List (K × X)) → IsAbove R last e.0 → below_all R e.0 es ≡ true → Under last (e ∷ es)
  under_cons None e es p h = tt
  under_cons (Some k) e es p h = and_from (is_lt (R k e.0)) (below_all R k es) p (lower k e.0 es p h)

  under_head : (k : K) (e : K × X) (es : List (K × X)) → below_all R k (e ∷ es) ≡ true → is_lt (R k e.0) ≡ true
  under_head k e es h = (and_parts (is_lt (R k e.0)) (below_all R k es) h).0

  pub sorted_from : (P : K × X → Type 0) (last : Option K) (es : List (K × X)) → AllFrom (SortedMap R P) key_of last es
      → (is_sorted R es ≡ true) × Under last es × AllByRecursion P es
  sorted_from P None [] h = (refl, tt, tt)
  sorted_from P (Some k) [] h = (refl, refl, tt)
  sorted_from P last (e ∷ es) h =
      let rest = sorted_from P (Some e.0) es h.1 in
      (and_from (below_all R e.0 es) (is_sorted R es) rest.1 rest.0, under_cons last e es h.0.1 rest.1, (h.0.0, rest.2))

  pub keyed_from : (P : K × X → Type 0) (last : Option K) (es : List (K × X)) → is_sorted R es ≡ true → Under last es → AllByRecursion P es
      → AllFrom (SortedMap R P) key_of last es
  keyed_from P last [] sorted under all = tt
  keyed_from P None (e ∷ es) sorted under all =
      let parts = and_parts (below_all R e.0 es) (is_sorted R es) sorted in
      ((all.0, tt), keyed_from P (Some e.0) es parts.1 parts.0 all.1)
  keyed_from P (Some k) (e ∷ es) sorted under all =
      let parts = and_parts (below_all R e.0 es) (is_sorted R es) sorted in
      ((all.0, under_head k e es under), keyed_from P (Some e.0) es parts.1 parts.0 all.1)

module _ {K : Type 0} (R : K → K → Ordering) (o : IsTotalOrder R) where
  abbrev all_above : K → List K → Bool
  all_above k ks = list_all (λ y. is_lt (R k y)) ks

  abbrev Beneath : Option K → List K → Type 0
  Beneath None ks = Unit {0}
  Beneath (Some k) ks = all_above k ks ≡ true

  deeper : (x y : K) (ks : List K) → is_lt (R x y) ≡ true → all_above y ks ≡ true → all_above x ks ≡ true
  deeper x y [] p h = refl
  deeper x y (k ∷ ks) p h =
      let parts = and_parts (is_lt (R y k)) (all_above y ks) h in
      and_from (is_lt (R x k)) (all_above x ks) (chain o x y k p parts.0) (deeper x y ks p parts.1)

  beneath_cons : (last : Option K) (k : K) (ks : List K) → IsAbove R last k → all_above k ks ≡ true → Beneath last (k ∷ ks)
  beneath_cons None k ks p h = tt
  beneath_cons (Some j) k ks p h = and_from (is_lt (R j k)) (all_above j ks) p (deeper j k ks p h)

  pub rising_from : (P : K → Type 0) (last : Option K) (ks : List K) → AllFrom (Placed R P) some_of last ks
      → (is_rising R ks ≡ true) × Beneath last ks × AllByRecursion P ks
  rising_from P None [] h = (refl, tt, tt)
  rising_from P (Some j) [] h = (refl, refl, tt)
  rising_from P last (k ∷ ks) h =
      let rest = rising_from P (Some k) ks h.1 in
      (and_from (all_above k ks) (is_rising R ks) rest.1 rest.0, beneath_cons last k ks h.0.1 rest.1, (h.0.0, rest.2))

  pub placed_from : (P : K → Type 0) (last : Option K) (ks : List K) → is_rising R ks ≡ true → Beneath last ks → AllByRecursion P ks
      → AllFrom (Placed R P) some_of last ks
  placed_from P last [] rising beneath all = tt
  placed_from P None (k ∷ ks) rising beneath all =
      let parts = and_parts (all_above k ks) (is_rising R ks) rising in
      ((all.0, tt), placed_from P (Some k) ks parts.1 parts.0 all.1)
  placed_from P (Some j) (k ∷ ks) rising beneath all =
      let parts = and_parts (all_above k ks) (is_rising R ks) rising in
      ((all.0, (and_parts (is_lt (R j k)) (all_above j ks) beneath).0), placed_from P (Some k) ks parts.1 parts.0 all.1)
