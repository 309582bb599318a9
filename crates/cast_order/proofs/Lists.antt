-- Lists of entries: what a test finds and keeps, and what is among them.
use Rattle.std.proofs.Common.{◌≡◌, ℕ, zero, suc, ◌+◌, ◌-◌, ◌≤◌, Bool, true, false, cond, not, List, [], ◌∷◌, ◌++◌}
use Rattle.std.proofs.Common.{length, take, drop, Option, Some, None, refl, ap, subst, ◌∙◌, inl, inr, arith}
use Rattle.std.specs.List.{find, filter, list_all}
use Rattle.std.specs.Option.{option_or}
use Rattle.std.proofs.lemmas.Bool.{cases_Bool, and_parts, and_from}

pub or_none : {A : Type 0} (o : Option A) → option_or o None ≡ o
or_none None = refl
or_none (Some x) = refl

pub or_again : {A : Type 0} (a b c : Option A) → option_or (option_or a b) c ≡ option_or a (option_or b c)
or_again None b c = refl
or_again (Some x) b c = refl

-- a search is not changed where only what it passes over is taken out
pub find_kept : {A : Type 0} (t keep : A → Bool) → ((x : A) → keep x ≡ false → t x ≡ false) → (xs : List A) →
    find t (filter keep xs) ≡ find t xs
find_kept t keep passed [] = refl
find_kept t keep passed (x ∷ xs) = elim (cases_Bool (keep x)) [
  | inl stays ↦ rw stays (ap (λ o. cond (t x) (Some x) o) (find_kept t keep passed xs))
  | inr goes ↦ rw (goes, passed x goes) (find_kept t keep passed xs)
]

-- nothing fails a test that all pass, nor one that follows from it
pub none_fails : {A : Type 0} (t : A → Bool) (xs : List A) → list_all t xs ≡ true → find (λ x. not (t x)) xs ≡ None
none_fails t [] all = refl
none_fails t (x ∷ xs) all =
    let parts = and_parts (t x) (list_all t xs) all in
    ap (λ b. cond (not b) (Some x) (find (λ y. not (t y)) xs)) parts.0 ∙ none_fails t xs parts.1

pub none_fails_more : {A : Type 0} (t s : A → Bool) → ((x : A) → t x ≡ true → s x ≡ true) → (xs : List A) →
    find (λ x. not (t x)) xs ≡ None → find (λ x. not (s x)) xs ≡ None
none_fails_more t s follows [] none = refl
none_fails_more t s follows (x ∷ xs) none = elim (cases_Bool (t x)) [
  | inl passes ↦
      let rest : find (λ y. not (t y)) xs ≡ None = subst (λ b. cond (not b) (Some x) (find (λ y. not (t y)) xs) ≡ None) passes none in
      ap (λ b. cond (not b) (Some x) (find (λ y. not (s y)) xs)) (follows x passes) ∙ none_fails_more t s follows xs rest
  | inr fails ↦ let some : Some x ≡ None = subst (λ b. cond (not b) (Some x) (find (λ y. not (t y)) xs) ≡ None) fails none in cc
]

-- of no items there are none
take_none : {A : Type 0} (k : ℕ) → ◌≡◌ {A = List A} [] (take k [])
take_none zero = refl
take_none (suc k) = refl

drop_none : {A : Type 0} (k : ℕ) (zs : List A) → zs ≡ drop k [] ++ zs
drop_none zero zs = refl
drop_none (suc k) zs = refl

-- the first of a list, and those that follow
pub take_on : {A : Type 0} (n m : ℕ) (xs : List A) → take (n + m) xs ≡ take n xs ++ take m (drop n xs)
take_on zero m xs = let e : zero + m ≡ m = omega arith in ap (λ k. take k xs) e
take_on (suc n) m [] = let e : suc n + m ≡ suc (n + m) = omega arith in ap (λ k. take k []) e ∙ take_none m
take_on (suc n) m (x ∷ xs) =
    let e : suc n + m ≡ suc (n + m) = omega arith in
    ap (λ k. take k (x ∷ xs)) e ∙ ap (λ rest. x ∷ rest) (take_on n m xs)

-- what is left of two lists in a row
pub drop_on : {A : Type 0} (n : ℕ) (xs ys : List A) → drop n (xs ++ ys) ≡ drop n xs ++ drop (n - length xs) ys
drop_on n [] ys = let e : n ≡ n - 0 = omega arith in ap (λ k. drop k ys) e ∙ drop_none n (drop (n - 0) ys)
drop_on zero (x ∷ xs) ys = let e : 0 ≡ zero - suc (length xs) = omega arith in ap (λ k. x ∷ (xs ++ drop k ys)) e
drop_on (suc n) (x ∷ xs) ys =
    let e : n - length xs ≡ suc n - suc (length xs) = omega arith in
    drop_on n xs ys ∙ ap (λ k. drop n xs ++ drop k ys) e

-- what all of a list pass, all of its first ones pass
pub all_first : {A : Type 0} (t : A → Bool) (n m : ℕ) (xs : List A) → n ≤ m → list_all t (take m xs) ≡ true → list_all t (take n xs) ≡ true
all_first t zero m xs le all = refl
all_first t (suc n) zero xs le all = absurd (omega arith)
all_first t (suc n) (suc m) [] le all = refl
all_first t (suc n) (suc m) (x ∷ xs) le all =
    let parts = and_parts (t x) (list_all t (take m xs)) all in
    and_from (t x) (list_all t (take n xs)) parts.0 (all_first t n m xs (omega arith) parts.1)

-- where nothing is found among the first of a list, nothing is among fewer
pub none_first : {A : Type 0} (t : A → Bool) (n m : ℕ) (xs : List A) → n ≤ m → find t (take m xs) ≡ None → find t (take n xs) ≡ None
none_first t zero m xs le none = refl
none_first t (suc n) zero xs le none = absurd (omega arith)
none_first t (suc n) (suc m) [] le none = refl
none_first t (suc n) (suc m) (x ∷ xs) le none = elim (cases_Bool (t x)) [
  | inl passes ↦ let some : Some x ≡ None = subst (λ b. cond b (Some x) (find t (take m xs)) ≡ None) passes none in cc
  | inr fails ↦
      let rest : find t (take m xs) ≡ None = subst (λ b. cond b (Some x) (find t (take m xs)) ≡ None) fails none in
      ap (λ b. cond b (Some x) (find t (take n xs))) fails ∙ none_first t n m xs (omega arith) rest
]

-- nor among those that another test keeps
pub none_kept : {A : Type 0} (t keep : A → Bool) (xs : List A) → find t xs ≡ None → find t (filter keep xs) ≡ None
none_kept t keep [] none = refl
none_kept t keep (x ∷ xs) none = elim (cases_Bool (t x)) [
  | inl passes ↦ let some : Some x ≡ None = subst (λ b. cond b (Some x) (find t xs) ≡ None) passes none in cc
  | inr fails ↦
      let rest : find t (filter keep xs) ≡ None = none_kept t keep xs (subst (λ b. cond b (Some x) (find t xs) ≡ None) fails none) in
      elim (keep x) as (λ b. find t (cond b (x ∷ filter keep xs) (filter keep xs)) ≡ None) [
        | true ↦ ap (λ b. cond b (Some x) (find t (filter keep xs))) fails ∙ rest
        | false ↦ rest
      ]
]
