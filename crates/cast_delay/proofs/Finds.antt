-- The first item of a list that passes a test, and what is found at a key after it was put there.
use Rattle.std.proofs.Common.{◌≡◌, ℕ, zero, suc, ◌+◌, Bool, true, false, cond, not, List, [], ◌∷◌, ◌++◌, take, map}
use Rattle.std.proofs.Common.{filter, Contains, Option, Some, None, unwrap_or, refl, sym, ap, subst, ◌∙◌, inl, inr, arith}
use Rattle.std.specs.Prelude.{if◌then◌else◌}
use Rattle.std.specs.List as list
use Rattle.std.specs.Option.{option_map}
use Rattle.std.specs.Ordering.{eq_by_cmp}
use Rattle.std.specs.FinMap.Entries.{find, put, find-put}
use Rattle.std.proofs.lemmas.Bool.{cases_Bool, false≢true, or_cases, or_left, or_right}
use Rattle.cast_types.specs.declared.names.GroupNo.{GroupNo}
use Rattle.cast_types.specs.Names.{group_cmp, group_eq}
use Rattle.cast_types.proofs.Orders.{group_total, group_exact, same_group, group_itself, tie_self, tie_same}
use Rattle.cast_types.proofs.Bools.{same_bools}
use Rattle.cast_types.proofs.Contains.{contains_here, contains_later}

-- what is found is in the list
pub found_in : {A : Type 0} (t : A → Bool) (xs : List A) (x : A) → list.find t xs ≡ Some x → Contains xs x
found_in t [] x is = cc
found_in t (y ∷ xs) x is =
    elim (t y) as (λ b. cond b (Some y) (list.find t xs) ≡ Some x → Contains (y ∷ xs) x) [
      | true ↦ λ here. subst (λ z. Contains (y ∷ xs) z) (ap (λ (o : Option _). unwrap_or o y) here) (contains_here y xs)
      | false ↦ λ later. contains_later x y xs (found_in t xs x later)
    ] is

-- tests that agree on a list find the same in it
pub find_agree : {A : Type 0} (s t : A → Bool) (xs : List A) → ((x : A) → Contains xs x → s x ≡ t x) → list.find s xs ≡ list.find t xs
find_agree s t [] same = refl
find_agree s t (x ∷ xs) same =
    let here = same x (contains_here x xs) in
    let later = find_agree s t xs (λ y in_xs. same y (contains_later y x xs in_xs)) in
    λ i. cond (here i) (Some x) (later i)

pub find_mapped : {A B : Type 0} (f : A → B) (t : B → Bool) (xs : List A) →
    list.find t (map f xs) ≡ option_map f (list.find (λ x. t (f x)) xs)
find_mapped f t [] = refl
find_mapped f t (x ∷ xs) =
    elim (t (f x)) as (λ b. cond b (Some (f x)) (list.find t (map f xs))
    ≡ option_map f (cond b (Some x) (list.find (λ y. t (f y)) xs))) [ true ↦ refl | false ↦ find_mapped f t xs ]

pub never_found : {A : Type 0} (t : A → Bool) (xs : List A) → ((x : A) → t x ≡ false) → list.find t xs ≡ None
never_found t [] none = refl
never_found t (x ∷ xs) none = ap (λ b. cond b (Some x) (list.find t xs)) (none x) ∙ never_found t xs none

-- what is found stays found, and what is not found is looked for in what is added
pub find-append_some : {A : Type 0} (t : A → Bool) (xs ys : List A) (x : A) → list.find t xs ≡ Some x → list.find t (xs ++ ys) ≡ Some x
find-append_some t [] ys x is = cc
find-append_some t (y ∷ xs) ys x is =
    elim (t y) as (λ b. cond b (Some y) (list.find t xs) ≡ Some x → cond b (Some y) (list.find t (xs ++ ys)) ≡ Some x) [
      | true ↦
          λ here. here
      | false ↦ λ later. find-append_some t xs ys x later
    ] is

pub find-append_none : {A : Type 0} (t : A → Bool) (xs ys : List A) → list.find t xs ≡ None → list.find t (xs ++ ys) ≡ list.find t ys
find-append_none t [] ys is = refl
find-append_none t (y ∷ xs) ys is =
    elim (t y) as (λ b. cond b (Some y) (list.find t xs) ≡ None → cond b (Some y) (list.find t (xs ++ ys)) ≡ list.find t ys) [
      | true ↦
          λ here. cc here
      | false ↦ λ later. find-append_none t xs ys later
    ] is

-- nothing before the first place that passes does
find_taken : {A : Type 0} (t : A → Bool) (x : A) (xs : List A) (n k : ℕ) → k ≡ 1 + n → t x ≡ false → list.find t (take n xs) ≡ None →
    list.find t (take k (x ∷ xs)) ≡ None
find_taken t x xs n zero is fails rest = absurd (omega (arith, is))
find_taken t x xs n (suc k) is fails rest =
    let same : k ≡ n = omega (arith, is) in
    ap (λ b. cond b (Some x) (list.find t (take k xs))) fails ∙ ap (λ j. list.find t (take j xs)) same ∙ rest

pub none_before : {A : Type 0} (t : A → Bool) (xs : List A) → list.find t (take (list.position_or_len t xs) xs) ≡ None
none_before t [] = refl
none_before t (x ∷ xs) = elim (cases_Bool (t x)) [
  | inl passes ↦ ap (λ b. list.find t (take (cond (not b) (1 + list.position_or_len t xs) 0) (x ∷ xs))) passes
  | inr fails ↦
      ap (λ b. list.find t (take (cond (not b) (1 + list.position_or_len t xs) 0) (x ∷ xs))) fails
      ∙ find_taken t x xs (list.position_or_len t xs) (1 + list.position_or_len t xs) refl fails (none_before t xs)
]

-- a search is not changed where only what it passes over is taken out
pub find_kept : {A : Type 0} (t keep : A → Bool) → ((x : A) → keep x ≡ false → t x ≡ false) → (xs : List A) →
    list.find t (filter keep xs) ≡ list.find t xs
find_kept t keep passed [] = refl
find_kept t keep passed (x ∷ xs) = elim (cases_Bool (keep x)) [
  | inl stays ↦ rw stays (ap (λ o. cond (t x) (Some x) o) (find_kept t keep passed xs))
  | inr goes ↦ rw (goes, passed x goes) (find_kept t keep passed xs)
]

-- what is taken out is not found
pub find_dropped : {A : Type 0} (t : A → Bool) (xs : List A) → list.find t (filter (λ x. not (t x)) xs) ≡ None
find_dropped t [] = refl
find_dropped t (x ∷ xs) = elim (cases_Bool (t x)) [
  | inl passes ↦ rw passes (find_dropped t xs)
  | inr fails ↦ rw fails (ap (λ b. cond b (Some x) (list.find t (filter (λ y. not (t y)) xs))) fails ∙ find_dropped t xs)
]

-- what a filter keeps is of the list, and passes
kept_step : {A : Type 0} (keep : A → Bool) (y : A) (ys : List A) (x : A) → (Contains (filter keep ys) x → Contains ys x × (keep x ≡ true)) →
    (b : Bool) → keep y ≡ b → Contains (cond b (y ∷ filter keep ys) (filter keep ys)) x → Contains (y ∷ ys) x × (keep x ≡ true)
kept_step keep y ys x rest true stays (zero, lt, at) = (
  subst (λ z. Contains (y ∷ ys) z) at (contains_here y ys),
  subst (λ z. keep z ≡ true) at stays,
)
kept_step keep y ys x rest true stays (suc k, lt, at) =
    let later = rest (k, omega (arith, lt), at) in (contains_later x y ys later.0, later.1)
kept_step keep y ys x rest false goes inside = let later = rest inside in (contains_later x y ys later.0, later.1)

pub kept_parts : {A : Type 0} (keep : A → Bool) (xs : List A) (x : A) → Contains (filter keep xs) x → Contains xs x × (keep x ≡ true)
kept_parts keep [] x in_it = absurd (omega (arith, in_it.1))
kept_parts keep (y ∷ ys) x in_it = kept_step keep y ys x (kept_parts keep ys x) (keep y) refl in_it

pub filter_mapped : {A B : Type 0} (f : A → B) (keep : B → Bool) (xs : List A) →
    filter keep (map f xs) ≡ map f (filter (λ x. keep (f x)) xs)
filter_mapped f keep [] = refl
filter_mapped f keep (x ∷ xs) =
    elim (keep (f x)) as (λ b. cond b (f x ∷ filter keep (map f xs)) (filter keep (map f xs))
    ≡ map f (cond b (x ∷ filter (λ y. keep (f y)) xs) (filter (λ y. keep (f y)) xs))) [
      | true ↦ ap (λ rest. f x ∷ rest) (filter_mapped f keep xs)
      | false ↦ filter_mapped f keep xs
    ]

-- an item that passes, where one does
pub any_in : {A : Type 0} (t : A → Bool) (xs : List A) → list.list_any t xs ≡ true → (x : A) × (Contains xs x × (t x ≡ true))
any_in t [] some = absurd (false≢true some)
any_in t (x ∷ xs) some = elim (or_cases (t x) (list.list_any t xs) some) [
  | inl here ↦ (x, (contains_here x xs, here))
  | inr later ↦ let rest = any_in t xs later in (rest.0, (contains_later rest.0 x xs rest.1.0, rest.1.1))
]

pub found_any : {A : Type 0} (t u : A → Bool) (xs : List A) (x : A) → list.find u xs ≡ Some x → t x ≡ true → list.list_any t xs ≡ true
found_any t u [] x is passes = cc
found_any t u (y ∷ ys) x is passes =
    elim (u y) as (λ b. cond b (Some y) (list.find u ys) ≡ Some x → list.list_any t (y ∷ ys) ≡ true) [
      | true ↦ λ here. or_left (t y) (list.list_any t ys) (subst (λ z. t z ≡ true) (sym (ap (λ (o : Option _). unwrap_or o y) here)) passes)
      | false ↦ λ later. or_right (t y) (list.list_any t ys) (found_any t u ys x later passes)
    ] is

-- groups tie exactly if they are one
tie_is : (g h : GroupNo) → eq_by_cmp group_cmp h g ≡ group_eq g h
tie_is g h = same_bools (eq_by_cmp group_cmp h g) (group_eq g h)
    (λ tie. ap (λ k. group_eq g k) (tie_same group_exact h g tie) ∙ group_itself g)
    (λ same. tie_self group_total h g (sym (same_group g h same)))

-- what a group has after a value was put at a group
pub put_at_group : {V : Type 0} (es : List (GroupNo × V)) (g h : GroupNo) (v d : V) →
    unwrap_or (find group_cmp h (put group_cmp g v es)) d ≡ (if group_eq g h then v else unwrap_or (find group_cmp h es) d)
put_at_group es g h v d =
    ap (λ (o : Option _). unwrap_or o d) (find-put group_cmp group_total h g v es)
    ∙ ap (λ b. unwrap_or (cond b (Some v) (find group_cmp h es)) d) (tie_is g h)
    ∙ elim (group_eq g h) as (λ b.
    unwrap_or (cond b (Some v) (find group_cmp h es)) d ≡ cond b v (unwrap_or (find group_cmp h es) d)) [ true ↦ refl | false ↦ refl ]
