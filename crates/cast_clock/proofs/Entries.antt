-- What holds of each entry of a list in rising order of its keys.
use Rattle.std.proofs.Common.{◌≡◌, ◌⊎◌, inl, inr, Bool, true, false, cond, ◌&&◌, List, [], ◌∷◌, Option, Some}
use Rattle.std.proofs.Common.{None, unwrap_or, Ordering, Less, Equal, Greater, refl, sym, ap, subst, ◌∙◌}
use Rattle.std.specs.Prelude.{T, IsTrue}
use Rattle.std.specs.Ordering.{is_lt, is_eq}
use Rattle.std.specs.Cmp.{IsTotalOrder}
use Rattle.std.specs.List.{list_all}
use Rattle.std.proofs.lemmas.Cmp.{tied_itself}
use Rattle.std.proofs.lemmas.Map.Lookups.{CmpEqualImpliesEq}
use Rattle.std.specs.FinMap.Entries.{is_sorted, below_all, put, by_order, find, find_tied, find-put}
use Rattle.cast_types.proofs.Bools.{and_end}

pub as_T : (b : Bool) → IsTrue b → T b
as_T b h = subst T (sym h) tt

pub from_T : (b : Bool) → T b → IsTrue b
from_T true h = refl
from_T false h = absurd h

pub both_parts : (a b : Bool) → T (a && b) → T a × T b
both_parts true b h = (tt, h)
both_parts false b h = absurd h

pub and_both : (a b : Bool) → (a && b) ≡ true → (a ≡ true) × (b ≡ true)
and_both true b h = (refl, h)
and_both false b h = cc

pub and_true : (a b : Bool) → a ≡ true → b ≡ true → (a && b) ≡ true
and_true true b g h = h
and_true false b g h = g

apart : {A : Type 0} (v : A) → Some v ≡ None → ⊥
apart v h = cc

pub less_is : (o : Ordering) → T (is_lt o) → o ≡ Less
less_is Less h = refl
less_is Equal h = absurd h
less_is Greater h = absurd h

pub equal_is : (o : Ordering) → is_eq o ≡ true → o ≡ Equal
equal_is Less h = cc
equal_is Equal h = refl
equal_is Greater h = cc

-- a key below each of the list's is not found in it
pub find_below : {K V : Type 0} (R : K → K → Ordering) (q : K) (es : List (K × V)) → T (below_all R q es) → find R q es ≡ None
find_below R q [] h = refl
find_below R q (e ∷ es) h =
    ap (λ r. cond (is_eq r) (Some e.1) (find R q es)) (less_is _ (both_parts _ _ h).0) ∙ find_below R q es (both_parts _ _ h).1

-- what holds of each value holds of a further one exactly if it holds of the list with that
pub list_all-put : {K V : Type 0} (R : K → K → Ordering) (p : V → Bool) (k : K) (v : V) (es : List (K × V)) →
    list_all (λ e. p e.1) es ≡ true → list_all (λ e. p e.1) (put R k v es) ≡ p v
list_all-put R p k v [] h = and_end (p v)
list_all-put R p k v (e ∷ es) h =
    let parts = and_both _ _ h in
    elim (R k e.0) as (λ o. list_all (λ e. p e.1) (by_order o ((k, v) ∷ e ∷ es) ((e.0, v) ∷ es) (e ∷ put R k v es)) ≡ p v) [
      | Less ↦ ap (λ b. p v && b) h ∙ and_end (p v)
      | Equal ↦ ap (λ b. p v && b) parts.1 ∙ and_end (p v)
      | Greater ↦ ap (λ b. b && list_all (λ e. p e.1) (put R k v es)) parts.0 ∙ list_all-put R p k v es parts.1
    ]

-- what holds of each entry holds of what is found
pub found_holds : {K V : Type 0} {R : K → K → Ordering} → CmpEqualImpliesEq R → (P : K → V → Bool) (es : List (K × V)) →
    list_all (λ e. P e.0 e.1) es ≡ true → (q : K) (v : V) → find R q es ≡ Some v → P q v ≡ true
found_holds exact P [] h q v is = cc
found_holds {R = R} exact P (e ∷ es) h q v is =
    let parts = and_both _ _ h in
    elim (R q e.0) as (λ r. R q e.0 ≡ r → cond (is_eq r) (Some e.1) (find R q es) ≡ Some v → P q v ≡ true) [
      | Less ↦ λ _ there. found_holds exact P es parts.1 q v there
      | Equal ↦ λ tie here.
          subst (λ k. P k v ≡ true) (sym (exact q e.0 tie))
          (subst (λ x. P e.0 x ≡ true) (ap (λ (o : Option _). unwrap_or o v) here) parts.0)
      | Greater ↦ λ _ there. found_holds exact P es parts.1 q v there
    ] refl is

-- what holds of all that is found holds of each entry
pub each_found : {K V : Type 0} {R : K → K → Ordering} → IsTotalOrder R → (P : K → V → Bool) (es : List (K × V)) → T (is_sorted R es) →
    ((q : K) (v : V) → find R q es ≡ Some v → P q v ≡ true) → list_all (λ e. P e.0 e.1) es ≡ true
each_found o P [] s h = refl
each_found {R = R} o P (e ∷ es) s h =
    let none : find R e.0 es ≡ None = find_below R e.0 es (both_parts _ _ s).0 in
    and_true _ _ (h e.0 e.1 (ap (λ r. cond (is_eq r) (Some e.1) (find R e.0 es)) (tied_itself o e.0)))
    (each_found o P es (both_parts _ _ s).1 (λ q v is. elim (R q e.0) as (λ r. R q e.0 ≡ r → P q v ≡ true) [
      | Less ↦ λ p. h q v (ap (λ r. cond (is_eq r) (Some e.1) (find R q es)) p ∙ is)
      | Equal ↦ λ p. absurd (apart v (sym is ∙ sym (find_tied R o q e.0 p es) ∙ none))
      | Greater ↦ λ p. h q v (ap (λ r. cond (is_eq r) (Some e.1) (find R q es)) p ∙ is)
    ] refl))

module _ {K V : Type 0} {R : K → K → Ordering} where
  -- A step for each entry: what a key has is made of what it had and of the entry's value, and nothing changes what
  -- has no entry.
  pub folded : (o : IsTotalOrder R) (exact : CmpEqualImpliesEq R) (d : V) (f : V → V → V) (same : (x : V) → f x d ≡ x) (go : List (K × V) →
      List (K × V) → List (K × V)) (none : (m : List (K × V)) → go m [] ≡ m) (some : (e : K × V) (es m : List (K × V)) →
      go m (e ∷ es) ≡ go (put R e.0 (f (unwrap_or (find R e.0 m) d) e.1) m) es) (es m : List (K × V)) (q : K) → T (is_sorted R es) →
      unwrap_or (find R q (go m es)) d ≡ f (unwrap_or (find R q m) d) (unwrap_or (find R q es) d)
  folded o exact d f same go none some [] m q h = ap (λ n. unwrap_or (find R q n) d) (none m) ∙ sym (same _)
  folded o exact d f same go none some (e ∷ es) m q h =
      let v = f (unwrap_or (find R e.0 m) d) e.1 in
      let rest = folded o exact d f same go none some es (put R e.0 v m) q (both_parts _ _ h).1 in
      ap (λ n. unwrap_or (find R q n) d) (some e es m)
      ∙ rest
      ∙ ap (λ (x : Option V). f (unwrap_or x d) (unwrap_or (find R q es) d)) (find-put R o q e.0 v m)
      ∙ elim (R q e.0) as (λ r. R q e.0 ≡ r → f (unwrap_or (cond (is_eq r) (Some v) (find R q m)) d) (unwrap_or (find R q es) d)
      ≡ f (unwrap_or (find R q m) d) (unwrap_or (cond (is_eq r) (Some e.1) (find R q es)) d)) [
        | Less ↦ λ p. refl
        | Equal ↦ λ p.
            let key = exact q e.0 p in
            let past : find R q es ≡ None = rw key (find_below R e.0 es (both_parts _ _ h).0) in
            ap (λ (x : Option V). f v (unwrap_or x d)) past ∙ same v ∙ ap (λ k. f (unwrap_or (find R k m) d) e.1) (sym key)
        | Greater ↦ λ p. refl
      ] refl

pub option_cases : {A : Type 0} (o : Option A) → (o ≡ None) ⊎ ((v : A) × (o ≡ Some v))
option_cases None = inl refl
option_cases (Some v) = inr (v, refl)

-- what holds of each entry, and of what stands for an absent one, holds of each look-up
pub found_or : {K V : Type 0} {R : K → K → Ordering} → CmpEqualImpliesEq R → (P : K → V → Bool) (d : V) → ((q : K) → P q d ≡ true) →
    (es : List (K × V)) → list_all (λ e. P e.0 e.1) es ≡ true → (q : K) → P q (unwrap_or (find R q es) d) ≡ true
found_or {R = R} exact P d absent es h q = elim (option_cases (find R q es)) [
  | inl none ↦ subst (λ (o : Option _). P q (unwrap_or o d) ≡ true) (sym none) (absent q)
  | inr some ↦ subst (λ (o : Option _). P q (unwrap_or o d) ≡ true) (sym some.1) (found_holds exact P es h q some.0 some.1)
]

pub list_all_of : {A : Type 0} (p : A → Bool) (xs : List A) → ((x : A) → p x ≡ true) → list_all p xs ≡ true
list_all_of p [] h = refl
list_all_of p (x ∷ xs) h = and_true _ _ (h x) (list_all_of p xs h)
