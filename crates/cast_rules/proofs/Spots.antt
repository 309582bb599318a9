-- What stands at a place of a list, after one place is changed or an item is added.
use Rattle.std.proofs.Common.{◌≡◌, ℕ, zero, suc, Bool, true, false, List, [], ◌∷◌, map, Some, unwrap_or, refl, sym, ap, subst, ◌∙◌}
use Rattle.std.specs.Prelude.{slice_get, if◌then◌else◌}
use Rattle.std.specs.List.{list_all, find}
use Rattle.std.specs.Ordering.{is_lt}
use Rattle.std.proofs.lemmas.Bool.{and_parts, false≢true, false_from_ne_true}
use Rattle.std.proofs.lemmas.Cmp.{tied_itself}
use Rattle.std.proofs.lemmas.Option.{none-some, same_Some}
use Rattle.cast_types.specs.declared.names.GroupNo.{GroupNo}
use Rattle.cast_types.specs.Names.{group_cmp, group_eq}
use Rattle.cast_types.specs.Places.{update}
use Rattle.cast_types.proofs.Orders.{group_total, same_group}
use Rattle.cast_types.specs.Rising.{is_rising}

-- what holds of all items holds of the one at a place
pub all_at : {X : Type 0} (t : X → Bool) (xs : List X) (i : ℕ) (x : X) → list_all t xs ≡ true → slice_get xs i ≡ Some x → t x ≡ true
all_at t [] i x all at = absurd (none-some x at)
all_at t (y ∷ xs) zero x all at = subst (λ z. t z ≡ true) (same_Some y x at) (and_parts (t y) (list_all t xs) all).0
all_at t (y ∷ xs) (suc i) x all at = all_at t xs i x (and_parts (t y) (list_all t xs) all).1 at

-- functions that agree on all items that pass a test
pub map_agree : {X Y : Type 0} (f g : X → Y) (t : X → Bool) (xs : List X) → list_all t xs ≡ true → ((x : X) → t x ≡ true → f x ≡ g x) →
    map f xs ≡ map g xs
map_agree f g t [] all same = refl
map_agree f g t (x ∷ xs) all same =
    let parts = and_parts (t x) (list_all t xs) all in
    let here = same x parts.0 in
    let later = map_agree f g t xs parts.1 same in
    λ i. here i ∷ later i

-- a group below another is another
pub below_apart : (g h : GroupNo) → is_lt (group_cmp g h) ≡ true → group_eq g h ≡ false
below_apart g h below = false_from_ne_true (group_eq g h) (λ same.
    false≢true (sym (ap is_lt (tied_itself group_total g)) ∙ ap (λ k. is_lt (group_cmp g k)) (same_group g h same) ∙ below))

pub below_apart_back : (g h : GroupNo) → is_lt (group_cmp g h) ≡ true → group_eq h g ≡ false
below_apart_back g h below = false_from_ne_true (group_eq h g) (λ same.
    false≢true (sym (ap is_lt (tied_itself group_total g)) ∙ ap (λ k. is_lt (group_cmp g k)) (sym (same_group h g same)) ∙ below))

-- in a rising list a group stands at one place: what changes there is what changes at the group
pub update_mapped : {Y : Type 0} (f g : GroupNo → Y) (u : Y → Y) (gs : List GroupNo) (i : ℕ) (k : GroupNo) → is_rising group_cmp gs ≡ true →
    slice_get gs i ≡ Some k → u (f k) ≡ g k → ((h : GroupNo) → group_eq k h ≡ false → f h ≡ g h) → update (map f gs) i u ≡ map g gs
update_mapped f g u [] i k rising at own other = absurd (none-some k at)
update_mapped f g u (x ∷ gs) zero k rising at own other =
    let parts = and_parts (list_all (λ y. is_lt (group_cmp x y)) gs) (is_rising group_cmp gs) rising in
    let is : x ≡ k = same_Some x k at in
    let here : u (f x) ≡ g x = subst (λ z. u (f z) ≡ g z) (sym is) own in
    let later : map f gs ≡ map g gs =
    map_agree f g (λ y. is_lt (group_cmp x y)) gs parts.0 (λ y below. other y (ap (λ z. group_eq z y) (sym is) ∙ below_apart x y below)) in
    λ j. here j ∷ later j
update_mapped f g u (x ∷ gs) (suc i) k rising at own other =
    let parts = and_parts (list_all (λ y. is_lt (group_cmp x y)) gs) (is_rising group_cmp gs) rising in
    let here : f x ≡ g x = other x (below_apart_back x k (all_at (λ y. is_lt (group_cmp x y)) gs i k parts.0 at)) in
    let later : update (map f gs) i u ≡ map g gs = update_mapped f g u gs i k parts.1 at own other in
    λ j. here j ∷ later j

-- what is found passes the test
pub found_passes : {A : Type 0} (t : A → Bool) (xs : List A) (x : A) → find t xs ≡ Some x → t x ≡ true
found_passes t [] x is = cc
found_passes t (y ∷ xs) x is =
    elim (t y) as (λ b. t y ≡ b → (if b then Some y else find t xs) ≡ Some x → t x ≡ true) [
      | true ↦ λ pass here. subst (λ z. t z ≡ true) (ap (λ o. unwrap_or o y) here) pass
      | false ↦ λ _ later. found_passes t xs x later
    ] refl is
