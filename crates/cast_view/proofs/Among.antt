-- What is among a set to which items are added, and among what is kept of a list.
use Rattle.std.proofs.Common.{◌≡◌, Bool, true, false, ◌&&◌, ◌||◌, List, [], ◌∷◌, filter, Ordering, Less, Equal, Greater, refl, sym, ap, ◌∙◌}
use Rattle.std.specs.Prelude.{if◌then◌else◌}
use Rattle.cast_types.specs.Sets.{is_among, with_item, with_items, set_of, at_order}
use Rattle.cast_types.proofs.Bools.{or_turned, or_moved}

-- a test said twice is said once
or_twice : (a b : Bool) → (a || b) ≡ (a || (a || b))
or_twice true b = refl
or_twice false b = refl

-- a test that holds of an item may be asked behind it
and_kept : (a b c d : Bool) → c ≡ true → (a ≡ true → d ≡ c) → (a || (b && d)) ≡ ((a || b) && d)
and_kept true b c d holds same = sym (same refl ∙ holds)
and_kept false b c d holds same = refl

-- and one that fails of it takes it out
and_dropped : (a b c d : Bool) → c ≡ false → (a ≡ true → d ≡ c) → (b && d) ≡ ((a || b) && d)
and_dropped true true c d fails same = refl
and_dropped true false c d fails same = sym (same refl ∙ fails)
and_dropped false b c d fails same = refl

module _ {A : Type 0} (eq : A → A → Bool) (same : (a b : A) → eq a b ≡ true → a ≡ b) where
  -- what is kept of a list has the items that pass
  pub among_kept : (keep : A → Bool) (p : A) (xs : List A) → is_among eq p (filter keep xs) ≡ (is_among eq p xs && keep p)
  among_kept keep p [] = refl
  among_kept keep p (x ∷ xs) =
      let rest = among_kept keep p xs in
      elim (keep x)
      as (λ b. keep x ≡ b → is_among eq p (if b then x ∷ filter keep xs else filter keep xs) ≡ ((eq p x || is_among eq p xs) && keep p)) [
        | true ↦ λ is.
            ap (λ (b : Bool). eq p x || b) rest ∙ and_kept (eq p x) (is_among eq p xs) (keep x) (keep p) is (λ one. ap keep (same p x one))
        | false ↦ λ is. rest ∙ and_dropped (eq p x) (is_among eq p xs) (keep x) (keep p) is (λ one. ap keep (same p x one))
      ] refl

module _ {A : Type 0} (cmp : A → A → Ordering) (exact : (a b : A) → cmp a b ≡ Equal → a ≡ b) (eq : A → A → Bool) where
  -- a set with an item has that item beside its own
  pub among_with_item : (p x : A) (xs : List A) → is_among eq p (with_item cmp x xs) ≡ (eq p x || is_among eq p xs)
  among_with_item p x [] = refl
  among_with_item p x (y ∷ ys) =
      elim (cmp x y) as (λ o. cmp x y ≡ o →
      is_among eq p (at_order o (x ∷ y ∷ ys) (y ∷ ys) (y ∷ with_item cmp x ys)) ≡ (eq p x || (eq p y || is_among eq p ys))) [
        | Less ↦ λ is. refl
        | Equal ↦ λ is. or_twice (eq p y) (is_among eq p ys) ∙ ap (λ (z : A). eq p z || (eq p y || is_among eq p ys)) (sym (exact x y is))
        | Greater ↦ λ is. ap (λ (b : Bool). eq p y || b) (among_with_item p x ys) ∙ or_turned (eq p x) (eq p y) (is_among eq p ys)
      ] refl

  -- with several it has each of them
  among_with_items : (p : A) (xs s : List A) → is_among eq p (with_items cmp s xs) ≡ (is_among eq p s || is_among eq p xs)
  among_with_items p [] s = or_none (is_among eq p s)
    where
      or_none : (a : Bool) → a ≡ (a || false)
      or_none true = refl
      or_none false = refl
  among_with_items p (x ∷ xs) s =
      among_with_items p xs (with_item cmp x s)
      ∙ ap (λ (b : Bool). b || is_among eq p xs) (among_with_item p x s)
      ∙ or_moved (eq p x) (is_among eq p s) (is_among eq p xs)

  -- the set of a list's items has just these
  pub among_set_of : (p : A) (xs : List A) → is_among eq p (set_of cmp xs) ≡ is_among eq p xs
  among_set_of p xs = among_with_items p xs []
