-- Keys rise still: one message comes, one is forgotten.
use Rattle.std.proofs.Common.{◌≡◌, ℕ, zero, suc, ◌<◌, ◌≤◌, Bool, true, false, not, List, [], ◌∷◌, ◌++◌}
use Rattle.std.proofs.Common.{length, take, get_or, Option, Some, None, refl, ap, subst, ◌∙◌, inl, inr, arith}
use Rattle.std.specs.Prelude.{nat_lt, IfSome}
use Rattle.std.specs.List.{list_all}
use Rattle.std.specs.List.Sorted.{IsPartitionedBy, IsPartitionPoint}
use Rattle.std.proofs.lemmas.Bool.{and_from, cases_lt, ltb-true, lt-ltb}
use Rattle.cast_types.specs.declared.names.Key.{Key}
use Rattle.cast_types.proofs.Rising.{all_kept}
use Rattle.cast_message.specs.Receipts.{key_eq}
use Rattle.cast_index.specs.Rises.{rises, all_below}
use Rattle.cast_index.proofs.Rises.{parts_of, above_at, below_push, rises_push, rises_kept}
use Rattle.cast_ready.specs.declared.offered.Offered.{Offered}
use Rattle.cast_delay.specs.Queue.{but_offered}
use Rattle.cast_delay.specs.Offers.{key_of, AreOrderly}

pub orderly_more : (above later : Option ℕ) (offered : List Offered) (o : Offered) → AreOrderly above offered →
    IfSome later (λ top. (n : ℕ) × (above ≡ Some n) × (n ≤ o.key.0) × (o.key.0 < top)) → AreOrderly later (offered ++ o ∷ [])
orderly_more above None offered o orderly may = tt
orderly_more above (Some top) offered o orderly (low, is, le, lt) =
    let was : AreOrderly (Some low) offered = subst (λ a. AreOrderly a offered) is orderly in
    (rises_push key_of low offered o le was.0 was.1, below_push key_of low top offered o le lt was.1)

pub orderly_left : (above : Option ℕ) (key : Key) (offered rest : List Offered) → AreOrderly above offered →
    rest ≡ but_offered key offered → AreOrderly above rest
orderly_left None key offered rest orderly is = tt
orderly_left (Some top) key offered rest orderly is =
    let keep : Offered → Bool = λ o. not (key_eq o.key key) in (
      ap (rises key_of) is ∙ rises_kept key_of keep offered orderly.0,
      ap (all_below key_of top) is ∙ all_kept (λ (o : Offered). nat_lt (key_of o) top) keep offered orderly.1,
    )

-- what passes at each of the first places
first_all : {A : Type 0} (t : A → Bool) (xs : List A) (n : ℕ) → n ≤ length xs →
    ((k : ℕ) (d : A) → 0 ≤ k → k < n → t (get_or xs k d) ≡ true) → list_all t (take n xs) ≡ true
first_all t [] zero within each = refl
first_all t [] (suc n) within each = absurd (omega (arith, within))
first_all t (x ∷ xs) zero within each = refl
first_all t (x ∷ xs) (suc n) within each =
    and_from (t x) (list_all t (take n xs)) (each 0 x (omega arith) (omega arith))
    (first_all t xs n (omega (arith, within)) (λ k d le lt. each (suc k) d (omega arith) (omega (arith, lt))))

-- the keys at two places
at_two : (xs : List Offered) (i j : ℕ) (d : Offered) → rises key_of xs ≡ true → i < j → j < length xs →
    key_of (get_or xs i d) < key_of (get_or xs j d)
at_two [] i j d up lt within = absurd (omega (arith, within))
at_two (x ∷ xs) i zero d up lt within = absurd (omega (arith, lt))
at_two (x ∷ xs) zero (suc j) d up lt within = above_at key_of (key_of x) xs j d (parts_of key_of x xs up).0 (omega (arith, within))
at_two (x ∷ xs) (suc i) (suc j) d up lt within = at_two xs i j d (parts_of key_of x xs up).1 (omega (arith, lt)) (omega (arith, within))

-- where keys rise, those below a number stand first
pub rising_parted : (number : ℕ) (offered : List Offered) → rises key_of offered ≡ true →
    IsPartitionedBy (λ (o : Offered). nat_lt (key_of o) number) offered
rising_parted number offered up i j d le lt below = elim (cases_lt i j) [
  | inl before ↦
      lt-ltb (key_of (get_or offered i d))
      number (omega (arith, at_two offered i j d up before lt, ltb-true (key_of (get_or offered j d)) number below))
  | inr behind ↦ let same : i ≡ j = omega (arith, le, behind) in ap (λ k. nat_lt (key_of (get_or offered k d)) number) same ∙ below
]

pub below_first : (number : ℕ) (offered : List Offered) (n : ℕ) → n ≤ length offered →
    IsPartitionPoint (λ (o : Offered). nat_lt (key_of o) number ≡ true) (λ (o : Offered). nat_lt (key_of o) number ≡ false) offered n →
    all_below key_of number (take n offered) ≡ true
below_first number offered n within parted = first_all (λ (o : Offered). nat_lt (key_of o) number) offered n within parted.0
