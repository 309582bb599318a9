-- Numbers that rise below the next one: what one more receipt and one less leave of them.
use Rattle.std.proofs.Common.{◌≡◌, ℕ, ◌+◌, ◌<◌, Bool, true, cond, List, [], ◌∷◌, ◌++◌, Option, Some, None, refl, ap, ◌∙◌, arith}
use Rattle.std.specs.Prelude.{◌==◌, nat_lt}
use Rattle.std.specs.Option.{option_map}
use Rattle.std.specs.List.{list_all, find, filter}
use Rattle.std.proofs.lemmas.Bool.{and_parts, and_from, ltb-true, ne_eqb}
use Rattle.cast_types.proofs.Rising.{all_kept}
use Rattle.cast_index.specs.Rises.{rises, all_below}
use Rattle.cast_index.proofs.Rises.{parts_of, below_push, rises_push, rises_kept}
use Rattle.cast_store.specs.declared.receipt.Receipt.{Receipt}
use Rattle.cast_store.specs.Lines.{number_of, is_numbered, slot_under}

-- the parts of the test
pub numbered_parts : (n : ℕ) (xs : List Receipt) → is_numbered n xs ≡ true → (rises number_of xs ≡ true) × (all_below number_of n xs ≡ true)
numbered_parts n xs rising = and_parts (rises number_of xs) (all_below number_of n xs) rising

-- and of the first receipt
pub first_parts : (n : ℕ) (x : Receipt) (xs : List Receipt) → is_numbered n (x ∷ xs) ≡ true →
    (x.number < n) × (list_all (λ s. nat_lt x.number s.number) xs ≡ true) × (is_numbered n xs ≡ true)
first_parts n x xs rising =
    let both = numbered_parts n (x ∷ xs) rising in
    let up = parts_of number_of x xs both.0 in
    let below = and_parts (nat_lt x.number n) (all_below number_of n xs) both.1 in
    (ltb-true x.number n below.0, up.0, and_from (rises number_of xs) (all_below number_of n xs) up.1 below.1)

-- one more, under the next number
pub numbered_push : (n : ℕ) (xs : List Receipt) (x : Receipt) → x.number ≡ n → is_numbered n xs ≡ true →
    is_numbered (n + 1) (xs ++ x ∷ []) ≡ true
numbered_push n xs x is rising =
    let parts = numbered_parts n xs rising in
    and_from (rises number_of (xs ++ x ∷ [])) (all_below number_of (n + 1) (xs ++ x ∷ []))
    (rises_push number_of n xs x (omega (arith, is)) parts.0 parts.1)
    (below_push number_of n (n + 1) xs x (omega (arith, is)) (omega (arith, is)) parts.1)

-- some taken out
pub numbered_filter : (keep : Receipt → Bool) (n : ℕ) (xs : List Receipt) → is_numbered n xs ≡ true → is_numbered n (filter keep xs) ≡ true
numbered_filter keep n xs rising =
    let parts = numbered_parts n xs rising in
    and_from (rises number_of (filter keep xs)) (all_below number_of n (filter keep xs)) (rises_kept number_of keep xs parts.0)
    (all_kept (λ (r : Receipt). nat_lt r.number n) keep xs parts.1)

-- nothing is under the next number
none_next : (n : ℕ) (xs : List Receipt) → all_below number_of n xs ≡ true → find (λ r. r.number == n) xs ≡ None
none_next n [] below = refl
none_next n (x ∷ xs) below =
    let parts = and_parts (nat_lt x.number n) (all_below number_of n xs) below in
    ap (λ b. cond b (Some x) (find (λ r. r.number == n) xs)) (ne_eqb x.number n (λ same. omega (arith, same, ltb-true x.number n parts.0)))
    ∙ none_next n xs parts.1

pub free_number : (n : ℕ) (xs : List Receipt) → is_numbered n xs ≡ true → slot_under xs n ≡ None
free_number n xs rising = ap (λ (o : Option Receipt). option_map (λ r. r.slot) o) (none_next n xs (numbered_parts n xs rising).1)
