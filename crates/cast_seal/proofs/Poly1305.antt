-- The number of a message, block by block.
use Rattle.std.proofs.Common.{◌≡◌, ℕ, zero, suc, ◌+◌, ◌*◌, ◌-◌, ◌%◌, ◌^◌, ◌≤◌, ◌<◌, List, [], ◌∷◌, ◌++◌, length, take, drop, get_or}
use Rattle.std.proofs.Common.{arith, refl, sym, ap, subst, ◌∙◌}
use native.Mathlib.Nat.{pow-suc}
use Rattle.std.proofs.lemmas.Nat.{mul-mod_first, mul-le}
use Rattle.std.proofs.lemmas.List.{length-take-le, length-drop, get_or-drop, take-take, drop-take, take-append-drop}
use Rattle.std.specs.Prelude.{◌/◌, bit_and}
use lib.Bits.{and_block, and_zero_r}
use Rattle.std.proofs.lemmas.Grind.{pow_more}
use Rattle.byteorder.specs.Endian.{little_number}
use Rattle.byteorder.specs.Numbers.{little_from-cons}
use Rattle.cast_seal.specs.Poly1305.{prime, number_of, number_after, block_at, multiplier}

-- lists of bytes alone
abbrev pub AreBytes : List ℕ → Type 0
AreBytes xs = (i : ℕ) → get_or xs i 0 < 256

-- what is added first counts but for a multiple of the prime
pub taken_in : (value n b by : ℕ) → value % prime ≡ n % prime → ((value + b) * by) % prime ≡ ((n + b) * by) % prime
taken_in value n b by same =
    sym (mul-mod_first (value + b) by prime)
    ∙ ap (λ x. (x * by) % prime) (omega (arith, same))
    ∙ mul-mod_first (n + b) by prime

-- the number of the first bytes, as it is read
pub read_number : (n : ℕ) (xs : List ℕ) → n ≤ length xs → little_number n xs ≡ number_of (take n xs)
unfolding number_of
read_number zero xs le = refl
read_number (suc n) [] le = absurd (omega (arith, le))
read_number (suc n) (x ∷ xs) le =
    ap (λ r. x + 256 * r) (little_from-cons 0 n x xs ∙ read_number n xs (omega (arith, le)))

-- the number of bytes and of those behind them
number-append : (xs ys : List ℕ) → number_of (xs ++ ys) ≡ number_of xs + 256 ^ length xs * number_of ys
unfolding number_of
number-append [] ys = omega arith
number-append (x ∷ xs) ys = omega (arith, number-append xs ys, ap (λ p. p * number_of ys) (pow-suc 256 (length xs)))

-- a one behind bytes counts as much as so many bytes may
number_then_one : (xs : List ℕ) → number_of (xs ++ 1 ∷ []) ≡ number_of xs + 256 ^ length xs
unfolding number_of
number_then_one xs = number-append xs (1 ∷ []) ∙ omega arith

pub whole_block : (xs : List ℕ) → 16 ≤ length xs → number_of (take 16 xs ++ 1 ∷ []) ≡ little_number 16 xs + 2 ^ 128
whole_block xs le =
    number_then_one (take 16 xs)
    ∙ ap (λ n. number_of (take 16 xs) + 256 ^ n) (length-take-le 16 xs le)
    ∙ ap (λ n. n + 2 ^ 128) (sym (read_number 16 xs le))

-- a byte more before the others
pub number_before : (xs : List ℕ) (place : ℕ) → place < length xs →
    number_of (drop place xs ++ 1 ∷ []) ≡ get_or xs place 0 + 256 * number_of (drop (suc place) xs ++ 1 ∷ [])
unfolding number_of
number_before [] place lt = absurd (omega (arith, lt))
number_before (x ∷ xs) zero lt = refl
number_before (x ∷ xs) (suc place) lt = number_before xs place (omega (arith, lt))

cut_within : (xs : List ℕ) (k : ℕ) → AreBytes xs → length xs + k ≡ 15 →
    (number_of (xs ++ 1 ∷ []) + 1) * 256 ^ k ≤ 2 ^ 128
unfolding number_of
cut_within [] k small is =
    let all : k ≡ 15 = omega (arith, is) in
    subst (λ n. (number_of (1 ∷ []) + 1) * 256 ^ n ≤ 2 ^ 128) (sym all) (omega arith)
cut_within (x ∷ xs) k small is =
    let few : x ≤ 255 = omega (arith, small 0) in
    let later : (number_of (xs ++ 1 ∷ []) + 1) * 256 ^ (k + 1) ≤ 2 ^ 128 =
    cut_within xs (k + 1) (λ i. small (suc i)) (omega (arith, is)) in
    omega (arith, later, ap (λ p. (number_of (xs ++ 1 ∷ []) + 1) * p) (pow_more 256 k), mul-le x (256 ^ k) 255 (256 ^ k) few (omega arith))

some_power : (k : ℕ) → 1 ≤ 256 ^ k
some_power zero = omega arith
some_power (suc k) = omega (arith, some_power k, pow-suc 256 k)

-- what comes of a block
pub block_taken : (by : ℕ) (message : List ℕ) (place value added new : ℕ) → value % prime ≡ number_after by message place % prime →
    new % prime ≡ ((value + added) * by) % prime → added ≡ number_of (block_at message place) →
    new % prime ≡ number_after by message (place + 1) % prime
unfolding number_after
block_taken by message place value added new before is block =
    let next : suc place ≡ place + 1 = omega arith in
    let taken : new % prime ≡ ((number_after by message place + number_of (block_at message place)) * by) % prime =
    is ∙ taken_in value (number_after by message place) added by before
    ∙ ap (λ b. ((number_after by message place + b) * by) % prime) block in
    let after : new % prime ≡ number_after by message (suc place) % prime = omega (arith, taken) in
    subst (λ n. new % prime ≡ number_after by message n % prime) next after

-- fewer bytes than a block has, and a one, are below 2 ^ 128
pub cut_below : (xs : List ℕ) → AreBytes xs → length xs < 16 → number_of (xs ++ 1 ∷ []) < 2 ^ 128
cut_below xs small few =
    let k = 15 - length xs in
    let within : (number_of (xs ++ 1 ∷ []) + 1) * 256 ^ k ≤ 2 ^ 128 = cut_within xs k small (omega (arith, few)) in
    let some : 1 ≤ 256 ^ k = some_power k in
    omega (arith, within, mul-le (number_of (xs ++ 1 ∷ []) + 1) 1 (number_of (xs ++ 1 ∷ []) + 1) (256 ^ k) (omega arith) some)

-- behind all bytes there is the one alone
pub one_alone : (xs : List ℕ) → 1 ≡ number_of (drop (length xs) xs ++ 1 ∷ [])
unfolding number_of
one_alone [] = refl
one_alone (x ∷ xs) = one_alone xs

-- a byte before the others: what comes of the number, and that it fits
pub byte_before : (xs : List ℕ) (place number : ℕ) → AreBytes xs → length xs < 16 → 0 < place → place ≤ length xs →
    number ≡ number_of (drop place xs ++ 1 ∷ []) →
    (number * 256 + get_or xs (place - 1) 0 ≡ number_of (drop (place - 1) xs ++ 1 ∷ []))
    × (number * 256 + get_or xs (place - 1) 0 < 2 ^ 128)
byte_before xs place number small few some le is =
    let next : suc (place - 1) ≡ place = omega (arith, some) in
    let one : number_of (drop (place - 1) xs ++ 1 ∷ []) ≡ get_or xs (place - 1) 0 + 256 * number_of (drop place xs ++ 1 ∷ []) =
    number_before xs (place - 1) (omega (arith, some, le))
    ∙ ap (λ k. get_or xs (place - 1) 0 + 256 * number_of (drop k xs ++ 1 ∷ [])) next in
    let same : number * 256 + get_or xs (place - 1) 0 ≡ number_of (drop (place - 1) xs ++ 1 ∷ []) = omega (arith, one, is) in
    let long : length (drop (place - 1) xs) < 16 = omega (arith, length-drop (place - 1) xs, few) in
    let below = cut_below (drop (place - 1) xs)
    (λ i. subst (λ b. b < 256) (sym (get_or-drop (place - 1) xs i 0)) (small (place - 1 + i))) long in
    (same, omega (arith, same, below))

-- no number of a message reaches the prime
pub after_below : (by : ℕ) (message : List ℕ) (count : ℕ) → number_after by message count % prime ≡ number_after by message count
unfolding number_after
after_below by message zero = omega arith
after_below by message (suc n) = omega arith

-- and at first it is none
pub after_none : (by : ℕ) (message : List ℕ) → 0 % prime ≡ number_after by message 0 % prime
unfolding number_after
after_none by message = refl

-- the two words of the first half of a key
two_words : (key : List ℕ) → 16 ≤ length key → number_of (take 16 key) ≡ number_of (take 8 (drop 8 key)) * 2 ^ 64 + number_of (take 8 key)
two_words key long =
    let low : take 8 (take 16 key) ≡ take 8 key = take-take 8 16 key (omega arith) in
    let high : drop 8 (take 16 key) ≡ take 8 (drop 8 key) = drop-take 8 8 key in
    let first : length (take 8 key) ≡ 8 = length-take-le 8 key (omega (arith, long)) in
    ap number_of (sym (take-append-drop 8 (take 16 key)) ∙ (λ i. low i ++ high i))
    ∙ number-append (take 8 key) (take 8 (drop 8 key))
    ∙ ap (λ n. number_of (take 8 key) + 256 ^ n * number_of (take 8 (drop 8 key))) first
    ∙ omega arith

-- a quarter of a word is cleared as the word is
pub quarter_cleared : (word : ℕ) → bit_and word 0x0FFFFFFC0FFFFFFC ≡ 4 * bit_and (word / 4) 0x03FFFFFF03FFFFFF
quarter_cleared word =
    ap (λ n. bit_and n 0x0FFFFFFC0FFFFFFC) (omega arith)
    ∙ and_block 2 (word / 4) 0x03FFFFFF03FFFFFF (word % 4) 0 (omega arith) (omega arith)
    ∙ omega (arith, and_zero_r (word % 4))

-- what is multiplied by, word by word
pub cleared : (key : List ℕ) → 16 ≤ length key → number_of (take 8 key) < 2 ^ 64 →
    bit_and (number_of (take 8 key)) 0x0FFFFFFC0FFFFFFF + 4 * bit_and (number_of (take 8 (drop 8 key)) / 4) 0x03FFFFFF03FFFFFF * 2 ^ 64
    ≡ multiplier key
cleared key long small =
    let low = number_of (take 8 key) in
    let high = number_of (take 8 (drop 8 key)) in
    let words = and_block 64 high 0x0FFFFFFC0FFFFFFC low 0x0FFFFFFC0FFFFFFF small (omega arith) in
    omega (arith, quarter_cleared high, words, ap (λ n. bit_and n 0x0FFFFFFC0FFFFFFC0FFFFFFC0FFFFFFF) (two_words key long))
