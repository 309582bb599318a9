-- Numbers as words of a script: digits with no sign and no leading zero are what `decimal` writes of their value.
use Rattle.std.proofs.Common.{◌≡◌, ◌≢◌, ℕ, zero, suc, ◌<◌, ◌≤◌, ◌^◌, true, ltb, leb, ◌&&◌, bytes_eq, List}
use Rattle.std.proofs.Common.{length, get_or, Result, Ok, Err, ◌⊎◌, inl, inr, refl, sym, ap, subst, ◌∙◌, arith}
use Rattle.std.specs.Fmt.{decimal}
use Rattle.std.proofs.lemmas.Bool.{and_from, and_left, and_parts, and_right, cases_Bool, cases_lt}
use Rattle.std.proofs.lemmas.Bool.{cond-false, le-leb, leb-true, lt-leb, lt-ltb, ltb-true}
use Rattle.std.proofs.lemmas.Slice.Eq.{bytes_eq-Decides}
use Rattle.std.specs.Str.Parse.{AllDigits, digits_value, ParsesUnsigned}
use Rattle.std.proofs.lemmas.Str.Parse.{IsNumeralModel, numerals_by_value, tells_digits, parse_plain, not_in_digits}
use Rattle.std.proofs.lemmas.Fmt.{decimal-digits_value, digits_value-decimal, parse-decimal}
use Rattle.std.proofs.lemmas.Fmt.{decimal_nonempty, digits_decimal, first_decimal, decimal_digit}
use Rattle.cast_script.specs.Words.{IsBetween}
use Rattle.cast_script.specs.WordReadings.{◌>>=◌, number_of, number_within, spelled_number, within}
use Rattle.cast_script.specs.declared.words.Reason.{Reason}
use Rattle.cast_script.specs.declared.words.Reason.TheVariants.{BadNumber}
use Rattle.cast_script.proofs.Results.{bind_ok, ok_is, pass_ok}

own : IsNumeralModel (AllDigits 10) (digits_value 10)
own = numerals_by_value (AllDigits 10) tells_digits

-- a number that was read is written as it stood
pub number_read : (bs : List ℕ) (n : ℕ) → ParsesUnsigned {E = ℕ} 64 10 bs (Ok n) → get_or bs 0 0 ≢ 43 →
    (get_or bs 0 0 ≡ 48 → length bs ≤ 1) → bs ≡ decimal n
number_read bs n h sign single =
    let facts : (AllDigits 10 bs × (0 < length bs) × (digits_value 10 bs < 2 ^ 64)) × (n ≡ digits_value 10 bs) =
    parse_plain own {E = ℕ} 64 bs (Ok n) h sign in
    let longer : 0 < length bs = facts.0.1 in
    let small : digits_value 10 bs < 2 ^ 64 = facts.0.2 in
    let written : decimal (digits_value 10 bs) ≡ bs =
    decimal-digits_value own bs facts.0.0 longer (λ e. let short : length bs ≤ 1 = single e in omega arith) (omega arith) in
    rw facts.1 (sym written)

-- what was not read is no number
pub number_not_read : (bs : List ℕ) → ParsesUnsigned {E = ℕ} 64 10 bs (Err 0) → (n : ℕ) → n < 2 ^ 64 → bs ≢ decimal n
number_not_read bs h n small same =
    let failed : Result ℕ ℕ = Err 0 in
    let read : failed ≡ Ok n = parse-decimal {E = ℕ} 64 n bs failed small (omega arith) same h in cc

-- no number begins with a sign
pub sign_no_number : (bs : List ℕ) (n : ℕ) → n < 2 ^ 64 → get_or bs 0 0 ≡ 43 → bs ≢ decimal n
sign_no_number bs n small sign same =
    let large : n < 2 ^ 64 = omega arith in
    not_in_digits own (decimal n) 43 (digits_decimal own n large) (λ range. omega (arith, range.0)) 0 (decimal_nonempty n large)
    (rw same at sign)

-- no number begins with a zero, but zero itself
pub zero_no_number : (bs : List ℕ) (n : ℕ) → n < 2 ^ 64 → get_or bs 0 0 ≡ 48 → 1 < length bs → bs ≢ decimal n
zero_no_number bs zero small nought long same =
    let one = ap length (decimal_digit 0 (omega arith)) in
    let all = ap length same in omega arith
zero_no_number bs (suc n) small nought long same =
    let first = first_decimal (suc n) (omega arith) (omega arith) in
    let begins : get_or (decimal (suc n)) 0 0 ≡ 48 = rw same at nought in omega arith

-- the digits of a number are no dots
pub no_dots : (n : ℕ) → n < 2 ^ 64 → (k : ℕ) → k < length (decimal n) → get_or (decimal n) k 0 ≢ 46
no_dots n small k inside = not_in_digits own (decimal n) 46 (digits_decimal own n small) (λ range. omega (arith, range.0)) k inside

-- what begins with a sign, or with a zero before other digits, is no number
pub odd_no_number : (bs : List ℕ) → (get_or bs 0 0 ≡ 43) ⊎ ((get_or bs 0 0 ≡ 48) × (1 < length bs)) → (n : ℕ) → n < 2 ^ 64 → bs ≢ decimal n
odd_no_number bs (inl sign) n small = sign_no_number bs n small sign
odd_no_number bs (inr other) n small = zero_no_number bs n small other.0 other.1

-- a word that is read as a number is its digits
spelled_read : (bs : List ℕ) (v n : ℕ) → spelled_number bs v ≡ Ok n → (bs ≡ decimal n) × (n < 2 ^ 64)
unfolding spelled_number
spelled_read bs v n e =
    let passed = pass_ok (ltb v (2 ^ 64) && bytes_eq bs (decimal v)) BadNumber (Ok v) n e in
    let parts = and_parts (ltb v (2 ^ 64)) (bytes_eq bs (decimal v)) passed.0 in
    subst (λ n. (bs ≡ decimal n) × (n < 2 ^ 64)) (ok_is Reason v n passed.1)
    ((bytes_eq-Decides bs (decimal v)).0 parts.1, ltb-true v (2 ^ 64) parts.0)

spelled_again : (n : ℕ) → n < 2 ^ 64 → spelled_number (decimal n) n ≡ Ok n
unfolding spelled_number
spelled_again n small =
    let test : (ltb n (2 ^ 64) && bytes_eq (decimal n) (decimal n)) ≡ true =
    and_from _ _ (lt-ltb n (2 ^ 64) small) ((bytes_eq-Decides (decimal n) (decimal n)).1 refl) in
    rw test refl

spelled_not : (bs : List ℕ) (v : ℕ) → ((n : ℕ) → n < 2 ^ 64 → bs ≢ decimal n) → spelled_number bs v ≡ Err BadNumber
unfolding spelled_number
spelled_not bs v none =
    elim (cases_Bool (ltb v (2 ^ 64) && bytes_eq bs (decimal v))) [
      | inl spells ↦
          let parts = and_parts (ltb v (2 ^ 64)) (bytes_eq bs (decimal v)) spells in
          absurd (none v (ltb-true v (2 ^ 64) parts.0) ((bytes_eq-Decides bs (decimal v)).0 parts.1))
      | inr other ↦ cond-false (ltb v (2 ^ 64) && bytes_eq bs (decimal v)) (Ok v) (Err BadNumber) other
    ]

pub number_is : (bs : List ℕ) (n : ℕ) → number_of bs ≡ Ok n → (bs ≡ decimal n) × (n < 2 ^ 64)
unfolding number_of
number_is bs n e = spelled_read bs (digits_value 10 bs) n e

pub number_again : (n : ℕ) → n < 2 ^ 64 → number_of (decimal n) ≡ Ok n
unfolding number_of
number_again n small = ap (spelled_number (decimal n)) (digits_value-decimal own n small) ∙ spelled_again n small

pub number_not : (bs : List ℕ) → ((n : ℕ) → n < 2 ^ 64 → bs ≢ decimal n) → number_of bs ≡ Err BadNumber
unfolding number_of
number_not bs none = spelled_not bs (digits_value 10 bs) none

-- a number within limits
within_is : (low high m n : ℕ) → within low high m ≡ Ok n → (m ≡ n) × IsBetween low high n
unfolding within
within_is low high m n e =
    let passed = pass_ok (leb low m && leb m high) BadNumber (Ok m) n e in
    let parts = and_parts (leb low m) (leb m high) passed.0 in
    let same = ok_is Reason m n passed.1 in
    (same, subst (IsBetween low high) same (leb-true low m parts.0, leb-true m high parts.1))

pub within_again : (low high n : ℕ) → IsBetween low high n → within low high n ≡ Ok n
unfolding within
within_again low high n is =
    let test : (leb low n && leb n high) ≡ true = and_from _ _ (le-leb low n is.0) (le-leb n high is.1) in
    rw test refl

pub limited_is : (low high : ℕ) (bs : List ℕ) (n : ℕ) → number_within low high bs ≡ Ok n → (bs ≡ decimal n) × IsBetween low high n
unfolding number_within
limited_is low high bs n e =
    let read = bind_ok (number_of bs) _ n e in
    let same = within_is low high read.0 n read.2 in
    (subst (λ m. bs ≡ decimal m) same.0 (number_is bs read.0 read.1).0, same.1)

pub limited_again : (low high n : ℕ) → IsBetween low high n → high < 2 ^ 64 → number_within low high (decimal n) ≡ Ok n
unfolding number_within
limited_again low high n is small = rw (number_again n (omega (arith, is.1, small))) (within_again low high n is)

-- narrower limits
narrower_ok : (top least most n : ℕ) (r : Result ℕ Reason) → (r >>= within 0 top) ≡ Ok n → (r >>= within least most) ≡ within least most n
narrower_ok top least most n (Ok m) e = ap (within least most) (within_is 0 top m n e).0
narrower_ok top least most n (Err d) e = absurd cc

pub narrowed_ok : (top least most : ℕ) (bs : List ℕ) (n : ℕ) → number_within 0 top bs ≡ Ok n →
    number_within least most bs ≡ within least most n
unfolding number_within
narrowed_ok top least most bs n e = narrower_ok top least most n (number_of bs) e

within_below : (low high n : ℕ) → n < low → within low high n ≡ Err BadNumber
unfolding within
within_below low high n below =
    cond-false (leb low n && leb n high) (Ok n) (Err BadNumber) (and_left (leb low n) (leb n high) (lt-leb low n below))

within_above : (low high n : ℕ) → high < n → within low high n ≡ Err BadNumber
unfolding within
within_above low high n above =
    cond-false (leb low n && leb n high) (Ok n) (Err BadNumber) (and_right (leb low n) (leb n high) (lt-leb n high above))

pub within_not : (low high n : ℕ) → (low ≤ n → n ≤ high → ⊥) → within low high n ≡ Err BadNumber
within_not low high n out =
    elim (cases_lt high n) [
      | inl above ↦ within_above low high n above
      | inr in_reach ↦
          elim (cases_lt n low) [
            | inl below ↦ within_below low high n below
            | inr reached ↦ absurd (out reached in_reach)
          ]
    ]

narrower_err : (top least most : ℕ) (d : Reason) (r : Result ℕ Reason) → most ≤ top → (r >>= within 0 top) ≡ Err d →
    (r >>= within least most) ≡ Err d
narrower_err top least most d (Ok m) le e =
    elim (cases_lt top m) [
      | inl above ↦ within_above least most m (omega arith) ∙ (sym (within_above 0 top m above) ∙ e)
      | inr below ↦ absurd (cc (within_again 0 top m (omega arith, below), e))
    ]
narrower_err top least most d (Err b) le e = e

pub narrowed_err : (top least most : ℕ) (bs : List ℕ) (d : Reason) → most ≤ top → number_within 0 top bs ≡ Err d →
    number_within least most bs ≡ Err d
unfolding number_within
narrowed_err top least most bs d le e = narrower_err top least most d (number_of bs) le e
