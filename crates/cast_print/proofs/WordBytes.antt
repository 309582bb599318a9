-- The bytes of printed words.
use Rattle.std.proofs.Common.{◌≡◌, ◌≢◌, ℕ, ◌<◌, ◌≤◌, ◌^◌, Bool, true, false, ltb, eqb, ◌&&◌, List, [], ◌∷◌, length, map, codes, refl, arith}
use Rattle.std.specs.List.{AllByRecursion, AllPass, list_all}
use Rattle.std.specs.Fmt.{decimal}
use Rattle.std.specs.Str.Parse.{AllDigits, digits_value}
use Rattle.std.proofs.lemmas.Bool.{and_from, and_parts, lt-ltb, ltb-true, ne_eqb}
use Rattle.std.proofs.lemmas.Bool.Decides.{nat_tests}
use Rattle.std.proofs.lemmas.List.Elements.{All-cons, All-nil, All-weaker}
use Rattle.std.proofs.lemmas.List.Sums.{AllPass-from_list_all}
use Rattle.std.proofs.lemmas.Str.Parse.{IsNumeralModel, numerals_by_value, tells_digits, digit_from_value}
use Rattle.std.proofs.lemmas.Fmt.{digits_decimal}
use Rattle.hex.specs.Hex.{encode_lower, encode_with, is_hex_digit, IsBytes}
use Rattle.hex.proofs.HexLemmas.{decode_of-encode_lower, decode_of-ok}
use Rattle.cast_types.specs.declared.names.DomainNo.{DomainNo}
use Rattle.cast_types.specs.declared.names.SiteNo.{SiteNo}
use Rattle.cast_message.specs.declared.site.SiteFrame.{SiteFrame}
use Rattle.cast_field.specs.Spelling.{short}
use Rattle.cast_frame.specs.Spelling.{spelled_site}
use Rattle.cast_script.specs.Words.{parts_at}
use Rattle.cast_print.specs.Logs.{payload_text}
use Rattle.cast_print.specs.Scripts.{numbers_text}
use Rattle.cast_print.proofs.Joined.{Lacks, joined_all, parted_joined}

-- behind the space, the line feed and the number sign, and ASCII
abbrev pub is_word_byte : ℕ → Bool
is_word_byte b = ltb 35 b && ltb b 128

abbrev pub IsWord : List ℕ → Type 0
IsWord w = AllPass is_word_byte w

pub word_byte_is : (b : ℕ) → is_word_byte b ≡ true → (35 < b) × (b < 128)
word_byte_is b is = let parts = and_parts (ltb 35 b) (ltb b 128) is in (ltb-true 35 b parts.0, ltb-true b 128 parts.1)

-- a word that is known
pub plain : (w : List ℕ) → list_all is_word_byte w ≡ true → IsWord w
plain w all = AllPass-from_list_all is_word_byte w all

pub word_lacks : (c : ℕ) (w : List ℕ) → c ≤ 35 → IsWord w → Lacks c w
word_lacks c w low word =
    All-weaker (λ b. is_word_byte b ≡ true) (λ b. eqb b c ≡ false)
    (λ b is. let at = word_byte_is b is in ne_eqb b c (λ same. omega (arith, at.0))) w word

-- ---- decimal digits

abbrev is_digit : ℕ → Bool
is_digit b = ltb 47 b && ltb b 58

digit_is : (b : ℕ) → is_digit b ≡ true → (47 < b) × (b < 58)
digit_is b is = let parts = and_parts (ltb 47 b) (ltb b 58) is in (ltb-true 47 b parts.0, ltb-true b 58 parts.1)

pass_digits : (ds : List ℕ) → AllDigits 10 ds → AllPass is_digit ds
pass_digits [] all = All-nil (λ b. is_digit b ≡ true)
pass_digits (d ∷ ds) (here, there) =
    let range = digit_from_value d here in
    All-cons (λ b. is_digit b ≡ true) d ds
    (and_from (ltb 47 d) (ltb d 58) (lt-ltb 47 d (omega (arith, range.0))) (lt-ltb d 58 (omega (arith, range.1)))) (pass_digits ds there)

numerals : IsNumeralModel (AllDigits 10) (digits_value 10)
numerals = numerals_by_value (AllDigits 10) tells_digits

digits : (n : ℕ) → n < 2 ^ 64 → AllPass is_digit (decimal n)
digits n small = pass_digits (decimal n) (digits_decimal numerals n small)

pub number_word : (n : ℕ) → n < 2 ^ 64 → IsWord (decimal n)
number_word n small =
    All-weaker (λ b. is_digit b ≡ true) (λ b. is_word_byte b ≡ true)
    (λ b is.
    let at = digit_is b is in
    and_from (ltb 35 b) (ltb b 128) (lt-ltb 35 b (omega (arith, at.0))) (lt-ltb b 128 (omega (arith, at.1)))) (decimal n) (digits n small)

-- a number has no comma
pub number_lacks : (n : ℕ) → n < 2 ^ 64 → Lacks 44 (decimal n)
number_lacks n small =
    All-weaker (λ b. is_digit b ≡ true) (λ b. eqb b 44 ≡ false)
    (λ b is. let at = digit_is b is in ne_eqb b 44 (λ same. omega (arith, at.0))) (decimal n) (digits n small)

-- ---- hexadecimal digits

hex_digit : (b : ℕ) → is_hex_digit b ≡ true → is_word_byte b ≡ true
hex_digit b is = grind (arith, nat_tests)

pub hex_word : (bytes : List ℕ) → IsBytes bytes → IsWord (encode_lower bytes)
hex_word bytes are =
    let digit = decode_of-ok (encode_lower bytes) bytes (decode_of-encode_lower bytes are) in
    All-weaker (λ b. is_hex_digit b ≡ true) (λ b. is_word_byte b ≡ true) hex_digit (encode_lower bytes) digit.1

pub some_digits : (b : ℕ) (bytes : List ℕ) → encode_lower (b ∷ bytes) ≢ []
unfolding encode_with
some_digits b bytes none = absurd cc

-- a frame has bytes
pub frame_digits : (d : DomainNo) (s : SiteNo) (f : SiteFrame) → encode_lower (spelled_site d s f) ≢ []
unfolding spelled_site short encode_with
frame_digits d s f none = absurd cc

-- bytes in hexadecimal, `-` where there are none
pub payload_word : (bytes : List ℕ) → IsBytes bytes → IsWord (payload_text bytes)
payload_word [] are = plain (codes "-") refl
payload_word (b ∷ bytes) are = hex_word (b ∷ bytes) are

-- ---- lists of numbers

number_words : (ns : List ℕ) → AllByRecursion (λ n. n < 2 ^ 64) ns → AllByRecursion IsWord (map decimal ns)
number_words [] small = tt
number_words (n ∷ ns) small = (number_word n small.0, number_words ns small.1)

numbers_lack : (ns : List ℕ) → AllByRecursion (λ n. n < 2 ^ 64) ns → AllByRecursion (Lacks 44) (map decimal ns)
numbers_lack [] small = tt
numbers_lack (n ∷ ns) small = (number_lacks n small.0, numbers_lack ns small.1)

pub numbers_word : (ns : List ℕ) → AllByRecursion (λ n. n < 2 ^ 64) ns → IsWord (numbers_text ns)
numbers_word ns small = joined_all (λ b. is_word_byte b ≡ true) 44 (map decimal ns) refl (number_words ns small)

pub numbers_again : (ns : List ℕ) → 1 ≤ length ns → AllByRecursion (λ n. n < 2 ^ 64) ns → parts_at 44 (numbers_text ns) ≡ map decimal ns
numbers_again [] some small = absurd (omega arith)
numbers_again (n ∷ ns) some small = parted_joined 44 (decimal n) (map decimal ns) (numbers_lack (n ∷ ns) small)
