-- A sealed datagram, part by part.
use Rattle.std.proofs.Common.{◌≡◌, ℕ, zero, suc, ◌+◌, ◌/◌, ◌^◌, ◌≤◌, ◌<◌, List, [], ◌∷◌, ◌++◌, length, take, drop}
use Rattle.std.proofs.Common.{arith, refl, sym, ap, subst, ◌∙◌}
use Rattle.std.proofs.Math.Nat.{mod-lt}
use Rattle.std.proofs.lemmas.List.{append-nil, length-take-le, length-drop, length-append, get_or-drop, take-take, take_at, take_all}
use Rattle.std.proofs.lemmas.List.{drop-take, drop-drop, drop_at, take-append-drop}
use Rattle.std.specs.Int.{w128, bytes_low_first, to_le_bytes}
use Rattle.byteorder.specs.Endian.{little_from, little_number}
use Rattle.byteorder.specs.Numbers.{length-bytes_low_first, little_number-reads_back}
use Rattle.cast_types.specs.declared.names.SiteNo.{SiteNo}
use Rattle.cast_seal.specs.declared.sealing.SealKey.{SealKey}
use Rattle.cast_seal.specs.Poly1305.{number_of}
use Rattle.cast_seal.specs.Seals.{IsSealed, begins_with, head, seal_sum}
use Rattle.cast_seal.proofs.Poly1305.{AreBytes, read_number}

taken_bytes : (n : ℕ) (xs : List ℕ) → AreBytes xs → AreBytes (take n xs)
taken_bytes zero xs are i = omega arith
taken_bytes (suc n) [] are i = omega arith
taken_bytes (suc n) (x ∷ xs) are zero = are 0
taken_bytes (suc n) (x ∷ xs) are (suc i) = taken_bytes n xs (λ k. are (suc k)) i

dropped_bytes : (n : ℕ) (xs : List ℕ) → AreBytes xs → AreBytes (drop n xs)
dropped_bytes n xs are i = subst (λ b. b < 256) (sym (get_or-drop n xs i 0)) (are (n + i))

number_bytes : (place n x : ℕ) → AreBytes (bytes_low_first place n x)
number_bytes place zero x i = omega arith
number_bytes zero (suc n) x zero = omega arith
number_bytes (suc place) (suc n) x zero = mod-lt (x / 256 ^ suc place) (omega arith)
number_bytes place (suc n) x (suc i) = number_bytes (suc place) n x i

-- as many bytes of one number are the same
same_bytes : (xs ys : List ℕ) → length xs ≡ length ys → AreBytes xs → AreBytes ys → number_of xs ≡ number_of ys → xs ≡ ys
unfolding number_of
same_bytes [] [] long one other same = refl
same_bytes [] (y ∷ ys) long one other same = absurd (omega (arith, long))
same_bytes (x ∷ xs) [] long one other same = absurd (omega (arith, long))
same_bytes (x ∷ xs) (y ∷ ys) long one other same =
    let heads : x ≡ y = omega (arith, one 0, other 0, same) in
    let tails : number_of xs ≡ number_of ys = omega (arith, one 0, other 0, same) in
    λ i. heads i ∷ same_bytes xs ys (omega (arith, long)) (λ k. one (suc k)) (λ k. other (suc k)) tails i

-- the bytes of a number have it
number_in_bytes : (x : ℕ) → x < 2 ^ 128 → number_of (bytes_low_first 0 16 x) ≡ x
number_in_bytes x below =
    let bytes = bytes_low_first 0 16 x in
    let long : length bytes ≡ 16 = length-bytes_low_first 0 16 x in
    ap number_of (sym (take_all 16 bytes (omega (arith, long))))
    ∙ sym (read_number 16 bytes (omega (arith, long)))
    ∙ ap (little_from 0 16) (sym (append-nil bytes))
    ∙ little_number-reads_back 16 x [] (omega (arith, below))

sum_below : (key head : List ℕ) (to : SiteNo) (body : List ℕ) → seal_sum key head to body < 2 ^ 128
sum_below key head to body = mod-lt _ (omega arith)

-- a datagram that begins so, and has the sum of what is behind it, is sealed
pub parts_are_sealed : (k : SealKey) (from to : SiteNo) (d : List ℕ) → AreBytes d → 38 ≤ length d →
    take 6 d ≡ begins_with k.number from → little_number 16 (drop 22 d) ≡ seal_sum k.key (take 22 d) to (drop 38 d) →
    IsSealed k from to (drop 38 d) d
parts_are_sealed k from to d are long begins has =
    let body = drop 38 d in
    let nonce = take 16 (drop 6 d) in
    let found = take 16 (drop 22 d) in
    let sum = seal_sum k.key (take 22 d) to body in
    let first : take 22 d ≡ head k.number from nonce =
    sym (take-append-drop 6 (take 22 d)) ∙ (λ i. take-take 6 22 d (omega arith) i ++ drop-take 6 16 d i) ∙ ap (λ l. l ++ nonce) begins in
    let enough : 16 ≤ length (drop 22 d) = omega (arith, long, length-drop 22 d) in
    let middle : found ≡ to_le_bytes w128 sum =
    same_bytes found (bytes_low_first 0 16 sum) (length-take-le 16 (drop 22 d) enough ∙ sym (length-bytes_low_first 0 16 sum))
    (taken_bytes 16 (drop 22 d) (dropped_bytes 22 d are)) (number_bytes 0 16 sum)
    (sym (read_number 16 (drop 22 d) enough) ∙ has ∙ sym (number_in_bytes sum (sum_below k.key (take 22 d) to body))) in
    let rest : drop 22 d ≡ found ++ body =
    sym (take-append-drop 16 (drop 22 d)) ∙ ap (λ l. found ++ l) (drop-drop 16 22 d) in
    let whole : d ≡ take 22 d ++ (found ++ body) = sym (take-append-drop 22 d) ∙ ap (λ l. take 22 d ++ l) rest in (
      nonce,
      length-take-le 16 (drop 6 d) (omega (arith, long, length-drop 6 d)),
      whole
          ∙ ap (λ l. take 22 d ++ (l ++ body)) middle
          ∙ (λ i. first i ++ (to_le_bytes w128 (seal_sum k.key (first i) to body) ++ body)),
    )

-- what a sealed datagram has in its places
pub record HasParts (k : SealKey) (from to : SiteNo) (body d : List ℕ) : Type 0 where
  pub long : 38 ≤ length d
  pub begins : take 6 d ≡ begins_with k.number from
  pub sum : little_number 16 (drop 22 d) ≡ seal_sum k.key (take 22 d) to (drop 38 d)
  pub ends : drop 38 d ≡ body

pub sealed_has_parts : (k : SealKey) (from to : SiteNo) (body d : List ℕ) → IsSealed k from to body d → HasParts k from to body d
sealed_has_parts k from to body d (nonce, some, is) =
    let before = head k.number from nonce in
    let sum = seal_sum k.key before to body in
    let bytes = to_le_bytes w128 sum in
    let many : length before ≡ 22 = omega (arith, some) in
    let sixteen : length bytes ≡ 16 = length-bytes_low_first 0 16 sum in
    let first : take 22 d ≡ before = ap (take 22) is ∙ take_at before (bytes ++ body) 22 (omega (arith, many)) in
    let rest : drop 22 d ≡ bytes ++ body = ap (drop 22) is ∙ drop_at before (bytes ++ body) 22 (omega (arith, many)) in
    let last : drop 38 d ≡ body =
    sym (drop-drop 16 22 d) ∙ ap (drop 16) rest ∙ drop_at bytes body 16 (omega (arith, sixteen)) in
    record {
      long = omega (arith, ap length is, length-append before (bytes ++ body), length-append bytes body, many, sixteen);
      begins = ap (take 6) is;
      sum =
          ap (little_number 16) rest
          ∙ little_number-reads_back 16 sum body (omega (arith, sum_below k.key before to body))
          ∙ (λ i. seal_sum k.key (sym first i) to (sym last i));
      ends = last;
    }
