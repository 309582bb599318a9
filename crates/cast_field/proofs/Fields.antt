-- A number that is read is the number that was written, and what was written is read again.
use Rattle.std.proofs.Common.{◌≡◌, ℕ, suc, ◌+◌, ◌^◌, ◌<◌, ◌≤◌, Bool, true, false, cond, ltb, leb, ◌&&◌, List, [], ◌∷◌, ◌++◌, length}
use Rattle.std.proofs.Common.{get_or, take, drop, Result, Ok, Err, refl, sym, ap, subst, ◌∙◌, append_assoc, arith, inl, inr}
use Rattle.std.specs.Int.{Width, w16, w32, byte_len, from_be_bytes, to_be_bytes}
use Rattle.std.proofs.lemmas.Bool.{cases_lt, ltb-false, le-ltb, leb-true, le-leb, and_parts, and_from}
use Rattle.std.proofs.lemmas.List.{take_at, drop_at, take-append-drop, length-append, length-take, get_or-drop, get_or-take, get_or_past}
use Rattle.std.proofs.lemmas.Nat.{be_bytes_2, be_bytes_4, from_be_bytes-to_be_bytes_2, from_be_bytes-to_be_bytes_4}
use Rattle.cast_field.specs.declared.fault.FrameFault.{FrameFault}
use Rattle.cast_field.specs.declared.fault.FrameFault.TheVariants.{Short, Range}
use Rattle.cast_field.specs.Spelling.{byte, short, word}
use Rattle.cast_field.specs.Reading.{◌>>=◌, Reader, within_range, byte_at, number_at, bytes_at}
use Rattle.cast_field.specs.Spelled.{IsFrom}

abbrev pub IsBytes : List ℕ → Type 0
IsBytes bytes = (i : ℕ) → get_or bytes i 0 < 256

pub IsBytes-drop : (n : ℕ) (bytes : List ℕ) → IsBytes bytes → IsBytes (drop n bytes)
IsBytes-drop n bytes h i = rw get_or-drop (h (n + i))

pub IsBytes-take : (n : ℕ) (bytes : List ℕ) → IsBytes bytes → IsBytes (take n bytes)
IsBytes-take n bytes h i =
    elim (cases_lt i n) [
      | inl lt ↦ rw (get_or-take n bytes i 0 lt) (h i)
      | inr le ↦ rw (get_or_past (take n bytes) i 0 (omega (arith, length-take n bytes))) (omega arith)
    ]

IsBytes-rest : (b : ℕ) (bytes : List ℕ) → IsBytes (b ∷ bytes) → IsBytes bytes
IsBytes-rest b bytes h i = h (suc i)

-- the value of a step that did not fail
pub bind_ok : {A B : Type 0} (r : Result A FrameFault) (f : A → Result B FrameFault) (y : B) → (r >>= f) ≡ Ok y →
    (x : A) × (r ≡ Ok x) × (f x ≡ Ok y)
bind_ok (Ok x) f y e = (x, refl, e)
bind_ok (Err d) f y e = absurd cc

-- a test that did not fail
pub guard_ok : {A : Type 0} (b : Bool) (d : FrameFault) (x y : Result A FrameFault) → cond b (Err d) x ≡ y → (z : A) → y ≡ Ok z →
    (b ≡ false) × (x ≡ Ok z)
guard_ok true d x y e z h = absurd cc
guard_ok false d x y e z h = (refl, e ∙ h)

pub pass_ok : {A : Type 0} (b : Bool) (d : FrameFault) (x : Result A FrameFault) (y : A) → cond b x (Err d) ≡ Ok y → (b ≡ true) × (x ≡ Ok y)
pass_ok true d x y e = (refl, e)
pass_ok false d x y e = absurd cc

abbrev pub done : {A : Type 0} → A → Result A FrameFault
done x = Ok x

pub ok_is : {A : Type 0} (x y : A) → done x ≡ done y → x ≡ y
ok_is x y e = cc

-- what a reader took from the front, and what is known of it
pub record Took (bytes text rest : List ℕ) (P : Type 0) : Type 0 where
  pub parts : bytes ≡ text ++ rest
  pub rest_fits : IsBytes rest
  pub holds : P

pub joined : (a x b y c : List ℕ) → a ≡ x ++ b → b ≡ y ++ c → a ≡ (x ++ y) ++ c
joined a x b y c p q = p ∙ ap (λ (t : List ℕ). x ++ t) q ∙ sym (append_assoc x y c)

-- what is read is spelled so
abbrev pub Takes : {A : Type 0} → Reader A → (A → List ℕ) → (A → Type 0) → Type 0
Takes {A = A} read spell P = (bytes : List ℕ) (x : A × List ℕ) → IsBytes bytes → read bytes ≡ Ok x → Took bytes (spell x.0) x.1 (P x.0)

-- what is spelled so is read
abbrev pub Again : {A : Type 0} → Reader A → (A → List ℕ) → (A → Type 0) → Type 0
Again {A = A} read spell P = (x : A) (rest : List ℕ) → P x → read (spell x ++ rest) ≡ Ok (x, rest)

-- ---- numbers

pub within_is : (low high n : ℕ) (rest : List ℕ) (x : ℕ × List ℕ) → within_range low high n rest ≡ Ok x →
    ((n, rest) ≡ x) × IsFrom low high n
unfolding within_range
within_is low high n rest x e =
    let g = pass_ok (leb low n && leb n high) Range (Ok (n, rest)) x e in
    let parts = and_parts (leb low n) (leb n high) g.0 in
    (ok_is (n, rest) x g.1, record { above = leb-true _ _ parts.0; below = leb-true _ _ parts.1 })

pub within_again : (low high n : ℕ) (rest : List ℕ) → IsFrom low high n → within_range low high n rest ≡ Ok (n, rest)
unfolding within_range
within_again low high n rest h =
    let test : (leb low n && leb n high) ≡ true = and_from _ _ (le-leb _ _ h.above) (le-leb _ _ h.below) in
    rw test refl

pub byte_takes : (low high : ℕ) → Takes (byte_at low high) byte (IsFrom low high)
unfolding byte_at byte
byte_takes low high [] x fits e = absurd cc
byte_takes low high (b ∷ bytes) x fits e =
    let w = within_is low high b bytes x e in
    subst (λ (y : ℕ × List ℕ). Took (b ∷ bytes) (y.0 ∷ []) y.1 (IsFrom low high y.0))
    w.0 (record { parts = refl; rest_fits = IsBytes-rest b bytes fits; holds = w.1 })

pub byte_again : (low high : ℕ) → Again (byte_at low high) byte (IsFrom low high)
unfolding byte_at byte
byte_again low high n rest h = within_again low high n rest h

pub record IsWide (w : Width) (limit : ℕ) : Type 0 where
  pub len : (n : ℕ) → length (to_be_bytes w n) ≡ byte_len w
  pub back : (bytes : List ℕ) → length bytes ≡ byte_len w → IsBytes bytes → to_be_bytes w (from_be_bytes w bytes) ≡ bytes
  pub again : (n : ℕ) → n < limit → from_be_bytes w (to_be_bytes w n) ≡ n

pub wide16 : IsWide w16 (2 ^ 16)
wide16 = record {
  len = λ n. refl;
  back = λ bytes len fits. be_bytes_2 bytes _ len fits refl;
  again = λ n lt. from_be_bytes-to_be_bytes_2 n lt;
}

pub wide32 : IsWide w32 (2 ^ 32)
wide32 = record {
  len = λ n. refl;
  back = λ bytes len fits. be_bytes_4 bytes _ len fits refl;
  again = λ n lt. from_be_bytes-to_be_bytes_4 n lt;
}

number_takes : (w : Width) (limit : ℕ) (wide : IsWide w limit) (low high : ℕ) →
    Takes (number_at w low high) (to_be_bytes w) (IsFrom low high)
unfolding number_at
number_takes w limit wide low high bytes x fits e =
    let n = from_be_bytes w (take (byte_len w) bytes) in
    let g = guard_ok (ltb (length bytes) (byte_len w)) Short (within_range low high n (drop (byte_len w) bytes)) (Ok x) e x refl in
    let long : byte_len w ≤ length bytes = ltb-false _ _ g.0 in
    let v = within_is low high n (drop (byte_len w) bytes) x g.1 in
    let front : to_be_bytes w n ≡ take (byte_len w) bytes =
    wide.back (take (byte_len w) bytes) (omega (arith, length-take (byte_len w) bytes)) (IsBytes-take (byte_len w) bytes fits) in
    let whole : bytes ≡ to_be_bytes w n ++ drop (byte_len w) bytes =
    sym (take-append-drop (byte_len w) bytes) ∙ ap (λ (t : List ℕ). t ++ drop (byte_len w) bytes) (sym front) in
    subst (λ (y : ℕ × List ℕ). Took bytes (to_be_bytes w y.0) y.1 (IsFrom low high y.0)) v.0
    (record { parts = whole; rest_fits = IsBytes-drop (byte_len w) bytes fits; holds = v.1 })

number_again : (w : Width) (limit : ℕ) (wide : IsWide w limit) (low high : ℕ) → high < limit →
    Again (number_at w low high) (to_be_bytes w) (IsFrom low high)
unfolding number_at
number_again w limit wide low high room n rest h =
    let len = wide.len n in
    let back : from_be_bytes w (to_be_bytes w n) ≡ n = wide.again n (omega (arith, h.below)) in
    let long : ltb (length (to_be_bytes w n ++ rest)) (byte_len w) ≡ false =
    le-ltb _ _ (omega (arith, length-append (to_be_bytes w n) rest)) in
    rw (
      long,
      take_at (to_be_bytes w n) rest (byte_len w) len,
      drop_at (to_be_bytes w n) rest (byte_len w) len,
      back,
    ) (within_again low high n rest h)

pub short_takes : (low high : ℕ) → Takes (number_at w16 low high) short (IsFrom low high)
unfolding short
short_takes low high = number_takes w16 (2 ^ 16) wide16 low high

pub short_again : (low high : ℕ) → high < 2 ^ 16 → Again (number_at w16 low high) short (IsFrom low high)
unfolding short
short_again low high room = number_again w16 (2 ^ 16) wide16 low high room

pub word_takes : (low high : ℕ) → Takes (number_at w32 low high) word (IsFrom low high)
unfolding word
word_takes low high = number_takes w32 (2 ^ 32) wide32 low high

pub word_again : (low high : ℕ) → high < 2 ^ 32 → Again (number_at w32 low high) word (IsFrom low high)
unfolding word
word_again low high room = number_again w32 (2 ^ 32) wide32 low high room

pub bytes_take : (n : ℕ) (bytes : List ℕ) (x : List ℕ × List ℕ) → IsBytes bytes → bytes_at n bytes ≡ Ok x →
    Took bytes x.0 x.1 (length x.0 ≡ n)
unfolding bytes_at
bytes_take n bytes x fits e =
    let g = guard_ok (ltb (length bytes) n) Short (Ok (take n bytes, drop n bytes)) (Ok x) e x refl in
    let long : n ≤ length bytes = ltb-false _ _ g.0 in
    subst (λ (y : List ℕ × List ℕ). Took bytes y.0 y.1 (length y.0 ≡ n)) (ok_is (take n bytes, drop n bytes) x g.1)
    (record { parts = sym (take-append-drop n bytes); rest_fits = IsBytes-drop n bytes fits; holds = omega (arith, length-take n bytes) })

pub bytes_again : (text rest : List ℕ) → bytes_at (length text) (text ++ rest) ≡ Ok (text, rest)
unfolding bytes_at
bytes_again text rest =
    let long : ltb (length (text ++ rest)) (length text) ≡ false = le-ltb _ _ (omega (arith, length-append text rest)) in
    rw (long, take_at text rest (length text) refl, drop_at text rest (length text) refl) refl
