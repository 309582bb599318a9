-- What stands at the front of a stream when more bytes come.
use Rattle.std.proofs.Common.{◌≡◌, ℕ, ◌-◌, ◌<◌, ◌≤◌, Bool, true, false, cond, ltb, leb, ◌&&◌, List, ◌++◌}
use Rattle.std.proofs.Common.{length, take, drop, Result, Ok, Err, refl, sym, ap, ◌∙◌, arith, inl, inr}
use Rattle.std.specs.Int.{w32, from_be_bytes}
use Rattle.std.proofs.lemmas.Bool.{cases_lt, lt-ltb, le-ltb, ltb-false}
use Rattle.std.proofs.lemmas.List.{length-append, length-take, take-append-drop, take-append-le}
use Rattle.cast_field.specs.declared.fault.FrameFault.{FrameFault}
use Rattle.cast_field.specs.declared.fault.FrameFault.TheVariants.{Length, Range}
use Rattle.cast_message.specs.declared.client.ClientFrame.{ClientFrame}
use Rattle.cast_client.specs.declared.front.ClientRead.{ClientRead}
use Rattle.cast_client.specs.declared.front.ClientRead.TheVariants.{Frame, More}
use Rattle.cast_field.specs.Reading.{◌>>=◌, within_range, number_at}
use Rattle.cast_client.specs.Reading.{client_frame_of, length_of, length_at, frame_of_length, client_of}
use Rattle.cast_client.specs.Laws.{FrameStays, FaultStays, WantingStays}
use Rattle.cast_field.proofs.Fields.{bind_ok, guard_ok}

-- ---- the length

abbrev Number : Type 0
Number = ℕ × List ℕ

tested : {B : Type 0} (b : Bool) (x y : Number) (f : Number → Result B FrameFault) → f x ≡ f y →
    (cond b (Ok x) (Err Range) >>= f) ≡ (cond b (Ok y) (Err Range) >>= f)
tested true x y f same = same
tested false x y f same = refl

same_number : {B : Type 0} (n : ℕ) (rest other : List ℕ) (f : ℕ → Result B FrameFault) →
    (within_range 0 4294967295 n rest >>= λ (x : Number). f x.0) ≡ (within_range 0 4294967295 n other >>= λ (x : Number). f x.0)
unfolding within_range
same_number n rest other f = tested (leb 0 n && leb n 4294967295) (n, rest) (n, other) (λ (x : Number). f x.0) refl

-- the first four bytes say it
pub length_stays : (bytes more : List ℕ) → 4 ≤ length bytes → length_at (bytes ++ more) ≡ length_at bytes
unfolding length_at number_at
length_stays bytes more long =
    let whole : ltb (length bytes) 4 ≡ false = le-ltb _ _ long in
    let longer : ltb (length (bytes ++ more)) 4 ≡ false = le-ltb _ _ (omega (arith, length-append bytes more)) in
    let front : take 4 (bytes ++ more) ≡ take 4 bytes = take-append-le 4 bytes more long in
    rw (whole, longer, front) (same_number (from_be_bytes w32 (take 4 bytes)) (drop 4 (bytes ++ more)) (drop 4 bytes) length_of)

-- it is at least 5, and at most 20,000
pub record IsLength (n : ℕ) : Type 0 where
  pub least : 5 ≤ n
  pub most : n ≤ 20000

pub length_fits : (bytes : List ℕ) (n : ℕ) → length_at bytes ≡ Ok n → IsLength n
unfolding length_at length_of
length_fits bytes n e =
    let number = bind_ok (number_at w32 0 4294967295 bytes) (λ x. length_of x.0) n e in
    let said = number.0.0 in
    let above = guard_ok (ltb said 5) Length (cond (ltb 20000 said) (Err Length) (Ok said)) (Ok n) number.2 n refl in
    let below = guard_ok (ltb 20000 said) Length (Ok said) (Ok n) above.1 n refl in
    let is : said ≡ n = cc (below.1) in
    record { least = omega (arith, ltb-false _ _ above.0, is); most = omega (arith, ltb-false _ _ below.0, is) }

-- ---- what stands there before the length has come, and then

short_front : (bytes : List ℕ) → length bytes < 4 → client_of bytes ≡ Ok (More (4 - length bytes))
unfolding client_of
short_front bytes short = rw (lt-ltb _ _ short) refl

long_front : (bytes : List ℕ) → 4 ≤ length bytes → client_of bytes ≡ (length_at bytes >>= frame_of_length bytes)
unfolding client_of
long_front bytes long = rw (le-ltb _ _ long) refl

part_front : (bytes : List ℕ) (said : ℕ) → length bytes < said → frame_of_length bytes said ≡ Ok (More (said - length bytes))
unfolding frame_of_length
part_front bytes said part = rw (lt-ltb _ _ part) refl

whole_front : (bytes : List ℕ) (said : ℕ) → said ≤ length bytes →
    frame_of_length bytes said ≡ (client_frame_of (drop 4 (take said bytes)) >>= λ frame. Ok (Frame frame said))
unfolding frame_of_length
whole_front bytes said whole = rw (le-ltb _ _ whole) refl

-- the whole bytes of a frame stay what they are
whole_stays : (bytes more : List ℕ) (said : ℕ) → said ≤ length bytes → frame_of_length (bytes ++ more) said ≡ frame_of_length bytes said
whole_stays bytes more said whole =
    let front : take said (bytes ++ more) ≡ take said bytes = take-append-le said bytes more whole in
    let longer : said ≤ length (bytes ++ more) = omega (arith, length-append bytes more) in
    whole_front (bytes ++ more) said longer ∙ rw front (sym (whole_front bytes said whole))

-- ---- what each answer says of the bytes

-- a frame of n bytes is there: its length says so, and it is whole
pub record IsThere (bytes : List ℕ) (n : ℕ) : Type 0 where
  pub long : 4 ≤ length bytes
  pub says : length_at bytes ≡ Ok n
  pub whole : n ≤ length bytes

named : (r : Result ClientFrame FrameFault) (said : ℕ) (f : ClientFrame) (n : ℕ) →
    (r >>= λ frame. Ok (Frame frame said)) ≡ Ok (Frame f n) → said ≡ n
named (Ok frame) said f n e = cc
named (Err fault) said f n e = absurd cc

unnamed : (r : Result ClientFrame FrameFault) (said n : ℕ) → (r >>= λ frame. Ok (Frame frame said)) ≡ Ok (More n) → ⊥
unnamed (Ok frame) said n e = cc
unnamed (Err fault) said n e = cc

pub frame_is_there : (bytes : List ℕ) (f : ClientFrame) (n : ℕ) → client_of bytes ≡ Ok (Frame f n) → IsThere bytes n
frame_is_there bytes f n e =
    elim (cases_lt (length bytes) 4) [
      | inl short ↦ (let no = sym (short_front bytes short) ∙ e in absurd cc)
      | inr long ↦
          let said = bind_ok (length_at bytes) (frame_of_length bytes) (Frame f n) (sym (long_front bytes long) ∙ e) in
          elim (cases_lt (length bytes) said.0) [
            | inl part ↦ (let no = sym (part_front bytes said.0 part) ∙ said.2 in absurd cc)
            | inr whole ↦
                let is : said.0 ≡ n =
                named (client_frame_of (drop 4 (take said.0 bytes))) said.0 f n (sym (whole_front bytes said.0 whole) ∙ said.2) in
                record { long = long; says = said.1 ∙ ap (λ (k : ℕ). Ok k) is; whole = omega (arith, is) }
          ]
    ]

-- n bytes are wanting: up to the end of the length, or up to the length that it says
pub data IsWanting (bytes : List ℕ) (n : ℕ) : Type 0 where
  of_the_length : length bytes < 4 → n ≡ 4 - length bytes → IsWanting bytes n
  of_the_frame : (said : ℕ) → 4 ≤ length bytes → length_at bytes ≡ Ok said → length bytes < said → n ≡ said - length bytes →
      IsWanting bytes n

pub more_is_wanting : (bytes : List ℕ) (n : ℕ) → client_of bytes ≡ Ok (More n) → IsWanting bytes n
more_is_wanting bytes n e =
    elim (cases_lt (length bytes) 4) [
      | inl short ↦ (let is = sym (short_front bytes short) ∙ e in of_the_length short cc)
      | inr long ↦
          let said = bind_ok (length_at bytes) (frame_of_length bytes) (More n) (sym (long_front bytes long) ∙ e) in
          elim (cases_lt (length bytes) said.0) [
            | inl part ↦ (let is = sym (part_front bytes said.0 part) ∙ said.2 in of_the_frame said.0 long said.1 part cc)
            | inr whole ↦
                absurd (unnamed (client_frame_of (drop 4 (take said.0 bytes))) said.0 n (sym (whole_front bytes said.0 whole) ∙ said.2))
          ]
    ]

-- ---- more bytes come

frame_of : (bytes : List ℕ) (said : ℕ) (r : Result ClientRead FrameFault) → 4 ≤ length bytes → length_at bytes ≡ Ok said →
    client_of bytes ≡ r → frame_of_length bytes said ≡ r
frame_of bytes said r long says e = rw says at (sym (long_front bytes long) ∙ e)

of_frame : (bytes more : List ℕ) (said : ℕ) → 4 ≤ length bytes → length_at bytes ≡ Ok said →
    client_of (bytes ++ more) ≡ frame_of_length (bytes ++ more) said
of_frame bytes more said long says =
    let longer : 4 ≤ length (bytes ++ more) = omega (arith, length-append bytes more) in
    long_front (bytes ++ more) longer ∙ rw (length_stays bytes more long, says) refl

pub frame_stays : FrameStays
frame_stays bytes more f n e =
    let there = frame_is_there bytes f n e in
    of_frame bytes more n there.long there.says
    ∙ (whole_stays bytes more n there.whole
    ∙ frame_of bytes n (Ok (Frame f n)) there.long there.says e)

-- a frame stands there by its own bytes alone
pub frame_alone : (bytes : List ℕ) (f : ClientFrame) (n : ℕ) → client_of bytes ≡ Ok (Frame f n) → client_of (take n bytes) ≡ Ok (Frame f n)
frame_alone bytes f n e =
    let there = frame_is_there bytes f n e in
    let least = (length_fits bytes n there.says).least in
    let front = take n bytes in
    let rest = drop n bytes in
    let joined : front ++ rest ≡ bytes = take-append-drop n bytes in
    let whole : n ≤ length front = omega (arith, length-take n bytes, there.whole) in
    let long : 4 ≤ length front = omega (arith, whole, least) in
    let says : length_at front ≡ Ok n = sym (length_stays front rest long) ∙ (ap length_at joined ∙ there.says) in
    let frame = frame_of bytes n (Ok (Frame f n)) there.long there.says e in
    long_front front long ∙ rw says (sym (whole_stays front rest n whole) ∙ (ap (λ (l : List ℕ). frame_of_length l n) joined ∙ frame))

pub fault_stays : FaultStays
fault_stays bytes more e is =
    elim (cases_lt (length bytes) 4) [
      | inl short ↦ (let no = sym (short_front bytes short) ∙ is in absurd cc)
      | inr long ↦ at_length bytes more e (length_at bytes) long refl is
    ]
  where
    at_length : (bytes more : List ℕ) (e : FrameFault) (r : Result ℕ FrameFault) → 4 ≤ length bytes → length_at bytes ≡ r →
        client_of bytes ≡ Err e → client_of (bytes ++ more) ≡ Err e
    at_length bytes more e (Err d) long says is =
        let longer : 4 ≤ length (bytes ++ more) = omega (arith, length-append bytes more) in
        let same : Err d ≡ Err e = rw says at (sym (long_front bytes long) ∙ is) in
        long_front (bytes ++ more) longer ∙ rw (length_stays bytes more long, says) same
    at_length bytes more e (Ok said) long says is =
        let failed = frame_of bytes said (Err e) long says is in
        elim (cases_lt (length bytes) said) [
          | inl part ↦ (let no = sym (part_front bytes said part) ∙ failed in absurd cc)
          | inr whole ↦ of_frame bytes more said long says ∙ (whole_stays bytes more said whole ∙ failed)
        ]

pub wanting_stays : WantingStays
wanting_stays bytes more n e less =
    let len = length-append bytes more in
    elim (more_is_wanting bytes n e) [
      | of_the_length short is ↦
          let left : 4 - length (bytes ++ more) ≡ n - length more = omega (arith, len) in
          short_front (bytes ++ more) (omega (arith, len)) ∙ ap (λ (k : ℕ). Ok (More k)) left
      | of_the_frame said long says part is ↦
          let left : said - length (bytes ++ more) ≡ n - length more = omega (arith, len) in
          of_frame bytes more said long says ∙ (part_front (bytes ++ more) said (omega (arith, len)) ∙ ap (λ (k : ℕ). Ok (More k)) left)
    ]

-- a frame that comes with the bytes that were wanting ends with them
pub ends_with_them : (bytes more : List ℕ) (n : ℕ) (f : ClientFrame) (k : ℕ) → client_of bytes ≡ Ok (More n) → length more ≤ n →
    client_of (bytes ++ more) ≡ Ok (Frame f k) → k ≡ length (bytes ++ more)
ends_with_them bytes more n f k wants few e =
    let len = length-append bytes more in
    let there = frame_is_there (bytes ++ more) f k e in
    elim (more_is_wanting bytes n wants) [
      | of_the_length short is ↦
          (let least = (length_fits (bytes ++ more) k there.says).least in absurd (omega (arith, len, least, there.whole)))
      | of_the_frame said long says part is ↦
          let same : said ≡ k = cc (length_stays bytes more long, says, there.says) in
          omega (arith, len, same, there.whole)
    ]
