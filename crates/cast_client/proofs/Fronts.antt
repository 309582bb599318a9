-- What stands at the front of bytes: a frame between a program and its daemon is read as it was spelled, and a part of one
-- wants the rest.
use Rattle.std.proofs.Common.{◌≡◌, ℕ, ◌+◌, ◌-◌, ◌<◌, ◌≤◌, eqb, ltb, List, [], ◌++◌, length, take, drop, Result}
use Rattle.std.proofs.Common.{Ok, Err, refl, sym, ap, subst, ◌∙◌, append_assoc, arith, lit<, lit≤, inl, inr}
use Rattle.std.specs.Prelude.{IfOk, IsTrue}
use Rattle.std.specs.Int.{w32}
use Rattle.std.proofs.Math.Seq.{take-append-add}
use Rattle.std.proofs.lemmas.Bool.{cases_lt, eqb-true, lt-ltb, le-ltb, le-leb, ltb-false, ltb-true}
use Rattle.std.proofs.lemmas.List.{append-nil, nil_from_length, length-append, length-take, take_at, drop_at, take-append-drop}
use Rattle.cast_field.specs.declared.fault.FrameFault.{FrameFault}
use Rattle.cast_field.specs.declared.fault.FrameFault.TheVariants.{Length}
use Rattle.cast_message.specs.declared.client.Request.TheVariants.{Join, Leave, Cast, Pass}
use Rattle.cast_message.specs.declared.client.Push.TheVariants.{Opened, Reply, View, Deliver, Ejected, Denied, Closed}
use Rattle.cast_message.specs.declared.client.ClientFrame.{ClientFrame}
use Rattle.cast_message.specs.declared.client.ClientFrame.TheVariants as client
use Rattle.cast_client.specs.declared.front.ClientRead.{ClientRead}
use Rattle.cast_client.specs.declared.front.ClientRead.TheVariants.{Frame, More}
use Rattle.cast_field.specs.Spelling.{byte, word}
use Rattle.cast_client.specs.Spelling.{client_code, spelled_parts, spelled_client}
use Rattle.cast_field.specs.Reading.{Gives, byte_at, number_at}
use Rattle.cast_client.specs.Reading.{parts_at, client_frame_of, length_of, length_at, frame_of_length, client_of}
use Rattle.cast_field.specs.Spelled.{IsFrom}
use Rattle.cast_client.specs.Spelled.{IsClient, Begins, Wants, IsFront}
use Rattle.cast_message.specs.Fitting.{client_fits}
use Rattle.cast_client.specs.Laws.{ClientIsRead, ClientSpellingsDiffer, PartWantsTheRest, ClientFits}
use Rattle.cast_field.proofs.Fields.{IsBytes, IsBytes-take, bind_ok, guard_ok, pass_ok}
use Rattle.cast_field.proofs.Fields.{ok_is, byte_takes, byte_again, word_takes, word_again}
use Rattle.cast_field.proofs.Holders.{chosen}
use Rattle.cast_field.proofs.Sizes.{word_size}
use Rattle.cast_client.proofs.Sizes.{word_len, byte_len, client_size, parts_fit}
use Rattle.cast_client.proofs.Bodies.{parts_take, parts_again}

-- ---- what stands behind the length

code_within : (f : ClientFrame) → IsFrom 0 255 (client_code f)
code_within (client.Request (Join tag g)) = record { above = lit≤ tt; below = lit≤ tt }
code_within (client.Request (Leave tag g)) = record { above = lit≤ tt; below = lit≤ tt }
code_within (client.Request (Cast tag g kind payload)) = record { above = lit≤ tt; below = lit≤ tt }
code_within (client.Request (Pass tag g to)) = record { above = lit≤ tt; below = lit≤ tt }
code_within (client.Push (Opened p)) = record { above = lit≤ tt; below = lit≤ tt }
code_within (client.Push (Reply tag refusal)) = record { above = lit≤ tt; below = lit≤ tt }
code_within (client.Push (View g view members)) = record { above = lit≤ tt; below = lit≤ tt }
code_within (client.Push (Deliver id kind payload)) = record { above = lit≤ tt; below = lit≤ tt }
code_within (client.Push (Ejected g view)) = record { above = lit≤ tt; below = lit≤ tt }
code_within (client.Push (Denied g refusal)) = record { above = lit≤ tt; below = lit≤ tt }
code_within (client.Push (Closed refusal)) = record { above = lit≤ tt; below = lit≤ tt }

-- the type and the parts
abbrev spelled_body : ClientFrame → List ℕ
spelled_body f = byte (client_code f) ++ spelled_parts f

body_takes : (bytes : List ℕ) (f : ClientFrame) → IsBytes bytes → length bytes ≤ 19996 → client_frame_of bytes ≡ Ok f →
    IsClient f × (bytes ≡ spelled_body f)
unfolding client_frame_of
body_takes bytes f fits few e =
    let a1 = bind_ok (byte_at 0 255 bytes) _ f e in
    let a2 = bind_ok (parts_at a1.0.0 a1.0.1) _ f a1.2 in
    let g = pass_ok (eqb (length a2.0.1) 0) Length (Ok a2.0.0) f a2.2 in
    let nothing : a2.0.1 ≡ [] = nil_from_length a2.0.1 (eqb-true (length a2.0.1) 0 g.0) in
    let t1 = byte_takes 0 255 bytes a1.0 fits a1.1 in
    let t2 = parts_take a1.0.0 a1.0.1 a2.0 t1.rest_fits a2.1 in
    let frame = a2.0.0 in
    let parts : a1.0.1 ≡ spelled_parts frame =
    t2.parts ∙ ap (λ (r : List ℕ). spelled_parts frame ++ r) nothing ∙ append-nil (spelled_parts frame) in
    let whole : bytes ≡ spelled_body frame =
    t1.parts ∙ ap (λ (n : ℕ). byte n ++ a1.0.1) (sym t2.holds.1) ∙ ap (λ (r : List ℕ). byte (client_code frame) ++ r) parts in
    let short : length (spelled_parts frame) ≤ 19995 =
    omega (arith, ap length whole, byte_len (client_code frame) (spelled_parts frame), few) in
    subst (λ (y : ClientFrame). IsClient y × (bytes ≡ spelled_body y)) (ok_is frame f g.1) (t2.holds.0 short, whole)

body_again : (f : ClientFrame) → IsClient f → client_frame_of (spelled_body f) ≡ Ok f
unfolding client_frame_of
body_again f is = rw (byte_again 0 255 (client_code f) (spelled_parts f) (code_within f), parts_again f is) refl

-- ---- the length

-- a length, and what stands behind it
record Headed (bytes : List ℕ) (n : ℕ) : Type 0 where
  rest : List ℕ
  parts : bytes ≡ word n ++ rest
  rest_fits : IsBytes rest
  least : 5 ≤ n
  most : n ≤ 20000

length_is : (n m : ℕ) → length_of n ≡ Ok m → (n ≡ m) × (5 ≤ n) × (n ≤ 20000)
unfolding length_of
length_is n m e =
    let g = guard_ok (ltb n 5) Length _ (Ok m) e m refl in
    let h = guard_ok (ltb 20000 n) Length (Ok n) (Ok m) g.1 m refl in
    (ok_is n m h.1, ltb-false _ _ g.0, ltb-false _ _ h.0)

length_takes : (bytes : List ℕ) (n : ℕ) → IsBytes bytes → length_at bytes ≡ Ok n → Headed bytes n
unfolding length_at
length_takes bytes n fits e =
    let a = bind_ok (number_at w32 0 4294967295 bytes) _ n e in
    let t = word_takes 0 4294967295 bytes a.0 fits a.1 in
    let is = length_is a.0.0 n a.2 in
    record {
      rest = a.0.1;
      parts = t.parts ∙ ap (λ (m : ℕ). word m ++ a.0.1) is.0;
      rest_fits = t.rest_fits;
      least = omega (arith, is.0, is.1);
      most = omega (arith, is.0, is.2);
    }

length_again : (n : ℕ) (rest : List ℕ) → 5 ≤ n → n ≤ 20000 → length_at (word n ++ rest) ≡ Ok n
unfolding length_at length_of
length_again n rest least most =
    let size : IsFrom 0 4294967295 n = record { above = omega arith; below = omega (arith, most) } in
    rw (word_again 0 4294967295 (lit< tt) n rest size, le-ltb _ _ least, le-ltb _ _ most) refl

front_take : (n k : ℕ) (rest : List ℕ) → take (4 + k) (word n ++ rest) ≡ word n ++ take k rest
front_take n k rest =
    subst (λ (m : ℕ). take (m + k) (word n ++ rest) ≡ word n ++ take k rest) (word_size n) (take-append-add (word n) rest k)

-- ---- what is read

frame_begins : (bytes : List ℕ) (said : ℕ) (f : ClientFrame) (n : ℕ) → Headed bytes said → frame_of_length bytes said ≡ Ok (Frame f n) →
    Begins bytes f n
unfolding frame_of_length spelled_client
frame_begins bytes said f n h e =
    elim (chosen (ltb (length bytes) said) (Ok (More (said - length bytes))) _ (Ok (Frame f n)) e) [
      | inl short ↦ absurd (cc short.1)
      | inr long ↦
          let a = bind_ok (client_frame_of (drop 4 (take said bytes))) (λ frame. Ok (Frame frame said)) (Frame f n) long.1 in
          let same_frame : a.0 ≡ f = cc a.2 in
          let same_len : said ≡ n = cc a.2 in
          let behind = said - 4 in
          let body = take behind h.rest in
          let split : said ≡ 4 + behind = omega (arith, h.least) in
          let front : take said bytes ≡ word said ++ body =
          ap (λ (m : ℕ). take m bytes) split ∙ ap (take (4 + behind)) h.parts ∙ front_take said behind h.rest in
          let inside : drop 4 (take said bytes) ≡ body = ap (drop 4) front ∙ drop_at (word said) body 4 (word_size said) in
          let room : said ≤ length bytes = ltb-false _ _ long.0 in
          let body_len : length body ≡ behind =
          omega (arith, length-take behind h.rest, ap length h.parts, word_len said h.rest, room, split) in
          let took =
          body_takes body f (IsBytes-take behind h.rest h.rest_fits) (omega (arith, body_len, h.most))
          (ap client_frame_of (sym inside) ∙ a.1 ∙ ap Ok same_frame) in
          let len : said ≡ 5 + length (spelled_parts f) =
          omega (arith, split, body_len, ap length took.1, byte_len (client_code f) (spelled_parts f)) in
          let whole : take said bytes ≡ spelled_client f =
          front ∙ ap (λ (b : List ℕ). word said ++ b) took.1 ∙ ap (λ (m : ℕ). word m ++ spelled_body f) len in
          record {
            spelled = took.0;
            rest = drop said bytes;
            parts = sym (take-append-drop said bytes) ∙ ap (λ (t : List ℕ). t ++ drop said bytes) whole;
            length_is = omega (arith, same_len, len, client_size f);
          }
    ]

more_wants : (bytes : List ℕ) (said n : ℕ) → length_at bytes ≡ Ok said → frame_of_length bytes said ≡ Ok (More n) → Wants bytes n
unfolding frame_of_length
more_wants bytes said n says e =
    elim (chosen (ltb (length bytes) said) (Ok (More (said - length bytes))) _ (Ok (More n)) e) [
      | inl short ↦
          let less : length bytes < said = ltb-true _ _ short.0 in
          let wanting : said - length bytes ≡ n = cc short.1 in
          (omega (arith, less, wanting), inr (said, says, omega (arith, less, wanting)))
      | inr long ↦
          let a = bind_ok (client_frame_of (drop 4 (take said bytes))) (λ frame. Ok (Frame frame said)) (More n) long.1 in
          absurd (cc a.2)
    ]

front_is : (bytes : List ℕ) (x : ClientRead) → IsBytes bytes → client_of bytes ≡ Ok x → IsFront bytes x
unfolding client_of
front_is bytes (Frame f n) fits e =
    elim (chosen (ltb (length bytes) 4) (Ok (More (4 - length bytes))) _ (Ok (Frame f n)) e) [
      | inl short ↦ absurd (cc short.1)
      | inr long ↦
          let a = bind_ok (length_at bytes) (frame_of_length bytes) (Frame f n) long.1 in
          frame_begins bytes a.0 f n (length_takes bytes a.0 fits a.1) a.2
    ]
front_is bytes (More n) fits e =
    elim (chosen (ltb (length bytes) 4) (Ok (More (4 - length bytes))) _ (Ok (More n)) e) [
      | inl short ↦
          let less : length bytes < 4 = ltb-true _ _ short.0 in
          let wanting : 4 - length bytes ≡ n = cc short.1 in
          (omega (arith, less, wanting), inl (omega (arith, less, wanting)))
      | inr long ↦
          let a = bind_ok (length_at bytes) (frame_of_length bytes) (More n) long.1 in
          more_wants bytes a.0 n a.1 a.2
    ]

pub is_found : (bytes : List ℕ) (r : Result ClientRead FrameFault) → IsBytes bytes → Gives r (client_of bytes) → IfOk r (IsFront bytes)
is_found bytes (Ok x) fits given = front_is bytes x fits given
is_found bytes (Err e) fits given = tt

-- ---- what is spelled is read

spelled_is : (f : ClientFrame) (rest : List ℕ) → spelled_client f ++ rest ≡ word (5 + length (spelled_parts f)) ++ (spelled_body f ++ rest)
unfolding spelled_client
spelled_is f rest = append_assoc (word (5 + length (spelled_parts f))) (spelled_body f) rest

headed_again : (f : ClientFrame) (rest : List ℕ) → IsClient f →
    length_at (word (5 + length (spelled_parts f)) ++ rest) ≡ Ok (5 + length (spelled_parts f))
headed_again f rest is = length_again (5 + length (spelled_parts f)) rest (omega arith) (omega (arith, parts_fit f is))

past_length : (bytes : List ℕ) (said : ℕ) → 4 ≤ length bytes → length_at bytes ≡ Ok said → client_of bytes ≡ frame_of_length bytes said
unfolding client_of
past_length bytes said long says = rw (le-ltb _ _ long, says) refl

frame_again : (bytes : List ℕ) (n : ℕ) (f : ClientFrame) → IsClient f → n ≤ length bytes → drop 4 (take n bytes) ≡ spelled_body f →
    frame_of_length bytes n ≡ Ok (Frame f n)
unfolding frame_of_length
frame_again bytes n f is room inside = rw (le-ltb _ _ room, inside, body_again f is) refl

more_again : (bytes : List ℕ) (n : ℕ) → length bytes < n → frame_of_length bytes n ≡ Ok (More (n - length bytes))
unfolding frame_of_length
more_again bytes n less = rw (lt-ltb _ _ less) refl

pub client_again : ClientIsRead
unfolding spelled_client
client_again f rest is =
    let n = 5 + length (spelled_parts f) in
    let bytes = spelled_client f ++ rest in
    let size = client_size f in
    let len : length bytes ≡ n + length rest = length-append (spelled_client f) rest ∙ omega (arith, size) in
    let says : length_at bytes ≡ Ok n = ap length_at (spelled_is f rest) ∙ headed_again f (spelled_body f ++ rest) is in
    let inside : drop 4 (take n bytes) ≡ spelled_body f =
    ap (drop 4) (take_at (spelled_client f) rest n size) ∙ drop_at (word n) (spelled_body f) 4 (word_size n) in
    past_length bytes n (omega (arith, len)) says
    ∙ frame_again bytes n f is (omega (arith, len)) inside
    ∙ ap (λ (m : ℕ). Ok (Frame f m)) (sym size)

pub part_wants : PartWantsTheRest
unfolding client_of spelled_client
part_wants f k is less =
    let n = 5 + length (spelled_parts f) in
    let bytes = take k (spelled_client f) in
    let size = client_size f in
    let len : length bytes ≡ k = omega (arith, length-take k (spelled_client f), less) in
    elim (cases_lt k 4) [
      | inl short ↦ rw (len, lt-ltb k 4 short) refl
      | inr long ↦
          let behind = k - 4 in
          let split : k ≡ 4 + behind = omega (arith, long) in
          let front : bytes ≡ word n ++ take behind (spelled_body f) =
          ap (λ (m : ℕ). take m (spelled_client f)) split ∙ front_take n behind (spelled_body f) in
          let says : length_at bytes ≡ Ok n = ap length_at front ∙ headed_again f (take behind (spelled_body f)) is in
          let wanting : n - length bytes ≡ length (spelled_client f) - k = omega (arith, len, size) in
          let told : client_of bytes ≡ Ok (More (length (spelled_client f) - k)) =
          past_length bytes n (omega (arith, len, long)) says
          ∙ more_again bytes n (omega (arith, len, size, less))
          ∙ ap (λ (m : ℕ). Ok (More m)) wanting in
          rw (le-ltb _ _ long) told
    ]

-- ---- laws

pub spellings_differ : ClientSpellingsDiffer
spellings_differ f g rest more a b same =
    let one : Frame f (length (spelled_client f)) ≡ Frame g (length (spelled_client g)) =
    ok_is _ _ (sym (client_again f rest a) ∙ ap client_of same ∙ client_again g more b) in
    let frames : f ≡ g = cc one in
    let behind : drop (length (spelled_client f)) (spelled_client g ++ more) ≡ more =
    drop_at (spelled_client g) more (length (spelled_client f)) (ap (λ (x : ClientFrame). length (spelled_client x)) (sym frames)) in
    (frames, sym (drop_at (spelled_client f) rest (length (spelled_client f)) refl) ∙ ap (drop (length (spelled_client f))) same ∙ behind)

fits : (f : ClientFrame) → IsClient f → IsTrue (client_fits f)
fits (client.Request (Join tag g)) is = refl
fits (client.Request (Leave tag g)) is = refl
fits (client.Request (Cast tag g kind payload)) is = le-leb _ _ is.2
fits (client.Request (Pass tag g to)) is = refl
fits (client.Push p) is = refl

pub client_spelled_fits : ClientFits
client_spelled_fits f is = (record { least = omega (arith, client_size f); most = omega (arith, client_size f, parts_fit f is) }, fits f is)
