-- Messages are read as they were spelled.
use Rattle.std.proofs.Common.{◌≡◌, ℕ, Bool, true, false, eqb, List, ◌++◌, Ok, refl}
use Rattle.std.proofs.Common.{sym, ap, subst, ◌∙◌, append_assoc, arith, lit≤, inl, inr}
use Rattle.std.proofs.lemmas.Bool.{cases_Bool, false≢true, eqb-true, eq-eqb}
use Rattle.cast_types.specs.declared.names.Kind.{Kind}
use Rattle.cast_types.specs.declared.names.Kind.TheVariants as kind
use Rattle.cast_message.specs.declared.message.Body.{Body}
use Rattle.cast_message.specs.declared.message.Body.TheVariants as body
use Rattle.cast_message.specs.declared.message.Message.{Message}
use Rattle.cast_message.specs.Bodies.{kind_of, hands_over}
use Rattle.cast_field.specs.Spelling.{byte, kind_code, spelled_uid, spelled_times, spelled_body, spelled_message}
use Rattle.cast_field.specs.Reading.{◌>>=◌, byte_at, uid_at, times_at, payload_at, sequence_at, least_kind}
use Rattle.cast_field.specs.Reading.{kind_numbered, kind_at, causal_at, atomic_at, order_at, body_at, message_at}
use Rattle.cast_field.specs.Spelled.{IsFrom, IsBody, IsMessage}
use Rattle.cast_field.proofs.Fields.{bind_ok, ok_is, Took, joined, Takes, Again, byte_takes, byte_again}
use Rattle.cast_field.proofs.Parts.{uid_takes, uid_again, times_takes, times_again, payload_takes, payload_again}
use Rattle.cast_field.proofs.Orders.{sequence_takes, sequence_again}

-- ---- kinds

kind_back : (n : ℕ) → IsFrom 1 3 n → n ≡ kind_code (kind_numbered n)
kind_back n h =
    elim (cases_Bool (eqb n 1)) [
      | inl one ↦ rw one (eqb-true n 1 one)
      | inr not_one ↦ elim (cases_Bool (eqb n 2)) [
        | inl two ↦ rw (not_one, two) (eqb-true n 2 two)
        | inr not_two ↦
            let first : n ≡ 1 → ⊥ = λ z. false≢true (sym not_one ∙ eq-eqb n 1 z) in
            let second : n ≡ 2 → ⊥ = λ z. false≢true (sym not_two ∙ eq-eqb n 2 z) in
            rw (not_one, not_two) (omega (arith, h.above, h.below, first, second))
      ]
    ]

kind_same : (k : Kind) → kind_numbered (kind_code k) ≡ k
kind_same kind.Causal = refl
kind_same kind.Atomic = refl
kind_same kind.Order = refl

-- a message that hands over the token is of the third kind
abbrev MayBe : Bool → Kind → Type 0
MayBe handing k = handing ≡ true → k ≡ kind.Order

kind_within : (handing : Bool) (k : Kind) → MayBe handing k → IsFrom (least_kind handing) 3 (kind_code k)
kind_within true k may = subst (λ (k : Kind). IsFrom 3 3 (kind_code k)) (sym (may refl)) (record { above = lit≤ tt; below = lit≤ tt })
kind_within false kind.Causal may = record { above = lit≤ tt; below = lit≤ tt }
kind_within false kind.Atomic may = record { above = lit≤ tt; below = lit≤ tt }
kind_within false kind.Order may = record { above = lit≤ tt; below = lit≤ tt }

kind_third : (handing : Bool) (n : ℕ) → IsFrom (least_kind handing) 3 n → MayBe handing (kind_numbered n)
kind_third true n h is = let third : n ≡ 3 = omega (arith, h.above, h.below) in ap kind_numbered third
kind_third false n h is = absurd (false≢true is)

kind_range : (handing : Bool) (n : ℕ) → IsFrom (least_kind handing) 3 n → IsFrom 1 3 n
kind_range true n h = record { above = omega (arith, h.above); below = h.below }
kind_range false n h = h

kind_takes : (handing : Bool) → Takes (kind_at handing) (λ (k : Kind). byte (kind_code k)) (MayBe handing)
unfolding kind_at
kind_takes handing bytes x fits e =
    let a1 = bind_ok (byte_at (least_kind handing) 3 bytes) (λ n. Ok (kind_numbered n.0, n.1)) x e in
    let t1 = byte_takes (least_kind handing) 3 bytes a1.0 fits a1.1 in
    let made : Kind × List ℕ = (kind_numbered a1.0.0, a1.0.1) in
    subst (λ (y : Kind × List ℕ). Took bytes (byte (kind_code y.0)) y.1 (MayBe handing y.0)) (ok_is made x a1.2)
    (record {
      parts = t1.parts ∙ ap (λ (n : ℕ). byte n ++ a1.0.1) (kind_back a1.0.0 (kind_range handing a1.0.0 t1.holds));
      rest_fits = t1.rest_fits;
      holds = kind_third handing a1.0.0 t1.holds;
    })

kind_again : (handing : Bool) → Again (kind_at handing) (λ (k : Kind). byte (kind_code k)) (MayBe handing)
unfolding kind_at
kind_again handing v rest fits = rw (byte_again (least_kind handing) 3 (kind_code v) rest (kind_within handing v fits), kind_same v) refl

-- ---- what messages hold

-- a body of the kind; it hands over the token or does not, as is asked, where the kind allows that
abbrev IsBodyOf : Bool → Kind → Body → Type 0
IsBodyOf handing k b = IsBody b × (kind_of b ≡ k) × (MayBe handing k → hands_over b ≡ handing)

-- a message that is no set-order message does not hand over the token
no_cast : (handing : Bool) (k : Kind) → (k ≡ kind.Order → ⊥) → MayBe handing k → false ≡ handing
no_cast true k other may = absurd (other (may refl))
no_cast false k other may = refl

no_causal : kind.Causal ≡ kind.Order → ⊥
no_causal e = cc

no_atomic : kind.Atomic ≡ kind.Order → ⊥
no_atomic e = cc

causal_takes : (handing : Bool) → Takes causal_at spelled_body (IsBodyOf handing kind.Causal)
unfolding causal_at spelled_body
causal_takes handing bytes x fits e =
    let a1 = bind_ok (payload_at bytes) (λ payload. Ok (body.Causal payload.0, payload.1)) x e in
    let t1 = payload_takes bytes a1.0 fits a1.1 in
    let made : Body × List ℕ = (body.Causal a1.0.0, a1.0.1) in
    subst (λ (y : Body × List ℕ). Took bytes (spelled_body y.0) y.1 (IsBodyOf handing kind.Causal y.0)) (ok_is made x a1.2)
    (record { parts = t1.parts; rest_fits = t1.rest_fits; holds = (t1.holds, refl, no_cast handing kind.Causal no_causal) })

atomic_takes : (handing : Bool) → Takes atomic_at spelled_body (IsBodyOf handing kind.Atomic)
unfolding atomic_at spelled_body
atomic_takes handing bytes x fits e =
    let a1 = bind_ok (payload_at bytes) (λ payload. Ok (body.Atomic payload.0, payload.1)) x e in
    let t1 = payload_takes bytes a1.0 fits a1.1 in
    let made : Body × List ℕ = (body.Atomic a1.0.0, a1.0.1) in
    subst (λ (y : Body × List ℕ). Took bytes (spelled_body y.0) y.1 (IsBodyOf handing kind.Atomic y.0)) (ok_is made x a1.2)
    (record { parts = t1.parts; rest_fits = t1.rest_fits; holds = (t1.holds, refl, no_cast handing kind.Atomic no_atomic) })

order_takes : (handing : Bool) → Takes (order_at handing) spelled_body (IsBodyOf handing kind.Order)
unfolding order_at spelled_body
order_takes handing bytes x fits e =
    let a1 = bind_ok (sequence_at handing bytes) (λ sequence. Ok (body.Order sequence.0, sequence.1)) x e in
    let t1 = sequence_takes handing bytes a1.0 fits a1.1 in
    let made : Body × List ℕ = (body.Order a1.0.0, a1.0.1) in
    subst (λ (y : Body × List ℕ). Took bytes (spelled_body y.0) y.1 (IsBodyOf handing kind.Order y.0)) (ok_is made x a1.2)
    (record { parts = t1.parts; rest_fits = t1.rest_fits; holds = (t1.holds.0, refl, λ _. t1.holds.1) })

body_takes : (handing : Bool) (k : Kind) → Takes (body_at handing k) spelled_body (IsBodyOf handing k)
unfolding body_at
body_takes handing kind.Causal bytes x fits e = causal_takes handing bytes x fits e
body_takes handing kind.Atomic bytes x fits e = atomic_takes handing bytes x fits e
body_takes handing kind.Order bytes x fits e = order_takes handing bytes x fits e

body_again : (b : Body) (rest : List ℕ) → IsBody b → body_at (hands_over b) (kind_of b) (spelled_body b ++ rest) ≡ Ok (b, rest)
unfolding body_at causal_at atomic_at order_at spelled_body
body_again (body.Causal p) rest fits = rw (payload_again p rest fits) refl
body_again (body.Atomic p) rest fits = rw (payload_again p rest fits) refl
body_again (body.Order s) rest fits = rw (sequence_again s rest fits) refl

-- a body that hands over the token is of the third kind
handing_is_third : (b : Body) → MayBe (hands_over b) (kind_of b)
handing_is_third (body.Causal p) is = absurd (false≢true is)
handing_is_third (body.Atomic p) is = absurd (false≢true is)
handing_is_third (body.Order s) is = refl

-- ---- messages

-- a message that hands over the token, or one that does not
abbrev pub IsMessageBy : Bool → Message → Type 0
IsMessageBy handing m = IsMessage m × (hands_over m.body ≡ handing)

pub message_takes : (handing : Bool) → Takes (message_at handing) spelled_message (IsMessageBy handing)
unfolding message_at spelled_message
message_takes handing bytes x fits e =
    let a1 =
    bind_ok (uid_at bytes) (λ id. kind_at handing id.1 >>= λ k.
    times_at k.1 >>= λ times. body_at handing k.0 times.1 >>= λ b. Ok (record { id = id.0; times = times.0; body = b.0 }, b.1)) x e in
    let a2 =
    bind_ok (kind_at handing a1.0.1) (λ k. times_at k.1
    >>= λ times. body_at handing k.0 times.1 >>= λ b. Ok (record { id = a1.0.0; times = times.0; body = b.0 }, b.1)) x a1.2 in
    let a3 =
    bind_ok (times_at a2.0.1)
    (λ times. body_at handing a2.0.0 times.1 >>= λ b. Ok (record { id = a1.0.0; times = times.0; body = b.0 }, b.1)) x a2.2 in
    let a4 = bind_ok (body_at handing a2.0.0 a3.0.1) (λ b. Ok (record { id = a1.0.0; times = a3.0.0; body = b.0 }, b.1)) x a3.2 in
    let t1 = uid_takes bytes a1.0 fits a1.1 in
    let t2 = kind_takes handing a1.0.1 a2.0 t1.rest_fits a2.1 in
    let t3 = times_takes a2.0.1 a3.0 t2.rest_fits a3.1 in
    let t4 = body_takes handing a2.0.0 a3.0.1 a4.0 t3.rest_fits a4.1 in
    let code : List ℕ = byte (kind_code (kind_of a4.0.0)) in
    let named : a1.0.1 ≡ code ++ a2.0.1 = t2.parts ∙ ap (λ (k : Kind). byte (kind_code k) ++ a2.0.1) (sym t4.holds.1) in
    let j3 = joined a2.0.1 (spelled_times a3.0.0) a3.0.1 (spelled_body a4.0.0) a4.0.1 t3.parts t4.parts in
    let j2 = joined a1.0.1 code a2.0.1 (spelled_times a3.0.0 ++ spelled_body a4.0.0) a4.0.1 named j3 in
    let j1 = joined bytes (spelled_uid a1.0.0) a1.0.1 (code ++ (spelled_times a3.0.0 ++ spelled_body a4.0.0)) a4.0.1 t1.parts j2 in
    let made : Message × List ℕ = (record { id = a1.0.0; times = a3.0.0; body = a4.0.0 }, a4.0.1) in
    subst (λ (y : Message × List ℕ). Took bytes (spelled_message y.0) y.1 (IsMessageBy handing y.0)) (ok_is made x a4.2)
    (record {
      parts = j1;
      rest_fits = t4.rest_fits;
      holds = (record { id = t1.holds; times = t3.holds; body = t4.holds.0 }, t4.holds.2 t2.holds);
    })

pub message_again : (v : Message) (rest : List ℕ) → IsMessage v → message_at (hands_over v.body) (spelled_message v ++ rest) ≡ Ok (v, rest)
unfolding message_at spelled_message
message_again v rest fits =
    let r3 : List ℕ = spelled_body v.body ++ rest in
    let r2 : List ℕ = spelled_times v.times ++ r3 in
    let r1 : List ℕ = byte (kind_code (kind_of v.body)) ++ r2 in
    let regrouped : (spelled_uid v.id ++ (byte (kind_code (kind_of v.body)) ++ (spelled_times v.times ++ spelled_body v.body))) ++ rest
    ≡ spelled_uid v.id ++ r1 =
    append_assoc (spelled_uid v.id) (byte (kind_code (kind_of v.body)) ++ (spelled_times v.times ++ spelled_body v.body)) rest
    ∙ ap (λ (t : List ℕ). spelled_uid v.id ++ t)
    (append_assoc (byte (kind_code (kind_of v.body))) (spelled_times v.times ++ spelled_body v.body) rest
    ∙ ap (λ (t : List ℕ). byte (kind_code (kind_of v.body)) ++ t) (append_assoc (spelled_times v.times) (spelled_body v.body) rest)) in
    ap (message_at (hands_over v.body)) regrouped ∙ rw (
      uid_again v.id r1 fits.id,
      kind_again (hands_over v.body) (kind_of v.body) r2 (handing_is_third v.body),
      times_again v.times r3 fits.times,
      body_again v.body rest fits.body,
    ) refl
