-- Members and their holder are read as they were spelled.
use Rattle.std.proofs.Common.{◌≡◌, ℕ, zero, suc, ◌+◌, ◌-◌, ◌≤◌, ◌<◌, Bool, true, false, cond, ◌&&◌, eqb, ◌⊎◌, List, [], ◌∷◌, ◌++◌}
use Rattle.std.proofs.Common.{length, get_or, Option, Some, None, Ok, refl, sym, ap, subst, ◌∙◌, append_assoc, arith, inl, inr}
use Rattle.std.specs.Prelude.{nat_le, slice_get}
use Rattle.std.proofs.lemmas.Option.{slice_get-get_or}
use Rattle.std.specs.List.{flat_map, list_all, list_any, position_or_len}
use Rattle.std.specs.Ordering.{is_lt}
use Rattle.std.proofs.lemmas.Cmp.{tied_itself}
use Rattle.std.proofs.lemmas.Bool.{and_parts, and_from, cases_Bool, false_from_ne_true, false≢true, le-leb, leb-true, eqb-true, eq-eqb}
use Rattle.cast_types.specs.declared.names.Proc.{Proc}
use Rattle.cast_types.specs.Names.{proc_cmp, proc_eq}
use Rattle.cast_types.proofs.Orders.{proc_total, same_proc, proc_itself}
use Rattle.cast_types.specs.Rising.{is_rising}
use Rattle.cast_message.specs.Membership.{Membership, is_held, is_members}
use Rattle.cast_field.specs.Spelling.{byte, spelled_proc, spelled_holder, spelled_members}
use Rattle.cast_field.specs.Reading.{◌>>=◌, byte_at, many, proc_above, some_proc, holder_at, members_at}
use Rattle.cast_field.specs.Spelled.{IsFrom, IsProc, AreMembers}
use Rattle.cast_field.proofs.Fields.{IsBytes, bind_ok, ok_is, Took, joined, Takes, Again, byte_takes, byte_again}
use Rattle.cast_field.proofs.Lists.{AllFrom, many_takes, many_again, Placed, rising_from, placed_from}
use Rattle.cast_field.proofs.Parts.{proc_above_takes, proc_above_again}

nobody : Proc
nobody = record { site = record { 0 = 0 }; serial = 0 }

-- a test that passes, or not
pub chosen : {A : Type 0} (b : Bool) (x y z : A) → cond b x y ≡ z → ((b ≡ true) × (x ≡ z)) ⊎ ((b ≡ false) × (y ≡ z))
chosen true x y z e = inl (refl, e)
chosen false x y z e = inr (refl, e)

-- ---- the holder by its place

below_other : (p q : Proc) → is_lt (proc_cmp q p) ≡ true → proc_eq p q ≡ false
below_other p q h =
    false_from_ne_true (proc_eq p q)
    (λ e. false≢true (sym (ap is_lt (tied_itself proc_total q)) ∙ ap (λ (r : Proc). is_lt (proc_cmp q r)) (sym (same_proc p q e)) ∙ h))

all_at : (f : Proc → Bool) (ps : List Proc) (i : ℕ) (p : Proc) → list_all f ps ≡ true → slice_get ps i ≡ Some p → f p ≡ true
all_at f [] i p h e = absurd cc
all_at f (q ∷ qs) zero p h e = let same : q ≡ p = cc in rw (← same) ((and_parts (f q) (list_all f qs) h).0)
all_at f (q ∷ qs) (suc i) p h e = all_at f qs i p ((and_parts (f q) (list_all f qs) h).1) e

place_is : (ps : List Proc) (i : ℕ) (p : Proc) → is_rising proc_cmp ps ≡ true → slice_get ps i ≡ Some p →
    (position_or_len (proc_eq p) ps ≡ i) × (list_any (proc_eq p) ps ≡ true)
place_is [] i p h e = absurd cc
place_is (q ∷ qs) zero p h e =
    let same : q ≡ p = cc in
    let itself : proc_eq p q ≡ true = subst (λ (r : Proc). proc_eq p r ≡ true) (sym same) (proc_itself p) in
    (rw itself refl, rw itself refl)
place_is (q ∷ qs) (suc i) p h e =
    let parts = and_parts (list_all (λ y. is_lt (proc_cmp q y)) qs) (is_rising proc_cmp qs) h in
    let rest = place_is qs i p parts.1 e in
    let other : proc_eq p q ≡ false = below_other p q (all_at (λ y. is_lt (proc_cmp q y)) qs i p parts.0 e) in
    (rw (other, rest.0) (omega arith), rw (other, rest.1) refl)

found_at : (ps : List Proc) (p : Proc) → list_any (proc_eq p) ps ≡ true →
    (position_or_len (proc_eq p) ps < length ps) × (slice_get ps (position_or_len (proc_eq p) ps) ≡ Some p)
found_at [] p h = absurd (false≢true h)
found_at (q ∷ qs) p h =
    elim (cases_Bool (proc_eq p q)) [
      | inl same ↦ rw same (omega arith, ap Some (sym (same_proc p q same)))
      | inr other ↦
          let rest = found_at qs p (rw other at h) in
          let one : 1 + position_or_len (proc_eq p) qs ≡ suc (position_or_len (proc_eq p) qs) = omega arith in
          rw (other, one) (omega (arith, rest.0), rest.1)
    ]

holder_takes : (ps : List Proc) → is_rising proc_cmp ps ≡ true →
    Takes (holder_at ps) (spelled_holder ps) (λ (h : Option Proc). is_held ps h ≡ true)
unfolding holder_at spelled_holder
holder_takes ps rising bytes x fits e =
    elim (chosen (eqb (length ps) 0) (Ok (None, bytes))
    (byte_at 0 (length ps - 1) bytes >>= λ place. Ok (slice_get ps place.0, place.1)) (Ok x) e) [
      | inl empty ↦
          let made : Option Proc × List ℕ = (None, bytes) in
          subst (λ (y : Option Proc × List ℕ). Took bytes (spelled_holder ps y.0) y.1 (is_held ps y.0 ≡ true)) (ok_is made x empty.1)
          (record { parts = refl; rest_fits = fits; holds = empty.0 })
      | inr some ↦
          let a = bind_ok (byte_at 0 (length ps - 1) bytes) (λ place. Ok (slice_get ps place.0, place.1)) x some.1 in
          let t = byte_takes 0 (length ps - 1) bytes a.0 fits a.1 in
          let full : length ps ≡ 0 → ⊥ = λ z. false≢true (sym some.0 ∙ eq-eqb (length ps) 0 z) in
          let lt : a.0.0 < length ps = omega (arith, t.holds.below, full) in
          let p = get_or ps a.0.0 nobody in
          let there : slice_get ps a.0.0 ≡ Some p = slice_get-get_or ps a.0.0 nobody lt in
          let place = place_is ps a.0.0 p rising there in
          let made : Option Proc × List ℕ = (Some p, a.0.1) in
          let same : made ≡ x = ap (λ (o : Option Proc). (o, a.0.1)) (sym there) ∙ ok_is (slice_get ps a.0.0, a.0.1) x a.2 in
          subst (λ (y : Option Proc × List ℕ). Took bytes (spelled_holder ps y.0) y.1 (is_held ps y.0 ≡ true)) same
          (record { parts = t.parts ∙ ap (λ (n : ℕ). byte n ++ a.0.1) (sym place.0); rest_fits = t.rest_fits; holds = place.1 })
    ]

holder_again : (ps : List Proc) → Again (holder_at ps) (spelled_holder ps) (λ (h : Option Proc). is_held ps h ≡ true)
unfolding holder_at spelled_holder
holder_again ps None rest held = rw held refl
holder_again ps (Some p) rest held =
    let found = found_at ps p held in
    let full : eqb (length ps) 0 ≡ false =
    false_from_ne_true (eqb (length ps) 0) (λ z. absurd (omega (arith, found.0, eqb-true (length ps) 0 z))) in
    let size : IsFrom 0 (length ps - 1) (position_or_len (proc_eq p) ps) = record { above = omega arith; below = omega (arith, found.0) } in
    rw (full, byte_again 0 (length ps - 1) (position_or_len (proc_eq p) ps) rest size, found.1) refl

members_from : (m : Membership) → is_rising proc_cmp m.list ≡ true → length m.list ≤ 64 → is_held m.list m.holder ≡ true →
    is_members m ≡ true
members_from m rising few held =
    and_from (is_rising proc_cmp m.list) (nat_le (length m.list) 64 && is_held m.list m.holder) rising
    (and_from (nat_le (length m.list) 64) (is_held m.list m.holder) (le-leb (length m.list) 64 few) held)

pub members_parts : (m : Membership) → is_members m ≡ true →
    (is_rising proc_cmp m.list ≡ true) × (length m.list ≤ 64) × (is_held m.list m.holder ≡ true)
members_parts m h =
    let first = and_parts (is_rising proc_cmp m.list) (nat_le (length m.list) 64 && is_held m.list m.holder) h in
    let second = and_parts (nat_le (length m.list) 64) (is_held m.list m.holder) first.1 in
    (first.0, leb-true (length m.list) 64 second.0, second.1)

pub procs_take : (n : ℕ) (bytes : List ℕ) (x : List Proc × List ℕ) → IsBytes bytes → many proc_above some_proc n None bytes ≡ Ok x →
    Took bytes (flat_map spelled_proc x.0) x.1 ((length x.0 ≡ n) × AllFrom (Placed proc_cmp IsProc) some_proc None x.0)
procs_take n bytes x fits e = many_takes proc_above some_proc spelled_proc (Placed proc_cmp IsProc) proc_above_takes n None bytes x fits e

pub members_take : Takes members_at spelled_members AreMembers
unfolding members_at spelled_members
members_take bytes x fits e =
    let a1 =
    bind_ok (byte_at 0 64 bytes) (λ n. many proc_above some_proc n.0 None n.1
    >>= λ list. holder_at list.0 list.1 >>= λ holder. Ok (record { list = list.0; holder = holder.0 }, holder.1)) x e in
    let a2 =
    bind_ok (many proc_above some_proc a1.0.0 None a1.0.1)
    (λ list. holder_at list.0 list.1 >>= λ holder. Ok (record { list = list.0; holder = holder.0 }, holder.1)) x a1.2 in
    let a3 = bind_ok (holder_at a2.0.0 a2.0.1) (λ holder. Ok (record { list = a2.0.0; holder = holder.0 }, holder.1)) x a2.2 in
    let t1 = byte_takes 0 64 bytes a1.0 fits a1.1 in
    let t2 = procs_take a1.0.0 a1.0.1 a2.0 t1.rest_fits a2.1 in
    let known = rising_from proc_cmp proc_total IsProc None a2.0.0 t2.holds.1 in
    let t3 = holder_takes a2.0.0 known.0 a2.0.1 a3.0 t2.rest_fits a3.1 in
    let j2 = joined a1.0.1 (flat_map spelled_proc a2.0.0) a2.0.1 (spelled_holder a2.0.0 a3.0.0) a3.0.1 t2.parts t3.parts in
    let j1 = joined bytes (byte a1.0.0) a1.0.1 (flat_map spelled_proc a2.0.0 ++ spelled_holder a2.0.0 a3.0.0) a3.0.1 t1.parts j2 in
    let whole =
    j1 ∙ ap (λ (n : ℕ). (byte n ++ (flat_map spelled_proc a2.0.0 ++ spelled_holder a2.0.0 a3.0.0)) ++ a3.0.1) (sym t2.holds.0) in
    let few : length a2.0.0 ≤ 64 = omega (arith, t1.holds.below, t2.holds.0) in
    let made : Membership × List ℕ = (record { list = a2.0.0; holder = a3.0.0 }, a3.0.1) in
    subst (λ (y : Membership × List ℕ). Took bytes (spelled_members y.0) y.1 (AreMembers y.0)) (ok_is made x a3.2)
    (record {
      parts = whole;
      rest_fits = t3.rest_fits;
      holds = record { sorted = members_from (record { list = a2.0.0; holder = a3.0.0 }) known.0 few t3.holds; procs = known.2 };
    })

pub members_again : Again members_at spelled_members AreMembers
unfolding members_at spelled_members
members_again v rest fits =
    let known = members_parts v fits.sorted in
    let regrouped : (byte (length v.list) ++ (flat_map spelled_proc v.list ++ spelled_holder v.list v.holder)) ++ rest
    ≡ byte (length v.list) ++ (flat_map spelled_proc v.list ++ (spelled_holder v.list v.holder ++ rest)) =
    append_assoc (byte (length v.list)) (flat_map spelled_proc v.list ++ spelled_holder v.list v.holder) rest
    ∙ ap (λ (t : List ℕ). byte (length v.list) ++ t) (append_assoc (flat_map spelled_proc v.list) (spelled_holder v.list v.holder) rest) in
    let size : IsFrom 0 64 (length v.list) = record { above = omega arith; below = known.1 } in
    let list =
    many_again proc_above some_proc spelled_proc (Placed proc_cmp IsProc) proc_above_again v.list None
    (spelled_holder v.list v.holder ++ rest) (placed_from proc_cmp proc_total IsProc None v.list known.0 tt fits.procs) in
    ap members_at regrouped ∙ rw (
      byte_again 0 64 (length v.list) (flat_map spelled_proc v.list ++ (spelled_holder v.list v.holder ++ rest)) size,
      list,
      holder_again v.list v.holder rest known.2,
    ) refl
