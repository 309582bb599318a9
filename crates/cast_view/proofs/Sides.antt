-- What holds of a group at a site at all times goes on to hold.
use Rattle.std.proofs.Common.{◌≡◌, ℕ, ◌+◌, ◌<◌, IfSome, true, false, not, ◌&&◌, List, []}
use Rattle.std.proofs.Common.{◌∷◌, ◌++◌, length, drop, Option, Some, None, refl, arith}
use Rattle.std.specs.Prelude.{◌||◌, ◌==◌, nat_lt}
use Rattle.std.proofs.lemmas.Bool.Decides.{nat_tests}
use Rattle.std.proofs.lemmas.List.{length-append}
use Rattle.std.proofs.lemmas.Bool.{and_parts, and_from, eqb-true, eq-eqb, ltb-true}
use Rattle.cast_types.specs.declared.limits.TheConstants.{MAX_NUMBER}
use Rattle.cast_types.specs.declared.names.Proc.{Proc}
use Rattle.cast_message.specs.declared.site.Change.{Change}
use Rattle.cast_message.specs.Membership.{Membership}
use Rattle.cast_view.specs.declared.member.PendingRequest.{PendingRequest}
use Rattle.cast_view.specs.MemberSide.{MemberSide, only_view_is_frozen, only_frozen_waits}
use Rattle.cast_view.specs.MemberSide.{are_numbered_to, is_sound, with_request, with_answer, with_end}

-- what holds of a group, one by one
pub sound_parts : (g : MemberSide) → is_sound g ≡ true →
    (only_view_is_frozen g ≡ true) × (only_frozen_waits g ≡ true) × (are_numbered_to g.asked g.requests ≡ true)
sound_parts g sound =
    let first = and_parts (only_view_is_frozen g) (only_frozen_waits g && are_numbered_to g.asked g.requests) sound in
    let rest = and_parts (only_frozen_waits g) (are_numbered_to g.asked g.requests) first.1 in
    (first.0, rest.0, rest.1)

pub sound_from : (g : MemberSide) → only_view_is_frozen g ≡ true → only_frozen_waits g ≡ true → are_numbered_to g.asked g.requests ≡ true →
    is_sound g ≡ true
sound_from g frozen waits numbered =
    and_from (only_view_is_frozen g) (only_frozen_waits g && are_numbered_to g.asked g.requests) frozen
    (and_from (only_frozen_waits g) (are_numbered_to g.asked g.requests) waits numbered)

-- one more request has the next number
numbered_more : (last : ℕ) (what : Change) (p : Proc) (asks : List PendingRequest) → are_numbered_to last asks ≡ true →
    are_numbered_to (last + 1) (asks ++ record { number = last + 1; change = what; proc = p } ∷ []) ≡ true
numbered_more last what p [] numbered = grind (arith, nat_tests)
numbered_more last what p (a ∷ rest) numbered =
    let one : PendingRequest = record { number = last + 1; change = what; proc = p } in
    let more : List PendingRequest = rest ++ one ∷ [] in
    let first = and_parts (nat_lt 0 a.number) ((a.number + length rest == last) && are_numbered_to last rest) numbered in
    let second = and_parts (a.number + length rest == last) (are_numbered_to last rest) first.1 in
    let here : a.number + length more ≡ last + 1 =
    omega (arith, length-append rest (one ∷ []), eqb-true (a.number + length rest) last second.0) in
    and_from (nat_lt 0 a.number) ((a.number + length more == last + 1) && are_numbered_to (last + 1) more) first.0
    (and_from (a.number + length more == last + 1) (are_numbered_to (last + 1) more) (eq-eqb (a.number + length more) (last + 1) here)
    (numbered_more last what p rest second.1))

-- and the numbers of the others stay when the first one is answered
numbered_rest : (last : ℕ) (asks : List PendingRequest) → are_numbered_to last asks ≡ true → are_numbered_to last (drop 1 asks) ≡ true
numbered_rest last [] numbered = refl
numbered_rest last (a ∷ rest) numbered =
    let first = and_parts (nat_lt 0 a.number) ((a.number + length rest == last) && are_numbered_to last rest) numbered in
    (and_parts (a.number + length rest == last) (are_numbered_to last rest) first.1).1

pub sound_with_request : (g : MemberSide) (what : Change) (p : Proc) → is_sound g ≡ true → is_sound (with_request g what p) ≡ true
sound_with_request g what p sound =
    let parts = sound_parts g sound in
    sound_from (with_request g what p) parts.0 parts.1 (numbered_more g.asked what p g.requests parts.2)

pub sound_with_answer : (g : MemberSide) → is_sound g ≡ true → is_sound (with_answer g) ≡ true
sound_with_answer g sound =
    let parts = sound_parts g sound in
    sound_from (with_answer g) parts.0 parts.1 (numbered_rest g.asked g.requests parts.2)

-- once a view has ended nothing is frozen and none waits
pub sound_with_end : (g : MemberSide) (n : ℕ) (view : Option Membership) → is_sound g ≡ true → is_sound (with_end g n view) ≡ true
sound_with_end g n view sound = (sound_parts g sound).2

-- an Install that waits is the next one, of a frozen group
module _ (g : MemberSide) (sound : is_sound g ≡ true) where
  pub pending_next : IfSome g.pending (λ _. g.number < MAX_NUMBER)
  pending_next =
      elim g.pending as (λ o. (not (elim o [ Some p ↦ true | None ↦ false ]) || (g.frozen && nat_lt g.number MAX_NUMBER)) ≡ true →
      IfSome o (λ _. g.number < MAX_NUMBER)) [
        | Some p ↦ λ waits. ltb-true g.number MAX_NUMBER (and_parts g.frozen (nat_lt g.number MAX_NUMBER) waits).1
        | None ↦ λ _. tt
      ] (sound_parts g sound).1

  pub pending_frozen : IfSome g.pending (λ _. g.frozen ≡ true)
  pending_frozen =
      elim g.pending as (λ o. (not (elim o [ Some p ↦ true | None ↦ false ]) || (g.frozen && nat_lt g.number MAX_NUMBER)) ≡ true →
      IfSome o (λ _. g.frozen ≡ true)) [
        | Some p ↦ λ waits. (and_parts g.frozen (nat_lt g.number MAX_NUMBER) waits).0
        | None ↦ λ _. tt
      ] (sound_parts g sound).1
