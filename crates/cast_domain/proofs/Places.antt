-- Where a group stands among the records, and what is kept there.
use Rattle.std.proofs.Common.{◌≡◌, ℕ, ◌+◌, suc, Bool, true, false, not, cond, List, []}
use Rattle.std.proofs.Common.{◌∷◌, length, Option, Some, None, refl, ap, ◌∙◌, arith}
use Rattle.std.specs.Prelude.{nat_lt, if◌then◌else◌}
use Rattle.std.proofs.lemmas.Bool.Decides.{nat_tests}
use Rattle.std.specs.Option.{option_map}
use Rattle.std.specs.List.{position, position_or_len}
use Rattle.cast_types.specs.declared.names.GroupNo.{GroupNo}
use Rattle.cast_types.specs.Names.{group_eq}
use Rattle.cast_domain.specs.declared.record.GroupRecord.{GroupRecord}
use Rattle.cast_domain.specs.PartCalls.{place_among}

abbrev is_named : GroupNo → GroupRecord → Bool
is_named g x = group_eq x.name g

-- the first place at which a record bears the name
pub place_is_position : (g : GroupNo) (xs : List GroupRecord) → position (is_named g) xs ≡ place_among g xs
place_is_position g [] = refl
place_is_position g (x ∷ xs) =
    elim (is_named g x) as (λ b. at_first b ≡ (if b then Some 0 else option_map (λ i. i + 1) (place_among g xs))) [
      | true ↦ first (length xs)
      | false ↦ shifted (position_or_len (is_named g) xs) (length xs) ∙ ap (option_map (λ i. i + 1)) (place_is_position g xs)
    ]
  where
    len_at : Bool → ℕ
    len_at b = cond (not b) (1 + position_or_len (is_named g) xs) 0

    at_first : Bool → Option ℕ
    at_first b = cond (nat_lt (len_at b) (suc (length xs))) (Some (len_at b)) None

    first : (len : ℕ) → cond {A = Option ℕ} (nat_lt 0 (suc len)) (Some 0) None ≡ Some 0
    first len =
        let is : nat_lt 0 (suc len) ≡ true = grind (arith, nat_tests) in
        ap (λ b. cond {A = Option ℕ} b (Some 0) None) is

    one_more : (n : ℕ) (b : Bool) → cond b (Some (1 + n)) None ≡ option_map (λ i. i + 1) (cond b (Some n) None)
    one_more n true = let same : 1 + n ≡ n + 1 = omega arith in ap Some same
    one_more n false = refl

    shifted : (n len : ℕ) →
        cond (nat_lt (1 + n) (suc len)) (Some (1 + n)) None ≡ option_map (λ i. i + 1) (cond (nat_lt n len) (Some n) None)
    shifted n len =
        let same : nat_lt (1 + n) (suc len) ≡ nat_lt n len = grind (arith, nat_tests) in
        ap (λ b. cond b (Some (1 + n)) None) same ∙ one_more n (nat_lt n len)
