-- Domains in order of number.
use Rattle.std.proofs.Common.{◌≡◌, ℕ, suc, ◌+◌, Bool, true, false, cond, not, ◌&&◌, ◌||◌, List, [], ◌∷◌, ◌++◌, length}
use Rattle.std.proofs.Common.{Some, unwrap_or, nat_le, nat_lt, insert, refl, sym, ap, subst, ◌∙◌, inl, inr, arith}
use Rattle.std.specs.List.{AllZip, position_from}
use Rattle.std.proofs.lemmas.Bool.{cases_Bool, and_parts, and_from, or_from, or_parts, not-true, not_from_false}
use Rattle.std.proofs.lemmas.Bool.{ltb-true, ltb-false, le-ltb, leb-true, leb-false, le-leb, lt-leb}
use Rattle.cast_types.specs.declared.names.DomainNo.{DomainNo}
use Rattle.cast_types.specs.Names.{group_cmp}
use Rattle.cast_types.specs.Rising.{is_rising}
use Rattle.cast_events.specs.declared.config.DomainConfig.{DomainConfig}
use Rattle.cast_domain.specs.declared.domain.Domain.{Domain}
use Rattle.cast_domain.specs.Records.{number_of}
use Rattle.cast_table.specs.Tables.{domain_eq, put_in, by_number, place_for}
use Rattle.cast_table.specs.Owns.{is_configured, are_distinct, have_rising_groups}
use Rattle.cast_table.proofs.Parts.{domain_flipped}

pub or_swap : (a b c : Bool) → (a || (b || c)) ≡ (b || (a || c))
or_swap true true c = refl
or_swap true false c = refl
or_swap false b c = refl

and_swap : (a b c : Bool) → (a && (b && c)) ≡ (b && (a && c))
and_swap true b c = refl
and_swap false true c = refl
and_swap false false c = refl

-- What holds of configurations holds of them in order

configured_in : (d : DomainNo) (c : DomainConfig) (xs : List DomainConfig) → is_configured d (put_in c xs) ≡ is_configured d (c ∷ xs)
configured_in d c [] = refl
configured_in d c (x ∷ xs) =
    elim (nat_le c.domain.0 x.domain.0) as (λ b. is_configured d (cond b (c ∷ x ∷ xs) (x ∷ put_in c xs)) ≡ is_configured d (c ∷ x ∷ xs)) [
      | true ↦ refl
      | false ↦
          ap (λ rest. domain_eq x.domain d || rest) (configured_in d c xs)
          ∙ or_swap (domain_eq x.domain d) (domain_eq c.domain d) (is_configured d xs)
    ]

pub configured_same : (d : DomainNo) (cs : List DomainConfig) → is_configured d (by_number cs) ≡ is_configured d cs
configured_same d [] = refl
configured_same d (c ∷ cs) =
    configured_in d c (by_number cs) ∙ ap (λ rest. domain_eq c.domain d || rest) (configured_same d cs)

distinct_in : (c : DomainConfig) (xs : List DomainConfig) → is_configured c.domain xs ≡ false → are_distinct xs ≡ true →
    are_distinct (put_in c xs) ≡ true
distinct_in c [] apart distinct = refl
distinct_in c (x ∷ xs) apart distinct =
    let parts = and_parts (not (is_configured x.domain xs)) (are_distinct xs) distinct in
    let aparts = or_parts (domain_eq x.domain c.domain) (is_configured c.domain xs) apart in
    let later : is_configured x.domain (put_in c xs) ≡ false =
    configured_in x.domain c xs
    ∙ or_from (domain_eq c.domain x.domain) (is_configured x.domain xs) (domain_flipped x.domain c.domain aparts.0)
    (not-true (is_configured x.domain xs) parts.0) in
    elim (nat_le c.domain.0 x.domain.0) as (λ b. are_distinct (cond b (c ∷ x ∷ xs) (x ∷ put_in c xs)) ≡ true) [
      | true ↦
          and_from (not (is_configured c.domain (x ∷ xs))) (are_distinct (x ∷ xs))
          (not_from_false (is_configured c.domain (x ∷ xs)) apart) distinct
      | false ↦
          and_from (not (is_configured x.domain (put_in c xs))) (are_distinct (put_in c xs))
          (not_from_false (is_configured x.domain (put_in c xs)) later) (distinct_in c xs aparts.1 parts.1)
    ]

pub distinct_by_number : (cs : List DomainConfig) → are_distinct cs ≡ true → are_distinct (by_number cs) ≡ true
distinct_by_number [] distinct = refl
distinct_by_number (c ∷ cs) distinct =
    let parts = and_parts (not (is_configured c.domain cs)) (are_distinct cs) distinct in
    distinct_in c (by_number cs) (configured_same c.domain cs ∙ not-true (is_configured c.domain cs) parts.0)
    (distinct_by_number cs parts.1)

rising_in : (c : DomainConfig) (xs : List DomainConfig) → have_rising_groups (put_in c xs) ≡ have_rising_groups (c ∷ xs)
rising_in c [] = refl
rising_in c (x ∷ xs) =
    elim (nat_le c.domain.0 x.domain.0)
    as (λ b. have_rising_groups (cond b (c ∷ x ∷ xs) (x ∷ put_in c xs)) ≡ have_rising_groups (c ∷ x ∷ xs)) [
      | true ↦ refl
      | false ↦
          ap (λ rest. is_rising group_cmp x.groups && rest) (rising_in c xs)
          ∙ and_swap (is_rising group_cmp x.groups) (is_rising group_cmp c.groups) (have_rising_groups xs)
    ]

pub rising_by_number : (cs : List DomainConfig) → have_rising_groups (by_number cs) ≡ have_rising_groups cs
rising_by_number [] = refl
rising_by_number (c ∷ cs) = rising_in c (by_number cs) ∙ ap (λ rest. is_rising group_cmp c.groups && rest) (rising_by_number cs)

-- Each domain is put in behind those that stand before it in the configuration

-- before the first whose number is above
abbrev pub put_behind_equal : DomainConfig → List DomainConfig → List DomainConfig
put_behind_equal c [] = c ∷ []
put_behind_equal c (x ∷ xs) = cond (nat_lt c.domain.0 x.domain.0) (c ∷ x ∷ xs) (x ∷ put_behind_equal c xs)

-- the same where the tests are known
put_at : (c x : DomainConfig) (xs : List DomainConfig) (b : Bool) → nat_le c.domain.0 x.domain.0 ≡ b →
    put_in c (x ∷ xs) ≡ cond b (c ∷ x ∷ xs) (x ∷ put_in c xs)
put_at c x xs b is = ap (λ t. cond t (c ∷ x ∷ xs) (x ∷ put_in c xs)) is

behind_at : (c x : DomainConfig) (xs : List DomainConfig) (b : Bool) → nat_lt c.domain.0 x.domain.0 ≡ b →
    put_behind_equal c (x ∷ xs) ≡ cond b (c ∷ x ∷ xs) (x ∷ put_behind_equal c xs)
behind_at c x xs b is = ap (λ t. cond t (c ∷ x ∷ xs) (x ∷ put_behind_equal c xs)) is

-- two of them, whose tests agree
two_alike : (c x : DomainConfig) (xs : List DomainConfig) →
    cond (nat_lt c.domain.0 x.domain.0) (c ∷ x ∷ xs) (x ∷ c ∷ xs) ≡ cond (nat_le x.domain.0 c.domain.0) (x ∷ c ∷ xs) (c ∷ x ∷ xs)
two_alike c x xs =
    elim (cases_Bool (nat_lt c.domain.0 x.domain.0)) [
      | inl below ↦
          let lt = ltb-true c.domain.0 x.domain.0 below in
          ap (λ t. cond t (c ∷ x ∷ xs) (x ∷ c ∷ xs)) below
          ∙ sym (ap (λ t. cond t (x ∷ c ∷ xs) (c ∷ x ∷ xs)) (lt-leb x.domain.0 c.domain.0 lt))
      | inr above ↦
          let le = ltb-false c.domain.0 x.domain.0 above in
          ap (λ t. cond t (c ∷ x ∷ xs) (x ∷ c ∷ xs)) above
          ∙ sym (ap (λ t. cond t (x ∷ c ∷ xs) (c ∷ x ∷ xs)) (le-leb x.domain.0 c.domain.0 le))
    ]

-- it is the same which of two is put in first, where each keeps its side of its equals
put_commutes : (c x : DomainConfig) (xs : List DomainConfig) → put_behind_equal c (put_in x xs) ≡ put_in x (put_behind_equal c xs)
put_commutes c x [] = two_alike c x []
put_commutes c x (y ∷ xs) =
    elim (cases_Bool (nat_le x.domain.0 y.domain.0)) [
      | inl first ↦
          let xy = leb-true x.domain.0 y.domain.0 first in
          elim (cases_Bool (nat_lt c.domain.0 y.domain.0)) [
            | inl before ↦
                ap (put_behind_equal c) (put_at x y xs true first)
                ∙ ap (λ rest. cond (nat_lt c.domain.0 x.domain.0) (c ∷ x ∷ y ∷ xs) (x ∷ rest)) (behind_at c y xs true before)
                ∙ two_alike c x (y ∷ xs)
                ∙ sym (ap (λ rest. cond (nat_le x.domain.0 c.domain.0) (x ∷ c ∷ y ∷ xs) (c ∷ rest)) (put_at x y xs true first))
                ∙ sym (ap (put_in x) (behind_at c y xs true before))
            | inr behind ↦
                let yc = ltb-false c.domain.0 y.domain.0 behind in
                ap (put_behind_equal c) (put_at x y xs true first)
                ∙ behind_at c x (y ∷ xs) false (le-ltb c.domain.0 x.domain.0 (omega (arith, xy, yc)))
                ∙ ap (λ rest. x ∷ rest) (behind_at c y xs false behind)
                ∙ sym (put_at x y (put_behind_equal c xs) true first)
                ∙ sym (ap (put_in x) (behind_at c y xs false behind))
          ]
      | inr last ↦
          let yx = leb-false x.domain.0 y.domain.0 last in
          elim (cases_Bool (nat_lt c.domain.0 y.domain.0)) [
            | inl before ↦
                let cy = ltb-true c.domain.0 y.domain.0 before in
                ap (put_behind_equal c) (put_at x y xs false last)
                ∙ behind_at c y (put_in x xs) true before
                ∙ sym (ap (λ rest. c ∷ rest) (put_at x y xs false last))
                ∙ sym (put_at x c (y ∷ xs) false (lt-leb x.domain.0 c.domain.0 (omega (arith, yx, cy))))
                ∙ sym (ap (put_in x) (behind_at c y xs true before))
            | inr behind ↦
                ap (put_behind_equal c) (put_at x y xs false last)
                ∙ behind_at c y (put_in x xs) false behind
                ∙ ap (λ rest. y ∷ rest) (put_commutes c x xs)
                ∙ sym (put_at x y (put_behind_equal c xs) false last)
                ∙ sym (ap (put_in x) (behind_at c y xs false behind))
          ]
    ]

by_number_more : (cs : List DomainConfig) (c : DomainConfig) → by_number (cs ++ c ∷ []) ≡ put_behind_equal c (by_number cs)
by_number_more [] c = refl
by_number_more (x ∷ cs) c = ap (put_in x) (by_number_more cs c) ∙ sym (put_commutes c x (by_number cs))

-- where a domain is put in, counted from its front
abbrev place_from : DomainNo → List Domain → ℕ
place_from n [] = 0
place_from n (d ∷ ds) = cond (nat_lt n.0 (number_of d).0) 0 (suc (place_from n ds))

counted_from : (n : DomainNo) (i : ℕ) (ds : List Domain) →
    unwrap_or (position_from (λ d. nat_lt n.0 (number_of d).0) i ds) (i + length ds) ≡ i + place_from n ds
counted_from n i [] = refl
counted_from n i (d ∷ ds) =
    elim (cases_Bool (nat_lt n.0 (number_of d).0)) [
      | inl above ↦
          let none : i ≡ i + 0 = omega arith in
          ap (λ t. unwrap_or (cond t (Some i) (position_from (λ e. nat_lt n.0 (number_of e).0) (i + 1) ds)) (i + suc (length ds))) above
          ∙ none
          ∙ sym (ap (λ t. i + cond t 0 (suc (place_from n ds))) above)
      | inr below ↦
          let all : i + suc (length ds) ≡ i + 1 + length ds = omega arith in
          let some : i + 1 + place_from n ds ≡ i + suc (place_from n ds) = omega arith in
          ap (λ t. unwrap_or (cond t (Some i) (position_from (λ e. nat_lt n.0 (number_of e).0) (i + 1) ds)) (i + suc (length ds))) below
          ∙ ap (unwrap_or (position_from (λ e. nat_lt n.0 (number_of e).0) (i + 1) ds)) all
          ∙ counted_from n (i + 1) ds
          ∙ some
          ∙ sym (ap (λ t. i + cond t 0 (suc (place_from n ds))) below)
    ]

place_for_is : (n : DomainNo) (ds : List Domain) → place_for n ds ≡ place_from n ds
place_for_is n ds =
    let all : length ds ≡ 0 + length ds = omega arith in
    let some : 0 + place_from n ds ≡ place_from n ds = omega arith in
    ap (unwrap_or (position_from (λ d. nat_lt n.0 (number_of d).0) 0 ds)) all ∙ counted_from n 0 ds ∙ some

module _ (R : DomainConfig → Domain → Type 0) (number : (c : DomainConfig) (d : Domain) → R c d → number_of d ≡ c.domain) (c : DomainConfig)
    (d : Domain) (its : R c d) where
  put_counted : (xs : List DomainConfig) (ds : List Domain) → AllZip R xs ds →
      AllZip R (put_behind_equal c xs) (insert ds (place_from c.domain ds) d)
  put_counted [] [] given = (its, tt)
  put_counted [] (e ∷ ds) given = absurd given
  put_counted (x ∷ xs) [] given = absurd given
  put_counted (x ∷ xs) (e ∷ ds) given =
      let test : nat_lt c.domain.0 (number_of e).0 ≡ nat_lt c.domain.0 x.domain.0 =
      ap (λ (n : DomainNo). nat_lt c.domain.0 n.0) (number x e given.0) in
      subst (λ t. AllZip R (put_behind_equal c (x ∷ xs)) (insert (e ∷ ds) (cond t 0 (suc (place_from c.domain ds))) d)) (sym test)
      (elim (nat_lt c.domain.0 x.domain.0)
      as (λ t. AllZip R (cond t (c ∷ x ∷ xs) (x ∷ put_behind_equal c xs)) (insert (e ∷ ds) (cond t 0 (suc (place_from c.domain ds))) d)) [
        | true ↦ (its, given)
        | false ↦ (given.0, put_counted xs ds given.1)
      ])

  -- one more domain
  pub put_more : (cs : List DomainConfig) (ds : List Domain) → AllZip R (by_number cs) ds →
      AllZip R (by_number (cs ++ c ∷ [])) (insert ds (place_for c.domain ds) d)
  put_more cs ds given =
      subst (λ xs. AllZip R xs (insert ds (place_for c.domain ds) d)) (sym (by_number_more cs c))
      (subst (λ k. AllZip R (put_behind_equal c (by_number cs)) (insert ds k d)) (sym (place_for_is c.domain ds))
      (put_counted (by_number cs) ds given))
