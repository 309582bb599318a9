-- The number of stable messages is the greatest one, and there is one such number.
use Rattle.std.proofs.Common.{◌≡◌, ℕ, zero, suc, ◌+◌, ◌<◌, ◌≤◌, ◌⊎◌, Bool, true, false, ◌&&◌, ◌||◌}
use Rattle.std.proofs.Common.{List, [], ◌∷◌, Contains, refl, sym, ap, subst, ◌∙◌, inl, inr, arith}
use Rattle.std.specs.Prelude.{if◌then◌else◌, ◌≢◌}
use Rattle.std.specs.List.{list_all}
use Rattle.std.proofs.Math.Nat.{le-max_left, le-max_right}
use Rattle.std.proofs.lemmas.Bool.{and_parts, cases_lt, cases_eq, false≢true, false_from_ne_true}
use Rattle.cast_types.specs.declared.names.SiteNo.{SiteNo}
use Rattle.cast_types.specs.declared.names.GroupNo.{GroupNo}
use Rattle.cast_types.specs.declared.names.Proc.{Proc}
use Rattle.cast_types.specs.declared.names.Uid.{Uid}
use Rattle.cast_types.specs.Names.{site_eq, uid_eq, uid_in}
use Rattle.cast_types.proofs.Orders.{same_uid}
use Rattle.cast_stable.specs.Stable.{Acked, has_acked, greatest_acked, acked_from, stable_upto, IsStableUpto}
use Rattle.cast_stable.proofs.Lists.{each_passes, some_fails}
use Rattle.cast_types.proofs.Contains.{contains_here}

-- a count above the greatest was never acknowledged
none_beyond : (acks : List Acked) (u : Uid) (s : SiteNo) → greatest_acked acks < u.count → has_acked acks u s ≡ false
none_beyond [] u s beyond = refl
none_beyond (a ∷ acks) u s beyond =
    let here : (site_eq a.0 s && uid_eq a.1 u) ≡ false =
    false_from_ne_true (site_eq a.0 s && uid_eq a.1 u) (λ e.
    let same = ap (λ (x : Uid). x.count) (same_uid a.1 u (and_parts (site_eq a.0 s) (uid_eq a.1 u) e).1) in
    omega (arith, beyond, same, le-max_left a.1.count (greatest_acked acks))) in
    let later = none_beyond acks u s (omega (arith, beyond, le-max_right a.1.count (greatest_acked acks))) in
    λ i. here i || later i

module _ (acks : List Acked) (sites : List SiteNo) (g : GroupNo) (view : ℕ) (p : Proc) where
  abbrev all_have : ℕ → Bool
  all_have k = list_all (has_acked acks (uid_in g view (p, k))) sites

  abbrev from : ℕ → ℕ → ℕ
  from most n = acked_from most acks sites (uid_in g view (p, n))

  -- each site has acknowledged what is counted
  counted : (most n k : ℕ) → n < k → k ≤ from most n → all_have k ≡ true
  counted zero n k low high = absurd (omega (arith, low, high))
  counted (suc most) n k low high =
      elim (all_have (n + 1)) as (λ b. all_have (n + 1) ≡ b → k ≤ (if b then from most (n + 1) else n) → all_have k ≡ true) [
        | true ↦ λ have within. elim (cases_eq (n + 1) k) [
          | inl same ↦ subst (λ j. all_have j ≡ true) same have
          | inr other ↦ counted most (n + 1) k (omega (arith, low, other)) within
        ]
        | false ↦ λ _ within. absurd (omega (arith, low, within))
      ] refl high

  -- and some site not the next one, unless the counting stopped at its bound
  next_lacks : (most n : ℕ) → (all_have (from most n + 1) ≡ false) ⊎ (from most n ≡ n + most)
  next_lacks zero n = inr (omega arith)
  next_lacks (suc most) n =
      elim (all_have (n + 1)) as (λ b. all_have (n + 1) ≡ b →
      (all_have ((if b then from most (n + 1) else n) + 1) ≡ false) ⊎ ((if b then from most (n + 1) else n) ≡ n + suc most)) [
        | true ↦ λ _. elim (next_lacks most (n + 1)) [
          | inl lacks ↦ inl lacks
          | inr bound ↦ inr (omega (arith, bound))
        ]
        | false ↦ λ lacks. inl lacks
      ] refl

  -- the number of stable messages is the greatest one
  pub stable_greatest : sites ≢ [] → IsStableUpto acks sites g view p (stable_upto acks sites g view p)
  stable_greatest some = record {
    all = λ s k in_sites low high.
        each_passes (has_acked acks (uid_in g view (p, k))) sites s (counted (greatest_acked acks) 0 k low high) in_sites;
    next = elim (next_lacks (greatest_acked acks) 0) [
      | inl lacks ↦ some_fails (has_acked acks (uid_in g view (p, from (greatest_acked acks) 0 + 1))) sites lacks
      | inr bound ↦ at_bound sites some bound
    ];
  }
    where
      at_bound : (others : List SiteNo) → others ≢ [] → from (greatest_acked acks) 0 ≡ 0 + greatest_acked acks →
          (s : SiteNo) × Contains others s × (has_acked acks (uid_in g view (p, from (greatest_acked acks) 0 + 1)) s ≡ false)
      at_bound [] some bound = absurd (some refl)
      at_bound (s ∷ others) some bound = (
        s,
        contains_here s others,
        none_beyond acks (uid_in g view (p, from (greatest_acked acks) 0 + 1)) s (omega (arith, bound)),
      )

  -- one number is below another only if it is not the greatest
  not_below : (n m : ℕ) → IsStableUpto acks sites g view p n → IsStableUpto acks sites g view p m → n < m → ⊥
  not_below n m is_n is_m lt =
      let (s, in_sites, lacks) = is_n.next in
      false≢true (sym lacks ∙ is_m.all s (n + 1) in_sites (omega arith) (omega (arith, lt)))

  pub one_greatest : (n m : ℕ) → IsStableUpto acks sites g view p n → IsStableUpto acks sites g view p m → n ≡ m
  one_greatest n m is_n is_m = elim (cases_lt n m) [
    | inl lt ↦ absurd (not_below n m is_n is_m lt)
    | inr ge ↦ elim (cases_lt m n) [
      | inl lt ↦ absurd (not_below m n is_m is_n lt)
      | inr le ↦ omega (arith, ge, le)
    ]
  ]
