-- The orders of names are total, and names that compare alike are one.
use Rattle.std.proofs.Common.{◌≡◌, ℕ, true, false, ◌⊎◌, Ordering, Less, Equal, Greater, refl, sym, ap, ◌∙◌, inl, inr}
use Rattle.std.specs.Prelude.{◌==◌, ◌&&◌}
use Rattle.std.specs.Ordering.{nat_cmp, ordering_then, is_eq, eq_by_cmp}
use Rattle.std.specs.Cmp.{IsTotalOrder}
use Rattle.std.proofs.lemmas.Cmp.{nat_cmp_total, on_total, then_total, tied_itself}
use Rattle.std.proofs.lemmas.Map.Lookups.{CmpEqualImpliesEq, exact_pairs, exact_unsigned}
use Rattle.std.proofs.lemmas.Bool.{cases_Bool, false≢true, false_from_ne_true, and_parts, and_from, eqb-true, eq-eqb}
use Rattle.cast_types.specs.declared.names.SiteNo.{SiteNo}
use Rattle.cast_types.specs.declared.names.GroupNo.{GroupNo}
use Rattle.cast_types.specs.declared.names.Proc.{Proc}
use Rattle.cast_types.specs.declared.names.Uid.{Uid}
use Rattle.cast_types.specs.Names.{Entry, domain_cmp, site_cmp, group_cmp, proc_cmp, entry_cmp}
use Rattle.cast_types.specs.Names.{uid_cmp, site_eq, group_eq, proc_eq, entry_eq, uid_eq}

pub domain_total : IsTotalOrder domain_cmp
domain_total = on_total (λ d. d.0) nat_cmp_total

pub site_total : IsTotalOrder site_cmp
site_total = on_total (λ s. s.0) nat_cmp_total

pub group_total : IsTotalOrder group_cmp
group_total = on_total (λ g. g.0) nat_cmp_total

pub proc_total : IsTotalOrder proc_cmp
proc_total = then_total (on_total (λ p. p.site.0) nat_cmp_total) (on_total (λ p. p.serial) nat_cmp_total)

pub domain_exact : CmpEqualImpliesEq domain_cmp
domain_exact a b h = ap (λ (n : ℕ). record { 0 = n }) (exact_unsigned a.0 b.0 h)

pub site_exact : CmpEqualImpliesEq site_cmp
site_exact a b h = ap (λ (n : ℕ). record { 0 = n }) (exact_unsigned a.0 b.0 h)

pub group_exact : CmpEqualImpliesEq group_cmp
group_exact a b h = ap (λ (n : ℕ). record { 0 = n }) (exact_unsigned a.0 b.0 h)

pub proc_exact : CmpEqualImpliesEq proc_cmp
proc_exact a b h =
    ap (λ (n : ℕ × ℕ). record { site = record { 0 = n.0 }; serial = n.1 })
    (exact_pairs nat_cmp nat_cmp exact_unsigned exact_unsigned (a.site.0, a.serial) (b.site.0, b.serial) h)

pub entry_total : IsTotalOrder entry_cmp
entry_total = then_total (on_total (λ e. e.0) proc_total) (on_total (λ e. e.1) nat_cmp_total)

pub entry_exact : CmpEqualImpliesEq entry_cmp
entry_exact a b h = exact_pairs proc_cmp nat_cmp proc_exact exact_unsigned a b h

pub uid_total : IsTotalOrder uid_cmp
uid_total =
    then_total (on_total (λ u. u.group) group_total)
    (then_total (on_total (λ u. u.view) nat_cmp_total) (on_total (λ u. (u.proc, u.count)) entry_total))

pub uid_exact : CmpEqualImpliesEq uid_cmp
uid_exact a b h =
    ap (λ (n : GroupNo × (ℕ × Entry)). record { group = n.0; view = n.1.0; proc = n.1.1.0; count = n.1.1.1 })
    (exact_pairs group_cmp (λ x y. ordering_then (nat_cmp x.0 y.0) (entry_cmp x.1 y.1))
    group_exact (exact_pairs nat_cmp entry_cmp exact_unsigned entry_exact)
    (a.group, (a.view, (a.proc, a.count))) (b.group, (b.view, (b.proc, b.count))) h)

-- names that test equal are one
pub same_site : (a b : SiteNo) → site_eq a b ≡ true → a ≡ b
same_site a b h = ap (λ (n : ℕ). record { 0 = n }) (eqb-true a.0 b.0 h)

pub same_group : (a b : GroupNo) → group_eq a b ≡ true → a ≡ b
same_group a b h = ap (λ (n : ℕ). record { 0 = n }) (eqb-true a.0 b.0 h)

pub same_proc : (a b : Proc) → proc_eq a b ≡ true → a ≡ b
same_proc a b h =
    let parts = and_parts (site_eq a.site b.site) (a.serial == b.serial) h in
    let serials = eqb-true a.serial b.serial parts.1 in
    let sites = same_site a.site b.site parts.0 in
    λ i. record { site = sites i; serial = serials i }

pub same_uid : (a b : Uid) → uid_eq a b ≡ true → a ≡ b
same_uid a b h =
    let first = and_parts (group_eq a.group b.group) ((a.view == b.view) && (proc_eq a.proc b.proc && (a.count == b.count))) h in
    let second = and_parts (a.view == b.view) (proc_eq a.proc b.proc && (a.count == b.count)) first.1 in
    let third = and_parts (proc_eq a.proc b.proc) (a.count == b.count) second.1 in
    let groups = same_group a.group b.group first.0 in
    let views = eqb-true a.view b.view second.0 in
    let procs = same_proc a.proc b.proc third.0 in
    let counts = eqb-true a.count b.count third.1 in
    λ i. record { group = groups i; view = views i; proc = procs i; count = counts i }

pub same_entry : (a b : Entry) → entry_eq a b ≡ true → a ≡ b
same_entry a b h =
    let parts = and_parts (proc_eq a.0 b.0) (a.1 == b.1) h in
    let procs = same_proc a.0 b.0 parts.0 in
    let counts = eqb-true a.1 b.1 parts.1 in
    λ i. (procs i, counts i)

-- a name tests equal to itself
pub site_itself : (a : SiteNo) → site_eq a a ≡ true
site_itself a = eq-eqb a.0 a.0 refl

pub group_itself : (a : GroupNo) → group_eq a a ≡ true
group_itself a = eq-eqb a.0 a.0 refl

pub proc_itself : (a : Proc) → proc_eq a a ≡ true
proc_itself a = and_from (site_eq a.site a.site) (a.serial == a.serial) (site_itself a.site) (eq-eqb a.serial a.serial refl)

pub entry_itself : (a : Entry) → entry_eq a a ≡ true
entry_itself a = and_from (proc_eq a.0 a.0) (a.1 == a.1) (proc_itself a.0) (eq-eqb a.1 a.1 refl)

pub uid_itself : (a : Uid) → uid_eq a a ≡ true
uid_itself a =
    and_from (group_eq a.group a.group) ((a.view == a.view) && (proc_eq a.proc a.proc && (a.count == a.count))) (group_itself a.group)
    (and_from (a.view == a.view) (proc_eq a.proc a.proc && (a.count == a.count)) (eq-eqb a.view a.view refl)
    (and_from (proc_eq a.proc a.proc) (a.count == a.count) (proc_itself a.proc) (eq-eqb a.count a.count refl)))

module _ {K : Type 0} {R : K → K → Ordering} where
  -- what compares equal is one, and what is one compares equal
  pub tie_self : IsTotalOrder R → (x y : K) → x ≡ y → eq_by_cmp R x y ≡ true
  tie_self o x y e = ap is_eq (ap (R x) (sym e) ∙ tied_itself o x)

  pub tie_same : CmpEqualImpliesEq R → (x y : K) → eq_by_cmp R x y ≡ true → x ≡ y
  tie_same exact x y h =
      elim (R x y) as (λ r. R x y ≡ r → is_eq r ≡ true → x ≡ y) [
        | Less ↦ λ _ e. absurd (false≢true e)
        | Equal ↦ λ p _. exact x y p
        | Greater ↦ λ _ e. absurd (false≢true e)
      ] refl h

  pub tie_other : CmpEqualImpliesEq R → (x y : K) → (x ≡ y → ⊥) → eq_by_cmp R x y ≡ false
  tie_other exact x y differ = false_from_ne_true (eq_by_cmp R x y) (λ e. differ (tie_same exact x y e))

-- groups are one or differ
pub group_cases : (g h : GroupNo) → (g ≡ h) ⊎ (g ≡ h → ⊥)
group_cases g h = elim (cases_Bool (eq_by_cmp group_cmp g h)) [
  | inl same ↦ inl (tie_same group_exact g h same)
  | inr other ↦ inr (λ e. false≢true (sym other ∙ tie_self group_total g h e))
]
