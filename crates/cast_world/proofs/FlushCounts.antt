-- CountList that are reported, and the cut that is made of them, cover what they are made from.
use Rattle.std.proofs.Common.{ap, arith, inl, inr, subst, sym, ◌∙◌}
use Rattle.std.proofs.lemmas.Bool.{eq-eqb, le-leb, ltb-false, true≢false}
use Rattle.std.proofs.lemmas.List.Elements.{Contains-append_left, Contains-append_right}
use Rattle.std.proofs.lemmas.Map.Views.{tells_apart}
use Rattle.std.specs.FinMap.Entries.{find}
use Rattle.std.specs.List.{flat_map, fold}
use Rattle.std.specs.Ordering.{eq_by_cmp}
use Rattle.std.specs.Prelude.{◌&&◌, Bool, Contains, IsTrue, List, [], cond, false, filter, if◌then◌else◌}
use Rattle.std.specs.Prelude.{map, max, nat_lt, refl, suc, true, zero, ℕ, ◌∷◌, ◌≡◌, ◌≤◌, ◌⊎◌}
use Rattle.cast_flush.specs.Reports.{cut_from}
use Rattle.cast_flush.specs.declared.report.Report.{Report}
use Rattle.cast_types.specs.Counts.{CountList, count_of, is_within}
use Rattle.cast_types.specs.Names.{Entry, proc_cmp, proc_eq}
use Rattle.cast_types.specs.declared.names.Proc.{Proc}
use Rattle.cast_types.specs.declared.names.SiteNo.{SiteNo}
use Rattle.cast_view.specs.MemberSide.{counts_by, greatest_of}
use Rattle.cast_world.proofs.Acts.{contains_cons}
use Rattle.cast_world.proofs.Times.{proc_exact, procs_total, tied_to, unwrapped}

count_head : (e : Entry) (c : CountList) (p : Proc) → count_of (e ∷ c) p ≡ cond (eq_by_cmp proc_cmp p e.0) e.1 (count_of c p)
count_head e c p = unwrapped (eq_by_cmp proc_cmp p e.0) e.1 0 (find proc_cmp p c)

pub counts_cover : (f : Proc → ℕ) (procs : List Proc) (p : Proc) → Contains procs p → f p ≤ count_of (counts_by f procs) p
counts_cover f [] p at = absurd (omega (arith, at.1))
counts_cover f (q ∷ procs) p at = go (nat_lt 0 (f q)) refl (contains_cons q procs p at) (counts_cover f procs p)
  where
    rest : CountList
    rest = filter (λ (e : Entry). nat_lt 0 e.1) (map (λ (x : Proc). (x, f x)) procs)

    tie : (t : Bool) → eq_by_cmp proc_cmp p q ≡ t → (q ≡ p) ⊎ Contains procs p → (Contains procs p → f p ≤ count_of (counts_by f procs) p) →
        f p ≤ cond t (f q) (count_of (filter (λ (e : Entry). nat_lt 0 e.1) (map (λ (x : Proc). (x, f x)) procs)) p)
    tie true e which more = subst (λ x. f p ≤ f x) (tells_apart proc_exact p q e) (omega arith)
    tie false e (inl same) more = absurd (true≢false (sym (tied_to proc_cmp procs_total p q (sym same)) ∙ e))
    tie false e (inr there) more = more there

    go : (b : Bool) → nat_lt 0 (f q) ≡ b → (q ≡ p) ⊎ Contains procs p → (Contains procs p → f p ≤ count_of (counts_by f procs) p) →
        f p ≤ count_of (cond b ((q, f q) ∷ filter (λ (e : Entry). nat_lt 0 e.1) (map (λ (x : Proc). (x, f x)) procs))
        (filter (λ (e : Entry). nat_lt 0 e.1) (map (λ (x : Proc). (x, f x)) procs))) p
    go true e which more =
        subst (λ n. f p ≤ n) (sym (count_head (q, f q) (filter (λ (e : Entry). nat_lt 0 e.1) (map (λ (x : Proc). (x, f x)) procs)) p))
        (tie (eq_by_cmp proc_cmp p q) refl which more)
    go false e (inl same) more = let none : f q ≤ 0 = ltb-false 0 (f q) e in let is : f q ≡ f p = ap f same in omega (arith, none, is)
    go false e (inr there) more = more there

-- what each step may only raise, and one step raises to a bound, is at least the bound
fold_from : {X : Type 0} (step : ℕ → X → ℕ) → ((n : ℕ) (x : X) → n ≤ step n x) → (xs : List X) (n : ℕ) → n ≤ fold step n xs
fold_from step up [] n = omega arith
fold_from step up (x ∷ xs) n = let one = up n x in let more = fold_from step up xs (step n x) in omega (arith, one, more)

fold_covers : {X : Type 0} (step : ℕ → X → ℕ) → ((n : ℕ) (x : X) → n ≤ step n x) → (xs : List X) (n low : ℕ) (x : X) →
    ((k : ℕ) → low ≤ step k x) → Contains xs x → low ≤ fold step n xs
fold_covers step up [] n low x covers at = absurd (omega (arith, at.1))
fold_covers step up (y ∷ xs) n low x covers (zero, lt, e) =
    let one : low ≤ step n y = subst (λ z. low ≤ step n z) (sym e) (covers n) in
    let more = fold_from step up xs (step n y) in
    omega (arith, one, more)
fold_covers step up (y ∷ xs) n low x covers (suc k, lt, e) = fold_covers step up xs (step n y) low x covers (k, omega arith, e)

pub greatest_covers : (had : List Entry) (e : Entry) → Contains had e → e.1 ≤ greatest_of had e.0
greatest_covers had e at =
    fold_covers (λ n (x : Entry). if proc_eq x.0 e.0 then max n x.1 else n) rises had 0 e.1 e
    (λ k. subst (λ b. e.1 ≤ (if b then max k e.1 else k)) (sym same) (omega arith)) at
  where
    rises : (n : ℕ) (x : Entry) → n ≤ (if proc_eq x.0 e.0 then max n x.1 else n)
    rises n x = go (proc_eq x.0 e.0)
      where
        go : (b : Bool) → n ≤ (if b then max n x.1 else n)
        go true = omega arith
        go false = omega arith

    same : proc_eq e.0 e.0 ≡ true
    same = λ i. (eq-eqb e.0.site.0 e.0.site.0 refl i) && (eq-eqb e.0.serial e.0.serial refl i)

-- the cut is at least each report
pub cut_covers : (members : List Proc) (reports : List (SiteNo × Report)) (s : SiteNo) (r : Report) → Contains reports (s, r) → (p : Proc) →
    Contains members p → count_of r.counts p ≤ count_of (cut_from members reports) p
cut_covers members reports s r at p member =
    let one : count_of r.counts p ≤ fold (λ n (x : SiteNo × Report). max n (count_of x.1.counts p)) 0 reports =
    fold_covers (λ n (x : SiteNo × Report). max n (count_of x.1.counts p)) (λ n x. omega arith) reports 0 (count_of r.counts p) (s, r)
    (λ k. omega arith) at in
    let two = counts_cover (λ q. fold (λ n (x : SiteNo × Report). max n (count_of x.1.counts q)) 0 reports) members p member in
    omega (arith, one, two)

pub contains_flat : {X Y : Type 0} (f : X → List Y) (xs : List X) (x : X) (y : Y) → Contains xs x → Contains (f x) y →
    Contains (flat_map f xs) y
contains_flat f [] x y at has = absurd (omega (arith, at.1))
contains_flat f (z ∷ xs) x y (zero, lt, e) has = Contains-append_left (f z) (flat_map f xs) y (subst (λ w. Contains (f w) y) (sym e) has)
contains_flat f (z ∷ xs) x y (suc k, lt, e) has =
    Contains-append_right (f z) (flat_map f xs) y (contains_flat f xs x y (k, omega arith, e) has)

pub within_of : (c : CountList) (e : Entry) → e.1 ≤ count_of c e.0 → IsTrue (is_within c e)
within_of c e le = le-leb e.1 (count_of c e.0) le
