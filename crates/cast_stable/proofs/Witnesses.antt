-- The order of witnesses, and what is found at a key after a value was put at one.
use Rattle.std.proofs.Common.{◌≡◌, ◌⊎◌, ℕ, not, Some, None, cond, Option, List, unwrap_or, sym, ap, ◌∙◌, inl, inr, Ordering}
use Rattle.std.specs.Ordering.{eq_by_cmp}
use Rattle.std.specs.FinMap.Entries.{find, put, find-put, find-where_key}
use Rattle.std.specs.Cmp.{IsTotalOrder}
use Rattle.std.proofs.lemmas.Bool.{cases_Bool, false≢true}
use Rattle.std.proofs.lemmas.Cmp.{on_total, then_total}
use Rattle.std.proofs.lemmas.Map.Lookups.{CmpEqualImpliesEq, exact_pairs}
use Rattle.cast_types.specs.declared.names.SiteNo.{SiteNo}
use Rattle.cast_types.specs.declared.source.Source.{Source}
use Rattle.cast_types.specs.declared.names.GroupNo.{GroupNo}
use Rattle.cast_stable.specs.declared.witness.Witness.{Witness}
use Rattle.cast_types.specs.Names.{site_cmp}
use Rattle.cast_types.specs.Sources.{source_cmp, is_ended}
use Rattle.cast_types.proofs.Orders.{site_total, site_exact, tie_self, tie_same, tie_other}
use Rattle.cast_types.proofs.Sources.{source_total, source_exact}
use Rattle.cast_stable.specs.Witnesses.{witness_cmp, witness}
use Rattle.cast_stable.specs.Runs.{Run}
use Rattle.cast_stable.specs.Acks.{acked_but_ended}

pub witness_total : IsTotalOrder witness_cmp
witness_total = then_total (on_total (λ w. w.source) source_total) (on_total (λ w. w.site) site_total)

pub witness_exact : CmpEqualImpliesEq witness_cmp
witness_exact a b h =
    ap (λ (n : Source × SiteNo). record { source = n.0; site = n.1 })
    (exact_pairs source_cmp site_cmp source_exact site_exact (a.source, a.site) (b.source, b.site) h)

-- what a site acknowledged of a source is kept while the source's view has not ended
pub find_acked : (g : GroupNo) (number : ℕ) (s : Source) (from : SiteNo) (es : List (Witness × Run)) → find witness_cmp (witness s from)
    (acked_but_ended g number es) ≡ cond (not (is_ended g number s)) (find witness_cmp (witness s from) es) None
find_acked g number s from es =
    find-where_key witness_cmp (λ w. not (is_ended g number w.source)) (witness s from)
    (λ w tie. ap (λ (x : Witness). not (is_ended g number x.source)) (sym (witness_exact (witness s from) w tie))) es

-- keys are one or differ
pub key_cases : {K : Type 0} {R : K → K → Ordering} → IsTotalOrder R → CmpEqualImpliesEq R → (q k : K) → (q ≡ k) ⊎ (q ≡ k → ⊥)
key_cases {R = R} total exact q k = elim (cases_Bool (eq_by_cmp R q k)) [
  | inl same ↦ inl (tie_same exact q k same)
  | inr other ↦ inr (λ e. false≢true (sym other ∙ tie_self total q k e))
]

module _ {K V : Type 0} {R : K → K → Ordering} (total : IsTotalOrder R) where
  -- at the key itself there is the new value, and at another what there was
  pub put_here : (es : List (K × V)) (q k : K) (v d : V) → q ≡ k → unwrap_or (find R q (put R k v es)) d ≡ v
  put_here es q k v d same =
      ap (λ (o : Option V). unwrap_or o d) (find-put R total q k v es ∙ ap (λ b. cond b (Some v) (find R q es)) (tie_self total q k same))

  pub put_elsewhere : CmpEqualImpliesEq R → (es : List (K × V)) (q k : K) (v d : V) → (q ≡ k → ⊥) →
      unwrap_or (find R q (put R k v es)) d ≡ unwrap_or (find R q es) d
  put_elsewhere exact es q k v d differ =
      ap (λ (o : Option V). unwrap_or o d)
      (find-put R total q k v es ∙ ap (λ b. cond b (Some v) (find R q es)) (tie_other exact q k differ))
