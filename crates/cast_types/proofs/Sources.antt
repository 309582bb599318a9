-- The order of sources, and what is found of one once views have ended.
use Rattle.std.proofs.Common.{◌≡◌, ℕ, false, not, cond, None, List, sym, ap, ◌∙◌}
use Rattle.std.specs.Ordering.{nat_cmp, ordering_then}
use Rattle.std.specs.FinMap.Entries.{find, find-where_key}
use Rattle.std.specs.declared.cmp.Ordering.{Ordering}
use Rattle.std.specs.Cmp.{IsTotalOrder}
use Rattle.std.proofs.lemmas.Cmp.{nat_cmp_total, on_total, then_total}
use Rattle.std.proofs.lemmas.Map.Lookups.{CmpEqualImpliesEq, exact_pairs, exact_unsigned}
use Rattle.cast_types.specs.declared.names.GroupNo.{GroupNo}
use Rattle.cast_types.specs.declared.names.Proc.{Proc}
use Rattle.cast_types.specs.Names.{group_cmp, proc_cmp}
use Rattle.cast_types.proofs.Orders.{group_total, group_exact, proc_total, proc_exact}
use Rattle.cast_types.specs.Sources.{source_cmp, is_ended, but_ended}
use Rattle.cast_types.specs.declared.source.Source.{Source}

pub source_total : IsTotalOrder source_cmp
source_total =
    then_total (on_total (λ s. s.group) group_total)
    (then_total (on_total (λ s. s.view) nat_cmp_total) (on_total (λ s. s.process) proc_total))

abbrev rest_cmp : ℕ × Proc → ℕ × Proc → Ordering
rest_cmp a b = ordering_then (nat_cmp a.0 b.0) (proc_cmp a.1 b.1)

pub source_exact : CmpEqualImpliesEq source_cmp
source_exact a b h =
    ap (λ (n : GroupNo × (ℕ × Proc)). record { group = n.0; view = n.1.0; process = n.1.1 })
    (exact_pairs group_cmp rest_cmp group_exact (exact_pairs nat_cmp proc_cmp exact_unsigned proc_exact) (a.group, (a.view, a.process))
    (b.group, (b.view, b.process)) h)

-- what is kept of a source whose view has not ended is kept still
pub find_but_ended : {V : Type 0} (g : GroupNo) (number : ℕ) (s : Source) → is_ended g number s ≡ false → (es : List (Source × V)) →
    find source_cmp s (but_ended g number es) ≡ find source_cmp s es
find_but_ended g number s stands es =
    find-where_key source_cmp (λ x. not (is_ended g number x))
    s (λ x tie. ap (λ y. not (is_ended g number y)) (sym (source_exact s x tie))) es
    ∙ ap (λ b. cond (not b) (find source_cmp s es) None) stands
