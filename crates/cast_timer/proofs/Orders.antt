-- The orders of owed frames and of moments are total.
use Rattle.std.proofs.Common.{Bool, List}
use Rattle.std.specs.List.{list_all}
use Rattle.std.specs.Ordering.{is_lt}
use Rattle.std.specs.Cmp.{IsTotalOrder}
use Rattle.std.proofs.lemmas.Cmp.{nat_cmp_total, on_total, then_total}
use Rattle.cast_types.proofs.Orders.{domain_total, group_total, proc_total, site_total}
use Rattle.cast_timer.specs.declared.key.Owed.{Owed}
use Rattle.cast_timer.specs.Rows.{moment_cmp}
use Rattle.cast_timer.specs.Owed.{kind_rank, side_rank, key_cmp, owed_cmp}

pub key_total : IsTotalOrder key_cmp
key_total =
    then_total (on_total (λ k. kind_rank k.kind) nat_cmp_total)
    (then_total (on_total (λ k. k.group) group_total)
    (then_total (on_total (λ k. k.proc) proc_total)
    (then_total (on_total (λ k. k.count) nat_cmp_total)
    (then_total (on_total (λ k. k.site) site_total)
    (on_total (λ k. side_rank k.side) nat_cmp_total)))))

pub owed_total : IsTotalOrder owed_cmp
owed_total = then_total (on_total (λ o. o.due) nat_cmp_total) (on_total (λ o. o.key) key_total)

pub moment_total : IsTotalOrder moment_cmp
moment_total = then_total (on_total (λ p. p.due) nat_cmp_total) (on_total (λ p. p.domain) domain_total)

-- whether a frame comes before all of a list
abbrev pub before : Owed → List Owed → Bool
before x os = list_all (λ p. is_lt (owed_cmp x p)) os
