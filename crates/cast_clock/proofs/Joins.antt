-- Joins, pointwise.
use Rattle.std.proofs.Common.{◌≡◌, max, refl, arith}
use Rattle.std.specs.Prelude.{IsTrue}
use Rattle.std.specs.FinMap.Entries.{is_sorted}
use Rattle.std.proofs.lemmas.Bool.Decides.{nat_tests}
use Rattle.cast_types.specs.declared.names.Proc.{Proc}
use Rattle.cast_types.specs.declared.names.GroupNo.{GroupNo}
use Rattle.cast_types.specs.declared.clock.Clock.{Clock}
use Rattle.cast_types.specs.Names.{proc_cmp, group_cmp}
use Rattle.cast_types.specs.Counts.{CountList, count_of}
use Rattle.cast_types.specs.Stamps.{ClockList}
use Rattle.cast_clock.specs.Times.{first_clock, clock_of, join_counts, join_clocks, join}
use Rattle.cast_clock.proofs.Entries.{folded, as_T}
use Rattle.cast_types.proofs.Orders.{proc_total, proc_exact, group_total, group_exact}

pub count_of-join_counts : (c d : CountList) (p : Proc) → IsTrue (is_sorted proc_cmp d) →
    count_of (join_counts c d) p ≡ max (count_of c p) (count_of d p)
count_of-join_counts c d p h =
    folded proc_total proc_exact 0 max (λ x. omega arith) join_counts (λ m. refl) (λ e es m. refl) d c p (as_T _ h)

-- what is absent changes nothing
pub join_clocks-first : (c : Clock) → join_clocks c (first_clock 0) ≡ c
join_clocks-first c = grind (arith, nat_tests)

pub clock_of-join : (s t : ClockList) (g : GroupNo) → IsTrue (is_sorted group_cmp t) →
    clock_of (join s t) g ≡ join_clocks (clock_of s g) (clock_of t g)
clock_of-join s t g h =
    folded group_total group_exact (first_clock 0) join_clocks join_clocks-first join (λ m. refl) (λ e es m. refl) t s g (as_T _ h)
