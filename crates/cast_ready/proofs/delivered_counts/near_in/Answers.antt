use Rattle.std.proofs.Common.{ℕ, Option, unwrap_or, ap, sym, ◌∙◌}
use Rattle.std.specs.Ordering.{is_eq}
use Rattle.cast_types.specs.Sources.{source_cmp}
use Rattle.cast_types.proofs.Sources.{source_total}
use Rattle.cast_clock.proofs.Halving.{found_here}
use Rattle.cast_ready.proofs.delivered_counts.near_in.Goals as goal

-- the source at the place is the one that is asked for
pub returns-then-is_eq : goal.returns-then-is_eq
returns-then-is_eq c =
    ap (λ (o : Option ℕ). unwrap_or o 0)
    (sym (found_here source_cmp source_total c.args.source c.args.counts.now c.args.place _ c.requires c.if-place-counts.true
    (ap is_eq (sym c.cmp.ensures) ∙ sym c.is_eq.ensures ∙ c.if-is_eq.true)))
