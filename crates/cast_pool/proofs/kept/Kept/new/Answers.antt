use Rattle.std.proofs.Common.{[], length, refl, sym, ap, subst, ◌∙◌, arith}
use Rattle.cast_events.specs.declared.config.Config.{Config}
use Rattle.cast_table.specs.Owns.{are_distinct, have_rising_groups}
use Rattle.cast_pool.specs.Kept.{Replays}
use Rattle.cast_pool.proofs.Replays.{replays_new}
use Rattle.cast_pool.proofs.kept.Kept.new.Goals as goal

pub invariant_of-kept : goal.invariant_of-kept
invariant_of-kept g c =
    let config = c.in_ok-config.config in
    let table = c.in_ok-table.table in
    let same = c.in_ok-config.ensures in
    let distinct = ap (λ (x : Config). are_distinct x.domains) same ∙ c.requires.distinct in
    let rising = ap (λ (x : Config). have_rising_groups x.domains) same ∙ c.requires.rising in
    let len = ap length c.new-2.ensures.items in
    let total = c.open-book.ensures.total in (
      record {
        before = [];
        long = refl;
        replays = subst (λ entries. Replays config entries table) (sym c.new-2.ensures.items)
            (replays_new config table distinct rising c.in_ok-table.ensures.domains c.in_ok-table.ensures.unshared);
      },
      omega (arith, len, total),
      omega (arith, len),
    )
