use Rattle.std.proofs.Common.{ℕ, Option, unwrap_or, ap, sym, rules}
use Rattle.std.proofs.lemmas.List.Sorted.{answers_always}
use Rattle.cast_types.specs.declared.source.Source.{Source}
use Rattle.cast_types.specs.Sources.{source_cmp}
use Rattle.cast_types.proofs.Sources.{source_total}
use Rattle.cast_clock.proofs.Halving.{search_found, search_absent}
use Rattle.cast_ready.proofs.delivered_counts.found_in.Goals as goal

pub returns-in-Ok : goal.returns-in-Ok
returns-in-Ok c =
    let by_source = c.in-Ok.ensures.position (λ (e : Source × ℕ). e.0) (answers_always _ _ _ (λ f a r g called. search rules)) in
    ap (λ (o : Option ℕ). unwrap_or o 0) (sym
    (search_found source_cmp source_total c.args.source c.args.counts.now c.in-Ok.place _ c.requires c.in-Ok.ensures.bound by_source))

pub returns-in-Err : goal.returns-in-Err
returns-in-Err c =
    let by_source = c.in-Err.ensures.position (λ (e : Source × ℕ). e.0) (answers_always _ _ _ (λ f a r g called. search rules)) in
    ap (λ (o : Option ℕ). unwrap_or o 0)
    (sym (search_absent source_cmp source_total c.args.source c.args.counts.now c.in-Err.place c.requires by_source))
