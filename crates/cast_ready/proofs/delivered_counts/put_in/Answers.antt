use Rattle.std.proofs.Common.{◌≡◌, ◌∙◌, ◌<◌, ◌≤◌, length, set, ℕ, Ok, Err, sym, subst, rules}
use Rattle.std.specs.List.Sorted.{IsBinarySearchResult}
use Rattle.std.specs.List.{insert}
use Rattle.std.proofs.lemmas.List.Sorted.{answers_always}
use Rattle.cast_types.specs.declared.source.Source.{Source}
use Rattle.cast_types.specs.Sources.{source_cmp}
use Rattle.cast_types.proofs.Sources.{source_total}
use Rattle.cast_clock.proofs.Halving.{put_found, put_absent}
use Rattle.cast_ready.proofs.delivered_counts.put_in.Goals as goal

-- the source was there, and its count is written over
pub returns-in-Ok-clause-ok : goal.returns-in-Ok-clause-ok
returns-in-Ok-clause-ok c =
    let es = c.args.counts.now.items in
    let by_source = c.in-Ok.ensures.position (λ (e : Source × ℕ). e.0) (answers_always _ _ _ (λ f a r g called. search rules)) in
    let searched =
    subst (λ l. IsBinarySearchResult (λ (e : Source × ℕ). source_cmp e.0 c.args.source) l (Ok c.in-Ok.place))
    c.deref.ensures.value by_source in
    let within : c.in-Ok.place < length es = search rules in
    let is =
    put_found source_cmp source_total c.args.source c.args.count es c.in-Ok.place c.index_mut.result.now c.requires within searched in
    (λ i. set es c.in-Ok.place ((c.index_mut.ensures.value i).0, c.args.count)) ∙ sym is

-- it was not, and stands between those below it and those above
pub returns-in_ok-insert-in-Err-clause-ok : goal.returns-in_ok-insert-in-Err-clause-ok
returns-in_ok-insert-in-Err-clause-ok c =
    let es = c.args.counts.now.items in
    let by_source = c.in-Err.ensures.position (λ (e : Source × ℕ). e.0) (answers_always _ _ _ (λ f a r g called. search rules)) in
    let searched =
    subst (λ l. IsBinarySearchResult (λ (e : Source × ℕ). source_cmp e.0 c.args.source) l (Err c.in-Err.place))
    c.deref.ensures.value by_source in
    let within : c.in-Err.place ≤ length es = search rules in
    let items : c.insert.new.self.items ≡ insert es c.in-Err.place (c.args.source, c.args.count) = search rules in
    items ∙ sym (put_absent source_cmp source_total c.args.source c.args.count es c.in-Err.place c.requires within searched)
