use Rattle.std.proofs.Common.{◌≡◌, ◌∙◌, ◌<◌, ◌≤◌, length, set, max, ℕ, Ok, Err, Option, unwrap_or, sym, ap, subst, rules, arith}
use Rattle.std.specs.List.Sorted.{IsBinarySearchResult}
use Rattle.std.specs.List.{insert}
use Rattle.std.specs.FinMap.Entries.{put}
use Rattle.cast_types.specs.Names.{Entry, proc_cmp}
use Rattle.cast_types.specs.Counts.{count_of}
use Rattle.cast_types.proofs.Orders.{proc_total}
use Rattle.cast_clock.proofs.Halving.{search_found, search_absent, put_found, put_absent}
use Rattle.cast_clock.proofs.counts.raise_near.Goals as goal

-- the process was there, and its count is written over
pub returns-in-Ok : goal.returns-in-Ok
returns-in-Ok c =
    let es = c.args.counts.now.items in
    let searched =
    subst (λ l. IsBinarySearchResult (λ (e : Entry). proc_cmp e.0 c.args.process) l (Ok c.in-Ok.at))
    c.deref.ensures.value c.in-Ok.ensures.position in
    let within : c.in-Ok.at < length es = search rules in
    let kept : count_of es c.args.process ≡ c.index.result.now.1 =
    ap (λ (o : Option ℕ). unwrap_or o 0)
    (search_found proc_cmp proc_total c.args.process es c.in-Ok.at c.index.result.now c.requires within searched)
    ∙ ap (λ (e : Entry). e.1) (sym c.index.ensures) in
    let greatest : c.max.result ≡ max (count_of es c.args.process) c.args.count = c.max.ensures ∙ ap (λ n. max n c.args.count) (sym kept) in
    (λ i. set es c.in-Ok.at ((c.index_mut.ensures.value i).0, greatest i))
    ∙ sym (put_found proc_cmp proc_total c.args.process (max (count_of es c.args.process) c.args.count)
    es c.in-Ok.at c.index_mut.result.now c.requires within searched)

-- it was not, and stands between those below it and those above
pub returns-in_ok-insert-in-Err : goal.returns-in_ok-insert-in-Err
returns-in_ok-insert-in-Err c =
    let es = c.args.counts.now.items in
    let searched =
    subst (λ l. IsBinarySearchResult (λ (e : Entry). proc_cmp e.0 c.args.process) l (Err c.in-Err.at))
    c.deref.ensures.value c.in-Err.ensures.position in
    let within : c.in-Err.at ≤ length es = search rules in
    let items : c.insert.new.self.items ≡ insert es c.in-Err.at (c.args.process, c.args.count) = search rules in
    let none : count_of es c.args.process ≡ 0 =
    ap (λ (o : Option ℕ). unwrap_or o 0) (search_absent proc_cmp proc_total c.args.process es c.in-Err.at c.requires searched) in
    let greatest : max (count_of es c.args.process) c.args.count ≡ c.args.count = omega arith in
    items
    ∙ sym (put_absent proc_cmp proc_total c.args.process c.args.count es c.in-Err.at c.requires within searched)
    ∙ ap (λ n. put proc_cmp c.args.process n es) (sym greatest)
