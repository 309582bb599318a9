use Rattle.std.proofs.Common.{◌≡◌, None, Some, unwrap_or, sym, ap, ◌∙◌}
use Rattle.std.specs.BTreeMap.{is_at, insert_entry}
use Rattle.std.specs.FinMap.Entries.{put}
use Rattle.std.specs.Map.{lookup}
use Rattle.std.proofs.lemmas.Map.Steps.{set_value_same}
use Rattle.std.proofs.lemmas.Result.{on_ok_weaker, on_err_weaker}
use Rattle.cast_stable.specs.Runs.{Run, no_counts, insert_count}
use Rattle.cast_types.proofs.Maps.{lookup_finds, insert_puts, set_puts}
use Rattle.cast_stable.proofs.acks.insert_count.Goals as goal

pub returns-in-Some-clause-ok : goal.returns-in-Some-clause-ok
returns-in-Some-clause-ok g c =
    let R = g.K.Ord.cmp in
    let key = c.args.key in
    let es = c.args.runs.now.entries in
    let was : Run = c.in-Some.run'.now in
    let run : Run = c.insert.new.self in
    let found : lookup (is_at (R key)) es ≡ Some was = sym c.in-Some.ensures.value in
    on_ok_weaker c.insert.result
    (λ (made : run ≡ insert_count was c.args.count).
    (c.get_mut.follows.holds run).0 ∙ set_puts R g.met.K.Ord.total key was run es c.get_mut.ensures.ordered found
    ∙ ap (λ (r : Run). put R key r es)
    (made ∙ ap (λ o. insert_count (unwrap_or o no_counts) c.args.count) (sym found ∙ lookup_finds R key es)))
    c.insert.ensures.ok

pub returns-in-Some-clause-err : goal.returns-in-Some-clause-err
returns-in-Some-clause-err g c =
    let test = is_at (g.K.Ord.cmp c.args.key) in
    let es = c.args.runs.now.entries in
    let was : Run = c.in-Some.run'.now in
    let run : Run = c.insert.new.self in
    let found : lookup test es ≡ Some was = sym c.in-Some.ensures.value in
    on_err_weaker c.insert.result
    (λ (stays : run ≡ was). (c.get_mut.follows.holds run).0 ∙ set_value_same test es run (found ∙ ap Some (sym stays)))
    c.insert.ensures.err

pub returns-in_ok-insert-in-None-2-clause-ok : goal.returns-in_ok-insert-in-None-2-clause-ok
returns-in_ok-insert-in-None-2-clause-ok g c =
    let R = g.K.Ord.cmp in
    let key = c.args.key in
    let es = c.args.runs.now.entries in
    let run : Run = c.insert-in-None.new.self in
    let none : lookup (is_at (R key)) es ≡ None = sym c.in-None.ensures.value in
    let made : run ≡ insert_count no_counts c.args.count =
    c.in_ok-insert-in-None.ensures.ok ∙ ap (λ r. insert_count r c.args.count) c.new-run.ensures in
    let stands : c.insert-in-None-2.new.self.entries ≡ insert_entry R es key run =
    c.in_ok-insert-in-None-2.ensures.entries ∙ ap (λ m. insert_entry R m.entries key run) c.get_mut.follows.holds-at-none in
    stands ∙ insert_puts R key run es
    ∙ ap (λ (r : Run). put R key r es)
    (made ∙ ap (λ o. insert_count (unwrap_or o no_counts) c.args.count) (sym none ∙ lookup_finds R key es))
