use Rattle.std.proofs.Common.{◌≡◌, false, Bor, subst, rules}
use Rattle.std.specs.Prelude.{IfSome, IsTrue}
use Rattle.std.specs.List.{list_any}
use Rattle.std.specs.BTreeMap.{is_at}
use Rattle.std.specs.Ordering.{is_lt}
use Rattle.cast_index.specs.declared.entry.Entry.{Entry}
use Rattle.cast_index.specs.Index.{entry_cmp}
use Rattle.cast_index.proofs.Lasts.{none_behind}
use Rattle.cast_index.proofs.index.are_more_behind.Goals as goal

pub returns-in-Some : goal.returns-in-Some
returns-in-Some c not_so =
    let keys = c.args.entries.now.keys in
    let greatest =
    subst
    (λ o. IfSome o (λ (e : Bor Entry). (q : Entry) → IsTrue (list_any (is_at (entry_cmp q)) keys) → is_lt (entry_cmp e.now q) ≡ false))
    c.in-Some.is c.last.ensures.greatest in
    none_behind keys c.args.source c.in-Some.last.now (search (rules, not_so)) greatest
