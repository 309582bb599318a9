use Rattle.std.proofs.Common.{◌≡◌, Bool, true, sym, ap, ◌∙◌, length, rules}
use Rattle.std.specs.Prelude.{◌&&◌, nat_le}
use Rattle.std.specs.FinMap.Entries.{is_sorted}
use Rattle.std.proofs.lemmas.Bool.{and_parts}
use Rattle.std.proofs.lemmas.List.Sorted.{answers_always}
use Rattle.cast_types.specs.Names.{Entry, entry_eq, entry_cmp}
use Rattle.std.specs.List.{list_any}
use Rattle.cast_message.specs.KeptIds.{KeptList}
use Rattle.cast_flush.proofs.Kept.{search_keeps, search_lacks}
use Rattle.cast_flush.proofs.reports.keeps.Goals as goal

-- the list of what the site keeps
kept : (ks report : KeptList) (e : Entry) → ks ≡ report → list_any (λ k. entry_eq k.0 e) ks ≡ list_any (λ k. entry_eq k.0 e) report
kept ks report e is = ap (λ (l : KeptList). list_any (λ k. entry_eq k.0 e) l) is

rises : (ks report : KeptList) → ks ≡ report → is_sorted entry_cmp report && nat_le (length report) 2048 ≡ true →
    is_sorted entry_cmp ks ≡ true
rises ks report is valid = ap (is_sorted entry_cmp) is ∙ (and_parts (is_sorted entry_cmp report) (nat_le (length report) 2048) valid).0

pub returns-in-Ok : goal.returns-in-Ok
returns-in-Ok c =
    let ks = c.entries.result.now in
    let report = c.args.report.now.kept in
    let by_id = c.in-Ok.ensures.position (λ (k : Entry × Bool). k.0) (answers_always _ _ _ (λ f a r g called. search rules)) in
    sym (sym (kept ks report c.args.id c.entries.ensures.value)
    ∙ search_keeps c.args.id ks c.in-Ok.field-0 (c.args.id, true) (rises ks report c.entries.ensures.value c.entries.ensures.valid)
    c.in-Ok.ensures.bound by_id)

pub returns-in-Err : goal.returns-in-Err
returns-in-Err c =
    let ks = c.entries.result.now in
    let report = c.args.report.now.kept in
    let by_id = c.in-Err.ensures.position (λ (k : Entry × Bool). k.0) (answers_always _ _ _ (λ f a r g called. search rules)) in
    sym (sym (kept ks report c.args.id c.entries.ensures.value)
    ∙ search_lacks c.args.id ks c.in-Err.field-0 (rises ks report c.entries.ensures.value c.entries.ensures.valid) by_id)
