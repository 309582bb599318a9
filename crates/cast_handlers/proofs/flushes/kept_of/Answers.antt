use Rattle.std.proofs.Common.{◌≡◌, ◌∙◌, true, Bool, List, map, filter, take, sym, ap, subst}
use Rattle.std.proofs.lemmas.List.{take-map}
use Rattle.cast_types.specs.Names.{Entry, entry_cmp, entry_of}
use Rattle.cast_types.specs.Sets.{set_of}
use Rattle.cast_message.specs.KeptIds.{Marked, KeptList, is_kept}
use Rattle.cast_message.specs.Receipts.{messages}
use Rattle.cast_order.specs.Log.{log_of, whole_kept}
use Rattle.cast_rules.specs.Reports.{is_unplaced}
use Rattle.cast_domain.specs.FlushCalls.{is_kept_of}
use Rattle.cast_domain.proofs.Marks.{kept_fits}
use Rattle.cast_handlers.proofs.flushes.kept_of.Goals as goal

pub from_entries-requires : goal.from_entries-requires
from_entries-requires c =
    let x = c.args.group.now in
    let names : List Entry = map (λ m. entry_of m.id) (filter (is_kept_of x) (messages c.args.kept.now)) in
    let mark : Entry → Bool =
    is_unplaced (filter (is_kept_of x) (messages c.args.kept.now)) (whole_kept (log_of c.args.domain.now.orders x.name) c.args.holder) in
    let f : Entry → Marked = λ e. (e, mark e) in
    let is : c.in_ok-marked.marked.items ≡ map f (take 2048 (set_of entry_cmp names)) =
    c.in_ok-marked.ensures ∙ ap (map f) (c.as_slice.ensures.value ∙ c.truncate.ensures.items ∙ ap (take 2048) c.in_ok-names.ensures) in
    subst (λ (marks : KeptList). is_kept marks ≡ true) (sym is) (kept_fits mark names)

pub returns : goal.returns
returns c =
    let x = c.args.group.now in
    let names : List Entry = map (λ m. entry_of m.id) (filter (is_kept_of x) (messages c.args.kept.now)) in
    let f : Entry → Marked = λ e. (
      e,
      is_unplaced (filter (is_kept_of x) (messages c.args.kept.now)) (whole_kept (log_of c.args.domain.now.orders x.name) c.args.holder) e,
    ) in
    c.from_entries.ensures
    ∙ c.in_ok-marked.ensures
    ∙ ap (map f) (c.as_slice.ensures.value ∙ c.truncate.ensures.items ∙ ap (take 2048) c.in_ok-names.ensures)
    ∙ sym (take-map f 2048 (set_of entry_cmp names))
