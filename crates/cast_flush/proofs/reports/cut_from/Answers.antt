use Rattle.std.proofs.Common.{◌≡◌, ◌++◌, List, sym, subst, true, arith, append-nil, ◌∙◌}
use Rattle.std.proofs.lemmas.List.{at_drop_all}
use Rattle.cast_types.specs.declared.names.Proc.{Proc}
use Rattle.cast_types.specs.Counts.{is_counts}
use Rattle.cast_flush.specs.Reports.{cut_from}
use Rattle.cast_flush.proofs.Cuts.{cut_is_counts}
use Rattle.cast_flush.proofs.reports.cut_from.Goals as goal

-- at the end the entries are the cut, which is counts
pub from_entries-requires : goal.from_entries-requires
from_entries-requires c =
    let rest =
    at_drop_all (λ (ms : List Proc). c.loop-member.entries.items ++ cut_from ms c.args.reports.now)
    c.args.members.now c.loop-member.member-index (omega arith) in
    let whole : c.loop-member.entries.items ≡ cut_from c.args.members.now c.args.reports.now =
    sym (append-nil c.loop-member.entries.items) ∙ sym rest ∙ c.loop-member.invariant in
    subst (λ es. is_counts es ≡ true) (sym whole) (cut_is_counts c.args.members.now c.args.reports.now c.requires.rising c.requires.few)
