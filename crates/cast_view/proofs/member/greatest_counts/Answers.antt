use Rattle.std.proofs.Common.{◌≡◌, ◌++◌, List, sym, subst, true, arith, append-nil, ◌∙◌}
use Rattle.std.proofs.lemmas.List.{at_drop_all}
use Rattle.cast_types.specs.declared.names.Proc.{Proc}
use Rattle.cast_types.specs.Counts.{is_counts}
use Rattle.cast_view.specs.MemberSide.{counts_by, greatest_of}
use Rattle.cast_view.proofs.Counting.{counts_of_few}
use Rattle.cast_view.proofs.member.greatest_counts.Goals as goal

-- at the end the entries are all counts, which are counts
pub from_entries-requires : goal.from_entries-requires
from_entries-requires c =
    let rest =
    at_drop_all (λ (ms : List Proc). c.loop-member.entries.items ++ counts_by (greatest_of c.args.had.now) ms)
    c.args.members.now c.loop-member.member-index (omega arith) in
    let whole : c.loop-member.entries.items ≡ counts_by (greatest_of c.args.had.now) c.args.members.now =
    sym (append-nil c.loop-member.entries.items) ∙ sym rest ∙ c.loop-member.invariant in
    subst (λ es. is_counts es ≡ true) (sym whole)
    (counts_of_few (greatest_of c.args.had.now) c.args.members.now c.requires.rising c.requires.few)
