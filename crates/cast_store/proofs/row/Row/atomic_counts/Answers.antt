use Rattle.std.proofs.Common.{None, sym, ◌∙◌}
use Rattle.std.proofs.lemmas.Bool.{true≢false}
use Rattle.cast_store.proofs.Ids.{range_received, none_received}
use Rattle.cast_store.proofs.row.Row.atomic_counts.Goals as goal

pub returns-then-is_empty-clause-none : goal.returns-then-is_empty-clause-none
returns-then-is_empty-clause-none c =
    let s = c.self.inside in
    let empty = c.is_empty.ensures.empty c.if-is_empty.true in
    rw (← c.self.view_is) (none_received s.ids.abcasts s.receipts.items c.args.source None c.self.invariant.abcasts
    (λ u k there. absurd (true≢false (sym there ∙ empty u k))))

pub returns-clause-some : goal.returns-clause-some
returns-clause-some c =
    let s = c.self.inside in
    rw (← c.self.view_is)
    (range_received s.ids.abcasts s.receipts.items c.args.source c.count_range.result c.self.invariant.abcasts c.count_range.ensures.some)

pub returns-clause-none : goal.returns-clause-none
returns-clause-none c =
    let s = c.self.inside in
    rw (← c.self.view_is)
    (none_received s.ids.abcasts s.receipts.items c.args.source c.count_range.result c.self.invariant.abcasts c.count_range.ensures.none)
