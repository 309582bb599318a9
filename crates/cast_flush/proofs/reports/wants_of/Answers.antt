use Rattle.std.proofs.Common.{ℕ, ◌++◌, List, take, sym, ap, ◌∙◌, append-nil}
use Rattle.std.specs.List.{filter_map}
use Rattle.std.proofs.lemmas.List.{at_drop_all, take_min}
use Rattle.cast_types.specs.Names.{Entry}
use Rattle.cast_flush.specs.Reports.{want_of}
use Rattle.cast_flush.proofs.reports.wants_of.Goals as goal

-- at the end the wants are those of all ids of the part
pub returns : goal.returns
returns c =
    let part : List Entry = take c.min.result c.args.wanting.now in
    let rest =
    at_drop_all (λ (es : List Entry). c.loop-id.wants.items ++ filter_map (want_of c.args.reports.now) es)
    part c.loop-id.id-index c.loop-id-test.false in
    c.from_vec.ensures
    ∙ sym (append-nil c.loop-id.wants.items)
    ∙ sym rest
    ∙ c.loop-id.invariant
    ∙ ap (λ (n : ℕ). filter_map (want_of c.args.reports.now) (take n c.args.wanting.now)) c.min.ensures
    ∙ ap (filter_map (want_of c.args.reports.now)) (take_min 64 c.args.wanting.now)
