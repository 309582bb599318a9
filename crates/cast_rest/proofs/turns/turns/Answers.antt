use Rattle.std.proofs.Common.{◌≡◌, ◌∙◌, ◌+◌, [], ◌∷◌, ◌++◌, map, take, sym, ap}
use Rattle.std.proofs.lemmas.List.{map-append, take_more}
use Rattle.cast_types.specs.declared.names.GroupNo.{GroupNo}
use Rattle.cast_ready.specs.declared.turn.Turn.{Turn}
use Rattle.cast_domain.specs.declared.record.GroupRecord.{GroupRecord}
use Rattle.cast_domain.specs.Records.{records_in}
use Rattle.cast_domain.specs.RestCalls.{turn_at}
use Rattle.cast_rest.proofs.turns.turns.Goals as goal

pub loop-record-preserved : goal.loop-record-preserved
loop-record-preserved c =
    let f : GroupRecord → GroupNo × Turn = λ x. (x.name, turn_at (records_in c.args.domain.now c.args.lent.now) c.args.process x) in
    let i = c.loop-record.record-index in
    let items = c.as_slice-record-items.result.now in
    let x = c.record-item.result in
    let more : take i items ++ x ∷ [] ≡ take (i + 1) items =
    ap (λ y. take i items ++ y ∷ []) c.record-item.is ∙ sym (take_more items i x c.loop-record-test.true) in
    c.in_ok-push.ensures.items
    ∙ (λ j. c.loop-record.invariant j ++ (x.name, c.turn.ensures j) ∷ [])
    ∙ sym (map-append f (take i items) (x ∷ []))
    ∙ ap (map f) more
