use Rattle.std.proofs.Common.{◌≡◌, ◌++◌, ◌∙◌, length, get_or, take, sym, ap, subst, arith}
use Rattle.std.proofs.lemmas.List.{length-append}
use Rattle.cast_table.specs.Tables.{AreTurns, lending, halted_in_turn}
use Rattle.cast_table.proofs.Turns.{Turned, turned_none, turned_more, turned_all, written}
use Rattle.cast_table.proofs.table.turns.Goals as goal

pub loop-domain-init : goal.loop-domain-init
loop-domain-init c = (
  subst (λ news. Turned c.args.event.now c.args.domains.now.items news 0 (lending c.args.shared.now c.args.outs.now c.args.halted.now.items)
      (lending c.args.shared.now c.args.outs.now c.args.halted.now.items)) (sym c.deref_mut-domain-items.ensures.value)
      (turned_none c.args.event.now c.args.domains.now.items (lending c.args.shared.now c.args.outs.now c.args.halted.now.items)),
  omega arith,
)

pub turn-requires : goal.turn-requires
turn-requires c =
    let turned = c.loop-domain.invariant.0 in
    let room = c.loop-domain.invariant.1 in
    let sizes =
    ap length turned.noted
    ∙ length-append c.args.halted.now.items (halted_in_turn (take c.loop-domain.domain-index c.args.domains.now.items)
    (take c.loop-domain.domain-index c.loop-domain.domain-items)) in
    let few = turned.few in
    let all = ap length c.deref_mut-domain-items.ensures.value in
    omega (arith, sizes, few, room, all, c.requires.room, c.loop-domain-test.true, c.args.domains.now.ok.0)

pub loop-domain-preserved : goal.loop-domain-preserved
loop-domain-preserved c =
    let all = ap length c.deref_mut-domain-items.ensures.value in
    let long : length c.loop-domain.domain-items ≡ length c.args.domains.now.items = c.loop-domain.auto.domain-items ∙ all in
    let room = c.loop-domain.invariant.1 in (
      turned_more c.args.event.now c.args.domains.now.items c.loop-domain.domain-items c.loop-domain.domain-index _ _
          (omega (arith, c.loop-domain-test.true, c.loop-domain.auto.domain-items)) long c.loop-domain.invariant.0
          (get_or c.loop-domain.domain-items c.loop-domain.domain-index c.domain-item.result) c.turn.new.domain c.turn.result _
          (ap (λ d. get_or c.loop-domain.domain-items c.loop-domain.domain-index d) c.domain-item.is)
          (c.turn.ensures.unnamed c.requires.unnamed) c.turn.ensures.turn
          c.turn.ensures.noted,
      omega (arith, room, c.turn.ensures.room),
    )

pub returns-clause-turns : goal.returns-clause-turns
returns-clause-turns c =
    let all = ap length c.deref_mut-domain-items.ensures.value in
    let long : length c.loop-domain.domain-items ≡ length c.args.domains.now.items = c.loop-domain.auto.domain-items ∙ all in
    subst
    (λ news. AreTurns c.args.event.now c.args.domains.now.items news (lending c.args.shared.now c.args.outs.now c.args.halted.now.items)
    (lending c.loop-domain.shared c.loop-domain.outs c.loop-domain.halted.items))
    (sym (written c.loop-domain.domain-items c.args.domains.now.items c.args.domains.now.len long c.args.domains.now.ok.0))
    (turned_all c.args.event.now c.args.domains.now.items c.loop-domain.domain-items c.loop-domain.domain-index _ _ long
    (omega (arith, c.loop-domain-test.false, c.loop-domain.auto.domain-items)) c.loop-domain.invariant.0).0

pub returns-clause-noted : goal.returns-clause-noted
returns-clause-noted c =
    let all = ap length c.deref_mut-domain-items.ensures.value in
    let long : length c.loop-domain.domain-items ≡ length c.args.domains.now.items = c.loop-domain.auto.domain-items ∙ all in
    (turned_all c.args.event.now c.args.domains.now.items c.loop-domain.domain-items c.loop-domain.domain-index _ _ long
    (omega (arith, c.loop-domain-test.false, c.loop-domain.auto.domain-items)) c.loop-domain.invariant.0).1
    ∙ ap (λ news. c.args.halted.now.items ++ halted_in_turn c.args.domains.now.items news)
    (sym (written c.loop-domain.domain-items c.args.domains.now.items c.args.domains.now.len long c.args.domains.now.ok.0))
