use Rattle.std.proofs.Common.{rules, ◌≡◌, ◌++◌, length, drop, ap, sym, ◌∙◌}
use Rattle.std.proofs.lemmas.List.{take-append-drop}
use Rattle.cast_link.proofs.Packs.{all_carried, few_carried, one_more}
use Rattle.cast_link.proofs.packing.datagrams_with.Goals as goal

pub loop-rest-preserved : goal.loop-rest-preserved
loop-rest-preserved c =
    let rest = c.loop-rest.rest.now in
    let own = c.split_at.result.0.now in
    let others = c.split_at.result.1.now in
    let are : rest ≡ own ++ others =
    sym (take-append-drop c.fitting_count.result rest)
    ∙ (ap (λ l. l ++ drop c.fitting_count.result rest) (sym c.split_at.ensures.front)
    ∙ ap (λ l. own ++ l) (sym c.split_at.ensures.back)) in
    rw c.in_ok-push.ensures.items
    (one_more c.args.most c.loop-rest.datagrams.items rest c.args.frames.now own others c.in_ok-datagram_with.field-0 c.loop-rest.invariant
    are c.in_ok-datagram_with.ensures)

pub returns-clause-carried : goal.returns-clause-carried
returns-clause-carried c =
    let none : length c.loop-rest.rest.now ≡ 0 = search rules in
    all_carried c.args.most c.loop-rest.datagrams.items c.loop-rest.rest.now c.args.frames.now c.loop-rest.invariant none

pub returns-clause-few : goal.returns-clause-few
returns-clause-few c =
    let none : length c.loop-rest.rest.now ≡ 0 = search rules in
    few_carried c.args.most c.loop-rest.datagrams.items c.args.frames.now
    (all_carried c.args.most c.loop-rest.datagrams.items c.loop-rest.rest.now c.args.frames.now c.loop-rest.invariant none)
