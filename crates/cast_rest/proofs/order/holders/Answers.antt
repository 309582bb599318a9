use Rattle.std.proofs.Common.{◌∙◌, ◌<◌, ◌≤◌, sym, ap, length, subst}
use Rattle.std.specs.Prelude.{get_or}
use Rattle.cast_events.specs.Outs.{no_outs}
use Rattle.cast_order.specs.Log.{log_of}
use Rattle.cast_domain.specs.Shared.{no_part}
use Rattle.cast_domain.specs.Records.{records_of}
use Rattle.cast_domain.proofs.Gathering.{one_gathered, all_gathered}
use Rattle.cast_rest.proofs.order.holders.Goals as goal

pub loop-hand-preserved : goal.loop-hand-preserved
loop-hand-preserved c =
    let r = records_of c.args.domain.now no_part no_outs in
    let hands = (log_of c.args.domain.now.orders c.args.group).hands in
    let i = c.loop-hand.hand-index in
    let is = c.hands-hand-items.ensures in
    one_gathered r hands c.loop-hand.holders.items c.add_holder.new.holders.items i c.hand-item.result
    (subst (λ hs. i < length hs) is c.loop-hand-test.true) (c.hand-item.is ∙ ap (λ hs. get_or hs i c.hand-item.result) is)
    c.in_ok-add_holder.ensures
    ∙ c.loop-hand.invariant

pub returns : goal.returns
returns c =
    let r = records_of c.args.domain.now no_part no_outs in
    let hands = (log_of c.args.domain.now.orders c.args.group).hands in
    let past : length hands ≤ c.loop-hand.hand-index =
    subst (λ hs. length hs ≤ c.loop-hand.hand-index) c.hands-hand-items.ensures c.loop-hand-test.false in
    sym (all_gathered r hands c.loop-hand.holders.items c.loop-hand.hand-index past) ∙ c.loop-hand.invariant
