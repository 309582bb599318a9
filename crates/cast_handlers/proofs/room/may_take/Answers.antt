use Rattle.std.proofs.Common.{◌≡◌, ◌∙◌, sym, ap, false, inl, inr}
use Rattle.std.specs.Prelude.{if◌then◌else◌}
use Rattle.cast_types.specs.Names.{is_order}
use Rattle.cast_message.specs.Bodies.{kind_of}
use Rattle.cast_rules.specs.Rules.Room.{may_order, may_receive}
use Rattle.cast_domain.specs.Records.{records_in}
use Rattle.cast_domain.specs.Calls.{records}
use Rattle.cast_handlers.proofs.room.may_take.Goals as goal

pub returns-in-Order : goal.returns-in-Order
returns-in-Order c =
    let r = records_in c.args.domain.now c.args.lent.now in
    c.has_order_room.ensures
    ∙ sym (ap (λ k. if is_order k then may_order records r else may_receive records r) (sym c.kind.ensures ∙ c.in-Order.is))

pub returns-in-Causal : goal.returns-in-Causal
returns-in-Causal c =
    let r = records_in c.args.domain.now c.args.lent.now in
    let other : is_order (kind_of c.args.body.now) ≡ false = elim c.in-Causal.is [
      | inl causal ↦ ap is_order (sym c.kind.ensures ∙ causal)
      | inr atomic ↦ ap is_order (sym c.kind.ensures ∙ atomic)
    ] in
    c.has_room.ensures ∙ sym (ap (λ b. if b then may_order records r else may_receive records r) other)
