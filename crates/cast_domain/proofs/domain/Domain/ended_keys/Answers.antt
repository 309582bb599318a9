use Rattle.std.proofs.Common.{Global, Vec, sym, ap, ◌∙◌}
use Rattle.cast_types.specs.declared.names.Key.{Key}
use Rattle.cast_message.specs.declared.message.Received.{Received}
use Rattle.cast_domain.specs.Records.{own_records}
use Rattle.cast_domain.specs.ReleaseCalls.{is_ended_in}
use Rattle.cast_domain.proofs.Behind.{keys_found, keys_more}
use Rattle.cast_domain.proofs.domain.Domain.ended_keys.Goals as goal
use Rattle.cast_domain.proofs.domain.Domain.ended_keys.Goals.{then-is_ended+in_ok-push, else-is_ended}

pub loop-position-preserved : goal.loop-position-preserved
loop-position-preserved c =
    let r : Received = record { key = c.at.result.0; message = c.at.result.1.now } in
    let passes = is_ended_in (own_records c.args.self.now) c.args.place in
    let kept = c.args.kept.now in
    let i = c.loop-position.position in
    let ended = c.loop-position.ended.items in
    elim c.if-is_ended.branch [
      | then-is_ended+in_ok-push w ↦
          keys_found passes kept i r c.at.ensures ended c.loop-position.invariant c.if-is_ended.ended.items
          (ap (λ (v : Vec Key Global). v.items) w.ended-is ∙ w.in_ok-push.ensures.items) (sym w.if-is_ended.ensures)
      | else-is_ended w ↦
          keys_more passes kept i r c.at.ensures ended c.loop-position.invariant c.if-is_ended.ended.items
          (ap (λ (v : Vec Key Global). v.items) w.ended-is) (sym w.if-is_ended.ensures)
    ]
