use Rattle.std.proofs.Common.{Some, ◌∙◌, sym, ap}
use Rattle.cast_message.specs.declared.client.CastKind.TheVariants as kinds
use Rattle.cast_message.specs.declared.client.Push.TheVariants as push
use Rattle.cast_rules.specs.Rules.Rest.{told_of}
use Rattle.cast_rest.proofs.rest.push_of.Goals as goal
use Rattle.cast_rest.proofs.rest.push_of.Goals.{in-Causal+in_ok-copy-in-Causal, in-Atomic+in_ok-copy-in-Atomic}

pub returns : goal.returns
returns c =
    let id = c.args.message.now.id in
    elim c.match-message.branch [
      | in-Causal+in_ok-copy-in-Causal w ↦
          ap (λ kind. Some (push.Deliver id kind.0 kind.1))
          (w.kind-is ∙ ap (λ payload. (kinds.Causal, payload)) w.in_ok-copy-in-Causal.ensures)
          ∙ sym (ap (told_of id) w.in-Causal.is)
      | in-Atomic+in_ok-copy-in-Atomic w ↦
          ap (λ kind. Some (push.Deliver id kind.0 kind.1))
          (w.kind-is ∙ ap (λ payload. (kinds.Atomic, payload)) w.in_ok-copy-in-Atomic.ensures)
          ∙ sym (ap (told_of id) w.in-Atomic.is)
    ]
