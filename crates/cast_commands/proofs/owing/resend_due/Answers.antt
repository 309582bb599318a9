use Rattle.std.proofs.Common.{◌≡◌, refl, ap, ◌∙◌}
use Rattle.std.specs.List.{fold}
use Rattle.std.proofs.lemmas.Result.{on_ok_weaker}
use Rattle.cast_timer.specs.Owed.{due_at}
use Rattle.cast_rules.specs.Rules.Owing.{send_for}
use Rattle.cast_domain.specs.Shared.{Part, part_renewing_due}
use Rattle.cast_domain.specs.Records.{records_in}
use Rattle.cast_domain.specs.Calls.{records}
use Rattle.cast_domain.proofs.Resending.{resent}
use Rattle.cast_commands.proofs.owing.resend_due.Goals as goal

pub returns-clause-made : goal.returns-clause-made
returns-clause-made c =
    let d = c.args.domain.now in
    let was = records_in d c.args.lent.now in
    let sent = records_in d c.send_all.new.lent in
    let all : sent ≡ fold (send_for records) was (due_at was.moment was.part.owed) =
    c.in_ok-send_all.ensures.made
    ∙ ap (fold (send_for records) was) (c.in_ok-keys.ensures.value ∙ (λ i. due_at (c.millis-now.ensures i) was.part.owed)) in
    on_ok_weaker c.renew_due.result
    (λ is.
    ap (λ (p : Part). record sent { part = p }) (is ∙ (λ i. part_renewing_due sent.part (c.millis-now.ensures i) (c.next_due.ensures i)))
    ∙ resent was sent all refl)
    c.renew_due.ensures.part
