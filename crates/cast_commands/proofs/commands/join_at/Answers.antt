use Rattle.std.proofs.Common.{◌≡◌, ◌+◌, ◌∙◌, sym, ap, false, true, None, arith}
use Rattle.std.specs.Prelude.{◌==◌}
use Rattle.std.proofs.lemmas.Bool.Decides.{nat_tests}
use Rattle.cast_types.specs.declared.limits.TheConstants.{MAX_NUMBER}
use Rattle.cast_types.specs.declared.names.Standing.TheVariants.{Joining}
use Rattle.cast_clock.specs.Times.{view_of}
use Rattle.cast_message.specs.declared.site.Change.TheVariants as change
use Rattle.cast_ready.specs.Ready.{is_outside}
use Rattle.cast_ready.specs.declared.row.ProcessUpdate.TheVariants as fact
use Rattle.cast_rules.specs.Rules.Asking.{request}
use Rattle.cast_domain.specs.Records.{records_in}
use Rattle.cast_domain.specs.PartCalls.{record_at, tell_in, standing_of, time_of, local_in}
use Rattle.cast_domain.specs.Calls.{records}
use Rattle.cast_domain.proofs.Attempts.{join_made}
use Rattle.cast_domain.proofs.Loops.{seen_as}
use Rattle.cast_commands.proofs.commands.join_at.Goals as goal

pub returns-clause-made : goal.returns-clause-made
returns-clause-made c =
    let r = records_in c.args.domain.now c.args.lent.now in
    let k = c.args.serial in
    let i = c.args.place in
    let g = c.args.group in
    let p : c.process-process.result ≡ local_in r k = c.process-process.ensures in
    let asked : c.request_count-asked.result ≡ (record_at r.groups i).here.asked =
    c.request_count-asked.ensures ∙ ap (λ x. x.here.asked) c.record.ensures in
    let heard : c.heard.result ≡ view_of (time_of r.delay (local_in r k)) g = c.heard.ensures ∙ ap (λ q. view_of (time_of r.delay q) g) p in
    let below : (c.request_count-asked.result == MAX_NUMBER) ≡ false = grind (arith, nat_tests) in
    let outside : is_outside (standing_of r.delay (local_in r k) g) ≡ true =
    ap is_outside (sym (c.standing.ensures.value ∙ ap (λ q. standing_of r.delay q g) p) ∙ c.in-Outside.is) in
    ap (λ x. (x, None))
    (c.in_ok-request.ensures.made
    ∙ ap (λ x. request records x i change.Join c.process-process.result)
    (seen_as c.args.domain.now c.tell.new.self c.in_ok-tell.ensures.kept c.args.lent.now.shared.now c.args.lent.now.outs.now
    ∙ c.in_ok-tell.ensures.made c.args.lent.now.outs.now r.part)
    ∙ λ j. request records (tell_in r (p j) (fact.Standing g (Joining (asked j + 1) (heard j)))) i change.Join (p j))
    ∙ sym (join_made r k g i outside (sym (ap (λ n. n == MAX_NUMBER) asked) ∙ below))
