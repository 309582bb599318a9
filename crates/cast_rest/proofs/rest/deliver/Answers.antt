use Rattle.std.proofs.Common.{◌≡◌, ◌∙◌}
use Rattle.cast_rules.specs.Rules.Rest.{tell_if}
use Rattle.cast_domain.specs.Records.{records_in, records_of}
use Rattle.cast_domain.specs.Calls.{records}
use Rattle.cast_domain.specs.RestCalls.{note_weight_in, take_delivery_in}
use Rattle.cast_domain.proofs.Loops.{keeps_then, seen_as}
use Rattle.cast_rest.proofs.rest.deliver.Goals as goal

pub returns-clause-made : goal.returns-clause-made
returns-clause-made c =
    let d = c.args.domain.now in
    let r = records_in d c.args.lent.now in
    let p = c.args.process in
    let key = c.args.key in
    let v = c.args.delivery in
    let shared = c.args.lent.now.shared.now in
    let after = c.take_delivery.new.outs in
    let kept = keeps_then _ _ _ c.in_ok-take_delivery.ensures.same c.in_ok-note_weight.ensures.same in
    let taken : records_of c.take_delivery.new.domain r.part after ≡ take_delivery_in r p key v.id =
    c.in_ok-take_delivery.ensures.made r.part in
    let noted : records_of c.note_weight.new.domain r.part after ≡ note_weight_in v.weight (take_delivery_in r p key v.id) p v.id =
    c.in_ok-note_weight.ensures.made after r.part ∙ (λ j. note_weight_in v.weight (taken j) p v.id) in
    c.in_ok-push_delivery.ensures.made
    ∙ (λ j. tell_if records ((seen_as d c.note_weight.new.domain kept shared after ∙ noted) j) p.serial v.push)
