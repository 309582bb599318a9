use Rattle.std.proofs.Common.{◌∙◌, sym, ap}
use Rattle.std.proofs.lemmas.Result.{on_ok_weaker}
use Rattle.cast_domain.specs.Records.{records_of}
use Rattle.cast_domain.specs.RestCalls.{note_weight_in}
use Rattle.cast_rest.proofs.rest.note_weight.Goals as goal

pub returns-in-Hands-clause-made : goal.returns-in-Hands-clause-made
returns-in-Hands-clause-made c =
    on_ok_weaker c.take_token.result
    (λ made o part. made o part
    ∙ ap (λ w. note_weight_in w (records_of c.args.domain.now part o) c.args.process c.args.id) (sym c.in-Hands.is))
    c.take_token.ensures.made
