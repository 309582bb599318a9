use Rattle.std.proofs.Common.{subst, ap, ◌∙◌, arith}
use Rattle.cast_field.specs.Reading.{Gives}
use Rattle.cast_client.specs.Reading.{client_of}
use Rattle.cast_client.proofs.Fronts.{is_found, client_again, part_wants}
use Rattle.cast_client.proofs.reading.decode_client.Goals as goal

pub returns-clause-found : goal.returns-clause-found
returns-clause-found c = is_found c.args.bytes.now c.read_front.result (λ i. omega (arith, c.type_inv.bytes i)) c.read_front.ensures

pub returns-clause-only : goal.returns-clause-only
returns-clause-only c =
    λ f rest is e. subst (λ r. Gives c.read_front.result r) (ap client_of e ∙ client_again f rest is) c.read_front.ensures

pub returns-clause-more : goal.returns-clause-more
returns-clause-more c =
    λ f k is less e. subst (λ r. Gives c.read_front.result r) (ap client_of e ∙ part_wants f k is less) c.read_front.ensures
