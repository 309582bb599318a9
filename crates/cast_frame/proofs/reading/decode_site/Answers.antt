use Rattle.std.proofs.Common.{subst, ap, ◌∙◌, arith}
use Rattle.cast_field.specs.Reading.{Gives}
use Rattle.cast_frame.specs.Reading.{site_frame_of}
use Rattle.cast_frame.proofs.Sizes.{is_found, spelled_is_read}
use Rattle.cast_frame.proofs.reading.decode_site.Goals as goal

pub returns-clause-found : goal.returns-clause-found
returns-clause-found c = is_found c.args.bytes.now c.read_all.result (λ i. omega (arith, c.type_inv.bytes i)) c.read_all.ensures

pub returns-clause-only : goal.returns-clause-only
returns-clause-only c =
    λ d s f is e. subst (λ r. Gives c.read_all.result r) (ap site_frame_of e ∙ spelled_is_read d s f is) c.read_all.ensures
