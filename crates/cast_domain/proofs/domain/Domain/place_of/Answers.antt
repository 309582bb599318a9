use Rattle.std.proofs.Common.{◌∙◌, ap}
use Rattle.cast_domain.specs.PartCalls.{place_among}
use Rattle.cast_domain.proofs.Places.{place_is_position}
use Rattle.cast_domain.proofs.domain.Domain.place_of.Goals as goal

pub returns-clause-place : goal.returns-clause-place
returns-clause-place c =
    c.place_among.ensures.place ∙ place_is_position c.args.group _ ∙ ap (place_among c.args.group) c.deref.ensures.value
