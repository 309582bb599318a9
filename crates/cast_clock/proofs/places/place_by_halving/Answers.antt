use Rattle.std.proofs.Common.{rules}
use Rattle.std.proofs.lemmas.List.Sorted.{answers_always}
use Rattle.cast_clock.proofs.places.place_by_halving.Goals as goal

pub returns-clause-position : goal.returns-clause-position
returns-clause-position g c =
    c.binary_search_by_key.ensures.position (λ (e : g.row.K.Denot × g.row.V.Denot). e.0)
    (answers_always _ _ _ (λ f a r h called. search rules))
