use Rattle.cast_sending.proofs.HeldBack.{seven_are_held_back_at_most, known_is_what_happened}
use Rattle.cast_sending.proofs.laws.none_is_held_back_for_ever.Goals as goal

pub returns-clause-seven : goal.returns-clause-seven
returns-clause-seven c = seven_are_held_back_at_most

pub returns-clause-known : goal.returns-clause-known
returns-clause-known c = known_is_what_happened
