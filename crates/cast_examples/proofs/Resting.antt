-- What it says of a script that nothing is left to be done behind its events.
use Rattle.std.specs.Prelude.{◌≡◌, ℕ, List, true}
use Rattle.cast_rules.specs.State.{State}
use Rattle.cast_rules.specs.Rest.{pass}
use Rattle.cast_rules.specs.AtRest.{is_at_rest}
use Rattle.cast_rules.proofs.Totals.{In}
use Rattle.cast_rules.proofs.Still.{computed_rest, in_all, quiet_stays}
use Rattle.cast_script.specs.Readings.{script_of}
use Rattle.cast_examples.specs.Printed.{rests, states_by}

-- a third pass changes nothing, so the two passes are the rest of the event
pub two_passes_are_enough : (text : List ℕ) → rests text ≡ true → (t : State) → In t (states_by (script_of text)) → pass t ≡ t
two_passes_are_enough text rest t behind = quiet_stays t (computed_rest t (in_all is_at_rest (states_by (script_of text)) rest t behind))
