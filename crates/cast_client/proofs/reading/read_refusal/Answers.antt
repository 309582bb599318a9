use Rattle.std.proofs.Common.{refl, sym, ◌∙◌}
use Rattle.cast_client.specs.Reading.{refusal_at, named_refusal}
use Rattle.cast_client.proofs.reading.read_refusal.Goals as goal

pub returns-in-Some : goal.returns-in-Some
unfolding refusal_at named_refusal
returns-in-Some c = rw (c.in_ok-number.ensures, sym c.from_number.ensures ∙ c.in-Some.is) refl

pub returns-in-None : goal.returns-in-None
unfolding refusal_at named_refusal
returns-in-None c = λ other. rw (c.in_ok-number.ensures, sym c.from_number.ensures ∙ c.in-None.is) refl
