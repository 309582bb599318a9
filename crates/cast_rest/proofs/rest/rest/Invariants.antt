use Rattle.cast_rules.specs.State.{State}
use Rattle.cast_rules.specs.Rest.{pass}
use Rattle.cast_rules.specs.Lawful.{IsLawful}
use Rattle.cast_domain.specs.Fits.{Fits, AreDismissed}
use Rattle.cast_domain.specs.Records.{KeepsBeside, records_in}
use Rattle.cast_types.proofs.Iterates.{Led}
use Rattle.cast_domain.proofs.Passes.{Stands}
use Rattle.cast_domain.specs.Freed.{AreNotFree}
use Rattle.cast_rest.proofs.rest.rest.Given as goal

-- some number of passes has led to what the records stand for
abbrev pub invariant-loop-turn : goal.invariant-loop-turn
invariant-loop-turn l = record {
  stays : KeepsBeside l.fn.domain l.fn.lent l.domain l.lent;
  clear : AreNotFree (records_in l.fn.domain l.fn.lent) → AreNotFree (records_in l.domain l.lent);
  dismissed : AreNotFree (records_in l.fn.domain l.fn.lent) → AreDismissed (records_in l.fn.domain l.fn.lent) →
      AreDismissed (records_in l.domain l.lent);
  led : AreNotFree (records_in l.fn.domain l.fn.lent) → (s : State) → Fits (records_in l.fn.domain l.fn.lent) s → IsLawful s →
      Led Stands pass (records_in l.domain l.lent) s;
}
