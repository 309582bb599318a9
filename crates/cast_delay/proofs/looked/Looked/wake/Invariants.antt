use Rattle.std.proofs.Common.{◌≡◌, ◌<◌, Contains}
use Rattle.cast_ready.specs.declared.offered.Offered.{Offered}
use Rattle.cast_delay.specs.Waits.{IsWaking, IsWithin}
use Rattle.cast_delay.proofs.looked.Looked.wake.Given as goal

-- what is not known is filed under the id still
abbrev pub invariant-loop-turn : goal.invariant-loop-turn
invariant-loop-turn l =
    record {
      each : (o : Offered) → Contains l.offered o → o.key.0 < l.self.below → IsWaking l.gates l.row l.id l.self o;
      within : IsWithin l.self;
      process : l.self.process ≡ l.fn.self.process;
    }
