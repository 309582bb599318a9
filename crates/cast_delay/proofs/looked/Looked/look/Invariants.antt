use Rattle.std.proofs.Common.{◌≡◌, ◌≤◌, take, Contains}
use Rattle.cast_ready.specs.declared.offered.Offered.{Offered}
use Rattle.cast_delay.specs.Waits.{IsKnown, IsWithin}
use Rattle.cast_delay.proofs.looked.Looked.look.Given as goal

-- those so far are known
abbrev pub invariant-loop-place : goal.invariant-loop-place
invariant-loop-place l =
    record {
      each : (o : Offered) → Contains (take l.place l.offered) o → IsKnown l.gates l.row l.self o;
      within : IsWithin l.self;
      above : l.above ≤ l.self.below;
      process : l.self.process ≡ l.fn.self.process;
    }
