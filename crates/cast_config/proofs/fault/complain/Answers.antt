use Rattle.std.proofs.Common.{◌≡◌, false, refl}
use Rattle.cast_config.specs.declared.fault.Cause.{Cause}
use Rattle.cast_config.specs.declared.fault.Cause.TheVariants as cause
use Rattle.cast_config.specs.Faults.{is_memory, is_memory_cause}
use Rattle.cast_config.proofs.fault.complain.Goals as goal

is_other : (c : Cause) → (c ≡ cause.NoMemory → ⊥) → is_memory_cause c ≡ false
is_other cause.NoMemory other = absurd (other refl)
is_other c other = refl

pub returns-in_default : goal.returns-in_default
returns-in_default g c =
    let other : is_memory c.args.fault ≡ false = is_other c.args.fault.cause c.in_default.not-NoMemory in
    record {
      status = rw other refl;
      told = rw other (rw (c.name-field.ensures, c.text-why.ensures) at c.tell-in_default.ensures);
    }
