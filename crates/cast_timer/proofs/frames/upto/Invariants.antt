use Rattle.std.proofs.Common.{◌≡◌, true, false, None}
use Rattle.std.specs.Prelude.{is_some}
use Rattle.std.specs.List.{list_all, list_any}
use Rattle.cast_timer.specs.declared.key.OwedKey.{OwedKey}
use Rattle.cast_timer.specs.Owed.{is_upto}
use Rattle.cast_timer.specs.Index.{due_of}
use Rattle.cast_timer.proofs.frames.upto.Given as goal

-- what is still to be looked at is owed, and has each key that is asked for
abbrev pub invariant-loop-owed : goal.invariant-loop-owed
invariant-loop-owed l =
    (list_all (λ e. is_some (due_of l.dues.entries e.0)) l.owed-iterator ≡ true)
    × (list_any (λ e. is_upto l.key e.0) l.owed-iterator ≡ false → (q : OwedKey) → is_upto l.key q ≡ true → due_of l.dues.entries q ≡ None)
