-- What owing and paying mean for each frame.
use Rattle.std.specs.Prelude.{◌≡◌, ◌≢◌, ℕ, true, false, List}
use Rattle.cast_timer.specs.declared.key.OwedKey.{OwedKey}
use Rattle.cast_timer.specs.declared.key.Owed.{Owed}
use Rattle.cast_timer.specs.Owed.{key_eq, is_owed, with_owed, paid}

abbrev pub OwingOwes : Type 0
OwingOwes =
    (owed : List Owed) (key : OwedKey) (due : ℕ) → is_owed (with_owed owed key due) key ≡ true

abbrev pub OwingLeaves : Type 0
OwingLeaves =
    (owed : List Owed) (key other : OwedKey) (due : ℕ) → other ≢ key
    → is_owed (with_owed owed key due) other ≡ is_owed owed other

abbrev pub PayingPays : Type 0
PayingPays = (owed : List Owed) (key : OwedKey) → is_owed (paid (key_eq key) owed) key ≡ false

abbrev pub PayingLeaves : Type 0
PayingLeaves =
    (owed : List Owed) (key other : OwedKey) → other ≢ key
    → is_owed (paid (key_eq key) owed) other ≡ is_owed owed other
