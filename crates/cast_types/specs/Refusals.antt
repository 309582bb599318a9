-- The numbers of refusals.
use Rattle.std.specs.Prelude.{ℕ, zero, suc, List, [], ◌∷◌, Option, None, slice_get}
use Rattle.cast_types.specs.declared.refusal.Refusal.{Refusal}
use Rattle.cast_types.specs.declared.refusal.Refusal.TheVariants.{BadFrame, NotOpen}
use Rattle.cast_types.specs.declared.refusal.Refusal.TheVariants.{TooManySessions, NoGroup}
use Rattle.cast_types.specs.declared.refusal.Refusal.TheVariants.{NotMember, AlreadyMember}
use Rattle.cast_types.specs.declared.refusal.Refusal.TheVariants.{Flushing, OwnAbcast, HeldFull}
use Rattle.cast_types.specs.declared.refusal.Refusal.TheVariants.{TooLong, NotHolder, Slow}
use Rattle.cast_types.specs.declared.refusal.Refusal.TheVariants.{Halted, GroupFull, OutOfRange}

abbrev pub refusal_code : Refusal → ℕ
refusal_code BadFrame = 1
refusal_code NotOpen = 2
refusal_code TooManySessions = 3
refusal_code NoGroup = 4
refusal_code NotMember = 5
refusal_code AlreadyMember = 6
refusal_code Flushing = 7
refusal_code OwnAbcast = 8
refusal_code HeldFull = 9
refusal_code TooLong = 10
refusal_code NotHolder = 11
refusal_code Slow = 12
refusal_code Halted = 13
refusal_code GroupFull = 14
refusal_code OutOfRange = 15

-- all refusals, by their numbers from 1 on
abbrev pub refusals : List Refusal
refusals =
    BadFrame ∷ NotOpen ∷ TooManySessions ∷ NoGroup ∷ NotMember ∷ AlreadyMember ∷ Flushing
    ∷ OwnAbcast ∷ HeldFull
    ∷ TooLong ∷ NotHolder ∷ Slow ∷ Halted ∷ GroupFull ∷ OutOfRange ∷ []

-- the refusal of a number, none where no refusal has it
abbrev pub refusal_numbered : ℕ → Option Refusal
refusal_numbered zero = None
refusal_numbered (suc n) = slice_get refusals n
