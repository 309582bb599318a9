-- Which calls of a device fail, and what the notes of its calls tell.
use Rattle.std.specs.Prelude.{◌≡◌, ◌≢◌, ℕ, ◌≤◌, ◌⊎◌, true, Result, IsErrAnd, MatchResult}
use Rattle.std.specs.declared.io.Error.{Error}
use Rattle.std.specs.declared.io.ErrorKind.TheVariants.{Interrupted}
use Rattle.std.specs.IoError.{error_kind}
use Rattle.cast_device.specs.declared.watched.TheConstants.{PATIENCE}
use Rattle.cast_device.specs.declared.watched.Watched.{Watched}

-- the call was interrupted, and is to be made again
abbrev pub IsInterrupted : Result ℕ Error → Type 0
IsInterrupted r = IsErrAnd r (λ e. error_kind e ≡ Interrupted)

-- a call of `read` failed: an interruption is no failure
abbrev pub ReadFails : Result ℕ Error → Type 0
ReadFails r = IsErrAnd r (λ e. error_kind e ≢ Interrupted)

-- a call of `write` failed, as it also does where it takes no byte
abbrev pub WriteFails : Result ℕ Error → Type 0
WriteFails r = MatchResult r (λ n. n ≡ 0) (λ e. error_kind e ≢ Interrupted)

-- how many calls of `read` are noted
abbrev pub calls_of : {D : Type 0} → Watched D → ℕ
calls_of w = w.calls

-- how many calls of `write` in a row are noted as interrupted, up to the last one
abbrev pub interruptions_of : {D : Type 0} → Watched D → ℕ
interruptions_of w = w.interruptions

-- a call failed
abbrev pub HasFailed : {D : Type 0} → Watched D → Type 0
HasFailed w = w.has_failed ≡ true

-- a call failed, or as many calls of `read` were made as are made at most
abbrev pub HasFailedOrLasted : {D : Type 0} → Watched D → Type 0
HasFailedOrLasted w = HasFailed w ⊎ (calls_of w ≡ PATIENCE)

-- a call failed, or so many calls of `write` in a row were interrupted that no further one is made
abbrev pub HasFailedOrStalled : {D : Type 0} → Watched D → Type 0
HasFailedOrStalled w = HasFailed w ⊎ (PATIENCE ≤ interruptions_of w)
