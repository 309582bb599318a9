-- What one call of `read` came to, for the frame that is being read.
use Rattle.std.specs.Prelude.{◌≡◌, ◌≢◌, ℕ, List, [], ◌++◌, length, Option, Ok, Err}
use Rattle.std.specs.Io.KnownBytes.{Consumes, IsAtEnd}
use Rattle.cast_field.specs.declared.fault.FrameFault.TheVariants.{NoMemory}
use Rattle.cast_client.specs.declared.front.ClientRead.TheVariants as read
use Rattle.cast_client.specs.Reading.{client_of}
use Rattle.cast_session.specs.declared.frames.ReadStep.{ReadStep}
use Rattle.cast_session.specs.declared.frames.ReadStep.TheVariants.{Frame, Part, End, Fault}
use Rattle.cast_session.specs.declared.frames.ReadStep.TheVariants.{ReadFault}

-- what it is by all bytes of the frame that have come, and which bytes are kept for the next call
abbrev pub Added : ReadStep → List ℕ → List ℕ → Type 0
Added (Frame f) all kept = (n : ℕ) × (client_of all ≡ Ok (read.Frame f n)) × (kept ≡ [])
Added Part all kept = kept ≡ all
Added (Fault e) all kept = e ≢ NoMemory → client_of all ≡ Err e
Added End all kept = ⊥
Added ReadFault all kept = ⊥

-- the same by those of them that came in this call, and by what is left of the reader: a frame ends
-- with the last byte
abbrev pub CameTo : ReadStep → List ℕ → List ℕ → List ℕ → Option (List ℕ) → Type 0
CameTo (Frame f) all kept came left = (client_of all ≡ Ok (read.Frame f (length all))) × (kept ≡ [])
CameTo Part all kept came left = kept ≡ all
CameTo (Fault e) all kept came left = e ≢ NoMemory → client_of all ≡ Err e
CameTo End all kept came left = (came ≡ []) × (kept ≡ all) × IsAtEnd left
CameTo ReadFault all kept came left = came ≡ []

pub record HasRead (before left : Option (List ℕ)) (old kept : List ℕ)
    (step : ReadStep) : Type 0 where
  -- the bytes that came
  pub came : List ℕ
  pub consumed : Consumes before left came
  pub is : CameTo step (old ++ came) kept came left
