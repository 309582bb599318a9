-- What the spellings of frames between a program and its daemon promise.
use Rattle.std.specs.Prelude.{ℕ, ◌≡◌, ◌≤◌, ◌<◌, ◌-◌, IsTrue, List, ◌++◌, length, take, Ok, Err}
use Rattle.cast_field.specs.declared.fault.FrameFault.{FrameFault}
use Rattle.cast_message.specs.declared.client.ClientFrame.{ClientFrame}
use Rattle.cast_client.specs.declared.front.ClientRead.TheVariants.{Frame, More}
use Rattle.cast_client.specs.Spelling.{spelled_client}
use Rattle.cast_client.specs.Reading.{client_of}
use Rattle.cast_client.specs.Spelled.{IsClient, wanting}
use Rattle.cast_message.specs.Fitting.{client_fits}

-- a frame is read from its spelling, whatever comes behind it
abbrev pub ClientIsRead : Type 0
ClientIsRead =
    (f : ClientFrame) (rest : List ℕ) → IsClient f
    → client_of (spelled_client f ++ rest) ≡ Ok (Frame f (length (spelled_client f)))

-- different frames have different spellings, and none is the beginning of another
abbrev pub ClientSpellingsDiffer : Type 0
ClientSpellingsDiffer =
    (f g : ClientFrame) (rest more : List ℕ) → IsClient f → IsClient g
    → spelled_client f ++ rest ≡ spelled_client g ++ more → (f ≡ g) × (rest ≡ more)

-- a part of a spelling wants the rest of its length, and then the rest of itself
abbrev pub PartWantsTheRest : Type 0
PartWantsTheRest =
    (f : ClientFrame) (k : ℕ) → IsClient f → k < length (spelled_client f)
    → client_of (take k (spelled_client f)) ≡ Ok (More (wanting f k))

-- a frame that was read stays read when more bytes come
abbrev pub FrameStays : Type 0
FrameStays =
    (bytes more : List ℕ) (f : ClientFrame) (n : ℕ) → client_of bytes ≡ Ok (Frame f n)
    → client_of (bytes ++ more) ≡ Ok (Frame f n)

-- and so does a fault
abbrev pub FaultStays : Type 0
FaultStays =
    (bytes more : List ℕ) (e : FrameFault) → client_of bytes ≡ Err e
    → client_of (bytes ++ more) ≡ Err e

-- no frame and no fault stands there before all bytes that are wanting have come
abbrev pub WantingStays : Type 0
WantingStays =
    (bytes more : List ℕ) (n : ℕ) → client_of bytes ≡ Ok (More n) → length more < n
    → client_of (bytes ++ more) ≡ Ok (More (n - length more))

-- a spelling has 5 to 20,000 bytes
pub record FitsAFrame (bytes : List ℕ) : Type 0 where
  pub least : 5 ≤ length bytes
  pub most : length bytes ≤ 20000

abbrev pub ClientFits : Type 0
ClientFits = (f : ClientFrame) → IsClient f → FitsAFrame (spelled_client f) × IsTrue (client_fits f)
