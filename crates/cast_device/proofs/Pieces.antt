-- Pieces that are written one behind the other.
use Rattle.std.proofs.Common.{◌≡◌, ℕ, ◌+◌, ◌<◌, List, ◌++◌, length, drop, get_or, Option, refl, ap, ◌∙◌, add-one, drop-cons}
use Rattle.std.specs.List.{flat_map}
use Rattle.std.specs.Io.KnownBytes.{Appends}
use Rattle.cast_device.specs.Writing.{WrotePart}
use Rattle.cast_device.proofs.Written.{Wrote, wrote_piece, wrote_piece_part}

module _ {X : Type 0} (bytes_of : X → List ℕ) where
  -- those from the i-th on are to be written
  abbrev pub WroteTo : Option (List ℕ) → Option (List ℕ) → List X → ℕ → Type 0
  WroteTo old new pieces i = Wrote old new (flat_map bytes_of pieces) (flat_map bytes_of (drop i pieces))

  module _ (pieces : List X) (i : ℕ) (d : X) (lt : i < length pieces) where
    -- the i-th, and then those behind it
    parted : flat_map bytes_of (drop i pieces) ≡ bytes_of (get_or pieces i d) ++ flat_map bytes_of (drop (i + 1) pieces)
    parted = ap (λ ps. flat_map bytes_of ps) (drop-cons pieces i d lt) ∙ rw add-one refl

    pub wrote_next : {a b c : Option (List ℕ)} → WroteTo a b pieces i → Appends b c (bytes_of (get_or pieces i d)) →
        WroteTo a c pieces (i + 1)
    wrote_next w more = wrote_piece (bytes_of (get_or pieces i d)) (rw parted at w) more

    pub wrote_next_part : {a b c : Option (List ℕ)} → WroteTo a b pieces i → WrotePart b c (bytes_of (get_or pieces i d)) →
        WrotePart a c (flat_map bytes_of pieces)
    wrote_next_part w part = wrote_piece_part (bytes_of (get_or pieces i d)) (flat_map bytes_of (drop (i + 1) pieces)) (rw parted at w) part
