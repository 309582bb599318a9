-- What was read of a program and not handed on.
use Rattle.std.specs.Prelude.{◌≡◌, ℕ, ◌<◌, List, [], ◌++◌, length, take, Option}
use Rattle.std.specs.Io.KnownBytes.{Consumes, IsAtEnd}
use Rattle.cast_session.specs.declared.ahead.Ahead.{Ahead}
use Rattle.cast_session.specs.declared.ahead.Filled.{Filled}
use Rattle.cast_session.specs.declared.ahead.Filled.TheVariants.{More, End, ReadFault}

abbrev pub bytes_of : Ahead → List ℕ
bytes_of a = take a.len a.room.items

-- there is room behind the bytes
abbrev pub HasRoom : Ahead → Type 0
HasRoom a = a.len < length a.room.items

-- by the bytes that came, and by what is left of the reader
abbrev pub CameAs : Filled → List ℕ → Option (List ℕ) → Type 0
CameAs More came left = Unit {0}
CameAs End came left = (came ≡ []) × IsAtEnd left
CameAs ReadFault came left = came ≡ []

-- bytes came behind the old ones
pub record IsFilled (before left : Option (List ℕ)) (old new : List ℕ)
    (filled : Filled) : Type 0 where
  pub came : List ℕ
  pub consumed : Consumes before left came
  pub behind : new ≡ old ++ came
  pub as_said : CameAs filled came left
