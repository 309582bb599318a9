-- Bundles: a second form of a datagram, with several frames of one site.
use Rattle.std.specs.Prelude.{◌≡◌, ◌≢◌, ◌+◌, ◌≤◌, ◌<◌, ℕ, Bool, List, [], ◌∷◌, ◌++◌}
use Rattle.std.specs.Prelude.{length, take, Option, Some, None, IsTrue, nat_lt}
use Rattle.std.specs.List.{flat_map, list_all}
use Rattle.std.specs.Int.{w16, to_be_bytes}
use Rattle.cast_link.specs.declared.bundle.Unpacked.{Unpacked}
use Rattle.cast_link.specs.declared.bundle.Unpacked.TheVariants.{Alone, Bundle, Bad}

-- `CB`, the version, and no flags
abbrev pub head : List ℕ
head = 67 ∷ 66 ∷ 1 ∷ 0 ∷ []

-- a frame behind its length
abbrev pub in_bundle : List ℕ → List ℕ
in_bundle frame = to_be_bytes w16 (length frame) ++ frame

-- the length of a frame has room in two bytes
abbrev pub fit : List (List ℕ) → Bool
fit frames = list_all (λ f. nat_lt (length f) 65536) frames

-- one frame at least, each behind its length, in their order
pub record IsBundle (bytes : List ℕ) (frames : List (List ℕ)) : Type 0 where
  pub some : frames ≢ []
  pub fitting : IsTrue (fit frames)
  pub spelled : bytes ≡ head ++ flat_map in_bundle frames

abbrev pub BeginsAsBundle : List ℕ → Type 0
BeginsAsBundle bytes = take 2 bytes ≡ 67 ∷ 66 ∷ []

-- what a datagram has
abbrev pub IsUnpacked : List ℕ → Unpacked → Type 0
IsUnpacked datagram (Alone bytes) = (bytes ≡ datagram) × (BeginsAsBundle datagram → ⊥)
IsUnpacked datagram (Bundle frames) = IsBundle datagram frames
IsUnpacked datagram Bad =
    BeginsAsBundle datagram × ((frames : List (List ℕ)) → IsBundle datagram frames → ⊥)

-- the frames of these bytes, each behind its length, or there are no frames of which these are the
-- bytes
abbrev pub Splits : List ℕ → Option (List (List ℕ)) → Type 0
Splits bytes (Some frames) = IsTrue (fit frames) × (bytes ≡ flat_map in_bundle frames)
Splits bytes None =
    (frames : List (List ℕ)) → IsTrue (fit frames) → bytes ≡ flat_map in_bundle frames → ⊥

-- the length of the first frame stands before it, and it is whole; or no frame behind its length
-- stands there
abbrev pub IsFirst : List ℕ → Option ℕ → Type 0
IsFirst bytes (Some n) = (take 2 bytes ≡ to_be_bytes w16 n) × (n < 65536) × (2 + n ≤ length bytes)
IsFirst bytes None =
    (frame more : List ℕ) → length frame < 65536 → bytes ≡ in_bundle frame ++ more → ⊥
