-- Datagrams that carry the frames for a site: one each, or several as a bundle.
use Rattle.std.specs.Prelude.{◌≡◌, ◌⊎◌, ◌≤◌, ℕ, List, [], ◌∷◌, ◌++◌}
use Rattle.std.specs.Prelude.{IsTrue, filter, length, map, Option}
use Rattle.std.specs.List.{flat_map}
use Rattle.cast_types.specs.declared.names.SiteNo.{SiteNo}
use Rattle.cast_types.specs.Names.{site_eq}
use Rattle.cast_link.specs.Wires.{AddsAll}
use Rattle.cast_link.specs.Bundles.{IsBundle, fit, head, in_bundle}

-- frames of which a bundle of at most so many bytes can be made
pub record Fits (most : ℕ) (frames : List (List ℕ)) : Type 0 where
  pub fitting : IsTrue (fit frames)
  pub bounded : length (head ++ flat_map in_bundle frames) ≤ most

-- several frames, as a bundle of at most so many bytes
pub record IsShared (most : ℕ) (datagram : List ℕ) (frames : List (List ℕ)) : Type 0 where
  pub several : 2 ≤ length frames
  pub bundle : IsBundle datagram frames
  pub bounded : length datagram ≤ most

-- one frame as itself, or several
abbrev pub IsCarried : ℕ → List ℕ → List (List ℕ) → Type 0
IsCarried most datagram frames = (frames ≡ datagram ∷ []) ⊎ IsShared most datagram frames

-- these datagrams, one after the other, carry these frames in their order
abbrev pub Carry : ℕ → List (List ℕ) → List (List ℕ) → Type 0
Carry most [] frames = frames ≡ []
Carry most (datagram ∷ more) frames =
    (own others : List (List ℕ))
    × IsCarried most datagram own
    × Carry most more others
    × (frames ≡ own ++ others)

-- what goes to a site, in its order
abbrev pub to_site : SiteNo → List (SiteNo × List ℕ) → List (List ℕ)
to_site site sent = map (λ d. d.1) (filter (λ d. site_eq d.0 site) sent)

-- the datagrams for each site carry the frames for it
abbrev pub IsPacked : ℕ → List (SiteNo × List ℕ) → List (SiteNo × List ℕ) → Type 0
IsPacked most frames datagrams =
    (site : SiteNo) → Carry most (to_site site datagrams) (to_site site frames)

-- a wire is given datagrams that carry these frames, and so many
abbrev pub AddsPacked : ℕ → Option (List (SiteNo × List ℕ)) → Option (List (SiteNo × List ℕ))
    → List (SiteNo × List ℕ) → ℕ → Type 0
AddsPacked most old new frames count =
    (datagrams : List (SiteNo × List ℕ))
    × IsPacked most frames datagrams
    × AddsAll old new datagrams
    × (count ≡ length datagrams)
