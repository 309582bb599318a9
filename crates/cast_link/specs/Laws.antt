-- What a bundle is read as.
use Rattle.std.specs.Prelude.{◌≡◌, ℕ, List, [], ◌∷◌, ⊤}
use Rattle.std.specs.List.{flat_map}
use Rattle.cast_types.specs.declared.names.DomainNo.{DomainNo}
use Rattle.cast_types.specs.declared.names.SiteNo.{SiteNo}
use Rattle.cast_message.specs.declared.site.SiteFrame.{SiteFrame}
use Rattle.cast_frame.specs.Spelling.{spelled_site}
use Rattle.cast_link.specs.declared.bundle.Unpacked.{Unpacked}
use Rattle.cast_link.specs.declared.bundle.Unpacked.TheVariants.{Alone, Bundle, Bad}
use Rattle.cast_link.specs.Bundles.{IsBundle, IsUnpacked, BeginsAsBundle}
use Rattle.cast_link.specs.Links.{datagrams_of}
use Rattle.cast_link.specs.Packing.{IsPacked, to_site}

-- the same bytes are no two bundles
abbrev pub BundlesAreUnique : Type 0
BundlesAreUnique =
    (bytes : List ℕ) (frames others : List (List ℕ)) → IsBundle bytes frames → IsBundle bytes others
    → frames ≡ others

-- no frame begins as a bundle does
abbrev pub FramesStandAlone : Type 0
FramesStandAlone =
    (domain : DomainNo) (from : SiteNo) (frame : SiteFrame)
    → BeginsAsBundle (spelled_site domain from frame) → ⊥

-- what each of these datagrams is read as
abbrev pub AreUnpacked : List (List ℕ) → List Unpacked → Type 0
AreUnpacked [] [] = ⊤
AreUnpacked [] (unpacked ∷ more) = ⊥
AreUnpacked (datagram ∷ others) [] = ⊥
AreUnpacked (datagram ∷ others) (unpacked ∷ more) =
    IsUnpacked datagram unpacked × AreUnpacked others more

abbrev pub frames_in : Unpacked → List (List ℕ)
frames_in (Alone bytes) = bytes ∷ []
frames_in (Bundle frames) = frames
frames_in Bad = []

-- what a site reads of the datagrams for it is what was to go there, in its order
abbrev pub SitesReadTheirFrames : Type 0
SitesReadTheirFrames =
    (most : ℕ) (own site : SiteNo) (frames : List (DomainNo × SiteNo × SiteFrame))
    (datagrams : List (SiteNo × List ℕ)) (read : List Unpacked)
    → IsPacked most (datagrams_of own frames) datagrams → AreUnpacked (to_site site datagrams) read
    → flat_map frames_in read ≡ to_site site (datagrams_of own frames)
