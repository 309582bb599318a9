-- What is read of the datagrams that carry frames.
use Rattle.std.proofs.Common.{◌≡◌, ℕ, List, [], ◌∷◌, ◌++◌, sym, ap, subst, ◌∙◌, inl, inr}
use Rattle.std.specs.Prelude.{◌==◌, ⊤}
use Rattle.std.specs.List.{flat_map}
use Rattle.std.proofs.lemmas.Bool.{cases_Bool}
use Rattle.cast_types.specs.declared.names.DomainNo.{DomainNo}
use Rattle.cast_types.specs.declared.names.SiteNo.{SiteNo}
use Rattle.cast_message.specs.declared.site.SiteFrame.{SiteFrame}
use Rattle.cast_link.specs.declared.bundle.Unpacked.{Unpacked}
use Rattle.cast_link.specs.declared.bundle.Unpacked.TheVariants.{Alone, Bundle, Bad}
use Rattle.cast_link.specs.Bundles.{BeginsAsBundle, IsUnpacked}
use Rattle.cast_link.specs.Links.{datagrams_of}
use Rattle.cast_link.specs.Packing.{Carry, IsCarried, to_site}
use Rattle.cast_link.specs.Laws.{AreUnpacked, SitesReadTheirFrames, frames_in}
use Rattle.cast_link.proofs.Bundles.{begins, bundles_are_unique, frames_stand_alone}

-- none of these bytes is taken for a bundle
abbrev StandAlone : List (List ℕ) → Type 0
StandAlone [] = ⊤
StandAlone (frame ∷ frames) = (BeginsAsBundle frame → ⊥) × StandAlone frames

first_alone : (own others : List (List ℕ)) → StandAlone (own ++ others) → StandAlone own × StandAlone others
first_alone [] others alone = (tt, alone)
first_alone (frame ∷ own) others alone =
    let later = first_alone own others alone.1 in
    ((alone.0, later.0), later.1)

spelled_alone : (own site : SiteNo) (frames : List (DomainNo × SiteNo × SiteFrame)) → StandAlone (to_site site (datagrams_of own frames))
spelled_alone own site [] = tt
spelled_alone own site (f ∷ frames) = elim (cases_Bool (f.1.0 == site.0)) [
  | inl same ↦ rw same (frames_stand_alone f.0 own f.2, spelled_alone own site frames)
  | inr other ↦ rw other (spelled_alone own site frames)
]

one_read : (most : ℕ) (datagram : List ℕ) (own : List (List ℕ)) (unpacked : Unpacked) → IsCarried most datagram own → StandAlone own →
    IsUnpacked datagram unpacked → frames_in unpacked ≡ own
one_read most datagram own (Alone bytes) (inl one) alone read = ap (λ (b : List ℕ). b ∷ []) read.0 ∙ sym one
one_read most datagram own (Bundle frames) (inl one) alone read = absurd ((subst StandAlone one alone).0 (begins datagram frames read))
one_read most datagram own Bad (inl one) alone read = absurd ((subst StandAlone one alone).0 read.0)
one_read most datagram own (Alone bytes) (inr shared) alone read = absurd (read.1 (begins datagram own shared.bundle))
one_read most datagram own (Bundle frames) (inr shared) alone read = bundles_are_unique datagram frames own read shared.bundle
one_read most datagram own Bad (inr shared) alone read = absurd (read.1 own shared.bundle)

all_read : (most : ℕ) (datagrams frames : List (List ℕ)) (read : List Unpacked) → Carry most datagrams frames → StandAlone frames →
    AreUnpacked datagrams read → flat_map frames_in read ≡ frames
all_read most [] frames [] carry alone are = sym carry
all_read most [] frames (unpacked ∷ more) carry alone are = absurd are
all_read most (datagram ∷ others) frames [] carry alone are = absurd are
all_read most (datagram ∷ others) frames (unpacked ∷ more) carry alone are =
    let parts = first_alone carry.0 carry.1 (subst StandAlone carry.4 alone) in
    ap (λ (l : List (List ℕ)). l ++ flat_map frames_in more) (one_read most datagram carry.0 unpacked carry.2 parts.0 are.0)
    ∙ (ap (λ (l : List (List ℕ)). carry.0 ++ l) (all_read most others carry.1 more carry.3 parts.1 are.1) ∙ sym carry.4)

pub sites_read_their_frames : SitesReadTheirFrames
sites_read_their_frames most own site frames datagrams read packed are =
    all_read most (to_site site datagrams) (to_site site (datagrams_of own frames)) read (packed site) (spelled_alone own site frames) are
