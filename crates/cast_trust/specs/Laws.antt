-- What opens was sent: the law that joins seals to a network.
use Rattle.std.specs.Prelude.{◌≡◌, ◌⊎◌, ℕ, true, List, [], ◌∷◌, Contains, Some, Ok}
use Rattle.cast_types.specs.declared.names.DomainNo.{DomainNo}
use Rattle.cast_types.specs.declared.names.SiteNo.{SiteNo}
use Rattle.cast_types.specs.Names.{site_eq}
use Rattle.cast_types.specs.Sets.{is_among}
use Rattle.cast_message.specs.declared.site.SiteFrame.{SiteFrame}
use Rattle.cast_events.specs.declared.config.DomainConfig.{DomainConfig}
use Rattle.cast_events.specs.declared.event.Event.{Event}
use Rattle.cast_events.specs.declared.event.Event.TheVariants as event
use Rattle.cast_frame.specs.Reading.{site_frame_of}
use Rattle.cast_frame.specs.Spelled.{IsSpelled}
use Rattle.cast_frame.specs.Spelling.{spelled_site}
use Rattle.cast_link.specs.Bundles.{IsUnpacked}
use Rattle.cast_link.specs.Laws.{frames_in}
use Rattle.cast_link.specs.declared.bundle.Unpacked.{Unpacked}
use Rattle.cast_seal.specs.Seals.{IsOpened, IsSealedByAny}
use Rattle.cast_seal.specs.declared.sealing.SealKey.{SealKey}
use Rattle.cast_world.specs.Laws.{DeliversInOrder}
use Rattle.cast_world.specs.Network.{AgreeOnHome, Becomes, Network, Reaches, event_at, start}
use Rattle.cast_world.specs.declared.step.Happening.TheVariants.{Local, Sent}
use Rattle.cast_world.specs.declared.step.Packet.{Packet}
use Rattle.cast_world.specs.declared.step.Step.{Step}

-- a body has these bytes as a frame: it is them, or is a bundle of them and others
abbrev pub Carries : List ℕ → List ℕ → Type 0
Carries body bytes = (u : Unpacked) × IsUnpacked body u × Contains (frames_in u) bytes

-- they spell a frame that one site sent to another
abbrev pub WasSent : Network → DomainNo → SiteNo → SiteNo → List ℕ → Type 0
WasSent w d from to bytes =
    (p : Packet)
    × Contains w.sent p
    × (p.from ≡ from)
    × (p.to ≡ to)
    × IsSpelled d from p.frame
    × (bytes ≡ spelled_site d from p.frame)

-- the domain that a network is of, as a site has it
abbrev pub domain_at : Network → SiteNo → DomainNo
domain_at w s = (w.at s).config.domain

-- each frame of the domain that these keys seal from one site to another, in the name of the first,
-- was sent by it to the other: nobody else makes seals under these keys
abbrev pub OnlySendersSeal : Network → List SealKey → SiteNo → SiteNo → Type 0
OnlySendersSeal w keys from to =
    (body datagram bytes : List ℕ) (f : SiteFrame) →
    IsSealedByAny keys from to body datagram → Carries body bytes →
    site_frame_of bytes ≡ Ok (domain_at w to, from, f) →
    WasSent w (domain_at w to) from to bytes

-- then a frame of a datagram that opens is one that a step hands to its site
abbrev pub SealedFramesAreSent : Type 0
SealedFramesAreSent =
    (w : Network) (keys : List SealKey) (from to : SiteNo) (datagram body bytes : List ℕ)
    (f : SiteFrame) →
    OnlySendersSeal w keys from to → IsOpened keys from to datagram (Some body) →
    Carries body bytes → site_frame_of bytes ≡ Ok (domain_at w to, from, f) →
    (k : ℕ) × (event_at w to (Sent k) ≡ Some (event.Frame (domain_at w to) from f))

-- the keys that a site has for another one
abbrev pub Keys : Type 0
Keys = SiteNo → SiteNo → List SealKey

-- an event is a frame of a datagram that opens at the site with its keys for the sender, and nobody
-- else makes seals under these
pub record IsOpenedFrame (keys : Keys) (w : Network) (to : SiteNo) (e : Event) : Type 0 where
  pub from : SiteNo
  pub datagram : List ℕ
  pub body : List ℕ
  pub bytes : List ℕ
  pub frame : SiteFrame
  pub trusted : OnlySendersSeal w (keys to from) from to
  pub opens : IsOpened (keys to from) from to datagram (Some body)
  pub carried : Carries body bytes
  pub read : site_frame_of bytes ≡ Ok (domain_at w to, from, frame)
  pub is : e ≡ event.Frame (domain_at w to) from frame

-- an event comes to a site: one of its own, or such a frame
abbrev pub Comes : Keys → Network → SiteNo → Event → Type 0
Comes keys w s e = (event_at w s (Local e) ≡ Some e) ⊎ IsOpenedFrame keys w s e

-- events that come to sites of the network, one after the other, lead to another network
abbrev pub LeadsSealed : Keys → Network → List (SiteNo × Event) → Network → Type 0
LeadsSealed keys w [] v = v ≡ w
LeadsSealed keys w (at ∷ events) v =
    (u : Network)
    × (is_among site_eq at.0 w.sites ≡ true)
    × Comes keys w at.0 at.1
    × Becomes w at.0 (Some at.1) u
    × LeadsSealed keys u events v

-- from the start they lead to nothing but what steps lead to
abbrev pub SealedRunsAreNetworks : Type 0
SealedRunsAreNetworks =
    (sites : List SiteNo) (config : SiteNo → DomainConfig) (keys : Keys)
    (events : List (SiteNo × Event)) (w : Network) →
    AgreeOnHome config → LeadsSealed keys (start sites config) events w →
    (steps : List Step) × Reaches sites config steps w

-- so no process delivers a message before one that happened before it and is due to it
abbrev pub SealedDeliveriesAreCausal : Type 0
SealedDeliveriesAreCausal =
    (sites : List SiteNo) (config : SiteNo → DomainConfig) (keys : Keys)
    (events : List (SiteNo × Event)) (w : Network) →
    AgreeOnHome config → LeadsSealed keys (start sites config) events w → DeliversInOrder w
