-- What is proved of daemons whose wires carry bytes.
use Rattle.std.specs.Prelude.{◌≡◌, ◌≤◌, ℕ, List, Contains, Some, true}
use Rattle.std.specs.List.{AllByRecursion}
use Rattle.cast_types.specs.Names.{site_eq}
use Rattle.cast_types.specs.Sets.{is_among}
use Rattle.cast_types.specs.declared.names.DomainNo.{DomainNo}
use Rattle.cast_types.specs.declared.names.Proc.{Proc}
use Rattle.cast_types.specs.declared.names.SiteNo.{SiteNo}
use Rattle.cast_message.specs.declared.client.Push.{Push}
use Rattle.cast_message.specs.declared.site.SiteFrame.{SiteFrame}
use Rattle.cast_events.specs.declared.config.DomainConfig.{DomainConfig}
use Rattle.cast_events.specs.declared.event.Event.{Event}
use Rattle.cast_events.specs.declared.event.Event.TheVariants as event
use Rattle.cast_frame.specs.Spelled.{IsSpelled}
use Rattle.cast_frame.specs.Spelling.{spelled_site}
use Rattle.cast_seal.specs.Seals.{IsSealedByAny}
use Rattle.cast_seal.specs.declared.sealing.SealKey.{SealKey}
use Rattle.cast_trust.specs.Laws.{Carries, OnlySendersSeal, domain_at}
use Rattle.cast_world.specs.Agreement.{delivered_of}
use Rattle.cast_world.specs.Laws.{DeliversInOrder, OrdersAgree, SameMessages, SameOrder}
use Rattle.cast_world.specs.Network.{Network}
use Rattle.cast_world.specs.Properties.{DeliversCausally}
use Rattle.cast_world.specs.declared.step.Happening.TheVariants.{Sent}
use Rattle.cast_world.specs.declared.step.Packet.{Packet}
use Rattle.cast_world.specs.declared.step.Step.{Step}
use Rattle.cast_sites.specs.Daemons.{DaemonNetwork, DaemonsReach, event_coming, in_domain}
use Rattle.cast_sites.specs.Laws.{AgreeOnHomeOf, AreToldLawfully, IsNetworkOf, pushed_in}
use Rattle.cast_datagrams.specs.Datagrams.{DatagramNetwork, DatagramsReach}
use Rattle.cast_datagrams.specs.Datagrams.{Answers, IsReceived, IsWired}
use Rattle.cast_datagrams.specs.Typed.{FitsSent, FitsType, IsByte, IsShort}

-- frames that differ are spelled differently, if they are values of their types
abbrev pub SpellingsOfTypesDiffer : Type 0
SpellingsOfTypesDiffer =
    (d e : DomainNo) (s t : SiteNo) (f g : SiteFrame) →
    IsShort s.0 → IsShort t.0 → FitsType f → FitsType g →
    spelled_site d s f ≡ spelled_site e t g → (d ≡ e) × (s ≡ t) × (f ≡ g)

-- each frame that a site reads of a datagram is one that was sent to it, so a step hands it over
abbrev pub ReceivedFramesWereSent : Type 0
ReceivedFramesWereSent =
    (sites : List SiteNo) (served : SiteNo → List DomainConfig) (events : List (SiteNo × Event))
    (n : DatagramNetwork) (to : SiteNo) (e : Event) →
    DatagramsReach sites served events n → IsReceived n.given to e →
    (k : ℕ) × (event_coming n.daemons to (Sent k) ≡ Some e)

-- so daemons come to nothing but what steps of a network of frames lead to
abbrev pub DatagramsAreFrames : Type 0
DatagramsAreFrames =
    (sites : List SiteNo) (served : SiteNo → List DomainConfig) (events : List (SiteNo × Event))
    (n : DatagramNetwork) →
    DatagramsReach sites served events n →
    (steps : List Step) × DaemonsReach sites served steps n.daemons

-- a law of networks of one domain, and of what programs are pushed there, holds of each domain of
-- daemons whose wires carry bytes
abbrev pub HoldsOverDatagrams : (Network → (Proc → List Push) → Type 0) → Type 0
HoldsOverDatagrams law =
    (sites : List SiteNo) (served : SiteNo → List DomainConfig) (events : List (SiteNo × Event))
    (n : DatagramNetwork) (d : DomainNo) →
    DatagramsReach sites served events n → AgreeOnHomeOf sites served d →
    (own : List Step) × (w : Network)
    × IsNetworkOf sites served d n.daemons own w
    × law w (pushed_in d n.daemons)

-- its deliveries are in causal order
abbrev pub DatagramsDeliverCausally : Type 0
DatagramsDeliverCausally = HoldsOverDatagrams (λ w pushed. DeliversCausally w × DeliversInOrder w)

-- its views agree
abbrev pub DatagramsAgree : Type 0
DatagramsAgree =
    HoldsOverDatagrams (λ w pushed.
    SameMessages w (delivered_of w) × SameOrder w (delivered_of w) × OrdersAgree w (delivered_of w))

-- and its programs are told what their processes do
abbrev pub DatagramsAreTold : Type 0
DatagramsAreTold = HoldsOverDatagrams AreToldLawfully

-- What is not refused

-- of what a wire is given for a frame that has a spelling, its site reads that frame
abbrev pub SpelledFramesAreReceived : Type 0
SpelledFramesAreReceived =
    (own : SiteNo) (frames : List (DomainNo × SiteNo × SiteFrame))
    (datagrams : List (SiteNo × List ℕ)) (f : DomainNo × SiteNo × SiteFrame) →
    IsWired own frames datagrams → Contains frames f → IsSpelled f.0 own f.2 →
    IsReceived datagrams f.1 (event.Frame f.0 own f.2)

-- the numbers of these sites, of the domains that they serve, and of the groups of those count from
-- 1, as in each configuration that is read
abbrev pub AreNumberedFromOne : List SiteNo → (SiteNo → List DomainConfig) → Type 0
AreNumberedFromOne sites served =
    (s : SiteNo) (c : DomainConfig) → is_among site_eq s sites ≡ true → Contains (served s) c →
    (1 ≤ s.0) × (1 ≤ c.domain.0) × AllByRecursion (λ g. 1 ≤ g.0) c.groups

-- then each frame that was sent has a spelling
abbrev pub SentFramesAreSpelled : Type 0
SentFramesAreSpelled =
    (sites : List SiteNo) (served : SiteNo → List DomainConfig) (events : List (SiteNo × Event))
    (n : DatagramNetwork) (d : DomainNo) (p : Packet) →
    DatagramsReach sites served events n → AgreeOnHomeOf sites served d →
    AreNumberedFromOne sites served → Contains n.daemons.sent (d, p) →
    IsSpelled d p.from p.frame

-- so of what a wire is given when a daemon answers an event, each site reads the frames for it
abbrev pub WiredFramesAreReceived : Type 0
WiredFramesAreReceived =
    (sites : List SiteNo) (served : SiteNo → List DomainConfig) (events : List (SiteNo × Event))
    (n m : DatagramNetwork) (s : SiteNo) (e : Event) (answers : Answers n s e m)
    (f : DomainNo × SiteNo × SiteFrame) →
    DatagramsReach sites served events m → AgreeOnHomeOf sites served f.0 →
    AreNumberedFromOne sites served → Contains answers.wired f →
    IsReceived answers.datagrams f.1 (event.Frame f.0 s f.2)

-- Runs

-- each run over frames is one over datagrams, if all that was sent are values of their types. So no
-- law of such runs is one of nothing
abbrev pub FramesAreDatagrams : Type 0
FramesAreDatagrams =
    (sites : List SiteNo) (served : SiteNo → List DomainConfig) (steps : List Step)
    (n : DaemonNetwork) →
    DaemonsReach sites served steps n →
    AllByRecursion (λ s. IsShort s.0) sites → AreNumberedFromOne sites served →
    ((d : DomainNo) (p : Packet) → Contains n.sent (d, p) →
    FitsSent (d, p.to, p.frame) × AgreeOnHomeOf sites served d) →
    (events : List (SiteNo × Event)) × (m : DatagramNetwork)
    × DatagramsReach sites served events m × (m.daemons ≡ n)

-- Seals

-- bytes spell a frame that one site sent to another, of any domain. They and it are values of their
-- types
pub record WasSpelled (n : DaemonNetwork) (from to : SiteNo) (bytes : List ℕ) : Type 0 where
  pub domain : DomainNo
  pub frame : SiteFrame
  pub among : Contains n.sent (domain, record { from = from; to = to; frame = frame })
  pub typed : FitsType frame
  pub whole : AllByRecursion IsByte bytes
  pub spelled : bytes ≡ spelled_site domain from frame

-- what these keys seal from one site to another, in the name of the first, is such frames alone
abbrev pub OnlySendersSpell : DaemonNetwork → List SealKey → SiteNo → SiteNo → Type 0
OnlySendersSpell n keys from to =
    (body datagram bytes : List ℕ) →
    IsSealedByAny keys from to body datagram → Carries body bytes → WasSpelled n from to bytes

-- then each domain's network has what sealed datagrams ask of it: nothing more of numbers
abbrev pub SendersSealWhatIsSpelled : Type 0
SendersSealWhatIsSpelled =
    (n : DaemonNetwork) (w : Network) (keys : List SealKey) (from to : SiteNo) →
    IsShort from.0 → w.sent ≡ in_domain (domain_at w to) n.sent →
    OnlySendersSpell n keys from to → OnlySendersSeal w keys from to
