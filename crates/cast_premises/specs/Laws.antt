-- Daemons that read one configuration, and what the laws say of them.
use Rattle.std.specs.Prelude.{◌≡◌, ℕ, List, Contains, Ok, true}
use Rattle.cast_types.specs.Names.{site_eq}
use Rattle.cast_types.specs.Sets.{is_among}
use Rattle.cast_types.specs.declared.names.DomainNo.{DomainNo}
use Rattle.cast_types.specs.declared.names.Proc.{Proc}
use Rattle.cast_types.specs.declared.names.SiteNo.{SiteNo}
use Rattle.cast_message.specs.declared.client.Push.{Push}
use Rattle.cast_message.specs.declared.site.SiteFrame.{SiteFrame}
use Rattle.cast_events.specs.declared.config.DomainConfig.{DomainConfig}
use Rattle.cast_events.specs.declared.event.Event.{Event}
use Rattle.cast_events.specs.declared.event.Event.TheVariants as event
use Rattle.cast_config.specs.Documents.{setup_of}
use Rattle.cast_config.specs.declared.setup.Setup.{Setup}
use Rattle.cast_world.specs.Agreement.{delivered_of}
use Rattle.cast_world.specs.Laws.{DeliversInOrder, OrdersAgree, SameMessages, SameOrder}
use Rattle.cast_world.specs.Network.{Network}
use Rattle.cast_world.specs.Properties.{DeliversCausally}
use Rattle.cast_world.specs.declared.step.Step.{Step}
use Rattle.cast_sites.specs.Laws.{AgreeOnHomeOf, AreToldLawfully, IsNetworkOf, pushed_in}
use Rattle.cast_datagrams.specs.Datagrams.{Answers, DatagramNetwork, DatagramsReach, IsReceived}
use Rattle.cast_datagrams.specs.Laws.{AreNumberedFromOne}

-- the daemon of each of these sites serves what one text gives the site, for which it has no fault
pub record ReadOneText (text : List ℕ) (sites : List SiteNo) (served : SiteNo → List DomainConfig)
    : Type 0 where
  pub setup : SiteNo → Setup
  pub reads : (s : SiteNo) → is_among site_eq s sites ≡ true → setup_of s text ≡ Ok (setup s)
  pub serves : (s : SiteNo) → is_among site_eq s sites ≡ true →
      served s ≡ (setup s).config.domains

-- the sites of each domain name one home
abbrev pub OneTextNamesOneHome : Type 0
OneTextNamesOneHome =
    (text : List ℕ) (sites : List SiteNo) (served : SiteNo → List DomainConfig) (d : DomainNo) →
    ReadOneText text sites served → AgreeOnHomeOf sites served d

-- numbers count from 1
abbrev pub OneTextNumbersFromOne : Type 0
OneTextNumbersFromOne =
    (text : List ℕ) (sites : List SiteNo) (served : SiteNo → List DomainConfig) →
    ReadOneText text sites served → AreNumberedFromOne sites served

-- a law of networks of one domain, and of what programs are pushed there, holds of each domain of
-- daemons that read one text, whose wires carry bytes
abbrev pub HoldsOfInstallations : (Network → (Proc → List Push) → Type 0) → Type 0
HoldsOfInstallations law =
    (text : List ℕ) (sites : List SiteNo) (served : SiteNo → List DomainConfig)
    (events : List (SiteNo × Event)) (n : DatagramNetwork) (d : DomainNo) →
    ReadOneText text sites served → DatagramsReach sites served events n →
    (own : List Step) × (w : Network)
    × IsNetworkOf sites served d n.daemons own w
    × law w (pushed_in d n.daemons)

-- its deliveries are in causal order
abbrev pub InstallationsDeliverCausally : Type 0
InstallationsDeliverCausally =
    HoldsOfInstallations (λ w pushed. DeliversCausally w × DeliversInOrder w)

-- its views agree
abbrev pub InstallationsAgree : Type 0
InstallationsAgree =
    HoldsOfInstallations (λ w pushed.
    SameMessages w (delivered_of w) × SameOrder w (delivered_of w) × OrdersAgree w (delivered_of w))

-- and its programs are told what their processes do
abbrev pub InstallationsAreTold : Type 0
InstallationsAreTold = HoldsOfInstallations AreToldLawfully

-- of what a wire is given when a daemon answers an event, each site reads the frames for it
abbrev pub InstallationsReadTheirFrames : Type 0
InstallationsReadTheirFrames =
    (text : List ℕ) (sites : List SiteNo) (served : SiteNo → List DomainConfig)
    (events : List (SiteNo × Event)) (n m : DatagramNetwork) (s : SiteNo) (e : Event)
    (answers : Answers n s e m) (f : DomainNo × SiteNo × SiteFrame) →
    ReadOneText text sites served → DatagramsReach sites served events m →
    Contains answers.wired f → IsReceived answers.datagrams f.1 (event.Frame f.0 s f.2)
