-- Whole daemons whose wires carry bytes, and every datagram that a wire was ever given.
-- A datagram that no site reads is lost; sites may read one again, and in any order. What a daemon
-- gives its wire of the frames of its steps, when and how often, is its own choice.
use Rattle.std.specs.Prelude.{◌≡◌, ◌⊎◌, ◌++◌, ℕ, true, List, [], ◌∷◌, Contains, Result, Ok}
use Rattle.std.specs.List.{AllByRecursion}
use Rattle.cast_types.specs.Names.{site_eq}
use Rattle.cast_types.specs.Sets.{is_among}
use Rattle.cast_types.specs.declared.names.DomainNo.{DomainNo}
use Rattle.cast_types.specs.declared.names.SiteNo.{SiteNo}
use Rattle.cast_message.specs.declared.site.SiteFrame.{SiteFrame}
use Rattle.cast_events.specs.declared.config.DomainConfig.{DomainConfig}
use Rattle.cast_events.specs.declared.event.Event.{Event}
use Rattle.cast_events.specs.declared.event.Event.TheVariants as event
use Rattle.cast_events.specs.declared.event.Outs.{Outs}
use Rattle.cast_events.specs.declared.event.Taken.{Taken}
use Rattle.cast_events.specs.declared.log.Fault.{Fault}
use Rattle.cast_frame.specs.Reading.{site_frame_of}
use Rattle.cast_frame.specs.Spelled.{IsSpelled}
use Rattle.cast_frame.specs.Spelling.{spelled_site}
use Rattle.cast_link.specs.Links.{datagrams_of}
use Rattle.cast_link.specs.Packing.{IsPacked}
use Rattle.cast_table.specs.declared.table.Table.{Table}
use Rattle.cast_trust.specs.Laws.{Carries}
use Rattle.cast_world.specs.Network.{is_local}
use Rattle.cast_world.specs.declared.step.Packet.{Packet}
use Rattle.cast_sites.specs.Daemons.{AreNew, DaemonNetwork, IsAnswered, move_daemon, opened}
use Rattle.cast_datagrams.specs.Typed.{FitsSent, IsShort}

pub record DatagramNetwork : Type 0 where
  pub daemons : DaemonNetwork
  -- every datagram that the wires were ever given, in order, with the site that it is for
  pub given : List (SiteNo × List ℕ)

-- daemons with these tables, before anything happens
abbrev pub opened_wires : List SiteNo → (SiteNo → Table) → DatagramNetwork
opened_wires sites tables = record { daemons = opened sites tables; given = [] }

-- What comes to a site

-- bytes are read as a frame: what the contract of `decode_site` says
pub record IsRead (bytes : List ℕ) (d : DomainNo) (from : SiteNo) (f : SiteFrame) : Type 0 where
  pub exact : site_frame_of bytes ≡ Ok (d, from, f)
  pub found : IsSpelled d from f × (bytes ≡ spelled_site d from f)

-- an event is a frame that a site reads of a datagram that some wire was given for it
pub record IsReceived (given : List (SiteNo × List ℕ)) (to : SiteNo) (e : Event) : Type 0 where
  pub datagram : List ℕ
  pub bytes : List ℕ
  pub domain : DomainNo
  pub from : SiteNo
  pub frame : SiteFrame
  pub addressed : Contains given (to, datagram)
  pub carried : Carries datagram bytes
  pub read : IsRead bytes domain from frame
  pub is : e ≡ event.Frame domain from frame

-- an event comes to a site: one of its own, of any domain or of all, or such a frame
abbrev pub Comes : DatagramNetwork → SiteNo → Event → Type 0
Comes n s e = (is_local e ≡ true) ⊎ IsReceived n.given s e

-- What becomes of it

-- datagrams with these frames of a site: one each, or bundles of at most so many bytes
abbrev pub IsWired : SiteNo → List (DomainNo × SiteNo × SiteFrame) → List (SiteNo × List ℕ) → Type 0
IsWired own frames datagrams =
    (datagrams ≡ datagrams_of own frames)
    ⊎ ((most : ℕ) × IsPacked most (datagrams_of own frames) datagrams)

-- frames that a site sent, in this event or before it
abbrev pub WereSent
    : List (DomainNo × Packet) → SiteNo → List (DomainNo × SiteNo × SiteFrame) → Type 0
WereSent sent own frames =
    (f : DomainNo × SiteNo × SiteFrame) → Contains frames f
    → Contains sent (f.0, record { from = own; to = f.1; frame = f.2 })

-- the daemon of a site answers an event, which takes n to m: the frames that it sends are values of
-- their type. Its wire is given datagrams with such frames as it has sent so far: it may hold some
-- back, leave some out, and send some again, in any order and in other bundles
pub record Answers (n : DatagramNetwork) (s : SiteNo) (e : Event) (m : DatagramNetwork)
    : Type 0 where
  pub answer : Result Taken Fault
  pub table : Table
  pub outs : Outs
  pub wired : List (DomainNo × SiteNo × SiteFrame)
  pub datagrams : List (SiteNo × List ℕ)
  pub answered : IsAnswered answer e (n.daemons.at s) table outs
  pub typed : AllByRecursion FitsSent outs.frames
  pub sent : WereSent (move_daemon n.daemons s table outs).sent s wired
  pub given : IsWired s wired datagrams
  pub becomes : m
      ≡ record {
        daemons = move_daemon n.daemons s table outs;
        given = n.given ++ datagrams;
      }

-- events that come to sites of the network, one after the other, take n to m
abbrev pub TakesEvents : DatagramNetwork → List (SiteNo × Event) → DatagramNetwork → Type 0
TakesEvents n [] m = m ≡ n
TakesEvents n (at ∷ events) m =
    (u : DatagramNetwork)
    × (is_among site_eq at.0 n.daemons.sites ≡ true)
    × Comes n at.0 at.1
    × Answers n at.0 at.1 u
    × TakesEvents u events m

-- daemons that have just started are led to n by such events. The numbers of their sites are values
-- of their type
pub record DatagramsReach (sites : List SiteNo) (served : SiteNo → List DomainConfig)
    (events : List (SiteNo × Event)) (n : DatagramNetwork) : Type 0 where
  pub numbers : AllByRecursion (λ s. IsShort s.0) sites
  pub tables : SiteNo → Table
  pub new : AreNew sites served tables
  pub takes : TakesEvents (opened_wires sites tables) events n
