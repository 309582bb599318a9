-- How daemons, each alone at its site, and the frames that they sent stand for a network.
use Rattle.std.specs.List.{AllZip, find, position_from}
use Rattle.std.specs.Prelude.{◌++◌, ◌==◌, Bool, Contains, List, Option, Some, []}
use Rattle.std.specs.Prelude.{false, if◌then◌else◌, map, slice_get, true, ℕ, ◌∷◌, ◌≡◌}
use Rattle.cast_domain.specs.Fits.{Represents}
use Rattle.cast_domain.specs.Records.{is_halted, number_of}
use Rattle.cast_domain.specs.Shared.{part_of}
use Rattle.cast_domain.specs.declared.domain.Domain.{Domain}
use Rattle.cast_rules.specs.Run.{IsStep}
use Rattle.cast_rules.specs.State.{State}
use Rattle.cast_message.specs.declared.site.SiteFrame.{SiteFrame}
use Rattle.cast_events.specs.declared.config.Config.{Config}
use Rattle.cast_events.specs.declared.config.DomainConfig.{DomainConfig}
use Rattle.cast_events.specs.declared.event.Event.{Event}
use Rattle.cast_events.specs.declared.event.Taken.{Taken}
use Rattle.cast_table.specs.Tables.{IsNew as IsNewDomain, SharesNothing, domains_of, shared_of}
use Rattle.cast_types.specs.Names.{group_cmp, site_eq}
use Rattle.cast_types.specs.Rising.{is_rising}
use Rattle.cast_types.specs.Sets.{is_among}
use Rattle.cast_types.specs.declared.names.DomainNo.{DomainNo}
use Rattle.cast_types.specs.declared.names.Proc.{Proc}
use Rattle.cast_types.specs.declared.names.SiteNo.{SiteNo}
use Rattle.cast_types.specs.declared.names.Uid.{Uid}
use Rattle.cast_world.specs.Agreement.{delivered_of}
use Rattle.cast_world.specs.Ids.{ids_of}
use Rattle.cast_world.specs.Laws.{HoldsInEveryNetwork, ListsAreInOrder}
use Rattle.cast_world.specs.Laws.{OrdersAgree, SameMessages, SameOrder}
use Rattle.cast_world.specs.Network.{AgreeOnHome, Becomes, Happens, Leads}
use Rattle.cast_world.specs.Network.{Network, Reaches, event_at, names, start}
use Rattle.cast_world.specs.declared.step.Happening.TheVariants.{Local, Sent}
use Rattle.cast_world.specs.declared.step.Packet.{Packet}
use Rattle.cast_world.specs.declared.step.Step.{Step}
use Rattle.cast_world.specs.declared.daemon.Daemon.{Daemon}
use Rattle.cast_world.specs.declared.world.World.{World}

abbrev pub daemons_of : World → List Daemon
daemons_of world = world.daemons.items

abbrev pub packets_of : World → List Packet
packets_of world = world.sent.items

-- it found no memory
abbrev pub has_failed : World → Bool
has_failed world = world.failed

-- the first daemon at a site, and where it stands
abbrev pub daemon_at : SiteNo → List Daemon → Option Daemon
daemon_at s daemons = find (λ d. site_eq d.site s) daemons

abbrev pub place_named : SiteNo → List Daemon → Option ℕ
place_named s daemons = position_from (λ d. site_eq d.site s) 0 daemons

-- a daemon stands for a history: the only domain of its table does, and what its processes
-- delivered is what they delivered there
pub record StandsAt (d : Daemon) (s : State) : Type 0 where
  pub domain : Domain
  pub served : domains_of d.table ≡ domain ∷ []
  pub running : is_halted domain ≡ false
  pub means : Represents domain (part_of (number_of domain) (shared_of d.table)) s
  pub placed : s.here ≡ d.site
  pub number : s.config.domain ≡ d.number
  pub delivered : (k : ℕ) →
      (s.process k).delivered ≡ ids_of (record { site = d.site; serial = k }) d.delivered

-- daemons stand for a network, each for the history at its site; at other sites nothing is ever
-- delivered
pub record StandsFor (world : World) (w : Network) : Type 0 where
  pub running : has_failed world ≡ false
  pub sites : w.sites ≡ map (λ d. d.site) (daemons_of world)
  pub sent : w.sent ≡ packets_of world
  pub daemons : (s : SiteNo) (d : Daemon) → daemon_at s (daemons_of world) ≡ Some d →
      StandsAt d (w.at s)
  pub idle : (s : SiteNo) (k : ℕ) → is_among site_eq s w.sites ≡ false →
      ((w.at s).process k).delivered ≡ []

-- a daemon at a site that serves a domain of this configuration alone, before its first event:
-- nothing is shared, and nothing was delivered
pub record IsNew (site : SiteNo) (config : DomainConfig) (daemon : Daemon) : Type 0 where
  pub placed : daemon.site ≡ site
  pub number : daemon.number ≡ config.domain
  pub domains : AllZip (IsNewDomain site) (config ∷ []) (domains_of daemon.table)
  pub unshared : SharesNothing daemon.table
  pub delivered : daemon.delivered ≡ []

-- each of these configurations has one domain: the one that the site has
abbrev pub AreSolo : List Config → (SiteNo → DomainConfig) → Type 0
AreSolo configs config =
    (c : Config) → Contains configs c →
    (c.domains ≡ config c.site ∷ []) × (is_rising group_cmp (config c.site).groups ≡ true)

-- daemons of such configurations stand for the network in which nothing has happened
abbrev pub StandsAtStart : List Config → World → Type 0
StandsAtStart configs world =
    (config : SiteNo → DomainConfig) → AreSolo configs config →
    StandsFor world (start (map (λ c. c.site) configs) config)

-- what a site sends is on the network
abbrev pub sent_from : SiteNo → List (SiteNo × SiteFrame) → List Packet
sent_from s frames = map (λ f. record { from = s; to = f.0; frame = f.1 }) frames

-- an event names the domain of the daemon that stands at a place, or none
abbrev pub NamesAt : ℕ → Event → List Daemon → Type 0
NamesAt place e daemons = (d : Daemon) → slice_get daemons place ≡ Some d → names d.number e ≡ true

-- whatever history a daemon stood for, it stands for the one that an event leads to, and what is
-- sent is on the network
abbrev pub Serves : Event → Daemon → Daemon → List Packet → List Packet → Type 0
Serves e old new sent more =
    (s : State) → StandsAt old s →
    (answer : Taken)
    × (t : State)
    × IsStep s e answer t
    × StandsAt new t
    × (new.site ≡ old.site)
    × (more ≡ sent ++ sent_from old.site t.frames)

-- whatever network daemons stood for, they stand for the one that an event at a site leads to
abbrev pub ServesAt : SiteNo → Event → World → World → Type 0
ServesAt s e old new =
    (w : Network) → StandsFor old w → (v : Network) × Becomes w s (Some e) v × StandsFor new v

-- that a step leads to
abbrev pub Takes : Step → World → World → Type 0
Takes step old new =
    (w : Network) → StandsFor old w → (v : Network) × Happens w step v × StandsFor new v

-- that a list of steps leads to
abbrev pub Runs : List Step → World → World → Type 0
Runs steps old new =
    (w : Network) → StandsFor old w → (v : Network) × Leads w steps v × StandsFor new v

-- what a process of a domain delivered: nothing in a domain that the network does not have
abbrev pub delivered_at : Network → DomainNo → Proc → List Uid
delivered_at w d p =
    if (w.at p.site).config.domain.0 == d.0 then ((w.at p.site).process p.serial).delivered else []

-- what daemons are asked to tell of a process's deliveries is so of whatever network they stand for
abbrev pub TellsDelivered : World → DomainNo → Proc → List Uid → Type 0
TellsDelivered world d p ids = (w : Network) → StandsFor world w → ids ≡ delivered_at w d p

-- whatever network daemons stood for, they stand for the one that what happens at a site of theirs
-- leads to
abbrev pub Acts : SiteNo → Event → World → World → Type 0
Acts s e old new =
    (w : Network) → StandsFor old w →
    (v : Network) × Becomes w s (event_at w s (Local e)) v × StandsFor new v

abbrev pub Hands : SiteNo → ℕ → World → World → Type 0
Hands s number old new =
    (w : Network) → StandsFor old w →
    (v : Network) × Becomes w s (event_at w s (Sent number)) v × StandsFor new v

-- Laws

-- daemons of such configurations, all of one home, are run by a list of steps: they stand for a
-- network to which these steps lead
abbrev pub AllRunsAreNetworks : Type 0
AllRunsAreNetworks =
    (configs : List Config) (config : SiteNo → DomainConfig) (steps : List Step) (old new : World) →
    AgreeOnHome config → AreSolo configs config → StandsAtStart configs old → Runs steps old new →
    (w : Network) × Reaches (map (λ c. c.site) configs) config steps w × StandsFor new w

-- what they are asked to tell of a process's deliveries is what it delivered in this network
abbrev pub AllAnswersAreLists : Type 0
AllAnswersAreLists = HoldsInEveryNetwork (λ w.
    (world : World) (p : Proc) (ids : List Uid) → StandsFor world w →
    TellsDelivered world (w.at p.site).config.domain p ids → ids ≡ delivered_of w p)

-- so a law of what processes delivered holds of what daemons are asked to tell of each
abbrev pub HoldsOfAnswers : (Network → (Proc → List Uid) → Type 0) → Type 0
HoldsOfAnswers law = HoldsInEveryNetwork (λ w.
    (world : World) (told : Proc → List Uid) → StandsFor world w →
    ((p : Proc) → TellsDelivered world (w.at p.site).config.domain p (told p)) → law w told)

abbrev pub AllTellInOrder : Type 0
AllTellInOrder = HoldsOfAnswers ListsAreInOrder

abbrev pub AllTellTheSame : Type 0
AllTellTheSame = HoldsOfAnswers SameMessages

abbrev pub AllTellOneOrder : Type 0
AllTellOneOrder = HoldsOfAnswers SameOrder

abbrev pub AllToldOrdersAgree : Type 0
AllToldOrdersAgree = HoldsOfAnswers OrdersAgree
