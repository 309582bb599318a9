-- The domains of whole daemons, each as a network of its own.
use Rattle.std.specs.Prelude.{◌≡◌, ◌++◌, Contains, List, Some, false, filter, true}
use Rattle.cast_types.specs.Names.{site_eq}
use Rattle.cast_types.specs.Sets.{is_among}
use Rattle.cast_types.specs.declared.names.DomainNo.{DomainNo}
use Rattle.cast_types.specs.declared.names.Proc.{Proc}
use Rattle.cast_types.specs.declared.names.SiteNo.{SiteNo}
use Rattle.cast_message.specs.declared.client.Push.{Push}
use Rattle.cast_message.specs.declared.client.Push.TheVariants as push
use Rattle.cast_events.specs.declared.config.DomainConfig.{DomainConfig}
use Rattle.cast_rules.specs.Run.{entries_for}
use Rattle.cast_domain.specs.Fits.{Represents}
use Rattle.cast_domain.specs.Records.{is_halted}
use Rattle.cast_domain.specs.Shared.{part_of}
use Rattle.cast_domain.specs.declared.domain.Domain.{Domain}
use Rattle.cast_table.specs.Owns.{is_configured}
use Rattle.cast_table.specs.Shows.{domain_at}
use Rattle.cast_table.specs.Tables.{shared_of}
use Rattle.cast_world.specs.Agreement.{delivered_of}
use Rattle.cast_world.specs.Laws.{DeliversInOrder, OrdersAgree, SameMessages, SameOrder}
use Rattle.cast_world.specs.Network.{Network}
use Rattle.cast_world.specs.Programs.{AreTold, ShowInstalled, ShowOneMembership, ToldInSendingView}
use Rattle.cast_world.specs.Programs.{ToldWhenDue, casts_in}
use Rattle.cast_world.specs.Properties.{DeliversCausally, HasEachOnce, HasRisingViews}
use Rattle.cast_world.specs.Properties.{KeepsCausalOrder, KeepsSendingOrder}
use Rattle.cast_world.specs.Pushed.{ReachesTelling, Tells}
use Rattle.cast_world.specs.declared.step.Step.{Step}
use Rattle.cast_sites.specs.Daemons.{DaemonNetwork, DaemonsReach, TakesSteps, in_domain}

-- The configurations of one domain

-- the sites that serve a domain
abbrev pub sites_of : DomainNo → (SiteNo → List DomainConfig) → List SiteNo → List SiteNo
sites_of d served sites = filter (λ s. is_configured d (served s)) sites

-- a site serves a domain, by this configuration
pub record HasConfig (sites : List SiteNo) (served : SiteNo → List DomainConfig) (d : DomainNo)
    (s : SiteNo) (c : DomainConfig) : Type 0 where
  pub among : is_among site_eq s sites ≡ true
  pub listed : Contains (served s) c
  pub number : c.domain ≡ d

-- the sites that serve it name the same home
abbrev pub AgreeOnHomeOf : List SiteNo → (SiteNo → List DomainConfig) → DomainNo → Type 0
AgreeOnHomeOf sites served d =
    (s t : SiteNo) (b c : DomainConfig) →
    HasConfig sites served d s b → HasConfig sites served d t c → b.home ≡ c.home

-- a function has the configuration of each site that serves it
abbrev pub AreConfigs : List SiteNo → (SiteNo → List DomainConfig) → DomainNo
    → (SiteNo → DomainConfig) → Type 0
AreConfigs sites served d config =
    (s : SiteNo) (c : DomainConfig) → HasConfig sites served d s c → config s ≡ c

-- What daemons have of one domain

-- a site serves a domain, and want of memory has not halted it there
pub record RunsAt (d : DomainNo) (n : DaemonNetwork) (s : SiteNo) : Type 0 where
  pub among : is_among site_eq s n.sites ≡ true
  pub domain : Domain
  pub stands : domain_at d (n.at s) ≡ Some domain
  pub runs : is_halted domain ≡ false

-- what the programs of a domain were pushed, each in order
abbrev pub pushed_in : DomainNo → DaemonNetwork → Proc → List Push
pushed_in d n p = entries_for (in_domain d (n.pushed p.site)) p.serial

-- what daemons have of a domain is a network of the domain alone, to which these steps of its own
-- lead: the same frames were sent for it, in the same order; its programs were pushed the same
-- entries; and at each site where it runs, the domain stands for the history there
pub record IsNetworkOf (sites : List SiteNo) (served : SiteNo → List DomainConfig) (d : DomainNo)
    (n : DaemonNetwork) (own : List Step) (w : Network) : Type 0 where
  pub config : SiteNo → DomainConfig
  pub configs : AreConfigs sites served d config
  pub reaches : ReachesTelling (sites_of d served sites) config own (pushed_in d n) w
  pub sent : w.sent ≡ in_domain d n.sent
  pub stands : (s : SiteNo) (at : RunsAt d n s) →
      Represents at.domain (part_of d (shared_of (n.at s))) (w.at s)

-- The laws

-- whatever other domains there are, and whatever happens to them, each domain whose sites agree on
-- its home is such a network
abbrev pub DomainsAreNetworks : Type 0
DomainsAreNetworks =
    (sites : List SiteNo) (served : SiteNo → List DomainConfig) (steps : List Step)
    (n : DaemonNetwork) (d : DomainNo) →
    DaemonsReach sites served steps n → AgreeOnHomeOf sites served d →
    (own : List Step) × (w : Network) × IsNetworkOf sites served d n own w

-- as daemons go on, so does the network of each domain, by steps at sites where the domain still
-- runs: a domain that want of memory has halted at a site takes no more steps there
abbrev pub DomainsGoOn : Type 0
DomainsGoOn =
    (sites : List SiteNo) (served : SiteNo → List DomainConfig) (steps later : List Step)
    (n m : DaemonNetwork) (d : DomainNo) →
    DaemonsReach sites served steps n → TakesSteps n later m → AgreeOnHomeOf sites served d →
    (own more : List Step) × (w v : Network) × (entries : Proc → List Push)
    × IsNetworkOf sites served d n own w
    × Tells w more entries v
    × IsNetworkOf sites served d m (own ++ more) v
    × ((p : Proc) → pushed_in d m p ≡ pushed_in d n p ++ entries p)
    × ((step : Step) → Contains more step → RunsAt d n step.site)

-- a law of networks of one domain, and of what programs are pushed there, holds of each domain of
-- daemons
abbrev pub HoldsOfDomains : (Network → (Proc → List Push) → Type 0) → Type 0
HoldsOfDomains law =
    (sites : List SiteNo) (served : SiteNo → List DomainConfig) (steps : List Step)
    (n : DaemonNetwork) (d : DomainNo) →
    DaemonsReach sites served steps n → AgreeOnHomeOf sites served d →
    (own : List Step) × (w : Network)
    × IsNetworkOf sites served d n own w
    × law w (pushed_in d n)

-- its deliveries are in causal order
abbrev pub DomainsDeliverCausally : Type 0
DomainsDeliverCausally = HoldsOfDomains (λ w pushed. DeliversCausally w × DeliversInOrder w)

-- and its views agree
abbrev pub DomainsAgree : Type 0
DomainsAgree =
    HoldsOfDomains (λ w pushed.
    SameMessages w (delivered_of w) × SameOrder w (delivered_of w) × OrdersAgree w (delivered_of w))

-- its programs are told what their processes do, and what they are told keeps order and agrees
pub record AreToldLawfully (w : Network) (pushed : Proc → List Push) : Type 0 where
  pub all : AreTold w pushed
  pub causal : KeepsCausalOrder (λ m. m.id) w (λ p. casts_in (pushed p))
  pub due : ToldWhenDue w (λ p. casts_in (pushed p))
  pub first_in_first_out : KeepsSendingOrder (λ m. m.id) w (λ p. casts_in (pushed p))
  pub once : HasEachOnce (λ m. m.id) (λ p. casts_in (pushed p))
  pub sending_view : ToldInSendingView w pushed
  pub views_rise : HasRisingViews push.View pushed
  pub installed : ShowInstalled w pushed
  pub same_members : ShowOneMembership w pushed
  pub same_messages : SameMessages w (λ p. casts_in (pushed p))
  pub same_order : SameOrder w (λ p. casts_in (pushed p))
  pub prefix : OrdersAgree w (λ p. casts_in (pushed p))

abbrev pub DomainsAreTold : Type 0
DomainsAreTold = HoldsOfDomains AreToldLawfully
