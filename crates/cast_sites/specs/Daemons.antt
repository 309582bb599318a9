-- Whole daemons at several sites, each with a table of domains, and every frame ever sent.
-- A frame that no step takes is lost; steps may take one again, and in any order.
use Rattle.std.specs.Prelude.{◌≡◌, ◌++◌, ℕ, true, if◌then◌else◌, List, [], ◌∷◌, map, filter}
use Rattle.std.specs.Prelude.{slice_get, Option, Some, None, Result}
use Rattle.std.specs.List.{AllZip}
use Rattle.cast_types.specs.Names.{site_eq}
use Rattle.cast_types.specs.Sets.{is_among, set_at}
use Rattle.cast_types.specs.declared.names.DomainNo.{DomainNo}
use Rattle.cast_types.specs.declared.names.SiteNo.{SiteNo}
use Rattle.cast_message.specs.declared.client.Push.{Push}
use Rattle.cast_events.specs.Outs.{no_outs}
use Rattle.cast_events.specs.declared.config.DomainConfig.{DomainConfig}
use Rattle.cast_events.specs.declared.event.Event.{Event}
use Rattle.cast_events.specs.declared.event.Outs.{Outs}
use Rattle.cast_events.specs.declared.event.Taken.{Taken}
use Rattle.cast_events.specs.declared.log.Fault.{Fault}
use Rattle.cast_table.specs.Owns.{are_distinct, have_rising_groups}
use Rattle.cast_table.specs.Tables.{InTable, IsApplied, IsNew, IsUnchanged, NotesHalts}
use Rattle.cast_table.specs.Tables.{SharesNothing, by_number, domain_eq, domains_of}
use Rattle.cast_table.specs.declared.table.Table.{Table}
use Rattle.cast_world.specs.Network.{hand_frame, is_local}
use Rattle.cast_world.specs.declared.step.Happening.{Happening}
use Rattle.cast_world.specs.declared.step.Happening.TheVariants.{Local, Sent}
use Rattle.cast_world.specs.declared.step.Packet.{Packet}
use Rattle.cast_world.specs.declared.step.Step.{Step}

pub record DaemonNetwork : Type 0 where
  pub sites : List SiteNo
  -- the table of the daemon at each site
  pub at : SiteNo → Table
  -- every frame ever sent, in order, with its domain
  pub sent : List (DomainNo × Packet)
  -- every entry that the programs of a site were ever pushed, in order, with its domain and the
  -- serial of its session
  pub pushed : SiteNo → List (DomainNo × (ℕ × Push))

-- daemons with these tables, before anything happens
abbrev pub opened : List SiteNo → (SiteNo → Table) → DaemonNetwork
opened sites tables = record { sites = sites; at = tables; sent = []; pushed = λ s. [] }

-- the table of a daemon that has just started at a site: its domains are those of its
-- configuration, which gives no two of them one number and names the groups of each in rising
-- order; nothing of any domain is among what is shared
pub record IsNewTable (s : SiteNo) (configs : List DomainConfig) (table : Table) : Type 0 where
  pub distinct : are_distinct configs ≡ true
  pub rising : have_rising_groups configs ≡ true
  pub domains : AllZip (IsNew s) (by_number configs) (domains_of table)
  pub unshared : SharesNothing table

-- the daemon of each site has just started
abbrev pub AreNew : List SiteNo → (SiteNo → List DomainConfig) → (SiteNo → Table) → Type 0
AreNew sites served tables =
    (s : SiteNo) → is_among site_eq s sites ≡ true → IsNewTable s (served s) (tables s)

-- What happens

-- a frame is handed to the site that it is addressed to, as an event of its domain
abbrev pub hand_tagged : SiteNo → Option (DomainNo × Packet) → Option Event
hand_tagged s None = None
hand_tagged s (Some f) = hand_frame f.0 s (Some f.1)

-- what comes to a site: an event of its own, of any domain or of all, or a frame by its number
-- among all that were ever sent
abbrev pub event_coming : DaemonNetwork → SiteNo → Happening → Option Event
event_coming n s (Local e) = if is_local e then Some e else None
event_coming n s (Sent k) = hand_tagged s (slice_get n.sent k)

-- the event of a step, where its site is one of the network's
abbrev pub event_taken : DaemonNetwork → Step → Option Event
event_taken n step =
    if is_among site_eq step.site n.sites then event_coming n step.site step.what else None

-- a table answers an event, and this comes of it: what the contract of `Table::apply` says, where
-- nothing had come of events before. Where there is no memory to begin with, nothing changes; a
-- domain that finds none in its step is halted
pub record IsAnswered (answer : Result Taken Fault) (e : Event) (old : Table) (new : Table)
    (outs : Outs) : Type 0 where
  pub applied : InTable (IsApplied answer e) old no_outs new outs
  pub unchanged : IsUnchanged answer old new no_outs outs
  pub halted : NotesHalts answer e (domains_of old) (domains_of new) [] outs.halted

-- with the number of a domain apart from the rest
abbrev pub paired : {A B : Type 0} → List (DomainNo × A × B) → List (DomainNo × (A × B))
paired xs = map (λ x. (x.0, (x.1, x.2))) xs

-- a daemon has another table now, what it sent is on the network, and its programs were pushed
-- these entries
abbrev pub move_daemon : DaemonNetwork → SiteNo → Table → Outs → DaemonNetwork
move_daemon n s table outs =
    record n {
      at = set_at site_eq n.at s table;
      sent = n.sent ++ map (λ f. (f.0, record { from = s; to = f.1; frame = f.2 })) outs.frames;
      pushed = set_at site_eq n.pushed s (n.pushed s ++ paired outs.pushed);
    }

-- an event, where there is one, takes n to m: the daemon of the site answers it
abbrev pub TakesEvent : DaemonNetwork → SiteNo → Option Event → DaemonNetwork → Type 0
TakesEvent n s None m = m ≡ n
TakesEvent n s (Some e) m =
    (answer : Result Taken Fault) × (table : Table) × (outs : Outs)
    × IsAnswered answer e (n.at s) table outs
    × (m ≡ move_daemon n s table outs)

-- a step takes n to m
abbrev pub TakesStep : DaemonNetwork → Step → DaemonNetwork → Type 0
TakesStep n step m = TakesEvent n step.site (event_taken n step) m

-- a list of steps does
abbrev pub TakesSteps : DaemonNetwork → List Step → DaemonNetwork → Type 0
TakesSteps n [] m = m ≡ n
TakesSteps n (step ∷ steps) m =
    (u : DaemonNetwork) × TakesStep n step u × TakesSteps u steps m

-- daemons that have just started are led to n by a list of steps
pub record DaemonsReach (sites : List SiteNo) (served : SiteNo → List DomainConfig)
    (steps : List Step) (n : DaemonNetwork) : Type 0 where
  pub tables : SiteNo → Table
  pub new : AreNew sites served tables
  pub takes : TakesSteps (opened sites tables) steps n

-- The part of one domain

-- of what bears the numbers of domains, what bears this one's, without it
abbrev pub in_domain : {X : Type 0} → DomainNo → List (DomainNo × X) → List X
in_domain d xs = map (λ x. x.1) (filter (λ x. domain_eq x.0 d) xs)
