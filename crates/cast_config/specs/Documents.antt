-- What a document gives a site: its tests in order, and the set-up where it passes them.
use Rattle.std.specs.Prelude.{ℕ, Bool, true, not, ◌&&◌, ◌==◌, if◌then◌else◌, List, [], ◌∷◌}
use Rattle.std.specs.Prelude.{filter, length, map, Option, Some, None, Result, Ok, Err}
use Rattle.std.specs.List.{list_all, list_any}
use Rattle.toml.specs.Data.{Data, Members}
use Rattle.toml.specs.Parse.{parse_document}
use Rattle.cast_types.specs.declared.names.SiteNo.{SiteNo}
use Rattle.cast_types.specs.Names.{site_eq}
use Rattle.cast_events.specs.declared.config.DomainConfig.{DomainConfig}
use Rattle.cast_script.specs.WordReadings.{◌>>=◌, each}
use Rattle.cast_config.specs.declared.domains.DomainEntry.{DomainEntry}
use Rattle.cast_config.specs.declared.setup.DomainSocket.{DomainSocket}
use Rattle.cast_config.specs.declared.setup.Setup.{Setup}
use Rattle.cast_config.specs.declared.network.Network.{Network}
use Rattle.cast_config.specs.declared.sites.SiteAddress.{SiteAddress}
use Rattle.cast_config.specs.declared.fault.Field.{Field}
use Rattle.cast_config.specs.declared.fault.Field.TheVariants as field
use Rattle.cast_config.specs.declared.fault.Cause.TheVariants.{NotToml, Range, Repeated, NotListed}
use Rattle.cast_config.specs.declared.fault.ConfigFault.{ConfigFault}
use Rattle.cast_config.specs.Faults.{fault}
use Rattle.cast_config.specs.Fields.{all_pass, at_field, counted, items_of_array, needed, table_of}
use Rattle.cast_config.specs.Entries.{domain_of, network_of, site_of}

-- the tables at a field of the document, which has to be an array of tables
unfoldable pub tables_at : Field → Members → Result (List Members) ConfigFault
tables_at f members = do
  d ← needed f members
  items ← items_of_array f d
  each (table_of f) items

-- no number stands twice
abbrev pub are_distinct : List ℕ → Bool
are_distinct [] = true
are_distinct (n ∷ ns) = not (list_any (λ m. m == n) ns) && are_distinct ns

-- ---- sites

abbrev pub site_numbers : List SiteAddress → List ℕ
site_numbers sites = map (λ s. s.site.0) sites

-- the site is one of these
abbrev pub is_listed : SiteNo → List SiteAddress → Bool
is_listed s sites = list_any (λ t. site_eq t.site s) sites

-- the numbers of the sites are all different, and the given one is among them
unfoldable pub checked_sites : SiteNo → List SiteAddress → Result (List SiteAddress) ConfigFault
checked_sites own sites =
    if not (are_distinct (site_numbers sites)) then Err (fault field.Number Repeated)
    else if is_listed own sites then Ok sites
    else Err (fault field.Site NotListed)

-- the sites of the document, from their tables
unfoldable pub sites_of : SiteNo → List Members → Result (List SiteAddress) ConfigFault
sites_of own tables = do
  sites ← each site_of tables
  checked_sites own sites

-- ---- domains

abbrev pub domain_numbers : List DomainEntry → List ℕ
domain_numbers domains = map (λ d. d.config.domain.0) domains

-- each site of the domain is one of the document's
abbrev pub are_listed : DomainEntry → List SiteAddress → Bool
are_listed d sites = list_all (λ s. is_listed s sites) d.config.sites

-- the domain has the site
abbrev pub is_at : SiteNo → DomainEntry → Bool
is_at s d = list_any (λ t. site_eq t s) d.config.sites

-- its sites are in the document, and its home is one of them
unfoldable pub placed : List SiteAddress → DomainEntry → Result (Unit {0}) ConfigFault
placed sites d =
    if not (are_listed d sites) then Err (fault field.Sites NotListed)
    else if is_at d.config.home d then Ok tt
    else Err (fault field.Home NotListed)

-- the numbers of the domains are all different, and each is placed
unfoldable pub checked_domains : List SiteAddress → List DomainEntry
    → Result (List DomainEntry) ConfigFault
checked_domains sites domains =
    if not (are_distinct (domain_numbers domains)) then Err (fault field.Number Repeated)
    else do
      all ← all_pass (placed sites) domains
      Ok domains

-- the domains of the document, from their tables
unfoldable pub domains_of : List SiteAddress → List Members → Result (List DomainEntry) ConfigFault
domains_of sites tables = do
  domains ← each domain_of tables
  checked_domains sites domains

-- ---- the whole

-- the domains that the site has
abbrev pub own_domains : SiteNo → List DomainEntry → List DomainEntry
own_domains own domains = filter (is_at own) domains

abbrev pub configs_of : List DomainEntry → List DomainConfig
configs_of domains = map (λ d. d.config) domains

abbrev pub sockets_of : List DomainEntry → List DomainSocket
sockets_of domains = map (λ d. record { domain = d.config.domain; path = d.socket }) domains

-- what is found of the network gives no bundles and no delay where it is absent
abbrev pub network_found : Option Data → Result Network ConfigFault
network_found None = Ok (record { bundle = None; delay = 0 })
network_found (Some d) = do
  members ← table_of field.Network d
  network_of members

-- the network of the document, which may be absent, and is else a table
unfoldable pub network_at : Members → Result Network ConfigFault
network_at members = network_found (at_field field.Network members)

-- the set-up of a site with these domains, of which there have to be some, and then with the
-- network of the document
unfoldable pub given : SiteNo → Members → List SiteAddress → List DomainEntry
    → Result Setup ConfigFault
given own document sites [] = Err (fault field.Domain Range)
given own document sites (d ∷ ds) = do
  network ← network_at document
  Ok (record {
    config = record { site = own; domains = configs_of (d ∷ ds) };
    addresses = sites;
    sockets = sockets_of (d ∷ ds);
    bundle = network.bundle;
    delay = network.delay;
  })

-- from the tables of sites and domains: first the sites, then how many domains there are, then the
-- domains, then the network
unfoldable pub tables_give : SiteNo → Members → List Members → List Members
    → Result Setup ConfigFault
tables_give own members site_tables domain_tables = do
  sites ← sites_of own site_tables
  few ← counted field.Domain 16 (length domain_tables)
  domains ← domains_of sites domain_tables
  given own members sites (own_domains own domains)

-- what a document gives a site
unfoldable pub document_gives : SiteNo → Members → Result Setup ConfigFault
document_gives own members = do
  site_tables ← tables_at field.Site members
  domain_tables ← tables_at field.Domain members
  tables_give own members site_tables domain_tables

-- the document that a text is
abbrev pub document_or_fault : Option Members → Result Members ConfigFault
document_or_fault None = Err (fault field.Text NotToml)
document_or_fault (Some members) = Ok members

-- what a text gives a site
unfoldable pub setup_of : SiteNo → List ℕ → Result Setup ConfigFault
setup_of own text = do
  members ← document_or_fault (parse_document text)
  document_gives own members
