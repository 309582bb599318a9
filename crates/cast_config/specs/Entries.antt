-- What a site's table, a domain's table and the table of the network say, field by field.
use Rattle.std.specs.Prelude.{ℕ, if◌then◌else◌, List, map, Some, None, Result, Ok}
use Rattle.toml.specs.Data.{Members}
use Rattle.cast_types.specs.declared.names.SiteNo.{SiteNo}
use Rattle.cast_types.specs.declared.names.GroupNo.{GroupNo}
use Rattle.cast_quota.specs.declared.quotas.Quotas.{Quotas}
use Rattle.cast_script.specs.WordReadings.{◌>>=◌}
use Rattle.cast_config.specs.declared.domains.DomainEntry.{DomainEntry}
use Rattle.cast_config.specs.declared.network.Network.{Network}
use Rattle.cast_config.specs.declared.sites.SiteAddress.{SiteAddress}
use Rattle.cast_config.specs.declared.fault.Field.TheVariants.{Number, Address, Home, Sites, Groups}
use Rattle.cast_config.specs.declared.fault.Field.TheVariants.{Socket, Sessions, Held, Outbox}
use Rattle.cast_config.specs.declared.fault.Field.TheVariants.{Resend, Bundle, Datagram, Delay}
use Rattle.cast_config.specs.declared.fault.Field.TheVariants.{Sealed}
use Rattle.cast_config.specs.declared.fault.ConfigFault.{ConfigFault}
use Rattle.cast_config.specs.Fields.{boolean_at, number_at, number_at_or, numbers_at, text_at}

-- a site with the text of its address, and whether it is sealed
unfoldable pub site_of : Members → Result SiteAddress ConfigFault
site_of members = do
  n ← number_at Number 1 65535 members
  text ← text_at Address members
  sealed ← boolean_at Sealed members
  Ok (record { site = record { 0 = n }; address = text; is_sealed = sealed })

-- the quotas, where the usual ones stand for those that are absent
unfoldable pub quotas_of : Members → Result Quotas ConfigFault
quotas_of members = do
  a ← number_at_or Sessions 16 1 64 members
  b ← number_at_or Held 256 1 1024 members
  c ← number_at_or Outbox 256 1 4096 members
  d ← number_at_or Resend 200 10 60000 members
  Ok (record { sessions = a; held = b; outbox = c; resend = d })

abbrev pub sites_from : List ℕ → List SiteNo
sites_from numbers = map (λ n. record { 0 = n }) numbers

abbrev pub groups_from : List ℕ → List GroupNo
groups_from numbers = map (λ n. record { 0 = n }) numbers

-- a domain with the path of its socket
unfoldable pub domain_of : Members → Result DomainEntry ConfigFault
domain_of members = do
  n ← number_at Number 1 255 members
  home ← number_at Home 1 65535 members
  sites ← numbers_at Sites 16 members
  groups ← numbers_at Groups 32 members
  path ← text_at Socket members
  quotas ← quotas_of members
  Ok (record {
    config = record {
      domain = record { 0 = n };
      home = record { 0 = home };
      sites = sites_from sites;
      groups = groups_from groups;
      quotas = quotas;
    };
    socket = path;
  })

-- the most bytes of a bundle, if frames are to share datagrams, and the delay; each number is
-- tested in any case
unfoldable pub network_of : Members → Result Network ConfigFault
network_of members = do
  bundle ← boolean_at Bundle members
  most ← number_at_or Datagram 8972 512 60000 members
  delay ← number_at_or Delay 0 0 1000000 members
  Ok (record { bundle = if bundle then Some most else None; delay = delay })
