-- A text that two sites read, as it was worked out by hand: what is said of such daemons is said of some.
use Rattle.std.proofs.Common.{arith, refl, subst, suc, zero}
use Rattle.std.specs.Prelude.{◌≡◌, ◌++◌, ⊤, Contains, List, None, Ok, [], codes, false, ℕ, ◌∷◌}
use Rattle.toml.proofs.OnLiterals.{toml_on_literals}
use Rattle.cast_types.specs.declared.names.SiteNo.{SiteNo}
use Rattle.cast_events.specs.declared.config.DomainConfig.{DomainConfig}
use Rattle.cast_script.specs.WordReadings.{each}
use Rattle.cast_config.specs.Documents.{checked_domains, checked_sites, document_gives, domains_of, given, network_at}
use Rattle.cast_config.specs.Documents.{placed, setup_of, sites_of, tables_at, tables_give}
use Rattle.cast_config.specs.Entries.{domain_of, network_of, quotas_of, site_of}
use Rattle.cast_config.specs.Fields.{boolean_at, boolean_of, counted, integer_of, items_of_array, needed, number_at}
use Rattle.cast_config.specs.Fields.{number_at_or, number_of, numbers_at, numbers_of, rising, table_of, text_at}
use Rattle.cast_config.specs.Fields.{text_of, within}
use Rattle.cast_config.specs.declared.setup.Setup.{Setup}
use Rattle.cast_premises.proofs.Premises.{one_text_names_one_home, one_text_numbers_from_one}
use Rattle.cast_premises.specs.Laws.{ReadOneText}
use Rattle.cast_sites.specs.Laws.{AgreeOnHomeOf}
use Rattle.cast_datagrams.specs.Laws.{AreNumberedFromOne}
use Rattle.cast_world.proofs.Homes.{site_among}

abbrev site : ℕ → SiteNo
site n = record { 0 = n }

text : List ℕ
text =
    codes "[[site]]\nnumber = 1\naddress = \"a:1\"\n[[site]]\nnumber = 2\naddress = \"b:1\"\n"
    ++ codes "[[domain]]\nnumber = 7\nhome = 2\nsites = [2, 1]\ngroups = [3]\nsocket = \"s\"\n"

-- the domain, with the usual quotas
domain : DomainConfig
domain =
    record {
      domain = record { 0 = 7 };
      home = site 2;
      sites = site 1 ∷ site 2 ∷ [];
      groups = record { 0 = 3 } ∷ [];
      quotas = record { sessions = 16; held = 256; outbox = 256; resend = 200 };
    }

abbrev setup : SiteNo → Setup
setup s =
    record {
      config = record { site = s; domains = domain ∷ [] };
      addresses =
          record { site = site 1; address = codes "a:1"; is_sealed = false }
          ∷ record { site = site 2; address = codes "b:1"; is_sealed = false } ∷ [];
      sockets = record { domain = record { 0 = 7 }; path = codes "s" } ∷ [];
      bundle = None;
      delay = 0;
    }

-- what computing a set-up opens
unfoldable fields : ⊤
unfolding boolean_at boolean_of integer_of items_of_array needed number_at number_at_or number_of numbers_at numbers_of table_of text_at
fields = tt

unfoldable readings : ⊤
unfolding counted each rising text_of within domain_of network_of quotas_of site_of checked_domains checked_sites domains_of sites_of
readings = tt

unfoldable documents : ⊤
unfolding toml_on_literals fields readings document_gives given network_at placed setup_of tables_at tables_give
documents = tt

first : setup_of (site 1) text ≡ Ok (setup (site 1))
unfolding documents text domain
first = refl

second : setup_of (site 2) text ≡ Ok (setup (site 2))
unfolding documents text domain
second = refl

abbrev sites : List SiteNo
sites = site 1 ∷ site 2 ∷ []

abbrev served : SiteNo → List DomainConfig
served s = (setup s).config.domains

each_reads : (s : SiteNo) → Contains sites s → setup_of s text ≡ Ok (setup s)
each_reads s (zero, lt, is) = subst (λ (t : SiteNo). setup_of t text ≡ Ok (setup t)) is first
each_reads s (suc zero, lt, is) = subst (λ (t : SiteNo). setup_of t text ≡ Ok (setup t)) is second
each_reads s (suc (suc k), lt, is) = absurd (omega (arith, lt))

one_text : ReadOneText text sites served
one_text = record { setup = setup; reads = λ s among. each_reads s (site_among sites s among); serves = λ s among. refl }

agree_there : AgreeOnHomeOf sites served (record { 0 = 7 })
agree_there = one_text_names_one_home text sites served (record { 0 = 7 }) one_text

numbered_there : AreNumberedFromOne sites served
numbered_there = one_text_numbers_from_one text sites served one_text
