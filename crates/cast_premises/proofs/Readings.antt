-- What is known of what a text gives: of numbers, of domains, and of a set-up.
use Rattle.std.proofs.Common.{◌∙◌, ap, arith, inl, inr, refl, subst, sym}
use Rattle.std.proofs.lemmas.Bool.{and_parts, leb-true}
use Rattle.std.specs.List.{AllByRecursion}
use Rattle.std.specs.Ordering.{nat_cmp}
use Rattle.std.specs.Prelude.{◌≡◌, ◌≤◌, ◌&&◌, ◌==◌, Bool, Contains, Err, List, Ok, Result, [], false, if◌then◌else◌}
use Rattle.std.specs.Prelude.{length, nat_le, negsuc, not, pos, true, ℕ, ℤ, ◌∷◌}
use Rattle.toml.specs.Data.{Data, Members}
use Rattle.toml.specs.Parse.{parse_document}
use Rattle.cast_events.specs.declared.config.DomainConfig.{DomainConfig}
use Rattle.cast_types.specs.Sets.{set_of}
use Rattle.cast_types.specs.declared.names.GroupNo.{GroupNo}
use Rattle.cast_types.specs.declared.names.SiteNo.{SiteNo}
use Rattle.cast_script.specs.WordReadings.{◌>>=◌, each}
use Rattle.cast_config.specs.Documents.{are_distinct, checked_domains, configs_of, document_gives, document_or_fault}
use Rattle.cast_config.specs.Documents.{domain_numbers, domains_of, given, network_at, own_domains, placed, setup_of}
use Rattle.cast_config.specs.Documents.{sites_of, tables_at, tables_give}
use Rattle.cast_config.specs.Entries.{domain_of, groups_from, quotas_of, sites_from}
use Rattle.cast_config.specs.Faults.{fault}
use Rattle.cast_config.specs.Fields.{all_pass, counted, integer_of, items_of_array, needed, number_at, number_of}
use Rattle.cast_config.specs.Fields.{numbers_at, numbers_of, rising, text_at, within}
use Rattle.cast_config.specs.declared.domains.DomainEntry.{DomainEntry}
use Rattle.cast_config.specs.declared.fault.Cause.TheVariants.{Range, Repeated}
use Rattle.cast_config.specs.declared.fault.ConfigFault.{ConfigFault}
use Rattle.cast_config.specs.declared.fault.Field.{Field}
use Rattle.cast_config.specs.declared.fault.Field.TheVariants as field
use Rattle.cast_config.specs.declared.setup.Setup.{Setup}
use Rattle.cast_config.specs.declared.sites.SiteAddress.{SiteAddress}
use Rattle.cast_datagrams.proofs.Lists.{came_of}
use Rattle.cast_delay.proofs.ListLemmas.{contains_cases}
use Rattle.cast_quota.specs.declared.quotas.Quotas.{Quotas}
use Rattle.cast_types.proofs.Contains.{contains_here, contains_later}
use Rattle.cast_world.proofs.Homes.{set_had}

-- ---- steps that do not fail

bind_ok : {A B : Type 0} (r : Result A ConfigFault) (f : A → Result B ConfigFault) (y : B) → (r >>= f) ≡ Ok y →
    (x : A) × (r ≡ Ok x) × (f x ≡ Ok y)
bind_ok (Ok x) f y e = (x, refl, e)
bind_ok (Err d) f y e = absurd cc

pass_ok : {A : Type 0} (b : Bool) (d : ConfigFault) (x : Result A ConfigFault) (y : A) → (if b then x else Err d) ≡ Ok y →
    (b ≡ true) × (x ≡ Ok y)
pass_ok true d x y e = (refl, e)
pass_ok false d x y e = absurd cc

guard_ok : {A : Type 0} (b : Bool) (d : ConfigFault) (x : Result A ConfigFault) (y : A) → (if not b then Err d else x) ≡ Ok y →
    (b ≡ true) × (x ≡ Ok y)
guard_ok true d x y e = (refl, e)
guard_ok false d x y e = absurd cc

abbrev right : {A : Type 0} → A → Result A ConfigFault
right x = Ok x

pub right_is : {A : Type 0} (x y : A) → right x ≡ right y → x ≡ y
right_is x y e = cc

-- what was read of items was read of one of them
pub each_had : {A B : Type 0} (read : A → Result B ConfigFault) (xs : List A) (ys : List B) (y : B) → each read xs ≡ Ok ys →
    Contains ys y → (x : A) × (read x ≡ Ok y)
unfolding each
each_had read [] ys y e at =
    let none = subst (λ zs. Contains zs y) (sym (right_is [] ys e)) at in absurd (omega (arith, none.1))
each_had read (x ∷ xs) ys y e at =
    let first = bind_ok (read x) (λ z. each read xs >>= λ zs. Ok (z ∷ zs)) ys e in
    let rest = bind_ok (each read xs) (λ zs. Ok (first.0 ∷ zs)) ys first.2 in
    let there = subst (λ zs. Contains zs y) (sym (right_is (first.0 ∷ rest.0) ys rest.2)) at in
    elim (contains_cases first.0 y rest.0 there) [
      | inl here ↦ (x, first.1 ∙ ap right here)
      | inr later ↦ each_had read xs rest.0 y rest.1 later
    ]

-- ---- numbers

within_from : (f : Field) (least most : ℕ) (z : ℤ) (n : ℕ) → within f least most z ≡ Ok n → least ≤ n
unfolding within
within_from f least most (pos k) n e =
    let passed = pass_ok (nat_le least k && nat_le k most) (fault f Range) (right k) n e in
    let is : k ≡ n = right_is k n passed.1 in
    subst (λ m. least ≤ m) is (leb-true least k (and_parts (nat_le least k) (nat_le k most) passed.0).0)
within_from f least most (negsuc k) n e = absurd cc

number_from : (f : Field) (least most : ℕ) (d : Data) (n : ℕ) → number_of f least most d ≡ Ok n → least ≤ n
unfolding number_of
number_from f least most d n e =
    let whole = bind_ok (integer_of f d) (within f least most) n e in within_from f least most whole.0 n whole.2

number_at_from : (f : Field) (least most : ℕ) (members : Members) (n : ℕ) → number_at f least most members ≡ Ok n → least ≤ n
unfolding number_at
number_at_from f least most members n e =
    let found = bind_ok (needed f members) (number_of f least most) n e in number_from f least most found.0 n found.2

rising_had : (f : Field) (numbers ns : List ℕ) (n : ℕ) → rising f numbers ≡ Ok ns → Contains ns n → Contains numbers n
unfolding rising
rising_had f numbers ns n e at =
    let set = set_of nat_cmp numbers in
    let passed = pass_ok (length set == length numbers) (fault f Repeated) (right set) ns e in
    set_had nat_cmp numbers n (subst (λ zs. Contains zs n) (sym (right_is set ns passed.1)) at)

numbers_from : (f : Field) (most : ℕ) (d : Data) (ns : List ℕ) (n : ℕ) → numbers_of f most d ≡ Ok ns → Contains ns n → 1 ≤ n
unfolding numbers_of
numbers_from f most d ns n e at =
    let items = bind_ok (items_of_array f d)
    (λ items. all_pass (integer_of f) items >>= λ kinds. each (number_of f 1 65535) items >>= λ numbers.
    counted f most (length numbers) >>= λ few. rising f numbers) ns e in
    let kinds = bind_ok (all_pass (integer_of f) items.0)
    (λ kinds. each (number_of f 1 65535) items.0 >>= λ numbers. counted f most (length numbers) >>= λ few. rising f numbers)
    ns items.2 in
    let numbers = bind_ok (each (number_of f 1 65535) items.0)
    (λ numbers. counted f most (length numbers) >>= λ few. rising f numbers) ns kinds.2 in
    let few = bind_ok (counted f most (length numbers.0)) (λ few. rising f numbers.0) ns numbers.2 in
    let one = each_had (number_of f 1 65535) items.0 numbers.0 n numbers.1 (rising_had f numbers.0 ns n few.2 at) in
    number_from f 1 65535 one.0 n one.1

numbers_at_from : (f : Field) (most : ℕ) (members : Members) (ns : List ℕ) (n : ℕ) → numbers_at f most members ≡ Ok ns →
    Contains ns n → 1 ≤ n
unfolding numbers_at
numbers_at_from f most members ns n e at =
    let found = bind_ok (needed f members) (numbers_of f most) ns e in numbers_from f most found.0 ns n found.2 at

-- ---- domains

abbrev entry_of : ℕ → ℕ → List ℕ → List ℕ → List ℕ → Quotas → DomainEntry
entry_of number home sites groups path quotas =
    record {
      config = record {
        domain = record { 0 = number };
        home = record { 0 = home };
        sites = sites_from sites;
        groups = groups_from groups;
        quotas = quotas;
      };
      socket = path;
    }

-- the numbers of a domain count from 1, those of its sites and of its groups too
pub record IsFromOne (c : DomainConfig) : Type 0 where
  pub domain : 1 ≤ c.domain.0
  pub sites : (s : SiteNo) → Contains c.sites s → 1 ≤ s.0
  pub groups : AllByRecursion (λ g. 1 ≤ g.0) c.groups

sites_of_numbers : (ns : List ℕ) → ((n : ℕ) → Contains ns n → 1 ≤ n) → (s : SiteNo) → Contains (sites_from ns) s → 1 ≤ s.0
sites_of_numbers ns every s at =
    let number = came_of (λ (n : ℕ). record { 0 = n }) ns s at in
    subst (λ (t : SiteNo). 1 ≤ t.0) number.2 (every number.0 number.1)

groups_of_numbers : (ns : List ℕ) → ((n : ℕ) → Contains ns n → 1 ≤ n) → AllByRecursion (λ (g : GroupNo). 1 ≤ g.0) (groups_from ns)
groups_of_numbers [] every = tt
groups_of_numbers (n ∷ ns) every = (
  every n (contains_here n ns),
  groups_of_numbers ns (λ m at. every m (contains_later m n ns at)),
)

pub domain_from : (members : Members) (x : DomainEntry) → domain_of members ≡ Ok x → IsFromOne x.config
unfolding domain_of
domain_from members x e =
    let number = bind_ok (number_at field.Number 1 255 members) _ x e in
    let home = bind_ok (number_at field.Home 1 65535 members) _ x number.2 in
    let sites = bind_ok (numbers_at field.Sites 16 members) _ x home.2 in
    let groups = bind_ok (numbers_at field.Groups 32 members) _ x sites.2 in
    let path = bind_ok (text_at field.Socket members) _ x groups.2 in
    let quotas = bind_ok (quotas_of members) _ x path.2 in
    let is = right_is (entry_of number.0 home.0 sites.0 groups.0 path.0 quotas.0) x quotas.2 in
    subst (λ (y : DomainEntry). IsFromOne y.config) is (record {
      domain = number_at_from field.Number 1 255 members number.0 number.1;
      sites = sites_of_numbers sites.0 (λ n. numbers_at_from field.Sites 16 members sites.0 n sites.1);
      groups = groups_of_numbers groups.0 (λ n. numbers_at_from field.Groups 32 members groups.0 n groups.1);
    })

-- ---- a set-up

-- of what a text gives a site: the domains of its document, no two of one number, of which the site serves its own
pub record Reads (text : List ℕ) (own : SiteNo) (setup : Setup) : Type 0 where
  pub members : Members
  pub document : document_or_fault (parse_document text) ≡ Ok members
  pub tables : List Members
  pub listed : tables_at field.Domain members ≡ Ok tables
  pub domains : List DomainEntry
  pub entries : each domain_of tables ≡ Ok domains
  pub distinct : are_distinct (domain_numbers domains) ≡ true
  pub served : setup.config.domains ≡ configs_of (own_domains own domains)

-- a set-up has the domains that it is given
given_serves : (own : SiteNo) (document : Members) (sites : List SiteAddress) (domains : List DomainEntry) (setup : Setup) →
    given own document sites domains ≡ Ok setup → setup.config.domains ≡ configs_of domains
unfolding given
given_serves own document sites [] setup e = absurd cc
given_serves own document sites (d ∷ ds) setup e =
    let network = bind_ok (network_at document) _ setup e in
    sym (ap (λ (s : Setup). s.config.domains) (right_is _ setup network.2))

-- the domains that are left once they were tested are all
domains_are : (sites : List SiteAddress) (tables : List Members) (domains : List DomainEntry) → domains_of sites tables ≡ Ok domains →
    (each domain_of tables ≡ Ok domains) × (are_distinct (domain_numbers domains) ≡ true)
unfolding domains_of checked_domains
domains_are sites tables domains e =
    let read = bind_ok (each domain_of tables) (checked_domains sites) domains e in
    let tested = guard_ok (are_distinct (domain_numbers read.0)) (fault field.Number Repeated)
    (all_pass (placed sites) read.0 >>= λ all. right read.0) domains read.2 in
    let placed_all = bind_ok (all_pass (placed sites) read.0) (λ all. right read.0) domains tested.1 in
    let is : read.0 ≡ domains = right_is read.0 domains placed_all.2 in
    subst (λ ds. (each domain_of tables ≡ Ok ds) × (are_distinct (domain_numbers ds) ≡ true)) is (read.1, tested.0)

pub setup_reads : (text : List ℕ) (own : SiteNo) (setup : Setup) → setup_of own text ≡ Ok setup → Reads text own setup
unfolding setup_of document_gives tables_give
setup_reads text own setup e =
    let members = bind_ok (document_or_fault (parse_document text)) (document_gives own) setup e in
    let sites = bind_ok (tables_at field.Site members.0) _ setup members.2 in
    let tables = bind_ok (tables_at field.Domain members.0) (tables_give own members.0 sites.0) setup sites.2 in
    let addresses = bind_ok (sites_of own sites.0) _ setup tables.2 in
    let few = bind_ok (counted field.Domain 16 (length tables.0)) _ setup addresses.2 in
    let domains = bind_ok (domains_of addresses.0 tables.0) _ setup few.2 in
    let are = domains_are addresses.0 tables.0 domains.0 domains.1 in
    record {
      members = members.0;
      document = members.1;
      tables = tables.0;
      listed = tables.1;
      domains = domains.0;
      entries = are.0;
      distinct = are.1;
      served = given_serves own members.0 addresses.0 (own_domains own domains.0) setup domains.2;
    }
