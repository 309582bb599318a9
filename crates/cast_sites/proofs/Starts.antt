-- What daemons that have just started have of one domain is the start of a network of the domain.
use Rattle.std.proofs.Common.{◌≡◌, suc, Bool, true, false, cond, not, List, [], ◌∷◌, Some}
use Rattle.std.proofs.Common.{refl, sym, ap, subst, ◌∙◌, arith}
use Rattle.std.specs.Prelude.{Contains, nat_le}
use Rattle.std.specs.List.{AllByRecursion, AllZip, find}
use Rattle.std.proofs.lemmas.Bool.{and_parts, not-true, or_left, or_parts, or_right}
use Rattle.std.proofs.lemmas.Map.Views.{any-filter_same}
use Rattle.cast_types.specs.Names.{group_cmp, site_eq}
use Rattle.cast_types.specs.Rising.{is_rising}
use Rattle.cast_types.specs.Sets.{is_among}
use Rattle.cast_types.specs.declared.names.DomainNo.{DomainNo}
use Rattle.cast_types.specs.declared.names.SiteNo.{SiteNo}
use Rattle.cast_types.proofs.Orders.{same_site}
use Rattle.cast_events.specs.declared.config.DomainConfig.{DomainConfig}
use Rattle.cast_rules.specs.State.{opening}
use Rattle.cast_domain.specs.Fits.{Represents}
use Rattle.cast_domain.specs.Records.{number_of}
use Rattle.cast_domain.specs.Shared.{no_part, part_of}
use Rattle.cast_domain.specs.declared.domain.Domain.{Domain}
use Rattle.cast_domain.specs.declared.shared.Shared.{Shared}
use Rattle.cast_table.specs.Owns.{are_distinct, have_rising_groups, is_configured}
use Rattle.cast_table.specs.Shows.{domain_at}
use Rattle.cast_table.specs.Tables.{IsNew, by_number, domain_eq, domains_of, put_in, shared_of}
use Rattle.cast_table.specs.declared.table.Table.{Table}
use Rattle.cast_table.proofs.Ordered.{configured_same, distinct_by_number, rising_by_number}
use Rattle.cast_table.proofs.Parts.{same_domain}
use Rattle.cast_table.proofs.Places.{none_some, same_some}
use Rattle.cast_world.specs.Network.{start}
use Rattle.cast_sites.specs.Daemons.{AreNew, opened}
use Rattle.cast_sites.specs.Laws.{AreConfigs, sites_of}
use Rattle.cast_sites.proofs.Turns.{Stands}
use Rattle.cast_sites.proofs.Events.{AreApart, IsNone, numbers_in}
use Rattle.cast_sites.proofs.Networks.{Joins, SiteJoins}

-- What holds of each configuration

all_contained : {X : Type 0} (P : X → Type 0) (xs : List X) → ((x : X) → Contains xs x → P x) → AllByRecursion P xs
all_contained P [] so = tt
all_contained {X} P (x ∷ xs) so = (so x (0, omega arith, refl), all_contained P xs (λ y at. so y (behind y at)))
  where
    behind : (y : X) → Contains xs y → Contains (x ∷ xs) y
    behind y (k, lt, at) = (suc k, omega (arith, lt), at)

module _ (P : DomainConfig → Type 0) where
  put_in_all : (c : DomainConfig) (cs : List DomainConfig) → P c → AllByRecursion P cs → AllByRecursion P (put_in c cs)
  put_in_all c [] here all = (here, tt)
  put_in_all c (x ∷ cs) here all = go (nat_le c.domain.0 x.domain.0) (put_in_all c cs here all.1)
    where
      go : (b : Bool) → AllByRecursion P (put_in c cs) → AllByRecursion P (cond b (c ∷ x ∷ cs) (x ∷ put_in c cs))
      go true later = (here, all)
      go false later = (all.0, later)

  by_number_all : (cs : List DomainConfig) → AllByRecursion P cs → AllByRecursion P (by_number cs)
  by_number_all [] all = tt
  by_number_all (c ∷ cs) all = put_in_all c (by_number cs) all.0 (by_number_all cs all.1)

  rising_all : (cs : List DomainConfig) → have_rising_groups cs ≡ true → AllByRecursion P cs →
      AllByRecursion (λ c. (is_rising group_cmp c.groups ≡ true) × P c) cs
  rising_all [] rising all = tt
  rising_all (c ∷ cs) rising all =
      let parts = and_parts (is_rising group_cmp c.groups) (have_rising_groups cs) rising in
      ((parts.0, all.0), rising_all cs parts.1 all.1)

-- Domains before their first event

module _ (s : SiteNo) where
  none_new : (d : DomainNo) (cs : List DomainConfig) (ds : List Domain) → AllZip (IsNew s) cs ds → is_configured d cs ≡ false →
      IsNone d (numbers_in ds)
  none_new d [] [] new none = tt
  none_new d [] (x ∷ ds) new none = absurd new
  none_new d (c ∷ cs) [] new none = absurd new
  none_new d (c ∷ cs) (x ∷ ds) new none =
      let parts = or_parts (domain_eq c.domain d) (is_configured d cs) none in
      (ap (λ m. domain_eq m d) new.0.number ∙ parts.0, none_new d cs ds new.1 parts.1)

  apart_new : (cs : List DomainConfig) (ds : List Domain) → AllZip (IsNew s) cs ds → are_distinct cs ≡ true → AreApart (numbers_in ds)
  apart_new [] [] new distinct = tt
  apart_new [] (x ∷ ds) new distinct = absurd new
  apart_new (c ∷ cs) [] new distinct = absurd new
  apart_new (c ∷ cs) (x ∷ ds) new distinct =
      let parts = and_parts (not (is_configured c.domain cs)) (are_distinct cs) distinct in
      let none = none_new c.domain cs ds new.1 (not-true (is_configured c.domain cs) parts.0) in
      (subst (λ (q : DomainNo). IsNone q (numbers_in ds)) (sym new.0.number) none, apart_new cs ds new.1 parts.1)

  module _ (shared : Shared) (unshared : (q : DomainNo) → part_of q shared ≡ no_part) where
    stand_new : (cs : List DomainConfig) (ds : List Domain) → AllZip (IsNew s) cs ds → have_rising_groups cs ≡ true →
        AllByRecursion (Stands shared) ds
    stand_new [] [] new rising = tt
    stand_new [] (x ∷ ds) new rising = absurd new
    stand_new (c ∷ cs) [] new rising = absurd new
    stand_new (c ∷ cs) (x ∷ ds) new rising =
        let parts = and_parts (is_rising group_cmp c.groups) (have_rising_groups cs) rising in (
          λ runs. (opening s c, subst (λ p. Represents x p (opening s c)) (sym (unshared (number_of x))) (new.0.begins parts.0)),
          stand_new cs ds new.1 parts.1,
        )

  -- the first domain of a number is of a configuration of that number
  pub record IsNewFor (P : DomainConfig → Type 0) (d : DomainNo) (cs : List DomainConfig) (x : Domain) : Type 0 where
    pub config : DomainConfig
    pub new : IsNew s config x
    pub holds : P config
    pub number : config.domain ≡ d
    pub configured : is_configured d cs ≡ true

  found_new : (P : DomainConfig → Type 0) (d : DomainNo) (cs : List DomainConfig) (ds : List Domain) (x : Domain) →
      AllZip (IsNew s) cs ds → AllByRecursion P cs → find (λ y. domain_eq (number_of y) d) ds ≡ Some x → IsNewFor P d cs x
  found_new P d [] [] x new all found = absurd (none_some x found)
  found_new P d [] (y ∷ ds) x new all found = absurd new
  found_new P d (c ∷ cs) [] x new all found = absurd new
  found_new P d (c ∷ cs) (y ∷ ds) x new all found =
      go (domain_eq (number_of y) d) refl found (λ later. found_new P d cs ds x new.1 all.1 later)
    where
      go : (b : Bool) → domain_eq (number_of y) d ≡ b → cond b (Some y) (find (λ z. domain_eq (number_of z) d) ds) ≡ Some x →
          (find (λ z. domain_eq (number_of z) d) ds ≡ Some x → IsNewFor P d cs x) → IsNewFor P d (c ∷ cs) x
      go true is here later =
          record {
            config = c;
            new = subst (IsNew s c) (same_some y x here) new.0;
            holds = all.0;
            number = sym new.0.number ∙ same_domain (number_of y) d is;
            configured =
                or_left (domain_eq c.domain d) (is_configured d cs) (ap (λ m. domain_eq m d) (sym new.0.number) ∙ is);
          }
      go false is there later =
          let rest = later there in
          record {
            config = rest.config;
            new = rest.new;
            holds = rest.holds;
            number = rest.number;
            configured = or_right (domain_eq c.domain d) (is_configured d cs) rest.configured;
          }

-- All sites

module _ (d : DomainNo) (served : SiteNo → List DomainConfig) (sites : List SiteNo) (tables : SiteNo → Table)
    (config : SiteNo → DomainConfig) (new : AreNew sites served tables) (configs : AreConfigs sites served d config) where
  abbrev Given : SiteNo → DomainConfig → Type 0
  Given s c = (is_rising group_cmp c.groups ≡ true) × (c.domain ≡ d → config s ≡ c)

  first_at : (s : SiteNo) → is_among site_eq s sites ≡ true → (x : Domain) → domain_at d (tables s) ≡ Some x →
      IsNewFor s (Given s) d (by_number (served s)) x
  first_at s among x stands =
      let is = new s among in
      found_new s (Given s) d (by_number (served s)) (domains_of (tables s)) x is.domains
      (rising_all (λ c. c.domain ≡ d → config s ≡ c) (by_number (served s)) (rising_by_number (served s) ∙ is.rising)
      (by_number_all (λ c. c.domain ≡ d → config s ≡ c) (served s)
      (all_contained (λ c. c.domain ≡ d → config s ≡ c) (served s) (λ c at number.
      configs s c (record { among = among; listed = at; number = number })))))
      stands

  serves_new : (s : SiteNo) → is_among site_eq s sites ≡ true → (x : Domain) → domain_at d (tables s) ≡ Some x →
      is_among site_eq s (sites_of d served sites) ≡ true
  serves_new s among x stands =
      let first = first_at s among x stands in
      any-filter_same (site_eq s) (λ z. is_configured d (served z)) true
      (λ z same. ap (λ (y : SiteNo). is_configured d (served y)) (sym (same_site s z same))
      ∙ sym (configured_same d (served s))
      ∙ first.configured)
      sites ∙ among

  means_new : (s : SiteNo) → is_among site_eq s sites ≡ true → (x : Domain) → domain_at d (tables s) ≡ Some x →
      Represents x (part_of d (shared_of (tables s))) (opening s (config s))
  means_new s among x stands =
      let first = first_at s among x stands in
      subst (λ (c : DomainConfig). Represents x (part_of d (shared_of (tables s))) (opening s c)) (sym (first.holds.1 first.number))
      (subst (λ p. Represents x p (opening s first.config)) (sym ((new s among).unshared d)) (first.new.begins first.holds.0))

  site_new : (s : SiteNo) → is_among site_eq s sites ≡ true →
      SiteJoins d (sites_of d served sites) s (tables s) (opening s (config s))
  site_new s among =
      let is = new s among in
      record {
        apart = apart_new s (by_number (served s)) (domains_of (tables s)) is.domains (distinct_by_number (served s) is.distinct);
        all =
            stand_new s (shared_of (tables s)) is.unshared (by_number (served s)) (domains_of (tables s)) is.domains
            (rising_by_number (served s) ∙ is.rising);
        serves = serves_new s among;
        means = λ x stands runs. means_new s among x stands;
      }

  pub joins_new : Joins d (opened sites tables) (start (sites_of d served sites) config)
  joins_new = record { sent = refl; sites = site_new }
