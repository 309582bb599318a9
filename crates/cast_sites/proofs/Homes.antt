-- Where the sites that serve a domain agree on its home, a function gives each site's configuration of it, and one home.
use Rattle.std.proofs.Common.{◌≡◌, zero, suc, Bool, true, false, not, ◌||◌, List, [], ◌∷◌, Option, Some, None, unwrap_or}
use Rattle.std.proofs.Common.{refl, sym, ap, ◌∙◌, arith, cond}
use Rattle.std.specs.Prelude.{Contains, if◌then◌else◌}
use Rattle.std.specs.List.{find}
use Rattle.std.proofs.lemmas.Bool.{and_parts, false_from_ne_true, false≢true, not-true, or_left, or_right}
use Rattle.cast_types.specs.Names.{site_eq}
use Rattle.cast_types.specs.Sets.{is_among}
use Rattle.cast_types.specs.declared.names.DomainNo.{DomainNo}
use Rattle.cast_types.specs.declared.names.SiteNo.{SiteNo}
use Rattle.cast_types.proofs.Orders.{same_site, site_itself}
use Rattle.cast_quota.specs.Quotas.{usual}
use Rattle.cast_events.specs.declared.config.DomainConfig.{DomainConfig}
use Rattle.cast_table.specs.Owns.{are_distinct, is_configured}
use Rattle.cast_table.specs.Tables.{domain_eq}
use Rattle.cast_table.proofs.Parts.{domain_itself, same_domain}
use Rattle.cast_table.proofs.Places.{none_some}
use Rattle.cast_world.proofs.Keeps.{found_is}
use Rattle.cast_world.specs.Network.{AgreeOnHome}
use Rattle.cast_sites.specs.Laws.{AgreeOnHomeOf, AreConfigs, HasConfig}

listed_configured : (cs : List DomainConfig) (c : DomainConfig) (d : DomainNo) → Contains cs c → c.domain ≡ d → is_configured d cs ≡ true
listed_configured [] c d (k, lt, at) number = absurd (omega (arith, lt))
listed_configured (x ∷ cs) c d (zero, lt, at) number =
    or_left (domain_eq x.domain d) (is_configured d cs)
    (ap (λ (y : DomainConfig). domain_eq y.domain d) at ∙ ap (λ (q : DomainNo). domain_eq q d) number ∙ domain_itself d)
listed_configured (x ∷ cs) c d (suc k, lt, at) number =
    or_right (domain_eq x.domain d) (is_configured d cs) (listed_configured cs c d (k, omega (arith, lt), at) number)

-- where no two have one number, the one that is listed is found
found_listed : (cs : List DomainConfig) (c : DomainConfig) (d : DomainNo) → are_distinct cs ≡ true → Contains cs c → c.domain ≡ d →
    find (λ x. domain_eq x.domain d) cs ≡ Some c
found_listed [] c d distinct (k, lt, at) number = absurd (omega (arith, lt))
found_listed (x ∷ cs) c d distinct (zero, lt, at) number =
    ap (λ b. cond b (Some x) (find (λ y. domain_eq y.domain d) cs))
    (ap (λ (y : DomainConfig). domain_eq y.domain d) at ∙ ap (λ (q : DomainNo). domain_eq q d) number ∙ domain_itself d)
    ∙ ap Some at
found_listed (x ∷ cs) c d distinct (suc k, lt, at) number =
    let parts = and_parts (not (is_configured x.domain cs)) (are_distinct cs) distinct in
    let later : Contains cs c = (k, omega (arith, lt), at) in
    let other : domain_eq x.domain d ≡ false =
    false_from_ne_true (domain_eq x.domain d) (λ same.
    false≢true (sym (not-true (is_configured x.domain cs) parts.0)
    ∙ ap (λ q. is_configured q cs) (same_domain x.domain d same)
    ∙ listed_configured cs c d later number)) in
    ap (λ b. cond b (Some x) (find (λ y. domain_eq y.domain d) cs)) other ∙ found_listed cs c d parts.1 later number

module _ (sites : List SiteNo) (served : SiteNo → List DomainConfig) (d : DomainNo)
    (distinct : (s : SiteNo) → is_among site_eq s sites ≡ true → are_distinct (served s) ≡ true)
    (agree : AgreeOnHomeOf sites served d) where
  abbrev at_site : SiteNo → Option DomainConfig
  at_site s = find (λ c. domain_eq c.domain d) (served s)

  has_at : (s : SiteNo) (c : DomainConfig) → HasConfig sites served d s c → at_site s ≡ Some c
  has_at s c has = found_listed (served s) c d (distinct s has.among) has.listed has.number

  at_has : (s : SiteNo) (c : DomainConfig) → is_among site_eq s sites ≡ true → at_site s ≡ Some c → HasConfig sites served d s c
  at_has s c among at =
      let found = found_is (λ (x : DomainConfig). domain_eq x.domain d) (served s) c at in
      record { among = among; listed = found.1; number = same_domain c.domain d found.0 }

  -- one that no site has
  abbrev no_config : DomainConfig
  no_config = record { domain = d; home = record { 0 = 0 }; sites = []; groups = []; quotas = usual }

  -- that of the first of these sites that serves the domain
  abbrev first_config : List SiteNo → DomainConfig
  first_config [] = no_config
  first_config (s ∷ others) = unwrap_or (at_site s) (first_config others)

  -- that of a site, where it serves the domain
  abbrev pub config_at : SiteNo → DomainConfig
  config_at s = if is_among site_eq s sites then unwrap_or (at_site s) (first_config sites) else first_config sites

  pub configs_at : AreConfigs sites served d config_at
  configs_at s c has =
      ap (λ b. if b then unwrap_or (at_site s) (first_config sites) else first_config sites) has.among
      ∙ ap (λ o. unwrap_or o (first_config sites)) (has_at s c has)

  module _ (s : SiteNo) (c : DomainConfig) (has : HasConfig sites served d s c) where
    first_home : (xs : List SiteNo) → ((t : SiteNo) → is_among site_eq t xs ≡ true → is_among site_eq t sites ≡ true) →
        is_among site_eq s xs ≡ true → c.home ≡ (first_config xs).home
    first_home [] within among = absurd (false≢true among)
    first_home (x ∷ xs) within among =
        go (at_site x) refl
        (λ later. first_home xs (λ t at. within t (or_right (site_eq t x) (is_among site_eq t xs) at)) later)
      where
        elsewhere : (b : Bool) → site_eq s x ≡ b → at_site x ≡ None → (b || is_among site_eq s xs) ≡ true → is_among site_eq s xs ≡ true
        elsewhere true same none here =
            absurd (none_some c (sym none ∙ ap at_site (sym (same_site s x same)) ∙ has_at s c has))
        elsewhere false other none there = there

        go : (o : Option DomainConfig) → at_site x ≡ o → (is_among site_eq s xs ≡ true → c.home ≡ (first_config xs).home) →
            c.home ≡ (unwrap_or o (first_config xs)).home
        go None none later = later (elsewhere (site_eq s x) refl none among)
        go (Some e) at later =
            agree s x c e has (at_has x e (within x (or_left (site_eq x x) (is_among site_eq x xs) (site_itself x))) at)

  home_at : (s : SiteNo) → (config_at s).home ≡ (first_config sites).home
  home_at s = go (is_among site_eq s sites) refl (at_site s) refl
    where
      go : (b : Bool) → is_among site_eq s sites ≡ b → (o : Option DomainConfig) → at_site s ≡ o →
          (if b then unwrap_or o (first_config sites) else first_config sites).home ≡ (first_config sites).home
      go false among o at = refl
      go true among None at = refl
      go true among (Some c) at = first_home s c (at_has s c among at) sites (λ t is. is) among

  pub homes_agree : AgreeOnHome config_at
  homes_agree s t = home_at s ∙ sym (home_at t)
