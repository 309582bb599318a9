-- Daemons that read one configuration meet the premises of the laws, so the laws hold of them.
use Rattle.std.proofs.Common.{◌∙◌, ap, arith, inl, inr, subst, sym}
use Rattle.std.proofs.lemmas.Bool.{and_parts, eq-eqb, eqb-true, false≢true}
use Rattle.std.specs.List.{AllByRecursion, list_any}
use Rattle.std.specs.Prelude.{◌≡◌, ◌≤◌, ◌==◌, Contains, List, [], not, true, ℕ, ◌∷◌}
use Rattle.cast_types.specs.Names.{site_eq}
use Rattle.cast_types.specs.Sets.{is_among}
use Rattle.cast_types.specs.declared.names.DomainNo.{DomainNo}
use Rattle.cast_types.specs.declared.names.Proc.{Proc}
use Rattle.cast_types.specs.declared.names.SiteNo.{SiteNo}
use Rattle.cast_message.specs.declared.client.Push.{Push}
use Rattle.cast_events.specs.declared.config.DomainConfig.{DomainConfig}
use Rattle.cast_config.specs.Documents.{are_distinct, domain_numbers, is_at, own_domains, tables_at}
use Rattle.cast_config.specs.declared.fault.Field.TheVariants as field
use Rattle.cast_config.specs.declared.domains.DomainEntry.{DomainEntry}
use Rattle.cast_config.specs.Entries.{domain_of}
use Rattle.cast_datagrams.proofs.Datagrams.{datagrams_agree, datagrams_are_told, datagrams_deliver_causally}
use Rattle.cast_datagrams.proofs.Datagrams.{wired_frames_are_received}
use Rattle.cast_datagrams.proofs.Lists.{came_of}
use Rattle.cast_datagrams.specs.Laws.{HoldsOverDatagrams}
use Rattle.cast_delay.proofs.Finds.{any_in, kept_parts}
use Rattle.cast_delay.proofs.ListLemmas.{contains_cases}
use Rattle.cast_delay.proofs.MemberLemmas.{member_any}
use Rattle.cast_world.proofs.Allowed.{contains_mapped}
use Rattle.cast_script.specs.WordReadings.{each}
use Rattle.cast_premises.proofs.Readings.{IsFromOne, Reads, domain_from, each_had, right_is, setup_reads}
use Rattle.cast_premises.specs.Laws.{HoldsOfInstallations, InstallationsAgree, InstallationsAreTold}
use Rattle.cast_premises.specs.Laws.{InstallationsDeliverCausally, InstallationsReadTheirFrames, OneTextNamesOneHome}
use Rattle.cast_premises.specs.Laws.{OneTextNumbersFromOne, ReadOneText}
use Rattle.cast_sites.specs.Laws.{AreToldLawfully, HasConfig}
use Rattle.cast_world.specs.Agreement.{delivered_of}
use Rattle.cast_world.specs.Laws.{DeliversInOrder, OrdersAgree, SameMessages, SameOrder}
use Rattle.cast_world.specs.Network.{Network}
use Rattle.cast_world.specs.Properties.{DeliversCausally}

-- the number of a domain stands once
once : (z x : DomainEntry) (zs : List DomainEntry) → not (list_any (λ m. m == z.config.domain.0) (domain_numbers zs)) ≡ true →
    Contains zs x → z.config.domain.0 ≡ x.config.domain.0 → z ≡ x
once z x zs none at same =
    let numbered = contains_number zs x at in
    let some = member_any (λ m. m == z.config.domain.0) (domain_numbers zs) x.config.domain.0 numbered
    (eq-eqb x.config.domain.0 z.config.domain.0 (sym same)) in
    absurd (false≢true (ap not (sym some) ∙ none))
  where
    contains_number : (zs : List DomainEntry) (x : DomainEntry) → Contains zs x → Contains (domain_numbers zs) x.config.domain.0
    contains_number zs x at = contains_mapped (λ (d : DomainEntry). d.config.domain.0) zs x at

-- so the domains of a document that have one number are one
one_of_a_number : (domains : List DomainEntry) (x y : DomainEntry) → are_distinct (domain_numbers domains) ≡ true →
    Contains domains x → Contains domains y → x.config.domain.0 ≡ y.config.domain.0 → x ≡ y
one_of_a_number [] x y distinct has had same = absurd (omega (arith, has.1))
one_of_a_number (z ∷ zs) x y distinct has had same =
    let parts = and_parts (not (list_any (λ m. m == z.config.domain.0) (domain_numbers zs))) (are_distinct (domain_numbers zs)) distinct in
    elim (contains_cases z x zs has) [
      | inl is ↦ elim (contains_cases z y zs had) [
        | inl also ↦ sym is ∙ also
        | inr later ↦ sym is ∙ once z y zs parts.0 later (ap (λ (d : DomainEntry). d.config.domain.0) is ∙ same)
      ]
      | inr later ↦ elim (contains_cases z y zs had) [
        | inl is ↦ sym (once z x zs parts.0 later (ap (λ (d : DomainEntry). d.config.domain.0) is ∙ sym same)) ∙ is
        | inr after ↦ one_of_a_number zs x y parts.1 later after same
      ]
    ]

-- a domain that a site serves is one of the document's, and the site is one of its sites
pub record IsServed (domains : List DomainEntry) (s : SiteNo) (c : DomainConfig) : Type 0 where
  pub entry : DomainEntry
  pub is : entry.config ≡ c
  pub listed : Contains domains entry
  pub at : is_at s entry ≡ true

module _ (text : List ℕ) (sites : List SiteNo) (served : SiteNo → List DomainConfig) (one : ReadOneText text sites served) where
  reads : (s : SiteNo) → is_among site_eq s sites ≡ true → Reads text s (one.setup s)
  reads s among = setup_reads text s (one.setup s) (one.reads s among)

  is_served : (s : SiteNo) (among : is_among site_eq s sites ≡ true) (c : DomainConfig) → Contains (served s) c →
      IsServed (reads s among).domains s c
  is_served s among c listed =
      let r = reads s among in
      let has = subst (λ cs. Contains cs c) (one.serves s among ∙ r.served) listed in
      let entry = came_of (λ (d : DomainEntry). d.config) (own_domains s r.domains) c has in
      let kept = kept_parts (is_at s) r.domains entry.0 entry.1 in
      record { entry = entry.0; is = entry.2; listed = kept.0; at = kept.1 }

  -- all sites have the domains of one document
  same_domains : (s t : SiteNo) (a : is_among site_eq s sites ≡ true) (b : is_among site_eq t sites ≡ true) →
      (reads s a).domains ≡ (reads t b).domains
  same_domains s t a b =
      let r = reads s a in
      let q = reads t b in
      let members : r.members ≡ q.members = right_is r.members q.members (sym r.document ∙ q.document) in
      let tables : r.tables ≡ q.tables =
      right_is r.tables q.tables (sym r.listed ∙ ap (λ m. tables_at field.Domain m) members ∙ q.listed) in
      right_is r.domains q.domains (sym r.entries ∙ ap (λ ts. each domain_of ts) tables ∙ q.entries)

  one_home : (d : DomainNo) (s t : SiteNo) (b c : DomainConfig) → HasConfig sites served d s b → HasConfig sites served d t c →
      b.home ≡ c.home
  one_home d s t b c here there =
      let x = is_served s here.among b here.listed in
      let y = is_served t there.among c there.listed in
      let had = subst (λ ds. Contains ds y.entry) (sym (same_domains s t here.among there.among)) y.listed in
      let same : x.entry.config.domain ≡ y.entry.config.domain =
      ap (λ (e : DomainConfig). e.domain) x.is ∙ here.number ∙ sym there.number ∙ sym (ap (λ (e : DomainConfig). e.domain) y.is) in
      let is = one_of_a_number (reads s here.among).domains x.entry y.entry (reads s here.among).distinct x.listed had
      (ap (λ (n : DomainNo). n.0) same) in
      ap (λ (e : DomainConfig). e.home) (sym x.is ∙ ap (λ (e : DomainEntry). e.config) is ∙ y.is)

  from_one : (s : SiteNo) (c : DomainConfig) → is_among site_eq s sites ≡ true → Contains (served s) c →
      (1 ≤ s.0) × (1 ≤ c.domain.0) × AllByRecursion (λ g. 1 ≤ g.0) c.groups
  from_one s c among listed =
      let r = reads s among in
      let x = is_served s among c listed in
      let table = each_had domain_of r.tables r.domains x.entry r.entries x.listed in
      let numbers : IsFromOne x.entry.config = domain_from table.0 x.entry table.1 in
      let own = any_in (λ t. site_eq t s) x.entry.config.sites x.at in
      let first : 1 ≤ s.0 = subst (λ n. 1 ≤ n) (eqb-true own.0.0 s.0 own.1.1) (numbers.sites own.0 own.1.0) in
      subst (λ (e : DomainConfig). (1 ≤ s.0) × (1 ≤ e.domain.0) × AllByRecursion (λ g. 1 ≤ g.0) e.groups) x.is
      (first, numbers.domain, numbers.groups)

pub one_text_names_one_home : OneTextNamesOneHome
one_text_names_one_home text sites served d one s t b c here there = one_home text sites served one d s t b c here there

pub one_text_numbers_from_one : OneTextNumbersFromOne
one_text_numbers_from_one text sites served one s c among listed = from_one text sites served one s c among listed

of_installations : (law : Network → (Proc → List Push) → Type 0) → HoldsOverDatagrams law → HoldsOfInstallations law
of_installations law every text sites served events n d one reach =
    every sites served events n d reach (one_text_names_one_home text sites served d one)

pub installations_deliver_causally : InstallationsDeliverCausally
installations_deliver_causally = of_installations (λ w pushed. DeliversCausally w × DeliversInOrder w) datagrams_deliver_causally

pub installations_agree : InstallationsAgree
installations_agree =
    of_installations
    (λ w pushed. SameMessages w (delivered_of w) × SameOrder w (delivered_of w) × OrdersAgree w (delivered_of w)) datagrams_agree

pub installations_are_told : InstallationsAreTold
installations_are_told = of_installations AreToldLawfully datagrams_are_told

pub installations_read_their_frames : InstallationsReadTheirFrames
installations_read_their_frames text sites served events n m s e answers f one reach at =
    wired_frames_are_received sites served events n m s e answers f reach (one_text_names_one_home text sites served f.0 one)
    (one_text_numbers_from_one text sites served one) at
