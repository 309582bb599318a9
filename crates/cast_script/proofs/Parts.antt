-- What a word or a part of a line is read as, it spells, and what it spells is read of it.
-- There is a pair of lemmas for each part: one ending in `_is` (what is read is what the words
-- spell) and one ending in `_again` (the words that spell it are read as it). Numbers, names,
-- lists of sites and groups, quotas and bytes each have a pair. Reading takes one word after the
-- other, so the pair of a list follows from that of its items, and a test that a reading makes is
-- one that the spelling asks.
use Rattle.std.proofs.Common.{◌≡◌, ◌≢◌, ℕ, ◌≤◌, true, false, cond, ltb, eqb, ◌&&◌, ◌||◌, bytes_eq, Decides, List, [], ◌∷◌, length}
use Rattle.std.proofs.Common.{get_or, codes, Contains, Result, Ok, Err, inl, inr, IsTrue, refl, sym, ap, subst, ◌∙◌, arith}
use Rattle.std.specs.Borrow.{Bor}
use Rattle.std.specs.Fmt.{decimal}
use Rattle.std.specs.List.{AllByRecursion, list_any}
use Rattle.std.proofs.lemmas.Bool.{and_from, and_parts, cases_Bool, cond-false, cond-true, eq-eqb}
use Rattle.std.proofs.lemmas.Bool.{eqb-true, eqb-false, le-ltb, ltb-false, or_from, or_parts, ne_eqb}
use Rattle.std.proofs.lemmas.Bool.Decides.{Decides-by_or}
use Rattle.std.proofs.lemmas.List.{nil_from_length}
use Rattle.std.proofs.lemmas.List.Elements.{Decides-contains}
use Rattle.std.proofs.lemmas.Slice.Eq.{bytes_eq-Decides}
use Rattle.hex.specs.Hex.{decode_of}
use Rattle.hex.specs.declared.error.FromHexError.{FromHexError}
use Rattle.cast_types.specs.declared.names.DomainNo.{DomainNo}
use Rattle.cast_types.specs.declared.names.SiteNo.{SiteNo}
use Rattle.cast_types.specs.declared.names.GroupNo.{GroupNo}
use Rattle.cast_types.specs.Names.{site_eq}
use Rattle.cast_quota.specs.declared.quotas.Quotas.{Quotas}
use Rattle.cast_quota.specs.declared.quotas.QuotaName.{QuotaName}
use Rattle.cast_quota.specs.declared.quotas.QuotaName.TheVariants as name
use Rattle.cast_events.specs.declared.config.DomainConfig.{DomainConfig}
use Rattle.cast_script.specs.declared.words.Reason.{Reason}
use Rattle.cast_script.specs.declared.words.Reason.TheVariants.{UnknownWord, BadNumber, BadHex, Order}
use Rattle.cast_script.specs.Words.{AreWithinLimits, IsDomain, IsGroup, IsSite, SpellsBytes, SpellsGroups, SpellsSites, groups_rise}
use Rattle.cast_script.specs.Words.{is_configured, parts_at, place_texts, quota_name_text, quota_texts, sites_rise, texts}
use Rattle.cast_script.specs.WordReadings.{bytes_of, checked_groups, checked_sites, bytes_or_reason, domain_of, each}
use Rattle.cast_script.specs.WordReadings.{fixed_of, group_of, groups_of, list_words, new_domain_of, number_within}
use Rattle.cast_script.specs.WordReadings.{place_words, quota_name_of, quota_names, quota_words, site_of, sites_of}
use Rattle.cast_script.proofs.Results.{bind_ok, guard_ok, made_ok, ok_is, pass_ok}
use Rattle.cast_script.proofs.Each.{each_read, each_again}
use Rattle.cast_script.proofs.Named.{among_is, none_among}
use Rattle.cast_script.proofs.Numbers.{limited_is, limited_again}

-- ---- names

pub domain_is : (w : List ℕ) (d : DomainNo) → domain_of w ≡ Ok d → (w ≡ decimal d.0) × IsDomain d
unfolding domain_of
domain_is w d e =
    made_ok {A = ℕ} {B = DomainNo} (number_within 1 255 w) (λ n. record { 0 = n }) (λ x. (w ≡ decimal x.0) × IsDomain x)
    d e (λ n is. limited_is 1 255 w n is)

pub domain_again : (d : DomainNo) → IsDomain d → domain_of (decimal d.0) ≡ Ok d
unfolding domain_of
domain_again d is = rw (limited_again 1 255 d.0 is (omega arith)) refl

-- a number that none of these has
new_is : (before : List DomainConfig) (d e : DomainNo) → cond (is_configured d before) (Err Order) (Ok d) ≡ Ok e
    → (d ≡ e) × (is_configured e before ≡ false)
new_is before d e h =
    let passed = guard_ok (is_configured d before) Order (Ok d) e h in
    let same = ok_is Reason d e passed.1 in
    (same, subst (λ x. is_configured x before ≡ false) same passed.0)

pub new_domain_is : (before : List DomainConfig) (w : List ℕ) (d : DomainNo) → new_domain_of before w ≡ Ok d
    → (w ≡ decimal d.0) × IsDomain d × (is_configured d before ≡ false)
unfolding new_domain_of
new_domain_is before w d e =
    let read = bind_ok (domain_of w) _ d e in
    let fresh = new_is before read.0 d read.2 in
    let is = domain_is w read.0 read.1 in
    (subst (λ x. w ≡ decimal x.0) fresh.0 is.0, subst IsDomain fresh.0 is.1, fresh.1)

pub new_domain_again : (before : List DomainConfig) (d : DomainNo) → IsDomain d → is_configured d before ≡ false
    → new_domain_of before (decimal d.0) ≡ Ok d
unfolding new_domain_of
new_domain_again before d is fresh = rw (domain_again d is, fresh) refl

pub site_is : (w : List ℕ) (s : SiteNo) → site_of w ≡ Ok s → (w ≡ decimal s.0) × IsSite s
unfolding site_of
site_is w s e =
    made_ok {A = ℕ} {B = SiteNo} (number_within 1 65535 w) (λ n. record { 0 = n }) (λ x. (w ≡ decimal x.0) × IsSite x)
    s e (λ n is. limited_is 1 65535 w n is)

pub site_again : (s : SiteNo) → IsSite s → site_of (decimal s.0) ≡ Ok s
unfolding site_of
site_again s is = rw (limited_again 1 65535 s.0 is (omega arith)) refl

pub group_is : (w : List ℕ) (g : GroupNo) → group_of w ≡ Ok g → (w ≡ decimal g.0) × IsGroup g
unfolding group_of
group_is w g e =
    made_ok {A = ℕ} {B = GroupNo} (number_within 1 65535 w) (λ n. record { 0 = n }) (λ x. (w ≡ decimal x.0) × IsGroup x)
    g e (λ n is. limited_is 1 65535 w n is)

pub group_again : (g : GroupNo) → IsGroup g → group_of (decimal g.0) ≡ Ok g
unfolding group_of
group_again g is = rw (limited_again 1 65535 g.0 is (omega arith)) refl

-- ---- lists

same_site : (s t : SiteNo) → Decides (site_eq t s) (t ≡ s)
same_site s t = (λ e. ap (λ (n : ℕ). record { 0 = n }) (eqb-true t.0 s.0 e), λ e. eq-eqb t.0 s.0 (ap (λ (x : SiteNo). x.0) e))

has_site : (s : SiteNo) (sites : List SiteNo) → Decides (list_any (λ t. site_eq t s) sites) (Contains sites s)
has_site s sites =
    Decides-contains sites s (list_any (λ t. site_eq t s) sites)
    (Decides-by_or (λ t. site_eq t s) (λ t. t ≡ s) (list_any (λ t. site_eq t s)) (same_site s) refl (λ _ _. refl) sites)

-- what is known of the sites of a domain
pub record AreSites (h o : SiteNo) (w : List ℕ) (sites : List SiteNo) : Type 0 where
  pub spelled : SpellsSites w sites
  pub named : AllByRecursion IsSite sites
  pub few : length sites ≤ 16
  pub rising : IsTrue (sites_rise sites)
  pub home : Contains sites h
  pub own : Contains sites o

pub record AreGroups (w : List ℕ) (groups : List GroupNo) : Type 0 where
  pub spelled : SpellsGroups w groups
  pub named : AllByRecursion IsGroup groups
  pub some : 1 ≤ length groups
  pub few : length groups ≤ 32
  pub rising : IsTrue (groups_rise groups)

-- what the tests of a list of sites tell
pub record ArePlaced (h o : SiteNo) (sites : List SiteNo) : Type 0 where
  pub few : length sites ≤ 16
  pub rising : IsTrue (sites_rise sites)
  pub home : Contains sites h
  pub own : Contains sites o

placed_is : (h o : SiteNo) (all sites : List SiteNo) → checked_sites h o all ≡ Ok sites → (all ≡ sites) × ArePlaced h o sites
unfolding checked_sites
placed_is h o all sites e =
    let short = guard_ok (ltb 16 (length all)) BadNumber _ sites e in
    let passed =
    pass_ok (sites_rise all && list_any (λ s. site_eq s h) all && list_any (λ s. site_eq s o) all) Order (Ok all) sites short.1 in
    let outer = and_parts (sites_rise all && list_any (λ s. site_eq s h) all) (list_any (λ s. site_eq s o) all) passed.0 in
    let inner = and_parts (sites_rise all) (list_any (λ s. site_eq s h) all) outer.0 in
    let same = ok_is Reason all sites passed.1 in (
      same,
      subst (ArePlaced h o) same (record {
        few = ltb-false 16 (length all)
            short.0;
        rising = inner.0;
        home = (has_site h all).0 inner.1;
        own = (has_site o all).0 outer.1;
      }),
    )

pub checked_again : (h o : SiteNo) (sites : List SiteNo) → length sites ≤ 16 → sites_rise sites ≡ true
    → list_any (λ s. site_eq s h) sites ≡ true → list_any (λ s. site_eq s o) sites ≡ true → checked_sites h o sites ≡ Ok sites
unfolding checked_sites
checked_again h o sites few rises home own =
    let short : ltb 16 (length sites) ≡ false = le-ltb 16 (length sites) few in
    let test : (sites_rise sites && list_any (λ s. site_eq s h) sites && list_any (λ s. site_eq s o) sites) ≡ true =
    and_from _ _ (and_from _ _ rises home) own in
    rw (short, test) refl

placed_again : (h o : SiteNo) (sites : List SiteNo) → ArePlaced h o sites → checked_sites h o sites ≡ Ok sites
placed_again h o sites are =
    checked_again h o sites are.few are.rising ((has_site h sites).1 are.home) ((has_site o sites).1 are.own)

pub sites_is : (h o : SiteNo) (w : List ℕ) (sites : List SiteNo) → sites_of h o w ≡ Ok sites → AreSites h o w sites
unfolding sites_of
sites_is h o w sites e =
    let all = bind_ok (each site_of (parts_at 44 w)) _ sites e in
    let placed = placed_is h o all.0 sites all.2 in
    let read =
    each_read site_of (λ s. decimal s.0) IsSite site_is (parts_at 44 w) sites (all.1 ∙ ap (λ (ss : List SiteNo). Ok ss) placed.0) in
    record { spelled = read.0; named = read.1; few = placed.1.few; rising = placed.1.rising; home = placed.1.home; own = placed.1.own }

pub sites_again : (h o : SiteNo) (w : List ℕ) (sites : List SiteNo) → AreSites h o w sites → sites_of h o w ≡ Ok sites
unfolding sites_of
sites_again h o w sites are =
    let read : each site_of (parts_at 44 w) ≡ Ok sites =
    ap (each site_of) are.spelled ∙ each_again site_of (λ s. decimal s.0) IsSite site_again sites are.named in
    rw read (placed_again h o sites (record { few = are.few; rising = are.rising; home = are.home; own = are.own }))

counted_is : (all groups : List GroupNo) → checked_groups all ≡ Ok groups
    → (all ≡ groups) × (1 ≤ length groups) × (length groups ≤ 32) × IsTrue (groups_rise groups)
unfolding checked_groups
counted_is all groups e =
    let short = guard_ok (eqb (length all) 0 || ltb 32 (length all)) BadNumber _ groups e in
    let sizes = or_parts (eqb (length all) 0) (ltb 32 (length all)) short.0 in
    let passed = pass_ok (groups_rise all) Order (Ok all) groups short.1 in
    let same = ok_is Reason all groups passed.1 in
    let low = eqb-false (length all) 0 sizes.0 in
    let high = ltb-false 32 (length all) sizes.1 in (
      same,
      subst (λ (gs : List GroupNo). 1 ≤ length gs) same (omega arith),
      subst (λ (gs : List GroupNo). length gs ≤ 32) same high,
      subst (λ (gs : List GroupNo). IsTrue (groups_rise gs)) same passed.0,
    )

pub groups_is : (w : List ℕ) (groups : List GroupNo) → groups_of w ≡ Ok groups → AreGroups w groups
unfolding groups_of
groups_is w groups e =
    let all = bind_ok (each group_of (parts_at 44 w)) _ groups e in
    let counted = counted_is all.0 groups all.2 in
    let read =
    each_read group_of (λ g. decimal g.0) IsGroup group_is (parts_at 44 w) groups (all.1 ∙ ap (λ (gs : List GroupNo). Ok gs) counted.0) in
    record { spelled = read.0; named = read.1; some = counted.1; few = counted.2; rising = counted.3 }

counted_again : (groups : List GroupNo) → 1 ≤ length groups → length groups ≤ 32 → IsTrue (groups_rise groups)
    → checked_groups groups ≡ Ok groups
unfolding checked_groups
counted_again groups some few rises =
    let short : (eqb (length groups) 0 || ltb 32 (length groups)) ≡ false =
    or_from _ _ (ne_eqb (length groups) 0 (λ none. omega arith)) (le-ltb 32 (length groups) few) in
    rw (short, rises) refl

pub groups_again : (w : List ℕ) (groups : List GroupNo) → AreGroups w groups → groups_of w ≡ Ok groups
unfolding groups_of
groups_again w groups are =
    let read : each group_of (parts_at 44 w) ≡ Ok groups =
    ap (each group_of) are.spelled ∙ each_again group_of (λ g. decimal g.0) IsGroup group_again groups are.named in
    rw read (counted_again groups are.some are.few are.rising)

-- ---- names of quotas

pub quota_name_is : (w : List ℕ) (n : QuotaName) → quota_name_of w ≡ Ok n → w ≡ quota_name_text n
unfolding quota_name_of
quota_name_is w n e = among_is quota_name_text quota_names w n e

pub quota_name_again : (n : QuotaName) → quota_name_of (quota_name_text n) ≡ Ok n
unfolding quota_name_of
quota_name_again name.Sessions = refl
quota_name_again name.Held = refl
quota_name_again name.Outbox = refl
quota_name_again name.Resend = refl

pub quota_name_not : (w : List ℕ) → ((n : QuotaName) → w ≢ quota_name_text n) → quota_name_of w ≡ Err UnknownWord
unfolding quota_name_of
quota_name_not w none = none_among quota_name_text quota_names w none

-- ---- fixed words and bytes

pub fixed_is : (fixed w : List ℕ) (u : Unit {0}) → fixed_of fixed w ≡ Ok u → w ≡ fixed
unfolding fixed_of
fixed_is fixed w u e = (bytes_eq-Decides w fixed).0 (pass_ok (bytes_eq w fixed) UnknownWord (Ok tt) u e).0

pub fixed_again : (fixed : List ℕ) → fixed_of fixed fixed ≡ Ok tt
unfolding fixed_of
fixed_again fixed = cond-true (bytes_eq fixed fixed) (Ok tt) (Err UnknownWord) ((bytes_eq-Decides fixed fixed).1 refl)

decoded_is : (r : Result (List ℕ) FromHexError) (bytes : List ℕ) → bytes_or_reason r ≡ Ok bytes → r ≡ Ok bytes
decoded_is (Ok bs) bytes e = cc
decoded_is (Err d) bytes e = absurd cc

pub bytes_is : (w bytes : List ℕ) → bytes_of w ≡ Ok bytes → SpellsBytes w bytes
unfolding bytes_of
bytes_is w bytes e =
    elim (cases_Bool (bytes_eq w (codes "-"))) [
      | inl dash ↦
          let none : Result (List ℕ) Reason = Ok [] in
          inl (
            (bytes_eq-Decides w (codes "-")).0 dash,
            sym (ok_is Reason [] bytes (sym (cond-true (bytes_eq w (codes "-")) none _ dash) ∙ e)),
          )
      | inr other ↦
          let none : Result (List ℕ) Reason = Ok [] in
          let long =
          guard_ok (eqb (length w) 0) BadHex (bytes_or_reason (decode_of w))
          bytes (sym (cond-false (bytes_eq w (codes "-")) none _ other) ∙ e) in
          inr (λ empty. eqb-false (length w) 0 long.0 (ap length empty), decoded_is (decode_of w) bytes long.1)
    ]

-- what decodes is not the one sign
not_dash : (w bytes : List ℕ) → decode_of w ≡ Ok bytes → bytes_eq w (codes "-") ≡ false
not_dash w bytes e =
    elim (cases_Bool (bytes_eq w (codes "-"))) [
      | inl dash ↦ absurd (cc (ap decode_of ((bytes_eq-Decides w (codes "-")).0 dash), e))
      | inr other ↦ other
    ]

pub bytes_again : (w bytes : List ℕ) → SpellsBytes w bytes → bytes_of w ≡ Ok bytes
unfolding bytes_of
bytes_again w bytes (inl dash) = rw (dash.0, dash.1) refl
bytes_again w bytes (inr digits) =
    let other : bytes_eq w (codes "-") ≡ false = not_dash w bytes digits.1 in
    let long : eqb (length w) 0 ≡ false = ne_eqb (length w) 0 (λ none. digits.0 (nil_from_length w none)) in
    rw (other, long, digits.1) refl

-- ---- parts of a `domain` line

pub place_is : (before : List DomainConfig) (ws : List (List ℕ)) (r : DomainNo × SiteNo) → place_words before ws ≡ Ok r
    → (ws ≡ place_texts r.0 r.1) × IsDomain r.0 × (is_configured r.0 before ≡ false) × IsSite r.1
unfolding place_words
place_is before (d ∷ h ∷ s ∷ []) r e =
    let domain = bind_ok (new_domain_of before d) _ r e in
    let named = bind_ok (fixed_of (codes "home") h) _ r domain.2 in
    let home = bind_ok (site_of s) _ r named.2 in
    let a = new_domain_is before d domain.0 domain.1 in
    let b = fixed_is (codes "home") h named.0 named.1 in
    let c = site_is s home.0 home.1 in
    subst (λ r. (d ∷ h ∷ s ∷ [] ≡ place_texts r.0 r.1) × IsDomain r.0 × (is_configured r.0 before ≡ false) × IsSite r.1)
    (ok_is Reason (domain.0, home.0) r home.2)
    (cc (a.0, b, c.0), a.1, a.2, c.1)
place_is before ws r e = absurd cc

pub place_again : (before : List DomainConfig) (d : DomainNo) (s : SiteNo) → IsDomain d → is_configured d before ≡ false → IsSite s
    → place_words before (place_texts d s) ≡ Ok (d, s)
unfolding place_words
place_again before d s is_d fresh is_s =
    rw (new_domain_again before d is_d fresh, fixed_again (codes "home"), site_again s is_s) refl

-- what is known of the lists of a domain
pub record AreLists (h o : SiteNo) (ws : List (List ℕ)) (ss : List SiteNo) (gs : List GroupNo) : Type 0 where
  pub site_word : List ℕ
  pub group_word : List ℕ
  pub words : ws ≡ codes "sites" ∷ site_word ∷ codes "groups" ∷ group_word ∷ []
  pub sites : AreSites h o site_word ss
  pub groups : AreGroups group_word gs

pub lists_is : (h o : SiteNo) (ws : List (List ℕ)) (r : List SiteNo × List GroupNo) → list_words h o ws ≡ Ok r → AreLists h o ws r.0 r.1
unfolding list_words
lists_is h o (a ∷ s ∷ b ∷ g ∷ []) r e =
    let first = bind_ok (fixed_of (codes "sites") a) _ r e in
    let sites = bind_ok (sites_of h o s) _ r first.2 in
    let second = bind_ok (fixed_of (codes "groups") b) _ r sites.2 in
    let groups = bind_ok (groups_of g) _ r second.2 in
    let p = fixed_is (codes "sites") a first.0 first.1 in
    let q = fixed_is (codes "groups") b second.0 second.1 in
    subst (λ r. AreLists h o (a ∷ s ∷ b ∷ g ∷ []) r.0 r.1) (ok_is Reason (sites.0, groups.0) r groups.2)
    (record {
      site_word = s;
      group_word = g;
      words = cc (p, q);
      sites = sites_is h o s sites.0 sites.1;
      groups = groups_is g groups.0 groups.1;
    })
lists_is h o ws r e = absurd cc

pub lists_again : (h o : SiteNo) (s g : List ℕ) (sites : List SiteNo) (groups : List GroupNo) → AreSites h o s sites → AreGroups g groups
    → list_words h o (codes "sites" ∷ s ∷ codes "groups" ∷ g ∷ []) ≡ Ok (sites, groups)
unfolding list_words
lists_again h o s g sites groups a b =
    rw (fixed_again (codes "sites"), sites_again h o s sites a, fixed_again (codes "groups"), groups_again g groups b) refl

-- a fault at the word `groups`
pub lists_end : (h o : SiteNo) (ws : List (Bor (List ℕ))) (d : Bor (List ℕ)) (u : Unit {0}) (sites : List SiteNo) (e : Reason)
    → length ws ≡ 4 → fixed_of (codes "sites") (get_or ws 0 d).now ≡ Ok u → sites_of h o (get_or ws 1 d).now ≡ Ok sites
    → fixed_of (codes "groups") (get_or ws 2 d).now ≡ Err e
    → list_words h o (texts ws) ≡ Err e
unfolding list_words
lists_end h o (a ∷ s ∷ b ∷ g ∷ []) d u sites e four first second third = rw (first, second, third) refl
lists_end h o ws d u sites e four first second third = absurd (omega arith)

pub quotas_is : (ws : List (List ℕ)) (q : Quotas) → quota_words ws ≡ Ok q → (ws ≡ quota_texts q) × AreWithinLimits q
unfolding quota_words
quotas_is (n ∷ s ∷ h ∷ o ∷ t ∷ []) q e =
    let named = bind_ok (fixed_of (codes "quotas") n) _ q e in
    let sessions = bind_ok (number_within 1 64 s) _ q named.2 in
    let held = bind_ok (number_within 1 1024 h) _ q sessions.2 in
    let outbox = bind_ok (number_within 1 4096 o) _ q held.2 in
    let resend = bind_ok (number_within 10 60000 t) _ q outbox.2 in
    let a = fixed_is (codes "quotas") n named.0 named.1 in
    let b = limited_is 1 64 s sessions.0 sessions.1 in
    let c = limited_is 1 1024 h held.0 held.1 in
    let d = limited_is 1 4096 o outbox.0 outbox.1 in
    let f = limited_is 10 60000 t resend.0 resend.1 in
    subst (λ q. (n ∷ s ∷ h ∷ o ∷ t ∷ [] ≡ quota_texts q) × AreWithinLimits q)
    (ok_is Reason (record { sessions = sessions.0; held = held.0; outbox = outbox.0; resend = resend.0 }) q resend.2)
    (cc (a, b.0, c.0, d.0, f.0), record { sessions = b.1; held = c.1; outbox = d.1; resend = f.1 })
quotas_is ws q e = absurd cc

pub quotas_again : (q : Quotas) → AreWithinLimits q → quota_words (quota_texts q) ≡ Ok q
unfolding quota_words
quotas_again q are =
    rw (
      fixed_again (codes "quotas"),
      limited_again 1 64 q.sessions are.sessions (omega arith),
      limited_again 1 1024 q.held are.held (omega arith),
      limited_again 1 4096 q.outbox are.outbox (omega arith),
      limited_again 10 60000 q.resend are.resend (omega arith),
    ) refl
