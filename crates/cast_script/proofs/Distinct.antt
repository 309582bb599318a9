-- Domains with different numbers, and groups that rise.
use Rattle.std.proofs.Common.{◌≡◌, ℕ, ◌≤◌, Bool, true, false, not, eqb, ltb, List, [], ◌∷◌, ◌++◌, refl, sym, ap, arith}
use Rattle.std.specs.List.{AllByRecursion, list_all}
use Rattle.std.specs.Ordering.{nat_cmp, is_lt}
use Rattle.std.specs.Cmp.{nat_cmp_is}
use Rattle.std.specs.declared.cmp.Ordering.TheVariants.{Less}
use Rattle.std.proofs.lemmas.Bool.{and_from, and_parts, eqb-false, lt-ltb, ltb-true, ne_eqb, or_from, or_parts}
use Rattle.cast_types.specs.declared.names.DomainNo.{DomainNo}
use Rattle.cast_types.specs.declared.names.GroupNo.{GroupNo}
use Rattle.cast_types.specs.declared.names.SiteNo.{SiteNo}
use Rattle.cast_types.specs.Names.{group_cmp}
use Rattle.cast_types.specs.Rising.{is_rising}
use Rattle.cast_events.specs.declared.config.Config.{Config}
use Rattle.cast_events.specs.declared.config.DomainConfig.{DomainConfig}
use Rattle.cast_script.specs.Lines.{IsDomainAt}
use Rattle.cast_script.specs.Words.{is_configured, rises_from}
use Rattle.cast_script.specs.Scripts.{HasDomains, are_distinct, have_rising_groups}

-- ---- different numbers

other : (m n : ℕ) → eqb m n ≡ false → eqb n m ≡ false
other m n differ = ne_eqb n m (λ same. eqb-false m n differ (sym same))

not_true : (b : Bool) → not b ≡ true → b ≡ false
not_true true e = absurd cc
not_true false e = refl

not_from : (b : Bool) → b ≡ false → not b ≡ true
not_from b e = ap not e

-- a number among domains and those behind them is among neither
apart : (n : DomainNo) (before behind : List DomainConfig) → is_configured n (before ++ behind) ≡ false →
    (is_configured n before ≡ false) × (is_configured n behind ≡ false)
apart n [] behind none = (refl, none)
apart n (c ∷ before) behind none =
    let parts = or_parts (eqb c.domain.0 n.0) (is_configured n (before ++ behind)) none in
    let rest = apart n before behind parts.1 in
    (or_from (eqb c.domain.0 n.0) (is_configured n before) parts.0 rest.0, rest.1)

together : (n : DomainNo) (before behind : List DomainConfig) → is_configured n before ≡ false → is_configured n behind ≡ false →
    is_configured n (before ++ behind) ≡ false
together n [] behind none rest = rest
together n (c ∷ before) behind none rest =
    let parts = or_parts (eqb c.domain.0 n.0) (is_configured n before) none in
    or_from (eqb c.domain.0 n.0) (is_configured n (before ++ behind)) parts.0 (together n before behind parts.1 rest)

-- one more domain, of another number
pub distinct_more : (before : List DomainConfig) (d : DomainConfig) → are_distinct before ≡ true → is_configured d.domain before ≡ false →
    are_distinct (before ++ d ∷ []) ≡ true
distinct_more [] d distinct new = refl
distinct_more (c ∷ before) d distinct new =
    let parts = and_parts (not (is_configured c.domain before)) (are_distinct before) distinct in
    let apart_from = or_parts (eqb c.domain.0 d.domain.0) (is_configured d.domain before) new in
    let single : is_configured c.domain (d ∷ []) ≡ false =
    or_from (eqb d.domain.0 c.domain.0) false (other c.domain.0 d.domain.0 apart_from.0) refl in
    let first : is_configured c.domain (before ++ d ∷ []) ≡ false =
    together c.domain before (d ∷ []) (not_true (is_configured c.domain before) parts.0) single in
    and_from (not (is_configured c.domain (before ++ d ∷ []))) (are_distinct (before ++ d ∷ []))
    (not_from (is_configured c.domain (before ++ d ∷ [])) first) (distinct_more before d parts.1 apart_from.1)

-- of different numbers one is not among those before it
pub distinct_new : (before : List DomainConfig) (d : DomainConfig) (behind : List DomainConfig) →
    are_distinct (before ++ d ∷ behind) ≡ true → is_configured d.domain before ≡ false
distinct_new [] d behind distinct = refl
distinct_new (c ∷ before) d behind distinct =
    let parts = and_parts (not (is_configured c.domain (before ++ d ∷ behind))) (are_distinct (before ++ d ∷ behind)) distinct in
    let none = apart c.domain before (d ∷ behind) (not_true (is_configured c.domain (before ++ d ∷ behind)) parts.0) in
    let first = or_parts (eqb d.domain.0 c.domain.0) (is_configured c.domain behind) none.1 in
    or_from (eqb c.domain.0 d.domain.0) (is_configured d.domain before) (other d.domain.0 c.domain.0 first.0)
    (distinct_new before d behind parts.1)

-- ---- groups that rise

less : (m n : ℕ) → ltb m n ≡ true → is_lt (nat_cmp m n) ≡ true
less m n below = ap is_lt (sym (nat_cmp_is m n Less (ltb-true m n below)))

weaker : (m n : ℕ) (groups : List GroupNo) → m ≤ n → rises_from (λ g. g.0) n groups ≡ true → rises_from (λ g. g.0) m groups ≡ true
weaker m n [] le rises = refl
weaker m n (g ∷ groups) le rises =
    let parts = and_parts (ltb n g.0) (rises_from (λ h. h.0) g.0 groups) rises in
    and_from (ltb m g.0) (rises_from (λ h. h.0) g.0 groups)
    (lt-ltb m g.0 (omega (arith, le, ltb-true n g.0 parts.0))) parts.1

above : (n : ℕ) (groups : List GroupNo) → rises_from (λ g. g.0) n groups ≡ true → list_all (λ g. is_lt (nat_cmp n g.0)) groups ≡ true
above n [] rises = refl
above n (g ∷ groups) rises =
    let parts = and_parts (ltb n g.0) (rises_from (λ h. h.0) g.0 groups) rises in
    and_from (is_lt (nat_cmp n g.0)) (list_all (λ h. is_lt (nat_cmp n h.0)) groups)
    (less n g.0 parts.0)
    (above n groups (weaker n g.0 groups (omega (arith, ltb-true n g.0 parts.0)) parts.1))

-- numbers that rise from n on are all above n, and each is below all behind it
rising_groups : (n : ℕ) (groups : List GroupNo) → rises_from (λ g. g.0) n groups ≡ true → is_rising group_cmp groups ≡ true
rising_groups n [] rises = refl
rising_groups n (g ∷ groups) rises =
    let parts = and_parts (ltb n g.0) (rises_from (λ h. h.0) g.0 groups) rises in
    and_from (list_all (λ h. is_lt (group_cmp g h)) groups) (is_rising group_cmp groups)
    (above g.0 groups parts.1) (rising_groups g.0 groups parts.1)

all_rise : (own : SiteNo) (configs : List DomainConfig) → AllByRecursion (IsDomainAt own) configs → have_rising_groups configs ≡ true
all_rise own [] all = refl
all_rise own (c ∷ configs) all =
    and_from (is_rising group_cmp c.groups) (have_rising_groups configs)
    (rising_groups 0 c.groups all.0.rising_groups) (all_rise own configs all.1)

-- ---- of what a script configures

pub has_distinct : (c : Config) → HasDomains c → are_distinct c.domains ≡ true
has_distinct c has = has.distinct

pub has_rising : (c : Config) → HasDomains c → have_rising_groups c.domains ≡ true
has_rising c has = all_rise c.site c.domains has.within
