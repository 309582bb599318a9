-- What words of a script spell.
use Rattle.std.specs.Prelude.{◌≡◌, ◌≢◌, ◌<◌, ◌≤◌, ◌^◌, ◌⊎◌, ℕ, Bool, true, ◌&&◌}
use Rattle.std.specs.Prelude.{◌==◌, nat_lt, List, [], ◌∷◌, ◌++◌, map, codes, Ok}
use Rattle.std.specs.Borrow.{Bor}
use Rattle.std.specs.List.{list_any, slice_split}
use Rattle.std.specs.Fmt.{decimal}
use Rattle.hex.specs.Hex.{decode_of}
use Rattle.cast_types.specs.declared.names.DomainNo.{DomainNo}
use Rattle.cast_types.specs.declared.names.SiteNo.{SiteNo}
use Rattle.cast_types.specs.declared.names.GroupNo.{GroupNo}
use Rattle.cast_types.specs.declared.names.Proc.{Proc}
use Rattle.cast_quota.specs.declared.quotas.Quotas.{Quotas}
use Rattle.cast_quota.specs.declared.quotas.QuotaName.{QuotaName}
use Rattle.cast_quota.specs.declared.quotas.QuotaName.TheVariants as name
use Rattle.cast_events.specs.declared.config.DomainConfig.{DomainConfig}

-- each item's number is above that of the one before it, and the first above n
abbrev pub rises_from : {A : Type 0} → (A → ℕ) → ℕ → List A → Bool
rises_from number n [] = true
rises_from number n (x ∷ xs) = nat_lt n (number x) && rises_from number (number x) xs

-- sites in rising order, from 1 on
abbrev pub sites_rise : List SiteNo → Bool
sites_rise sites = rises_from (λ s. s.0) 0 sites

-- groups in rising order, from 1 on
abbrev pub groups_rise : List GroupNo → Bool
groups_rise groups = rises_from (λ g. g.0) 0 groups

-- a number from least to most
abbrev pub IsBetween : ℕ → ℕ → ℕ → Type 0
IsBetween least most n = (least ≤ n) × (n ≤ most)

abbrev pub IsDomain : DomainNo → Type 0
IsDomain d = IsBetween 1 255 d.0

-- a domain of this number is among these
abbrev pub is_configured : DomainNo → List DomainConfig → Bool
is_configured d configs = list_any (λ c. c.domain.0 == d.0) configs

abbrev pub IsSite : SiteNo → Type 0
IsSite s = IsBetween 1 65535 s.0

abbrev pub IsGroup : GroupNo → Type 0
IsGroup g = IsBetween 1 65535 g.0

-- a process: its site, and its serial there, from 1 on
abbrev pub IsProc : Proc → Type 0
IsProc p = IsSite p.site × IsBetween 1 4294967295 p.serial

-- the serial of a session, the tag of a request, the value of a quota, or how many entries are
-- taken
abbrev pub IsNumber : ℕ → Type 0
IsNumber n = n < 2 ^ 32

-- quotas within their limits
pub record AreWithinLimits (q : Quotas) : Type 0 where
  pub sessions : IsBetween 1 64 q.sessions
  pub held : IsBetween 1 1024 q.held
  pub outbox : IsBetween 1 4096 q.outbox
  pub resend : IsBetween 10 60000 q.resend

-- a text's parts, parted by a byte
abbrev pub parts_at : ℕ → List ℕ → List (List ℕ)
parts_at by text = slice_split (λ b. b == by) text

-- the texts of words
abbrev pub texts : List (Bor (List ℕ)) → List (List ℕ)
texts ws = map (λ w. w.now) ws

-- hexadecimal digits of either case spell bytes, and `-` spells none
abbrev pub SpellsBytes : List ℕ → List ℕ → Type 0
SpellsBytes word bytes =
    ((word ≡ codes "-") × (bytes ≡ [])) ⊎ ((word ≢ []) × (decode_of word ≡ Ok bytes))

-- the word that names a process, as `2.1`: its site and its serial there
abbrev pub proc_text : Proc → List ℕ
proc_text p = decimal p.site.0 ++ (codes "." ++ decimal p.serial)

-- a word spells sites, parted by commas
abbrev pub SpellsSites : List ℕ → List SiteNo → Type 0
SpellsSites word sites = parts_at 44 word ≡ map (λ s. decimal s.0) sites

-- a word spells groups, parted by commas
abbrev pub SpellsGroups : List ℕ → List GroupNo → Type 0
SpellsGroups word groups = parts_at 44 word ≡ map (λ g. decimal g.0) groups

-- the word that names a quota
abbrev pub quota_name_text : QuotaName → List ℕ
quota_name_text name.Sessions = codes "sessions"
quota_name_text name.Held = codes "held"
quota_name_text name.Outbox = codes "outbox"
quota_name_text name.Resend = codes "resend"

-- the words that name a domain and its home
abbrev pub place_texts : DomainNo → SiteNo → List (List ℕ)
place_texts d home = decimal d.0 ∷ codes "home" ∷ decimal home.0 ∷ []

-- words spell the sites and groups of a domain
abbrev pub SpellsLists : List (List ℕ) → List SiteNo → List GroupNo → Type 0
SpellsLists ws sites groups =
    (s : List ℕ)
    × (g : List ℕ)
    × (ws ≡ codes "sites" ∷ s ∷ codes "groups" ∷ g ∷ [])
    × SpellsSites s sites
    × SpellsGroups g groups

-- the words that name quotas
abbrev pub quota_texts : Quotas → List (List ℕ)
quota_texts q =
    codes "quotas" ∷ decimal q.sessions ∷ decimal q.held ∷ decimal q.outbox ∷ decimal q.resend ∷ []
