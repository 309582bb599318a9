-- Reading words: what they say, or the reason of their first fault.
use Rattle.std.specs.Prelude.{◌≡◌, ℕ, ◌^◌, Bool, ◌&&◌, ◌||◌, ◌==◌, nat_lt, nat_le, bytes_eq}
use Rattle.std.specs.Prelude.{if◌then◌else◌, List, [], ◌∷◌, length, codes, Result, Ok, Err}
use Rattle.std.specs.List.{list_any, position_or_len, before_first, after_first}
use Rattle.std.specs.Fmt.{decimal}
use Rattle.std.specs.Str.Parse.{digits_value}
use Rattle.hex.specs.Hex.{decode_of}
use Rattle.hex.specs.declared.error.FromHexError.{FromHexError}
use Rattle.cast_types.specs.declared.names.DomainNo.{DomainNo}
use Rattle.cast_types.specs.declared.names.SiteNo.{SiteNo}
use Rattle.cast_types.specs.declared.names.GroupNo.{GroupNo}
use Rattle.cast_types.specs.declared.names.Proc.{Proc}
use Rattle.cast_types.specs.Names.{site_eq}
use Rattle.cast_quota.specs.declared.quotas.Quotas.{Quotas}
use Rattle.cast_quota.specs.declared.quotas.QuotaName.{QuotaName}
use Rattle.cast_quota.specs.declared.quotas.QuotaName.TheVariants as name
use Rattle.cast_events.specs.declared.config.DomainConfig.{DomainConfig}
use Rattle.cast_script.specs.declared.words.Reason.{Reason}
use Rattle.cast_script.specs.declared.words.Reason.TheVariants.{UnknownWord, WrongCount}
use Rattle.cast_script.specs.declared.words.Reason.TheVariants.{BadNumber, BadHex, Order}
use Rattle.cast_script.specs.declared.words.LineFault.{LineFault}
use Rattle.cast_script.specs.declared.words.LineFault.TheVariants as fault
use Rattle.cast_script.specs.Words.{groups_rise, is_configured, parts_at}
use Rattle.cast_script.specs.Words.{quota_name_text, sites_rise}

infixl 10 ◌>>=◌
abbrev pub ◌>>=◌ : {A B E : Type 0} → Result A E → (A → Result B E) → Result B E
(Ok x) >>= f = f x
(Err e) >>= f = Err e

-- what a function returned of a line, seen by view, is what reading gives, unless memory ran out
abbrev pub GivesAs : {X Y : Type 0} → (X → Y) → Result X LineFault → Result Y Reason → Type 0
GivesAs view (Ok x) read = read ≡ Ok (view x)
GivesAs view (Err (fault.Refused reason)) read = read ≡ Err reason
GivesAs view (Err fault.NoMemory) read = Unit {0}

abbrev pub Gives : {X : Type 0} → Result X LineFault → Result X Reason → Type 0
Gives result read = GivesAs (λ x. x) result read

-- each in turn, up to the first that is refused
unfoldable pub each : {A B E : Type 0} → (A → Result B E) → List A → Result (List B) E
each read [] = Ok []
each read (x ∷ xs) = do
  y ← read x
  ys ← each read xs
  Ok (y ∷ ys)

-- ---- words

-- n, where the word is its digits
unfoldable pub spelled_number : List ℕ → ℕ → Result ℕ Reason
spelled_number word n =
    if nat_lt n (2 ^ 64) && bytes_eq word (decimal n) then Ok n else Err BadNumber

-- a number below 2 ^ 64
unfoldable pub number_of : List ℕ → Result ℕ Reason
number_of word = spelled_number word (digits_value 10 word)

unfoldable pub within : ℕ → ℕ → ℕ → Result ℕ Reason
within low high n = if nat_le low n && nat_le n high then Ok n else Err BadNumber

-- a number from low to high
unfoldable pub number_within : ℕ → ℕ → List ℕ → Result ℕ Reason
number_within low high word = do
  n ← number_of word
  within low high n

unfoldable pub domain_of : List ℕ → Result DomainNo Reason
domain_of word = do
  n ← number_within 1 255 word
  Ok (record { 0 = n })

-- the number of a domain that none of these has
unfoldable pub new_domain_of : List DomainConfig → List ℕ → Result DomainNo Reason
new_domain_of before word = do
  d ← domain_of word
  if is_configured d before then Err Order else Ok d

unfoldable pub site_of : List ℕ → Result SiteNo Reason
site_of word = do
  n ← number_within 1 65535 word
  Ok (record { 0 = n })

unfoldable pub group_of : List ℕ → Result GroupNo Reason
group_of word = do
  n ← number_within 1 65535 word
  Ok (record { 0 = n })

abbrev pub is_dot : ℕ → Bool
is_dot b = b == 46

-- the site of a process and its serial there
unfoldable pub site_and_serial : List ℕ → List ℕ → Result Proc Reason
site_and_serial site serial = do
  s ← site_of site
  n ← number_within 1 4294967295 serial
  Ok (record { site = s; serial = n })

-- a process: its site before the first dot, and its serial there behind it
unfoldable pub proc_of : List ℕ → Result Proc Reason
proc_of word =
    if nat_lt (position_or_len is_dot word) (length word)
    then site_and_serial (before_first is_dot word) (after_first is_dot word)
    else Err BadNumber

-- at most 16 sites, which rise, the home and the own site among them
unfoldable pub checked_sites : SiteNo → SiteNo → List SiteNo → Result (List SiteNo) Reason
checked_sites home own sites =
    if nat_lt 16 (length sites) then Err BadNumber
    else if sites_rise sites
    && list_any (λ s. site_eq s home) sites
    && list_any (λ s. site_eq s own) sites then Ok sites
    else Err Order

unfoldable pub sites_of : SiteNo → SiteNo → List ℕ → Result (List SiteNo) Reason
sites_of home own word = do
  sites ← each site_of (parts_at 44 word)
  checked_sites home own sites

-- 1 to 32 groups, which rise
unfoldable pub checked_groups : List GroupNo → Result (List GroupNo) Reason
checked_groups groups =
    if (length groups == 0) || nat_lt 32 (length groups) then Err BadNumber
    else if groups_rise groups then Ok groups
    else Err Order

unfoldable pub groups_of : List ℕ → Result (List GroupNo) Reason
groups_of word = do
  groups ← each group_of (parts_at 44 word)
  checked_groups groups

-- which of these a word names
abbrev pub named_among : {A : Type 0} → (A → List ℕ) → List A → List ℕ → Result A Reason
named_among text [] word = Err UnknownWord
named_among text (x ∷ xs) word = if bytes_eq word (text x) then Ok x else named_among text xs word

abbrev pub quota_names : List QuotaName
quota_names = name.Sessions ∷ name.Held ∷ name.Outbox ∷ name.Resend ∷ []

-- the quota that a word names
unfoldable pub quota_name_of : List ℕ → Result QuotaName Reason
quota_name_of word = named_among quota_name_text quota_names word

-- a word that has to stand at its place
unfoldable pub fixed_of : List ℕ → List ℕ → Result (Unit {0}) Reason
fixed_of fixed word = if bytes_eq word fixed then Ok tt else Err UnknownWord

abbrev pub bytes_or_reason : Result (List ℕ) FromHexError → Result (List ℕ) Reason
bytes_or_reason (Ok bytes) = Ok bytes
bytes_or_reason (Err e) = Err BadHex

-- the bytes of hexadecimal digits, of which there are some; `-` has none
unfoldable pub bytes_of : List ℕ → Result (List ℕ) Reason
bytes_of word =
    if bytes_eq word (codes "-") then Ok []
    else if length word == 0 then Err BadHex
    else bytes_or_reason (decode_of word)

-- `D home S`, where these domains stand before
unfoldable pub place_words : List DomainConfig → List (List ℕ) → Result (DomainNo × SiteNo) Reason
place_words before (domain ∷ home_is ∷ home ∷ []) = do
  d ← new_domain_of before domain
  named ← fixed_of (codes "home") home_is
  s ← site_of home
  Ok (d, s)
place_words before words = Err WrongCount

-- `sites S,.. groups G,..`
unfoldable pub list_words : SiteNo → SiteNo → List (List ℕ)
    → Result (List SiteNo × List GroupNo) Reason
list_words home own (sites_are ∷ sites ∷ groups_are ∷ groups ∷ []) = do
  first ← fixed_of (codes "sites") sites_are
  ss ← sites_of home own sites
  second ← fixed_of (codes "groups") groups_are
  gs ← groups_of groups
  Ok (ss, gs)
list_words home own words = Err WrongCount

-- `quotas SESSIONS HELD OUTBOX RESEND`
unfoldable pub quota_words : List (List ℕ) → Result Quotas Reason
quota_words (quotas_are ∷ sessions ∷ held ∷ outbox ∷ resend ∷ []) = do
  named ← fixed_of (codes "quotas") quotas_are
  a ← number_within 1 64 sessions
  b ← number_within 1 1024 held
  c ← number_within 1 4096 outbox
  d ← number_within 10 60000 resend
  Ok (record { sessions = a; held = b; outbox = c; resend = d })
quota_words words = Err WrongCount
