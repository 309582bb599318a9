-- What lines of a script spell.
use Rattle.std.specs.Prelude.{◌≡◌, ◌<◌, ◌≤◌, ◌^◌, ℕ, List, [], ◌∷◌, ◌++◌, length, codes, IsTrue}
use Rattle.std.specs.List.{AllByRecursion, Contains}
use Rattle.std.specs.Fmt.{decimal}
use Rattle.cast_types.specs.declared.names.DomainNo.{DomainNo}
use Rattle.cast_message.specs.declared.client.CastKind.{CastKind}
use Rattle.cast_message.specs.declared.client.CastKind.TheVariants as kind
use Rattle.cast_message.specs.declared.client.Request.{Request}
use Rattle.cast_message.specs.declared.client.Request.TheVariants as request
use Rattle.cast_frame.specs.Spelling.{spelled_site}
use Rattle.cast_frame.specs.Spelled.{IsSpelled}
use Rattle.cast_message.specs.declared.client.Command.TheVariants as command
use Rattle.cast_events.specs.declared.event.Event.{Event}
use Rattle.cast_events.specs.declared.event.Event.TheVariants as event
use Rattle.cast_types.specs.declared.names.SiteNo.{SiteNo}
use Rattle.cast_types.specs.declared.names.GroupNo.{GroupNo}
use Rattle.cast_script.specs.declared.lines.Head.{Head}
use Rattle.cast_script.specs.declared.lines.Head.TheVariants.{Site, Domain, Open, Join, Leave}
use Rattle.cast_script.specs.declared.lines.Head.TheVariants.{Cast, Abcast, Pass, Bad, Gone}
use Rattle.cast_script.specs.declared.lines.Head.TheVariants.{Frame, Suspect, Quota, Take, Tick}
use Rattle.cast_events.specs.declared.config.DomainConfig.{DomainConfig}
use Rattle.cast_script.specs.Words.{sites_rise, groups_rise, IsBetween, IsDomain}
use Rattle.cast_script.specs.Words.{IsSite, IsGroup, IsNumber, IsProc, AreWithinLimits}
use Rattle.cast_script.specs.Words.{parts_at, proc_text, SpellsBytes, place_texts}
use Rattle.cast_script.specs.Words.{SpellsLists, quota_name_text, quota_texts}

-- a domain within its limits, at this site
pub record IsDomainAt (own : SiteNo) (d : DomainConfig) : Type 0 where
  pub numbered : IsDomain d.domain
  pub few_sites : length d.sites ≤ 16
  pub are_sites : AllByRecursion IsSite d.sites
  pub rising : IsTrue (sites_rise d.sites)
  pub has_home : Contains d.sites d.home
  pub has_own : Contains d.sites own
  pub few_groups : IsBetween 1 32 (length d.groups)
  pub are_groups : AllByRecursion IsGroup d.groups
  pub rising_groups : IsTrue (groups_rise d.groups)
  pub within : AreWithinLimits d.quotas

-- the words of a line, parted by one space each
abbrev pub words_of : List ℕ → List (List ℕ)
words_of line = parts_at 32 line

-- the first word of a line
abbrev pub head_text : Head → List ℕ
head_text Site = codes "site"
head_text Domain = codes "domain"
head_text Open = codes "open"
head_text Join = codes "join"
head_text Leave = codes "leave"
head_text Cast = codes "cast"
head_text Abcast = codes "abcast"
head_text Pass = codes "pass"
head_text Bad = codes "bad"
head_text Gone = codes "gone"
head_text Frame = codes "frame"
head_text Suspect = codes "suspect"
head_text Quota = codes "quota"
head_text Take = codes "take"
head_text Tick = codes "tick"

-- the words of a line spell a site
abbrev pub SpellsSite : List (List ℕ) → SiteNo → Type 0
SpellsSite ws s = (ws ≡ codes "site" ∷ decimal s.0 ∷ []) × IsSite s

-- the words of a line spell a domain within its limits, at this site
abbrev pub SpellsDomain : SiteNo → List (List ℕ) → DomainConfig → Type 0
SpellsDomain own ws d =
    (lists : List (List ℕ))
    × (ws ≡ codes "domain" ∷ (place_texts d.domain d.home ++ (lists ++ quota_texts d.quotas)))
    × SpellsLists lists d.sites d.groups
    × IsDomainAt own d

-- the words of each request behind the first
abbrev pub request_texts : DomainNo → ℕ → ℕ → GroupNo → List (List ℕ)
request_texts d serial tag group = decimal d.0 ∷ decimal serial ∷ decimal tag ∷ decimal group.0 ∷ []

-- the numbers of a request are in their ranges
pub record AreNumbers (d : DomainNo) (k t : ℕ) (g : GroupNo) : Type 0 where
  pub domain : IsDomain d
  pub serial : IsNumber k
  pub tag : IsNumber t
  pub group : IsGroup g

-- the first word of a cast
abbrev pub cast_text : CastKind → List ℕ
cast_text kind.Causal = codes "cast"
cast_text kind.Atomic = codes "abcast"

-- the words of a line spell a request of a session
abbrev pub SpellsRequest : DomainNo → ℕ → List (List ℕ) → Request → Type 0
SpellsRequest d serial ws (request.Join tag group) =
    (ws ≡ codes "join" ∷ request_texts d serial tag group) × AreNumbers d serial tag group
SpellsRequest d serial ws (request.Leave tag group) =
    (ws ≡ codes "leave" ∷ request_texts d serial tag group) × AreNumbers d serial tag group
SpellsRequest d serial ws (request.Cast tag group how payload) =
    (hex : List ℕ)
    × (ws ≡ cast_text how ∷ (request_texts d serial tag group ++ hex ∷ []))
    × AreNumbers d serial tag group
    × SpellsBytes hex payload
SpellsRequest d serial ws (request.Pass tag group to) =
    (ws ≡ codes "pass" ∷ (request_texts d serial tag group ++ proc_text to ∷ []))
    × AreNumbers d serial tag group × IsProc to

-- the words of a line spell an event
abbrev pub SpellsEvent : List (List ℕ) → Event → Type 0
SpellsEvent ws (event.Open d) = (ws ≡ codes "open" ∷ decimal d.0 ∷ []) × IsDomain d
SpellsEvent ws (event.Command d serial (command.Request r)) = SpellsRequest d serial ws r
SpellsEvent ws (event.Command d serial command.Bad) =
    (ws ≡ codes "bad" ∷ decimal d.0 ∷ decimal serial ∷ []) × IsDomain d × IsNumber serial
SpellsEvent ws (event.Gone d serial) =
    (ws ≡ codes "gone" ∷ decimal d.0 ∷ decimal serial ∷ []) × IsDomain d × IsNumber serial
SpellsEvent ws (event.Frame d s f) =
    (hex : List ℕ)
    × (ws ≡ codes "frame" ∷ hex ∷ [])
    × SpellsBytes hex (spelled_site d s f)
    × IsSpelled d s f
SpellsEvent ws (event.Suspect d site) =
    (ws ≡ codes "suspect" ∷ decimal d.0 ∷ decimal site.0 ∷ []) × IsDomain d × IsSite site
SpellsEvent ws (event.Quota d name value) =
    (ws ≡ codes "quota" ∷ decimal d.0 ∷ quota_name_text name ∷ decimal value ∷ []) × IsDomain d
    × IsNumber value
SpellsEvent ws (event.Take d serial most) =
    (ws ≡ codes "take" ∷ decimal d.0 ∷ decimal serial ∷ decimal most ∷ []) × IsDomain d
    × IsNumber serial × IsNumber most
SpellsEvent ws (event.Tick now) = (ws ≡ codes "tick" ∷ decimal now ∷ []) × (now < 2 ^ 64)
