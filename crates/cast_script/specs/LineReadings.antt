-- Reading a line, from its first word on: what it says, or the reason of its first fault.
use Rattle.std.specs.Prelude.{ℕ, ◌==◌, nat_lt, if◌then◌else◌, List, []}
use Rattle.std.specs.Prelude.{◌∷◌, length, take, drop, Result, Ok, Err}
use Rattle.cast_types.specs.declared.names.DomainNo.{DomainNo}
use Rattle.cast_types.specs.declared.names.SiteNo.{SiteNo}
use Rattle.cast_message.specs.declared.client.CastKind.{CastKind}
use Rattle.cast_message.specs.declared.client.CastKind.TheVariants as kind
use Rattle.cast_message.specs.declared.client.Request.{Request}
use Rattle.cast_message.specs.declared.client.Request.TheVariants as request
use Rattle.cast_message.specs.declared.client.Command.TheVariants as command
use Rattle.cast_message.specs.declared.site.SiteFrame.{SiteFrame}
use Rattle.cast_field.specs.declared.fault.FrameFault.{FrameFault}
use Rattle.cast_frame.specs.Reading.{site_frame_of}
use Rattle.cast_events.specs.declared.config.DomainConfig.{DomainConfig}
use Rattle.cast_events.specs.declared.event.Event.{Event}
use Rattle.cast_events.specs.declared.event.Event.TheVariants as event
use Rattle.cast_script.specs.declared.words.Reason.{Reason}
use Rattle.cast_script.specs.declared.words.Reason.TheVariants.{UnknownWord, WrongCount}
use Rattle.cast_script.specs.declared.words.Reason.TheVariants.{BadFrame, Order}
use Rattle.cast_script.specs.declared.lines.Head.{Head}
use Rattle.cast_script.specs.declared.lines.Head.TheVariants.{Site, Domain, Open, Join, Leave}
use Rattle.cast_script.specs.declared.lines.Head.TheVariants.{Cast, Abcast, Pass, Bad, Gone}
use Rattle.cast_script.specs.declared.lines.Head.TheVariants.{Frame, Suspect, Quota, Take, Tick}
use Rattle.cast_script.specs.declared.lines.DomainOrEvent.{DomainOrEvent}
use Rattle.cast_script.specs.declared.lines.DomainOrEvent.TheVariants as said
use Rattle.cast_script.specs.declared.events.RequestParts.{RequestParts}
use Rattle.cast_script.specs.Lines.{head_text, words_of}
use Rattle.cast_script.specs.WordReadings.{◌>>=◌, named_among, number_of, number_within}
use Rattle.cast_script.specs.WordReadings.{domain_of, site_of, group_of, proc_of, quota_name_of}
use Rattle.cast_script.specs.WordReadings.{bytes_of, place_words, list_words, quota_words}

abbrev pub heads : List Head
heads =
    Site ∷ Domain ∷ Open ∷ Join ∷ Leave ∷ Cast ∷ Abcast ∷ Pass ∷ Bad ∷ Gone ∷ Frame ∷ Suspect
    ∷ Quota ∷ Take ∷ Tick ∷ []

-- what the first word of a line says that the line is about
unfoldable pub head_of : List ℕ → Result Head Reason
head_of word = named_among head_text heads word

unfoldable pub behind_first : {A : Type 0} → (Head → List (List ℕ) → Result A Reason)
    → List (List ℕ) → Result A Reason
behind_first behind [] = Err UnknownWord
behind_first behind (first ∷ words) = do
  head ← head_of first
  behind head words

-- `site N`
unfoldable pub site_words : List (List ℕ) → Result SiteNo Reason
site_words (site ∷ []) = site_of site
site_words words = Err WrongCount

unfoldable pub site_behind : Head → List (List ℕ) → Result SiteNo Reason
site_behind Site words = site_words words
site_behind head words = Err Order

unfoldable pub site_line : List ℕ → Result SiteNo Reason
site_line line = behind_first site_behind (words_of line)

-- the twelve words of a domain at this site, where these domains stand before: three for its place,
-- four for its lists, five for its quotas
unfoldable pub domain_parts : SiteNo → List DomainConfig → List (List ℕ)
    → Result DomainConfig Reason
domain_parts own before words = do
  place ← place_words before (take 3 words)
  lists ← list_words place.1 own (take 4 (drop 3 words))
  quotas ← quota_words (drop 7 words)
  Ok
      (record {
        domain = place.0;
        home = place.1;
        sites = lists.0;
        groups = lists.1;
        quotas = quotas;
      })

unfoldable pub domain_words : SiteNo → List DomainConfig → List (List ℕ)
    → Result DomainConfig Reason
domain_words own before words =
    if length words == 12 then domain_parts own before words else Err WrongCount

-- one more domain behind these, of which there are to be at most 16
unfoldable pub next_domain : SiteNo → List DomainConfig → List (List ℕ) → Result DomainConfig Reason
next_domain own before words =
    if nat_lt (length before) 16 then domain_words own before words else Err Order

-- `D K TAG G`
unfoldable pub request_parts : List ℕ → List ℕ → List ℕ → List ℕ → Result RequestParts Reason
request_parts domain serial tag group = do
  d ← domain_of domain
  k ← number_within 0 4294967295 serial
  t ← number_within 0 4294967295 tag
  g ← group_of group
  Ok (record { domain = d; serial = k; tag = t; group = g })

-- a request with these parts
abbrev pub request_event : RequestParts → Request → Event
request_event parts r = event.Command parts.domain parts.serial (command.Request r)

-- `open D`
unfoldable pub open_words : List (List ℕ) → Result Event Reason
open_words (domain ∷ []) = do
  d ← domain_of domain
  Ok (event.Open d)
open_words words = Err WrongCount

-- `join D K TAG G`
unfoldable pub join_words : List (List ℕ) → Result Event Reason
join_words (domain ∷ serial ∷ tag ∷ group ∷ []) = do
  parts ← request_parts domain serial tag group
  Ok (request_event parts (request.Join parts.tag parts.group))
join_words words = Err WrongCount

-- `leave D K TAG G`
unfoldable pub leave_words : List (List ℕ) → Result Event Reason
leave_words (domain ∷ serial ∷ tag ∷ group ∷ []) = do
  parts ← request_parts domain serial tag group
  Ok (request_event parts (request.Leave parts.tag parts.group))
leave_words words = Err WrongCount

-- `cast D K TAG G HEX` or `abcast D K TAG G HEX`
unfoldable pub cast_words : CastKind → List (List ℕ) → Result Event Reason
cast_words how (domain ∷ serial ∷ tag ∷ group ∷ hex ∷ []) = do
  parts ← request_parts domain serial tag group
  payload ← bytes_of hex
  Ok (request_event parts (request.Cast parts.tag parts.group how payload))
cast_words how words = Err WrongCount

-- `pass D K TAG G P`
unfoldable pub pass_words : List (List ℕ) → Result Event Reason
pass_words (domain ∷ serial ∷ tag ∷ group ∷ to ∷ []) = do
  parts ← request_parts domain serial tag group
  p ← proc_of to
  Ok (request_event parts (request.Pass parts.tag parts.group p))
pass_words words = Err WrongCount

-- `bad D K`
unfoldable pub bad_words : List (List ℕ) → Result Event Reason
bad_words (domain ∷ serial ∷ []) = do
  d ← domain_of domain
  k ← number_within 0 4294967295 serial
  Ok (event.Command d k command.Bad)
bad_words words = Err WrongCount

-- `gone D K`
unfoldable pub gone_words : List (List ℕ) → Result Event Reason
gone_words (domain ∷ serial ∷ []) = do
  d ← domain_of domain
  k ← number_within 0 4294967295 serial
  Ok (event.Gone d k)
gone_words words = Err WrongCount

abbrev pub frame_event : Result (DomainNo × SiteNo × SiteFrame) FrameFault → Result Event Reason
frame_event (Ok x) = Ok (event.Frame x.0 x.1 x.2)
frame_event (Err e) = Err BadFrame

-- `frame HEX`
unfoldable pub frame_words : List (List ℕ) → Result Event Reason
frame_words (hex ∷ []) = do
  bytes ← bytes_of hex
  frame_event (site_frame_of bytes)
frame_words words = Err WrongCount

-- `suspect D S`
unfoldable pub suspect_words : List (List ℕ) → Result Event Reason
suspect_words (domain ∷ site ∷ []) = do
  d ← domain_of domain
  s ← site_of site
  Ok (event.Suspect d s)
suspect_words words = Err WrongCount

-- `quota D NAME N`
unfoldable pub quota_event_words : List (List ℕ) → Result Event Reason
quota_event_words (domain ∷ name ∷ value ∷ []) = do
  d ← domain_of domain
  q ← quota_name_of name
  n ← number_within 0 4294967295 value
  Ok (event.Quota d q n)
quota_event_words words = Err WrongCount

-- `take D K N`
unfoldable pub take_words : List (List ℕ) → Result Event Reason
take_words (domain ∷ serial ∷ most ∷ []) = do
  d ← domain_of domain
  k ← number_within 0 4294967295 serial
  n ← number_within 0 4294967295 most
  Ok (event.Take d k n)
take_words words = Err WrongCount

-- `tick N`
unfoldable pub tick_words : List (List ℕ) → Result Event Reason
tick_words (moment ∷ []) = do
  n ← number_of moment
  Ok (event.Tick n)
tick_words words = Err WrongCount

unfoldable pub event_behind : Head → List (List ℕ) → Result Event Reason
event_behind Site words = Err Order
event_behind Domain words = Err Order
event_behind Open words = open_words words
event_behind Join words = join_words words
event_behind Leave words = leave_words words
event_behind Cast words = cast_words kind.Causal words
event_behind Abcast words = cast_words kind.Atomic words
event_behind Pass words = pass_words words
event_behind Bad words = bad_words words
event_behind Gone words = gone_words words
event_behind Frame words = frame_words words
event_behind Suspect words = suspect_words words
event_behind Quota words = quota_event_words words
event_behind Take words = take_words words
event_behind Tick words = tick_words words

unfoldable pub event_line : List ℕ → Result Event Reason
event_line line = behind_first event_behind (words_of line)

-- the first event behind these domains, of which there is to be one
unfoldable pub first_event : List DomainConfig → Head → List (List ℕ) → Result Event Reason
first_event [] head words = Err Order
first_event (d ∷ ds) head words = event_behind head words

unfoldable pub domain_or_event_behind : SiteNo → List DomainConfig → Head → List (List ℕ)
    → Result DomainOrEvent Reason
domain_or_event_behind own before Domain words = do
  d ← next_domain own before words
  Ok (said.Domain d)
domain_or_event_behind own before head words = do
  e ← first_event before head words
  Ok (said.Event e)

-- a line behind the `site` line and these domains: one more domain, or the first event
unfoldable pub domain_or_event : SiteNo → List DomainConfig → List ℕ → Result DomainOrEvent Reason
domain_or_event own before line = behind_first (domain_or_event_behind own before) (words_of line)
