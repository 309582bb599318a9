-- The printed text of a script, each line ended by a line feed.
use Rattle.std.specs.Prelude.{ℕ, List, [], ◌∷◌, ◌++◌, map, codes}
use Rattle.std.specs.List.{flat_map, join_with_byte}
use Rattle.std.specs.Fmt.{decimal}
use Rattle.hex.specs.Hex.{encode_lower}
use Rattle.cast_types.specs.declared.names.DomainNo.{DomainNo}
use Rattle.cast_types.specs.declared.names.SiteNo.{SiteNo}
use Rattle.cast_types.specs.declared.names.GroupNo.{GroupNo}
use Rattle.cast_message.specs.declared.client.Request.{Request}
use Rattle.cast_message.specs.declared.client.Request.TheVariants as request
use Rattle.cast_message.specs.declared.client.Command.TheVariants as command
use Rattle.cast_frame.specs.Spelling.{spelled_site}
use Rattle.cast_events.specs.declared.config.Config.{Config}
use Rattle.cast_events.specs.declared.config.DomainConfig.{DomainConfig}
use Rattle.cast_events.specs.declared.event.Event.{Event}
use Rattle.cast_events.specs.declared.event.Event.TheVariants as event
use Rattle.cast_script.specs.Words.{place_texts, proc_text, quota_name_text, quota_texts}
use Rattle.cast_script.specs.Lines.{cast_text, request_texts}
use Rattle.cast_print.specs.Logs.{line_feed, payload_text}

-- a line of these words
abbrev pub line_text : List (List ℕ) → List ℕ
line_text words = join_with_byte 32 words ++ line_feed

-- numbers, parted by commas
abbrev pub numbers_text : List ℕ → List ℕ
numbers_text numbers = join_with_byte 44 (map decimal numbers)

abbrev pub site_words : SiteNo → List (List ℕ)
site_words s = codes "site" ∷ decimal s.0 ∷ []

-- the words that name the sites and the groups of a domain
abbrev pub list_texts : List SiteNo → List GroupNo → List (List ℕ)
list_texts sites groups =
    codes "sites" ∷ numbers_text (map (λ s. s.0) sites) ∷ codes "groups"
    ∷ numbers_text (map (λ g. g.0) groups) ∷ []

abbrev pub domain_words : DomainConfig → List (List ℕ)
domain_words d =
    codes "domain"
    ∷ (place_texts d.domain d.home ++ (list_texts d.sites d.groups ++ quota_texts d.quotas))

abbrev pub domain_text : DomainConfig → List ℕ
domain_text d = line_text (domain_words d)

-- the lines of a configuration: of its site, and of each domain
abbrev pub head_text : Config → List ℕ
head_text config = line_text (site_words config.site) ++ flat_map domain_text config.domains

-- the words of a request of a session
abbrev pub request_words : DomainNo → ℕ → Request → List (List ℕ)
request_words d serial (request.Join tag group) = codes "join" ∷ request_texts d serial tag group
request_words d serial (request.Leave tag group) = codes "leave" ∷ request_texts d serial tag group
request_words d serial (request.Cast tag group how payload) =
    cast_text how ∷ (request_texts d serial tag group ++ payload_text payload ∷ [])
request_words d serial (request.Pass tag group to) =
    codes "pass" ∷ (request_texts d serial tag group ++ proc_text to ∷ [])

abbrev pub event_words : Event → List (List ℕ)
event_words (event.Open d) = codes "open" ∷ decimal d.0 ∷ []
event_words (event.Command d serial (command.Request r)) = request_words d serial r
event_words (event.Command d serial command.Bad) = codes "bad" ∷ decimal d.0 ∷ decimal serial ∷ []
event_words (event.Gone d serial) = codes "gone" ∷ decimal d.0 ∷ decimal serial ∷ []
event_words (event.Frame d s f) = codes "frame" ∷ encode_lower (spelled_site d s f) ∷ []
event_words (event.Suspect d site) = codes "suspect" ∷ decimal d.0 ∷ decimal site.0 ∷ []
event_words (event.Quota d name value) =
    codes "quota" ∷ decimal d.0 ∷ quota_name_text name ∷ decimal value ∷ []
event_words (event.Take d serial most) =
    codes "take" ∷ decimal d.0 ∷ decimal serial ∷ decimal most ∷ []
event_words (event.Tick now) = codes "tick" ∷ decimal now ∷ []

abbrev pub event_text : Event → List ℕ
event_text e = line_text (event_words e)

-- a line for each event
abbrev pub events_text : List Event → List ℕ
events_text events = flat_map event_text events

abbrev pub script_text : Config → List Event → List ℕ
script_text config events = head_text config ++ events_text events
