-- What is read can be printed.
use Rattle.std.proofs.Common.{ℕ, ◌+◌, ◌<◌, List, [], ◌∷◌, ◌++◌, length, Ok, inl, inr, sym, subst}
use Rattle.std.specs.List.{AllByRecursion, AllZip}
use Rattle.std.proofs.lemmas.List.{get_or-append-add}
use Rattle.hex.specs.Hex.{IsBytes}
use Rattle.hex.proofs.HexLemmas.{decode_of-ok}
use Rattle.cast_types.specs.declared.names.DomainNo.{DomainNo}
use Rattle.cast_types.specs.declared.names.SiteNo.{SiteNo}
use Rattle.cast_message.specs.declared.client.Command.TheVariants as command
use Rattle.cast_message.specs.declared.client.Request.{Request}
use Rattle.cast_message.specs.declared.client.Request.TheVariants as request
use Rattle.cast_message.specs.declared.message.Body.{Body}
use Rattle.cast_message.specs.declared.message.Body.TheVariants as body
use Rattle.cast_message.specs.declared.message.Message.{Message}
use Rattle.cast_message.specs.declared.site.SiteFrame.{SiteFrame}
use Rattle.cast_message.specs.declared.site.SiteFrame.TheVariants as frame
use Rattle.cast_message.specs.Bodies.{kind_of}
use Rattle.cast_field.specs.Spelling.{byte, kind_code, short, spelled_body, spelled_message, spelled_payload, spelled_times, spelled_uid}
use Rattle.cast_frame.specs.Spelling.{frame_code, is_handing, spelled_fields, spelled_site, version_code}
use Rattle.cast_events.specs.declared.config.DomainConfig.{DomainConfig}
use Rattle.cast_events.specs.declared.event.Event.{Event}
use Rattle.cast_events.specs.declared.event.Event.TheVariants as event
use Rattle.cast_script.specs.Words.{SpellsBytes}
use Rattle.cast_script.specs.Lines.{SpellsEvent, SpellsRequest, words_of}
use Rattle.cast_script.specs.Scripts.{SpellsParts, SpellsScript, used_lines_of}
use Rattle.cast_script.specs.declared.script.Script.{Script}
use Rattle.cast_script.proofs.Spelled.{given_has_domains, read_is_spelled}
use Rattle.cast_print.specs.Printable.{IsByteBody, IsByteFrame, IsPrintable, IsPrintableRequest}
use Rattle.cast_print.specs.Laws.{ReadIsPrintable}
use Rattle.cast_print.proofs.FrameBytes.{no_bytes}

-- ---- bytes

spelled_bytes : (word bytes : List ℕ) → SpellsBytes word bytes → IsBytes bytes
spelled_bytes word bytes spells =
    elim spells [ inl none ↦ subst IsBytes (sym none.1) no_bytes | inr some ↦ (decode_of-ok word bytes some.1).3 ]

behind : (front back : List ℕ) → IsBytes (front ++ back) → IsBytes back
behind front back are i = subst (λ b. b < 256) (get_or-append-add front back i 0) (are (length front + i))

payload_bytes : (payload : List ℕ) → IsBytes (spelled_payload payload) → IsBytes payload
unfolding spelled_payload
payload_bytes payload are = behind (short (length payload)) payload are

body_bytes : (b : Body) → IsBytes (spelled_body b) → IsByteBody b
unfolding spelled_body
body_bytes (body.Causal payload) are = payload_bytes payload are
body_bytes (body.Atomic payload) are = payload_bytes payload are
body_bytes (body.Order s) are = tt

message_bytes : (m : Message) → IsBytes (spelled_message m) → IsByteBody m.body
unfolding spelled_message
message_bytes m are =
    body_bytes m.body
    (behind (spelled_times m.times) (spelled_body m.body) (behind (byte (kind_code (kind_of m.body))) _ (behind (spelled_uid m.id) _ are)))

fields_bytes : (f : SiteFrame) → IsBytes (spelled_fields f) → IsByteFrame f
unfolding spelled_fields
fields_bytes (frame.Data m) are = message_bytes m are
fields_bytes (frame.Ack u) are = tt
fields_bytes (frame.Stable u) are = tt
fields_bytes (frame.Ask g n c p) are = tt
fields_bytes (frame.Asked g n full) are = tt
fields_bytes (frame.Prepare g view) are = tt
fields_bytes (frame.Flushed g view counts tail kept) are = tt
fields_bytes (frame.Want u) are = tt
fields_bytes (frame.Forward m) are = message_bytes m are
fields_bytes (frame.Install g view members request cut tail) are = tt
fields_bytes (frame.Installed g view) are = tt
fields_bytes (frame.Out g view) are = tt

site_bytes : (d : DomainNo) (s : SiteNo) (f : SiteFrame) → IsBytes (spelled_site d s f) → IsByteFrame f
unfolding spelled_site
site_bytes d s f are =
    fields_bytes f
    (behind (short s.0) (spelled_fields f)
    (behind (byte d.0) _ (behind (byte (frame_code f)) _ (behind (byte (version_code (is_handing f))) _ (behind (short 0x4344) _ are)))))

-- ---- events

request_printable : (d : DomainNo) (k : ℕ) (ws : List (List ℕ)) (r : Request) → SpellsRequest d k ws r → IsPrintableRequest d k r
request_printable d k ws (request.Join t g) spells = spells.1
request_printable d k ws (request.Leave t g) spells = spells.1
request_printable d k ws (request.Cast t g how payload) spells = (spells.2, spelled_bytes spells.0 payload spells.3)
request_printable d k ws (request.Pass t g to) spells = (spells.1, spells.2)

event_printable : (ws : List (List ℕ)) (e : Event) → SpellsEvent ws e → IsPrintable e
event_printable ws (event.Open d) spells = spells.1
event_printable ws (event.Command d k (command.Request r)) spells = request_printable d k ws r spells
event_printable ws (event.Command d k command.Bad) spells = (spells.1, spells.2)
event_printable ws (event.Gone d k) spells = (spells.1, spells.2)
event_printable ws (event.Frame d s f) spells = (spells.3, site_bytes d s f (spelled_bytes spells.0 (spelled_site d s f) spells.2))
event_printable ws (event.Suspect d s) spells = (spells.1, spells.2)
event_printable ws (event.Quota d q n) spells = (spells.1, spells.2)
event_printable ws (event.Take d k n) spells = (spells.1, spells.2, spells.3)
event_printable ws (event.Tick n) spells = spells.1

events_printable : (lines : List (List ℕ)) (events : List Event) → AllZip (λ line e. SpellsEvent (words_of line) e) lines events →
    AllByRecursion IsPrintable events
events_printable [] [] spell = tt
events_printable [] (e ∷ events) spell = absurd spell
events_printable (line ∷ lines) [] spell = absurd spell
events_printable (line ∷ lines) (e ∷ events) spell = (event_printable (words_of line) e spell.0, events_printable lines events spell.1)

parts_printable : (own : SiteNo) (lines : List (List ℕ)) (ds : List DomainConfig) (events : List Event) → SpellsParts own lines ds events →
    AllByRecursion IsPrintable events
parts_printable own lines [] events spell = events_printable lines events spell
parts_printable own [] (d ∷ ds) events spell = absurd spell
parts_printable own (line ∷ lines) (d ∷ ds) events spell = parts_printable own lines ds events spell.1

script_printable : (lines : List (List ℕ)) (s : Script) → SpellsScript lines s → AllByRecursion IsPrintable s.events
script_printable [] s spells = absurd spells
script_printable (line ∷ lines) s spells = parts_printable s.config.site lines s.config.domains s.events spells.1

pub read_is_printable : ReadIsPrintable
read_is_printable text s read =
    (given_has_domains text (Ok s) read, script_printable (used_lines_of text) s (read_is_spelled text s read))
