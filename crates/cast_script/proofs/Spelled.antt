-- What a text is read as, it spells, and what it spells is read of it.
use Rattle.std.proofs.Common.{◌≡◌, ◌≢◌, ℕ, ◌<◌, ◌≤◌, true, List, [], ◌∷◌, ◌++◌, length, map, Result, Ok}
use Rattle.std.proofs.Common.{Err, IfOk, refl, sym, ap, subst, ◌∙◌, append_assoc, length-append, arith}
use Rattle.std.specs.List.{AllByRecursion, AllZip}
use Rattle.std.proofs.lemmas.List.{append-nil}
use Rattle.cast_types.specs.declared.names.SiteNo.{SiteNo}
use Rattle.cast_events.specs.declared.config.DomainConfig.{DomainConfig}
use Rattle.cast_events.specs.declared.event.Event.{Event}
use Rattle.cast_script.specs.declared.words.Reason.{Reason}
use Rattle.cast_script.specs.declared.lines.DomainOrEvent.{DomainOrEvent}
use Rattle.cast_script.specs.declared.lines.DomainOrEvent.TheVariants as said
use Rattle.cast_script.specs.declared.script.Script.{Script}
use Rattle.cast_script.specs.declared.script.ScriptFault.{ScriptFault}
use Rattle.cast_script.specs.Scripts.{HasDomains, SpellsParts, SpellsScript, are_distinct, used_lines_of}
use Rattle.cast_script.specs.Lines.{IsDomainAt, SpellsEvent, SpellsSite, words_of}
use Rattle.cast_script.specs.Words.{IsBetween, parts_at}
use Rattle.cast_script.specs.Readings.{GivesAt, Numbered, at_line, domain_or_event_at, domains_on, event_at}
use Rattle.cast_script.specs.Readings.{events_from, events_on, no_events, script_of, site_at, site_on}
use Rattle.cast_script.specs.LineReadings.{domain_or_event, event_line, site_line}
use Rattle.cast_script.specs.WordReadings.{each}
use Rattle.cast_script.specs.Laws.{ReadIsSpelled, SpelledIsRead}
use Rattle.cast_script.proofs.Results.{bind_ok, ok_is}
use Rattle.cast_script.proofs.Distinct.{distinct_more, distinct_new}
use Rattle.cast_script.proofs.ScriptLines.{line_ok, used_from, used_texts}
use Rattle.cast_script.proofs.LineSpelled.{IsNext, site_line_is, site_line_again, domain_or_event_is}
use Rattle.cast_script.proofs.LineSpelled.{domain_again_behind, event_again_behind, event_line_is, event_line_again}

abbrev Spells : List Numbered → List Event → Type 0
Spells lines events = AllZip (λ line e. SpellsEvent (words_of line) e) (map (λ l. l.1) lines) events

events_are : (lines : List Numbered) (events : List Event) → each event_at lines ≡ Ok events → Spells lines events
unfolding each event_at event_line
events_are [] events h = subst (Spells []) (ok_is (ℕ × Reason) [] events h) tt
events_are (l ∷ lines) events h =
    let first = bind_ok (event_at l) _ events h in
    let rest = bind_ok (each event_at lines) _ events first.2 in
    let here = event_line_is (words_of l.1) first.0 (line_ok l.0 (event_line l.1) first.0 first.1) in
    subst (Spells (l ∷ lines)) (ok_is (ℕ × Reason) (first.0 ∷ rest.0) events rest.2) (here, events_are lines rest.0 rest.1)

events_again : (lines : List Numbered) (events : List Event) → Spells lines events → each event_at lines ≡ Ok events
unfolding each event_at event_line
events_again [] [] spells = refl
events_again [] (e ∷ es) spells = absurd spells
events_again (l ∷ lines) [] spells = absurd spells
events_again (l ∷ lines) (e ∷ es) spells = rw (event_line_again (words_of l.1) e spells.0, events_again lines es spells.1) refl

abbrev texts_of : List Numbered → List (List ℕ)
texts_of lines = map (λ l. l.1) lines

-- what is read behind these domains
record AreParts (own : SiteNo) (before : List DomainConfig) (lines : List Numbered) (s : Script) : Type 0 where
  here : s.config.site ≡ own
  more : List DomainConfig
  domains : s.config.domains ≡ before ++ more
  spelled : SpellsParts own (texts_of lines) more s.events
  counted : IsBetween 1 16 (length s.config.domains)
  distinct : are_distinct s.config.domains ≡ true

no_events_is : (end : ℕ) (own : SiteNo) (before : List DomainConfig) (s : Script) → length before ≤ 16 → are_distinct before ≡ true →
    no_events own end before ≡ Ok s → AreParts own before [] s
unfolding no_events
no_events_is end own [] s few distinct h = absurd cc
no_events_is end own (d ∷ ds) s few distinct h =
    let made : Script = record { config = record { site = own; domains = d ∷ ds }; events = [] } in
    subst (AreParts own (d ∷ ds) []) (ok_is (ℕ × Reason) made s h)
    (record {
      here = refl;
      more = [];
      domains = sym (append-nil (d ∷ ds));
      spelled = tt;
      counted = (omega arith, few);
      distinct = distinct;
    })

some_length : (ds : List DomainConfig) → ds ≢ [] → 1 ≤ length ds
some_length [] some = absurd (some refl)
some_length (d ∷ ds) some = omega arith

events_on_is : (own : SiteNo) (before : List DomainConfig) (l : Numbered) (lines : List Numbered) (e : Event) (s : Script) →
    length before ≤ 16 → are_distinct before ≡ true → SpellsEvent (words_of l.1) e → before ≢ [] → events_on own before e lines ≡ Ok s →
    AreParts own before (l ∷ lines) s
unfolding events_on
events_on_is own before l lines e s few distinct spells some h =
    let events = bind_ok (events_from e lines) _ s h in
    let rest = bind_ok (each event_at lines) _ events.0 events.1 in
    let spelled = subst (Spells (l ∷ lines)) (ok_is (ℕ × Reason) (e ∷ rest.0) events.0 rest.2) (spells, events_are lines rest.0 rest.1) in
    let made : Script = record { config = record { site = own; domains = before }; events = events.0 } in
    subst (AreParts own before (l ∷ lines)) (ok_is (ℕ × Reason) made s events.2)
    (record {
      here = refl;
      more = [];
      domains = sym (append-nil before);
      spelled = spelled;
      counted = (some_length before some, few);
      distinct = distinct;
    })

-- what is read behind a line of this
abbrev next_on : SiteNo → ℕ → List DomainConfig → List Numbered → DomainOrEvent → Result Script (ℕ × Reason)
next_on own end before lines (said.Domain d) = domains_on own end (before ++ d ∷ []) lines
next_on own end before lines (said.Event e) = events_on own before e lines

domains_are : (end : ℕ) (own : SiteNo) (before : List DomainConfig) (lines : List Numbered) (s : Script) → length before ≤ 16 →
    are_distinct before ≡ true → domains_on own end before lines ≡ Ok s → AreParts own before lines s
unfolding domains_on domain_or_event_at domain_or_event
domains_are end own before [] s few distinct h = no_events_is end own before s few distinct h
domains_are end own before (l ∷ lines) s few distinct h =
    let next = bind_ok (at_line l.0 (domain_or_event own before l.1)) _ s h in
    let is = domain_or_event_is own before (words_of l.1) next.0 (line_ok l.0 (domain_or_event own before l.1) next.0 next.1) in
    elim next.0 as (λ x. IsNext own before (words_of l.1) x → next_on own end before lines x ≡ Ok s → AreParts own before (l ∷ lines) s) [
      | said.Domain d ↦ λ is read.
          let longer : length (before ++ d ∷ []) ≤ 16 = omega (arith, is.1, length-append before (d ∷ [])) in
          let rest = domains_are end own (before ++ d ∷ []) lines s longer (distinct_more before d distinct is.0.new) read in
          record {
            here = rest.here;
            more = d ∷ rest.more;
            domains = rest.domains ∙ append_assoc before (d ∷ []) rest.more;
            spelled = (is.0.spelled, rest.spelled);
            counted = rest.counted;
            distinct = rest.distinct;
          }
      | said.Event e ↦ λ is read. events_on_is own before l lines e s few distinct is.0 is.1 read
    ] is next.2

script_is : (end : ℕ) (lines : List Numbered) (s : Script) → site_on end lines ≡ Ok s → SpellsScript (texts_of lines) s
unfolding site_on site_at site_line
script_is end [] s h = absurd cc
script_is end (l ∷ lines) s h =
    let site = bind_ok (at_line l.0 (site_line l.1)) _ s h in
    let parts = domains_are end site.0 [] lines s (omega arith) refl site.2 in
    let first = site_line_is (words_of l.1) site.0 (line_ok l.0 (site_line l.1) site.0 site.1) in (
      subst (SpellsSite (words_of l.1)) (sym parts.here) first,
      subst (λ own. SpellsParts own (texts_of lines) s.config.domains s.events) (sym parts.here)
          (subst (λ ds. SpellsParts site.0 (texts_of lines) ds s.events) (sym parts.domains) parts.spelled),
      parts.counted,
      parts.distinct,
    )

-- a script at a site
abbrev script_at : SiteNo → List DomainConfig → List Event → Script
script_at own domains events = record { config = record { site = own; domains = domains }; events = events }

abbrev read_at : SiteNo → List DomainConfig → List Event → Result Script (ℕ × Reason)
read_at own domains events = Ok (script_at own domains events)

no_events_again : (end : ℕ) (own : SiteNo) (before : List DomainConfig) → 1 ≤ length before →
    no_events own end before ≡ read_at own before []
unfolding no_events
no_events_again end own [] some = absurd (omega arith)
no_events_again end own (d ∷ ds) some = refl

-- the line of the first event behind domains
first_again : (end : ℕ) (own : SiteNo) (before : List DomainConfig) (l : Numbered) (lines : List Numbered) (e : Event)
    (events : List Event) → 1 ≤ length before → SpellsEvent (words_of l.1) e → Spells lines events →
    domains_on own end before (l ∷ lines) ≡ read_at own before (e ∷ events)
unfolding domains_on domain_or_event_at domain_or_event events_on
first_again end own [] l lines e events some spells rest = absurd (omega arith)
first_again end own (d ∷ before) l lines e events some spells rest =
    rw (event_again_behind own d before (words_of l.1) e spells, events_again lines events rest) refl

domains_again : (end : ℕ) (own : SiteNo) (before : List DomainConfig) (lines : List Numbered) (more : List DomainConfig)
    (events : List Event) → SpellsParts own (texts_of lines) more events → IsBetween 1 16 (length (before ++ more)) →
    are_distinct (before ++ more) ≡ true → domains_on own end before lines ≡ read_at own (before ++ more) events
unfolding domains_on domain_or_event_at domain_or_event
domains_again end own before [] [] [] spells counted distinct =
    let same = append-nil before in
    no_events_again end own before (subst (λ ds. 1 ≤ length ds) same counted.0) ∙ ap (λ ds. read_at own ds []) (sym same)
domains_again end own before [] [] (e ∷ events) spells counted distinct = absurd spells
domains_again end own before [] (d ∷ more) events spells counted distinct = absurd spells
domains_again end own before (l ∷ lines) [] [] spells counted distinct = absurd spells
domains_again end own before (l ∷ lines) [] (e ∷ events) spells counted distinct =
    let same = append-nil before in
    first_again end own before l lines e events (subst (λ ds. 1 ≤ length ds) same counted.0) spells.0 spells.1
    ∙ ap (λ ds. read_at own ds (e ∷ events)) (sym same)
domains_again end own before (l ∷ lines) (d ∷ more) events spells counted distinct =
    let few : length before < 16 = omega (arith, counted.1, length-append before (d ∷ more)) in
    let shift : (before ++ d ∷ []) ++ more ≡ before ++ d ∷ more = append_assoc before (d ∷ []) more in
    let rest =
    domains_again end own (before ++ d ∷ []) lines more events spells.1
    (subst (λ (ds : List DomainConfig). IsBetween 1 16 (length ds)) (sym shift) counted)
    (subst (λ (ds : List DomainConfig). are_distinct ds ≡ true) (sym shift) distinct) in
    rw (domain_again_behind own before (words_of l.1) d spells.0 (distinct_new before d more distinct) few)
    (rest ∙ ap (λ ds. read_at own ds events) shift)

script_again : (end : ℕ) (lines : List Numbered) (own : SiteNo) (domains : List DomainConfig) (events : List Event) →
    SpellsScript (texts_of lines) (script_at own domains events) → site_on end lines ≡ read_at own domains events
unfolding site_on site_at site_line
script_again end [] own domains events spells = absurd spells
script_again end (l ∷ lines) own domains events spells =
    rw (site_line_again (words_of l.1) own spells.0) (domains_again end own [] lines domains events spells.1 spells.2 spells.3)

pub read_is_spelled : ReadIsSpelled
unfolding script_of
read_is_spelled text s h =
    subst (λ lines. SpellsScript lines s) (used_texts 1 (parts_at 10 text)) (script_is _ (used_from 1 (parts_at 10 text)) s h)

pub spelled_is_read : SpelledIsRead
unfolding script_of
spelled_is_read text s spells =
    script_again _ (used_from 1 (parts_at 10 text)) s.config.site s.config.domains s.events
    (subst (λ lines. SpellsScript lines s) (sym (used_texts 1 (parts_at 10 text))) spells)

-- the domains of a script are within their limits
all_within : (own : SiteNo) (lines : List (List ℕ)) (ds : List DomainConfig) (events : List Event) → SpellsParts own lines ds events →
    AllByRecursion (IsDomainAt own) ds
all_within own lines [] events spells = tt
all_within own [] (d ∷ ds) events spells = absurd spells
all_within own (l ∷ lines) (d ∷ ds) events ((lists, words, spelled, at), rest) = (at, all_within own lines ds events rest)

has_domains : (lines : List (List ℕ)) (s : Script) → SpellsScript lines s → HasDomains s.config
has_domains [] s spells = absurd spells
has_domains (l ∷ lines) s spells =
    record { counted = spells.2; within = all_within s.config.site lines s.config.domains s.events spells.1; distinct = spells.3 }

pub given_has_domains : (text : List ℕ) (r : Result Script ScriptFault) → GivesAt r (script_of text) → IfOk r (λ s. HasDomains s.config)
given_has_domains text (Ok s) given = has_domains (used_lines_of text) s (read_is_spelled text s given)
given_has_domains text (Err e) given = tt
