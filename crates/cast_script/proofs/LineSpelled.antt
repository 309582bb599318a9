-- What a line is read as, it spells, and what it spells is read of it.
-- There is a pair of lemmas for each kind of line: one ending in `_is` (what is read is what the
-- line spells) and one ending in `_again` (the words that spell it are read as it). A line is its
-- first word, which names the kind, and parts; each part has such a pair in `Parts`, so each line
-- joins those of its parts, and what tells kinds of lines apart is their first word.
use Rattle.std.proofs.Common.{◌≡◌, ◌≢◌, ◌<◌, ℕ, false, eqb, ltb, List, [], ◌∷◌, ◌++◌, length, take, drop}
use Rattle.std.proofs.Common.{map, codes, Result, Ok, Err, inl, inr, refl, sym, ap, subst, ◌∙◌, arith}
use Rattle.std.specs.Fmt.{decimal}
use Rattle.std.proofs.lemmas.Bool.{lt-ltb, ltb-true}
use Rattle.std.proofs.lemmas.List.{drop-drop, take-append-drop}
use Rattle.std.proofs.lemmas.List.Elements.{All-contains, All-from_recursion}
use Rattle.hex.specs.Hex.{IsBytes}
use Rattle.hex.proofs.HexLemmas.{decode_of-ok}
use Rattle.cast_types.specs.declared.names.DomainNo.{DomainNo}
use Rattle.cast_types.specs.declared.names.SiteNo.{SiteNo}
use Rattle.cast_message.specs.declared.client.CastKind.{CastKind}
use Rattle.cast_message.specs.declared.client.CastKind.TheVariants as kind
use Rattle.cast_message.specs.declared.client.Request.{Request}
use Rattle.cast_message.specs.declared.client.Request.TheVariants as request
use Rattle.cast_message.specs.declared.client.Command.TheVariants as command
use Rattle.cast_message.specs.declared.site.SiteFrame.{SiteFrame}
use Rattle.cast_field.specs.declared.fault.FrameFault.{FrameFault}
use Rattle.cast_frame.specs.Reading.{site_frame_of}
use Rattle.cast_frame.specs.Spelling.{spelled_site}
use Rattle.cast_frame.proofs.Frames.{found}
use Rattle.cast_frame.proofs.Sizes.{spelled_is_read as frame_again}
use Rattle.cast_events.specs.declared.config.DomainConfig.{DomainConfig}
use Rattle.cast_events.specs.declared.event.Event.{Event}
use Rattle.cast_events.specs.declared.event.Event.TheVariants as event
use Rattle.cast_script.specs.declared.words.Reason.{Reason}
use Rattle.cast_script.specs.declared.words.Reason.TheVariants.{Order, WrongCount}
use Rattle.cast_script.specs.declared.lines.Head.{Head}
use Rattle.cast_script.specs.declared.lines.Head.TheVariants.{Site, Domain, Open, Join, Leave, Cast, Abcast}
use Rattle.cast_script.specs.declared.lines.Head.TheVariants.{Pass, Bad, Gone, Frame, Suspect, Quota, Take, Tick}
use Rattle.cast_script.specs.declared.lines.DomainOrEvent.{DomainOrEvent}
use Rattle.cast_script.specs.declared.lines.DomainOrEvent.TheVariants as said
use Rattle.cast_script.specs.Lines.{IsDomainAt, SpellsDomain, SpellsEvent, SpellsSite, cast_text, head_text, AreNumbers}
use Rattle.cast_script.specs.Words.{IsSite, SpellsBytes, is_configured, parts_at, place_texts, quota_texts}
use Rattle.cast_script.specs.LineReadings.{bad_words, behind_first, cast_words, domain_or_event_behind, domain_parts, domain_words}
use Rattle.cast_script.specs.LineReadings.{event_behind, first_event, frame_words, frame_event, gone_words, head_of, join_words}
use Rattle.cast_script.specs.LineReadings.{leave_words, next_domain, open_words, pass_words, quota_event_words, request_parts}
use Rattle.cast_script.specs.LineReadings.{request_event, site_behind, site_words, suspect_words, take_words, tick_words}
use Rattle.cast_script.specs.WordReadings.{◌>>=◌, bytes_of, domain_of, list_words, number_of, number_within}
use Rattle.cast_script.specs.WordReadings.{place_words, proc_of, quota_name_of, quota_words, group_of, site_of}
use Rattle.cast_script.proofs.Results.{bind_ok, made_ok, ok_is, pass_ok}
use Rattle.cast_script.proofs.Numbers.{limited_is, limited_again, number_is, number_again}
use Rattle.cast_script.proofs.Heads.{head_is, head_again}
use Rattle.cast_script.proofs.Parts.{bytes_is, bytes_again, domain_is, domain_again, lists_is, lists_again, place_is, place_again}
use Rattle.cast_script.proofs.Parts.{quota_name_is, quota_name_again, quotas_is, quotas_again, site_is, site_again, group_is, group_again}
use Rattle.cast_script.proofs.Processes.{proc_is, proc_again}
use Rattle.cast_types.specs.declared.names.GroupNo.{GroupNo}
use Rattle.cast_script.specs.declared.events.RequestParts.{RequestParts}

-- ---- parts of a request

pub record AreParts (d k t g : List ℕ) (p : RequestParts) : Type 0 where
  pub domain : d ≡ decimal p.domain.0
  pub serial : k ≡ decimal p.serial
  pub tag : t ≡ decimal p.tag
  pub group : g ≡ decimal p.group.0
  pub numbers : AreNumbers p.domain p.serial p.tag p.group

pub parts_is : (d k t g : List ℕ) (p : RequestParts) → request_parts d k t g ≡ Ok p → AreParts d k t g p
unfolding request_parts
parts_is d k t g p e =
    let domain = bind_ok (domain_of d) _ p e in
    let serial = bind_ok (number_within 0 4294967295 k) _ p domain.2 in
    let tag = bind_ok (number_within 0 4294967295 t) _ p serial.2 in
    let group = bind_ok (group_of g) _ p tag.2 in
    let a = domain_is d domain.0 domain.1 in
    let b = limited_is 0 4294967295 k serial.0 serial.1 in
    let c = limited_is 0 4294967295 t tag.0 tag.1 in
    let f = group_is g group.0 group.1 in
    subst (AreParts d k t g) (ok_is Reason (record { domain = domain.0; serial = serial.0; tag = tag.0; group = group.0 }) p group.2)
    (record {
      domain = a.0;
      serial = b.0;
      tag = c.0;
      group = f.0;
      numbers = record { domain = a.1; serial = omega (arith, b.1.1); tag = omega (arith, c.1.1); group = f.1 };
    })

pub parts_again : (d : DomainNo) (k t : ℕ) (g : GroupNo) → AreNumbers d k t g
    → request_parts (decimal d.0) (decimal k) (decimal t) (decimal g.0) ≡ Ok (record { domain = d; serial = k; tag = t; group = g })
unfolding request_parts
parts_again d k t g are =
    rw (
      domain_again d are.domain,
      limited_again 0 4294967295 k (omega arith, omega (arith, are.serial)) (omega arith),
      limited_again 0 4294967295 t (omega arith, omega (arith, are.tag)) (omega arith),
      group_again g are.group,
    ) refl

-- ---- the `site` line

site_words_are : (ws : List (List ℕ)) (s : SiteNo) → site_words ws ≡ Ok s → SpellsSite (codes "site" ∷ ws) s
unfolding site_words
site_words_are (w ∷ []) s e = let is = site_is w s e in (ap (λ x. codes "site" ∷ x ∷ []) is.0, is.1)
site_words_are ws s e = absurd cc

site_behind_is : (h : Head) (ws : List (List ℕ)) (s : SiteNo) → site_behind h ws ≡ Ok s → SpellsSite (head_text h ∷ ws) s
unfolding site_behind
site_behind_is Site ws s e = site_words_are ws s e
site_behind_is h ws s e = absurd cc

pub site_line_is : (ws : List (List ℕ)) (s : SiteNo) → behind_first site_behind ws ≡ Ok s → SpellsSite ws s
unfolding behind_first
site_line_is [] s e = absurd cc
site_line_is (first ∷ ws) s e =
    let head = bind_ok (head_of first) _ s e in
    subst (λ w. SpellsSite (w ∷ ws) s) (sym (head_is first head.0 head.1)) (site_behind_is head.0 ws s head.2)

pub site_line_again : (ws : List (List ℕ)) (s : SiteNo) → SpellsSite ws s → behind_first site_behind ws ≡ Ok s
unfolding behind_first site_behind site_words
site_line_again ws s spells = rw (spells.0, head_again Site) (site_again s spells.1)

-- ---- the `domain` line

-- the words of a line spell one more domain behind these
pub record SpellsNext (own : SiteNo) (before : List DomainConfig) (ws : List (List ℕ)) (d : DomainConfig) : Type 0 where
  pub spelled : SpellsDomain own ws d
  pub new : is_configured d.domain before ≡ false

domain_parts_are : (own : SiteNo) (before : List DomainConfig) (ws : List (List ℕ)) (d : DomainConfig) → domain_parts own before ws ≡ Ok d
    → SpellsNext own before (codes "domain" ∷ ws) d
unfolding domain_parts
domain_parts_are own before ws d e =
    let place = bind_ok (place_words before (take 3 ws)) _ d e in
    let lists = bind_ok (list_words place.0.1 own (take 4 (drop 3 ws))) _ d place.2 in
    let quotas = bind_ok (quota_words (drop 7 ws)) _ d lists.2 in
    let p = place_is before (take 3 ws) place.0 place.1 in
    let l = lists_is place.0.1 own (take 4 (drop 3 ws)) lists.0 lists.1 in
    let q = quotas_is (drop 7 ws) quotas.0 quotas.1 in
    let inner : take 4 (drop 3 ws) ++ drop 7 ws ≡ drop 3 ws = rw (← drop-drop 4 3 ws) (take-append-drop 4 (drop 3 ws)) in
    let whole : take 3 ws ++ (take 4 (drop 3 ws) ++ drop 7 ws) ≡ ws = rw inner (take-append-drop 3 ws) in
    let written : ws ≡ place_texts place.0.0 place.0.1 ++ (take 4 (drop 3 ws) ++ quota_texts quotas.0) = sym whole ∙ cc (p.0, q.0) in
    let made : DomainConfig = record { domain = place.0.0; home = place.0.1; sites = lists.0.0; groups = lists.0.1; quotas = quotas.0 } in
    subst (SpellsNext own before (codes "domain" ∷ ws)) (ok_is Reason made d quotas.2)
    (record {
      spelled = (
        take 4 (drop 3 ws),
        ap (λ x. codes "domain" ∷ x) written,
        (l.site_word, l.group_word, l.words, l.sites.spelled, l.groups.spelled),
        record {
          numbered = p.1;
          few_sites = l.sites.few;
          are_sites = l.sites.named;
          rising = l.sites.rising;
          has_home = l.sites.home;
          has_own = l.sites.own;
          few_groups = (l.groups.some, l.groups.few);
          are_groups = l.groups.named;
          rising_groups = l.groups.rising;
          within = q.1;
        },
      );
      new = p.2;
    })

domain_words_are : (own : SiteNo) (before : List DomainConfig) (ws : List (List ℕ)) (d : DomainConfig) → domain_words own before ws ≡ Ok d
    → SpellsNext own before (codes "domain" ∷ ws) d
unfolding domain_words
domain_words_are own before ws d e =
    domain_parts_are own before ws d (pass_ok (eqb (length ws) 12) WrongCount (domain_parts own before ws) d e).1

next_domain_is : (own : SiteNo) (before : List DomainConfig) (ws : List (List ℕ)) (d : DomainConfig) → next_domain own before ws ≡ Ok d
    → SpellsNext own before (codes "domain" ∷ ws) d × (length before < 16)
unfolding next_domain
next_domain_is own before ws d e =
    let passed = pass_ok (ltb (length before) 16) Order (domain_words own before ws) d e in
    (domain_words_are own before ws d passed.1, ltb-true (length before) 16 passed.0)

domain_words_again : (own : SiteNo) (before : List DomainConfig) (s g : List ℕ) (d : DomainConfig) → is_configured d.domain before ≡ false
    → parts_at 44 s ≡ map (λ x. decimal x.0) d.sites → parts_at 44 g ≡ map (λ x. decimal x.0) d.groups → IsDomainAt own d
    → domain_words own before (place_texts d.domain d.home ++ ((codes "sites" ∷ s ∷ codes "groups" ∷ g ∷ []) ++ quota_texts d.quotas))
    ≡ Ok d
unfolding domain_words domain_parts
domain_words_again own before s g d new sites groups at =
    let home : IsSite d.home = All-contains IsSite d.sites d.home (All-from_recursion IsSite d.sites at.are_sites) at.has_home in
    let place = place_again before d.domain d.home at.numbered new home in
    let lists = lists_again d.home own s g d.sites d.groups
    (record { spelled = sites; named = at.are_sites; few = at.few_sites; rising = at.rising; home = at.has_home; own = at.has_own })
    (record { spelled = groups; named = at.are_groups; some = at.few_groups.0; few = at.few_groups.1; rising = at.rising_groups }) in
    let quotas = quotas_again d.quotas at.within in
    rw (place, lists, quotas) refl

pub domain_again_behind : (own : SiteNo) (before : List DomainConfig) (ws : List (List ℕ)) (d : DomainConfig) → SpellsDomain own ws d
    → is_configured d.domain before ≡ false → length before < 16 → behind_first (domain_or_event_behind own before) ws ≡ Ok (said.Domain d)
unfolding behind_first domain_or_event_behind next_domain
domain_again_behind own before ws d (lists, words, (s, g, is, sites, groups), at) new few =
    rw (words, head_again Domain, is, lt-ltb (length before) 16 few, domain_words_again own before s g d new sites groups at) refl

-- ---- the line of an event

open_is : (ws : List (List ℕ)) (e : Event) → open_words ws ≡ Ok e → SpellsEvent (codes "open" ∷ ws) e
unfolding open_words
open_is (w ∷ []) e h =
    made_ok (domain_of w) (λ d. event.Open d) (SpellsEvent (codes "open" ∷ w ∷ [])) e h (λ d read.
    let is = domain_is w d read in
    (ap (λ x. codes "open" ∷ x ∷ []) is.0, is.1))
open_is ws e h = absurd cc

join_is : (ws : List (List ℕ)) (e : Event) → join_words ws ≡ Ok e → SpellsEvent (codes "join" ∷ ws) e
unfolding join_words
join_is (d ∷ k ∷ t ∷ g ∷ []) e h =
    made_ok (request_parts d k t g) (λ p. request_event p (request.Join p.tag p.group)) (SpellsEvent (codes "join" ∷ d ∷ k ∷ t ∷ g ∷ []))
    e h (λ p read.
    let are = parts_is d k t g p read in
    (cc (are.domain, are.serial, are.tag, are.group), are.numbers))
join_is ws e h = absurd cc

leave_is : (ws : List (List ℕ)) (e : Event) → leave_words ws ≡ Ok e → SpellsEvent (codes "leave" ∷ ws) e
unfolding leave_words
leave_is (d ∷ k ∷ t ∷ g ∷ []) e h =
    made_ok (request_parts d k t g) (λ p. request_event p (request.Leave p.tag p.group)) (SpellsEvent (codes "leave" ∷ d ∷ k ∷ t ∷ g ∷ []))
    e h (λ p read.
    let are = parts_is d k t g p read in
    (cc (are.domain, are.serial, are.tag, are.group), are.numbers))
leave_is ws e h = absurd cc

cast_is : (how : CastKind) (ws : List (List ℕ)) (e : Event) → cast_words how ws ≡ Ok e → SpellsEvent (cast_text how ∷ ws) e
unfolding cast_words
cast_is how (d ∷ k ∷ t ∷ g ∷ x ∷ []) e h =
    let p = bind_ok (request_parts d k t g) _ e h in
    let are = parts_is d k t g p.0 p.1 in
    made_ok (bytes_of x) (λ bytes. request_event p.0 (request.Cast p.0.tag p.0.group how bytes))
    (SpellsEvent (cast_text how ∷ d ∷ k ∷ t ∷ g ∷ x ∷ [])) e p.2 (λ bytes read.
    (x, cc (are.domain, are.serial, are.tag, are.group), are.numbers, bytes_is x bytes read))
cast_is how ws e h = absurd cc

pass_is : (ws : List (List ℕ)) (e : Event) → pass_words ws ≡ Ok e → SpellsEvent (codes "pass" ∷ ws) e
unfolding pass_words
pass_is (d ∷ k ∷ t ∷ g ∷ x ∷ []) e h =
    let p = bind_ok (request_parts d k t g) _ e h in
    let are = parts_is d k t g p.0 p.1 in
    made_ok (proc_of x) (λ to. request_event p.0 (request.Pass p.0.tag p.0.group to)) (SpellsEvent (codes "pass" ∷ d ∷ k ∷ t ∷ g ∷ x ∷ []))
    e p.2 (λ to read.
    let is = proc_is x to read in
    (cc (are.domain, are.serial, are.tag, are.group, is.0), are.numbers, is.1))
pass_is ws e h = absurd cc

bad_is : (ws : List (List ℕ)) (e : Event) → bad_words ws ≡ Ok e → SpellsEvent (codes "bad" ∷ ws) e
unfolding bad_words
bad_is (w ∷ k ∷ []) e h =
    let d = bind_ok (domain_of w) _ e h in
    let is = domain_is w d.0 d.1 in
    made_ok (number_within 0 4294967295 k) (λ n. event.Command d.0 n command.Bad) (SpellsEvent (codes "bad" ∷ w ∷ k ∷ [])) e d.2 (λ n read.
    let serial = limited_is 0 4294967295 k n read in
    (cc (is.0, serial.0), is.1, omega (arith, serial.1.1)))
bad_is ws e h = absurd cc

gone_is : (ws : List (List ℕ)) (e : Event) → gone_words ws ≡ Ok e → SpellsEvent (codes "gone" ∷ ws) e
unfolding gone_words
gone_is (w ∷ k ∷ []) e h =
    let d = bind_ok (domain_of w) _ e h in
    let is = domain_is w d.0 d.1 in
    made_ok (number_within 0 4294967295 k) (λ n. event.Gone d.0 n) (SpellsEvent (codes "gone" ∷ w ∷ k ∷ [])) e d.2 (λ n read.
    let serial = limited_is 0 4294967295 k n read in
    (cc (is.0, serial.0), is.1, omega (arith, serial.1.1)))
gone_is ws e h = absurd cc

framed_is : (r : Result (DomainNo × SiteNo × SiteFrame) FrameFault) (e : Event) → frame_event r ≡ Ok e
    → (x : DomainNo × SiteNo × SiteFrame) × (r ≡ Ok x) × (event.Frame x.0 x.1 x.2 ≡ e)
framed_is (Ok x) e h = (x, refl, ok_is Reason (event.Frame x.0 x.1 x.2) e h)
framed_is (Err f) e h = absurd cc

bytes_fit : (w bytes : List ℕ) → SpellsBytes w bytes → IsBytes bytes
bytes_fit w bytes (inl dash) = rw dash.1 (λ i. omega arith)
bytes_fit w bytes (inr digits) = (decode_of-ok w bytes digits.1).3

frame_is : (ws : List (List ℕ)) (e : Event) → frame_words ws ≡ Ok e → SpellsEvent (codes "frame" ∷ ws) e
unfolding frame_words
frame_is (w ∷ []) e h =
    let bytes = bind_ok (bytes_of w) _ e h in
    let frame = framed_is (site_frame_of bytes.0) e bytes.2 in
    let spells = bytes_is w bytes.0 bytes.1 in
    let spelled = found bytes.0 frame.0 (bytes_fit w bytes.0 spells) frame.1 in
    subst (SpellsEvent (codes "frame" ∷ w ∷ [])) frame.2 (w, refl, subst (SpellsBytes w) spelled.1 spells, spelled.0)
frame_is ws e h = absurd cc

suspect_is : (ws : List (List ℕ)) (e : Event) → suspect_words ws ≡ Ok e → SpellsEvent (codes "suspect" ∷ ws) e
unfolding suspect_words
suspect_is (w ∷ v ∷ []) e h =
    let d = bind_ok (domain_of w) _ e h in
    let is = domain_is w d.0 d.1 in
    made_ok (site_of v) (λ s. event.Suspect d.0 s) (SpellsEvent (codes "suspect" ∷ w ∷ v ∷ [])) e d.2 (λ s read.
    let site = site_is v s read in
    (cc (is.0, site.0), is.1, site.1))
suspect_is ws e h = absurd cc

quota_is : (ws : List (List ℕ)) (e : Event) → quota_event_words ws ≡ Ok e → SpellsEvent (codes "quota" ∷ ws) e
unfolding quota_event_words
quota_is (w ∷ v ∷ n ∷ []) e h =
    let d = bind_ok (domain_of w) _ e h in
    let name = bind_ok (quota_name_of v) _ e d.2 in
    let is = domain_is w d.0 d.1 in
    let named = quota_name_is v name.0 name.1 in
    made_ok (number_within 0 4294967295 n) (λ m. event.Quota d.0 name.0 m) (SpellsEvent (codes "quota" ∷ w ∷ v ∷ n ∷ []))
    e name.2 (λ m read.
    let value = limited_is 0 4294967295 n m read in
    (cc (is.0, named, value.0), is.1, omega (arith, value.1.1)))
quota_is ws e h = absurd cc

take_is : (ws : List (List ℕ)) (e : Event) → take_words ws ≡ Ok e → SpellsEvent (codes "take" ∷ ws) e
unfolding take_words
take_is (w ∷ k ∷ n ∷ []) e h =
    let d = bind_ok (domain_of w) _ e h in
    let serial = bind_ok (number_within 0 4294967295 k) _ e d.2 in
    let is = domain_is w d.0 d.1 in
    let one = limited_is 0 4294967295 k serial.0 serial.1 in
    made_ok (number_within 0 4294967295 n) (λ m. event.Take d.0 serial.0 m) (SpellsEvent (codes "take" ∷ w ∷ k ∷ n ∷ []))
    e serial.2 (λ m read.
    let most = limited_is 0 4294967295 n m read in
    (cc (is.0, one.0, most.0), is.1, omega (arith, one.1.1), omega (arith, most.1.1)))
take_is ws e h = absurd cc

tick_is : (ws : List (List ℕ)) (e : Event) → tick_words ws ≡ Ok e → SpellsEvent (codes "tick" ∷ ws) e
unfolding tick_words
tick_is (w ∷ []) e h =
    made_ok (number_of w) (λ n. event.Tick n) (SpellsEvent (codes "tick" ∷ w ∷ [])) e h (λ n read.
    let is = number_is w n read in
    (ap (λ x. codes "tick" ∷ x ∷ []) is.0, is.1))
tick_is ws e h = absurd cc

event_behind_is : (h : Head) (ws : List (List ℕ)) (e : Event) → event_behind h ws ≡ Ok e → SpellsEvent (head_text h ∷ ws) e
unfolding event_behind
event_behind_is Site ws e h = absurd cc
event_behind_is Domain ws e h = absurd cc
event_behind_is Open ws e h = open_is ws e h
event_behind_is Join ws e h = join_is ws e h
event_behind_is Leave ws e h = leave_is ws e h
event_behind_is Cast ws e h = cast_is kind.Causal ws e h
event_behind_is Abcast ws e h = cast_is kind.Atomic ws e h
event_behind_is Pass ws e h = pass_is ws e h
event_behind_is Bad ws e h = bad_is ws e h
event_behind_is Gone ws e h = gone_is ws e h
event_behind_is Frame ws e h = frame_is ws e h
event_behind_is Suspect ws e h = suspect_is ws e h
event_behind_is Quota ws e h = quota_is ws e h
event_behind_is Take ws e h = take_is ws e h
event_behind_is Tick ws e h = tick_is ws e h

pub event_line_is : (ws : List (List ℕ)) (e : Event) → behind_first event_behind ws ≡ Ok e → SpellsEvent ws e
unfolding behind_first
event_line_is [] e h = absurd cc
event_line_is (first ∷ ws) e h =
    let head = bind_ok (head_of first) _ e h in
    subst (λ w. SpellsEvent (w ∷ ws) e) (sym (head_is first head.0 head.1)) (event_behind_is head.0 ws e head.2)

request_again : (d : DomainNo) (k : ℕ) (ws : List (List ℕ)) (r : Request) → SpellsEvent ws (event.Command d k (command.Request r))
    → behind_first event_behind ws ≡ Ok (event.Command d k (command.Request r))
unfolding behind_first event_behind join_words leave_words cast_words pass_words
request_again d k ws (request.Join t g) (words, are) = rw (words, head_again Join, parts_again d k t g are) refl
request_again d k ws (request.Leave t g) (words, are) = rw (words, head_again Leave, parts_again d k t g are) refl
request_again d k ws (request.Cast t g kind.Causal bytes) (hex, words, are, spells) =
    rw (words, head_again Cast, parts_again d k t g are, bytes_again hex bytes spells) refl
request_again d k ws (request.Cast t g kind.Atomic bytes) (hex, words, are, spells) =
    rw (words, head_again Abcast, parts_again d k t g are, bytes_again hex bytes spells) refl
request_again d k ws (request.Pass t g to) (words, are, is) =
    rw (words, head_again Pass, parts_again d k t g are, proc_again to is) refl

pub event_line_again : (ws : List (List ℕ)) (e : Event) → SpellsEvent ws e → behind_first event_behind ws ≡ Ok e
unfolding behind_first event_behind open_words bad_words gone_words frame_words suspect_words quota_event_words take_words tick_words
event_line_again ws (event.Open d) (words, is) = rw (words, head_again Open, domain_again d is) refl
event_line_again ws (event.Command d k (command.Request r)) spells = request_again d k ws r spells
event_line_again ws (event.Command d k command.Bad) (words, is, small) =
    rw (words, head_again Bad, domain_again d is, limited_again 0 4294967295 k (omega arith, omega (arith, small)) (omega arith)) refl
event_line_again ws (event.Gone d k) (words, is, small) =
    rw (words, head_again Gone, domain_again d is, limited_again 0 4294967295 k (omega arith, omega (arith, small)) (omega arith)) refl
event_line_again ws (event.Frame d s f) (hex, words, spells, is) =
    rw (words, head_again Frame, bytes_again hex (spelled_site d s f) spells, frame_again d s f is) refl
event_line_again ws (event.Suspect d s) (words, is, named) = rw (words, head_again Suspect, domain_again d is, site_again s named) refl
event_line_again ws (event.Quota d name n) (words, is, small) =
    rw (
      words,
      head_again Quota,
      domain_again d is,
      quota_name_again name,
      limited_again 0 4294967295 n (omega arith, omega (arith, small)) (omega arith),
    ) refl
event_line_again ws (event.Take d k n) (words, is, serial, most) =
    rw (
      words,
      head_again Take,
      domain_again d is,
      limited_again 0 4294967295 k (omega arith, omega (arith, serial)) (omega arith),
      limited_again 0 4294967295 n (omega arith, omega (arith, most)) (omega arith),
    ) refl
event_line_again ws (event.Tick n) (words, small) = rw (words, head_again Tick, number_again n small) refl

-- ---- a line behind the `site` line and these domains

-- what is known of it
abbrev pub IsNext : SiteNo → List DomainConfig → List (List ℕ) → DomainOrEvent → Type 0
IsNext own before ws (said.Domain d) = SpellsNext own before ws d × (length before < 16)
IsNext own before ws (said.Event e) = SpellsEvent ws e × (before ≢ [])

-- a line that begins with no `domain` is that of the first event
pub other_behind : (own : SiteNo) (before : List DomainConfig) (h : Head) (ws : List (List ℕ)) → h ≢ Domain
    → domain_or_event_behind own before h ws ≡ (first_event before h ws >>= λ e. Ok (said.Event e))
unfolding domain_or_event_behind
other_behind own before Domain ws other = absurd (other refl)
other_behind own before h ws other = refl

first_event_is : (before : List DomainConfig) (h : Head) (ws : List (List ℕ)) (e : Event) → first_event before h ws ≡ Ok e
    → SpellsEvent (head_text h ∷ ws) e × (before ≢ [])
unfolding first_event
first_event_is [] h ws e read = absurd cc
first_event_is (d ∷ ds) h ws e read = (event_behind_is h ws e read, λ none. cc)

first_is : (own : SiteNo) (before : List DomainConfig) (h : Head) (ws : List (List ℕ)) (x : DomainOrEvent) → h ≢ Domain
    → domain_or_event_behind own before h ws ≡ Ok x → IsNext own before (head_text h ∷ ws) x
first_is own before h ws x other read =
    made_ok (first_event before h ws) (λ e. said.Event e) (IsNext own before (head_text h ∷ ws))
    x (sym (other_behind own before h ws other) ∙ read) (λ e is. first_event_is before h ws e is)

next_is : (own : SiteNo) (before : List DomainConfig) (h : Head) (ws : List (List ℕ)) (x : DomainOrEvent)
    → domain_or_event_behind own before h ws ≡ Ok x → IsNext own before (head_text h ∷ ws) x
unfolding domain_or_event_behind
next_is own before Domain ws x read =
    made_ok (next_domain own before ws) (λ d. said.Domain d) (IsNext own before (codes "domain" ∷ ws))
    x read (λ d is. next_domain_is own before ws d is)
next_is own before h ws x read = first_is own before h ws x (λ same. cc) read

pub domain_or_event_is : (own : SiteNo) (before : List DomainConfig) (ws : List (List ℕ)) (x : DomainOrEvent)
    → behind_first (domain_or_event_behind own before) ws ≡ Ok x → IsNext own before ws x
unfolding behind_first
domain_or_event_is own before [] x read = absurd cc
domain_or_event_is own before (first ∷ ws) x read =
    let head = bind_ok (head_of first) _ x read in
    subst (λ w. IsNext own before (w ∷ ws) x) (sym (head_is first head.0 head.1)) (next_is own before head.0 ws x head.2)

-- a line that spells an event is the first behind domains, of which there is one
not_domain : (h : Head) (ws : List (List ℕ)) (e : Event) → event_behind h ws ≡ Ok e → h ≢ Domain
unfolding event_behind
not_domain Domain ws e read = absurd cc
not_domain h ws e read = λ same. cc

first_again : (own : SiteNo) (d : DomainConfig) (before : List DomainConfig) (h : Head) (ws : List (List ℕ)) (e : Event)
    → event_behind h ws ≡ Ok e → domain_or_event_behind own (d ∷ before) h ws ≡ Ok (said.Event e)
unfolding first_event
first_again own d before h ws e read = other_behind own (d ∷ before) h ws (not_domain h ws e read) ∙ rw read refl

first_behind : (own : SiteNo) (d : DomainConfig) (before : List DomainConfig) (ws : List (List ℕ)) (e : Event)
    → behind_first event_behind ws ≡ Ok e → behind_first (domain_or_event_behind own (d ∷ before)) ws ≡ Ok (said.Event e)
unfolding behind_first
first_behind own d before [] e read = absurd cc
first_behind own d before (first ∷ ws) e read =
    let head = bind_ok (head_of first) _ e read in
    rw head.1 (first_again own d before head.0 ws e head.2)

pub event_again_behind : (own : SiteNo) (d : DomainConfig) (before : List DomainConfig) (ws : List (List ℕ)) (e : Event) → SpellsEvent ws e
    → behind_first (domain_or_event_behind own (d ∷ before)) ws ≡ Ok (said.Event e)
event_again_behind own d before ws e spells = first_behind own d before ws e (event_line_again ws e spells)
