-- What is printed spells what was printed.
use Rattle.std.proofs.Common.{◌≡◌, ℕ, ◌<◌, ◌≤◌, ◌^◌, true, List, [], ◌∷◌, ◌++◌, length, map, codes}
use Rattle.std.proofs.Common.{inl, inr, refl, sym, ap, subst, ◌∙◌, append_assoc, lit≤, arith}
use Rattle.std.specs.List.{AllByRecursion, AllZip, flat_map}
use Rattle.std.specs.Fmt.{decimal}
use Rattle.std.specs.Str.{IsAscii}
use Rattle.std.proofs.lemmas.List.Concat.{flat_map-append}
use Rattle.std.proofs.lemmas.List.Elements.{All-append, All-contains, All-from_recursion}
use Rattle.std.proofs.lemmas.List.Folds.{flat_map-map}
use Rattle.std.proofs.lemmas.List.{length-map}
use Rattle.std.proofs.lemmas.Simd.{map-map}
use Rattle.hex.specs.Hex.{IsBytes, encode_lower}
use Rattle.hex.proofs.HexLemmas.{decode_of-encode_lower}
use Rattle.cast_types.specs.declared.names.DomainNo.{DomainNo}
use Rattle.cast_types.specs.declared.names.GroupNo.{GroupNo}
use Rattle.cast_types.specs.declared.names.Proc.{Proc}
use Rattle.cast_types.specs.declared.names.SiteNo.{SiteNo}
use Rattle.cast_message.specs.declared.client.CastKind.{CastKind}
use Rattle.cast_message.specs.declared.client.CastKind.TheVariants as kind
use Rattle.cast_message.specs.declared.client.Command.TheVariants as command
use Rattle.cast_message.specs.declared.client.Request.{Request}
use Rattle.cast_message.specs.declared.client.Request.TheVariants as request
use Rattle.cast_message.specs.declared.site.SiteFrame.{SiteFrame}
use Rattle.cast_quota.specs.declared.quotas.QuotaName.{QuotaName}
use Rattle.cast_quota.specs.declared.quotas.QuotaName.TheVariants as name
use Rattle.cast_quota.specs.declared.quotas.Quotas.{Quotas}
use Rattle.cast_frame.specs.Spelling.{spelled_site}
use Rattle.cast_events.specs.declared.config.Config.{Config}
use Rattle.cast_events.specs.declared.config.DomainConfig.{DomainConfig}
use Rattle.cast_events.specs.declared.event.Event.{Event}
use Rattle.cast_events.specs.declared.event.Event.TheVariants as event
use Rattle.cast_script.specs.Words.{AreWithinLimits, IsGroup, IsProc, IsSite, SpellsBytes, SpellsGroups}
use Rattle.cast_script.specs.Words.{SpellsLists, SpellsSites, proc_text, quota_name_text, quota_texts}
use Rattle.cast_script.specs.Lines.{AreNumbers, IsDomainAt, SpellsDomain, SpellsEvent, SpellsRequest, SpellsSite, request_texts, words_of}
use Rattle.cast_script.specs.Scripts.{SpellsParts, SpellsScript, used_lines_of}
use Rattle.cast_script.specs.declared.script.Script.{Script}
use Rattle.cast_script.proofs.Spelled.{spelled_is_read}
use Rattle.cast_print.specs.Logs.{payload_text}
use Rattle.cast_print.specs.Scripts.{domain_text, domain_words, event_text, event_words, line_text}
use Rattle.cast_print.specs.Scripts.{list_texts, numbers_text, request_words, script_text, site_words}
use Rattle.cast_print.specs.Printable.{IsPrintable, IsPrintableRequest}
use Rattle.cast_print.specs.Laws.{PrintedIsRead}
use Rattle.cast_print.proofs.FrameBytes.{frame_bytes}
use Rattle.cast_print.proofs.WordBytes.{IsWord, frame_digits, hex_word, is_word_byte, number_word}
use Rattle.cast_print.proofs.WordBytes.{numbers_again, numbers_word, payload_word, plain, some_digits}
use Rattle.cast_print.proofs.Lines.{AreWords, ascii_lines, joined, lines_again, words_again}

-- ---- words

request_are : (d : DomainNo) (k t : ℕ) (g : GroupNo) (rest : List (List ℕ)) → AreNumbers d k t g → AllByRecursion IsWord rest →
    AllByRecursion IsWord (request_texts d k t g ++ rest)
request_are d k t g rest are words =
    let domain = number_word d.0 (omega (arith, are.domain.1)) in
    let serial = number_word k (omega (arith, are.serial)) in
    let tag = number_word t (omega (arith, are.tag)) in
    let group = number_word g.0 (omega (arith, are.group.1)) in
    (domain, (serial, (tag, (group, words))))

proc_word : (p : Proc) → IsProc p → IsWord (proc_text p)
proc_word p is =
    All-append (λ b. is_word_byte b ≡ true) (decimal p.site.0) _ (number_word p.site.0 (omega (arith, is.0.1)))
    (All-append (λ b. is_word_byte b ≡ true) (codes ".") (decimal p.serial) (plain (codes ".") refl)
    (number_word p.serial (omega (arith, is.1.1))))

quota_word : (q : QuotaName) → IsWord (quota_name_text q)
quota_word name.Sessions = plain (codes "sessions") refl
quota_word name.Held = plain (codes "held") refl
quota_word name.Outbox = plain (codes "outbox") refl
quota_word name.Resend = plain (codes "resend") refl

payload_spells : (bytes : List ℕ) → IsBytes bytes → SpellsBytes (payload_text bytes) bytes
payload_spells [] are = inl (refl, refl)
payload_spells (b ∷ bytes) are = inr (some_digits b bytes, decode_of-encode_lower (b ∷ bytes) are)

-- ---- events

-- the words of a line, and that they spell
record Printed (ws : List (List ℕ)) (Spells : List (List ℕ) → Type 0) : Type 0 where
  words : AreWords ws
  spell : Spells ws

cast_line : (d : DomainNo) (k t : ℕ) (g : GroupNo) (how : CastKind) (payload : List ℕ) → AreNumbers d k t g → IsBytes payload →
    AreWords (request_words d k (request.Cast t g how payload))
cast_line d k t g kind.Causal payload are bytes = (
  lit≤ tt,
  (plain (codes "cast") refl, request_are d k t g (payload_text payload ∷ []) are (payload_word payload bytes, tt)),
)
cast_line d k t g kind.Atomic payload are bytes = (
  lit≤ tt,
  (plain (codes "abcast") refl, request_are d k t g (payload_text payload ∷ []) are (payload_word payload bytes, tt)),
)

request_line : (d : DomainNo) (k : ℕ) (r : Request) → IsPrintableRequest d k r →
    Printed (request_words d k r) (λ ws. SpellsRequest d k ws r)
request_line d k (request.Join t g) are = record {
  words = (lit≤ tt, (plain (codes "join") refl, request_are d k t g [] are tt));
  spell = (refl, are);
}
request_line d k (request.Leave t g) are = record {
  words = (lit≤ tt, (plain (codes "leave") refl, request_are d k t g [] are tt));
  spell = (refl, are);
}
request_line d k (request.Cast t g how payload) are = record {
  words = cast_line d k t g how payload are.0 are.1;
  spell = (payload_text payload, refl, are.0, payload_spells payload are.1);
}
request_line d k (request.Pass t g to) are = record {
  words = (lit≤ tt, (plain (codes "pass") refl, request_are d k t g (proc_text to ∷ []) are.0 (proc_word to are.1, tt)));
  spell = (refl, are.0, are.1);
}

frame_line : (d : DomainNo) (s : SiteNo) (f : SiteFrame) → IsPrintable (event.Frame d s f) →
    Printed (event_words (event.Frame d s f)) (λ ws. SpellsEvent ws (event.Frame d s f))
frame_line d s f is =
    let bytes = frame_bytes d s f is.0 is.1 in
    record {
      words = (lit≤ tt, (plain (codes "frame") refl, (hex_word (spelled_site d s f) bytes, tt)));
      spell = (encode_lower (spelled_site d s f), refl, inr (frame_digits d s f, decode_of-encode_lower (spelled_site d s f) bytes), is.0);
    }

event_line : (e : Event) → IsPrintable e → Printed (event_words e) (λ ws. SpellsEvent ws e)
event_line (event.Open d) is = record {
  words = (lit≤ tt, (plain (codes "open") refl, (number_word d.0 (omega (arith, is.1)), tt)));
  spell = (refl, is);
}
event_line (event.Command d k (command.Request r)) is = request_line d k r is
event_line (event.Command d k command.Bad) is = record {
  words = (lit≤ tt, (plain (codes "bad") refl, (number_word d.0 (omega (arith, is.0.1)), (number_word k (omega (arith, is.1)), tt))));
  spell = (refl, is.0, is.1);
}
event_line (event.Gone d k) is = record {
  words = (lit≤ tt, (plain (codes "gone") refl, (number_word d.0 (omega (arith, is.0.1)), (number_word k (omega (arith, is.1)), tt))));
  spell = (refl, is.0, is.1);
}
event_line (event.Frame d s f) is = frame_line d s f is
event_line (event.Suspect d s) is = record {
  words = (
    lit≤ tt,
    (plain (codes "suspect") refl, (number_word d.0 (omega (arith, is.0.1)), (number_word s.0 (omega (arith, is.1.1)), tt))),
  );
  spell = (refl, is.0, is.1);
}
event_line (event.Quota d q n) is = record {
  words = (
    lit≤ tt,
    (plain (codes "quota") refl, (number_word d.0 (omega (arith, is.0.1)), (quota_word q, (number_word n (omega (arith, is.1)), tt)))),
  );
  spell = (refl, is.0, is.1);
}
event_line (event.Take d k n) is = record {
  words = (
    lit≤ tt,
    (
      plain (codes "take") refl,
      (number_word d.0 (omega (arith, is.0.1)), (number_word k (omega (arith, is.1)), (number_word n (omega (arith, is.2)), tt))),
    ),
  );
  spell = (refl, is.0, is.1, is.2);
}
event_line (event.Tick n) is = record {
  words = (lit≤ tt, (plain (codes "tick") refl, (number_word n is, tt)));
  spell = (refl, is);
}

-- ---- domains

sites_small : (sites : List SiteNo) → AllByRecursion IsSite sites → AllByRecursion (λ n. n < 2 ^ 64) (map (λ s. s.0) sites)
sites_small [] are = tt
sites_small (s ∷ sites) are = (omega (arith, are.0.1), sites_small sites are.1)

groups_small : (groups : List GroupNo) → AllByRecursion IsGroup groups → AllByRecursion (λ n. n < 2 ^ 64) (map (λ g. g.0) groups)
groups_small [] are = tt
groups_small (g ∷ groups) are = (omega (arith, are.0.1), groups_small groups are.1)

sites_spelled : (sites : List SiteNo) → 1 ≤ length sites → AllByRecursion IsSite sites →
    SpellsSites (numbers_text (map (λ s. s.0) sites)) sites
sites_spelled sites some are =
    numbers_again (map (λ s. s.0) sites) (omega (arith, length-map {A = SiteNo} {B = ℕ})) (sites_small sites are)
    ∙ map-map decimal (λ (s : SiteNo). s.0) sites

groups_spelled : (groups : List GroupNo) → 1 ≤ length groups → AllByRecursion IsGroup groups →
    SpellsGroups (numbers_text (map (λ g. g.0) groups)) groups
groups_spelled groups some are =
    numbers_again (map (λ g. g.0) groups) (omega (arith, length-map {A = GroupNo} {B = ℕ})) (groups_small groups are)
    ∙ map-map decimal (λ (g : GroupNo). g.0) groups

quotas_are : (q : Quotas) → AreWithinLimits q → AllByRecursion IsWord (quota_texts q)
quotas_are q within =
    let sessions = number_word q.sessions (omega (arith, within.sessions.1)) in
    let held = number_word q.held (omega (arith, within.held.1)) in
    let outbox = number_word q.outbox (omega (arith, within.outbox.1)) in
    let resend = number_word q.resend (omega (arith, within.resend.1)) in
    (plain (codes "quotas") refl, (sessions, (held, (outbox, (resend, tt)))))

home_site : (own : SiteNo) (d : DomainConfig) → IsDomainAt own d → IsSite d.home
home_site own d at = All-contains IsSite d.sites d.home (All-from_recursion IsSite d.sites at.are_sites) at.has_home

domain_line : (own : SiteNo) (d : DomainConfig) → IsDomainAt own d → Printed (domain_words d) (λ ws. SpellsDomain own ws d)
domain_line own d at =
    let domain = number_word d.domain.0 (omega (arith, at.numbered.1)) in
    let home = number_word d.home.0 (omega (arith, (home_site own d at).1)) in
    let sites = numbers_word (map (λ s. s.0) d.sites) (sites_small d.sites at.are_sites) in
    let groups = numbers_word (map (λ g. g.0) d.groups) (groups_small d.groups at.are_groups) in
    let some = at.has_home.1 in
    let lists : SpellsLists (list_texts d.sites d.groups) d.sites d.groups = (
      numbers_text (map (λ s. s.0) d.sites),
      numbers_text (map (λ g. g.0) d.groups),
      refl,
      sites_spelled d.sites (omega (arith, some)) at.are_sites,
      groups_spelled d.groups at.few_groups.0 at.are_groups,
    ) in
    record {
      words = (
        lit≤ tt,
        (
          plain (codes "domain") refl,
          (
            domain,
            (
              plain (codes "home") refl,
              (home, (plain (codes "sites") refl, (sites, (plain (codes "groups") refl, (groups, quotas_are d.quotas at.within))))),
            ),
          ),
        ),
      );
      spell = (list_texts d.sites d.groups, refl, lists, at);
    }

-- ---- scripts

-- the words of each line
abbrev all_words : Config → List Event → List (List (List ℕ))
all_words config events = site_words config.site ∷ (map domain_words config.domains ++ map event_words events)

text_is : (config : Config) (events : List Event) → script_text config events ≡ flat_map line_text (all_words config events)
text_is config events =
    let domains = flat_map-map line_text domain_words config.domains in
    let after = flat_map-map line_text event_words events in
    append_assoc (line_text (site_words config.site)) (flat_map domain_text config.domains) (flat_map event_text events)
    ∙ ap (λ rest. line_text (site_words config.site) ++ rest)
    (sym (flat_map-append line_text (map domain_words config.domains) (map event_words events) ∙ cc))

events_lines : (events : List Event) → AllByRecursion IsPrintable events → AllByRecursion AreWords (map event_words events)
events_lines [] are = tt
events_lines (e ∷ events) are = ((event_line e are.0).words, events_lines events are.1)

parts_lines : (own : SiteNo) (ds : List DomainConfig) (events : List Event) → AllByRecursion (IsDomainAt own) ds →
    AllByRecursion IsPrintable events → AllByRecursion AreWords (map domain_words ds ++ map event_words events)
parts_lines own [] events at are = events_lines events are
parts_lines own (d ∷ ds) events at are = ((domain_line own d at.0).words, parts_lines own ds events at.1 are)

-- a line of words that spell, spells
line_spells : (ws : List (List ℕ)) (Spells : List (List ℕ) → Type 0) → Printed ws Spells → Spells (words_of (joined ws))
line_spells ws Spells printed = subst Spells (sym (words_again ws printed.words)) printed.spell

events_spell : (events : List Event) → AllByRecursion IsPrintable events →
    AllZip (λ line e. SpellsEvent (words_of line) e) (map joined (map event_words events)) events
events_spell [] are = tt
events_spell (e ∷ events) are = (line_spells (event_words e) (λ ws. SpellsEvent ws e) (event_line e are.0), events_spell events are.1)

parts_spell : (own : SiteNo) (ds : List DomainConfig) (events : List Event) → AllByRecursion (IsDomainAt own) ds →
    AllByRecursion IsPrintable events → SpellsParts own (map joined (map domain_words ds ++ map event_words events)) ds events
parts_spell own [] events at are = events_spell events are
parts_spell own (d ∷ ds) events at are = (
  line_spells (domain_words d) (λ ws. SpellsDomain own ws d) (domain_line own d at.0),
  parts_spell own ds events at.1 are,
)

-- the own site is a site of each domain
own_site : (own : SiteNo) (ds : List DomainConfig) → 1 ≤ length ds → AllByRecursion (IsDomainAt own) ds → IsSite own
own_site own [] some at = absurd (omega arith)
own_site own (d ∷ ds) some at = All-contains IsSite d.sites own (All-from_recursion IsSite d.sites at.0.are_sites) at.0.has_own

site_line : (s : SiteNo) → IsSite s → Printed (site_words s) (λ ws. SpellsSite ws s)
site_line s is = record {
  words = (lit≤ tt, (plain (codes "site") refl, (number_word s.0 (omega (arith, is.1)), tt)));
  spell = (refl, is);
}

pub printed_is_read : PrintedIsRead
printed_is_read config events has are =
    let first = site_line config.site (own_site config.site config.domains has.counted.0 has.within) in
    let lines : AllByRecursion AreWords (all_words config events) =
    (first.words, parts_lines config.site config.domains events has.within are) in
    let used : used_lines_of (script_text config events) ≡ map joined (all_words config events) =
    ap used_lines_of (text_is config events) ∙ lines_again (all_words config events) lines in
    let script : Script = record { config = config; events = events } in
    let spells : SpellsScript (map joined (all_words config events)) script = (
      line_spells (site_words config.site) (λ ws. SpellsSite ws config.site) first,
      parts_spell config.site config.domains events has.within are,
      has.counted,
      has.distinct,
    ) in (
      subst IsAscii (sym (text_is config events)) (ascii_lines (all_words config events) lines),
      spelled_is_read (script_text config events) script (subst (λ ls. SpellsScript ls script) (sym used) spells),
    )
