-- What a script may say of a daemon.
use Rattle.std.specs.Prelude.{ℕ, Bool, true, false, not, ◌&&◌, ◌==◌}
use Rattle.std.specs.Prelude.{filter, List, [], ◌∷◌, length, IsTrue}
use Rattle.std.specs.List.{AllByRecursion, AllZip, list_all}
use Rattle.cast_types.specs.declared.names.SiteNo.{SiteNo}
use Rattle.cast_types.specs.Names.{group_cmp}
use Rattle.cast_types.specs.Rising.{is_rising}
use Rattle.cast_script.specs.declared.script.Script.{Script}
use Rattle.cast_events.specs.declared.config.DomainConfig.{DomainConfig}
use Rattle.cast_events.specs.declared.config.Config.{Config}
use Rattle.cast_events.specs.declared.event.Event.{Event}
use Rattle.cast_script.specs.Lines.{IsDomainAt, words_of, SpellsSite, SpellsDomain, SpellsEvent}
use Rattle.cast_script.specs.Words.{IsBetween, is_configured, parts_at}

-- no two domains have one number
abbrev pub are_distinct : List DomainConfig → Bool
are_distinct [] = true
are_distinct (c ∷ configs) = not (is_configured c.domain configs) && are_distinct configs

-- each domain names its groups in rising order
abbrev pub have_rising_groups : List DomainConfig → Bool
have_rising_groups configs = list_all (λ c. is_rising group_cmp c.groups) configs

-- a daemon of 1 to 16 such domains, whose numbers are all different
pub record HasDomains (c : Config) : Type 0 where
  pub counted : IsBetween 1 16 (length c.domains)
  pub within : AllByRecursion (IsDomainAt c.site) c.domains
  pub distinct : IsTrue (are_distinct c.domains)

-- a line that is neither empty nor a comment
abbrev pub is_used : List ℕ → Bool
is_used [] = false
is_used (c ∷ cs) = not (c == 35)

-- the lines that are neither empty nor comments
abbrev pub used_lines_of : List ℕ → List (List ℕ)
used_lines_of text = filter is_used (parts_at 10 text)

-- these lines spell domains at a site, one line for each, and then events, one line for each
abbrev pub SpellsParts : SiteNo → List (List ℕ) → List DomainConfig → List Event → Type 0
SpellsParts own lines [] events =
    AllZip (λ line event. SpellsEvent (words_of line) event) lines events
SpellsParts own [] (d ∷ ds) events = ⊥
SpellsParts own (line ∷ lines) (d ∷ ds) events =
    SpellsDomain own (words_of line) d × SpellsParts own lines ds events

-- these lines spell a script: one for its site, one for each domain, of which there are 1 to 16
-- whose numbers are all different, and one for each event
abbrev pub SpellsScript : List (List ℕ) → Script → Type 0
SpellsScript [] s = ⊥
SpellsScript (first ∷ lines) s =
    SpellsSite (words_of first) s.config.site
    × SpellsParts s.config.site lines s.config.domains s.events
    × IsBetween 1 16 (length s.config.domains)
    × IsTrue (are_distinct s.config.domains)
