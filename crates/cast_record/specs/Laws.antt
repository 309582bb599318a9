-- What is proved of parts of records, in other words.
use Rattle.std.specs.Prelude.{◌≡◌, ◌≢◌, ◌<◌, ◌≤◌, ◌⊎◌, ℕ, ◌^◌, Bool, true, false, List, []}
use Rattle.std.specs.Prelude.{if◌then◌else◌, not, ◌&&◌, ◌||◌, map, Option, Some, None}
use Rattle.std.specs.List.{AllZip}
use Rattle.cast_types.specs.declared.names.DomainNo.{DomainNo}
use Rattle.cast_record.specs.declared.joined.Part.{Part}
use Rattle.cast_record.specs.Lines.{is_comment, is_for, is_for_all, is_head}
use Rattle.cast_record.specs.Parts.{Line, events_in, has_gap, is_over, is_taken, part_of}

-- a part shows each line as it is, or an empty one
abbrev pub IsShown : List ℕ → Line → Type 0
IsShown text l = (text ≡ l.text) ⊎ (text ≡ [])

abbrev pub EachLineIsShown : Type 0
EachLineIsShown = (part : Part) (lines : List Line) → AllZip IsShown (part_of part lines) lines

-- a line that says something to a replay: of the configuration, those of the first file
abbrev pub is_replayed : Line → Bool
is_replayed l = not (is_comment l.text) && (not (is_head l.text) || l.is_first)

-- of a record that lacks nothing, a part of all domains with room for all events shows all lines
abbrev pub WholeIsAll : Type 0
WholeIsAll =
    (until : ℕ) (lines : List Line) → has_gap lines ≡ false → events_in lines ≤ until
    → part_of (record { until = until; domain = None }) lines
    ≡ map (λ l. if is_replayed l then l.text else []) lines

-- what a part of fewer events takes, one of more takes too
abbrev pub MoreTakesAll : Type 0
MoreTakesAll =
    (few more : ℕ) (domain : Option DomainNo) (before : List Line) (l : Line) → few ≤ more
    → is_taken (record { until = few; domain = domain }) before l ≡ true
    → is_taken (record { until = more; domain = domain }) before l ≡ true

-- what a part of one domain takes is for that domain, and a part of all domains takes it too
abbrev pub OneOfAll : Type 0
OneOfAll =
    (until : ℕ) (d : DomainNo) (before : List Line) (l : Line)
    → is_taken (record { until = until; domain = Some d }) before l
    ≡ (is_taken (record { until = until; domain = None }) before l && is_for d l.text)

-- a line that parts of two domains take is for all domains
abbrev pub DomainsAreApart : Type 0
DomainsAreApart =
    (until : ℕ) (d e : DomainNo) (before : List Line) (l : Line) → d.0 < 2 ^ 8 → e.0 < 2 ^ 8
    → d ≢ e
    → is_taken (record { until = until; domain = Some d }) before l ≡ true
    → is_taken (record { until = until; domain = Some e }) before l ≡ true
    → is_for_all l.text ≡ true

-- behind the end of a part no line is taken
abbrev pub NothingBehindTheEnd : Type 0
NothingBehindTheEnd =
    (part : Part) (before : List Line) (l : Line) → is_over part before ≡ true
    → is_taken part before l ≡ false

-- two lines say the same at their places: a line of the configuration stands in the first file or
-- not, and of any other line the file does not matter
abbrev pub SaysTheSame : Line → Line → Type 0
SaysTheSame k l = (k.text ≡ l.text) × (is_head k.text ≡ true → k.is_first ≡ l.is_first)

-- a part is the same however the lines are split over files, but for those of the configuration
abbrev pub FilesDoNotMatter : Type 0
FilesDoNotMatter =
    (part : Part) (lines others : List Line) → AllZip SaysTheSame lines others
    → part_of part lines ≡ part_of part others
