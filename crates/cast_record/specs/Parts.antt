-- Which lines of a record are replayed.
use Rattle.std.specs.Prelude.{◌≡◌, ℕ, ◌+◌, ◌-◌, Bool, true, not, ◌&&◌, ◌||◌, ◌==◌, nat_lt, nat_le}
use Rattle.std.specs.Prelude.{if◌then◌else◌, min, List, [], ◌∷◌, ◌++◌, length, take, map}
use Rattle.std.specs.Prelude.{Some, None}
use Rattle.std.specs.List.{list_any, count_by, slice_split}
use Rattle.cast_record.specs.declared.joined.Part.{Part}
use Rattle.cast_record.specs.declared.joined.Progress.{Progress}
use Rattle.cast_record.specs.declared.joined.Joined.{Joined}
use Rattle.cast_record.specs.Lines.{is_comment, is_gap, is_domain, is_head, is_event, is_for}

-- a line of a record: whether it stands in the first file, and its text
pub record Line : Type 0 where
  pub is_first : Bool
  pub text : List ℕ

-- events are missing somewhere in these lines
abbrev pub has_gap : List Line → Bool
has_gap lines = list_any (λ l. is_gap l.text) lines

-- how many events these lines have
abbrev pub events_in : List Line → ℕ
events_in lines = count_by (λ l. is_event l.text) lines

-- the lines before the first place where events are missing
abbrev pub before_gap : List Line → List Line
before_gap [] = []
before_gap (l ∷ lines) = if is_gap l.text then [] else l ∷ before_gap lines

-- a part is over behind these lines: events are missing, or they have more events than it has
abbrev pub is_over : Part → List Line → Bool
is_over part lines = has_gap lines || nat_lt part.until (events_in lines)

-- a part ends where events are missing: no more than it has stand before
abbrev pub reaches_gap : Part → List Line → Bool
reaches_gap part lines = has_gap lines && nat_le (events_in (before_gap lines)) part.until

-- how far a part is behind these lines
abbrev pub progress_of : Part → List Line → Progress
progress_of part lines =
    record {
      events = min part.until (events_in (before_gap lines));
      is_over = is_over part lines;
      has_gap = reaches_gap part lines;
    }

-- one line further
abbrev pub behind : ℕ → List ℕ → Progress → Progress
behind until line p =
    if p.is_over then p
    else if is_gap line then record { events = p.events; is_over = true; has_gap = true }
    else if not (is_event line) then p
    else if nat_lt p.events until
    then record { events = p.events + 1; is_over = p.is_over; has_gap = p.has_gap }
    else record { events = p.events; is_over = true; has_gap = p.has_gap }

-- a line is for one of the domains of a part
abbrev pub is_for_part : Part → List ℕ → Bool
is_for_part part line = elim part.domain [ Some d ↦ is_for d line | None ↦ true ]

-- a line has its place in a part: the configuration is that of the first file, and before an event
-- stand fewer than the part has
abbrev pub has_place : Part → ℕ → Line → Bool
has_place part events l = if is_head l.text then l.is_first else nat_lt events part.until

-- a line is of a part that is not over, where so many events stand before it
abbrev pub is_taken_behind : Part → ℕ → Line → Bool
is_taken_behind part events l =
    not (is_comment l.text) && (has_place part events l && is_for_part part l.text)

-- a line is of a part, where these lines stand before it
abbrev pub is_taken : Part → List Line → Line → Bool
is_taken part before l = not (is_over part before) && is_taken_behind part (events_in before) l

-- a line as a part shows it: an empty line stands for one that is not of the part
abbrev pub shown : Part → List Line → Line → List ℕ
shown part before l = if is_taken part before l then l.text else []

-- the same by how far the part is
abbrev pub shown_at : Part → Progress → Line → List ℕ
shown_at part p l = if not p.is_over && is_taken_behind part p.events l then l.text else []

-- lines as a part shows them, where these stand before
abbrev pub shown_behind : Part → List Line → List Line → List (List ℕ)
shown_behind part before [] = []
shown_behind part before (l ∷ lines) =
    shown part before l ∷ shown_behind part (before ++ l ∷ []) lines

-- the lines of a record as a part shows them
abbrev pub part_of : Part → List Line → List (List ℕ)
part_of part lines = shown_behind part [] lines

-- lines as a text: a line feed ends each
abbrev pub text_of : List (List ℕ) → List ℕ
text_of [] = []
text_of (line ∷ lines) = line ++ (10 ∷ text_of lines)

abbrev pub is_line_feed : ℕ → Bool
is_line_feed b = b == 10

-- all parts but the last: those that a line feed ends
abbrev pub but_last : List (List ℕ) → List (List ℕ)
but_last parts = take (length parts - 1) parts

abbrev pub line_of : Bool → List ℕ → Line
line_of is_first text = record { is_first = is_first; text = text }

-- the lines of a file; of one that is not whole, those that a line feed ends
abbrev pub lines_of_file : Bool → Bool → List ℕ → List Line
lines_of_file is_first is_whole bytes =
    map (line_of is_first)
    (if is_whole then slice_split is_line_feed bytes else but_last (slice_split is_line_feed bytes))

-- what is joined is the part of these lines of a record
pub record IsOf (joined : Joined) (lines : List Line) : Type 0 where
  pub text : joined.text.items ≡ text_of (part_of joined.part lines)
  pub has_domain : joined.has_domain ≡ list_any is_domain (part_of joined.part lines)
  pub progress : joined.progress ≡ progress_of joined.part lines
