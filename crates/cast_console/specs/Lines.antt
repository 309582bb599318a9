-- What a line of the console is, or its first fault.
use Rattle.std.specs.Prelude.{◌≡◌, ℕ, List, [], ◌∷◌, codes, Option, Some, None, Result, Ok, Err}
use Rattle.cast_types.specs.declared.names.DomainNo.{DomainNo}
use Rattle.cast_script.specs.Words.{parts_at}
use Rattle.cast_script.specs.WordReadings.{◌>>=◌, domain_of, named_among}
use Rattle.cast_script.specs.WordReadings.{number_within, quota_name_of, site_of}
use Rattle.cast_script.specs.declared.words.Reason.{Reason}
use Rattle.cast_script.specs.declared.words.Reason.TheVariants as reason
use Rattle.cast_console.specs.declared.line.Line.{Line}
use Rattle.cast_console.specs.declared.line.Line.TheVariants as line
use Rattle.cast_console.specs.declared.line.Head.{Head}
use Rattle.cast_console.specs.declared.line.Head.TheVariants as head
use Rattle.cast_console.specs.declared.line.LineFault.{LineFault}
use Rattle.cast_console.specs.declared.line.LineFault.TheVariants.{Empty, UnknownWord}
use Rattle.cast_console.specs.declared.line.LineFault.TheVariants.{WrongCount, BadNumber}

abbrev pub fault_number : LineFault → ℕ
fault_number Empty = 1
fault_number UnknownWord = 2
fault_number WrongCount = 3
fault_number BadNumber = 4

-- a word that is none
abbrev pub fault_of : Reason → LineFault
fault_of reason.UnknownWord = UnknownWord
fault_of reason.WrongCount = WrongCount
fault_of reason.BadNumber = BadNumber
fault_of reason.BadHex = BadNumber
fault_of reason.BadFrame = BadNumber
fault_of reason.Order = BadNumber

-- what a function answered, seen by view, is what reading gives
abbrev pub IsSeen : {X Y : Type 0} → (X → Y) → Result X LineFault → Result Y LineFault → Type 0
IsSeen view (Ok x) read = read ≡ Ok (view x)
IsSeen view (Err e) read = read ≡ Err e

-- a word, read
abbrev pub or_line_fault : {A : Type 0} → Result A Reason → Result A LineFault
or_line_fault (Ok x) = Ok x
or_line_fault (Err e) = Err (fault_of e)

-- the words of a text, parted by one space each, where there is a text
abbrev pub words_of : Option (List ℕ) → List (List ℕ)
words_of None = []
words_of (Some text) = parts_at 32 text

-- so many words

abbrev pub none_of : List (List ℕ) → Result (Unit {0}) LineFault
none_of [] = Ok tt
none_of ws = Err WrongCount

abbrev pub one_of : List (List ℕ) → Result (List ℕ) LineFault
one_of (w ∷ []) = Ok w
one_of ws = Err WrongCount

abbrev pub two_of : List (List ℕ) → Result (List ℕ × List ℕ) LineFault
two_of (v ∷ w ∷ []) = Ok (v, w)
two_of ws = Err WrongCount

abbrev pub three_of : List (List ℕ) → Result (List ℕ × List ℕ × List ℕ) LineFault
three_of (u ∷ v ∷ w ∷ []) = Ok (u, v, w)
three_of ws = Err WrongCount

-- what the first word says that the line is about
abbrev pub head_text : Head → List ℕ
head_text head.Domains = codes "domains"
head_text head.Show = codes "show"
head_text head.Groups = codes "groups"
head_text head.Suspect = codes "suspect"
head_text head.Quota = codes "quota"
head_text head.Retire = codes "retire"
head_text head.Trace = codes "trace"
head_text head.Datagrams = codes "datagrams"
head_text head.Record = codes "record"
head_text head.Keys = codes "keys"
head_text head.Stop = codes "stop"

abbrev pub heads : List Head
heads =
    head.Domains ∷ head.Show ∷ head.Groups ∷ head.Suspect ∷ head.Quota ∷ head.Retire ∷ head.Trace
    ∷ head.Datagrams ∷ head.Record ∷ head.Keys ∷ head.Stop ∷ []

unfoldable pub head_of : List ℕ → Result Head LineFault
head_of word = or_line_fault (named_among head_text heads word)

-- the words behind the first

unfoldable pub bare : Line → List (List ℕ) → Result Line LineFault
bare said ws = do
  none ← none_of ws
  Ok said

unfoldable pub of_domain : (DomainNo → Line) → List (List ℕ) → Result Line LineFault
of_domain said ws = do
  w ← one_of ws
  d ← or_line_fault (domain_of w)
  Ok (said d)

unfoldable pub suspect : List (List ℕ) → Result Line LineFault
suspect ws = do
  w ← two_of ws
  d ← or_line_fault (domain_of w.0)
  s ← or_line_fault (site_of w.1)
  Ok (line.Suspect d s)

unfoldable pub quota : List (List ℕ) → Result Line LineFault
quota ws = do
  w ← three_of ws
  d ← or_line_fault (domain_of w.0)
  n ← or_line_fault (quota_name_of w.1)
  v ← or_line_fault (number_within 0 4294967295 w.2)
  Ok (line.Quota d n v)

abbrev pub behind : Head → List (List ℕ) → Result Line LineFault
behind head.Domains ws = bare line.Domains ws
behind head.Show ws = of_domain line.Show ws
behind head.Groups ws = of_domain line.Groups ws
behind head.Suspect ws = suspect ws
behind head.Quota ws = quota ws
behind head.Retire ws = of_domain line.Retire ws
behind head.Trace ws = bare line.Trace ws
behind head.Datagrams ws = bare line.Datagrams ws
behind head.Record ws = bare line.Record ws
behind head.Keys ws = bare line.Keys ws
behind head.Stop ws = bare line.Stop ws

abbrev pub line_of_words : List (List ℕ) → Result Line LineFault
line_of_words [] = Err Empty
line_of_words (first ∷ ws) = do
  h ← head_of first
  behind h ws

-- what a line is
unfoldable pub line_of : List ℕ → Result Line LineFault
line_of [] = Err Empty
line_of (c ∷ cs) = line_of_words (parts_at 32 (c ∷ cs))
