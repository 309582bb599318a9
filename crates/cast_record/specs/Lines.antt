-- What a line of a record is, and which domain it is about.
use Rattle.std.specs.Prelude.{ℕ, Bool, true, false, not, ◌&&◌, ◌||◌, ◌==◌, bytes_eq}
use Rattle.std.specs.Prelude.{if◌then◌else◌, List, [], ◌∷◌, take, drop, codes, nat_le}
use Rattle.std.specs.Prelude.{Option, Some, None, Result, Ok, Err}
use Rattle.std.specs.List.{list_all, before_first, after_first}
use Rattle.std.specs.Fmt.{decimal}
use Rattle.hex.specs.Hex.{decode_sized}
use Rattle.hex.specs.declared.error.FromHexError.{FromHexError}
use Rattle.cast_types.specs.declared.names.DomainNo.{DomainNo}

-- a line is empty or a comment
abbrev pub is_comment : List ℕ → Bool
is_comment [] = true
is_comment (c ∷ cs) = c == 35

abbrev pub is_space : ℕ → Bool
is_space b = b == 32

abbrev pub first_word : List ℕ → List ℕ
first_word line = before_first is_space line

-- empty where a line has no second word
abbrev pub second_word : List ℕ → List ℕ
second_word line = first_word (after_first is_space line)

abbrev pub is_digit : ℕ → Bool
is_digit b = nat_le 48 b && nat_le b 57

-- the words behind the first are `gap N events`
abbrev pub is_gap_rest : List ℕ → Bool
is_gap_rest rest =
    bytes_eq (first_word rest) (codes "gap")
    && (list_all is_digit (second_word rest)
    && bytes_eq (after_first is_space (after_first is_space rest)) (codes "events"))

-- events are missing where a line is `# gap N events`
abbrev pub is_gap : List ℕ → Bool
is_gap line =
    bytes_eq (first_word line) (codes "#") && is_gap_rest (after_first is_space line)

-- a line configures a domain
abbrev pub is_domain : List ℕ → Bool
is_domain line = bytes_eq (first_word line) (codes "domain")

-- a line is of the configuration
abbrev pub is_head : List ℕ → Bool
is_head line = bytes_eq (first_word line) (codes "site") || is_domain line

-- a line that is neither empty, nor a comment, nor of the configuration
abbrev pub is_event : List ℕ → Bool
is_event line = not (is_comment line) && not (is_head line)

-- the one byte that digits spell
abbrev pub only_byte : Result (List ℕ) FromHexError → Option ℕ
only_byte (Ok (byte ∷ [])) = Some byte
only_byte (Ok bytes) = None
only_byte (Err fault) = None

-- the fifth byte of a frame that is spelled so: the number of its domain
abbrev pub fifth_byte : List ℕ → Option ℕ
fifth_byte hex = only_byte (decode_sized (take 2 (drop 8 hex)) 1)

abbrev pub is_some_of : DomainNo → Option ℕ → Bool
is_some_of d (Some n) = n == d.0
is_some_of d None = false

-- a line names a domain: a frame in its header, any other line by its second word
abbrev pub names : DomainNo → List ℕ → Bool
names d line =
    if bytes_eq (first_word line) (codes "frame")
    then is_some_of d (fifth_byte (second_word line))
    else bytes_eq (second_word line) (decimal d.0)

-- a line is for all domains
abbrev pub is_for_all : List ℕ → Bool
is_for_all line =
    bytes_eq (first_word line) (codes "site") || bytes_eq (first_word line) (codes "tick")

-- a line is for a domain
abbrev pub is_for : DomainNo → List ℕ → Bool
is_for d line = is_for_all line || names d line
