-- What is written to a program of what a Take had, and what is left of it.
use Rattle.std.specs.Prelude.{◌≡◌, ◌⊎◌, ℕ, Bool, true, false, nat_le, List, ◌++◌, drop, length}
use Rattle.std.specs.Prelude.{take, Option}
use Rattle.std.specs.List.{list_any}
use Rattle.cast_message.specs.declared.client.Push.{Push}
use Rattle.cast_message.specs.declared.client.Push.TheVariants.{Closed}
use Rattle.cast_session.specs.Known.{Adds}
use Rattle.cast_pen.specs.declared.writing.Next.{Next}
use Rattle.cast_pen.specs.declared.writing.Next.TheVariants.{GoOn, Rest, End}
use Rattle.cast_pen.specs.declared.writing.Unwritten.{Unwritten}
use Rattle.cast_pen.specs.declared.writing.Written.{Written}
use Rattle.cast_pen.specs.declared.writing.Written.TheVariants as written

-- what is left of bytes that are not all written
abbrev pub left_of : Unwritten → List ℕ
left_of u = drop u.written u.bytes.items

abbrev pub is_end : Push → Bool
is_end (Closed refusal) = true
is_end _ = false

-- whether one of them tells a program that its session ends
abbrev pub ends : List Push → Bool
ends pushes = list_any is_end pushes

-- whether they are as many as a Take asks for: then it may have left some
abbrev pub is_full : List Push → Bool
is_full pushes = nat_le 64 (length pushes)

-- the stream failed, and took at most a beginning of these bytes
abbrev pub Fails : Type 0 → Option (List ℕ) → Option (List ℕ) → List ℕ → Type 0
Fails failed old new bytes = failed × ((n : ℕ) × Adds old new (take n bytes))

-- the stream took as many of these bytes as it says
abbrev pub Gives : Type 0 → Option (List ℕ) → Option (List ℕ) → List ℕ → Written → Type 0
Gives failed old new bytes written.All = Adds old new bytes
Gives failed old new bytes (written.Part n) = Adds old new (take n bytes)
Gives failed old new bytes written.Failed = Fails failed old new bytes

-- it took all of them, or failed
abbrev pub GivesWhole : Type 0 → Option (List ℕ) → Option (List ℕ) → List ℕ → Bool → Type 0
GivesWhole failed old new bytes true = Adds old new bytes
GivesWhole failed old new bytes false = Fails failed old new bytes

-- what the stream took, and what is left, are together these bytes
pub record Leaves (old new : Option (List ℕ)) (bytes : List ℕ) (u : Unwritten) : Type 0 where
  pub out : List ℕ
  pub took : Adds old new out
  pub whole : out ++ left_of u ≡ bytes

-- Bytes were given to a stream, and this is to be done next: all are written, and the session goes
-- on; or some are left; or all are written and the session ends, or the stream failed.
abbrev pub Puts : Type 0 → Option (List ℕ) → Option (List ℕ) → List ℕ → Bool → Bool → Next → Type 0
Puts failed old new bytes is_last is_more (GoOn more) =
    Adds old new bytes × (is_last ≡ false) × (more ≡ is_more)
Puts failed old new bytes is_last is_more (Rest u) =
    Leaves old new bytes u × (u.is_last ≡ is_last) × (u.is_more ≡ is_more)
Puts failed old new bytes is_last is_more End =
    (Adds old new bytes × (is_last ≡ true)) ⊎ Fails failed old new bytes

-- what is to be done once all is written
abbrev pub next_of : Bool → Bool → Next
next_of true is_more = End
next_of false is_more = GoOn is_more
