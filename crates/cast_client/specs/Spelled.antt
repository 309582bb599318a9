-- The frames between a program and its daemon that have a spelling.
-- Every number is in its range, and the whole frame is not too long.
use Rattle.std.specs.Prelude.{ℕ, ◌≡◌, ◌≤◌, ◌+◌, ◌-◌, ◌⊎◌, nat_lt}
use Rattle.std.specs.Prelude.{if◌then◌else◌, List, ◌++◌, length, Ok}
use Rattle.cast_message.specs.declared.client.Request.{Request}
use Rattle.cast_message.specs.declared.client.Request.TheVariants.{Join, Leave, Cast, Pass}
use Rattle.cast_message.specs.declared.client.Push.{Push}
use Rattle.cast_message.specs.declared.client.Push.TheVariants.{Opened, Reply, View, Deliver}
use Rattle.cast_message.specs.declared.client.Push.TheVariants.{Ejected, Denied, Closed}
use Rattle.cast_message.specs.declared.client.ClientFrame.{ClientFrame}
use Rattle.cast_message.specs.declared.client.ClientFrame.TheVariants as client
use Rattle.cast_client.specs.declared.front.ClientRead.{ClientRead}
use Rattle.cast_client.specs.declared.front.ClientRead.TheVariants.{Frame, More}
use Rattle.cast_client.specs.Spelling.{spelled_client}
use Rattle.cast_client.specs.Reading.{length_at}
use Rattle.cast_field.specs.Spelled.{IsFrom, IsName, IsCount, IsProc, IsUid, AreMembers}

-- any number of 32 bits
abbrev pub IsTag : ℕ → Type 0
IsTag n = IsFrom 0 4294967295 n

abbrev pub IsRequest : Request → Type 0
IsRequest (Join tag g) = IsTag tag × IsName g.0
IsRequest (Leave tag g) = IsTag tag × IsName g.0
IsRequest (Cast tag g kind payload) = IsTag tag × IsName g.0 × (length payload ≤ 19988)
IsRequest (Pass tag g to) = IsTag tag × IsName g.0 × IsProc to

abbrev pub IsPush : Push → Type 0
IsPush (Opened p) = IsProc p
IsPush (Reply tag refusal) = IsTag tag
IsPush (View g view members) = IsName g.0 × IsCount view × AreMembers members
IsPush (Deliver id kind payload) = IsUid id × (length payload ≤ 16384)
IsPush (Ejected g view) = IsName g.0 × IsCount view
IsPush (Denied g refusal) = IsName g.0
IsPush (Closed refusal) = Unit {0}

abbrev pub IsClient : ClientFrame → Type 0
IsClient (client.Request r) = IsRequest r
IsClient (client.Push p) = IsPush p

-- this frame stands at the front of the bytes, in its spelling
pub record Begins (bytes : List ℕ) (f : ClientFrame) (n : ℕ) : Type 0 where
  pub spelled : IsClient f
  pub rest : List ℕ
  pub parts : bytes ≡ spelled_client f ++ rest
  pub length_is : n ≡ length (spelled_client f)

-- no whole frame stands there yet, and n bytes are wanting: up to the end of its length, or up to
-- the length that it says
abbrev pub Wants : List ℕ → ℕ → Type 0
Wants bytes n =
    (1 ≤ n)
    × ((4 ≡ length bytes + n)
    ⊎ ((said : ℕ) × (length_at bytes ≡ Ok said) × (said ≡ length bytes + n)))

-- so many bytes the first k of a frame's spelling want: the rest of its length, and then the rest
-- of itself
abbrev pub wanting : ClientFrame → ℕ → ℕ
wanting f k = if nat_lt k 4 then 4 - k else length (spelled_client f) - k

-- what was read is what stands at the front
abbrev pub IsFront : List ℕ → ClientRead → Type 0
IsFront bytes (Frame f n) = Begins bytes f n
IsFront bytes (More n) = Wants bytes n
