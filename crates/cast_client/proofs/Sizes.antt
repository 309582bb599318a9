-- How many bytes the frames between a program and its daemon have.
use Rattle.std.proofs.Common.{◌≡◌, ℕ, ◌+◌, ◌*◌, ◌≤◌, List, ◌++◌, length, Option, Some, None, refl, ◌∙◌, arith}
use Rattle.std.specs.Prelude.{if◌then◌else◌}
use Rattle.std.specs.Option.{is_some}
use Rattle.std.proofs.lemmas.List.{length-append}
use Rattle.cast_types.specs.declared.names.Proc.{Proc}
use Rattle.cast_types.specs.Refusals.{refusal_code}
use Rattle.cast_message.specs.declared.client.Request.{Request}
use Rattle.cast_message.specs.declared.client.Request.TheVariants.{Join, Leave, Cast, Pass}
use Rattle.cast_message.specs.declared.client.Push.{Push}
use Rattle.cast_message.specs.declared.client.Push.TheVariants.{Opened, Reply, View, Deliver, Ejected, Denied, Closed}
use Rattle.cast_message.specs.declared.client.ClientFrame.{ClientFrame}
use Rattle.cast_message.specs.declared.client.ClientFrame.TheVariants as client
use Rattle.cast_message.specs.Membership.{Membership}
use Rattle.cast_field.specs.Spelling.{byte, word, spelled_holder, spelled_members}
use Rattle.cast_message.specs.Replies.{reply_code}
use Rattle.cast_client.specs.Spelling.{cast_code, client_code, spelled_request, spelled_push, spelled_parts, spelled_client}
use Rattle.cast_client.specs.Spelled.{IsClient}
use Rattle.cast_field.proofs.Sizes.{byte_size, short_size, word_size, proc_size, procs_size, uid_size, members_size}

holder_len : (ps : List Proc) (h : Option Proc) → length (spelled_holder ps h) ≡ (if is_some h then 1 else 0)
unfolding spelled_holder byte
holder_len ps None = refl
holder_len ps (Some p) = refl

pub members_len : (m : Membership) → length (spelled_members m) ≡ 1 + 6 * length m.list + (if is_some m.holder then 1 else 0)
unfolding spelled_members
members_len m = simp length-append (omega (arith, byte_size (length m.list), procs_size m.list, holder_len m.list m.holder))

-- how many bytes the parts of each request have
abbrev pub request_len : Request → ℕ
request_len (Join tag g) = 6
request_len (Leave tag g) = 6
request_len (Cast tag g kind payload) = 7 + length payload
request_len (Pass tag g to) = 12

pub request_size : (r : Request) → length (spelled_request r) ≡ request_len r
unfolding spelled_request
request_size (Join tag g) = simp length-append (omega (arith, word_size tag, short_size g.0))
request_size (Leave tag g) = simp length-append (omega (arith, word_size tag, short_size g.0))
request_size (Cast tag g kind payload) = simp length-append (omega (arith, word_size tag, short_size g.0, byte_size (cast_code kind)))
request_size (Pass tag g to) = simp length-append (omega (arith, word_size tag, short_size g.0, proc_size to))

-- how many bytes the parts of each push have
abbrev pub push_len : Push → ℕ
push_len (Opened p) = 6
push_len (Reply tag refusal) = 5
push_len (View g view members) = 6 + length (spelled_members members)
push_len (Deliver id kind payload) = 17 + length payload
push_len (Ejected g view) = 6
push_len (Denied g refusal) = 3
push_len (Closed refusal) = 1

pub push_size : (p : Push) → length (spelled_push p) ≡ push_len p
unfolding spelled_push
push_size (Opened p) = proc_size p
push_size (Reply tag refusal) = simp length-append (omega (arith, word_size tag, byte_size (reply_code refusal)))
push_size (View g view members) = simp length-append (omega (arith, short_size g.0, word_size view))
push_size (Deliver id kind payload) = simp length-append (omega (arith, uid_size id, byte_size (cast_code kind)))
push_size (Ejected g view) = simp length-append (omega (arith, short_size g.0, word_size view))
push_size (Denied g refusal) = simp length-append (omega (arith, short_size g.0, byte_size (refusal_code refusal)))
push_size (Closed refusal) = byte_size (refusal_code refusal)

-- ---- the frames

pub word_len : (n : ℕ) (rest : List ℕ) → length (word n ++ rest) ≡ 4 + length rest
word_len n rest = length-append (word n) rest ∙ omega (arith, word_size n)

pub byte_len : (n : ℕ) (rest : List ℕ) → length (byte n ++ rest) ≡ 1 + length rest
byte_len n rest = length-append (byte n) rest ∙ omega (arith, byte_size n)

pub client_size : (f : ClientFrame) → length (spelled_client f) ≡ 5 + length (spelled_parts f)
unfolding spelled_client
client_size f =
    omega (
      arith,
      word_len (5 + length (spelled_parts f)) (byte (client_code f) ++ spelled_parts f),
      byte_len (client_code f) (spelled_parts f),
    )

pub parts_fit : (f : ClientFrame) → IsClient f → length (spelled_parts f) ≤ 19995
parts_fit (client.Request (Join tag g)) is = omega (arith, request_size (Join tag g))
parts_fit (client.Request (Leave tag g)) is = omega (arith, request_size (Leave tag g))
parts_fit (client.Request (Cast tag g kind payload)) is = omega (arith, request_size (Cast tag g kind payload), is.2)
parts_fit (client.Request (Pass tag g to)) is = omega (arith, request_size (Pass tag g to))
parts_fit (client.Push (Opened p)) is = omega (arith, push_size (Opened p))
parts_fit (client.Push (Reply tag refusal)) is = omega (arith, push_size (Reply tag refusal))
parts_fit (client.Push (View g view members)) is = omega (arith, push_size (View g view members), members_size members is.2)
parts_fit (client.Push (Deliver id kind payload)) is = omega (arith, push_size (Deliver id kind payload), is.1)
parts_fit (client.Push (Ejected g view)) is = omega (arith, push_size (Ejected g view))
parts_fit (client.Push (Denied g refusal)) is = omega (arith, push_size (Denied g refusal))
parts_fit (client.Push (Closed refusal)) is = omega (arith, push_size (Closed refusal))
