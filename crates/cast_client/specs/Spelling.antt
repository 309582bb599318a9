-- The one spelling of each frame between a program and its daemon.
-- All numbers have their high byte first.
use Rattle.std.specs.Prelude.{ℕ, ◌+◌, List, ◌++◌, length}
use Rattle.cast_types.specs.Refusals.{refusal_code}
use Rattle.cast_message.specs.declared.client.CastKind.{CastKind}
use Rattle.cast_message.specs.declared.client.CastKind.TheVariants.{Causal, Atomic}
use Rattle.cast_message.specs.declared.client.Request.{Request}
use Rattle.cast_message.specs.declared.client.Request.TheVariants.{Join, Leave, Cast, Pass}
use Rattle.cast_message.specs.declared.client.Push.{Push}
use Rattle.cast_message.specs.declared.client.Push.TheVariants.{Opened, Reply, View, Deliver}
use Rattle.cast_message.specs.declared.client.Push.TheVariants.{Ejected, Denied, Closed}
use Rattle.cast_message.specs.declared.client.ClientFrame.{ClientFrame}
use Rattle.cast_message.specs.declared.client.ClientFrame.TheVariants as client
use Rattle.cast_message.specs.Replies.{reply_code}
use Rattle.cast_field.specs.Spelling.{byte, short, word, spelled_proc, spelled_uid, spelled_members}

abbrev pub cast_code : CastKind → ℕ
cast_code Causal = 1
cast_code Atomic = 2

abbrev pub request_code : Request → ℕ
request_code (Join tag g) = 1
request_code (Leave tag g) = 2
request_code (Cast tag g kind payload) = 3
request_code (Pass tag g to) = 4

abbrev pub push_code : Push → ℕ
push_code (Opened p) = 65
push_code (Reply tag refusal) = 66
push_code (View g view members) = 67
push_code (Deliver id kind payload) = 68
push_code (Ejected g view) = 69
push_code (Denied g refusal) = 70
push_code (Closed refusal) = 71

abbrev pub client_code : ClientFrame → ℕ
client_code (client.Request r) = request_code r
client_code (client.Push p) = push_code p

-- a payload stands last, and ends with the frame
unfoldable pub spelled_request : Request → List ℕ
spelled_request (Join tag g) = word tag ++ short g.0
spelled_request (Leave tag g) = word tag ++ short g.0
spelled_request (Cast tag g kind payload) =
    word tag ++ (short g.0 ++ (byte (cast_code kind) ++ payload))
spelled_request (Pass tag g to) = word tag ++ (short g.0 ++ spelled_proc to)

unfoldable pub spelled_push : Push → List ℕ
spelled_push (Opened p) = spelled_proc p
spelled_push (Reply tag refusal) = word tag ++ byte (reply_code refusal)
spelled_push (View g view members) = short g.0 ++ (word view ++ spelled_members members)
spelled_push (Deliver id kind payload) = spelled_uid id ++ (byte (cast_code kind) ++ payload)
spelled_push (Ejected g view) = short g.0 ++ word view
spelled_push (Denied g refusal) = short g.0 ++ byte (refusal_code refusal)
spelled_push (Closed refusal) = byte (refusal_code refusal)

abbrev pub spelled_parts : ClientFrame → List ℕ
spelled_parts (client.Request r) = spelled_request r
spelled_parts (client.Push p) = spelled_push p

-- how long the whole frame is, its type, and its parts
unfoldable pub spelled_client : ClientFrame → List ℕ
spelled_client f = word (5 + length (spelled_parts f)) ++ (byte (client_code f) ++ spelled_parts f)
