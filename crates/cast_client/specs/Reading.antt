-- Reading a frame between a program and its daemon from the front of a stream.
-- What is read is the frame and how long it is, or how many bytes are wanting, or the first fault.
use Rattle.std.specs.Prelude.{ℕ, ◌-◌, ◌==◌, nat_lt, if◌then◌else◌, List, [], length}
use Rattle.std.specs.Prelude.{take, drop, Option, Some, None, Result, Ok, Err}
use Rattle.std.specs.Int.{w32}
use Rattle.cast_types.specs.declared.refusal.Refusal.{Refusal}
use Rattle.cast_types.specs.Refusals.{refusal_numbered}
use Rattle.cast_field.specs.declared.fault.FrameFault.{FrameFault}
use Rattle.cast_field.specs.declared.fault.FrameFault.TheVariants.{WrongType, Length, Range}
use Rattle.cast_message.specs.declared.client.CastKind.{CastKind}
use Rattle.cast_message.specs.declared.client.CastKind.TheVariants.{Causal, Atomic}
use Rattle.cast_message.specs.declared.client.Request.TheVariants.{Join, Leave, Cast, Pass}
use Rattle.cast_message.specs.declared.client.Push.TheVariants.{Opened, Reply, View, Deliver}
use Rattle.cast_message.specs.declared.client.Push.TheVariants.{Ejected, Denied, Closed}
use Rattle.cast_message.specs.declared.client.ClientFrame.{ClientFrame}
use Rattle.cast_message.specs.declared.client.ClientFrame.TheVariants as client
use Rattle.cast_client.specs.declared.front.ClientRead.{ClientRead}
use Rattle.cast_client.specs.declared.front.ClientRead.TheVariants.{Frame, More}
use Rattle.cast_field.specs.Reading.{◌>>=◌, Reader, byte_at, number_at, group_at}
use Rattle.cast_field.specs.Reading.{count_at, proc_at, uid_at, members_at}

-- any number
unfoldable pub tag_at : Reader ℕ
tag_at bytes = number_at w32 0 4294967295 bytes

abbrev pub cast_numbered : ℕ → CastKind
cast_numbered n = if n == 1 then Causal else Atomic

unfoldable pub cast_kind_at : Reader CastKind
cast_kind_at bytes = do
  n ← byte_at 1 2 bytes
  Ok (cast_numbered n.0, n.1)

-- a refusal, or 0 for none
unfoldable pub reply_at : Reader (Option Refusal)
reply_at bytes = do
  n ← byte_at 0 15 bytes
  Ok (refusal_numbered n.0, n.1)

unfoldable pub named_refusal : Option Refusal → Result Refusal FrameFault
named_refusal None = Err Range
named_refusal (Some refusal) = Ok refusal

unfoldable pub refusal_at : Reader Refusal
refusal_at bytes = do
  n ← byte_at 1 15 bytes
  refusal ← named_refusal (refusal_numbered n.0)
  Ok (refusal, n.1)

-- all bytes up to the end
unfoldable pub end_at : Reader (List ℕ)
end_at bytes = Ok (bytes, [])

-- all bytes up to the end, as many as a payload may have
unfoldable pub short_end_at : Reader (List ℕ)
short_end_at bytes = if nat_lt 16384 (length bytes) then Err Range else Ok (bytes, [])

unfoldable pub join_at : Reader ClientFrame
join_at bytes = do
  tag ← tag_at bytes
  group ← group_at tag.1
  Ok (client.Request (Join tag.0 group.0), group.1)

unfoldable pub leave_at : Reader ClientFrame
leave_at bytes = do
  tag ← tag_at bytes
  group ← group_at tag.1
  Ok (client.Request (Leave tag.0 group.0), group.1)

unfoldable pub cast_at : Reader ClientFrame
cast_at bytes = do
  tag ← tag_at bytes
  group ← group_at tag.1
  kind ← cast_kind_at group.1
  payload ← end_at kind.1
  Ok (client.Request (Cast tag.0 group.0 kind.0 payload.0), payload.1)

unfoldable pub pass_at : Reader ClientFrame
pass_at bytes = do
  tag ← tag_at bytes
  group ← group_at tag.1
  to ← proc_at group.1
  Ok (client.Request (Pass tag.0 group.0 to.0), to.1)

unfoldable pub opened_at : Reader ClientFrame
opened_at bytes = do
  proc ← proc_at bytes
  Ok (client.Push (Opened proc.0), proc.1)

unfoldable pub replied_at : Reader ClientFrame
replied_at bytes = do
  tag ← tag_at bytes
  refusal ← reply_at tag.1
  Ok (client.Push (Reply tag.0 refusal.0), refusal.1)

unfoldable pub view_at : Reader ClientFrame
view_at bytes = do
  group ← group_at bytes
  view ← count_at group.1
  members ← members_at view.1
  Ok (client.Push (View group.0 view.0 members.0), members.1)

unfoldable pub deliver_at : Reader ClientFrame
deliver_at bytes = do
  id ← uid_at bytes
  kind ← cast_kind_at id.1
  payload ← short_end_at kind.1
  Ok (client.Push (Deliver id.0 kind.0 payload.0), payload.1)

unfoldable pub ejected_at : Reader ClientFrame
ejected_at bytes = do
  group ← group_at bytes
  view ← count_at group.1
  Ok (client.Push (Ejected group.0 view.0), view.1)

unfoldable pub denied_at : Reader ClientFrame
denied_at bytes = do
  group ← group_at bytes
  refusal ← refusal_at group.1
  Ok (client.Push (Denied group.0 refusal.0), refusal.1)

unfoldable pub closed_at : Reader ClientFrame
closed_at bytes = do
  refusal ← refusal_at bytes
  Ok (client.Push (Closed refusal.0), refusal.1)

-- the type of a frame says what its parts are
unfoldable pub parts_at : ℕ → Reader ClientFrame
parts_at n bytes =
    if n == 1 then join_at bytes else if n == 2 then leave_at bytes
    else if n == 3 then cast_at bytes
    else if n == 4 then pass_at bytes
    else if n == 65 then opened_at bytes else if n == 66 then replied_at bytes
    else if n == 67 then view_at bytes
    else if n == 68 then deliver_at bytes else if n == 69 then ejected_at bytes
    else if n == 70 then denied_at bytes
    else if n == 71 then closed_at bytes else Err WrongType

-- what stands behind the length of a frame, all of it: no bytes may be left
unfoldable pub client_frame_of : List ℕ → Result ClientFrame FrameFault
client_frame_of bytes = do
  type ← byte_at 0 255 bytes
  frame ← parts_at type.0 type.1
  if length frame.1 == 0 then Ok frame.0 else Err Length

-- the length of a frame: the whole frame with these four bytes, 5 to 20,000
unfoldable pub length_of : ℕ → Result ℕ FrameFault
length_of n = if nat_lt n 5 then Err Length else if nat_lt 20000 n then Err Length else Ok n

unfoldable pub length_at : List ℕ → Result ℕ FrameFault
length_at bytes = do
  n ← number_at w32 0 4294967295 bytes
  length_of n.0

-- a frame of this many bytes at the front
unfoldable pub frame_of_length : List ℕ → ℕ → Result ClientRead FrameFault
frame_of_length bytes n =
    if nat_lt (length bytes) n then Ok (More (n - length bytes))
    else (client_frame_of (drop 4 (take n bytes)) >>= λ frame. Ok (Frame frame n))

-- what stands at the front of the bytes: bytes past the frame are not looked at
unfoldable pub client_of : List ℕ → Result ClientRead FrameFault
client_of bytes =
    if nat_lt (length bytes) 4 then Ok (More (4 - length bytes))
    else (length_at bytes >>= frame_of_length bytes)
