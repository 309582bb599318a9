-- Reading a frame between sites from left to right.
-- What is read is its header and the fields of its type, or the first fault.
use Rattle.std.specs.Prelude.{ℕ, Bool, true, false, not, ◌||◌, ◌==◌, nat_lt}
use Rattle.std.specs.Prelude.{if◌then◌else◌, List, length, Result, Ok, Err}
use Rattle.std.specs.Int.{w16, w32}
use Rattle.cast_types.specs.declared.names.DomainNo.{DomainNo}
use Rattle.cast_types.specs.declared.names.SiteNo.{SiteNo}
use Rattle.cast_field.specs.declared.fault.FrameFault.{FrameFault}
use Rattle.cast_field.specs.declared.fault.FrameFault.TheVariants.{Magic, Version}
use Rattle.cast_field.specs.declared.fault.FrameFault.TheVariants.{WrongType, Length, Range}
use Rattle.cast_message.specs.declared.site.Change.{Change}
use Rattle.cast_message.specs.declared.site.Change.TheVariants.{Join, Leave}
use Rattle.cast_message.specs.declared.site.SiteFrame.{SiteFrame}
use Rattle.cast_message.specs.declared.site.SiteFrame.TheVariants.{Data, Ack, Stable, Ask, Asked}
use Rattle.cast_message.specs.declared.site.SiteFrame.TheVariants.{Prepare, Flushed, Want, Forward}
use Rattle.cast_message.specs.declared.site.SiteFrame.TheVariants.{Install, Installed, Out}
use Rattle.cast_frame.specs.declared.reading.FrameType.{FrameType}
use Rattle.cast_frame.specs.declared.reading.FrameType.TheVariants as types
use Rattle.cast_field.specs.Reading.{◌>>=◌, Reader, byte_at, number_at, domain_at}
use Rattle.cast_field.specs.Reading.{site_at, group_at, count_at, proc_at, uid_at}
use Rattle.cast_field.specs.Reading.{counts_at, message_at, members_at, tail_at, kept_at}

abbrev pub change_of : ℕ → Change
change_of n = if n == 1 then Join else Leave

-- the code of a decision is 0 or 14
unfoldable pub full_of : ℕ → Result Bool FrameFault
full_of n = if n == 0 then Ok false else if n == 14 then Ok true else Err Range

unfoldable pub data_at : Bool → Reader SiteFrame
data_at handing bytes = do
  message ← message_at handing bytes
  Ok (Data message.0, message.1)

unfoldable pub ack_at : Reader SiteFrame
ack_at bytes = do
  id ← uid_at bytes
  Ok (Ack id.0, id.1)

unfoldable pub stable_at : Reader SiteFrame
stable_at bytes = do
  id ← uid_at bytes
  Ok (Stable id.0, id.1)

unfoldable pub ask_at : Reader SiteFrame
ask_at bytes = do
  group ← group_at bytes
  number ← count_at group.1
  change ← byte_at 1 2 number.1
  proc ← proc_at change.1
  Ok (Ask group.0 number.0 (change_of change.0) proc.0, proc.1)

unfoldable pub asked_at : Reader SiteFrame
asked_at bytes = do
  group ← group_at bytes
  number ← count_at group.1
  code ← byte_at 0 255 number.1
  full ← full_of code.0
  Ok (Asked group.0 number.0 full, code.1)

unfoldable pub prepare_at : Reader SiteFrame
prepare_at bytes = do
  group ← group_at bytes
  view ← count_at group.1
  Ok (Prepare group.0 view.0, view.1)

unfoldable pub flushed_at : Reader SiteFrame
flushed_at bytes = do
  group ← group_at bytes
  view ← count_at group.1
  counts ← counts_at view.1
  tail ← tail_at 512 counts.1
  kept ← kept_at tail.1
  Ok (Flushed group.0 view.0 counts.0 tail.0 kept.0, kept.1)

unfoldable pub want_at : Reader SiteFrame
want_at bytes = do
  id ← uid_at bytes
  Ok (Want id.0, id.1)

unfoldable pub forward_at : Bool → Reader SiteFrame
forward_at handing bytes = do
  message ← message_at handing bytes
  Ok (Forward message.0, message.1)

unfoldable pub install_at : Reader SiteFrame
install_at bytes = do
  group ← group_at bytes
  view ← count_at group.1
  members ← members_at view.1
  request ← number_at w32 0 4294967295 members.1
  cut ← counts_at request.1
  tail ← tail_at 576 cut.1
  Ok (Install group.0 view.0 members.0 request.0 cut.0 tail.0, tail.1)

unfoldable pub installed_at : Reader SiteFrame
installed_at bytes = do
  group ← group_at bytes
  view ← count_at group.1
  Ok (Installed group.0 view.0, view.1)

unfoldable pub out_at : Reader SiteFrame
out_at bytes = do
  group ← group_at bytes
  view ← count_at group.1
  Ok (Out group.0 view.0, view.1)

unfoldable pub type_of : ℕ → Result FrameType FrameFault
type_of n =
    if n == 1 then Ok types.Data else if n == 2 then Ok types.Ack
    else if n == 3 then Ok types.Stable
    else if n == 4 then Ok types.Ask else if n == 5 then Ok types.Asked
    else if n == 6 then Ok types.Prepare
    else if n == 7 then Ok types.Flushed else if n == 8 then Ok types.Want
    else if n == 9 then Ok types.Forward
    else if n == 10 then Ok types.Install else if n == 11 then Ok types.Installed
    else if n == 12 then Ok types.Out
    else Err WrongType

-- a frame of the type holds a message
abbrev pub has_message : FrameType → Bool
has_message types.Data = true
has_message types.Ack = false
has_message types.Stable = false
has_message types.Ask = false
has_message types.Asked = false
has_message types.Prepare = false
has_message types.Flushed = false
has_message types.Want = false
has_message types.Forward = true
has_message types.Install = false
has_message types.Installed = false
has_message types.Out = false

-- a frame of the version whose messages hand over the token has a message; of the other version
-- each frame may be
abbrev pub may_stand : Bool → FrameType → Bool
may_stand handing type = not handing || has_message type

unfoldable pub type_at : Bool → Reader FrameType
type_at handing bytes = do
  n ← byte_at 0 255 bytes
  type ← type_of n.0
  if may_stand handing type then Ok (type, n.1) else Err WrongType

-- the type of a frame says what stands behind the header
unfoldable pub fields_at : Bool → FrameType → Reader SiteFrame
fields_at handing types.Data bytes = data_at handing bytes
fields_at handing types.Ack bytes = ack_at bytes
fields_at handing types.Stable bytes = stable_at bytes
fields_at handing types.Ask bytes = ask_at bytes
fields_at handing types.Asked bytes = asked_at bytes
fields_at handing types.Prepare bytes = prepare_at bytes
fields_at handing types.Flushed bytes = flushed_at bytes
fields_at handing types.Want bytes = want_at bytes
fields_at handing types.Forward bytes = forward_at handing bytes
fields_at handing types.Install bytes = install_at bytes
fields_at handing types.Installed bytes = installed_at bytes
fields_at handing types.Out bytes = out_at bytes

-- the two bytes of the magic are one field
unfoldable pub magic_at : List ℕ → Result (List ℕ) FrameFault
magic_at bytes = do
  n ← number_at w16 0 65535 bytes
  if n.0 == 0x4344 then Ok n.1 else Err Magic

-- the version says whether the frame's message hands over the token
unfoldable pub version_of : ℕ → Result Bool FrameFault
version_of n = if n == 1 then Ok false else if n == 2 then Ok true else Err Version

unfoldable pub version_at : Reader Bool
version_at bytes = do
  n ← byte_at 0 255 bytes
  handing ← version_of n.0
  Ok (handing, n.1)

-- all of the bytes: no bytes may be left
unfoldable pub frame_at : List ℕ → Result (DomainNo × SiteNo × SiteFrame) FrameFault
frame_at bytes = do
  magic ← magic_at bytes
  version ← version_at magic
  type ← type_at version.0 version.1
  domain ← domain_at type.1
  site ← site_at domain.1
  frame ← fields_at version.0 type.0 site.1
  if length frame.1 == 0 then Ok (domain.0, site.0, frame.0) else Err Length

-- the frame that the bytes are, with its domain and its sender
unfoldable pub site_frame_of : List ℕ → Result (DomainNo × SiteNo × SiteFrame) FrameFault
site_frame_of bytes = if nat_lt 60000 (length bytes) then Err Length else frame_at bytes
