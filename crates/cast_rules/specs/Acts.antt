-- What a process did, in order, for the laws over whole runs.
use Rattle.std.specs.Prelude.{ℕ}
use Rattle.cast_types.specs.declared.names.GroupNo.{GroupNo}
use Rattle.cast_types.specs.Counts.{CountList}
use Rattle.cast_message.specs.declared.message.Message.{Message}

-- it sent a message; it delivered one; it entered a view of a group by an Install with this cut; it
-- left a group of which it was a member, or was put out of it
pub data Act : Type 0 where
  Sent : (message : Message) → Act
  Delivered : (message : Message) → Act
  Entered : (group : GroupNo) (view : ℕ) (cut : CountList) → Act
  Left : (group : GroupNo) → Act
