-- The rules of messages that local processes send.
use Rattle.std.specs.Prelude.{Bool, ◌&&◌, nat_lt, if◌then◌else◌}
use Rattle.std.specs.List.{fold}
use Rattle.cast_types.specs.declared.names.SiteNo.{SiteNo}
use Rattle.cast_types.specs.declared.names.GroupNo.{GroupNo}
use Rattle.cast_types.specs.declared.names.Proc.{Proc}
use Rattle.cast_types.specs.declared.names.Uid.{Uid}
use Rattle.cast_types.specs.declared.limits.TheConstants.{MAX_NUMBER}
use Rattle.cast_types.specs.Stamps.{ClockList, is_stamp}
use Rattle.cast_clock.specs.Times.{count_in, with_bump, has_room}
use Rattle.cast_message.specs.declared.message.Message.{Message}
use Rattle.cast_timer.specs.declared.key.OwedKind.TheVariants as kinds
use Rattle.cast_rules.specs.Rules.Keys.{message_key}
use Rattle.cast_rules.specs.Rules.Interface.{Site}
use Rattle.cast_rules.specs.Rules.Owing.{send_for, owe}

-- a process's count in a group may be raised: it is not the last one, and the raised time has room
-- and a spelling, as a member's always has (`laws::counts_can_be_raised`)
abbrev pub may_raise : ClockList → GroupNo → Proc → Bool
may_raise t g p =
    nat_lt (count_in t g p) MAX_NUMBER && (has_room (with_bump t g p) && is_stamp (with_bump t g p))

module _ {S H : Type 0} (d : Site S H) where
  -- a message is sent to a site, and owed to it until it has acknowledged it, as it may have done
  -- before
  abbrev pub send_data : Uid → S → SiteNo → S
  send_data u s to =
      if d.has_acked s u to then send_for d s (message_key kinds.Data u to)
      else owe d s (message_key kinds.Data u to)

  -- a message is received here, and sent to each other site of the view
  abbrev pub send_message : S → Message → S
  send_message s m = fold (send_data m.id) (d.receive s m) (d.others (d.receive s m) m.id.group)
