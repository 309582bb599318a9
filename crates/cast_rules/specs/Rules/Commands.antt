-- The rules of commands: what a program asks for, when it is refused, and its reply.
use Rattle.std.specs.Prelude.{ℕ, ◌+◌, not, ◌==◌, nat_lt, if◌then◌else◌}
use Rattle.std.specs.Prelude.{List, [], length, Some, None}
use Rattle.std.specs.Option.{option_map_or}
use Rattle.cast_types.specs.declared.names.GroupNo.{GroupNo}
use Rattle.cast_types.specs.declared.refusal.Refusal.TheVariants.{BadFrame, NoGroup, NotMember}
use Rattle.cast_types.specs.declared.refusal.Refusal.TheVariants.{AlreadyMember, Flushing}
use Rattle.cast_types.specs.declared.refusal.Refusal.TheVariants.{OwnAbcast, HeldFull, TooLong}
use Rattle.cast_types.specs.declared.refusal.Refusal.TheVariants.{NotHolder}
use Rattle.cast_types.specs.declared.limits.TheConstants.{MAX_NUMBER, MAX_PAYLOAD}
use Rattle.cast_types.specs.declared.names.Proc.{Proc}
use Rattle.cast_types.specs.Names.{proc_eq}
use Rattle.cast_types.specs.Sets.{is_among}
use Rattle.cast_types.specs.Stamps.{ClockList}
use Rattle.cast_clock.specs.Times.{view_of, count_in, with_bump}
use Rattle.cast_message.specs.declared.message.Body.{Body}
use Rattle.cast_message.specs.declared.message.Body.TheVariants as body
use Rattle.cast_message.specs.declared.message.Message.{Message}
use Rattle.cast_message.specs.declared.site.Change.TheVariants as change
use Rattle.cast_message.specs.declared.client.CastKind.{CastKind}
use Rattle.cast_message.specs.declared.client.CastKind.TheVariants as kind
use Rattle.cast_message.specs.declared.client.Request.{Request}
use Rattle.cast_message.specs.declared.client.Request.TheVariants.{Join, Leave, Cast, Pass}
use Rattle.cast_message.specs.declared.client.Push.TheVariants as push
use Rattle.cast_message.specs.declared.client.Command.{Command}
use Rattle.cast_message.specs.declared.client.Command.TheVariants as command
use Rattle.cast_ready.specs.Ready.{is_member, is_outside}
use Rattle.cast_view.specs.MemberSide.{members_of}
use Rattle.cast_rules.specs.Rules.Interface.{Site}
use Rattle.cast_rules.specs.Rules.Room.{may_receive, may_order}
use Rattle.cast_rules.specs.Rules.Sending.{may_raise, send_message}
use Rattle.cast_rules.specs.Rules.Asking.{request}
use Rattle.cast_rules.specs.Rules.Leaving.{Attempt, named_here, leave_at, close_session, tell}

-- a cast of a kind
abbrev pub body_of : CastKind → List ℕ → Body
body_of kind.Causal payload = body.Causal payload
body_of kind.Atomic payload = body.Atomic payload

-- a hand-over to a process, which orders from this place on; it lists nothing
abbrev pub body_handing : ℕ → Proc → Body
body_handing place to = body.Order (record { first = place; ids = []; holder = Some to })

-- each rule is of the local process of serial k, and of the group g, which stands at h
module _ {S H : Type 0} (d : Site S H) where
  abbrev pub join_at : S → ℕ → GroupNo → H → Attempt S
  join_at s k g h =
      if not (is_outside (d.standing s k g)) then (s, Some AlreadyMember)
      else if (d.group s h).asked == MAX_NUMBER then (s, Some HeldFull)
      else (
        request d (d.note_joining s k g ((d.group s h).asked + 1) (view_of (d.time s k) g))
            h change.Join (named_here d s k),
        None,
      )

  abbrev pub join : S → ℕ → GroupNo → Attempt S
  join s k g = option_map_or (join_at s k g) (d.place s g) (s, Some NoGroup)

  abbrev pub leave : S → ℕ → GroupNo → Attempt S
  leave s k g = option_map_or (leave_at d s k g) (d.place s g) (s, Some NoGroup)

  -- the process's next message: its time, with its own count raised, stamps it
  abbrev pub message_sent : S → ℕ → GroupNo → H → Body → Message
  message_sent s k g h content =
      let times : ClockList = with_bump (d.time s k) g (named_here d s k) in
      record {
        id = record {
          group = g;
          view = (d.group s h).number;
          proc = named_here d s k;
          count = count_in times g (named_here d s k);
        };
        times = times;
        body = content;
      }

  -- and it sends it
  abbrev pub send_own : S → ℕ → Message → S
  send_own s k m = send_message d (d.note_sent s k m) m

  abbrev pub cast_at : S → ℕ → GroupNo → CastKind → List ℕ → H → Attempt S
  cast_at s k g cast payload h =
      if nat_lt MAX_PAYLOAD (length payload) then (s, Some TooLong)
      else if not (is_member (d.standing s k g)) then (s, Some NotMember)
      else if (d.group s h).frozen then (s, Some Flushing)
      else if d.awaits_own s k then (s, Some OwnAbcast)
      else if not (may_receive d s) then (s, Some HeldFull)
      else if not (may_raise (d.time s k) g (named_here d s k)) then (s, Some HeldFull)
      else (d.note_cast (send_own s k (message_sent s k g h (body_of cast payload))), None)

  abbrev pub cast : S → ℕ → GroupNo → CastKind → List ℕ → Attempt S
  cast s k g kind payload =
      option_map_or (cast_at s k g kind payload) (d.place s g) (s, Some NoGroup)

  -- it hands the token over to a process, but not to itself
  abbrev pub hand_over : S → ℕ → GroupNo → Proc → H → ℕ → Attempt S
  hand_over s k g to h place =
      if proc_eq to (named_here d s k) then (s, None)
      else (send_own s k (message_sent s k g h (body_handing place to)), None)

  abbrev pub pass_at : S → ℕ → GroupNo → Proc → H → Attempt S
  pass_at s k g to h =
      if not (is_member (d.standing s k g)) then (s, Some NotMember)
      else if not (is_among proc_eq to (members_of (d.group s h))) then (s, Some NotMember)
      else if (d.group s h).frozen then (s, Some Flushing)
      else if d.awaits_own s k then (s, Some OwnAbcast)
      else if not (d.holds s h k) then (s, Some NotHolder)
      else if not (may_order d s) then (s, Some HeldFull)
      else if not (may_raise (d.time s k) g (named_here d s k)) then (s, Some HeldFull)
      else option_map_or (hand_over s k g to h) (d.place_to_pass s h k) (s, Some HeldFull)

  abbrev pub pass_token : S → ℕ → GroupNo → Proc → Attempt S
  pass_token s k g to = option_map_or (pass_at s k g to) (d.place s g) (s, Some NoGroup)

  -- the program is told whether its request was refused
  abbrev pub reply : Attempt S → ℕ → ℕ → S
  reply a k tag = tell d a.0 k (push.Reply tag a.1)

  abbrev pub on_request : S → ℕ → Request → S
  on_request s k (Join tag g) = reply (join s k g) k tag
  on_request s k (Leave tag g) = reply (leave s k g) k tag
  on_request s k (Cast tag g kind payload) = reply (cast s k g kind payload) k tag
  on_request s k (Pass tag g to) = reply (pass_token s k g to) k tag

  -- bytes that are no frame close the session; what is said in one that is not open is ignored
  abbrev pub on_command : S → ℕ → Command → S
  on_command s k (command.Request q) = if d.is_open s k then on_request s k q else s
  on_command s k command.Bad = if d.is_open s k then close_session d s k BadFrame else s
