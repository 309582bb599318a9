-- What is refused leaves what was.
use Rattle.std.proofs.Common.{◌≡◌, ℕ, Bool, true, false, not, ◌&&◌, List, Option, Some, None, refl, ap, ◌∙◌, length}
use Rattle.std.specs.Prelude.{◌+◌, ◌==◌, nat_lt, if◌then◌else◌}
use Rattle.std.specs.Option.{option_map_or}
use Rattle.cast_types.specs.declared.names.GroupNo.{GroupNo}
use Rattle.cast_types.specs.declared.names.Proc.{Proc}
use Rattle.cast_types.specs.Names.{proc_eq}
use Rattle.cast_types.specs.Sets.{is_among}
use Rattle.cast_types.specs.declared.refusal.Refusal.{Refusal}
use Rattle.cast_types.specs.declared.refusal.Refusal.TheVariants.{NoGroup, BadFrame, NotOpen, NotMember, AlreadyMember, Flushing}
use Rattle.cast_types.specs.declared.refusal.Refusal.TheVariants.{OwnAbcast, HeldFull, TooLong, NotHolder, TooManySessions, OutOfRange}
use Rattle.cast_types.specs.declared.limits.TheConstants.{MAX_NUMBER, MAX_PAYLOAD}
use Rattle.cast_clock.specs.Times.{view_of}
use Rattle.cast_message.specs.declared.client.CastKind.{CastKind}
use Rattle.cast_message.specs.declared.client.Request.TheVariants.{Join, Leave, Cast, Pass}
use Rattle.cast_message.specs.declared.client.Push.TheVariants as push
use Rattle.cast_message.specs.declared.client.Command.TheVariants as command
use Rattle.cast_message.specs.declared.site.Change.TheVariants as change
use Rattle.cast_ready.specs.Ready.{is_member, is_outside}
use Rattle.cast_view.specs.MemberSide.{members_of}
use Rattle.cast_quota.specs.Quotas as quota
use Rattle.cast_events.specs.declared.event.Event.TheVariants as event
use Rattle.cast_events.specs.declared.event.Taken.{Taken}
use Rattle.cast_events.specs.declared.event.Taken.TheVariants as taken
use Rattle.cast_events.specs.Session.{is_open, is_gone, first_entries}
use Rattle.cast_rules.specs.State.{State, taking, setting_quota}
use Rattle.cast_rules.specs.History.{history}
use Rattle.cast_rules.specs.Step.{sessions_given, opening_next}
use Rattle.cast_rules.specs.Rules.Interface.{Site}
use Rattle.cast_rules.specs.Rules.Room.{may_receive, may_order}
use Rattle.cast_rules.specs.Rules.Sending.{may_raise}
use Rattle.cast_rules.specs.Rules.Asking.{request}
use Rattle.cast_rules.specs.Rules.Leaving.{Attempt, leave_at, leave_group, leave_all, close_session, named_here, tell}
use Rattle.cast_rules.specs.Rules.Commands.{join_at, join, leave, cast_at, cast, body_of, body_handing, hand_over}
use Rattle.cast_rules.specs.Rules.Commands.{pass_at, pass_token, message_sent, send_own, reply, on_request}
use Rattle.cast_rules.specs.Rules.Events.{is_taken, may_open}
use Rattle.cast_rules.specs.Refusing.{RefusedLeaves, RefusedReplies}

-- a refused call leaves what was
abbrev IsKept : {S : Type 0} → S → Attempt S → Type 0
IsKept s a = (refusal : Refusal) → a.1 ≡ Some refusal → a.0 ≡ s

kept_if : {S : Type 0} (s : S) (b : Bool) (a c : Attempt S) → IsKept s a → IsKept s c → IsKept s (if b then a else c)
kept_if s true a c first later = first
kept_if s false a c first later = later

kept_refused : {S : Type 0} (s : S) (why : Refusal) → IsKept s (s, Some why)
kept_refused s why refusal is = refl

kept_done : {S : Type 0} (s t : S) → IsKept s (t, None)
kept_done s t refusal is = absurd (nothing is)
  where
    nothing : ◌≡◌ {A = Option Refusal} None (Some refusal) → ⊥
    nothing e = cc

kept_placed : {S H : Type 0} (s : S) (at : H → Attempt S) → ((h : H) → IsKept s (at h)) → (place : Option H) →
    IsKept s (option_map_or at place (s, Some NoGroup))
kept_placed s at each (Some h) = each h
kept_placed s at each None = kept_refused s NoGroup

module _ {S H : Type 0} (d : Site S H) (s : S) (k : ℕ) where
  join_kept : (g : GroupNo) → IsKept s (join d s k g)
  join_kept g = kept_placed s (join_at d s k g) (λ h.
      let made : Attempt S = (
        request d (d.note_joining s k g ((d.group s h).asked + 1) (view_of (d.time s k) g)) h change.Join (named_here d s k),
        None,
      ) in
      kept_if s (not (is_outside (d.standing s k g))) (s, Some AlreadyMember)
      (if (d.group s h).asked == MAX_NUMBER then (s, Some HeldFull) else made) (kept_refused s AlreadyMember)
      (kept_if s ((d.group s h).asked == MAX_NUMBER) (s, Some HeldFull) made (kept_refused s HeldFull) (kept_done s made.0))) (d.place s g)

  leave_kept : (g : GroupNo) → IsKept s (leave d s k g)
  leave_kept g = kept_placed s (leave_at d s k g) (λ h.
      kept_if s (is_outside (d.standing s k g)) (s, Some NotMember) (leave_group d s k g h, None) (kept_refused s NotMember)
      (kept_done s (leave_group d s k g h))) (d.place s g)

  cast_kept : (g : GroupNo) (kind : CastKind) (payload : List ℕ) → IsKept s (cast d s k g kind payload)
  cast_kept g kind payload = kept_placed s (cast_at d s k g kind payload) (λ h.
      let made : Attempt S = (d.note_cast (send_own d s k (message_sent d s k g h (body_of kind payload))), None) in
      let raised : Attempt S = if not (may_raise (d.time s k) g (named_here d s k)) then (s, Some HeldFull) else made in
      let room : Attempt S = if not (may_receive d s) then (s, Some HeldFull) else raised in
      let own : Attempt S = if d.awaits_own s k then (s, Some OwnAbcast) else room in
      let going : Attempt S = if (d.group s h).frozen then (s, Some Flushing) else own in
      let member : Attempt S = if not (is_member (d.standing s k g)) then (s, Some NotMember) else going in
      kept_if s (nat_lt MAX_PAYLOAD (length payload)) (s, Some TooLong) member (kept_refused s TooLong)
      (kept_if s (not (is_member (d.standing s k g))) (s, Some NotMember) going (kept_refused s NotMember)
      (kept_if s ((d.group s h).frozen) (s, Some Flushing) own (kept_refused s Flushing)
      (kept_if s (d.awaits_own s k) (s, Some OwnAbcast) room (kept_refused s OwnAbcast)
      (kept_if s (not (may_receive d s)) (s, Some HeldFull) raised (kept_refused s HeldFull)
      (kept_if s (not (may_raise (d.time s k) g (named_here d s k))) (s, Some HeldFull) made (kept_refused s HeldFull)
      (kept_done s made.0))))))) (d.place s g)

  pass_kept : (g : GroupNo) (to : Proc) → IsKept s (pass_token d s k g to)
  pass_kept g to = kept_placed s (pass_at d s k g to) (λ h.
      let made : Attempt S = option_map_or (hand_over d s k g to h) (d.place_to_pass s h k) (s, Some HeldFull) in
      let raised : Attempt S = if not (may_raise (d.time s k) g (named_here d s k)) then (s, Some HeldFull) else made in
      let room : Attempt S = if not (may_order d s) then (s, Some HeldFull) else raised in
      let held : Attempt S = if not (d.holds s h k) then (s, Some NotHolder) else room in
      let own : Attempt S = if d.awaits_own s k then (s, Some OwnAbcast) else held in
      let going : Attempt S = if (d.group s h).frozen then (s, Some Flushing) else own in
      let named : Attempt S = if not (is_among proc_eq to (members_of (d.group s h))) then (s, Some NotMember) else going in
      kept_if s (not (is_member (d.standing s k g))) (s, Some NotMember) named (kept_refused s NotMember)
      (kept_if s (not (is_among proc_eq to (members_of (d.group s h)))) (s, Some NotMember) going (kept_refused s NotMember)
      (kept_if s ((d.group s h).frozen) (s, Some Flushing) own (kept_refused s Flushing)
      (kept_if s (d.awaits_own s k) (s, Some OwnAbcast) held (kept_refused s OwnAbcast)
      (kept_if s (not (d.holds s h k)) (s, Some NotHolder) room (kept_refused s NotHolder)
      (kept_if s (not (may_order d s)) (s, Some HeldFull) raised (kept_refused s HeldFull)
      (kept_if s (not (may_raise (d.time s k) g (named_here d s k))) (s, Some HeldFull) made (kept_refused s HeldFull)
      (handed h (d.place_to_pass s h k))))))))) (d.place s g)
    where
      -- to itself it hands nothing over
      handed : (h : H) (o : Option ℕ) → IsKept s (option_map_or (hand_over d s k g to h) o (s, Some HeldFull))
      handed h None = kept_refused s HeldFull
      handed h (Some place) =
          let sent : S = send_own d s k (message_sent d s k g h (body_handing place to)) in
          kept_if s (proc_eq to (named_here d s k)) (s, None) (sent, None) (kept_done s s) (kept_done s sent)

  replied : (a : Attempt S) (tag : ℕ) (refusal : Refusal) → IsKept s a → a.1 ≡ Some refusal →
      reply d a k tag ≡ tell d s k (push.Reply tag (Some refusal))
  replied a tag refusal kept is = λ i. tell d (kept refusal is i) k (push.Reply tag (is i))

pub replies_alone : RefusedReplies
replies_alone s e k (Join tag g) refusal opened is =
    ap (λ b. if b then on_request history s k (Join tag g) else s) opened
    ∙ replied history s k (join history s k g) tag refusal (join_kept history s k g) is
replies_alone s e k (Leave tag g) refusal opened is =
    ap (λ b. if b then on_request history s k (Leave tag g) else s) opened
    ∙ replied history s k (leave history s k g) tag refusal (leave_kept history s k g) is
replies_alone s e k (Cast tag g kind payload) refusal opened is =
    ap (λ b. if b then on_request history s k (Cast tag g kind payload) else s) opened
    ∙ replied history s k (cast history s k g kind payload) tag refusal (cast_kept history s k g kind payload) is
replies_alone s e k (Pass tag g to) refusal opened is =
    ap (λ b. if b then on_request history s k (Pass tag g to) else s) opened
    ∙ replied history s k (pass_token history s k g to) tag refusal (pass_kept history s k g to) is

-- what an answer is that is no refusal
abbrev IsDone : Taken → Type 0
IsDone a = (refusal : Refusal) → a ≡ taken.Refused refusal → ⊥

-- where an event is refused by a test, or else does something
left_if : (s t : State) (b : Bool) (a : Taken) (why : Refusal) → IsDone a → (refusal : Refusal) →
    (if b then a else taken.Refused why) ≡ taken.Refused refusal → (if b then t else s) ≡ s
left_if s t true a why done refusal is = absurd (done refusal is)
left_if s t false a why done refusal is = refl

left_unless : (s t : State) (b : Bool) (a : Taken) (why : Refusal) → IsDone a → (refusal : Refusal) →
    (if b then taken.Refused why else a) ≡ taken.Refused refusal → (if b then s else t) ≡ s
left_unless s t true a why done refusal is = refl
left_unless s t false a why done refusal is = absurd (done refusal is)

left_taking : (s t : State) (gone within : Bool) (a : Taken) → IsDone a → (refusal : Refusal) →
    (if gone then taken.Refused NotOpen else if within then a else taken.Refused OutOfRange) ≡ taken.Refused refusal →
    (if not gone && within then t else s) ≡ s
left_taking s t true within a done refusal is = refl
left_taking s t false true a done refusal is = absurd (done refusal is)
left_taking s t false false a done refusal is = refl

nothing_done : IsDone taken.Nothing
nothing_done refusal is = cc

pub refused_leaves : RefusedLeaves
refused_leaves s (event.Open e) refusal is =
    left_if s (opening_next s) (may_open history sessions_given s) (taken.Opened (s.used + 1)) TooManySessions (λ r same. cc) refusal is
refused_leaves s (event.Command e k (command.Request q)) refusal is =
    left_if s (on_request history s k q) (is_open (s.session k)) taken.Nothing NotOpen nothing_done refusal is
refused_leaves s (event.Command e k command.Bad) refusal is =
    left_if s (close_session history s k BadFrame) (is_open (s.session k)) taken.Nothing NotOpen nothing_done refusal is
refused_leaves s (event.Gone e k) refusal is =
    left_unless s (leave_all history (history.go s k) k) (is_gone (s.session k)) taken.Nothing NotOpen nothing_done refusal is
refused_leaves s (event.Frame e from f) refusal is = absurd (nothing_done refusal is)
refused_leaves s (event.Suspect e site) refusal is = absurd (nothing_done refusal is)
refused_leaves s (event.Quota e name value) refusal is =
    left_if s (setting_quota s name value) (quota.is_in_range name value) taken.Nothing OutOfRange nothing_done refusal is
refused_leaves s (event.Take e k most) refusal is =
    left_taking s (taking s k most) (is_gone (s.session k)) (is_taken most) (taken.Entries (first_entries most (s.session k)))
    (λ r same. cc) refusal is
refused_leaves s (event.Tick t) refusal is = absurd (nothing_done refusal is)
