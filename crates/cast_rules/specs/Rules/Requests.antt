-- The rules of requests: the home applies each once, and answers it.
use Rattle.std.specs.Prelude.{ℕ, Bool, false, ◌&&◌, ◌==◌, if◌then◌else◌, Option, Some, None}
use Rattle.cast_types.specs.declared.names.SiteNo.{SiteNo}
use Rattle.cast_types.specs.declared.names.Proc.{Proc}
use Rattle.cast_message.specs.declared.site.Change.{Change}
use Rattle.cast_message.specs.declared.site.SiteFrame.TheVariants as frame
use Rattle.cast_view.specs.MemberSide.{first_asking}
use Rattle.cast_view.specs.Home.{answer_to}
use Rattle.cast_view.specs.Home.HomeMove.{Asked}
use Rattle.cast_message.specs.declared.client.Push.TheVariants as push
use Rattle.cast_types.specs.declared.refusal.Refusal.TheVariants.{GroupFull}
use Rattle.cast_types.specs.declared.names.Standing.{Standing}
use Rattle.cast_types.specs.declared.names.Standing.TheVariants.{Outside, Joining, Member}
use Rattle.cast_view.specs.declared.member.PendingRequest.{PendingRequest}
use Rattle.cast_rules.specs.Rules.Keys.{ask_key}
use Rattle.cast_rules.specs.Rules.Interface.{Site}
use Rattle.cast_rules.specs.Rules.Asking.{is_home, is_from_home, ask_home}
use Rattle.cast_rules.specs.Rules.Leaving.{tell}

-- a process that still joins by a request
abbrev pub is_joining_by : Standing → ℕ → Bool
is_joining_by Outside number = false
is_joining_by (Joining request heard) number = request == number
is_joining_by Member number = false

-- each rule is of the group that stands at h
module _ {S H : Type 0} (d : Site S H) where
  -- a site's request that is answered, the group being full or not
  abbrev pub answer_ask : S → H → SiteNo → ℕ → Option Bool → S
  answer_ask s h from number None = s
  answer_ask s h from number (Some full) = d.send s from (frame.Asked (d.name s h) number full)

  -- at the home a request is taken in, and answered where it is the next one of its site or was
  -- answered before
  abbrev pub on_ask : S → H → SiteNo → ℕ → Change → Proc → S
  on_ask s h from number what p =
      if is_home d s
      then answer_ask (d.move_home s h (Asked from number what p))
      h from number (answer_to (d.home s h) from number what p)
      else s

  -- a process whose join is refused is outside, if it still joins by that request, and its program
  -- is told
  abbrev pub deny : S → H → PendingRequest → S
  deny s h a =
      if is_joining_by (d.standing s a.proc.serial (d.name s h)) a.number
      then tell d (d.note_outside s a.proc.serial (d.name s h))
      a.proc.serial (push.Denied (d.name s h) GroupFull)
      else s

  abbrev pub deny_if : Bool → S → H → PendingRequest → S
  deny_if full s h a = if full then deny s h a else s

  -- the first request is answered: it is taken off, and the next one is asked
  abbrev pub take_answer : S → H → S
  take_answer s h =
      ask_home d (d.note_answer (d.pay s (ask_key (d.name s h) (d.config s).home)) h) h

  abbrev pub on_asked : S → H → SiteNo → ℕ → Bool → S
  on_asked s h from number full =
      elim (first_asking (d.group s h).requests) [
        | Some a ↦
            (if is_from_home d s from && (a.number == number)
            then deny_if full (take_answer s h) h a
            else s)
        | None ↦ s
      ]
