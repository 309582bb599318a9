-- How processes leave their groups, and how sessions end.
-- A program is too slow to take what it is told, says what is no frame, or is gone.
use Rattle.std.specs.Prelude.{ℕ, ◌==◌, if◌then◌else◌, Option, Some, None}
use Rattle.std.specs.List.{fold}
use Rattle.cast_types.specs.declared.names.GroupNo.{GroupNo}
use Rattle.cast_types.specs.declared.names.Proc.{Proc}
use Rattle.cast_types.specs.declared.refusal.Refusal.{Refusal}
use Rattle.cast_types.specs.declared.refusal.Refusal.TheVariants.{NotMember, Slow}
use Rattle.cast_types.specs.declared.limits.TheConstants.{MAX_NUMBER}
use Rattle.cast_message.specs.declared.site.Change.TheVariants as change
use Rattle.cast_message.specs.declared.client.Push.{Push}
use Rattle.cast_ready.specs.Ready.{is_outside}
use Rattle.cast_rules.specs.Rules.Interface.{Site}
use Rattle.cast_rules.specs.Rules.Asking.{request}

-- what a call that may be refused leaves, and the refusal: a refused one leaves what was
abbrev pub Attempt : Type 0 → Type 0
Attempt S = S × Option Refusal

-- each rule is of the local process of serial k
module _ {S H : Type 0} (d : Site S H) where
  -- the process's name
  abbrev pub named_here : S → ℕ → Proc
  named_here s k = record { site = d.here s; serial = k }

  -- the process is outside from then on, and a request to leave is queued, while a number is left
  abbrev pub leave_group : S → ℕ → GroupNo → H → S
  leave_group s k g h =
      if (d.group s h).asked == MAX_NUMBER then d.note_outside s k g
      else request d (d.note_outside s k g) h change.Leave (named_here s k)

  abbrev pub leave_at : S → ℕ → GroupNo → H → Attempt S
  leave_at s k g h =
      if is_outside (d.standing s k g) then (s, Some NotMember) else (leave_group s k g h, None)

  -- the process leaves all groups that it joins or is a member of
  abbrev pub leave_each : ℕ → S → H → S
  leave_each k s h = (leave_at s k (d.name s h) h).0

  abbrev pub leave_all : S → ℕ → S
  leave_all s k = fold (leave_each k) s (d.places s)

  -- a session is closed, and its process leaves all its groups; where its outbox is full, it was
  -- too slow, whatever else is the matter
  abbrev pub close_session : S → ℕ → Refusal → S
  close_session s k refusal = leave_all (d.close s k (if d.is_full s k then Slow else refusal)) k

  -- a program is told something; where its outbox is full, its session is closed instead
  abbrev pub tell_open : S → ℕ → Push → S
  tell_open s k p = if d.is_full s k then close_session s k Slow else d.push s k p

  -- one whose session is not open is told nothing
  abbrev pub tell : S → ℕ → Push → S
  tell s k p = if d.is_open s k then tell_open s k p else s

  -- a session whose program is gone is gone, and its process leaves all its groups
  abbrev pub end_session : S → ℕ → S
  end_session s k = if d.is_gone s k then s else leave_all (d.go s k) k
