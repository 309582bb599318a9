-- What each event does before a domain comes to rest, and what it is answered.
use Rattle.std.specs.Prelude.{ℕ, ◌+◌, Bool, not, ◌&&◌, ◌==◌, if◌then◌else◌}
use Rattle.cast_types.specs.declared.refusal.Refusal.TheVariants.{NotOpen, TooManySessions}
use Rattle.cast_types.specs.declared.refusal.Refusal.TheVariants.{OutOfRange}
use Rattle.cast_types.specs.declared.limits.TheConstants.{MAX_NUMBER}
use Rattle.cast_quota.specs.Quotas as quota
use Rattle.cast_events.specs.declared.limits.TheConstants.{MAX_TAKE}
use Rattle.cast_events.specs.declared.event.Event.{Event}
use Rattle.cast_events.specs.declared.event.Event.TheVariants as event
use Rattle.cast_events.specs.declared.event.Taken.{Taken}
use Rattle.cast_events.specs.declared.event.Taken.TheVariants as taken
use Rattle.cast_rules.specs.Rules.Interface.{Site, Sessions}
use Rattle.cast_rules.specs.Rules.Owing.{tick}
use Rattle.cast_rules.specs.Rules.Leaving.{end_session}
use Rattle.cast_rules.specs.Rules.Commands.{on_command}
use Rattle.cast_rules.specs.Rules.Home.{suspect}
use Rattle.cast_rules.specs.Rules.Frames.{on_site_frame}

-- so many entries may be taken at once
abbrev pub is_taken : ℕ → Bool
is_taken most = quota.is_from_to 1 MAX_TAKE most

module _ {S H : Type 0} (d : Site S H) (n : Sessions S) where
  -- one more session may be opened: beside those that are not gone, and while a serial is left,
  -- since serials are used once
  abbrev pub may_open : S → Bool
  may_open s = quota.may_open (d.quotas s) (n.count s) && not (n.used s == MAX_NUMBER)

  abbrev pub on_open : S → S
  on_open s = if may_open s then n.open_next s else s

  -- the first entries of the outbox of a session that is not gone are taken
  abbrev pub on_take : S → ℕ → ℕ → S
  on_take s k most = if not (d.is_gone s k) && is_taken most then n.take s k most else s

  abbrev pub on_event : S → Event → S
  on_event s (event.Open e) = on_open s
  on_event s (event.Command e k c) = on_command d s k c
  on_event s (event.Gone e k) = end_session d s k
  on_event s (event.Frame e from f) = on_site_frame d s from f
  on_event s (event.Suspect e site) = suspect d s site
  on_event s (event.Quota e name value) =
      if quota.is_in_range name value then n.set_quota s name value else s
  on_event s (event.Take e k most) = on_take s k most
  on_event s (event.Tick t) = tick d s t

  abbrev pub answer_to_event : S → Event → Taken
  answer_to_event s (event.Open e) =
      if may_open s then taken.Opened (n.used s + 1) else taken.Refused TooManySessions
  answer_to_event s (event.Command e k c) =
      if d.is_open s k then taken.Nothing else taken.Refused NotOpen
  answer_to_event s (event.Gone e k) =
      if d.is_gone s k then taken.Refused NotOpen else taken.Nothing
  answer_to_event s (event.Frame e from f) = taken.Nothing
  answer_to_event s (event.Suspect e site) = taken.Nothing
  answer_to_event s (event.Quota e name value) =
      if quota.is_in_range name value then taken.Nothing else taken.Refused OutOfRange
  answer_to_event s (event.Take e k most) =
      if d.is_gone s k then taken.Refused NotOpen
      else if is_taken most then taken.Entries (n.entries s k most) else taken.Refused OutOfRange
  answer_to_event s (event.Tick t) = taken.Nothing
