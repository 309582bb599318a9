-- The rules of what a domain does of itself after each event, until nothing changes.
-- Its processes deliver, holders set orders, Installs are completed, and the home decides views.
use Rattle.std.specs.Prelude.{ℕ, Option, Some, None}
use Rattle.std.specs.List.{fold}
use Rattle.cast_types.specs.declared.names.Uid.{Uid}
use Rattle.cast_types.specs.Repeat.{iterate}
use Rattle.cast_message.specs.declared.message.Body.{Body}
use Rattle.cast_message.specs.declared.message.Body.TheVariants as body
use Rattle.cast_message.specs.declared.message.Message.{Message}
use Rattle.cast_message.specs.declared.client.CastKind.TheVariants as kind
use Rattle.cast_message.specs.declared.client.Push.{Push}
use Rattle.cast_message.specs.declared.client.Push.TheVariants as push
use Rattle.cast_rules.specs.Rules.Interface.{Site, Resting}
use Rattle.cast_rules.specs.Rules.Leaving.{tell}
use Rattle.cast_rules.specs.Rules.Release.{let_go}
use Rattle.cast_rules.specs.Rules.Order.{set_orders}
use Rattle.cast_rules.specs.Rules.Flushes.{go_on_all}
use Rattle.cast_rules.specs.Rules.Home.{lead}

-- what a program is told of a message that its process delivers: of a set-order message nothing
abbrev pub told_of : Uid → Body → Option Push
told_of id (body.Causal payload) = Some (push.Deliver id kind.Causal payload)
told_of id (body.Atomic payload) = Some (push.Deliver id kind.Atomic payload)
told_of id (body.Order sequence) = None

-- a program is told something, or nothing
abbrev pub tell_if : {S H : Type 0} → Site S H → S → ℕ → Option Push → S
tell_if d s k told = elim told [ Some p ↦ tell d s k p | None ↦ s ]

module _ {S H : Type 0} (d : Site S H) (q : Resting S H) where
  -- a process delivers a message, and its program is told
  abbrev pub deliver : S → ℕ → Message → S
  deliver s k m = tell_if d (q.note_delivered s k m) k (told_of m.id m.body)

  -- a process delivers the first message that is ready for it, and what is free then is let go
  abbrev pub deliver_first : ℕ → S → S
  deliver_first k s = elim (q.next_ready s k) [ Some m ↦ let_go d q (deliver s k m) | None ↦ s ]

  -- a process delivers until nothing is ready for it
  abbrev pub deliver_all : S → ℕ → S
  deliver_all s k = iterate (q.turns s) (deliver_first k) s

  -- each process delivers, by serial
  abbrev pub settle : S → S
  settle s = fold deliver_all s (q.serials s)

  -- deliveries by serial; then by group set-order messages; then by group Installs and what the
  -- site wants; then by group the home
  abbrev pub pass : S → S
  pass s = lead d (go_on_all d q (set_orders d q (settle s)))
