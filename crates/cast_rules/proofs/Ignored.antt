-- Frames that no rule uses, and commands of no session, change nothing and are answered with no frame or push.
use Rattle.std.specs.Prelude.{◌≡◌, ℕ, [], ◌∷◌, List, refl}
use Rattle.cast_types.specs.declared.refusal.Refusal.TheVariants.{NotOpen}
use Rattle.cast_message.specs.declared.site.SiteFrame.TheVariants as frame
use Rattle.cast_events.specs.declared.event.Event.{Event}
use Rattle.cast_events.specs.declared.event.Taken.TheVariants as taken
use Rattle.cast_rules.specs.Run.{Ran}
use Rattle.cast_rules.proofs.Words.{group, uid, alone, asks_leave, sends_bad, comes, in_second_view, then_run, pushed_after, p21}

-- each has another view, or is wanted by nobody
frames : List Event
frames =
    comes 9 (frame.Prepare (group 1) 1) ∷ comes 2 (frame.Prepare (group 1) 2)
    ∷ comes 2 (frame.Flushed (group 1) 2 [] (record { start = 0; ids = [] }) []) ∷ comes 2 (frame.Want (uid 1 2 p21 1))
    ∷ comes 9 (frame.Forward (alone 1 2 p21 1)) ∷ comes 2 (frame.Out (group 1) 2) ∷ []

unused : Ran
unused = then_run in_second_view frames

unused_pushes : pushed_after 3 unused ≡ []
unfolding unused frames
unused_pushes = refl

unused_sent : unused.sent ≡ []
unfolding unused frames
unused_sent = refl

-- commands of a serial that was never given are refused
commands : ℕ → List Event
commands k = asks_leave k 8 1 ∷ sends_bad k ∷ []

unopened : Ran
unopened = then_run in_second_view (commands 2)

unopened_answers : unopened.answers ≡ taken.Refused NotOpen ∷ taken.Refused NotOpen ∷ []
unfolding unopened commands
unopened_answers = refl

unopened_pushes : pushed_after 3 unopened ≡ []
unfolding unopened commands
unopened_pushes = refl

unopened_sent : unopened.sent ≡ []
unfolding unopened commands
unopened_sent = refl
