-- A process leaves its group, as it asks to or as its session ends.
use Rattle.std.specs.Prelude.{◌≡◌, ℕ, ◌==◌, true, false, if◌then◌else◌, [], ◌∷◌, Some, None, refl}
use Rattle.std.proofs.Common.{ap}
use Rattle.cast_types.specs.declared.names.GroupNo.{GroupNo}
use Rattle.cast_types.specs.declared.names.Standing.TheVariants.{Outside}
use Rattle.cast_types.specs.declared.limits.TheConstants.{MAX_NUMBER}
use Rattle.cast_types.specs.declared.refusal.Refusal.TheVariants.{BadFrame, NotOpen, NoGroup, NotMember}
use Rattle.cast_message.specs.declared.site.Change.TheVariants as change
use Rattle.cast_message.specs.declared.site.SiteFrame.TheVariants as frame
use Rattle.cast_message.specs.declared.client.Push.TheVariants as push
use Rattle.cast_events.specs.declared.event.Taken.TheVariants as taken
use Rattle.cast_rules.specs.Acts.Act.{Entered, Left}
use Rattle.cast_rules.specs.History.{history}
use Rattle.cast_rules.specs.Rules.Asking.{request}
use Rattle.cast_rules.specs.Rules.Leaving.{leave_group}
use Rattle.cast_rules.specs.State.{State, local, outside}
use Rattle.cast_rules.specs.Run.{Ran, run_of}
use Rattle.cast_rules.proofs.Words.{site, group, uid, alone, config, opens, asks_join, asks_leave, casts, sends_bad}
use Rattle.cast_rules.proofs.Words.{is_gone, comes, data_from, p11, p21, in_second_view, then_run, pushed_after}

-- a member leaves, once
left : Ran
left = then_run in_second_view (asks_leave 1 8 1 ∷ asks_leave 1 9 1 ∷ asks_leave 1 10 2 ∷ casts 1 11 1 [] ∷ [])

left_pushes : pushed_after 3 left ≡
    push.Reply 8 None ∷ push.Reply 9 (Some NotMember) ∷ push.Reply 10 (Some NoGroup) ∷ push.Reply 11 (Some NotMember) ∷ []
unfolding left
left_pushes = refl

left_sent : left.sent ≡ (site 9, frame.Ask (group 1) 2 change.Leave p11) ∷ []
unfolding left
left_sent = refl

left_standing : (left.state.process 1).standing (group 1) ≡ Outside
unfolding left
left_standing = refl

left_acts : left.state.acts 1 ≡ Entered (group 1) 2 [] ∷ Left (group 1) ∷ []
unfolding left
left_acts = refl

-- nobody is left who awaits what comes then: it is delivered to nobody, and let go once it is stable
nobody_waits : Ran
nobody_waits = then_run in_second_view (asks_leave 1 8 1 ∷ data_from 2 (alone 1 2 p21 1) ∷ comes 2 (frame.Stable (uid 1 2 p21 1)) ∷ [])

nobody_waits_pushes : pushed_after 4 nobody_waits ≡ []
unfolding nobody_waits
nobody_waits_pushes = refl

nobody_waits_kept : nobody_waits.state.kept ≡ []
unfolding nobody_waits
nobody_waits_kept = refl

-- what one process has not delivered is let go as it leaves
last_to_wait : Ran
last_to_wait = then_run in_second_view (data_from 2 (alone 1 2 p21 2) ∷ comes 2 (frame.Stable (uid 1 2 p21 2)) ∷ asks_leave 1 8 1 ∷ [])

last_to_wait_kept : last_to_wait.state.kept ≡ []
unfolding last_to_wait
last_to_wait_kept = refl

-- one that joins leaves as well, and was no member; its requests are asked one after another
joining_left : Ran
joining_left = run_of 2 (site 1) (config 9 (site 1 ∷ site 9 ∷ []) (group 1 ∷ []))
    (opens ∷ asks_join 1 7 1 ∷ asks_leave 1 8 1 ∷ comes 9 (frame.Asked (group 1) 1 false) ∷ [])

joining_left_sent : joining_left.sent ≡
    (site 9, frame.Ask (group 1) 1 change.Join p11) ∷ (site 9, frame.Ask (group 1) 2 change.Leave p11) ∷ []
unfolding joining_left
joining_left_sent = refl

joining_left_acts : joining_left.state.acts 1 ≡ []
unfolding joining_left
joining_left_acts = refl

-- bytes that are no frame close the session: its process leaves, and later commands are refused without a push
bad : Ran
bad = then_run in_second_view (sends_bad 1 ∷ sends_bad 1 ∷ asks_join 1 8 1 ∷ data_from 2 (alone 1 2 p21 1) ∷ [])

bad_answers : bad.answers ≡ taken.Nothing ∷ taken.Refused NotOpen ∷ taken.Refused NotOpen ∷ taken.Nothing ∷ []
unfolding bad
bad_answers = refl

bad_pushes : pushed_after 3 bad ≡ push.Closed BadFrame ∷ []
unfolding bad
bad_pushes = refl

bad_sent : bad.sent ≡ (site 9, frame.Ask (group 1) 2 change.Leave p11) ∷ (site 2, frame.Ack (uid 1 2 p21 1)) ∷ []
unfolding bad
bad_sent = refl

-- a program that is gone is told nothing, and its process leaves; of one that is gone, or never was, the event is refused
gone : Ran
gone = then_run in_second_view (is_gone 1 ∷ is_gone 1 ∷ is_gone 2 ∷ asks_join 1 8 1 ∷ [])

gone_answers : gone.answers ≡ taken.Nothing ∷ taken.Refused NotOpen ∷ taken.Refused NotOpen ∷ taken.Refused NotOpen ∷ []
unfolding gone
gone_answers = refl

gone_pushes : pushed_after 3 gone ≡ []
unfolding gone
gone_pushes = refl

gone_sent : gone.sent ≡ (site 9, frame.Ask (group 1) 2 change.Leave p11) ∷ []
unfolding gone
gone_sent = refl

-- a closed session goes, too, and there is nothing left to leave
closed_first : Ran
closed_first = then_run in_second_view (sends_bad 1 ∷ is_gone 1 ∷ is_gone 1 ∷ [])

closed_first_answers : closed_first.answers ≡ taken.Nothing ∷ taken.Nothing ∷ taken.Refused NotOpen ∷ []
unfolding closed_first
closed_first_answers = refl

closed_first_sent : closed_first.sent ≡ (site 9, frame.Ask (group 1) 2 change.Leave p11) ∷ []
unfolding closed_first
closed_first_sent = refl

-- where the last request number is used it is outside, and no request is queued
no_number_left : (s : State) (k : ℕ) (g : GroupNo) → ((s.group g).asked == MAX_NUMBER) ≡ true → leave_group history s k g g ≡ outside s k g
no_number_left s k g last = ap (λ b. if b then outside s k g else request history (outside s k g) g change.Leave (local s k)) last
