-- Members that are put out of a view: by an Out, and by an Install that skips a view.
use Rattle.std.proofs.Common.{◌≡◌, ℕ, true, false, [], ◌∷◌, None, refl, ap}
use Rattle.std.specs.Prelude.{nat_lt, if◌then◌else◌}
use Rattle.cast_types.specs.declared.names.GroupNo.{GroupNo}
use Rattle.cast_message.specs.declared.client.CastKind.TheVariants as kind
use Rattle.cast_message.specs.declared.client.Push.TheVariants as push
use Rattle.cast_message.specs.declared.site.Change.TheVariants as change
use Rattle.cast_message.specs.declared.site.SiteFrame.TheVariants as frame
use Rattle.cast_rules.specs.State.{State}
use Rattle.cast_rules.specs.History.{history}
use Rattle.cast_rules.specs.Rules.Views.{no_members, change_view, on_out}
use Rattle.cast_rules.specs.Run.{entries_for, Ran, run_in}
use Rattle.cast_rules.proofs.Words.{site, group, proc, uid, members, alone, opens, asks_join, comes}
use Rattle.cast_rules.proofs.Words.{data_from, install, p11, p21, in_second_view, then_run, pushed_after}

-- The member has delivered a message of view 2. Told of view 4 it is put out; the message is kept no longer, and its Ack owed no more
out : Ran
out = then_run in_second_view (data_from 2 (alone 1 2 p21 1) ∷ comes 2 (frame.Out (group 1) 4) ∷ [])

out_pushes : pushed_after 3 out ≡ push.Deliver (uid 1 2 p21 1) kind.Causal [] ∷ push.Ejected (group 1) 4 ∷ []
unfolding out
out_pushes = refl

out_sent : out.sent ≡ (site 2, frame.Ack (uid 1 2 p21 1)) ∷ []
unfolding out
out_sent = refl

out_kept : out.state.kept ≡ []
unfolding out
out_kept = refl

out_owed : out.state.owed ≡ []
unfolding out
out_owed = refl

-- it joins again, and is in view 5
back : Ran
back =
    run_in 1 (record { answers = []; sent = []; pushed = out.pushed; state = out.state })
    (asks_join 1 9 1 ∷ comes 9 (install 1 5 (p11 ∷ []) p11 2) ∷ [])

back_pushes : pushed_after 5 back ≡ push.Reply 9 None ∷ push.View (group 1) 5 (members (p11 ∷ []) p11) ∷ []
unfolding back out
back_pushes = refl

-- an Out that comes again, and each of a number that the site has reached, changes nothing
reached_out_changes_nothing : (s : State) (g : GroupNo) (n : ℕ) → nat_lt (s.group g).number n ≡ false → on_out history s g n ≡ s
reached_out_changes_nothing s g n reached = ap (λ b. if b then change_view history true s g n no_members 0 [] else s) reached

-- a second process joins. An Install that skips view 3 puts out the member first, though it names it, and takes in the one that joins
skipped : Ran
skipped = then_run in_second_view (
    opens ∷ asks_join 2 9 1 ∷ comes 9 (frame.Asked (group 1) 2 false)
    ∷ comes 9 (install 1 4 (p11 ∷ proc 1 2 ∷ []) (proc 1 2) 2) ∷ [])

skipped_pushes : pushed_after 3 skipped ≡ push.Ejected (group 1) 4 ∷ []
unfolding skipped
skipped_pushes = refl

skipped_others : entries_for skipped.pushed 2 ≡
    push.Opened (proc 1 2) ∷ push.Reply 9 None ∷ push.View (group 1) 4 (members (p11 ∷ proc 1 2 ∷ []) (proc 1 2)) ∷ []
unfolding skipped
skipped_others = refl

skipped_sent : skipped.sent ≡ (site 9, frame.Ask (group 1) 2 change.Join (proc 1 2)) ∷ (site 9, frame.Installed (group 1) 4) ∷ []
unfolding skipped
skipped_sent = refl

-- a message of an older view is answered where its site has no member any more, and ignored where it has one
outdated : Ran
outdated = then_run in_second_view (data_from 9 (alone 1 1 (proc 9 1) 3) ∷ data_from 2 (alone 1 1 p21 3) ∷ [])

outdated_sent : outdated.sent ≡ (site 9, frame.Out (group 1) 2) ∷ []
unfolding outdated
outdated_sent = refl
