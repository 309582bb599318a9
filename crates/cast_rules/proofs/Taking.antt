-- What programs take, and what becomes of one that does not; how many sessions may be open, and quotas that change.
use Rattle.std.specs.Prelude.{[], ◌∷◌, Some, None, ◌≡◌, false}
use Rattle.std.proofs.Common.{refl}
use Rattle.cast_types.specs.declared.refusal.Refusal.TheVariants.{NotOpen, TooManySessions, HeldFull, Slow, OutOfRange}
use Rattle.cast_message.specs.declared.client.Push.TheVariants as push
use Rattle.cast_message.specs.declared.client.CastKind.TheVariants as kind
use Rattle.cast_message.specs.declared.site.Change.TheVariants as change
use Rattle.cast_message.specs.declared.site.SiteFrame.TheVariants as frame
use Rattle.cast_events.specs.declared.config.DomainConfig.{DomainConfig}
use Rattle.cast_events.specs.declared.event.Taken.TheVariants as taken
use Rattle.cast_quota.specs.declared.quotas.Quotas.{Quotas}
use Rattle.cast_quota.specs.declared.quotas.QuotaName.TheVariants.{Sessions, Held, Outbox}
use Rattle.cast_quota.specs.Quotas.{usual}
use Rattle.cast_rules.specs.Run.{Ran, run_of, entries_for}
use Rattle.cast_rules.proofs.Words.{site, group, proc, uid, members, alone, config, opens, asks_join, casts, is_gone, takes}
use Rattle.cast_rules.proofs.Words.{sets, comes, data_from, install, in_second_view, then_run, pushed_after, p11, p21}

-- a domain of this site alone, which may use so much
abbrev allowed : Quotas → DomainConfig
allowed quotas = record (config 1 (site 1 ∷ []) (group 1 ∷ [])) { quotas = quotas }

-- an outbox of two entries holds the third one off: in place of the view the program is told that it is slow, and its process, which has
-- entered the view, leaves it at once; then the home is told of the view. What the program was told may still be taken
slow : Ran
slow = run_of 2 (site 1) (allowed (record usual { outbox = 2 }))
    (opens ∷ asks_join 1 7 1 ∷ comes 1 (frame.Asked (group 1) 1 false) ∷ comes 1 (install 1 1 (p11 ∷ []) p11 1)
    ∷ takes 1 10 ∷ takes 1 10 ∷ asks_join 1 8 1 ∷ [])

slow_pushed : entries_for slow.pushed 1 ≡ push.Opened p11 ∷ push.Reply 7 None ∷ push.Closed Slow ∷ []
unfolding slow
slow_pushed = refl

slow_answers : slow.answers ≡
    taken.Opened 1 ∷ taken.Nothing ∷ taken.Nothing ∷ taken.Nothing
    ∷ taken.Entries (push.Opened p11 ∷ push.Reply 7 None ∷ push.Closed Slow ∷ []) ∷ taken.Entries [] ∷ taken.Refused NotOpen ∷ []
unfolding slow
slow_answers = refl

slow_sent : slow.sent ≡
    (site 1, frame.Ask (group 1) 1 change.Join p11)
    ∷ (site 1, frame.Ask (group 1) 2 change.Leave p11) ∷ (site 1, frame.Installed (group 1) 1) ∷ []
unfolding slow
slow_sent = refl

-- taken in time, the view is pushed
in_time : Ran
in_time = run_of 2 (site 1) (allowed (record usual { outbox = 2 }))
    (opens ∷ asks_join 1 7 1 ∷ takes 1 1 ∷ comes 1 (frame.Asked (group 1) 1 false) ∷ comes 1 (install 1 1 (p11 ∷ []) p11 1) ∷ [])

in_time_pushed : entries_for in_time.pushed 1 ≡ push.Opened p11 ∷ push.Reply 7 None ∷ push.View (group 1) 1 (members (p11 ∷ []) p11) ∷ []
unfolding in_time
in_time_pushed = refl

-- a delivery whose push did not fit still counts: the message is let go where it is stable, and the process leaves at that push
lagging : Ran
lagging = then_run in_second_view (sets Outbox 3 ∷ data_from 2 (alone 1 2 p21 1) ∷ [])

lagging_pushed : pushed_after 3 lagging ≡ push.Closed Slow ∷ []
unfolding lagging
lagging_pushed = refl

lagging_delivered : lagging.state.deliveries ≡ (p11, uid 1 2 p21 1) ∷ []
unfolding lagging
lagging_delivered = refl

lagging_sent : lagging.sent ≡ (site 2, frame.Ack (uid 1 2 p21 1)) ∷ (site 9, frame.Ask (group 1) 2 change.Leave p11) ∷ []
unfolding lagging
lagging_sent = refl

-- one session is allowed: a second one is refused until the first is gone, and then has the next serial; a quota out of its range is
-- refused
one_session : Ran
one_session = run_of 2 (site 1) (allowed (record usual { sessions = 1 }))
    (opens ∷ opens ∷ is_gone 1 ∷ opens ∷ sets Held 0 ∷ sets Held 256 ∷ [])

one_session_answers : one_session.answers ≡
    taken.Opened 1 ∷ taken.Refused TooManySessions ∷ taken.Nothing ∷ taken.Opened 2 ∷ taken.Refused OutOfRange ∷ taken.Nothing ∷ []
unfolding one_session
one_session_answers = refl

one_session_pushed : entries_for one_session.pushed 2 ≡ push.Opened (proc 1 2) ∷ []
unfolding one_session
one_session_pushed = refl

-- what is taken: 1 to 256 entries of a session that is not gone
out_of_range : Ran
out_of_range = then_run in_second_view (takes 1 0 ∷ takes 1 257 ∷ takes 8 1 ∷ takes 8 0 ∷ takes 1 2 ∷ is_gone 1 ∷ takes 1 1 ∷ [])

out_of_range_answers : out_of_range.answers ≡
    taken.Refused OutOfRange ∷ taken.Refused OutOfRange ∷ taken.Refused NotOpen ∷ taken.Refused NotOpen
    ∷ taken.Entries (push.Opened p11 ∷ push.Reply 7 None ∷ []) ∷ taken.Nothing ∷ taken.Refused NotOpen ∷ []
unfolding out_of_range
out_of_range_answers = refl

-- a lower quota closes nobody, and is what the next test asks; a higher one lets a cast in that was refused
lower : Ran
lower =
    then_run in_second_view (sets Held 1 ∷ casts 1 8 1 [] ∷ casts 1 9 1 [] ∷ sets Held 2 ∷ casts 1 10 1 [] ∷ sets Sessions 1 ∷ opens ∷ [])

lower_pushed : pushed_after 3 lower ≡
    push.Reply 8 None ∷ push.Deliver (uid 1 2 p11 1) kind.Causal [] ∷ push.Reply 9 (Some HeldFull)
    ∷ push.Reply 10 None ∷ push.Deliver (uid 1 2 p11 2) kind.Causal [] ∷ []
unfolding lower
lower_pushed = refl

lower_casts : lower.state.casts ≡ 2
unfolding lower
lower_casts = refl

lower_answers : lower.answers ≡
    taken.Nothing ∷ taken.Nothing ∷ taken.Nothing ∷ taken.Nothing ∷ taken.Nothing ∷ taken.Nothing ∷ taken.Refused TooManySessions ∷ []
unfolding lower
lower_answers = refl
