-- One process joins a group at its own home, and casts: the stored run, and what follows it.
use Rattle.std.specs.Prelude.{◌≡◌, ℕ, zero, suc, false, List, [], ◌∷◌, Some, None, refl}
use Rattle.cast_types.specs.declared.refusal.Refusal.TheVariants.{TooLong}
use Rattle.cast_message.specs.declared.message.Body.TheVariants as body
use Rattle.cast_message.specs.declared.message.Message.{Message}
use Rattle.cast_message.specs.declared.site.Change.TheVariants as change
use Rattle.cast_message.specs.declared.site.SiteFrame.TheVariants as frame
use Rattle.cast_message.specs.declared.client.CastKind.TheVariants as kind
use Rattle.cast_message.specs.declared.client.Push.TheVariants as push
use Rattle.cast_events.specs.declared.event.Event.{Event}
use Rattle.cast_events.specs.declared.event.Taken.TheVariants as taken
use Rattle.cast_rules.specs.Acts.Act.{Sent, Delivered, Entered}
use Rattle.cast_rules.specs.Run.{entries_for, Ran, run_of}
use Rattle.cast_rules.proofs.Words.{site, group, uid, at, members, config, opens, asks_join}
use Rattle.cast_rules.proofs.Words.{casts, comes, install, then_run, pushed_after, p11}

events : List Event
events =
    opens ∷ asks_join 1 7 1
    ∷ comes 1 (frame.Ask (group 1) 1 change.Join p11)
    ∷ comes 1 (frame.Asked (group 1) 1 false)
    ∷ comes 1 (install 1 1 (p11 ∷ []) p11 1)
    ∷ comes 1 (frame.Installed (group 1) 1)
    ∷ casts 1 8 1 (104 ∷ 105 ∷ []) ∷ []

ran : Ran
ran = run_of 2 (site 1) (config 1 (site 1 ∷ []) (group 1 ∷ [])) events

answers : ran.answers ≡
    taken.Opened 1 ∷ taken.Nothing ∷ taken.Nothing ∷ taken.Nothing ∷ taken.Nothing ∷ taken.Nothing ∷ taken.Nothing ∷ []
unfolding ran events
answers = refl

pushes : entries_for ran.pushed 1 ≡
    push.Opened p11 ∷ push.Reply 7 None ∷ push.View (group 1) 1 (members (p11 ∷ []) p11)
    ∷ push.Reply 8 None ∷ push.Deliver (uid 1 1 p11 1) kind.Causal (104 ∷ 105 ∷ []) ∷ []
unfolding ran events
pushes = refl

sent : ran.sent ≡
    (site 1, frame.Ask (group 1) 1 change.Join p11) ∷ (site 1, frame.Asked (group 1) 1 false)
    ∷ (site 1, install 1 1 (p11 ∷ []) p11 1) ∷ (site 1, frame.Installed (group 1) 1) ∷ []
unfolding ran events
sent = refl

-- what the process did: it entered the view, sent its message and delivered it
first : Message
first = record { id = uid 1 1 p11 1; times = at 1 1 ((p11, 1) ∷ []) ∷ []; body = body.Causal (104 ∷ 105 ∷ []) }

did : ran.state.acts 1 ≡ Entered (group 1) 1 [] ∷ Sent first ∷ Delivered first ∷ []
unfolding ran events first
did = refl

-- a second cast, empty: the reply, then the delivery, and no frame
again : Ran
again = then_run ran (casts 1 9 1 [] ∷ [])

again_pushes : pushed_after 5 again ≡ push.Reply 9 None ∷ push.Deliver (uid 1 1 p11 2) kind.Causal [] ∷ []
unfolding again ran events
again_pushes = refl

again_sent : again.sent ≡ []
unfolding again ran events
again_sent = refl

-- a payload of n bytes
zeros : ℕ → List ℕ
zeros zero = []
zeros (suc n) = 0 ∷ zeros n

-- the longest payload is accepted, and one byte more is refused and changes nothing but the reply
longest : Ran
longest = then_run ran (casts 1 9 1 (zeros 16384) ∷ [])

longest_pushes : pushed_after 5 longest ≡ push.Reply 9 None ∷ push.Deliver (uid 1 1 p11 2) kind.Causal (zeros 16384) ∷ []
unfolding longest ran events zeros
longest_pushes = refl

too_long : Ran
too_long = then_run ran (casts 1 9 1 (zeros 16385) ∷ [])

too_long_pushes : pushed_after 5 too_long ≡ push.Reply 9 (Some TooLong) ∷ []
unfolding too_long ran events zeros
too_long_pushes = refl

-- no events: nothing is answered, sent or pushed
quiet : Ran
quiet = run_of 2 (site 1) (config 1 (site 1 ∷ []) (group 1 ∷ [])) []

quiet_answers : quiet.answers ≡ []
unfolding quiet
quiet_answers = refl

quiet_sent : quiet.sent ≡ []
unfolding quiet
quiet_sent = refl
