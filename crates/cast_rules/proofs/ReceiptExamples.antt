-- What is kept, acknowledged and sent again, by worked examples.
use Rattle.std.specs.Prelude.{◌≡◌, ℕ, [], ◌∷◌, refl, Some, None, false}
use Rattle.cast_types.specs.declared.refusal.Refusal.TheVariants.{HeldFull}
use Rattle.cast_message.specs.declared.message.Body.TheVariants as body
use Rattle.cast_message.specs.declared.message.Message.{Message}
use Rattle.cast_message.specs.declared.site.SiteFrame.TheVariants as frame
use Rattle.cast_message.specs.declared.client.CastKind.TheVariants as kind
use Rattle.cast_message.specs.declared.client.Push.TheVariants as push
use Rattle.cast_events.specs.declared.config.DomainConfig.{DomainConfig}
use Rattle.cast_events.specs.declared.event.Event.{Event}
use Rattle.cast_events.specs.declared.event.Event.TheVariants as event
use Rattle.cast_rules.specs.Run.{Ran, run_of}
use Rattle.cast_rules.proofs.Words.{site, group, uid, at, alone, config, opens, asks_join, casts}
use Rattle.cast_rules.proofs.Words.{comes, data_from, install, then_run, pushed_after, p11, p21}

-- 1.1 is in view 2 of group 1 with 2.1, the home is site 9, and one message may be kept
holds_one : DomainConfig
holds_one =
    record (config 9 (site 1 ∷ site 2 ∷ site 9 ∷ []) (group 1 ∷ [])) {
      quotas = record { sessions = 16; held = 1; outbox = 256; resend = 200 };
    }

narrow : Ran
unfolding holds_one
narrow = run_of 2 (site 1) holds_one
    (opens ∷ asks_join 1 7 1 ∷ comes 9 (frame.Asked (group 1) 1 false) ∷ comes 9 (install 1 2 (p11 ∷ p21 ∷ []) p11 1) ∷ [])

-- the message that 1.1 casts after it has delivered the first one of 2.1
answer : Message
answer = record { id = uid 1 2 p11 1; times = at 1 2 ((p11, 1) ∷ (p21, 1) ∷ []) ∷ []; body = body.Causal [] }

-- a message of 2.1 comes, a cast finds no room, the message is told to be stable, and a cast finds room
two_casts : Ran
unfolding narrow holds_one
two_casts = then_run narrow (data_from 2 (alone 1 2 p21 1) ∷ casts 1 8 1 [] ∷ comes 2 (frame.Stable (uid 1 2 p21 1)) ∷ casts 1 9 1 [] ∷ [])

two_casts_pushes : pushed_after 3 two_casts ≡
    push.Deliver (uid 1 2 p21 1) kind.Causal [] ∷ push.Reply 8 (Some HeldFull) ∷ push.Reply 9 None
    ∷ push.Deliver (uid 1 2 p11 1) kind.Causal [] ∷ []
unfolding two_casts narrow holds_one
two_casts_pushes = refl

two_casts_sent : two_casts.sent ≡ (site 2, frame.Ack (uid 1 2 p21 1)) ∷ (site 2, frame.Data answer) ∷ []
unfolding two_casts narrow holds_one answer
two_casts_sent = refl

ticks : ℕ → Event
ticks t = event.Tick t

-- the cast is sent again at 200; a tick that is past changes nothing, and neither does one before it is due again
ticked : Ran
unfolding two_casts narrow holds_one ticks
ticked = then_run two_casts (ticks 200 ∷ ticks 150 ∷ ticks 200 ∷ [])

ticked_sent : ticked.sent ≡ (site 2, frame.Data answer) ∷ []
unfolding ticked two_casts narrow holds_one answer ticks
ticked_sent = refl

-- once it is acknowledged it is stable, and not sent again; the same acknowledgement is answered again
acknowledged : Ran
unfolding ticked two_casts narrow holds_one ticks
acknowledged = then_run ticked (comes 2 (frame.Ack (uid 1 2 p11 1)) ∷ ticks 400 ∷ comes 2 (frame.Ack (uid 1 2 p11 1)) ∷ [])

acknowledged_sent : acknowledged.sent ≡ (site 2, frame.Stable (uid 1 2 p11 1)) ∷ (site 2, frame.Stable (uid 1 2 p11 1)) ∷ []
unfolding acknowledged ticked two_casts narrow holds_one ticks
acknowledged_sent = refl

-- there is room for the next message of 2.1; its acknowledgement is sent again
once_more : Ran
unfolding acknowledged ticked two_casts narrow holds_one ticks
once_more = then_run acknowledged (data_from 2 (alone 1 2 p21 2) ∷ ticks 600 ∷ [])

once_more_sent : once_more.sent ≡ (site 2, frame.Ack (uid 1 2 p21 2)) ∷ (site 2, frame.Ack (uid 1 2 p21 2)) ∷ []
unfolding once_more acknowledged ticked two_casts narrow holds_one ticks
once_more_sent = refl

once_more_pushes : pushed_after 7 once_more ≡ push.Deliver (uid 1 2 p21 2) kind.Causal [] ∷ []
unfolding once_more acknowledged ticked two_casts narrow holds_one ticks
once_more_pushes = refl

-- without an acknowledgement one cast finds room, and the next one none
no_answer : Ran
unfolding narrow holds_one
no_answer = then_run narrow (casts 1 8 1 [] ∷ casts 1 9 1 [] ∷ [])

no_answer_pushes : pushed_after 3 no_answer
    ≡ push.Reply 8 None ∷ push.Deliver (uid 1 2 p11 1) kind.Causal [] ∷ push.Reply 9 (Some HeldFull) ∷ []
unfolding no_answer narrow holds_one
no_answer_pushes = refl

-- an acknowledgement of an older view is none
older : Ran
unfolding no_answer narrow holds_one
older = then_run no_answer (comes 2 (frame.Ack (uid 1 1 p11 1)) ∷ casts 1 9 1 [] ∷ [])

older_sent : older.sent ≡ []
unfolding older no_answer narrow holds_one
older_sent = refl
