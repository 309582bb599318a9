-- A message waits for what happened before it, and is received once.
use Rattle.std.specs.Prelude.{◌≡◌, [], ◌∷◌, refl}
use Rattle.cast_message.specs.declared.site.SiteFrame.TheVariants as frame
use Rattle.cast_message.specs.declared.client.CastKind.TheVariants as kind
use Rattle.cast_message.specs.declared.client.Push.TheVariants as push
use Rattle.cast_rules.specs.Run.{Ran}
use Rattle.cast_rules.proofs.Words.{site, uid, alone, data_from, in_second_view, then_run, pushed_after, p21}

-- the second message of 2.1 comes before the first
second_alone : Ran
second_alone = then_run in_second_view (data_from 2 (alone 1 2 p21 2) ∷ [])

second_alone_pushes : pushed_after 3 second_alone ≡ []
unfolding second_alone
second_alone_pushes = refl

second_alone_sent : second_alone.sent ≡ (site 2, frame.Ack (uid 1 2 p21 2)) ∷ []
unfolding second_alone
second_alone_sent = refl

both : Ran
both = then_run in_second_view (data_from 2 (alone 1 2 p21 2) ∷ data_from 2 (alone 1 2 p21 1) ∷ [])

both_pushes : pushed_after 3 both ≡ push.Deliver (uid 1 2 p21 1) kind.Causal [] ∷ push.Deliver (uid 1 2 p21 2) kind.Causal [] ∷ []
unfolding both
both_pushes = refl

-- the same message three times: three acknowledgements, one delivery
thrice : Ran
thrice = then_run in_second_view (data_from 2 (alone 1 2 p21 1) ∷ data_from 2 (alone 1 2 p21 1) ∷ data_from 2 (alone 1 2 p21 1) ∷ [])

thrice_pushes : pushed_after 3 thrice ≡ push.Deliver (uid 1 2 p21 1) kind.Causal [] ∷ []
unfolding thrice
thrice_pushes = refl

thrice_sent : thrice.sent ≡
    (site 2, frame.Ack (uid 1 2 p21 1)) ∷ (site 2, frame.Ack (uid 1 2 p21 1)) ∷ (site 2, frame.Ack (uid 1 2 p21 1)) ∷ []
unfolding thrice
thrice_sent = refl
