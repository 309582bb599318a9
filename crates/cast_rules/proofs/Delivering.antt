-- In which order the processes of a site deliver, by worked examples.
use Rattle.std.specs.Prelude.{◌≡◌, false, [], ◌∷◌, refl}
use Rattle.cast_types.specs.declared.names.Proc.{Proc}
use Rattle.cast_message.specs.declared.site.SiteFrame.TheVariants as frame
use Rattle.cast_message.specs.declared.client.CastKind.TheVariants as kind
use Rattle.cast_order.specs.Order.{known_order}
use Rattle.cast_rules.specs.Run.{Ran, run_of}
use Rattle.cast_rules.proofs.Words.{site, group, proc, uid, alone, config, opens, asks_join}
use Rattle.cast_rules.proofs.Words.{casts_as, comes, data_from, install, then_run, p11, p21}

p12 : Proc
p12 = proc 1 2

-- 1.1 and 1.2 are in view 2 of group 1 with 2.1; 1.2 is the holder, and the home is site 9
two_here : Ran
unfolding p12
two_here = run_of 2 (site 1) (config 9 (site 1 ∷ site 2 ∷ site 9 ∷ []) (group 1 ∷ []))
    (opens ∷ opens ∷ asks_join 1 7 1 ∷ asks_join 2 8 1 ∷ comes 9 (frame.Asked (group 1) 1 false) ∷ comes 9 (frame.Asked (group 1) 2 false)
    ∷ comes 9 (install 1 2 (p11 ∷ p12 ∷ p21 ∷ []) p12 2) ∷ [])

-- what is ready for both is delivered by serial
both_ready : Ran
unfolding two_here p12
both_ready = then_run two_here (data_from 2 (alone 1 2 p21 1) ∷ [])

both_ready_deliveries : both_ready.state.deliveries ≡ (p11, uid 1 2 p21 1) ∷ (p12, uid 1 2 p21 1) ∷ []
unfolding both_ready two_here p12
both_ready_deliveries = refl

-- 1.1 waits for the place of its ABCAST. The holder delivers it, and then lists it; in the next pass 1.1 delivers it and the
-- set-order message, and the holder its own set-order message
holder_first : Ran
unfolding known_order two_here p12
holder_first = then_run two_here (casts_as kind.Atomic 1 9 1 [] ∷ [])

holder_first_deliveries : holder_first.state.deliveries ≡
    (p12, uid 1 2 p11 1) ∷ (p11, uid 1 2 p11 1) ∷ (p11, uid 1 2 p12 1) ∷ (p12, uid 1 2 p12 1) ∷ []
unfolding known_order holder_first two_here p12
holder_first_deliveries = refl
