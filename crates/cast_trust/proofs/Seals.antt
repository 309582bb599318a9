-- A frame that was sent is handed over by a step, and so sealed runs are runs of steps.
use Rattle.std.proofs.Common.{◌≡◌, ℕ, zero, suc, ◌<◌, List, [], ◌∷◌, length, None, Some, Ok, Err, Result, Option, true, inl, inr}
use Rattle.std.proofs.Common.{arith, refl, sym, ap, subst, ◌∙◌}
use Rattle.std.specs.Prelude.{if◌then◌else◌, slice_get, slice_index_or}
use Rattle.cast_types.specs.declared.names.DomainNo.{DomainNo}
use Rattle.cast_types.specs.declared.names.SiteNo.{SiteNo}
use Rattle.cast_types.specs.Names.{site_eq}
use Rattle.cast_types.specs.Sets.{is_among}
use Rattle.cast_types.proofs.Orders.{site_itself}
use Rattle.cast_message.specs.declared.site.SiteFrame.{SiteFrame}
use Rattle.cast_events.specs.declared.event.Event.{Event}
use Rattle.cast_events.specs.declared.event.Event.TheVariants as event
use Rattle.cast_frame.specs.Reading.{site_frame_of}
use Rattle.cast_frame.proofs.Sizes.{spelled_is_read}
use Rattle.cast_world.specs.Network.{Becomes, Leads, Network, event_at, event_of, hand_frame, start}
use Rattle.cast_world.specs.declared.step.Happening.{Happening}
use Rattle.cast_world.specs.declared.step.Happening.TheVariants.{Local, Sent}
use Rattle.cast_world.specs.declared.step.Step.{Step}
use Rattle.cast_world.proofs.Runs.{causal_delivery}
use Rattle.cast_trust.specs.Laws.{Comes, Keys, LeadsSealed, SealedDeliveriesAreCausal, SealedFramesAreSent, SealedRunsAreNetworks, WasSent}
use Rattle.cast_trust.specs.Laws.{domain_at}

-- what is at a place of a list
got_at : {X : Type 0} (xs : List X) (k : ℕ) (x : X) → k < length xs → slice_index_or xs k x ≡ x → slice_get xs k ≡ Some x
got_at [] k x lt at = absurd (omega (arith, lt))
got_at (y ∷ xs) zero x lt at = ap Some at
got_at (y ∷ xs) (suc k) x lt at = got_at xs k x (omega (arith, lt)) at

-- the frame that was read, or this one
abbrev read_or : {E : Type 0} → SiteFrame → Result (DomainNo × SiteNo × SiteFrame) E → SiteFrame
read_or f (Ok found) = found.2
read_or f (Err fault) = f

sent_is_handed : (w : Network) (from to : SiteNo) (bytes : List ℕ) (f : SiteFrame) → WasSent w (domain_at w to) from to bytes →
    site_frame_of bytes ≡ Ok (domain_at w to, from, f) →
    (k : ℕ) × (event_at w to (Sent k) ≡ Some (event.Frame (domain_at w to) from f))
sent_is_handed w from to bytes f (p, (k, lt, at), of, for, spelled, are) reads =
    let d = domain_at w to in
    let same : p.frame ≡ f =
    ap (read_or f) (sym (spelled_is_read d from p.frame spelled) ∙ ap site_frame_of (sym are) ∙ reads) in
    let here : site_eq p.to to ≡ true = ap (λ s. site_eq s to) for ∙ site_itself to in (
      k,
      ap (hand_frame d to) (got_at w.sent k p lt at)
          ∙ ap (λ b. if b then Some (event.Frame d p.from p.frame) else None) here
          ∙ (λ i. Some (event.Frame d (of i) (same i))),
    )

pub sealed_frames_are_sent : SealedFramesAreSent
sealed_frames_are_sent w keys from to datagram body bytes f only opens carries reads =
    sent_is_handed w from to bytes f (only body datagram bytes f opens carries reads) reads

-- the event of a step at a site of the network
event_is : (w : Network) (s : SiteNo) (what : Happening) (e : Event) → is_among site_eq s w.sites ≡ true → event_at w s what ≡ Some e →
    event_of w (record { site = s; what = what }) ≡ Some e
event_is w s what e among at = ap (λ b. if b then event_at w s what else None) among ∙ at

-- what comes to a site is the event of a step
comes_by_step : (keys : Keys) (w : Network) (s : SiteNo) (e : Event) → is_among site_eq s w.sites ≡ true → Comes keys w s e →
    (step : Step) × (step.site ≡ s) × (event_of w step ≡ Some e)
comes_by_step keys w s e among (inl own) = (record { site = s; what = Local e }, refl, event_is w s (Local e) e among own)
comes_by_step keys w s e among (inr opened) =
    let sent = sealed_frames_are_sent w (keys s opened.from) opened.from s opened.datagram opened.body opened.bytes opened.frame
    opened.trusted opened.opens opened.carried opened.read in
    (record { site = s; what = Sent sent.0 }, refl, event_is w s (Sent sent.0) e among (sent.1 ∙ ap Some (sym opened.is)))

runs_by_steps : (keys : Keys) (events : List (SiteNo × Event)) (w v : Network) → LeadsSealed keys w events v →
    (steps : List Step) × Leads w steps v
runs_by_steps keys [] w v same = ([], same)
runs_by_steps keys (at ∷ events) w v (u, among, comes, becomes, later) =
    let first = comes_by_step keys w at.0 at.1 among comes in
    let others = runs_by_steps keys events u v later in
    let here : Becomes w first.0.site (Some at.1) u = subst (λ (s : SiteNo). Becomes w s (Some at.1) u) (sym first.1) becomes in (
      first.0 ∷ others.0,
      (u, subst (λ (o : Option Event). Becomes w first.0.site o u) (sym first.2) here, others.1),
    )

pub sealed_runs_are_networks : SealedRunsAreNetworks
sealed_runs_are_networks sites config keys events w home leads =
    let run = runs_by_steps keys events (start sites config) w leads in
    (run.0, record { home = home; leads = run.1 })

pub sealed_deliveries_are_causal : SealedDeliveriesAreCausal
sealed_deliveries_are_causal sites config keys events w home leads =
    let run = sealed_runs_are_networks sites config keys events w home leads in
    causal_delivery sites config run.0 w run.1
