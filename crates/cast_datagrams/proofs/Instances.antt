-- The run of `cast_sites::proofs::Schedules` over datagrams, and what the laws say of it there, which the run does not show.
-- A law cannot come to say less without one of these failing.
use Rattle.std.proofs.Common.{◌≡◌, ◌≤◌, ℕ, zero, suc, Bool, true, false, List, [], ◌∷◌, Some, Contains, refl, sym, ap, subst, ◌∙◌, arith}
use Rattle.std.proofs.Common.{inl, inr, map}
use Rattle.std.specs.Prelude.{◌==◌, Option, None, if◌then◌else◌, is_some, not, slice_get}
use Rattle.std.specs.List.{AllByRecursion, list_all, list_any}
use Rattle.std.proofs.lemmas.Bool.{false≢true}
use Rattle.std.proofs.lemmas.List.Elements.{All-contains, All-from_recursion}
use Rattle.cast_types.specs.Names.{site_eq}
use Rattle.cast_types.specs.declared.names.DomainNo.{DomainNo}
use Rattle.cast_types.specs.declared.names.SiteNo.{SiteNo}
use Rattle.cast_types.specs.declared.refusal.Refusal.TheVariants.{Slow}
use Rattle.cast_message.specs.declared.client.CastKind.TheVariants as kind
use Rattle.cast_message.specs.declared.client.Push.{Push}
use Rattle.cast_message.specs.declared.message.Body.{Body}
use Rattle.cast_message.specs.declared.message.Body.TheVariants as body
use Rattle.cast_message.specs.declared.site.SiteFrame.{SiteFrame}
use Rattle.cast_message.specs.declared.site.SiteFrame.TheVariants.{Data}
use Rattle.cast_message.specs.declared.client.Push.TheVariants as push
use Rattle.cast_delay.proofs.MemberLemmas.{member_any}
use Rattle.cast_events.specs.declared.config.DomainConfig.{DomainConfig}
use Rattle.cast_events.specs.declared.event.Event.{Event}
use Rattle.cast_events.specs.declared.event.Event.TheVariants as event
use Rattle.cast_order.specs.Order.{known_order}
use Rattle.cast_outbox.specs.Outboxes.{outboxes_in}
use Rattle.cast_timer.specs.Rows.{owed_in}
use Rattle.cast_world.specs.HappenedBefore.{acts_of}
use Rattle.cast_world.specs.Network.{Network}
use Rattle.cast_world.specs.Programs.News.{Cast as Told, View}
use Rattle.cast_world.specs.Programs.{all_done, all_told}
use Rattle.cast_world.specs.declared.step.Packet.{Packet}
use Rattle.cast_world.specs.declared.step.Step.{Step}
use Rattle.cast_world.proofs.Homes.{site_among}
use Rattle.cast_world.proofs.Runs.{got_there, some_is}
use Rattle.cast_world.proofs.Schedules.{group, proc, site, uid}
use Rattle.cast_sites.specs.Daemons.{DaemonNetwork, hand_tagged}
use Rattle.cast_sites.specs.Laws.{AgreeOnHomeOf, AreToldLawfully, IsNetworkOf, pushed_in}
use Rattle.cast_sites.proofs.Schedules.{cast, conf, domain, end, ended, met, reaches, served, sites, told_1_2}
use Rattle.cast_datagrams.specs.Datagrams.{DatagramNetwork, DatagramsReach, IsReceived}
use Rattle.cast_datagrams.specs.Laws.{AreNumberedFromOne}
use Rattle.cast_datagrams.specs.Typed.{FitsSent}
use Rattle.cast_datagrams.proofs.Datagrams.{datagrams_are_told, received_frames_were_sent}
use Rattle.cast_datagrams.proofs.Fits.{all_pass, fits_sent, passes_sent}
use Rattle.cast_datagrams.proofs.Runs.{frames_are_datagrams}

-- Its configurations

is_conf : (s : SiteNo) (c : DomainConfig) → Contains (served s) c → (d : ℕ) × (1 ≤ d) × (c ≡ conf d s.0)
is_conf s c (zero, lt, at) = (1, omega arith, sym at)
is_conf s c (suc zero, lt, at) = (2, omega arith, sym at)
is_conf s c (suc (suc k), lt, at) = absurd (omega (arith, lt))

home_of : (s : SiteNo) (c : DomainConfig) → Contains (served s) c → c.home ≡ site c.domain.0
home_of s c at = subst (λ (b : DomainConfig). b.home ≡ site b.domain.0) (sym (is_conf s c at).2) refl

agree : (d : DomainNo) → AgreeOnHomeOf sites served d
agree d s t b c one two =
    home_of s b one.listed ∙ ap (λ (n : DomainNo). site n.0) (one.number ∙ sym two.number) ∙ sym (home_of t c two.listed)

site_from_one : (s : SiteNo) → Contains sites s → 1 ≤ s.0
site_from_one s (zero, lt, at) = subst (λ (t : SiteNo). 1 ≤ t.0) at (omega arith)
site_from_one s (suc zero, lt, at) = subst (λ (t : SiteNo). 1 ≤ t.0) at (omega arith)
site_from_one s (suc (suc k), lt, at) = absurd (omega (arith, lt))

numbered : AreNumberedFromOne sites served
numbered s c among at =
    let is = is_conf s c at in (
      site_from_one s (site_among sites s among),
      subst (λ (b : DomainConfig). 1 ≤ b.domain.0) (sym is.2) is.1,
      subst (λ (b : DomainConfig). AllByRecursion (λ g. 1 ≤ g.0) b.groups) (sym is.2) (omega arith, tt),
    )

-- Its frames

abbrev addressed : DomainNo × Packet → DomainNo × SiteNo × SiteFrame
addressed x = (x.0, x.1.to, x.1.frame)

all_pass_there : list_all (λ (x : DomainNo × Packet). passes_sent (addressed x)) end.sent ≡ true
unfolding owed_in outboxes_in known_order met cast ended
all_pass_there = refl

each_fits : (d : DomainNo) (p : Packet) → Contains end.sent (d, p) → FitsSent (d, p.to, p.frame) × AgreeOnHomeOf sites served d
each_fits d p at =
    let Fits : DomainNo × Packet → Type 0 = λ x. FitsSent (addressed x) in
    let one : (x : DomainNo × Packet) → passes_sent (addressed x) ≡ true → Fits x = λ x pass. fits_sent (addressed x) pass in (
      All-contains Fits end.sent (d, p)
          (All-from_recursion Fits end.sent (all_pass Fits (λ x. passes_sent (addressed x)) one end.sent all_pass_there)) at,
      agree d,
    )

-- It is a run over datagrams

abbrev steps : List Step
steps = map (λ m. m.0) ended.moves

pub over_datagrams :
    (events : List (SiteNo × Event)) × (m : DatagramNetwork) × DatagramsReach sites served events m × (m.daemons ≡ end)
over_datagrams = frames_are_datagrams sites served steps end reaches (omega arith, (omega arith, tt)) numbered each_fits

abbrev wires : DatagramNetwork
wires = over_datagrams.1

-- What domain 1 has there is a network of its own, of which the laws of what programs are told hold

own_network :
    (own : List Step) × (w : Network) × IsNetworkOf sites served (domain 1) wires.daemons own w
    × AreToldLawfully w (pushed_in (domain 1) wires.daemons)
own_network = datagrams_are_told sites served over_datagrams.0 wires (domain 1) over_datagrams.2 (agree (domain 1))

told_there :
    pushed_in (domain 1) wires.daemons (proc 2 1)
    ≡ push.Opened (proc 2 1) ∷ push.Reply 7 None
    ∷ push.View (group 1) 2 (record { list = proc 1 1 ∷ proc 2 1 ∷ []; holder = Some (proc 1 1) })
    ∷ push.Deliver (uid 1 2 (proc 1 1) 1) kind.Causal (65 ∷ []) ∷ push.Deliver (uid 1 2 (proc 1 1) 2) kind.Atomic (66 ∷ [])
    ∷ push.Deliver (uid 1 2 (proc 1 1) 4) kind.Causal (69 ∷ []) ∷ []
told_there = ap (λ n. pushed_in (domain 1) n (proc 2 1)) over_datagrams.3 ∙ told_1_2

is_closed : Push → Bool
is_closed (push.Closed refusal) = true
is_closed _ = false

-- what is told to 2.1 is all that its process did there: it entered view 2, and delivered x, y and the cast after them
did_there :
    all_done (acts_of own_network.1 (proc 2 1))
    ≡ View (group 1) 2 ∷ Told (uid 1 2 (proc 1 1) 1) kind.Causal (65 ∷ []) ∷ Told (uid 1 2 (proc 1 1) 2) kind.Atomic (66 ∷ [])
    ∷ Told (uid 1 2 (proc 1 1) 4) kind.Causal (69 ∷ []) ∷ []
unfolding is_closed
did_there = elim (own_network.3.all (proc 2 1)) [
  | inl is ↦ sym is ∙ ap all_told told_there
  | inr (last, is, closes) ↦
      absurd (false≢true (ap (list_any is_closed) (sym told_there)
      ∙ member_any is_closed (pushed_in (domain 1) wires.daemons (proc 2 1)) (push.Closed Slow) closes refl))
]

-- What 1.1 of domain 2 casts as memory runs out, and again once its domain is halted there, is read by no site

abbrev is_lost : Body → Bool
is_lost (body.Causal (n ∷ [])) = n == 68
is_lost _ = false

abbrev bears_lost : Event → Bool
bears_lost (event.Frame d from (Data m)) = is_lost m.body
bears_lost _ = false

abbrev framed : DomainNo × Packet → Event
framed x = event.Frame x.0 x.1.from x.1.frame

none_sent : list_all (λ (x : DomainNo × Packet). not (bears_lost (framed x))) end.sent ≡ true
unfolding owed_in outboxes_in known_order met cast ended
none_sent = refl

handed_is : (x : DomainNo × Packet) (e : Event) (b : Bool) → (if b then Some (framed x) else None) ≡ Some e → framed x ≡ e
handed_is x e true is = some_is (framed x) e is
handed_is x e false is = absurd (false≢true (ap is_some is))

handed_was_sent : (to : SiteNo) (sent : List (DomainNo × Packet)) (e : Event) (k : ℕ) (o : Option (DomainNo × Packet)) →
    slice_get sent k ≡ o → hand_tagged to o ≡ Some e → (x : DomainNo × Packet) × Contains sent x × (framed x ≡ e)
handed_was_sent to sent e k None at is = absurd (false≢true (ap is_some is))
handed_was_sent to sent e k (Some x) at is = (x, got_there sent k x at, handed_is x e (site_eq x.1.to to) is)

never_read : (to : SiteNo) (e : Event) → IsReceived wires.given to e → bears_lost e ≡ true → ⊥
never_read to e received lost =
    let came = received_frames_were_sent sites served over_datagrams.0 wires to e over_datagrams.2 received in
    let x = handed_was_sent to wires.daemons.sent e came.0 (slice_get wires.daemons.sent came.0) refl came.1 in
    let among : Contains end.sent x.0 = subst (λ (n : DaemonNetwork). Contains n.sent x.0) over_datagrams.3 x.1 in
    let bears : bears_lost (framed x.0) ≡ true = ap bears_lost x.2 ∙ lost in
    let IsKept : DomainNo × Packet → Type 0 = λ y. not (bears_lost (framed y)) ≡ true in
    let one : (y : DomainNo × Packet) → not (bears_lost (framed y)) ≡ true → IsKept y = λ y pass. pass in
    let kept : IsKept x.0 =
    All-contains IsKept end.sent x.0
    (All-from_recursion IsKept end.sent (all_pass IsKept (λ y. not (bears_lost (framed y))) one end.sent none_sent)) among in
    false≢true (ap not (sym bears) ∙ kept)
