-- What a site reads of a datagram was sent to it, so runs over datagrams are runs of steps.
use Rattle.std.proofs.Common.{◌≡◌, ◌≤◌, ℕ, zero, suc, Bool, true, List, [], ◌∷◌, ◌++◌, map, filter, Option, Some, None}
use Rattle.std.proofs.Common.{Contains, refl, sym, ap, subst, ◌∙◌, inl, inr, arith}
use Rattle.std.specs.Prelude.{◌⊎◌, ◌||◌, false, if◌then◌else◌}
use Rattle.std.specs.List.{AllByRecursion}
use Rattle.std.proofs.lemmas.Bool.{cases_Bool, eq-eqb, false≢true}
use Rattle.std.proofs.lemmas.List.Elements.{All-contains, All-from_recursion, Contains-append_cases}
use Rattle.std.proofs.lemmas.List.Elements.{Contains-append_left, Contains-append_right}
use Rattle.cast_types.specs.declared.names.DomainNo.{DomainNo}
use Rattle.cast_types.specs.declared.names.GroupNo.{GroupNo}
use Rattle.cast_types.specs.declared.names.Proc.{Proc}
use Rattle.cast_types.specs.declared.names.SiteNo.{SiteNo}
use Rattle.cast_types.specs.Names.{site_eq}
use Rattle.cast_types.specs.Sets.{is_among}
use Rattle.cast_types.proofs.Contains.{contains_here, contains_later}
use Rattle.cast_types.proofs.Orders.{same_site, site_itself}
use Rattle.cast_message.specs.declared.client.Push.{Push}
use Rattle.cast_message.specs.declared.site.SiteFrame.{SiteFrame}
use Rattle.cast_events.specs.declared.config.DomainConfig.{DomainConfig}
use Rattle.cast_events.specs.declared.event.Event.{Event}
use Rattle.cast_events.specs.declared.event.Event.TheVariants as event
use Rattle.cast_frame.specs.Spelled.{IsSpelled}
use Rattle.cast_frame.specs.Spelling.{spelled_site}
use Rattle.cast_frame.proofs.Sizes.{spelled_is_read}
use Rattle.cast_link.specs.Bundles.{BeginsAsBundle, IsUnpacked}
use Rattle.cast_link.specs.Laws.{frames_in}
use Rattle.cast_link.specs.Links.{datagram_of, datagrams_of}
use Rattle.cast_link.specs.Packing.{Carry, IsCarried, to_site}
use Rattle.cast_link.specs.declared.bundle.Unpacked.{Unpacked}
use Rattle.cast_link.specs.declared.bundle.Unpacked.TheVariants.{Alone, Bundle, Bad}
use Rattle.cast_link.proofs.Bundles.{begins, bundles_are_unique, frames_stand_alone}
use Rattle.cast_world.proofs.Allowed.{passed}
use Rattle.cast_world.proofs.Homes.{among_kept, among_site, site_among}
use Rattle.cast_world.specs.Agreement.{delivered_of}
use Rattle.cast_world.specs.Laws.{DeliversInOrder, OrdersAgree, SameMessages, SameOrder}
use Rattle.cast_world.specs.Network.{Network, is_local, start}
use Rattle.cast_world.specs.Properties.{DeliversCausally}
use Rattle.cast_world.specs.declared.step.Happening.{Happening}
use Rattle.cast_world.specs.declared.step.Happening.TheVariants.{Local, Sent}
use Rattle.cast_world.specs.declared.step.Packet.{Packet}
use Rattle.cast_world.specs.declared.step.Step.{Step}
use Rattle.cast_sites.specs.Daemons.{DaemonNetwork, TakesEvent, TakesStep, TakesSteps, event_coming, event_taken, hand_tagged}
use Rattle.cast_sites.specs.Daemons.{DaemonsReach, in_domain, move_daemon}
use Rattle.cast_table.specs.declared.table.Table.{Table}
use Rattle.cast_table.specs.Tables.{domain_eq}
use Rattle.cast_trust.specs.Laws.{Carries}
use Rattle.cast_world.proofs.NewsRuns.{tells_lead}
use Rattle.cast_sites.specs.Laws.{AgreeOnHomeOf, AreToldLawfully, HasConfig, HoldsOfDomains, pushed_in, sites_of}
use Rattle.cast_table.proofs.Parts.{same_domain}
use Rattle.cast_table.specs.Owns.{is_configured}
use Rattle.cast_sites.proofs.Domains.{domains_agree, domains_are_networks, domains_are_told, domains_deliver_causally}
use Rattle.cast_datagrams.specs.Datagrams.{Answers, Comes, DatagramNetwork, DatagramsReach, IsReceived, IsWired, TakesEvents, WereSent}
use Rattle.cast_datagrams.specs.Datagrams.{opened_wires}
use Rattle.cast_events.specs.declared.config.DomainConfig.{DomainConfig}
use Rattle.cast_datagrams.specs.Laws.{DatagramsAgree, DatagramsAreFrames, DatagramsAreTold, DatagramsDeliverCausally, HoldsOverDatagrams}
use Rattle.cast_datagrams.specs.Laws.{ReceivedFramesWereSent, SentFramesAreSpelled, SpelledFramesAreReceived}
use Rattle.cast_datagrams.specs.Laws.{AreNumberedFromOne, WiredFramesAreReceived}
use Rattle.cast_datagrams.specs.Typed.{FitsSent, FitsType, IsByte, IsShort}
use Rattle.cast_datagrams.proofs.Apart.{spellings_of_types_differ}
use Rattle.cast_datagrams.proofs.Few.{few_in_every}
use Rattle.cast_datagrams.proofs.FromOne.{Each}
use Rattle.cast_datagrams.proofs.FromOneRuns.{sent_from_one}
use Rattle.cast_datagrams.proofs.Lists.{came_of, goes_to, got_at, stays}
use Rattle.cast_datagrams.proofs.Ranges.{frame_fits, name_fits}
use Rattle.cast_datagrams.proofs.Spelled.{is_spelled}

-- the number of a site that is one of these
site_fits : (sites : List SiteNo) (s : SiteNo) → AllByRecursion (λ (t : SiteNo). IsShort t.0) sites → is_among site_eq s sites ≡ true →
    IsShort s.0
site_fits [] s all among = absurd (false≢true among)
site_fits (t ∷ sites) s all among = elim (cases_Bool (site_eq s t)) [
  | inl same ↦ subst (λ (u : SiteNo). IsShort u.0) (sym (same_site s t same)) all.0
  | inr other ↦ site_fits sites s all.1 (rw other at among)
]

-- Datagrams

-- a frame and the numbers of its domain and its sender are values of their types
record IsTyped (d : DomainNo) (p : Packet) : Type 0 where
  domain : IsByte d.0
  from : IsShort p.from.0
  frame : FitsType p.frame

abbrev AllTyped : List (DomainNo × Packet) → Type 0
AllTyped sent = (d : DomainNo) (p : Packet) → Contains sent (d, p) → IsTyped d p

-- bytes spell a frame that was sent to a site
record Spells (sent : List (DomainNo × Packet)) (to : SiteNo) (bytes : List ℕ) : Type 0 where
  packet : DomainNo × Packet
  among : Contains sent packet
  addressed : packet.1.to ≡ to
  number : IsShort packet.1.from.0
  typed : FitsType packet.1.frame
  spelled : bytes ≡ spelled_site packet.0 packet.1.from packet.1.frame

-- a datagram for a site has such bytes alone
record HasSent (sent : List (DomainNo × Packet)) (to : SiteNo) (datagram : List ℕ) : Type 0 where
  most : ℕ
  own : List (List ℕ)
  carried : IsCarried most datagram own
  spells : (bytes : List ℕ) → Contains own bytes → Spells sent to bytes

abbrev AllSent : DatagramNetwork → Type 0
AllSent n = (to : SiteNo) (datagram : List ℕ) → Contains n.given (to, datagram) → HasSent n.daemons.sent to datagram

-- more is sent
still_spells : (sent more : List (DomainNo × Packet)) (to : SiteNo) (bytes : List ℕ) → Spells sent to bytes → Spells (sent ++ more) to bytes
still_spells sent more to bytes x =
    record {
      packet = x.packet;
      among = Contains-append_left sent more x.packet x.among;
      addressed = x.addressed;
      number = x.number;
      typed = x.typed;
      spelled = x.spelled;
    }

still_has : (sent more : List (DomainNo × Packet)) (to : SiteNo) (datagram : List ℕ) → HasSent sent to datagram →
    HasSent (sent ++ more) to datagram
still_has sent more to datagram x =
    record {
      most = x.most;
      own = x.own;
      carried = x.carried;
      spells = λ bytes at. still_spells sent more to bytes (x.spells bytes at);
    }

-- a spelling is taken for no bundle
alone : (sent : List (DomainNo × Packet)) (to : SiteNo) (bytes : List ℕ) → Spells sent to bytes → BeginsAsBundle bytes → ⊥
alone sent to bytes x begin =
    frames_stand_alone x.packet.0 x.packet.1.from x.packet.1.frame (subst BeginsAsBundle x.spelled begin)

-- what is read of a datagram is what was put in
read_of : (sent : List (DomainNo × Packet)) (to : SiteNo) (datagram : List ℕ) → HasSent sent to datagram → (u : Unpacked) →
    IsUnpacked datagram u → (bytes : List ℕ) → Contains (frames_in u) bytes → Spells sent to bytes
read_of sent to datagram x u is bytes at = go x.carried u is at
  where
    here : x.own ≡ datagram ∷ [] → Spells sent to datagram
    here one = x.spells datagram (subst (λ (l : List (List ℕ)). Contains l datagram) (sym one) (contains_here datagram []))

    go : IsCarried x.most datagram x.own → (v : Unpacked) → IsUnpacked datagram v → Contains (frames_in v) bytes → Spells sent to bytes
    go (inl one) (Alone whole) is at =
        x.spells bytes (subst (λ (l : List (List ℕ)). Contains l bytes) (ap (λ (b : List ℕ). b ∷ []) is.0 ∙ sym one) at)
    go (inl one) (Bundle frames) is at = absurd (alone sent to datagram (here one) (begins datagram frames is))
    go (inl one) Bad is at = absurd (alone sent to datagram (here one) is.0)
    go (inr shared) (Alone whole) is at = absurd (is.1 (begins datagram x.own shared.bundle))
    go (inr shared) (Bundle frames) is at =
        x.spells bytes
        (subst (λ (l : List (List ℕ)). Contains l bytes) (bundles_are_unique datagram frames x.own is shared.bundle) at)
    go (inr shared) Bad is at = absurd (is.1 x.own shared.bundle)

-- The wire of a daemon

carried_by : (most : ℕ) (datagrams frames : List (List ℕ)) → Carry most datagrams frames → (datagram : List ℕ) →
    Contains datagrams datagram →
    (own : List (List ℕ)) × IsCarried most datagram own × ((bytes : List ℕ) → Contains own bytes → Contains frames bytes)
carried_by most [] frames carry datagram at = absurd (omega (arith, at.1))
carried_by most (first ∷ datagrams) frames (own, others, is, later, are) datagram (zero, lt, same) = (
  own,
  subst (λ (d : List ℕ). IsCarried most d own) same is,
  λ bytes at. subst (λ (l : List (List ℕ)). Contains l bytes) (sym are) (Contains-append_left own others bytes at),
)
carried_by most (first ∷ datagrams) frames (own, others, is, later, are) datagram (suc k, lt, same) =
    let found = carried_by most datagrams others later datagram (k, omega (arith, lt), same) in (
      found.0,
      found.1,
      λ bytes at. subst (λ (l : List (List ℕ)). Contains l bytes) (sym are) (Contains-append_right own others bytes (found.2 bytes at)),
    )

for_site : (to : SiteNo) (datagrams : List (SiteNo × List ℕ)) (datagram : List ℕ) → Contains datagrams (to, datagram) →
    Contains (to_site to datagrams) datagram
for_site to datagrams datagram at =
    goes_to (λ (d : SiteNo × List ℕ). d.1) (filter (λ d. site_eq d.0 to) datagrams) (to, datagram)
    (stays (λ (d : SiteNo × List ℕ). site_eq d.0 to) datagrams (to, datagram) at (site_itself to))

module _ (sent : List (DomainNo × Packet)) (s : SiteNo) (frames : List (DomainNo × SiteNo × SiteFrame)) (number : IsShort s.0)
    (typed : AllByRecursion FitsSent frames) where
  abbrev tagged : DomainNo × SiteNo × SiteFrame → DomainNo × Packet
  tagged f = (f.0, record { from = s; to = f.1; frame = f.2 })

  abbrev after : List (DomainNo × Packet)
  after = sent ++ map tagged frames

  fits_of : (f : DomainNo × SiteNo × SiteFrame) → Contains frames f → FitsSent f
  fits_of f at = All-contains FitsSent frames f (All-from_recursion FitsSent frames typed) at

  -- all that was sent are values of their types
  all_typed : AllTyped sent → AllTyped after
  all_typed all d p at = elim (Contains-append_cases sent (map tagged frames) (d, p) at) [
    | inl old ↦ all d p old
    | inr new ↦
        let made = came_of tagged frames (d, p) new in
        let fits = fits_of made.0 made.1 in
        subst (λ (x : DomainNo × Packet). IsTyped x.0 x.1) made.2
        (record { domain = fits.domain; from = number; frame = fits.frame })
  ]

-- Its wire is given such frames of a site as it has sent
module _ (after : List (DomainNo × Packet)) (s : SiteNo) (frames : List (DomainNo × SiteNo × SiteFrame)) (number : IsShort s.0)
    (typed : AllTyped after) (were : WereSent after s frames) where
  spells_frame : (f : DomainNo × SiteNo × SiteFrame) (to : SiteNo) (bytes : List ℕ) → Contains frames f → f.1 ≡ to →
      bytes ≡ spelled_site f.0 s f.2 → Spells after to bytes
  spells_frame f to bytes at for is =
      record {
        packet = (f.0, record { from = s; to = f.1; frame = f.2 });
        among = were f at;
        addressed = for;
        number = number;
        typed = (typed f.0 (record { from = s; to = f.1; frame = f.2 }) (were f at)).frame;
        spelled = is;
      }

  spells_for : (to : SiteNo) (bytes : List ℕ) → Contains (to_site to (datagrams_of s frames)) bytes → Spells after to bytes
  spells_for to bytes at =
      let chosen = came_of (λ (d : SiteNo × List ℕ). d.1) (filter (λ d. site_eq d.0 to) (datagrams_of s frames)) bytes at in
      let made =
      came_of (datagram_of s) frames chosen.0 (among_kept (λ d. site_eq d.0 to) (datagrams_of s frames) chosen.0 chosen.1) in
      let for : chosen.0.0 ≡ to =
      same_site chosen.0.0 to (passed (λ d. site_eq d.0 to) (datagrams_of s frames) chosen.0 chosen.1) in
      spells_frame made.0 to bytes made.1 (ap (λ (x : SiteNo × List ℕ). x.0) made.2 ∙ for)
      (sym chosen.2 ∙ sym (ap (λ (x : SiteNo × List ℕ). x.1) made.2))

  wire_has : (datagrams : List (SiteNo × List ℕ)) → IsWired s frames datagrams → (to : SiteNo) (datagram : List ℕ) →
      Contains datagrams (to, datagram) → HasSent after to datagram
  wire_has datagrams (inl each) to datagram at =
      let made =
      came_of (datagram_of s) frames (to, datagram) (subst (λ (l : List (SiteNo × List ℕ)). Contains l (to, datagram)) each at) in
      let spells =
      spells_frame made.0 to datagram made.1 (ap (λ (x : SiteNo × List ℕ). x.0) made.2)
      (sym (ap (λ (x : SiteNo × List ℕ). x.1) made.2)) in
      record {
        most = 0;
        own = datagram ∷ [];
        carried = inl refl;
        spells = λ bytes among. only bytes spells among;
      }
    where
      only : (bytes : List ℕ) → Spells after to datagram → Contains (datagram ∷ []) bytes → Spells after to bytes
      only bytes spells (zero, lt, same) = subst (Spells after to) same spells
      only bytes spells (suc k, lt, same) = absurd (omega (arith, lt))
  wire_has datagrams (inr (most, packed)) to datagram at =
      let found =
      carried_by most (to_site to datagrams) (to_site to (datagrams_of s frames)) (packed to) datagram
      (for_site to datagrams datagram at) in
      record {
        most = most;
        own = found.0;
        carried = found.1;
        spells = λ bytes among. spells_for to bytes (found.2 bytes among);
      }

-- What is read of what a wire was given

-- one of the datagrams carries a frame
carrier_of : (most : ℕ) (datagrams frames : List (List ℕ)) → Carry most datagrams frames → (bytes : List ℕ) → Contains frames bytes →
    (datagram : List ℕ) × (own : List (List ℕ)) × Contains datagrams datagram × IsCarried most datagram own × Contains own bytes
carrier_of most [] frames none bytes at =
    let empty : Contains [] bytes = subst (λ (l : List (List ℕ)). Contains l bytes) none at in
    absurd (omega (arith, empty.1))
carrier_of most (datagram ∷ more) frames (own, others, is, later, are) bytes at =
    elim (Contains-append_cases own others bytes (subst (λ (l : List (List ℕ)). Contains l bytes) are at)) [
      | inl mine ↦ (datagram, own, contains_here datagram more, is, mine)
      | inr rest ↦
          let found = carrier_of most more others later bytes rest in
          (found.0, found.1, contains_later found.0 datagram more found.2, found.3, found.4)
    ]

-- a frame that begins as no bundle is read of what carries it
carried_is_read : (most : ℕ) (datagram bytes : List ℕ) (own : List (List ℕ)) → IsCarried most datagram own → Contains own bytes →
    (BeginsAsBundle bytes → ⊥) → Carries datagram bytes
carried_is_read most datagram bytes own (inl one) at single =
    let only : Contains (datagram ∷ []) bytes = subst (λ (l : List (List ℕ)). Contains l bytes) one at in
    let same : datagram ≡ bytes = is_only bytes only in
    (Alone datagram, (refl, λ begin. single (subst BeginsAsBundle same begin)), only)
  where
    is_only : (b : List ℕ) → Contains (datagram ∷ []) b → datagram ≡ b
    is_only b (zero, lt, same) = same
    is_only b (suc k, lt, same) = absurd (omega (arith, lt))
carried_is_read most datagram bytes own (inr shared) at single = (Bundle own, shared.bundle, at)

-- a datagram that goes to a site is one for it
back_for : (to : SiteNo) (datagrams : List (SiteNo × List ℕ)) (datagram : List ℕ) → Contains (to_site to datagrams) datagram →
    Contains datagrams (to, datagram)
back_for to datagrams datagram at =
    let chosen = came_of (λ (d : SiteNo × List ℕ). d.1) (filter (λ d. site_eq d.0 to) datagrams) datagram at in
    let for : chosen.0.0 ≡ to = same_site chosen.0.0 to (passed (λ d. site_eq d.0 to) datagrams chosen.0 chosen.1) in
    subst (Contains datagrams) (λ i. (for i, chosen.2 i)) (among_kept (λ d. site_eq d.0 to) datagrams chosen.0 chosen.1)

pub spelled_frames_are_received : SpelledFramesAreReceived
spelled_frames_are_received own frames datagrams f wired at spelled =
    record {
      datagram = found.0;
      bytes = bytes;
      domain = f.0;
      from = own;
      frame = f.2;
      addressed = found.1;
      carried = found.2;
      read = record { exact = spelled_is_read f.0 own f.2 spelled; found = (spelled, refl) };
      is = refl;
    }
  where
    bytes : List ℕ
    bytes = spelled_site f.0 own f.2

    single : BeginsAsBundle bytes → ⊥
    single = frames_stand_alone f.0 own f.2

    among : Contains (datagrams_of own frames) (f.1, bytes)
    among = goes_to (datagram_of own) frames f at

    go : IsWired own frames datagrams → (datagram : List ℕ) × Contains datagrams (f.1, datagram) × Carries datagram bytes
    go (inl each) = (
      bytes,
      subst (λ (l : List (SiteNo × List ℕ)). Contains l (f.1, bytes)) (sym each) among,
      (Alone bytes, (refl, single), contains_here bytes []),
    )
    go (inr (most, packed)) =
        let carrier =
        carrier_of most (to_site f.1 datagrams) (to_site f.1 (datagrams_of own frames)) (packed f.1) bytes
        (for_site f.1 (datagrams_of own frames) bytes among) in (
          carrier.0,
          back_for f.1 datagrams carrier.0 carrier.2,
          carried_is_read most carrier.0 bytes carrier.1 carrier.3 carrier.4 single,
        )

    found : (datagram : List ℕ) × Contains datagrams (f.1, datagram) × Carries datagram bytes
    found = go wired

-- Events

answers_keep : (n m : DatagramNetwork) (s : SiteNo) (e : Event) → IsShort s.0 → (does : Answers n s e m) →
    AllTyped (move_daemon n.daemons s does.table does.outs).sent → AllSent n → AllSent m
answers_keep n m s e number does typed all =
    subst AllSent (sym does.becomes)
    (λ to datagram at. elim (Contains-append_cases n.given does.datagrams (to, datagram) at) [
      | inl old ↦
          still_has n.daemons.sent (map (λ f. (f.0, record { from = s; to = f.1; frame = f.2 })) does.outs.frames) to datagram
          (all to datagram old)
      | inr new ↦
          wire_has (move_daemon n.daemons s does.table does.outs).sent s does.wired number typed does.sent does.datagrams does.given to
          datagram new
    ])

received_is_sent : (n : DatagramNetwork) (to : SiteNo) (e : Event) → AllSent n → IsReceived n.given to e →
    (k : ℕ) × (event_coming n.daemons to (Sent k) ≡ Some e)
received_is_sent n to e all r =
    let has = all to r.datagram r.addressed in
    let x : Spells n.daemons.sent to r.bytes = read_of n.daemons.sent to r.datagram has r.carried.0 r.carried.1 r.bytes r.carried.2 in
    let fits = r.read.found.0 in
    let same =
    spellings_of_types_differ x.packet.0 r.domain x.packet.1.from r.from x.packet.1.frame r.frame x.number
    (name_fits r.from.0 fits.site) x.typed (frame_fits r.frame fits.frame) (sym x.spelled ∙ r.read.found.1) in
    let here : site_eq x.packet.1.to to ≡ true = ap (λ s. site_eq s to) x.addressed ∙ site_itself to in (
      x.among.0,
      ap (hand_tagged to) (got_at n.daemons.sent x.among.0 x.packet x.among.1 x.among.2)
          ∙ ap (λ b. if b then Some (event.Frame x.packet.0 x.packet.1.from x.packet.1.frame) else None) here
          ∙ (λ i. Some (event.Frame (same.0 i) (same.1 i) (same.2 i)))
          ∙ ap Some (sym r.is),
    )

-- what comes to a site is the event of a step
comes_by_step : (n : DatagramNetwork) (s : SiteNo) (e : Event) → AllSent n → is_among site_eq s n.daemons.sites ≡ true → Comes n s e →
    (step : Step) × (step.site ≡ s) × (event_taken n.daemons step ≡ Some e)
comes_by_step n s e all among comes = go comes
  where
    taken : (what : Happening) → event_coming n.daemons s what ≡ Some e →
        event_taken n.daemons (record { site = s; what = what }) ≡ Some e
    taken what is = ap (λ b. if b then event_coming n.daemons s what else None) among ∙ is

    go : (is_local e ≡ true) ⊎ IsReceived n.given s e → (step : Step) × (step.site ≡ s) × (event_taken n.daemons step ≡ Some e)
    go (inl own) = (record { site = s; what = Local e }, refl, taken (Local e) (ap (λ b. if b then Some e else None) own))
    go (inr received) =
        let sent = received_is_sent n s e all received in
        (record { site = s; what = Sent sent.0 }, refl, taken (Sent sent.0) sent.1)

-- what events come to, and that all that the wires have was sent
record ComesTo (n m : DatagramNetwork) : Type 0 where
  steps : List Step
  takes : TakesSteps n.daemons steps m.daemons
  sent : AllSent m
  typed : AllTyped m.daemons.sent

run_by_steps : (events : List (SiteNo × Event)) (n m : DatagramNetwork) →
    AllByRecursion (λ (s : SiteNo). IsShort s.0) n.daemons.sites → AllTyped n.daemons.sent → AllSent n → TakesEvents n events m →
    ComesTo n m
run_by_steps [] n m numbers typed all same =
    record {
      steps = [];
      takes = ap (λ (x : DatagramNetwork). x.daemons) same;
      sent = subst AllSent (sym same) all;
      typed = subst (λ (x : DatagramNetwork). AllTyped x.daemons.sent) (sym same) typed;
    }
run_by_steps (at ∷ events) n m numbers typed all (u, among, comes, does, later) =
    let first = comes_by_step n at.0 at.1 all among comes in
    let moved : u.daemons ≡ move_daemon n.daemons at.0 does.table does.outs = ap (λ (x : DatagramNetwork). x.daemons) does.becomes in
    let here : TakesEvent n.daemons at.0 (Some at.1) u.daemons = (does.answer, does.table, does.outs, does.answered, moved) in
    let step : TakesStep n.daemons first.0 u.daemons =
    subst (λ (o : Option Event). TakesEvent n.daemons first.0.site o u.daemons) (sym first.2)
    (subst (λ (s : SiteNo). TakesEvent n.daemons s (Some at.1) u.daemons) (sym first.1) here) in
    let still : AllByRecursion (λ (s : SiteNo). IsShort s.0) u.daemons.sites =
    subst (λ (x : DaemonNetwork). AllByRecursion (λ (s : SiteNo). IsShort s.0) x.sites) (sym moved) numbers in
    let number : IsShort at.0.0 = site_fits n.daemons.sites at.0 numbers among in
    let fits : AllTyped (move_daemon n.daemons at.0 does.table does.outs).sent =
    all_typed n.daemons.sent at.0 does.outs.frames number does.typed typed in
    let fit : AllTyped u.daemons.sent = subst (λ (x : DaemonNetwork). AllTyped x.sent) (sym moved) fits in
    let rest = run_by_steps events u m still fit (answers_keep n u at.0 at.1 number does fits all) later in
    record {
      steps = first.0 ∷ rest.steps;
      takes = (u.daemons, step, rest.takes);
      sent = rest.sent;
      typed = rest.typed;
    }

none_given : (sites : List SiteNo) (tables : SiteNo → Table) → AllSent (opened_wires sites tables)
none_given sites tables to datagram at = absurd (omega (arith, at.1))

none_sent : (sites : List SiteNo) (tables : SiteNo → Table) → AllTyped (opened_wires sites tables).daemons.sent
none_sent sites tables d p at = absurd (omega (arith, at.1))

run_of : (sites : List SiteNo) (served : SiteNo → List DomainConfig) (events : List (SiteNo × Event)) (n : DatagramNetwork) →
    (reach : DatagramsReach sites served events n) → ComesTo (opened_wires sites reach.tables) n
run_of sites served events n reach =
    run_by_steps events (opened_wires sites reach.tables) n reach.numbers (none_sent sites reach.tables) (none_given sites reach.tables)
    reach.takes

-- The laws

pub received_frames_were_sent : ReceivedFramesWereSent
received_frames_were_sent sites served events n to e reach received =
    let run = run_of sites served events n reach in
    received_is_sent n to e run.sent received

pub datagrams_are_frames : DatagramsAreFrames
datagrams_are_frames sites served events n reach =
    let run = run_of sites served events n reach in
    (run.steps, record { tables = reach.tables; new = reach.new; takes = run.takes })

-- what was sent is among what was sent for its domain
pub in_own : (d : DomainNo) (p : Packet) (sent : List (DomainNo × Packet)) → Contains sent (d, p) → Contains (in_domain d sent) p
in_own d p sent at =
    goes_to (λ (x : DomainNo × Packet). x.1) (filter (λ x. domain_eq x.0 d) sent) (d, p)
    (stays (λ (x : DomainNo × Packet). domain_eq x.0 d) sent (d, p) at (eq-eqb d.0 d.0 refl))

-- a site that serves a domain has a configuration of it
configured_is : (cs : List DomainConfig) (d : DomainNo) → is_configured d cs ≡ true → (c : DomainConfig) × Contains cs c × (c.domain ≡ d)
configured_is [] d e = absurd (false≢true e)
configured_is (x ∷ cs) d e = go (domain_eq x.domain d) refl e (configured_is cs d)
  where
    go : (b : Bool) → domain_eq x.domain d ≡ b → (b || is_configured d cs) ≡ true →
        (is_configured d cs ≡ true → (c : DomainConfig) × Contains cs c × (c.domain ≡ d)) →
        (c : DomainConfig) × Contains (x ∷ cs) c × (c.domain ≡ d)
    go true same e more = (x, (0, omega arith, refl), same_domain x.domain d same)
    go false other e more = let r = more e in (r.0, (suc r.1.0, omega (arith, r.1.1), r.1.2), r.2)

served_at : (sites : List SiteNo) (served : SiteNo → List DomainConfig) (d : DomainNo) (s : SiteNo) →
    is_among site_eq s (sites_of d served sites) ≡ true → (c : DomainConfig) × HasConfig sites served d s c
served_at sites served d s among =
    let at = site_among (sites_of d served sites) s among in
    let found = configured_is (served s) d (passed (λ (t : SiteNo). is_configured d (served t)) sites s at) in (
      found.0,
      record {
        among = among_site sites s (among_kept (λ (t : SiteNo). is_configured d (served t)) sites s at);
        listed = found.1;
        number = found.2;
      },
    )

-- a frame that steps sent has a spelling, if it is a value of its type
pub spelled_by_steps : (sites : List SiteNo) (served : SiteNo → List DomainConfig) (steps : List Step) (n : DaemonNetwork) (d : DomainNo)
    (p : Packet) → DaemonsReach sites served steps n → AllByRecursion (λ (s : SiteNo). IsShort s.0) sites →
    AgreeOnHomeOf sites served d → AreNumberedFromOne sites served → Contains n.sent (d, p) → IsByte d.0 → FitsType p.frame →
    IsSpelled d p.from p.frame
spelled_by_steps sites served steps n d p reach short agree numbers at byte fits =
    let own = domains_are_networks sites served steps n d reach agree in
    let is = own.2 in
    let leads = tells_lead own.0 (start (sites_of d served sites) is.config) own.1 (pushed_in d n) is.reaches.tells in
    let among : Contains own.1.sent p = subst (λ (l : List Packet). Contains l p) (sym is.sent) (in_own d p n.sent at) in
    let sent = sent_from_one (sites_of d served sites) is.config own.0 own.1 leads
    (λ a there.
    let c = served_at sites served d a there in
    let one = numbers a c.0 c.1.among c.1.listed in (
      one.0,
      subst (λ (b : DomainConfig). Each (λ (g : GroupNo). 1 ≤ g.0) b.groups) (sym (is.configs a c.0 c.1))
          (λ g in_it. All-contains (λ (h : GroupNo). 1 ≤ h.0) c.0.groups g
          (All-from_recursion (λ (h : GroupNo). 1 ≤ h.0) c.0.groups one.2) in_it),
    )) p among in
    let home = served_at sites served d p.from sent.0 in
    let one = numbers p.from home.0 home.1.among home.1.listed in
    is_spelled d p.from p.frame byte (site_fits sites p.from short home.1.among) fits
    (few_in_every (sites_of d served sites) is.config own.0 own.1 leads p among)
    (subst (λ (e : DomainNo). 1 ≤ e.0) home.1.number one.1) one.0 sent.1

pub sent_frames_are_spelled : SentFramesAreSpelled
sent_frames_are_spelled sites served events n d p reach agree numbers at =
    let run = run_of sites served events n reach in
    let fits = run.typed d p at in
    spelled_by_steps sites served run.steps n.daemons d p (record { tables = reach.tables; new = reach.new; takes = run.takes })
    reach.numbers agree numbers at fits.domain fits.frame

pub wired_frames_are_received : WiredFramesAreReceived
wired_frames_are_received sites served events n m s e answers f reach agree numbers at =
    let packet : Packet = record { from = s; to = f.1; frame = f.2 } in
    spelled_frames_are_received s answers.wired answers.datagrams f answers.given at
    (sent_frames_are_spelled sites served events m f.0 packet reach agree numbers
    (subst (λ (v : DatagramNetwork). Contains v.daemons.sent (f.0, packet)) (sym answers.becomes) (answers.sent f at)))

over_datagrams : (law : Network → (Proc → List Push) → Type 0) → HoldsOfDomains law → HoldsOverDatagrams law
over_datagrams law every sites served events n d reach agree =
    let run = datagrams_are_frames sites served events n reach in
    every sites served run.0 n.daemons d run.1 agree

pub datagrams_deliver_causally : DatagramsDeliverCausally
datagrams_deliver_causally = over_datagrams (λ w pushed. DeliversCausally w × DeliversInOrder w) domains_deliver_causally

pub datagrams_agree : DatagramsAgree
datagrams_agree =
    over_datagrams
    (λ w pushed. SameMessages w (delivered_of w) × SameOrder w (delivered_of w) × OrdersAgree w (delivered_of w)) domains_agree

pub datagrams_are_told : DatagramsAreTold
datagrams_are_told = over_datagrams AreToldLawfully domains_are_told
