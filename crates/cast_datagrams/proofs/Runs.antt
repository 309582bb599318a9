-- Each run of daemons over frames is one over datagrams, if all that was sent are values of their types.
-- At each step the wire is given one datagram for each frame that the step sends, so that every later step's frame is read of one.
use Rattle.std.proofs.Common.{◌≡◌, ℕ, Bool, true, false, List, [], ◌∷◌, ◌++◌, map, Option, Some, None}
use Rattle.std.proofs.Common.{Contains, refl, sym, ap, subst, inl, inr, arith}
use Rattle.std.specs.Prelude.{if◌then◌else◌, is_some, slice_get}
use Rattle.std.proofs.lemmas.Bool.{false≢true}
use Rattle.std.proofs.lemmas.List.Elements.{Contains-append_cases, Contains-append_left, Contains-append_right}
use Rattle.cast_types.specs.declared.names.DomainNo.{DomainNo}
use Rattle.cast_types.specs.declared.names.SiteNo.{SiteNo}
use Rattle.cast_types.specs.Names.{site_eq}
use Rattle.cast_types.specs.Sets.{is_among}
use Rattle.cast_types.proofs.Orders.{same_site}
use Rattle.cast_message.specs.declared.site.SiteFrame.{SiteFrame}
use Rattle.cast_events.specs.declared.event.Event.{Event}
use Rattle.cast_events.specs.declared.event.Event.TheVariants as event
use Rattle.cast_frame.specs.Spelled.{IsSpelled}
use Rattle.cast_link.specs.Links.{datagrams_of}
use Rattle.cast_world.proofs.Runs.{got_there, some_is}
use Rattle.cast_world.specs.Network.{is_local}
use Rattle.cast_world.specs.declared.step.Happening.{Happening}
use Rattle.cast_world.specs.declared.step.Happening.TheVariants.{Local, Sent}
use Rattle.cast_world.specs.declared.step.Packet.{Packet}
use Rattle.cast_world.specs.declared.step.Step.{Step}
use Rattle.cast_sites.specs.Daemons.{DaemonNetwork, TakesEvent, TakesStep, TakesSteps, event_coming, event_taken, hand_tagged, move_daemon}
use Rattle.cast_datagrams.specs.Datagrams.{Answers, Comes, DatagramNetwork, IsReceived, TakesEvents, WereSent, opened_wires}
use Rattle.cast_datagrams.specs.Laws.{FramesAreDatagrams}
use Rattle.cast_datagrams.specs.Typed.{FitsSent}
use Rattle.cast_datagrams.proofs.Datagrams.{spelled_by_steps, spelled_frames_are_received}
use Rattle.cast_datagrams.proofs.Lists.{all_of_each, came_of, goes_to}

-- What the wires have

-- the frame of a packet is read of what the wires were given
abbrev IsGiven : List (SiteNo × List ℕ) → DomainNo × Packet → Type 0
IsGiven given x = IsReceived given x.1.to (event.Frame x.0 x.1.from x.1.frame)

-- each that was sent is
abbrev AllGiven : DatagramNetwork → Type 0
AllGiven u = (x : DomainNo × Packet) → Contains u.daemons.sent x → IsGiven u.given x

-- more is given
still_received : (given more : List (SiteNo × List ℕ)) (to : SiteNo) (e : Event) →
    ((at : SiteNo × List ℕ) → Contains given at → Contains more at) → IsReceived given to e → IsReceived more to e
still_received given more to e within r =
    record {
      datagram = r.datagram;
      bytes = r.bytes;
      domain = r.domain;
      from = r.from;
      frame = r.frame;
      addressed = within (to, r.datagram) r.addressed;
      carried = r.carried;
      read = r.read;
      is = r.is;
    }

-- What comes to a site

-- an event of its own
own_comes : (own e : Event) (b : Bool) → is_local own ≡ b → (if b then Some own else None) ≡ Some e → is_local e ≡ true
own_comes own e true mine is = subst (λ (x : Event). is_local x ≡ true) (some_is own e is) mine
own_comes own e false other is = absurd (false≢true (ap is_some is))

-- a frame that was sent to it
module _ (u : DatagramNetwork) (s : SiteNo) (e : Event) (given : AllGiven u) where
  packet_comes : (x : DomainNo × Packet) → Contains u.daemons.sent x → (b : Bool) → site_eq x.1.to s ≡ b →
      (if b then Some (event.Frame x.0 x.1.from x.1.frame) else None) ≡ Some e → IsReceived u.given s e
  packet_comes x at true here is =
      subst (λ (y : Event). IsReceived u.given s y) (some_is (event.Frame x.0 x.1.from x.1.frame) e is)
      (subst (λ (t : SiteNo). IsReceived u.given t (event.Frame x.0 x.1.from x.1.frame)) (same_site x.1.to s here) (given x at))
  packet_comes x at false here is = absurd (false≢true (ap is_some is))

  frame_comes : (k : ℕ) (o : Option (DomainNo × Packet)) → slice_get u.daemons.sent k ≡ o → hand_tagged s o ≡ Some e →
      IsReceived u.given s e
  frame_comes k None at is = absurd (false≢true (ap is_some is))
  frame_comes k (Some x) at is = packet_comes x (got_there u.daemons.sent k x at) (site_eq x.1.to s) refl is

  step_comes : (what : Happening) → event_coming u.daemons s what ≡ Some e → Comes u s e
  step_comes (Local own) is = inl (own_comes own e (is_local own) refl is)
  step_comes (Sent k) is = inr (frame_comes k (slice_get u.daemons.sent k) refl is)

-- What becomes of it

-- a frame that was sent is a value of its type and has a spelling
record IsReady (x : DomainNo × Packet) : Type 0 where
  typed : FitsSent (x.0, x.1.to, x.1.frame)
  spelled : IsSpelled x.0 x.1.from x.1.frame

abbrev AllReady : DaemonNetwork → Type 0
AllReady n = (x : DomainNo × Packet) → Contains n.sent x → IsReady x

-- events take daemons and their wires to these daemons, and the wires are given all that is sent
record ComeTo (u : DatagramNetwork) (n : DaemonNetwork) : Type 0 where
  events : List (SiteNo × Event)
  network : DatagramNetwork
  takes : TakesEvents u events network
  is : network.daemons ≡ n
  given : AllGiven network

none_come : (u : DatagramNetwork) (n : DaemonNetwork) → AllGiven u → n ≡ u.daemons → ComeTo u n
none_come u n given same = record { events = []; network = u; takes = refl; is = sym same; given = given }

one_comes : (u : DatagramNetwork) (s : SiteNo) (e : Event) (n : DaemonNetwork) → AllGiven u →
    is_among site_eq s u.daemons.sites ≡ true → Comes u s e → TakesEvent u.daemons s (Some e) n → AllReady n → ComeTo u n
one_comes u s e n given among comes (answer, table, outs, answered, becomes) ready =
    record { events = (s, e) ∷ []; network = next; takes = (next, among, comes, answers, refl); is = sym becomes; given = all_given }
  where
    frames : List (DomainNo × SiteNo × SiteFrame)
    frames = outs.frames

    tagged : DomainNo × SiteNo × SiteFrame → DomainNo × Packet
    tagged f = (f.0, record { from = s; to = f.1; frame = f.2 })

    next : DatagramNetwork
    next = record { daemons = move_daemon u.daemons s table outs; given = u.given ++ datagrams_of s frames }

    were : WereSent next.daemons.sent s frames
    were f at = Contains-append_right u.daemons.sent (map tagged frames) (tagged f) (goes_to tagged frames f at)

    is_ready : (f : DomainNo × SiteNo × SiteFrame) → Contains frames f → IsReady (tagged f)
    is_ready f at = subst AllReady becomes ready (tagged f) (were f at)

    answers : Answers u s e next
    answers =
        record {
          answer = answer;
          table = table;
          outs = outs;
          wired = frames;
          datagrams = datagrams_of s frames;
          answered = answered;
          typed = all_of_each FitsSent frames (λ f at. (is_ready f at).typed);
          sent = were;
          given = inl refl;
          becomes = refl;
        }

    all_given : AllGiven next
    all_given x at = elim (Contains-append_cases u.daemons.sent (map tagged frames) x at) [
      | inl old ↦
          still_received u.given next.given x.1.to (event.Frame x.0 x.1.from x.1.frame)
          (λ y. Contains-append_left u.given (datagrams_of s frames) y) (given x old)
      | inr new ↦
          let made = came_of tagged frames x new in
          subst (IsGiven next.given) made.2
          (still_received (datagrams_of s frames) next.given made.0.1 (event.Frame made.0.0 s made.0.2)
          (λ y. Contains-append_right u.given (datagrams_of s frames) y)
          (spelled_frames_are_received s frames (datagrams_of s frames) made.0 (inl refl) made.1 (is_ready made.0 made.1).spelled))
    ]

step_leads : (u : DatagramNetwork) (step : Step) (n : DaemonNetwork) → AllGiven u → TakesStep u.daemons step n → AllReady n → ComeTo u n
step_leads u step n given takes ready = go (is_among site_eq step.site u.daemons.sites) refl takes
  where
    coming : is_among site_eq step.site u.daemons.sites ≡ true → (o : Option Event) → event_coming u.daemons step.site step.what ≡ o →
        TakesEvent u.daemons step.site o n → ComeTo u n
    coming among None is takes = none_come u n given takes
    coming among (Some e) is takes =
        one_comes u step.site e n given among (step_comes u step.site e given step.what is) takes ready

    go : (b : Bool) → is_among site_eq step.site u.daemons.sites ≡ b →
        TakesEvent u.daemons step.site (if b then event_coming u.daemons step.site step.what else None) n → ComeTo u n
    go true among takes = coming among (event_coming u.daemons step.site step.what) refl takes
    go false among takes = none_come u n given takes

-- Runs

-- what was sent stays sent
event_keeps : (n m : DaemonNetwork) (s : SiteNo) (o : Option Event) (x : DomainNo × Packet) → TakesEvent n s o m → Contains n.sent x →
    Contains m.sent x
event_keeps n m s None x same at = subst (λ (y : DaemonNetwork). Contains y.sent x) (sym same) at
event_keeps n m s (Some e) x (answer, table, outs, answered, becomes) at =
    subst (λ (y : DaemonNetwork). Contains y.sent x) (sym becomes)
    (Contains-append_left n.sent (map (λ f. (f.0, record { from = s; to = f.1; frame = f.2 })) outs.frames) x at)

steps_keep : (steps : List Step) (n m : DaemonNetwork) (x : DomainNo × Packet) → TakesSteps n steps m → Contains n.sent x →
    Contains m.sent x
steps_keep [] n m x same at = subst (λ (y : DaemonNetwork). Contains y.sent x) (sym same) at
steps_keep (step ∷ steps) n m x (u, takes, later) at =
    steps_keep steps u m x later (event_keeps n u step.site (event_taken n step) x takes at)

events_then : (events later : List (SiteNo × Event)) (n u m : DatagramNetwork) → TakesEvents n events u → TakesEvents u later m →
    TakesEvents n (events ++ later) m
events_then [] later n u m same takes = subst (λ (v : DatagramNetwork). TakesEvents v later m) same takes
events_then (at ∷ events) later n u m (v, among, comes, does, more) takes =
    (v, among, comes, does, events_then events later v u m more takes)

steps_lead : (steps : List Step) (u : DatagramNetwork) (n : DaemonNetwork) → AllGiven u → TakesSteps u.daemons steps n → AllReady n →
    ComeTo u n
steps_lead [] u n given same ready = none_come u n given same
steps_lead (step ∷ steps) u n given (v, takes, later) ready =
    let first : ComeTo u v = step_leads u step v given takes (λ x at. ready x (steps_keep steps v n x later at)) in
    let rest : ComeTo first.network n =
    steps_lead steps first.network n first.given (subst (λ (w : DaemonNetwork). TakesSteps w steps n) (sym first.is) later) ready in
    record {
      events = first.events ++ rest.events;
      network = rest.network;
      takes = events_then first.events rest.events u first.network rest.network first.takes rest.takes;
      is = rest.is;
      given = rest.given;
    }

pub frames_are_datagrams : FramesAreDatagrams
frames_are_datagrams sites served steps n reach numbers from_one each =
    let run =
    steps_lead steps (opened_wires sites reach.tables) n (λ x at. absurd (omega (arith, at.1))) reach.takes
    (λ x at.
    let fits = each x.0 x.1 at in
    record {
      typed = fits.0;
      spelled =
          spelled_by_steps sites served steps n x.0 x.1 reach numbers fits.1 from_one at fits.0.domain fits.0.frame;
    }) in (
      run.events,
      run.network,
      record { numbers = numbers; tables = reach.tables; new = reach.new; takes = run.takes },
      run.is,
    )
