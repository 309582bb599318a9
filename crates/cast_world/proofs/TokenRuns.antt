-- Every process that hands the token of a view over took it up before, and so did who delivers a hand-over: each at the end of a path from
-- the process that an Install named. So at most one process holds the token of a view.
use Rattle.std.proofs.Common.{ap, append_assoc, inl, inr, subst, sym, ◌∙◌}
use Rattle.std.proofs.lemmas.Bool.{eq-eqb, false≢true}
use Rattle.std.proofs.lemmas.List.{append-nil}
use Rattle.std.proofs.lemmas.List.Elements.{Contains-append_left}
use Rattle.std.specs.Prelude.{◌+◌, ◌++◌, ◌==◌, Bool, Contains, List, None, Option, Some, [], false, if◌then◌else◌}
use Rattle.std.specs.Prelude.{is_some, map, refl, true, unwrap_or, ℕ, ◌∷◌, ◌≡◌}
use Rattle.cast_clock.specs.Times.{view_of}
use Rattle.cast_ready.specs.Ready.{is_member}
use Rattle.cast_rules.specs.Acts.{Act}
use Rattle.cast_rules.specs.Acts.Act.{Delivered, Entered, Left, Sent}
use Rattle.cast_rules.specs.Effects.{next_message}
use Rattle.cast_rules.specs.Entering.{enters, freezing, is_put_out, passing, pending_install, putting_out}
use Rattle.cast_rules.specs.History.{history}
use Rattle.cast_rules.specs.Rules.Asking.{is_home}
use Rattle.cast_rules.specs.Run.{after_event, before_event}
use Rattle.cast_rules.specs.State.{State, emit, local, noting_act, noting_sent, outside, receiving, releasing}
use Rattle.cast_rules.specs.State.{set_group, set_home, set_session, set_standing, with_delivery}
use Rattle.cast_rules.specs.Step.{opening_next}
use Rattle.cast_message.specs.Bodies.{hands_over, new_holder}
use Rattle.cast_message.specs.Membership.{Membership}
use Rattle.cast_message.specs.Tail.{Tail}
use Rattle.cast_message.specs.declared.message.Body.{Body}
use Rattle.cast_message.specs.declared.message.Message.{Message}
use Rattle.cast_message.specs.declared.site.SiteFrame.{SiteFrame}
use Rattle.cast_events.specs.declared.config.DomainConfig.{DomainConfig}
use Rattle.cast_events.specs.declared.event.Event.{Event}
use Rattle.cast_types.specs.Counts.{CountList}
use Rattle.cast_types.specs.Names.{site_eq}
use Rattle.cast_types.specs.Sets.{set_at}
use Rattle.cast_types.specs.declared.names.GroupNo.{GroupNo}
use Rattle.cast_types.specs.declared.names.Proc.{Proc}
use Rattle.cast_types.specs.declared.names.SiteNo.{SiteNo}
use Rattle.cast_types.specs.declared.names.Standing.TheVariants.{Joining}
use Rattle.cast_view.specs.Home.{apply_move}
use Rattle.cast_view.specs.MemberSide.{MemberSide, holder_of, is_process, with_answer, with_request}
use Rattle.cast_world.proofs.Acts.{contains_cons, contains_here}
use Rattle.cast_world.proofs.Events.{after_event_keeps, rests_keeps}
use Rattle.cast_world.proofs.Facts.{Each}
use Rattle.cast_world.proofs.Installs.{EachEntered, Entering, ViewedBy, entered_in_every, installed_later, kept_entering}
use Rattle.cast_world.proofs.Installs.{start_entered, step_entered}
use Rattle.cast_world.proofs.Kept.{Kept, MaySend, casts, hands, lists}
use Rattle.cast_world.proofs.Laters.{set_all}
use Rattle.cast_world.proofs.Lists.{before, contains_split, last, never_nil, place}
use Rattle.cast_world.proofs.Prefixes.{place_in}
use Rattle.cast_world.proofs.Properties.{deliver_once, installs_agree}
use Rattle.cast_world.proofs.Runs.{first, holds_in_every, nothing, start_holds, step_arrives, step_holds}
use Rattle.cast_world.proofs.Steps.{AllHold, Arrived, Now, kept_now, own_holds, own_is, same_site, sites_at}
use Rattle.cast_world.proofs.TokenPaths.{HadOrTook, Took, given, named, one_took, took_later, token_cases}
use Rattle.cast_world.proofs.Tokens.{cast_hands_none, first_token, named_is}
use Rattle.cast_world.specs.Agreement.{WasInstalled}
use Rattle.cast_world.specs.HappenedBefore.{acts_of}
use Rattle.cast_world.specs.Network.{Becomes, Happens, Leads, Network, Reaches, event_of, move_site, start}
use Rattle.cast_world.specs.Properties.{AllHoldersHoldTokens, AllTokensAreHeldOnce, HandsOverNone, HoldsToken}
use Rattle.cast_world.specs.declared.step.Packet.{Packet}
use Rattle.cast_world.specs.declared.step.Step.{Step}

-- an Install of the view named the process as the first to hold its token
abbrev pub NamedBy : Network → GroupNo → ℕ → Proc → Type 0
NamedBy w g v p = (members : Membership) × (tail : Tail) × WasInstalled w g v members tail × (members.holder ≡ Some p)

abbrev pub TookUp : Network → (Proc → List Act) → GroupNo → ℕ → Proc → List Act → Type 0
TookUp w acts g v = Took g v (NamedBy w g v) acts

-- after these acts a process hands a token over that it took up, and has handed over to nobody since; or takes one up
abbrev pub TokenWell : Network → (Proc → List Act) → Proc → List Act → Act → Type 0
TokenWell w acts p a (Sent m) =
    hands_over m.body ≡ true →
    (x b : List Act) × TookUp w acts m.id.group m.id.view p x × (a ≡ x ++ b) × HandsOverNone m.id.group m.id.view b
TokenWell w acts p a (Delivered m) = new_holder m.body ≡ Some p → TookUp w acts m.id.group m.id.view p (a ++ Delivered m ∷ [])
TokenWell w acts p a (Entered g n cut) = Unit {0}
TokenWell w acts p a (Left g) = Unit {0}

abbrev pub AllWell : Network → (Proc → List Act) → Type 0
AllWell w acts = (p : Proc) → Each (TokenWell w acts p) (acts p)

-- processes do more, and more is sent
module _ (w v : Network) (grows : (p : Packet) → Contains w.sent p → Contains v.sent p) (acts next : Proc → List Act)
    (goes : (p : Proc) → (rest : List Act) × (next p ≡ acts p ++ rest)) where
  still_named : (g : GroupNo) (n : ℕ) (p : Proc) → NamedBy w g n p → NamedBy v g n p
  still_named g n p (members, tail, installed, is) = (members, tail, installed_later w v grows g n members tail installed, is)

  pub took_still : (g : GroupNo) (n : ℕ) (p : Proc) (x : List Act) → TookUp w acts g n p x → TookUp v next g n p x
  took_still g n = took_later g n (NamedBy w g n) (NamedBy v g n) acts next (still_named g n) goes

  well_still : (p : Proc) (a : List Act) (y : Act) → TokenWell w acts p a y → TokenWell v next p a y
  well_still p a (Sent m) well = λ is.
      let was = well is in (was.0, was.1, took_still m.id.group m.id.view p was.0 was.2, was.3, was.4)
  well_still p a (Delivered m) well = λ names. took_still m.id.group m.id.view p (a ++ Delivered m ∷ []) (well names)
  well_still p a (Entered g n cut) well = tt
  well_still p a (Left g) well = tt

  pub all_still : ((p : Proc) (b c : List Act) (y : Act) → (goes p).0 ≡ b ++ y ∷ c → TokenWell v next p (acts p ++ b) y) →
      AllWell w acts → AllWell v next
  all_still new all p a c y e =
      elim (place_in (acts p) (goes p).0 a c y (sym (goes p).1 ∙ e)) [
        | inl old ↦ well_still p a y (all p a old.0 y old.1)
        | inr more ↦ subst (λ l. TokenWell v next p l y) (sym more.1) (new p more.0 c y more.2)
      ]

-- one act more
one_well : (w : Network) (next : Proc → List Act) (p : Proc) (old : List Act) (y : Act) → TokenWell w next p old y →
    (b c : List Act) (z : Act) → y ∷ [] ≡ b ++ z ∷ c → TokenWell w next p (old ++ b) z
one_well w next p old y well b c z e = elim (place [] b c y z e) [
  | last is same end ↦
      subst (λ l. TokenWell w next p (old ++ l) z) is
      (subst (λ l. TokenWell w next p l z) (sym (append-nil old)) (subst (TokenWell w next p old) same well))
  | before d end is ↦ absurd (never_nil b d z is)
]

-- who is named has the token from the beginning
first_named : (b : Bool) → is_some (first_token b) ≡ true → b ≡ true
first_named true e = refl
first_named false e = absurd (false≢true e)

-- the holder that a view of a group names is one that an Install named
named_installed : (w : Network) (g : GroupNo) (group : MemberSide) (p : Proc) → ViewedBy w g group → holder_of group ≡ Some p →
    NamedBy w g group.number p
named_installed w g group p viewed is = go group.view refl is
  where
    go : (o : Option Membership) → group.view ≡ o → elim o as (λ x. Option Proc) [ Some m ↦ m.holder | None ↦ None ] ≡ Some p →
        NamedBy w g group.number p
    go None e is_named = absurd (false≢true (ap is_some is_named))
    go (Some m) e is_named = let was = viewed m e in (m, was.0, was.1, is_named)

-- an act that hands nothing over, and takes nothing up
abbrev Silent : Act → Type 0
Silent (Sent m) = ⊥
Silent (Delivered m) = ⊥
Silent (Entered g n cut) = Unit {0}
Silent (Left g) = Unit {0}

silent_well : (w : Network) (next : Proc → List Act) (p : Proc) (a : List Act) (y : Act) → Silent y → TokenWell w next p a y
silent_well w next p a (Sent m) silent = absurd silent
silent_well w next p a (Delivered m) silent = absurd silent
silent_well w next p a (Entered g n cut) silent = tt
silent_well w next p a (Left g) silent = tt

module _ (home : SiteNo) (w : Network) (a : SiteNo) where
  -- what processes did at a moment within a step
  abbrev acts_at : State → Proc → List Act
  acts_at t p = (sites_at home w a t p.site).acts p.serial

  goes_at : (t u : State) → ((k : ℕ) → (rest : List Act) × (u.acts k ≡ t.acts k ++ rest)) → (p : Proc) →
      (rest : List Act) × (acts_at u p ≡ acts_at t p ++ rest)
  goes_at t u more p = go (site_eq a p.site)
    where
      go : (b : Bool) → (rest : List Act)
          × ((if b then u else w.at p.site).acts p.serial ≡ (if b then t else w.at p.site).acts p.serial ++ rest)
      go true = more p.serial
      go false = ([], sym (append-nil ((w.at p.site).acts p.serial)))

  abbrev pub TokenNow : State → Type 0
  TokenNow t = (Now home w a t × Entering home w a t) × AllWell w (acts_at t)

  -- a move of the site, and what its processes do by it
  moves : (t u : State) (more : (k : ℕ) → (rest : List Act) × (u.acts k ≡ t.acts k ++ rest)) →
      ((k : ℕ) (b c : List Act) (y : Act) → (more k).0 ≡ b ++ y ∷ c →
      TokenWell w (acts_at u) (record { site = a; serial = k }) (t.acts k ++ b) y) →
      AllWell w (acts_at t) → AllWell w (acts_at u)
  moves t u more new =
      all_still w w (λ p c. c) (acts_at t) (acts_at u) (λ p. ((grown p).0, (grown p).1)) (λ p b c y e. (grown p).2 b c y e)
    where
      go : (p : Proc) (d : Bool) → site_eq a p.site ≡ d → (rest : List Act)
          × ((if d then u else w.at p.site).acts p.serial ≡ (if d then t else w.at p.site).acts p.serial ++ rest)
          × ((b c : List Act) (y : Act) → rest ≡ b ++ y ∷ c →
          TokenWell w (acts_at u) p ((if d then t else w.at p.site).acts p.serial ++ b) y)
      go p true same = (
        (more p.serial).0,
        (more p.serial).1,
        λ b c y e. subst (λ z. TokenWell w (acts_at u) (record { site = z; serial = p.serial }) (t.acts p.serial ++ b) y)
            (same_site a p.site same) (new p.serial b c y e),
      )
      go p false other = ([], sym (append-nil ((w.at p.site).acts p.serial)), λ b c y e. absurd (never_nil b c y e))

      grown : (p : Proc) → (rest : List Act) × (acts_at u p ≡ acts_at t p ++ rest)
          × ((b c : List Act) (y : Act) → rest ≡ b ++ y ∷ c → TokenWell w (acts_at u) p (acts_at t p ++ b) y)
      grown p = go p (site_eq a p.site) refl

  still : (t u : State) → ((k : ℕ) → u.acts k ≡ t.acts k) → AllWell w (acts_at t) → AllWell w (acts_at u)
  still t u same = moves t u (λ k. ([], same k ∙ sym (append-nil (t.acts k)))) (λ k b c y e. absurd (never_nil b c y e))

  quietly : (t u : State) →
      ((k : ℕ) → (rest : List Act) × (u.acts k ≡ t.acts k ++ rest) × ((y : Act) → Contains rest y → Silent y)) → AllWell w (acts_at t) →
      AllWell w (acts_at u)
  quietly t u more =
      moves t u (λ k. ((more k).0, (more k).1)) (λ k b c y e. silent_well w (acts_at u) (record { site = a; serial = k }) (t.acts k ++ b) y
      ((more k).2 y (subst (λ l. Contains l y) (sym e) (contains_here b c y))))

  single_silent : (x y : Act) → Silent x → Contains (x ∷ []) y → Silent y
  single_silent x y silent at =
      elim (contains_cons x [] y at) [ inl same ↦ subst Silent same silent | inr none ↦ absurd (nothing y none) ]

  part_wells : (t : State) (k : ℕ) (g : GroupNo) → AllWell w (acts_at t) → AllWell w (acts_at (outside t k g))
  part_wells t k g = quietly t (outside t k g) (λ j. go j (is_member ((t.process k).standing g)))
    where
      go : (j : ℕ) (b : Bool) → (rest : List Act) × ((if b then (noting_act t k (Left g)).acts else t.acts) j ≡ t.acts j ++ rest)
          × ((y : Act) → Contains rest y → Silent y)
      go j true =
          set_all (λ i (l : List Act). (rest : List Act) × (l ≡ t.acts i ++ rest) × ((y : Act) → Contains rest y → Silent y))
          t.acts k (t.acts k ++ Left g ∷ []) (λ i. ([], sym (append-nil (t.acts i)), λ y at. absurd (nothing y at)))
          (Left g ∷ [], refl, λ y at. single_silent (Left g) y tt at) j
      go j false = ([], sym (append-nil (t.acts j)), λ y at. absurd (nothing y at))

  pass_wells : (t : State) (g : GroupNo) (skipped : Bool) (n : ℕ) (members : Membership) (request : ℕ) (cut : CountList) →
      AllWell w (acts_at t) → AllWell w (acts_at (passing t g skipped n members request cut))
  pass_wells t g skipped n members request cut =
      quietly t (passing t g skipped n members request cut)
      (λ k. go k (enters (putting_out t g skipped members) g members request k) (is_put_out t g skipped members k))
    where
      go : (k : ℕ) (b out : Bool) → (rest : List Act)
          × ((if b then (if out then t.acts k ++ Left g ∷ [] else t.acts k) ++ Entered g n cut ∷ []
          else if out then t.acts k ++ Left g ∷ [] else t.acts k) ≡ t.acts k ++ rest) × ((y : Act) → Contains rest y → Silent y)
      go k true true = (
        Left g ∷ Entered g n cut ∷ [],
        append_assoc (t.acts k) (Left g ∷ []) (Entered g n cut ∷ []),
        λ y at. elim (contains_cons (Left g) (Entered g n cut ∷ []) y at) [
          | inl same ↦ subst Silent same tt
          | inr later ↦ single_silent (Entered g n cut) y tt later
        ],
      )
      go k true false = (Entered g n cut ∷ [], refl, λ y at. single_silent (Entered g n cut) y tt at)
      go k false true = (Left g ∷ [], refl, λ y at. single_silent (Left g) y tt at)
      go k false false = ([], sym (append-nil (t.acts k)), λ y at. absurd (nothing y at))

  -- one process does one thing more
  did : (t : State) (k : ℕ) (x : Act) (j : ℕ) →
      (rest : List Act) × (set_at (λ b c. b == c) t.acts k (t.acts k ++ x ∷ []) j ≡ t.acts j ++ rest)
  did t k x =
      set_all (λ i (l : List Act). (rest : List Act) × (l ≡ t.acts i ++ rest)) t.acts k (t.acts k ++ x ∷ [])
      (λ i. ([], sym (append-nil (t.acts i)))) (x ∷ [], refl)

  one_act : (t u : State) (k : ℕ) (x : Act) → ((j : ℕ) → u.acts j ≡ set_at (λ b c. b == c) t.acts k (t.acts k ++ x ∷ []) j) →
      TokenWell w (acts_at u) (record { site = a; serial = k }) (t.acts k) x → AllWell w (acts_at t) → AllWell w (acts_at u)
  one_act t u k x same well = moves t u (λ j. ((more j).0, same j ∙ (more j).1)) (λ j. (more j).2)
    where
      more : (j : ℕ) → (rest : List Act) × (set_at (λ b c. b == c) t.acts k (t.acts k ++ x ∷ []) j ≡ t.acts j ++ rest)
          × ((b c : List Act) (y : Act) → rest ≡ b ++ y ∷ c → TokenWell w (acts_at u) (record { site = a; serial = j }) (t.acts j ++ b) y)
      more =
          set_all (λ i (l : List Act). (rest : List Act) × (l ≡ t.acts i ++ rest) × ((b c : List Act) (y : Act) → rest ≡ b ++ y ∷ c →
          TokenWell w (acts_at u) (record { site = a; serial = i }) (t.acts i ++ b) y))
          t.acts k (t.acts k ++ x ∷ []) (λ i. ([], sym (append-nil (t.acts i)), λ b c y e. absurd (never_nil b c y e)))
          (x ∷ [], refl, one_well w (acts_at u) (record { site = a; serial = k }) (t.acts k) x well)

  -- the site's own process, at a moment
  module _ (t : State) (i : TokenNow t) (k : ℕ) where
    abbrev me : Proc
    me = record { site = a; serial = k }

    me_is : local t k ≡ me
    me_is = ap (λ z. record { site = z; serial = k }) (own_holds home w a t i.0.0).here_is

    own_acts : acts_at t me ≡ t.acts k
    own_acts = ap (λ (s : State). s.acts k) (own_is home w a t)

    -- who holds the token of a view by the rules took it up, and has handed it over to nobody
    took_here : (g : GroupNo) → HadOrTook g (t.group g).number (local t k) (first_token (is_process (local t k) (holder_of (t.group g))))
        (t.acts k) → (x b : List Act) × TookUp w (acts_at t) g (t.group g).number me x × (t.acts k ≡ x ++ b)
        × HandsOverNone g (t.group g).number b
    took_here g (inl had) =
        let was =
        named_installed w g (t.group g) (local t k) (i.0.1.2.2 g)
        (named_is (local t k) (holder_of (t.group g)) (first_named (is_process (local t k) (holder_of (t.group g))) had.0)) in
        ([], t.acts k, named me [] (was.0, was.1, was.2, was.3 ∙ ap (λ z. Some z) me_is) refl, refl, had.1)
    took_here g (inr (m, b, c, is, hands_it, none)) =
        let took : TookUp w (acts_at t) m.id.group m.id.view me (b ++ Delivered m ∷ []) =
        i.1 me b c (Delivered m) (own_acts ∙ is) (hands_it.2 ∙ ap (λ z. Some z) me_is) in (
          b ++ Delivered m ∷ [],
          c,
          subst (λ z. TookUp w (acts_at t) z (t.group g).number me (b ++ Delivered m ∷ [])) hands_it.0
              (subst (λ z. TookUp w (acts_at t) m.id.group z me (b ++ Delivered m ∷ [])) hands_it.1 took),
          is ∙ sym (append_assoc b (Delivered m ∷ []) c),
          none,
        )

  module _ (t : State) (i : TokenNow t) (g : GroupNo) (k : ℕ) (content : Body) where
    abbrev m : Message
    m = next_message t g k content

    abbrev u : State
    u = receiving (noting_sent t k m) m

    send_well : MaySend t g k content → TokenWell w (acts_at u) (record { site = a; serial = k }) (t.acts k) (Sent m)
    send_well (casts none open_it) is = absurd (false≢true (sym (ap is_some (cast_hands_none content none)) ∙ is))
    send_well (lists held open_it same) is = absurd (false≢true (sym (ap (λ b. is_some (new_holder b)) same) ∙ is))
    send_well (hands place_it to held open_it settled same named_it) is =
        let had =
        took_here t i k g (token_cases g (t.group g).number (local t k) (first_token (is_process (local t k) (holder_of (t.group g))))
        (t.acts k) held) in (
          had.0,
          had.1,
          took_still w w (λ p c. c) (acts_at t) (acts_at u) (goes_at t u (did t k (Sent m))) g (t.group g).number
              (record { site = a; serial = k }) had.0 had.2,
          had.3,
          had.4,
        )

  module _ (t : State) (i : TokenNow t) (k : ℕ) (m : Message) (got : Contains t.got m) where
    abbrev v : State
    v = with_delivery t k m

    abbrev him : Proc
    him = record { site = a; serial = k }

    delivery_well : TokenWell w (acts_at v) him (t.acts k) (Delivered m)
    delivery_well names =
        let r : Proc = m.id.proc in
        let sent : Contains (acts_at t r) (Sent m) = ((own_holds home w a t i.0.0).received m got).sent in
        let s = contains_split (acts_at t r) (Sent m) sent in
        let by = i.1 r s.0 s.1 (Sent m) s.2 (ap is_some names) in
        let goes = goes_at t v (did t k (Delivered m)) in
        let more : List Act = (goes r).0 in
        given r him by.0 (t.acts k ++ Delivered m ∷ [])
        (took_still w w (λ p c. c) (acts_at t) (acts_at v) goes m.id.group m.id.view r by.0 by.2) (
          m,
          by.1,
          s.1 ++ more,
          t.acts k,
          [],
          (goes r).1
              ∙ ap (λ l. l ++ more) (s.2 ∙ ap (λ l. l ++ Sent m ∷ s.1) by.3 ∙ append_assoc by.0 by.1 (Sent m ∷ s.1))
              ∙ append_assoc by.0 (by.1 ++ Sent m ∷ s.1) more
              ∙ ap (λ l. by.0 ++ l) (append_assoc by.1 (Sent m ∷ s.1) more),
          by.4,
          (refl, refl, names),
          ap (λ (x : State). x.acts k) (own_is home w a v)
              ∙ ap (λ b. if b then t.acts k ++ Delivered m ∷ [] else t.acts k) (eq-eqb k k refl),
          refl,
        )

  abbrev holding : Kept (Now home w a) (Arrived home w a) (site_eq a home)
  holding = kept_now home w a

  abbrev entering : Kept (Entering home w a) (Arrived home w a) (is_home history (w.at a))
  entering = kept_entering home w a

  pub kept_tokens : Kept TokenNow (Arrived home w a) (site_eq a home)
  kept_tokens = record {
    telling = record {
      emits = λ t to f i says.
          ((holding.telling.emits t to f i.0.0 says, entering.telling.emits t to f i.0.1 says), still t (emit t to f) (λ j. refl) i.1);
      books = λ t quotas moment acks told owed count pushes i. (
        (
          holding.telling.books t quotas moment acks told owed count pushes i.0.0,
          entering.telling.books t quotas moment acks told owed count pushes i.0.1,
        ),
        still t (record t { quotas = quotas; moment = moment; acks = acks; told = told; owed = owed; casts = count; pushes = pushes })
            (λ j. refl) i.1,
      );
      releases = λ t lets i.
          ((holding.telling.releases t lets i.0.0, entering.telling.releases t lets i.0.1), still t (releasing t lets) (λ j. refl) i.1);
      sets_session = λ t n x i same. (
        (holding.telling.sets_session t n x i.0.0 same, entering.telling.sets_session t n x i.0.1 same),
        still t (set_session t n x) (λ j. refl) i.1,
      );
      parts = λ t n g i. ((holding.telling.parts t n g i.0.0, entering.telling.parts t n g i.0.1), part_wells t n g i.1);
      requests = λ t g what p i. (
        (holding.telling.requests t g what p i.0.0, entering.telling.requests t g what p i.0.1),
        still t (set_group t g (with_request (t.group g) what p)) (λ j. refl) i.1,
      );
    };
    fixed = λ t i. holding.fixed t i.0.0;
    opens = λ t i. ((holding.opens t i.0.0, entering.opens t i.0.1), still t (opening_next t) (λ j. refl) i.1);
    answers = λ t g i.
        ((holding.answers t g i.0.0, entering.answers t g i.0.1), still t (set_group t g (with_answer (t.group g))) (λ j. refl) i.1);
    joins = λ t n g i open_it known out. (
      (holding.joins t n g i.0.0 open_it known out, entering.joins t n g i.0.1 open_it known out),
      still t (set_standing t n g (Joining ((t.group g).asked + 1) (view_of (t.process n).time g))) (λ j. refl) i.1,
    );
    sends = λ t g n content i member may. (
      (holding.sends t g n content i.0.0 member may, entering.sends t g n content i.0.1 member may),
      one_act t (receiving (noting_sent t n (next_message t g n content)) (next_message t g n content)) n
          (Sent (next_message t g n content)) (λ j. refl) (send_well t i g n content may) i.1,
    );
    receives = λ t from z i came view member. (
      (holding.receives t from z i.0.0 came view member, entering.receives t from z i.0.1 came view member),
      still t (receiving t z) (λ j. refl) i.1,
    );
    delivers = λ t n z i c ready. (
      (holding.delivers t n z i.0.0 c ready, entering.delivers t n z i.0.1 c ready),
      one_act t (with_delivery t n z) n (Delivered z) (λ j. refl) (delivery_well t i n z c) i.1,
    );
    freezes = λ t g i current.
        ((holding.freezes t g i.0.0 current, entering.freezes t g i.0.1 current), still t (freezing t g) (λ j. refl) i.1);
    pends = λ t from g p tail i came current. (
      (holding.pends t from g p tail i.0.0 came current, entering.pends t from g p tail i.0.1 came current),
      still t (pending_install t g p tail) (λ j. refl) i.1,
    );
    passes = λ t g skipped n members request cut i comes. (
      (holding.passes t g skipped n members request cut i.0.0 comes, entering.passes t g skipped n members request cut i.0.1 comes),
      pass_wells t g skipped n members request cut i.1,
    );
    homes = λ t g what i may. (
      (holding.homes t g what i.0.0 may, entering.homes t g what i.0.1 may),
      still t (set_home t g (apply_move what (t.home g))) (λ j. refl) i.1,
    );
  }

-- Every run

step_tokens : (home : SiteNo) (w v : Network) (step : Step) → Happens w step v → AllHold home w → EachEntered w → AllWell w (acts_of w) →
    AllWell v (acts_of v)
step_tokens home w v step happens h entered all = go (event_of w step) refl happens
  where
    same_acts : (p : Proc) (b : Bool) → site_eq step.site p.site ≡ b →
        (if b then before_event (w.at step.site) else w.at p.site).acts p.serial ≡ acts_of w p
    same_acts p true same = ap (λ z. (w.at z).acts p.serial) (same_site step.site p.site same)
    same_acts p false other = refl

    begin : AllWell w (acts_at home w step.site (before_event (w.at step.site)))
    begin =
        all_still w w (λ p c. c) (acts_of w) (acts_at home w step.site (before_event (w.at step.site)))
        (λ p. ([], same_acts p (site_eq step.site p.site) refl ∙ sym (append-nil (acts_of w p))))
        (λ p b c y e. absurd (never_nil b c y e)) all

    after : (t : State) → TokenNow home w step.site t → AllWell (move_site w step.site t) (acts_of (move_site w step.site t))
    after t i =
        all_still w (move_site w step.site t)
        (λ p at. Contains-append_left w.sent
        (map (λ (f : SiteNo × SiteFrame). record { from = step.site; to = f.0; frame = f.1 }) t.frames) p at)
        (acts_at home w step.site t) (acts_of (move_site w step.site t))
        (λ p. ([], sym (append-nil (acts_at home w step.site t p)))) (λ p b c y e. absurd (never_nil b c y e)) i.1

    go : (o : Option Event) → event_of w step ≡ o → Becomes w step.site o v → AllWell v (acts_of v)
    go None e same = subst (λ (z : Network). AllWell z (acts_of z)) (sym same) all
    go (Some made) e (answer, t, is, same) = subst (λ (z : Network). AllWell z (acts_of z)) (sym same) (after t
        (rests_keeps (TokenNow home w step.site) (Arrived home w step.site) (site_eq step.site home) (kept_tokens home w step.site)
        (after_event (w.at step.site) made) t is.rests
        (after_event_keeps (TokenNow home w step.site) (Arrived home w step.site) (site_eq step.site home) (kept_tokens home w step.site)
        (w.at step.site) made
        ((first home w h step.site, (refl, refl, entered step.site)), begin) (step_arrives home w h step made e))))

leads_tokens : (home : SiteNo) (steps : List Step) (w v : Network) → Leads w steps v → AllHold home w → EachEntered w →
    AllWell w (acts_of w) → AllWell v (acts_of v)
leads_tokens home [] w v same h entered all = subst (λ (z : Network). AllWell z (acts_of z)) (sym same) all
leads_tokens home (step ∷ steps) w v (u, one, more) h entered all =
    leads_tokens home steps u v more (step_holds home w u step one h) (step_entered home w u step one h entered)
    (step_tokens home w u step one h entered all)

tokens_in_every : (sites : List SiteNo) (config : SiteNo → DomainConfig) (steps : List Step) (w : Network) →
    Reaches sites config steps w → AllWell w (acts_of w)
tokens_in_every sites config steps w r =
    let home : SiteNo = (config record { 0 = 0 }).home in
    leads_tokens home steps (start sites config) w r.leads (start_holds sites config home (λ s. r.home s record { 0 = 0 }))
    (start_entered sites config) (λ p b c y e. absurd (never_nil b c y e))

-- The laws

-- who holds the token took it up, and has handed it over to nobody
took_by : (w : Network) → AllWell w (acts_of w) → (p : Proc) (g : GroupNo) (view : ℕ) → HoldsToken w p g view →
    (x b : List Act) × TookUp w (acts_of w) g view p x × (acts_of w p ≡ x ++ b) × HandsOverNone g view b
took_by w all p g view (inl (members, tail, installed, is, none)) =
    ([], acts_of w p, named p [] (members, tail, installed, is) refl, refl, none)
took_by w all p g view (inr (m, b, c, is, group, in_view, names, none)) =
    let took : TookUp w (acts_of w) m.id.group m.id.view p (b ++ Delivered m ∷ []) = all p b c (Delivered m) is names in (
      b ++ Delivered m ∷ [],
      c,
      subst (λ z. TookUp w (acts_of w) z view p (b ++ Delivered m ∷ [])) group
          (subst (λ z. TookUp w (acts_of w) m.id.group z p (b ++ Delivered m ∷ [])) in_view took),
      is ∙ sym (append_assoc b (Delivered m ∷ []) c),
      none,
    )

pub tokens_are_held_once : AllTokensAreHeldOnce
tokens_are_held_once sites config steps w r p q g view at_p at_q =
    let all = tokens_in_every sites config steps w r in
    let one = took_by w all p g view at_p in
    let other = took_by w all q g view at_q in
    one_took g view (NamedBy w g view) (acts_of w)
    (λ s t by_s by_t. ap (λ (o : Option Proc). unwrap_or o s) (sym by_s.3
    ∙ ap (λ (x : Membership). x.holder) (installs_agree sites config steps w r g view by_s.0 by_t.0 by_s.1 by_t.1 by_s.2 by_t.2)
    ∙ by_t.3))
    (λ s m b c d is. deliver_once sites config steps w r s m m
    (b, c, d, is ∙ sym (append_assoc b (Delivered m ∷ c) (Delivered m ∷ d))) refl)
    p q one.0 other.0 one.1 other.1 one.2 other.2 one.3 other.3 one.4 other.4

pub holders_hold_tokens : AllHoldersHoldTokens
holders_hold_tokens sites config steps w r p g held =
    let s : State = w.at p.site in
    let me_is : local s p.serial ≡ p =
    ap (λ z. record { site = z; serial = p.serial }) ((holds_in_every sites config steps w r).sites p.site).here_is in
    elim (token_cases g (s.group g).number (local s p.serial)
    (first_token (is_process (local s p.serial) (holder_of (s.group g)))) (s.acts p.serial) held) [
      | inl had ↦
          let was =
          named_installed w g (s.group g) (local s p.serial) ((entered_in_every sites config steps w r p.site).2 g)
          (named_is (local s p.serial) (holder_of (s.group g))
          (first_named (is_process (local s p.serial) (holder_of (s.group g))) had.0)) in
          inl (was.0, was.1, was.2, was.3 ∙ ap (λ z. Some z) me_is, had.1)
      | inr (m, b, c, is, hands_it, none) ↦
          inr (m, b, c, is, hands_it.0, hands_it.1, hands_it.2 ∙ ap (λ z. Some z) me_is, none)
    ]
