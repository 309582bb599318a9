-- Each message with a payload was cast by a command of its process's program, and each command casts at most one.
-- What a process has cast (`casts_by`) is the same after a step, but where the step is a command to cast: `site_casts` says so of a site,
-- and `step_casts` of a network. So a message that a process has sent in the end became one of its acts at one step, which is a command.
use Rattle.std.proofs.Common.{ap, append_assoc, arith, inl, inr, subst, sym, ◌∙◌}
use Rattle.std.proofs.lemmas.Bool.{and_parts, eqb-true, false≢true}
use Rattle.std.proofs.lemmas.List.{append-nil}
use Rattle.std.proofs.lemmas.List.Elements.{Contains-push_cases}
use Rattle.std.specs.Option.{option_map_or}
use Rattle.std.specs.Prelude.{◌&&◌, ◌++◌, ◌==◌, Bool, Contains, List, None, Option, Some, [], false, if◌then◌else◌}
use Rattle.std.specs.Prelude.{is_some, length, nat_lt, not, refl, slice_get, true, ℕ, ◌∷◌, ◌≡◌, ◌⊎◌}
use Rattle.cast_rules.proofs.Rests.{rests_at_one}
use Rattle.cast_rules.specs.Acts.{Act}
use Rattle.cast_rules.specs.Acts.Act.{Delivered, Entered, Left, Sent}
use Rattle.cast_rules.specs.Effects.{next_message}
use Rattle.cast_rules.specs.Entering.{enters, is_put_out, passing, putting_out}
use Rattle.cast_rules.specs.History.{history}
use Rattle.cast_rules.specs.Rest.{RestsAt, is_free, let_go}
use Rattle.cast_rules.specs.Rules.Asking.{is_home}
use Rattle.cast_rules.specs.Rules.Commands.{body_of, cast, cast_at, reply, send_own}
use Rattle.cast_rules.specs.Rules.Leaving.{Attempt}
use Rattle.cast_rules.specs.Rules.Room.{may_receive}
use Rattle.cast_rules.specs.Rules.Sending.{may_raise, send_data}
use Rattle.cast_rules.specs.Run.{IsStep, after_event, before_event}
use Rattle.cast_rules.specs.State.{State, awaits_own, counting_cast, is_group, local, noting_act, noting_sent}
use Rattle.cast_rules.specs.State.{others_of, outside, receiving}
use Rattle.cast_message.specs.Bodies.{kind_of}
use Rattle.cast_message.specs.Membership.{Membership}
use Rattle.cast_message.specs.declared.client.CastKind.{CastKind}
use Rattle.cast_message.specs.declared.client.Command.{Command}
use Rattle.cast_message.specs.declared.client.Request.{Request}
use Rattle.cast_message.specs.declared.message.Body.{Body}
use Rattle.cast_message.specs.declared.message.Message.{Message}
use Rattle.cast_events.specs.Session.{is_open}
use Rattle.cast_events.specs.declared.config.DomainConfig.{DomainConfig}
use Rattle.cast_events.specs.declared.event.Event.{Event}
use Rattle.cast_events.specs.declared.event.Taken.{Taken}
use Rattle.cast_ready.specs.Ready.{is_member}
use Rattle.cast_types.specs.Counts.{CountList}
use Rattle.cast_types.specs.Names.{is_order, site_eq}
use Rattle.cast_types.specs.Sets.{is_among}
use Rattle.cast_types.specs.declared.limits.TheConstants.{MAX_PAYLOAD}
use Rattle.cast_types.specs.declared.names.DomainNo.{DomainNo}
use Rattle.cast_types.specs.declared.names.GroupNo.{GroupNo}
use Rattle.cast_types.specs.declared.names.Proc.{Proc}
use Rattle.cast_types.specs.declared.names.SiteNo.{SiteNo}
use Rattle.cast_types.specs.declared.refusal.Refusal.{Refusal}
use Rattle.cast_types.specs.declared.refusal.Refusal.TheVariants.{Flushing, HeldFull, NoGroup, NotMember, OwnAbcast, TooLong}
use Rattle.cast_world.proofs.Acts.{contains_here}
use Rattle.cast_world.proofs.Cuts.{fact}
use Rattle.cast_world.proofs.Deliveries.{step_delivers}
use Rattle.cast_world.proofs.Events.{MayHappen, any_came, event_keeps_fully, rests_keeps_fully, sets_any}
use Rattle.cast_world.proofs.Facts.{ActWell, Each}
use Rattle.cast_world.proofs.Handlers.{send_data_keeps}
use Rattle.cast_world.proofs.Keeps.{keeps_fold}
use Rattle.cast_world.proofs.Kept.{Any, FullyKept, FullyKeptByTelling}
use Rattle.cast_world.proofs.Lists.{contains_split, head_or, never_nil, tail_of}
use Rattle.cast_world.proofs.Runs.{facts, leads_holds, nothing, some_is, start_holds, step_holds}
use Rattle.cast_world.proofs.Steps.{AllHold, same_site}
use Rattle.cast_world.proofs.Telling.{outcome, tell_keeps}
use Rattle.cast_world.proofs.Wholes.{kept_wholly}
use Rattle.cast_world.specs.Casts.{AllCastsAreApart, AllDeliveriesWereCast, AllSendOnce, AllSentWereCast, Asks, IsSentBy, WasCastAt}
use Rattle.cast_world.specs.HappenedBefore.{acts_of}
use Rattle.cast_world.specs.Laws.{Covers}
use Rattle.cast_world.specs.Network.{Becomes, Happens, Leads, Network, Reaches, event_at, event_of}
use Rattle.cast_world.specs.Network.{hand_frame, is_local, move_site, names, start}
use Rattle.cast_world.specs.declared.step.Happening.{Happening}
use Rattle.cast_world.specs.declared.step.Packet.{Packet}
use Rattle.cast_world.specs.declared.step.Step.{Step}
use Rattle.cast_message.specs.declared.client.CastKind.TheVariants as kind_name
use Rattle.cast_message.specs.declared.message.Body.TheVariants as body
use Rattle.cast_message.specs.declared.client.Command.TheVariants as command
use Rattle.cast_message.specs.declared.client.Push.TheVariants as push
use Rattle.cast_message.specs.declared.client.Request.TheVariants as request_of
use Rattle.cast_events.specs.declared.event.Event.TheVariants as event
use Rattle.cast_world.specs.declared.step.Happening.TheVariants as happen

-- What a process has cast

-- the messages with a payload that a process sent, in order
abbrev pub casts_by : List Act → List Message
casts_by [] = []
casts_by (Sent m ∷ acts) = if is_order (kind_of m.body) then casts_by acts else m ∷ casts_by acts
casts_by (Delivered m ∷ acts) = casts_by acts
casts_by (Entered g view cut ∷ acts) = casts_by acts
casts_by (Left g ∷ acts) = casts_by acts

casts_append : (xs ys : List Act) → casts_by (xs ++ ys) ≡ casts_by xs ++ casts_by ys
casts_append [] ys = refl
casts_append (Sent m ∷ xs) ys = go (is_order (kind_of m.body)) (casts_append xs ys)
  where
    go : (b : Bool) → casts_by (xs ++ ys) ≡ casts_by xs ++ casts_by ys →
        (if b then casts_by (xs ++ ys) else m ∷ casts_by (xs ++ ys)) ≡ (if b then casts_by xs else m ∷ casts_by xs) ++ casts_by ys
    go true more = more
    go false more = ap (λ l. m ∷ l) more
casts_append (Delivered m ∷ xs) ys = casts_append xs ys
casts_append (Entered g view cut ∷ xs) ys = casts_append xs ys
casts_append (Left g ∷ xs) ys = casts_append xs ys

-- one act more, by which nothing is cast
quiet_act : (acts : List Act) (x : Act) → casts_by (x ∷ []) ≡ [] → casts_by (acts ++ x ∷ []) ≡ casts_by acts
quiet_act acts x none = casts_append acts (x ∷ []) ∙ ap (λ l. casts_by acts ++ l) none ∙ append-nil (casts_by acts)

-- or by which a message is
cast_act : (acts : List Act) (m : Message) → is_order (kind_of m.body) ≡ false → casts_by (acts ++ Sent m ∷ []) ≡ casts_by acts ++ m ∷ []
cast_act acts m is = casts_append acts (Sent m ∷ []) ∙ ap (λ b. casts_by acts ++ (if b then [] else m ∷ [])) is

order_act : (acts : List Act) (m : Message) → is_order (kind_of m.body) ≡ true → casts_by (acts ++ Sent m ∷ []) ≡ casts_by acts
order_act acts m is = quiet_act acts (Sent m) (ap (λ b. if b then [] else m ∷ []) is)

-- where a message stands among the casts, its act stands, behind the casts before it
casts_split : (acts : List Act) (xs ys : List Message) (m : Message) → casts_by acts ≡ xs ++ m ∷ ys →
    (a c : List Act) × (acts ≡ a ++ Sent m ∷ c) × (casts_by a ≡ xs)
unfolding head_or tail_of
casts_split [] xs ys m e = absurd (never_nil xs ys m e)
casts_split (Sent z ∷ acts) xs ys m e = go (is_order (kind_of z.body)) refl e (casts_split acts) xs
  where
    go : (b : Bool) → is_order (kind_of z.body) ≡ b → (if b then casts_by acts else z ∷ casts_by acts) ≡ xs ++ m ∷ ys →
        ((us vs : List Message) (n : Message) → casts_by acts ≡ us ++ n ∷ vs →
        (a c : List Act) × (acts ≡ a ++ Sent n ∷ c) × (casts_by a ≡ us)) →
        (us : List Message) → (a c : List Act) × (Sent z ∷ acts ≡ a ++ Sent m ∷ c) × (casts_by a ≡ xs)
    go true is found more us =
        let rest = more xs ys m found in (
          Sent z ∷ rest.0,
          rest.1,
          ap (λ l. Sent z ∷ l) rest.2,
          ap (λ b. if b then casts_by rest.0 else z ∷ casts_by rest.0) is ∙ rest.3,
        )
    go false is found more us = first xs found
      where
        first : (us : List Message) → z ∷ casts_by acts ≡ us ++ m ∷ ys →
            (a c : List Act) × (Sent z ∷ acts ≡ a ++ Sent m ∷ c) × (casts_by a ≡ us)
        first [] same = ([], acts, ap (λ x. Sent x ∷ acts) (ap (head_or z) same), refl)
        first (w ∷ us) same =
            let rest = more us ys m (ap tail_of same) in (
              Sent z ∷ rest.0,
              rest.1,
              ap (λ l. Sent z ∷ l) rest.2,
              ap (λ b. if b then casts_by rest.0 else z ∷ casts_by rest.0) is ∙ (λ i. ap (head_or z) same i ∷ rest.3 i),
            )
casts_split (Delivered z ∷ acts) xs ys m e =
    let rest = casts_split acts xs ys m e in (Delivered z ∷ rest.0, rest.1, ap (λ l. Delivered z ∷ l) rest.2, rest.3)
casts_split (Entered g view cut ∷ acts) xs ys m e =
    let rest = casts_split acts xs ys m e in (Entered g view cut ∷ rest.0, rest.1, ap (λ l. Entered g view cut ∷ l) rest.2, rest.3)
casts_split (Left g ∷ acts) xs ys m e =
    let rest = casts_split acts xs ys m e in (Left g ∷ rest.0, rest.1, ap (λ l. Left g ∷ l) rest.2, rest.3)

casts_were_sent : (acts : List Act) (m : Message) → Contains (casts_by acts) m → Contains acts (Sent m)
casts_were_sent acts m at =
    let one = contains_split (casts_by acts) m at in
    let two = casts_split acts one.0 one.1 m one.2 in
    subst (λ l. Contains l (Sent m)) (sym two.2) (contains_here two.0 two.1 (Sent m))

casts_have : (acts : List Act) (m : Message) → is_order (kind_of m.body) ≡ false → Contains acts (Sent m) → Contains (casts_by acts) m
casts_have acts m is at =
    let s = contains_split acts (Sent m) at in
    let whole : casts_by acts ≡ casts_by s.0 ++ m ∷ casts_by s.1 =
    ap casts_by s.2 ∙ casts_append s.0 (Sent m ∷ s.1) ∙ ap (λ b. casts_by s.0 ++ (if b then casts_by s.1 else m ∷ casts_by s.1)) is in
    subst (λ l. Contains l m) (sym whole) (contains_here (casts_by s.0) (casts_by s.1) m)

no_order : (kind : CastKind) (payload : List ℕ) → is_order (kind_of (body_of kind payload)) ≡ false
no_order kind_name.Causal payload = refl
no_order kind_name.Atomic payload = refl

has_payload : (m : Message) (kind : CastKind) (payload : List ℕ) → m.body ≡ body_of kind payload → is_order (kind_of m.body) ≡ false
has_payload m kind payload is = ap (λ (b : Body). is_order (kind_of b)) is ∙ no_order kind payload

-- A message is cast once: where it is the last cast, it was none of those before
cast_once : (me : Proc) (acts : List Act) → Each (ActWell me) acts → (xs : List Message) (m : Message) → casts_by acts ≡ xs ++ m ∷ [] →
    Contains xs m → ⊥
cast_once me acts each xs m is at =
    let s = casts_split acts xs [] m is in
    let well = each s.0 s.1 (Sent m) s.2 in
    well.strictly m (inl (casts_were_sent s.0 m (subst (λ l. Contains l m) (sym s.3) at))) well.itself

-- One site

-- an event is no cast, or is one
is_cast_or_not : (e : Event) → MayHappen false e
    ⊎ ((d : DomainNo) × (n tag : ℕ) × (g : GroupNo) × (kind : CastKind) × (payload : List ℕ)
    × (e ≡ event.Command d n (command.Request (request_of.Cast tag g kind payload))))
is_cast_or_not (event.Open d) = inl tt
is_cast_or_not (event.Command d n (command.Request (request_of.Join tag g))) = inl tt
is_cast_or_not (event.Command d n (command.Request (request_of.Leave tag g))) = inl tt
is_cast_or_not (event.Command d n (command.Request (request_of.Cast tag g kind payload))) = inr (d, n, tag, g, kind, payload, refl)
is_cast_or_not (event.Command d n (command.Request (request_of.Pass tag g to))) = inl tt
is_cast_or_not (event.Command d n command.Bad) = inl tt
is_cast_or_not (event.Gone d n) = inl tt
is_cast_or_not (event.Frame d from f) = inl tt
is_cast_or_not (event.Suspect d site) = inl tt
is_cast_or_not (event.Quota d name value) = inl tt
is_cast_or_not (event.Take d n most) = inl tt
is_cast_or_not (event.Tick t) = inl tt

module _ (s : State) (base : ℕ → List Message) where
  -- from s on, each process has cast just these
  abbrev pub Quiet : State → Type 0
  Quiet t = (t.here ≡ s.here) × (t.config ≡ s.config) × ((k : ℕ) → casts_by (t.acts k) ≡ base k)

  -- one process does more, and casts nothing
  quietly : (t : State) → Quiet t → (k : ℕ) (acts : List Act) → casts_by acts ≡ casts_by (t.acts k) → (j : ℕ) →
      casts_by ((record t { acts = λ i. if k == i then acts else t.acts i }).acts j) ≡ base j
  quietly t q k acts same j = go (k == j) refl
    where
      go : (b : Bool) → (k == j) ≡ b → casts_by (if b then acts else t.acts j) ≡ base j
      go true e = same ∙ ap (λ i. casts_by (t.acts i)) (eqb-true k j e) ∙ q.2 j
      go false e = q.2 j

  parts_quietly : (t : State) (k : ℕ) (g : GroupNo) → Quiet t → Quiet (outside t k g)
  parts_quietly t k g q = (q.0, q.1, λ j. go j (is_member ((t.process k).standing g)))
    where
      go : (j : ℕ) (b : Bool) → casts_by ((if b then (noting_act t k (Left g)).acts else t.acts) j) ≡ base j
      go j true = quietly t q k (t.acts k ++ Left g ∷ []) (quiet_act (t.acts k) (Left g) refl) j
      go j false = q.2 j

  passes_quietly : (t : State) (g : GroupNo) (skipped : Bool) (n : ℕ) (members : Membership) (request : ℕ) (cut : CountList) →
      Quiet t → Quiet (passing t g skipped n members request cut)
  passes_quietly t g skipped n members request cut q = (
    q.0,
    q.1,
    λ k. two k (enters (putting_out t g skipped members) g members request k) ∙ one k (is_put_out t g skipped members k) ∙ q.2 k,
  )
    where
      one : (k : ℕ) (b : Bool) → casts_by (if b then t.acts k ++ Left g ∷ [] else t.acts k) ≡ casts_by (t.acts k)
      one k true = quiet_act (t.acts k) (Left g) refl
      one k false = refl

      two : (k : ℕ) (b : Bool) → casts_by (if b then (putting_out t g skipped members).acts k ++ Entered g n cut ∷ []
          else (putting_out t g skipped members).acts k)
          ≡ casts_by ((putting_out t g skipped members).acts k)
      two k true = quiet_act ((putting_out t g skipped members).acts k) (Entered g n cut) refl
      two k false = refl

  sends_quietly : (t : State) (k : ℕ) (m : Message) → is_order (kind_of m.body) ≡ true → Quiet t →
      Quiet (receiving (noting_sent t k m) m)
  sends_quietly t k m is q = (q.0, q.1, quietly t q k (t.acts k ++ Sent m ∷ []) (order_act (t.acts k) m is))

  is_true : (b : Bool) → (b ≡ false → false ≡ true) → b ≡ true
  is_true true not = refl
  is_true false not = absurd (false≢true (not refl))

  quiet_telling : FullyKeptByTelling Any Quiet
  quiet_telling = record {
    emits = λ t to f q says adds draws. q;
    books = λ t moment casts q. q;
    pushes = λ t k p q agrees. q;
    owes = λ t key due q owes wants lacks awaited. q;
    renews = λ t key due q owes owed. q;
    pays = λ t test q. q;
    releases = λ t lets q. q;
    sets_session = λ t k v q same. q;
    parts = λ t k g q. parts_quietly t k g q;
    requests = λ t g what p q inside. q;
  }

  kept_quiet : FullyKept Quiet (λ g. Quiet) (λ u. Quiet) Any (is_home history s) false
  kept_quiet = record {
    telling = quiet_telling;
    between = λ g. quiet_telling;
    during = λ u. quiet_telling;
    truly = inr ((λ t key q owed is known. q), λ t key due q owed. q);
    fixed = λ t q. λ i. site_eq (q.0 i) (q.1 i).home;
    opens = λ t q. q;
    answers = λ t g q. q;
    joins = λ t k g q open_it known out. q;
    sends = λ t g k content q member may room open_it asked_for.
        sends_quietly t k (next_message t g k content) (is_true (is_order (kind_of content)) asked_for) q;
    receives = λ t from m q came view member may new. q;
    received = λ t u q. q;
    acknowledged = λ t from u q came. q;
    learns = λ t from u q came. q;
    delivers = λ t k m q c ready.
        (q.0, q.1, quietly t q k (t.acts k ++ Delivered m ∷ []) (quiet_act (t.acts k) (Delivered m) refl));
    freezes = λ t g q current. q;
    pends = λ t from g p tail q came current waits known. q;
    passes = λ t g skipped n members request cut q comes. passes_quietly t g skipped n members request cut q;
    ends = λ t g q. q;
    homes = λ t g what q may. q;
  }

  -- once it has come to rest too
  rests_quietly : (t r : State) → Quiet t → RestsAt (let_go t) r → Quiet r
  rests_quietly t r q rests = rests_keeps_fully Quiet (λ g. Quiet) (λ u. Quiet) Any (is_home history s) false kept_quiet (let_go t) r rests
      (quiet_telling.releases t (is_free t) q)

  tells_quietly : (a : Attempt State) (k tag : ℕ) → Quiet (outcome a) → Quiet (reply history a k tag)
  tells_quietly a k tag q = tell_keeps Quiet quiet_telling a.0 k (push.Reply tag a.1) q tt

  -- a member sends a message, and casts it by that
  cast_sent : (t : State) (k : ℕ) (m : Message) → Quiet (receiving (noting_sent t k m) m) → Quiet (counting_cast (send_own history t k m))
  cast_sent t k m q =
      let taken : State = receiving (noting_sent t k m) m in
      keeps_fold Quiet (send_data history m.id)
      (send_data_keeps Quiet (λ u. Quiet) Any (is_home history s) false
      (kept_wholly Quiet (λ g. Quiet) (λ u. Quiet) Any (is_home history s) false kept_quiet) m.id) (others_of taken m.id.group) taken q

  quiet_event : (e : Event) (answer : Taken) (t : State) → IsStep s e answer t → MayHappen false e →
      ((k : ℕ) → casts_by (s.acts k) ≡ base k) → Quiet t
  quiet_event e answer t is may same =
      rests_keeps_fully Quiet (λ g. Quiet) (λ u. Quiet) Any (is_home history s) false kept_quiet (after_event s e) t is.rests
      (event_keeps_fully Quiet (λ g. Quiet) (λ u. Quiet) Any (is_home history s) false kept_quiet s e (refl, refl, same) (any_came e)
      (sets_any Quiet (λ u quotas q. q) (before_event s) e (refl, refl, same)) may)

-- a process cast a message by this event: its program asked for that
pub record CastBy (e : Event) (me : Proc) (old new : List Message) : Type 0 where
  pub domain : DomainNo
  pub tag : ℕ
  pub kind : CastKind
  pub payload : List ℕ
  pub message : Message
  pub asked : e ≡ event.Command domain me.serial (command.Request (request_of.Cast tag message.id.group kind payload))
  pub own : message.id.proc ≡ me
  pub has : message.body ≡ body_of kind payload
  pub grown : new ≡ old ++ message ∷ []

module _ (s : State) (d : DomainNo) (n tag : ℕ) (g : GroupNo) (kind : CastKind) (payload : List ℕ) (t : State) (answer : Taken)
    (is : IsStep s (event.Command d n (command.Request (request_of.Cast tag g kind payload))) answer t) where
  abbrev command_is : Event
  command_is = event.Command d n (command.Request (request_of.Cast tag g kind payload))

  abbrev now : State
  now = before_event s

  abbrev sent_now : Message
  sent_now = next_message now g n (body_of kind payload)

  abbrev old : ℕ → List Message
  old k = casts_by (s.acts k)

  -- with the message
  abbrev grown : ℕ → List Message
  grown k = casts_by ((noting_sent now n sent_now).acts k)

  abbrev Cast : State → Type 0
  Cast u = Quiet s old u ⊎ Quiet s grown u

  refused_or : (b : Bool) (refusal : Refusal) (a : Attempt State) → Cast (outcome a) → Cast (outcome (if b then (now, Some refusal) else a))
  refused_or true refusal a more = inl (refl, refl, λ k. refl)
  refused_or false refusal a more = more

  casts_one : Cast (outcome (cast history now n g kind payload))
  casts_one = place (is_group now g)
    where
      at : Cast (outcome (cast_at history now n g kind payload g))
      at = refused_or (nat_lt MAX_PAYLOAD (length payload)) TooLong _
          (refused_or (not (is_member ((now.process n).standing g))) NotMember _
          (refused_or (now.group g).frozen Flushing _
          (refused_or (awaits_own now n) OwnAbcast _
          (refused_or (not (may_receive history now)) HeldFull _
          (refused_or (not (may_raise (now.process n).time g (local now n))) HeldFull
          (counting_cast (send_own history now n sent_now), None)
          (inr (cast_sent s grown now n sent_now (refl, refl, λ k. refl))))))))

      place : (b : Bool) →
          Cast (outcome (option_map_or (cast_at history now n g kind payload) (if b then Some g else None) (now, Some NoGroup)))
      place true = at
      place false = inl (refl, refl, λ k. refl)

  -- at rest
  rested : Quiet s old t ⊎ Quiet s grown t
  rested = go (is_open (now.session n)) is.rests
    where
      go : (b : Bool) →
          RestsAt (let_go (if b then reply history (cast history now n g kind payload) n tag else now)) t →
          Quiet s old t ⊎ Quiet s grown t
      go true rests = elim casts_one [
        | inl q ↦
            inl (rests_quietly s old (reply history (cast history now n g kind payload) n tag) t
            (tells_quietly s old (cast history now n g kind payload) n tag q) rests)
        | inr q ↦
            inr (rests_quietly s grown (reply history (cast history now n g kind payload) n tag) t
            (tells_quietly s grown (cast history now n g kind payload) n tag q) rests)
      ]
      go false rests = inl (rests_quietly s old now t (refl, refl, λ k. refl) rests)

  -- who casts it has one cast more, and all others are as they were
  grown_by : (k : ℕ) → (grown k ≡ old k) ⊎ ((n ≡ k) × (grown k ≡ old k ++ sent_now ∷ []))
  grown_by k = go (n == k) refl
    where
      go : (b : Bool) → (n == k) ≡ b → (casts_by (if b then s.acts n ++ Sent sent_now ∷ [] else s.acts k) ≡ old k)
          ⊎ ((n ≡ k) × (casts_by (if b then s.acts n ++ Sent sent_now ∷ [] else s.acts k) ≡ old k ++ sent_now ∷ []))
      go true same =
          let one : n ≡ k = eqb-true n k same in
          inr (one, cast_act (s.acts n) sent_now (no_order kind payload) ∙ ap (λ i. old i ++ sent_now ∷ []) one)
      go false other = inl refl

  pub command_casts : (k : ℕ) → (casts_by (t.acts k) ≡ old k) ⊎ CastBy command_is (local s k) (old k) (casts_by (t.acts k))
  command_casts k = elim rested [
    | inl q ↦ inl (q.2 k)
    | inr q ↦ elim (grown_by k) [
      | inl same ↦ inl (q.2 k ∙ same)
      | inr more ↦ inr record {
        domain = d;
        tag = tag;
        kind = kind;
        payload = payload;
        message = sent_now;
        asked = ap (λ i. event.Command d i (command.Request (request_of.Cast tag g kind payload))) more.0;
        own = ap (λ i. record { site = s.here; serial = i }) more.0;
        has = refl;
        grown = q.2 k ∙ more.1;
      }
    ]
  ]

-- by each event of a site, each process casts nothing, or what its program asks for
pub site_casts : (s : State) (e : Event) (answer : Taken) (t : State) → IsStep s e answer t → (k : ℕ) →
    (casts_by (t.acts k) ≡ casts_by (s.acts k)) ⊎ CastBy e (local s k) (casts_by (s.acts k)) (casts_by (t.acts k))
site_casts s e answer t is k = elim (is_cast_or_not e) [
  | inl may ↦ inl ((quiet_event s (λ j. casts_by (s.acts j)) e answer t is may (λ j. refl)).2 k)
  | inr c ↦
      subst (λ x. (casts_by (t.acts k) ≡ casts_by (s.acts k)) ⊎ CastBy x (local s k) (casts_by (s.acts k)) (casts_by (t.acts k)))
      (sym c.6)
      (command_casts s c.0 c.1 c.2 c.3 c.4 c.5 t answer (subst (λ x. IsStep s x answer t) c.6 is) k)
]

-- One step of a network

-- a process cast a message by a step
pub record CastIn (domain : DomainNo) (step : Step) (p : Proc) (old new : List Message) : Type 0 where
  pub tag : ℕ
  pub kind : CastKind
  pub payload : List ℕ
  pub message : Message
  pub asked : Asks domain p (request_of.Cast tag message.id.group kind payload) step
  pub own : message.id.proc ≡ p
  pub has : message.body ≡ body_of kind payload
  pub grown : new ≡ old ++ message ∷ []

-- a step at which a program asks for something is its command
module _ (w : Network) (a : SiteNo) where
  handed_local : (d : DomainNo) (o : Option Packet) (made : Event) → is_local made ≡ true → hand_frame d a o ≡ Some made → ⊥
  handed_local d None made here is = false≢true (ap is_some is)
  handed_local d (Some p) made here is = go (site_eq p.to a) is
    where
      go : (b : Bool) → (if b then Some (event.Frame d p.from p.frame) else None) ≡ Some made → ⊥
      go true made_is = false≢true (ap is_local (some_is (event.Frame d p.from p.frame) made made_is) ∙ here)
      go false made_is = false≢true (ap is_some made_is)

  event_is : (what : Happening) (made : Event) → is_local made ≡ true → event_at w a what ≡ Some made →
      (what ≡ happen.Local made) × (names (w.at a).config.domain made ≡ true)
  event_is (happen.Local e) made here is = go (is_local e && names (w.at a).config.domain e) refl is
    where
      go : (b : Bool) → (is_local e && names (w.at a).config.domain e) ≡ b → (if b then Some e else None) ≡ Some made →
          (happen.Local e ≡ happen.Local made) × (names (w.at a).config.domain made ≡ true)
      go true both made_is =
          let same : e ≡ made = some_is e made made_is in
          (ap happen.Local same, subst (λ x. names (w.at a).config.domain x ≡ true) same (and_parts (is_local e) _ both).1)
      go false both made_is = absurd (false≢true (ap is_some made_is))
  event_is (happen.Sent k) made here is = absurd (handed_local (w.at a).config.domain (slice_get w.sent k) made here is)

step_is : (w : Network) (step : Step) (made : Event) → is_local made ≡ true → event_of w step ≡ Some made →
    (step.what ≡ happen.Local made) × (names (w.at step.site).config.domain made ≡ true)
step_is w step made here is = go (is_among site_eq step.site w.sites) is
  where
    go : (b : Bool) → (if b then event_at w step.site step.what else None) ≡ Some made →
        (step.what ≡ happen.Local made) × (names (w.at step.site).config.domain made ≡ true)
    go true made_is = event_is w step.site step.what made here made_is
    go false made_is = absurd (false≢true (ap is_some made_is))

-- by each step each process casts nothing, or what its program asks for
abbrev pub Casts : Network → Step → Proc → List Act → Type 0
Casts w step p acts =
    (casts_by acts ≡ casts_by (acts_of w p)) ⊎ CastIn (w.at p.site).config.domain step p (casts_by (acts_of w p)) (casts_by acts)

pub step_casts : (home : SiteNo) (w v : Network) (step : Step) → Happens w step v → AllHold home w → (p : Proc) →
    Casts w step p (acts_of v p)
step_casts home w v step happens h p = go (event_of w step) refl happens
  where
    here : (made : Event) (answer : Taken) (t : State) → event_of w step ≡ Some made → IsStep (w.at step.site) made answer t →
        Casts w step (record { site = step.site; serial = p.serial }) (t.acts p.serial)
    here made answer t e is = elim (site_casts (w.at step.site) made answer t is p.serial) [
      | inl same ↦ inl same
      | inr c ↦
          let by : Event = event.Command c.domain p.serial (command.Request (request_of.Cast c.tag c.message.id.group c.kind c.payload)) in
          let what = step_is w step by refl (e ∙ ap (λ x. Some x) c.asked) in
          let in_domain : c.domain ≡ (w.at step.site).config.domain =
          ap (λ i. record { 0 = i }) (eqb-true c.domain.0 (w.at step.site).config.domain.0 what.1) in
          inr record {
            tag = c.tag;
            kind = c.kind;
            payload = c.payload;
            message = c.message;
            asked = λ i. record {
              site = step.site;
              what = (what.0 ∙ ap (λ x. happen.Local (event.Command x p.serial
                  (command.Request (request_of.Cast c.tag c.message.id.group c.kind c.payload)))) in_domain) i;
            };
            own = c.own ∙ ap (λ z. record { site = z; serial = p.serial }) (h.sites step.site).here_is;
            has = c.has;
            grown = c.grown;
          }
    ]

    there : (made : Event) (answer : Taken) (t : State) → event_of w step ≡ Some made → IsStep (w.at step.site) made answer t →
        (b : Bool) → site_eq step.site p.site ≡ b → Casts w step p ((if b then t else w.at p.site).acts p.serial)
    there made answer t e is true same =
        subst (λ z. Casts w step (record { site = z; serial = p.serial }) (t.acts p.serial)) (same_site step.site p.site same)
        (here made answer t e is)
    there made answer t e is false other = inl refl

    go : (o : Option Event) → event_of w step ≡ o → Becomes w step.site o v → Casts w step p (acts_of v p)
    go None e same = inl (ap (λ (z : Network). casts_by (acts_of z p)) same)
    go (Some made) e (answer, t, is, same) =
        subst (λ (z : Network). Casts w step p (acts_of z p)) (sym same) (there made answer t e is (site_eq step.site p.site) refl)

-- no step changes a configuration
step_configured : (w v : Network) (step : Step) → Happens w step v → (s : SiteNo) → (v.at s).config ≡ (w.at s).config
step_configured w v step happens s = go (event_of w step) happens
  where
    at : (t : State) → t.config ≡ (w.at step.site).config → (b : Bool) → site_eq step.site s ≡ b →
        (if b then t else w.at s).config ≡ (w.at s).config
    at t is true same = is ∙ ap (λ z. (w.at z).config) (same_site step.site s same)
    at t is false other = refl

    go : (o : Option Event) → Becomes w step.site o v → (v.at s).config ≡ (w.at s).config
    go None same = ap (λ (z : Network). (z.at s).config) same
    go (Some made) (answer, t, is, same) =
        ap (λ (z : Network). (z.at s).config) same
        ∙ at t (step_delivers (w.at step.site) made answer t is).same (site_eq step.site s) refl

-- Whole runs

-- the step at which a message came to be one of those that a process cast
pub record Found (home : SiteNo) (start_at : Network) (steps : List Step) (w : Network) (p : Proc) (m : Message) : Type 0 where
  pub before : Network
  pub step : Step
  pub after : Network
  pub earlier : List Step
  pub later : List Step
  pub stands : steps ≡ earlier ++ step ∷ later
  pub leads : Leads start_at earlier before
  pub happens : Happens before step after
  pub goes_on : Leads after later w
  pub holds : AllHold home after
  pub configured : (before.at p.site).config ≡ (start_at.at p.site).config
  pub cast_it : CastIn (before.at p.site).config.domain step p (casts_by (acts_of before p)) (casts_by (acts_of after p))
  pub is : cast_it.message ≡ m

module _ (home : SiteNo) (p : Proc) (m : Message) (payload_in : is_order (kind_of m.body) ≡ false) where
  pub found_in : (steps : List Step) (v w : Network) → Leads v steps w → AllHold home v → Contains (acts_of w p) (Sent m) →
      Contains (acts_of v p) (Sent m) ⊎ Found home v steps w p m
  found_in [] v w same h at = inl (subst (λ (z : Network). Contains (acts_of z p) (Sent m)) same at)
  found_in (step ∷ steps) v w (u, one, more) h at = elim (found_in steps u w more (step_holds home v u step one h) at) [
    | inr f ↦ inr record {
      before = f.before;
      step = f.step;
      after = f.after;
      earlier = step ∷ f.earlier;
      later = f.later;
      stands = ap (λ l. step ∷ l) f.stands;
      leads = (u, one, f.leads);
      happens = f.happens;
      goes_on = f.goes_on;
      holds = f.holds;
      configured = f.configured ∙ step_configured v u step one p.site;
      cast_it = f.cast_it;
      is = f.is;
    }
    | inl here ↦
        let cast_here = casts_have (acts_of u p) m payload_in here in
        elim (step_casts home v u step one h p) [
          | inl same ↦ inl (casts_were_sent (acts_of v p) m (subst (λ l. Contains l m) same cast_here))
          | inr c ↦
              elim (Contains-push_cases (casts_by (acts_of v p)) c.message m (subst (λ l. Contains l m) c.grown cast_here)) [
                | inl old ↦ inl (casts_were_sent (acts_of v p) m old)
                | inr new ↦ inr record {
                  before = v;
                  step = step;
                  after = u;
                  earlier = [];
                  later = steps;
                  stands = refl;
                  leads = refl;
                  happens = one;
                  goes_on = more;
                  holds = step_holds home v u step one h;
                  configured = refl;
                  cast_it = c;
                  is = new;
                }
              ]
        ]
  ]

-- a run leads to one network

happens_one : (w u v : Network) (step : Step) → Happens w step u → Happens w step v → u ≡ v
happens_one w u v step one two = go (event_of w step) one two
  where
    go : (o : Option Event) → Becomes w step.site o u → Becomes w step.site o v → u ≡ v
    go None same other = same ∙ sym other
    go (Some made) (answer, t, is, same) (reply_two, r, other, is_other) =
        same
        ∙ ap (move_site w step.site) (rests_at_one (after_event (w.at step.site) made) t r is.rests other.rests)
        ∙ sym is_other

leads_one : (steps : List Step) (w u v : Network) → Leads w steps u → Leads w steps v → u ≡ v
leads_one [] w u v same other = same ∙ sym other
leads_one (step ∷ steps) w u v (a, one, more) (b, two, rest) =
    leads_one steps a u v more (subst (λ (z : Network). Leads z steps v) (happens_one w b a step two one) rest)

-- places in a list that stand behind equally many
same_place : {X : Type 0} (xs ys us vs : List X) (x y : X) → xs ++ x ∷ us ≡ ys ++ y ∷ vs → length xs ≡ length ys → (xs ≡ ys) × (x ≡ y)
unfolding head_or tail_of
same_place [] [] us vs x y e same = (refl, ap (head_or x) e)
same_place [] (z ∷ ys) us vs x y e same = absurd (omega (arith, same))
same_place (z ∷ xs) [] us vs x y e same = absurd (omega (arith, same))
same_place (z ∷ xs) (w ∷ ys) us vs x y e same =
    let rest = same_place xs ys us vs x y (ap tail_of e) (omega (arith, same)) in
    ((λ i. ap (head_or z) e i ∷ rest.0 i), rest.1)

-- a payload is of one kind
abbrev kind_in : Body → CastKind
kind_in (body.Causal payload) = kind_name.Causal
kind_in (body.Atomic payload) = kind_name.Atomic
kind_in (body.Order places) = kind_name.Causal

abbrev payload_in : Body → List ℕ
payload_in (body.Causal payload) = payload
payload_in (body.Atomic payload) = payload
payload_in (body.Order places) = []

kind_is : (kind : CastKind) (payload : List ℕ) → kind_in (body_of kind payload) ≡ kind
kind_is kind_name.Causal payload = refl
kind_is kind_name.Atomic payload = refl

payload_is : (kind : CastKind) (payload : List ℕ) → payload_in (body_of kind payload) ≡ payload
payload_is kind_name.Causal payload = refl
payload_is kind_name.Atomic payload = refl

-- who asks, by a step
abbrev asks_in : Event → ℕ
asks_in (event.Open d) = 0
asks_in (event.Command d n c) = n
asks_in (event.Gone d n) = 0
asks_in (event.Frame d from f) = 0
asks_in (event.Suspect d site) = 0
asks_in (event.Quota d name value) = 0
asks_in (event.Take d n most) = 0
asks_in (event.Tick t) = 0

abbrev asks_at : Happening → ℕ
asks_at (happen.Local e) = asks_in e
asks_at (happen.Sent k) = 0

-- two messages that a process casts by one step are one
same_cast : (v u : Network) (step : Step) (p : Proc) (x y : Message) → Casts v step p (acts_of u p) → is_order (kind_of x.body) ≡ false →
    is_order (kind_of y.body) ≡ false → IsSentBy v u p x → IsSentBy v u p y → x ≡ y
same_cast v u step p x y (inl same) is_x is_y by_x by_y =
    absurd (by_x.0 (casts_were_sent (acts_of v p) x (subst (λ l. Contains l x) same (casts_have (acts_of u p) x is_x by_x.1))))
same_cast v u step p x y (inr c) is_x is_y by_x by_y = sym (newest x is_x by_x) ∙ newest y is_y by_y
  where
    newest : (z : Message) → is_order (kind_of z.body) ≡ false → IsSentBy v u p z → c.message ≡ z
    newest z is_z by_z =
        elim (Contains-push_cases (casts_by (acts_of v p)) c.message z
        (subst (λ l. Contains l z) c.grown (casts_have (acts_of u p) z is_z by_z.1))) [
          | inl old ↦ absurd (by_z.0 (casts_were_sent (acts_of v p) z old))
          | inr new ↦ new
        ]

-- The laws

module _ (sites : List SiteNo) (config : SiteNo → DomainConfig) (steps : List Step) (w : Network) (r : Reaches sites config steps w) where
  abbrev home : SiteNo
  home = (config record { 0 = 0 }).home

  abbrev first : Network
  first = start sites config

  begun : AllHold home first
  begun = start_holds sites config home (λ s. r.home s record { 0 = 0 })

  was_cast : (p : Proc) (m : Message) (kind : CastKind) (payload : List ℕ) → m.body ≡ body_of kind payload →
      (f : Found home first steps w p m) → WasCastAt sites config steps w (length f.earlier) m kind payload
  was_cast p m kind payload is f =
      let c = f.cast_it in
      let own : p ≡ m.id.proc = sym c.own ∙ ap (λ (z : Message). z.id.proc) f.is in
      let same : body_of c.kind c.payload ≡ body_of kind payload = sym c.has ∙ ap (λ (z : Message). z.body) f.is ∙ is in
      let of_kind : c.kind ≡ kind = sym (kind_is c.kind c.payload) ∙ ap kind_in same ∙ kind_is kind payload in
      let of_payload : c.payload ≡ payload = sym (payload_is c.kind c.payload) ∙ ap payload_in same ∙ payload_is kind payload in
      let domain : (f.before.at p.site).config.domain ≡ (config m.id.proc.site).domain =
      ap (λ (x : DomainConfig). x.domain) f.configured ∙ ap (λ (z : Proc). (config z.site).domain) own in
      let cast_now : Contains (casts_by (acts_of f.after p)) c.message =
      subst (λ l. Contains l c.message) (sym c.grown) (contains_here (casts_by (acts_of f.before p)) [] c.message) in
      record {
        before = f.before;
        step = f.step;
        after = f.after;
        in_run = record {
          earlier = f.earlier;
          later = f.later;
          stands = f.stands;
          placed = refl;
          leads = f.leads;
          happens = f.happens;
          goes_on = f.goes_on;
        };
        tag = c.tag;
        asked = c.asked ∙ (λ i. record {
          site = (own i).site;
          what = happen.Local (event.Command (domain i) (own i).serial
              (command.Request (request_of.Cast c.tag (f.is i).id.group (of_kind i) (of_payload i))));
        });
        sent = (
          (λ at. cast_once p (acts_of f.after p) ((facts home f.after f.holds).each p) (casts_by (acts_of f.before p)) c.message c.grown
              (subst (Contains (casts_by (acts_of f.before p))) (sym f.is)
              (casts_have (acts_of f.before p) m (has_payload m kind payload is)
              (subst (λ (z : Proc). Contains (acts_of f.before z) (Sent m)) (sym own) at)))),
          subst (λ (z : Proc). Contains (acts_of f.after z) (Sent m)) own
              (subst (λ (z : Message). Contains (acts_of f.after p) (Sent z)) f.is
              (casts_were_sent (acts_of f.after p) c.message cast_now)),
        );
        has = is;
      }

  sent_cast : (p : Proc) (m : Message) (kind : CastKind) (payload : List ℕ) → Contains (acts_of w p) (Sent m) →
      m.body ≡ body_of kind payload → (m.id.proc ≡ p) × (place : ℕ) × WasCastAt sites config steps w place m kind payload
  sent_cast p m kind payload at is =
      elim (found_in home p m (has_payload m kind payload is) steps first w r.leads begun at) [
        | inl none ↦ absurd (nothing (Sent m) none)
        | inr f ↦
            (ap (λ (z : Message). z.id.proc) (sym f.is) ∙ f.cast_it.own, length f.earlier, was_cast p m kind payload is f)
      ]

  casts_apart : (place : ℕ) (x y : Message) (kind other : CastKind) (payload rest : List ℕ) →
      WasCastAt sites config steps w place x kind payload → WasCastAt sites config steps w place y other rest → x ≡ y
  casts_apart place x y kind other payload rest one two =
      let same =
      same_place two.in_run.earlier one.in_run.earlier two.in_run.later one.in_run.later two.step one.step
      (sym two.in_run.stands ∙ one.in_run.stands) (two.in_run.placed ∙ sym one.in_run.placed) in
      let before : two.before ≡ one.before =
      leads_one one.in_run.earlier first two.before one.before (subst (λ l. Leads first l two.before) same.0 two.in_run.leads)
      one.in_run.leads in
      let happens : Happens one.before one.step two.after =
      subst (λ (z : Network). Happens z one.step two.after) before
      (subst (λ z. Happens two.before z two.after) same.1 two.in_run.happens) in
      let after : two.after ≡ one.after = happens_one one.before two.after one.after one.step happens one.in_run.happens in
      let steps_are = sym two.asked ∙ same.1 ∙ one.asked in
      let proc : y.id.proc ≡ x.id.proc = λ i. record {
        site = ap (λ (z : Step). z.site) steps_are i;
        serial = ap (λ (z : Step). asks_at z.what) steps_are i;
      } in
      let by_y : IsSentBy one.before one.after x.id.proc y =
      subst (λ (z : Proc). IsSentBy one.before one.after z y) proc
      (subst (λ (z : Network). IsSentBy one.before z y.id.proc y) after
      (subst (λ (z : Network). IsSentBy z two.after y.id.proc y) before two.sent)) in
      same_cast one.before one.after one.step x.id.proc x y
      (step_casts home one.before one.after one.step one.in_run.happens
      (leads_holds home one.in_run.earlier first one.before one.in_run.leads begun) x.id.proc)
      (has_payload x kind payload one.has) (has_payload y other rest two.has) one.sent by_y

pub sent_were_cast : AllSentWereCast
sent_were_cast sites config steps w r = sent_cast sites config steps w r

pub deliveries_were_cast : AllDeliveriesWereCast
deliveries_were_cast sites config steps w r p m kind payload at is =
    let was = sent_cast sites config steps w r m.id.proc m kind payload ((fact sites config steps w r).was_sent p m at) is in
    (was.1, was.2)

pub casts_are_apart : AllCastsAreApart
casts_are_apart sites config steps w r = casts_apart sites config steps w r

pub send_once : AllSendOnce
send_once sites config steps w r p x y (a, b, c, is) same =
    let each = (fact sites config steps w r).each p in
    let itself : Covers x.times x.id = (each a (b ++ Sent y ∷ c) (Sent x) (is ∙ append_assoc a (Sent x ∷ b) (Sent y ∷ c))).itself in
    (each (a ++ Sent x ∷ b) c (Sent y) is).strictly x (inl (contains_here a b (Sent x))) (subst (Covers x.times) same itself)
