-- What the processes of a site deliver in a step stands among the step's deliveries.
use Rattle.std.proofs.Common.{ap, append_assoc, map, sym, ◌∙◌}
use Rattle.std.proofs.lemmas.Bool.{eq-eqb, eqb-true}
use Rattle.std.proofs.lemmas.List.{append-nil}
use Rattle.std.specs.Prelude.{◌&&◌, ◌+◌, ◌++◌, ◌==◌, Bool, List, [], cond, false, filter, if◌then◌else◌, refl, true, ℕ, ◌∷◌, ◌≡◌}
use Rattle.cast_clock.specs.Times.{join, view_of}
use Rattle.cast_ready.specs.Ready.{Process}
use Rattle.cast_rules.specs.Effects.{next_message}
use Rattle.cast_rules.specs.Entering.{enters, in_view, is_put_out, put_outside, passing, putting_out}
use Rattle.cast_rules.specs.History.{history}
use Rattle.cast_rules.specs.Rules.Asking.{is_home}
use Rattle.cast_rules.specs.Run.{IsStep, after_event, before_event}
use Rattle.cast_rules.specs.State.{State, local, with_delivery}
use Rattle.cast_message.specs.Membership.{Membership}
use Rattle.cast_message.specs.declared.message.Message.{Message}
use Rattle.cast_events.specs.declared.config.DomainConfig.{DomainConfig}
use Rattle.cast_events.specs.declared.event.Event.{Event}
use Rattle.cast_events.specs.declared.event.Taken.{Taken}
use Rattle.cast_types.specs.Counts.{CountList}
use Rattle.cast_types.specs.Names.{group_eq, proc_eq, site_eq}
use Rattle.cast_types.specs.Sets.{set_at}
use Rattle.cast_types.specs.declared.names.GroupNo.{GroupNo}
use Rattle.cast_types.specs.declared.names.Proc.{Proc}
use Rattle.cast_types.specs.declared.names.SiteNo.{SiteNo}
use Rattle.cast_types.specs.declared.names.Standing.TheVariants.{Joining}
use Rattle.cast_types.specs.declared.names.Uid.{Uid}
use Rattle.cast_world.proofs.Events.{after_event_keeps, any_came, rests_keeps}
use Rattle.cast_world.proofs.Kept.{Any, Kept}
use Rattle.cast_world.proofs.Laters.{set_all}

-- of these deliveries those of a process
abbrev pub ids_by : Proc → List (Proc × Uid) → List Uid
ids_by p deliveries = map (λ x. x.1) (filter (λ x. proc_eq x.0 p) deliveries)

-- of one more delivery, where it is the process's
ids_more : (p q : Proc) (u : Uid) (deliveries : List (Proc × Uid)) →
    ids_by p (deliveries ++ (q, u) ∷ []) ≡ ids_by p deliveries ++ cond (proc_eq q p) (u ∷ []) []
ids_more p q u [] = go (proc_eq q p)
  where
    go : (b : Bool) → map (λ (x : Proc × Uid). x.1) (cond b ((q, u) ∷ []) []) ≡ cond b (u ∷ []) []
    go true = refl
    go false = refl
ids_more p q u (x ∷ deliveries) = go (proc_eq x.0 p) (ids_more p q u deliveries)
  where
    go : (b : Bool) → ids_by p (deliveries ++ (q, u) ∷ []) ≡ ids_by p deliveries ++ cond (proc_eq q p) (u ∷ []) [] →
        map (λ (y : Proc × Uid). y.1)
        (cond b (x ∷ filter (λ y. proc_eq y.0 p) (deliveries ++ (q, u) ∷ [])) (filter (λ y. proc_eq y.0 p) (deliveries ++ (q, u) ∷ [])))
        ≡ map (λ (y : Proc × Uid). y.1) (cond b (x ∷ filter (λ y. proc_eq y.0 p) deliveries) (filter (λ y. proc_eq y.0 p) deliveries))
        ++ cond (proc_eq q p) (u ∷ []) []
    go true more = ap (λ us. x.1 ∷ us) more
    go false more = more

-- from s on, the site is the same, and each process delivered what it is said to have delivered in the step
pub record DeliversFrom (s : State) (here : SiteNo) (config : DomainConfig) (process : ℕ → Process)
    (deliveries : List (Proc × Uid)) : Type 0 where
  pub placed : here ≡ s.here
  pub same : config ≡ s.config
  pub delivered : (k : ℕ) → (process k).delivered ≡ (s.process k).delivered ++ ids_by (local s k) deliveries

module _ (s : State) where
  abbrev Delivers : State → Type 0
  Delivers t = DeliversFrom s t.here t.config t.process t.deliveries

  -- processes that have delivered what they had
  same_delivered : (t : State) → Delivers t → (process : ℕ → Process) → ((k : ℕ) → (process k).delivered ≡ (t.process k).delivered) →
      DeliversFrom s t.here t.config process t.deliveries
  same_delivered t d process same = record { placed = d.placed; same = d.same; delivered = λ k. same k ∙ d.delivered k }

  one_same : (t : State) → Delivers t → (k : ℕ) (p : Process) → p.delivered ≡ (t.process k).delivered →
      DeliversFrom s t.here t.config (set_at (λ a b. a == b) t.process k p) t.deliveries
  one_same t d k p same =
      same_delivered t d (set_at (λ a b. a == b) t.process k p)
      (set_all (λ j q. q.delivered ≡ (t.process j).delivered) t.process k p (λ j. refl) same)

  passing_same : (t : State) → Delivers t → (g : GroupNo) (skipped : Bool) (n : ℕ) (members : Membership) (request : ℕ) (cut : CountList) →
      Delivers (passing t g skipped n members request cut)
  passing_same t d g skipped n members request cut =
      same_delivered t d (passing t g skipped n members request cut).process
      (λ k. two k (enters (putting_out t g skipped members) g members request k) ∙ one k (is_put_out t g skipped members k))
    where
      one : (k : ℕ) (b : Bool) → (if b then put_outside g (t.process k) else t.process k).delivered ≡ (t.process k).delivered
      one k true = refl
      one k false = refl

      two : (k : ℕ) (b : Bool) →
          (if b then in_view g n ((putting_out t g skipped members).process k)
          else (putting_out t g skipped members).process k).delivered ≡ ((putting_out t g skipped members).process k).delivered
      two k true = refl
      two k false = refl

  -- one more delivery
  one_more : (t : State) → Delivers t → (k : ℕ) (m : Message) → Delivers (with_delivery t k m)
  one_more t d k m = record { placed = d.placed; same = d.same; delivered = λ j. go j (k == j) refl }
    where
      same_site : (j : ℕ) → proc_eq (local t k) (local s j) ≡ (k == j)
      same_site j = ap (λ b. b && (k == j)) (eq-eqb t.here.0 s.here.0 (ap (λ (x : SiteNo). x.0) d.placed))

      grown : (j : ℕ) →
          ids_by (local s j) (t.deliveries ++ (local t k, m.id) ∷ []) ≡ ids_by (local s j) t.deliveries ++ cond (k == j) (m.id ∷ []) []
      grown j =
          ids_more (local s j) (local t k) m.id t.deliveries
          ∙ ap (λ b. ids_by (local s j) t.deliveries ++ cond b (m.id ∷ []) []) (same_site j)

      go : (j : ℕ) (b : Bool) → (k == j) ≡ b →
          (if b then record (t.process k) { time = join (t.process k).time m.times; delivered = (t.process k).delivered ++ m.id ∷ [] }
          else t.process j).delivered
          ≡ (s.process j).delivered ++ ids_by (local s j) (t.deliveries ++ (local t k, m.id) ∷ [])
      go j true e =
          ap (λ n. (t.process n).delivered ++ m.id ∷ []) (eqb-true k j e)
          ∙ ap (λ us. us ++ m.id ∷ []) (d.delivered j)
          ∙ append_assoc (s.process j).delivered (ids_by (local s j) t.deliveries) (m.id ∷ [])
          ∙ ap (λ us. (s.process j).delivered ++ us)
          (ap (λ b. ids_by (local s j) t.deliveries ++ cond b (m.id ∷ []) []) (sym e) ∙ sym (grown j))
      go j false e =
          d.delivered j
          ∙ ap (λ us. (s.process j).delivered ++ us) (sym (append-nil (ids_by (local s j) t.deliveries))
          ∙ ap (λ b. ids_by (local s j) t.deliveries ++ cond b (m.id ∷ []) []) (sym e)
          ∙ sym (grown j))

  kept_deliveries : Kept Delivers Any (is_home history s)
  kept_deliveries = record {
    telling = record {
      emits = λ t to f d says. d;
      books = λ t quotas moment acks told owed casts pushes d. d;
      releases = λ t lets d. d;
      sets_session = λ t k v d same. d;
      parts = λ t k g d. one_same t d k (put_outside g (t.process k)) refl;
      requests = λ t g what p d. d;
    };
    fixed = λ t d. λ i. site_eq (d.placed i) (d.same i).home;
    opens = λ t d. d;
    answers = λ t g d. d;
    joins = λ t k g d open_it known out. one_same t d k (record (t.process k) {
      standing = set_at group_eq (t.process k).standing g
          (Joining ((t.group g).asked + 1) (view_of (t.process k).time g));
    }) refl;
    sends = λ t g k content d member may. one_same t d k (record (t.process k) { time = (next_message t g k content).times }) refl;
    receives = λ t from m d came view member. d;
    delivers = λ t k m d c ready. one_more t d k m;
    freezes = λ t g d current. d;
    pends = λ t from g p tail d came current. d;
    passes = λ t g skipped n members request cut d comes. passing_same t d g skipped n members request cut;
    homes = λ t g what d may. d;
  }

  first_deliveries : Delivers (before_event s)
  first_deliveries = record { placed = refl; same = refl; delivered = λ k. sym (append-nil (s.process k).delivered) }

  pub step_delivers : (e : Event) (answer : Taken) (t : State) → IsStep s e answer t → Delivers t
  step_delivers e answer t is = rests_keeps Delivers Any (is_home history s) kept_deliveries (after_event s e) t is.rests
      (after_event_keeps Delivers Any (is_home history s) kept_deliveries s e first_deliveries (any_came e))
