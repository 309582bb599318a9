-- What a program is told of its process is so; and what a process sent was received at its site.
use Rattle.std.proofs.Common.{arith, inl, inr, subst, sym}
use Rattle.std.proofs.lemmas.List.{append-nil}
use Rattle.std.proofs.lemmas.List.Elements.{Contains-append_left, Contains-push_cases}
use Rattle.std.specs.Prelude.{◌+◌, ◌++◌, Bool, Contains, List, None, Option, Some, [], if◌then◌else◌, false, refl, true, ℕ, ◌∷◌, ◌≡◌}
use Rattle.cast_rules.specs.Acts.{Act}
use Rattle.cast_rules.specs.Acts.Act.{Sent}
use Rattle.cast_rules.specs.Effects.{next_message}
use Rattle.cast_rules.specs.Entering.{passing}
use Rattle.cast_rules.specs.History.{history}
use Rattle.cast_rules.specs.Run.{IsStep, after_event, before_event}
use Rattle.cast_rules.specs.Rules.Asking.{is_home}
use Rattle.cast_rules.specs.State.{State, local, noting_sent, outside, receiving, with_delivery}
use Rattle.cast_message.specs.declared.client.Push.{Push}
use Rattle.cast_message.specs.declared.message.Message.{Message}
use Rattle.cast_events.specs.declared.config.DomainConfig.{DomainConfig}
use Rattle.cast_events.specs.declared.event.Event.{Event}
use Rattle.cast_events.specs.declared.event.Taken.{Taken}
use Rattle.cast_types.specs.Names.{site_eq}
use Rattle.cast_types.specs.declared.names.SiteNo.{SiteNo}
use Rattle.cast_world.proofs.Acts.{contains_here}
use Rattle.cast_world.proofs.Entries.{GoesOn, agrees_later, delivery_sends_none, delivery_goes_on, part_goes_on}
use Rattle.cast_world.proofs.Entries.{part_sends_none, passing_goes_on, passing_sends_none, sending_goes_on}
use Rattle.cast_world.proofs.Events.{any_came, any_happens, event_keeps_fully, rests_keeps_fully, sets_any}
use Rattle.cast_world.proofs.Kept.{Any, FullyKept, FullyKeptByTelling}
use Rattle.cast_world.proofs.Laters.{set_all}
use Rattle.cast_world.proofs.Lists.{sent_same}
use Rattle.cast_world.specs.Laws.{AgreesWith, AllPushesAreActs}
use Rattle.cast_world.specs.Network.{Becomes, Happens, Leads, Network, event_of, start}
use Rattle.cast_world.specs.declared.step.Step.{Step}
use Rattle.cast_message.specs.declared.client.Push.TheVariants as push

-- of the parts alone, so that a site may change in others
pub record ToldParts (acts : ℕ → List Act) (pushes : List (ℕ × Push)) (got : List Message) : Type 0 where
  pub agree : (k : ℕ) (p : Push) → Contains pushes (k, p) → AgreesWith (acts k) p
  pub received : (k : ℕ) (m : Message) → Contains (acts k) (Sent m) → Contains got m

abbrev pub Told : State → Type 0
Told s = ToldParts s.acts s.pushes s.got

-- processes did more, and sent nothing
goes_on_told : (t u : State) → Told t → GoesOn t u → ((k : ℕ) (m : Message) → Contains (u.acts k) (Sent m) → Contains (t.acts k) (Sent m)) →
    ToldParts u.acts t.pushes t.got
goes_on_told t u x goes none = record {
  agree = λ k p at. agrees_later (t.acts k) (u.acts k) (goes k) p (x.agree k p at);
  received = λ k m at. x.received k m (none k m at);
}

-- a program is told more
pushed_told : (t : State) (k : ℕ) (p : Push) → Told t → AgreesWith (t.acts k) p → ToldParts t.acts (t.pushes ++ (k, p) ∷ []) t.got
pushed_told t k p x agrees = record {
  agree = λ j q at. elim (Contains-push_cases t.pushes (k, p) (j, q) at) [
    | inl old ↦ x.agree j q old
    | inr same ↦ subst (λ (y : ℕ × Push). AgreesWith (t.acts y.0) y.1) same agrees
  ];
  received = x.received;
}

-- a process sends a message, and its site receives it
sent_told : (t : State) (k : ℕ) (m : Message) → Told t → Told (receiving (noting_sent t k m) m)
sent_told t k m x = record {
  agree = λ j p at. agrees_later (t.acts j) ((noting_sent t k m).acts j) (sending_goes_on t k m j) p (x.agree j p at);
  received = set_all (λ j l. (y : Message) → Contains l (Sent y) → Contains (t.got ++ m ∷ []) y) t.acts k (t.acts k ++ Sent m ∷ [])
      (λ j y at. Contains-append_left t.got (m ∷ []) y (x.received j y at))
      (λ y at. elim (Contains-push_cases (t.acts k) (Sent m) (Sent y) at) [
        | inl old ↦ Contains-append_left t.got (m ∷ []) y (x.received k y old)
        | inr same ↦ subst (Contains (t.got ++ m ∷ [])) (sent_same m y same) (contains_here t.got [] m)
      ]);
}

module _ (s : State) where
  -- the site, its configuration and what holds of it from s on
  abbrev ToldFrom : State → Type 0
  ToldFrom t = (t.here ≡ s.here) × (t.config ≡ s.config) × Told t

  told_telling : FullyKeptByTelling Any ToldFrom
  told_telling = record {
    emits = λ t to f x says adds draws. x;
    books = λ t moment casts x. x;
    pushes = λ t k p x agrees. (x.0, x.1, pushed_told t k p x.2 agrees);
    owes = λ t key due x owes wants lacks awaited. x;
    renews = λ t key due x owes owed. x;
    pays = λ t test x. x;
    releases = λ t lets x. x;
    sets_session = λ t k v x same. x;
    parts = λ t k g x. (
      x.0,
      x.1,
      goes_on_told t (outside t k g) x.2 (part_goes_on t t k g (λ j. ([], append-nil (t.acts j)))) (part_sends_none t k g),
    );
    requests = λ t g what p x inside. x;
  }

  kept_told : FullyKept ToldFrom (λ g. ToldFrom) (λ u. ToldFrom) Any (is_home history s) true
  kept_told = record {
    telling = told_telling;
    between = λ g. told_telling;
    during = λ u. told_telling;
    truly = inr ((λ t key x owed is known. x), λ t key due x owed. x);
    fixed = λ t x. λ i. site_eq (x.0 i) (x.1 i).home;
    opens = λ t x. (x.0, x.1, pushed_told t (t.used + 1) (push.Opened (local t (t.used + 1))) x.2 tt);
    answers = λ t g x. x;
    joins = λ t k g x open_it known out. x;
    sends = λ t g k content x member may room open_it asked_for. (x.0, x.1, sent_told t k (next_message t g k content) x.2);
    receives = λ t from m x came view member may new. (
      x.0,
      x.1,
      record { agree = x.2.agree; received = λ k y at. Contains-append_left t.got (m ∷ []) y (x.2.received k y at) },
    );
    received = λ t u x. x;
    acknowledged = λ t from u x came. x;
    learns = λ t from u x came. x;
    delivers = λ t k m x c ready. (x.0, x.1, goes_on_told t (with_delivery t k m) x.2 (delivery_goes_on t k m) (delivery_sends_none t k m));
    freezes = λ t g x current. x;
    pends = λ t from g p tail x came current waits known. x;
    passes = λ t g skipped n members request cut x comes. (
      x.0,
      x.1,
      goes_on_told t (passing t g skipped n members request cut) x.2 (passing_goes_on t g skipped n members request cut)
          (passing_sends_none t g skipped n members request cut),
    );
    ends = λ t g x. x;
    homes = λ t g what x may. x;
  }

  step_told : (e : Event) (answer : Taken) (t : State) → IsStep s e answer t → Told s → Told t
  step_told e answer t is x =
      (rests_keeps_fully ToldFrom (λ g. ToldFrom) (λ u. ToldFrom) Any (is_home history s) true kept_told (after_event s e) t is.rests
      (event_keeps_fully ToldFrom (λ g. ToldFrom) (λ u. ToldFrom) Any (is_home history s)
      true kept_told s e (refl, refl, record { agree = λ k p at. absurd (omega (arith, at.1)); received = x.received }) (any_came e)
      (sets_any ToldFrom (λ u quotas y. y) (before_event s)
      e (refl, refl, record { agree = λ k p at. absurd (omega (arith, at.1)); received = x.received })) (any_happens e))).2

-- Every run

abbrev pub EachTold : Network → Type 0
EachTold w = (s : SiteNo) → Told (w.at s)

moves_told : (w v : Network) (step : Step) → Happens w step v → EachTold w → EachTold v
moves_told w v step happens all = go (event_of w step) happens
  where
    after_it : (t : State) → Told t → (s : SiteNo) (b : Bool) → Told (if b then t else w.at s)
    after_it t told s true = told
    after_it t told s false = all s

    go : (o : Option Event) → Becomes w step.site o v → EachTold v
    go None same = subst EachTold (sym same) all
    go (Some made) (answer, t, is, same) =
        subst EachTold (sym same) (λ s. after_it t (step_told (w.at step.site) made answer t is (all step.site)) s (site_eq step.site s))

leads_told : (steps : List Step) (w v : Network) → Leads w steps v → EachTold w → EachTold v
leads_told [] w v same all = subst EachTold (sym same) all
leads_told (step ∷ steps) w v (u, one, more) all = leads_told steps u v more (moves_told w u step one all)

pub told_in_every : (sites : List SiteNo) (config : SiteNo → DomainConfig) (steps : List Step) (w : Network) →
    Leads (start sites config) steps w → EachTold w
told_in_every sites config steps w leads =
    leads_told steps (start sites config)
    w leads (λ s. record { agree = λ k p at. absurd (omega (arith, at.1)); received = λ k m at. absurd (omega (arith, at.1)) })

pub pushes_are_acts : AllPushesAreActs
pushes_are_acts sites config steps w r s = (told_in_every sites config steps w r.leads s).agree
