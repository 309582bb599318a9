-- No report that was sent names more ids of an order than a report has room for.
use Rattle.std.proofs.Common.{◌≡◌, ◌≤◌, List, [], ◌∷◌, length, Option, Some, None, Contains, true, refl, sym, subst, inl, inr, arith}
use Rattle.std.proofs.lemmas.List.Elements.{Contains-append_cases, Contains-push_cases}
use Rattle.cast_types.specs.Names.{site_eq}
use Rattle.cast_types.specs.declared.names.SiteNo.{SiteNo}
use Rattle.cast_message.specs.Tail.{Tail}
use Rattle.cast_message.specs.declared.site.SiteFrame.{SiteFrame}
use Rattle.cast_message.specs.declared.site.SiteFrame.TheVariants.{Flushed}
use Rattle.cast_message.specs.declared.site.SiteFrame.TheVariants as frame
use Rattle.cast_events.specs.declared.config.DomainConfig.{DomainConfig}
use Rattle.cast_events.specs.declared.event.Event.{Event}
use Rattle.cast_events.specs.declared.event.Taken.{Taken}
use Rattle.cast_rules.specs.History.{history}
use Rattle.cast_rules.specs.Reports.{whole_order}
use Rattle.cast_rules.specs.Rules.Asking.{is_home}
use Rattle.cast_rules.specs.Rules.Keys.{id_in}
use Rattle.cast_rules.specs.Run.{IsStep, after_event, before_event}
use Rattle.cast_rules.specs.State.{State, emit}
use Rattle.cast_world.proofs.ClosingDecides.{tail_few}
use Rattle.cast_world.proofs.Events.{any_came, any_happens, event_keeps_fully, rests_keeps_fully, sets_any}
use Rattle.cast_world.proofs.Kept.{Adds, Any, FullyKept, FullyKeptByTelling}
use Rattle.cast_world.specs.Network.{Becomes, Happens, Leads, Network, event_of, start}
use Rattle.cast_world.specs.declared.step.Packet.{Packet}
use Rattle.cast_world.specs.declared.step.Step.{Step}
use Rattle.cast_datagrams.proofs.Lists.{came_of}

abbrev pub FewIds : SiteFrame → Type 0
FewIds (Flushed g view counts tail kept) = length tail.ids ≤ 512
FewIds f = Unit {0}

says_few : (s : State) (f : SiteFrame) → Adds s f → FewIds f
says_few s (Flushed g view counts tail kept) adds = subst (λ (t : Tail). length t.ids ≤ 512) (sym adds.1) (tail_few (whole_order s g))
says_few s f adds = tt

abbrev SendsFew : State → Type 0
SendsFew s = (to : SiteNo) (f : SiteFrame) → Contains s.frames (to, f) → FewIds f

sends_one_more : (s : State) (to : SiteNo) (f : SiteFrame) → SendsFew s → FewIds f → SendsFew (emit s to f)
sends_one_more s to f few one o g at = elim (Contains-push_cases s.frames (to, f) (o, g) at) [
  | inl old ↦ few o g old
  | inr same ↦ subst (λ (y : SiteNo × SiteFrame). FewIds y.1) same one
]

module _ (s : State) where
  -- the site, its configuration and what holds of it from s on
  abbrev FewFrom : State → Type 0
  FewFrom t = (t.here ≡ s.here) × (t.config ≡ s.config) × SendsFew t

  few_telling : FullyKeptByTelling Any FewFrom
  few_telling = record {
    emits = λ t to f x says adds draws. (x.0, x.1, sends_one_more t to f x.2 (says_few t f adds));
    books = λ t moment casts x. x;
    pushes = λ t k p x agrees. x;
    owes = λ t key due x owes wants lacks awaited. x;
    renews = λ t key due x owes owed. x;
    pays = λ t test x. x;
    releases = λ t lets x. x;
    sets_session = λ t k v x same. x;
    parts = λ t k g x. x;
    requests = λ t g what p x inside. x;
  }

  kept_few : FullyKept FewFrom (λ g. FewFrom) (λ u. FewFrom) Any (is_home history s) true
  kept_few = record {
    telling = few_telling;
    between = λ g. few_telling;
    during = λ u. few_telling;
    truly = inr (
      (λ t key x owed is known. (
        x.0,
        x.1,
        sends_one_more t key.site (frame.Ack (id_in (t.group key.group).number key)) x.2 tt,
      )),
      λ t key due x owed. x,
    );
    fixed = λ t x. λ i. site_eq (x.0 i) (x.1 i).home;
    opens = λ t x. x;
    answers = λ t g x. x;
    joins = λ t k g x open_it known out. x;
    sends = λ t g k content x member may room open_it asked_for. x;
    receives = λ t from m x came view member may new. x;
    received = λ t u x. x;
    acknowledged = λ t from u x came. x;
    learns = λ t from u x came. x;
    delivers = λ t k m x c ready. x;
    freezes = λ t g x current. x;
    pends = λ t from g p tail x came current waits known. x;
    passes = λ t g skipped n members request cut x comes. x;
    ends = λ t g x. x;
    homes = λ t g what x may. x;
  }

  step_few : (e : Event) (answer : Taken) (t : State) → IsStep s e answer t → SendsFew t
  step_few e answer t is =
      let none : FewFrom (before_event s) = (refl, refl, λ to f at. absurd (omega (arith, at.1))) in
      (rests_keeps_fully FewFrom (λ g. FewFrom) (λ u. FewFrom) Any (is_home history s) true kept_few (after_event s e) t is.rests
      (event_keeps_fully FewFrom (λ g. FewFrom) (λ u. FewFrom) Any (is_home history s) true kept_few s e none (any_came e)
      (sets_any FewFrom (λ u quotas y. y) (before_event s) e none) (any_happens e))).2

-- Every run

abbrev AllFew : Network → Type 0
AllFew w = (p : Packet) → Contains w.sent p → FewIds p.frame

moves_few : (w v : Network) (step : Step) → Happens w step v → AllFew w → AllFew v
moves_few w v step happens all = go (event_of w step) happens
  where
    go : (o : Option Event) → Becomes w step.site o v → AllFew v
    go None same = subst AllFew (sym same) all
    go (Some e) (answer, t, is, same) =
        subst AllFew (sym same)
        (λ p at. elim (Contains-append_cases w.sent _ p at) [
          | inl old ↦ all p old
          | inr new ↦
              let made = came_of (λ f. record { from = step.site; to = f.0; frame = f.1 }) t.frames p new in
              subst (λ (q : Packet). FewIds q.frame) made.2 (step_few (w.at step.site) e answer t is made.0.0 made.0.1 made.1)
        ])

leads_few : (steps : List Step) (w v : Network) → Leads w steps v → AllFew w → AllFew v
leads_few [] w v same all = subst AllFew (sym same) all
leads_few (step ∷ steps) w v (u, one, more) all = leads_few steps u v more (moves_few w u step one all)

pub few_in_every : (sites : List SiteNo) (config : SiteNo → DomainConfig) (steps : List Step) (w : Network) →
    Leads (start sites config) steps w → (p : Packet) → Contains w.sent p → FewIds p.frame
few_in_every sites config steps w leads = leads_few steps (start sites config) w leads (λ p at. absurd (omega (arith, at.1)))
