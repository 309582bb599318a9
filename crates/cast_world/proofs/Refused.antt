-- What is refused leaves what was, over a whole step: each history is at rest, and what is at rest stays.
use Rattle.std.proofs.Common.{◌≡◌, ℕ, Bool, true, false, not, List, [], ◌∷◌, Option, Some, None, refl, sym, ap, subst, ◌∙◌, is_some}
use Rattle.std.specs.Prelude.{filter, if◌then◌else◌}
use Rattle.std.specs.List.{list_all}
use Rattle.std.proofs.lemmas.Bool.{and_parts, false≢true}
use Rattle.cast_types.specs.declared.names.SiteNo.{SiteNo}
use Rattle.cast_types.specs.declared.refusal.Refusal.TheVariants.{NotOpen, Slow}
use Rattle.cast_types.specs.Names.{site_eq}
use Rattle.cast_message.specs.declared.client.Push.{Push}
use Rattle.cast_message.specs.declared.client.Command.TheVariants as command
use Rattle.cast_message.specs.declared.message.Message.{Message}
use Rattle.cast_message.specs.Replies.{reply_to}
use Rattle.cast_events.specs.Session.{is_open}
use Rattle.cast_events.specs.declared.config.DomainConfig.{DomainConfig}
use Rattle.cast_events.specs.declared.event.Event.{Event}
use Rattle.cast_events.specs.declared.event.Event.TheVariants as event
use Rattle.cast_events.specs.declared.event.Taken.TheVariants.{Nothing, Refused}
use Rattle.cast_rules.specs.AtRest.{IsAtRest}
use Rattle.cast_rules.specs.History.{history}
use Rattle.cast_rules.specs.Rest.{RestsAt, is_free, let_go}
use Rattle.cast_rules.specs.Rules.Leaving.{close_session, tell}
use Rattle.cast_rules.specs.Run.{before_event}
use Rattle.cast_rules.specs.State.{State, is_filled, opening, pushing}
use Rattle.cast_rules.specs.Step.{act_of_event}
use Rattle.cast_rules.proofs.Quiet.{rest_is_quiet}
use Rattle.cast_rules.proofs.Refusing.{refused_leaves, replies_alone}
use Rattle.cast_rules.proofs.Rests.{rests_at_one}
use Rattle.cast_rules.proofs.Still.{quiet_stays}
use Rattle.cast_world.specs.Network.{Becomes, Leads, Network, Reaches, event_of, start}
use Rattle.cast_world.specs.Refused.{AllRefusedLeave, AllRefusedReply, with_entry}
use Rattle.cast_world.specs.declared.step.Step.{Step}

-- Each history is at rest

abbrev pub AreAtRest : Network → Type 0
AreAtRest w = (s : SiteNo) → IsAtRest (w.at s)

opening_rests : (here : SiteNo) (config : DomainConfig) → IsAtRest (opening here config)
opening_rests here config = record {
  free = refl;
  ready = refl;
  groups = λ g is. record {
    listed = refl;
    waits = λ p waits. absurd (false≢true (ap is_some waits));
    wanted = λ p waits. absurd (false≢true (ap is_some waits));
    started = λ home. refl;
    decided = λ home. refl;
    lacked = λ home. refl;
  };
}

moved_rests : (w : Network) (s : SiteNo) (o : Option Event) (v : Network) → AreAtRest w → Becomes w s o v → AreAtRest v
moved_rests w s None v rest is = subst AreAtRest (sym is) rest
moved_rests w s (Some e) v rest (answer, t, step, is) =
    subst AreAtRest (sym is) (λ x. elim (site_eq s x) as (λ b. IsAtRest (if b then t else w.at x)) [
      | true ↦ rest_is_quiet (w.at s) e answer t step
      | false ↦ rest x
    ])

all_rest : (w : Network) (steps : List Step) (v : Network) → AreAtRest w → Leads w steps v → AreAtRest v
all_rest w [] v rest is = subst AreAtRest (sym is) rest
all_rest w (step ∷ steps) v rest (u, happens, leads) =
    all_rest u steps v (moved_rests w step.site (event_of w step) u rest happens) leads

pub reached_rest : (sites : List SiteNo) (config : SiteNo → DomainConfig) (steps : List Step) (w : Network) →
    Reaches sites config steps w → AreAtRest w
reached_rest sites config steps w reaches =
    all_rest (start sites config) steps w (λ s. opening_rests s (config s)) reaches.leads

-- What is at rest stays so whatever is pushed

-- two histories that differ in what was pushed, sent and delivered at the last event alone, and in sessions
abbrev pub told : State → State → State
told s t = record s { session = t.session; frames = t.frames; deliveries = t.deliveries; pushes = t.pushes }

told_rests : (s t : State) → IsAtRest s → IsAtRest (told s t)
told_rests s t rest = record {
  free = rest.free;
  ready = rest.ready;
  groups = λ g is.
      let group = rest.groups g is in
      record {
        listed = group.listed;
        waits = group.waits;
        wanted = group.wanted;
        started = group.started;
        decided = group.decided;
        lacked = group.lacked;
      };
}

all_kept : (f : Message → Bool) (ms : List Message) → list_all (λ m. not (f m)) ms ≡ true → filter (λ m. not (f m)) ms ≡ ms
all_kept f [] all = refl
all_kept f (m ∷ ms) all =
    let parts = and_parts (not (f m)) (list_all (λ x. not (f x)) ms) all in
    ap (λ b. if b then m ∷ filter (λ x. not (f x)) ms else filter (λ x. not (f x)) ms) parts.0
    ∙ ap (λ rest. m ∷ rest) (all_kept f ms parts.1)

-- then nothing is let go, and a pass changes nothing
rests_there : (s t : State) → IsAtRest s → RestsAt (let_go s) t → t ≡ s
rests_there s t rest rests =
    let none : let_go s ≡ s = λ i. record s { kept = all_kept (λ m. is_free s m.id) s.kept rest.free i } in
    rests_at_one s t s (subst (λ x. RestsAt x t) none rests) (0, refl, quiet_stays s rest)

-- Events that are refused

pub all_refused_leave : AllRefusedLeave
all_refused_leave sites config steps w s e refusal t reaches step =
    let b = before_event (w.at s) in
    let rest : IsAtRest b = told_rests (w.at s) b (reached_rest sites config steps w reaches s) in
    let same : act_of_event b e ≡ b = refused_leaves b e refusal (sym step.answers) in
    rests_there b t rest (subst (λ x. RestsAt (let_go x) t) same step.rests)

-- Requests that are refused

replied : (s : State) (k : ℕ) (entry : Push) → is_open (s.session k) ≡ true → is_filled s k ≡ false →
    tell history (before_event s) k entry ≡ with_entry s k entry
replied s k entry opened room =
    ap (λ x. if x then (if is_filled s k then close_session history (before_event s) k Slow else pushing (before_event s) k entry)
    else before_event s) opened
    ∙ ap (λ x. if x then close_session history (before_event s) k Slow else pushing (before_event s) k entry) room
    ∙ ap (λ x. if x then with_entry s k entry else before_event s) opened

pub all_refused_reply : AllRefusedReply
all_refused_reply sites config steps w s d k request refusal answer t reaches opened room refused step =
    let b = before_event (w.at s) in
    let after = with_entry (w.at s) k (reply_to request (Some refusal)) in
    let rest : IsAtRest after = told_rests (w.at s) after (reached_rest sites config steps w reaches s) in
    let same : act_of_event b (event.Command d k (command.Request request)) ≡ after =
    replies_alone b d k request refusal opened refused ∙ replied (w.at s) k (reply_to request (Some refusal)) opened room in (
      step.answers ∙ ap (λ x. if x then Nothing else Refused NotOpen) opened,
      rests_there after t rest (subst (λ x. RestsAt (let_go x) t) same step.rests),
    )
