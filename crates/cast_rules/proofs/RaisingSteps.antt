-- A history counts members alone in each state that it passes.
use Rattle.std.proofs.Common.{◌≡◌, ℕ, ◌≤◌, zero, suc, Bool, true, false, List, [], ◌∷◌, length, Some, None, refl, sym, ap, subst, arith}
use Rattle.std.specs.Prelude.{not, ◌&&◌, nat_lt, nat_le, if◌then◌else◌}
use Rattle.std.specs.List.{fold, find, list_all, AllByRecursion}
use Rattle.std.specs.FinMap.Entries.{is_sorted}
use Rattle.std.proofs.lemmas.Bool.{and_parts, and_from}
use Rattle.cast_types.specs.declared.names.SiteNo.{SiteNo}
use Rattle.cast_types.specs.declared.names.GroupNo.{GroupNo}
use Rattle.cast_types.specs.declared.limits.TheConstants.{MAX_GROUPS}
use Rattle.cast_types.specs.Names.{group_cmp, proc_eq}
use Rattle.cast_types.specs.Sets.{is_among}
use Rattle.cast_types.specs.Repeat.{iterate}
use Rattle.cast_types.specs.Counts.{is_counts}
use Rattle.cast_types.specs.Stamps.{is_stamp}
use Rattle.cast_message.specs.declared.message.Body.{Body}
use Rattle.cast_message.specs.declared.message.Body.TheVariants as body
use Rattle.cast_message.specs.declared.message.Message.{Message}
use Rattle.cast_message.specs.declared.site.SiteFrame.{SiteFrame}
use Rattle.cast_message.specs.declared.client.Push.{Push}
use Rattle.cast_types.specs.Rising.{is_rising}
use Rattle.cast_ready.specs.Ready.{is_member}
use Rattle.cast_delay.proofs.Finds.{found_in}
use Rattle.cast_events.specs.declared.config.DomainConfig.{DomainConfig}
use Rattle.cast_view.specs.MemberSide.{members_of, with_request, with_answer}
use Rattle.cast_types.specs.declared.names.Standing.TheVariants.{Outside, Joining}
use Rattle.cast_view.specs.Home.{apply_move}
use Rattle.cast_events.specs.Session.{is_gone}
use Rattle.cast_events.specs.declared.event.Event.{Event}
use Rattle.cast_events.specs.declared.event.Event.TheVariants as event
use Rattle.cast_events.specs.declared.event.Taken.{Taken}
use Rattle.cast_rules.specs.Rules.Commands.{message_sent}
use Rattle.cast_rules.specs.State.{State, receiving, noting_sent, opening, serials, is_group, is_ended}
use Rattle.cast_rules.specs.State.{set_standing, outside, acts_outside, taking, setting_quota, with_delivery}
use Rattle.cast_rules.specs.Rules.Asking.{is_home}
use Rattle.cast_rules.specs.Turns.{is_ready_for}
use Rattle.cast_rules.specs.Effects.{next_message, sending, delivering}
use Rattle.cast_rules.specs.Rules.Owing.{tick}
use Rattle.cast_quota.specs.Quotas.{is_in_range}
use Rattle.cast_rules.specs.Rules.Events.{is_taken, may_open}
use Rattle.cast_rules.specs.Rules.Rest.{told_of}
use Rattle.cast_rules.specs.Step.{opening_next, sessions_given, act_of_event}
use Rattle.cast_rules.specs.Rest.{deliver_first, deliver_all, settle, set_order_by, set_order, set_orders, pass, let_go}
use Rattle.cast_rules.specs.Resting.{places_of, resting}
use Rattle.cast_rules.specs.Rules.Flushes.{go_on, go_on_all}
use Rattle.cast_rules.proofs.Setting.{may_set_order, set_order_is}
use Rattle.cast_rules.specs.Rules.Home.{start, want_bodies, decide, lead_group, lead}
use Rattle.cast_rules.specs.Run.{before_event, after_event, IsRun}
use Rattle.cast_rules.specs.Lawful.{IsLawful, IsTyped}
use Rattle.cast_rules.specs.History.{history}
use Rattle.cast_rules.specs.Raising.{IsTimeOf, IsFromMember, CountsMembers, IsPassed, opens, begins, acts}
use Rattle.cast_rules.specs.Raising.{lets_go, delivers, orders, goes_on, starts, wants, decides}
use Rattle.cast_rules.specs.Raising.{CountsCanBeRaised, CountsCanBeRaisedWithin, MembersAreCounted, RunsArePassed}
use Rattle.cast_rules.proofs.Spots.{found_passes}
use Rattle.cast_rules.proofs.Rules.Follows.{IsTaken, IsBrought, IsInvariantOfAll}
use Rattle.cast_rules.proofs.Rules.Data.{used_known, used_of_member}
use Rattle.cast_rules.proofs.Rules.Flushes.{wanted_known, go_on_keeps}
use Rattle.cast_rules.proofs.Rules.Commands.{on_command_keeps}
use Rattle.cast_rules.proofs.Rules.Leaving.{ended_keeps}
use Rattle.cast_rules.proofs.Rules.Rest.{told_if_keeps}
use Rattle.cast_rules.proofs.Rules.Home.{suspect_keeps}
use Rattle.cast_rules.proofs.Rules.Frames.{on_site_frame_keeps}
use Rattle.cast_rules.proofs.Lawful.{lawful_opening, lawful_before}
use Rattle.cast_rules.proofs.SameLaw.{same_home, same_group_set, same_freezing, same_pending, same_acts, same_closing, same_going}
use Rattle.cast_rules.proofs.SameLaw.{same_taking, same_setting, same_counting, invariant_by_same, lawful_same, same_pushing}
use Rattle.cast_rules.proofs.LawfulProcesses.{left_on}
use Rattle.cast_rules.proofs.LawfulMessages.{lawful_let_go, lawful_delivery}
use Rattle.cast_rules.proofs.LawfulSteps.{same_tick, same_start, same_want_bodies, same_decide, placed_at, taken_current}
use Rattle.cast_rules.proofs.LawfulSteps.{brought_current, brought_of_member, entered, all_lawful, lawful_going, lawful_acted}
use Rattle.cast_rules.proofs.LawfulSteps.{lawful_first, lawful_set_order_by, lawful_set_order, waits_typed, lawful_go_on, go_on_each}
use Rattle.cast_rules.specs.Order.{holders}
use Rattle.cast_rules.proofs.Counting.{is_clock_of, all_both}
use Rattle.cast_rules.proofs.Raising.{counts_same, counts_let_go, counts_before, counts_opening, counts_standing}
use Rattle.cast_rules.proofs.Raising.{counts_receiving, counts_sent_here, counts_sending, counts_delivery}
use Rattle.cast_rules.proofs.Raising.{counts_passing, counts_releasing, counts_opened, next_unborn, can_raise}

counts_if : (x y : State) (b : Bool) → (b ≡ true → CountsMembers x) → (b ≡ false → CountsMembers y) → CountsMembers (if b then x else y)
counts_if x y true p q = p refl
counts_if x y false p q = q refl

-- The moves of the rules

-- a message with the types of its parts, whose groups are configured, has a time of these
stamped_time : (s : State) (m : Message) → is_stamp m.times ≡ true → list_all (λ e. is_counts e.1.counts) m.times ≡ true →
    list_all (λ e. is_group s e.0) m.times ≡ true → IsTimeOf s.config.groups m.times
stamped_time s m stamp counts known =
    let x = and_parts (is_sorted group_cmp m.times) _ stamp in
    let y = and_parts (nat_lt 0 (length m.times)) _ x.1 in
    let seen = (and_parts (nat_le (length m.times) 32) (list_all (λ e. nat_lt 0 e.1.view) m.times) y.1).1 in
    record {
      valid = and_from (is_sorted group_cmp m.times) (list_all (λ e. is_counts e.1.counts) m.times) x.0 counts;
      named = all_both (λ e. is_group s e.0) (λ e. nat_lt 0 e.1.view) (λ e. is_clock_of s.config.groups e.0 e.1)
          (λ e p q. and_from (is_group s e.0) (nat_lt 0 e.1.view) p q) m.times known seen;
    }

-- what is received has a time of configured groups, and is from a member of the group's view
taken_time : (s : State) (h : GroupNo) (from : SiteNo) (m : Message) → IsTaken history s h from m → IsTimeOf s.config.groups m.times
taken_time s h from m taken = stamped_time s m taken.typed.0 taken.typed.1 (used_known history s h from m taken.used)

taken_from : (s : State) (h : GroupNo) (from : SiteNo) (m : Message) → IsTaken history s h from m → IsFromMember (s.group m.id.group) m.id
taken_from s h from m taken =
    let there = placed_at s m.id.group h taken.at in
    let same = taken_current s h from m taken in
    record {
      reached = omega (arith, same);
      member = λ _. subst (λ g. is_among proc_eq m.id.proc (members_of (s.group g)) ≡ true) (sym there.1)
          (used_of_member history s h from m taken.used);
    }

-- and so is what the home brings
brought_time : (s : State) (h : GroupNo) (m : Message) → IsBrought history s h m → IsTimeOf s.config.groups m.times
brought_time s h m brought = stamped_time s m brought.typed.0 brought.typed.1 (wanted_known history s h m brought.wanted)

brought_from : (s : State) (h : GroupNo) (m : Message) → IsBrought history s h m → IsFromMember (s.group m.id.group) m.id
brought_from s h m brought =
    let same = brought_current s h m brought in
    record { reached = omega (arith, same); member = λ _. brought_of_member s h m brought }

-- it is lawful, and counts members alone
abbrev IsCounted : State → Type 0
IsCounted s = IsLawful s × CountsMembers s

-- each move of the rules leaves it so
all_counted : IsInvariantOfAll history IsCounted
all_counted = record {
  keeps = invariant_by_same IsCounted (λ s t a c. (lawful_same s t a c.0, counts_same s t a c.1));
  push = λ s c k given room p. (all_lawful.push s c.0 k given room p, counts_same s _ (same_pushing s k p) c.1);
  note_cast = λ s c. (all_lawful.note_cast s c.0, counts_same s _ (same_counting s) c.1);
  note_joining = λ s c k given g h at number heard. (
    all_lawful.note_joining s c.0 k given g h at number heard,
    counts_standing s k g (Joining number heard) refl c.1 (c.1.opened k given),
  );
  note_outside = λ s c k g is. (
    all_lawful.note_outside s c.0 k g is,
    counts_same (set_standing s k g Outside) (outside s k g) (same_acts (set_standing s k g Outside) (acts_outside s k g) (left_on s k g))
        (counts_standing s k g Outside refl c.1 (c.1.placed k g is)),
  );
  sends = λ s c h k g content sent. let there = placed_at s g h sent.at in
      let same : message_sent history s k g h content ≡ next_message s g k content =
      ap (λ x. message_sent history s k g x content) (sym there.1) in (
        all_lawful.sends s c.0 h k g content sent,
        subst (λ m. CountsMembers (receiving (noting_sent s k m) m)) (sym same) (counts_sent_here s g k content c.0 c.1 sent.member),
      );
  receive = λ s c h from m taken. (
    all_lawful.receive s c.0 h from m taken,
    counts_receiving s m c.1 (taken_time s h from m taken) (taken_from s h from m taken),
  );
  brings = λ s c h m brought. (
    all_lawful.brings s c.0 h m brought,
    counts_receiving s m c.1 (brought_time s h m brought) (brought_from s h m brought),
  );
  freeze = λ s c g. (all_lawful.freeze s c.0 g, counts_same s _ (same_freezing s g) c.1);
  pend = λ s c g p tail pended. (all_lawful.pend s c.0 g p tail pended, counts_same s _ (same_pending s g p tail pended.typed) c.1);
  note_request = λ s c g what p. (
    all_lawful.note_request s c.0 g what p,
    counts_same s _ (same_group_set s g (with_request (s.group g) what p) refl refl refl refl) c.1,
  );
  note_answer = λ s c g. (
    all_lawful.note_answer s c.0 g,
    counts_same s _ (same_group_set s g (with_answer (s.group g)) refl refl refl refl) c.1,
  );
  move_home = λ s c g move. (all_lawful.move_home s c.0 g move, counts_same s _ (same_home s g (apply_move move (s.home g))) c.1);
  enter_view = λ s c h g skips n members request cut is. let e = entered s h g n members is in (
    all_lawful.enter_view s c.0 h g skips n members request cut is,
    counts_passing s h skips n members request cut c.0 c.1 e.listed is.typed e.later,
  );
  release_ended = λ s c g. (all_lawful.release_ended s c.0 g, counts_releasing s (is_ended s g) c.1);
  close = λ s c k given refusal. (all_lawful.close s c.0 k given refusal, counts_same s _ (same_closing s k refusal) c.1);
}

-- Events

pub counts_acted : (s : State) (e : Event) → IsLawful s → CountsMembers s → IsTyped e → CountsMembers (act_of_event s e)
counts_acted s (event.Open d) l c typed =
    elim (may_open history sessions_given s) as (λ b. CountsMembers (if b then opening_next s else s)) [
      | true ↦ counts_opened s c
      | false ↦ c
    ]
counts_acted s (event.Command d k x) l c typed = (on_command_keeps history IsCounted all_counted s (l, c) k x).1
counts_acted s (event.Gone d k) l c typed =
    (ended_keeps history IsCounted all_counted s (l, c) k (lawful_going s k l, counts_same s _ (same_going s k) c)).1
counts_acted s (event.Suspect d site) l c typed = (suspect_keeps history IsCounted all_counted s (l, c) site).1
counts_acted s (event.Frame d from f) l c typed = (on_site_frame_keeps history IsCounted all_counted s (l, c) from f typed).1
counts_acted s (event.Quota d name value) l c typed =
    counts_if (setting_quota s name value) s (is_in_range name value) (λ _. counts_same s _ (same_setting s name value) c) (λ _. c)
counts_acted s (event.Take d k most) l c typed =
    counts_if (taking s k most) s (not (is_gone (s.session k)) && is_taken most) (λ _. counts_same s _ (same_taking s k most) c) (λ _. c)
counts_acted s (event.Tick t) l c typed = counts_same s (tick history s t) (same_tick s t) c

-- Until the state rests

pub counts_first : (s : State) (k : ℕ) → IsLawful s → CountsMembers s → CountsMembers (deliver_first k s)
counts_first s k l c =
    elim (find (is_ready_for s k) s.got)
    as (λ o. find (is_ready_for s k) s.got ≡ o → CountsMembers (elim o [ Some m ↦ let_go (delivering s k m) | None ↦ s ])) [
      | Some m ↦ λ is.
          let at = found_in (is_ready_for s k) s.got m is in
          let ready = found_passes (is_ready_for s k) s.got m is in
          counts_let_go (delivering s k m)
          (told_if_keeps history IsCounted all_counted (with_delivery s k m)
          (lawful_delivery s k m l at ready, counts_delivery s k m l c at ready) k (told_of m.id m.body)).1
      | None ↦ λ _. c
    ] refl

counts_set_order_by : (s : State) (g : GroupNo) (k : ℕ) → IsLawful s → CountsMembers s → CountsMembers (set_order_by s g k)
counts_set_order_by s g k l c =
    let content : Body = body.Order (places_of s g k) in
    subst CountsMembers (sym (set_order_is s g k))
    (counts_if (let_go (sending s g k content)) s (may_set_order s g k)
    (λ may.
    counts_let_go (sending s g k content) (counts_sending s g k content l c (and_parts (is_member ((s.process k).standing g)) _ may).0))
    (λ _. c))

pub counts_set_order : (s : State) (g : GroupNo) → IsLawful s → CountsMembers s → CountsMembers (set_order s g)
counts_set_order s g l c =
    each (holders s g) s l c
  where
    each : (ks : List ℕ) (t : State) → IsLawful t → CountsMembers t → CountsMembers (fold (λ u k. set_order_by u g k) t ks)
    each [] t m d = d
    each (k ∷ ks) t m d = each ks (set_order_by t g k) (lawful_set_order_by t g k m) (counts_set_order_by t g k m d)

-- the Install that waits is completed, or what it lacks is wanted
pub counts_go_on : (s : State) (g : GroupNo) → is_group s g ≡ true → IsLawful s → CountsMembers s →
    CountsMembers (go_on history resting s g)
counts_go_on s g listed l c =
    (go_on_keeps history resting IsCounted all_counted (λ t h. (lawful_let_go t h.0, counts_let_go t h.1)) s (l, c)
    g g (ap (λ b. if b then Some g else None) listed) (waits_typed s g l)).1

pub counts_start : (s : State) (g : GroupNo) → CountsMembers s → CountsMembers (start history s g)
counts_start s g c = counts_same s (start history s g) (same_start s g) c

pub counts_decide : (s : State) (g : GroupNo) → CountsMembers s → CountsMembers (decide history s g)
counts_decide s g c = counts_same s (decide history s g) (same_decide s g) c

-- All states that a history passes

pub passed_counts : (here : SiteNo) (config : DomainConfig) → is_rising group_cmp config.groups ≡ true → length config.groups ≤ MAX_GROUPS →
    (s : State) → IsPassed here config s → IsLawful s × CountsMembers s
passed_counts here config rising few s opens = (lawful_opening here config rising, counts_opening here config few)
passed_counts here config rising few s (begins t p) =
    let h = passed_counts here config rising few t p in
    (lawful_before t h.0, counts_before t h.1)
passed_counts here config rising few s (acts t e typed p) =
    let h = passed_counts here config rising few t p in
    (lawful_acted t e h.0 (next_unborn t h.1) typed, counts_acted t e h.0 h.1 typed)
passed_counts here config rising few s (lets_go t p) =
    let h = passed_counts here config rising few t p in
    (lawful_let_go t h.0, counts_let_go t h.1)
passed_counts here config rising few s (delivers t k p) =
    let h = passed_counts here config rising few t p in
    (lawful_first t k h.0, counts_first t k h.0 h.1)
passed_counts here config rising few s (orders t g p) =
    let h = passed_counts here config rising few t p in
    (lawful_set_order t g h.0, counts_set_order t g h.0 h.1)
passed_counts here config rising few s (goes_on t g listed p) =
    let h = passed_counts here config rising few t p in
    (lawful_go_on t g listed h.0, counts_go_on t g listed h.0 h.1)
passed_counts here config rising few s (starts t g p) =
    let h = passed_counts here config rising few t p in
    (lawful_same t (start history t g) (same_start t g) h.0, counts_start t g h.1)
passed_counts here config rising few s (wants t g p) =
    let h = passed_counts here config rising few t p in
    let same = same_want_bodies t g in
    (lawful_same t (want_bodies history t g) same h.0, counts_same t (want_bodies history t g) same h.1)
passed_counts here config rising few s (decides t g p) =
    let h = passed_counts here config rising few t p in
    (lawful_same t (decide history t g) (same_decide t g) h.0, counts_decide t g h.1)

module _ (here : SiteNo) (config : DomainConfig) where
  abbrev Passed : State → Type 0
  Passed s = IsPassed here config s

  passed_fold : {X : Type 0} (f : State → X → State) → ((s : State) (x : X) → Passed s → Passed (f s x)) → (xs : List X) (s : State) →
      Passed s → Passed (fold f s xs)
  passed_fold f h [] s p = p
  passed_fold f h (x ∷ xs) s p = passed_fold f h xs (f s x) (h s x p)

  passed_iterate : (n : ℕ) (f : State → State) → ((s : State) → Passed s → Passed (f s)) → (s : State) → Passed s → Passed (iterate n f s)
  passed_iterate zero f h s p = p
  passed_iterate (suc n) f h s p = passed_iterate n f h (f s) (h s p)

  passed_settle : (s : State) → Passed s → Passed (settle s)
  passed_settle s p =
      passed_fold deliver_all (λ t k q. passed_iterate (length t.got) (deliver_first k) (λ u r. delivers u k r) t q) (serials s) s p

  passed_lead : (s : State) → Passed s → Passed (lead history s)
  passed_lead s p = elim (is_home history s) as (λ b. Passed (if b then fold (lead_group history) s s.config.groups else s)) [
    | true ↦
        passed_fold (lead_group history)
        (λ t g q. decides (want_bodies history (start history t g) g) g (wants (start history t g) g (starts t g q))) s.config.groups s p
    | false ↦ p
  ]

  passed_pass : (s : State) → Passed s → Passed (pass s)
  passed_pass s p =
      let settled : State = settle s in
      let ordered : State = set_orders settled in
      passed_lead (go_on_all history resting ordered)
      (go_on_each Passed (λ t g listed q. goes_on t g listed q)
      ordered (passed_fold set_order (λ t g q. orders t g q) settled.config.groups settled (passed_settle s p)))

  pub passed_run : (events : List Event) (answers : List Taken) (sent : List (SiteNo × SiteFrame)) (pushed : List (ℕ × Push))
      (s t : State) → AllByRecursion IsTyped events → Passed s → IsRun s events answers sent pushed t → Passed t
  passed_run [] [] sent pushed s t typed p run = subst Passed (sym run.2) p
  passed_run [] (a ∷ answers) sent pushed s t typed p run = absurd run
  passed_run (e ∷ events) [] sent pushed s t typed p run = absurd run
  passed_run (e ∷ events) (a ∷ answers) sent pushed s t typed p (u, later, more, step, made, told, run) =
      let acted_on : State = before_event s in
      let after : Passed (after_event s e) = lets_go (act_of_event acted_on e) (acts acted_on e typed.0 (begins s p)) in
      passed_run events answers later more u t typed.1
      (subst Passed step.rests.1 (passed_iterate step.rests.0 pass passed_pass (after_event s e) after)) run

pub members_counted : MembersAreCounted
members_counted here config s rising few p = passed_counts here config rising few s p

pub raised_within : CountsCanBeRaisedWithin
raised_within here config s rising few p = let h = passed_counts here config rising few s p in can_raise s h.0 h.1

pub runs_passed : RunsArePassed
runs_passed here config events answers sent pushed s typed run =
    passed_run here config events answers sent pushed (opening here config) s typed opens run

pub raised_after : CountsCanBeRaised
raised_after here config events answers sent pushed s rising few typed run =
    raised_within here config s rising few (runs_passed here config events answers sent pushed s typed run)
