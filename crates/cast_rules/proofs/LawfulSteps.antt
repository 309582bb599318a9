-- What holds of each history that events lead to is kept by each event, and until the state rests.
-- `lawful_acted` says so of an event, and `lawful_rests` of what follows it. Each rule is made of
-- effects, each of which keeps `IsLawful` by a lemma of `LawfulMessages` and its like, or by
-- `SameLaw`; the tests of a rule give what its effect supposes: a message that comes is of the
-- view that its group has reached (`taken_current`), a view that is entered is a later one, and
-- who sets the order may raise its time. The rules of the home change none of this.
use Rattle.std.proofs.Common.{◌≡◌, ℕ, ◌+◌, ◌<◌, zero, suc, Bool, true, false, not, List, [], ◌∷◌}
use Rattle.std.proofs.Common.{length, Option, Some, None, refl, sym, ap, subst, ◌∙◌, inl, inr, arith}
use Rattle.std.specs.Prelude.{◌&&◌, nat_lt, nat_le, if◌then◌else◌}
use Rattle.std.specs.List.{fold, find}
use Rattle.std.specs.FinMap.Entries.{is_sorted}
use Rattle.std.proofs.lemmas.Bool.{cases_eq, eqb-true, false≢true, and_parts, and_from, or_left, or_right, leb-true, le-leb}
use Rattle.std.proofs.lemmas.Option.{none-some, same_Some}
use Rattle.cast_types.specs.declared.names.SiteNo.{SiteNo}
use Rattle.cast_types.specs.declared.names.GroupNo.{GroupNo}
use Rattle.cast_types.specs.declared.names.Proc.{Proc}
use Rattle.cast_types.specs.declared.names.Standing.TheVariants.{Joining}
use Rattle.cast_types.specs.declared.limits.TheConstants.{MAX_NUMBER}
use Rattle.cast_types.specs.Names.{Entry, group_eq, group_cmp, site_eq, proc_eq}
use Rattle.cast_types.specs.Repeat.{iterate}
use Rattle.cast_types.specs.Stamps.{ClockList, is_stamp}
use Rattle.cast_clock.specs.Times.{count_in, with_bump, has_room}
use Rattle.cast_types.specs.Sets.{is_among}
use Rattle.cast_types.proofs.Orders.{group_itself}
use Rattle.cast_message.specs.declared.message.Body.{Body}
use Rattle.cast_message.specs.declared.message.Body.TheVariants as body
use Rattle.cast_message.specs.declared.message.Message.{Message}
use Rattle.cast_message.specs.Membership.{Membership, is_members}
use Rattle.cast_ready.specs.Ready.{is_member}
use Rattle.cast_delay.proofs.Finds.{found_in}
use Rattle.cast_events.specs.declared.config.DomainConfig.{DomainConfig}
use Rattle.cast_view.specs.declared.member.Pending.{Pending}
use Rattle.cast_view.specs.MemberSide.{members_of, with_request, with_answer}
use Rattle.cast_view.specs.Home.{HomeMove, is_empty, apply_move}
use Rattle.cast_events.specs.Session.{is_gone}
use Rattle.cast_events.specs.declared.event.Event.{Event}
use Rattle.cast_events.specs.declared.event.Event.TheVariants as event
use Rattle.cast_clock.proofs.Raised.{bump_leaves_views}
use Rattle.cast_rules.specs.Rules.Commands.{message_sent}
use Rattle.cast_rules.specs.State.{State, receiving, noting_sent, local, serials, is_group, may_speak}
use Rattle.cast_rules.specs.State.{set_home, was_given, going, taking, setting_quota, with_delivery}
use Rattle.cast_rules.specs.Rules.Room.{may_order}
use Rattle.cast_rules.specs.Order.{order_told, unlisted_ids, has_place, holders}
use Rattle.cast_rules.specs.Turns.{is_ready_for}
use Rattle.cast_rules.specs.Rules.Owing.{tick}
use Rattle.cast_rules.proofs.Rules.Owing.{tick_keeps}
use Rattle.cast_rules.specs.Effects.{next_message, sending, delivering}
use Rattle.cast_rules.specs.Rules.Sending.{may_raise}
use Rattle.cast_quota.specs.Quotas.{is_in_range}
use Rattle.cast_rules.specs.Rules.Events.{is_taken, may_open}
use Rattle.cast_rules.specs.Rules.Rest.{told_of}
use Rattle.cast_rules.specs.Step.{opening_next, sessions_given, act_of_event}
use Rattle.cast_rules.specs.Rules.Home.{start, want_bodies, decide, lead}
use Rattle.cast_rules.specs.Rules.Flushes.{own_want_key, complete, want_own, complete_or_want, go_on, go_on_all}
use Rattle.cast_rules.specs.Rest.{deliver_first, deliver_all, settle, set_order_by, set_order, set_orders, pass, RestsAt, let_go}
use Rattle.cast_rules.proofs.Setting.{may_set_order, set_order_is}
use Rattle.cast_rules.specs.Resting.{places_of, resting}
use Rattle.cast_rules.specs.Reports.{has_delivered_cut, missing_in}
use Rattle.cast_rules.specs.Lawful.{IsSpent, Waits, IsLawful, IsTyped}
use Rattle.cast_rules.proofs.Totals.{In}
use Rattle.cast_rules.proofs.Spots.{found_passes}
use Rattle.cast_rules.specs.History.{history}
use Rattle.cast_rules.proofs.Rules.Follows.{IsTaken, IsBrought, IsEntered, IsInvariantOfAll}
use Rattle.cast_rules.proofs.Rules.Data.{used_current, used_of_member}
use Rattle.cast_rules.proofs.Rules.Commands.{on_command_keeps}
use Rattle.cast_rules.proofs.Rules.Leaving.{ended_keeps}
use Rattle.cast_rules.proofs.Rules.Rest.{told_if_keeps}
use Rattle.cast_rules.proofs.Rules.Home.{start_keeps, want_bodies_keeps, decide_keeps, lead_keeps, suspect_keeps}
use Rattle.cast_rules.proofs.Rules.Frames.{on_site_frame_keeps}
use Rattle.cast_rules.proofs.Rules.Flushes.{wanted_current, wanted_of_member, go_on_keeps}
use Rattle.cast_rules.proofs.Alikes.{alike_installing}
use Rattle.cast_rules.proofs.Lawful.{same_acted, kept_map, lawful_if, lawful_fold}
use Rattle.cast_rules.proofs.SameLaw.{SameLaw, same_self, same_then, same_fold, same_owe, same_home, same_group_set}
use Rattle.cast_rules.proofs.SameLaw.{same_freezing, same_pending, moves_same, invariant_by_same, lawful_same}
use Rattle.cast_rules.proofs.SameLaw.{same_pushing, same_closing, same_going, same_taking, same_setting, same_counting}
use Rattle.cast_rules.proofs.LawfulProcesses.{lawful_standing, lawful_outside}
use Rattle.cast_rules.proofs.LawfulMessages.{lawful_sent_here, local_speaks, lawful_receiving, lawful_let_go}
use Rattle.cast_rules.proofs.LawfulMessages.{lawful_sending, lawful_delivery, lawful_releasing_ended}
use Rattle.cast_rules.proofs.LawfulViews.{lawful_passing}

-- a stamp is in order
stamp_sorted : (t : ClockList) → is_stamp t ≡ true → is_sorted group_cmp t ≡ true
stamp_sorted t stamp = (and_parts (is_sorted group_cmp t) _ stamp).0

-- and so is a time that may be raised, once it is
raised_sorted : (t : ClockList) (g : GroupNo) (p : Proc) → may_raise t g p ≡ true → is_sorted group_cmp (with_bump t g p) ≡ true
raised_sorted t g p may =
    let room = and_parts (nat_lt (count_in t g p) MAX_NUMBER) (has_room (with_bump t g p) && is_stamp (with_bump t g p)) may in
    stamp_sorted (with_bump t g p) (and_parts (has_room (with_bump t g p)) (is_stamp (with_bump t g p)) room.1).1

-- The moves of the rules

-- a group stands under its name, where it is configured
pub placed_at : (s : State) (g h : GroupNo) → (if is_group s g then Some g else None) ≡ Some h → (is_group s g ≡ true) × (g ≡ h)
placed_at s g h at = of_test (is_group s g) at
  where
    of_test : (b : Bool) → (if b then Some g else None) ≡ Some h → (b ≡ true) × (g ≡ h)
    of_test true same = (refl, same_Some g h same)
    of_test false same = absurd (none-some h same)

-- what is received is of the view that its group has reached
pub taken_current : (s : State) (h : GroupNo) (from : SiteNo) (m : Message) → IsTaken history s h from m →
    m.id.view ≡ (s.group m.id.group).number
taken_current s h from m taken =
    let there = placed_at s m.id.group h taken.at in
    eqb-true m.id.view (s.group h).number (used_current history s h from m taken.used) ∙ ap (λ g. (s.group g).number) (sym there.1)

-- and its process is one of the view's members
pub taken_speaks : (s : State) (h : GroupNo) (from : SiteNo) (m : Message) → IsTaken history s h from m →
    may_speak s m.id.group m.id.proc ≡ true
taken_speaks s h from m taken =
    let there = placed_at s m.id.group h taken.at in
    or_left (is_among proc_eq m.id.proc (members_of (s.group m.id.group))) (site_eq m.id.proc.site s.here)
    (ap (λ g. is_among proc_eq m.id.proc (members_of (s.group g))) there.1 ∙ used_of_member history s h from m taken.used)

-- what the home brings is of the view that its group has reached
pub brought_current : (s : State) (h : GroupNo) (m : Message) → IsBrought history s h m → m.id.view ≡ (s.group m.id.group).number
brought_current s h m brought =
    let there = placed_at s m.id.group h brought.at in
    eqb-true m.id.view (s.group h).number (wanted_current history s h m brought.wanted) ∙ ap (λ g. (s.group g).number) (sym there.1)

-- and its process is one of the view's members
pub brought_of_member : (s : State) (h : GroupNo) (m : Message) → IsBrought history s h m →
    is_among proc_eq m.id.proc (members_of (s.group m.id.group)) ≡ true
brought_of_member s h m brought =
    let there = placed_at s m.id.group h brought.at in
    ap (λ g. is_among proc_eq m.id.proc (members_of (s.group g))) there.1 ∙ wanted_of_member history s h m brought.wanted

-- a view is entered by a configured group, and is a later one
pub record Enters (s : State) (h : GroupNo) (n : ℕ) : Type 0 where
  pub listed : is_group s h ≡ true
  pub later : (s.group h).number < n

pub entered : (s : State) (h g : GroupNo) (n : ℕ) (members : Membership) → IsEntered history s h g n members → Enters s h n
entered s h g n members is =
    let there = placed_at s g h is.at in
    record { listed = subst (λ x. is_group s x ≡ true) there.1 there.0; later = is.later }

-- a history stays lawful at each move of the rules
pub all_lawful : IsInvariantOfAll history IsLawful
all_lawful = record {
  keeps = invariant_by_same IsLawful lawful_same;
  push = λ s l k given room p. lawful_same s _ (same_pushing s k p) l;
  note_cast = λ s l. lawful_same s _ (same_counting s) l;
  note_joining = λ s l k given g h at number heard. lawful_standing s k g (Joining number heard) refl l (λ _. (placed_at s g h at).0);
  note_outside = λ s l k g is. lawful_outside s k g l;
  sends = λ s l h k g content sent. let there = placed_at s g h sent.at in
      let same : message_sent history s k g h content ≡ next_message s g k content =
      ap (λ x. message_sent history s k g x content) (sym there.1) in
      subst (λ m. IsLawful (receiving (noting_sent s k m) m)) (sym same)
      (lawful_sent_here s k (next_message s g k content) l (λ i. bump_leaves_views (s.process k).time g i (local s k))
      (raised_sorted (s.process k).time g (local s k) sent.raises) (omega arith) (local_speaks s g k));
  receive = λ s l h from m taken.
      let same = taken_current s h from m taken in
      lawful_receiving s m l (stamp_sorted m.times taken.typed.0) (omega (arith, same)) (taken_speaks s h from m taken);
  brings = λ s l h m brought. let same = brought_current s h m brought in
      lawful_receiving s m l (stamp_sorted m.times brought.typed.0) (omega (arith, same))
      (or_left (is_among proc_eq m.id.proc (members_of (s.group m.id.group))) (site_eq m.id.proc.site s.here)
      (brought_of_member s h m brought));
  freeze = λ s l g. lawful_same s _ (same_freezing s g) l;
  pend = λ s l g p tail pended. lawful_same s _ (same_pending s g p tail pended.typed) l;
  note_request = λ s l g what p. lawful_same s _ (same_group_set s g (with_request (s.group g) what p) refl refl refl refl) l;
  note_answer = λ s l g. lawful_same s _ (same_group_set s g (with_answer (s.group g)) refl refl refl refl) l;
  move_home = λ s l g move. lawful_same s _ (same_home s g (apply_move move (s.home g))) l;
  enter_view = λ s l h g skips n members request cut is.
      let e = entered s h g n members is in
      lawful_passing s h skips n members request cut l e.listed e.later;
  release_ended = λ s l g. lawful_releasing_ended s g l;
  close = λ s l k given refusal. lawful_same s _ (same_closing s k refusal) l;
}

pub lawful_going : (s : State) (k : ℕ) → IsLawful s → IsLawful (going s k)
lawful_going s k l = lawful_same s _ (same_going s k) l

-- Events

-- the process of a new serial is not yet a member of any group
abbrev pub IsUnborn : State → Type 0
IsUnborn s = (g : GroupNo) → is_member ((s.process (s.used + 1)).standing g) ≡ false

pub lawful_opened : (s : State) → IsLawful s → IsUnborn s → IsLawful (opening_next s)
lawful_opened s l unborn = record {
  rising = l.rising;
  known = l.known;
  current = l.current;
  viewed = l.viewed;
  stamped = l.stamped;
  spent = kept_map (IsSpent s) (IsSpent (opening_next s)) (λ m h. record {
    reached = h.reached;
    delivered = λ k given is here. elim (cases_eq (s.used + 1) k) [
      | inl same ↦ absurd (false≢true (sym (unborn m.id.group) ∙ ap (λ j. is_member ((s.process j).standing m.id.group)) same ∙ is))
      | inr other ↦ h.delivered k (given_less s.used k other given) is here
    ];
  }) s.got s.kept l.spent;
  listed = l.listed;
  waiting = l.waiting;
  traced = record {
    reached = l.traced.reached;
    spoken = l.traced.spoken;
    acted = same_acted s (opening_next s) refl l.traced;
    delivered = l.traced.delivered;
    seen = l.traced.seen;
  };
}
  where
    given_less : (used k : ℕ) → (used + 1 ≡ k → ⊥) → was_given (used + 1) k ≡ true → was_given used k ≡ true
    given_less used k other given =
        let parts = and_parts (nat_lt 0 k) (nat_le k (used + 1)) given in
        and_from (nat_lt 0 k) (nat_le k used) parts.0 (le-leb k used (omega (arith, leb-true k (used + 1) parts.1, other)))

-- Ticks

pub same_tick : (s : State) (t : ℕ) → SameLaw s (tick history s t)
same_tick s t = tick_keeps history (SameLaw s) (moves_same s) s (same_self s) t

pub lawful_acted : (s : State) (e : Event) → IsLawful s → IsUnborn s → IsTyped e → IsLawful (act_of_event s e)
lawful_acted s (event.Open d) l unborn typed =
    elim (may_open history sessions_given s) as (λ b. IsLawful (if b then opening_next s else s)) [
      | true ↦ lawful_opened s l unborn
      | false ↦ l
    ]
lawful_acted s (event.Command d k c) l unborn typed = on_command_keeps history IsLawful all_lawful s l k c
lawful_acted s (event.Gone d k) l unborn typed = ended_keeps history IsLawful all_lawful s l k (lawful_going s k l)
lawful_acted s (event.Suspect d site) l unborn typed = suspect_keeps history IsLawful all_lawful s l site
lawful_acted s (event.Frame d from f) l unborn typed = on_site_frame_keeps history IsLawful all_lawful s l from f typed
lawful_acted s (event.Quota d name value) l unborn typed =
    lawful_if (setting_quota s name value) s (is_in_range name value) (λ _. lawful_same s _ (same_setting s name value) l) (λ _. l)
lawful_acted s (event.Take d k most) l unborn typed =
    lawful_if (taking s k most) s (not (is_gone (s.session k)) && is_taken most) (λ _. lawful_same s _ (same_taking s k most) l) (λ _. l)
lawful_acted s (event.Tick t) l unborn typed = lawful_same s (tick history s t) (same_tick s t) l

-- Deliveries

pub lawful_first : (s : State) (k : ℕ) → IsLawful s → IsLawful (deliver_first k s)
lawful_first s k l =
    elim (find (is_ready_for s k) s.got)
    as (λ o. find (is_ready_for s k) s.got ≡ o → IsLawful (elim o [ Some m ↦ let_go (delivering s k m) | None ↦ s ])) [
      | Some m ↦ λ is. lawful_let_go (delivering s k m)
          (told_if_keeps history IsLawful all_lawful (with_delivery s k m)
          (lawful_delivery s k m l (found_in (is_ready_for s k) s.got m is) (found_passes (is_ready_for s k) s.got m is))
          k (told_of m.id m.body))
      | None ↦ λ _. l
    ] refl

pub lawful_iterate : (n : ℕ) (f : State → State) → ((s : State) → IsLawful s → IsLawful (f s)) → (s : State) → IsLawful s →
    IsLawful (iterate n f s)
lawful_iterate zero f h s l = l
lawful_iterate (suc n) f h s l = lawful_iterate n f h (f s) (h s l)

pub lawful_deliver_all : (s : State) (k : ℕ) → IsLawful s → IsLawful (deliver_all s k)
lawful_deliver_all s k l = lawful_iterate (length s.got) (deliver_first k) (λ t. lawful_first t k) s l

pub lawful_settle : (s : State) → IsLawful s → IsLawful (settle s)
lawful_settle s l = lawful_fold deliver_all lawful_deliver_all (serials s) s l

-- Set-order messages

-- the holder may raise its time as it sends a set-order message
pub lawful_order_sent : (s : State) (g : GroupNo) (k : ℕ) (content : Body) → IsLawful s → may_set_order s g k ≡ true →
    IsLawful (sending s g k content)
lawful_order_sent s g k content l may =
    let raises = may_raise (s.process k).time g (local s k) in
    let place = has_place (order_told s g) in
    let some = not (is_empty (unlisted_ids s g k)) in
    let a =
    and_parts (is_member ((s.process k).standing g)) (not (s.group g).frozen && (may_order history s && (some && (place && raises)))) may in
    let o = and_parts (not (s.group g).frozen) (may_order history s && (some && (place && raises))) a.1 in
    let b = and_parts (may_order history s) (some && (place && raises)) o.1 in
    let c = and_parts some (place && raises) b.1 in
    lawful_sending s g k content l (raised_sorted (s.process k).time g (local s k) (and_parts place raises c.1).1)

pub lawful_set_order_by : (s : State) (g : GroupNo) (k : ℕ) → IsLawful s → IsLawful (set_order_by s g k)
lawful_set_order_by s g k l =
    let content : Body = body.Order (places_of s g k) in
    subst IsLawful (sym (set_order_is s g k))
    (lawful_if (let_go (sending s g k content)) s (may_set_order s g k)
    (λ may. lawful_let_go (sending s g k content) (lawful_order_sent s g k content l may))
    (λ _. l))

pub lawful_set_order : (s : State) (g : GroupNo) → IsLawful s → IsLawful (set_order s g)
lawful_set_order s g l =
    lawful_fold (λ t k. set_order_by t g k) (λ t k m. lawful_set_order_by t g k m) (holders s g) s l

pub lawful_set_orders : (s : State) → IsLawful s → IsLawful (set_orders s)
lawful_set_orders s l = lawful_fold set_order lawful_set_order s.config.groups s l

-- The Installs that wait

-- an Install that waits has the members of a view
pub waits_typed : (s : State) (g : GroupNo) → IsLawful s → (p : Pending) → (s.group g).pending ≡ Some p → is_members p.members ≡ true
waits_typed s g l p is = (subst (Waits (s.group g).frozen) is (l.waiting g)).1

-- it is completed, or what it lacks is wanted
pub lawful_go_on : (s : State) (g : GroupNo) → is_group s g ≡ true → IsLawful s → IsLawful (go_on history resting s g)
lawful_go_on s g listed l =
    go_on_keeps history resting IsLawful all_lawful lawful_let_go s l g g (ap (λ b. if b then Some g else None) listed) (waits_typed s g l)

-- that a site wants messages changes nothing of this
pub same_want_own : (g : GroupNo) (es : List Entry) (s : State) → SameLaw s (fold (want_own history g) s es)
same_want_own g es s = same_fold (want_own history g) (λ t e. same_owe t (own_want_key history t g e)) es s

-- the configuration stays
pub go_on_config : (s : State) (g : GroupNo) → (go_on history resting s g).config ≡ s.config
go_on_config s g = waits (s.group g).pending
  where
    of_cut : (b : Bool) (p : Pending) →
        (if b then let_go (complete history s g p) else fold (want_own history g) s (missing_in s g p.cut)).config ≡ s.config
    of_cut true p = (alike_installing s g false s.config.home ((s.group g).number + 1) p.members p.request p.cut).config
    of_cut false p = (same_want_own g (missing_in s g p.cut) s).config

    waits : (o : Option Pending) → (elim o as (λ _. State) [ Some p ↦ complete_or_want history resting s g p | None ↦ s ]).config ≡ s.config
    waits (Some p) = of_cut (has_delivered_cut s g p.cut) p
    waits None = refl

-- what holds after each group holds after all of them
pub go_on_each : (holds : State → Type 0) →
    ((s : State) (g : GroupNo) → is_group s g ≡ true → holds s → holds (go_on history resting s g)) → (s : State) → holds s →
    holds (go_on_all history resting s)
go_on_each holds step s l = each s.config.groups s (λ g at. listed g s.config.groups at) l
  where
    listed : (g : GroupNo) (gs : List GroupNo) → In g gs → is_among group_eq g gs ≡ true
    listed g [] at = absurd at
    listed g (x ∷ gs) (inl same) = or_left (group_eq g x) (is_among group_eq g gs) (subst (λ y. group_eq g y ≡ true) same (group_itself g))
    listed g (x ∷ gs) (inr at) = or_right (group_eq g x) (is_among group_eq g gs) (listed g gs at)

    each : (gs : List GroupNo) (t : State) → ((g : GroupNo) → In g gs → is_group t g ≡ true) → holds t →
        holds (fold (go_on history resting) t gs)
    each [] t among h = h
    each (g ∷ gs) t among h =
        each gs (go_on history resting t g)
        (λ x at. ap (λ (c : DomainConfig). is_among group_eq x c.groups) (go_on_config t g) ∙ among x (inr at))
        (step t g (among g (inl refl)) h)

-- in each group
pub lawful_go_on_all : (s : State) → IsLawful s → IsLawful (go_on_all history resting s)
lawful_go_on_all s l = go_on_each IsLawful lawful_go_on s l

-- The home

-- its rules change nothing that a lawful history is about
moves_home_same : (s t : State) → SameLaw s t → (g : GroupNo) (move : HomeMove) → SameLaw s (set_home t g (apply_move move (t.home g)))
moves_home_same s t a g move = same_then s t _ a (same_home t g (apply_move move (t.home g)))

pub same_start : (s : State) (g : GroupNo) → SameLaw s (start history s g)
same_start s g = start_keeps history (SameLaw s) (moves_same s) (moves_home_same s) s (same_self s) g

pub same_want_bodies : (s : State) (g : GroupNo) → SameLaw s (want_bodies history s g)
same_want_bodies s g = want_bodies_keeps history (SameLaw s) (moves_same s) (moves_home_same s) s (same_self s) g

pub same_decide : (s : State) (g : GroupNo) → SameLaw s (decide history s g)
same_decide s g = decide_keeps history (SameLaw s) (moves_same s) (moves_home_same s) s (same_self s) g

pub same_lead : (s : State) → SameLaw s (lead history s)
same_lead s = lead_keeps history (SameLaw s) (moves_same s) (moves_home_same s) s (same_self s)

-- The whole

pub lawful_pass : (s : State) → IsLawful s → IsLawful (pass s)
lawful_pass s l =
    let t : State = set_orders (settle s) in
    let u : State = go_on_all history resting t in
    lawful_same u (pass s) (same_lead u) (lawful_go_on_all t (lawful_set_orders (settle s) (lawful_settle s l)))

pub lawful_rests : (s t : State) → IsLawful s → RestsAt s t → IsLawful t
lawful_rests s t l rests = subst IsLawful rests.1 (lawful_iterate rests.0 pass lawful_pass s l)
