-- The numbers of all that a site sends count from 1, where those of its configuration do, and those of the frames that come to it.
-- The invariant is `Sound`: so do the numbers of all that the site keeps from which frames have theirs.
use Rattle.std.proofs.Common.{ap, arith, inl, inr, subst, sym, ◌∙◌}
use Rattle.std.proofs.lemmas.Bool.{and_parts, false≢true, true≢false}
use Rattle.std.proofs.lemmas.List.Elements.{Contains-append_cases, Contains-push_cases}
use Rattle.std.specs.FinMap.Entries.{put}
use Rattle.std.specs.List.{list_any}
use Rattle.std.specs.Prelude.{◌&&◌, ◌||◌, ◌+◌, ◌++◌, ◌==◌, Bool, Contains, List, None, Option, Some, [], false, filter, if◌then◌else◌}
use Rattle.std.specs.Prelude.{map, not, refl, true, unwrap_or, ℕ, ◌∷◌, ◌≡◌, ◌≤◌}
use Rattle.cast_clock.specs.Times.{entering, join, view_of}
use Rattle.cast_events.specs.declared.config.DomainConfig.{DomainConfig}
use Rattle.cast_events.specs.declared.event.Event.{Event}
use Rattle.cast_events.specs.declared.event.Taken.{Taken}
use Rattle.cast_events.specs.Session.{Session, first_session, is_open}
use Rattle.cast_flush.specs.Reports.{cut_from, greatest_count, is_complete, wants_of}
use Rattle.cast_flush.specs.declared.report.Report.{Report}
use Rattle.cast_message.specs.Bodies.{kind_of}
use Rattle.cast_message.specs.Membership.{Membership}
use Rattle.cast_message.specs.Tail.{Tail}
use Rattle.cast_message.specs.declared.message.Body.{Body}
use Rattle.cast_message.specs.declared.message.Body.TheVariants as body
use Rattle.cast_message.specs.declared.message.Message.{Message}
use Rattle.cast_message.specs.declared.site.Change.{Change}
use Rattle.cast_message.specs.declared.site.Change.TheVariants as change
use Rattle.cast_message.specs.declared.site.SiteFrame.{SiteFrame}
use Rattle.cast_message.specs.declared.site.SiteFrame.TheVariants as frame
use Rattle.cast_ready.specs.Ready.{Process, covered_entries, is_member, is_outside}
use Rattle.cast_rules.specs.Effects.{next_message}
use Rattle.cast_rules.specs.Entering.{enters, in_view, is_put_out, passing, put_outside, putting_out}
use Rattle.cast_rules.specs.History.{history}
use Rattle.cast_rules.specs.Order.{unlisted_ids}
use Rattle.cast_rules.specs.Rules.Asking.{is_home}
use Rattle.cast_rules.specs.Rules.Keys.{id_in, message_key}
use Rattle.cast_rules.specs.Rules.Owing.{wanted_view}
use Rattle.cast_rules.specs.Run.{IsStep, after_event, before_event}
use Rattle.cast_rules.specs.State.{State, abcasts_with, emit, is_ended, is_group, local, noting_sent, receiving, releasing}
use Rattle.cast_rules.specs.State.{opening, releasing_ended, set_group, with_delivery}
use Rattle.cast_table.proofs.Places.{none_some}
use Rattle.cast_timer.specs.Owed.{is_of_view, key_eq, kind_rank, owed_cmp, paid, with_owed}
use Rattle.cast_timer.specs.declared.key.Owed.{Owed}
use Rattle.cast_timer.specs.declared.key.OwedKey.{OwedKey}
use Rattle.cast_timer.specs.declared.key.OwedKind.{OwedKind}
use Rattle.cast_timer.specs.declared.key.OwedKind.TheVariants as kinds
use Rattle.cast_timer.specs.declared.key.Side.{Side}
use Rattle.cast_timer.specs.declared.key.Side.TheVariants as side
use Rattle.cast_types.proofs.Contains.{contains_later}
use Rattle.cast_types.proofs.Orders.{same_uid}
use Rattle.cast_types.specs.Counts.{CountList}
use Rattle.cast_types.specs.Names.{entry_eq, group_eq, is_atomic, is_order, proc_cmp, proc_eq, site_cmp, site_eq, uid_eq}
use Rattle.cast_types.specs.Sets.{is_among, set_at, with_item, with_items, without}
use Rattle.cast_types.specs.declared.limits.TheConstants.{MAX_PLACED}
use Rattle.cast_types.specs.declared.names.GroupNo.{GroupNo}
use Rattle.cast_types.specs.declared.names.Proc.{Proc}
use Rattle.cast_types.specs.declared.names.SiteNo.{SiteNo}
use Rattle.cast_types.specs.declared.names.Standing.{Standing}
use Rattle.cast_types.specs.declared.names.Standing.TheVariants.{Joining, Member, Outside}
use Rattle.cast_types.specs.declared.names.Uid.{Uid}
use Rattle.cast_view.specs.Home.{Home, HomeMove, after_ask, after_body, after_installed, after_report, after_start, after_suspicion}
use Rattle.cast_view.specs.Home.{after_request, apply_move, awaited_of, bodies_of, changed_by, decide_view, decided_list, decided_phase}
use Rattle.cast_view.specs.Home.{decision_of, installing, is_next, marked_leaving}
use Rattle.cast_view.specs.Home.{is_refused, is_suspected, may_start, phase_with_body, phase_with_report, phase_without}
use Rattle.cast_view.specs.Home.{sites_to_await, stays}
use Rattle.cast_view.specs.Home.{takes_installed, takes_report, wants_in}
use Rattle.cast_view.specs.Home.HomeMove.{Asked, Brought, Decided, Installed, Reported, Started, Suspected}
use Rattle.cast_view.specs.MemberSide.{MemberSide, frozen_side, has_view, is_taken_in, members_of, with_answer, with_pending, with_request}
use Rattle.cast_view.specs.MemberSide.{with_view}
use Rattle.cast_view.specs.Sites.{is_at, sites_of}
use Rattle.cast_view.specs.declared.member.Pending.{Pending}
use Rattle.cast_view.specs.declared.member.PendingRequest.{PendingRequest}
use Rattle.cast_view.specs.declared.phase.Decision.{Decision}
use Rattle.cast_view.specs.declared.phase.Phase.{Phase}
use Rattle.cast_view.specs.declared.phase.Phase.TheVariants.{Gathering, Idle, Installing}
use Rattle.cast_world.proofs.ClosingDecides.{installing_is}
use Rattle.cast_world.proofs.Events.{HasCome, any_happens, event_keeps_fully, rests_keeps_fully, sets_any}
use Rattle.cast_world.proofs.FlushSites.{proc_among}
use Rattle.cast_world.proofs.Homes.{HomeFollows, among_kept, brought_follows, idle_not, item_was, left_follows}
use Rattle.cast_world.proofs.Homes.{reported_follows, reports_of}
use Rattle.cast_world.proofs.Homes.{request_follows, set_had, started_follows, suspicion_follows}
use Rattle.cast_world.proofs.Kept.{Adds, Comes, Draws, FullyKept, FullyKeptByTelling, IsDue, IsOwed, MayMove, MaySend, OwesOf, Says}
use Rattle.cast_world.proofs.Kept.{AwaitedAt, AwaitedOf, WantsAt, WantsOf, casts, completes, ends, hands, installs, lists, skips}
use Rattle.cast_world.proofs.Laters.{set_all, set_group_all}
use Rattle.cast_world.proofs.Listings.{among_entry}
use Rattle.cast_world.proofs.Local.{cases_group}
use Rattle.cast_world.proofs.Allowed.{taken_of}
use Rattle.cast_world.proofs.Ones.{set_here}
use Rattle.cast_world.proofs.Steps.{group_among}
use Rattle.cast_world.proofs.Times.{below_join, below_view, bumped_count, bumped_view, entered_view, other_view}
use Rattle.cast_datagrams.proofs.FromOne.{AllReported, BodyFromOne, ClockFromOne, Each, EntryFromOne, FrameFromOne, MarkedFromOne}
use Rattle.cast_datagrams.proofs.FromOne.{MessageFromOne, NumberFromOne, ProcFromOne, UidFromOne, counts_from_one, covered_from_one}
use Rattle.cast_datagrams.proofs.FromOne.{decided_from_one, dropped_of, report_from_one, times_bumped, times_entered, times_joined}
use Rattle.cast_datagrams.proofs.FromOne.{unlisted_from_one, wanted_from_one}
use Rattle.cast_datagrams.proofs.Lists.{came_of}

-- What a site keeps

abbrev pub Grows : (GroupNo → ℕ) → (GroupNo → ℕ) → Type 0
Grows old new = (g : GroupNo) → 1 ≤ old g → 1 ≤ new g

pub record ProcessFromOne (k : ℕ) (p : Process) (group : GroupNo → MemberSide) : Type 0 where
  times : Each ClockFromOne p.time
  inside : (g : GroupNo) → is_outside (p.standing g) ≡ false → 1 ≤ k
  member : (g : GroupNo) → is_member (p.standing g) ≡ true → (1 ≤ view_of p.time g) × (1 ≤ (group g).number)

pub record PendingFromOne (x : MemberSide) (p : Pending) : Type 0 where
  number : 1 ≤ x.number
  members : Each ProcFromOne p.members.list
  cut : Each EntryFromOne p.cut

pub record RequestFromOne (a : PendingRequest) : Type 0 where
  number : 1 ≤ a.number
  proc : ProcFromOne a.proc

pub record GroupFromOne (g : GroupNo) (x : MemberSide) : Type 0 where
  known : 1 ≤ x.number → 1 ≤ g.0
  viewed : has_view x ≡ true → 1 ≤ x.number
  members : Each ProcFromOne (members_of x)
  pending : (p : Pending) → x.pending ≡ Some p → PendingFromOne x p
  requests : Each RequestFromOne x.requests

pub record DecisionFromOne (n : ℕ) (d : Decision) : Type 0 where
  number : 1 ≤ n
  cut : Each EntryFromOne d.cut
  tail : Each EntryFromOne d.tail.ids

pub record HomeFromOne (h : Home) : Type 0 where
  members : Each ProcFromOne h.members.list
  peopled : (p : Proc) → Contains h.members.list p → 1 ≤ h.number
  joins : Each ProcFromOne h.joins
  awaited : (s : SiteNo) → Contains (awaited_of h.phase) s → 1 ≤ h.number
  numbered : (s : SiteNo) (r : Report) → Contains (reports_of h.phase) (s, r) → 1 ≤ h.number
  reports : AllReported (reports_of h.phase)
  bodies : Each MessageFromOne (bodies_of h.phase)
  installs : (waiting : List SiteNo) (d : Decision) (more : List Message) → h.phase ≡ Installing waiting d more → DecisionFromOne h.number d

abbrev pub SideFromOne : (GroupNo → MemberSide) → (GroupNo → Home) → OwedKey → Side → Type 0
SideFromOne group home key side.Site = 1 ≤ (group key.group).number
SideFromOne group home key side.Home = 1 ≤ (home key.group).number

pub record WantFromOne (group : GroupNo → MemberSide) (home : GroupNo → Home) (key : OwedKey) : Type 0 where
  entry : EntryFromOne (key.proc, key.count)
  view : SideFromOne group home key key.side

pub record AckFromOne (group : GroupNo → MemberSide) (key : OwedKey) : Type 0 where
  entry : EntryFromOne (key.proc, key.count)
  view : 1 ≤ (group key.group).number

abbrev pub OwedFromOne : (GroupNo → MemberSide) → (GroupNo → Home) → OwedKey → OwedKind → Type 0
OwedFromOne group home key kinds.Ask = Unit {0}
OwedFromOne group home key kinds.Data = Unit {0}
OwedFromOne group home key kinds.Prepare = 1 ≤ (home key.group).number
OwedFromOne group home key kinds.Want = WantFromOne group home key
OwedFromOne group home key kinds.Install = Unit {0}
OwedFromOne group home key kinds.Ack = AckFromOne group key

pub record Sound (session : ℕ → Session) (process : ℕ → Process) (group : GroupNo → MemberSide) (home : GroupNo → Home)
    (got kept : List Message) (abcasts : ℕ → List Uid) (owed : List Owed) : Type 0 where
  sessions : (k : ℕ) → is_open (session k) ≡ true → 1 ≤ k
  processes : (k : ℕ) → ProcessFromOne k (process k) group
  groups : (g : GroupNo) → GroupFromOne g (group g)
  homes : (g : GroupNo) → HomeFromOne (home g)
  received : Each MessageFromOne got
  stored : Each MessageFromOne kept
  placed : (k : ℕ) → Each UidFromOne (abcasts k)
  debts : (o : Owed) → Contains owed o → OwedFromOne group home o.key o.key.kind

abbrev pub SoundAt : State → Type 0
SoundAt t = Sound t.session t.process t.group t.home t.got t.kept t.abcasts t.owed

abbrev pub SentFromOne : List (SiteNo × SiteFrame) → Type 0
SentFromOne frames = (to : SiteNo) (f : SiteFrame) → Contains frames (to, f) → FrameFromOne f

-- Processes

not_outside : (x : Standing) → is_member x ≡ true → is_outside x ≡ false
not_outside Outside e = absurd (false≢true e)
not_outside (Joining request heard) e = refl
not_outside Member e = refl

taken_inside : (request : ℕ) (x : Standing) → is_taken_in request x ≡ true → is_outside x ≡ false
taken_inside request Outside e = absurd (false≢true e)
taken_inside request (Joining number heard) e = refl
taken_inside request Member e = refl

module _ (k : ℕ) (p : Process) (group : GroupNo → MemberSide) (x : ProcessFromOne k p group) where
  regrouped : (next : GroupNo → MemberSide) → Grows (λ g. (group g).number) (λ g. (next g).number) → ProcessFromOne k p next
  regrouped next grows = record {
    times = x.times;
    inside = x.inside;
    member = λ g e. let old = x.member g e in (old.0, grows g old.1);
  }

  parted : (g : GroupNo) → ProcessFromOne k (put_outside g p) group
  parted g = record {
    times = x.times;
    inside = set_group_all (λ h (z : Standing). is_outside z ≡ false → 1 ≤ k) p.standing g Outside x.inside (λ e. absurd (true≢false e));
    member = set_group_all (λ h (z : Standing). is_member z ≡ true → (1 ≤ view_of p.time h) × (1 ≤ (group h).number))
        p.standing g Outside x.member (λ e. absurd (false≢true e));
  }

  joined : (g : GroupNo) (number heard : ℕ) → 1 ≤ k →
      ProcessFromOne k (record p { standing = set_at group_eq p.standing g (Joining number heard) }) group
  joined g number heard up = record {
    times = x.times;
    inside = set_group_all (λ h (z : Standing). is_outside z ≡ false → 1 ≤ k) p.standing g (Joining number heard) x.inside (λ e. up);
    member = set_group_all (λ h (z : Standing). is_member z ≡ true → (1 ≤ view_of p.time h) × (1 ≤ (group h).number))
        p.standing g (Joining number heard) x.member (λ e. absurd (false≢true e));
  }

  entered : (g : GroupNo) (n : ℕ) → (1 ≤ g.0) → (1 ≤ n) → (1 ≤ k) → (1 ≤ (group g).number) → ProcessFromOne k (in_view g n p) group
  entered g n group_up view up number = record {
    times = times_entered p.time g n x.times group_up view;
    inside = set_group_all (λ h (z : Standing). is_outside z ≡ false → 1 ≤ k) p.standing g Member x.inside (λ e. up);
    member = λ h e. elim (cases_group g h) [
      | inl same ↦ subst (λ z. (1 ≤ view_of (entering p.time g n) z) × (1 ≤ (group z).number)) same (first, number)
      | inr apart ↦
          let old = x.member h (sym (ap is_member (other h apart)) ∙ e) in
          (subst (λ v. 1 ≤ v) (sym (other_view p.time g n h apart)) old.0, old.1)
    ];
  }
    where
      first : 1 ≤ view_of (entering p.time g n) g
      first = subst (λ v. 1 ≤ v) (sym (entered_view p.time g n)) view

      other : (h : GroupNo) → (g ≡ h → ⊥) → set_at group_eq p.standing g Member h ≡ p.standing h
      other h apart = set_group_all (λ z (y : Standing). (g ≡ z → ⊥) → y ≡ p.standing z) p.standing g Member (λ z _. refl)
          (λ not_same. absurd (not_same refl)) h apart

-- Groups

frozen_from_one : (g : GroupNo) (x : MemberSide) → GroupFromOne g x → GroupFromOne g (frozen_side x)
frozen_from_one g x o = record {
  known = o.known;
  viewed = o.viewed;
  members = o.members;
  pending = λ p e. let was = o.pending p e in record { number = was.number; members = was.members; cut = was.cut };
  requests = o.requests;
}

pending_from_one : (g : GroupNo) (x : MemberSide) (p : Pending) → GroupFromOne g x → has_view x ≡ true → Each ProcFromOne p.members.list →
    Each EntryFromOne p.cut → GroupFromOne g (with_pending x p)
pending_from_one g x p o has members cut = record {
  known = o.known;
  viewed = o.viewed;
  members = o.members;
  pending = λ q e.
      let is : p ≡ q = ap (λ (z : Option Pending). unwrap_or z p) e in
      record {
        number = o.viewed has;
        members = subst (λ (z : Pending). Each ProcFromOne z.members.list) is members;
        cut = subst (λ (z : Pending). Each EntryFromOne z.cut) is cut;
      };
  requests = o.requests;
}

requested_from_one : (g : GroupNo) (x : MemberSide) (what : Change) (p : Proc) → GroupFromOne g x → ProcFromOne p →
    GroupFromOne g (with_request x what p)
requested_from_one g x what p o proc = record {
  known = o.known;
  viewed = o.viewed;
  members = o.members;
  pending = λ q e. let was = o.pending q e in record { number = was.number; members = was.members; cut = was.cut };
  requests = λ a at. elim (Contains-push_cases x.requests (record { number = x.asked + 1; change = what; proc = p }) a at) [
    | inl old ↦ o.requests a old
    | inr is ↦ subst RequestFromOne is record { number = omega arith; proc = proc }
  ];
}

answered_from_one : (g : GroupNo) (x : MemberSide) → GroupFromOne g x → GroupFromOne g (with_answer x)
answered_from_one g x o = record {
  known = o.known;
  viewed = o.viewed;
  members = o.members;
  pending = λ q e. let was = o.pending q e in record { number = was.number; members = was.members; cut = was.cut };
  requests = λ a at. o.requests a (dropped_of 1 x.requests a at);
}

viewing_from_one : (g : GroupNo) (x : MemberSide) (here : SiteNo) (n : ℕ) (members : Membership) → GroupFromOne g x → 1 ≤ g.0 → 1 ≤ n →
    Each ProcFromOne members.list → GroupFromOne g (with_view here n members x)
viewing_from_one g x here n members o group view each = record {
  known = λ _. group;
  viewed = λ _. view;
  members = go (list_any (is_at here) members.list);
  pending = λ p e. absurd (no_pending p e);
  requests = o.requests;
}
  where
    no_pending : (p : Pending) → ◌≡◌ {A = Option Pending} None (Some p) → ⊥
    no_pending p e = false≢true (ap (λ (o : Option Pending). elim o [ Some q ↦ true | None ↦ false ]) e)

    go : (b : Bool) → Each ProcFromOne (elim (if b then Some members else None) [ Some m ↦ m.list | None ↦ [] ])
    go true = each
    go false = λ p at. absurd (omega (arith, at.1))

-- Homes

abbrev pub Came : SiteNo → SiteFrame → Type 0
Came from f = FrameFromOne f

followed : (g : GroupNo) (h next : Home) → HomeFromOne h → HomeFollows Came g h next → Each ProcFromOne next.joins →
    ((s : SiteNo) → Contains (awaited_of next.phase) s → 1 ≤ h.number) → HomeFromOne next
followed g h next o f joins awaited = record {
  members = subst (λ (m : Membership). Each ProcFromOne m.list) (sym f.members) o.members;
  peopled = λ p at. up (o.peopled p (subst (λ (m : Membership). Contains m.list p) f.members at));
  joins = joins;
  awaited = λ s at. up (awaited s at);
  numbered = λ s r at. elim (f.reports s r at) [ inl old ↦ up (o.numbered s r old) | inr came ↦ up came.number ];
  reports = λ s r at. elim (f.reports s r at) [ inl old ↦ o.reports s r old | inr came ↦ came.report ];
  bodies = λ m at. elim (f.bodies m at) [ inl old ↦ o.bodies m old | inr came ↦ came.1 ];
  installs = λ w d b e.
      let was = f.installs w d b e in
      let is = o.installs was.0 d was.1 was.2 in
      record { number = up is.number; cut = is.cut; tail = is.tail };
}
  where
    up : 1 ≤ h.number → 1 ≤ next.number
    up one = subst (λ n. 1 ≤ n) (sym f.number) one

-- of a home that is one of two
by_choice : (P : Home → Type 0) (b : Bool) (x y : Home) → P x → P y → P (if b then x else y)
by_choice P true x y one other = one
by_choice P false x y one other = other

abbrev SamePhase : Home → Home → Type 0
SamePhase h next = next.phase ≡ h.phase

asked_joins : (h : Home) (s : SiteNo) (number : ℕ) (what : Change) (p : Proc) → Each ProcFromOne h.joins → ProcFromOne p →
    Each ProcFromOne (after_ask h s number what p).joins
asked_joins h s number what p old new = go (is_next h s number) (site_eq p.site s && not (is_refused h s what p)) what
  where
    go : (next counts : Bool) (c : Change) → Each ProcFromOne (if next then record (if counts then changed_by h c p else h) {
      answers = put site_cmp s (record { number = number; full = is_refused h s what p }) h.answers;
    } else h).joins
    go false counts c = old
    go true false c = old
    go true true change.Join = λ q at. elim (item_was proc_cmp p h.joins q at) [
      | inl is ↦ subst ProcFromOne is new
      | inr was ↦ old q was
    ]
    go true true change.Leave = λ q at. old q (among_kept (λ z. not (proc_eq p z)) h.joins q at)

asked_phase : (h : Home) (s : SiteNo) (number : ℕ) (what : Change) (p : Proc) → SamePhase h (after_ask h s number what p)
asked_phase h s number what p =
    by_choice (SamePhase h) (is_next h s number) (after_request h s number what p) h
    (by_choice (SamePhase h) (site_eq p.site s && not (is_refused h s what p)) (changed_by h what p) h (changed what) refl) refl
  where
    marks : SamePhase h (marked_leaving h p)
    marks =
        by_choice (SamePhase h) (is_among proc_eq p h.members.list) (record h { leavings = with_item proc_cmp p h.leavings }) h refl refl

    changed : (c : Change) → SamePhase h (changed_by h c p)
    changed change.Join = marks
    changed change.Leave = marks

without_awaited : (s t : SiteNo) (p : Phase) → Contains (awaited_of (phase_without s p)) t → Contains (awaited_of p) t
without_awaited s t Idle at = at
without_awaited s t (Gathering awaited reports bodies) at = among_kept (λ z. not (site_eq s z)) awaited t at
without_awaited s t (Installing waiting d bodies) at = go (without site_eq s waiting) at
  where
    go : (left : List SiteNo) → Contains (awaited_of (installing left d bodies)) t →
        Contains (awaited_of (Installing waiting d bodies)) t
    go [] there = there
    go (z ∷ left) there = there

reported_awaited : (s t : SiteNo) (r : Report) (p : Phase) → Contains (awaited_of (phase_with_report s r p)) t → Contains (awaited_of p) t
reported_awaited s t r Idle at = at
reported_awaited s t r (Gathering awaited reports bodies) at = at
reported_awaited s t r (Installing waiting d bodies) at = at

brought_awaited : (t : SiteNo) (m : Message) (p : Phase) → Contains (awaited_of (phase_with_body m p)) t → Contains (awaited_of p) t
brought_awaited t m Idle at = at
brought_awaited t m (Gathering awaited reports bodies) at = at
brought_awaited t m (Installing waiting d bodies) at = at

abbrev AwaitsNumbered : Home → Home → Type 0
AwaitsNumbered h next = (s : SiteNo) → Contains (awaited_of next.phase) s → 1 ≤ h.number

abbrev JoinsFromOne : Home → Type 0
JoinsFromOne h = Each ProcFromOne h.joins

module _ (h : Home) (o : HomeFromOne h) where
  started_awaits : AwaitsNumbered h (after_start h)
  started_awaits =
      by_choice (AwaitsNumbered h) (may_start h) (record h { phase = Gathering (sites_to_await h) [] [] }) h (λ s at.
      let among =
      set_had site_cmp (map (λ (q : Proc). q.site) h.members.list) s
      (among_kept (λ (z : SiteNo). not (is_among site_eq z h.suspected)) (sites_of h.members.list) s at) in
      let p = came_of (λ (q : Proc). q.site) h.members.list s among in
      o.peopled p.0 p.1) o.awaited

  decided_from : HomeFromOne (decide_view h)
  decided_from = record {
    members = λ p at.
        let one = set_had proc_cmp (filter (stays h) h.members.list ++ filter (λ p. not (is_suspected h p.site)) h.joins) p at in
        elim (Contains-append_cases (filter (stays h) h.members.list) (filter (λ p. not (is_suspected h p.site)) h.joins) p one) [
          | inl old ↦ o.members p (among_kept (stays h) h.members.list p old)
          | inr new ↦ o.joins p (among_kept (λ (q : Proc). not (is_suspected h q.site)) h.joins p new)
        ];
    peopled = λ p at. omega arith;
    joins = λ p at. o.joins p (among_kept (λ (q : Proc). is_suspected h q.site) h.joins p at);
    awaited = λ s at. omega arith;
    numbered = λ s r at. omega arith;
    reports = λ s r at. absurd (none_reported h.phase s r at);
    bodies = λ m at. o.bodies m (bodies_were h.phase m at);
    installs = λ w d b e. decides h.phase refl w d b e;
  }
    where
      none_reported : (p : Phase) (s : SiteNo) (r : Report) → Contains (reports_of (decided_phase h (decided_list h) p)) (s, r) → ⊥
      none_reported Idle s r at = omega (arith, at.1)
      none_reported (Gathering awaited reports bodies) s r at = go (with_items site_cmp (sites_of (decided_list h)) awaited) at
        where
          go : (left : List SiteNo) → Contains (reports_of (installing left (decision_of h reports) bodies)) (s, r) → ⊥
          go [] there = omega (arith, there.1)
          go (z ∷ left) there = omega (arith, there.1)
      none_reported (Installing waiting d bodies) s r at = omega (arith, at.1)

      bodies_were : (p : Phase) (m : Message) → Contains (bodies_of (decided_phase h (decided_list h) p)) m → Contains (bodies_of p) m
      bodies_were Idle m at = at
      bodies_were (Gathering awaited reports bodies) m at = go (with_items site_cmp (sites_of (decided_list h)) awaited) at
        where
          go : (left : List SiteNo) → Contains (bodies_of (installing left (decision_of h reports) bodies)) m → Contains bodies m
          go [] there = absurd (omega (arith, there.1))
          go (z ∷ left) there = there
      bodies_were (Installing waiting d bodies) m at = at

      decides : (p : Phase) → h.phase ≡ p → (w : List SiteNo) (d : Decision) (b : List Message) →
          decided_phase h (decided_list h) p ≡ Installing w d b → DecisionFromOne (h.number + 1) d
      decides Idle is w d b e = absurd (idle_not w d b e)
      decides (Gathering awaited reports bodies) is w d b e =
          let each : AllReported reports = subst (λ z. AllReported (reports_of z)) is o.reports in
          let cut : Each EntryFromOne (cut_from h.members.list reports) =
          counts_from_one (greatest_count reports) h.members.list o.members in
          subst (DecisionFromOne (h.number + 1))
          (sym (installing_is (with_items site_cmp (sites_of (decided_list h)) awaited) (decision_of h reports) bodies w d b e)) record {
            number = omega arith;
            cut = cut;
            tail = decided_from_one (cut_from h.members.list reports) reports each;
          }
      decides (Installing waiting c bodies) is w d b e =
          let was = o.installs w d b (is ∙ e) in
          record { number = omega arith; cut = was.cut; tail = was.tail }

  home_moves : (s : State) (g : GroupNo) (move : HomeMove) → MayMove Came s g move → HomeFromOne (apply_move move h)
  home_moves s g (Asked from number what p) may =
      followed g h (after_ask h from number what p) o (request_follows Came g h from number what p may)
      (asked_joins h from number what p o.joins may.proc)
      (λ t at. o.awaited t (subst (λ z. Contains (awaited_of z) t) (asked_phase h from number what p) at))
  home_moves s g (Suspected site) may =
      followed g h (after_suspicion h site) o (suspicion_follows Came g h site) o.joins
      (λ t at. o.awaited t (without_awaited site t h.phase at))
  home_moves s g Started may =
      followed g h (after_start h) o (started_follows Came g h)
      (by_choice JoinsFromOne (may_start h) (record h { phase = Gathering (sites_to_await h) [] [] }) h o.joins o.joins) started_awaits
  home_moves s g (Reported from view r) may =
      followed g h (after_report h from view r) o (reported_follows Came g h from view r may)
      (by_choice JoinsFromOne (takes_report h from view) (record h { phase = phase_with_report from r h.phase }) h o.joins o.joins)
      (by_choice (AwaitsNumbered h) (takes_report h from view) (record h { phase = phase_with_report from r h.phase }) h
      (λ t at. o.awaited t (reported_awaited from t r h.phase at)) o.awaited)
  home_moves s g (Brought m) may =
      followed g h (after_body h m) o (brought_follows Came g h may.0 m may.1) o.joins
      (λ t at. o.awaited t (brought_awaited t m h.phase at))
  home_moves s g Decided may = decided_from
  home_moves s g (Installed from view) may =
      followed g h (after_installed h from view) o (left_follows Came g h from view)
      (by_choice JoinsFromOne (takes_installed h from view) (record h { phase = phase_without from h.phase }) h o.joins o.joins)
      (by_choice (AwaitsNumbered h) (takes_installed h from view) (record h { phase = phase_without from h.phase }) h
      (λ t at. o.awaited t (without_awaited from t h.phase at)) o.awaited)

-- What is owed

owed_later : (group next : GroupNo → MemberSide) (home later : GroupNo → Home) → Grows (λ g. (group g).number) (λ g. (next g).number) →
    Grows (λ g. (home g).number) (λ g. (later g).number) → (key : OwedKey) (kind : OwedKind) →
    OwedFromOne group home key kind → OwedFromOne next later key kind
owed_later group next home later grows up key kinds.Ask old = tt
owed_later group next home later grows up key kinds.Data old = tt
owed_later group next home later grows up key kinds.Prepare old = up key.group old
owed_later group next home later grows up key kinds.Want old = record { entry = old.entry; view = go key.side old.view }
  where
    go : (by : Side) → SideFromOne group home key by → SideFromOne next later key by
    go side.Site one = grows key.group one
    go side.Home one = up key.group one
owed_later group next home later grows up key kinds.Install old = tt
owed_later group next home later grows up key kinds.Ack old = record { entry = old.entry; view = grows key.group old.view }

-- what comes to be owed
module _ (group : GroupNo → MemberSide) (home : GroupNo → Home) (groups : (g : GroupNo) → GroupFromOne g (group g))
    (homes : (g : GroupNo) → HomeFromOne (home g)) (key : OwedKey) where
  abbrev Parts : Side → Type 0
  Parts by = EntryFromOne (key.proc, key.count) × SideFromOne group home key by

  covered_want : (o : Option Pending) → (group key.group).pending ≡ o →
      (elim o [
        | Some p ↦ ((group key.group).number == (group key.group).number)
            && is_among entry_eq (key.proc, key.count) (covered_entries p.cut)
        | None ↦ false
      ]) ≡ true →
      Parts side.Site
  covered_want None is e = absurd (false≢true e)
  covered_want (Some p) is e =
      let waits = (groups key.group).pending p is in
      let among =
      (and_parts ((group key.group).number == (group key.group).number)
      (is_among entry_eq (key.proc, key.count) (covered_entries p.cut)) e).1 in (
        covered_from_one p.cut waits.cut (key.proc, key.count) (among_entry (covered_entries p.cut) (key.proc, key.count) among),
        waits.number,
      )

  home_want : (p : Phase) → (home key.group).phase ≡ p →
      Contains (wants_in key.group (home key.group) p) (key.site, (key.proc, key.count)) → Parts side.Home
  home_want Idle is at = absurd (omega (arith, at.1))
  home_want (Gathering awaited reports bodies) is at = go (is_complete awaited reports) at
    where
      all : AllReported reports
      all = subst (λ z. AllReported (reports_of z)) is (homes key.group).reports

      go : (b : Bool) → Contains (if b then wants_of key.group (home key.group).number (cut_from (home key.group).members.list reports)
          reports bodies else []) (key.site, (key.proc, key.count)) → Parts side.Home
      go true there =
          let found = wanted_from_one key.group (home key.group).number (cut_from (home key.group).members.list reports) reports bodies all
          key.site (key.proc, key.count) there in (
            found.0,
            (homes key.group).numbered found.1.0 found.1.1
                (subst (λ z. Contains (reports_of z) (found.1.0, found.1.1)) (sym is) found.1.2),
          )
      go false there = absurd (omega (arith, there.1))
  home_want (Installing waiting d bodies) is at = absurd (omega (arith, at.1))

  -- an Ack is owed of a message that was received
  comes_owed : (kind : OwedKind) → WantsOf group key kind → AwaitedOf home key kind →
      (kind ≡ kinds.Ack → UidFromOne (id_in (group key.group).number key)) → OwedFromOne group home key kind
  comes_owed kinds.Ask wants awaited acked = tt
  comes_owed kinds.Data wants awaited acked = tt
  comes_owed kinds.Prepare wants awaited acked = (homes key.group).awaited key.site awaited
  comes_owed kinds.Want wants awaited acked = go key.side refl wants awaited
    where
      parts : (by : Side) → key.side ≡ by → Parts by → WantFromOne group home key
      parts by is one = record { entry = one.0; view = subst (SideFromOne group home key) (sym is) one.1 }

      go : (by : Side) → key.side ≡ by → WantsAt group key by → AwaitedAt home key by → WantFromOne group home key
      go side.Site is covered none = parts side.Site is (covered_want (group key.group).pending refl covered)
      go side.Home is none among = parts side.Home is (home_want (home key.group).phase refl among)
  comes_owed kinds.Install wants awaited acked = tt
  comes_owed kinds.Ack wants awaited acked =
      let u = acked refl in
      record { entry = record { proc = u.proc; count = u.count }; view = u.view }

-- One part changes

module _ (session : ℕ → Session) (process : ℕ → Process) (group : GroupNo → MemberSide) (home : GroupNo → Home)
    (got kept : List Message) (abcasts : ℕ → List Uid) (owed : List Owed)
    (x : Sound session process group home got kept abcasts owed) where
  with_processes : (next : ℕ → Process) → ((k : ℕ) → ProcessFromOne k (next k) group) →
      Sound session next group home got kept abcasts owed
  with_processes next each = record {
    sessions = x.sessions;
    processes = each;
    groups = x.groups;
    homes = x.homes;
    received = x.received;
    stored = x.stored;
    placed = x.placed;
    debts = x.debts;
  }

  with_sessions : (next : ℕ → Session) → ((k : ℕ) → is_open (next k) ≡ true → 1 ≤ k) → Sound next process group home got kept abcasts owed
  with_sessions next each = record {
    sessions = each;
    processes = x.processes;
    groups = x.groups;
    homes = x.homes;
    received = x.received;
    stored = x.stored;
    placed = x.placed;
    debts = x.debts;
  }

  with_groups : (next : GroupNo → MemberSide) → Grows (λ g. (group g).number) (λ g. (next g).number) →
      ((g : GroupNo) → GroupFromOne g (next g)) → Sound session process next home got kept abcasts owed
  with_groups next grows each = record {
    sessions = x.sessions;
    processes = λ k. regrouped k (process k) group (x.processes k) next grows;
    groups = each;
    homes = x.homes;
    received = x.received;
    stored = x.stored;
    placed = x.placed;
    debts = λ o at. owed_later group next home home grows (λ g one. one) o.key o.key.kind (x.debts o at);
  }

  with_homes : (next : GroupNo → Home) → Grows (λ g. (home g).number) (λ g. (next g).number) →
      ((g : GroupNo) → HomeFromOne (next g)) → Sound session process group next got kept abcasts owed
  with_homes next grows each = record {
    sessions = x.sessions;
    processes = x.processes;
    groups = x.groups;
    homes = each;
    received = x.received;
    stored = x.stored;
    placed = x.placed;
    debts = λ o at. owed_later group group home next (λ g one. one) grows o.key o.key.kind (x.debts o at);
  }

  with_messages : (all some : List Message) (each : ℕ → List Uid) → Each MessageFromOne all → Each MessageFromOne some →
      ((k : ℕ) → Each UidFromOne (each k)) → Sound session process group home all some each owed
  with_messages all some each all_from some_from each_from = record {
    sessions = x.sessions;
    processes = x.processes;
    groups = x.groups;
    homes = x.homes;
    received = all_from;
    stored = some_from;
    placed = each_from;
    debts = x.debts;
  }

  with_debts : (next : List Owed) → ((o : Owed) → Contains next o → OwedFromOne group home o.key o.key.kind) →
      Sound session process group home got kept abcasts next
  with_debts next each = record {
    sessions = x.sessions;
    processes = x.processes;
    groups = x.groups;
    homes = x.homes;
    received = x.received;
    stored = x.stored;
    placed = x.placed;
    debts = each;
  }

  set_group_from : (g : GroupNo) (v : MemberSide) → (1 ≤ (group g).number → 1 ≤ v.number) → GroupFromOne g v →
      Sound session process (set_at group_eq group g v) home got kept abcasts owed
  set_group_from g v up one =
      with_groups (set_at group_eq group g v)
      (set_group_all (λ h (z : MemberSide). 1 ≤ (group h).number → 1 ≤ z.number) group g v (λ h old. old) up)
      (set_group_all GroupFromOne group g v x.groups one)

  set_home_from : (g : GroupNo) (v : Home) → (1 ≤ (home g).number → 1 ≤ v.number) → HomeFromOne v →
      Sound session process group (set_at group_eq home g v) got kept abcasts owed
  set_home_from g v up one =
      with_homes (set_at group_eq home g v)
      (set_group_all (λ h (z : Home). 1 ≤ (home h).number → 1 ≤ z.number) home g v (λ h old. old) up)
      (set_group_all (λ h (z : Home). HomeFromOne z) home g v x.homes one)

  set_process_from : (k : ℕ) (p : Process) → ProcessFromOne k p group →
      Sound session (set_at (λ a b. a == b) process k p) group home got kept abcasts owed
  set_process_from k p one =
      with_processes (set_at (λ a b. a == b) process k p)
      (set_all (λ j (z : Process). ProcessFromOne j z group) process k p x.processes one)

-- one message more
one_more : (ms : List Message) (m : Message) → Each MessageFromOne ms → MessageFromOne m → Each MessageFromOne (ms ++ m ∷ [])
one_more ms m each one z at = elim (Contains-push_cases ms m z at) [ inl old ↦ each z old | inr is ↦ subst MessageFromOne is one ]

received_id : (got : List Message) (u : Uid) → Each MessageFromOne got → list_any (λ (m : Message). uid_eq m.id u) got ≡ true → UidFromOne u
received_id [] u each e = absurd (false≢true e)
received_id (m ∷ got) u each e = go (uid_eq m.id u) refl e (received_id got u (λ z at. each z (contains_later z m got at)))
  where
    go : (b : Bool) → uid_eq m.id u ≡ b → (b || list_any (λ (z : Message). uid_eq z.id u) got) ≡ true →
        (list_any (λ (z : Message). uid_eq z.id u) got ≡ true → UidFromOne u) → UidFromOne u
    go true same e more = subst UidFromOne (same_uid m.id u same) (each m (0, omega arith, refl)).id
    go false other e more = more e

-- no home grows less
home_grows : (move : HomeMove) (h : Home) → 1 ≤ h.number → 1 ≤ (apply_move move h).number
home_grows (Asked from number what p) h one =
    by_choice (λ z. 1 ≤ z.number) (is_next h from number) (after_request h from number what p) h
    (by_choice (λ z. 1 ≤ z.number) (site_eq p.site from && not (is_refused h from what p)) (changed_by h what p) h (changed what) one) one
  where
    marks : 1 ≤ (marked_leaving h p).number
    marks =
        by_choice (λ z. 1 ≤ z.number) (is_among proc_eq p h.members.list) (record h { leavings = with_item proc_cmp p h.leavings }) h
        one one

    changed : (c : Change) → 1 ≤ (changed_by h c p).number
    changed change.Join = marks
    changed change.Leave = marks
home_grows (Suspected site) h one = one
home_grows Started h one =
    by_choice (λ z. 1 ≤ z.number) (may_start h) (record h { phase = Gathering (sites_to_await h) [] [] }) h one one
home_grows (Reported from view r) h one =
    by_choice (λ z. 1 ≤ z.number) (takes_report h from view) (record h { phase = phase_with_report from r h.phase }) h one one
home_grows (Brought m) h one = one
home_grows Decided h one = omega arith
home_grows (Installed from view) h one =
    by_choice (λ z. 1 ≤ z.number) (takes_installed h from view) (record h { phase = phase_without from h.phase }) h one one

-- The moves

module _ (s : State) (here : 1 ≤ s.here.0) (named : Each (λ (g : GroupNo). 1 ≤ g.0) s.config.groups) where
  -- the site, its configuration and what holds of it from s on
  abbrev From : State → Type 0
  From t = (t.here ≡ s.here) × (t.config ≡ s.config) × SoundAt t × SentFromOne t.frames

  module _ (t : State) (i : From t) where
    abbrev x : SoundAt t
    x = i.2

    known_from : (g : GroupNo) → is_group t g ≡ true → 1 ≤ g.0
    known_from g e = named g (subst (λ (c : DomainConfig). Contains c.groups g) i.1 (group_among t.config.groups g e))

    local_from : (k : ℕ) → 1 ≤ k → ProcFromOne (local t k)
    local_from k up = record { site = subst (λ (z : SiteNo). 1 ≤ z.0) (sym i.0) here; serial = up }

    -- Frames

    owed_from : (key : OwedKey) → IsOwed t key → OwedFromOne t.group t.home key key.kind
    owed_from key (o, at, is) = subst (λ (z : OwedKey). OwedFromOne t.group t.home z z.kind) is (x.debts o at)

    due_from : (key : OwedKey) → (key.kind ≡ kinds.Ack → UidFromOne (id_in (t.group key.group).number key)) → IsDue t key →
        OwedFromOne t.group t.home key key.kind
    due_from key acked (inl owed) = owed_from key owed
    due_from key acked (inr (wants, awaited)) = comes_owed t.group t.home x.groups x.homes key key.kind wants awaited acked

    -- a kind is no other
    kind_apart : (key : OwedKey) (kind : OwedKind) → key.kind ≡ kind → (kind_rank kind ≡ 5 → ⊥) → key.kind ≡ kinds.Ack →
        UidFromOne (id_in (t.group key.group).number key)
    kind_apart key kind is apart acked = absurd (apart (ap kind_rank (sym is ∙ acked)))

    acked_from : (key : OwedKey) → is_group t key.group ≡ true → AckFromOne t.group key → UidFromOne (id_in (t.group key.group).number key)
    acked_from key known one =
        record { group = known_from key.group known; view = one.view; proc = one.entry.proc; count = one.entry.count }

    -- an Ack that comes to be owed is of a message that was received
    received_key : (key : OwedKey) (kind : OwedKind) → OwesOf t key kind → kind ≡ kinds.Ack →
        UidFromOne (id_in (t.group key.group).number key)
    received_key key kinds.Ask owes is = absurd (let apart = ap kind_rank is in omega (arith, apart))
    received_key key kinds.Data owes is = absurd (let apart = ap kind_rank is in omega (arith, apart))
    received_key key kinds.Prepare owes is = absurd (let apart = ap kind_rank is in omega (arith, apart))
    received_key key kinds.Want owes is = absurd (let apart = ap kind_rank is in omega (arith, apart))
    received_key key kinds.Install owes is = absurd (let apart = ap kind_rank is in omega (arith, apart))
    received_key key kinds.Ack owes is = received_id t.got (id_in (t.group key.group).number key) x.received owes

    wanted_from : (key : OwedKey) (by : Side) → SideFromOne t.group t.home key by → 1 ≤ wanted_view history t key.group by
    wanted_from key side.Site one = one
    wanted_from key side.Home one = one

    -- how a site comes to pass to a view
    enters_from : (g : GroupNo) (skipped : Bool) (n : ℕ) (members : Membership) (request : ℕ) (cut : CountList) →
        Comes Came t g skipped n members request cut → NumberFromOne g n × Each ProcFromOne members.list
    enters_from g skipped n members request cut (completes p e all no_skip n_is members_is request_is cut_is) =
        let waits = (x.groups g).pending p e in (
          record { group = (x.groups g).known waits.number; number = omega (arith, n_is) },
          subst (λ (m : Membership). Each ProcFromOne m.list) (sym members_is) waits.members,
        )
    enters_from g skipped n members request cut (installs from tail came none no_skip up) =
        (record { group = came.group; number = came.number }, came.members)
    enters_from g skipped n members request cut (skips from tail came skip up) =
        (record { group = came.group; number = came.number }, came.members)
    enters_from g skipped n members request cut (ends from came skip up members_is) =
        (came, subst (λ (m : Membership). Each ProcFromOne m.list) (sym members_is) (λ p at. absurd (omega (arith, at.1))))

  frame_from : (t : State) (to : SiteNo) (f : SiteFrame) → From t → Says t to f → Adds t f → Draws Came From t f → FrameFromOne f
  frame_from t to (frame.Data m) i says adds draws = i.2.stored m says
  frame_from t to (frame.Ack u) i says adds draws = received_id t.got u i.2.received adds
  frame_from t to (frame.Stable u) i says adds (up, from, n, came) =
      record { group = came.group; view = came.view; proc = came.proc; count = up }
  frame_from t to (frame.Ask g number what p) i says adds (a, known, at, number_is, proc_is) =
      let asked = (i.2.groups g).requests a at in
      record {
        group = known_from t i g known;
        number = subst (λ n. 1 ≤ n) number_is asked.number;
        proc = subst ProcFromOne proc_is asked.proc;
      }
  frame_from t to (frame.Asked g number full) i says adds (from, what, p, came) = record { group = came.group; number = came.number }
  frame_from t to (frame.Prepare g view) i says adds (key, kind_is, group_is, known, view_is, due) =
      let one : 1 ≤ (t.home key.group).number = subst (OwedFromOne t.group t.home key) kind_is
      (due_from t i key (kind_apart t i key kinds.Prepare kind_is (λ e. omega (arith, e))) due) in
      record {
        group = known_from t i g known;
        number = subst (λ n. 1 ≤ n) (sym view_is) (subst (λ h. 1 ≤ (t.home h).number) group_is one);
      }
  frame_from t to (frame.Flushed g view counts tail kept) i (view_is, frozen, has, counts_is) (quiet, tail_is, kept_is) draws =
      let number = (i.2.groups g).viewed has in
      let r = report_from_one t g (i.2.groups g).members i.2.received i.2.stored i.2.placed in
      record {
        group = (i.2.groups g).known number;
        number = subst (λ n. 1 ≤ n) (sym view_is) number;
        report = record {
          counts = subst (λ z. Each EntryFromOne z) (sym counts_is) r.counts;
          tail = subst (λ (z : Tail). Each EntryFromOne z.ids) (sym tail_is) r.tail;
          kept = subst (λ z. Each MarkedFromOne z) (sym kept_is) r.kept;
        };
      }
  frame_from t to (frame.Want u) i says adds (key, kind_is, known, id_is, due) =
      let one : WantFromOne t.group t.home key = subst (OwedFromOne t.group t.home key) kind_is
      (due_from t i key (kind_apart t i key kinds.Want kind_is (λ e. omega (arith, e))) due) in
      subst UidFromOne (sym id_is) record {
        group = known_from t i key.group known;
        view = wanted_from t i key key.side one.view;
        proc = one.entry.proc;
        count = one.entry.count;
      }
  frame_from t to (frame.Forward m) i (inl at) adds draws = i.2.stored m at
  frame_from t to (frame.Forward m) i (inr (g, at)) adds draws = (i.2.homes g).bodies m at
  frame_from t to (frame.Install g view members request cut tail) i (waiting, d, bodies, phase_is, view_is, request_is, members_is, cut_is)
      (w, c, b, same, tail_is) known =
      let one = (i.2.homes g).installs waiting d bodies phase_is in
      let two = (i.2.homes g).installs w c b same in
      record {
        group = known_from t i g known;
        number = subst (λ n. 1 ≤ n) (sym view_is) one.number;
        members = subst (λ (m : Membership). Each ProcFromOne m.list) (sym members_is) (i.2.homes g).members;
        cut = subst (λ z. Each EntryFromOne z) (sym cut_is) one.cut;
        tail = subst (λ (z : Tail). Each EntryFromOne z.ids) (sym tail_is) two.tail;
      }
  frame_from t to (frame.Installed g n) i says adds (inl (u, before, skipped, members, request, cut, comes)) =
      (enters_from u before g skipped n members request cut comes).0
  frame_from t to (frame.Installed g n) i says adds (inr (from, members, request, cut, tail, came)) =
      record { group = came.group; number = came.number }
  frame_from t to (frame.Out g view) i says adds (up, from, m, came, group_is) =
      record { group = subst (λ (h : GroupNo). 1 ≤ h.0) group_is came.id.group; number = up }

  sends_one_more : (t : State) (to : SiteNo) (f : SiteFrame) → From t → FrameFromOne f → From (emit t to f)
  sends_one_more t to f i one = (
    i.0,
    i.1,
    i.2,
    λ o g at. elim (Contains-push_cases t.frames (to, f) (o, g) at) [
      | inl old ↦ i.3 o g old
      | inr same ↦ subst (λ (y : SiteNo × SiteFrame). FrameFromOne y.1) same one
    ],
  )

  -- Telling

  fewer_owed : (t : State) (test : OwedKey → Bool) → SoundAt t → SoundAt (record t { owed = paid test t.owed })
  fewer_owed t test y = with_debts t.session t.process t.group t.home t.got t.kept t.abcasts t.owed y (paid test t.owed)
      (λ o at. y.debts o (among_kept (λ (z : Owed). not (test z.key)) t.owed o at))

  fewer_kept : (t : State) (passes : Uid → Bool) → SoundAt t → SoundAt (releasing t passes)
  fewer_kept t passes y = with_messages t.session t.process t.group t.home t.got t.kept t.abcasts t.owed y
      t.got (filter (λ m. not (passes m.id)) t.kept) t.abcasts y.received
      (λ m at. y.stored m (among_kept (λ (z : Message). not (passes z.id)) t.kept m at)) y.placed

  one_owed : (t : State) (before : List Owed) (key : OwedKey) (due : ℕ) → SoundAt t →
      ((o : Owed) → Contains before o → OwedFromOne t.group t.home o.key o.key.kind) → OwedFromOne t.group t.home key key.kind →
      SoundAt (record t { owed = with_owed before key due })
  one_owed t before key due y old one = with_debts t.session t.process t.group t.home t.got t.kept t.abcasts t.owed y
      (with_owed before key due)
      (λ o at. elim (item_was owed_cmp (record { due = due; key = key }) before o at) [
        | inl new ↦ subst (λ (z : Owed). OwedFromOne t.group t.home z.key z.key.kind) new one
        | inr was ↦ old o was
      ])

  from_telling : FullyKeptByTelling Came From
  from_telling = record {
    emits = λ t to f i says adds draws. sends_one_more t to f i (frame_from t to f i says adds draws);
    books = λ t moment count i. i;
    pushes = λ t k p i agrees. i;
    owes = λ t key due i owes wants lacks awaited. (
      i.0,
      i.1,
      one_owed t t.owed key due i.2 i.2.debts (due_from t i key (received_key t i key key.kind owes) (inr (wants, awaited))),
      i.3,
    );
    renews = λ t key due i owes owed. (
      i.0,
      i.1,
      one_owed t (paid (key_eq key) t.owed) key due i.2
          (λ o at. i.2.debts o (among_kept (λ (z : Owed). not (key_eq key z.key)) t.owed o at)) (owed_from t i key owed),
      i.3,
    );
    pays = λ t test i. (i.0, i.1, fewer_owed t test i.2, i.3);
    releases = λ t passes i. (i.0, i.1, fewer_kept t passes i.2, i.3);
    sets_session = λ t k v i same. (
      i.0,
      i.1,
      with_sessions t.session t.process t.group t.home t.got t.kept t.abcasts t.owed i.2 (set_at (λ a b. a == b) t.session k v)
          (set_all (λ j (z : Session). is_open z ≡ true → 1 ≤ j) t.session k v i.2.sessions (λ e. i.2.sessions k (same e))),
      i.3,
    );
    parts = λ t k g i. (
      i.0,
      i.1,
      set_process_from t.session t.process t.group t.home t.got t.kept t.abcasts t.owed i.2 k (put_outside g (t.process k))
          (parted k (t.process k) t.group (i.2.processes k) g),
      i.3,
    );
    requests = λ t g what p i inside. (
      i.0,
      i.1,
      set_group_from t.session t.process t.group t.home t.got t.kept t.abcasts t.owed i.2 g (with_request (t.group g) what p) (λ one. one)
          (requested_from_one g (t.group g) what p (i.2.groups g) record {
            site = subst (λ (z : SiteNo). 1 ≤ z.0) (sym (inside.0 ∙ i.0)) here;
            serial = (i.2.processes p.serial).inside g inside.1;
          }),
      i.3,
    );
  }

  -- Messages

  body_from : (t : State) (g : GroupNo) (k : ℕ) (content : Body) → From t → MaySend t g k content → BodyFromOne content
  body_from t g k content i (casts none open_it) = go content none
    where
      go : (b : Body) → is_order (kind_of b) ≡ false → BodyFromOne b
      go (body.Causal payload) e = tt
      go (body.Atomic payload) e = tt
      go (body.Order places) e = absurd (true≢false e)
  body_from t g k content i (lists held open_it is) = subst BodyFromOne (sym is)
      ((λ e at. unlisted_from_one t g k (i.2.placed k) e (taken_of MAX_PLACED (unlisted_ids t g k) e at)), tt)
  body_from t g k content i (hands place to held open_it settled is named_it) = subst BodyFromOne (sym is)
      ((λ e at. absurd (omega (arith, at.1))), (i.2.groups g).members to (proc_among (members_of (t.group g)) to named_it))

  message_from : (t : State) (g : GroupNo) (k : ℕ) (content : Body) → From t → is_member ((t.process k).standing g) ≡ true →
      MaySend t g k content → MessageFromOne (next_message t g k content)
  message_from t g k content i member may =
      let p = i.2.processes k in
      let numbers = p.member g member in
      let group = (i.2.groups g).known numbers.1 in
      let proc = local_from t i k (p.inside g (not_outside ((t.process k).standing g) member)) in
      record {
        id = record {
          group = group;
          view = numbers.1;
          proc = proc;
          count = (let up = bumped_count (t.process k).time g (local t k) in omega (arith, up));
        };
        times = times_bumped (t.process k).time g (local t k) p.times group proc numbers.0;
        body = body_from t g k content i may;
      }

  sent_from : (t : State) (g : GroupNo) (k : ℕ) (content : Body) → From t → is_member ((t.process k).standing g) ≡ true →
      MaySend t g k content → From (receiving (noting_sent t k (next_message t g k content)) (next_message t g k content))
  sent_from t g k content i member may =
      let m : Message = next_message t g k content in
      let one = message_from t g k content i member may in
      let p = i.2.processes k in
      let now : ℕ → Process = set_at (λ a b. a == b) t.process k (record (t.process k) { time = m.times }) in (
        i.0,
        i.1,
        with_messages t.session now t.group t.home t.got t.kept t.abcasts t.owed
            (set_process_from t.session t.process t.group t.home t.got t.kept t.abcasts t.owed i.2 k
            (record (t.process k) { time = m.times }) record {
              times = one.times;
              inside = p.inside;
              member = λ h e.
                  let old = p.member h e in
                  (subst (λ v. 1 ≤ v) (sym (bumped_view (t.process k).time g (local t k) h)) old.0, old.1);
            }) (t.got ++ m ∷ []) (t.kept ++ m ∷ []) t.abcasts (one_more t.got m i.2.received one)
            (one_more t.kept m i.2.stored one) i.2.placed,
        i.3,
      )

  received_from : (t : State) (m : Message) → From t → MessageFromOne m → From (receiving t m)
  received_from t m i one = (
    i.0,
    i.1,
    with_messages t.session t.process t.group t.home t.got t.kept t.abcasts t.owed i.2 (t.got ++ m ∷ []) (t.kept ++ m ∷ []) t.abcasts
        (one_more t.got m i.2.received one) (one_more t.kept m i.2.stored one) i.2.placed,
    i.3,
  )

  delivered_from : (t : State) (k : ℕ) (m : Message) → From t → MessageFromOne m → From (with_delivery t k m)
  delivered_from t k m i one =
      let p = i.2.processes k in
      let then_it : Process = record (t.process k) {
        time = join (t.process k).time m.times;
        delivered = (t.process k).delivered ++ m.id ∷ [];
      } in (
        i.0,
        i.1,
        with_messages t.session (set_at (λ a b. a == b) t.process k then_it) t.group t.home t.got t.kept t.abcasts t.owed
            (set_process_from t.session t.process t.group t.home t.got t.kept t.abcasts t.owed i.2 k then_it record {
              times = times_joined (t.process k).time m.times p.times one.times;
              inside = p.inside;
              member = λ h e.
                  let old = p.member h e in
                  let grown = below_view (t.process k).time (join (t.process k).time m.times) (below_join (t.process k).time m.times) h in
                  ((let was = old.0 in omega (arith, was, grown)), old.1);
            }) t.got t.kept (abcasts_with t k m) i.2.received i.2.stored (more (is_atomic (kind_of m.body))),
        i.3,
      )
    where
      abcasts_more : (j : ℕ) → Each UidFromOne (set_at (λ a b. a == b) t.abcasts k (t.abcasts k ++ m.id ∷ []) j)
      abcasts_more = set_all (λ j (l : List Uid). Each UidFromOne l) t.abcasts k (t.abcasts k ++ m.id ∷ []) i.2.placed
          (λ u at. elim (Contains-push_cases (t.abcasts k) m.id u at) [
            | inl old ↦ i.2.placed k u old
            | inr is ↦ subst UidFromOne is one.id
          ])

      more : (b : Bool) (j : ℕ) →
          Each UidFromOne ((if b then set_at (λ a b. a == b) t.abcasts k (t.abcasts k ++ m.id ∷ []) else t.abcasts) j)
      more true j = abcasts_more j
      more false j = i.2.placed j

  -- Views

  passed_from : (t : State) (g : GroupNo) (skipped : Bool) (n : ℕ) (members : Membership) (request : ℕ) (cut : CountList) → From t →
      Comes Came t g skipped n members request cut → From (passing t g skipped n members request cut)
  passed_from t g skipped n members request cut i comes =
      let facts = enters_from t i g skipped n members request cut comes in
      let v : MemberSide = with_view t.here n members (t.group g) in
      let left : State = putting_out t g skipped members in
      let out : SoundAt left =
      with_processes t.session t.process t.group t.home t.got t.kept t.abcasts t.owed i.2 left.process
      (λ k. put_out k (is_put_out t g skipped members k)) in
      let viewing =
      set_group_from t.session left.process t.group t.home t.got t.kept t.abcasts t.owed out g v (λ one. facts.0.number)
      (viewing_from_one g (t.group g) t.here n members (i.2.groups g) facts.0.group facts.0.number facts.1) in
      let now : State = set_group left g v in
      let entered_all : ℕ → Process = λ k. if enters now g members request k then in_view g n (left.process k) else left.process k in (
        i.0,
        i.1,
        with_processes t.session left.process (set_at group_eq t.group g v) t.home t.got t.kept t.abcasts t.owed viewing entered_all
            (λ k. enter k (left.process k) (viewing.processes k) facts.0 (enters now g members request k) refl),
        i.3,
      )
    where
      put_out : (k : ℕ) (b : Bool) → ProcessFromOne k (if b then put_outside g (t.process k) else t.process k) t.group
      put_out k true = parted k (t.process k) t.group (i.2.processes k) g
      put_out k false = i.2.processes k

      enter : (k : ℕ) (p : Process) → ProcessFromOne k p (set_at group_eq t.group g (with_view t.here n members (t.group g))) →
          NumberFromOne g n → (b : Bool) → (is_taken_in request (p.standing g) && is_among proc_eq (local t k) members.list) ≡ b →
          ProcessFromOne k (if b then in_view g n p else p) (set_at group_eq t.group g (with_view t.here n members (t.group g)))
      enter k p one numbers false e = one
      enter k p one numbers true e =
          entered k p (set_at group_eq t.group g (with_view t.here n members (t.group g))) one g n numbers.group numbers.number
          (one.inside g (taken_inside request (p.standing g)
          (and_parts (is_taken_in request (p.standing g)) (is_among proc_eq (local t k) members.list) e).0))
          (subst (λ (z : MemberSide). 1 ≤ z.number) (sym (set_here t.group g (with_view t.here n members (t.group g)) g refl))
          numbers.number)

  kept_from : FullyKept From (λ g. From) (λ u. From) Came (is_home history s) true
  kept_from = record {
    telling = from_telling;
    between = λ g. from_telling;
    during = λ u. from_telling;
    truly = inr (
      (λ t key i owed is known. sends_one_more t key.site (frame.Ack (id_in (t.group key.group).number key)) i
          (acked_from t i key known (subst (OwedFromOne t.group t.home key) is (owed_from t i key owed)))),
      λ t key due i owed. (
        i.0,
        i.1,
        one_owed t (paid (key_eq key) t.owed) key due i.2
            (λ o at. i.2.debts o (among_kept (λ (z : Owed). not (key_eq key z.key)) t.owed o at)) (owed_from t i key owed),
        i.3,
      ),
    );
    fixed = λ t i. λ j. site_eq (i.0 j) (i.1 j).home;
    opens = λ t i. (
      i.0,
      i.1,
      with_sessions t.session t.process t.group t.home t.got t.kept t.abcasts t.owed i.2
          (set_at (λ a b. a == b) t.session (t.used + 1) (first_session (local t (t.used + 1))))
          (set_all (λ j (z : Session). is_open z ≡ true → 1 ≤ j) t.session (t.used + 1) (first_session (local t (t.used + 1)))
          i.2.sessions (λ e. omega arith)),
      i.3,
    );
    answers = λ t g i. (
      i.0,
      i.1,
      set_group_from t.session t.process t.group t.home t.got t.kept t.abcasts t.owed i.2 g (with_answer (t.group g)) (λ one. one)
          (answered_from_one g (t.group g) (i.2.groups g)),
      i.3,
    );
    joins = λ t k g i open_it known out. (
      i.0,
      i.1,
      set_process_from t.session t.process t.group t.home t.got t.kept t.abcasts t.owed i.2 k
          (record (t.process k) {
            standing = set_at group_eq (t.process k).standing g (Joining ((t.group g).asked + 1) (view_of (t.process k).time g));
          })
          (joined k (t.process k) t.group (i.2.processes k) g ((t.group g).asked + 1) (view_of (t.process k).time g)
          (i.2.sessions k open_it)),
      i.3,
    );
    sends = λ t g k content i member may room open_it asked_for. sent_from t g k content i member may;
    receives = λ t from m i came view member may new. received_from t m i (elim came [ inl sent ↦ sent | inr brought ↦ brought ]);
    received = λ t u i. (i.0, i.1, fewer_owed t (key_eq (message_key kinds.Want u t.config.home)) i.2, i.3);
    acknowledged = λ t from u i came. i;
    learns = λ t from u i came. i;
    delivers = λ t k m i c ready. delivered_from t k m i (i.2.received m c);
    freezes = λ t g i current. (
      i.0,
      i.1,
      set_group_from t.session t.process t.group t.home t.got t.kept t.abcasts t.owed i.2 g (frozen_side (t.group g)) (λ one. one)
          (frozen_from_one g (t.group g) (i.2.groups g)),
      i.3,
    );
    pends = λ t from g p tail i came current waits known. (
      i.0,
      i.1,
      set_group_from t.session t.process t.group t.home t.got t.kept t.abcasts t.owed i.2 g (with_pending (t.group g) p) (λ one. one)
          (pending_from_one g (t.group g) p (i.2.groups g) current came.members came.cut),
      i.3,
    );
    passes = λ t g skipped n members request cut i comes. passed_from t g skipped n members request cut i comes;
    ends = λ t g i. (
      i.0,
      i.1,
      fewer_owed (releasing_ended t g) (is_of_view g) (fewer_kept t (is_ended t g) i.2),
      i.3,
    );
    homes = λ t g what i may. (
      i.0,
      i.1,
      set_home_from t.session t.process t.group t.home t.got t.kept t.abcasts t.owed i.2 g (apply_move what (t.home g))
          (home_grows what (t.home g)) (home_moves (t.home g) (i.2.homes g) t g what may),
      i.3,
    );
  }

  step_sends : (e : Event) → SoundAt s → HasCome Came e → (answer : Taken) (t : State) → IsStep s e answer t → From t
  step_sends e sound came answer t is =
      let none : From (before_event s) = (refl, refl, sound, λ to f at. absurd (omega (arith, at.1))) in
      rests_keeps_fully From (λ g. From) (λ u. From) Came (is_home history s) true kept_from (after_event s e) t is.rests
      (event_keeps_fully From (λ g. From) (λ u. From) Came (is_home history s) true kept_from s e none came
      (sets_any From (λ u quotas y. y) (before_event s) e none) (any_happens e))

-- Steps

-- what a site keeps between events
pub record RestFromOne (t : State) : Type 0 where
  pub here : 1 ≤ t.here.0
  pub named : Each (λ (g : GroupNo). 1 ≤ g.0) t.config.groups
  pub sound : SoundAt t

pub step_from_one : (s : State) (e : Event) (answer : Taken) (t : State) → RestFromOne s → HasCome Came e → IsStep s e answer t →
    RestFromOne t × SentFromOne t.frames
step_from_one s e answer t rest came is =
    let one : From s rest.here rest.named t = step_sends s rest.here rest.named e rest.sound came answer t is in (
      record {
        here = subst (λ (z : SiteNo). 1 ≤ z.0) (sym one.0) rest.here;
        named = subst (λ (c : DomainConfig). Each (λ (g : GroupNo). 1 ≤ g.0) c.groups) (sym one.1) rest.named;
        sound = one.2;
      },
      one.3,
    )

-- before the first event
pub opening_from_one : (here : SiteNo) (config : DomainConfig) → 1 ≤ here.0 → Each (λ (g : GroupNo). 1 ≤ g.0) config.groups →
    RestFromOne (opening here config)
opening_from_one here config up named = record {
  here = up;
  named = named;
  sound = record {
    sessions = λ k e. absurd (false≢true e);
    processes = λ k. record {
      times = λ c at. absurd (omega (arith, at.1));
      inside = λ g e. absurd (true≢false e);
      member = λ g e. absurd (false≢true e);
    };
    groups = λ g. record {
      known = λ none. absurd (omega (arith, none));
      viewed = λ e. absurd (false≢true e);
      members = λ p at. absurd (omega (arith, at.1));
      pending = λ p e. absurd (none_some p e);
      requests = λ a at. absurd (omega (arith, at.1));
    };
    homes = λ g. record {
      members = λ p at. absurd (omega (arith, at.1));
      peopled = λ p at. absurd (omega (arith, at.1));
      joins = λ p at. absurd (omega (arith, at.1));
      awaited = λ q at. absurd (omega (arith, at.1));
      numbered = λ q r at. absurd (omega (arith, at.1));
      reports = λ q r at. absurd (omega (arith, at.1));
      bodies = λ m at. absurd (omega (arith, at.1));
      installs = λ w d b e. absurd (idle_not w d b e);
    };
    received = λ m at. absurd (omega (arith, at.1));
    stored = λ m at. absurd (omega (arith, at.1));
    placed = λ k u at. absurd (omega (arith, at.1));
    debts = λ o at. absurd (omega (arith, at.1));
  };
}
