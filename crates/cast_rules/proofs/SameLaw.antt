-- What changes nothing of what holds of each history that events lead to.
-- `SameLaw` says that two states are alike in all that `IsLawful` speaks of, so that the one is
-- lawful if the other is (`lawful_same`). There is one lemma for each effect that is so: on
-- sessions, on the home, on acknowledgements, on owed frames, and on groups that keep number and
-- view. So a rule that is made of such moves keeps each invariant that speaks of nothing else
-- (`invariant_by_same`).
use Rattle.std.proofs.Common.{◌≡◌, ℕ, Bool, true, false, List, [], ◌∷◌, Contains, Option}
use Rattle.std.proofs.Common.{Some, None, refl, sym, ap, subst, ◌∙◌, inl, inr, arith}
use Rattle.std.specs.Prelude.{◌||◌, ◌==◌, if◌then◌else◌}
use Rattle.std.specs.List.{fold}
use Rattle.std.proofs.lemmas.Bool.{false≢true, eqb-true}
use Rattle.cast_types.specs.declared.names.SiteNo.{SiteNo}
use Rattle.cast_types.specs.declared.names.GroupNo.{GroupNo}
use Rattle.cast_types.specs.declared.names.Proc.{Proc}
use Rattle.cast_types.specs.declared.names.Uid.{Uid}
use Rattle.cast_types.specs.Names.{Entry, site_eq, group_eq, proc_eq}
use Rattle.cast_types.specs.Sets.{is_among}
use Rattle.cast_types.proofs.Orders.{same_group}
use Rattle.cast_clock.specs.Times.{view_of}
use Rattle.cast_message.specs.declared.site.Change.{Change}
use Rattle.cast_message.specs.declared.site.SiteFrame.{SiteFrame}
use Rattle.cast_message.specs.declared.client.Push.{Push}
use Rattle.cast_message.specs.declared.client.Push.TheVariants as push
use Rattle.cast_message.specs.Membership.{is_members}
use Rattle.cast_message.specs.Tail.{Tail}
use Rattle.cast_stable.specs.Stable.{Acked}
use Rattle.cast_timer.specs.declared.key.Owed.{Owed}
use Rattle.cast_timer.specs.declared.key.OwedKey.{OwedKey}
use Rattle.cast_ready.specs.Ready.{Process, is_member, is_outside, has_delivered}
use Rattle.cast_events.specs.Session.{Session, no_session, is_open, pushed_to, tell_end, taken_from}
use Rattle.cast_quota.specs.declared.quotas.Quotas.{Quotas}
use Rattle.cast_quota.specs.declared.quotas.QuotaName.{QuotaName}
use Rattle.cast_quota.specs.Quotas.{with_quota}
use Rattle.cast_view.specs.declared.member.Pending.{Pending}
use Rattle.cast_view.specs.MemberSide.{MemberSide, no_group, has_view, members_of, with_request, frozen_side, with_pending}
use Rattle.cast_view.specs.Home.{Home, is_empty}
use Rattle.cast_rules.specs.State.{State, set_session, with_push, set_group, set_home, emit, noting_ack, noting_stable}
use Rattle.cast_rules.specs.State.{pushing, noting_act, closing, going, taking, setting_quota, counting_cast}
use Rattle.cast_types.specs.declared.refusal.Refusal.{Refusal}
use Rattle.cast_rules.specs.Acts.{Act}
use Rattle.cast_rules.specs.Owing.{noting_owed, noting_resent, paying, paying_upto, paying_view, at_moment}
use Rattle.cast_rules.specs.Rules.Keys.{ask_key}
use Rattle.cast_rules.specs.Rules.Owing.{owe}
use Rattle.cast_rules.specs.Rules.Sending.{send_data}
use Rattle.cast_rules.specs.Rules.Asking.{ask_home, request}
use Rattle.cast_rules.specs.History.{history}
use Rattle.cast_rules.proofs.Rules.Follows.{IsInvariant}
use Rattle.cast_rules.proofs.Rules.Owing.{owe_keeps}
use Rattle.cast_rules.proofs.Rules.Sending.{send_data_keeps}
use Rattle.cast_rules.specs.Entering.{freezing, pending_install}
use Rattle.cast_rules.specs.Lawful.{IsSpent, AreKept, IsOfReached, Waits, IsLawful}
use Rattle.cast_rules.proofs.Lawful.{lawful_from, reached_on, ActsOn, one_act_on, traced_on, kept_map, spent_on}

-- What changes nothing of this

-- alike in all that is lawful or not
pub record SameLaw (s : State) (t : State) : Type 0 where
  pub here : t.here ≡ s.here
  pub config : t.config ≡ s.config
  pub used : t.used ≡ s.used
  pub process : (k : ℕ) → t.process k ≡ s.process k
  pub got : t.got ≡ s.got
  pub kept : t.kept ≡ s.kept
  pub abcasts : (k : ℕ) → t.abcasts k ≡ s.abcasts k
  pub acts : ActsOn s t.acts
  pub number : (g : GroupNo) → (t.group g).number ≡ (s.group g).number
  pub view : (g : GroupNo) → (t.group g).view ≡ (s.group g).view
  -- what waits in a frozen group, with the members of a view, waits so still, or other such things do
  pub waiting : (g : GroupNo) → Waits (s.group g).frozen (s.group g).pending → Waits (t.group g).frozen (t.group g).pending
  -- no session opens
  pub opens : (k : ℕ) → is_open (t.session k) ≡ true → is_open (s.session k) ≡ true

pub seen_view : (a b : MemberSide) → a.view ≡ b.view → has_view a ≡ has_view b
seen_view a b e = ap (λ v. has_view (record no_group { view = v })) e

pub lawful_same : (s t : State) → SameLaw s t → IsLawful s → IsLawful t
lawful_same s t a l = lawful_from s t l a.config
    (λ k g. record {
      known = λ h. ap (λ c. is_among group_eq g c.groups) a.config
          ∙ l.known k g (sym (ap (λ (p : Process). is_outside (p.standing g)) (a.process k)) ∙ h);
      current = λ h. ap (λ (p : Process). view_of p.time g) (a.process k)
          ∙ l.current k g (sym (ap (λ (p : Process). is_member (p.standing g)) (a.process k)) ∙ h)
          ∙ sym (a.number g);
      viewed = λ h. seen_view (t.group g) (s.group g) (a.view g)
          ∙ l.viewed k g (sym (ap (λ (p : Process). is_member (p.standing g)) (a.process k)) ∙ h);
    })
    (λ m at. l.stamped m (subst (λ got. Contains got m) a.got at))
    (subst (λ got. AreKept (IsSpent t) got t.kept) (sym a.got)
    (subst (AreKept (IsSpent t) s.got) (sym a.kept)
    (kept_map (IsSpent s) (IsSpent t)
    (spent_on s t a.used a.number (λ k g is. ap (λ (p : Process). is_member (p.standing g)) (sym (a.process k)) ∙ is)
    (λ k u is. ap (λ p. has_delivered p u) (a.process k) ∙ is))
    s.got s.kept l.spent)))
    (λ g seen. ap (λ c. is_among group_eq g c.groups) a.config ∙ l.listed g (sym (seen_view (t.group g) (s.group g) (a.view g)) ∙ seen))
    (traced_on s t a.got a.abcasts (λ g. let same = a.number g in omega (arith, same))
    (λ g p _ is. (λ i. is_among proc_eq p (members_of (record no_group { view = a.view g i })) || site_eq p.site (a.here i)) ∙ is)
    (λ k u is. ap (λ p. has_delivered p u) (a.process k) ∙ is) a.acts l.traced)
    (λ g. a.waiting g (l.waiting g))

pub same_self : (s : State) → SameLaw s s
same_self s = record {
  here = refl;
  config = refl;
  used = refl;
  process = λ k. refl;
  got = refl;
  kept = refl;
  abcasts = λ k. refl;
  acts = λ k a at. inl at;
  number = λ g. refl;
  view = λ g. refl;
  waiting = λ g w. w;
  opens = λ k is. is;
}

pub same_then : (s t u : State) → SameLaw s t → SameLaw t u → SameLaw s u
same_then s t u a b = record {
  here = b.here ∙ a.here;
  config = b.config ∙ a.config;
  used = b.used ∙ a.used;
  process = λ k. b.process k ∙ a.process k;
  got = b.got ∙ a.got;
  kept = b.kept ∙ a.kept;
  abcasts = λ k. b.abcasts k ∙ a.abcasts k;
  acts = λ k x at. elim (b.acts k x at) [
    | inl mid ↦ a.acts k x mid
    | inr now ↦ inr (reached_on t s (λ g. let same = a.number g in omega (arith, same)) x now)
  ];
  number = λ g. b.number g ∙ a.number g;
  view = λ g. b.view g ∙ a.view g;
  waiting = λ g w. b.waiting g (a.waiting g w);
  opens = λ k is. a.opens k (b.opens k is);
}

pub same_if : (s x y : State) (b : Bool) → SameLaw s x → SameLaw s y → SameLaw s (if b then x else y)
same_if s x y true p q = p
same_if s x y false p q = q

pub same_fold : {X : Type 0} (f : State → X → State) → ((s : State) (x : X) → SameLaw s (f s x)) → (xs : List X) (s : State) →
    SameLaw s (fold f s xs)
same_fold f h [] s = same_self s
same_fold f h (x ∷ xs) s = same_then s (f s x) (fold f (f s x) xs) (h s x) (same_fold f h xs (f s x))

pub same_session : (s : State) (k : ℕ) (v : Session) → (is_open v ≡ true → is_open (s.session k) ≡ true) → SameLaw s (set_session s k v)
same_session s k v opens = record {
  here = refl;
  config = refl;
  used = refl;
  process = λ j. refl;
  got = refl;
  kept = refl;
  abcasts = λ j. refl;
  acts = λ j a at. inl at;
  number = λ g. refl;
  view = λ g. refl;
  waiting = λ g w. w;
  opens = λ j. elim (k == j) as (λ b. k == j ≡ b → is_open (if b then v else s.session j) ≡ true → is_open (s.session j) ≡ true) [
    | true ↦ λ same is. ap (λ i. is_open (s.session i)) (sym (eqb-true k j same)) ∙ opens is
    | false ↦ λ _ is. is
  ] refl;
}

pub same_home : (s : State) (g : GroupNo) (v : Home) → SameLaw s (set_home s g v)
same_home s g v = record {
  here = refl;
  config = refl;
  used = refl;
  process = λ k. refl;
  got = refl;
  kept = refl;
  abcasts = λ k. refl;
  acts = λ k a at. inl at;
  number = λ g. refl;
  view = λ g. refl;
  waiting = λ g w. w;
  opens = λ k is. is;
}

pub same_emitted : (s : State) (to : SiteNo) (f : SiteFrame) → SameLaw s (emit s to f)
same_emitted s to f = record {
  here = refl;
  config = refl;
  used = refl;
  process = λ k. refl;
  got = refl;
  kept = refl;
  abcasts = λ k. refl;
  acts = λ k a at. inl at;
  number = λ g. refl;
  view = λ g. refl;
  waiting = λ g w. w;
  opens = λ k is. is;
}

-- a session is pushed an entry, and is no more open than it was
pub same_push : (s : State) (k : ℕ) (v : Session) (p : Push) → (is_open v ≡ true → is_open (s.session k) ≡ true) →
    SameLaw s (with_push s k v p)
same_push s k v p opens =
    let a = same_session s k v opens in
    record {
      here = a.here;
      config = a.config;
      used = a.used;
      process = a.process;
      got = a.got;
      kept = a.kept;
      acts = a.acts;
      abcasts = a.abcasts;
      number = a.number;
      view = a.view;
      waiting = a.waiting;
      opens = a.opens;
    }

pub same_pushing : (s : State) (k : ℕ) (p : Push) → SameLaw s (pushing s k p)
same_pushing s k p =
    same_if s (with_push s k (pushed_to (s.session k) p) p) s (is_open (s.session k))
    (same_push s k (pushed_to (s.session k) p) p (λ is. is)) (same_self s)

-- a session that ends opens none
pub same_closing : (s : State) (k : ℕ) (refusal : Refusal) → SameLaw s (closing s k refusal)
same_closing s k refusal =
    same_if s (with_push s k (tell_end refusal (s.session k)) (push.Closed refusal)) s (is_open (s.session k))
    (same_push s k (tell_end refusal (s.session k)) (push.Closed refusal) (λ is. absurd (false≢true is))) (same_self s)

pub same_going : (s : State) (k : ℕ) → SameLaw s (going s k)
same_going s k = same_session s k no_session (λ is. absurd (false≢true is))

-- what is taken opens none
pub same_taking : (s : State) (k most : ℕ) → SameLaw s (taking s k most)
same_taking s k most = same_session s k (taken_from most (s.session k)) (λ is. is)

-- what the domain may use, and how many casts were accepted, is no matter
same_counted : (s : State) (quotas : Quotas) (casts : ℕ) → SameLaw s (record s { quotas = quotas; casts = casts })
same_counted s quotas casts = record {
  here = refl;
  config = refl;
  used = refl;
  process = λ k. refl;
  got = refl;
  kept = refl;
  abcasts = λ k. refl;
  acts = λ k a at. inl at;
  number = λ g. refl;
  view = λ g. refl;
  waiting = λ g w. w;
  opens = λ k is. is;
}

pub same_setting : (s : State) (name : QuotaName) (value : ℕ) → SameLaw s (setting_quota s name value)
same_setting s name value = same_counted s (with_quota name value s.quotas) s.casts

pub same_counting : (s : State) → SameLaw s (counting_cast s)
same_counting s = same_counted s s.quotas (counting_cast s).casts

-- what processes did is no matter
pub same_acts : (s : State) (acts : ℕ → List Act) → ActsOn s acts → SameLaw s (record s { acts = acts })
same_acts s acts on = record {
  here = refl;
  config = refl;
  used = refl;
  process = λ k. refl;
  got = refl;
  kept = refl;
  abcasts = λ k. refl;
  acts = on;
  number = λ g. refl;
  view = λ g. refl;
  waiting = λ g w. w;
  opens = λ k is. is;
}

-- a group that keeps its number and its view, and in which what waits may wait
pub same_group_but : (s : State) (g : GroupNo) (v : MemberSide) → v.number ≡ (s.group g).number → v.view ≡ (s.group g).view →
    (Waits (s.group g).frozen (s.group g).pending → Waits v.frozen v.pending) → SameLaw s (set_group s g v)
same_group_but s g v number view waits = record {
  here = refl;
  config = refl;
  used = refl;
  process = λ k. refl;
  got = refl;
  kept = refl;
  abcasts = λ k. refl;
  acts = λ k a at. inl at;
  opens = λ k is. is;
  number = λ h. elim (group_eq g h) as (λ b. group_eq g h ≡ b → (if b then v else s.group h).number ≡ (s.group h).number) [
    | true ↦ λ is. subst (λ x. v.number ≡ (s.group x).number) (same_group g h is) number
    | false ↦ λ is. refl
  ] refl;
  view = λ h. elim (group_eq g h) as (λ b. group_eq g h ≡ b → (if b then v else s.group h).view ≡ (s.group h).view) [
    | true ↦ λ is. subst (λ x. v.view ≡ (s.group x).view) (same_group g h is) view
    | false ↦ λ is. refl
  ] refl;
  waiting = λ h.
      elim (group_eq g h) as (λ b. group_eq g h ≡ b → Waits (s.group h).frozen (s.group h).pending →
      Waits (if b then v else s.group h).frozen (if b then v else s.group h).pending) [
        | true ↦ λ is. subst (λ x. Waits (s.group x).frozen (s.group x).pending → Waits v.frozen v.pending) (same_group g h is) waits
        | false ↦ λ _ w. w
      ] refl;
}

-- and one in which all of that stays
pub same_group_set : (s : State) (g : GroupNo) (v : MemberSide) → v.number ≡ (s.group g).number → v.view ≡ (s.group g).view →
    v.frozen ≡ (s.group g).frozen → v.pending ≡ (s.group g).pending → SameLaw s (set_group s g v)
same_group_set s g v number view frozen pending =
    same_group_but s g v number view (λ w. subst (λ b. Waits b v.pending) (sym frozen) (subst (Waits (s.group g).frozen) (sym pending) w))

-- a flush has frozen a group
pub same_freezing : (s : State) (g : GroupNo) → SameLaw s (freezing s g)
same_freezing s g = same_group_but s g (frozen_side (s.group g)) refl refl (still (s.group g).frozen (s.group g).pending)
  where
    still : (frozen : Bool) (o : Option Pending) → Waits frozen o → Waits true o
    still frozen (Some p) w = (refl, w.1)
    still frozen None w = tt

-- the order that a view ends with is no matter
same_closed : (s : State) (closed : GroupNo → List Entry) → SameLaw s (record s { closed = closed })
same_closed s closed = record {
  here = refl;
  config = refl;
  used = refl;
  process = λ k. refl;
  got = refl;
  kept = refl;
  abcasts = λ k. refl;
  acts = λ k a at. inl at;
  number = λ g. refl;
  view = λ g. refl;
  waiting = λ g w. w;
  opens = λ k is. is;
}

-- an Install waits that has the members of a view
pub same_pending : (s : State) (g : GroupNo) (p : Pending) (tail : Tail) → is_members p.members ≡ true →
    SameLaw s (pending_install s g p tail)
same_pending s g p tail typed =
    let now : State = set_group s g (with_pending (s.group g) p) in
    same_then s now (pending_install s g p tail) (same_group_but s g (with_pending (s.group g) p) refl refl (λ _. (refl, typed)))
    (same_closed now (pending_install s g p tail).closed)

pub same_owed : (s : State) (owed : List Owed) → SameLaw s (record s { owed = owed })
same_owed s owed = record {
  here = refl;
  config = refl;
  used = refl;
  process = λ k. refl;
  got = refl;
  kept = refl;
  abcasts = λ k. refl;
  acts = λ k a at. inl at;
  number = λ g. refl;
  view = λ g. refl;
  waiting = λ g w. w;
  opens = λ k is. is;
}

-- what is acknowledged and told is no matter
same_known : (s : State) (acks : List Acked) (told : List Uid) → SameLaw s (record s { acks = acks; told = told })
same_known s acks told = record {
  here = refl;
  config = refl;
  used = refl;
  process = λ k. refl;
  got = refl;
  kept = refl;
  abcasts = λ k. refl;
  acts = λ k a at. inl at;
  number = λ g. refl;
  view = λ g. refl;
  waiting = λ g w. w;
  opens = λ k is. is;
}

same_moment : (s : State) (moment : ℕ) → SameLaw s (record s { moment = moment })
same_moment s moment = record {
  here = refl;
  config = refl;
  used = refl;
  process = λ k. refl;
  got = refl;
  kept = refl;
  abcasts = λ k. refl;
  acts = λ k a at. inl at;
  number = λ g. refl;
  view = λ g. refl;
  waiting = λ g w. w;
  opens = λ k is. is;
}

-- the moves of the rules change nothing that a lawful history is about
pub moves_same : (s : State) → IsInvariant history (SameLaw s)
moves_same s = record {
  send = λ t a to f. same_then s t (emit t to f) a (same_emitted t to f);
  note_owed = λ t a key. same_then s t (noting_owed t key) a (same_owed t (noting_owed t key).owed);
  note_resent = λ t a key. same_then s t (noting_resent t key) a (same_owed t (noting_resent t key).owed);
  pay = λ t a key. same_then s t (paying t key) a (same_owed t (paying t key).owed);
  pay_upto = λ t a key. same_then s t (paying_upto t key) a (same_owed t (paying_upto t key).owed);
  pay_view = λ t a g. same_then s t (paying_view t g) a (same_owed t (paying_view t g).owed);
  note_moment = λ t a n. same_then s t (at_moment t n) a (same_moment t (at_moment t n).moment);
  note_ack = λ t a from u. same_then s t (noting_ack t from u) a (same_known t (noting_ack t from u).acks t.told);
  note_stable = λ t a u. same_then s t (noting_stable t u) a (same_known t t.acks (noting_stable t u).told);
}

-- so what holds of a history by what a lawful one is about alone holds after each of them
pub invariant_by_same : (holds : State → Type 0) → ((s t : State) → SameLaw s t → holds s → holds t) → IsInvariant history holds
invariant_by_same holds by_same = record {
  send = λ s h to f. by_same s (emit s to f) ((moves_same s).send s (same_self s) to f) h;
  note_owed = λ s h key. by_same s (noting_owed s key) ((moves_same s).note_owed s (same_self s) key) h;
  note_resent = λ s h key. by_same s (noting_resent s key) ((moves_same s).note_resent s (same_self s) key) h;
  pay = λ s h key. by_same s (paying s key) ((moves_same s).pay s (same_self s) key) h;
  pay_upto = λ s h key. by_same s (paying_upto s key) ((moves_same s).pay_upto s (same_self s) key) h;
  pay_view = λ s h g. by_same s (paying_view s g) ((moves_same s).pay_view s (same_self s) g) h;
  note_moment = λ s h n. by_same s (at_moment s n) ((moves_same s).note_moment s (same_self s) n) h;
  note_ack = λ s h from u. by_same s (noting_ack s from u) ((moves_same s).note_ack s (same_self s) from u) h;
  note_stable = λ s h u. by_same s (noting_stable s u) ((moves_same s).note_stable s (same_self s) u) h;
}

pub same_owe : (s : State) (key : OwedKey) → SameLaw s (owe history s key)
same_owe s key = owe_keeps history (SameLaw s) (moves_same s) s (same_self s) key

pub same_ask_home : (s : State) (g : GroupNo) → SameLaw s (ask_home history s g)
same_ask_home s g =
    same_if s s (owe history s (ask_key g s.config.home)) (is_empty (s.group g).requests) (same_self s)
    (same_owe s (ask_key g s.config.home))

pub same_request : (s : State) (g : GroupNo) (what : Change) (p : Proc) → SameLaw s (request history s g what p)
same_request s g what p =
    let next : State = set_group s g (with_request (s.group g) what p) in
    let a : SameLaw s next = same_group_set s g (with_request (s.group g) what p) refl refl refl refl in
    same_if s (ask_home history next g) next (is_empty (s.group g).requests)
    (same_then s next (ask_home history next g) a (same_ask_home next g)) a

-- Messages

pub same_send_data : (u : Uid) (s : State) (to : SiteNo) → SameLaw s (send_data history u s to)
same_send_data u s to = send_data_keeps history (SameLaw s) (moves_same s) u s (same_self s) to

-- what a process did is noted
pub same_noting : (s : State) (k : ℕ) (a : Act) → IsOfReached s a → SameLaw s (noting_act s k a)
same_noting s k a reached = record {
  here = refl;
  config = refl;
  used = refl;
  process = λ k. refl;
  got = refl;
  kept = refl;
  abcasts = λ k. refl;
  acts = one_act_on s k a reached;
  number = λ g. refl;
  view = λ g. refl;
  waiting = λ g w. w;
  opens = λ k is. is;
}
