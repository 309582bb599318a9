-- What leaves a state alike.
use Rattle.std.proofs.Common.{◌≡◌, ℕ, Bool, true, false, List, [], ◌∷◌, ◌++◌, Some, None, refl, ap, ◌∙◌}
use Rattle.std.specs.Prelude.{◌==◌, filter, if◌then◌else◌}
use Rattle.std.specs.List.{fold}
use Rattle.std.proofs.lemmas.Bool.{eqb-true}
use Rattle.cast_types.specs.declared.names.SiteNo.{SiteNo}
use Rattle.cast_types.specs.declared.names.GroupNo.{GroupNo}
use Rattle.cast_types.specs.declared.names.Uid.{Uid}
use Rattle.cast_types.specs.Sets.{set_at}
use Rattle.cast_types.specs.Counts.{CountList}
use Rattle.cast_message.specs.declared.message.Body.{Body}
use Rattle.cast_message.specs.declared.message.Message.{Message}
use Rattle.cast_message.specs.declared.site.SiteFrame.{SiteFrame}
use Rattle.cast_message.specs.declared.site.SiteFrame.TheVariants as frame
use Rattle.cast_message.specs.declared.client.Push.{Push}
use Rattle.cast_message.specs.declared.client.Push.TheVariants as push
use Rattle.cast_message.specs.Membership.{Membership}
use Rattle.cast_stable.specs.Stable.{Acked}
use Rattle.cast_timer.specs.declared.key.Owed.{Owed}
use Rattle.cast_ready.specs.Ready.{Process, is_outside}
use Rattle.cast_view.specs.MemberSide.{MemberSide, with_view, with_request}
use Rattle.cast_view.specs.Home.{is_empty}
use Rattle.cast_types.specs.declared.names.Proc.{Proc}
use Rattle.cast_types.specs.declared.names.Standing.TheVariants.{Outside}
use Rattle.cast_types.specs.declared.refusal.Refusal.{Refusal}
use Rattle.cast_types.specs.declared.refusal.Refusal.TheVariants.{NotMember, Slow}
use Rattle.cast_types.specs.declared.limits.TheConstants.{MAX_NUMBER}
use Rattle.cast_types.specs.Names.{group_eq}
use Rattle.cast_types.proofs.Orders.{same_group}
use Rattle.cast_message.specs.declared.site.Change.{Change}
use Rattle.cast_message.specs.declared.site.Change.TheVariants as change
use Rattle.cast_events.specs.Session.{Session, is_open, pushed_to, tell_end}
use Rattle.cast_rules.specs.State.{State, local, serials, with_push, set_process, set_group, emit, others_of}
use Rattle.cast_rules.specs.State.{noting_ack, noting_stable, is_filled, pushing, closing, outside}
use Rattle.cast_rules.specs.State.{local_members, receiving, noting_sent, releasing, is_ended, releasing_ended}
use Rattle.cast_rules.specs.Entering.{put_outside, is_put_out, all_parted, putting_out, enters, in_view, all_in_view, passing}
use Rattle.cast_rules.specs.Rest.{let_go}
use Rattle.cast_rules.specs.Owing.{noting_owed, noting_resent, paying, paying_upto, paying_view, at_moment}
use Rattle.cast_rules.specs.Rules.Sending.{send_data}
use Rattle.cast_rules.specs.Rules.Keys.{ask_key}
use Rattle.cast_rules.specs.Rules.Asking.{ask_home, request}
use Rattle.cast_rules.specs.Rules.Leaving.{Attempt, leave_group, leave_each, leave_all, close_session, tell_open, tell}
use Rattle.cast_rules.specs.Rules.Views.{tell_out, tell_view, enter_and_tell, install}
use Rattle.cast_rules.specs.History.{history}
use Rattle.cast_rules.proofs.Rules.Follows.{IsInvariant}
use Rattle.cast_timer.specs.declared.key.OwedKey.{OwedKey}
use Rattle.cast_rules.specs.Rules.Owing.{owe, send_for}
use Rattle.cast_rules.proofs.Rules.Owing.{owe_keeps, send_for_keeps}
use Rattle.cast_rules.proofs.Rules.Sending.{send_data_keeps}
use Rattle.cast_rules.specs.Effects.{next_message, sending}

-- a group but for the requests of its processes
abbrev pub but_requests : MemberSide → MemberSide
but_requests group = record group { asked = 0; requests = [] }

abbrev pub groups_of : State → GroupNo → MemberSide
groups_of s g = but_requests (s.group g)

-- alike but for sessions, quotas, standings, times, requests, and what is kept, stable, owed, counted and sent
pub record Alike (s : State) (t : State) : Type 0 where
  pub here : t.here ≡ s.here
  pub config : t.config ≡ s.config
  pub used : t.used ≡ s.used
  pub group : groups_of t ≡ groups_of s
  pub home : t.home ≡ s.home
  pub got : t.got ≡ s.got
  pub abcasts : t.abcasts ≡ s.abcasts
  pub delivered : (j : ℕ) → (t.process j).delivered ≡ (s.process j).delivered

pub alike_self : (s : State) → Alike s s
alike_self s = record {
  here = refl;
  config = refl;
  used = refl;
  group = refl;
  home = refl;
  got = refl;
  abcasts = refl;
  delivered = λ j. refl;
}

pub alike_then : (s t u : State) → Alike s t → Alike t u → Alike s u
alike_then s t u a b = record {
  here = b.here ∙ a.here;
  config = b.config ∙ a.config;
  used = b.used ∙ a.used;
  group = b.group ∙ a.group;
  home = b.home ∙ a.home;
  got = b.got ∙ a.got;
  abcasts = b.abcasts ∙ a.abcasts;
  delivered = λ j. b.delivered j ∙ a.delivered j;
}

pub alike_if : (s x y : State) (b : Bool) → Alike s x → Alike s y → Alike s (if b then x else y)
alike_if s x y true p q = p
alike_if s x y false p q = q

pub alike_fold : {X : Type 0} (f : State → X → State) → ((s : State) (x : X) → Alike s (f s x)) → (xs : List X) (s : State) →
    Alike s (fold f s xs)
alike_fold f h [] s = alike_self s
alike_fold f h (x ∷ xs) s = alike_then s (f s x) (fold f (f s x) xs) (h s x) (alike_fold f h xs (f s x))

alike_push : (s : State) (k : ℕ) (v : Session) (p : Push) → Alike s (with_push s k v p)
alike_push s k v p = record {
  here = refl;
  config = refl;
  used = refl;
  group = refl;
  home = refl;
  got = refl;
  abcasts = refl;
  delivered = λ j. refl;
}

pub alike_emitted : (s : State) (to : SiteNo) (f : SiteFrame) → Alike s (emit s to f)
alike_emitted s to f = record {
  here = refl;
  config = refl;
  used = refl;
  group = refl;
  home = refl;
  got = refl;
  abcasts = refl;
  delivered = λ j. refl;
}

alike_pushing : (s : State) (k : ℕ) (p : Push) → Alike s (pushing s k p)
alike_pushing s k p =
    alike_if s (with_push s k (pushed_to (s.session k) p) p) s (is_open (s.session k)) (alike_push s k (pushed_to (s.session k) p) p)
    (alike_self s)

alike_closing : (s : State) (k : ℕ) (refusal : Refusal) → Alike s (closing s k refusal)
alike_closing s k refusal =
    alike_if s (with_push s k (tell_end refusal (s.session k)) (push.Closed refusal)) s (is_open (s.session k))
    (alike_push s k (tell_end refusal (s.session k)) (push.Closed refusal)) (alike_self s)

pub alike_let_go : (s : State) → Alike s (let_go s)
alike_let_go s = record {
  here = refl;
  config = refl;
  used = refl;
  group = refl;
  home = refl;
  got = refl;
  abcasts = refl;
  delivered = λ j. refl;
}

-- Messages that are sent

-- the process at one place, as far as it delivered
alike_time : (s : State) (k : ℕ) (p : Process) → p.delivered ≡ (s.process k).delivered → (j : ℕ) →
    (set_at (λ a b. a == b) s.process k p j).delivered ≡ (s.process j).delivered
alike_time s k p same j =
    elim (k == j) as (λ b. k == j ≡ b → (if b then p else s.process j).delivered ≡ (s.process j).delivered) [
      | true ↦ λ at. same ∙ ap (λ i. (s.process i).delivered) (eqb-true k j at)
      | false ↦ λ at. refl
    ] refl

alike_process : (s : State) (k : ℕ) (p : Process) → p.delivered ≡ (s.process k).delivered → Alike s (set_process s k p)
alike_process s k p same = record {
  here = refl;
  config = refl;
  used = refl;
  group = refl;
  home = refl;
  got = refl;
  abcasts = refl;
  delivered = alike_time s k p same;
}

alike_owed : (s : State) (owed : List Owed) → Alike s (record s { owed = owed })
alike_owed s owed = record {
  here = refl;
  config = refl;
  used = refl;
  group = refl;
  home = refl;
  got = refl;
  abcasts = refl;
  delivered = λ j. refl;
}

alike_known : (s : State) (acks : List Acked) (told : List Uid) (moment : ℕ) →
    Alike s (record s { acks = acks; told = told; moment = moment })
alike_known s acks told moment = record {
  here = refl;
  config = refl;
  used = refl;
  group = refl;
  home = refl;
  got = refl;
  abcasts = refl;
  delivered = λ j. refl;
}

moves_alike : (s : State) → IsInvariant history (Alike s)
moves_alike s = record {
  send = λ t a to f. alike_then s t (emit t to f) a (alike_emitted t to f);
  note_owed = λ t a key. alike_then s t (noting_owed t key) a (alike_owed t (noting_owed t key).owed);
  note_resent = λ t a key. alike_then s t (noting_resent t key) a (alike_owed t (noting_resent t key).owed);
  pay = λ t a key. alike_then s t (paying t key) a (alike_owed t (paying t key).owed);
  pay_upto = λ t a key. alike_then s t (paying_upto t key) a (alike_owed t (paying_upto t key).owed);
  pay_view = λ t a g. alike_then s t (paying_view t g) a (alike_owed t (paying_view t g).owed);
  note_moment = λ t a n. alike_then s t (at_moment t n) a (alike_known t t.acks t.told (at_moment t n).moment);
  note_ack = λ t a from u. alike_then s t (noting_ack t from u) a (alike_known t (noting_ack t from u).acks t.told t.moment);
  note_stable = λ t a u. alike_then s t (noting_stable t u) a (alike_known t t.acks (noting_stable t u).told t.moment);
}

pub alike_send_for : (s : State) (key : OwedKey) → Alike s (send_for history s key)
alike_send_for s key = send_for_keeps history (Alike s) (moves_alike s) s (alike_self s) key

pub alike_noting_owed : (s : State) (key : OwedKey) → Alike s (noting_owed s key)
alike_noting_owed s key = (moves_alike s).note_owed s (alike_self s) key

pub alike_owe : (s : State) (key : OwedKey) → Alike s (owe history s key)
alike_owe s key = owe_keeps history (Alike s) (moves_alike s) s (alike_self s) key

alike_send_data : (u : Uid) (s : State) (to : SiteNo) → Alike s (send_data history u s to)
alike_send_data u s to = send_data_keeps history (Alike s) (moves_alike s) u s (alike_self s) to

-- What programs are told

-- a group whose requests alone change
alike_group : (s : State) (g : GroupNo) (v : MemberSide) → but_requests v ≡ but_requests (s.group g) → Alike s (set_group s g v)
alike_group s g v same = record {
  here = refl;
  config = refl;
  used = refl;
  group = λ i h. at h i;
  home = refl;
  got = refl;
  abcasts = refl;
  delivered = λ j. refl;
}
  where
    at : (h : GroupNo) → but_requests (set_at group_eq s.group g v h) ≡ but_requests (s.group h)
    at h = elim (group_eq g h) as (λ b. group_eq g h ≡ b → but_requests (if b then v else s.group h) ≡ but_requests (s.group h)) [
      | true ↦ λ is. same ∙ ap (λ x. but_requests (s.group x)) (same_group g h is)
      | false ↦ λ _. refl
    ] refl

alike_ask_home : (s : State) (g : GroupNo) → Alike s (ask_home history s g)
alike_ask_home s g =
    alike_if s s (owe history s (ask_key g s.config.home)) (is_empty (s.group g).requests) (alike_self s)
    (alike_owe s (ask_key g s.config.home))

alike_request : (s : State) (g : GroupNo) (what : Change) (p : Proc) → Alike s (request history s g what p)
alike_request s g what p =
    let next : State = set_group s g (with_request (s.group g) what p) in
    let a : Alike s next = alike_group s g (with_request (s.group g) what p) refl in
    alike_if s (ask_home history next g) next (is_empty (s.group g).requests)
    (alike_then s next (ask_home history next g) a (alike_ask_home next g)) a

alike_outside : (s : State) (k : ℕ) (g : GroupNo) → Alike s (outside s k g)
alike_outside s k g =
    let a = alike_process s k (record (s.process k) { standing = set_at group_eq (s.process k).standing g Outside }) refl in
    record {
      here = a.here;
      config = a.config;
      used = a.used;
      group = a.group;
      home = a.home;
      got = a.got;
      abcasts = a.abcasts;
      delivered = a.delivered;
    }

alike_leave_group : (s : State) (k : ℕ) (g : GroupNo) → Alike s (leave_group history s k g g)
alike_leave_group s k g =
    let next : State = outside s k g in
    let a : Alike s next = alike_outside s k g in
    alike_if s next (request history next g change.Leave (local s k)) ((s.group g).asked == MAX_NUMBER) a
    (alike_then s next (request history next g change.Leave (local s k)) a (alike_request next g change.Leave (local s k)))

alike_leave_each : (k : ℕ) (s : State) (g : GroupNo) → Alike s (leave_each history k s g)
alike_leave_each k s g =
    by_standing (is_outside ((s.process k).standing g))
  where
    attempt : Bool → Attempt State
    attempt b = if b then (s, Some NotMember) else (leave_group history s k g g, None)

    by_standing : (b : Bool) → Alike s (attempt b).0
    by_standing true = alike_self s
    by_standing false = alike_leave_group s k g

pub alike_leave_all : (s : State) (k : ℕ) → Alike s (leave_all history s k)
alike_leave_all s k = alike_fold (leave_each history k) (alike_leave_each k) s.config.groups s

alike_close_session : (s : State) (k : ℕ) (refusal : Refusal) → Alike s (close_session history s k refusal)
alike_close_session s k refusal =
    let why : Refusal = if is_filled s k then Slow else refusal in
    alike_then s (closing s k why) (close_session history s k refusal) (alike_closing s k why) (alike_leave_all (closing s k why) k)

-- a program is told something, or its session is closed
pub alike_tell : (s : State) (k : ℕ) (p : Push) → Alike s (tell history s k p)
alike_tell s k p =
    alike_if s (tell_open history s k p) s (is_open (s.session k))
    (alike_if s (close_session history s k Slow) (pushing s k p) (is_filled s k) (alike_close_session s k Slow) (alike_pushing s k p))
    (alike_self s)

-- what is received alike leaves alike
alike_receiving : (s t : State) (m : Message) → Alike s t → Alike (receiving s m) (receiving t m)
alike_receiving s t m a = record {
  here = a.here;
  config = a.config;
  used = a.used;
  group = a.group;
  home = a.home;
  got = ap (λ got. got ++ m ∷ []) a.got;
  abcasts = a.abcasts;
  delivered = a.delivered;
}

alike_sent : (s : State) (k : ℕ) (m : Message) → Alike s (noting_sent s k m)
alike_sent s k m =
    let a = alike_process s k (record (s.process k) { time = m.times }) refl in
    record {
      here = a.here;
      config = a.config;
      used = a.used;
      group = a.group;
      home = a.home;
      got = a.got;
      abcasts = a.abcasts;
      delivered = a.delivered;
    }

-- a message that is sent is received here
pub alike_sending : (s : State) (g : GroupNo) (k : ℕ) (content : Body) →
    Alike (receiving s (next_message s g k content)) (sending s g k content)
alike_sending s g k content =
    let m : Message = next_message s g k content in
    let t : State = noting_sent s k m in
    let u : State = receiving t m in
    alike_then (receiving s m) u (fold (send_data history m.id) u (others_of s g))
    (alike_receiving s t m (alike_sent s k m))
    (alike_fold (send_data history m.id) (alike_send_data m.id) (others_of s g) u)

-- Views

alike_kept : (s : State) (passes : Uid → Bool) → Alike s (releasing s passes)
alike_kept s passes = record {
  here = refl;
  config = refl;
  used = refl;
  group = refl;
  home = refl;
  got = refl;
  abcasts = refl;
  delivered = λ j. refl;
}

-- processes are put out, all at once: what they delivered stands
alike_parted : (s : State) (g : GroupNo) (goes : ℕ → Bool) → Alike s (all_parted s g goes)
alike_parted s g goes = record {
  here = refl;
  config = refl;
  used = refl;
  group = refl;
  home = refl;
  got = refl;
  abcasts = refl;
  delivered = λ j. same j (goes j);
}
  where
    same : (j : ℕ) (b : Bool) → (if b then put_outside g (s.process j) else s.process j).delivered ≡ (s.process j).delivered
    same j true = refl
    same j false = refl

pub alike_putting_out : (s : State) (g : GroupNo) (skips : Bool) (members : Membership) → Alike s (putting_out s g skips members)
alike_putting_out s g skips members = alike_parted s g (is_put_out s g skips members)

-- and taken in
alike_entered : (s : State) (g : GroupNo) (n : ℕ) (members : Membership) (request : ℕ) (cut : CountList) →
    Alike s (all_in_view s g n members request cut)
alike_entered s g n members request cut = record {
  here = refl;
  config = refl;
  used = refl;
  group = refl;
  home = refl;
  got = refl;
  abcasts = refl;
  delivered = λ j. same j (enters s g members request j);
}
  where
    same : (j : ℕ) (b : Bool) → (if b then in_view g n (s.process j) else s.process j).delivered ≡ (s.process j).delivered
    same j true = refl
    same j false = refl

-- a group with its next view, once members that it lacks are put out
abbrev pub with_next_view : State → GroupNo → Bool → ℕ → Membership → State
with_next_view s g skips n members =
    let t : State = putting_out s g skips members in set_group t g (with_view t.here n members (t.group g))

-- all else that a site does where it passes to a view leaves that alike
pub alike_installing : (s : State) (g : GroupNo) (skips : Bool) (from : SiteNo) (n : ℕ) (members : Membership) (request : ℕ)
    (cut : CountList) → Alike (with_next_view s g skips n members) (install history skips s g from n members request cut)
alike_installing s g skips from n members request cut =
    let now : State = with_next_view s g skips n members in
    let entered : State = passing s g skips n members request cut in
    let out : State = fold (tell_out history g n) entered (filter (is_put_out s g skips members) (serials s)) in
    let told : State = enter_and_tell history skips s g n members request cut in
    let released : State = releasing_ended told g in
    let paid : State = paying_view released g in
    let end : State = install history skips s g from n members request cut in
    alike_then now entered end (alike_entered now g n members request cut)
    (alike_then entered out end
    (alike_fold (tell_out history g n) (λ x k. alike_tell x k (push.Ejected g n))
    (filter (is_put_out s g skips members) (serials s)) entered)
    (alike_then out told end
    (alike_fold (tell_view history g n members) (λ x k. alike_tell x k (push.View g n members)) (local_members entered g) out)
    (alike_then told released end (alike_kept told (is_ended told g))
    (alike_then released paid end (alike_owed released paid.owed)
    (alike_emitted paid from (frame.Installed g n))))))
