-- What a session asks for changes a domain's records as it changes their history.
use Rattle.std.proofs.Common.{◌≡◌, ℕ, ◌<◌, ◌≤◌, Bool, true, false, not, ◌&&◌, ◌||◌, List}
use Rattle.std.proofs.Common.{[], ◌∷◌, Some, refl, sym, ap, subst, ◌∙◌, inl, inr, arith}
use Rattle.std.specs.Prelude.{◌==◌, nat_lt, if◌then◌else◌, slice_get, take}
use Rattle.std.specs.List.{fold, list_any}
use Rattle.std.proofs.lemmas.Bool.{cases_Bool, false≢true, false_from_ne_true, and_parts, and_from, eqb-true, eq-eqb, ltb-true}
use Rattle.cast_types.specs.declared.names.GroupNo.{GroupNo}
use Rattle.cast_types.specs.declared.names.Proc.{Proc}
use Rattle.cast_types.specs.declared.names.Uid.{Uid}
use Rattle.cast_types.specs.Names.{is_atomic, group_eq, proc_eq, uid_eq, entry_eq, uid_in}
use Rattle.cast_types.specs.declared.limits.TheConstants.{MAX_NUMBER}
use Rattle.cast_types.specs.Sets.{is_among}
use Rattle.cast_types.specs.Stamps.{ClockList}
use Rattle.cast_types.proofs.Orders.{same_group, same_uid, group_itself, site_itself}
use Rattle.cast_clock.specs.Times.{count_in, with_bump}
use Rattle.cast_clock.proofs.Raised.{bump_raises, bump_leaves_counts, bump_leaves_views}
use Rattle.cast_message.specs.declared.message.Body.{Body}
use Rattle.cast_message.specs.declared.message.Body.TheVariants as body
use Rattle.cast_message.specs.declared.message.Message.{Message}
use Rattle.cast_message.specs.declared.message.Received.{Received}
use Rattle.cast_message.specs.Bodies.{kind_of}
use Rattle.cast_message.specs.Receipts.{messages}
use Rattle.cast_stable.specs.Acks.{others_in}
use Rattle.cast_ready.specs.Ready.{is_member, has_delivered, awaits}
use Rattle.std.specs.Option.{IsSome}
use Rattle.cast_delay.specs.Queue.{delivered_in, row_of}
use Rattle.cast_delay.specs.Fits.{IsSound}
use Rattle.cast_delay.proofs.Queues.{delivered_rules}
use Rattle.cast_delay.proofs.Turns.{and_agree}
use Rattle.cast_order.specs.Log.{Log, log_of, with_hand}
use Rattle.cast_order.proofs.Logs.{log_of_change}
use Rattle.cast_rules.specs.Rules.Sending.{may_raise, send_data}
use Rattle.cast_rules.proofs.Rules.Follows.{sent_here}
use Rattle.cast_view.specs.MemberSide.{has_view, is_pending}
use Rattle.cast_rules.specs.Order.{is_of_view, order_told}
use Rattle.cast_rules.specs.State.{State, local, others_of, gate_of, was_given, receiving, awaits_own, noting_sent}
use Rattle.cast_rules.specs.History.{history}
use Rattle.cast_rules.specs.Effects.{next_message}
use Rattle.cast_domain.specs.Records.{Records}
use Rattle.cast_domain.specs.PartCalls.{standing_of, settled_in, sent_hand, orders_sent, note_sent_by}
use Rattle.cast_domain.specs.PartCalls.{receive_in, is_current_in, is_own_in, awaits_own_in}
use Rattle.cast_domain.specs.Calls.{records}
use Rattle.cast_rules.specs.Lawful.{IsSpent, AreKept, IsLawful}
use Rattle.cast_domain.specs.Fits.{process_named, TellsOrder, LogFits, Fits}
use Rattle.cast_domain.proofs.Logs.{IsNew}
use Rattle.cast_domain.proofs.Following.{asked_of, fits_sends}
use Rattle.cast_domain.proofs.Ordering.{settled_there}
use Rattle.cast_domain.proofs.Standing.{record_there, member_row, standing_there, time_there, process_here}
use Rattle.cast_domain.proofs.ProcessChanges.{fits_sent}
use Rattle.cast_domain.proofs.Arrivals.{fits_receive, fits_receive_with}
use Rattle.cast_domain.proofs.Rows.{row_given}
use Rattle.cast_domain.proofs.Releases.{current_same, current_stands}
use Rattle.cast_types.proofs.Bools.{same_bools, and_none}

-- the records with the parts that the history has, as it has them
abbrev written : Records → State → Records
written r s = record r { site = s.here; config = s.config; used = s.used }

-- what holds of the records so written holds of them
as_written : (P : Records → Type 0) (r : Records) (s : State) → Fits r s → (Fits (written r s) s → P (written r s)) → P r
as_written P r s f h =
    let same : r ≡ written r s = (λ i. record r { site = (f.core i).site; config = (f.core i).config; used = (f.core i).used }) in
    subst P (sym same) (h (subst (λ x. Fits x s) same f))

-- Own ABCASTs

-- the test of one of the history's messages
abbrev own_of : State → ℕ → Message → Bool
own_of s k m =
    is_atomic (kind_of m.body)
    && (proc_eq m.id.proc (local s k)
    && ((m.id.view == (s.group m.id.group).number)
    && awaits (s.process k) m.id))

-- a member's site has the view
same_tests : (a b v n o m d : Bool) → (m ≡ true → v ≡ true) → n ≡ o → (a && (b && ((v && n) && (m && d)))) ≡ (a && (b && (o && (m && d))))
same_tests a b v n o true d seen same = ap (λ x. a && (b && (x && d))) (ap (λ y. y && n) (seen refl) ∙ same)
same_tests a b v n o false d seen same = ap (λ x. a && (b && x)) (and_none (v && n) ∙ sym (and_none o))

-- one message is awaited on both sides, or on neither
own_same : (r : Records) (s : State) → Fits r s → IsLawful s → (k : ℕ) → IsSome (row_of r.delay.rows (local s k)) → (m : Message) →
    is_own_in r (local s k) m ≡ own_of s k m
own_same r s f l k row m =
    let g : GroupNo = m.id.group in
    let fresh : Bool = not (has_delivered (s.process k) m.id) in
    ap (λ b. is_atomic (kind_of m.body) && (proc_eq m.id.proc (local s k) && b))
    (and_agree (is_current_in r m.id) (is_member (standing_of r.delay (local s k) g) && not (delivered_in r.delay (local s k) m.id))
    (is_member (standing_of r.delay (local s k) g) && fresh)
    (λ is. ap (λ b. is_member (standing_of r.delay (local s k) g) && not b)
    (delivered_there (current_stands (s.group g) m.id.view (sym (current_same r s f l m.id) ∙ is)))))
    ∙ (λ j. is_atomic (kind_of m.body) && (proc_eq m.id.proc (local s k) && (current_same r s f l m.id j
    && (is_member (standing_there r s f k g j) && fresh))))
    ∙ same_tests (is_atomic (kind_of m.body)) (proc_eq m.id.proc (local s k)) (has_view (s.group g)) ((s.group g).number == m.id.view)
    (m.id.view == (s.group g).number) (is_member ((s.process k).standing g)) (not (has_delivered (s.process k) m.id))
    (l.viewed k g)
    (same_bools ((s.group g).number == m.id.view) (m.id.view == (s.group g).number)
    (λ e. eq-eqb m.id.view (s.group g).number (sym (eqb-true (s.group g).number m.id.view e)))
    (λ e. eq-eqb (s.group g).number m.id.view (sym (eqb-true m.id.view (s.group g).number e))))
  where
    delivered_there : (s.group m.id.group).number ≤ m.id.view → delivered_in r.delay (local s k) m.id ≡ has_delivered (s.process k) m.id
    delivered_there stands =
        delivered_rules s.config.groups (gate_of s) (process_named s) r.part.kept r.delay f.processes.delay (local s k) m.id row stands
        ∙ ap (λ p. has_delivered p m.id) (process_here s k)

-- what is spent passes no test, so that it is enough to look among what is kept
kept_any : (P : Message → Type 0) (test : Message → Bool) → ((m : Message) → P m → test m ≡ false) → (got kept : List Message) →
    AreKept P got kept → list_any test kept ≡ list_any test got
kept_any P test fails [] kept none = ap (list_any test) none
kept_any P test fails (m ∷ got) kept (inl (rest, is, more)) =
    ap (list_any test) is ∙ ap (λ b. test m || b) (kept_any P test fails got rest more)
kept_any P test fails (m ∷ got) kept (inr (spent, more)) =
    kept_any P test fails got kept more ∙ sym (ap (λ b. b || list_any test got) (fails m spent))

pub any_message : (t : Message → Bool) (xs : List Received) → list_any (λ (x : Received). t x.message) xs ≡ list_any t (messages xs)
any_message t [] = refl
any_message t (x ∷ xs) = ap (λ b. t x.message || b) (any_message t xs)

any_same : (t u : Message → Bool) → ((m : Message) → t m ≡ u m) → (ms : List Message) → list_any t ms ≡ list_any u ms
any_same t u same [] = refl
any_same t u same (m ∷ ms) = λ j. same m j || any_same t u same ms j

-- a spent message was delivered to each member here
spent_own : (s : State) (k : ℕ) → was_given s.used k ≡ true → (m : Message) → IsSpent s m → own_of s k m ≡ false
spent_own s k given m spent = false_from_ne_true (own_of s k m) (λ is.
    let a = and_parts (is_atomic (kind_of m.body)) _ is in
    let b = and_parts (proc_eq m.id.proc (local s k)) _ a.1 in
    let c = and_parts (m.id.view == (s.group m.id.group).number) (awaits (s.process k) m.id) b.1 in
    let d = and_parts (is_member ((s.process k).standing m.id.group)) (not (has_delivered (s.process k) m.id)) c.1 in
    let has = spent.delivered k given d.0 (eqb-true m.id.view (s.group m.id.group).number c.0) in
    false≢true (sym (ap not has) ∙ d.1))

-- a process awaits an ABCAST of its own on both sides, or on neither
pub awaits_own_there : (r : Records) (s : State) → Fits r s → IsLawful s → (k : ℕ) → IsSome (row_of r.delay.rows (local s k)) →
    awaits_own_in r (local s k) ≡ awaits_own s k
awaits_own_there r s f l k row =
    let given : was_given s.used k ≡ true = row_given s r.delay.rows f.processes.has_row s.used f.processes.rows k row in
    any_message (is_own_in r (local s k)) r.part.kept
    ∙ ap (list_any (is_own_in r (local s k))) f.messages.kept_in
    ∙ any_same (is_own_in r (local s k)) (own_of s k) (own_same r s f l k row) s.kept
    ∙ kept_any (IsSpent s) (own_of s k) (spent_own s k given) s.got s.kept l.spent

-- Messages that are sent

-- a message is received here, the logs that are kept tell of it, and it is sent to the other sites of the view
pub fits_send_message_with : (r : Records) (s : State) → Fits r s → (m : Message) → IsSound m → asked_of s m.id → (orders : List Log) →
    ((g : GroupNo) → LogFits (receiving s m) g (log_of orders g)) →
    Fits (fold (send_data records m.id) (record (receive_in r m) { orders = orders }) (others_in r.acks m.id.group))
    (fold (send_data history m.id) (receiving s m) (others_of s m.id.group))
fits_send_message_with r s f m sound asked orders logs =
    let now : Records = record (receive_in r m) { orders = orders } in
    subst (λ sites. Fits (fold (send_data records m.id) now sites) (fold (send_data history m.id) (receiving s m) (others_of s m.id.group)))
    (sym (f.acks.views m.id.group))
    (fits_sends now (receiving s m) (fits_receive_with r s f m sound orders logs) m.id sound.from_one asked (others_of s m.id.group))

-- a member's next message has its view, and a count from 1 on
pub next_sound : (s : State) (g : GroupNo) (k : ℕ) (content : Body) → IsLawful s → is_member ((s.process k).standing g) ≡ true →
    IsSound (next_message s g k content)
next_sound s g k content l member =
    let t = (s.process k).time in
    record {
      from_one = subst (λ n. 0 < n) (sym (bump_raises t g (local s k))) (omega arith);
      view = bump_leaves_views t g g (local s k) ∙ l.current k g member;
      count = refl;
    }

-- it counts no fewer of any group's
pub raised_counts : (t : ClockList) (g h : GroupNo) (p : Proc) → count_in t h p ≤ count_in (with_bump t g p) h p
raised_counts t g h p = elim (cases_Bool (group_eq h g)) [
  | inl here ↦
      let more = bump_raises t g p in
      subst (λ x. count_in t x p ≤ count_in (with_bump t g p) x p) (sym (same_group h g here)) (omega (arith, more))
  | inr other ↦
      let same = bump_leaves_counts t g h p p (inl (λ e. false≢true (sym other ∙ subst (λ x. group_eq h x ≡ true) e (group_itself h)))) in
      omega (arith, same)
]

-- and is none that is forgotten of the order of the view
pub next_new : (s : State) (g : GroupNo) (k : ℕ) (content : Body) (l : Log) → is_member ((s.process k).standing g) ≡ true →
    TellsOrder s g l → IsNew s g l (next_message s g k content)
next_new s g k content l member tells e among =
    let u : Uid = (next_message s g k content).id in
    false_from_ne_true (uid_eq u (uid_in g (s.group g).number e)) (λ is.
    let same : u ≡ uid_in g (s.group g).number e = same_uid u (uid_in g (s.group g).number e) is in
    let count : count_in (with_bump (s.process k).time g (local s k)) g (local s k) ≡ e.1 = ap (λ (v : Uid). v.count) same in
    let raised = bump_raises (s.process k).time g (local s k) in
    let most = (tells.gone e among).counted k member (sym (ap (λ (v : Uid). v.proc) same)) in
    omega (arith, count, raised, most))

-- that a process here sends a message leaves what is forgotten of an order
base_sent : (orders : List Log) (u : Uid) (stable : ℕ) (b : Body) (g : GroupNo) →
    (log_of (orders_sent orders u stable b) g).base ≡ (log_of orders g).base
base_sent orders u stable (body.Causal payload) g = refl
base_sent orders u stable (body.Atomic payload) g = refl
base_sent orders u stable (body.Order q) g =
    let change : Log → Log = with_hand u.proc (sent_hand u.count stable q) in
    ap (λ (l : Log). l.base) (log_of_change orders u.group g change (λ l. refl))
    ∙ elim (cases_Bool (group_eq u.group g)) [
      | inl same ↦
          ap (λ b. (if b then change (log_of orders u.group) else log_of orders g).base) same
          ∙ ap (λ h. (log_of orders h).base) (same_group u.group g same)
      | inr apart ↦ ap (λ b. (if b then change (log_of orders u.group) else log_of orders g).base) apart
    ]

-- the next message of a member is noted, and is none that is forgotten of its order still
module _ (r : Records) (s : State) (f : Fits r s) (l : IsLawful s) (k : ℕ) (g : GroupNo) (content : Body)
    (member : is_member ((s.process k).standing g) ≡ true) (raises : may_raise (s.process k).time g (local s k) ≡ true) where
  abbrev next : Message
  next = next_message s g k content

  pub next_current : is_of_view s g next.id ≡ true
  next_current =
      and_from (group_eq g g) ((s.group g).number == (s.group g).number) (group_itself g)
      (eq-eqb (s.group g).number (s.group g).number refl)

  most : next.id.count ≤ MAX_NUMBER
  most =
      let p : Proc = local s k in
      let below =
      ltb-true (count_in (s.process k).time g p) MAX_NUMBER (and_parts (nat_lt (count_in (s.process k).time g p) MAX_NUMBER) _ raises).0 in
      subst (λ n. n ≤ MAX_NUMBER) (sym (bump_raises (s.process k).time g p)) (omega (arith, below))

  pub fits_noted : Fits (note_sent_by r (local s k) next) (noting_sent s k next)
  fits_noted =
      fits_sent r s f k (member_row r s f k g member) next (λ h _. raised_counts (s.process k).time g h (local s k)) refl next_current most
      (settled_in r g (s.group g).number (local s k)) (settled_there r s f g (local s k) (site_itself s.here))

  pub noted_new : is_pending (s.group g) ≡ false → IsNew (noting_sent s k next) g (log_of (note_sent_by r (local s k) next).orders g) next
  noted_new none e among =
      next_new s g k content (log_of r.orders g) member ((f.orders g).tells none) e
      (subst (λ n. is_among entry_eq e (take n (order_told s g)) ≡ true)
      (base_sent r.orders next.id (settled_in r g (s.group g).number (local s k)) content g) among)

-- what a member sends is stamped and received, on both sides
pub fits_sent_here : (r : Records) (s : State) → Fits r s → IsLawful s → (k : ℕ) (i : ℕ) (g : GroupNo) →
    slice_get s.config.groups i ≡ Some g → (content : Body) → is_member ((s.process k).standing g) ≡ true →
    may_raise (s.process k).time g (local s k) ≡ true →
    Fits (sent_here records r i k g content) (receiving (noting_sent s k (next_message s g k content)) (next_message s g k content))
fits_sent_here r s f l k i g at content member raises =
    as_written
    (λ x. Fits (sent_here records x i k g content) (receiving (noting_sent s k (next_message s g k content)) (next_message s g k content)))
    r s f written_fits
  where
    written_fits : Fits (written r s) s → Fits (sent_here records (written r s) i k g content)
        (receiving (noting_sent s k (next_message s g k content)) (next_message s g k content))
    written_fits w =
        let x : Records = written r s in
        let p : Proc = local s k in
        let there = record_there x s w i g at in
        let m : Message = next_message s g k content in
        let row = member_row x s w k g member in
        let same : sent_here records x i k g content ≡ receive_in (note_sent_by x p m) m = (λ j.
        receive_in (note_sent_by x p (record {
          id = record {
            group = g;
            view = (there j).here.number;
            proc = p;
            count = count_in (with_bump (time_there x s w k row j) g p) g p;
          };
          times = with_bump (time_there x s w k row j) g p;
          body = content;
        })) (record {
          id = record {
            group = g;
            view = (there j).here.number;
            proc = p;
            count = count_in (with_bump (time_there x s w k row j) g p) g p;
          };
          times = with_bump (time_there x s w k row j) g p;
          body = content;
        })) in
        subst (λ y. Fits y (receiving (noting_sent s k m) m)) (sym same)
        (fits_receive (note_sent_by x p m) (noting_sent s k m) (fits_noted x s w l k g content member raises)
        m (next_sound s g k content l member)
        (eq-eqb (s.group g).number (s.group g).number refl)
        (noted_new x s w l k g content member raises))
