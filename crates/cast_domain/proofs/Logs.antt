-- What is kept of a group's order goes on telling of the order of its view.
-- `logs_receive`, `logs_view`, `logs_close` and `logs_ack` say so of a message, a view, an Install
-- and an acknowledgement. A log rests on few facts of the history: the view, the set-order
-- messages received, what each process has delivered, and what is stable. `log_alike` says that it
-- tells of any history with the same facts; so each lemma shows only what its change adds to
-- these.
use Rattle.std.proofs.Common.{◌≡◌, ℕ, ◌+◌, ◌<◌, ◌≤◌, Bool, true, false, cond, List, [], ◌∷◌, ◌++◌, map}
use Rattle.std.proofs.Common.{Contains, Option, Some, None, refl, sym, ap, subst, ◌∙◌, inl, inr, arith}
use Rattle.std.specs.Prelude.{◌&&◌, ◌==◌, if◌then◌else◌, take, filter}
use Rattle.std.specs.List.{flat_map, fold}
use Rattle.std.proofs.lemmas.Bool.{cases_Bool, cases_lt, false≢true, false_from_ne_true}
use Rattle.std.proofs.lemmas.Bool.{and_parts, and_from, or_left, or_right, eqb-true, eq-eqb}
use Rattle.std.proofs.lemmas.List.{append-nil}
use Rattle.std.proofs.lemmas.List.Elements.{filter-append}
use Rattle.std.proofs.lemmas.List.Folds.{list_any-append}
use Rattle.std.proofs.lemmas.List.Concat.{flat_map-append}
use Rattle.cast_types.specs.declared.names.SiteNo.{SiteNo}
use Rattle.cast_types.specs.declared.names.GroupNo.{GroupNo}
use Rattle.cast_types.specs.declared.names.Proc.{Proc}
use Rattle.cast_types.specs.declared.names.Uid.{Uid}
use Rattle.cast_types.specs.declared.limits.TheConstants.{MAX_NUMBER}
use Rattle.cast_types.specs.Names.{Entry, site_eq, group_eq, proc_eq, uid_eq, entry_eq, is_order, uid_in, entry_of}
use Rattle.cast_types.specs.Sets.{is_among}
use Rattle.cast_types.proofs.Orders.{same_group, same_proc, same_uid, group_itself, uid_itself}
use Rattle.cast_message.specs.declared.message.Body.{Body}
use Rattle.cast_message.specs.declared.message.Body.TheVariants as body
use Rattle.cast_message.specs.declared.message.Message.{Message}
use Rattle.cast_message.specs.Bodies.{kind_of}
use Rattle.cast_message.specs.Membership.{Membership}
use Rattle.cast_message.specs.Placement.{Placement}
use Rattle.cast_message.specs.Tail.{Tail}
use Rattle.cast_types.specs.Counts.{is_within}
use Rattle.cast_stable.specs.Stable.{Acked, has_acked, stable_upto}
use Rattle.cast_stable.proofs.Greatest.{stable_greatest}
use Rattle.cast_ready.specs.Ready.{has_delivered}
use Rattle.cast_types.proofs.Contains.{contains_here, contains_later}
use Rattle.cast_order.specs.Order.{Facts, facts_of, known_order, Listing, closed_order}
use Rattle.cast_order.specs.Hand.{Hand, note_placed, hold_from, new_hand, FitsHand}
use Rattle.cast_order.specs.Log.{Log, length_of, new_log, log_of, but_log, change_log, closed_by}
use Rattle.cast_order.specs.Log.{with_facts, settle_log, with_placement, place_of, hand_here, with_hand}
use Rattle.cast_order.specs.Fits.{Fits as OrderFits}
use Rattle.cast_order.specs.Fits.{FitsClosed}
use Rattle.cast_order.proofs.Meanings.{new_fits as order_new_fits, with_placement_group, learn_fits, learn_begins, hand_fits, more_fits}
use Rattle.cast_order.proofs.Meanings.{at_start}
use Rattle.cast_order.proofs.Closed.{close_fits, closed_learns, closed_more}
use Rattle.cast_order.proofs.Hands.{place_fits, hand_of_change, learnt_each}
use Rattle.cast_order.proofs.Logs.{log_of_change, log_of_forget}
use Rattle.cast_view.specs.declared.member.Pending.{Pending}
use Rattle.cast_view.specs.MemberSide.{MemberSide, no_group, is_pending, is_process, holder_of}
use Rattle.cast_view.specs.MemberSide.{holder_at, members_of, with_pending, with_view}
use Rattle.cast_view.specs.Sites.{other_sites}
use Rattle.cast_view.specs.Home.{is_empty}
use Rattle.cast_rules.specs.Acts.{Act}
use Rattle.cast_rules.specs.Acts.Act.{Sent, Delivered, Entered, Left}
use Rattle.cast_rules.specs.State.{State, local, is_received, others_of, noting_ack, set_group, receiving}
use Rattle.cast_rules.specs.Order.{told_by, is_of_view, facts_in, order_told, last_place, token_sent}
use Rattle.cast_rules.specs.Order.{token_told, token_after, token_of, listed_by, lists_of, abcasts_delivered}
use Rattle.cast_rules.specs.Entering.{pending_install}
use Rattle.cast_domain.specs.PartCalls.{learn_in}
use Rattle.cast_domain.specs.ViewCalls.{holding_from}
use Rattle.cast_rules.specs.Lawful.{IsOfReached, IsTraced}
use Rattle.cast_domain.specs.Fits.{process_named, settled_of, goes_on, has_passed, IsOver, TellsHand, TellsOrder, AreOwn, LogFits}
use Rattle.cast_domain.proofs.Hands.{own_changed, own_with_placement}
use Rattle.cast_domain.proofs.Over.{StaysOver, all_stay, over_alike, none_over, over_received, some_forgotten}

-- Parts of a history that the order of a view is made of

-- an id of a view of a group
abbrev is_in : ℕ → GroupNo → Uid → Bool
is_in n g u = group_eq u.group g && (u.view == n)

abbrev facts_as : ℕ → GroupNo → List Message → Facts
facts_as n g got = flat_map (λ m. told_by m.body) (filter (λ m. is_in n g m.id) got)

abbrev viewing : Option Membership → MemberSide
viewing view = record no_group { view = view }

abbrev delivered_as : ℕ → GroupNo → List Uid → List Entry
delivered_as n g ids = map entry_of (filter (is_in n g) ids)

abbrev token_as : SiteNo → Option Membership → ℕ → GroupNo → ℕ → List Act → Option ℕ
token_as here view n g k acts =
    fold (token_after (is_in n g) (record { site = here; serial = k }))
    (if is_process (record { site = here; serial = k }) (holder_of (viewing view)) then Some 1 else None) acts

abbrev lists_as : ℕ → GroupNo → List Act → Listing
lists_as n g acts = flat_map (listed_by (is_in n g)) acts

-- a hand tells of a process if it tells of that order, and of what the process is said to have done
pub hand_made : (t : State) (g : GroupNo) (k : ℕ) (h : Hand) (order : List Entry) (token : Option ℕ) (delivered : List Entry)
    (lists : Listing) → order_told t g ≡ order → token_of t g k ≡ token → abcasts_delivered t g k ≡ delivered → lists_of t g k ≡ lists →
    (stable : ℕ) → stable ≤ settled_of t g (local t k) → FitsHand order token delivered lists stable h →
    ((x : ℕ × ℕ) → Contains lists x → x.0 ≤ MAX_NUMBER) → TellsHand t g k h
hand_made t g k h order token delivered lists at_order at_token at_delivered at_lists stable reached fits counted = record {
  stable = stable;
  reached = reached;
  fits = subst (λ (a : List Entry × Option ℕ × List Entry × Listing). FitsHand a.0 a.1 a.2 a.3 stable h)
      (λ i. (sym at_order i, sym at_token i, sym at_delivered i, sym at_lists i)) fits;
  counted = λ x in_it. counted x (subst (λ ls. Contains ls x) at_lists in_it);
}

-- or of one that did the same, of whose messages no fewer are stable
pub hand_alike : (s t : State) (g : GroupNo) (k : ℕ) (h : Hand) → order_told t g ≡ order_told s g → token_of t g k ≡ token_of s g k →
    abcasts_delivered t g k ≡ abcasts_delivered s g k → lists_of t g k ≡ lists_of s g k →
    settled_of s g (local s k) ≤ settled_of t g (local t k) → TellsHand s g k h → TellsHand t g k h
hand_alike s t g k h order token delivered lists settle_log f =
    hand_made t g k h (order_told s g) (token_of s g k) (abcasts_delivered s g k) (lists_of s g k) order token delivered lists f.stable
    (let reached = f.reached in omega (arith, reached, settle_log)) f.fits f.counted

-- the hand of a serial's process, where the site is the same
at_site : (l : Log) (k : ℕ) (here there : SiteNo) → here ≡ there →
    hand_here l (record { site = here; serial = k }) ≡ hand_here l (record { site = there; serial = k })
at_site l k here there same = ap (λ h. hand_here l (record { site = h; serial = k })) same

-- a log tells of these facts, if they are those of the history
pub tells_made : (t : State) (g : GroupNo) (l : Log) (facts : Facts) → facts_in t g ≡ facts →
    OrderFits facts (goes_on t g) (has_passed t g) l → ((k : ℕ) → TellsHand t g k (hand_here l (local t k))) →
    ((e : Entry) → is_among entry_eq e (take l.base (known_order facts)) ≡ true → IsOver t g e) → TellsOrder t g l
tells_made t g l facts at_facts fits hands gone = record {
  fits = subst (λ fs. OrderFits fs (goes_on t g) (has_passed t g) l) (sym at_facts) fits;
  hands = hands;
  gone = λ e among. gone e (sym (ap (λ fs. is_among entry_eq e (take l.base (known_order fs))) at_facts) ∙ among);
}

-- what is forgotten stays over
gone_on : (s t : State) (g : GroupNo) (l : Log) → StaysOver s t g l →
    ((e : Entry) → is_among entry_eq e (take l.base (order_told s g)) ≡ true → IsOver s g e) → (e : Entry) →
    is_among entry_eq e (take l.base (order_told s g)) ≡ true → IsOver t g e
gone_on s t g l over gone e among = over (some_forgotten l.base (order_told s g) e among) e (gone e among)

-- a member of a group here was one before
abbrev pub WereMembers : State → State → GroupNo → Type 0
WereMembers s t g = (p : Proc) → goes_on t g p ≡ true → goes_on s g p ≡ true

-- what a history has of a group's order is the same in another: its view, what was received, and what processes did in it; none may be a
-- member that was not, they may have delivered more, more may be stable, and what is over stays so
pub record IsAlike (s t : State) (g : GroupNo) (l : Log) : Type 0 where
  pub here : t.here ≡ s.here
  pub view : (t.group g).view ≡ (s.group g).view
  pub number : (t.group g).number ≡ (s.group g).number
  pub got : t.got ≡ s.got
  pub tokens : (k : ℕ) → token_of t g k ≡ token_of s g k
  pub lists : (k : ℕ) → lists_of t g k ≡ lists_of s g k
  pub delivered : (k : ℕ) → abcasts_delivered t g k ≡ abcasts_delivered s g k
  pub settled : (k : ℕ) → settled_of s g (local s k) ≤ settled_of t g (local t k)
  pub more : (p : Proc) (u : Uid) → has_delivered (process_named s p) u ≡ true → has_delivered (process_named t p) u ≡ true

-- so what each process did stands
hands_alike : (s t : State) (g : GroupNo) (l : Log) → IsAlike s t g l → ((k : ℕ) → TellsHand s g k (hand_here l (local s k))) → (k : ℕ) →
    TellsHand t g k (hand_here l (local t k))
hands_alike s t g l a hands k =
    subst (TellsHand t g k) (sym (at_site l k t.here s.here a.here))
    (hand_alike s t g k (hand_here l (local s k)) (λ i. known_order (facts_as (a.number i) g (a.got i))) (a.tokens k) (a.delivered k)
    (a.lists k) (a.settled k) (hands k))

tokens_alike : (s t : State) (g : GroupNo) (l : Log) → IsAlike s t g l → LogFits s g l → (k : ℕ) →
    (hand_here l (local t k)).first ≡ token_of t g k
tokens_alike s t g l a f k = ap (λ (h : Hand). h.first) (at_site l k t.here s.here a.here) ∙ f.tokens k ∙ sym (a.tokens k)

passed_alike : (s t : State) (g : GroupNo) (l : Log) → IsAlike s t g l → (p : Proc) (e : Entry) → has_passed s g p e ≡ true →
    has_passed t g p e ≡ true
passed_alike s t g l a p e is =
    ap (λ n. has_delivered (process_named t p) (uid_in g n e)) a.number ∙ a.more p (uid_in g (s.group g).number e) is

pub tells_alike : (s t : State) (g : GroupNo) (l : Log) → IsAlike s t g l → WereMembers s t g → StaysOver s t g l → TellsOrder s g l →
    TellsOrder t g l
tells_alike s t g l a were over f =
    tells_made t g l (facts_in s g) (λ i. facts_as (a.number i) g (a.got i))
    (more_fits (facts_in s g) (goes_on s g) (has_passed s g) l f.fits (goes_on t g) (has_passed t g) were (passed_alike s t g l a))
    (hands_alike s t g l a f.hands) (gone_on s t g l over f.gone)

-- the same of a log, and of one that is closed, where an Install waits as before
pub log_alike : (s t : State) (g : GroupNo) (l : Log) → IsAlike s t g l → is_pending (t.group g) ≡ is_pending (s.group g) →
    t.closed g ≡ s.closed g → WereMembers s t g → StaysOver s t g l → LogFits s g l → LogFits t g l
log_alike s t g l a waits closed were over f = record {
  tokens = tokens_alike s t g l a f;
  own = subst (λ here. AreOwn here l.hands) (sym a.here) f.own;
  tells = λ none. tells_alike s t g l a were over (f.tells (sym waits ∙ none));
  closed = λ waiting.
      subst (λ order. FitsClosed order (goes_on t g) (has_passed t g) l) (sym closed)
      (closed_more (s.closed g) (goes_on s g) (has_passed s g) l (f.closed (sym waits ∙ waiting)) (goes_on t g) (has_passed t g)
      were (passed_alike s t g l a));
}

-- or where any may be a member, if each is to go through all of the order
pub log_starts : (s t : State) (g : GroupNo) (l : Log) → IsAlike s t g l → is_pending (t.group g) ≡ false → is_pending (s.group g) ≡ false →
    ((p : Proc) → place_of l p ≡ 0) → LogFits s g l → LogFits t g l
log_starts s t g l a unclosed opened none before = let f : TellsOrder s g l = before.tells opened in record {
  tokens = tokens_alike s t g l a before;
  own = subst (λ here. AreOwn here l.hands) (sym a.here) before.own;
  closed = λ waiting. absurd (false≢true (sym unclosed ∙ waiting));
  tells = λ _. tells_made t g l (facts_in s g) (λ i. facts_as (a.number i) g (a.got i))
      (more_fits (facts_in s g) (goes_on t g) (has_passed s g) l
      (at_start (facts_in s g) (goes_on s g) (has_passed s g) l f.fits none (goes_on t g))
      (goes_on t g) (has_passed t g) (λ p is. is) (passed_alike s t g l a))
      (hands_alike s t g l a f.hands)
      (λ e among.
      let some = some_forgotten l.base (order_told s g) e among in
      let first = none (record { site = s.here; serial = 0 }) in
      absurd (omega (arith, some, first)));
}

-- what is settled is the same where the group's view and the acknowledgements are
abbrev settled_as : SiteNo → Option Membership → ℕ → GroupNo → List Acked → ℕ → ℕ
settled_as here view n g acks k =
    if is_empty (other_sites here (members_of (viewing view))) then MAX_NUMBER
    else stable_upto acks (other_sites here (members_of (viewing view))) g n (record { site = here; serial = k })

-- a history where the view, what was received and noted, and what is acknowledged, are the same
pub same_alike : (s t : State) (g : GroupNo) (l : Log) → t.here ≡ s.here → (t.group g).view ≡ (s.group g).view →
    (t.group g).number ≡ (s.group g).number → t.got ≡ s.got → ((k : ℕ) → t.abcasts k ≡ s.abcasts k) → ((k : ℕ) → t.acts k ≡ s.acts k) →
    t.acks ≡ s.acks → ((p : Proc) (u : Uid) → has_delivered (process_named s p) u ≡ true → has_delivered (process_named t p) u ≡ true) →
    IsAlike s t g l
same_alike s t g l here view number got abcasts acts acks more = record {
  here = here;
  view = view;
  number = number;
  got = got;
  tokens = λ k i. token_as (here i) (view i) (number i) g k (acts k i);
  lists = λ k i. lists_as (number i) g (acts k i);
  delivered = λ k i. delivered_as (number i) g (abcasts k i);
  settled = λ k. let same : settled_of t g (local t k) ≡ settled_of s g (local s k) =
      λ i. settled_as (here i) (view i) (number i) g (acks i) k in omega (arith, same);
  more = more;
}

-- A message that is received

pub filter_skips : {A : Type 0} (t : A → Bool) (xs : List A) (x : A) → t x ≡ false → filter t (xs ++ x ∷ []) ≡ filter t xs
filter_skips t xs x fails = filter-append t xs (x ∷ []) ∙ ap (λ b. filter t xs ++ cond b (x ∷ []) []) fails ∙ append-nil (filter t xs)

pub filter_takes : {A : Type 0} (t : A → Bool) (xs : List A) (x : A) → t x ≡ true → filter t (xs ++ x ∷ []) ≡ filter t xs ++ x ∷ []
filter_takes t xs x passes = filter-append t xs (x ∷ []) ∙ ap (λ b. filter t xs ++ cond b (x ∷ []) []) passes

-- what a message of another view or group tells is not of the group's view
facts_skip : (s : State) (g : GroupNo) (m : Message) → is_of_view s g m.id ≡ false → facts_in (receiving s m) g ≡ facts_in s g
facts_skip s g m other = ap (flat_map (λ x. told_by x.body)) (filter_skips (λ x. is_of_view s g x.id) s.got m other)

-- what one of the view tells comes last
pub facts_push : (s : State) (g : GroupNo) (m : Message) → is_of_view s g m.id ≡ true →
    facts_in (receiving s m) g ≡ facts_in s g ++ told_by m.body
facts_push s g m current =
    ap (flat_map (λ x. told_by x.body)) (filter_takes (λ x. is_of_view s g x.id) s.got m current)
    ∙ flat_map-append (λ x. told_by x.body) (filter (λ x. is_of_view s g x.id) s.got) (m ∷ [])
    ∙ ap (λ fs. facts_in s g ++ fs) (append-nil (told_by m.body))

-- a message is none that is forgotten of an order
abbrev pub IsNew : State → GroupNo → Log → Message → Type 0
IsNew s g l m =
    (e : Entry) → is_among entry_eq e (take l.base (order_told s g)) ≡ true → uid_eq m.id (uid_in g (s.group g).number e) ≡ false

-- what is forgotten is over still once it is received
gone_received : (s : State) (g : GroupNo) (m : Message) (l : Log) → IsNew s g l m → TellsOrder s g l → (e : Entry) →
    is_among entry_eq e (take l.base (order_told s g)) ≡ true → IsOver (receiving s m) g e
gone_received s g m l new f e among = over_received s m g e (new e among) (f.gone e among)

-- one that was not received is none
pub new_unreceived : (s : State) (g : GroupNo) (m : Message) (l : Log) → is_received s m.id ≡ false → LogFits s g l →
    is_pending (s.group g) ≡ false → IsNew s g l m
new_unreceived s g m l fresh f none e among = none_over s g m.id fresh e ((f.tells none).gone e among)

-- nor is one of another group, or another view
new_apart : (s : State) (g : GroupNo) (m : Message) (l : Log) → is_of_view s g m.id ≡ false → IsNew s g l m
new_apart s g m l other e among = false_from_ne_true (uid_eq m.id (uid_in g (s.group g).number e)) (λ same.
    let u : Uid = uid_in g (s.group g).number e in
    let current : is_of_view s g u ≡ true =
    and_from (group_eq g g) ((s.group g).number == (s.group g).number) (group_itself g)
    (eq-eqb (s.group g).number (s.group g).number refl) in
    false≢true (sym other ∙ ap (is_of_view s g) (same_uid m.id u same) ∙ current))

no_less : (n : ℕ) → n ≤ n
no_less n = omega arith

-- a message of another group, or another view
tells_apart : (s : State) (g : GroupNo) (m : Message) (l : Log) → is_of_view s g m.id ≡ false → TellsOrder s g l →
    TellsOrder (receiving s m) g l
tells_apart s g m l other f =
    tells_made (receiving s m) g l (facts_in s g) (facts_skip s g m other) f.fits
    (λ k. hand_alike s (receiving s m) g k (hand_here l (local s k)) (ap known_order (facts_skip s g m other))
    refl refl refl (no_less (settled_of s g (local s k))) (f.hands k))
    (gone_received s g m l (new_apart s g m l other) f)

pub log_apart : (s : State) (g : GroupNo) (m : Message) (l : Log) → is_of_view s g m.id ≡ false → LogFits s g l →
    LogFits (receiving s m) g l
log_apart s g m l other f = record {
  tokens = f.tokens;
  own = f.own;
  tells = λ none. tells_apart s g m l other (f.tells none);
  closed = f.closed;
}

pub other_group : (s : State) (h : GroupNo) (m : Message) → group_eq m.id.group h ≡ false → is_of_view s h m.id ≡ false
other_group s h m apart = ap (λ b. b && (m.id.view == (s.group h).number)) apart

-- a message that tells nothing of an order
tells_silent : (s : State) (g : GroupNo) (m : Message) (l : Log) → told_by m.body ≡ [] → (is_of_view s g m.id ≡ true → IsNew s g l m) →
    TellsOrder s g l → TellsOrder (receiving s m) g l
tells_silent s g m l silent new f = elim (cases_Bool (is_of_view s g m.id)) [
  | inr other ↦ tells_apart s g m l other f
  | inl current ↦
      let same : facts_in (receiving s m) g ≡ facts_in s g =
      facts_push s g m current ∙ ap (λ fs. facts_in s g ++ fs) silent ∙ append-nil (facts_in s g) in
      tells_made (receiving s m) g l (facts_in s g) same f.fits
      (λ k. hand_alike s (receiving s m) g k (hand_here l (local s k)) (ap known_order same)
      refl refl refl (no_less (settled_of s g (local s k))) (f.hands k))
      (gone_received s g m l (new current) f)
]

log_silent : (s : State) (g : GroupNo) (m : Message) (l : Log) → told_by m.body ≡ [] →
    (is_of_view s g m.id ≡ true → is_pending (s.group g) ≡ false → IsNew s g l m) → LogFits s g l → LogFits (receiving s m) g l
log_silent s g m l silent new f = record {
  tokens = f.tokens;
  own = f.own;
  tells = λ none. tells_silent s g m l silent (λ current. new current none) (f.tells none);
  closed = f.closed;
}

-- nothing of an order is forgotten as one is learnt
pub with_placement_base : (q : Placement) (l : Log) → (with_placement q l).base ≡ l.base
with_placement_base q l =
    elim l.closed as (λ b. (if b then l else settle_log (record l { later = with_facts (length_of l) l.later (facts_of q) })).base
    ≡ l.base) [ true ↦ refl | false ↦ refl ]

-- so what is forgotten is what was
pub gone_learnt : (s : State) (m : Message) (q : Placement) (l : Log) →
    OrderFits (facts_in s m.id.group) (goes_on s m.id.group) (has_passed s m.id.group) l →
    ((e : Entry) → is_among entry_eq e (take l.base (order_told s m.id.group)) ≡ true → IsOver (receiving s m) m.id.group e) → (e : Entry) →
    is_among entry_eq e (take (with_placement q l).base (known_order (facts_in s m.id.group ++ facts_of q))) ≡ true →
    IsOver (receiving s m) m.id.group e
gone_learnt s m q l fits gone e among =
    let g : GroupNo = m.id.group in
    let begins = learn_begins (facts_in s g) (goes_on s g) (has_passed s g) l fits q in
    gone e (sym (ap (λ n. is_among entry_eq e (take n (known_order (facts_in s g ++ facts_of q)))) (with_placement_base q l)
    ∙ ap (is_among entry_eq e) begins) ∙ among)

-- a set-order message
tells_learns : (s : State) (m : Message) (q : Placement) (l : Log) → m.body ≡ body.Order q → is_of_view s m.id.group m.id ≡ true →
    IsNew s m.id.group l m → TellsOrder s m.id.group l → TellsOrder (receiving s m) m.id.group (with_placement q l)
tells_learns s m q l is current new f =
    let g : GroupNo = m.id.group in
    let at : facts_in (receiving s m) g ≡ facts_in s g ++ facts_of q = facts_push s g m current ∙ ap (λ b. facts_in s g ++ told_by b) is in
    let (ids, grown, each) = learnt_each (facts_in s g) (goes_on s g) (has_passed s g) l f.fits q in
    tells_made (receiving s m) g (with_placement q l) (facts_in s g ++ facts_of q) at
    (learn_fits (facts_in s g) (goes_on s g) (has_passed s g) l f.fits q)
    (λ k.
    let h : Hand = hand_here l (local s k) in
    let before : TellsHand s g k h = f.hands k in
    subst (TellsHand (receiving s m) g k) (sym (each (local s k)))
    (hand_made (receiving s m) g k (note_placed ids h) (order_told s g ++ ids) (token_of s g k) (abcasts_delivered s g k) (lists_of s g k)
    (ap known_order at ∙ grown) refl refl refl before.stable before.reached
    (place_fits (order_told s g) (token_of s g k) (abcasts_delivered s g k) (lists_of s g k) before.stable h before.fits ids)
    before.counted))
    (gone_learnt s m q l f.fits (gone_received s g m l new f))

-- which processes hold the token is the same
tokens_learn : (s : State) (m : Message) (q : Placement) (l : Log) → LogFits s m.id.group l → (k : ℕ) →
    (hand_here (with_placement q l) (local s k)).first ≡ token_of s m.id.group k
tokens_learn s m q l f k = elim (cases_Bool (is_pending (s.group g))) [
  | inl waits ↦
      ap (λ x. (hand_here x (local s k)).first) (closed_learns (s.closed g) (goes_on s g) (has_passed s g) l (f.closed waits) q)
      ∙ f.tokens k
  | inr none ↦
      let (ids, grown, each) = learnt_each (facts_in s g) (goes_on s g) (has_passed s g) l (f.tells none).fits q in
      ap (λ (h : Hand). h.first) (each (local s k)) ∙ f.tokens k
]
  where
    g : GroupNo
    g = m.id.group

-- one that is closed stays
closed_stays : (s : State) (m : Message) (q : Placement) (l : Log) →
    FitsClosed (s.closed m.id.group) (goes_on s m.id.group) (has_passed s m.id.group) l →
    FitsClosed ((receiving s m).closed m.id.group) (goes_on (receiving s m) m.id.group) (has_passed (receiving s m) m.id.group)
    (with_placement q l)
closed_stays s m q l f =
    let g : GroupNo = m.id.group in
    subst (λ x. FitsClosed (s.closed g) (goes_on s g) (has_passed s g) x)
    (sym (closed_learns (s.closed g) (goes_on s g) (has_passed s g) l f q)) f

log_learns : (s : State) (m : Message) (q : Placement) (l : Log) → m.body ≡ body.Order q → is_of_view s m.id.group m.id ≡ true →
    (is_pending (s.group m.id.group) ≡ false → IsNew s m.id.group l m) → LogFits s m.id.group l →
    LogFits (receiving s m) m.id.group (with_placement q l)
log_learns s m q l is current new f = record {
  tokens = tokens_learn s m q l f;
  own = own_with_placement s.here q l f.own;
  tells = λ none. tells_learns s m q l is current (new none) (f.tells none);
  closed = λ waits. closed_stays s m q l (f.closed waits);
}

-- each log tells of its order still once a message of the current view of its group is received, which is none that is
-- forgotten, but where an Install waits
pub logs_receive : (s : State) (m : Message) (orders : List Log) → ((g : GroupNo) → LogFits s g (log_of orders g)) →
    m.id.view == (s.group m.id.group).number ≡ true →
    (is_pending (s.group m.id.group) ≡ false → IsNew s m.id.group (log_of orders m.id.group) m) → (h : GroupNo) →
    LogFits (receiving s m) h (log_of (learn_in orders m.id.group m.body) h)
logs_receive s m orders fits current new h = at m.body refl
  where
    now : is_of_view s m.id.group m.id ≡ true
    now = ap (λ b. b && (m.id.view == (s.group m.id.group).number)) (group_itself m.id.group) ∙ current

    new_here : is_of_view s h m.id ≡ true → is_pending (s.group h) ≡ false → IsNew s h (log_of orders h) m
    new_here at none =
        let same : m.id.group ≡ h = same_group m.id.group h (and_parts (group_eq m.id.group h) (m.id.view == (s.group h).number) at).0 in
        subst (λ x. is_pending (s.group x) ≡ false → IsNew s x (log_of orders x) m) same new none

    at : (b : Body) → m.body ≡ b → LogFits (receiving s m) h (log_of (learn_in orders m.id.group b) h)
    at (body.Causal payload) is = log_silent s h m (log_of orders h) (ap told_by is) new_here (fits h)
    at (body.Atomic payload) is = log_silent s h m (log_of orders h) (ap told_by is) new_here (fits h)
    at (body.Order q) is =
        subst (LogFits (receiving s m) h) (sym (log_of_change orders m.id.group h (with_placement q) (with_placement_group q)))
        (elim (cases_Bool (group_eq m.id.group h)) [
          | inl same ↦
              subst (LogFits (receiving s m) h)
              (sym (ap (λ b. if b then with_placement q (log_of orders m.id.group) else log_of orders h) same))
              (subst (λ x. LogFits (receiving s m) x (with_placement q (log_of orders m.id.group))) (same_group m.id.group h same)
              (log_learns s m q (log_of orders m.id.group) is now new (fits m.id.group)))
          | inr apart ↦
              subst (LogFits (receiving s m) h)
              (sym (ap (λ b. if b then with_placement q (log_of orders m.id.group) else log_of orders h) apart))
              (log_apart s h m (log_of orders h) (other_group s h m apart) (fits h))
        ])

-- A new view

all_fail : {A : Type 0} (t : A → Bool) (xs : List A) → ((x : A) → Contains xs x → t x ≡ false) → filter t xs ≡ []
all_fail t [] fails = refl
all_fail t (x ∷ xs) fails =
    ap (λ b. cond b (x ∷ filter t xs) (filter t xs)) (fails x (contains_here x xs))
    ∙ all_fail t xs (λ y in_it. fails y (contains_later y x xs in_it))

ids_fail : (t : Uid → Bool) (us : List Uid) → ((u : Uid) → is_among uid_eq u us ≡ true → t u ≡ false) → filter t us ≡ []
ids_fail t [] fails = refl
ids_fail t (u ∷ us) fails =
    ap (λ b. cond b (u ∷ filter t us) (filter t us)) (fails u (or_left (uid_eq u u) (is_among uid_eq u us) (uid_itself u)))
    ∙ ids_fail t us (λ v in_it. fails v (or_right (uid_eq v u) (is_among uid_eq v us) in_it))

-- what a process did is of no such message
abbrev IsApart : (Uid → Bool) → Act → Type 0
IsApart is_of (Sent m) = is_of m.id ≡ false
IsApart is_of (Delivered m) = is_of m.id ≡ false
IsApart is_of (Entered g view cut) = Unit {0}
IsApart is_of (Left g) = Unit {0}

token_stays : (is_of : Uid → Bool) (p : Proc) (token : Option ℕ) (a : Act) → IsApart is_of a → token_after is_of p token a ≡ token
token_stays is_of p token (Sent m) apart = ap (λ b. if b then token_sent token m.body else token) apart
token_stays is_of p token (Delivered m) apart = ap (λ b. if b then token_told p token m.body else token) apart
token_stays is_of p token (Entered g view cut) apart = refl
token_stays is_of p token (Left g) apart = refl

tokens_stay : (is_of : Uid → Bool) (p : Proc) (token : Option ℕ) (acts : List Act) → ((a : Act) → Contains acts a → IsApart is_of a) →
    fold (token_after is_of p) token acts ≡ token
tokens_stay is_of p token [] apart = refl
tokens_stay is_of p token (a ∷ acts) apart =
    ap (λ x. fold (token_after is_of p) x acts) (token_stays is_of p token a (apart a (contains_here a acts)))
    ∙ tokens_stay is_of p token acts (λ x in_it. apart x (contains_later x a acts in_it))

list_stays : (is_of : Uid → Bool) (a : Act) → IsApart is_of a → listed_by is_of a ≡ []
list_stays is_of (Sent m) apart = ap (λ b. if b && is_order (kind_of m.body) then (m.id.count, last_place m.body) ∷ [] else []) apart
list_stays is_of (Delivered m) apart = refl
list_stays is_of (Entered g view cut) apart = refl
list_stays is_of (Left g) apart = refl

lists_stay : (is_of : Uid → Bool) (acts : List Act) → ((a : Act) → Contains acts a → IsApart is_of a) → flat_map (listed_by is_of) acts ≡ []
lists_stay is_of [] apart = refl
lists_stay is_of (a ∷ acts) apart =
    ap (λ xs. xs ++ flat_map (listed_by is_of) acts) (list_stays is_of a (apart a (contains_here a acts)))
    ∙ lists_stay is_of acts (λ x in_it. apart x (contains_later x a acts in_it))

-- what was reached before is not of a later view
old_view : (s : State) (h : GroupNo) (n : ℕ) (u : Uid) → u.view ≤ (s.group u.group).number → (s.group h).number < n → is_in n h u ≡ false
old_view s h n u reached later = false_from_ne_true (is_in n h u) (λ is.
    let parts = and_parts (group_eq u.group h) (u.view == n) is in
    let here : (s.group u.group).number ≡ (s.group h).number = ap (λ g. (s.group g).number) (same_group u.group h parts.0) in
    let same = eqb-true u.view n parts.1 in
    omega (arith, here, same, reached, later))

old_act : (s : State) (h : GroupNo) (n : ℕ) (a : Act) → IsOfReached s a → (s.group h).number < n → IsApart (is_in n h) a
old_act s h n (Sent m) reached later = old_view s h n m.id reached later
old_act s h n (Delivered m) reached later = old_view s h n m.id reached later
old_act s h n (Entered g view cut) reached later = tt
old_act s h n (Left g) reached later = tt

-- a new log of a view that names a holder, which is a process here, or none is
abbrev pub held_log : GroupNo → Option Proc → Log
held_log g None = new_log g
held_log g (Some p) = with_hand p (hold_from 1) (new_log g)

held_base : (g : GroupNo) (o : Option Proc) → (held_log g o).base ≡ 0
held_base g None = refl
held_base g (Some p) = refl

-- nothing of its order is kept, and nobody passed anything
abbrev pub IsFresh : Log → Type 0
IsFresh l = (l.base ≡ 0) × ((p : Proc) → place_of l p ≡ 0)

pub held_fresh : (g : GroupNo) (o : Option Proc) → IsFresh (held_log g o)
held_fresh g None = (refl, λ p. refl)
held_fresh g (Some q) = (refl, λ p. refl)

held_fits : (g : GroupNo) (o : Option Proc) (goes : Proc → Bool) (has : Proc → Entry → Bool) → OrderFits [] goes has (held_log g o)
held_fits g None goes has = order_new_fits g goes has
held_fits g (Some p) goes has = hand_fits [] goes has (new_log g) (order_new_fits g goes has) p (hold_from 1)

abbrev held_hand : Proc → Option ℕ → Hand
held_hand p token = record (new_hand p) { first = token }

held_tells : (p : Proc) (token : Option ℕ) → FitsHand [] token [] [] 0 (held_hand p token)
held_tells p token = record { first = refl; waiting = refl; lists = λ n le. refl }

-- each process has the hand that the view gives it
held_of : (here : SiteNo) (k : ℕ) (g : GroupNo) (o : Option Proc) →
    hand_here (held_log g (elim o [ Some p ↦ if site_eq p.site here then Some p else None | None ↦ None ]))
    (record { site = here; serial = k })
    ≡ held_hand (record { site = here; serial = k }) (if is_process (record { site = here; serial = k }) o then Some 1 else None)
held_of here k g None = refl
held_of here k g (Some q) = elim (cases_Bool (site_eq q.site here)) [
  | inl at ↦
      ap (λ b. hand_here (held_log g (if b then Some q else None)) (record { site = here; serial = k })) at
      ∙ hand_of_change [] q (record { site = here; serial = k }) (hold_from 1) (λ h. refl)
      ∙ elim (cases_Bool (proc_eq q (record { site = here; serial = k }))) [
        | inl same ↦
            ap (λ b. if b then hold_from 1 (new_hand q) else new_hand (record { site = here; serial = k })) same
            ∙ ap (λ p. hold_from 1 (new_hand p)) (same_proc q (record { site = here; serial = k }) same)
            ∙ ap (λ b. held_hand (record { site = here; serial = k }) (if b then Some 1 else None)) (sym same)
        | inr other ↦
            ap (λ b. if b then hold_from 1 (new_hand q) else new_hand (record { site = here; serial = k })) other
            ∙ ap (λ b. held_hand (record { site = here; serial = k }) (if b then Some 1 else None)) (sym other)
      ]
  | inr away ↦
      ap (λ b. hand_here (held_log g (if b then Some q else None)) (record { site = here; serial = k })) away
      ∙ ap (λ b. held_hand (record { site = here; serial = k }) (if b && (q.serial == k) then Some 1 else None)) (sym away)
]

-- and none other has one
held_own : (here : SiteNo) (g : GroupNo) (o : Option Proc) →
    AreOwn here (held_log g (elim o [ Some p ↦ if site_eq p.site here then Some p else None | None ↦ None ])).hands
held_own here g None = (refl, refl)
held_own here g (Some q) =
    elim (site_eq q.site here) as (λ b. site_eq q.site here ≡ b → AreOwn here (held_log g (if b then Some q else None)).hands) [
      | true ↦ λ at. own_changed here q at (hold_from 1) (λ h. refl) [] (refl, refl)
      | false ↦ λ _. (refl, refl)
    ] refl

-- of a later view nothing was told, delivered or listed, and the process that the view names holds the token
log_new : (s : State) (g h : GroupNo) (w : MemberSide) → group_eq g h ≡ true → IsTraced s → (s.group h).number < w.number →
    is_pending w ≡ false → LogFits (set_group s g w) h (held_log g (holder_at s.here w))
unfolding known_order
log_new s g h w same traced less none_waits = record {
  tokens = λ k. ap (λ (x : Hand). x.first) (held_of s.here k g (holder_of w)) ∙ sym (token k);
  own = held_own s.here g (holder_of w);
  tells = λ _.
      tells_made t h l [] facts (held_fits g (holder_at s.here w) (goes_on t h) (has_passed t h))
      (λ k.
      subst (TellsHand t h k) (sym (held_of s.here k g (holder_of w)))
      (hand_made t h k (held_hand (local s k) (token_at k)) [] (token_at k) [] [] (ap known_order facts) (token k) (delivered k) (lists k)
      0 (omega arith)
      (held_tells (local s k) (token_at k)) (λ x in_it. let inside = in_it.1 in absurd (omega arith))))
      (λ e among.
      let some = some_forgotten l.base (known_order []) e among in
      let base = held_base g (holder_at s.here w) in
      absurd (omega (arith, some, base)));
  closed = λ waits. absurd (false≢true (sym none_waits ∙ ap (λ b. is_pending (if b then w else s.group h)) (sym same) ∙ waits));
}
  where
    t : State
    t = set_group s g w

    l : Log
    l = held_log g (holder_at s.here w)

    n : ℕ
    n = (t.group h).number

    number : n ≡ w.number
    number = ap (λ b. (if b then w else s.group h).number) same

    later : (s.group h).number < n
    later = omega (arith, number, less)

    facts : facts_in t h ≡ []
    facts =
        ap (flat_map (λ m. told_by m.body)) (all_fail (λ m. is_in n h m.id) s.got (λ m at. old_view s h n m.id (traced.reached m at) later))

    token_at : ℕ → Option ℕ
    token_at k = if is_process (local s k) (holder_of w) then Some 1 else None

    apart : (k : ℕ) (a : Act) → Contains (s.acts k) a → IsApart (is_in n h) a
    apart k a at = old_act s h n a (traced.acted k a at) later

    token : (k : ℕ) → token_of t h k ≡ token_at k
    token k =
        tokens_stay (is_in n h) (local s k) (if is_process (local s k) (holder_of (t.group h)) then Some 1 else None) (s.acts k) (apart k)
        ∙ ap (λ b. if is_process (local s k) (holder_of (if b then w else s.group h)) then Some 1 else None) same

    delivered : (k : ℕ) → abcasts_delivered t h k ≡ []
    delivered k = ap (map entry_of) (ids_fail (is_in n h) (s.abcasts k) (λ u in_it. old_view s h n u (traced.seen k u in_it) later))

    lists : (k : ℕ) → lists_of t h k ≡ []
    lists k = lists_stay (is_in n h) (s.acts k) (apart k)

-- the logs once a group has a new one, which the process has that the view names
pub log_of_held : (orders : List Log) (g h : GroupNo) (o : Option Proc) →
    log_of (holding_from g o (but_log g orders)) h ≡ (if group_eq g h then held_log g o else log_of orders h)
log_of_held orders g h None = log_of_forget orders g h
log_of_held orders g h (Some p) =
    log_of_change (but_log g orders) g h (with_hand p (hold_from 1)) (λ l. refl)
    ∙ elim (cases_Bool (group_eq g h)) [
      | inl same ↦
          ap (λ b. if b then with_hand p (hold_from 1) (log_of (but_log g orders) g) else log_of (but_log g orders) h) same
          ∙ ap (with_hand p (hold_from 1)) (log_of_forget orders g g ∙ ap (λ b. if b then new_log g else log_of orders g) (group_itself g))
          ∙ ap (λ b. if b then with_hand p (hold_from 1) (new_log g) else log_of orders h) (sym same)
      | inr apart ↦
          ap (λ b. if b then with_hand p (hold_from 1) (log_of (but_log g orders) g) else log_of (but_log g orders) h) apart
          ∙ log_of_forget orders g h
          ∙ ap (λ b. if b then new_log g else log_of orders h) apart
          ∙ ap (λ b. if b then with_hand p (hold_from 1) (new_log g) else log_of orders h) (sym apart)
    ]

-- a group's log is a new one once the group has a later view, and the others' stay
pub logs_view : (s : State) (g : GroupNo) (n : ℕ) (members : Membership) (orders : List Log) → IsTraced s → (s.group g).number < n →
    ((h : GroupNo) → LogFits s h (log_of orders h)) → (h : GroupNo) → LogFits (set_group s g (with_view s.here n members (s.group g)))
    h (log_of (holding_from g (holder_at s.here (with_view s.here n members (s.group g))) (but_log g orders)) h)
logs_view s g n members orders traced later fits h =
    let w : MemberSide = with_view s.here n members (s.group g) in
    let t : State = set_group s g w in
    subst (LogFits t h) (sym (log_of_held orders g h (holder_at s.here w)))
    (elim (cases_Bool (group_eq g h)) [
      | inl same ↦
          subst (LogFits t h) (sym (ap (λ b. if b then held_log g (holder_at s.here w) else log_of orders h) same))
          (log_new s g h w same traced (subst (λ x. (s.group x).number < n) (same_group g h same) later) refl)
      | inr apart ↦
          let view : (t.group h).view ≡ (s.group h).view = ap (λ b. (if b then w else s.group h).view) apart in
          let number : (t.group h).number ≡ (s.group h).number = ap (λ b. (if b then w else s.group h).number) apart in
          subst (LogFits t h) (sym (ap (λ b. if b then held_log g (holder_at s.here w) else log_of orders h) apart))
          (log_alike s t h (log_of orders h)
          (same_alike s t h (log_of orders h) refl view number refl (λ k. refl) (λ k. refl) refl (λ p u is. is))
          (ap (λ b. is_pending (if b then w else s.group h)) apart) refl (λ p is. is)
          (λ _. over_alike s t h refl number refl (λ u is. is) (all_stay s h)) (fits h))
    ])

-- An order that is closed

-- with an Install that waits a group's log has the order that the view ends with, and the others' stay
pub logs_close : (s : State) (g : GroupNo) (p : Pending) (tail : Tail) (orders : List Log) → is_pending (s.group g) ≡ false →
    ((h : GroupNo) → LogFits s h (log_of orders h)) → (h : GroupNo) →
    LogFits (pending_install s g p tail) h (log_of (change_log g (closed_by (is_within p.cut) tail.start tail.ids) orders) h)
logs_close s g p tail orders first fits h =
    let close : Log → Log = closed_by (is_within p.cut) tail.start tail.ids in
    let t : State = pending_install s g p tail in
    subst (LogFits t h) (sym (log_of_change orders g h close (λ l. refl)))
    (elim (cases_Bool (group_eq g h)) [
      | inl same ↦
          subst (LogFits t h) (sym (ap (λ b. if b then close (log_of orders g) else log_of orders h) same))
          (subst (λ x. LogFits t x (close (log_of orders g))) (same_group g h same) closed)
      | inr apart ↦
          let view : (t.group h).view ≡ (s.group h).view = ap (λ b. (if b then with_pending (s.group g) p else s.group h).view) apart in
          let number : (t.group h).number ≡ (s.group h).number =
          ap (λ b. (if b then with_pending (s.group g) p else s.group h).number) apart in
          subst (LogFits t h) (sym (ap (λ b. if b then close (log_of orders g) else log_of orders h) apart))
          (log_alike s t h (log_of orders h)
          (same_alike s t h (log_of orders h) refl view number refl (λ k. refl) (λ k. refl) refl (λ q u is. is))
          (ap (λ b. is_pending (if b then with_pending (s.group g) p else s.group h)) apart)
          (ap (λ b. if b then closed_order (is_within p.cut) tail.start tail.ids (order_told s g) else s.closed h) apart) (λ q is. is)
          (λ _. over_alike s t h refl number refl (λ u is. is) (all_stay s h)) (fits h))
    ])
  where
    l : Log
    l = log_of orders g

    number : ((pending_install s g p tail).group g).number ≡ (s.group g).number
    number = ap (λ b. (if b then with_pending (s.group g) p else s.group g).number) (group_itself g)

    view : ((pending_install s g p tail).group g).view ≡ (s.group g).view
    view = ap (λ b. (if b then with_pending (s.group g) p else s.group g).view) (group_itself g)

    order : (pending_install s g p tail).closed g ≡ closed_order (is_within p.cut) tail.start tail.ids (order_told s g)
    order = ap (λ b. if b then closed_order (is_within p.cut) tail.start tail.ids (order_told s g) else s.closed g) (group_itself g)

    closed : LogFits (pending_install s g p tail) g (closed_by (is_within p.cut) tail.start tail.ids l)
    closed =
        let t : State = pending_install s g p tail in
        let tells = (fits g).tells first in
        let ended : FitsClosed (closed_order (is_within p.cut) tail.start tail.ids (order_told s g)) (goes_on s g) (has_passed s g)
        (closed_by (is_within p.cut) tail.start tail.ids l) =
        close_fits (facts_in s g) (goes_on s g) (has_passed s g) l tells.fits (is_within p.cut) tail.start tail.ids in
        record {
          tokens = λ k. (fits g).tokens k ∙ sym (λ i. token_as s.here (view i) (number i) g k (s.acts k));
          own = (fits g).own;
          tells = λ none.
              absurd (false≢true (sym none ∙ ap (λ b. is_pending (if b then with_pending (s.group g) p else s.group g)) (group_itself g)));
          closed = λ _.
              subst (λ x. FitsClosed x (goes_on t g) (has_passed t g) (closed_by (is_within p.cut) tail.start tail.ids l)) (sym order)
              (closed_more (closed_order (is_within p.cut) tail.start tail.ids (order_told s g)) (goes_on s g) (has_passed s g)
              (closed_by (is_within p.cut) tail.start tail.ids l) ended (goes_on t g) (has_passed t g) (λ q is. is)
              (λ q e is. ap (λ n. has_delivered (process_named s q) (uid_in g n e)) number ∙ is));
        }

-- Acknowledgements

-- one more acknowledgement leaves no fewer messages stable
upto_grows : (acks : List Acked) (x : Acked) (others : List SiteNo) (g : GroupNo) (v : ℕ) (p : Proc) → (others ≡ [] → ⊥) →
    stable_upto acks others g v p ≤ stable_upto (acks ++ x ∷ []) others g v p
upto_grows acks x others g v p some =
    let more : List Acked = acks ++ x ∷ [] in
    let before = stable_greatest acks others g v p some in
    let after = stable_greatest more others g v p some in
    let n : ℕ = stable_upto acks others g v p in
    let m : ℕ = stable_upto more others g v p in
    elim (cases_lt m n) [
      | inl less ↦
          let (site, at, lacks) = after.next in
          let was : has_acked acks (uid_in g v (p, m + 1)) site ≡ true = before.all site (m + 1) at (omega arith) (omega (arith, less)) in
          absurd (false≢true (sym lacks
          ∙ list_any-append (λ a. site_eq a.0 site && uid_eq a.1 (uid_in g v (p, m + 1))) acks (x ∷ [])
          ∙ or_left (has_acked acks (uid_in g v (p, m + 1)) site) (has_acked (x ∷ []) (uid_in g v (p, m + 1)) site) was))
      | inr least ↦ omega (arith, least)
    ]

pub logs_ack : (s : State) (from : SiteNo) (u : Uid) (h : GroupNo) (l : Log) → LogFits s h l → LogFits (noting_ack s from u) h l
logs_ack s from u h l f =
    log_alike s (noting_ack s from u) h l alike refl refl (λ p is. is)
    (λ _. over_alike s (noting_ack s from u) h refl refl refl (λ v is. is) (all_stay s h)) f
  where
    grown : (others : List SiteNo) (p : Proc) → (if is_empty others then MAX_NUMBER else stable_upto s.acks others h (s.group h).number p)
        ≤ (if is_empty others then MAX_NUMBER else stable_upto (s.acks ++ (from, u) ∷ []) others h (s.group h).number p)
    grown [] p = omega arith
    grown (x ∷ others) p = upto_grows s.acks (from, u) (x ∷ others) h (s.group h).number p (λ none. cc)

    alike : IsAlike s (noting_ack s from u) h l
    alike = record {
      here = refl;
      view = refl;
      number = refl;
      got = refl;
      tokens = λ k. refl;
      lists = λ k. refl;
      delivered = λ k. refl;
      settled = λ k. grown (others_of s h) (local s k);
      more = λ p v is. is;
    }
