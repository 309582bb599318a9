-- The turns of the records' rest are those of the history that they stand for.
-- `fits_deliver_all` says so. The queue names the message that the rule of the history names, as
-- its rows tell what each process awaits. Delivering it changes the records and the history alike
-- (`fits_first`). A message that was delivered is ready no more, so that as many turns as there
-- are kept messages are enough on both sides (`settled_kept`).
use Rattle.std.proofs.Common.{◌≡◌, ℕ, zero, suc, ◌<◌, ◌≤◌, Bool, true, false, cond, not, List, [], ◌∷◌, ◌++◌}
use Rattle.std.proofs.Common.{length, Contains, Option, Some, None, refl, sym, ap, subst, ◌∙◌, inl, inr, arith}
use Rattle.std.specs.Prelude.{◌&&◌, ◌||◌, ◌==◌, if◌then◌else◌, filter, take}
use Rattle.std.specs.List.{find, list_any}
use Rattle.std.specs.Option.{IsSome, option_map_or}
use Rattle.std.proofs.lemmas.Bool.{cases_Bool, false≢true, false_from_ne_true, and_parts, or_left, or_right, eqb-true, eq-eqb}
use Rattle.std.proofs.lemmas.Option.{none-some, same_Some}
use Rattle.std.proofs.lemmas.List.{map-append, length-map}
use Rattle.cast_types.specs.declared.names.GroupNo.{GroupNo}
use Rattle.cast_types.specs.declared.names.Proc.{Proc}
use Rattle.cast_types.specs.declared.names.Key.{Key}
use Rattle.cast_types.specs.declared.names.Uid.{Uid}
use Rattle.cast_types.specs.Names.{Entry, group_eq, entry_eq, uid_eq, is_atomic, uid_in, entry_of}
use Rattle.cast_types.specs.Sets.{is_among}
use Rattle.cast_types.proofs.Orders.{group_itself, uid_itself}
use Rattle.cast_types.specs.Repeat.{iterate}
use Rattle.cast_message.specs.declared.message.Message.{Message}
use Rattle.cast_message.specs.Bodies.{kind_of}
use Rattle.cast_message.specs.declared.client.Push.{Push}
use Rattle.cast_ready.specs.declared.row.Row.{Row}
use Rattle.cast_ready.specs.declared.offered.Offered.{Offered}
use Rattle.cast_ready.specs.Ready.{is_open_to, is_member, is_outside, has_delivered, is_causally_ready, is_ready, first_ready, has_turn}
use Rattle.cast_ready.specs.declared.turn.Turn.TheVariants.{Holding, Following}
use Rattle.cast_ready.specs.Rows.{delivered_row}
use Rattle.cast_delay.specs.Queue.{row_of, change_row, offered_under, after_delivery, queue_delivering, passed_in}
use Rattle.cast_message.specs.declared.message.Received.{Received}
use Rattle.cast_message.specs.Receipts.{messages, message_under}
use Rattle.cast_delay.specs.Fits.{FirstReady, HasTurns, Fits as QueueFits, delivering as delivering_to}
use Rattle.cast_delay.proofs.Delivers.{only_member}
use Rattle.cast_delay.proofs.Queues.{delivery_fits, next_rules, passed_delivered}
use Rattle.cast_order.specs.Order.{next_of}
use Rattle.cast_order.specs.Log.{Log, log_of, change_log, next_in, pass_ids}
use Rattle.cast_view.specs.MemberSide.{is_pending}
use Rattle.cast_rules.specs.History.{history}
use Rattle.cast_rules.specs.State.{State, local, is_group, gate_of, was_given, with_delivery}
use Rattle.cast_rules.specs.Order.{is_of_view, holds, order_of, order_told, sets_order}
use Rattle.cast_rules.specs.Turns.{has_room_for_order, turn_of, is_ready_for}
use Rattle.cast_rules.specs.Effects.{delivering}
use Rattle.cast_rules.specs.Rules.Rest.{told_of, tell_if}
use Rattle.cast_rules.proofs.Rules.Leaving.{tell_follows}
use Rattle.cast_rules.proofs.Rules.Rest.{told_if_keeps}
use Rattle.cast_rules.proofs.Telling.{tells_told_if}
use Rattle.cast_rules.specs.Rest.{deliver_first, deliver_all, is_free}
use Rattle.cast_rules.specs.Endings.{left_count}
use Rattle.cast_domain.specs.Records.{Records}
use Rattle.cast_rules.specs.Rules.Release as release
use Rattle.cast_domain.specs.Calls.{records}
use Rattle.cast_domain.specs.RestCalls.{resting_records, sets_order_in, turns_in, told_in, weight_of}
use Rattle.cast_domain.specs.RestCalls.{note_weight_in, note_delivered_under, ready_key_in}
use Rattle.cast_domain.specs.declared.rest.Weight.{Weight}
use Rattle.cast_domain.specs.declared.rest.Weight.TheVariants.{Nothing, Placed, Hands}
use Rattle.cast_rules.specs.Rules.Rest as rest
use Rattle.cast_rules.specs.Lawful.{IsSpent, AreKept, IsLawful}
use Rattle.cast_domain.specs.Fits.{process_named, is_still_kept, Fits}
use Rattle.cast_rules.proofs.Settles.{delivering_one, delivers, ready_causally, ready_new}
use Rattle.cast_rules.proofs.Settles.{delivered_first, delivered_none, turns_are_enough}
use Rattle.cast_domain.proofs.LogSteps.{noting, logs_deliver}
use Rattle.cast_domain.proofs.Ordering.{order_unclosed, sets_order_there, turns_there}
use Rattle.cast_rules.proofs.Totals.{left_found, left_le}
use Rattle.cast_rules.proofs.Spots.{found_passes}
use Rattle.cast_rules.proofs.LawfulMessages.{delivered_view, lawful_delivery}
use Rattle.cast_domain.proofs.Over.{join_counts_on}
use Rattle.cast_rules.proofs.LawfulSteps.{all_lawful, lawful_first}
use Rattle.cast_domain.proofs.Releases.{fits_let_go}
use Rattle.cast_delay.proofs.Finds.{found_in}
use Rattle.cast_types.proofs.Iterates.{iterate_still}
use Rattle.cast_domain.proofs.Framing.{StandsIn, records_follow_all}
use Rattle.cast_domain.proofs.Following.{IsAt}
use Rattle.cast_domain.proofs.Remaining.{names_after}
use Rattle.cast_domain.proofs.Standing.{process_here, member_row, still_idle}
use Rattle.cast_domain.proofs.ProcessChanges.{named_set, still_in}

-- What the turns leave as it is

-- site, configuration and serials stay
pub record Kept (s : State) (t : State) : Type 0 where
  pub here : t.here ≡ s.here
  pub config : t.config ≡ s.config
  pub used : t.used ≡ s.used

pub kept_self : (s : State) → Kept s s
kept_self s = record { here = refl; config = refl; used = refl }

pub kept_then : (s t u : State) → Kept s t → Kept t u → Kept s u
kept_then s t u a b = record { here = b.here ∙ a.here; config = b.config ∙ a.config; used = b.used ∙ a.used }

pub kept_if : (s x y : State) (b : Bool) → Kept s x → Kept s y → Kept s (if b then x else y)
kept_if s x y true p q = p
kept_if s x y false p q = q

pub kept_iterate : (n : ℕ) (f : State → State) → ((s : State) → Kept s (f s)) → (s : State) → Kept s (iterate n f s)
kept_iterate zero f h s = kept_self s
kept_iterate (suc n) f h s = kept_then s (f s) (iterate n f (f s)) (h s) (kept_iterate n f h (f s))

pub kept_first : (k : ℕ) (s : State) → Kept s (deliver_first k s)
kept_first k s = kept_found (find (is_ready_for s k) s.got)
  where
    kept_found : (o : Option Message) → Kept s (elim o [ Some m ↦ delivering_one s k m | None ↦ s ])
    kept_found (Some m) = let d = delivers s k m in record { here = d.here; config = d.config; used = d.used }
    kept_found None = kept_self s

pub kept_all : (s : State) (k : ℕ) → Kept s (deliver_all s k)
kept_all s k = kept_iterate (length s.got) (deliver_first k) (kept_first k) s

-- Deliveries

-- who has a row has one still after a delivery
still_after : (offered : List Offered) (p : Proc) (key : Key) (q : Proc) (rows : List Row) → IsSome (row_of rows q) →
    IsSome (row_of (after_delivery offered p key rows) q)
still_after offered p key q rows was = still_found (offered_under offered key)
  where
    still_found : (o : Option Offered) →
        IsSome (row_of (elim o [ Some x ↦ change_row p (delivered_row x.id x.times) rows | None ↦ rows ]) q)
    still_found (Some x) = still_in p (delivered_row x.id x.times) (λ _. refl) q rows was
    still_found None = was

-- the records once the process has delivered the message under a key
abbrev turned : Records → State → ℕ → Key → Message → Records
turned r s k key m =
    record r {
      delay = queue_delivering (local s k) key r.delay;
      delivered = r.delivered ++ (r.config.domain, local s k, m.id) ∷ [];
    }

-- how many places it passes then
abbrev passing : Records → State → ℕ → Key → Message → ℕ
passing r s k key m =
    passed_in (queue_delivering (local s k) key r.delay) (local s k) m.id.group m.id.view
    (next_in (log_of r.orders m.id.group) (local s k))

-- what is ready is of a group of which the process is a member
ready_member : (s : State) (k : ℕ) (m : Message) → is_ready_for s k m ≡ true → is_member ((s.process k).standing m.id.group) ≡ true
ready_member s k m ready = (and_parts (is_member ((s.process k).standing m.id.group)) _ (ready_causally s k m ready)).0

-- of its current view
ready_current : (s : State) (k : ℕ) (m : Message) → is_ready_for s k m ≡ true → is_of_view s m.id.group m.id ≡ true
ready_current s k m ready =
    let a = and_parts (is_member ((s.process k).standing m.id.group)) _ (ready_causally s k m ready) in
    ap (λ b. b && (m.id.view == (s.group m.id.group).number)) (group_itself m.id.group)
    ∙ (and_parts (m.id.view == (s.group m.id.group).number) _ a.1).0

-- and its group delivers it
ready_opens : (s : State) (k : ℕ) (m : Message) → is_ready_for s k m ≡ true → is_open_to (gate_of s m.id.group) (entry_of m.id) ≡ true
ready_opens s k m ready =
    let a = and_parts (is_member ((s.process k).standing m.id.group)) _ (ready_causally s k m ready) in
    let b = and_parts (m.id.view == (s.group m.id.group).number) _ a.1 in
    (and_parts (is_open_to (gate_of s m.id.group) (entry_of m.id)) _ b.1).0

ready_listed : (s : State) (k : ℕ) (m : Message) → IsLawful s → is_ready_for s k m ≡ true → is_group s m.id.group ≡ true
ready_listed s k m l ready =
    let a = and_parts (is_member ((s.process k).standing m.id.group)) _ (ready_causally s k m ready) in
    l.known k m.id.group (ap is_outside (only_member ((s.process k).standing m.id.group) a.0))

-- an ABCAST that is ready for a process without the token is the next of the order
ready_placed : (s : State) (k : ℕ) (m : Message) → is_ready_for s k m ≡ true → is_atomic (kind_of m.body) ≡ true →
    holds s m.id.group k ≡ false → is_pending (s.group m.id.group) ≡ false →
    is_among entry_eq (entry_of m.id) (order_told s m.id.group) ≡ true
ready_placed s k m ready atomic away none =
    next_among (order_told s g) (
    ap (λ order. has_turn (Following (next_of has order)) (entry_of m.id)) (sym (order_unclosed s g none))
    ∙ sym (ap (λ b. has_turn (if b && not (s.group g).frozen then Holding (has_room_for_order s g k)
    else Following (next_of has (order_of s g))) (entry_of m.id)) away)
    ∙ in_turn)
  where
    g : GroupNo
    g = m.id.group

    has : Entry → Bool
    has e = has_delivered (s.process k) (uid_in g (s.group g).number e)

    in_turn : has_turn (turn_of s k g) (entry_of m.id) ≡ true
    in_turn =
        sym (ap (λ b. not b || has_turn (turn_of s k g) (entry_of m.id)) atomic)
        ∙ (and_parts (is_causally_ready s.config.groups (gate_of s) (s.process k) m)
        (not (is_atomic (kind_of m.body)) || has_turn (turn_of s k g) (entry_of m.id)) ready).1

    next_among : (order : List Entry) → has_turn (Following (next_of has order)) (entry_of m.id) ≡ true →
        is_among entry_eq (entry_of m.id) order ≡ true
    next_among [] is = absurd (false≢true is)
    next_among (e ∷ order) is = elim (cases_Bool (has e)) [
      | inl done ↦
          or_right (entry_eq (entry_of m.id) e) (is_among entry_eq (entry_of m.id) order)
          (next_among order (sym (ap (λ b. has_turn (Following (cond (not b) (Some e) (next_of has order))) (entry_of m.id)) done) ∙ is))
      | inr undone ↦
          or_left (entry_eq (entry_of m.id) e) (is_among entry_eq (entry_of m.id) order)
          (sym (ap (λ b. has_turn (Following (cond (not b) (Some e) (next_of has order))) (entry_of m.id)) undone) ∙ is)
    ]

-- what is found is still kept
found_still : (t : Message → Bool) (kept : List Message) (m : Message) → find t kept ≡ Some m → list_any (λ x. uid_eq x.id m.id) kept ≡ true
found_still t [] m found = absurd (none-some m found)
found_still t (x ∷ kept) m found = elim (cases_Bool (t x)) [
  | inl here ↦
      let same : x ≡ m = same_Some x m (sym (ap (λ b. cond b (Some x) (find t kept)) here) ∙ found) in
      or_left (uid_eq x.id m.id) (list_any (λ y. uid_eq y.id m.id) kept) (ap (λ (y : Message). uid_eq y.id m.id) same ∙ uid_itself m.id)
  | inr other ↦
      or_right (uid_eq x.id m.id) (list_any (λ y. uid_eq y.id m.id) kept)
      (found_still t kept m (sym (ap (λ b. cond b (Some x) (find t kept)) other) ∙ found))
]

-- before the process is told
fits_turn : (r : Records) (s : State) → Fits r s → IsLawful s → (k : ℕ) → was_given s.used k ≡ true → (key : Key) (m : Message) →
    message_under r.part.kept key ≡ Some m → Contains s.got m → is_still_kept s m.id ≡ true → is_ready_for s k m ≡ true →
    Fits (record (turned r s k key m) { orders = noting (weight_of m.body) s k m (passing r s k key m) r.orders }) (with_delivery s k m)
fits_turn r s fits l k given key m under at kept ready = record {
  core = fits.core;
  opened = fits.opened;
  groups = fits.groups;
  messages = fits.messages;
  processes = record {
    delay = delay_now;
    admitted = λ j was. still_after r.delay.offered (local s k) key (local s j) r.delay.rows (fits.processes.admitted j was);
    has_row = fits.processes.has_row;
    rows = names_after r.delay.offered (local s k) key r.delay.rows ∙ fits.processes.rows;
    idle = still_idle s k (delivering_to m (s.process k)) given fits.processes.idle;
  };
  acks = fits.acks;
  orders =
      logs_deliver s k m (passing r s k key m) r.orders fits.orders kept (ready_current s k m ready) (ready_opens s k m ready)
      (ready_placed s k m ready)
      (subst (λ v. find (λ e. not (has_delivered (process_named (with_delivery s k m) (local s k)) (uid_in m.id.group v e)))
      (take (passing r s k key m) ids) ≡ None) view
      (passed_delivered s.config.groups (gate_of s) (process_named (with_delivery s k m)) r.part.kept (turned r s k key m).delay delay_now
      (local s k) m.id.group m.id.view ids
      (still_after r.delay.offered (local s k) key (local s k) r.delay.rows (member_row r s fits k m.id.group (ready_member s k m ready)))
      (omega (arith, view))))
      (λ g member. join_counts_on (s.process k).time m.times g (local s k) (l.stamped m at)
      (delivered_view s k m l at ready g member ∙ sym (l.current k g member)));
  frames = fits.frames;
  delivered = (λ i. fits.delivered i ++ ((fits.core i).config.domain, local s k, m.id) ∷ [])
      ∙ sym (map-append (λ (x : Proc × Uid). (s.config.domain, x.0, x.1)) s.deliveries ((local s k, m.id) ∷ []));
  pushed = fits.pushed;
}
  where
    ids : List Entry
    ids = next_in (log_of r.orders m.id.group) (local s k)

    view : m.id.view ≡ (s.group m.id.group).number
    view =
        eqb-true m.id.view (s.group m.id.group).number
        (and_parts (group_eq m.id.group m.id.group) (m.id.view == (s.group m.id.group).number) (ready_current s k m ready)).1

    delay_now : QueueFits s.config.groups (gate_of s) (process_named (with_delivery s k m)) r.part.kept (turned r s k key m).delay
    delay_now =
        subst (λ ps. QueueFits s.config.groups (gate_of s) ps r.part.kept (turned r s k key m).delay) (named_set s k (delivering_to m))
        (delivery_fits s.config.groups (gate_of s) (process_named s) r.part.kept r.delay fits.processes.delay (local s k) key m under
        (ap (λ p. is_causally_ready s.config.groups (gate_of s) p m) (process_here s k) ∙ ready_causally s k m ready))

-- what is noted of a delivery is what the history notes
noted_as : (r : Records) (s : State) → Fits r s →
    IsLawful s → (k : ℕ) (key : Key) (m : Message) → is_ready_for s k m ≡ true → note_weight_in (weight_of m.body) (turned r s k key m)
    (local s k) m.id ≡ record (turned r s k key m) { orders = noting (weight_of m.body) s k m (passing r s k key m) r.orders }
noted_as r s fits l k key m ready = at (weight_of m.body)
  where
    g : GroupNo
    g = m.id.group

    passes : List Log
    passes = change_log g (pass_ids (local s k) (passing r s k key m)) r.orders

    same : sets_order_in (turned r s k key m) g (local s k) ≡ sets_order s g k
    same = sets_order_there r s fits g (ready_listed s k m l ready) k

    at : (w : Weight) → note_weight_in w (turned r s k key m) (local s k) m.id
        ≡ record (turned r s k key m) { orders = noting w s k m (passing r s k key m) r.orders }
    at Nothing = refl
    at Placed = λ i. record (turned r s k key m) { orders = if same i then told_in g (local s k) (entry_of m.id) r.orders else passes }
    at (Hands q first) = refl

-- the program is told on both sides, or nothing is told
fits_tell : (r : Records) (s : State) → Fits r s → IsLawful s → (k : ℕ) (o : Option Push) →
    Fits (tell_if records r k o) (tell_if history s k o)
fits_tell r s fits l k (Some p) =
    (tell_follows records history (StandsIn s.config.groups) (IsAt s.config.groups) (records_follow_all s.config.groups)
    r s ((fits, refl), l) k p).0.0
fits_tell r s fits l k None = fits

-- a process delivers a message that is ready, and is told; what is free then is let go
pub fits_delivering : (r : Records) (s : State) → Fits r s → IsLawful s → (k : ℕ) → was_given s.used k ≡ true → (key : Key) (m : Message) →
    message_under r.part.kept key ≡ Some m → Contains s.got m → is_still_kept s m.id ≡ true → is_ready_for s k m ≡ true →
    IsLawful (delivering s k m) →
    Fits (release.let_go records resting_records (tell_if records (note_delivered_under r (local s k) key m) k (told_of m.id m.body)))
    (delivering_one s k m)
fits_delivering r s fits l k given key m under at kept ready lawful =
    let next : Records = record (turned r s k key m) { orders = noting (weight_of m.body) s k m (passing r s k key m) r.orders } in
    fits_let_go (tell_if records (note_delivered_under r (local s k) key m) k (told_of m.id m.body)) (delivering s k m)
    (subst (λ x. Fits (tell_if records x k (told_of m.id m.body)) (delivering s k m)) (sym (noted_as r s fits l k key m ready))
    (fits_tell next (with_delivery s k m) (fits_turn r s fits l k given key m under at kept ready) (lawful_delivery s k m l at ready)
    k (told_of m.id m.body)))
    lawful

-- a spent message is ready for nobody
spent_not_ready : (s : State) (k : ℕ) → was_given s.used k ≡ true → (m : Message) → IsSpent s m → is_ready_for s k m ≡ false
spent_not_ready s k given m spent = false_from_ne_true (is_ready_for s k m) (λ ready.
    let a = and_parts (is_member ((s.process k).standing m.id.group)) _ (ready_causally s k m ready) in
    let b = and_parts (m.id.view == (s.group m.id.group).number) _ a.1 in
    let o = and_parts (is_open_to (gate_of s m.id.group) (entry_of m.id)) _ b.1 in
    let c = and_parts (not (has_delivered (s.process k) m.id)) _ o.1 in
    let done = spent.delivered k given a.0 (eqb-true m.id.view (s.group m.id.group).number b.0) in
    false≢true (sym (ap not done) ∙ c.0))

-- what is found among all that was received is found among what is kept
found_kept : (P : Message → Type 0) (test : Message → Bool) → ((m : Message) → P m → test m ≡ false) → (got kept : List Message) →
    AreKept P got kept → find test got ≡ find test kept
found_kept P test fails [] kept none = sym (ap (find test) none)
found_kept P test fails (m ∷ got) kept (inl (rest, is, more)) =
    ap (λ o. cond (test m) (Some m) o) (found_kept P test fails got rest more) ∙ sym (ap (find test) is)
found_kept P test fails (m ∷ got) kept (inr (spent, more)) =
    ap (λ b. cond b (Some m) (find test got)) (fails m spent) ∙ found_kept P test fails got kept more

pub ready_kept : (s : State) (k : ℕ) → was_given s.used k ≡ true → IsLawful s →
    find (is_ready_for s k) s.got ≡ find (is_ready_for s k) s.kept
ready_kept s k given l = found_kept (IsSpent s) (is_ready_for s k) (spent_not_ready s k given) s.got s.kept l.spent

-- over the name of the process
abbrev first_of : Records → ℕ → Proc → Records
first_of r k p =
    elim (option_map_or (message_under r.part.kept) (ready_key_in r p) None) [
      | Some m ↦
          release.let_go records resting_records
          (tell_if records (option_map_or (λ key. note_delivered_under r p key m) (ready_key_in r p) r) k (told_of m.id m.body))
      | None ↦ r
    ]

-- the queue names the message that the rule names
pub fits_first : (r : Records) (s : State) → Fits r s → IsLawful s → (k : ℕ) → was_given s.used k ≡ true →
    Fits (rest.deliver_first records resting_records k r) (deliver_first k s)
fits_first r s fits l k given =
    subst (λ h. Fits (first_of r k (record { site = h; serial = k })) (deliver_first k s)) (sym (ap (λ c. c.site) fits.core))
    (fits_next (ready_key_in r (local s k)) (next_rules s.config.groups (gate_of s) (process_named s)
    r.part.kept r.delay fits.processes.delay (local s k) (turns_in r (local s k)) (turn_of s k) turns))
  where
    -- the turns of the groups that it is a member of
    turns : HasTurns (process_named s (local s k)) (turns_in r (local s k)) (turn_of s k)
    turns g member =
        turns_there r s fits l k (member_row r s fits k g (ap (λ p. is_member (p.standing g)) (sym (process_here s k)) ∙ member)) g (l.known
        k g (ap is_outside (only_member ((s.process k).standing g) (ap (λ p. is_member (p.standing g)) (sym (process_here s k)) ∙ member))))
        member

    found_is : first_ready s.config.groups (gate_of s) (turn_of s k) (process_named s (local s k)) (messages r.part.kept)
        ≡ find (is_ready_for s k) s.got
    found_is =
        (λ i. find (is_ready s.config.groups (gate_of s) (turn_of s k) (process_here s k i)) (fits.messages.kept_in i))
        ∙ sym (ready_kept s k given l)

    -- with the key that is named, and the message under it
    named_key : Option Key → Option Message → Records
    named_key o found =
        elim found [
          | Some m ↦
              release.let_go records resting_records
              (tell_if records (option_map_or (λ key. note_delivered_under r (local s k) key m) o r) k (told_of m.id m.body))
          | None ↦ r
        ]

    fits_next : (o : Option Key) → FirstReady s.config.groups (gate_of s) (turn_of s k) (process_named s (local s k)) r.part.kept o →
        Fits (named_key o (option_map_or (message_under r.part.kept) o None)) (deliver_first k s)
    fits_next None none = subst (Fits r) (sym (delivered_none s k (sym found_is ∙ none))) fits
    fits_next (Some key) (m, under, first) =
        let found : find (is_ready_for s k) s.got ≡ Some m = sym found_is ∙ first in
        let ready : is_ready_for s k m ≡ true = found_passes (is_ready_for s k) s.got m found in
        let at : Contains s.got m = found_in (is_ready_for s k) s.got m found in
        subst (λ x. Fits (named_key (Some key) x) (deliver_first k s)) (sym under)
        (subst
        (Fits (release.let_go records resting_records (tell_if records (note_delivered_under r (local s k) key m) k (told_of m.id m.body))))
        (sym (delivered_first s k m found))
        (fits_delivering r s fits l k given key m under at (found_still (is_ready_for s k) s.kept m (sym (ready_kept s k given l) ∙ found))
        ready (told_if_keeps history IsLawful all_lawful (with_delivery s k m) (lawful_delivery s k m l at ready) k (told_of m.id m.body))))

-- so many turns of one process
fits_turns : (n : ℕ) (r : Records) (s : State) → Fits r s → IsLawful s → (k : ℕ) → was_given s.used k ≡ true →
    Fits (iterate n (rest.deliver_first records resting_records k) r) (iterate n (deliver_first k) s)
fits_turns zero r s fits l k given = fits
fits_turns (suc n) r s fits l k given =
    fits_turns n (rest.deliver_first records resting_records k r) (deliver_first k s) (fits_first r s fits l k given) (lawful_first s k l)
    k (ap (λ u. was_given u k) (kept_first k s).used ∙ given)

-- fewer are left of fewer
left_filter : (ids : List Uid) (test : Message → Bool) (got : List Message) → left_count ids (filter test got) ≤ left_count ids got
left_filter ids test [] = omega arith
left_filter ids test (m ∷ got) =
    elim (test m) as (λ b. left_count ids (cond b (m ∷ filter test got) (filter test got)) ≤ left_count ids (m ∷ got)) [
      | true ↦ let rest = left_filter ids test got in omega (arith, rest)
      | false ↦ let rest = left_filter ids test got in omega (arith, rest)
    ]

-- a delivery leaves fewer of the kept messages undelivered
kept_less : (s : State) (k : ℕ) (m : Message) → find (is_ready_for s k) s.kept ≡ Some m →
    left_count ((delivering_one s k m).process k).delivered (delivering_one s k m).kept < left_count (s.process k).delivered s.kept
kept_less s k m e =
    let t : State = delivering_one s k m in
    let same : (t.process k).delivered ≡ (s.process k).delivered ++ m.id ∷ [] =
    (delivers s k m).delivered k
    ∙ ap (λ b. if b then (s.process k).delivered ++ m.id ∷ [] else (s.process k).delivered) (eq-eqb k k refl) in
    let fewer = left_found (is_ready_for s k) (s.process k).delivered s.kept m (ready_new s k) e in
    let free : Message → Bool = λ x. not (is_free (delivering s k m) x.id) in
    let least = left_filter ((s.process k).delivered ++ m.id ∷ []) free s.kept in
    let before : (delivering s k m).kept ≡ s.kept = (tells_told_if (with_delivery s k m) k (told_of m.id m.body)).kept in
    let now : left_count (t.process k).delivered t.kept ≡ left_count ((s.process k).delivered ++ m.id ∷ []) (filter free s.kept) =
    (λ i. left_count (same i) (filter free (before i))) in
    omega (arith, fewer, least, now)

-- as many turns as messages are kept are enough
settled_kept : (n : ℕ) (s : State) (k : ℕ) → IsLawful s → was_given s.used k ≡ true → left_count (s.process k).delivered s.kept ≤ n →
    find (is_ready_for (iterate n (deliver_first k) s) k) (iterate n (deliver_first k) s).got ≡ None
settled_kept zero s k l given enough =
    elim (find (is_ready_for s k) s.got) as (λ o. find (is_ready_for s k) s.got ≡ o → o ≡ None) [
      | None ↦ λ _. refl
      | Some m ↦ λ e. let less = kept_less s k m (sym (ready_kept s k given l) ∙ e) in absurd (omega (arith, less, enough))
    ] refl
settled_kept (suc n) s k l given enough =
    elim (find (is_ready_for s k) s.got) as (λ o. find (is_ready_for s k) s.got ≡ o →
    find (is_ready_for (iterate n (deliver_first k) (deliver_first k s)) k) (iterate n (deliver_first k) (deliver_first k s)).got ≡ None) [
      | None ↦ λ e.
          subst (λ t. find (is_ready_for t k) t.got ≡ None)
          (sym (ap (iterate n (deliver_first k)) (delivered_none s k e) ∙ iterate_still n (deliver_first k) s (delivered_none s k e))) e
      | Some m ↦ λ e.
          let less = kept_less s k m (sym (ready_kept s k given l) ∙ e) in
          let less_first : left_count ((deliver_first k s).process k).delivered (deliver_first k s).kept
          < left_count (s.process k).delivered s.kept =
          subst (λ t. left_count (t.process k).delivered t.kept < left_count (s.process k).delivered s.kept)
          (sym (delivered_first s k m e)) less in
          settled_kept n (deliver_first k s) k (lawful_first s k l) (ap (λ u. was_given u k) (kept_first k s).used ∙ given)
          (omega (arith, less_first, enough))
    ] refl

-- all deliveries of one process
pub fits_deliver_all : (r : Records) (s : State) → Fits r s → IsLawful s → (k : ℕ) → was_given s.used k ≡ true →
    Fits (rest.deliver_all records resting_records r k) (deliver_all s k)
fits_deliver_all r s fits l k given =
    let n : ℕ = length r.part.kept in
    let enough : left_count (s.process k).delivered s.kept ≤ n =
    subst (λ x. left_count (s.process k).delivered s.kept ≤ x) (ap length (sym fits.messages.kept_in)
    ∙ length-map r.part.kept (λ (x : Received). x.message)) (left_le (s.process k).delivered s.kept) in
    subst (Fits (rest.deliver_all records resting_records r k)) (turns_are_enough s k n (settled_kept n s k l given enough))
    (fits_turns n r s fits l k given)
