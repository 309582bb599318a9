-- What comes to a domain's records comes to the history that they stand for: a message, a session,
-- and the first event.
-- `fits_receive` is a message of the current view: it stands under the next key, where nothing
-- stood, and the logs learn of it. `fits_open` is a session: its serial is the next one, so it
-- comes behind all those before (`range_push`), for which the records are the same
-- (`roster_before`). `fits_before` says that a new domain stands for the history before its first
-- event.
use Rattle.std.proofs.Common.{◌≡◌, ℕ, zero, suc, ◌+◌, ◌≤◌, Bool, true, false, not, cond, List, [], ◌∷◌, ◌++◌}
use Rattle.std.proofs.Common.{map, filter, Option, Some, None, refl, sym, ap, subst, ◌∙◌, inl, inr, arith}
use Rattle.std.specs.Prelude.{◌==◌, ◌||◌, nat_lt, nat_le, if◌then◌else◌, is_some}
use Rattle.std.specs.List.{find, range_with_len}
use Rattle.std.specs.Option.{IsSome, option_map}
use Rattle.std.proofs.lemmas.Bool.{cases_eq, false≢true, false_from_ne_true, and_parts}
use Rattle.std.proofs.lemmas.Bool.{and_from, eq-eqb, ne_eqb, lt-ltb, leb-true, le-leb, or_left}
use Rattle.std.proofs.lemmas.List.{map-append, length-append}
use Rattle.std.proofs.lemmas.List.Elements.{filter-append}
use Rattle.cast_types.specs.declared.names.SiteNo.{SiteNo}
use Rattle.cast_types.specs.declared.names.GroupNo.{GroupNo}
use Rattle.cast_types.specs.declared.names.Proc.{Proc}
use Rattle.cast_types.specs.Names.{site_eq, proc_eq}
use Rattle.cast_types.specs.Sets.{set_at}
use Rattle.cast_types.proofs.Orders.{proc_itself}
use Rattle.cast_clock.proofs.Entries.{option_cases}
use Rattle.cast_message.specs.declared.message.Message.{Message}
use Rattle.cast_ready.specs.declared.row.Row.{Row}
use Rattle.cast_ready.specs.Ready.{open_gate}
use Rattle.cast_ready.specs.Rows.{new_row}
use Rattle.cast_delay.specs.Queue.{row_of}
use Rattle.cast_message.specs.declared.message.Received.{Received}
use Rattle.cast_message.specs.Receipts.{key_eq, message_under}
use Rattle.cast_stable.specs.Acks.{new_ledger, received_ledger}
use Rattle.cast_stable.specs.Fits.{Fits as AcksFits}
use Rattle.cast_stable.proofs.Meanings.{new_fits as acks_new_fits, receive_fits as acks_receive_fits}
use Rattle.cast_delay.specs.Fits.{IsSound, HasNotBegun, Fits as QueueFits}
use Rattle.cast_delay.proofs.Queues.{new_fits, admit_fits, offer_fits}
use Rattle.cast_delay.proofs.Finds.{find-append_some, find-append_none}
use Rattle.cast_order.specs.Log.{Log, log_of}
use Rattle.cast_order.proofs.Meanings.{new_fits as order_new_fits}
use Rattle.cast_events.specs.declared.config.DomainConfig.{DomainConfig}
use Rattle.cast_view.specs.MemberSide.{is_pending}
use Rattle.cast_message.specs.declared.client.Push.TheVariants as push
use Rattle.cast_events.specs.declared.session.Status.TheVariants.{Open}
use Rattle.cast_events.specs.Session.{Session, first_session, is_gone}
use Rattle.cast_rules.specs.Order.{order_told}
use Rattle.cast_order.proofs.Hands.{new_hand_fits}
use Rattle.cast_rules.specs.State.{State, opening, no_process, local, gate_of, was_given, serials, receiving}
use Rattle.cast_rules.specs.Step.{opening_next}
use Rattle.cast_rules.specs.Run.{before_event}
use Rattle.cast_domain.specs.Shared.{no_part}
use Rattle.cast_domain.specs.Records.{Records}
use Rattle.cast_domain.specs.PartCalls.{local_in, learn_in, receive_in}
use Rattle.cast_domain.specs.Calls.{open_in}
use Rattle.cast_domain.specs.Fits.{process_named, record_for, session_for, is_there, is_live, past_of, LogFits, Fits, goes_on, has_passed}
use Rattle.cast_domain.proofs.Statuses.{roster, set_one, boxes_set, roster_first}
use Rattle.cast_domain.proofs.Logs.{IsNew, logs_receive}
use Rattle.cast_domain.proofs.Standing.{orders_same, mapped_none}
use Rattle.cast_domain.proofs.SessionChanges.{pushed_more}

-- nothing stands under the keys that come
fresh_push : (kept : List Received) (next : ℕ) (m : Message) → ((n : ℕ) → next ≤ n → message_under kept (record { 0 = n }) ≡ None) →
    (n : ℕ) → next + 1 ≤ n → message_under (kept ++ record { key = record { 0 = next }; message = m } ∷ []) (record { 0 = n }) ≡ None
fresh_push kept next m fresh n past =
    let x : Received = record { key = record { 0 = next }; message = m } in
    ap (λ (o : Option Received). option_map (λ (y : Received). y.message) o)
    (find-append_none (λ (y : Received). key_eq y.key (record { 0 = n })) kept (x ∷ [])
    (mapped_none (λ (y : Received). y.message) (find (λ y. key_eq y.key (record { 0 = n })) kept) (fresh n (omega (arith, past))))
    ∙ ap (λ b. cond b (Some x) None) (ne_eqb next n (λ same. omega (arith, same, past))))

-- a message is received, and the logs that are kept tell of it
pub fits_receive_with : (r : Records) (s : State) → Fits r s → (m : Message) → IsSound m → (orders : List Log) →
    ((g : GroupNo) → LogFits (receiving s m) g (log_of orders g)) → Fits (record (receive_in r m) { orders = orders }) (receiving s m)
fits_receive_with r s fits m sound orders logs = record {
  core = fits.core;
  opened = fits.opened;
  groups = fits.groups;
  messages = record {
    kept_in = map-append (λ (x : Received). x.message) r.part.kept (record { key = record { 0 = r.part.next }; message = m } ∷ [])
        ∙ ap (λ ms. ms ++ m ∷ []) fits.messages.kept_in;
    fresh = fresh_push r.part.kept r.part.next m fits.messages.fresh;
    counted = ap (λ n. n + 1) fits.messages.counted ∙ sym (length-append s.got (m ∷ []));
  };
  processes = record {
    delay = offer_fits s.config.groups (gate_of s) (process_named s) r.part.kept r.delay fits.processes.delay
        (record { key = record { 0 = r.part.next }; message = m }) sound (fits.messages.fresh r.part.next (omega arith));
    admitted = fits.processes.admitted;
    has_row = fits.processes.has_row;
    rows = fits.processes.rows;
    idle = fits.processes.idle;
  };
  acks =
      subst (λ ids. AcksFits (record (past_of s) { received = ids }) (received_ledger r.acks m.id))
      (sym (map-append (λ (x : Message). x.id) s.got (m ∷ [])))
      (acks_receive_fits (past_of s) r.acks fits.acks m.id);
  orders = logs;
  frames = fits.frames;
  delivered = fits.delivered;
  pushed = fits.pushed;
}

-- a message of the current view of its group is received, which is none that is forgotten of the order of the view, unless an Install waits
pub fits_receive : (r : Records) (s : State) → Fits r s → (m : Message) → IsSound m → (m.id.view == (s.group m.id.group).number) ≡ true →
    (is_pending (s.group m.id.group) ≡ false → IsNew s m.id.group (log_of r.orders m.id.group) m) → Fits (receive_in r m) (receiving s m)
fits_receive r s fits m sound current new =
    fits_receive_with r s fits m sound (learn_in r.orders m.id.group m.body) (logs_receive s m r.orders fits.orders current new)

-- a serial that is not given after one more was not before, and the next one was not
given_before : (used k : ℕ) → was_given (used + 1) k ≡ false → was_given used k ≡ false
given_before used k none = false_from_ne_true (was_given used k) (λ was.
    let parts = and_parts (nat_lt 0 k) (nat_le k used) was in
    let within = leb-true k used parts.1 in
    false≢true (sym none ∙ and_from (nat_lt 0 k) (nat_le k (used + 1)) parts.0 (le-leb k (used + 1) (omega (arith, within)))))

pub given_later : (used : ℕ) → was_given used (used + 1) ≡ false
given_later used = false_from_ne_true (was_given used (used + 1)) (λ was.
    let within = leb-true (used + 1) used (and_parts (nat_lt 0 (used + 1)) (nat_le (used + 1) used) was).1 in
    omega (arith, within))

last_serial : (n : ℕ) → n + 1 ≡ 1 + n
last_serial n = omega arith

one_more : (n : ℕ) → n + 1 ≡ suc n
one_more n = omega arith

-- one more serial is the last one
range_push : (a n : ℕ) → range_with_len a (suc n) ≡ range_with_len a n ++ (a + n) ∷ []
range_push a zero = ap (λ k. k ∷ []) (omega arith)
range_push a (suc n) = ap (λ rest. a ∷ rest) (range_push (a + 1) n) ∙ ap (λ k. a ∷ (range_with_len (a + 1) n ++ k ∷ [])) (omega arith)

-- where one more serial has a row, that is the last one of those before which it comes
filter_more : (test : ℕ → Bool) (a n last : ℕ) → a + n ≤ last →
    filter (λ k. (k == last) || test k) (range_with_len a n) ≡ filter test (range_with_len a n)
filter_more test a zero last past = refl
filter_more test a (suc n) last past =
    λ i. cond (same i) (a ∷ filter_more test (a + 1) n last (omega arith) i) (filter_more test (a + 1) n last (omega arith) i)
  where
    same : ((a == last) || test a) ≡ test a
    same = ap (λ b. b || test a) (ne_eqb a last (λ is. omega (arith, is, past)))

-- the last one was given
given_last : (used : ℕ) → was_given (used + 1) (used + 1) ≡ true
given_last used =
    and_from (nat_lt 0 (used + 1)) (nat_le (used + 1) (used + 1)) (lt-ltb 0 (used + 1) (omega arith))
    (le-leb (used + 1) (used + 1) (omega arith))

-- of serials before one that is opened the records are the same
roster_before : (session : ℕ → Session) (k : ℕ) (v : Session) (n a : ℕ) → a + n ≤ k →
    roster session (range_with_len a n) ≡ roster (set_one session k v) (range_with_len a n)
roster_before session k v zero a past = refl
roster_before session k v (suc n) a past =
    roster_first session a (range_with_len (a + 1) n)
    ∙ (λ i.
    cond (not (is_gone (same i))) (record { serial = a; status = (same i).status } ∷ roster_before session k v n (a + 1) (omega arith) i)
    (roster_before session k v n (a + 1) (omega arith) i))
    ∙ sym (roster_first (set_one session k v) a (range_with_len (a + 1) n))
  where
    same : session a ≡ set_one session k v a
    same = sym (ap (λ b. if b then v else session a) (ne_eqb k a (λ is. omega (arith, is, past))))

-- a session is opened
pub fits_open : (r : Records) (s : State) → Fits r s → Fits (open_in r) (opening_next s)
fits_open r s fits = record {
  core = λ i. record (fits.core i) { used = (fits.core i).used + 1 };
  opened = record {
    rows = ap (λ xs. xs ++ record { serial = r.used + 1; status = Open } ∷ []) (fits.opened.rows ∙ kept_before)
        ∙ (λ i. roster after (serials s) ++ record { serial = (fits.core i).used + 1; status = Open } ∷ [])
        ∙ sym listed;
    boxes =
        (λ i. set_at (λ a b. a == b) r.part.outboxes ((fits.core i).used + 1)
        (push.Opened (record { site = (fits.core i).site; serial = (fits.core i).used + 1 }) ∷ []))
        ∙ boxes_set s.session r.part.outboxes fits.opened.boxes (s.used + 1) first (push.Opened (local s (s.used + 1)) ∷ []) refl;
    unused = λ k none. elim (cases_eq (s.used + 1) k) [
      | inl same ↦ absurd (false≢true (sym none ∙ ap (was_given (s.used + 1)) (sym same) ∙ given_last s.used))
      | inr other ↦
          ap (λ b. if b then first else s.session k) (ne_eqb (s.used + 1) k other) ∙ fits.opened.unused k (given_before s.used k none)
    ];
  };
  groups = fits.groups;
  messages = fits.messages;
  processes = record {
    delay = admit_fits s.config.groups (gate_of s) (process_named s) r.part.kept r.delay fits.processes.delay named
        (λ _.
        subst (λ p. HasNotBegun (process_named s p)) (λ i. record { site = (sym fits.core i).site; serial = (sym fits.core i).used + 1 })
        (fits.processes.idle (s.used + 1) (given_later s.used)));
    admitted = admitted_now;
    has_row = has_row_now;
    rows =
        map-append (λ (x : Row). x.process) r.delay.rows (new_row named ∷ [])
        ∙ (λ i. fits.processes.rows i ++ record {
          site = (fits.core i).site;
          serial = (ap (λ c. c.used + 1) fits.core ∙ last_serial s.used) i;
        } ∷ [])
        ∙ sym (ap (λ n. map (local s) (filter has_row_now (range_with_len 1 n))) (one_more s.used)
        ∙ ap (λ ks. map (local s) (filter has_row_now ks)) (range_push 1 s.used)
        ∙ ap (map (local s)) (filter-append has_row_now (range_with_len 1 s.used) ((1 + s.used) ∷ [])
        ∙ (λ i. filter_more fits.processes.has_row 1 s.used (s.used + 1) (omega arith) i ++ cond (has_last i) ((1 + s.used) ∷ []) []))
        ∙ map-append (local s) (filter fits.processes.has_row (range_with_len 1 s.used)) ((1 + s.used) ∷ []));
    idle = λ k none. fits.processes.idle k (given_before s.used k none);
  };
  acks = fits.acks;
  orders = orders_same s (opening_next s) r.orders refl refl refl refl refl refl refl refl (λ u is. is) fits.orders;
  frames = fits.frames;
  delivered = fits.delivered;
  pushed =
      (λ i. r.pushed ++ (
        r.config.domain,
        (fits.core i).used
            + 1,
        push.Opened (record { site = (fits.core i).site; serial = (fits.core i).used + 1 }),
      ) ∷ [])
      ∙ pushed_more r s fits (s.used + 1) (push.Opened (local s (s.used + 1)));
}
  where
    named : Proc
    named = local_in r (r.used + 1)

    first : Session
    first = first_session (local s (s.used + 1))

    after : ℕ → Session
    after = set_one s.session (s.used + 1) first

    kept_before : roster s.session (serials s) ≡ roster after (serials s)
    kept_before = roster_before s.session (s.used + 1) first s.used 1 (omega arith)

    -- the last one comes behind those that were there
    listed : roster after (range_with_len 1 (s.used + 1)) ≡ roster after (serials s) ++ record { serial = s.used + 1; status = Open } ∷ []
    listed =
        ap (λ n. roster after (range_with_len 1 n)) (one_more s.used)
        ∙ ap (roster after) (range_push 1 s.used)
        ∙ ap (map (session_for after)) (filter-append (is_there after) (serials s) ((1 + s.used) ∷ []))
        ∙ map-append (session_for after) (filter (is_there after) (serials s)) (filter (is_there after) ((1 + s.used) ∷ []))
        ∙ ap (λ xs. roster after (serials s) ++ xs) (ap (λ n. roster after (n ∷ [])) (sym (last_serial s.used))
        ∙ roster_first after (s.used + 1) []
        ∙ ap (λ b. cond (not (is_gone (if b then first else s.session (s.used + 1))))
        (record { serial = s.used + 1; status = (if b then first else s.session (s.used + 1)).status } ∷ []) [])
        (eq-eqb (s.used + 1) (s.used + 1) refl))

    has_row_now : ℕ → Bool
    has_row_now k = (k == s.used + 1) || fits.processes.has_row k

    has_last : has_row_now (1 + s.used) ≡ true
    has_last = or_left (1 + s.used == s.used + 1) (fits.processes.has_row (1 + s.used)) (eq-eqb (1 + s.used) (s.used + 1) (omega arith))

    admitted_now : (k : ℕ) → is_gone ((opening_next s).session k) ≡ false → IsSome (row_of (r.delay.rows ++ new_row named ∷ []) (local s k))
    admitted_now k remains = elim (option_cases (row_of r.delay.rows (local s k))) [
      | inr (row, some) ↦
          ap is_some (find-append_some (λ (x : Row). proc_eq x.process (local s k)) r.delay.rows (new_row named ∷ []) row some)
      | inl none ↦ elim (cases_eq (s.used + 1) k) [
        | inl same ↦
            let is : named ≡ local s k = λ j. record {
              site = (fits.core j).site;
              serial = (ap (λ n. n + 1) (ap (λ c. c.used) fits.core) ∙ same) j;
            } in
            ap is_some (find-append_none (λ (x : Row). proc_eq x.process (local s k)) r.delay.rows (new_row named ∷ []) none)
            ∙ ap (λ b. is_some (cond b (Some (new_row named)) None)) (ap (λ p. proc_eq p (local s k)) is ∙ proc_itself (local s k))
        | inr other ↦
            let before : is_gone (s.session k) ≡ false =
            sym (ap (λ b. is_gone (if b then first_session (local s (s.used + 1)) else s.session k)) (ne_eqb (s.used + 1) k other))
            ∙ remains in
            absurd (false≢true (ap is_some (sym none) ∙ fits.processes.admitted k before))
      ]
    ]

-- a new domain stands for the history before its first event
pub fits_before : (here : SiteNo) (config : DomainConfig) → Fits
    (record {
      site = here;
      config = config;
      quotas = config.quotas;
      used = 0;
      sessions = [];
      groups = map (record_for (opening here config))
          config.groups;
      moment = 0;
      casts = 0;
      part = no_part;
      delay = record { gates = []; offered = []; rows = []; reached = [] };
      acks = new_ledger
          here;
      orders = [];
      frames = [];
      delivered = [];
      pushed = [];
    }) (before_event (opening here config))
fits_before here config = record {
  core = refl;
  opened = record {
    rows = refl;
    boxes = refl;
    unused = λ k none. refl;
  };
  groups = refl;
  messages = record {
    kept_in = refl;
    fresh = λ n past. refl;
    counted = refl;
  };
  processes = record {
    delay = subst (λ ps. QueueFits config.groups (λ g. open_gate 0) ps [] (record { gates = []; offered = []; rows = []; reached = [] }))
        (λ i p. idle p i) (new_fits config.groups);
    admitted = λ k remains. absurd (false≢true (sym remains));
    has_row = λ k. false;
    rows = refl;
    idle = λ k none. subst HasNotBegun (idle (record { site = here; serial = k })) (record { time = refl; delivered = refl });
  };
  acks = acks_new_fits here (is_live (before_event (opening here config)));
  orders = λ g. record {
    tokens = λ k. refl;
    own = (refl, refl);
    tells = λ _. record {
      fits = order_new_fits g (goes_on (before_event (opening here config)) g) (has_passed (before_event (opening here config)) g);
      hands = λ k. record {
        stable = 0;
        reached = omega arith;
        fits = new_hand_fits (record { site = here; serial = k }) (order_told (before_event (opening here config)) g);
        counted = λ x in_it. let inside = in_it.1 in absurd (omega arith);
      };
      gone = λ e among. absurd (false≢true among);
    };
    closed = λ waits. absurd (false≢true waits);
  };
  frames = refl;
  delivered = refl;
  pushed = refl;
}
  where
    idle : (p : Proc) → no_process ≡ process_named (before_event (opening here config)) p
    idle p = elim (site_eq p.site here) as (λ b. no_process ≡ (if b then no_process else no_process)) [ true ↦ refl | false ↦ refl ]
