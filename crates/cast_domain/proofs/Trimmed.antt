-- What a domain forgets of its orders is nothing that its history tells: the records stand for the same history.
use Rattle.std.proofs.Common.{◌≡◌, ℕ, zero, suc, ◌+◌, ◌-◌, ◌<◌, ◌≤◌, min, Bool, true, false, not, ◌&&◌, ◌||◌}
use Rattle.std.proofs.Common.{List, [], ◌∷◌, length, take, drop, Some, refl, sym, ap, subst, ◌∙◌, inl, inr, arith}
use Rattle.std.specs.Prelude.{nat_lt, nat_le, if◌then◌else◌, slice_get, is_some}
use Rattle.std.specs.List.{fold, list_all, list_any, range_with_len, position_or_len}
use Rattle.std.proofs.lemmas.Bool.{cases_Bool, false≢true, not-true, and_parts, and_from, or_cases, ltb-true, leb-true}
use Rattle.std.proofs.lemmas.List.{length-map}
use Rattle.std.proofs.lemmas.List.Folds.{list_any-append}
use Rattle.cast_types.specs.declared.names.GroupNo.{GroupNo}
use Rattle.cast_types.specs.declared.names.Proc.{Proc}
use Rattle.cast_types.specs.declared.limits.TheConstants.{MAX_POSITION}
use Rattle.cast_types.specs.Names.{Entry, site_eq, group_eq, uid_eq, entry_eq, uid_in}
use Rattle.cast_types.specs.Sets.{is_among}
use Rattle.cast_types.proofs.Orders.{same_group, same_entry, site_itself}
use Rattle.cast_clock.specs.Times.{count_in}
use Rattle.cast_message.proofs.Places.{position_or_len_found, position_or_len_within}
use Rattle.cast_ready.specs.Ready.{is_member, has_delivered}
use Rattle.cast_delay.proofs.Finds.{none_before}
use Rattle.cast_delay.proofs.Queues.{member_admitted}
use Rattle.cast_order.specs.Log.{Log, log_of, change_in, oldest_in, forgot}
use Rattle.cast_order.specs.Fits.{FitsClosed}
use Rattle.cast_order.specs.Laws.{AreOldest}
use Rattle.cast_order.proofs.Lists.{all_first, take_on}
use Rattle.cast_order.proofs.Logs.{log_of_forget_first}
use Rattle.cast_order.proofs.Meanings.{forget_fits, oldest_rules}
use Rattle.cast_domain.specs.declared.record.GroupRecord.{GroupRecord}
use Rattle.cast_rules.specs.State.{State, no_process, local, gate_of}
use Rattle.cast_rules.specs.Order.{order_told, facts_in}
use Rattle.cast_rules.specs.Reports.{is_delivered_here}
use Rattle.cast_rules.specs.Lawful.{IsLawful}
use Rattle.cast_rules.proofs.Lawful.{range_all}
use Rattle.cast_domain.specs.Records.{Records}
use Rattle.cast_domain.specs.PartCalls.{standing_of, time_of}
use Rattle.cast_domain.specs.FlushCalls.{is_awaited_of, is_received_of}
use Rattle.cast_domain.specs.ReleaseCalls.{log_in}
use Rattle.cast_domain.specs.Trims.{is_counted_of, is_past_of, is_kept_among, is_over_of, count_first, trim_in, trim_all_in}
use Rattle.cast_domain.specs.Fits.{Fits, LogFits, TellsOrder, IsOver, is_still_kept, record_for, process_named, goes_on, has_passed}
use Rattle.cast_domain.proofs.Standing.{record_there, standing_there, time_there, process_here, member_row}
use Rattle.cast_domain.proofs.LogSteps.{none_left}
use Rattle.cast_domain.proofs.CommandSteps.{any_message}
use Rattle.cast_domain.proofs.Rows.{row_given}
use Rattle.cast_domain.proofs.Reports.{received_same, awaited_here}

-- The first ids of a list

-- all before the first that fails a test pass it
first_pass : (test : Entry → Bool) (ids : List Entry) → list_all test (take (count_first test ids) ids) ≡ true
first_pass test ids =
    ap (λ n. list_all test (take n ids)) (position_or_len_found (λ e. not (test e)) ids)
    ∙ none_left test (take (position_or_len (λ e. not (test e)) ids) ids) (none_before (λ e. not (test e)) ids)

first_within : (test : Entry → Bool) (ids : List Entry) → count_first test ids ≤ length ids
first_within test ids =
    subst (λ n. n ≤ length ids) (sym (position_or_len_found (λ e. not (test e)) ids)) (position_or_len_within (λ e. not (test e)) ids)

-- the first of the first are the first
take_first : (n m : ℕ) (xs : List Entry) → n ≤ m → take n (take m xs) ≡ take n xs
take_first zero m xs le = refl
take_first (suc n) zero xs le = absurd (omega arith)
take_first (suc n) (suc m) [] le = refl
take_first (suc n) (suc m) (x ∷ xs) le = ap (λ rest. x ∷ rest) (take_first n m xs (omega arith))

-- one of a list passes what all pass
one_of_all : (test : Entry → Bool) (xs : List Entry) → list_all test xs ≡ true → (e : Entry) → is_among entry_eq e xs ≡ true → test e ≡ true
one_of_all test [] all e among = absurd (false≢true among)
one_of_all test (x ∷ xs) all e among =
    let parts = and_parts (test x) (list_all test xs) all in
    elim (or_cases (entry_eq e x) (is_among entry_eq e xs) among) [
      | inl here ↦ ap test (same_entry e x here) ∙ parts.0
      | inr later ↦ one_of_all test xs parts.1 e later
    ]

all_then : (test next : Entry → Bool) → ((e : Entry) → test e ≡ true → next e ≡ true) → (xs : List Entry) → list_all test xs ≡ true →
    list_all next xs ≡ true
all_then test next follows [] all = refl
all_then test next follows (x ∷ xs) all =
    let parts = and_parts (test x) (list_all test xs) all in
    and_from (next x) (list_all next xs) (follows x parts.0) (all_then test next follows xs parts.1)

-- nothing more is forgotten
forgot_none : (l : Log) → forgot 0 l ≡ l
forgot_none l =
    let none : min (MAX_POSITION - l.base) (min 0 (length l.window)) ≡ 0 = omega arith in
    let base : l.base + min (MAX_POSITION - l.base) (min 0 (length l.window)) ≡ l.base = omega (arith, none) in
    λ i. record l { base = base i; window = drop (none i) l.window }

module _ (r : Records) (s : State) (fits : Fits r s) (lawful : IsLawful s) (g : GroupNo) where
  -- the test of what is over
  abbrev over_test : Entry → Bool
  over_test = is_over_of r (record_for s g) r.part.kept

  -- what passes it is over in the history

  abbrev message_there : Entry → Bool
  message_there e = is_still_kept s (uid_in g (s.group g).number e)

  kept_there : (e : Entry) → is_kept_among r.part.kept (uid_in g (s.group g).number e) ≡ message_there e
  kept_there e =
      any_message (λ m. uid_eq m.id (uid_in g (s.group g).number e)) r.part.kept
      ∙ ap (list_any (λ m. uid_eq m.id (uid_in g (s.group g).number e))) fits.messages.kept_in

  counted_there : (n k : ℕ) → is_counted_of r (record_for s g) (local s k, n) ≡ true → is_member ((s.process k).standing g) ≡ true →
      n ≤ count_in (s.process k).time g (local s k)
  counted_there n k counted member =
      let here : site_eq s.here r.site ≡ true = ap (λ x. site_eq s.here x) (ap (λ c. c.site) fits.core) ∙ site_itself s.here in
      let stands : is_member (standing_of r.delay (local s k) g) ≡ true = ap is_member (standing_there r s fits k g) ∙ member in
      let (row, at) =
      member_admitted s.config.groups (gate_of s) (process_named s) r.part.kept r.delay fits.processes.delay (local s k)
      g (ap (λ p. is_member (p.standing g)) (process_here s k) ∙ member) in
      let time = time_there r s fits k (ap is_some at) in
      let is : nat_le n (count_in (time_of r.delay (local s k)) g (local s k)) ≡ true =
      sym (λ i. not (here i && stands i) || nat_le n (count_in (time_of r.delay (local s k)) g (local s k))) ∙ counted in
      leb-true n (count_in (s.process k).time g (local s k)) (ap (λ t. nat_le n (count_in t g (local s k))) (sym time) ∙ is)

  -- what the test asks
  record OverParts (e : Entry) : Type 0 where
    pub some : nat_lt 0 e.1 ≡ true
    pub received : is_received_of r (record_for s g) e ≡ true
    pub let_go : not (is_kept_among r.part.kept (uid_in g (s.group g).number e)) ≡ true
    pub delivered : not (is_awaited_of r (record_for s g) e) ≡ true
    pub counted : is_counted_of r (record_for s g) e ≡ true

  over_parts : (e : Entry) → over_test e ≡ true → OverParts e
  over_parts e is =
      let a = and_parts (is_received_of r (record_for s g) e) _ is in
      let b = and_parts (not (is_kept_among r.part.kept (uid_in g (s.group g).number e))) (is_past_of r (record_for s g) e) a.1 in
      let c = and_parts (nat_lt 0 e.1) _ b.1 in
      let d = and_parts (not (is_awaited_of r (record_for s g) e)) (is_counted_of r (record_for s g) e) c.1 in
      record { some = c.0; received = a.0; let_go = b.0; delivered = d.0; counted = d.1 }

  over_there : (e : Entry) → over_test e ≡ true → IsOver s g e
  over_there e is =
      let parts = over_parts e is in
      record {
        received = sym (received_same r s fits g lawful e (ltb-true 0 e.1 parts.some)) ∙ parts.received;
        let_go = sym (kept_there e) ∙ not-true (is_kept_among r.part.kept (uid_in g (s.group g).number e)) parts.let_go;
        counted =
            λ k member own. counted_there e.1 k (subst (λ p. is_counted_of r (record_for s g) (p, e.1) ≡ true) own parts.counted) member;
      }

  -- and each member here has delivered it
  passed_here : (e : Entry) → is_delivered_here s g e ≡ true → (p : Proc) → goes_on s g p ≡ true → has_passed s g p e ≡ true
  passed_here e all p on = at (site_eq p.site s.here) on
    where
      at : (b : Bool) → is_member ((if b then s.process p.serial else no_process).standing g) ≡ true →
          has_delivered (if b then s.process p.serial else no_process) (uid_in g (s.group g).number e) ≡ true
      at true member =
          let given =
          row_given s r.delay.rows fits.processes.has_row s.used fits.processes.rows p.serial (member_row r s fits p.serial g member) in
          let parts = and_parts (nat_lt 0 p.serial) (nat_le p.serial s.used) given in
          let low = ltb-true 0 p.serial parts.0 in
          let high = leb-true p.serial s.used parts.1 in
          range_all (λ k. is_member ((s.process k).standing g)) (λ k. has_delivered (s.process k) (uid_in g (s.group g).number e))
          1 s.used all p.serial (omega (arith, low)) (omega (arith, high)) member
      at false member = absurd (false≢true member)

  passed_there : (p : Proc) → goes_on s g p ≡ true → (e : Entry) → over_test e ≡ true → has_passed s g p e ≡ true
  passed_there p on e is =
      let parts = over_parts e is in
      passed_here e (sym (awaited_here r s fits g e (ltb-true 0 e.1 parts.some)) ∙ parts.delivered) p on

  -- The log of the group

  abbrev log : Log
  log = log_of r.orders g

  abbrev over : ℕ
  over = count_first over_test (oldest_in log)

  oldest : AreOldest log (oldest_in log)
  oldest = oldest_rules log

  all_over : list_all over_test (take over log.window) ≡ true
  all_over =
      let ids : List Entry = oldest_in log in
      sym (ap (λ xs. list_all over_test (take over xs)) oldest.first
      ∙ ap (list_all over_test) (take_first over (length ids) log.window (first_within over_test ids)))
      ∙ first_pass over_test ids

  tells_trimmed : TellsOrder s g log → TellsOrder s g (forgot over log)
  tells_trimmed f =
      let few = first_within over_test (oldest_in log) in
      let most = oldest.few in
      record {
        fits = forget_fits (facts_in s g) (goes_on s g) (has_passed s g) log f.fits over
            (λ p on. all_then over_test (has_passed s g p) (passed_there p on) (take over log.window) all_over)
            (omega (arith, few, most));
        hands = f.hands;
        gone = λ e among.
            elim (or_cases (is_among entry_eq e (take log.base (order_told s g))) (is_among entry_eq e (take more log.window))
            (sym (parted f e) ∙ among)) [
              | inl before ↦ f.gone e before
              | inr now ↦
                  over_there e
                  (one_of_all over_test (take more log.window) (all_first over_test more over log.window (omega arith) all_over) e now)
            ];
      }
    where
      more : ℕ
      more = min (MAX_POSITION - log.base) (min over (length log.window))

      parted : TellsOrder s g log → (e : Entry) → is_among entry_eq e (take (log.base + more) (order_told s g))
          ≡ (is_among entry_eq e (take log.base (order_told s g)) || is_among entry_eq e (take more log.window))
      parted f e =
          ap (is_among entry_eq e) (take_on log.base more (order_told s g))
          ∙ list_any-append (entry_eq e) (take log.base (order_told s g)) (take more (drop log.base (order_told s g)))
          ∙ ap (λ rest. is_among entry_eq e (take log.base (order_told s g)) || is_among entry_eq e (take more rest)) (sym f.fits.window)

  -- of a closed order nothing is forgotten
  closed_stays : FitsClosed (s.closed g) (goes_on s g) (has_passed s g) log →
      FitsClosed (s.closed g) (goes_on s g) (has_passed s g) (forgot over log)
  closed_stays f =
      let none : over ≡ 0 = ap (count_first over_test) (oldest.ended f.closed) in
      subst (FitsClosed (s.closed g) (goes_on s g) (has_passed s g)) (sym (ap (λ n. forgot n log) none ∙ forgot_none log)) f

  log_trimmed : LogFits s g (forgot over log)
  log_trimmed = record {
    tokens = (fits.orders g).tokens;
    own = (fits.orders g).own;
    tells = λ none. tells_trimmed ((fits.orders g).tells none);
    closed = λ waits. closed_stays ((fits.orders g).closed waits);
  }

  logs_trimmed : (h : GroupNo) → LogFits s h (log_of (change_in g (forgot over) r.orders) h)
  logs_trimmed h =
      subst (LogFits s h) (sym (log_of_forget_first r.orders g h over))
      (elim (cases_Bool (group_eq g h)) [
        | inl same ↦
            subst (LogFits s h) (sym (ap (λ b. if b then forgot over log else log_of r.orders h) same))
            (subst (λ x. LogFits s x (forgot over log)) (same_group g h same) log_trimmed)
        | inr apart ↦ subst (LogFits s h) (sym (ap (λ b. if b then forgot over log else log_of r.orders h) apart)) (fits.orders h)
      ])

-- The records

-- over a record of the group that is at hand
abbrev trimmed_at : Records → GroupRecord → Records
trimmed_at r x = record r {
  orders = change_in x.name (forgot (count_first (is_over_of r x r.part.kept) (oldest_in (log_in r x.name)))) r.orders;
}

fits_trim : (r : Records) (s : State) → Fits r s → IsLawful s → (i : ℕ) (g : GroupNo) → slice_get s.config.groups i ≡ Some g →
    Fits (trim_in r.part.kept r i) s
fits_trim r s fits lawful i g at =
    subst (λ x. Fits (trimmed_at r x) s) (sym (record_there r s fits i g at))
    (record {
      core = fits.core;
      opened = fits.opened;
      groups = fits.groups;
      messages = fits.messages;
      processes = fits.processes;
      acks = fits.acks;
      orders = logs_trimmed r s fits lawful g;
      frames = fits.frames;
      delivered = fits.delivered;
      pushed = fits.pushed;
    })

-- each place from one on has a group
fits_trim_from : (n a : ℕ) (r : Records) (s : State) → Fits r s → IsLawful s → a + n ≤ length s.config.groups →
    Fits (fold (trim_in r.part.kept) r (range_with_len a n)) s
fits_trim_from zero a r s fits lawful within = fits
fits_trim_from (suc n) a r s fits lawful within =
    let (g, at) = group_at s.config.groups a (omega arith) in
    fits_trim_from n (a + 1) (trim_in r.part.kept r a) s (fits_trim r s fits lawful a g at) lawful (omega (arith, within))
  where
    group_at : (gs : List GroupNo) (i : ℕ) → i < length gs → (g : GroupNo) × (slice_get gs i ≡ Some g)
    group_at [] i lt = absurd (omega arith)
    group_at (g ∷ gs) zero lt = (g, refl)
    group_at (g ∷ gs) (suc i) lt = group_at gs i (omega arith)

-- what is over is forgotten of all orders, and the records stand for the same history
pub fits_trim_all : (r : Records) (s : State) → Fits r s → IsLawful s → Fits (trim_all_in r.part.kept r) s
fits_trim_all r s fits lawful =
    fits_trim_from (length r.groups) 0 r s fits lawful
    (let same = ap length fits.groups in let mapped = length-map s.config.groups (record_for s) in omega (arith, same, mapped))
