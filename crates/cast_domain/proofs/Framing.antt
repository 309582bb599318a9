-- What a rule changes of a domain's records it changes of their history.
use Rattle.std.proofs.Common.{◌≡◌, ◌<◌, true, false, ◌&&◌, ◌||◌, List, [], ◌∷◌, length, map, ℕ}
use Rattle.std.proofs.Common.{zero, suc, ◌+◌, Some, refl, sym, ap, subst, ◌∙◌, Option, None, arith}
use Rattle.std.specs.Prelude.{◌==◌, ◌+◌, not, nat_lt, nat_le, min, slice_get, is_some}
use Rattle.cast_events.specs.declared.limits.TheConstants.{MAX_CASTS}
use Rattle.std.specs.List.{list_all, list_any, range_with_len}
use Rattle.std.proofs.lemmas.Bool.{and_parts, eqb-true, eq-eqb, ltb-true, or_right}
use Rattle.std.proofs.lemmas.List.{length-map}
use Rattle.cast_types.specs.declared.names.SiteNo.{SiteNo}
use Rattle.cast_types.specs.declared.names.GroupNo.{GroupNo}
use Rattle.cast_types.specs.declared.names.Uid.{Uid}
use Rattle.cast_types.specs.declared.names.Standing.TheVariants.{Outside, Joining}
use Rattle.cast_types.specs.Names.{site_eq, proc_eq, uid_eq}
use Rattle.cast_types.specs.Sets.{is_among}
use Rattle.cast_types.proofs.Bools.{same_bools}
use Rattle.cast_types.proofs.Orders.{same_uid, uid_itself}
use Rattle.cast_clock.specs.Times.{clock_of, count_in}
use Rattle.cast_types.specs.Counts.{is_within}
use Rattle.cast_types.specs.Names.{group_eq}
use Rattle.cast_types.specs.Sources.{source_of}
use Rattle.cast_message.specs.Tail.{Tail}
use Rattle.cast_order.specs.Log.{log_of, change_log, closed_by, hand_here}
use Rattle.cast_message.specs.declared.message.Message.{Message}
use Rattle.cast_message.specs.declared.message.Received.{Received}
use Rattle.cast_message.specs.declared.site.SiteFrame.{SiteFrame}
use Rattle.cast_message.specs.declared.client.Command.{Command}
use Rattle.cast_stable.specs.Acks.{is_received_in}
use Rattle.cast_stable.proofs.Meanings.{stable_meant}
use Rattle.std.specs.Prelude.{IsSome}
use Rattle.std.proofs.lemmas.Bool.{false≢true}
use Rattle.cast_ready.specs.Ready.{Process, frozen_gate, pending_gate, is_member, is_outside}
use Rattle.cast_delay.proofs.Queues.{freeze_fits, pend_fits}
use Rattle.cast_ready.specs.declared.row.Row.{Row}
use Rattle.cast_delay.specs.Queue.{row_of}
use Rattle.cast_delay.specs.Fits.{IsSound, StandsFor}
use Rattle.cast_ready.specs.declared.row.ProcessUpdate.TheVariants as fact
use Rattle.cast_timer.specs.declared.key.OwedKind.TheVariants.{Want}
use Rattle.cast_timer.specs.Owed.{is_owed}
use Rattle.cast_view.specs.declared.member.Pending.{Pending}
use Rattle.cast_view.specs.MemberSide.{is_pending, with_request, with_answer, frozen_side, with_pending, has_view, is_current, members_of}
use Rattle.cast_events.specs.Session.{is_open_status, is_gone_status}
use Rattle.cast_view.specs.Home.{apply_move}
use Rattle.cast_rules.specs.State.{State, gate_of, local, set_standing, going, outside}
use Rattle.cast_rules.specs.State.{acts_outside, is_received, receiving, others_of, noting_sent}
use Rattle.cast_rules.specs.Effects.{next_message}
use Rattle.cast_rules.specs.Entering.{freezing, pending_install}
use Rattle.cast_rules.specs.History.{history}
use Rattle.cast_rules.specs.Lawful.{IsLawful, IsTypedFrame}
use Rattle.cast_rules.specs.Rules.Keys.{message_key}
use Rattle.cast_rules.specs.Rules.Data.{counts_itself, names_member, is_well_formed}
use Rattle.cast_rules.specs.Rules.Leaving.{leave_all}
use Rattle.cast_rules.specs.Rules.Commands.{message_sent, on_command}
use Rattle.cast_rules.specs.Rules.Home.{suspect}
use Rattle.cast_rules.specs.Rules.Frames.{on_site_frame}
use Rattle.cast_rules.proofs.Rules.Follows.{FollowsAll, AllAt, IsTaken, IsBrought, sent_here, with_invariant, invariant_asks}
use Rattle.cast_rules.proofs.Rules.Data.{used_counts}
use Rattle.cast_rules.proofs.Rules.Leaving.{leave_all_follows}
use Rattle.cast_rules.proofs.Rules.Commands.{on_command_follows}
use Rattle.cast_rules.proofs.Rules.Home.{suspect_follows}
use Rattle.cast_rules.proofs.Rules.Frames.{on_site_frame_follows}
use Rattle.cast_rules.proofs.SameLaw.{same_pushing, same_closing}
use Rattle.cast_rules.proofs.LawfulMessages.{local_speaks}
use Rattle.cast_rules.proofs.LawfulSteps.{placed_at, taken_current, entered, all_lawful, lawful_going, taken_speaks}
use Rattle.cast_domain.specs.declared.record.GroupRecord.{GroupRecord}
use Rattle.cast_domain.specs.Records.{Records}
use Rattle.cast_domain.specs.PartCalls.{record_at, standing_of, time_of, tell_in, go_in, receive_in, awaits_own_in}
use Rattle.cast_domain.specs.FlushCalls.{freeze_in, pend_in}
use Rattle.cast_domain.specs.ReleaseCalls.{place_to_pass_of}
use Rattle.cast_domain.specs.Calls.{records}
use Rattle.cast_domain.specs.Fits.{process_named, record_for, LogFits, Fits, past_of}
use Rattle.cast_domain.proofs.Acting.{quiet_outside, logs_quiet}
use Rattle.cast_domain.proofs.Standing.{process_here, record_there, standing_there, time_there, orders_group}
use Rattle.cast_domain.proofs.SessionChanges.{open_row, status_there, box_there, fits_push, fits_counted, fits_close, fits_go}
use Rattle.cast_domain.proofs.GroupChanges.{fits_here, fits_gated, fits_home}
use Rattle.cast_domain.proofs.ProcessChanges.{fits_standing, fits_told, fits_acts}
use Rattle.cast_domain.proofs.Arrivals.{fits_receive}
use Rattle.cast_domain.proofs.Logs.{logs_close, new_unreceived}
use Rattle.cast_domain.proofs.Ordering.{place_to_pass_there, unfrozen_waits}
use Rattle.cast_domain.proofs.Reports.{report_there}
use Rattle.cast_domain.proofs.Following.{records_ask, FitsIn, IsAt, records_follow, asked_of}
use Rattle.cast_domain.proofs.Passing.{fits_pass, members_there, gone_there}
use Rattle.cast_domain.proofs.Releases.{fits_release_ended}
use Rattle.cast_domain.proofs.CommandSteps.{awaits_own_there, fits_sent_here}
use Rattle.cast_domain.proofs.Receipts.{live_now}
use Rattle.cast_rules.specs.Rules.Stability.{is_used_ack}

-- Messages of other sites

-- the count and the view of a message that counts itself are sound
sound_counts : (m : Message) → counts_itself m ≡ true → IsSound m
sound_counts m h =
    let a =
    and_parts ((clock_of m.times m.id.group).view == m.id.view)
    (nat_lt 0 m.id.count && (count_in m.times m.id.group m.id.proc == m.id.count)) h in
    let b = and_parts (nat_lt 0 m.id.count) (count_in m.times m.id.group m.id.proc == m.id.count) a.1 in
    record {
      from_one = ltb-true 0 m.id.count b.0;
      view = eqb-true (clock_of m.times m.id.group).view m.id.view a.0;
      count = eqb-true (count_in m.times m.id.group m.id.proc) m.id.count b.1;
    }

uid_turned : (u v : Uid) → uid_eq u v ≡ uid_eq v u
uid_turned u v =
    same_bools (uid_eq u v) (uid_eq v u) (λ e. ap (uid_eq v) (same_uid u v e) ∙ uid_itself v)
    (λ e. ap (uid_eq u) (same_uid v u e) ∙ uid_itself u)

-- what was received is among the ids of what was received
received_ids : (u : Uid) (got : List Message) → is_among uid_eq u (map (λ m. m.id) got) ≡ list_any (λ m. uid_eq m.id u) got
received_ids u [] = refl
received_ids u (m ∷ got) = λ i. uid_turned u m.id i || received_ids u got i

received_there : (r : Records) (s : State) → Fits r s → (u : Uid) → asked_of s u → 0 < u.count → is_received_in r.acks u ≡ is_received s u
received_there r s f u asked counted = f.acks.receipts u asked counted ∙ received_ids u s.got

-- whose acknowledgement is used, and what is received, is of a live source
used_live : (s : State) (g : GroupNo) (from : SiteNo) (u : Uid) → history.place s u.group ≡ Some g → is_used_ack history s g from u ≡ true →
    asked_of s u
used_live s g from u at used =
    let there = placed_at s u.group g at in
    let first =
    and_parts (is_current (s.group g) u.view)
    (nat_lt 0 u.count && (site_eq u.proc.site s.here && is_among site_eq from (others_of s u.group))) used in
    let counted = and_parts (nat_lt 0 u.count) (site_eq u.proc.site s.here && is_among site_eq from (others_of s u.group)) first.1 in
    let local = and_parts (site_eq u.proc.site s.here) (is_among site_eq from (others_of s u.group)) counted.1 in
    live_now s (source_of u)
    (ap (λ h. (s.group h).number) there.1
    ∙ eqb-true (s.group g).number u.view (and_parts (has_view (s.group g)) ((s.group g).number == u.view) first.0).1)
    (or_right (is_among proc_eq u.proc (members_of (s.group u.group))) (site_eq u.proc.site s.here) local.0)

taken_live : (s : State) (g : GroupNo) (from : SiteNo) (m : Message) → IsTaken history s g from m → asked_of s m.id
taken_live s g from m taken = live_now s (source_of m.id) (sym (taken_current s g from m taken)) (taken_speaks s g from m taken)

taken_counted : (s : State) (g : GroupNo) (from : SiteNo) (m : Message) → IsTaken history s g from m → 0 < m.id.count
taken_counted s g from m taken = (sound_counts m (used_counts history s g from m taken.used)).from_one

fits_taken : (r : Records) (s : State) → Fits r s → (g : GroupNo) (from : SiteNo) (m : Message) → IsTaken history s g from m →
    is_received s m.id ≡ false → Fits (receive_in r m) (receiving s m)
fits_taken r s f g from m taken new =
    fits_receive r s f m (sound_counts m (used_counts history s g from m taken.used))
    (eq-eqb m.id.view (s.group m.id.group).number (taken_current s g from m taken))
    (new_unreceived s m.id.group m (log_of r.orders m.id.group) new (f.orders m.id.group))

-- a message that the home forwards is of the view of its group, in which an Install waits, and well formed in it
brought_waits : (s : State) (g : GroupNo) (m : Message) → IsBrought history s g m → is_pending (s.group m.id.group) ≡ true
brought_waits s g m brought =
    let there = placed_at s m.id.group g brought.at in
    let waits = and_parts (is_pending (s.group g)) _ brought.wanted in
    ap (λ h. is_pending (s.group h)) there.1 ∙ waits.0

fits_brought : (r : Records) (s : State) → Fits r s → (g : GroupNo) (m : Message) → IsBrought history s g m →
    Fits (receive_in r m) (receiving s m)
fits_brought r s f g m brought =
    let there = placed_at s m.id.group g brought.at in
    let a = and_parts (is_pending (s.group g)) _ brought.wanted in
    let b = and_parts (is_owed s.owed (message_key Want m.id s.config.home)) _ a.1 in
    let c = and_parts (m.id.view == (s.group g).number) (is_well_formed history s (members_of (s.group g)) m) b.1 in
    let d = and_parts (list_all (λ x. is_among group_eq x.0 s.config.groups) m.times) _ c.1 in
    let e = and_parts (is_among proc_eq m.id.proc (members_of (s.group g))) _ d.1 in
    fits_receive r s f m (sound_counts m (and_parts (names_member (members_of (s.group g)) m.body) (counts_itself m) e.1).1)
    (ap (λ h. m.id.view == (s.group h).number) there.1 ∙ c.0)
    (λ none. absurd (false≢true (sym none ∙ brought_waits s g m brought)))

-- A flush at a site

-- its group is frozen
fits_freeze : (r : Records) (s : State) → Fits r s → IsLawful s → (i : ℕ) (g : GroupNo) → slice_get s.config.groups i ≡ Some g →
    Fits (freeze_in r i) (freezing s g)
fits_freeze r s f l i g at =
    fits_gated r s f l i g at frozen_side refl refl frozen_gate refl
    (freeze_fits s.config.groups (gate_of s) (process_named s) r.part.kept r.delay f.processes.delay g) r.orders s.closed
    (orders_group s g (frozen_side (s.group g)) r.orders refl refl refl f.orders)

-- an Install waits, and the order is closed
fits_pend : (r : Records) (s : State) → Fits r s → IsLawful s → (i : ℕ) (g : GroupNo) → slice_get s.config.groups i ≡ Some g →
    (p : Pending) (tail : Tail) → is_pending (s.group g) ≡ false → Fits (pend_in r i p tail) (pending_install s g p tail)
fits_pend r s f l i g at p tail first =
    let name : (record_at r.groups i).name ≡ g = ap (λ (x : GroupRecord). x.name) (record_there r s f i g at) in
    fits_gated r s f l i g at (λ x. with_pending x p) refl refl (pending_gate p.cut)
    refl (pend_fits s.config.groups (gate_of s) (process_named s) r.part.kept r.delay f.processes.delay g p.cut)
    (change_log (record_at r.groups i).name (closed_by (is_within p.cut) tail.start tail.ids) r.orders) (pending_install s g p tail).closed
    (subst (λ h. (x : GroupNo) →
    LogFits (pending_install s g p tail) x (log_of (change_log h (closed_by (is_within p.cut) tail.start tail.ids) r.orders) x)) (sym name)
    (logs_close s g p tail r.orders first f.orders))

-- who is in a group, or joins it, has a row
placed_row : (r : Records) (s : State) → Fits r s → (k : ℕ) (g : GroupNo) → is_outside ((s.process k).standing g) ≡ false →
    IsSome (row_of r.delay.rows (local s k))
placed_row r s f k g inside = of_row (row_of r.delay.rows (local s k)) (f.processes.delay.rows (local s k))
  where
    of_row : (o : Option Row) → StandsFor (gate_of s) (process_named s (local s k)) o → IsSome o
    of_row (Some row) told = refl
    of_row None none =
        absurd (false≢true (sym inside ∙ ap is_outside (sym (ap (λ (p : Process). p.standing g) (process_here s k)) ∙ none g)))

-- The records stand for a lawful history of a domain of these groups

abbrev pub StandsIn : List GroupNo → Records → State → Type 0
StandsIn groups r s = FitsIn groups r s × IsLawful s

module _ (groups : List GroupNo) where
  pub there : (r : Records) (s : State) → StandsIn groups r s → (i : ℕ) (g : GroupNo) → IsAt groups i g →
      slice_get s.config.groups i ≡ Some g
  there r s f i g at = ap (λ l. slice_get l i) f.0.1 ∙ at

  -- places from one on are those of the groups that stand there
  places_from : (gs : List GroupNo) (a : ℕ) → ((i : ℕ) (g : GroupNo) → slice_get gs i ≡ Some g → slice_get groups (a + i) ≡ Some g) →
      AllAt (IsAt groups) (range_with_len a (length gs)) gs
  places_from [] a at = tt
  places_from (g ∷ gs) a at = (
    subst (λ j. slice_get groups j ≡ Some g) (omega arith) (at zero g refl),
    places_from gs (a + 1) (λ i h is. subst (λ j. slice_get groups j ≡ Some h) (omega arith) (at (suc i) h is)),
  )

  asks : (s : State) (u : Uid) → asked_of s u →
      (with_invariant records history (FitsIn groups) (IsAt groups) IsLawful (records_follow groups) all_lawful.keeps).asked s u
  asks s u asked =
      invariant_asks records history (FitsIn groups) (IsAt groups) IsLawful (records_follow groups)
      all_lawful.keeps s u (records_ask groups s u asked)

  pub records_follow_all : FollowsAll records history (StandsIn groups) (IsAt groups)
  records_follow_all = record {
    follows = with_invariant records history (FitsIn groups) (IsAt groups) IsLawful (records_follow groups) all_lawful.keeps;
    name = λ r s f i g at. ap (λ (x : GroupRecord). x.name) (record_there r s f.0.0 i g (there r s f i g at));
    places = λ r s f.
        subst (λ n. AllAt (IsAt groups) (range_with_len 0 n) s.config.groups)
        (sym (ap length f.0.0.groups ∙ length-map s.config.groups (record_for s)))
        (places_from s.config.groups 0
        (λ i g at. subst (λ j. slice_get groups j ≡ Some g) (omega arith) (sym (ap (λ l. slice_get l i) f.0.1) ∙ at)));
    held = λ r s f. sym (length-map r.part.kept (λ (x : Received). x.message)) ∙ ap length f.0.0.messages.kept_in;
    used = λ s g from u at is_used. asks s u (used_live s g from u at is_used);
    sent = λ s h k g content is_sent.
        let placed = placed_at s g h is_sent.at in
        let id = (message_sent history s k g h content).id in
        asks (sent_here history s h k g content)
        id (live_now s (source_of id) (ap (λ x. (s.group x).number) placed.1) (local_speaks s g k));
    is_received = λ r s f g from m taken. received_there r s f.0.0 m.id (taken_live s g from m taken) (taken_counted s g from m taken);
    is_stable = λ r s f g from m taken new.
        stable_meant (past_of (receiving s m)) (receive_in r m).acks (fits_taken r s f.0.0 g from m taken new).acks m.id
        (taken_live s g from m taken) (taken_counted s g from m taken);
    quotas = λ r s f. ap (λ c. c.quotas) f.0.0.core;
    is_open = λ r s f k. ap is_open_status (status_there r s f.0.0 k);
    is_full = λ r s f k. λ i. nat_le (f.0.0.core i).quotas.outbox (length (box_there r s f.0.0 k i));
    members = λ r s f i g at. members_there r s f.0.0 i g (there r s f i g at);
    put_out = λ r s f i g at skips members. gone_there r s f.0.0 i g (there r s f i g at) skips members;
    standing = λ r s f k g. ap (λ t. standing_of r.delay (record { site = t; serial = k }) g) (ap (λ c. c.site) f.0.0.core)
        ∙ standing_there r s f.0.0 k g;
    time = λ r s f k given. ap (λ t. time_of r.delay (record { site = t; serial = k })) (ap (λ c. c.site) f.0.0.core)
        ∙ time_there r s f.0.0 k (open_row r s f.0.0 k given);
    awaits_own = λ r s f k given. ap (λ t. awaits_own_in r (record { site = t; serial = k })) (ap (λ c. c.site) f.0.0.core)
        ∙ awaits_own_there r s f.0.0 f.1 k (open_row r s f.0.0 k given);
    holds = λ r s f i g at k.
        (λ j. is_some (hand_here (log_of r.orders (record_there r s f.0.0 i g (there r s f i g at) j).name)
        (record { site = (f.0.0.core j).site; serial = k })).first)
        ∙ ap is_some ((f.0.0.orders g).tokens k);
    place_to_pass = λ r s f i g at k named is member unfrozen.
        let here = placed_at s named g is in
        (λ j. place_to_pass_of r (record { site = (f.0.0.core j).site; serial = k }) (record_there r s f.0.0 i g (there r s f i g at) j))
        ∙ place_to_pass_there r s f.0.0 f.1 g k (unfrozen_waits s f.1 g (ap not unfrozen))
        (ap (λ h. is_member ((s.process k).standing h)) (sym here.1) ∙ member);
    push = λ r s f k given room p. (
      (fits_push r s f.0.0 k given p, ap (λ c. c.groups) (same_pushing s k p).config ∙ f.0.1),
      all_lawful.push s f.1 k given room p,
    );
    note_cast = λ r s f. ((fits_counted r s f.0.0 (λ q. q) (λ n. min MAX_CASTS (n + 1)), f.0.1), all_lawful.note_cast s f.1);
    note_joining = λ r s f k given g h at number heard. (
      (
        subst (λ t. Fits (tell_in r (record { site = t; serial = k }) (fact.Standing g (Joining number heard)))
            (set_standing s k g (Joining number heard))) (sym (ap (λ c. c.site) f.0.0.core))
            (fits_standing r s f.0.0 k (open_row r s f.0.0 k given) g (Joining number heard) (λ _. (placed_at s g h at).0) refl),
        f.0.1,
      ),
      all_lawful.note_joining s f.1 k given g h at number heard,
    );
    note_outside = λ r s f k g is. (
      (
        subst (λ t. Fits (tell_in r (record { site = t; serial = k }) (fact.Standing g Outside)) (outside s k g))
            (sym (ap (λ c. c.site) f.0.0.core))
            (fits_acts (tell_in r (local s k) (fact.Standing g Outside)) (set_standing s k g Outside)
            (fits_told r s f.0.0 k (placed_row r s f.0.0 k g is) (fact.Standing g Outside) (λ inside. absurd (false≢true (sym inside)))
            refl (λ h _. omega arith))
            (acts_outside s k g) r.orders
            (logs_quiet (set_standing s k g Outside) (acts_outside s k g) r.orders (quiet_outside s k g)
            (fits_told r s f.0.0 k (placed_row r s f.0.0 k g is) (fact.Standing g Outside) (λ inside. absurd (false≢true (sym inside)))
            refl (λ h _. omega arith)).orders)),
        f.0.1,
      ),
      all_lawful.note_outside s f.1 k g is,
    );
    sends = λ r s f i h at k g content sent. let placed = placed_at s g h sent.at in
        let same : message_sent history s k g h content ≡ next_message s g k content =
        ap (λ x. message_sent history s k g x content) (sym placed.1) in (
          (
            subst (λ m. Fits (sent_here records r i k g content) (receiving (noting_sent s k m) m)) (sym same)
                (fits_sent_here r s f.0.0 f.1 k i g (there r s f i g (at ∙ ap Some (sym placed.1))) content sent.member sent.raises),
            f.0.1,
          ),
          all_lawful.sends s f.1 h k g content sent,
        );
    receive = λ r s f g from m taken new. ((fits_taken r s f.0.0 g from m taken new, f.0.1), all_lawful.receive s f.1 g from m taken);
    brings = λ r s f g m brought. ((fits_brought r s f.0.0 g m brought, f.0.1), all_lawful.brings s f.1 g m brought);
    report = λ r s f i g at first. report_there r s f.0.0 f.1 i g (there r s f i g at) first;
    freeze = λ r s f i g at. ((fits_freeze r s f.0.0 f.1 i g (there r s f i g at), f.0.1), all_lawful.freeze s f.1 g);
    pend = λ r s f i g at p tail pended. (
      (fits_pend r s f.0.0 f.1 i g (there r s f i g at) p tail pended.first, f.0.1),
      all_lawful.pend s f.1 g p tail pended,
    );
    note_request = λ r s f i g at what p. (
      (fits_here r s f.0.0 f.1 i g (there r s f i g at) (λ x. with_request x what p) refl refl refl refl, f.0.1),
      all_lawful.note_request s f.1 g what p,
    );
    note_answer = λ r s f i g at.
        ((fits_here r s f.0.0 f.1 i g (there r s f i g at) with_answer refl refl refl refl, f.0.1), all_lawful.note_answer s f.1 g);
    move_home = λ r s f i g at move. (
      (fits_home r s f.0.0 f.1 i g (there r s f i g at) (apply_move move), f.0.1),
      all_lawful.move_home s f.1 g move,
    );
    enter_view = λ r s f i g at h skips n members request cut is. let e = entered s g h n members is in (
      (
        fits_pass r s f.0.0 f.1 i g (there r s f i g at) e.listed skips n members request cut is.typed e.later,
        f.0.1,
      ),
      all_lawful.enter_view s f.1 g h skips n members request cut is,
    );
    release_ended = λ r s f i g at. ((fits_release_ended r s f.0.0 i g (there r s f i g at), f.0.1), all_lawful.release_ended s f.1 g);
    is_gone = λ r s f k. ap is_gone_status (status_there r s f.0.0 k);
    close = λ r s f k given refusal. (
      (fits_close r s f.0.0 k given refusal, ap (λ c. c.groups) (same_closing s k refusal).config ∙ f.0.1),
      all_lawful.close s f.1 k given refusal,
    );
  }

-- So the records go on standing for the history

module _ (r : Records) (s : State) (f : Fits r s) (l : IsLawful s) where
  abbrev groups : List GroupNo
  groups = s.config.groups

  pub fits_on_command : (k : ℕ) (c : Command) → Fits (on_command records r k c) (on_command history s k c)
  fits_on_command k c =
      (on_command_follows records history (StandsIn groups) (IsAt groups) (records_follow_all groups) r s ((f, refl), l) k c).0.0

  pub fits_left : (k : ℕ) → Fits (leave_all records (go_in r k) k) (leave_all history (going s k) k)
  fits_left k =
      (leave_all_follows records history (StandsIn groups) (IsAt groups) (records_follow_all groups) (go_in r k) (going s k)
      ((fits_go r s f k, refl), lawful_going s k l) k).0.0

  pub fits_suspect : (site : SiteNo) → Fits (suspect records r site) (suspect history s site)
  fits_suspect site =
      (suspect_follows records history (StandsIn groups) (IsAt groups) (records_follow_all groups) r s ((f, refl), l) site).0.0

  pub fits_on_site_frame : (from : SiteNo) (x : SiteFrame) → IsTypedFrame x
      → Fits (on_site_frame records r from x) (on_site_frame history s from x)
  fits_on_site_frame from x typed =
      (on_site_frame_follows records history (StandsIn groups) (IsAt groups)
      (records_follow_all groups) r s ((f, refl), l) from x typed).0.0
