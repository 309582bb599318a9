-- The end of a session: its process leaves all its groups and is dismissed, and the records go on standing for the history, in which nobody
-- is dismissed.
use Rattle.std.proofs.Common.{◌≡◌, ℕ, Bool, true, false, cond, not, List, [], ◌∷◌, map}
use Rattle.std.proofs.Common.{filter, Some, None, ◌⊎◌, inl, inr, refl, sym, ap, subst, ◌∙◌}
use Rattle.std.specs.Prelude.{◌==◌, ◌+◌, ◌&&◌, if◌then◌else◌, is_some}
use Rattle.std.specs.List.{fold}
use Rattle.std.proofs.lemmas.Bool.{cases_Bool, cases_eq, false≢true, false_from_ne_true, not-false, eq-eqb, ne_eqb, or_cases}
use Rattle.cast_types.specs.declared.names.GroupNo.{GroupNo}
use Rattle.cast_types.specs.declared.names.Proc.{Proc}
use Rattle.cast_types.specs.declared.names.Standing.{Standing}
use Rattle.cast_types.specs.declared.names.Standing.TheVariants.{Outside, Joining, Member}
use Rattle.cast_types.specs.declared.refusal.Refusal.TheVariants.{NotMember}
use Rattle.cast_types.specs.declared.limits.TheConstants.{MAX_NUMBER}
use Rattle.cast_types.specs.Names.{group_eq, proc_eq}
use Rattle.cast_types.specs.Sets.{is_among}
use Rattle.cast_types.proofs.Orders.{same_group, same_proc, group_itself, site_itself}
use Rattle.cast_message.specs.declared.site.Change.TheVariants as change
use Rattle.cast_ready.specs.declared.row.Row.{Row}
use Rattle.cast_ready.specs.Ready.{Process, is_outside}
use Rattle.cast_delay.specs.Queue.{row_of, but_row}
use Rattle.cast_ready.specs.Rows.{new_row}
use Rattle.cast_delay.proofs.Finds.{find_dropped, find_kept, find-append_none}
use Rattle.cast_delay.proofs.Queues.{dismiss_fits}
use Rattle.cast_quota.specs.Quotas.{is_in_range}
use Rattle.cast_events.specs.Session.{no_session, is_gone, is_gone_status, first_session}
use Rattle.cast_events.specs.declared.event.Event.{Event}
use Rattle.cast_events.specs.declared.event.Event.TheVariants as event
use Rattle.cast_rules.specs.State.{State, local, serials, gate_of, going, outside}
use Rattle.cast_rules.specs.Step.{opening_next}
use Rattle.cast_rules.specs.History.{history}
use Rattle.cast_rules.specs.Lawful.{IsLawful, IsTyped}
use Rattle.cast_rules.specs.Rules.Events.{is_taken, may_open}
use Rattle.cast_rules.specs.Rules.Leaving.{Attempt, leave_group, leave_each, leave_all, end_session}
use Rattle.cast_rules.specs.Rules.Commands.{on_command}
use Rattle.cast_rules.specs.Rules.Home.{suspect}
use Rattle.cast_rules.specs.Rules.Frames.{on_site_frame}
use Rattle.cast_rules.specs.Rules.Owing.{tick}
use Rattle.cast_rules.specs.Rules.Asking.{request}
use Rattle.cast_rules.proofs.SameLaw.{same_request}
use Rattle.cast_rules.proofs.LawfulSteps.{lawful_going}
use Rattle.cast_rules.proofs.Rules.Follows.{IsInvariantOfAll}
use Rattle.cast_rules.proofs.Rules.Leaving.{left_keeps}
use Rattle.cast_rules.proofs.Rules.Commands.{on_command_keeps}
use Rattle.cast_rules.proofs.Rules.Home.{suspect_keeps}
use Rattle.cast_rules.proofs.Rules.Frames.{on_site_frame_keeps}
use Rattle.cast_rules.proofs.Rules.Owing.{tick_keeps}
use Rattle.cast_domain.specs.Records.{Records}
use Rattle.cast_domain.specs.PartCalls.{local_in, go_in, take_entries_in, set_quota_in}
use Rattle.cast_domain.specs.Calls.{open_in, dismiss_in, end_in, acted_in, records, records_sessions}
use Rattle.cast_domain.specs.Fits.{process_named, ProcessesFit, Fits, AreDismissed}
use Rattle.cast_domain.proofs.Rows.{names_of, row_by_names}
use Rattle.cast_domain.proofs.Remaining.{RemainAs, gone_of, remain_as, all_remain}
use Rattle.cast_domain.proofs.Dismissals.{still_dismissed}
use Rattle.cast_domain.proofs.Standing.{process_here, fits_if}
use Rattle.cast_domain.proofs.SessionChanges.{fits_go, status_there}
use Rattle.cast_domain.proofs.Arrivals.{fits_open}
use Rattle.cast_domain.proofs.Framing.{fits_left}

-- Who leaves all groups is in none

-- a process that leaves a group is outside it, and stays outside others
leaves : (s : State) (k : ℕ) (g h : GroupNo) → (group_eq g h ≡ true) ⊎ (is_outside ((s.process k).standing h) ≡ true) →
    is_outside (((leave_each history k s g).process k).standing h) ≡ true
leaves s k g h way = by_standing (is_outside ((s.process k).standing g)) refl
  where
    -- as it is outside
    now : (b c : Bool) → (k == k) ≡ b → group_eq g h ≡ c →
        is_outside ((if b then record (s.process k) { standing = λ i. if group_eq g i then Outside else (s.process k).standing i }
        else s.process k).standing h) ≡ true
    now true true _ here = ap (λ x. is_outside (if x then Outside else (s.process k).standing h)) here
    now true false _ other = ap (λ x. is_outside (if x then Outside else (s.process k).standing h)) other ∙ elim way [
      | inl same ↦ absurd (false≢true (sym other ∙ same))
      | inr before ↦ before
    ]
    now false c apart _ = absurd (false≢true (sym apart ∙ eq-eqb k k refl))

    left : is_outside (((leave_group history s k g g).process k).standing h) ≡ true
    left =
        elim ((s.group g).asked == MAX_NUMBER) as (λ b. is_outside
        (((if b then outside s k g else request history (outside s k g) g change.Leave (local s k)).process k).standing h) ≡ true) [
          | true ↦ now (k == k) (group_eq g h) refl refl
          | false ↦
              ap (λ (p : Process). is_outside (p.standing h)) ((same_request (outside s k g) g change.Leave (local s k)).process k)
              ∙ now (k == k) (group_eq g h) refl refl
        ]

    attempt : Bool → Attempt State
    attempt b = if b then (s, Some NotMember) else (leave_group history s k g g, None)

    by_standing : (b : Bool) → is_outside ((s.process k).standing g) ≡ b → is_outside (((attempt b).0.process k).standing h) ≡ true
    by_standing true is = elim way [
      | inl same ↦ ap (λ i. is_outside ((s.process k).standing i)) (sym (same_group g h same)) ∙ is
      | inr before ↦ before
    ]
    by_standing false is = left

leaves_all : (gs : List GroupNo) (s : State) (k : ℕ) (h : GroupNo) →
    (is_among group_eq h gs ≡ true) ⊎ (is_outside ((s.process k).standing h) ≡ true) →
    is_outside (((fold (leave_each history k) s gs).process k).standing h) ≡ true
leaves_all [] s k h (inl none) = absurd (false≢true none)
leaves_all [] s k h (inr before) = before
leaves_all (g ∷ gs) s k h (inr before) = leaves_all gs (leave_each history k s g) k h (inr (leaves s k g h (inr before)))
leaves_all (g ∷ gs) s k h (inl among) = elim (or_cases (group_eq h g) (is_among group_eq h gs) among) [
  | inl here ↦
      leaves_all gs (leave_each history k s g)
      k h (inr (leaves s k g h (inl (ap (λ i. group_eq i h) (sym (same_group h g here)) ∙ group_itself h))))
  | inr later ↦ leaves_all gs (leave_each history k s g) k h (inl later)
]

is_it_outside : (v : Standing) → is_outside v ≡ true → v ≡ Outside
is_it_outside Outside is = refl
is_it_outside (Joining number heard) is = absurd (false≢true is)
is_it_outside Member is = absurd (false≢true is)

left_outside : (s : State) → IsLawful s → (k : ℕ) (g : GroupNo) → ((leave_all history s k).process k).standing g ≡ Outside
left_outside s l k g =
    is_it_outside (((leave_all history s k).process k).standing g)
    (leaves_all s.config.groups s k g (elim (cases_Bool (is_outside ((s.process k).standing g))) [
      | inl before ↦ inr before
      | inr inside ↦ inl (l.known k g inside)
    ]))

-- A process that is dismissed

-- the rows of others are as they were
other_kept : (p q : Proc) → proc_eq p q ≡ false → (rows : List Row) → row_of (but_row p rows) q ≡ row_of rows q
other_kept p q apart rows = find_kept (λ r. proc_eq r.process q) (λ r. not (proc_eq r.process p)) (λ r out.
    ap (λ x. proc_eq x q) (same_proc r.process p (not-false (proc_eq r.process p) out)) ∙ apart) rows

names_but : (s : State) (k : ℕ) (test : ℕ → Bool) (rows : List Row) (ks : List ℕ) → names_of rows ≡ map (local s) (filter test ks) →
    names_of (but_row (local s k) rows) ≡ map (local s) (filter (λ j. test j && not (j == k)) ks)
names_but s k test rows ks names =
    names_filter rows
    ∙ ap (filter (λ p. not (proc_eq p (local s k)))) names
    ∙ filter_named ks
  where
    names_filter : (xs : List Row) → names_of (but_row (local s k) xs) ≡ filter (λ p. not (proc_eq p (local s k))) (names_of xs)
    names_filter [] = refl
    names_filter (x ∷ xs) =
        elim (proc_eq x.process (local s k))
        as (λ b. names_of (cond (not b) (x ∷ but_row (local s k) xs) (but_row (local s k) xs)) ≡ cond (not b)
        (x.process ∷ filter (λ p. not (proc_eq p (local s k))) (names_of xs)) (filter (λ p. not (proc_eq p (local s k))) (names_of xs))) [
          | true ↦ names_filter xs
          | false ↦ ap (λ ps. x.process ∷ ps) (names_filter xs)
        ]

    filter_named : (js : List ℕ) →
        filter (λ p. not (proc_eq p (local s k))) (map (local s) (filter test js)) ≡ map (local s) (filter (λ j. test j && not (j == k)) js)
    filter_named [] = refl
    filter_named (j ∷ js) =
        elim (test j)
        as (λ b. filter (λ p. not (proc_eq p (local s k))) (map (local s) (cond b (j ∷ filter test js) (filter test js))) ≡ map (local s)
        (cond (b && not (j == k)) (j ∷ filter (λ i. test i && not (i == k)) js) (filter (λ i. test i && not (i == k)) js))) [
          | true ↦
              (λ i. cond (not (site_itself s.here i && (j == k))) (local s j ∷ filter_named js i) (filter_named js i))
              ∙ named_here j (not (j == k)) (filter (λ i. test i && not (i == k)) js)
          | false ↦ filter_named js
        ]
      where
        named_here : (j : ℕ) (b : Bool) (is : List ℕ) →
            cond b (local s j ∷ map (local s) is) (map (local s) is) ≡ map (local s) (cond b (j ∷ is) is)
        named_here j true is = refl
        named_here j false is = refl

-- the process of a session that is gone, in no group, is dismissed
fits_dismissed : (r : Records) (s : State) → Fits r s → (k : ℕ) → is_gone (s.session k) ≡ true →
    ((g : GroupNo) → (s.process k).standing g ≡ Outside) → Fits (dismiss_in r k) s
fits_dismissed r s fits k left out = record {
  core = fits.core;
  opened = fits.opened;
  groups = fits.groups;
  messages = fits.messages;
  processes =
      subst (λ p. ProcessesFit s.here s.used s.session s.config.groups (gate_of s) (process_named s) r.part.kept
      (record r.delay { rows = but_row p r.delay.rows })) (λ i. record { site = (sym fits.core i).site; serial = k }) (record {
        delay = dismiss_fits s.config.groups (gate_of s) (process_named s) r.part.kept r.delay fits.processes.delay (local s k)
            (λ g. ap (λ (p : Process). p.standing g) (process_here s k) ∙ out g);
        admitted =
            λ j remains. ap is_some (other_kept (local s k) (local s j) (other j remains) r.delay.rows) ∙ fits.processes.admitted j remains;
        has_row = λ j. fits.processes.has_row j && not (j == k);
        rows = names_but s k fits.processes.has_row r.delay.rows (serials s) fits.processes.rows;
        idle = fits.processes.idle;
      });
  acks = fits.acks;
  orders = fits.orders;
  frames = fits.frames;
  delivered = fits.delivered;
  pushed = fits.pushed;
}
  where
    other : (j : ℕ) → is_gone (s.session j) ≡ false → proc_eq (local s k) (local s j) ≡ false
    other j remains = false_from_ne_true (proc_eq (local s k) (local s j)) (λ same.
        false≢true (sym remains ∙ ap (λ (p : Proc). is_gone (s.session p.serial)) (sym (same_proc (local s k) (local s j) same)) ∙ left))

-- Sessions that end

-- a session that is gone is so on both sides
gone_there : (r : Records) (s : State) → Fits r s → (k : ℕ) → gone_of (go_in r k) k ≡ true
gone_there r s fits k =
    ap is_gone_status (status_there (go_in r k) (going s k) (fits_go r s fits k) k)
    ∙ ap (λ b. is_gone (if b then no_session else s.session k)) (eq-eqb k k refl)

left_remain : (r : Records) (k : ℕ) → RemainAs (go_in r k) (leave_all records (go_in r k) k)
left_remain r k =
    let x : Records = go_in r k in
    left_keeps records (RemainAs x) (all_remain x.site (names_of x.delay.rows) (gone_of x)) x (remain_as x) k

-- what the end of a session comes to, by the rule's own test of whether it is gone
ended : (r : Records) (k : ℕ) → (if gone_of r k then r else dismiss_in (leave_all records (go_in r k) k) k) ≡ end_in r k
ended r k =
    elim (gone_of r k)
    as (λ b. (if b then r else dismiss_in x k) ≡ (if b then r else dismiss_in (if b then r else x) k)) [ true ↦ refl | false ↦ refl ]
  where
    x : Records
    x = leave_all records (go_in r k) k

-- the session ends on both sides, or has ended
pub fits_ended : (r : Records) (s : State) → Fits r s → IsLawful s → (k : ℕ) → Fits (end_in r k) (end_session history s k)
fits_ended r s fits l k =
    let x : Records = leave_all records (go_in r k) k in
    let t : State = leave_all history (going s k) k in
    let left : Fits x t = fits_left r s fits l k in
    subst (λ y. Fits y (end_session history s k)) (ended r k)
    (fits_if (gone_of r k) (is_gone (s.session k)) r (dismiss_in x k) s t (ap is_gone_status (status_there r s fits k))
    (λ _. fits)
    (λ _. fits_dismissed x t left k (ap is_gone_status (sym (status_there x t left k)) ∙ (left_remain r k).2 k ∙ gone_there r s fits k)
    (left_outside (going s k) (lawful_going s k l) k)))

-- Who is gone is dismissed after each event

-- a session that opens is not gone
dismissed_open : (r : Records) (s : State) → Fits r s → AreDismissed r → AreDismissed (open_in r)
dismissed_open r s fits dismissed k left = elim (cases_eq (s.used + 1) k) [
  | inl same ↦
      absurd (false≢true
      (sym (ap (λ b. is_gone (if b then first_session (local s (s.used + 1)) else s.session k)) (eq-eqb (s.used + 1) k same)) ∙ now))
  | inr other ↦
      let before : gone_of r k ≡ true =
      ap is_gone_status (status_there r s fits k)
      ∙ sym (ap (λ b. is_gone (if b then first_session (local s (s.used + 1)) else s.session k)) (ne_eqb (s.used + 1) k other)) ∙ now in
      find-append_none (λ (x : Row). proc_eq x.process (local_in r k)) r.delay.rows (new_row (local_in r (r.used + 1)) ∷ [])
      (dismissed k before)
      ∙ ap (λ b. cond b (Some (new_row (local_in r (r.used + 1)))) None)
      (false_from_ne_true (proc_eq (local_in r (r.used + 1)) (local_in r k)) (λ same.
      other (ap (λ c. c.used + 1) (sym fits.core) ∙ ap (λ (p : Proc). p.serial) (same_proc (local_in r (r.used + 1)) (local_in r k) same))))
]
  where
    now : is_gone ((opening_next s).session k) ≡ true
    now = ap is_gone_status (sym (status_there (open_in r) (opening_next s) (fits_open r s fits) k)) ∙ left

-- and the process of one that ends is
dismissed_end : (r : Records) (s : State) → Fits r s → AreDismissed r → (k : ℕ) → AreDismissed (end_in r k)
dismissed_end r s fits dismissed k =
    subst AreDismissed (ended r k) (elim (gone_of r k) as (λ b. AreDismissed (if b then r else dismiss_in x k)) [
      | true ↦ dismissed
      | false ↦ none
    ])
  where
    x : Records
    x = leave_all records (go_in r k) k

    before : (j : ℕ) → (k ≡ j → ⊥) → gone_of x j ≡ true → gone_of r j ≡ true
    before j other left =
        ap is_gone_status (status_there r s fits j)
        ∙ sym (ap (λ b. is_gone (if b then no_session else s.session j)) (ne_eqb k j other))
        ∙ ap is_gone_status (sym (status_there (go_in r k) (going s k) (fits_go r s fits k) j))
        ∙ sym ((left_remain r k).2 j)
        ∙ left

    none : AreDismissed (dismiss_in x k)
    none j left = elim (cases_eq k j) [
      | inl same ↦
          ap (λ i. row_of (but_row (local_in x k) x.delay.rows) (local_in x i)) (sym same)
          ∙ find_dropped (λ r. proc_eq r.process (local_in x k)) x.delay.rows
      | inr other ↦
          other_kept (local_in x k) (local_in x j) (false_from_ne_true (proc_eq (local_in x k) (local_in x j))
          (λ same. other (ap (λ (p : Proc). p.serial) (same_proc (local_in x k) (local_in x j) same)))) x.delay.rows
          ∙ ap (λ t. row_of x.delay.rows (record { site = t; serial = j })) ((left_remain r k).0)
          ∙ row_by_names x.delay.rows r.delay.rows (local_in r j) ((left_remain r k).1) (dismissed j (before j other left))
    ]

-- so after each event
pub dismissed_acted : (r : Records) (s : State) (e : Event) → Fits r s → IsTyped e → AreDismissed r → AreDismissed (acted_in r e)
dismissed_acted r s e fits typed dismissed = of_event e typed
  where
    keeps : IsInvariantOfAll records (RemainAs r)
    keeps = all_remain r.site (names_of r.delay.rows) (gone_of r)

    of_event : (e : Event) → IsTyped e → AreDismissed (acted_in r e)
    of_event (event.Open d) typed = elim (may_open records records_sessions r) as (λ b. AreDismissed (if b then open_in r else r)) [
      | true ↦ dismissed_open r s fits dismissed
      | false ↦ dismissed
    ]
    of_event (event.Command d k c) typed =
        still_dismissed r (on_command records r k c) (on_command_keeps records (RemainAs r) keeps r (remain_as r) k c) dismissed
    of_event (event.Gone d k) typed = dismissed_end r s fits dismissed k
    of_event (event.Suspect d site) typed =
        still_dismissed r (suspect records r site) (suspect_keeps records (RemainAs r) keeps r (remain_as r) site) dismissed
    of_event (event.Frame d from f) typed =
        still_dismissed r (on_site_frame records r from f)
        (on_site_frame_keeps records (RemainAs r) keeps r (remain_as r) from f typed) dismissed
    of_event (event.Quota d name value) typed =
        elim (is_in_range name value) as (λ b. AreDismissed (if b then set_quota_in r name value else r)) [
          | true ↦ dismissed
          | false ↦ dismissed
        ]
    of_event (event.Take d k most) typed =
        elim (not (gone_of r k) && is_taken most) as (λ b. AreDismissed (if b then take_entries_in r k most else r)) [
          | true ↦ dismissed
          | false ↦ dismissed
        ]
    of_event (event.Tick t) typed =
        still_dismissed r (tick records r t) (tick_keeps records (RemainAs r) keeps.keeps r (remain_as r) t) dismissed
