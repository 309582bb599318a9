-- The queue names the first message that is ready, and keeps its meaning.
-- `first_ready` and its kin say that the queue names the first message that is ready. `Fits` is
-- the meaning of a queue: its rows tell what each process awaits, its gates the state of each
-- group. Each change keeps it, since it changes one part: a fact one row (`tell_fits`), a freeze
-- or an Install one gate (`freeze_fits`, `pend_fits`), and a message that comes what is offered
-- (`offer_fits`).
use Rattle.std.proofs.Common.{◌≡◌, ◌↔◌, ℕ, ◌<◌, ◌≤◌, Bool, true, false, cond, not, ◌&&◌, ◌||◌, ◌⊎◌, List, length, take, [], ◌∷◌, ◌++◌}
use Rattle.std.proofs.Common.{filter, Contains, Option, Some, None, MatchOption, unwrap_or, refl, sym, ap, subst, ◌∙◌, inl, inr, arith}
use Rattle.std.specs.Prelude.{if◌then◌else◌, slice_get}
use Rattle.std.specs.List as list
use Rattle.std.specs.Option.{IsSome, option_map, option_map_or, option_and_then}
use Rattle.std.specs.FinMap.Entries.{put}
use Rattle.std.proofs.lemmas.Bool.{cases_Bool, false≢true, false_from_ne_true, not-false, and_parts}
use Rattle.std.proofs.lemmas.Bool.{and_from, or_cases, or_left, or_right, eqb-true, eq-eqb, ne_eqb}
use Rattle.std.proofs.lemmas.List.{map-append}
use Rattle.std.proofs.lemmas.List.Folds.{find_at}
use Rattle.std.proofs.lemmas.List.Elements.{Contains-push_cases}
use Rattle.cast_types.specs.declared.names.GroupNo.{GroupNo}
use Rattle.cast_types.specs.declared.names.Proc.{Proc}
use Rattle.cast_types.specs.declared.names.Key.{Key}
use Rattle.cast_types.specs.declared.names.Uid.{Uid}
use Rattle.cast_types.specs.declared.names.Standing.{Standing}
use Rattle.cast_types.specs.declared.names.Standing.TheVariants.{Outside}
use Rattle.cast_types.specs.Names.{Entry, group_cmp, group_eq, proc_eq, uid_eq, uid_in, entry_of}
use Rattle.cast_types.specs.Sets.{is_among, set_at}
use Rattle.cast_types.specs.Counts.{CountList}
use Rattle.cast_types.specs.Sources.{source}
use Rattle.cast_types.proofs.Orders.{same_group, group_itself, same_proc, proc_itself, same_uid, uid_itself}
use Rattle.cast_clock.proofs.Entries.{option_cases}
use Rattle.cast_message.specs.declared.message.Message.{Message}
use Rattle.cast_message.specs.declared.message.Received.{Received}
use Rattle.cast_message.specs.Receipts.{key_eq, messages, message_under}
use Rattle.cast_message.proofs.Places.{position_or_len_found}
use Rattle.cast_ready.specs.declared.turn.Turn.{Turn}
use Rattle.cast_ready.specs.declared.row.Row.{Row}
use Rattle.cast_ready.specs.declared.row.ProcessUpdate.{ProcessUpdate}
use Rattle.cast_ready.specs.declared.row.ProcessUpdate.TheVariants as fact
use Rattle.cast_ready.specs.declared.offered.Offered.{Offered}
use Rattle.cast_ready.specs.declared.gate.Gate.{Gate}
use Rattle.cast_ready.specs.Ready.{Process, open_gate, frozen_gate, pending_gate, is_member, is_outside}
use Rattle.cast_ready.specs.Ready.{has_delivered, awaits, turn_in, is_causally_ready, is_ready, has_turn}
use Rattle.cast_ready.specs.DeliveredCounts.{DeliveredCounts, raised_at, counts_in}
use Rattle.cast_ready.specs.Rows.{gate_in, standing_in, is_causally_ready_row, is_ready_row}
use Rattle.cast_ready.specs.Rows.{has_delivered_in, passed_by, awaits_row, delivered_row, told_row, new_row}
use Rattle.cast_delay.specs.Queue.{Queue, row_of, but_row, change_row, first_for, offered_under, next_key}
use Rattle.cast_delay.specs.Queue.{candidate_for, candidate_in, delivered_in, passed_in, but_offered, is_awaited}
use Rattle.cast_delay.specs.Queue.{HasOneRowEach, after_delivery, reached_after, queue_viewing, queue_delivering}
use Rattle.cast_delay.specs.Fits.{IsSound, HasNotEnded, RowFits, StandsFor, HasNotBegun, Reaches, offer_of, Fits}
use Rattle.cast_delay.specs.Fits.{FirstReady, HasTurns, IsAwaited, set_process, tell_process, delivering, FactFits}
use Rattle.cast_delay.specs.Laws.{NewFits}
use Rattle.cast_delay.specs.Says.{SaysReached, SaysCandidate}
use Rattle.cast_delay.proofs.RowMeaning.{row_means, awaits_means, delivered_means}
use Rattle.cast_delay.proofs.Turns.{in_turn, same_turns, causally_member}
use Rattle.cast_delay.proofs.Finds.{found_in, find_agree, find_mapped, never_found, find-append_some, find-append_none}
use Rattle.cast_delay.proofs.Finds.{find_kept, none_before, kept_parts, filter_mapped, any_in, found_any, put_at_group}
use Rattle.cast_delay.proofs.Delivers.{told_fits, delivered_fits, ready_parts}
use Rattle.cast_delay.proofs.ListLemmas.{list_any-append}
use Rattle.cast_delay.proofs.Reached.{reaches_later, reaches_ended, reaches_same, reaches_raised, reached_most, reached_each}
use Rattle.cast_delay.proofs.RowLemmas.{some_row, rows_changed, row_admitted, row_dismissed, stands_later, row_ended, row_of_ended}

no_message : (m : Message) → None ≡ Some m → ⊥
no_message m e = cc

some_same : (m n : Message) → Some m ≡ Some n → m ≡ n
some_same m n e = ap (λ (o : Option Message). unwrap_or o m) e

-- what is under a key stays under it, whatever is added
under_still : (received more : List Received) (key : Key) (m : Message) → message_under received key ≡ Some m →
    message_under (received ++ more) key ≡ Some m
under_still received more key m at = elim (option_cases (list.find (λ x. key_eq x.key key) received)) [
  | inl none ↦ absurd (no_message m (sym (ap (λ (o : Option Received). option_map (λ x. x.message) o) none) ∙ at))
  | inr (r, some) ↦
      ap (λ (o : Option Received). option_map (λ x. x.message) o) (find-append_some (λ x. key_eq x.key key) received more r some)
      ∙ sym (ap (λ (o : Option Received). option_map (λ x. x.message) o) some) ∙ at
]

-- and a message under a key of its own is under that
under_own : (received : List Received) (r : Received) → message_under received r.key ≡ None →
    message_under (received ++ r ∷ []) r.key ≡ Some r.message
under_own received r apart = elim (option_cases (list.find (λ x. key_eq x.key r.key) received)) [
  | inl none ↦
      ap (λ (o : Option Received). option_map (λ x. x.message) o) (find-append_none (λ x. key_eq x.key r.key) received (r ∷ []) none)
      ∙ ap (λ b. option_map (λ x. x.message) (cond b (Some r) None)) (eq-eqb r.key.0 r.key.0 refl)
  | inr (x, some) ↦ absurd (no_message x.message (sym apart ∙ ap (λ (o : Option Received). option_map (λ y. y.message) o) some))
]

received_under : (received : List Received) (key : Key) (m : Message) → message_under received key ≡ Some m →
    (r : Received) × (list.find (λ x. key_eq x.key key) received ≡ Some r) × (r.message ≡ m)
received_under received key m at = elim (option_cases (list.find (λ x. key_eq x.key key) received)) [
  | inl none ↦ absurd (no_message m (sym (ap (λ (o : Option Received). option_map (λ x. x.message) o) none) ∙ at))
  | inr (r, some) ↦ (r, some, some_same r.message m (sym (ap (λ (o : Option Received). option_map (λ x. x.message) o) some) ∙ at))
]

-- a delivery of the message under a key
after_at : (offered : List Offered) (p : Proc) (key : Key) (rows : List Row) (o : Offered) → offered_under offered key ≡ Some o →
    after_delivery offered p key rows ≡ change_row p (delivered_row o.id o.times) rows
after_at offered p key rows o at =
    ap (λ (x : Option Offered). elim x as (λ _. List Row) [ Some y ↦ change_row p (delivered_row y.id y.times) rows | None ↦ rows ]) at

-- what is reached after it
raised_to : (offered : List Offered) (key : Key) (reached : DeliveredCounts) (o : Offered) → offered_under offered key ≡ Some o →
    reached_after offered key reached ≡ raised_at (source o.id.group o.id.view o.id.proc) o.id.count reached
raised_to offered key reached o at =
    ap (λ (x : Option Offered). elim x
    as (λ _. DeliveredCounts) [ Some y ↦ raised_at (source y.id.group y.id.view y.id.proc) y.id.count reached | None ↦ reached ]) at

or_false : (b : Bool) → (b || false) ≡ b
or_false true = refl
or_false false = refl

-- of a process that is in no group no message is ready
never_ready : (groups : List GroupNo) (gate : GroupNo → Gate) (turn : GroupNo → Turn) (v : Process) →
    ((g : GroupNo) → v.standing g ≡ Outside) → (m : Message) → is_ready groups gate turn v m ≡ false
never_ready groups gate turn v outside m = false_from_ne_true (is_ready groups gate turn v m) (λ ready.
    let causally : is_causally_ready groups gate v m ≡ true = (and_parts (is_causally_ready groups gate v m) (in_turn turn m) ready).0 in
    false≢true (sym (ap is_member (outside m.id.group)) ∙ causally_member groups gate v m causally))

module _ (groups : List GroupNo) (gate : GroupNo → Gate) (processes : Proc → Process) (received : List Received) (q : Queue)
    (fits : Fits groups gate processes received q) where
  row_at : (p : Proc) (row : Row) → row_of q.rows p ≡ Some row → RowFits gate (processes p) row
  row_at p row at = subst (λ (o : Option Row). StandsFor gate (processes p) o) at (fits.rows p)

  -- a process without a row is in no group
  outside_at : (p : Proc) → row_of q.rows p ≡ None → (g : GroupNo) → (processes p).standing g ≡ Outside
  outside_at p none = subst (λ (o : Option Row). StandsFor gate (processes p) o) none (fits.rows p)

  -- the row of a process means the rule
  pub row_rules : (p : Proc) (row : Row) (m : Message) → row_of q.rows p ≡ Some row → IsSound m →
      is_causally_ready_row q.gates row m.id m.times ≡ is_causally_ready groups gate (processes p) m
  row_rules p row m at sound = row_means gate (processes p) row (row_at p row at) m groups q.gates fits.gates (fits.groups_known p) sound

  module _ (p : Proc) (turns : List (GroupNo × Turn)) where
    module _ (turn : GroupNo → Turn) (agree : HasTurns (processes p) turns turn) where
      -- and with the turns of its groups
      pub turn_rules : (row : Row) (r : Received) → row_of q.rows p ≡ Some row → IsSound r.message →
          is_ready_row turns q.gates row (offer_of r) ≡ is_ready groups gate turn (processes p) r.message
      turn_rules row r at sound =
          ap (λ b. b && in_turn (turn_in turns) r.message) (row_rules p row r.message at sound)
          ∙ same_turns groups gate (processes p) (turn_in turns) turn agree r.message

      abbrev ready_at : Received → Bool
      ready_at r = is_ready groups gate turn (processes p) r.message

      -- the first that is ready by a row is the first that is ready
      first_is : (row : Row) → row_of q.rows p ≡ Some row →
          first_for turns q.gates q.offered row ≡ option_map offer_of (list.find ready_at received)
      first_is row at =
          ap (λ os. first_for turns q.gates os row) fits.offered
          ∙ find_mapped offer_of (is_ready_row turns q.gates row) received
          ∙ ap (λ (o : Option Received). option_map offer_of o) (find_agree (λ r. is_ready_row turns q.gates row (offer_of r))
          ready_at received (λ r in_it. turn_rules row r at (fits.sound r in_it)))

      first_from : (f : Option Received) → list.find ready_at received ≡ f →
          FirstReady groups gate turn (processes p) received (option_map (λ o. o.key) (option_map offer_of f))
      first_from None is =
          find_mapped (λ r. r.message) (is_ready groups gate turn (processes p)) received
          ∙ ap (λ (o : Option Received). option_map (λ r. r.message) o) is
      first_from (Some r) is = (
        r.message,
        fits.named r (found_in ready_at received r is),
        find_mapped (λ x. x.message) (is_ready groups gate turn (processes p)) received
            ∙ ap (λ (o : Option Received). option_map (λ x. x.message) o) is,
      )

      -- the queue names the first message that is ready, and none for a process without a row, which is in no group
      pub next_rules : FirstReady groups gate turn (processes p) received (next_key turns q p)
      next_rules = elim (option_cases (row_of q.rows p)) [
        | inl none ↦
            subst (λ k. FirstReady groups gate turn (processes p) received k)
            (sym (ap (λ (o : Option Row). option_map (λ x. x.key) (option_and_then (first_for turns q.gates q.offered) o)) none))
            (never_found (is_ready groups gate turn (processes p)) (messages received)
            (never_ready groups gate turn (processes p) (outside_at p none)))
        | inr (row, some) ↦
            let next_is : next_key turns q p ≡ option_map (λ o. o.key) (option_map offer_of (list.find ready_at received)) =
            ap (λ (o : Option Row). option_map (λ x. x.key) (option_and_then (first_for turns q.gates q.offered) o)) some
            ∙ ap (λ (o : Option Offered). option_map (λ x. x.key) o) (first_is row some) in
            subst (λ k. FirstReady groups gate turn (processes p) received k) (sym next_is) (first_from (list.find ready_at received) refl)
      ]

  -- a process that is admitted has not begun, or had a row
  pub admit_fits : (p : Proc) → (row_of q.rows p ≡ None → HasNotBegun (processes p)) →
      Fits groups gate processes received (record q { rows = q.rows ++ new_row p ∷ [] })
  admit_fits p fresh = record {
    gates = fits.gates;
    rows = row_admitted gate processes q.rows p fresh fits.rows;
    groups_known = fits.groups_known;
    offered = fits.offered;
    named = fits.named;
    sound = fits.sound;
    reached = fits.reached;
  }

  -- and one that is dismissed is in no group
  pub dismiss_fits : (p : Proc) → ((g : GroupNo) → (processes p).standing g ≡ Outside) →
      Fits groups gate processes received (record q { rows = but_row p q.rows })
  dismiss_fits p outside = record {
    gates = fits.gates;
    rows = row_dismissed gate processes q.rows p outside fits.rows;
    groups_known = fits.groups_known;
    offered = fits.offered;
    named = fits.named;
    sound = fits.sound;
    reached = fits.reached;
  }

  -- groups are known still where one process changes to one whose groups are known
  known_still : (p : Proc) (v : Process) → ((g : GroupNo) → is_outside (v.standing g) ≡ false → is_among group_eq g groups ≡ true) →
      (x : Proc) (g : GroupNo) → is_outside ((set_process processes p v x).standing g) ≡ false → is_among group_eq g groups ≡ true
  known_still p v known x g =
      elim (proc_eq p x) as (λ b. is_outside ((if b then v else processes x).standing g) ≡ false → is_among group_eq g groups ≡ true) [
        | true ↦ known g
        | false ↦ fits.groups_known x g
      ]

  known_told : (p : Proc) (f : ProcessUpdate) → FactFits groups f → (g : GroupNo) →
      is_outside ((tell_process f (processes p)).standing g) ≡ false → is_among group_eq g groups ≡ true
  known_told p (fact.Standing h s) ok g = elim (cases_Bool (group_eq h g)) [
    | inl same ↦ λ inside.
        subst (λ k. is_among group_eq k groups ≡ true) (same_group h g same)
        (ok (ap (λ b. is_outside (if b then s else (processes p).standing g)) (sym same) ∙ inside))
    | inr other ↦ λ inside. fits.groups_known p g (ap (λ b. is_outside (if b then s else (processes p).standing g)) (sym other) ∙ inside)
  ]
  known_told p (fact.Time time) ok g = fits.groups_known p g

  told_keeps : (f : ProcessUpdate) (r : Row) → (told_row f r).process ≡ r.process
  told_keeps (fact.Standing h s) r = refl
  told_keeps (fact.Time time) r = refl

  -- a process awaits a message of a view that has not ended by its row as it does by what it delivered
  pub awaited_by : (p : Proc) (row : Row) → row_of q.rows p ≡ Some row → (id : Uid) → HasNotEnded gate id.group id.view → 0 < id.count →
      awaits_row row id ≡ awaits (processes p) id
  awaited_by p row at id stands from_one = awaits_means gate (processes p) row (row_at p row at) id stands from_one

  -- and has delivered one by its row as it did by what it delivered
  pub delivered_by : (p : Proc) (row : Row) → row_of q.rows p ≡ Some row → (id : Uid) → HasNotEnded gate id.group id.view →
      has_delivered_in row id ≡ has_delivered (processes p) id
  delivered_by p row at id stands = delivered_means gate (processes p) row (row_at p row at) id stands

  pub delivered_rules : (p : Proc) (id : Uid) → IsSome (row_of q.rows p) → HasNotEnded gate id.group id.view →
      delivered_in q p id ≡ has_delivered (processes p) id
  delivered_rules p id admitted stands =
      let (row, at) = some_row (row_of q.rows p) admitted in
      ap (λ (o : Option Row). option_map_or (λ r. has_delivered_in r id) o false) at
      ∙ delivered_by p row at id stands

  -- a process has passed the ids that it delivered, up to the first that it did not
  passed_as : (p : Proc) (row : Row) → row_of q.rows p ≡ Some row → (g : GroupNo) (view : ℕ) → HasNotEnded gate g view →
      (ids : List Entry) →
      passed_by row g view ids ≡ unwrap_or (list.position (λ e. not (has_delivered (processes p) (uid_in g view e))) ids) (length ids)
  passed_as p row at g view stands ids =
      λ i. unwrap_or (list.position (λ e. not (delivered_by p row at (uid_in g view e) stands i)) ids) (length ids)

  pub passed_rules : (p : Proc) (g : GroupNo) (view : ℕ) (ids : List Entry) → IsSome (row_of q.rows p) → HasNotEnded gate g view →
      passed_in q p g view ids ≡ unwrap_or (list.position (λ e. not (has_delivered (processes p) (uid_in g view e))) ids) (length ids)
  passed_rules p g view ids admitted stands =
      let (row, at) = some_row (row_of q.rows p) admitted in
      ap (λ (o : Option Row). option_map_or (λ r. passed_by r g view ids) o 0) at
      ∙ passed_as p row at g view stands ids

  -- the ids that it has passed it delivered
  pub passed_delivered : (p : Proc) (g : GroupNo) (view : ℕ) (ids : List Entry) → IsSome (row_of q.rows p) → HasNotEnded gate g view →
      list.find (λ e. not (has_delivered (processes p) (uid_in g view e))) (take (passed_in q p g view ids) ids) ≡ None
  passed_delivered p g view ids admitted stands =
      let missing : Entry → Bool = λ e. not (has_delivered (processes p) (uid_in g view e)) in
      ap (λ n. list.find missing (take n ids)) (passed_rules p g view ids admitted stands ∙ position_or_len_found missing ids)
      ∙ none_before missing ids

  -- and what stands there is the first that it did not
  pub passed_next : (p : Proc) (g : GroupNo) (view : ℕ) (ids : List Entry) → IsSome (row_of q.rows p) → HasNotEnded gate g view →
      list.find (λ e. not (has_delivered (processes p) (uid_in g view e))) ids ≡ slice_get ids (passed_in q p g view ids)
  passed_next p g view ids admitted stands =
      let missing : Entry → Bool = λ e. not (has_delivered (processes p) (uid_in g view e)) in
      find_at missing ids
      ∙ ap (λ n. slice_get ids n) (sym (passed_rules p g view ids admitted stands ∙ position_or_len_found missing ids))

  -- who is a member of a group was admitted
  pub member_admitted : (p : Proc) (g : GroupNo) → is_member ((processes p).standing g) ≡ true → (row : Row) × (row_of q.rows p ≡ Some row)
  member_admitted p g member = elim (option_cases (row_of q.rows p)) [
    | inl none ↦ absurd (false≢true (sym (ap is_member (outside_at p none g)) ∙ member))
    | inr some ↦ some
  ]

  -- some row awaits a message exactly if some process does
  pub awaited_rules : HasOneRowEach q.rows → (id : Uid) → HasNotEnded gate id.group id.view → 0 < id.count →
      (is_awaited q.rows id ≡ true) ↔ IsAwaited processes id
  awaited_rules one id stands from_one = (there, back)
    where
      there : is_awaited q.rows id ≡ true → IsAwaited processes id
      there some =
          let (row, (in_it, waits)) = any_in (λ r. awaits_row r id) q.rows some in
          (row.process, sym (awaited_by row.process row (one row in_it) id stands from_one) ∙ waits)

      back : IsAwaited processes id → is_awaited q.rows id ≡ true
      back (p, waits) =
          let (row, at) =
          member_admitted p id.group
          (and_parts (is_member ((processes p).standing id.group)) (not (has_delivered (processes p) id)) waits).0 in
          found_any (λ r. awaits_row r id) (λ r. proc_eq r.process p) q.rows row at (awaited_by p row at id stands from_one ∙ waits)

  -- a fact changes nothing of what processes delivered
  told_delivered : (f : ProcessUpdate) (v : Process) → (tell_process f v).delivered ≡ v.delivered
  told_delivered (fact.Standing h s) v = refl
  told_delivered (fact.Time time) v = refl

  told_same : (p : Proc) (f : ProcessUpdate) (x : Proc) (u : Uid) →
      has_delivered (set_process processes p (tell_process f (processes p)) x) u ≡ has_delivered (processes x) u
  told_same p f x u = elim (cases_Bool (proc_eq p x)) [
    | inl same ↦
        ap (λ b. has_delivered (if b then tell_process f (processes p) else processes x) u) same
        ∙ ap (λ d. is_among uid_eq u d) (told_delivered f (processes p))
        ∙ ap (λ y. has_delivered (processes y) u) (same_proc p x same)
    | inr other ↦ ap (λ b. has_delivered (if b then tell_process f (processes p) else processes x) u) other
  ]

  -- a fact is taken in as the process takes it in
  pub tell_fits : (p : Proc) (f : ProcessUpdate) → IsSome (row_of q.rows p) → FactFits groups f → Fits groups gate
      (set_process processes p (tell_process f (processes p))) received (record q { rows = change_row p (told_row f) q.rows })
  tell_fits p f admitted ok =
      let (row, at) = some_row (row_of q.rows p) admitted in
      record {
        gates = fits.gates;
        rows = rows_changed p (told_row f) (told_keeps f) gate processes (tell_process f (processes p))
            q.rows row at (told_fits gate (processes p) row (row_at p row at) f) fits.rows;
        groups_known = known_still p (tell_process f (processes p)) (known_told p f ok);
        offered = fits.offered;
        named = fits.named;
        sound = fits.sound;
        reached = reaches_same gate processes q.reached fits.reached (set_process processes p (tell_process f (processes p)))
            (λ x u has. told_same p f x u ∙ has) (λ x u has. sym (told_same p f x u) ∙ has);
      }

  -- a group has another gate, whose view is the same or a later one
  gate_fits : (g : GroupNo) (v : Gate) → (gate g).number ≤ v.number →
      Fits groups (set_at group_eq gate g v) processes received (record q { gates = put group_cmp g v q.gates })
  gate_fits g v rise = record {
    gates = λ h. put_at_group q.gates g h v (open_gate 0) ∙ gated h;
    rows = λ p. stands_later gate (set_at group_eq gate g v) rises (processes p) (row_of q.rows p) (fits.rows p);
    groups_known = fits.groups_known;
    offered = fits.offered;
    named = fits.named;
    sound = fits.sound;
    reached = reaches_later gate processes q.reached fits.reached (set_at group_eq gate g v) rises;
  }
    where
      gated : (h : GroupNo) → (if group_eq g h then v else gate_in q.gates h) ≡ set_at group_eq gate g v h
      gated h = ap (λ x. if group_eq g h then v else x) (fits.gates h)

      rises : (h : GroupNo) → (gate h).number ≤ (set_at group_eq gate g v h).number
      rises h = risen (group_eq g h) (λ same. same_group g h same)
        where
          risen : (b : Bool) → (b ≡ true → g ≡ h) → (gate h).number ≤ (if b then v else gate h).number
          risen true same = subst (λ k. (gate k).number ≤ v.number) (same refl) rise
          risen false other = omega arith

  -- so it has the number of a later view, and what was delivered before that is forgotten
  pub view_fits : (g : GroupNo) (number : ℕ) → (gate g).number ≤ number →
      Fits groups (set_at group_eq gate g (open_gate number)) processes received (queue_viewing g number q)
  view_fits g number rise =
      let later : GroupNo → Gate = set_at group_eq gate g (open_gate number) in
      let told : Fits groups later processes received (record q { gates = put group_cmp g (open_gate number) q.gates }) =
      gate_fits g (open_gate number) rise in
      let reached : number ≤ (later g).number =
      subst (λ b. number ≤ (if b then open_gate number else gate g).number) (sym (group_itself g)) (omega arith) in
      record {
        gates = told.gates;
        rows = λ p. subst (λ o. StandsFor later (processes p) o) (sym (row_of_ended g number q.rows p))
            (row_ended later (processes p) g number reached (row_of q.rows p) (told.rows p));
        groups_known = told.groups_known;
        offered = told.offered;
        named = told.named;
        sound = told.sound;
        reached = reaches_ended later processes q.reached told.reached g number reached;
      }

  -- is frozen
  pub freeze_fits : (g : GroupNo) → Fits groups (set_at group_eq gate g (frozen_gate (gate g)))
      processes received (record q { gates = put group_cmp g (frozen_gate (gate_in q.gates g)) q.gates })
  freeze_fits g =
      subst (λ x. Fits groups (set_at group_eq gate g (frozen_gate (gate g)))
      processes received (record q { gates = put group_cmp g (frozen_gate x) q.gates }))
      (sym (fits.gates g)) (gate_fits g (frozen_gate (gate g)) (omega arith))

  -- and has the cut of an Install that waits
  pub pend_fits : (g : GroupNo) (cut : CountList) → Fits groups (set_at group_eq gate g (pending_gate cut (gate g)))
      processes received (record q { gates = put group_cmp g (pending_gate cut (gate_in q.gates g)) q.gates })
  pend_fits g cut =
      subst (λ x. Fits groups (set_at group_eq gate g (pending_gate cut (gate g)))
      processes received (record q { gates = put group_cmp g (pending_gate cut x) q.gates }))
      (sym (fits.gates g)) (gate_fits g (pending_gate cut (gate g)) (omega arith))

  -- a process for which a message is ready was admitted
  ready_row : (p : Proc) (m : Message) → is_causally_ready groups gate (processes p) m ≡ true → (row : Row) × (row_of q.rows p ≡ Some row)
  ready_row p m ready = member_admitted p m.id.group (causally_member groups gate (processes p) m ready)

  -- a message under a key of its own is the last one received
  pub offer_fits : (r : Received) → IsSound r.message → message_under received r.key ≡ None →
      Fits groups gate processes (received ++ r ∷ []) (record q { offered = q.offered ++ offer_of r ∷ [] })
  offer_fits r sound apart = record {
    gates = fits.gates;
    rows = fits.rows;
    groups_known = fits.groups_known;
    offered = ap (λ os. os ++ offer_of r ∷ []) fits.offered ∙ sym (map-append offer_of received (r ∷ []));
    named = named_now;
    sound = sound_now;
    reached = fits.reached;
  }
    where
      sound_now : (x : Received) → Contains (received ++ r ∷ []) x → IsSound x.message
      sound_now x in_it = elim (Contains-push_cases received r x in_it) [
        | inl before ↦ fits.sound x before
        | inr last ↦ subst (λ y. IsSound y.message) last sound
      ]

      named_now : (x : Received) → Contains (received ++ r ∷ []) x → message_under (received ++ r ∷ []) x.key ≡ Some x.message
      named_now x in_it = elim (Contains-push_cases received r x in_it) [
        | inl before ↦ under_still received (r ∷ []) x.key x.message (fits.named x before)
        | inr last ↦ subst (λ y. message_under (received ++ r ∷ []) y.key ≡ Some y.message) last (under_own received r apart)
      ]

  -- what is let go is told of no more
  pub forget_fits : (key : Key) →
      Fits groups gate processes (filter (λ r. not (key_eq r.key key)) received) (record q { offered = but_offered key q.offered })
  forget_fits key = record {
    gates = fits.gates;
    rows = fits.rows;
    groups_known = fits.groups_known;
    offered = ap (but_offered key) fits.offered ∙ filter_mapped offer_of (λ o. not (key_eq o.key key)) received;
    named = named_now;
    sound = λ r in_it. fits.sound r (kept_parts (λ x. not (key_eq x.key key)) received r in_it).0;
    reached = fits.reached;
  }
    where
      -- what goes is under no other key
      goes : (r x : Received) → not (key_eq r.key key) ≡ true → not (key_eq x.key key) ≡ false → key_eq x.key r.key ≡ false
      goes r x stays out =
          let other : r.key.0 ≡ key.0 → ⊥ = λ same. false≢true (sym (ap not (eq-eqb r.key.0 key.0 same)) ∙ stays) in
          let this : x.key.0 ≡ key.0 = eqb-true x.key.0 key.0 (not-false (key_eq x.key key) out) in
          ne_eqb x.key.0 r.key.0 (λ same. other (sym same ∙ this))

      named_now : (r : Received) → Contains (filter (λ x. not (key_eq x.key key)) received) r →
          message_under (filter (λ x. not (key_eq x.key key)) received) r.key ≡ Some r.message
      named_now r in_it =
          let parts = kept_parts (λ x. not (key_eq x.key key)) received r in_it in
          ap (λ (o : Option Received). option_map (λ x. x.message) o)
          (find_kept (λ x. key_eq x.key r.key) (λ x. not (key_eq x.key key)) (λ x out. goes r x parts.1 out) received)
          ∙ fits.named r parts.0

  -- what processes have delivered once one has delivered a message more
  delivered_now : (p : Proc) (m : Message) (x : Proc) (u : Uid) → has_delivered (set_process processes p (delivering m (processes p)) x)
      u ≡ (has_delivered (processes x) u || (proc_eq p x && uid_eq u m.id))
  delivered_now p m x u = elim (cases_Bool (proc_eq p x)) [
    | inl same ↦
        ap (λ b. has_delivered (if b then delivering m (processes p) else processes x) u) same
        ∙ list_any-append (uid_eq u) (processes p).delivered (m.id ∷ [])
        ∙ (λ i. has_delivered (processes (same_proc p x same i)) u || or_false (uid_eq u m.id) i)
        ∙ sym (ap (λ b. has_delivered (processes x) u || (b && uid_eq u m.id)) same)
    | inr other ↦
        ap (λ b. has_delivered (if b then delivering m (processes p) else processes x) u) other
        ∙ sym (or_false (has_delivered (processes x) u))
        ∙ sym (ap (λ b. has_delivered (processes x) u || (b && uid_eq u m.id)) other)
  ]

  delivered_still : (p : Proc) (m : Message) (x : Proc) (u : Uid) → has_delivered (processes x) u ≡ true →
      has_delivered (set_process processes p (delivering m (processes p)) x) u ≡ true
  delivered_still p m x u has = delivered_now p m x u ∙ or_left (has_delivered (processes x) u) (proc_eq p x && uid_eq u m.id) has

  delivered_own : (p : Proc) (m : Message) → has_delivered (set_process processes p (delivering m (processes p)) p) m.id ≡ true
  delivered_own p m =
      delivered_now p m p m.id
      ∙ or_right (has_delivered (processes p) m.id) (proc_eq p p && uid_eq m.id m.id)
      (and_from (proc_eq p p) (uid_eq m.id m.id) (proc_itself p) (uid_itself m.id))

  delivered_before : (p : Proc) (m : Message) (x : Proc) (u : Uid) →
      has_delivered (set_process processes p (delivering m (processes p)) x) u ≡ true → (has_delivered (processes x) u ≡ true) ⊎ (u ≡ m.id)
  delivered_before p m x u has =
      elim (or_cases (has_delivered (processes x) u) (proc_eq p x && uid_eq u m.id) (sym (delivered_now p m x u) ∙ has)) [
        | inl old ↦ inl old
        | inr own ↦ inr (same_uid u m.id (and_parts (proc_eq p x) (uid_eq u m.id) own).1)
      ]

  -- a delivery of a message that is ready is taken in as the process takes it in
  pub delivery_fits : (p : Proc) (key : Key) (m : Message) → message_under received key ≡ Some m →
      is_causally_ready groups gate (processes p) m ≡ true →
      Fits groups gate (set_process processes p (delivering m (processes p))) received (queue_delivering p key q)
  delivery_fits p key m at ready =
      let (r, found, same) = received_under received key m at in
      let sound : IsSound m = subst IsSound same (fits.sound r (found_in (λ x. key_eq x.key key) received r found)) in
      let (row, here) = ready_row p m ready in
      let offer : offered_under q.offered key ≡ Some (offer_of r) =
      ap (λ os. offered_under os key) fits.offered
      ∙ find_mapped offer_of (λ o. key_eq o.key key) received
      ∙ ap (λ (o : Option Received). option_map offer_of o) found in
      let after : after_delivery q.offered p key q.rows ≡ change_row p (delivered_row m.id m.times) q.rows =
      after_at q.offered p key q.rows (offer_of r) offer ∙ ap (λ (x : Message). change_row p (delivered_row x.id x.times) q.rows) same in
      let parts = ready_parts q.gates row m.id m.times (row_rules p row m here sound ∙ ready) in
      record {
        gates = fits.gates;
        rows =
            subst (λ rows. (x : Proc) → StandsFor gate (set_process processes p (delivering m (processes p)) x) (row_of rows x)) (sym after)
            (rows_changed p (delivered_row m.id m.times) (λ _. refl) gate processes (delivering m (processes p))
            q.rows row here (delivered_fits gate (processes p) row (row_at p row here) m sound q.gates parts) fits.rows);
        groups_known = known_still p (delivering m (processes p)) (fits.groups_known p);
        offered = fits.offered;
        named = fits.named;
        sound = fits.sound;
        reached =
            subst (λ c. Reaches gate (set_process processes p (delivering m (processes p))) c)
            (sym (raised_to q.offered key q.reached (offer_of r) offer
            ∙ ap (λ (x : Message). raised_at (source x.id.group x.id.view x.id.proc) x.id.count q.reached) same))
            (reaches_raised gate processes q.reached fits.reached (set_process processes p (delivering m (processes p)))
            (delivered_still p m) m.id sound.from_one p (delivered_own p m) (delivered_before p m));
      }

-- a new queue, and processes that have done nothing
pub new_fits : NewFits
new_fits groups = record {
  gates = λ g. refl;
  rows = λ p g. refl;
  groups_known = λ p g inside. absurd (false≢true (sym inside));
  offered = refl;
  named = λ r in_it. absurd (omega (arith, in_it.1));
  sound = λ r in_it. absurd (omega (arith, in_it.1));
  reached = record {
    most = λ p u stands has. absurd (false≢true has);
    each = λ x in_it. absurd (omega (arith, in_it.1));
  };
}

-- the clauses on what the queue answers
pub next_means : (turns : List (GroupNo × Turn)) (q : Queue) (p : Proc) (k : Option Key) → k ≡ next_key turns q p →
    (groups : List GroupNo) (gate : GroupNo → Gate) (processes : Proc → Process) (received : List Received) →
    Fits groups gate processes received q → (turn : GroupNo → Turn) → HasTurns (processes p) turns turn →
    FirstReady groups gate turn (processes p) received k
next_means turns q p k is groups gate processes received fits turn agree =
    subst (λ x. FirstReady groups gate turn (processes p) received x) (sym is)
    (next_rules groups gate processes received q fits p turns turn agree)

pub passed_is : (q : Queue) (p : Proc) (g : GroupNo) (view : ℕ) (ids : List Entry) (n : ℕ) → n ≡ passed_in q p g view ids →
    (groups : List GroupNo) (gate : GroupNo → Gate) (processes : Proc → Process) (received : List Received) →
    Fits groups gate processes received q → IsSome (row_of q.rows p) → HasNotEnded gate g view →
    n ≡ unwrap_or (list.position (λ e. not (has_delivered (processes p) (uid_in g view e))) ids) (length ids)
passed_is q p g view ids n is groups gate processes received fits admitted stands =
    is ∙ passed_rules groups gate processes received q fits p g view ids admitted stands

pub awaited_means : (q : Queue) (id : Uid) (b : Bool) → b ≡ is_awaited q.rows id →
    (groups : List GroupNo) (gate : GroupNo → Gate) (processes : Proc → Process) (received : List Received) →
    Fits groups gate processes received q → HasNotEnded gate id.group id.view → 0 < id.count → HasOneRowEach q.rows →
    (b ≡ true) ↔ IsAwaited processes id
awaited_means q id b is groups gate processes received fits stands from_one one =
    subst (λ x. (x ≡ true) ↔ IsAwaited processes id) (sym is) (awaited_rules groups gate processes received q fits one id stands from_one)

-- a row that is there has the time of its process
pub time_is : (q : Queue) (p : Proc) (row : Row) → row_of q.rows p ≡ Some row →
    (groups : List GroupNo) (gate : GroupNo → Gate) (processes : Proc → Process) (received : List Received) →
    Fits groups gate processes received q → row.time ≡ (processes p).time
time_is q p row at groups gate processes received fits = (row_at groups gate processes received q fits p row at).time

-- and where none is the process is in no group
pub no_row_is : (q : Queue) (p : Proc) → row_of q.rows p ≡ None →
    (groups : List GroupNo) (gate : GroupNo → Gate) (processes : Proc → Process) (received : List Received) →
    Fits groups gate processes received q → (g : GroupNo) → (processes p).standing g ≡ Outside
no_row_is q p none groups gate processes received fits = outside_at groups gate processes received q fits p none

-- what a process is in a group stands in its row, and without one it is in none
pub standing_is : (q : Queue) (p : Proc) (g : GroupNo) (s : Standing) →
    s ≡ option_map_or (λ row. standing_in row g) (row_of q.rows p) Outside →
    (groups : List GroupNo) (gate : GroupNo → Gate) (processes : Proc → Process) (received : List Received) →
    Fits groups gate processes received q → s ≡ (processes p).standing g
standing_is q p g s is groups gate processes received fits = is ∙ elim (option_cases (row_of q.rows p)) [
  | inl none ↦
      ap (λ (o : Option Row). option_map_or (λ row. standing_in row g) o Outside) none
      ∙ sym (outside_at groups gate processes received q fits p none g)
  | inr (row, some) ↦
      ap (λ (o : Option Row). option_map_or (λ r. standing_in r g) o Outside) some
      ∙ (row_at groups gate processes received q fits p row some).standing g
]

-- how far processes came
pub reached_says : (q : Queue) (group : GroupNo) (view : ℕ) (counts : List Entry) → counts ≡ counts_in group view q.reached →
    SaysReached q group view counts
reached_says q group view counts is = subst (λ c. SaysReached q group view c) (sym is) (record {
  most = λ groups gate processes received fits. reached_most gate processes q.reached fits.reached group view;
  each = λ groups gate processes received fits. reached_each gate processes q.reached fits.reached group view;
})

-- what is ready is ready but for the turns, so without a candidate none is ready
none_ready : (turns : List (GroupNo × Turn)) (gates : List (GroupNo × Gate)) (row : Row) (offered : List Offered) →
    candidate_for gates offered row ≡ None → first_for turns gates offered row ≡ None
none_ready turns gates row [] none = refl
none_ready turns gates row (o ∷ offered) none =
    elim (is_causally_ready_row gates row o.id o.times) as (λ b. cond b (Some o) (candidate_for gates offered row) ≡ None →
    cond (b && (not o.atomic || has_turn (turn_in turns o.id.group) (entry_of o.id))) (Some o) (first_for turns gates offered row) ≡ None) [
      | true ↦ λ some. cc some
      | false ↦ λ later. none_ready turns gates row offered later
    ] none

-- and one that is no ABCAST is the first that is ready
first_ready : (turns : List (GroupNo × Turn)) (gates : List (GroupNo × Gate)) (row : Row) (offered : List Offered) (m : Offered) →
    candidate_for gates offered row ≡ Some m → m.atomic ≡ false → first_for turns gates offered row ≡ Some m
first_ready turns gates row [] m is causal = cc is
first_ready turns gates row (o ∷ offered) m is causal =
    elim (is_causally_ready_row gates row o.id o.times) as (λ b. cond b (Some o) (candidate_for gates offered row) ≡ Some m → cond
    (b && (not o.atomic || has_turn (turn_in turns o.id.group) (entry_of o.id))) (Some o) (first_for turns gates offered row) ≡ Some m) [
      | true ↦ λ here.
          let same : o ≡ m = ap (λ (x : Option Offered). unwrap_or x o) here in
          ap (λ a. cond (not a || has_turn (turn_in turns o.id.group) (entry_of o.id)) (Some o) (first_for turns gates offered row))
          (ap (λ (x : Offered). x.atomic) same ∙ causal) ∙ here
      | false ↦ λ later. first_ready turns gates row offered m later causal
    ] is

pub candidate_means : (q : Queue) (p : Proc) (candidate : Option Offered) → candidate ≡ candidate_in q p → SaysCandidate q p candidate
candidate_means q p candidate is turns = at candidate (row_of q.rows p) is
  where
    key_for : Option Row → Option Key
    key_for o = option_map (λ x. x.key) (option_and_then (first_for turns q.gates q.offered) o)

    at : (c : Option Offered) (o : Option Row) → c ≡ option_and_then (candidate_for q.gates q.offered) o →
        MatchOption c (key_for o ≡ None) (λ m. m.atomic ≡ false → key_for o ≡ Some m.key)
    at None None _ = refl
    at None (Some row) none = ap (option_map (λ (x : Offered). x.key)) (none_ready turns q.gates row q.offered (sym none))
    at (Some m) None some = cc some
    at (Some m) (Some row) some =
        λ causal. ap (option_map (λ (x : Offered). x.key)) (first_ready turns q.gates row q.offered m (sym some) causal)

pub none_means : (q : Queue) (p : Proc) → candidate_in q p ≡ None → (turns : List (GroupNo × Turn)) → next_key turns q p ≡ None
none_means q p none = candidate_means q p None (sym none)
