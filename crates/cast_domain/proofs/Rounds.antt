-- Rules leave the processes of the queue's rows, so one round over those is one over all serials.
use Rattle.std.proofs.Common.{◌≡◌, ℕ, zero, suc, cond, Bool, true, false, List, [], ◌∷◌, map, filter}
use Rattle.std.proofs.Common.{Option, Some, None, drop, refl, sym, ap, ◌∙◌, inl, inr, append_assoc, arith}
use Rattle.std.specs.Prelude.{◌+◌, ◌≤◌, ◌++◌, ◌&&◌, ◌||◌, not, length, if◌then◌else◌, slice_get}
use Rattle.std.specs.List.{fold}
use Rattle.std.specs.Option.{option_map, option_map_or, option_and_then}
use Rattle.std.proofs.lemmas.List.{append-nil, drop_all, drop_more, length-map}
use Rattle.std.proofs.lemmas.Option.{none-some, get_or_from_slice_get, slice_get-map, slice_get_within, slice_get_cases}
use Rattle.cast_types.specs.declared.names.SiteNo.{SiteNo}
use Rattle.cast_types.specs.declared.names.GroupNo.{GroupNo}
use Rattle.cast_types.specs.declared.names.Proc.{Proc}
use Rattle.cast_types.specs.declared.names.Key.{Key}
use Rattle.cast_types.specs.declared.names.Standing.TheVariants.{Outside}
use Rattle.cast_types.specs.Names.{proc_eq}
use Rattle.cast_types.specs.Sets.{is_among}
use Rattle.cast_types.specs.Repeat.{iterate}
use Rattle.cast_types.proofs.Iterates.{iterate_still}
use Rattle.cast_message.specs.declared.message.Message.{Message}
use Rattle.cast_message.specs.Membership.{Membership}
use Rattle.cast_message.specs.Receipts.{message_under}
use Rattle.cast_ready.specs.declared.row.Row.{Row}
use Rattle.cast_ready.specs.Ready.{is_member}
use Rattle.cast_ready.specs.Rows.{standing_in}
use Rattle.cast_delay.specs.Queue.{row_of, first_for}
use Rattle.cast_rules.specs.State.{State, serials}
use Rattle.cast_rules.specs.Rules.Release.{let_go}
use Rattle.cast_rules.specs.Rules.Rest.{tell_if, told_of, deliver_first, deliver_all, settle}
use Rattle.cast_domain.specs.Records.{Records}
use Rattle.cast_domain.specs.PartCalls.{local_in, serials_in}
use Rattle.cast_domain.specs.ViewCalls.{put_out_in, put_out_if_in, put_out_all_in}
use Rattle.cast_domain.specs.Calls.{records}
use Rattle.cast_domain.specs.RestCalls.{take_delivery_in, weight_of, note_weight_in, note_delivered_under}
use Rattle.cast_domain.specs.RestCalls.{ready_key_in, next_ready_in, turns_in, resting_records}
use Rattle.cast_domain.specs.declared.rest.Weight.TheVariants.{Nothing, Placed, Hands}
use Rattle.cast_domain.specs.Fits.{Fits}
use Rattle.cast_domain.specs.Flags.{changes_over}
use Rattle.cast_domain.proofs.Flagged.{either_of}
use Rattle.cast_domain.proofs.Loops.{fold_item}
use Rattle.cast_domain.proofs.Rows.{names_of, serials_named, row_untested}
use Rattle.cast_rules.proofs.Rules.Rest.{told_if_keeps}
use Rattle.cast_domain.proofs.Remaining.{names_after, Remain, RemainAs, gone_of, remain_as, remain_put_out, all_remain, remain_let_go}

module _ (site : SiteNo) (names : List Proc) (gone : ℕ → Bool) where
  abbrev Same : Records → Type 0
  Same = Remain site names gone

  -- a process delivers
  remain_delivered : (r : Records) → Same r → (p : Proc) (key : Key) (m : Message) → Same (note_delivered_under r p key m)
  remain_delivered r h p key m =
      let taken : Same (take_delivery_in r p key m.id) = (h.0, names_after r.delay.offered p key r.delay.rows ∙ h.1, h.2) in
      elim (weight_of m.body) as (λ w. Same (note_weight_in w (take_delivery_in r p key m.id) p m.id)) [
        | Nothing ↦ taken
        | Placed ↦ taken
        | Hands q first ↦ taken
      ]

  remain_first : (k : ℕ) (r : Records) → Same r → Same (deliver_first records resting_records k r)
  remain_first k r h =
      elim (next_ready_in r k) as (λ o. Same (elim o [
        | Some m ↦
            let_go records resting_records (tell_if records (resting_records.note_delivered r k m) k (told_of m.id m.body))
        | None ↦ r
      ])) [
        | Some m ↦
            let noted : Same (resting_records.note_delivered r k m) =
            elim (ready_key_in r (local_in r k)) as (λ o. Same (option_map_or (λ key. note_delivered_under r (local_in r k) key m) o r)) [
              | Some key ↦ remain_delivered r h (local_in r k) key m
              | None ↦ h
            ] in
            let pushed =
            told_if_keeps records Same (all_remain site names gone) (resting_records.note_delivered r k m) noted k (told_of m.id m.body) in
            let now : Records = tell_if records (resting_records.note_delivered r k m) k (told_of m.id m.body) in
            remain_let_go site names gone now pushed
        | None ↦ h
      ]

  remain_turns : (n k : ℕ) (r : Records) → Same r → Same (iterate n (deliver_first records resting_records k) r)
  remain_turns zero k r h = h
  remain_turns (suc n) k r h = remain_turns n k (deliver_first records resting_records k r) (remain_first k r h)

  pub remain_deliver_all : (r : Records) → Same r → (k : ℕ) → Same (deliver_all records resting_records r k)
  remain_deliver_all r h k = remain_turns (length r.part.kept) k r h

-- the serials of rows are those of their processes
serials_by_names : (rows : List Row) → map (λ (row : Row). row.process.serial) rows ≡ map (λ (p : Proc). p.serial) (names_of rows)
serials_by_names [] = refl
serials_by_names (row ∷ rows) = ap (λ ks. row.process.serial ∷ ks) (serials_by_names rows)

pub same_serials : (r x : Records) → RemainAs r x → serials_in x ≡ serials_in r
same_serials r x h = serials_by_names x.delay.rows ∙ ap (map (λ (p : Proc). p.serial)) h.1 ∙ sym (serials_by_names r.delay.rows)

-- A round goes from place to place

-- the serial of a row at a place
serial_there : (rows : List Row) (i : ℕ) (p : Proc) → option_map (λ row. row.process) (slice_get rows i) ≡ Some p →
    slice_get (map (λ row. row.process.serial) rows) i ≡ Some p.serial
serial_there rows i p at =
    slice_get-map (λ (row : Row). row.process.serial) rows i
    ∙ serial_at (slice_get rows i)
    ∙ ap (λ (o : Option Proc). option_map (λ (q : Proc). q.serial) o) at
  where
    serial_at : (o : Option Row) →
        option_map (λ (row : Row). row.process.serial) o ≡ option_map (λ (q : Proc). q.serial) (option_map (λ (row : Row). row.process) o)
    serial_at (Some row) = refl
    serial_at None = refl

-- past the last row no serial is left
none_left : (rows : List Row) (ks : List ℕ) → length ks ≡ length rows → (i : ℕ) →
    option_map (λ row. row.process) (slice_get rows i) ≡ None → drop (i + 1) ks ≡ drop i ks
none_left rows ks long i none = elim (slice_get_cases rows i).1 [
  | inl (row, within, at, here) ↦
      absurd (none-some row.process (sym none ∙ ap (λ (o : Option Row). option_map (λ (y : Row). y.process) o) at))
  | inr (past, gone) ↦ drop_all (i + 1) ks (omega (arith, long, past)) ∙ sym (drop_all i ks (omega (arith, long, past)))
]

-- the process at a place is the next one
pub round_next : (f : Records → ℕ → Records) (r x : Records) → RemainAs r x → (i : ℕ) (p : Proc) →
    option_map (λ row. row.process) (slice_get x.delay.rows i) ≡ Some p →
    fold f (f x p.serial) (drop (i + 1) (serials_in r)) ≡ fold f x (drop i (serials_in r))
round_next f r x h i p at =
    ap (λ k. fold f (f x k) (drop (i + 1) (serials_in r))) (sym (get_or_from_slice_get (serials_in r) i p.serial 0 there))
    ∙ fold_item f x (serials_in r) i 0 (slice_get_within (serials_in r) i p.serial there)
  where
    there : slice_get (serials_in r) i ≡ Some p.serial
    there = ap (λ ks. slice_get ks i) (sym (same_serials r x h)) ∙ serial_there x.delay.rows i p at

-- so it is the first of those that are left, and of the steps one changes something: its own, or one of those behind it
pub round_items : (r x : Records) → RemainAs r x → (i : ℕ) (p : Proc) →
    option_map (λ row. row.process) (slice_get x.delay.rows i) ≡ Some p → drop i (serials_in r) ≡ p.serial ∷ drop (i + 1) (serials_in r)
round_items r x h i p at =
    drop_more (serials_in r) i 0 (slice_get_within (serials_in r) i p.serial there)
    ∙ ap (λ k. k ∷ drop (i + 1) (serials_in r)) (get_or_from_slice_get (serials_in r) i p.serial 0 there)
  where
    there : slice_get (serials_in r) i ≡ Some p.serial
    there = ap (λ ks. slice_get ks i) (sym (same_serials r x h)) ∙ serial_there x.delay.rows i p at

pub round_changes : (flag : Records → ℕ → Bool) (step : Records → ℕ → Records) (r x v : Records) → RemainAs r x →
    (changed told : Bool) (i : ℕ) (p : Proc) → option_map (λ row. row.process) (slice_get x.delay.rows i) ≡ Some p →
    told ≡ flag x p.serial → v ≡ step x p.serial → ((changed || told) || changes_over flag step v (drop (i + 1) (serials_in r)))
    ≡ (changed || changes_over flag step x (drop i (serials_in r)))
round_changes flag step r x v h changed told i p at is made =
    let later : List ℕ = drop (i + 1) (serials_in r) in
    either_of changed told (changes_over flag step v later)
    ∙ (λ j. changed || (is j || changes_over flag step (made j) later))
    ∙ sym (ap (λ ks. changed || changes_over flag step x ks) (round_items r x h i p at))

-- past the last place there is none
pub round_over : (r x : Records) → RemainAs r x → (i : ℕ) → option_map (λ row. row.process) (slice_get x.delay.rows i) ≡ None →
    drop (i + 1) (serials_in r) ≡ drop i (serials_in r)
round_over r x h i none =
    none_left x.delay.rows (serials_in r)
    (ap length (sym (same_serials r x h)) ∙ length-map x.delay.rows (λ (row : Row). row.process.serial)) i none

pub round_past : (f : Records → ℕ → Records) (r x : Records) → RemainAs r x → (i : ℕ) →
    option_map (λ row. row.process) (slice_get x.delay.rows i) ≡ None →
    fold f x (drop (i + 1) (serials_in r)) ≡ fold f x (drop i (serials_in r))
round_past f r x h i none =
    ap (fold f x) (round_over r x h i none)

-- Serials that are gathered row by row: those so far, with those that are left

-- one is added, if it is one of them
abbrev pub gathered : Bool → List ℕ → ℕ → List ℕ
gathered b so_far k = if b then so_far ++ k ∷ [] else so_far

pub gather_next : (test : ℕ → Bool) (rows : List Row) (i : ℕ) (p : Proc) (so_far : List ℕ) →
    option_map (λ row. row.process) (slice_get rows i) ≡ Some p → gathered (test p.serial) so_far p.serial ++ filter test
    (drop (i + 1) (map (λ row. row.process.serial) rows)) ≡ so_far ++ filter test (drop i (map (λ row. row.process.serial) rows))
gather_next test rows i p so_far at =
    (elim (test p.serial)
    as (λ b. gathered b so_far p.serial ++ filter test later ≡ so_far ++ cond b (p.serial ∷ filter test later) (filter test later)) [
      | true ↦ append_assoc so_far (p.serial ∷ []) (filter test later)
      | false ↦ refl
    ])
    ∙ sym (ap (λ ks. so_far ++ filter test ks) (drop_more serials_of i 0 (slice_get_within serials_of i p.serial there)
    ∙ ap (λ k. k ∷ later) (get_or_from_slice_get serials_of i p.serial 0 there)))
  where
    serials_of : List ℕ
    serials_of = map (λ row. row.process.serial) rows

    later : List ℕ
    later = drop (i + 1) serials_of

    there : slice_get serials_of i ≡ Some p.serial
    there = serial_there rows i p at

pub gather_past : (test : ℕ → Bool) (rows : List Row) (i : ℕ) (so_far : List ℕ) →
    option_map (λ row. row.process) (slice_get rows i) ≡ None → so_far ++ filter test (drop (i + 1) (map (λ row. row.process.serial) rows))
    ≡ so_far ++ filter test (drop i (map (λ row. row.process.serial) rows))
gather_past test rows i so_far none =
    ap (λ ks. so_far ++ filter test ks)
    (none_left rows (map (λ row. row.process.serial) rows) (length-map rows (λ (row : Row). row.process.serial)) i none)

-- in the end none is left
pub gather_end : (test : ℕ → Bool) (rows : List Row) (i : ℕ) (so_far : List ℕ) → length rows ≤ i →
    so_far ≡ so_far ++ filter test (drop i (map (λ row. row.process.serial) rows))
gather_end test rows i so_far past =
    sym (append-nil so_far)
    ∙ ap (λ ks. so_far ++ filter test ks)
    (sym (drop_all i (map (λ row. row.process.serial) rows) (omega (arith, past, length-map rows (λ (row : Row). row.process.serial)))))

-- One round over the rows is one over all serials, where who has no row has nothing to do

round_filter : (f : Records → ℕ → Records) (holds : Records → Type 0) (test : ℕ → Bool) →
    ((r : Records) → holds r → (k : ℕ) → holds (f r k)) → ((r : Records) → holds r → (k : ℕ) → test k ≡ false → f r k ≡ r) →
    (ks : List ℕ) (r : Records) → holds r → fold f r (filter test ks) ≡ fold f r ks
round_filter f holds test keeps nothing [] r h = refl
round_filter f holds test keeps nothing (k ∷ ks) r h =
    elim (test k) as (λ b. test k ≡ b → fold f r (cond b (k ∷ filter test ks) (filter test ks)) ≡ fold f (f r k) ks) [
      | true ↦ λ _. round_filter f holds test keeps nothing ks (f r k) (keeps r h k)
      | false ↦ λ fails. round_filter f holds test keeps nothing ks r h ∙ ap (λ x. fold f x ks) (sym (nothing r h k fails))
    ] refl

-- the serials of the rows are those that have one
pub serials_there : (r : Records) (s : State) (fits : Fits r s) → serials_in r ≡ filter fits.processes.has_row (serials s)
serials_there r s fits = serials_named s r.delay.rows (filter fits.processes.has_row (serials s)) fits.processes.rows

round_all : (f : Records → ℕ → Records) → ((r : Records) (x : Records) → RemainAs r x → (k : ℕ) → RemainAs r (f x k)) →
    ((r : Records) (k : ℕ) → row_of r.delay.rows (local_in r k) ≡ None → f r k ≡ r) → (r : Records) (s : State) → Fits r s →
    fold f r (serials_in r) ≡ fold f r (serials s)
round_all f keeps nothing r s fits =
    ap (fold f r) (serials_there r s fits)
    ∙ round_filter f (RemainAs r) fits.processes.has_row (keeps r)
    (λ x h k untested. nothing x k
    (ap (λ t. row_of x.delay.rows (record { site = t; serial = k })) (h.0 ∙ ap (λ c. c.site) fits.core)
    ∙ row_untested s x.delay.rows fits.processes.has_row s.used (h.1 ∙ fits.processes.rows) k untested))
    (serials s) r (remain_as r)

-- who has no row is not put out
pub round_put_out : (g : GroupNo) (skips : Bool) (members : Membership) (r : Records) (s : State) → Fits r s →
    put_out_all_in g skips members r ≡ fold (put_out_if_in g skips members) r (serials s)
round_put_out g skips members =
    round_all (put_out_if_in g skips members)
    (λ r x h k. remain_put_out r.site (names_of r.delay.rows) (gone_of r) g skips members x h k)
    (λ r k none. ap (λ b. if b then put_out_in g r (local_in r k) else r)
    (ap (λ (o : Option Row). is_member (option_map_or (λ row. standing_in row g) o Outside)
    && (skips || not (is_among proc_eq (local_in r k) members.list))) none))

-- nor does it deliver
pub round_settle : (r : Records) (s : State) → Fits r s →
    settle records resting_records r ≡ fold (deliver_all records resting_records) r (serials s)
round_settle =
    round_all (deliver_all records resting_records)
    (λ r x h k. remain_deliver_all r.site (names_of r.delay.rows) (gone_of r) x h k)
    (λ r k none. iterate_still (length r.part.kept) (deliver_first records resting_records k) r (first_none r k none))
  where
    first_none : (r : Records) (k : ℕ) → row_of r.delay.rows (local_in r k) ≡ None → deliver_first records resting_records k r ≡ r
    first_none r k none =
        ap (λ (o : Option Message). elim o [
          | Some m ↦
              let_go records resting_records (tell_if records (resting_records.note_delivered r k m) k (told_of m.id m.body))
          | None ↦ r
        ])
        (ap (λ (o : Option Key). option_map_or (message_under r.part.kept) o None)
        (ap (λ (o : Option Row).
        option_map (λ x. x.key) (option_and_then (first_for (turns_in r (local_in r k)) r.delay.gates r.delay.offered) o)) none))
