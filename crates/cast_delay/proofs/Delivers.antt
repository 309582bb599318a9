-- What is told of a process, and what it delivers, its row takes in.
use Rattle.std.proofs.Common.{◌≡◌, ◌↔◌, ◌⊎◌, ℕ, ◌-◌, ◌<◌, ◌≤◌, true, false, cond, ◌&&◌, ◌||◌, List, []}
use Rattle.std.proofs.Common.{◌∷◌, Option, Some, unwrap_or, refl, sym, ap, subst, ◌∙◌, inl, inr, arith}
use Rattle.std.specs.Prelude.{nat_lt, nat_le, ◌==◌, if◌then◌else◌}
use Rattle.std.specs.Ordering.{eq_by_cmp}
use Rattle.std.specs.FinMap.Entries.{find, find-put}
use Rattle.std.proofs.lemmas.Bool.{cases_Bool, cases_eq, false≢true, ltb-true, leb-true}
use Rattle.std.proofs.lemmas.Bool.{le-leb, eqb-true, and_parts, or_cases, or_left, or_right}
use Rattle.cast_types.specs.declared.names.GroupNo.{GroupNo}
use Rattle.cast_types.specs.declared.names.Uid.{Uid}
use Rattle.cast_types.specs.declared.names.Standing.{Standing}
use Rattle.cast_types.specs.declared.names.Standing.TheVariants.{Outside, Joining, Member}
use Rattle.cast_types.specs.Names.{group_cmp, group_eq, uid_eq, entry_of}
use Rattle.cast_types.specs.Stamps.{ClockList}
use Rattle.cast_types.proofs.Orders.{group_total, group_exact, proc_exact, same_uid, uid_itself, tie_self, tie_same}
use Rattle.cast_types.proofs.CountLists.{sorted-put}
use Rattle.cast_clock.specs.Times.{clock_of, view_of, count_in, join, has_room}
use Rattle.cast_clock.proofs.Entries.{found_or}
use Rattle.cast_message.specs.declared.message.Message.{Message}
use Rattle.cast_types.specs.declared.source.Source.{Source}
use Rattle.cast_ready.specs.declared.row.Row.{Row}
use Rattle.cast_ready.specs.declared.row.ProcessUpdate.{ProcessUpdate}
use Rattle.cast_ready.specs.declared.row.ProcessUpdate.TheVariants as fact
use Rattle.cast_ready.specs.declared.gate.Gate.{Gate}
use Rattle.cast_ready.specs.Ready.{Process, is_open_to, is_member, has_delivered}
use Rattle.cast_types.specs.Sources.{source_cmp, source_of}
use Rattle.cast_ready.specs.Rows.{gate_in, standing_in, done_in, needed_count, has_past, row_allows}
use Rattle.cast_ready.specs.Rows.{all_allow, is_causally_ready_row, delivered_row, told_row}
use Rattle.cast_delay.specs.Fits.{HasNotEnded, RowFits, IsSound, tell_process, delivering}
use Rattle.cast_delay.proofs.ListLemmas.{list_any-append}
use Rattle.cast_delay.proofs.Counted.{needed_own, within_entry}
use Rattle.cast_delay.proofs.Finds.{put_at_group}
use Rattle.cast_types.proofs.Sources.{source_total, source_exact}

-- a row takes in a fact as the process does
pub told_fits : (gate : GroupNo → Gate) (p : Process) (row : Row) → RowFits gate p row → (f : ProcessUpdate) →
    RowFits gate (tell_process f p) (told_row f row)
told_fits gate p row fits (fact.Standing g s) = record {
  standing = λ h. put_at_group row.standings g h s Outside ∙ ap (λ old. if group_eq g h then s else old) (fits.standing h);
  in_order = sorted-put group_cmp group_total g s row.standings fits.in_order;
  time = fits.time;
  counts = fits.counts;
}
told_fits gate p row fits (fact.Time time) = record {
  standing = fits.standing;
  in_order = fits.in_order;
  time = refl;
  counts = fits.counts;
}

pub only_member : (s : Standing) → is_member s ≡ true → s ≡ Member
only_member Outside e = absurd (false≢true e)
only_member (Joining request heard) e = absurd (false≢true e)
only_member Member e = refl

-- the parts of readiness by a row
pub record RowReady (gates : List (GroupNo × Gate)) (row : Row) (id : Uid) (times : ClockList) : Type 0 where
  pub member : standing_in row id.group ≡ Member
  pub current : id.view ≡ (gate_in gates id.group).number
  pub fresh : done_in row id.group id.view id.proc < id.count
  pub allowed : all_allow gates row id times ≡ true
  pub room : has_room (join row.time times) ≡ true

pub ready_parts : (gates : List (GroupNo × Gate)) (row : Row) (id : Uid) (times : ClockList) →
    is_causally_ready_row gates row id times ≡ true → RowReady gates row id times
ready_parts gates row id times ready =
    let open_to = is_open_to (gate_in gates id.group) (entry_of id) in
    let fresh = nat_lt (done_in row id.group id.view id.proc) id.count in
    let rest = all_allow gates row id times && has_room (join row.time times) in
    let a =
    and_parts (is_member (standing_in row id.group)) ((id.view == (gate_in gates id.group).number) && (open_to && (fresh && rest))) ready in
    let b = and_parts (id.view == (gate_in gates id.group).number) (open_to && (fresh && rest)) a.1 in
    let c = and_parts fresh rest (and_parts open_to (fresh && rest) b.1).1 in
    let d = and_parts (all_allow gates row id times) (has_room (join row.time times)) c.1 in
    record {
      member = only_member (standing_in row id.group) a.0;
      current = eqb-true id.view (gate_in gates id.group).number b.0;
      fresh = ltb-true (done_in row id.group id.view id.proc) id.count c.0;
      allowed = d.0;
      room = d.1;
    }

-- a message that names itself in its time, ready by a row
module _ (gates : List (GroupNo × Gate)) (row : Row) (id : Uid) (times : ClockList) (view : view_of times id.group ≡ id.view)
    (count : count_in times id.group id.proc ≡ id.count) (ready : RowReady gates row id times) where
  own_past : has_past row id id.group (view_of times id.group) (clock_of times id.group).counts ≡ true
  own_past =
      let v = view_of times id.group in
      let n = (gate_in gates id.group).number in
      let past = has_past row id id.group v (clock_of times id.group).counts in
      let here : row_allows row n id times id.group Member ≡ true =
      subst (λ s. row_allows row n id times id.group s ≡ true) ready.member (found_or group_exact
      (λ h s. row_allows row (gate_in gates h).number id times h s) Outside (λ q. refl) row.standings ready.allowed id.group) in
      elim (or_cases (nat_lt v n) ((v == n) && past) here) [
        | inl lower ↦ absurd (omega (arith, ltb-true v n lower, view, ready.current))
        | inr rest ↦ (and_parts (v == n) past rest).1
      ]

  -- all before the message's own count was delivered
  pub all_before : id.count - 1 ≤ done_in row id.group id.view id.proc
  all_before =
      let g = id.group in
      let v = view_of times g in
      let counts = (clock_of times g).counts in
      let found = found_or proc_exact (λ q n. nat_le (needed_count id g v (q, n)) (done_in row g v q)) 0
      (λ q. le-leb (needed_count id g v (q, 0)) (done_in row g v q) (omega (arith, within_entry id g v (q, 0)))) counts own_past id.proc in
      let own : nat_le (needed_count id g id.view (id.proc, id.count)) (done_in row g id.view id.proc) ≡ true =
      subst (λ w. nat_le (needed_count id g w (id.proc, id.count)) (done_in row g w id.proc) ≡ true) view
      (subst (λ n. nat_le (needed_count id g v (id.proc, n)) (done_in row g v id.proc) ≡ true) count found) in
      omega (
        arith,
        leb-true (needed_count id g id.view (id.proc, id.count)) (done_in row g id.view id.proc) own,
        needed_own id g id.view (id.proc, id.count) (uid_itself id),
      )

module _ (gate : GroupNo → Gate) (p : Process) (row : Row) (fits : RowFits gate p row) (m : Message) (sound : IsSound m)
    (gates : List (GroupNo × Gate)) (ready : RowReady gates row m.id m.times) where
  -- what was delivered of the message's sender
  abbrev before : ℕ
  before = done_in row m.id.group m.id.view m.id.proc

  -- all before the message's own count
  enough : m.id.count - 1 ≤ before
  enough = all_before gates row m.id m.times sound.view sound.count ready

  abbrev after : Row
  after = delivered_row m.id m.times row

  after_own : (u : Uid) → eq_by_cmp source_cmp (source_of u) (source_of m.id) ≡ true → done_in after u.group u.view u.proc ≡ m.id.count
  after_own u tie =
      ap (λ (o : Option ℕ). unwrap_or o 0) (find-put source_cmp source_total (source_of u) (source_of m.id) m.id.count row.done)
      ∙ ap (λ b. unwrap_or (cond b (Some m.id.count) (find source_cmp (source_of u) row.done)) 0) tie

  after_other : (u : Uid) → eq_by_cmp source_cmp (source_of u) (source_of m.id) ≡ false →
      done_in after u.group u.view u.proc ≡ done_in row u.group u.view u.proc
  after_other u apart =
      ap (λ (o : Option ℕ). unwrap_or o 0) (find-put source_cmp source_total (source_of u) (source_of m.id) m.id.count row.done)
      ∙ ap (λ b. unwrap_or (cond b (Some m.id.count) (find source_cmp (source_of u) row.done)) 0) apart

  has_now : (u : Uid) → has_delivered (delivering m p) u ≡ (has_delivered p u || (uid_eq u m.id || false))
  has_now u = list_any-append (uid_eq u) p.delivered (m.id ∷ [])

  old_or_own : (u : Uid) → has_delivered (delivering m p) u ≡ true → (has_delivered p u ≡ true) ⊎ (u ≡ m.id)
  old_or_own u has = elim (or_cases (has_delivered p u) (uid_eq u m.id || false) (sym (has_now u) ∙ has)) [
    | inl old ↦ inl old
    | inr own ↦ elim (or_cases (uid_eq u m.id) false own) [
      | inl same ↦ inr (same_uid u m.id same)
      | inr neither ↦ absurd (false≢true neither)
    ]
  ]

  still : (u : Uid) → has_delivered p u ≡ true → has_delivered (delivering m p) u ≡ true
  still u old = has_now u ∙ or_left (has_delivered p u) (uid_eq u m.id || false) old

  own_now : (u : Uid) → u ≡ m.id → has_delivered (delivering m p) u ≡ true
  own_now u same =
      has_now u ∙ or_right (has_delivered p u) (uid_eq u m.id || false)
      (or_left (uid_eq u m.id) false (ap (λ w. uid_eq u w) (sym same) ∙ uid_itself u))

  counts_now : (u : Uid) → HasNotEnded gate u.group u.view →
      (has_delivered (delivering m p) u ≡ true) ↔ ((0 < u.count) × (u.count ≤ done_in after u.group u.view u.proc))
  counts_now u stands = elim (cases_Bool (eq_by_cmp source_cmp (source_of u) (source_of m.id))) [
    | inl tie ↦
        let same : source_of u ≡ source_of m.id = tie_same source_exact (source_of u) (source_of m.id) tie in
        let is = after_own u tie in
        let was : done_in row u.group u.view u.proc ≡ before = ap (λ (s : Source). done_in row s.group s.view s.process) same in (
          λ has. elim (old_or_own u has) [
            | inl old ↦ let o = (fits.counts u stands).0 old in (o.0, omega (arith, o.1, is, was, ready.fresh))
            | inr own ↦ let c = ap (λ (x : Uid). x.count) own in (omega (arith, sound.from_one, c), omega (arith, c, is))
          ],
          λ b. elim (cases_eq u.count m.id.count) [
            | inl c ↦ own_now u (λ i. record { group = (same i).group; view = (same i).view; proc = (same i).process; count = c i })
            | inr differ ↦ still u ((fits.counts u stands).1 (b.0, omega (arith, b.1, is, was, enough, differ)))
          ],
        )
    | inr apart ↦
        let is = after_other u apart in (
          λ has. elim (old_or_own u has) [
            | inl old ↦ let o = (fits.counts u stands).0 old in (o.0, omega (arith, o.1, is))
            | inr own ↦ absurd (false≢true (sym apart ∙ tie_self source_total (source_of u) (source_of m.id) (ap source_of own)))
          ],
          λ b. still u ((fits.counts u stands).1 (b.0, omega (arith, b.1, is))),
        )
  ]

  time_now : after.time ≡ join p.time m.times
  time_now =
      ap (λ b. if b then join row.time m.times else row.time) ready.room
      ∙ ap (λ t. join t m.times) fits.time

  -- a row takes in a delivery as the process does
  pub delivered_fits : RowFits gate (delivering m p) after
  delivered_fits = record { standing = fits.standing; in_order = fits.in_order; time = time_now; counts = counts_now }
