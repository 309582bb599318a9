-- By what the queue keeps of a process, a message is causally ready exactly if it is by what the process delivered.
use Rattle.std.proofs.Common.{◌≡◌, ℕ, ◌<◌, Bool, true, false, not, ◌&&◌, ◌||◌, List, [], ◌∷◌}
use Rattle.std.proofs.Common.{Option, unwrap_or, refl, sym, ap, subst, ◌∙◌, inl, inr, arith}
use Rattle.std.specs.Prelude.{nat_lt, nat_le, ◌==◌}
use Rattle.std.specs.List.{list_all}
use Rattle.std.specs.FinMap.Entries.{is_sorted}
use Rattle.std.proofs.lemmas.Bool.{or_cases, false≢true, ltb-true, lt-ltb, eqb-true, leb-true, le-leb}
use Rattle.std.proofs.lemmas.Bool.{cases_lt, not_from_false, not-true, false_from_ne_true, and_parts, and_from}
use Rattle.cast_types.specs.declared.names.GroupNo.{GroupNo}
use Rattle.cast_types.specs.declared.names.Uid.{Uid}
use Rattle.cast_types.specs.declared.names.Standing.{Standing}
use Rattle.cast_types.specs.declared.names.Standing.TheVariants.{Outside, Joining, Member}
use Rattle.cast_types.specs.Names.{group_cmp, group_eq, entry_of}
use Rattle.cast_types.specs.Sets.{is_among}
use Rattle.cast_types.proofs.Orders.{group_total, group_exact, same_group}
use Rattle.cast_clock.specs.Times.{clock_of, view_of, join, has_room}
use Rattle.cast_clock.proofs.Entries.{found_or, each_found, list_all_of, as_T}
use Rattle.cast_message.specs.declared.message.Message.{Message}
use Rattle.cast_ready.specs.declared.row.Row.{Row}
use Rattle.cast_ready.specs.declared.gate.Gate.{Gate}
use Rattle.cast_ready.specs.Ready.{Process, is_open_to, past_in, is_member, is_outside}
use Rattle.cast_ready.specs.Ready.{has_delivered, awaits, group_allows, is_causally_ready}
use Rattle.cast_ready.specs.Rows.{gate_in, standing_in, done_in, row_allows, all_allow}
use Rattle.cast_ready.specs.Rows.{has_past, is_causally_ready_row, has_delivered_in, awaits_row}
use Rattle.cast_delay.specs.Fits.{HasNotEnded, RowFits, IsSound}
use Rattle.cast_delay.proofs.Counted.{past_counted}
use Rattle.cast_delay.proofs.Turns.{and_agree}
use Rattle.cast_types.proofs.Bools.{same_bools}

-- what holds of all items of a list holds of one that is among them
pub among_holds : (t : GroupNo → Bool) (gs : List GroupNo) (g : GroupNo) → list_all t gs ≡ true → is_among group_eq g gs ≡ true → t g ≡ true
among_holds t [] g all among = absurd (false≢true among)
among_holds t (h ∷ gs) g all among =
    let parts = and_parts (t h) (list_all t gs) all in
    elim (or_cases (group_eq g h) (is_among group_eq g gs) among) [
      | inl here ↦ subst (λ k. t k ≡ true) (sym (same_group g h here)) parts.0
      | inr later ↦ among_holds t gs g parts.1 later
    ]

-- delivered, by its count
pub delivered_means : (gate : GroupNo → Gate) (p : Process) (row : Row) → RowFits gate p row → (u : Uid) → HasNotEnded gate u.group u.view →
    has_delivered_in row u ≡ has_delivered p u
delivered_means gate p row fits u stands = same_bools (has_delivered_in row u) (has_delivered p u) there back
  where
    there : has_delivered_in row u ≡ true → has_delivered p u ≡ true
    there within =
        let parts = and_parts (nat_lt 0 u.count) (nat_le u.count (done_in row u.group u.view u.proc)) within in
        (fits.counts u stands).1 (ltb-true 0 u.count parts.0, leb-true u.count (done_in row u.group u.view u.proc) parts.1)

    back : has_delivered p u ≡ true → has_delivered_in row u ≡ true
    back has =
        let bounds = (fits.counts u stands).0 has in
        and_from (nat_lt 0 u.count) (nat_le u.count (done_in row u.group u.view u.proc)) (lt-ltb 0 u.count bounds.0)
        (le-leb u.count (done_in row u.group u.view u.proc) bounds.1)

module _ (gate : GroupNo → Gate) (p : Process) (row : Row) (fits : RowFits gate p row) (id : Uid)
    (stands : HasNotEnded gate id.group id.view) (from_one : 0 < id.count) where
  -- not delivered, by its count
  pub undelivered_means : nat_lt (done_in row id.group id.view id.proc) id.count ≡ not (has_delivered p id)
  undelivered_means = same_bools (nat_lt (done_in row id.group id.view id.proc) id.count) (not (has_delivered p id)) there back
    where
      there : nat_lt (done_in row id.group id.view id.proc) id.count ≡ true → not (has_delivered p id) ≡ true
      there lt = not_from_false (has_delivered p id) (false_from_ne_true (has_delivered p id) (λ has.
          omega (arith, ltb-true (done_in row id.group id.view id.proc) id.count lt, ((fits.counts id stands).0 has).1)))

      back : not (has_delivered p id) ≡ true → nat_lt (done_in row id.group id.view id.proc) id.count ≡ true
      back hasnt = elim (cases_lt (done_in row id.group id.view id.proc) id.count) [
        | inl lt ↦ lt-ltb (done_in row id.group id.view id.proc) id.count lt
        | inr le ↦ absurd (false≢true (sym (not-true (has_delivered p id) hasnt) ∙ (fits.counts id stands).1 (from_one, le)))
      ]

  -- and so whether it is awaited
  pub awaits_means : awaits_row row id ≡ awaits p id
  awaits_means = let undelivered = undelivered_means in λ i. is_member (fits.standing id.group i) && undelivered i

module _ (gate : GroupNo → Gate) (p : Process) (row : Row) (fits : RowFits gate p row) (m : Message) where
  -- a group allows it by the row as it does by the ids
  group_means : (h : GroupNo) (number : ℕ) → number ≡ (gate h).number → (s : Standing) →
      row_allows row number m.id m.times h s ≡ group_allows s p (gate h) m h
  group_means h number is Outside = refl
  group_means h number is (Joining request heard) = refl
  group_means h number is Member =
      let v = view_of m.times h in
      let counted : Bool = has_past row m.id h v (clock_of m.times h).counts in
      let all : Bool = list_all (has_delivered p) (past_in m h) in
      (λ i. nat_lt v (is i) || ((v == is i) && counted))
      ∙ ap (λ b. nat_lt v (gate h).number || b) (and_agree (v == (gate h).number) counted all
      (λ same.
      past_counted gate p row fits m.id h v (let at = eqb-true v (gate h).number same in omega (arith, at)) (clock_of m.times h).counts))

  module _ (groups : List GroupNo) (gates : List (GroupNo × Gate)) (gated : (g : GroupNo) → gate_in gates g ≡ gate g) where
    abbrev allows : GroupNo → Standing → Bool
    allows h s = row_allows row (gate_in gates h).number m.id m.times h s

    -- what allows it in all of the row's groups allows it in each group
    pub allowed_in : all_allow gates row m.id m.times ≡ true → (h : GroupNo) → allows h (standing_in row h) ≡ true
    allowed_in all h = found_or group_exact allows Outside (λ q. refl) row.standings all h

    module _ (known : (g : GroupNo) → is_outside (p.standing g) ≡ false → is_among group_eq g groups ≡ true) where
      abbrev rule : GroupNo → Bool
      rule h = group_allows (p.standing h) p (gate h) m h

      rule_at : (h : GroupNo) → allows h (standing_in row h) ≡ rule h
      rule_at h =
          ap (λ s. allows h s) (fits.standing h)
          ∙ group_means h (gate_in gates h).number (ap (λ (x : Gate). x.number) (gated h)) (p.standing h)

      -- a group that is not the domain's holds nothing back
      rule_outside : (h : GroupNo) (s : Standing) → (is_outside s ≡ false → group_allows s p (gate h) m h ≡ true) →
          group_allows s p (gate h) m h ≡ true
      rule_outside h Outside inside = refl
      rule_outside h (Joining request heard) inside = inside refl
      rule_outside h Member inside = inside refl

      rule_everywhere : list_all rule groups ≡ true → (h : GroupNo) → rule h ≡ true
      rule_everywhere all h = rule_outside h (p.standing h) (λ inside. among_holds rule groups h all (known h inside))

      all_means : all_allow gates row m.id m.times ≡ list_all rule groups
      all_means = same_bools (all_allow gates row m.id m.times) (list_all rule groups)
          (λ all. list_all_of rule groups (λ h. sym (rule_at h) ∙ allowed_in all h))
          (λ all. each_found group_total allows row.standings (as_T (is_sorted group_cmp row.standings) fits.in_order) (λ q v is.
          ap (λ (o : Option Standing). allows q (unwrap_or o Outside)) (sym is) ∙ rule_at q ∙ rule_everywhere all q))

      -- the counts tell whether the message is ready
      pub row_means : IsSound m → is_causally_ready_row gates row m.id m.times ≡ is_causally_ready groups gate p m
      row_means sound =
          let g = m.id.group in
          let open_to : Bool = is_open_to (gate g) (entry_of m.id) in
          let counted : Bool = nat_lt (done_in row g m.id.view m.id.proc) m.id.count in
          let rest : Bool = list_all rule groups && has_room (join p.time m.times) in
          (λ i. is_member (fits.standing g i)
          && ((m.id.view == (gated g i).number)
          && (is_open_to (gated g i) (entry_of m.id)
          && (counted
          && (all_means i
          && has_room (join (fits.time i) m.times))))))
          ∙ ap (λ b. is_member (p.standing g) && b)
          (and_agree (m.id.view == (gate g).number) (open_to && (counted && rest)) (open_to && (not (has_delivered p m.id) && rest))
          (λ same. ap (λ b. open_to && (b && rest))
          (undelivered_means gate p row fits m.id (let at = eqb-true m.id.view (gate g).number same in omega (arith, at)) sound.from_one)))
