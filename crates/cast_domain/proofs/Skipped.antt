-- Processes that are in no group are passed over: a round that goes on behind them is the round that goes on with them.
use Rattle.std.proofs.Common.{◌≡◌, ◌≤◌, ◌<◌, ◌+◌, ◌-◌, ℕ, zero, suc, Bool, false, drop}
use Rattle.std.proofs.Common.{Some, None, refl, sym, ap, subst, ◌∙◌, inl, inr, arith}
use Rattle.std.specs.Prelude.{◌||◌, slice_get}
use Rattle.std.specs.List.{fold}
use Rattle.std.specs.Option.{option_map}
use Rattle.std.proofs.lemmas.Bool.{or_parts}
use Rattle.std.proofs.lemmas.Option.{slice_get_cases}
use Rattle.cast_types.specs.declared.names.Proc.{Proc}
use Rattle.cast_ready.specs.declared.row.Row.{Row}
use Rattle.cast_delay.specs.Says.{SaysMayDeliver}
use Rattle.cast_rules.specs.Rules.Rest.{deliver_all, settle}
use Rattle.cast_domain.specs.Records.{Records}
use Rattle.cast_domain.specs.PartCalls.{local_in, serials_in}
use Rattle.cast_domain.specs.Calls.{records}
use Rattle.cast_domain.specs.RestCalls.{ready_key_in, resting_records, turns_in}
use Rattle.cast_domain.specs.Flags.{changes_over, delivers_some, has_ready}
use Rattle.cast_domain.proofs.Remaining.{RemainAs, gone_of, remain_as}
use Rattle.cast_domain.proofs.Rounds.{remain_deliver_all, round_changes, round_items, round_next, round_over}
use Rattle.cast_domain.proofs.Rows.{names_of}
use Rattle.cast_domain.proofs.Unready.{delivers_none, not_ready}

-- what is left of a round from a place on, and whether one of its processes delivers
abbrev rest_from : Records → Records → ℕ → Records
rest_from first r i = fold (deliver_all records resting_records) r (drop i (serials_in first))

abbrev delivers_from : Records → Records → ℕ → Bool
delivers_from first r i = changes_over has_ready (deliver_all records resting_records) r (drop i (serials_in first))

-- from a place to another the rows are of processes of this site for which no message is ready
abbrev AreIdle : Records → ℕ → ℕ → Type 0
AreIdle r from upto =
    (i : ℕ) (row : Row) → from ≤ i → i < upto → slice_get r.delay.rows i ≡ Some row →
    (row.process.site ≡ r.site) × SaysMayDeliver r.delay row.process false

abbrev AreAlike : Records → Records → ℕ → ℕ → Type 0
AreAlike first r i j = (rest_from first r i ≡ rest_from first r j) × (delivers_from first r i ≡ delivers_from first r j)

module _ (first r : Records) (same : RemainAs first r) where
  -- one is passed over
  past_one : (i : ℕ) → AreIdle r i (i + 1) → AreAlike first r i (i + 1)
  past_one i idle = elim (slice_get_cases r.delay.rows i).1 [
    | inl (row, within, at, here) ↦
        let p = row.process in
        let is = idle i row (omega arith) (omega arith) at in
        let own : local_in r p.serial ≡ p = λ j. record { site = sym is.0 j; serial = p.serial } in
        let none : ready_key_in r (local_in r p.serial) ≡ None = ap (ready_key_in r) own ∙ is.1 refl (turns_in r p) in
        let items = round_items first r same i p (ap (option_map (λ (y : Row). y.process)) at) in
        let left = drop (i + 1) (serials_in first) in (
          ap (fold (deliver_all records resting_records) r) items
              ∙ ap (λ t. fold (deliver_all records resting_records) t left) (delivers_none r p.serial none),
          ap (changes_over has_ready (deliver_all records resting_records) r) items
              ∙ ap
              (λ b. b || changes_over has_ready (deliver_all records resting_records) (deliver_all records resting_records r p.serial) left)
              (not_ready r p.serial none)
              ∙ ap (λ t. changes_over has_ready (deliver_all records resting_records) t left) (delivers_none r p.serial none),
        )
    | inr (past, gone) ↦
        let over = sym (round_over first r same i (ap (option_map (λ (y : Row). y.process)) gone)) in
        (ap (fold (deliver_all records resting_records) r) over, ap (changes_over has_ready (deliver_all records resting_records) r) over)
  ]

  past_many : (n i : ℕ) → AreIdle r i (i + n) → AreAlike first r i (i + n)
  past_many zero i idle =
      let none : i ≡ i + 0 = omega arith in
      (ap (rest_from first r) none, ap (delivers_from first r) none)
  past_many (suc n) i idle =
      let one = past_one i (λ j row low high. idle j row low (omega (arith, high))) in
      let others = past_many n (i + 1) (λ j row low high. idle j row (omega (arith, low)) (omega (arith, high))) in
      let all : i + 1 + n ≡ i + suc n = omega arith in
      (one.0 ∙ others.0 ∙ ap (rest_from first r) all, one.1 ∙ others.1 ∙ ap (delivers_from first r) all)

  passed_over : (from upto : ℕ) → from ≤ upto → AreIdle r from upto → AreAlike first r from upto
  passed_over from upto le idle =
      let all : from + (upto - from) ≡ upto = omega (arith, le) in
      let many = past_many (upto - from) from (λ i row low high. idle i row low (omega (arith, high, le))) in
      (many.0 ∙ ap (rest_from first r) all, many.1 ∙ ap (delivers_from first r) all)

-- A round so far: those that are left lead to where the round leads, and tell whether it changes something
pub record IsRound (first : Records) (r : Records) (changed : Bool) (i : ℕ) : Type 0 where
  pub remain : RemainAs first r
  pub left : rest_from first r i ≡ settle records resting_records first
  pub told : (changed || delivers_from first r i) ≡ delivers_some first
  pub still : changed ≡ false → r ≡ first

pub round_begins : (r : Records) → IsRound r r false 0
round_begins r = record { remain = remain_as r; left = refl; told = refl; still = λ e. refl }

pub round_skips : (first r : Records) (changed : Bool) (from upto : ℕ) → IsRound first r changed from → from ≤ upto → AreIdle r from upto →
    IsRound first r changed upto
round_skips first r changed from upto so_far le idle =
    let over = passed_over first r so_far.remain from upto le idle in
    record {
      remain = so_far.remain;
      left = sym over.0 ∙ so_far.left;
      told = ap (λ b. changed || b) (sym over.1) ∙ so_far.told;
      still = so_far.still;
    }

-- the process at a place delivers
pub round_delivers : (first r v : Records) (changed delivered : Bool) (i : ℕ) (p : Proc) → IsRound first r changed i →
    option_map (λ row. row.process) (slice_get r.delay.rows i) ≡ Some p → v ≡ deliver_all records resting_records r p.serial →
    delivered ≡ has_ready r p.serial → (delivered ≡ false → v ≡ r) → IsRound first v (changed || delivered) (i + 1)
round_delivers first r v changed delivered i p so_far at made told still =
    record {
      remain = subst (RemainAs first) (sym made)
          (remain_deliver_all first.site (names_of first.delay.rows) (gone_of first) r so_far.remain p.serial);
      left =
          ap (λ x. fold (deliver_all records resting_records) x (drop (i + 1) (serials_in first))) made
          ∙ round_next (deliver_all records resting_records) first r so_far.remain i p at
          ∙ so_far.left;
      told = round_changes has_ready (deliver_all records resting_records) first r v so_far.remain changed delivered i p at told made
          ∙ so_far.told;
      still = λ e.
          let parts = or_parts changed delivered e in
          still parts.1 ∙ so_far.still parts.0;
    }

-- there is none
pub round_passes : (first r : Records) (changed : Bool) (i : ℕ) → IsRound first r changed i →
    option_map (λ row. row.process) (slice_get r.delay.rows i) ≡ None → IsRound first r changed (i + 1)
round_passes first r changed i so_far none =
    let over = round_over first r so_far.remain i none in
    record {
      remain = so_far.remain;
      left = ap (fold (deliver_all records resting_records) r) over ∙ so_far.left;
      told = ap (λ ks. changed || changes_over has_ready (deliver_all records resting_records) r ks) over ∙ so_far.told;
      still = so_far.still;
    }
