-- How much the ledger keeps.
use Rattle.std.specs.Prelude.{◌≡◌, ◌≤◌, ℕ, ◌+◌, ◌*◌, Bool, true, false, ◌&&◌, List, length, sum_by}
use Rattle.std.specs.Prelude.{Contains}
use Rattle.std.specs.FinMap.Entries.{is_sorted}
use Rattle.cast_types.specs.declared.names.SiteNo.{SiteNo}
use Rattle.cast_types.specs.declared.names.GroupNo.{GroupNo}
use Rattle.cast_types.specs.declared.names.Uid.{Uid}
use Rattle.cast_types.specs.declared.source.Source.{Source}
use Rattle.cast_types.specs.Sources.{source_cmp, is_ended}
use Rattle.cast_stable.specs.declared.witness.Witness.{Witness}
use Rattle.cast_stable.specs.Runs.{Run}
use Rattle.cast_stable.specs.Witnesses.{witness_cmp}
use Rattle.cast_stable.specs.Acks.{Acks, new_ledger, told_ledger, received_ledger}
use Rattle.cast_stable.specs.Acks.{acked_ledger, learnt_ledger}

-- the runs of a list, and the counts that they keep above their gaps
abbrev pub runs_size : {K : Type 0} → List (K × Run) → ℕ
runs_size es = length es + sum_by (λ e. length e.1.above) es

-- how many numbers the ledger keeps: one for each source received, for each source and site that
-- acknowledged, for each count above a gap, and for each source told to be stable; the other sites
-- of a group's view are not counted
abbrev pub size : Acks → ℕ
size l = runs_size l.received + runs_size l.acked + length l.told

-- the sources received rise, and so do the sources and sites that acknowledged
abbrev pub is_in_order : Acks → Bool
is_in_order l = is_sorted source_cmp l.received && is_sorted witness_cmp l.acked

-- One call

abbrev pub NewKeepsNone : Type 0
NewKeepsNone = (here : SiteNo) → size (new_ledger here) ≡ 0

-- a receipt adds at most a run and a count
abbrev pub ReceiveAddsTwo : Type 0
ReceiveAddsTwo =
    (l : Acks) (u : Uid) → is_sorted source_cmp l.received ≡ true
    → size (received_ledger l u) ≤ size l + 2

abbrev pub AckAddsTwo : Type 0
AckAddsTwo =
    (l : Acks) (from : SiteNo) (u : Uid) → is_sorted witness_cmp l.acked ≡ true
    → size (acked_ledger l from u) ≤ size l + 2

abbrev pub LearnAddsOne : Type 0
LearnAddsOne = (l : Acks) (u : Uid) → size (learnt_ledger l u) ≤ size l + 1

abbrev pub TellAddsNone : Type 0
TellAddsNone =
    (l : Acks) (g : GroupNo) (number : ℕ) (sites : List SiteNo)
    → size (told_ledger l g number sites) ≤ size l

-- the ledger has nothing of a group's views before the one of this number
pub record HasNoneEnded (g : GroupNo) (number : ℕ) (l : Acks) : Type 0 where
  pub received : (e : Source × Run) → Contains l.received e → is_ended g number e.0 ≡ false
  pub acked : (e : Witness × Run) → Contains l.acked e → is_ended g number e.0.source ≡ false
  pub told : (e : Source × ℕ) → Contains l.told e → is_ended g number e.0 ≡ false

abbrev pub TellLeavesNoneEnded : Type 0
TellLeavesNoneEnded =
    (l : Acks) (g : GroupNo) (number : ℕ) (sites : List SiteNo)
    → HasNoneEnded g number (told_ledger l g number sites)

-- Many calls

-- a ledger after so many receipts, acknowledgements and news of stability in all, and any views
pub data IsAfter : ℕ → Acks → Type 0 where
  opens : (here : SiteNo) → IsAfter 0 (new_ledger here)
  receives : (n : ℕ) (l : Acks) (u : Uid) → IsAfter n l → IsAfter (n + 1) (received_ledger l u)
  takes_ack : (n : ℕ) (l : Acks) (from : SiteNo) (u : Uid) → IsAfter n l →
      IsAfter (n + 1) (acked_ledger l from u)
  learns : (n : ℕ) (l : Acks) (u : Uid) → IsAfter n l → IsAfter (n + 1) (learnt_ledger l u)
  enters : (n : ℕ) (l : Acks) (g : GroupNo) (number : ℕ) (sites : List SiteNo) → IsAfter n l →
      IsAfter n (told_ledger l g number sites)

-- whatever came to a ledger, it is in order
abbrev pub AllAreInOrder : Type 0
AllAreInOrder = (n : ℕ) (l : Acks) → IsAfter n l → is_in_order l ≡ true

-- and it keeps at most two numbers for each receipt, acknowledgement and news of stability
abbrev pub AllKeepFew : Type 0
AllKeepFew = (n : ℕ) (l : Acks) → IsAfter n l → size l ≤ 2 * n
