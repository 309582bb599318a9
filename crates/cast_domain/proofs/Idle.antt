-- Where no process has anything to list, nothing is listed: in one group, and in all.
use Rattle.std.proofs.Common.{◌≡◌, ℕ, true, false, cond, List, [], ◌∷◌, length, Some, None, unwrap_or, refl, ap, ◌∙◌}
use Rattle.std.specs.Prelude.{◌+◌, ◌&&◌, ◌||◌, nat_lt, if◌then◌else◌, is_some}
use Rattle.std.specs.List.{find, fold, list_any}
use Rattle.std.specs.Option.{option_map_or}
use Rattle.std.proofs.lemmas.Bool.{or_parts}
use Rattle.cast_types.specs.declared.names.Proc.{Proc}
use Rattle.cast_types.specs.declared.limits.TheConstants.{MAX_POSITION}
use Rattle.cast_types.specs.Names.{proc_eq}
use Rattle.cast_types.proofs.Bools.{and_none}
use Rattle.cast_order.specs.Hand.{Hand, hand_of, new_hand}
use Rattle.cast_order.specs.Order.{ids_to_list}
use Rattle.cast_order.specs.Log.{Log, log_of, hand_here, length_of, next_places, waits_in}
use Rattle.cast_order.proofs.Logs.{none_of}
use Rattle.cast_rules.specs.Rules.Order.{list_places, may_list, set_order_by, set_order}
use Rattle.cast_rules.specs.Rules.Sending.{may_raise}
use Rattle.cast_domain.specs.Records.{Records}
use Rattle.cast_domain.specs.PartCalls.{local_in, record_at, time_of}
use Rattle.cast_domain.specs.Calls.{records}
use Rattle.cast_domain.specs.RestCalls.{resting_records}
use Rattle.cast_domain.specs.Flags.{changes_over, lists_some, orders_at, orders_each}

idle_hand : (hands : List Hand) (p : Proc) → list_any (λ h. nat_lt 0 (length h.waiting)) hands ≡ false →
    nat_lt 0 (length (hand_of hands p).waiting) ≡ false
idle_hand [] p none = refl
idle_hand (h ∷ hands) p none =
    let parts = or_parts (nat_lt 0 (length h.waiting)) (list_any (λ x. nat_lt 0 (length x.waiting)) hands) none in
    elim (proc_eq h.process p)
    as (λ b. nat_lt 0 (length (unwrap_or (cond b (Some h) (find (λ x. proc_eq x.process p) hands)) (new_hand p)).waiting) ≡ false) [
      | true ↦ parts.0
      | false ↦ idle_hand hands p parts.1
    ]

idle_places : (l : Log) (p : Proc) → waits_in l ≡ false → next_places l p ≡ None
idle_places l p none =
    ap (λ b. if b && nat_lt (length_of l) MAX_POSITION
    then Some (record { first = length_of l + 1; ids = ids_to_list (hand_here l p).waiting; holder = None })
    else None)
    (idle_hand l.hands p none)

-- nobody has anything to list in the group at a place
abbrev pub IsIdle : Records → ℕ → Type 0
IsIdle r i = waits_in (log_of r.orders (record_at r.groups i).name) ≡ false

idle_set : (r : Records) (i k : ℕ) → IsIdle r i → set_order_by records resting_records r i k ≡ r
idle_set r i k none =
    elim (may_list records resting_records r i k)
    as (λ b. (if b then option_map_or (list_places records resting_records r i k) (resting_records.next_places r i k) r else r) ≡ r) [
      | true ↦
          ap (λ o. option_map_or (list_places records resting_records r i k) o r)
          (idle_places (log_of r.orders (record_at r.groups i).name) (local_in r k) none)
      | false ↦ refl
    ]

idle_some : (r : Records) (i k : ℕ) → IsIdle r i → lists_some r i k ≡ false
idle_some r i k none =
    ap (λ o. may_list records resting_records r i k
    && (is_some o
    && may_raise (time_of r.delay (local_in r k)) (record_at r.groups i).name (local_in r k)))
    (idle_places (log_of r.orders (record_at r.groups i).name) (local_in r k) none)
    ∙ and_none (may_list records resting_records r i k)

pub idle_each : (r : Records) (i : ℕ) (ks : List ℕ) → IsIdle r i → fold (λ t k. set_order_by records resting_records t i k) r ks ≡ r
idle_each r i [] none = refl
idle_each r i (k ∷ ks) none =
    ap (λ t. fold (λ u j. set_order_by records resting_records u i j) t ks) (idle_set r i k none) ∙ idle_each r i ks none

pub idle_told : (r : Records) (i : ℕ) (ks : List ℕ) → IsIdle r i → orders_each r i ks ≡ false
idle_told r i [] none = refl
idle_told r i (k ∷ ks) none =
    ap (λ b. b || orders_each (set_order_by records resting_records r i k) i ks) (idle_some r i k none)
    ∙ ap (λ t. orders_each t i ks) (idle_set r i k none)
    ∙ idle_told r i ks none

-- In all groups

all_idle : (r : Records) (i : ℕ) → list_any waits_in r.orders ≡ false → IsIdle r i
all_idle r i none = none_of waits_in (record_at r.groups i).name refl r.orders none

pub idle_groups : (r : Records) (is : List ℕ) → list_any waits_in r.orders ≡ false → fold (set_order records resting_records) r is ≡ r
idle_groups r [] none = refl
idle_groups r (i ∷ is) none =
    ap (λ t. fold (set_order records resting_records) t is) (idle_each r i (resting_records.holders r i) (all_idle r i none))
    ∙ idle_groups r is none

pub idle_groups_told : (r : Records) (is : List ℕ) → list_any waits_in r.orders ≡ false →
    changes_over orders_at (set_order records resting_records) r is ≡ false
idle_groups_told r [] none = refl
idle_groups_told r (i ∷ is) none =
    ap (λ b. b || changes_over orders_at (set_order records resting_records) (set_order records resting_records r i) is)
    (idle_told r i (resting_records.holders r i) (all_idle r i none))
    ∙ ap (λ t. changes_over orders_at (set_order records resting_records) t is)
    (idle_each r i (resting_records.holders r i) (all_idle r i none))
    ∙ idle_groups_told r is none
