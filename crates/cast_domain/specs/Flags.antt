-- What a call changes of the records, as it tells.
-- Where it answers that something changed, something did.
use Rattle.std.specs.Prelude.{ℕ, Bool, false, not, ◌&&◌, ◌||◌, is_some, List, [], ◌∷◌, Some, None}
use Rattle.std.specs.List.{list_any}
use Rattle.cast_types.specs.declared.names.SiteNo.{SiteNo}
use Rattle.cast_types.specs.Names.{Entry}
use Rattle.cast_timer.specs.Owed.{is_owed}
use Rattle.cast_view.specs.Home.{may_start, may_decide}
use Rattle.cast_rules.specs.Rules.Asking.{is_home}
use Rattle.cast_rules.specs.Rules.Home.{start, want_bodies, wants, lead_group}
use Rattle.cast_rules.specs.Rules.Keys.{want_key}
use Rattle.cast_rules.specs.Rules.Flushes.{own_want_key, go_on, go_on_all}
use Rattle.cast_rules.specs.Rules.Order.{may_list, set_order_by, set_order, set_orders}
use Rattle.cast_rules.specs.Rules.Rest.{deliver_all, settle}
use Rattle.cast_rules.specs.Rules.Sending.{may_raise}
use Rattle.cast_domain.specs.Records.{Records}
use Rattle.cast_domain.specs.PartCalls.{local_in, record_at, serials_in, time_of}
use Rattle.cast_domain.specs.Calls.{records}
use Rattle.cast_domain.specs.RestCalls.{next_ready_in, resting_records}

-- Want is not owed for a message that the home of the group at a place lacks, or the site
abbrev pub wants_more : Records → ℕ → SiteNo × Entry → Bool
wants_more r i w = not (is_owed r.part.owed (want_key (record_at r.groups i).name w))

abbrev pub wants_own_more : Records → ℕ → Entry → Bool
wants_own_more r i e = not (is_owed r.part.owed (own_want_key records r i e))

-- some message is ready for a process
abbrev pub has_ready : Records → ℕ → Bool
has_ready r k = is_some (next_ready_in r k)

-- the holder lists ABCASTs
abbrev pub lists_some : Records → ℕ → ℕ → Bool
lists_some r i k =
    may_list records resting_records r i k
    && (is_some (resting_records.next_places r i k)
    && may_raise (time_of r.delay (local_in r k)) (record_at r.groups i).name (local_in r k))

-- an Install that waits is completed, or one of the messages that the site lacks is wanted from now
-- on
abbrev pub goes_on : Records → ℕ → Bool
goes_on r i =
    elim (record_at r.groups i).here.pending [
      | Some p ↦
          resting_records.has_cut r i p.cut
          || list_any (wants_own_more r i) (resting_records.missing r i p.cut)
      | None ↦ false
    ]

-- one of the steps over a list changes something, each told of what those before it leave
abbrev pub changes_over : {X : Type 0} → (Records → X → Bool) → (Records → X → Records) → Records
    → List X → Bool
changes_over flag step r [] = false
changes_over flag step r (x ∷ xs) = flag r x || changes_over flag step (step r x) xs

-- one of these processes lists ABCASTs of the group at a place
abbrev pub orders_each : Records → ℕ → List ℕ → Bool
orders_each r i ks =
    changes_over (λ t k. lists_some t i k) (λ t k. set_order_by records resting_records t i k) r ks

-- a process of this site that holds the token of the group at a place does so
abbrev pub orders_at : Records → ℕ → Bool
orders_at r i = orders_each r i (resting_records.holders r i)

-- the home of the group at a place starts a flush, wants a message from now on, or decides a view
abbrev pub leads_in : Records → ℕ → Bool
leads_in r i =
    let t : Records = start records r i in
    let u : Records = want_bodies records t i in
    (may_start (record_at r.groups i).home || list_any (wants_more t i) (wants records t i))
    || may_decide (record_at u.groups i).name (record_at u.groups i).home

abbrev pub leads_some : Records → Bool
leads_some r = is_home records r && changes_over leads_in (lead_group records) r (records.places r)

-- some process delivers, some holder lists ABCASTs, and some group goes on
abbrev pub delivers_some : Records → Bool
delivers_some r = changes_over has_ready (deliver_all records resting_records) r (serials_in r)

abbrev pub orders_some : Records → Bool
orders_some r = changes_over orders_at (set_order records resting_records) r (records.places r)

abbrev pub goes_on_some : Records → Bool
goes_on_some r = changes_over goes_on (go_on records resting_records) r (records.places r)

-- one of the four parts of a pass changes something, each told of what those before it leave
abbrev pub passes_some : Records → Bool
passes_some r =
    let t : Records = settle records resting_records r in
    let u : Records = set_orders records resting_records t in
    let v : Records = go_on_all records resting_records u in
    ((delivers_some r || orders_some t) || goes_on_some u) || leads_some v
