-- Requests that are not refused.
use Rattle.std.proofs.Common.{◌≡◌, ℕ, ◌+◌, Bool, true, false, not, List, Option, Some, None, refl, ap, ◌∙◌}
use Rattle.std.specs.Prelude.{◌==◌, nat_lt, length, if◌then◌else◌}
use Rattle.std.specs.Option.{option_map_or}
use Rattle.cast_types.specs.declared.names.GroupNo.{GroupNo}
use Rattle.cast_types.specs.declared.names.Standing.TheVariants.{Joining}
use Rattle.cast_types.specs.declared.limits.TheConstants.{MAX_NUMBER, MAX_PAYLOAD}
use Rattle.cast_types.specs.declared.refusal.Refusal.TheVariants.{NotMember, AlreadyMember, Flushing, OwnAbcast, HeldFull, TooLong}
use Rattle.cast_clock.specs.Times.{view_of}
use Rattle.cast_message.specs.declared.client.CastKind.{CastKind}
use Rattle.cast_message.specs.declared.site.Change.TheVariants as change
use Rattle.cast_message.specs.Placement.{Placement}
use Rattle.cast_ready.specs.Ready.{is_member, is_outside}
use Rattle.cast_ready.specs.declared.row.ProcessUpdate.TheVariants as fact
use Rattle.cast_rules.specs.Rules.Asking.{request}
use Rattle.cast_rules.specs.Rules.Room.{may_receive}
use Rattle.cast_rules.specs.Rules.Sending.{send_message, may_raise}
use Rattle.cast_rules.specs.Rules.Leaving.{Attempt}
use Rattle.cast_rules.specs.Rules.Commands.{join_at, message_sent, cast_at}
use Rattle.cast_domain.specs.Records.{Records}
use Rattle.cast_rules.specs.Rules.Commands.{body_of}
use Rattle.cast_rules.specs.Rules.Release as release
use Rattle.cast_domain.specs.PartCalls.{awaits_own_in, record_at, standing_of, time_of, local_in, tell_in, count_cast_in, note_sent_in}
use Rattle.cast_domain.specs.Calls.{records}
use Rattle.cast_domain.specs.RestCalls.{resting_records}
use Rattle.cast_rules.specs.Rules.Order.{may_list, send_places, list_places, set_order_by}

-- what a join does that is not refused
abbrev pub joined : Records → ℕ → GroupNo → ℕ → Records
joined r k g i =
    request records
    (tell_in r (local_in r k)
    (fact.Standing g (Joining ((record_at r.groups i).here.asked + 1) (view_of (time_of r.delay (local_in r k)) g))))
    i change.Join (local_in r k)

pub join_made : (r : Records) (k : ℕ) (g : GroupNo) (i : ℕ) → is_outside (standing_of r.delay (local_in r k) g) ≡ true →
    ((record_at r.groups i).here.asked == MAX_NUMBER) ≡ false → join_at records r k g i ≡ (joined r k g i, None)
join_made r k g i outside below =
    ap (λ b. if not b then (r, Some AlreadyMember) else if (record_at r.groups i).here.asked == MAX_NUMBER then (r, Some HeldFull)
    else (joined r k g i, None)) outside
    ∙ ap (λ b. if b then (r, Some HeldFull) else (joined r k g i, None)) below

-- what a cast sends that is not refused
abbrev pub sent : Records → ℕ → GroupNo → CastKind → List ℕ → ℕ → Records
sent r k g cast payload i =
    send_message records
    (note_sent_in r k (message_sent records r k g i (body_of cast payload)))
    (message_sent records r k g i (body_of cast payload))

-- what is left of a cast past the tests of payload and membership
cast_going : (r : Records) (k : ℕ) (g : GroupNo) (cast : CastKind) (payload : List ℕ) (i : ℕ) →
    nat_lt MAX_PAYLOAD (length payload) ≡ false → is_member (standing_of r.delay (local_in r k) g) ≡ true →
    cast_at records r k g cast payload i ≡ (if (record_at r.groups i).here.frozen then (r, Some Flushing)
    else if awaits_own_in r (local_in r k) then (r, Some OwnAbcast) else if not (may_receive records r) then (r, Some HeldFull)
    else if not (may_raise (time_of r.delay (local_in r k)) g (local_in r k)) then (r, Some HeldFull)
    else (count_cast_in (sent r k g cast payload i), None))
cast_going r k g cast payload i short member =
    let last : Attempt Records =
    if (record_at r.groups i).here.frozen then (r, Some Flushing)
    else if awaits_own_in r (local_in r k) then (r, Some OwnAbcast)
    else if not (may_receive records r) then (r, Some HeldFull)
    else if not (may_raise (time_of r.delay (local_in r k)) g (local_in r k))
    then (r, Some HeldFull)
    else (count_cast_in (sent r k g cast payload i), None) in
    ap (λ b. if b then (r, Some TooLong) else if not (is_member (standing_of r.delay (local_in r k) g)) then (r, Some NotMember) else last)
    short
    ∙ ap (λ b. if not b then (r, Some NotMember) else last) member

-- what is left of a cast past the tests of the group
cast_owning : (r : Records) (k : ℕ) (g : GroupNo) (cast : CastKind) (payload : List ℕ) (i : ℕ) →
    nat_lt MAX_PAYLOAD (length payload) ≡ false → is_member (standing_of r.delay (local_in r k) g) ≡ true →
    (record_at r.groups i).here.frozen ≡ false →
    cast_at records r k g cast payload i ≡ (if awaits_own_in r (local_in r k) then (r, Some OwnAbcast)
    else if not (may_receive records r)
    then (r, Some HeldFull)
    else if not (may_raise (time_of r.delay (local_in r k)) g (local_in r k)) then (r, Some HeldFull)
    else (count_cast_in (sent r k g cast payload i), None))
cast_owning r k g cast payload i short member going =
    let last : Attempt Records =
    if awaits_own_in r (local_in r k) then (r, Some OwnAbcast) else if not (may_receive records r) then (r, Some HeldFull)
    else if not (may_raise (time_of r.delay (local_in r k)) g (local_in r k)) then (r, Some HeldFull)
    else (count_cast_in (sent r k g cast payload i), None) in
    cast_going r k g cast payload i short member
    ∙ ap (λ b. if b then (r, Some Flushing) else last) going

-- what is left of a cast past the tests that are not of room
cast_past : (r : Records) (k : ℕ) (g : GroupNo) (cast : CastKind) (payload : List ℕ) (i : ℕ) → nat_lt MAX_PAYLOAD (length payload) ≡ false →
    is_member (standing_of r.delay (local_in r k) g) ≡ true → (record_at r.groups i).here.frozen ≡ false →
    awaits_own_in r (local_in r k) ≡ false → cast_at records r k g cast payload i ≡ (if not (may_receive records r) then (r, Some HeldFull)
    else if not (may_raise (time_of r.delay (local_in r k)) g (local_in r k)) then (r, Some HeldFull)
    else (count_cast_in (sent r k g cast payload i), None))
cast_past r k g cast payload i short member going own =
    let last : Attempt Records =
    if not (may_receive records r) then (r, Some HeldFull)
    else if not (may_raise (time_of r.delay (local_in r k)) g (local_in r k))
    then (r, Some HeldFull)
    else (count_cast_in (sent r k g cast payload i), None) in
    cast_owning r k g cast payload i short member going
    ∙ ap (λ b. if b then (r, Some OwnAbcast) else last) own

-- a cast that passes all tests is sent
pub cast_made : (r : Records) (k : ℕ) (g : GroupNo) (cast : CastKind) (payload : List ℕ) (i : ℕ) →
    nat_lt MAX_PAYLOAD (length payload) ≡ false → is_member (standing_of r.delay (local_in r k) g) ≡ true →
    (record_at r.groups i).here.frozen ≡ false → awaits_own_in r (local_in r k) ≡ false → may_receive records r ≡ true →
    may_raise (time_of r.delay (local_in r k)) g (local_in r k) ≡ true →
    cast_at records r k g cast payload i ≡ (count_cast_in (sent r k g cast payload i), None)
cast_made r k g cast payload i short member going own room may =
    let raised : Attempt Records =
    if not (may_raise (time_of r.delay (local_in r k)) g (local_in r k)) then (r, Some HeldFull)
    else (count_cast_in (sent r k g cast payload i), None) in
    cast_past r k g cast payload i short member going own
    ∙ ap (λ b. if not b then (r, Some HeldFull) else raised) room
    ∙ ap (λ b. if not b then (r, Some HeldFull) else (count_cast_in (sent r k g cast payload i), None)) may

-- a cast of a process that awaits an ABCAST of its own is refused
pub cast_owned : (r : Records) (k : ℕ) (g : GroupNo) (cast : CastKind) (payload : List ℕ) (i : ℕ) →
    nat_lt MAX_PAYLOAD (length payload) ≡ false → is_member (standing_of r.delay (local_in r k) g) ≡ true →
    (record_at r.groups i).here.frozen ≡ false → awaits_own_in r (local_in r k) ≡ true →
    cast_at records r k g cast payload i ≡ (r, Some OwnAbcast)
cast_owned r k g cast payload i short member going own =
    let last : Attempt Records =
    if not (may_receive records r) then (r, Some HeldFull)
    else if not (may_raise (time_of r.delay (local_in r k)) g (local_in r k))
    then (r, Some HeldFull)
    else (count_cast_in (sent r k g cast payload i), None) in
    cast_owning r k g cast payload i short member going
    ∙ ap (λ b. if b then (r, Some OwnAbcast) else last) own

-- and so is a cast beside too many messages
pub cast_full : (r : Records) (k : ℕ) (g : GroupNo) (cast : CastKind) (payload : List ℕ) (i : ℕ) →
    nat_lt MAX_PAYLOAD (length payload) ≡ false → is_member (standing_of r.delay (local_in r k) g) ≡ true →
    (record_at r.groups i).here.frozen ≡ false → awaits_own_in r (local_in r k) ≡ false → may_receive records r ≡ false →
    cast_at records r k g cast payload i ≡ (r, Some HeldFull)
cast_full r k g cast payload i short member going own full =
    let raised : Attempt Records =
    if not (may_raise (time_of r.delay (local_in r k)) g (local_in r k)) then (r, Some HeldFull)
    else (count_cast_in (sent r k g cast payload i), None) in
    cast_past r k g cast payload i short member going own
    ∙ ap (λ b. if not b then (r, Some HeldFull) else raised) full

-- and one of a process whose count cannot be raised
pub cast_unraised : (r : Records) (k : ℕ) (g : GroupNo) (cast : CastKind) (payload : List ℕ) (i : ℕ) →
    nat_lt MAX_PAYLOAD (length payload) ≡ false → is_member (standing_of r.delay (local_in r k) g) ≡ true →
    (record_at r.groups i).here.frozen ≡ false → awaits_own_in r (local_in r k) ≡ false → may_receive records r ≡ true →
    may_raise (time_of r.delay (local_in r k)) g (local_in r k) ≡ false → cast_at records r k g cast payload i ≡ (r, Some HeldFull)
cast_unraised r k g cast payload i short member going own room may =
    let raised : Attempt Records =
    if not (may_raise (time_of r.delay (local_in r k)) g (local_in r k)) then (r, Some HeldFull)
    else (count_cast_in (sent r k g cast payload i), None) in
    cast_past r k g cast payload i short member going own
    ∙ ap (λ b. if not b then (r, Some HeldFull) else raised) room
    ∙ ap (λ b. if not b then (r, Some HeldFull) else (count_cast_in (sent r k g cast payload i), None)) may

-- what the holder's set-order message does that is sent
pub places_made : (r : Records) (i k : ℕ) (q : Placement) → may_list records resting_records r i k ≡ true →
    resting_records.next_places r i k ≡ Some q →
    may_raise (time_of r.delay (local_in r k)) (record_at r.groups i).name (local_in r k) ≡ true →
    set_order_by records resting_records r i k ≡ release.let_go records resting_records (send_places records resting_records r i k q)
places_made r i k q may next raised =
    ap (λ b. if b then option_map_or (list_places records resting_records r i k) (resting_records.next_places r i k) r else r) may
    ∙ ap (λ o. option_map_or (list_places records resting_records r i k) o r) next
    ∙ ap (λ b. if b then release.let_go records resting_records (send_places records resting_records r i k q) else r) raised

-- a holder that may list nothing changes nothing
pub places_none : (r : Records) (i k : ℕ) → may_list records resting_records r i k ≡ false → set_order_by records resting_records r i k ≡ r
places_none r i k may =
    ap (λ b. if b then option_map_or (list_places records resting_records r i k) (resting_records.next_places r i k) r else r) may

-- nor does one that has nothing to list
pub places_missing : (r : Records) (i k : ℕ) → resting_records.next_places r i k ≡ None → set_order_by records resting_records r i k ≡ r
places_missing r i k next =
    ap (λ o. if may_list records resting_records r i k then option_map_or (list_places records resting_records r i k) o r else r) next
    ∙ either (may_list records resting_records r i k)
  where
    either : (b : Bool) → (if b then r else r) ≡ r
    either true = refl
    either false = refl

-- nor one whose count cannot be raised
pub places_unraised : (r : Records) (i k : ℕ) (q : Placement) → may_list records resting_records r i k ≡ true →
    resting_records.next_places r i k ≡ Some q →
    may_raise (time_of r.delay (local_in r k)) (record_at r.groups i).name (local_in r k) ≡ false →
    set_order_by records resting_records r i k ≡ r
places_unraised r i k q may next raised =
    ap (λ b. if b then option_map_or (list_places records resting_records r i k) (resting_records.next_places r i k) r else r) may
    ∙ ap (λ o. option_map_or (list_places records resting_records r i k) o r) next
    ∙ ap (λ b. if b then release.let_go records resting_records (send_places records resting_records r i k q) else r) raised

-- a choice that gives nothing
pub raised_none : {A : Type 0} (b : Bool) (x : A) → ◌≡◌ {A = Option (A × A)} None (if b then Some (x, x) else None) → b ≡ false
raised_none {A = A} true x e = absurd (something e)
  where
    something : ◌≡◌ {A = Option (A × A)} None (Some (x, x)) → ⊥
    something e = cc
raised_none false x e = refl

-- what a choice gives that gives something
pub raised_some : {A : Type 0} (b : Bool) (x : A) (t : A) (u : A) →
    ◌≡◌ {A = Option (A × A)} (Some (t, u)) (if b then Some (x, x) else None) → (b ≡ true) × (t ≡ x) × (u ≡ x)
raised_some {A = A} true x t u e =
    let same : ◌≡◌ {A = A × A} (t, u) (x, x) = cc in
    (refl, ap (λ y. y.0) same, ap (λ y. y.1) same)
raised_some {A = A} false x t u e = absurd (nothing e)
  where
    nothing : ◌≡◌ {A = Option (A × A)} (Some (t, u)) None → ⊥
    nothing e = cc
