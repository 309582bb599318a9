-- No kept message is free: what leaves that as it is, and what frees at most messages of one source.
use Rattle.std.proofs.Common.{◌≡◌, ◌≢◌, ℕ, zero, suc, ◌+◌, true, false, cond, not, ◌&&◌, ◌||◌, List, []}
use Rattle.std.proofs.Common.{◌∷◌, Contains, Option, Some, None, unwrap_or, refl, sym, ap, subst, ◌∙◌}
use Rattle.std.specs.Prelude.{nat_lt, if◌then◌else◌}
use Rattle.std.specs.List.{fold}
use Rattle.std.specs.Option.{option_map, option_map_or}
use Rattle.std.specs.FinMap.Entries.{find, find-put}
use Rattle.cast_types.specs.declared.names.GroupNo.{GroupNo}
use Rattle.cast_types.specs.declared.names.Proc.{Proc}
use Rattle.cast_types.specs.declared.names.Key.{Key}
use Rattle.cast_types.specs.declared.names.Uid.{Uid}
use Rattle.cast_types.specs.declared.refusal.Refusal.TheVariants.{Slow}
use Rattle.cast_types.specs.declared.source.Source.{Source}
use Rattle.cast_types.specs.Names.{group_eq, proc_eq, Entry}
use Rattle.cast_types.specs.Places.{update}
use Rattle.cast_types.specs.Sources.{source, source_of, source_cmp}
use Rattle.cast_types.specs.Stamps.{ClockList}
use Rattle.cast_types.proofs.Sources.{source_total, source_exact}
use Rattle.cast_types.proofs.Orders.{tie_other}
use Rattle.cast_message.specs.declared.client.Push.{Push}
use Rattle.cast_ready.specs.declared.offered.Offered.{Offered}
use Rattle.cast_ready.specs.declared.row.Row.{Row}
use Rattle.cast_ready.specs.Ready.{is_member}
use Rattle.cast_ready.specs.Rows.{standing_in, awaits_row, delivered_row}
use Rattle.cast_delay.specs.Queue.{after_delivery, change_row, is_awaited, offered_under}
use Rattle.cast_stable.specs.Acks.{is_stable_in}
use Rattle.cast_view.specs.Home.{HomeMove}
use Rattle.cast_view.specs.MemberSide.{is_open_to}
use Rattle.cast_rules.specs.Rules.Interface.{Site}
use Rattle.cast_rules.specs.Rules.Flushes.{own_want_key, want_own}
use Rattle.cast_rules.specs.Rules.Home.{lead}
use Rattle.cast_rules.specs.Rules.Leaving.{close_session, tell_open}
use Rattle.cast_rules.specs.Rules.Rest.{tell_if}
use Rattle.cast_rules.proofs.Rules.Follows.{IsInvariant}
use Rattle.cast_rules.proofs.Rules.Home.{lead_keeps}
use Rattle.cast_rules.proofs.Rules.Owing.{owe_keeps}
use Rattle.cast_domain.specs.declared.record.GroupRecord.{GroupRecord}
use Rattle.cast_domain.specs.declared.rest.Delivery.{Delivery}
use Rattle.cast_domain.specs.declared.rest.Weight.{Weight}
use Rattle.cast_domain.specs.declared.rest.Weight.TheVariants.{Nothing, Placed, Hands}
use Rattle.cast_domain.specs.Records.{Records}
use Rattle.cast_domain.specs.PartCalls.{is_full_in, moved_home, move_home_in, place_among, push_in, record_at}
use Rattle.cast_domain.specs.FlushCalls.{is_open_in}
use Rattle.cast_domain.specs.Calls.{records}
use Rattle.cast_domain.specs.RestCalls.{deliver_as, note_weight_in, take_delivery_in}
use Rattle.cast_domain.specs.Freed.{AreNotFree, AreNotFreeBut}
use Rattle.cast_domain.proofs.Freeing.{free}

-- the same messages are kept as in other records, and the same are free
abbrev pub FreesAs : Records → Records → Type 0
FreesAs r s = (s.part.kept ≡ r.part.kept) × ((u : Uid) → free s u ≡ free r u)

pub none_as : (r s : Records) → FreesAs r s → AreNotFree r → AreNotFree s
none_as r s same none x there = same.1 x.message.id ∙ none x (subst (λ kept. Contains kept x) same.0 there)

pub none_but_as : (source : Source) (r s : Records) → FreesAs r s → AreNotFreeBut source r → AreNotFreeBut source s
none_but_as source r s same none x there other = same.1 x.message.id ∙ none x (subst (λ kept. Contains kept x) same.0 there) other

-- What is sent and owed, and what the home keeps

-- the home's moves leave the groups and their views here
moved_there : (move : HomeMove) (g : GroupNo) (view : ℕ) (groups : List GroupRecord) (i : ℕ) →
    option_map_or (λ j. is_open_to (record_at (update groups i (moved_home move)) j).here view)
    (place_among g (update groups i (moved_home move))) false ≡ option_map_or (λ j. is_open_to (record_at groups j).here view)
    (place_among g groups) false
moved_there move g view groups i =
    ap (λ o. option_map_or (λ j. is_open_to (record_at (update groups i (moved_home move)) j).here view) o false) (placed groups i)
    ∙ there (place_among g groups)
  where
    placed : (xs : List GroupRecord) (k : ℕ) → place_among g (update xs k (moved_home move)) ≡ place_among g xs
    placed [] k = refl
    placed (x ∷ xs) zero = refl
    placed (x ∷ xs) (suc k) = ap (λ o. if group_eq x.name g then Some 0 else option_map (λ j. j + 1) o) (placed xs k)

    here : (xs : List GroupRecord) (k j : ℕ) → (record_at (update xs k (moved_home move)) j).here ≡ (record_at xs j).here
    here [] k j = refl
    here (x ∷ xs) zero zero = refl
    here (x ∷ xs) zero (suc j) = refl
    here (x ∷ xs) (suc k) zero = refl
    here (x ∷ xs) (suc k) (suc j) = here xs k j

    there : (o : Option ℕ) → option_map_or (λ j. is_open_to (record_at (update groups i (moved_home move)) j).here view)
        o false ≡ option_map_or (λ j. is_open_to (record_at groups j).here view) o false
    there (Some j) = ap (λ x. is_open_to x view) (here groups i j)
    there None = refl

-- the records, at which nobody acknowledges anything. What asks for no acknowledgment does the same there
abbrev quiet : Site Records ℕ
quiet = record records { note_ack = λ r from u. r; note_stable = λ r u. r }

module _ (r : Records) where
  quiet_keeps : IsInvariant quiet (FreesAs r)
  quiet_keeps = record {
    send = λ s h to f. h;
    note_owed = λ s h key. h;
    note_resent = λ s h key. h;
    pay = λ s h key. h;
    pay_upto = λ s h key. h;
    pay_view = λ s h g. h;
    note_moment = λ s h t. h;
    note_ack = λ s h from u. h;
    note_stable = λ s h u. h;
  }

  moves_keep : (s : Records) → FreesAs r s → (i : ℕ) (move : HomeMove) → FreesAs r (move_home_in s i move)
  moves_keep s h i move = (
    h.0,
    λ u. ap (λ b. b && (is_stable_in s.acks u && not (is_awaited s.delay.rows u))) (moved_there move u.group u.view s.groups i) ∙ h.1 u,
  )

  each_keeps : {X : Type 0} (f : Records → X → Records) → ((s : Records) → FreesAs r s → (x : X) → FreesAs r (f s x)) →
      (xs : List X) (s : Records) → FreesAs r s → FreesAs r (fold f s xs)
  each_keeps f keeps [] s h = h
  each_keeps f keeps (x ∷ xs) s h = each_keeps f keeps xs (f s x) (keeps s h x)

-- the home leads
pub none_lead : (r : Records) → AreNotFree r → AreNotFree (lead records r)
none_lead r = none_as r (lead records r) (lead_keeps quiet (FreesAs r) (quiet_keeps r) (moves_keep r) r (refl, λ u. refl))

-- a site wants what it lacks
pub none_wants : (i : ℕ) (names : List Entry) (r : Records) → AreNotFree r → AreNotFree (fold (want_own records i) r names)
none_wants i names r =
    none_as r (fold (want_own records i) r names)
    (each_keeps r (want_own records i) (λ s h e. owe_keeps quiet (FreesAs r) (quiet_keeps r) s h (own_want_key records s i e))
    names r (refl, λ u. refl))

-- Who awaits a message

changed_awaits : (p : Proc) (f : Row → Row) (u : Uid) → ((row : Row) → awaits_row (f row) u ≡ awaits_row row u) → (rows : List Row) →
    is_awaited (change_row p f rows) u ≡ is_awaited rows u
changed_awaits p f u same [] = refl
changed_awaits p f u same (row ∷ rows) =
    let first : awaits_row (if proc_eq row.process p then f row else row) u ≡ awaits_row row u =
    elim (proc_eq row.process p) as (λ b. awaits_row (if b then f row else row) u ≡ awaits_row row u) [ true ↦ same row | false ↦ refl ] in
    λ j. first j || changed_awaits p f u same rows j

-- a delivery changes that for messages of its own source alone
delivered_awaits : (id : Uid) (times : ClockList) (u : Uid) → source_of u ≢ source_of id → (row : Row) →
    awaits_row (delivered_row id times row) u ≡ awaits_row row u
delivered_awaits id times u other row =
    ap (λ n. is_member (standing_in row u.group) && nat_lt n u.count)
    (ap (λ (o : Option ℕ). unwrap_or o 0) (find-put source_cmp source_total (source_of u) (source_of id) id.count row.done)
    ∙ ap (λ b. unwrap_or (cond b (Some id.count) (find source_cmp (source_of u) row.done)) 0)
    (tie_other source_exact (source_of u) (source_of id) other))

-- the id of the message that is offered under a key, or another one where none is
abbrev pub id_under : List Offered → Key → Uid → Uid
id_under offered key other = unwrap_or (option_map (λ o. o.id) (offered_under offered key)) other

after_awaits : (offered : List Offered) (p : Proc) (key : Key) (given u : Uid) → source_of u ≢ source_of (id_under offered key given) →
    (rows : List Row) → is_awaited (after_delivery offered p key rows) u ≡ is_awaited rows u
after_awaits offered p key given u other rows = found (offered_under offered key) other
  where
    found : (o : Option Offered) → source_of u ≢ source_of (unwrap_or (option_map (λ x. x.id) o) given) →
        is_awaited (elim o as (λ _. List Row) [ Some x ↦ change_row p (delivered_row x.id x.times) rows | None ↦ rows ])
        u ≡ is_awaited rows u
    found (Some x) apart = changed_awaits p (delivered_row x.id x.times) u (delivered_awaits x.id x.times u apart) rows
    found None apart = refl

-- A delivery

-- a program whose outbox has room is told something, or nothing
told_frees : (r s : Records) → FreesAs r s → (k : ℕ) → is_full_in s k ≡ false → (told : Option Push) → FreesAs r (tell_if records s k told)
told_frees r s h k room None = h
told_frees r s h k room (Some x) = elim (records.is_open s k) as (λ b. FreesAs r (if b then tell_open records s k x else s)) [
  | true ↦ subst (λ b. FreesAs r (if b then close_session records s k Slow else push_in s k x)) (sym room) h
  | false ↦ h
]

weighed_frees : (r : Records) (p : Proc) (u : Uid) (k : ℕ) → is_full_in r k ≡ false → (told : Option Push) (weight : Weight) →
    FreesAs r (tell_if records (note_weight_in weight r p u) k told)
weighed_frees r p u k room told Nothing = told_frees r r (refl, λ v. refl) k room told
weighed_frees r p u k room told Placed = told_frees r (note_weight_in Placed r p u) (refl, λ v. refl) k room told
weighed_frees r p u k room told (Hands q first) = told_frees r (note_weight_in (Hands q first) r p u) (refl, λ v. refl) k room told

-- a process that delivers, and whose outbox has room, frees at most messages of the source of what is offered under the key
pub none_but_delivered : (r : Records) (p : Proc) (key : Key) (d : Delivery) → is_full_in r p.serial ≡ false → AreNotFree r →
    AreNotFreeBut (source_of (id_under r.delay.offered key d.id)) (deliver_as r p key d)
none_but_delivered r p key d room none =
    let taken : Records = take_delivery_in r p key d.id in
    none_but_as (source_of (id_under r.delay.offered key d.id)) taken (deliver_as r p key d)
    (weighed_frees taken p d.id p.serial room d.push d.weight)
    (λ x there other. ap (λ b. is_open_in r x.message.id && (is_stable_in r.acks x.message.id && not b))
    (after_awaits r.delay.offered p key d.id x.message.id other r.delay.rows) ∙ none x there)
