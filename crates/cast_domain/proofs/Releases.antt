-- What a domain's records let go is what the history lets go that they stand for.
-- `fits_let_go` and `fits_release_ended` say so. Records and history test each kept message:
-- whether it is stable, and whether a local member still awaits it. The tests agree, since a row
-- awaits a message exactly if its process has still to deliver it. So each side keeps the same
-- messages, and the queue forgets the keys of the others.
use Rattle.std.proofs.Common.{◌≡◌, ℕ, ◌+◌, ◌<◌, ◌≤◌, Bool, true, false, cond, not, ◌&&◌, ◌||◌, List, []}
use Rattle.std.proofs.Common.{◌∷◌, map, Contains, Some, None, refl, sym, ap, subst, ◌∙◌, inl, inr, arith}
use Rattle.std.specs.Prelude.{◌==◌, nat_lt, filter, slice_get}
use Rattle.std.specs.List.{fold, find, list_any, list_all}
use Rattle.std.specs.Option.{option_map, option_map_or}
use Rattle.std.proofs.lemmas.Bool.{cases_Bool, false≢true, and_parts, or_cases, or_left, or_right, eqb-true, eq-eqb, false_from_ne_true}
use Rattle.std.proofs.lemmas.List.Elements.{Contains-push, Contains-append_left, Contains-append_right}
use Rattle.std.proofs.lemmas.Option.{none-some, same_Some}
use Rattle.cast_types.specs.declared.names.GroupNo.{GroupNo}
use Rattle.cast_types.specs.declared.names.Proc.{Proc}
use Rattle.cast_types.specs.declared.names.Key.{Key}
use Rattle.cast_types.specs.declared.names.Uid.{Uid}
use Rattle.cast_types.specs.Names.{group_eq}
use Rattle.cast_types.specs.Sources.{source_of}
use Rattle.cast_message.specs.declared.message.Message.{Message}
use Rattle.cast_message.specs.declared.message.Received.{Received}
use Rattle.cast_message.specs.Receipts.{key_eq, messages, message_under}
use Rattle.cast_ready.specs.declared.row.Row.{Row}
use Rattle.cast_ready.specs.declared.offered.Offered.{Offered}
use Rattle.cast_ready.specs.declared.gate.Gate.{Gate}
use Rattle.cast_ready.specs.Ready.{Process, is_member, has_delivered}
use Rattle.cast_ready.specs.Rows.{standing_in, done_in}
use Rattle.cast_delay.specs.Queue.{Queue, row_of, is_awaited}
use Rattle.cast_delay.specs.Fits.{HasNotEnded, Fits as QueueFits}
use Rattle.cast_delay.proofs.Queues.{forget_fits, awaited_by}
use Rattle.cast_delay.proofs.Turns.{and_agree}
use Rattle.cast_stable.proofs.Meanings.{stable_meant}
use Rattle.cast_domain.specs.declared.record.GroupRecord.{GroupRecord}
use Rattle.cast_view.specs.MemberSide.{MemberSide, has_view, is_current}
use Rattle.cast_rules.specs.State.{State, local, serials, local_members, gate_of, is_stable}
use Rattle.cast_rules.specs.State.{is_delivered, releasing, is_ended, releasing_ended}
use Rattle.cast_rules.specs.Rest.{is_free, let_go}
use Rattle.cast_domain.specs.Records.{Records}
use Rattle.cast_rules.specs.Rules.Release as release
use Rattle.cast_domain.specs.PartCalls.{place_in, record_at, is_current_in}
use Rattle.cast_domain.specs.FlushCalls.{is_open_in}
use Rattle.cast_domain.specs.ReleaseCalls.{is_ended_in, release_in, release_all_in}
use Rattle.cast_domain.specs.Calls.{records}
use Rattle.cast_domain.specs.RestCalls.{resting_records}
use Rattle.cast_rules.specs.Lawful.{IsLawful, IsSpent, AreKept}
use Rattle.cast_domain.specs.Fits.{process_named, Fits, is_live, past_of}
use Rattle.cast_rules.proofs.Totals.{In}
use Rattle.cast_domain.proofs.Rows.{names_of, serial_of, rise_filter, filter_within, row_found, row_untested, row_ungiven}
use Rattle.cast_domain.proofs.Over.{keeps_fewer}
use Rattle.cast_domain.proofs.Standing.{orders_same, record_there, place_some, place_none, process_here, member_of_none}
use Rattle.cast_domain.proofs.Arrivals.{given_later}
use Rattle.cast_types.proofs.Bools.{neither}
use Rattle.cast_domain.proofs.Receipts.{live_now}
use Rattle.cast_stable.specs.Acks.{is_stable_in}
use Rattle.cast_types.proofs.Contains.{contains_here, contains_later}

-- Who awaits a message

abbrev awaits : Uid → Row → Bool
awaits u row = is_member (standing_in row u.group) && nat_lt (done_in row u.group u.view u.proc) u.count

-- a row awaits what its process is to deliver
awaits_as : (r : Records) (s : State) → Fits r s → (u : Uid) → HasNotEnded (gate_of s) u.group u.view → 0 < u.count → (row : Row) (k : ℕ) →
    row_of r.delay.rows (local s k) ≡ Some row →
    awaits u row ≡ (is_member ((s.process k).standing u.group) && not (has_delivered (s.process k) u))
awaits_as r s fits u stands counted row k at =
    awaited_by s.config.groups (gate_of s) (process_named s) r.part.kept r.delay fits.processes.delay (local s k) row at u stands counted
    ∙ ap (λ p. is_member (p.standing u.group) && not (has_delivered p u)) (process_here s k)

one_less : (m d some rest : Bool) (a b : List ℕ) (k : ℕ) (test : ℕ → Bool) → test k ≡ d → not some ≡ list_all test a →
    not ((m && not d) || some) ≡ list_all test (cond m (k ∷ a) a)
one_less true true some rest a b k test is same = same ∙ sym (ap (λ x. x && list_all test a) is)
one_less true false some rest a b k test is same = sym (ap (λ x. x && list_all test a) is)
one_less false d some rest a b k test is same = same

-- no row awaits a message where each local member has delivered it
awaited_rows : (r : Records) (s : State) → Fits r s → (u : Uid) → HasNotEnded (gate_of s) u.group u.view → 0 < u.count →
    (rows : List Row) (ks : List ℕ) → names_of rows ≡ map (local s) ks →
    ((row : Row) → In row rows → (k : ℕ) → row.process ≡ local s k → row_of r.delay.rows (local s k) ≡ Some row) →
    not (list_any (awaits u) rows)
    ≡ list_all (λ k. has_delivered (s.process k) u) (filter (λ k. is_member ((s.process k).standing u.group)) ks)
awaited_rows r s fits u stands counted [] [] names at = refl
awaited_rows r s fits u stands counted [] (k ∷ ks) names at = absurd (no_names names)
  where
    no_names : [] ≡ local s k ∷ map (local s) ks → ⊥
    no_names e = cc
awaited_rows r s fits u stands counted (x ∷ rows) [] names at = absurd (no_names names)
  where
    no_names : x.process ∷ names_of rows ≡ [] → ⊥
    no_names e = cc
awaited_rows r s fits u stands counted (x ∷ rows) (a ∷ ks) names at =
    let first : x.process ≡ local s a = cc in
    let rest : names_of rows ≡ map (local s) ks = cc in
    ap (λ b. not (b || list_any (awaits u) rows)) (awaits_as r s fits u stands counted x a (at x (inl refl) a first))
    ∙ one_less (is_member ((s.process a).standing u.group)) (has_delivered (s.process a) u) (list_any (awaits u) rows) true
    (filter (λ k. is_member ((s.process k).standing u.group)) ks) [] a (λ k. has_delivered (s.process k) u) refl
    (awaited_rows r s fits u stands counted rows ks rest (λ row there. at row (inr there)))

pub awaited_same : (r : Records) (s : State) → Fits r s → (u : Uid) → HasNotEnded (gate_of s) u.group u.view → 0 < u.count →
    not (is_awaited r.delay.rows u) ≡ list_all (λ k. has_delivered (s.process k) u) (local_members s u.group)
awaited_same r s fits u stands counted =
    let given : List ℕ = filter fits.processes.has_row (serials s) in
    awaited_rows r s fits u stands counted r.delay.rows given fits.processes.rows
    (λ row there k is.
    let found = row_found s r.delay.rows given 1 fits.processes.rows (rise_filter fits.processes.has_row 1 s.used) row there in
    let same : found.0 ≡ k = serial_of s found.0 k (sym found.2 ∙ is) in
    subst (λ j. row_of r.delay.rows (local s j) ≡ Some row) same found.3)
    ∙ ap (list_all (λ k. has_delivered (s.process k) u))
    (filter_within (λ k. is_member ((s.process k).standing u.group)) fits.processes.has_row
    (λ k untested. member_of_none r s fits k (row_untested s r.delay.rows fits.processes.has_row s.used fits.processes.rows k untested)
    u.group) (serials s))

-- the process of a serial that is to come is in no group
pub unborn : (r : Records) (s : State) → Fits r s → (g : GroupNo) → is_member ((s.process (s.used + 1)).standing g) ≡ false
unborn r s fits g =
    member_of_none r s fits (s.used + 1)
    (row_ungiven s r.delay.rows fits.processes.has_row s.used fits.processes.rows (s.used + 1) (given_later s.used)) g

-- What is free

-- a message is of the current view of its group on both sides, or on neither
pub current_same : (r : Records) (s : State) → Fits r s → IsLawful s → (u : Uid) → is_current_in r u ≡ is_current (s.group u.group) u.view
current_same r s fits l u =
    elim (place_in r u.group) as (λ o. place_in r u.group ≡ o →
    option_map_or (λ i. is_current (record_at r.groups i).here u.view) o false ≡ is_current (s.group u.group) u.view) [
      | Some i ↦
          λ is. ap (λ (x : GroupRecord). is_current x.here u.view) (record_there r s fits i u.group (place_some r s fits u.group i is).0)
      | None ↦ λ is.
          sym (ap (λ b. b && ((s.group u.group).number == u.view)) (false_from_ne_true (has_view (s.group u.group))
          (λ seen. false≢true (sym (place_none r s fits u.group is) ∙ l.listed u.group seen))))
    ] refl

-- the current view has not ended
pub current_stands : (x : MemberSide) (view : ℕ) → is_current x view ≡ true → x.number ≤ view
current_stands x view is = let same = eqb-true x.number view (and_parts (has_view x) (x.number == view) is).1 in omega (arith, same)

-- and of one that is not frozen
open_same : (r : Records) (s : State) → Fits r s → IsLawful s → (u : Uid) →
    is_open_in r u ≡ (is_current (s.group u.group) u.view && not (s.group u.group).frozen)
open_same r s fits l u =
    elim (place_in r u.group) as (λ o. place_in r u.group ≡ o → option_map_or (λ i. is_current (record_at r.groups i).here u.view
    && not (record_at r.groups i).here.frozen) o false ≡ (is_current (s.group u.group) u.view && not (s.group u.group).frozen)) [
      | Some i ↦ λ is.
          ap (λ (x : GroupRecord). is_current x.here u.view && not x.here.frozen)
          (record_there r s fits i u.group (place_some r s fits u.group i is).0)
      | None ↦ λ is.
          sym (ap (λ b. (b && ((s.group u.group).number == u.view)) && not (s.group u.group).frozen) (false_from_ne_true
          (has_view (s.group u.group)) (λ seen. false≢true (sym (place_none r s fits u.group is) ∙ l.listed u.group seen))))
    ] refl

pub free_same : (r : Records) (s : State) → Fits r s → IsLawful s → (u : Uid) → 0 < u.count →
    (is_current (s.group u.group) u.view ≡ true → is_live s (source_of u) ≡ true) →
    release.is_free records resting_records r u ≡ is_free s u
free_same r s fits l u counted live =
    let current : Bool = is_current (s.group u.group) u.view in
    let unfrozen : Bool = not (s.group u.group).frozen in
    let waiting : Bool = not (is_awaited r.delay.rows u) in
    ap (λ b. b && (is_stable_in r.acks u && waiting)) (open_same r s fits l u)
    ∙ and_agree (current && unfrozen) (is_stable_in r.acks u && waiting) (is_stable s u && is_delivered s u)
    (λ opens. let is =
    (and_parts current unfrozen opens).0 in λ i. stable_meant (past_of s) r.acks fits.acks u (live is) counted i
    && awaited_same r s fits u (current_stands (s.group u.group) u.view is) counted i)

-- what is kept was received
kept_got : (P : Message → Type 0) (got kept : List Message) → AreKept P got kept → (m : Message) → In m kept → Contains got m
kept_got P [] kept none m at = absurd (subst (In m) none at)
kept_got P (x ∷ got) kept (inl (rest, is, more)) m at = elim (subst (In m) is at) [
  | inl here ↦ subst (Contains (x ∷ got)) (sym here) (contains_here x got)
  | inr later ↦ contains_later m x got (kept_got P got rest more m later)
]
kept_got P (x ∷ got) kept (inr (spent, more)) m at = contains_later m x got (kept_got P got kept more m at)

in_messages : (x : Received) (xs : List Received) → In x xs → In x.message (messages xs)
in_messages x [] at = absurd at
in_messages x (y ∷ xs) (inl here) = inl (ap (λ z. z.message) here)
in_messages x (y ∷ xs) (inr there) = inr (in_messages x xs there)

-- a kept message of the group's view is of a live source
kept_live : (r : Records) (s : State) → Fits r s → IsLawful s → (x : Received) → In x r.part.kept →
    is_current (s.group x.message.id.group) x.message.id.view ≡ true → is_live s (source_of x.message.id) ≡ true
kept_live r s fits l x at current =
    let u = x.message.id in
    let same =
    eqb-true (s.group u.group).number u.view (and_parts (has_view (s.group u.group)) ((s.group u.group).number == u.view) current).1 in
    let got =
    kept_got (IsSpent s) s.got s.kept l.spent x.message (subst (In x.message) fits.messages.kept_in (in_messages x r.part.kept at)) in
    live_now s (source_of u) same (l.traced.spoken x.message got (sym same))

-- Keys

-- messages, or what is offered, but for those under some keys
abbrev drop_kept : List Received → Key → List Received
drop_kept xs key = filter (λ x. not (key_eq x.key key)) xs

abbrev drop_offered : List Offered → Key → List Offered
drop_offered xs key = filter (λ x. not (key_eq x.key key)) xs

-- all releases at once
pub fold_release : (keys : List Key) (r : Records) → fold release_in r keys ≡ record r {
  part = record r.part { kept = fold drop_kept r.part.kept keys };
  delay = record r.delay { offered = fold drop_offered r.delay.offered keys };
}
fold_release [] r = refl
fold_release (key ∷ keys) r = fold_release keys (release_in r key)

abbrev pub is_key : List Key → Key → Bool
is_key keys key = list_any (key_eq key) keys

pub filter_twice : {X : Type 0} (f g : X → Bool) (xs : List X) → filter f (filter g xs) ≡ filter (λ x. g x && f x) xs
filter_twice f g [] = refl
filter_twice f g (x ∷ xs) =
    elim (g x) as (λ b.
    filter f (cond b (x ∷ filter g xs) (filter g xs)) ≡ cond (b && f x) (x ∷ filter (λ y. g y && f y) xs) (filter (λ y. g y && f y) xs)) [
      | true ↦ ap (λ ys. cond (f x) (x ∷ ys) ys) (filter_twice f g xs)
      | false ↦ filter_twice f g xs
    ]

pub filter_same : {X : Type 0} (f g : X → Bool) (xs : List X) → ((x : X) → In x xs → f x ≡ g x) → filter f xs ≡ filter g xs
filter_same f g [] same = refl
filter_same f g (x ∷ xs) same =
    λ i. cond (same x (inl refl) i) (x ∷ filter_same f g xs (λ y at. same y (inr at)) i) (filter_same f g xs (λ y at. same y (inr at)) i)

filter_all : {X : Type 0} (f : X → Bool) (xs : List X) → ((x : X) → f x ≡ true) → filter f xs ≡ xs
filter_all f [] all = refl
filter_all f (x ∷ xs) all = ap (λ b. cond b (x ∷ filter f xs) (filter f xs)) (all x) ∙ ap (λ ys. x ∷ ys) (filter_all f xs all)

fold_drop : (keys : List Key) (xs : List Received) → fold drop_kept xs keys ≡ filter (λ x. not (is_key keys x.key)) xs
fold_drop [] xs = sym (filter_all (λ (x : Received). not (is_key [] x.key)) xs (λ x. refl))
fold_drop (key ∷ keys) xs =
    fold_drop keys (drop_kept xs key)
    ∙ filter_twice (λ (x : Received). not (is_key keys x.key)) (λ (x : Received). not (key_eq x.key key)) xs
    ∙ filter_same (λ (x : Received). not (key_eq x.key key) && not (is_key keys x.key)) (λ (x : Received). not (is_key (key ∷ keys) x.key))
    xs (λ x at. neither (key_eq x.key key) (is_key keys x.key))

-- the keys of messages that pass a test
abbrev keys_of : (Message → Bool) → List Received → List Key
keys_of test xs = map (λ x. x.key) (filter (λ x. test x.message) xs)

same_key : (a b : Key) → key_eq a b ≡ true → a ≡ b
same_key a b e = ap (λ n. record { 0 = n }) (eqb-true a.0 b.0 e)

-- a message that passes has its key among them
key_passes : (test : Message → Bool) (xs : List Received) (x : Received) → In x xs → test x.message ≡ true →
    is_key (keys_of test xs) x.key ≡ true
key_passes test [] x at pass = absurd at
key_passes test (y ∷ xs) x (inl here) pass =
    ap (λ b. is_key (map (λ z. z.key) (cond b (y ∷ filter (λ z. test z.message) xs) (filter (λ z. test z.message) xs))) x.key)
    (ap (λ (z : Received). test z.message) (sym here) ∙ pass)
    ∙ or_left (key_eq x.key y.key) (is_key (keys_of test xs) x.key)
    (ap (λ (z : Received). key_eq x.key z.key) (sym here) ∙ eq-eqb x.key.0 x.key.0 refl)
key_passes test (y ∷ xs) x (inr there) pass =
    let later = key_passes test xs x there pass in
    elim (test y.message)
    as (λ b. is_key (map (λ z. z.key) (cond b (y ∷ filter (λ z. test z.message) xs) (filter (λ z. test z.message) xs))) x.key ≡ true) [
      | true ↦ or_right (key_eq x.key y.key) (is_key (keys_of test xs) x.key) later
      | false ↦ later
    ]

-- a key among them is that of a message that passes
passes_key : (test : Message → Bool) (xs : List Received) (key : Key) → is_key (keys_of test xs) key ≡ true →
    (y : Received) × In y xs × (test y.message ≡ true) × (y.key ≡ key)
passes_key test [] key at = absurd (false≢true at)
passes_key test (y ∷ xs) key at =
    elim (test y.message) as (λ b. test y.message ≡ b →
    is_key (map (λ z. z.key) (cond b (y ∷ filter (λ z. test z.message) xs) (filter (λ z. test z.message) xs))) key ≡ true →
    (z : Received) × In z (y ∷ xs) × (test z.message ≡ true) × (z.key ≡ key)) [
      | true ↦ λ pass h. elim (or_cases (key_eq key y.key) (is_key (keys_of test xs) key) h) [
        | inl here ↦ (y, inl refl, pass, sym (same_key key y.key here))
        | inr later ↦ let z = passes_key test xs key later in (z.0, inr z.1, z.2, z.3)
      ]
      | false ↦ λ _ h. let z = passes_key test xs key h in (z.0, inr z.1, z.2, z.3)
    ] refl at

-- where each message stands under its key, it is the key of one that passes exactly if the message passes
key_is : (test : Message → Bool) (xs : List Received) → ((x : Received) → In x xs → message_under xs x.key ≡ Some x.message) →
    (x : Received) → In x xs → is_key (keys_of test xs) x.key ≡ test x.message
key_is test xs named x at =
    elim (cases_Bool (test x.message)) [
      | inl pass ↦ key_passes test xs x at pass ∙ sym pass
      | inr fail ↦ false_from_ne_true (is_key (keys_of test xs) x.key) (λ is.
          let y = passes_key test xs x.key is in
          let same : y.0.message ≡ x.message =
          same_Some y.0.message x.message (sym (named y.0 y.1) ∙ ap (message_under xs) y.3 ∙ named x at) in
          false≢true (sym fail ∙ ap test (sym same) ∙ y.2)) ∙ sym fail
    ]

messages_filter : (test : Message → Bool) (xs : List Received) → messages (filter (λ x. test x.message) xs) ≡ filter test (messages xs)
messages_filter test [] = refl
messages_filter test (x ∷ xs) =
    elim (test x.message) as (λ b. messages (cond b (x ∷ filter (λ y. test y.message) xs) (filter (λ y. test y.message) xs))
    ≡ cond b (x.message ∷ filter test (messages xs)) (filter test (messages xs))) [
      | true ↦ ap (λ ms. x.message ∷ ms) (messages_filter test xs)
      | false ↦ messages_filter test xs
    ]

in_contains : {X : Type 0} (x : X) (xs : List X) → In x xs → Contains xs x
in_contains x [] at = absurd at
in_contains x (y ∷ xs) (inl here) = subst (Contains (y ∷ xs)) (sym here) (Contains-append_left (y ∷ []) xs y (Contains-push [] y))
in_contains x (y ∷ xs) (inr there) = Contains-append_right (y ∷ []) xs x (in_contains x xs there)

-- What is let go

-- the queue forgets what is released
forgets : (keys : List Key) (groups : List GroupNo) (gate : GroupNo → Gate) (processes : Proc → Process) (kept : List Received)
    (q : Queue) → QueueFits groups gate processes kept q →
    QueueFits groups gate processes (fold drop_kept kept keys) (record q { offered = fold drop_offered q.offered keys })
forgets [] groups gate processes kept q fits = fits
forgets (key ∷ keys) groups gate processes kept q fits =
    forgets keys groups gate processes (drop_kept kept key) (record q { offered = drop_offered q.offered key })
    (forget_fits groups gate processes kept q fits key)

-- no key is free that was not
still_fresh : (keys : List Key) (kept : List Received) (n : ℕ) → message_under kept (record { 0 = n }) ≡ None →
    message_under (fold drop_kept kept keys) (record { 0 = n }) ≡ None
still_fresh [] kept n none = none
still_fresh (key ∷ keys) kept n none = still_fresh keys (drop_kept kept key) n (filter_none kept none)
  where
    filter_none : (xs : List Received) → message_under xs (record { 0 = n }) ≡ None →
        message_under (drop_kept xs key) (record { 0 = n }) ≡ None
    filter_none [] none = refl
    filter_none (x ∷ xs) none =
        elim (cases_Bool (key_eq x.key (record { 0 = n }))) [
          | inl here ↦
              absurd (none-some x.message (sym none ∙ ap
              (λ b. option_map (λ (y : Received). y.message) (cond b (Some x) (find (λ y. key_eq y.key (record { 0 = n })) xs))) here))
          | inr other ↦
              let rest =
              filter_none xs (sym (ap (λ b. option_map (λ (y : Received). y.message)
              (cond b (Some x) (find (λ y. key_eq y.key (record { 0 = n })) xs))) other) ∙ none) in
              elim (not (key_eq x.key key))
              as (λ b. message_under (cond b (x ∷ drop_kept xs key) (drop_kept xs key)) (record { 0 = n }) ≡ None) [
                | true ↦
                    ap (λ b. option_map (λ (y : Received). y.message)
                    (cond b (Some x) (find (λ y. key_eq y.key (record { 0 = n })) (drop_kept xs key)))) other ∙ rest
                | false ↦ rest
              ]
        ]

-- kept messages are let go on both sides, where the tests agree on what is kept
pub fits_release : (r : Records) (s : State) → Fits r s → (p q : Uid → Bool) →
    ((x : Received) → In x r.part.kept → p x.message.id ≡ q x.message.id) → Fits (release_all_in r p) (releasing s q)
fits_release r s fits p q same =
    subst (λ x. Fits x (releasing s q)) (sym (fold_release keys r))
    (record {
      core = fits.core;
      opened = fits.opened;
      groups = fits.groups;
      messages = record {
        kept_in = kept_now;
        fresh = λ n past. still_fresh keys r.part.kept n (fits.messages.fresh n past);
        counted = fits.messages.counted;
      };
      processes = record {
        delay = forgets keys s.config.groups (gate_of s) (process_named s) r.part.kept r.delay fits.processes.delay;
        admitted = fits.processes.admitted;
        has_row = fits.processes.has_row;
        rows = fits.processes.rows;
        idle = fits.processes.idle;
      };
      acks = fits.acks;
      orders = orders_same s (releasing s q) r.orders refl refl refl refl refl refl refl refl (keeps_fewer (λ m. not (q m.id)) s.kept)
          fits.orders;
      frames = fits.frames;
      delivered = fits.delivered;
      pushed = fits.pushed;
    })
  where
    keys : List Key
    keys = map (λ x. x.key) (filter (λ x. p x.message.id) r.part.kept)

    kept_now : messages (fold drop_kept r.part.kept keys) ≡ filter (λ m. not (q m.id)) s.kept
    kept_now =
        ap messages (fold_drop keys r.part.kept)
        ∙ ap messages (filter_same (λ x. not (is_key keys x.key)) (λ x. not (q x.message.id)) r.part.kept
        (λ x at. ap not
        (key_is (λ m. p m.id) r.part.kept (λ y there. fits.processes.delay.named y (in_contains y r.part.kept there)) x at ∙ same x at)))
        ∙ messages_filter (λ m. not (q m.id)) r.part.kept
        ∙ ap (filter (λ m. not (q m.id))) fits.messages.kept_in

-- so are free messages
pub fits_let_go : (r : Records) (s : State) → Fits r s → IsLawful s → Fits (release.let_go records resting_records r) (let_go s)
fits_let_go r s fits l =
    fits_release r s fits (release.is_free records resting_records r) (is_free s)
    (λ x at.
    free_same r s fits l x.message.id (fits.processes.delay.sound x (in_contains x r.part.kept at)).from_one (kept_live r s fits l x at))

-- and those of views of a group that have ended
pub fits_release_ended : (r : Records) (s : State) → Fits r s → (i : ℕ) (g : GroupNo) → slice_get s.config.groups i ≡ Some g →
    Fits (release_all_in r (is_ended_in r i)) (releasing_ended s g)
fits_release_ended r s fits i g at =
    fits_release r s fits (is_ended_in r i) (is_ended s g)
    (λ x _ j.
    let there =
    record_there r s fits i g at in group_eq x.message.id.group (there j).name && nat_lt x.message.id.view (there j).here.number)
