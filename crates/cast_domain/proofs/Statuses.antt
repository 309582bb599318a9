-- The records of sessions, and how sessions stand by serial.
use Rattle.std.proofs.Common.{◌≡◌, ℕ, zero, suc, ◌+◌, ◌<◌, ◌≤◌, Bool, true, false, not, List, []}
use Rattle.std.proofs.Common.{◌∷◌, cond, filter, map, Some, refl, sym, ap, ◌∙◌, inl, inr, arith}
use Rattle.std.specs.Prelude.{◌==◌, ◌||◌, nat_lt, nat_le, if◌then◌else◌}
use Rattle.std.specs.List.{find, list_any, range_with_len}
use Rattle.std.specs.Option.{option_map_or}
use Rattle.std.proofs.lemmas.Bool.{false≢true, cases_Bool, cases_eq, and_parts, eqb-true, eq-eqb, ne_eqb}
use Rattle.std.proofs.lemmas.Bool.{or_from, or_left, or_right, false_from_ne_true, ltb-true, leb-true}
use Rattle.cast_types.specs.Sets.{set_at}
use Rattle.cast_message.specs.declared.client.Push.{Push}
use Rattle.cast_events.specs.declared.session.Status.{Status}
use Rattle.cast_events.specs.declared.session.Status.TheVariants.{Open, Closed, Gone}
use Rattle.cast_events.specs.Session.{Session, no_session, is_open, is_open_status, is_gone, is_gone_status}
use Rattle.cast_rules.specs.State.{was_given}
use Rattle.cast_domain.specs.GivenSessions.{SessionRecord, status_in}
use Rattle.cast_domain.specs.PartCalls.{with_status}
use Rattle.cast_domain.specs.Fits.{session_for, is_there}

-- whether a number is one of n numbers, from a on
abbrev pub within : ℕ → ℕ → ℕ → Bool
within a n j = list_any (λ x. x == j) (range_with_len a n)

-- a number below a range is not in it
pub below_range : (n a j : ℕ) → j < a → within a n j ≡ false
below_range zero a j less = refl
below_range (suc n) a j less =
    or_from (a == j) (within (a + 1) n j) (ne_eqb a j (λ same. omega (arith, same, less))) (below_range n (a + 1) j (omega arith))

-- and one between its ends is
pub in_range : (n a j : ℕ) → a ≤ j → j < a + n → within a n j ≡ true
in_range zero a j from less = absurd (omega arith)
in_range (suc n) a j from less = elim (cases_eq a j) [
  | inl same ↦ or_left (a == j) (within (a + 1) n j) (eq-eqb a j same)
  | inr other ↦ or_right (a == j) (within (a + 1) n j) (in_range n (a + 1) j (omega (arith, other, from)) (omega arith))
]

-- a serial out of the range of those that were given was not
pub not_given : (used k : ℕ) → within 1 used k ≡ false → was_given used k ≡ false
not_given used k past = false_from_ne_true (was_given used k) (λ was.
    let parts = and_parts (nat_lt 0 k) (nat_le k used) was in
    let above = ltb-true 0 k parts.0 in
    let below = leb-true k used parts.1 in
    false≢true (sym past ∙ in_range used 1 k (omega (arith, above)) (omega (arith, below))))

-- an open session is not gone
pub open_remains : (x : Session) → is_open x ≡ true → is_gone x ≡ false
open_remains x is = by_status x.status is
  where
    by_status : (status : Status) → is_open_status status ≡ true → is_gone_status status ≡ false
    by_status Open is = refl
    by_status Closed is = refl
    by_status Gone is = absurd (false≢true is)

-- the list of the records of these sessions that are not gone
abbrev pub roster : (ℕ → Session) → List ℕ → List SessionRecord
roster session ks = map (session_for session) (filter (is_there session) ks)

gone_is : (status : Status) → not (is_gone_status status) ≡ false → status ≡ Gone
gone_is Open is = absurd (false≢true (sym is))
gone_is Closed is = absurd (false≢true (sym is))
gone_is Gone is = refl

-- how a serial stands by the first of some records, if that is its record, or by the later ones
abbrev pub found_first : Bool → SessionRecord → List SessionRecord → ℕ → Status
found_first b first later k = option_map_or (λ x. x.status) (if b then Some first else find (λ x. x.serial == k) later) Gone

-- the records say how each of them stands
pub status_within : (session : ℕ → Session) (k n a : ℕ) →
    status_in (roster session (range_with_len a n)) k ≡ (if within a n k then (session k).status else Gone)
status_within session k zero a = refl
status_within session k (suc n) a =
    elim (is_there session a) as (λ b. is_there session a ≡ b → status_in (map (session_for session)
    (cond b (a ∷ filter (is_there session) (range_with_len (a + 1) n)) (filter (is_there session) (range_with_len (a + 1) n))))
    k ≡ (if within a (suc n) k then (session k).status else Gone)) [
      | true ↦ λ _. here (status_within session k n (a + 1)) (a == k) refl
      | false ↦ λ out. status_within session k n (a + 1) ∙ gone_here out (a == k) refl
    ] refl
  where
    later : List SessionRecord
    later = roster session (range_with_len (a + 1) n)

    here : status_in later k ≡ (if within (a + 1) n k then (session k).status else Gone) → (c : Bool) → (a == k) ≡ c →
        status_in (session_for session a ∷ later) k ≡ (if within a (suc n) k then (session k).status else Gone)
    here rest true same =
        ap (λ b. found_first b (session_for session a) later k) same ∙ ap (λ j. (session j).status) (eqb-true a k same)
        ∙ sym (ap (λ b. if b then (session k).status else Gone) (or_left (a == k) (within (a + 1) n k) same))
    here rest false other =
        ap (λ b. found_first b (session_for session a) later k) other ∙ rest
        ∙ ap (λ b. if b then (session k).status else Gone) (sym (ap (λ b. b || within (a + 1) n k) other))

    gone_here : is_there session a ≡ false → (c : Bool) → (a == k) ≡ c →
        (if within (a + 1) n k then (session k).status else Gone) ≡ (if within a (suc n) k then (session k).status else Gone)
    gone_here out true same =
        ap (λ b. if b then (session k).status else Gone) (below_range n (a + 1) k (let is = eqb-true a k same in omega (arith, is)))
        ∙ sym (gone_is (session k).status (ap (λ j. is_there session j) (sym (eqb-true a k same)) ∙ out))
        ∙ sym (ap (λ b. if b then (session k).status else Gone) (or_left (a == k) (within (a + 1) n k) same))
    gone_here out false other = ap (λ b. if b then (session k).status else Gone) (sym (ap (λ b. b || within (a + 1) n k) other))

-- so do those of all serials that were given, where none other has a session
pub status_given : (session : ℕ → Session) (used k : ℕ) → ((j : ℕ) → was_given used j ≡ false → session j ≡ no_session) →
    status_in (roster session (range_with_len 1 used)) k ≡ (session k).status
status_given session used k unused =
    status_within session k used 1
    ∙ elim (cases_Bool (within 1 used k)) [
      | inl is ↦ ap (λ b. if b then (session k).status else Gone) is
      | inr past ↦
          ap (λ b. if b then (session k).status else Gone) past ∙ sym (ap (λ (x : Session). x.status) (unused k (not_given used k past)))
    ]

-- the first of them has a record, if it is not gone, and then those after it
pub roster_first : (session : ℕ → Session) (a : ℕ) (ks : List ℕ) →
    roster session (a ∷ ks) ≡ cond (is_there session a) (session_for session a ∷ roster session ks) (roster session ks)
roster_first session a ks =
    elim (is_there session a) as (λ b. map (session_for session) (cond b (a ∷ filter (is_there session) ks) (filter (is_there session) ks))
    ≡ cond b (session_for session a ∷ roster session ks) (roster session ks)) [
      | true ↦ refl
      | false ↦ refl
    ]

-- sessions that stand as others do have the same records
pub same_roster : (f g : ℕ → Session) → ((k : ℕ) → (f k).status ≡ (g k).status) → (ks : List ℕ) → roster f ks ≡ roster g ks
same_roster f g same ks = λ i. map (λ k. record { serial = k; status = same k i }) (filter (λ k. not (is_gone_status (same k i))) ks)

-- one session is another
abbrev pub set_one : (ℕ → Session) → ℕ → Session → ℕ → Session
set_one session k v = set_at (λ a b. a == b) session k v

-- the status of each, where the one has the status that it had
pub same_status : (session : ℕ → Session) (k : ℕ) (v : Session) → v.status ≡ (session k).status → (j : ℕ) →
    (session j).status ≡ (set_one session k v j).status
same_status session k v same j = elim (k == j) as (λ b. k == j ≡ b → (session j).status ≡ (if b then v else session j).status) [
  | true ↦ λ is. ap (λ i. (session i).status) (sym (eqb-true k j is)) ∙ sym same
  | false ↦ λ _. refl
] refl

-- an open session is closed
pub roster_closed : (session : ℕ → Session) (k : ℕ) (v : Session) → v.status ≡ Closed → is_there session k ≡ true → (ks : List ℕ) →
    map (with_status k Closed) (roster session ks) ≡ roster (set_one session k v) ks
roster_closed session k v closed there [] = refl
roster_closed session k v closed there (a ∷ ks) =
    elim (is_there session a) as (λ b. is_there session a ≡ b → map (with_status k Closed) (map (session_for session)
    (cond b (a ∷ filter (is_there session) ks) (filter (is_there session) ks))) ≡ roster (set_one session k v) (a ∷ ks)) [
      | true ↦ λ is.
          (λ i. with_status k Closed (session_for session a) ∷ roster_closed session k v closed there ks i)
          ∙ (λ i. first (a == k) refl i ∷ roster (set_one session k v) ks)
          ∙ sym (ap (λ c. map (session_for (set_one session k v))
          (cond c (a ∷ filter (is_there (set_one session k v)) ks) (filter (is_there (set_one session k v)) ks))) (still is (k == a) refl))
      | false ↦ λ out.
          roster_closed session k v closed there ks
          ∙ sym (ap (λ c. map (session_for (set_one session k v)) (cond c (a ∷ filter (is_there (set_one session k v)) ks)
          (filter (is_there (set_one session k v)) ks))) (still_out out (k == a) refl))
    ] refl
  where
    flip : (x y : ℕ) → (x == y) ≡ (y == x)
    flip x y = elim (cases_eq x y) [
      | inl same ↦ eq-eqb x y same ∙ sym (eq-eqb y x (sym same))
      | inr other ↦ ne_eqb x y other ∙ sym (ne_eqb y x (λ same. other (sym same)))
    ]

    first : (c : Bool) → (a == k) ≡ c → with_status k Closed (session_for session a) ≡ session_for (set_one session k v) a
    first true same =
        ap (λ b. if b then record { serial = a; status = Closed } else session_for session a) same
        ∙ (λ i. record { serial = a; status = sym closed i })
        ∙ sym (ap (λ b. record { serial = a; status = (if b then v else session a).status }) (flip k a ∙ same))
    first false other =
        ap (λ b. if b then record { serial = a; status = Closed } else session_for session a) other
        ∙ sym (ap (λ b. record { serial = a; status = (if b then v else session a).status }) (flip k a ∙ other))

    still : is_there session a ≡ true → (c : Bool) → (k == a) ≡ c → is_there (set_one session k v) a ≡ true
    still is true same = ap (λ b. not (is_gone (if b then v else session a))) same ∙ ap (λ x. not (is_gone_status x)) closed
    still is false other = ap (λ b. not (is_gone (if b then v else session a))) other ∙ is

    still_out : is_there session a ≡ false → (c : Bool) → (k == a) ≡ c → is_there (set_one session k v) a ≡ false
    still_out out true same = absurd (false≢true (sym out ∙ ap (λ j. is_there session j) (sym (eqb-true k a same)) ∙ there))
    still_out out false other = ap (λ b. not (is_gone (if b then v else session a))) other ∙ out

-- one is gone
pub roster_gone : (session : ℕ → Session) (k : ℕ) (ks : List ℕ) →
    filter (λ x. not (x.serial == k)) (roster session ks) ≡ roster (set_one session k no_session) ks
roster_gone session k [] = refl
roster_gone session k (a ∷ ks) =
    elim (cases_eq k a) [
      | inl same ↦
          (elim (is_there session a) as (λ b. filter (λ (x : SessionRecord). not (x.serial == k))
          (map (session_for session) (cond b (a ∷ filter (is_there session) ks) (filter (is_there session) ks)))
          ≡ filter (λ (x : SessionRecord). not (x.serial == k)) (roster session ks)) [
            | true ↦
                ap (λ b. cond (not b) (session_for session a ∷ filter (λ (x : SessionRecord). not (x.serial == k)) (roster session ks))
                (filter (λ (x : SessionRecord). not (x.serial == k)) (roster session ks))) (eq-eqb a k (sym same))
            | false ↦ refl
          ])
          ∙ roster_gone session k ks
          ∙ sym (ap (λ b. map (session_for after) (cond (not (is_gone (if b then no_session else session a)))
          (a ∷ filter (is_there after) ks) (filter (is_there after) ks))) (eq-eqb k a same))
      | inr other ↦
          (elim (is_there session a) as (λ b. filter (λ (x : SessionRecord). not (x.serial == k))
          (map (session_for session) (cond b (a ∷ filter (is_there session) ks) (filter (is_there session) ks)))
          ≡ cond b (session_for session a ∷ filter (λ (x : SessionRecord). not (x.serial == k)) (roster session ks))
          (filter (λ (x : SessionRecord). not (x.serial == k)) (roster session ks))) [
            | true ↦
                ap (λ b. cond (not b) (session_for session a ∷ filter (λ (x : SessionRecord). not (x.serial == k)) (roster session ks))
                (filter (λ (x : SessionRecord). not (x.serial == k)) (roster session ks))) (ne_eqb a k (λ same. other (sym same)))
            | false ↦ refl
          ])
          ∙ (λ i. cond (is_there session a) (session_for session a ∷ roster_gone session k ks i) (roster_gone session k ks i))
          ∙ (elim (is_there session a) as (λ b. cond b (session_for session a ∷ roster after ks) (roster after ks)
          ≡ map (session_for after) (cond b (a ∷ filter (is_there after) ks) (filter (is_there after) ks))) [
            | true ↦ λ i. record {
              serial = a;
              status = (sym (ap (λ b. if b then no_session else session a) (ne_eqb k a other)) i).status;
            } ∷ roster after ks
            | false ↦ refl
          ])
          ∙ sym (ap (λ b. map (session_for after) (cond (not (is_gone (if b then no_session else session a)))
          (a ∷ filter (is_there after) ks) (filter (is_there after) ks))) (ne_eqb k a other))
    ]
  where
    after : ℕ → Session
    after = set_one session k no_session

-- Outboxes

-- the outbox of one session is another
pub boxes_set : (session : ℕ → Session) (outboxes : ℕ → List Push) → outboxes ≡ (λ k. (session k).outbox) →
    (k : ℕ) (v : Session) (entries : List Push) → entries ≡ v.outbox →
    set_at (λ a b. a == b) outboxes k entries ≡ (λ j. (set_one session k v j).outbox)
boxes_set session outboxes are k v entries same = λ i j. at j i
  where
    at : (j : ℕ) → set_at (λ a b. a == b) outboxes k entries j ≡ (set_one session k v j).outbox
    at j = elim (k == j) as (λ b. (if b then entries else outboxes j) ≡ (if b then v else session j).outbox) [
      | true ↦ same
      | false ↦ ap (λ f. f j) are
    ]

-- a session of a serial that was given is another: none other has one
pub unused_set : (session : ℕ → Session) (used k : ℕ) (v : Session) → was_given used k ≡ true →
    ((j : ℕ) → was_given used j ≡ false → session j ≡ no_session) → (j : ℕ) → was_given used j ≡ false → set_one session k v j ≡ no_session
unused_set session used k v given unused j none = elim (k == j) as (λ b. k == j ≡ b → (if b then v else session j) ≡ no_session) [
  | true ↦ λ is. absurd (false≢true (sym none ∙ ap (was_given used) (sym (eqb-true k j is)) ∙ given))
  | false ↦ λ _. unused j none
] refl
