-- How many places who has the token of a view has settled: those before its first one, and those up to the last one that its stable
-- messages set.
use Rattle.std.proofs.Common.{ap, arith, inl, inr, subst, sym, ◌∙◌}
use Rattle.std.proofs.lemmas.Bool.{and_parts, cases_lt}
use Rattle.std.proofs.lemmas.List.Elements.{Contains-append_right}
use Rattle.std.proofs.lemmas.List.{take-append-drop}
use Rattle.std.specs.List.{flat_map}
use Rattle.std.specs.Prelude.{◌&&◌, ◌+◌, ◌<◌, Bool, Contains, List, [], drop, false, filter, if◌then◌else◌}
use Rattle.std.specs.Prelude.{length, refl, suc, take, true, unwrap_or, zero, ℕ, ◌∷◌, ◌≡◌, ◌≤◌, ◌⊎◌}
use Rattle.cast_ready.specs.Ready.{has_delivered}
use Rattle.cast_rules.specs.Acts.{Act}
use Rattle.cast_rules.specs.Acts.Act.{Delivered, Entered, Left, Sent}
use Rattle.cast_rules.specs.Order.{is_of_view, last_place, listed_by, lists_of, order_by, settled_to, token_of, unsettled_ids}
use Rattle.cast_rules.specs.State.{State, is_stable, local}
use Rattle.cast_message.specs.Bodies.{kind_of}
use Rattle.cast_message.specs.declared.message.Message.{Message}
use Rattle.cast_order.specs.Order.{Listing, last_listed}
use Rattle.cast_types.specs.Names.{Entry, is_order, uid_in}
use Rattle.cast_types.specs.declared.names.GroupNo.{GroupNo}
use Rattle.cast_types.specs.declared.names.Uid.{Uid}
use Rattle.cast_world.proofs.Acts.{contains_cons}
use Rattle.cast_world.proofs.Allowed.{contains_more, passed}
use Rattle.cast_world.proofs.Homes.{among_kept}
use Rattle.cast_world.proofs.Listings.{keeps_every}
use Rattle.cast_world.proofs.Prefixes.{in_flat}
use Rattle.cast_world.specs.Agreement.{is_in}

-- Lists

drop_long : {X : Type 0} (n : ℕ) (xs : List X) → length xs ≤ n + length (drop n xs)
drop_long zero xs = omega arith
drop_long (suc n) [] = omega arith
drop_long (suc n) (x ∷ xs) = let le = drop_long n xs in omega (arith, le)

drop_of : {X : Type 0} (n : ℕ) (xs : List X) (x : X) → Contains (drop n xs) x → Contains xs x
drop_of n xs x at = subst (λ l. Contains l x) (take-append-drop n xs) (Contains-append_right (take n xs) (drop n xs) x at)

last_low : (listed : Listing) (n : ℕ) → ((x : ℕ × ℕ) → Contains listed x → x.1 ≤ n) → last_listed listed ≤ n
last_low [] n all = omega arith
last_low (x ∷ listed) n all =
    let one = all x (0, omega arith, refl) in
    let more = last_low listed n (λ y at. all y (contains_more x listed y at)) in
    omega (arith, one, more)

last_of : (listed : Listing) (n : ℕ) → n < last_listed listed → (x : ℕ × ℕ) × Contains listed x × (n < x.1)
last_of [] n lt = absurd (omega (arith, lt))
last_of (x ∷ listed) n lt = elim (cases_lt n x.1) [
  | inl here ↦ (x, (0, omega arith, refl), here)
  | inr low ↦ (let r = last_of listed n (omega (arith, lt, low)) in (r.0, contains_more x listed r.0 r.1, r.2))
]

-- What a process listed

-- a message that it sent to set the order of a view
abbrev pub IsListed : (Uid → Bool) → List Act → Message → Type 0
IsListed of acts m = Contains acts (Sent m) × (of m.id ≡ true) × (is_order (kind_of m.body) ≡ true)

listing_of : (of : Uid → Bool) (acts : List Act) (x : ℕ × ℕ) → Contains (flat_map (listed_by of) acts) x →
    (m : Message) × IsListed of acts m × (x.0 ≡ m.id.count) × (x.1 ≡ last_place m.body)
listing_of of acts x at = let from = in_flat (listed_by of) acts x at in by from.0 from.1 from.2
  where
    by : (y : Act) → Contains acts y → Contains (listed_by of y) x →
        (m : Message) × IsListed of acts m × (x.0 ≡ m.id.count) × (x.1 ≡ last_place m.body)
    by (Sent m) c here = go (of m.id && is_order (kind_of m.body)) refl here
      where
        go : (b : Bool) → (of m.id && is_order (kind_of m.body)) ≡ b → Contains (if b then (m.id.count, last_place m.body) ∷ [] else []) x →
            (z : Message) × IsListed of acts z × (x.0 ≡ z.id.count) × (x.1 ≡ last_place z.body)
        go true e in_it = elim (contains_cons (m.id.count, last_place m.body) [] x in_it) [
          | inl same ↦
              (let two = and_parts (of m.id) (is_order (kind_of m.body)) e in
              (m, (c, two.0, two.1), ap (λ (y : ℕ × ℕ). y.0) (sym same), ap (λ (y : ℕ × ℕ). y.1) (sym same)))
          | inr none ↦ absurd (omega (arith, none.1))
        ]
        go false e in_it = absurd (omega (arith, in_it.1))
    by (Delivered m) c here = absurd (omega (arith, here.1))
    by (Entered g n cut) c here = absurd (omega (arith, here.1))
    by (Left g) c here = absurd (omega (arith, here.1))

-- What it has settled

module _ (t : State) (g : GroupNo) (k : ℕ) where
  abbrev v : ℕ
  v = (t.group g).number

  abbrev first : ℕ
  first = unwrap_or (token_of t g k) 1

  abbrev stable : ℕ × ℕ → Bool
  stable x = is_stable t (uid_in g v (local t k, x.0))

  pub settled_low : (n : ℕ) → first ≤ n + 1 →
      ((m : Message) → Contains (t.acts k) (Sent m) → is_in g v m.id ≡ true → last_place m.body ≤ n) → settled_to t g k ≤ n
  settled_low n low all =
      let last = last_low (filter stable (lists_of t g k)) n (λ x at.
      let m = listing_of (is_of_view t g) (t.acts k) x (among_kept stable (lists_of t g k) x at) in
      let le = all m.0 m.1.0 m.1.1 in
      let same = m.3 in
      omega (arith, le, same)) in
      omega (arith, low, last)

  stable_as : (n c : ℕ) → n ≡ c → is_stable t (uid_in g v (local t k, n)) ≡ true → is_stable t (uid_in g v (local t k, c)) ≡ true
  stable_as n c same e = subst (λ i. is_stable t (uid_in g v (local t k, i)) ≡ true) same e

  -- a place is settled before the first one, or by a stable message
  pub settled_by : (n : ℕ) → n < settled_to t g k → (n + 1 < first) ⊎ ((m : Message)
      × IsListed (is_in g v) (t.acts k) m
      × (is_stable t (uid_in g v (local t k, m.id.count)) ≡ true)
      × (n < last_place m.body))
  settled_by n lt = elim (cases_lt (n + 1) first) [
    | inl before ↦ inl before
    | inr low ↦ inr (
        let x = last_of (filter stable (lists_of t g k)) n (omega (arith, lt, low)) in
        let m = listing_of (is_of_view t g) (t.acts k) x.0 (among_kept stable (lists_of t g k) x.0 x.1) in
        let past = x.2 in
        let same = m.3 in
        (m.0, m.1, stable_as x.0.0 m.0.id.count m.2 (passed stable (lists_of t g k) x.0 x.1), omega (arith, past, same)))
  ]

  -- what it delivered beyond is unsettled
  pub settled_near : (done : List Entry) → order_by t g k ≡ done →
      ((e : Entry) → Contains done e → has_delivered (t.process k) (uid_in g v e) ≡ true) →
      length done ≤ settled_to t g k + length (unsettled_ids t g k)
  settled_near done is had =
      let all : unsettled_ids t g k ≡ drop (settled_to t g k) done =
      ap (λ l. filter (λ e. has_delivered (t.process k) (uid_in g v e)) (drop (settled_to t g k) l)) is
      ∙ keeps_every (λ e. has_delivered (t.process k) (uid_in g v e)) (drop (settled_to t g k) done)
      (λ e at. had e (drop_of (settled_to t g k) done e at)) in
      let same = ap length all in
      let long = drop_long (settled_to t g k) done in
      omega (arith, same, long)
