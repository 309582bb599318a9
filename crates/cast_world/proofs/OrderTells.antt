-- Who tells a view's order knows all of it, and has still to list what it delivered beyond it.
use Rattle.cast_types.proofs.Orders.{same_entry}
use Rattle.std.proofs.Common.{ap, arith, inl, inr, subst, sym, ◌∙◌}
use Rattle.std.proofs.lemmas.Bool.{and_parts, false≢true, ltb-true, true≢false}
use Rattle.std.proofs.lemmas.List.{length-append}
use Rattle.std.specs.Prelude.{◌&&◌, ◌+◌, ◌++◌, ◌<◌, ◌==◌, Bool, Contains, List, None, Option, Some, [], false}
use Rattle.std.specs.Prelude.{filter, if◌then◌else◌, length, nat_lt, not, refl, true, ◌||◌, ℕ, ◌∷◌, ◌≡◌, ◌≤◌}
use Rattle.cast_ready.specs.Ready.{has_delivered, has_turn, is_causally_ready, is_cut_by, is_member, is_open_to}
use Rattle.cast_ready.specs.declared.turn.Turn.TheVariants.{Following, Holding}
use Rattle.cast_rules.specs.History.{history}
use Rattle.cast_rules.specs.Order.{facts_in, has_place, holds, is_of_view, order_by, order_of}
use Rattle.cast_rules.specs.Order.{order_told, told_by, unlisted_ids, unsettled_ids}
use Rattle.cast_rules.specs.Rules.Room.{may_order}
use Rattle.cast_rules.specs.State.{State, gate_of, local}
use Rattle.cast_rules.specs.Turns.{has_room_for_order, is_ready_for, turn_of}
use Rattle.cast_message.specs.Bodies.{kind_of}
use Rattle.cast_message.specs.declared.message.Body.{Body}
use Rattle.cast_message.specs.declared.message.Message.{Message}
use Rattle.cast_order.specs.Order.{next_of, still_to_list}
use Rattle.cast_types.specs.Counts.{CountList}
use Rattle.cast_types.specs.Names.{Entry, entry_of, is_atomic, is_order, uid_in}
use Rattle.cast_types.specs.declared.limits.TheConstants.{MAX_POSITION, MAX_UNSETTLED}
use Rattle.cast_types.specs.declared.names.GroupNo.{GroupNo}
use Rattle.cast_view.specs.MemberSide.{is_pending}
use Rattle.cast_view.specs.declared.member.Pending.{Pending}
use Rattle.cast_world.proofs.Allowed.{contains_kept, passed}
use Rattle.cast_world.proofs.Facts.{StopsIn, WaitsForTurn}
use Rattle.cast_world.proofs.Homes.{among_kept}
use Rattle.cast_world.proofs.Listings.{apart_done, still_is}
use Rattle.cast_world.proofs.Orders.{Apart, KnowsFirst, Leads, Stands, done_in}
use Rattle.cast_world.proofs.Prefixes.{flat_has, in_flat, known_begins, known_places, known_reaches, known_whole, place_in}
use Rattle.cast_message.specs.declared.message.Body.TheVariants as body
use Rattle.cast_world.specs.Agreement.{IsPrefix, is_in}

-- What a body tells

pub tells_none : (b : Body) → is_order (kind_of b) ≡ false → told_by b ≡ []
tells_none (body.Causal payload) e = refl
tells_none (body.Atomic payload) e = refl
tells_none (body.Order s) e = absurd (true≢false e)

-- At a site, of a group in which no Install waits

module _ (order : List Entry) (t : State) (g : GroupNo) (waits : is_pending (t.group g) ≡ false)
    (stand : (m : Message) (f : ℕ × Entry) → Contains t.got m → is_in g (t.group g).number m.id ≡ true → Contains (told_by m.body) f →
    Stands order f) where
  pub is_told : order_of t g ≡ order_told t g
  is_told = ap (λ b. if b then t.closed g else order_told t g) waits

  facts_stand : (f : ℕ × Entry) → Contains (facts_in t g) f → Stands order f
  facts_stand f at =
      let from = in_flat (λ (m : Message). told_by m.body) (filter (λ m. is_of_view t g m.id) t.got) f at in
      stand from.0 f (among_kept (λ (m : Message). is_of_view t g m.id) t.got from.0 from.1)
      (passed (λ (m : Message). is_of_view t g m.id) t.got from.0 from.1) from.2

  -- what the site knows of it begins it
  pub knows_begin : IsPrefix (order_of t g) order
  knows_begin = subst (λ l. IsPrefix l order) (sym is_told) (known_begins order (facts_in t g) facts_stand)

  -- each place that it knows was told here
  pub told_place : (a c : List Entry) (e : Entry) → order ≡ a ++ e ∷ c → length a < length (order_of t g) →
      (m : Message) × Contains t.got m × (is_in g (t.group g).number m.id ≡ true) × Contains (told_by m.body) (length a + 1, e)
  told_place a c e is lt =
      let whole : order_told t g ++ knows_begin.0 ≡ order = ap (λ l. l ++ knows_begin.0) (sym is_told) ∙ knows_begin.1 in
      let long = ap length is_told in
      elim (place_in (order_told t g) knows_begin.0 a c e (whole ∙ is)) [
        | inl old ↦
            let from =
            in_flat (λ (m : Message). told_by m.body) (filter (λ m. is_of_view t g m.id) t.got) (length a + 1, e)
            (known_places (facts_in t g) a old.0 e old.1) in (
              from.0,
              among_kept (λ (m : Message). is_of_view t g m.id) t.got from.0 from.1,
              passed (λ (m : Message). is_of_view t g m.id) t.got from.0 from.1,
              from.2,
            )
        | inr new ↦ absurd (
            let n = ap length new.1 in
            let parts = length-append (order_told t g) new.0 in
            omega (arith, n, parts, lt, long))
      ]

  -- who follows the order, with each place of what it delivered told here, has delivered a prefix of what the site knows
  pub knows_done : (done : List Entry) → IsPrefix done order → KnowsFirst t.got g (t.group g).number order (length done) →
      length done ≤ MAX_POSITION → IsPrefix done (order_told t g)
  knows_done done begins known few = known_reaches order (facts_in t g) facts_stand done begins
      (λ a c e is lt. let m = known a c e is lt in flat_has (λ (z : Message). told_by z.body) (filter (λ z. is_of_view t g z.id) t.got)
      m.0 (length a + 1, e) (contains_kept (λ (z : Message). is_of_view t g z.id) t.got m.0 m.1 m.2) m.3) few

  -- who tells the order
  module _ (k first : ℕ) (l : Leads order first g (t.group g).number (local t k) (t.abcasts k) t.got) (once : Apart (t.abcasts k)) where
    abbrev rest : List Entry
    rest = l.all.0

    abbrev done : List Entry
    done = done_in g (t.group g).number (t.abcasts k)

    all_told : (a c : List Entry) (e : Entry) → order ≡ a ++ e ∷ c → Contains (facts_in t g) (length a + 1, e)
    all_told a c e is =
        let whole = ap length is in
        let parts = length-append a (e ∷ c) in
        let m = l.known a c e is (omega (arith, whole, parts)) in
        flat_has (λ (z : Message). told_by z.body) (filter (λ z. is_of_view t g z.id) t.got) m.0 (length a + 1, e)
        (contains_kept (λ (z : Message). is_of_view t g z.id) t.got m.0 m.1 m.2) m.3

    done_length : length done ≡ length order + length rest
    done_length = ap length (sym l.all.1) ∙ length-append order rest

    -- its site knows all of it
    pub knows_told : order_told t g ≡ order
    knows_told = known_whole order (facts_in t g) facts_stand all_told (let n = done_length in let p = l.places in omega (arith, n, p))

    apart : Apart (order ++ rest)
    apart = subst Apart (sym l.all.1) (apart_done g (t.group g).number (t.abcasts k) once)

    -- and what it has still to list is what it delivered beyond
    pub still_lists : unlisted_ids t g k ≡ rest
    still_lists = (λ i. still_to_list (sym l.all.1 i) (knows_told i)) ∙ still_is order rest apart

    -- so the order and behind it that is all that it delivered
    pub order_by_is : order_by t g k ≡ done
    order_by_is = (λ i. knows_told i ++ still_lists i) ∙ l.all.1

    -- where there is a place for one more, all that it delivered and that one have places
    pub has_place_for : has_place (order_by t g k) ≡ true → length done + 1 ≤ MAX_POSITION
    has_place_for e =
        let lt = ltb-true (length (order_by t g k)) MAX_POSITION e in
        let same = ap length order_by_is in
        omega (arith, lt, same)

-- A delivery

-- a frozen group in which no Install waits delivers nothing
pub is_open : (t : State) (k : ℕ) (m : Message) → StopsIn m.id.group → is_ready_for t k m ≡ true → is_pending (t.group m.id.group) ≡ false →
    (t.group m.id.group).frozen ≡ false
is_open t k m stops ready waits = go (t.group m.id.group).frozen refl (t.group m.id.group).pending refl
  where
    gate : is_open_to (gate_of t m.id.group) (entry_of m.id) ≡ true
    gate =
        let a = and_parts (is_causally_ready t.config.groups (gate_of t) (t.process k) m) _ ready in
        let b = and_parts (is_member ((t.process k).standing m.id.group)) _ a.0 in
        let c = and_parts (m.id.view == (t.group m.id.group).number) _ b.1 in
        (and_parts (is_open_to (gate_of t m.id.group) (entry_of m.id)) _ c.1).0

    go : (b : Bool) → (t.group m.id.group).frozen ≡ b → (o : Option Pending) → (t.group m.id.group).pending ≡ o →
        (t.group m.id.group).frozen ≡ false
    go false e o is = e
    go true e None is =
        absurd (false≢true (sym (λ i. not (e i)
        || is_cut_by (elim (is i) as (λ x. Option CountList) [ Some p ↦ Some p.cut | None ↦ None ]) (entry_of m.id)) ∙ gate))
    go true e (Some p) is =
        absurd (true≢false (sym (ap (λ (o : Option Pending). elim o as (λ x. Bool) [ Some q ↦ true | None ↦ false ]) is) ∙ waits))

module _ (t : State) (k : ℕ) (m : Message) (waits : WaitsForTurn m) (ready : is_ready_for t k m ≡ true)
    (atomic : is_atomic (kind_of m.body) ≡ true) where
  abbrev g : GroupNo
  g = m.id.group

  pub has_its_turn : has_turn (turn_of t k g) (entry_of m.id) ≡ true
  has_its_turn =
      sym (ap (λ b. not b || has_turn (turn_of t k g) (entry_of m.id)) atomic)
      ∙ (and_parts (is_causally_ready t.config.groups (gate_of t) (t.process k) m) _ ready).1

  entry_is : (o : Option Entry) (e : Entry) → has_turn (Following o) e ≡ true → o ≡ Some e
  entry_is None e is = absurd (false≢true is)
  entry_is (Some n) e is = ap (λ z. Some z) (sym (same_entry e n is))

  -- who tells the order has room for it
  pub has_room : holds t g k ≡ true → (t.group g).frozen ≡ false → has_place (order_by t g k) ≡ true
  has_room held open_it =
      let turn : turn_of t k g ≡ Holding (has_room_for_order t g k) =
      λ i. if held i && not (open_it i) then Holding (has_room_for_order t g k)
      else Following (next_of (λ e. has_delivered (t.process k) (uid_in g (t.group g).number e)) (order_of t g)) in
      let room : has_room_for_order t g k ≡ true = sym (ap (λ z. has_turn z (entry_of m.id)) turn) ∙ has_its_turn in
      (and_parts _ (has_place (order_by t g k)) (and_parts (may_order history t) _ room).1).1

  -- and few of what it delivered is unsettled
  pub has_few : holds t g k ≡ true → (t.group g).frozen ≡ false → length (unsettled_ids t g k) + 1 ≤ MAX_UNSETTLED
  has_few held open_it =
      let turn : turn_of t k g ≡ Holding (has_room_for_order t g k) =
      λ i. if held i && not (open_it i) then Holding (has_room_for_order t g k)
      else Following (next_of (λ e. has_delivered (t.process k) (uid_in g (t.group g).number e)) (order_of t g)) in
      let room : has_room_for_order t g k ≡ true = sym (ap (λ z. has_turn z (entry_of m.id)) turn) ∙ has_its_turn in
      let lt =
      ltb-true (length (unsettled_ids t g k))
      MAX_UNSETTLED (and_parts (nat_lt (length (unsettled_ids t g k)) MAX_UNSETTLED) _ (and_parts (may_order history t) _ room).1).0 in
      omega (arith, lt)

  -- who does not delivers what stands next
  pub is_next : holds t g k ≡ false →
      next_of (λ e. has_delivered (t.process k) (uid_in g (t.group g).number e)) (order_of t g) ≡ Some (entry_of m.id)
  is_next other =
      let next : Option Entry = next_of (λ e. has_delivered (t.process k) (uid_in g (t.group g).number e)) (order_of t g) in
      let turn : turn_of t k g ≡ Following next =
      ap (λ b. if b && not (t.group g).frozen then Holding (has_room_for_order t g k) else Following next) other in
      entry_is next (entry_of m.id) (sym (ap (λ z. has_turn z (entry_of m.id)) turn) ∙ has_its_turn)

  -- so does anyone in a frozen group
  pub is_next_frozen : (t.group g).frozen ≡ true →
      next_of (λ e. has_delivered (t.process k) (uid_in g (t.group g).number e)) (order_of t g) ≡ Some (entry_of m.id)
  is_next_frozen frozen =
      let next : Option Entry = next_of (λ e. has_delivered (t.process k) (uid_in g (t.group g).number e)) (order_of t g) in
      let turn : turn_of t k g ≡ Following next =
      ap (λ b. if b then Holding (has_room_for_order t g k) else Following next) (never (holds t g k) frozen) in
      entry_is next (entry_of m.id) (sym (ap (λ z. has_turn z (entry_of m.id)) turn) ∙ has_its_turn)
    where
      never : (b : Bool) → (t.group m.id.group).frozen ≡ true → (b && not (t.group m.id.group).frozen) ≡ false
      never true e = ap not e
      never false e = refl
