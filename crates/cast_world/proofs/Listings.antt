-- The ABCASTs of a view among all that a process delivered, and those of them that it has still to list.
use Rattle.cast_types.proofs.Orders.{entry_itself, same_entry, same_group, uid_itself}
use Rattle.std.proofs.Common.{ap, arith, subst, sym, ◌∙◌}
use Rattle.std.proofs.lemmas.Bool.{and_parts, eqb-true, false_from_ne_true, false≢true}
use Rattle.std.proofs.lemmas.List.Elements.{filter-append}
use Rattle.std.proofs.lemmas.List.{append-nil, map-append}
use Rattle.std.specs.Prelude.{◌++◌, ◌==◌, Bool, Contains, List, [], cond, false, filter, map, not, refl, suc, true, zero, ◌||◌, ℕ, ◌∷◌, ◌≡◌}
use Rattle.cast_rules.specs.Acts.{Act}
use Rattle.cast_rules.specs.Acts.Act.{Delivered, Entered, Left, Sent}
use Rattle.cast_rules.specs.Noted.{abcasts_by}
use Rattle.cast_message.specs.Bodies.{kind_of}
use Rattle.cast_message.specs.declared.message.Message.{Message}
use Rattle.cast_order.specs.Order.{still_to_list}
use Rattle.cast_types.specs.Names.{Entry, entry_eq, entry_of, group_eq, is_atomic, uid_in, uid_eq}
use Rattle.cast_types.specs.Sets.{is_among}
use Rattle.cast_types.specs.declared.names.GroupNo.{GroupNo}
use Rattle.cast_types.specs.declared.names.Uid.{Uid}
use Rattle.cast_world.proofs.Acts.{contains_here}
use Rattle.cast_world.proofs.Allowed.{contains_kept, contains_mapped, contains_more, passed}
use Rattle.cast_world.proofs.Homes.{among_kept}
use Rattle.cast_world.proofs.Lists.{contains_split}
use Rattle.cast_world.proofs.Orders.{Apart, done_in}
use Rattle.cast_world.proofs.Prefixes.{apart_both}
use Rattle.cast_world.proofs.Runs.{from_mapped}
use Rattle.cast_world.specs.Agreement.{is_in}

-- Of a view

pub parts_of_id : (g : GroupNo) (v : ℕ) (u : Uid) → is_in g v u ≡ true → (u.group ≡ g) × (u.view ≡ v)
parts_of_id g v u e = let two = and_parts (group_eq u.group g) (u.view == v) e in (same_group u.group g two.0, eqb-true u.view v two.1)

pub name_is : (g : GroupNo) (v : ℕ) (u : Uid) → is_in g v u ≡ true → uid_in g v (entry_of u) ≡ u
name_is g v u e = let two = parts_of_id g v u e in λ i. record { group = sym two.0 i; view = sym two.1 i; proc = u.proc; count = u.count }

pub done_named : (g : GroupNo) (v : ℕ) (us : List Uid) (e : Entry) → Contains (done_in g v us) e → Contains us (uid_in g v e)
done_named g v us e at =
    let from = from_mapped entry_of (filter (is_in g v) us) e at in
    let is : from.0 ≡ uid_in g v e = sym (name_is g v from.0 (passed (is_in g v) us from.0 from.1)) ∙ ap (uid_in g v) from.2 in
    subst (Contains us) is (among_kept (is_in g v) us from.0 from.1)

pub done_has : (g : GroupNo) (v : ℕ) (us : List Uid) (u : Uid) → Contains us u → is_in g v u ≡ true → Contains (done_in g v us) (entry_of u)
done_has g v us u at e = contains_mapped entry_of (filter (is_in g v) us) u (contains_kept (is_in g v) us u at e)

pub done_here : (g : GroupNo) (v : ℕ) (us : List Uid) (u : Uid) → is_in g v u ≡ true →
    done_in g v (us ++ u ∷ []) ≡ done_in g v us ++ entry_of u ∷ []
done_here g v us u e =
    ap (map entry_of) (filter-append (is_in g v) us (u ∷ []) ∙ ap (λ b. filter (is_in g v) us ++ cond b (u ∷ []) []) e)
    ∙ map-append entry_of (filter (is_in g v) us) (u ∷ [])

pub done_apart : (g : GroupNo) (v : ℕ) (us : List Uid) (u : Uid) → is_in g v u ≡ false → done_in g v (us ++ u ∷ []) ≡ done_in g v us
done_apart g v us u e =
    ap (map entry_of)
    (filter-append (is_in g v) us (u ∷ []) ∙ ap (λ b. filter (is_in g v) us ++ cond b (u ∷ []) []) e ∙ append-nil (filter (is_in g v) us))

pub done_none : (g : GroupNo) (v : ℕ) (us : List Uid) → ((u : Uid) → Contains us u → is_in g v u ≡ true → ⊥) → done_in g v us ≡ []
done_none g v [] none = refl
done_none g v (u ∷ us) none = go (is_in g v u) refl (done_none g v us (λ x at. none x (contains_more u us x at)))
  where
    go : (b : Bool) → is_in g v u ≡ b → done_in g v us ≡ [] → map entry_of (cond b (u ∷ filter (is_in g v) us) (filter (is_in g v) us)) ≡ []
    go true e more = absurd (none u (0, omega arith, refl) e)
    go false e more = more

pub apart_done : (g : GroupNo) (v : ℕ) (us : List Uid) → Apart us → Apart (done_in g v us)
apart_done g v [] a = tt
apart_done g v (u ∷ us) a = go (is_in g v u) refl (apart_done g v us a.1)
  where
    go : (b : Bool) → is_in g v u ≡ b → Apart (done_in g v us) →
        Apart (map entry_of (cond b (u ∷ filter (is_in g v) us) (filter (is_in g v) us)))
    go true e more = ((λ at. a.0 (subst (Contains us) (name_is g v u e) (done_named g v us (entry_of u) at))), more)
    go false e more = more

-- in the names that laws speak of
pub names_of : (g : GroupNo) (v : ℕ) (us : List Uid) → filter (is_in g v) us ≡ map (uid_in g v) (done_in g v us)
names_of g v [] = refl
names_of g v (u ∷ us) = go (is_in g v u) refl (names_of g v us)
  where
    go : (b : Bool) → is_in g v u ≡ b → filter (is_in g v) us ≡ map (uid_in g v) (done_in g v us) →
        cond b (u ∷ filter (is_in g v) us) (filter (is_in g v) us)
        ≡ map (uid_in g v) (map entry_of (cond b (u ∷ filter (is_in g v) us) (filter (is_in g v) us)))
    go true e more = λ i. sym (name_is g v u e) i ∷ more i
    go false e more = more

-- What is still to be listed

entry_among : (xs : List Entry) (e : Entry) → Contains xs e → is_among entry_eq e xs ≡ true
entry_among [] e at = absurd (omega (arith, at.1))
entry_among (x ∷ xs) e (zero, lt, is) = ap (λ b. b || is_among entry_eq e xs) (ap (entry_eq e) is ∙ entry_itself e)
entry_among (x ∷ xs) e (suc n, lt, is) = go (entry_eq e x) (entry_among xs e (n, omega (arith, lt), is))
  where
    go : (b : Bool) → is_among entry_eq e xs ≡ true → (b || is_among entry_eq e xs) ≡ true
    go true more = refl
    go false more = more

pub among_entry : (xs : List Entry) (e : Entry) → is_among entry_eq e xs ≡ true → Contains xs e
among_entry [] e is = absurd (false≢true is)
among_entry (x ∷ xs) e is = go (entry_eq e x) refl is (among_entry xs e)
  where
    go : (b : Bool) → entry_eq e x ≡ b → (b || is_among entry_eq e xs) ≡ true → (is_among entry_eq e xs ≡ true → Contains xs e) →
        Contains (x ∷ xs) e
    go true same all more = (0, omega arith, sym (same_entry e x same))
    go false other all more = contains_more x xs e (more all)

pub uid_among : (us : List Uid) (u : Uid) → Contains us u → is_among uid_eq u us ≡ true
uid_among [] u at = absurd (omega (arith, at.1))
uid_among (x ∷ us) u (zero, lt, is) = ap (λ b. b || is_among uid_eq u us) (ap (uid_eq u) is ∙ uid_itself u)
uid_among (x ∷ us) u (suc n, lt, is) = go (uid_eq u x) (uid_among us u (n, omega (arith, lt), is))
  where
    go : (b : Bool) → is_among uid_eq u us ≡ true → (b || is_among uid_eq u us) ≡ true
    go true more = refl
    go false more = more

keeps_none : {X : Type 0} (test : X → Bool) (xs : List X) → ((x : X) → Contains xs x → test x ≡ false) → filter test xs ≡ []
keeps_none test [] none = refl
keeps_none test (x ∷ xs) none =
    ap (λ b. cond b (x ∷ filter test xs) (filter test xs)) (none x (0, omega arith, refl))
    ∙ keeps_none test xs (λ y at. none y (contains_more x xs y at))

pub keeps_every : {X : Type 0} (test : X → Bool) (xs : List X) → ((x : X) → Contains xs x → test x ≡ true) → filter test xs ≡ xs
keeps_every test [] all = refl
keeps_every test (x ∷ xs) all =
    ap (λ b. cond b (x ∷ filter test xs) (filter test xs)) (all x (0, omega arith, refl))
    ∙ ap (λ l. x ∷ l) (keeps_every test xs (λ y at. all y (contains_more x xs y at)))

-- what follows an order is all that is not in it
pub still_is : (order rest : List Entry) → Apart (order ++ rest) → still_to_list (order ++ rest) order ≡ rest
still_is order rest apart =
    filter-append (λ e. not (is_among entry_eq e order)) order rest
    ∙ (λ i. keeps_none (λ e. not (is_among entry_eq e order)) order (λ e at. ap not (entry_among order e at)) i
    ++ keeps_every (λ e. not (is_among entry_eq e order)) rest
    (λ e at. ap not (false_from_ne_true (is_among entry_eq e order) (λ is. apart_both order rest apart e (among_entry order e is) at))) i)

-- What acts say

pub abcasts_append : (xs ys : List Act) → abcasts_by (xs ++ ys) ≡ abcasts_by xs ++ abcasts_by ys
abcasts_append [] ys = refl
abcasts_append (Sent m ∷ xs) ys = abcasts_append xs ys
abcasts_append (Delivered m ∷ xs) ys =
    elim (is_atomic (kind_of m.body)) as (λ b.
    cond b (m.id ∷ abcasts_by (xs ++ ys)) (abcasts_by (xs ++ ys)) ≡ cond b (m.id ∷ abcasts_by xs) (abcasts_by xs) ++ abcasts_by ys) [
      | true ↦ ap (λ us. m.id ∷ us) (abcasts_append xs ys)
      | false ↦ abcasts_append xs ys
    ]
abcasts_append (Entered g view cut ∷ xs) ys = abcasts_append xs ys
abcasts_append (Left g ∷ xs) ys = abcasts_append xs ys

-- an act that delivers no ABCAST
pub no_abcast : (xs : List Act) (a : Act) → abcasts_by (a ∷ []) ≡ [] → abcasts_by xs ≡ abcasts_by (xs ++ a ∷ [])
no_abcast xs a none = sym (append-nil (abcasts_by xs)) ∙ ap (λ us. abcasts_by xs ++ us) (sym none) ∙ sym (abcasts_append xs (a ∷ []))

-- an ABCAST that was delivered, and its message
pub abcast_of : (acts : List Act) (u : Uid) → Contains (abcasts_by acts) u →
    (m : Message) × Contains acts (Delivered m) × (m.id ≡ u) × (is_atomic (kind_of m.body) ≡ true)
abcast_of [] u at = absurd (omega (arith, at.1))
abcast_of (Sent m ∷ acts) u at = let r = abcast_of acts u at in (r.0, contains_more (Sent m) acts (Delivered r.0) r.1, r.2, r.3)
abcast_of (Delivered m ∷ acts) u at = go (is_atomic (kind_of m.body)) refl at (abcast_of acts u)
  where
    go : (b : Bool) → is_atomic (kind_of m.body) ≡ b → Contains (cond b (m.id ∷ abcasts_by acts) (abcasts_by acts)) u →
        (Contains (abcasts_by acts) u → (x : Message) × Contains acts (Delivered x) × (x.id ≡ u) × (is_atomic (kind_of x.body) ≡ true)) →
        (x : Message) × Contains (Delivered m ∷ acts) (Delivered x) × (x.id ≡ u) × (is_atomic (kind_of x.body) ≡ true)
    go true e (zero, lt, is) more = (m, (0, omega arith, refl), is, e)
    go true e (suc n, lt, is) more =
        let r = more (n, omega (arith, lt), is) in (r.0, contains_more (Delivered m) acts (Delivered r.0) r.1, r.2, r.3)
    go false e there more = let r = more there in (r.0, contains_more (Delivered m) acts (Delivered r.0) r.1, r.2, r.3)
abcast_of (Entered g view cut ∷ acts) u at =
    let r = abcast_of acts u at in (r.0, contains_more (Entered g view cut) acts (Delivered r.0) r.1, r.2, r.3)
abcast_of (Left g ∷ acts) u at = let r = abcast_of acts u at in (r.0, contains_more (Left g) acts (Delivered r.0) r.1, r.2, r.3)

-- and an ABCAST's message that was delivered
pub abcast_among : (acts : List Act) (m : Message) → Contains acts (Delivered m) → is_atomic (kind_of m.body) ≡ true →
    Contains (abcasts_by acts) m.id
abcast_among acts m at atomic =
    let s = contains_split acts (Delivered m) at in
    subst (λ l. Contains l m.id) (sym (ap abcasts_by s.2
    ∙ abcasts_append s.0 (Delivered m ∷ s.1)
    ∙ ap (λ b. abcasts_by s.0 ++ cond b (m.id ∷ abcasts_by s.1) (abcasts_by s.1)) atomic))
    (contains_here (abcasts_by s.0) (abcasts_by s.1) m.id)
