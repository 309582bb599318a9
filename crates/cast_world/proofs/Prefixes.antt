-- Lists that begin alike, and orders that are known in part.
-- An order is a list of entries, and facts tell which entry stands at which place. `known_begins`
-- says that facts that stand in an order tell a prefix of it; `known_whole` says that they tell
-- all of it where each place is told. `next_begins` says that who delivers the next of what it
-- knows has delivered a prefix still. Two prefixes of one order are comparable (`comparable`), and
-- no entry stands twice in it.
use Rattle.std.proofs.Common.{ap, append_assoc, arith, inl, inr, subst, sym, ◌∙◌}
use Rattle.std.proofs.lemmas.Bool.{eq-eqb, eqb-true, true≢false}
use Rattle.std.proofs.lemmas.List.Elements.{Contains-append_cases, Contains-append_left, Contains-append_right}
use Rattle.std.proofs.lemmas.List.{append-nil, length-append, length_push}
use Rattle.std.specs.List.{enumerate_from, find, flat_map}
use Rattle.std.specs.Option.{option_map}
use Rattle.std.specs.Prelude.{◌+◌, ◌++◌, ◌<◌, ◌==◌, Bool, Contains, List, None, Option, Some, [], cond, false}
use Rattle.std.specs.Prelude.{if◌then◌else◌, is_some, length, not, refl, suc, true, zero, ℕ, ◌∷◌, ◌≡◌, ◌≤◌, ◌⊎◌}
use Rattle.cast_order.specs.Order.{Facts, known_order, next_of, order_from}
use Rattle.cast_types.specs.Names.{Entry}
use Rattle.cast_types.specs.declared.limits.TheConstants.{MAX_POSITION}
use Rattle.cast_world.proofs.Allowed.{contains_more}
use Rattle.cast_world.proofs.Keeps.{found_is}
use Rattle.cast_world.proofs.Lists.{head_or, tail_of}
use Rattle.cast_world.proofs.Orders.{Apart, Stands}
use Rattle.cast_world.specs.Agreement.{IsPrefix}

some_or : {X : Type 0} → X → Option X → X
some_or d None = d
some_or d (Some x) = x

count_some : Option Entry → ℕ
count_some None = 0
count_some (Some x) = 1

none_some : (e : Entry) → ◌≡◌ {A = Option Entry} None (Some e) → ⊥
unfolding count_some
none_some e n = let z = ap count_some n in omega (arith, z)

no_nil : {X : Type 0} (x : X) (xs : List X) → x ∷ xs ≡ [] → ⊥
no_nil x xs e = let n = ap length e in omega (arith, n)

pub prefix_trans : {X : Type 0} (xs ys zs : List X) → IsPrefix xs ys → IsPrefix ys zs → IsPrefix xs zs
prefix_trans xs ys zs p q = (p.0 ++ q.0, sym (append_assoc xs p.0 q.0) ∙ ap (λ l. l ++ q.0) p.1 ∙ q.1)

-- two that begin one list
pub comparable : {X : Type 0} (xs ys zs : List X) → IsPrefix xs zs → IsPrefix ys zs → IsPrefix xs ys ⊎ IsPrefix ys xs
unfolding head_or tail_of
comparable [] ys zs p q = inl (ys, refl)
comparable (x ∷ xs) [] zs p q = inr (x ∷ xs, refl)
comparable (x ∷ xs) (y ∷ ys) [] p q = absurd (no_nil x (xs ++ p.0) p.1)
comparable (x ∷ xs) (y ∷ ys) (z ∷ zs) p q =
    let same : x ≡ y = ap (head_or x) p.1 ∙ sym (ap (head_or x) q.1) in
    elim (comparable xs ys zs (p.0, ap tail_of p.1) (q.0, ap tail_of q.1)) [
      | inl r ↦ inl (r.0, λ i. same i ∷ r.1 i)
      | inr r ↦ inr (r.0, λ i. sym same i ∷ r.1 i)
    ]

-- one list parted at one place in two ways
pub same_rest : {X : Type 0} (a b c d : List X) → a ++ b ≡ c ++ d → length a ≡ length c → b ≡ d
unfolding tail_of
same_rest [] b [] d e n = e
same_rest [] b (z ∷ c) d e n = absurd (omega (arith, n))
same_rest (x ∷ a) b [] d e n = absurd (omega (arith, n))
same_rest (x ∷ a) b (z ∷ c) d e n = same_rest a b c d (ap tail_of e) (omega (arith, n))

pub finds : (place : ℕ) (e : Entry) (xs : Facts) → Contains xs (place, e) → find (λ (f : ℕ × Entry). f.0 == place) xs ≡ None → ⊥
finds place e [] at none = absurd (omega (arith, at.1))
finds place e (f ∷ xs) at none = go (f.0 == place) refl none at (finds place e xs)
  where
    go : (b : Bool) → (f.0 == place) ≡ b → cond b (Some f) (find (λ (x : ℕ × Entry). x.0 == place) xs) ≡ None →
        Contains (f ∷ xs) (place, e) →
        (Contains xs (place, e) → find (λ (x : ℕ × Entry). x.0 == place) xs ≡ None → ⊥) → ⊥
    go true same is there more = true≢false (ap is_some is)
    go false other is (zero, lt, here) more = true≢false (sym (eq-eqb f.0 place (ap (λ (x : ℕ × Entry). x.0) here)) ∙ other)
    go false other is (suc n, lt, there) more = more (n, omega (arith, lt), there) is

-- facts that stand in an order tell a prefix of it
module _ (order : List Entry) (facts : Facts) (stand : (f : ℕ × Entry) → Contains facts f → Stands order f) where
  -- a fact that is found for a place has the id that stands there
  pub found_rest : (a b : List Entry) (place : ℕ) → place ≡ length a + 1 → order ≡ a ++ b → (f : ℕ × Entry) →
      find (λ (x : ℕ × Entry). x.0 == place) facts ≡ Some f → (c : List Entry) × (b ≡ f.1 ∷ c)
  found_rest a b place at e f some =
      let found = found_is (λ (x : ℕ × Entry). x.0 == place) facts f some in
      let s = stand f found.1 in
      let here : f.0 ≡ place = eqb-true f.0 place found.0 in
      let there = s.3 in
      (s.1, same_rest a b s.0 (f.1 ∷ s.1) (sym e ∙ s.2) (omega (arith, here, there, at)))

  from_place : (n : ℕ) (a b : List Entry) (place : ℕ) → place ≡ length a + 1 → order ≡ a ++ b → IsPrefix (order_from n place facts) b
  from_place zero a b place at e = (b, refl)
  from_place (suc n) a b place at e = go (from_place n) (find (λ f. f.0 == place) facts) refl
    where
      go : ((x y : List Entry) (later : ℕ) → later ≡ length x + 1 → order ≡ x ++ y → IsPrefix (order_from n later facts) y) →
          (o : Option (ℕ × Entry)) → find (λ f. f.0 == place) facts ≡ o →
          IsPrefix (elim (option_map (λ (f : ℕ × Entry). f.1) o)
          as (λ x. List Entry) [ Some i ↦ i ∷ order_from n (place + 1) facts | None ↦ [] ]) b
      go next None none = (b, refl)
      go next (Some f) some =
          let rest = found_rest a b place at e f some in
          let long = length_push a f.1 in
          let more =
          next (a ++ f.1 ∷ []) rest.0 (place + 1) (omega (arith, long, at))
          (e ∙ ap (λ l. a ++ l) rest.1 ∙ sym (append_assoc a (f.1 ∷ []) rest.0)) in
          (more.0, ap (λ l. f.1 ∷ l) more.1 ∙ sym rest.1)

  pub known_begins : IsPrefix (known_order facts) order
  unfolding known_order
  known_begins = from_place MAX_POSITION [] order 1 refl refl

  -- and all of it, where they tell each place
  module _ (all : (a c : List Entry) (e : Entry) → order ≡ a ++ e ∷ c → Contains facts (length a + 1, e)) where
    pub whole_from : (n : ℕ) (a b : List Entry) (place : ℕ) → place ≡ length a + 1 → order ≡ a ++ b → length b ≤ n →
        order_from n place facts ≡ b
    unfolding head_or
    whole_from zero a [] place at e few = refl
    whole_from zero a (x ∷ b) place at e few = absurd (omega (arith, few))
    whole_from (suc n) a [] place at e few = go (find (λ f. f.0 == place) facts) refl
      where
        go : (o : Option (ℕ × Entry)) → find (λ f. f.0 == place) facts ≡ o →
            elim (option_map (λ (f : ℕ × Entry). f.1) o) as (λ x. List Entry) [ Some i ↦ i ∷ order_from n (place + 1) facts | None ↦ [] ]
            ≡ []
        go None none = refl
        go (Some f) some = let rest = found_rest a [] place at e f some in absurd (no_nil f.1 rest.0 (sym rest.1))
    whole_from (suc n) a (x ∷ b) place at e few =
        let long = length_push a x in
        go (find (λ f. f.0 == place) facts) refl
        (whole_from n (a ++ x ∷ []) b (place + 1) (omega (arith, long, at)) (e ∙ sym (append_assoc a (x ∷ []) b)) (omega (arith, few)))
      where
        go : (o : Option (ℕ × Entry)) → find (λ f. f.0 == place) facts ≡ o → order_from n (place + 1) facts ≡ b →
            elim (option_map (λ (f : ℕ × Entry). f.1) o) as (λ x. List Entry) [ Some i ↦ i ∷ order_from n (place + 1) facts | None ↦ [] ]
            ≡ x ∷ b
        go None none more = absurd (finds place x facts (subst (λ p. Contains facts (p, x)) (sym at) (all a b x e)) none)
        go (Some f) some more =
            let rest = found_rest a (x ∷ b) place at e f some in
            let first : x ≡ f.1 = ap (head_or x) rest.1 in
            λ i. sym first i ∷ more i

    pub known_whole : length order ≤ MAX_POSITION → known_order facts ≡ order
    unfolding known_order
    known_whole few = whole_from MAX_POSITION [] order 1 refl refl few

-- where facts tell the first places of an order, what they tell reaches as far
module _ (order : List Entry) (facts : Facts) (stand : (f : ℕ × Entry) → Contains facts f → Stands order f) (done : List Entry)
    (begins : IsPrefix done order)
    (all : (a c : List Entry) (e : Entry) → order ≡ a ++ e ∷ c → length a < length done → Contains facts (length a + 1, e)) where
  reaches_from : (n : ℕ) (a b : List Entry) (place : ℕ) → place ≡ length a + 1 → done ≡ a ++ b → length b ≤ n →
      IsPrefix b (order_from n place facts)
  unfolding head_or
  reaches_from n a [] place at e few = (order_from n place facts, refl)
  reaches_from zero a (x ∷ b) place at e few = absurd (omega (arith, few))
  reaches_from (suc n) a (x ∷ b) place at e few =
      let long = length_push a x in
      go (find (λ f. f.0 == place) facts) refl
      (reaches_from n (a ++ x ∷ []) b (place + 1) (omega (arith, long, at)) (e ∙ sym (append_assoc a (x ∷ []) b)) (omega (arith, few)))
    where
      whole : order ≡ a ++ x ∷ (b ++ begins.0)
      whole = sym begins.1 ∙ ap (λ l. l ++ begins.0) e ∙ append_assoc a (x ∷ b) begins.0

      inside : length a < length done
      inside = let n_is = ap length e in let parts = length-append a (x ∷ b) in omega (arith, n_is, parts)

      go : (o : Option (ℕ × Entry)) → find (λ f. f.0 == place) facts ≡ o → IsPrefix b (order_from n (place + 1) facts) →
          IsPrefix (x ∷ b) (elim (option_map (λ (f : ℕ × Entry). f.1) o)
          as (λ z. List Entry) [ Some i ↦ i ∷ order_from n (place + 1) facts | None ↦ [] ])
      go None none more =
          absurd (finds place x facts (subst (λ p. Contains facts (p, x)) (sym at) (all a (b ++ begins.0) x whole inside)) none)
      go (Some f) some more =
          let rest = found_rest order facts stand a (x ∷ (b ++ begins.0)) place at whole f some in
          let first : x ≡ f.1 = ap (head_or x) rest.1 in
          (more.0, λ i. first i ∷ more.1 i)

  pub known_reaches : length done ≤ MAX_POSITION → IsPrefix done (known_order facts)
  unfolding known_order
  known_reaches few = reaches_from MAX_POSITION [] done 1 refl refl few

-- each place of what is known was told
places_from : (facts : Facts) (n place : ℕ) (a c : List Entry) (e : Entry) → order_from n place facts ≡ a ++ e ∷ c →
    Contains facts (place + length a, e)
unfolding head_or tail_of
places_from facts zero place a c e is = absurd (nothing_before a c e is)
  where
    nothing_before : (a c : List Entry) (e : Entry) → [] ≡ a ++ e ∷ c → ⊥
    nothing_before [] c e is = no_nil e c (sym is)
    nothing_before (z ∷ a) c e is = no_nil z (a ++ e ∷ c) (sym is)
places_from facts (suc n) place a c e is = go (find (λ f. f.0 == place) facts) refl is (places_from facts n (place + 1))
  where
    at_place : (f : ℕ × Entry) → find (λ (x : ℕ × Entry). x.0 == place) facts ≡ Some f → (rest b d : List Entry) (x : Entry) →
        f.1 ∷ rest ≡ b ++ x ∷ d → ((b d : List Entry) (x : Entry) → rest ≡ b ++ x ∷ d → Contains facts (place + 1 + length b, x)) →
        Contains facts (place + length b, x)
    at_place f some rest [] d x is more =
        let found = found_is (λ (y : ℕ × Entry). y.0 == place) facts f some in
        let here : f.0 ≡ place = eqb-true f.0 place found.0 in
        let first : f.1 ≡ x = ap (head_or x) is in
        let zero_more : place + length {A = Entry} [] ≡ place = omega arith in
        subst (λ (y : ℕ × Entry). Contains facts y) (λ i. ((here ∙ sym zero_more) i, first i)) found.1
    at_place f some rest (z ∷ b) d x is more =
        let shift : place + 1 + length b ≡ place + length (z ∷ b) = omega arith in
        subst (λ p. Contains facts (p, x)) shift (more b d x (ap tail_of is))

    go : (o : Option (ℕ × Entry)) → find (λ f. f.0 == place) facts ≡ o → elim (option_map (λ (f : ℕ × Entry). f.1) o)
        as (λ z. List Entry) [ Some i ↦ i ∷ order_from n (place + 1) facts | None ↦ [] ] ≡ a ++ e ∷ c →
        ((b d : List Entry) (x : Entry) → order_from n (place + 1) facts ≡ b ++ x ∷ d → Contains facts (place + 1 + length b, x)) →
        Contains facts (place + length a, e)
    go None none nil_is more = absurd (empty_not a c e nil_is)
      where
        empty_not : (a c : List Entry) (e : Entry) → [] ≡ a ++ e ∷ c → ⊥
        empty_not [] c e is = no_nil e c (sym is)
        empty_not (z ∷ a) c e is = no_nil z (a ++ e ∷ c) (sym is)
    go (Some f) some whole more = at_place f some (order_from n (place + 1) facts) a c e whole more

pub known_places : (facts : Facts) (a c : List Entry) (e : Entry) → known_order facts ≡ a ++ e ∷ c → Contains facts (length a + 1, e)
unfolding known_order
known_places facts a c e is =
    subst (λ p. Contains facts (p, e)) (let same : 1 + length a ≡ length a + 1 = omega arith in same)
    (places_from facts MAX_POSITION 1 a c e is)

-- who has delivered a prefix, and has not delivered something that is known, knows more than it delivered
pub knows_beyond : (has : Entry → Bool) (done known order : List Entry) (e : Entry) → IsPrefix done order → IsPrefix known order →
    ((x : Entry) → Contains done x → has x ≡ true) → next_of has known ≡ Some e → length done < length known
unfolding some_or
knows_beyond has done known order e d k listed next = elim (comparable done known order d k) [
  | inl p ↦ beyond p.0 p.1
  | inr p ↦
      absurd
      (none_some e (sym (none_left known (λ x at. listed x (subst (λ l. Contains l x) p.1 (Contains-append_left known p.0 x at)))) ∙ next))
]
  where
    none_left : (xs : List Entry) → ((x : Entry) → Contains xs x → has x ≡ true) → next_of has xs ≡ None
    none_left [] all = refl
    none_left (x ∷ xs) all =
        ap (λ b. if not b then Some x else next_of has xs) (all x (0, omega arith, refl))
        ∙ none_left xs (λ y at. all y (contains_more x xs y at))

    beyond : (rest : List Entry) → done ++ rest ≡ known → length done < length known
    beyond [] is =
        absurd
        (none_some e (sym (none_left known (λ x at. listed x (subst (λ l. Contains l x) (sym (sym (append-nil done) ∙ is)) at))) ∙ next))
    beyond (x ∷ rest) is = let whole = ap length is in let parts = length-append done (x ∷ rest) in omega (arith, whole, parts)

-- who delivered a prefix of an order, and delivers what stands next in the part that it knows, delivered one more of it
pub next_begins : (has : Entry → Bool) (done known order : List Entry) (e : Entry) → Apart order → IsPrefix done order →
    IsPrefix known order →
    ((x : Entry) → Contains done x → has x ≡ true) → ((x : Entry) → Contains order x → has x ≡ true → Contains done x) →
    next_of has known ≡ Some e → IsPrefix (done ++ e ∷ []) order
unfolding head_or tail_of some_or
next_begins has done [] order e apart d k listed only next = absurd (none_some e next)
next_begins has done (x ∷ known) [] e apart d k listed only next = absurd (no_nil x (known ++ k.0) k.1)
next_begins has [] (x ∷ known) (y ∷ order) e apart d k listed only next = go (has x) refl
  where
    same : x ≡ y
    same = ap (head_or x) k.1

    go : (b : Bool) → has x ≡ b → IsPrefix (e ∷ []) (y ∷ order)
    go true is = absurd (let c = only x (0, omega arith, sym same) is in omega (arith, c.1))
    go false is = (order, ap (λ z. z ∷ order) (sym (ap (some_or e) (sym (find_first is) ∙ next)) ∙ same))
      where
        find_first : has x ≡ false → next_of has (x ∷ known) ≡ Some x
        find_first f = ap (λ b. if not b then Some x else next_of has known) f
next_begins has (z ∷ done) (x ∷ known) (y ∷ order) e apart d k listed only next =
    let first : z ≡ y = ap (head_or z) d.1 in
    let same : x ≡ y = ap (head_or x) k.1 in
    let had : has x ≡ true = listed x (0, omega arith, first ∙ sym same) in
    let more =
    next_begins has done known order e apart.1 (d.0, ap tail_of d.1) (k.0, ap tail_of k.1)
    (λ u at. listed u (suc at.0, omega (arith, at.1), at.2))
    (λ u at is. older u first at (only u (suc at.0, omega (arith, at.1), at.2) is))
    (sym (ap (λ b. if not b then Some x else next_of has known) had) ∙ next) in
    (more.0, λ i. first i ∷ more.1 i)
  where
    older : (u : Entry) → z ≡ y → Contains order u → Contains (z ∷ done) u → Contains done u
    older u first at (zero, lt, is) = absurd (apart.0 (subst (Contains order) (sym is ∙ first) at))
    older u first at (suc n, lt, is) = (n, omega (arith, lt), is)

-- a place in a list that is followed by another: in the first, or in the second
pub place_in : {X : Type 0} (xs ys a c : List X) (e : X) → xs ++ ys ≡ a ++ e ∷ c →
    ((d : List X) × (xs ≡ a ++ e ∷ d)) ⊎ ((b : List X) × (a ≡ xs ++ b) × (ys ≡ b ++ e ∷ c))
unfolding head_or tail_of
place_in [] ys a c e is = inr (a, refl, is)
place_in (x ∷ xs) ys [] c e is = let first : x ≡ e = ap (head_or x) is in inl (xs, λ i. first i ∷ xs)
place_in (x ∷ xs) ys (z ∷ a) c e is =
    let first : x ≡ z = ap (head_or x) is in
    elim (place_in xs ys a c e (ap tail_of is)) [
      | inl r ↦ inl (r.0, λ i. first i ∷ r.1 i)
      | inr r ↦ inr (r.0, (λ i. sym first i ∷ r.1 i), r.2)
    ]

pub stands_grown : (order next : List Entry) (f : ℕ × Entry) → IsPrefix order next → Stands order f → Stands next f
stands_grown order next f p (a, c, e, at) = (a, c ++ p.0, sym p.1 ∙ ap (λ l. l ++ p.0) e ∙ append_assoc a (f.1 ∷ c) p.0, at)

-- Facts that a message tells

told_from : (a ids c : List Entry) (place : ℕ) → place ≡ length a + 1 → (f : ℕ × Entry) → Contains (enumerate_from place ids) f →
    Stands (a ++ (ids ++ c)) f
told_from a [] c place at f (n, lt, is) = absurd (omega (arith, lt))
told_from a (e ∷ ids) c place at f (zero, lt, is) =
    (a, ids ++ c, ap (λ (x : ℕ × Entry). a ++ x.1 ∷ (ids ++ c)) is, ap (λ (x : ℕ × Entry). x.0) (sym is) ∙ at)
told_from a (e ∷ ids) c place at f (suc n, lt, is) =
    let long = length_push a e in
    subst (λ l. Stands l f) (append_assoc a (e ∷ []) (ids ++ c))
    (told_from (a ++ e ∷ []) ids c (place + 1) (omega (arith, long, at)) f (n, omega (arith, lt), is))

-- what is told one past an order stands in the order with it
pub told_stand : (order ids : List Entry) (f : ℕ × Entry) → Contains (enumerate_from (length order + 1) ids) f → Stands (order ++ ids) f
told_stand order ids f at = subst (λ l. Stands (order ++ l) f) (append-nil ids) (told_from order ids [] (length order + 1) refl f at)

-- each id is told at its place
pub told_at : (a c : List Entry) (e : Entry) (place : ℕ) → Contains (enumerate_from place (a ++ e ∷ c)) (place + length a, e)
told_at [] c e place = (0, omega arith, λ i. (same i, e))
  where
    same : place ≡ place + 0
    same = omega arith
told_at (x ∷ a) c e place = contains_more (place, x) (enumerate_from (place + 1) (a ++ e ∷ c)) (place + length (x ∷ a), e)
    (subst (λ p. Contains (enumerate_from (place + 1) (a ++ e ∷ c)) (p, e)) same (told_at a c e (place + 1)))
  where
    same : place + 1 + length a ≡ place + length (x ∷ a)
    same = omega arith

pub in_flat : {X Y : Type 0} (g : X → List Y) (xs : List X) (y : Y) → Contains (flat_map g xs) y →
    (x : X) × Contains xs x × Contains (g x) y
in_flat g [] y at = absurd (omega (arith, at.1))
in_flat g (x ∷ xs) y at = elim (Contains-append_cases (g x) (flat_map g xs) y at) [
  | inl here ↦ (x, (0, omega arith, refl), here)
  | inr later ↦ (let r = in_flat g xs y later in (r.0, (suc r.1.0, omega (arith, r.1.1), r.1.2), r.2))
]

pub flat_has : {X Y : Type 0} (g : X → List Y) (xs : List X) (x : X) (y : Y) → Contains xs x → Contains (g x) y → Contains (flat_map g xs) y
flat_has g [] x y at there = absurd (omega (arith, at.1))
flat_has g (z ∷ xs) x y (zero, lt, is) there = Contains-append_left (g z) (flat_map g xs) y (subst (λ w. Contains (g w) y) (sym is) there)
flat_has g (z ∷ xs) x y (suc n, lt, is) there =
    Contains-append_right (g z) (flat_map g xs) y (flat_has g xs x y (n, omega (arith, lt), is) there)

-- Lists in which nothing stands twice

pub apart_first : {X : Type 0} (xs ys : List X) → Apart (xs ++ ys) → Apart xs
apart_first [] ys a = tt
apart_first (x ∷ xs) ys a = ((λ at. a.0 (Contains-append_left xs ys x at)), apart_first xs ys a.1)

pub apart_both : {X : Type 0} (xs ys : List X) → Apart (xs ++ ys) → (x : X) → Contains xs x → Contains ys x → ⊥
apart_both [] ys a x one two = absurd (omega (arith, one.1))
apart_both (z ∷ xs) ys a x (zero, lt, is) two = a.0 (subst (Contains (xs ++ ys)) (sym is) (Contains-append_right xs ys x two))
apart_both (z ∷ xs) ys a x (suc n, lt, is) two = apart_both xs ys a.1 x (n, omega (arith, lt), is) two

only_one : {X : Type 0} (u v : X) → Contains (u ∷ []) v → u ≡ v
only_one u v (zero, lt, is) = is
only_one u v (suc n, lt, is) = absurd (omega (arith, lt))

pub apart_more : {X : Type 0} (xs : List X) (x : X) → Apart xs → (Contains xs x → ⊥) → Apart (xs ++ x ∷ [])
apart_more [] x a none = ((λ at. absurd (omega (arith, at.1))), tt)
apart_more (y ∷ xs) x a none = (
  (λ at. elim (Contains-append_cases xs (x ∷ []) y at) [ inl old ↦ a.0 old | inr new ↦ none (0, omega arith, sym (only_one x y new)) ]),
  apart_more xs x a.1 (λ at. none (contains_more y xs x at)),
)
