-- Frames that go with a map of their moments, and what is owed once keys are put in, taken out and
-- looked up.
-- `IsIndex` says that the map gives the moment of each frame in the list. `index_with`,
-- `index_paid` and `index_renewed` say that putting in a key, taking out keys and moving a key
-- keep it. Each key is in the list once at most, so that a key that changes is taken out and put
-- in, and all others are found as before. The last part finds the entries up to a key by a range
-- of the map (`between`), since keys that differ in their counts alone are ordered by these.
use Rattle.std.proofs.Common.{◌≡◌, ℕ, Bool, true, false, not, cond, ◌&&◌, ◌||◌, List, [], ◌∷◌, filter, Ordering}
use Rattle.std.proofs.Common.{Less, Equal, Greater, Option, Some, None, refl, sym, ap, ◌∙◌, inl, inr, arith}
use Rattle.std.specs.Prelude.{◌==◌, is_some, nat_le, ◌<◌, ◌≤◌}
use Rattle.std.specs.List.{list_any, list_all}
use Rattle.std.specs.Ordering.{is_eq, is_gt, is_le, is_lt, nat_cmp, ordering_then, ordering_reverse}
use Rattle.std.specs.BTreeMap.{is_at}
use Rattle.std.specs.BTreeMap.Range.{entries_between, range_contains}
use Rattle.std.specs.declared.ops.Bound.TheVariants.{Included}
use Rattle.std.specs.Map.{lookup}
use Rattle.std.proofs.lemmas.Bool.{and_parts, and_from, cases_Bool, eqb-true, eq-eqb, false_from_ne_true, false≢true, leb-true}
use Rattle.std.proofs.lemmas.Cmp.{tied_itself, by_ranked, ranked, nat_cmp_total}
use Rattle.std.proofs.lemmas.Option.{none-some}
use Rattle.cast_types.proofs.Orders.{group_total, proc_total, site_total}
use Rattle.cast_types.specs.Names.{site_cmp, group_cmp, proc_cmp}
use Rattle.cast_types.specs.Sets.{with_item}
use Rattle.cast_types.proofs.Rising.{rising-with_item, rising_kept, all_kept}
use Rattle.cast_timer.specs.declared.key.OwedKey.{OwedKey}
use Rattle.cast_timer.specs.declared.key.Owed.{Owed}
use Rattle.cast_timer.specs.Owed.{kind_rank, side_rank, key_cmp, owed_cmp, key_eq, is_owed, paid, is_upto, renew}
use Rattle.cast_timer.specs.Index.{frame_eq, has, due_of, IsIndex}
use Rattle.cast_timer.specs.contracts.key.OwedKeyOrd.TheImpl as keys
use Rattle.cast_timer.proofs.Derived.{key_order}
use Rattle.cast_timer.proofs.Orders.{owed_total, key_total}
use Rattle.cast_timer.proofs.Owing.{same_key, key_itself, tied_frame, tied_key, any_with}

-- frames that test equal are one
pub same_frame : (a b : Owed) → frame_eq a b ≡ true → a ≡ b
same_frame a b h =
    let parts = and_parts (a.due == b.due) (key_eq a.key b.key) h in
    let due = eqb-true a.due b.due parts.0 in
    let key = same_key a.key b.key parts.1 in
    λ i. record { due = due i; key = key i }

pub frame_itself : (a : Owed) → frame_eq a a ≡ true
frame_itself a = and_from (a.due == a.due) (key_eq a.key a.key) (eq-eqb a.due a.due refl) (key_itself a.key)

-- a test by an order is the test of equality
pub tests : (o : Ordering) (b : Bool) → (o ≡ Equal → b ≡ true) → (b ≡ true → o ≡ Equal) → is_eq o ≡ b
tests Less b to from = sym (false_from_ne_true b (λ h. cc (from h)))
tests Equal b to from = sym (to refl)
tests Greater b to from = sym (false_from_ne_true b (λ h. cc (from h)))

pub key_tests : (a b : OwedKey) → is_at (keys.cmp-value.it a) b ≡ key_eq a b
key_tests a b =
    ap is_eq (key_order a b)
    ∙ tests (key_cmp a b) (key_eq a b) (λ tie. ap (key_eq a) (sym (tied_key a b tie)) ∙ key_itself a)
    (λ h. ap (key_cmp a) (sym (same_key a b h)) ∙ tied_itself key_total a)

-- so a map is looked up by keys
pub looked_up : (key : OwedKey) (dues : List (OwedKey × ℕ)) → lookup (is_at (keys.cmp-value.it key)) dues ≡ due_of dues key
looked_up key [] = refl
looked_up key (e ∷ es) = λ i. cond (key_tests key e.0 i) (Some e.1) (looked_up key es i)

-- What is among frames

pub has_with : (x o : Owed) (os : List Owed) → has (with_item owed_cmp x os) o ≡ (frame_eq o x || has os o)
has_with x o os = any_with (frame_eq o) x os (λ p tie. ap (frame_eq o) (sym (tied_frame x p tie)))

-- a frame that passes a test is among those that do, if it was there, and no other is
pub has_kept : (keep : Owed → Bool) (o : Owed) (os : List Owed) → has (filter keep os) o ≡ (keep o && has os o)
has_kept keep o [] = none (keep o)
  where
    none : (b : Bool) → false ≡ (b && false)
    none true = refl
    none false = refl
has_kept keep o (p ∷ ps) = elim (cases_Bool (frame_eq o p)) [
  | inl this ↦
      let same : o ≡ p = same_frame o p this in
      elim (cases_Bool (keep p)) [
        | inl stay ↦
            let here : keep o ≡ true = ap keep same ∙ stay in
            ap (λ b. has (cond b (p ∷ filter keep ps) (filter keep ps)) o) stay
            ∙ ap (λ b. b || has (filter keep ps) o) this
            ∙ sym (ap (λ b. b && (frame_eq o p || has ps o)) here ∙ ap (λ b. b || has ps o) this)
        | inr goes ↦
            let here : keep o ≡ false = ap keep same ∙ goes in
            ap (λ b. has (cond b (p ∷ filter keep ps) (filter keep ps)) o) goes
            ∙ has_kept keep o ps
            ∙ ap (λ b. b && has ps o) here
            ∙ sym (ap (λ b. b && (frame_eq o p || has ps o)) here)
      ]
  | inr other ↦
      both (keep p) (keep o) (filter keep ps) (has_kept keep o ps) other
      ∙ sym (ap (λ b. keep o && (b || has ps o)) other)
]
  where
    both : (b c : Bool) (rest : List Owed) → has rest o ≡ (c && has ps o) → frame_eq o p ≡ false →
        has (cond b (p ∷ rest) rest) o ≡ (c && has ps o)
    both true c rest later other = ap (λ d. d || has rest o) other ∙ later
    both false c rest later other = later

-- two tests that agree on what is there keep the same
pub kept_alike : (keep other : Owed → Bool) (os : List Owed) → ((o : Owed) → has os o ≡ true → keep o ≡ other o) →
    filter keep os ≡ filter other os
kept_alike keep other [] alike = refl
kept_alike keep other (p ∷ ps) alike =
    let here = alike p (ap (λ b. b || has ps p) (frame_itself p)) in
    let rest = kept_alike keep other ps (λ o h. alike o (later (frame_eq o p) (has ps o) h)) in
    λ i. cond (here i) (p ∷ rest i) (rest i)
  where
    later : (a b : Bool) → b ≡ true → (a || b) ≡ true
    later true b h = refl
    later false b h = h

-- What keeps a map and the frames together

differs : (a b : ℕ) → a ≡ b → (b == a) ≡ true
differs a b e = eq-eqb b a (sym e)

same_some : (a b : ℕ) (m : Option ℕ) → m ≡ Some a → m ≡ Some b → a ≡ b
same_some a b m x y = cc

module _ (due : OwedKey → Option ℕ) (os : List Owed) (index : IsIndex due os) where
  -- a key that the map lacks is owed at no moment
  pub lacking : (key : OwedKey) → due key ≡ None → (o : Owed) → has os o ≡ true → key_eq key o.key ≡ false
  lacking key none o there =
      false_from_ne_true (key_eq key o.key) (λ h. none-some o.due (sym none ∙ ap due (same_key key o.key h) ∙ index.told o there))

  -- whether a key is owed is whether the map has it
  pub owed_by : (key : OwedKey) → is_some (due key) ≡ is_owed os key
  owed_by key = go (due key) refl
    where
      any : (o : Owed) (ps : List Owed) → has ps o ≡ true → is_owed ps o.key ≡ true
      any o [] h = absurd (false≢true h)
      any o (p ∷ ps) h = elim (cases_Bool (frame_eq o p)) [
        | inl this ↦ ap (λ b. b || is_owed ps o.key) (ap (λ (q : Owed). key_eq q.key o.key) (sym (same_frame o p this)) ∙ key_itself o.key)
        | inr other ↦ later (key_eq p.key o.key) (is_owed ps o.key) (any o ps (sym (ap (λ b. b || has ps o) other) ∙ h))
      ]
        where
          later : (a b : Bool) → b ≡ true → (a || b) ≡ true
          later true b h = refl
          later false b h = h

      nobody : (ps : List Owed) → ((o : Owed) → has ps o ≡ true → key_eq key o.key ≡ false) → is_owed ps key ≡ false
      nobody [] none = refl
      nobody (p ∷ ps) none =
          let here : key_eq p.key key ≡ false =
          false_from_ne_true (key_eq p.key key) (λ h.
          false≢true (sym (none p (ap (λ b. b || has ps p) (frame_itself p))) ∙ ap (key_eq key) (same_key p.key key h) ∙ key_itself key)) in
          ap (λ b. b || is_owed ps key) here ∙ nobody ps (λ o h. none o (later (frame_eq o p) (has ps o) h))
        where
          later : (a b : Bool) → b ≡ true → (a || b) ≡ true
          later true b h = refl
          later false b h = h

      go : (m : Option ℕ) → due key ≡ m → is_some m ≡ is_owed os key
      go None none = sym (nobody os (lacking key none))
      go (Some t) some = sym (any (record { due = t; key = key }) os (index.owes key t some))

  -- keys that pass a test are taken out of both
  pub index_paid : (test : OwedKey → Bool) (next : OwedKey → Option ℕ) → ((q : OwedKey) → next q ≡ cond (test q) None (due q)) →
      IsIndex next (paid test os)
  index_paid test next is = record {
    rising = rising_kept owed_cmp (λ o. not (test o.key)) os index.rising;
    told = λ o there.
        let parts = and_parts (not (test o.key)) (has os o) (sym (has_kept (λ p. not (test p.key)) o os) ∙ there) in
        is o.key ∙ stays_in (test o.key) (due o.key) parts.0 ∙ index.told o parts.1;
    owes = λ key t some.
        let parts = was (test key) (due key) t (sym (is key) ∙ some) in
        let o : Owed = record { due = t; key = key } in
        has_kept (λ p. not (test p.key)) o os ∙ and_from (not (test key)) (has os o) parts.0 (index.owes key t parts.1);
  }
    where
      stays_in : (b : Bool) (m : Option ℕ) → not b ≡ true → cond b None m ≡ m
      stays_in true m h = absurd (false≢true h)
      stays_in false m h = refl

      was : (b : Bool) (m : Option ℕ) (t : ℕ) → cond b None m ≡ Some t → (not b ≡ true) × (m ≡ Some t)
      was true m t h = absurd (none-some t h)
      was false m t h = (refl, h)

  -- a key that the map lacks is put in both
  pub index_with : (x : Owed) (next : OwedKey → Option ℕ) → due x.key ≡ None →
      ((q : OwedKey) → next q ≡ cond (key_eq x.key q) (Some x.due) (due q)) → IsIndex next (with_item owed_cmp x os)
  index_with x next none is = record {
    rising = rising-with_item owed_cmp owed_total x os index.rising;
    told = λ o there. told_of o (frame_eq o x) refl (sym (has_with x o os) ∙ there);
    owes = λ key t some. owes_of key t (key_eq x.key key) refl (sym (is key) ∙ some);
  }
    where
      told_of : (o : Owed) (b : Bool) → frame_eq o x ≡ b → (frame_eq o x || has os o) ≡ true → next o.key ≡ Some o.due
      told_of o true same there =
          let one : o ≡ x = same_frame o x same in
          is o.key
          ∙ ap (λ b. cond b (Some x.due) (due o.key)) (ap (λ (y : Owed). key_eq x.key y.key) one ∙ key_itself x.key)
          ∙ ap (λ (y : Owed). Some y.due) (sym one)
      told_of o false other there =
          let in_os : has os o ≡ true = sym (ap (λ b. b || has os o) other) ∙ there in
          is o.key ∙ ap (λ b. cond b (Some x.due) (due o.key)) (lacking x.key none o in_os) ∙ index.told o in_os

      owes_of : (key : OwedKey) (t : ℕ) (b : Bool) → key_eq x.key key ≡ b → cond (key_eq x.key key) (Some x.due) (due key) ≡ Some t →
          has (with_item owed_cmp x os) (record { due = t; key = key }) ≡ true
      owes_of key t true same some =
          let o : Owed = record { due = t; key = key } in
          let moment : x.due ≡ t = same_some x.due t (Some x.due) refl (sym (ap (λ b. cond b (Some x.due) (due key)) same) ∙ some) in
          let one : frame_eq o x ≡ true =
          and_from (t == x.due) (key_eq key x.key) (differs x.due t moment) (ap (key_eq key) (same_key x.key key same) ∙ key_itself key) in
          has_with x o os ∙ ap (λ b. b || has os o) one
      owes_of key t false other some =
          let o : Owed = record { due = t; key = key } in
          has_with x o os ∙ later (frame_eq o x) (has os o) (index.owes key t (sym (ap (λ b. cond b (Some x.due) (due key)) other) ∙ some))
        where
          later : (a b : Bool) → b ≡ true → (a || b) ≡ true
          later true b h = refl
          later false b h = h

-- a key is put in both, in the place of what it had
pub index_renewed : (due : OwedKey → Option ℕ) (os : List Owed) → IsIndex due os → (x : Owed) (next : OwedKey → Option ℕ) →
    ((q : OwedKey) → next q ≡ cond (key_eq x.key q) (Some x.due) (due q)) → IsIndex next (renew os x.key x.due)
index_renewed due os index x next is =
    let less = λ (q : OwedKey). cond (key_eq x.key q) None (due q) in
    index_with less (paid (key_eq x.key) os) (index_paid due os index (key_eq x.key) less (λ q. refl)) x next
    (ap (λ b. cond b None (due x.key)) (key_itself x.key))
    (λ q. is q ∙ again (key_eq x.key q) x.due (due q))
  where
    again : (b : Bool) (t : ℕ) (m : Option ℕ) → cond b (Some t) m ≡ cond b (Some t) (cond b None m)
    again true t m = refl
    again false t m = refl

-- what a map has after one key was changed
pub moved : (key : OwedKey) (w : Option ℕ) (old new : List (OwedKey × ℕ)) →
    ((q : OwedKey) →
    lookup (is_at (keys.cmp-value.it q)) new ≡ cond (is_at (keys.cmp-value.it key) q) w (lookup (is_at (keys.cmp-value.it q)) old)) →
    (q : OwedKey) → due_of new q ≡ cond (key_eq key q) w (due_of old q)
moved key w old new is q =
    sym (looked_up q new) ∙ is q ∙ (λ i. cond (key_tests key q i) w (looked_up q old i))

-- What a map has where keys that pass a test are taken out
pub looked_kept : (test : OwedKey → Bool) (dues : List (OwedKey × ℕ)) (q : OwedKey) →
    due_of (filter (λ e. not (test e.0)) dues) q ≡ cond (test q) None (due_of dues q)
looked_kept test [] q = elim (test q) as (λ b. due_of [] q ≡ cond b None (due_of [] q)) [ true ↦ refl | false ↦ refl ]
looked_kept test (e ∷ es) q = elim (cases_Bool (key_eq q e.0)) [
  | inl this ↦
      let one : q ≡ e.0 = same_key q e.0 this in
      elim (cases_Bool (test e.0)) [
        | inl goes ↦
            ap (λ b. due_of (cond (not b) (e ∷ filter (λ x. not (test x.0)) es) (filter (λ x. not (test x.0)) es)) q) goes
            ∙ looked_kept test es q
            ∙ ap (λ b. cond b None (due_of es q)) (ap test one ∙ goes)
            ∙ sym (ap (λ b. cond b None (due_of (e ∷ es) q)) (ap test one ∙ goes))
        | inr stays_in ↦
            ap (λ b. due_of (cond (not b) (e ∷ filter (λ x. not (test x.0)) es) (filter (λ x. not (test x.0)) es)) q) stays_in
            ∙ ap (λ b. cond b (Some e.1) (due_of (filter (λ x. not (test x.0)) es) q)) this
            ∙ sym (ap (λ b. cond b None (due_of (e ∷ es) q)) (ap test one ∙ stays_in) ∙ ap (λ b. cond b (Some e.1) (due_of es q)) this)
      ]
  | inr other ↦
      skip (test e.0) (filter (λ x. not (test x.0)) es) other
      ∙ looked_kept test es q
      ∙ sym (ap (λ b. cond (test q) None (cond b (Some e.1) (due_of es q))) other)
]
  where
    skip : (b : Bool) (rest : List (OwedKey × ℕ)) → key_eq q e.0 ≡ false → due_of (cond (not b) (e ∷ rest) rest) q ≡ due_of rest q
    skip true rest other = refl
    skip false rest other = ap (λ b. cond b (Some e.1) (due_of rest q)) other

-- Keys up to one, in the range of a map that has them all

-- whether the key of an entry is up to a key
abbrev pub entry_upto : OwedKey → OwedKey × ℕ → Bool
entry_upto key e = is_upto key e.0

abbrev pub lowest : OwedKey → OwedKey
lowest key = record key { count = 0 }

-- the entries from the lowest of these keys to the key itself
abbrev pub between : OwedKey → List (OwedKey × ℕ) → List (OwedKey × ℕ)
between key dues = entries_between keys.cmp-value.it (Included (lowest key)) (Included key) dues

not_above : (a b : ℕ) → a ≤ b → is_gt (nat_cmp a b) ≡ false
not_above a b le =
    by_ranked (a < b) (a ≡ b) (b < a) (nat_cmp a b) (ranked a b (nat_cmp a b) refl) (λ e _. ap is_gt e) (λ e _. ap is_gt e)
    (λ _ l. absurd (omega (arith, le, l)))

-- keys that differ in their counts alone are ordered by these
by_counts : (key : OwedKey) (n m : ℕ) → key_cmp (record key { count = n }) (record key { count = m }) ≡ ordering_then (nat_cmp n m) Equal
by_counts key n m =
    let last = ordering_then (site_cmp key.site key.site) (nat_cmp (side_rank key.side) (side_rank key.side)) in
    ap (λ o. ordering_then o
    (ordering_then (group_cmp key.group key.group) (ordering_then (proc_cmp key.proc key.proc) (ordering_then (nat_cmp n m) last))))
    (tied_itself nat_cmp_total (kind_rank key.kind))
    ∙ ap (λ o. ordering_then o (ordering_then (proc_cmp key.proc key.proc) (ordering_then (nat_cmp n m) last)))
    (tied_itself group_total key.group)
    ∙ ap (λ o. ordering_then o (ordering_then (nat_cmp n m) last)) (tied_itself proc_total key.proc)
    ∙ ap (λ o. ordering_then (nat_cmp n m) (ordering_then o (nat_cmp (side_rank key.side) (side_rank key.side))))
    (tied_itself site_total key.site)
    ∙ ap (λ o. ordering_then (nat_cmp n m) o) (tied_itself nat_cmp_total (side_rank key.side))

not_above_then : (o : Ordering) → is_gt o ≡ false → is_gt (ordering_then o Equal) ≡ false
not_above_then Less h = refl
not_above_then Equal h = refl
not_above_then Greater h = h

counted : (key : OwedKey) (n m : ℕ) → n ≤ m → is_gt (keys.cmp-value.it (record key { count = n }) (record key { count = m })) ≡ false
counted key n m le =
    ap is_gt (key_order (record key { count = n }) (record key { count = m }) ∙ by_counts key n m)
    ∙ not_above_then (nat_cmp n m) (not_above n m le)

at_most : (o : Ordering) → is_gt o ≡ false → is_le o ≡ true
at_most Less h = refl
at_most Equal h = refl
at_most Greater h = absurd (false≢true (sym h))

not_below : (o : Ordering) → is_gt o ≡ false → is_lt (ordering_reverse o) ≡ false
not_below Less h = refl
not_below Equal h = refl
not_below Greater h = absurd (false≢true (sym h))

in_range : (key q : OwedKey) → is_upto key q ≡ true → range_contains keys.cmp-value.it (Included (lowest key)) (Included key) q ≡ true
in_range key q h =
    let parts = and_parts (key_eq (record q { count = key.count }) key) (nat_le q.count key.count) h in
    let one : record q { count = key.count } ≡ key = same_key (record q { count = key.count }) key parts.0 in
    let this : record key { count = q.count } ≡ q = ap (λ (k : OwedKey). record k { count = q.count }) (sym one) in
    let le : q.count ≤ key.count = leb-true q.count key.count parts.1 in
    and_from (is_le (keys.cmp-value.it (lowest key) q)) (not (is_lt (keys.cmp-value.it key q)))
    (at_most (keys.cmp-value.it (lowest key) q)
    (ap (λ (k : OwedKey). is_gt (keys.cmp-value.it (lowest key) k)) (sym this) ∙ counted key 0 q.count (omega arith)))
    (ap not
    (ap is_lt (key_order key q ∙ key_total.antisymm key q)
    ∙ not_below (key_cmp q key) (ap is_gt (sym (key_order q key))
    ∙ ap (λ (k : OwedKey). is_gt (keys.cmp-value.it k key)) (sym this)
    ∙ counted key q.count key.count le)))

-- what is kept has each item that passes a test, if all that pass it are kept
any_kept : {A : Type 0} (test keep : A → Bool) (xs : List A) → ((x : A) → test x ≡ true → keep x ≡ true) →
    list_any test (filter keep xs) ≡ list_any test xs
any_kept {A = A} test keep [] all = refl
any_kept {A = A} test keep (x ∷ xs) all = elim (cases_Bool (test x)) [
  | inl passes ↦
      ap (λ b. list_any test (cond b (x ∷ filter keep xs) (filter keep xs))) (all x passes)
      ∙ ap (λ rest. test x || rest) (any_kept test keep xs all)
  | inr fails ↦ drop_it (keep x) (filter keep xs) fails ∙ any_kept test keep xs all ∙ sym (ap (λ b. b || list_any test xs) fails)
]
  where
    drop_it : (b : Bool) (rest : List A) → test x ≡ false → list_any test (cond b (x ∷ rest) rest) ≡ list_any test rest
    drop_it true rest fails = ap (λ c. c || list_any test rest) fails
    drop_it false rest fails = refl

-- each entry of a map is found by its key
found_in : (all es : List (OwedKey × ℕ)) → ((q : OwedKey) → is_some (due_of es q) ≡ true → is_some (due_of all q) ≡ true) →
    list_all (λ e. is_some (due_of all e.0)) es ≡ true
found_in all [] more = refl
found_in all (e ∷ es) more =
    and_from (is_some (due_of all e.0)) (list_all (λ x. is_some (due_of all x.0)) es)
    (more e.0 (ap (λ b. is_some (cond b (Some e.1) (due_of es e.0))) (key_itself e.0)))
    (found_in all es (λ q some. more q (behind (key_eq q e.0) (due_of es q) some)))
  where
    behind : (b : Bool) (m : Option ℕ) → is_some m ≡ true → is_some (cond b (Some e.1) m) ≡ true
    behind true m some = refl
    behind false m some = some

-- a key that passes a test which no entry passes is not found
lost : (test : OwedKey → Bool) (es : List (OwedKey × ℕ)) (q : OwedKey) → list_any (λ e. test e.0) es ≡ false → test q ≡ true →
    due_of es q ≡ None
lost test [] q none passes = refl
lost test (e ∷ es) q none passes = elim (cases_Bool (key_eq q e.0)) [
  | inl this ↦ absurd (false≢true (sym none ∙ ap (λ b. b || list_any (λ x. test x.0) es) (ap test (sym (same_key q e.0 this)) ∙ passes)))
  | inr other ↦ ap (λ b. cond b (Some e.1) (due_of es q)) other ∙ lost test es q (rest (test e.0) (list_any (λ x. test x.0) es) none) passes
]
  where
    rest : (a b : Bool) → (a || b) ≡ false → b ≡ false
    rest true b h = absurd (false≢true (sym h))
    rest false b h = h

module _ (dues : List (OwedKey × ℕ)) (key : OwedKey) where
  pub all_owed : list_all (λ e. is_some (due_of dues e.0)) (between key dues) ≡ true
  all_owed =
      all_kept (λ e. is_some (due_of dues e.0)) (λ e. range_contains keys.cmp-value.it (Included (lowest key)) (Included key) e.0)
      dues (found_in dues dues (λ q some. some))

  pub none_between : list_any (entry_upto key) (between key dues) ≡ false → (q : OwedKey) → is_upto key q ≡ true → due_of dues q ≡ None
  none_between none q passes =
      lost (is_upto key) dues q (sym (any_kept (entry_upto key)
      (λ e. range_contains keys.cmp-value.it (Included (lowest key)) (Included key) e.0) dues (λ e. in_range key e.0)) ∙ none) passes

-- a key that a map lacks is put in and taken out again
pub put_back : (due : OwedKey → Option ℕ) (key : OwedKey) (t : ℕ) → due key ≡ None → (q : OwedKey) →
    cond (key_eq key q) None (cond (key_eq key q) (Some t) (due q)) ≡ due q
put_back due key t none q = at (key_eq key q) refl
  where
    at : (b : Bool) → key_eq key q ≡ b → cond b None (cond b (Some t) (due q)) ≡ due q
    at true same = sym none ∙ ap due (same_key key q same)
    at false other = refl
