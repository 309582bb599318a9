-- The order of entries, and what it says of sources.
use Rattle.std.proofs.Common.{◌≡◌, ℕ, ◌+◌, ◌≤◌, ◌⊎◌, Bool, true, false, cond, List, [], ◌∷◌, Ordering}
use Rattle.std.proofs.Common.{Less, Equal, Greater, Some, refl, sym, ap, ◌∙◌, inl, inr, arith}
use Rattle.std.specs.Prelude.{◌==◌, ◌&&◌, ◌||◌, nat_lt}
use Rattle.std.specs.List.{list_any}
use Rattle.std.specs.Ordering.{is_eq, is_le, is_lt, nat_cmp, ordering_then, ordering_reverse}
use Rattle.std.specs.BTreeMap.{is_at}
use Rattle.std.specs.Cmp.{IsTotalOrder}
use Rattle.std.proofs.lemmas.Bool.{and_parts, and_from, cases_Bool, eqb-true, eq-eqb, ltb-true, ltb-false, false_from_ne_true, false≢true}
use Rattle.std.proofs.lemmas.Cmp.{tied_itself, nat_cmp_total, on_total, then_total}
use Rattle.std.proofs.lemmas.Map.Lookups.{exact_unsigned}
use Rattle.cast_types.specs.declared.names.Uid.{Uid}
use Rattle.cast_types.specs.declared.names.Key.{Key}
use Rattle.cast_types.specs.declared.source.Source.{Source}
use Rattle.cast_types.specs.Names.{uid_cmp, uid_eq, group_cmp, proc_cmp, site_cmp}
use Rattle.cast_types.specs.Sources.{source_cmp, source_of}
use Rattle.cast_types.proofs.Orders.{uid_total, uid_exact, same_uid, uid_itself}
use Rattle.cast_types.proofs.Sources.{source_exact}
use Rattle.cast_index.specs.declared.entry.Entry.{Entry}
use Rattle.cast_index.specs.Index.{entry_cmp, is_pair, has, is_behind, lowest_past}
use Rattle.cast_index.specs.contracts.entry.EntryOrd.TheImpl as entry

pub entry_total : IsTotalOrder entry_cmp
entry_total = then_total (on_total (λ e. e.id) uid_total) (on_total (λ e. e.number) nat_cmp_total)

both_tie : (r s : Ordering) → ordering_then r s ≡ Equal → (r ≡ Equal) × (s ≡ Equal)
both_tie Less s h = absurd (cc)
both_tie Equal s h = (refl, h)
both_tie Greater s h = absurd (cc)

-- a test by an order is the test of equality
tests : (o : Ordering) (b : Bool) → (o ≡ Equal → b ≡ true) → (b ≡ true → o ≡ Equal) → is_eq o ≡ b
tests Less b to from = sym (false_from_ne_true b (λ h. cc (from h)))
tests Equal b to from = sym (to refl)
tests Greater b to from = sym (false_from_ne_true b (λ h. cc (from h)))

pub entry_tests : (a b : Entry) → is_at (entry.cmp-value.it a) b ≡ is_pair a.id (record { 0 = a.number }) b.id (record { 0 = b.number })
entry_tests a b =
    tests (entry_cmp a b) (uid_eq a.id b.id && (a.number == b.number))
    (λ tie.
    let parts = both_tie (uid_cmp a.id b.id) (nat_cmp a.number b.number) tie in
    let ids = uid_exact a.id b.id parts.0 in
    and_from (uid_eq a.id b.id) (a.number == b.number) (ap (uid_eq a.id) (sym ids) ∙ uid_itself a.id)
    (eq-eqb a.number b.number (exact_unsigned a.number b.number parts.1)))
    (λ h.
    let parts = and_parts (uid_eq a.id b.id) (a.number == b.number) h in
    let ids = same_uid a.id b.id parts.0 in
    let numbers = eqb-true a.number b.number parts.1 in
    ap (entry_cmp a) (λ i. record { id = sym ids i; number = sym numbers i }) ∙ tied_itself entry_total a)

-- an index has a pair where the set contains its entry
pub contained : (entries : List Entry) (u : Uid) (k : Key) →
    list_any (is_at (entry.cmp-value.it (record { id = u; number = k.0 }))) entries ≡ has entries u k
contained [] u k = refl
contained (e ∷ es) u k = λ i. entry_tests (record { id = u; number = k.0 }) e i || contained es u k i

-- Sources

regroup : (a b c d : Ordering) →
    ordering_then a (ordering_then b (ordering_then c d)) ≡ ordering_then (ordering_then a (ordering_then b c)) d
regroup Less b c d = refl
regroup Greater b c d = refl
regroup Equal Less c d = refl
regroup Equal Greater c d = refl
regroup Equal Equal c d = refl

-- by source, and then by count
pub by_source : (a b : Uid) → uid_cmp a b ≡ ordering_then (source_cmp (source_of a) (source_of b)) (nat_cmp a.count b.count)
by_source a b = regroup (group_cmp a.group b.group) (nat_cmp a.view b.view) (proc_cmp a.proc b.proc) (nat_cmp a.count b.count)

pub not_above : (a b : ℕ) (rest : Ordering) → is_le (ordering_then (nat_cmp a b) rest) ≡ true → a ≤ b
not_above a b rest h = elim (cases_Bool (nat_lt a b)) [
  | inl less ↦ let lt = ltb-true a b less in omega (arith, lt)
  | inr more ↦ elim (cases_Bool (a == b)) [
    | inl same ↦ let e = eqb-true a b same in omega (arith, e)
    | inr other ↦ absurd (false≢true (sym (λ i. is_le (ordering_then (cond (more i) Less (cond (other i) Equal Greater)) rest)) ∙ h))
  ]
]

-- an entry that is not above another is of its source and has no greater count, or its source stands before the other's
pub ordered : (e : Entry) (u : Uid) (k : Key) → is_le (entry_cmp e (record { id = u; number = k.0 })) ≡ true →
    ((source_of u ≡ source_of e.id) × (e.id.count ≤ u.count)) ⊎ (is_behind (Some (source_of e.id)) u ≡ true)
ordered e u k h =
    go (source_cmp (source_of e.id) (source_of u))
    refl (sym (ap (λ o. is_le (ordering_then o (nat_cmp e.number k.0))) (by_source e.id u)) ∙ h)
  where
    go : (o : Ordering) → source_cmp (source_of e.id) (source_of u) ≡ o →
        is_le (ordering_then (ordering_then o (nat_cmp e.id.count u.count)) (nat_cmp e.number k.0)) ≡ true →
        ((source_of u ≡ source_of e.id) × (e.id.count ≤ u.count)) ⊎ (is_behind (Some (source_of e.id)) u ≡ true)
    go Less is h = inr (ap is_lt is)
    go Equal is h = inl (sym (source_exact (source_of e.id) (source_of u) is), not_above e.id.count u.count (nat_cmp e.number k.0) h)
    go Greater is h = absurd (cc)

pub at_zero : (n : ℕ) → (nat_cmp 0 n ≡ Less) ⊎ (nat_cmp 0 n ≡ Equal)
at_zero n = elim (cases_Bool (nat_lt 0 n)) [
  | inl less ↦ inl (ap (λ b. cond b Less (cond (0 == n) Equal Greater)) less)
  | inr none ↦
      let ge = ltb-false 0 n none in
      let same : (0 == n) ≡ true = eq-eqb 0 n (omega (arith, ge)) in
      inr (λ i. cond (none i) Less (cond (same i) Equal Greater))
]

-- a source stands behind another where its entries are at or above the lowest ones that do
next_serial : (s t c n : ℕ) → is_le (ordering_then (nat_cmp (s + 1) t) (ordering_then (nat_cmp 0 c) (nat_cmp 0 n))) ≡ is_lt (nat_cmp s t)
next_serial s t c n = elim (cases_Bool (nat_lt s t)) [
  | inl less ↦ elim (cases_Bool (nat_lt (s + 1) t)) [
    | inl more ↦
        (λ i. is_le (ordering_then (cond (more i) Less (cond ((s + 1) == t) Equal Greater)) (ordering_then (nat_cmp 0 c) (nat_cmp 0 n))))
        ∙ sym (ap (λ b. is_lt (cond b Less (cond (s == t) Equal Greater))) less)
    | inr here ↦
        let lt = ltb-true s t less in
        let ge = ltb-false (s + 1) t here in
        let same : ((s + 1) == t) ≡ true = eq-eqb (s + 1) t (omega (arith, lt, ge)) in
        (λ i. is_le (ordering_then (cond (here i) Less (cond (same i) Equal Greater)) (ordering_then (nat_cmp 0 c) (nat_cmp 0 n))))
        ∙ from_zero c n ∙ sym (ap (λ b. is_lt (cond b Less (cond (s == t) Equal Greater))) less)
  ]
  | inr not_less ↦
      let ge = ltb-false s t not_less in
      let more : nat_lt (s + 1) t ≡ false =
      false_from_ne_true (nat_lt (s + 1) t) (λ h. let lt = ltb-true (s + 1) t h in omega (arith, lt, ge)) in
      let other : ((s + 1) == t) ≡ false = false_from_ne_true ((s + 1) == t) (λ h. let e = eqb-true (s + 1) t h in omega (arith, e, ge)) in
      (λ i. is_le (ordering_then (cond (more i) Less (cond (other i) Equal Greater)) (ordering_then (nat_cmp 0 c) (nat_cmp 0 n))))
      ∙ sym ((λ i. is_lt (cond (not_less i) Less (cond (s == t) Equal Greater))) ∙ not_lt (s == t))
]
  where
    from_zero : (c n : ℕ) → is_le (ordering_then (nat_cmp 0 c) (nat_cmp 0 n)) ≡ true
    from_zero c n = elim (at_zero c) [
      | inl less ↦ ap (λ o. is_le (ordering_then o (nat_cmp 0 n))) less
      | inr tie ↦
          ap (λ o. is_le (ordering_then o (nat_cmp 0 n))) tie ∙ elim (at_zero n) [ inl less ↦ ap is_le less | inr same ↦ ap is_le same ]
    ]

    not_lt : (b : Bool) → is_lt (cond b Equal Greater) ≡ false
    not_lt true = refl
    not_lt false = refl

pub from_lowest : (s : Source) (e : Entry) → is_le (entry_cmp (lowest_past s) e) ≡ is_behind (Some s) e.id
from_lowest s e = go (group_cmp s.group e.id.group) (nat_cmp s.view e.id.view) (site_cmp s.process.site e.id.proc.site)
  where
    serials : is_le (ordering_then (nat_cmp (s.process.serial + 1) e.id.proc.serial)
        (ordering_then (nat_cmp 0 e.id.count) (nat_cmp 0 e.number))) ≡ is_lt (nat_cmp s.process.serial e.id.proc.serial)
    serials = next_serial s.process.serial e.id.proc.serial e.id.count e.number

    go : (a b c : Ordering) → is_le (ordering_then (ordering_then a
        (ordering_then b (ordering_then (ordering_then c (nat_cmp (s.process.serial + 1) e.id.proc.serial)) (nat_cmp 0 e.id.count))))
        (nat_cmp 0 e.number)) ≡ is_lt (ordering_then a (ordering_then b (ordering_then c (nat_cmp s.process.serial e.id.proc.serial))))
    go Less b c = refl
    go Greater b c = refl
    go Equal Less c = refl
    go Equal Greater c = refl
    go Equal Equal Less = refl
    go Equal Equal Greater = refl
    go Equal Equal Equal =
        ap is_le (two (nat_cmp (s.process.serial + 1) e.id.proc.serial) (nat_cmp 0 e.id.count) (nat_cmp 0 e.number)) ∙ serials
      where
        two : (x y z : Ordering) → ordering_then (ordering_then x y) z ≡ ordering_then x (ordering_then y z)
        two Less y z = refl
        two Equal y z = refl
        two Greater y z = refl

-- Under one id

-- an entry at or above an id's lowest one, and at or below one of the id, is of the id
pub between : (id : Uid) (e : Entry) (k : Key) → is_le (entry_cmp (record { id = id; number = 0 }) e) ≡ true →
    is_le (entry_cmp e (record { id = id; number = k.0 })) ≡ true → (e.id ≡ id) × (e.number ≤ k.0)
between id e k from upto = go (uid_cmp id e.id) refl (uid_cmp e.id id) refl
  where
    go : (o : Ordering) → uid_cmp id e.id ≡ o → (r : Ordering) → uid_cmp e.id id ≡ r → (e.id ≡ id) × (e.number ≤ k.0)
    go Less is r back =
        absurd (false≢true
        (sym (ap (λ x. is_le (ordering_then x (nat_cmp e.number k.0))) (uid_total.antisymm e.id id ∙ ap ordering_reverse is)) ∙ upto))
    go Greater is r back = absurd (false≢true (sym (ap (λ x. is_le (ordering_then x (nat_cmp 0 e.number))) is) ∙ from))
    go Equal is r back =
        let same : e.id ≡ id = sym (uid_exact id e.id is) in (
          same,
          last
              (ap (λ x. is_le (ordering_then x (nat_cmp e.number k.0))) (sym (ap (uid_cmp e.id) same) ∙ tied_itself uid_total e.id) ∙ refl),
        )
      where
        unit : (x : Ordering) → is_le x ≡ true → is_le (ordering_then x Equal) ≡ true
        unit Less h = refl
        unit Equal h = refl
        unit Greater h = h

        last : is_le (ordering_then (uid_cmp e.id id) (nat_cmp e.number k.0)) ≡ is_le (nat_cmp e.number k.0) → e.number ≤ k.0
        last tie = not_above e.number k.0 Equal (unit (nat_cmp e.number k.0) (sym tie ∙ upto))

-- each entry of an id is at or above its lowest one
pub from_id : (id : Uid) (k : Key) → is_le (entry_cmp (record { id = id; number = 0 }) (record { id = id; number = k.0 })) ≡ true
from_id id k =
    ap (λ o. is_le (ordering_then o (nat_cmp 0 k.0))) (tied_itself uid_total id)
    ∙ elim (at_zero k.0) [ inl less ↦ ap is_le less | inr same ↦ ap is_le same ]
