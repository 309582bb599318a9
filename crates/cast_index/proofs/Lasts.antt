-- The last entry that a search finds, and the least and the greatest count of a source.
use Rattle.std.proofs.Common.{◌≡◌, ◌≤◌, ◌⊎◌, Bool, true, false, cond, filter, not, List, [], ◌∷◌, ◌++◌, Ordering}
use Rattle.std.proofs.Common.{Less, Equal, Greater, Option, Some, None, refl, sym, ap, subst, ◌∙◌, inl, inr, Bor}
use Rattle.std.specs.Prelude.{◌==◌, ◌&&◌, IsTrue}
use Rattle.std.specs.List.{list_any}
use Rattle.std.specs.List.Sorted.{IsStrictlySortedBy}
use Rattle.std.specs.Option.{IfNone, IfSome}
use Rattle.std.specs.BTreeMap.{is_at}
use Rattle.std.specs.BTreeMap.Range.{range_contains}
use Rattle.std.specs.declared.ops.Bound.TheVariants.{Excluded, Unbounded}
use Rattle.std.specs.Ordering.{is_lt, is_le, nat_cmp, ordering_reverse, ordering_then}
use Rattle.std.proofs.lemmas.Bool.{cases_Bool, and_parts, and_from, or_cases, eqb-true, eq-eqb, false≢true, false_from_ne_true}
use Rattle.std.proofs.lemmas.Cmp.{tied_itself}
use Rattle.cast_types.specs.declared.names.Uid.{Uid}
use Rattle.cast_types.specs.declared.names.Key.{Key}
use Rattle.cast_types.specs.declared.source.Source.{Source}
use Rattle.cast_types.specs.Names.{group_eq, proc_eq, uid_eq}
use Rattle.cast_types.specs.Sources.{source_cmp, source_of}
use Rattle.cast_types.proofs.Orders.{same_group, same_proc, group_itself, proc_itself}
use Rattle.cast_types.proofs.Sources.{source_total}
use Rattle.cast_index.specs.declared.entry.Entry.{Entry}
use Rattle.cast_index.specs.Index.{entry_cmp, has, is_behind, is_below, is_from, is_upto}
use Rattle.cast_index.specs.Index.{lowest_of, IsCountRange, IsFirstEntry, IsFirstOf, IsLastEntry}
use Rattle.cast_index.proofs.Orders.{at_zero, by_source, contained, entry_total, ordered}
use Rattle.cast_index.proofs.Firsts.{above, further, is_among, more, none_found, none_kept, not_itself, same_entry}

-- The last entry

-- what is last of those that pass
pub last_found : (entries : List Entry) → IsStrictlySortedBy entry_cmp entries → (test : Entry → Bool) (e : Entry) (rest : List Entry) →
    filter test entries ≡ rest ++ e ∷ [] → IsLastEntry entries test e
unfolding IsStrictlySortedBy
last_found [] sorted test e rest kept = absurd (not_empty rest kept)
  where
    not_empty : (rest : List Entry) → [] ≡ rest ++ e ∷ [] → ⊥
    not_empty [] same = cc
    not_empty (r ∷ rs) same = cc
last_found (x ∷ xs) sorted test e rest kept = elim (cases_Bool (test x)) [
  | inl pass ↦
      by pass (λ rs later. last_found xs sorted.1 test e rs later)
      rest (sym (ap (λ b. cond b (x ∷ filter test xs) (filter test xs)) pass) ∙ kept)
  | inr fail ↦
      let last = last_found xs sorted.1 test e rest (sym (ap (λ b. cond b (x ∷ filter test xs) (filter test xs)) fail) ∙ kept) in
      record {
        there = more (uid_eq e.id x.id && (e.number == x.number)) (has xs e.id (record { 0 = e.number })) last.there;
        passes = last.passes;
        last = λ u k there passes. elim (or_cases (uid_eq u x.id && (k.0 == x.number)) (has xs u k) there) [
          | inl here ↦ absurd (false≢true (sym fail ∙ ap test (same_entry x u k here) ∙ passes))
          | inr later ↦ last.last u k later passes
        ];
      }
]
  where
    by : test x ≡ true → ((rs : List Entry) → filter test xs ≡ rs ++ e ∷ [] → IsLastEntry xs test e) → (rest : List Entry) →
        x ∷ filter test xs ≡ rest ++ e ∷ [] → IsLastEntry (x ∷ xs) test e
    by pass behind [] kept =
        let same : x ≡ e = cc in
        let none : filter test xs ≡ [] = cc in
        subst (IsLastEntry (x ∷ xs) test) same
        (record {
          there = is_among x xs;
          passes = pass;
          last = λ u k there passes. elim (or_cases (uid_eq u x.id && (k.0 == x.number)) (has xs u k) there) [
            | inl here ↦ ap (λ y. is_le (entry_cmp y x)) (sym (same_entry x u k here)) ∙ ap is_le (tied_itself entry_total x)
            | inr later ↦ absurd (false≢true (sym (none_found xs test (none_kept test xs none) u k later) ∙ passes))
          ];
        })
    by pass behind (r ∷ rs) kept =
        let rest : filter test xs ≡ rs ++ e ∷ [] = cc in
        let last = behind rs rest in
        record {
          there = more (uid_eq e.id x.id && (e.number == x.number)) (has xs e.id (record { 0 = e.number })) last.there;
          passes = last.passes;
          last = λ u k there passes. elim (or_cases (uid_eq u x.id && (k.0 == x.number)) (has xs u k) there) [
            | inl here ↦
                ap (λ y. is_le (entry_cmp y e)) (sym (same_entry x u k here))
                ∙ above x xs sorted.0 e.id (record { 0 = e.number }) last.there
            | inr later ↦ last.last u k later passes
          ];
        }

-- what stands below a bound
pub kept_below : (bound : Entry) (entries : List Entry) →
    filter (range_contains entry_cmp Unbounded (Excluded bound)) entries ≡ filter (is_below bound) entries
kept_below bound entries = refl

-- a test that agrees on the entries that are there
last_as : (entries : List Entry) (p q : Entry → Bool) (e : Entry) →
    ((u : Uid) (k : Key) → has entries u k ≡ true → p (record { id = u; number = k.0 }) ≡ q (record { id = u; number = k.0 })) →
    IsLastEntry entries p e → IsLastEntry entries q e
last_as entries p q e agree last = record {
  there = last.there;
  passes = sym (agree e.id (record { 0 = e.number }) last.there) ∙ last.passes;
  last = λ u k there passes. last.last u k there (agree u k there ∙ passes);
}

-- the entries below the first one behind a source are those that stand not behind it
below_bound : (entries : List Entry) (s : Source) (bound : Entry) → IsFirstEntry entries (λ x. is_behind (Some s) x.id) bound →
    (u : Uid) (k : Key) → has entries u k ≡ true → is_below bound (record { id = u; number = k.0 }) ≡ is_upto s u
below_bound entries s bound first u k there = ap not (elim (cases_Bool (is_behind (Some s) u)) [
  | inl behind ↦ first.first u k there behind ∙ sym behind
  | inr upto ↦
      false_from_ne_true (is_from bound (record { id = u; number = k.0 }))
      (λ from. false≢true (sym upto ∙ behind_too (ordered bound u k from))) ∙ sym upto
])
  where
    behind_too : (source_of u ≡ source_of bound.id) × (bound.id.count ≤ u.count) ⊎ (is_behind (Some (source_of bound.id)) u ≡ true) →
        is_behind (Some s) u ≡ true
    behind_too (inl same) = ap (λ t. is_lt (source_cmp s t)) same.0 ∙ first.passes
    behind_too (inr later) = further (Some s) bound.id u first.passes later

pub last_upto_bound : (entries : List Entry) (s : Source) (bound : Entry) → IsFirstEntry entries (λ x. is_behind (Some s) x.id) bound →
    (o : Option (Bor Entry)) → IfSome o (λ e. IsLastEntry entries (is_below bound) e.now) →
    IfSome o (λ e. IsLastEntry entries (λ x. is_upto s x.id) e.now)
last_upto_bound entries s bound first None last = tt
last_upto_bound entries s bound first (Some e) last =
    last_as entries (is_below bound) (λ x. is_upto s x.id) e.now (below_bound entries s bound first) last

pub none_upto_bound : (entries : List Entry) (s : Source) (bound : Entry) → IsFirstEntry entries (λ x. is_behind (Some s) x.id) bound →
    (o : Option (Bor Entry)) →
    IfNone o ((u : Uid) (k : Key) → has entries u k ≡ true → is_below bound (record { id = u; number = k.0 }) ≡ false) →
    IfNone o ((u : Uid) (k : Key) → has entries u k ≡ true → is_upto s u ≡ false)
none_upto_bound entries s bound first None none = λ u k there. sym (below_bound entries s bound first u k there) ∙ none u k there
none_upto_bound entries s bound first (Some e) none = tt

-- the last of all, where no source stands behind
not_less : (o : Ordering) → is_lt (ordering_reverse o) ≡ false → is_le o ≡ true
not_less Less h = refl
not_less Equal h = refl
not_less Greater h = absurd (false≢true (sym h))

pub if_greatest : (entries : List Entry) (s : Source) → ((u : Uid) (k : Key) → has entries u k ≡ true → is_behind (Some s) u ≡ false) →
    (o : Option (Bor Entry)) → IfSome o (λ e. IsTrue (list_any (is_at (entry_cmp e.now)) entries)) →
    IfSome o (λ e. (q : Entry) → IsTrue (list_any (is_at (entry_cmp q)) entries) → is_lt (entry_cmp e.now q) ≡ false) →
    IfSome o (λ e. IsLastEntry entries (λ x. is_upto s x.id) e.now)
if_greatest entries s upto None member greatest = tt
if_greatest entries s upto (Some e) member greatest =
    let there = sym (contained entries e.now.id (record { 0 = e.now.number })) ∙ member in
    record {
      there = there;
      passes = ap not (upto e.now.id (record { 0 = e.now.number }) there);
      last = λ u k is _.
          let x : Entry = record { id = u; number = k.0 } in
          not_less (entry_cmp x e.now) (sym (ap is_lt (entry_total.antisymm e.now x)) ∙ greatest x (contained entries u k ∙ is));
    }

-- where the last of all stands not behind a source, none does
pub none_behind : (entries : List Entry) (s : Source) (e : Entry) → is_behind (Some s) e.id ≡ false →
    ((q : Entry) → IsTrue (list_any (is_at (entry_cmp q)) entries) → is_lt (entry_cmp e q) ≡ false) → (u : Uid) (k : Key) →
    has entries u k ≡ true → is_behind (Some s) u ≡ false
none_behind entries s e upto greatest u k there =
    false_from_ne_true (is_behind (Some s) u)
    (λ behind. false≢true (sym upto ∙ too behind (ordered x e.id (record { 0 = e.number }) below)))
  where
    x : Entry
    x = record { id = u; number = k.0 }

    below : is_le (entry_cmp x e) ≡ true
    below = not_less (entry_cmp x e) (sym (ap is_lt (entry_total.antisymm e x)) ∙ greatest x (contained entries u k ∙ there))

    too : is_behind (Some s) u ≡ true →
        (source_of e.id ≡ source_of u) × (u.count ≤ e.id.count) ⊎ (is_behind (Some (source_of u)) e.id ≡ true) →
        is_behind (Some s) e.id ≡ true
    too behind (inl same) = ap (λ t. is_lt (source_cmp s t)) same.0 ∙ behind
    too behind (inr later) = further (Some s) u e.id behind later

-- The counts of a source

-- whether two sources are equal
abbrev pub source_eq : Source → Source → Bool
source_eq a b = group_eq a.group b.group && ((a.view == b.view) && proc_eq a.process b.process)

pub same_source : (a b : Source) → source_eq a b ≡ true → a ≡ b
same_source a b h =
    let first = and_parts (group_eq a.group b.group) ((a.view == b.view) && proc_eq a.process b.process) h in
    let second = and_parts (a.view == b.view) (proc_eq a.process b.process) first.1 in
    let groups = same_group a.group b.group first.0 in
    let views = eqb-true a.view b.view second.0 in
    let processes = same_proc a.process b.process second.1 in
    λ i. record { group = groups i; view = views i; process = processes i }

pub source_itself : (a b : Source) → a ≡ b → source_eq a b ≡ true
source_itself a b is =
    ap (source_eq a) (sym is)
    ∙ and_from (group_eq a.group a.group) ((a.view == a.view) && proc_eq a.process a.process) (group_itself a.group)
    (and_from (a.view == a.view) (proc_eq a.process a.process) (eq-eqb a.view a.view refl) (proc_itself a.process))

from_source : (s : Source) (u : Uid) (k : Key) → source_of u ≡ s → is_from (lowest_of s) (record { id = u; number = k.0 }) ≡ true
from_source s u k is =
    let tie : source_cmp s (source_of u) ≡ Equal = ap (source_cmp s) is ∙ tied_itself source_total s in
    ap (λ o. is_le (ordering_then o (nat_cmp 0 k.0))) (by_source ((lowest_of s).id) u)
    ∙ ap (λ o. is_le (ordering_then (ordering_then o (nat_cmp 0 u.count)) (nat_cmp 0 k.0))) tie
    ∙ elim (at_zero u.count) [
      | inl less ↦ ap (λ o. is_le (ordering_then o (nat_cmp 0 k.0))) less
      | inr same ↦
          ap (λ o. is_le (ordering_then o (nat_cmp 0 k.0))) same ∙ elim (at_zero k.0) [ inl less ↦ ap is_le less | inr tie ↦ ap is_le tie ]
    ]

-- no id of a source stands behind the source
not_behind : (s : Source) (u : Uid) → source_of u ≡ s → is_behind (Some s) u ≡ false
not_behind s u is = ap (λ t. is_behind (Some t) u) (sym is) ∙ not_itself u

-- where an index has an id of a source, the first entry from the source's lowest one is the source's, with the least count
module _ (entries : List Entry) (s : Source) (e : Entry) (first : IsFirstEntry entries (is_from (lowest_of s)) e) where
  pub least_of : (u : Uid) (k : Key) → has entries u k ≡ true → source_of u ≡ s → (source_of e.id ≡ s) × (e.id.count ≤ u.count)
  least_of u k there is =
      by (ordered (lowest_of s) e.id (record { 0 = e.number }) first.passes) (ordered e u k (first.first u k there (from_source s u k is)))
    where
      by : (source_of e.id ≡ s) × (0 ≤ e.id.count) ⊎ (is_behind (Some s) e.id ≡ true) →
          (source_of u ≡ source_of e.id) × (e.id.count ≤ u.count) ⊎ (is_behind (Some (source_of e.id)) u ≡ true) →
          (source_of e.id ≡ s) × (e.id.count ≤ u.count)
      by own (inl same) = (sym same.0 ∙ is, same.1)
      by (inl own) (inr behind) = absurd (false≢true (sym (not_behind (source_of e.id) u (is ∙ sym own.0)) ∙ behind))
      by (inr behind) (inr later) = absurd (false≢true (sym (not_behind s u is) ∙ further (Some s) e.id u behind later))

-- and the last entry that stands not behind it is the source's, with the greatest count
module _ (entries : List Entry) (s : Source) (e : Entry) (last : IsLastEntry entries (λ x. is_upto s x.id) e) where
  pub greatest_of : (u : Uid) (k : Key) → has entries u k ≡ true → source_of u ≡ s → (source_of e.id ≡ s) × (u.count ≤ e.id.count)
  greatest_of u k there is =
      by (ordered (record { id = u; number = k.0 }) e.id (record { 0 = e.number }) (last.last u k there (ap not (not_behind s u is))))
    where
      by : (source_of e.id ≡ source_of u) × (u.count ≤ e.id.count) ⊎ (is_behind (Some (source_of u)) e.id ≡ true) →
          (source_of e.id ≡ s) × (u.count ≤ e.id.count)
      by (inl same) = (same.0 ∙ is, same.1)
      by (inr behind) = absurd (false≢true (sym (ap not (ap (λ t. is_behind (Some t) e.id) (sym is) ∙ behind)) ∙ last.passes))

pub first_of : (entries : List Entry) (s : Source) (e : Entry) → IsFirstEntry entries (is_from (lowest_of s)) e → source_of e.id ≡ s →
    IsFirstOf entries s (e.id, record { 0 = e.number })
first_of entries s e first is = record {
  there = first.there;
  own = is;
  least = λ u k there same. (least_of entries s e first u k there same).1;
}

pub counts : (entries : List Entry) (s : Source) (first : Uid × Key) (f : Entry) → IsFirstOf entries s first →
    IsLastEntry entries (λ x. is_upto s x.id) f → IsCountRange entries s (first.0.count, f.id.count)
counts entries s first f is last = record {
  least = (first.0, first.1, is.there, is.own, refl);
  greatest = (f.id, record { 0 = f.number }, last.there, (greatest_of entries s f last first.0 first.1 is.there is.own).0, refl);
  within = λ u k there same. (is.least u k there same, (greatest_of entries s f last u k there same).1);
}
