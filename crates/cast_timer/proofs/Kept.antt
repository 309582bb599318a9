-- The rows and a domain's map of moments say the same: what a change of both leaves, and what is
-- owed by them.
-- `IsKept` says so: each key is owed at the moment that the map gives. `keeps_added`,
-- `keeps_taken` and `keeps_moved` keep it where one key changes, `keeps_dropped` and
-- `keeps_at_once` where many do. A change of one key writes the row of one moment and one entry of
-- the map, and both then answer for this key alike; other keys, and rows of other domains, stand.
-- Many changes are one after the other.
use Rattle.std.proofs.Common.{◌≡◌, ◌≢◌, ℕ, suc, ◌+◌, ◌<◌, Bool, true, false, cond, ◌&&◌, ◌||◌, List, [], ◌∷◌, filter}
use Rattle.std.proofs.Common.{length, take, get_or, Option, Some, None, refl, sym, ap, subst, ◌∙◌, inl, inr, arith}
use Rattle.std.specs.Prelude.{◌==◌, map, nat_le, slice_index_or}
use Rattle.std.specs.BTreeMap.{is_at}
use Rattle.std.specs.Map.{lookup}
use Rattle.std.specs.List.{list_any, All}
use Rattle.std.specs.Option.{option_map}
use Rattle.std.proofs.lemmas.Bool.{cases_Bool, cases_lt, eqb-true, eq-eqb, false_from_ne_true, false≢true, leb-true, le-leb, or_right}
use Rattle.std.proofs.lemmas.List.{take_more}
use Rattle.std.proofs.lemmas.List.Folds.{list_any-append}
use Rattle.std.proofs.lemmas.Option.{none-some, same_Some}
use Rattle.cast_types.specs.declared.names.DomainNo.{DomainNo}
use Rattle.cast_timer.specs.declared.key.Moment.{Moment}
use Rattle.cast_timer.specs.declared.key.OwedKey.{OwedKey}
use Rattle.cast_timer.specs.Owed.{key_eq}
use Rattle.cast_timer.specs.Rows.{Row, moment_eq, is_of, is_before, is_held, has_key, owed_in, IsShaped, IsFilled, Holds}
use Rattle.cast_timer.specs.Index.{due_of, is_due, moved_to, renewed_due, IsKept, Keeps, IsMoved, IsIndex}
use Rattle.cast_timer.specs.contracts.key.OwedKeyOrd.TheImpl as keys
use Rattle.cast_timer.proofs.Index.{looked_up}
use Rattle.cast_timer.proofs.Owing.{same_key, key_itself, turned_key}
use Rattle.cast_timer.proofs.Rows.{same_domain, same_moment, owed_rises, owed_held, contained}

-- What is owed

due_then : (t : ℕ) (m : Option ℕ) → is_due t m ≡ true → m ≡ Some t
due_then t None due = absurd (false≢true due)
due_then t (Some s) due = ap Some (sym (eqb-true t s due))

then_due : (t : ℕ) (m : Option ℕ) → m ≡ Some t → is_due t m ≡ true
then_due t m some = ap (is_due t) some ∙ eq-eqb t t refl

-- the map goes with what the domain owes
pub index_of : (d : DomainNo) (rows : List Row) (due : OwedKey → Option ℕ) → IsKept d rows due → IsIndex due (owed_in rows d)
index_of d rows due kept = record {
  rising = owed_rises rows d kept.shaped;
  told = λ o there. due_then o.due (due o.key) (sym (owed_held rows d o kept.shaped ∙ kept.told o.due o.key) ∙ there);
  owes = λ key t some. owed_held rows d (record { due = t; key = key }) kept.shaped ∙ kept.told t key ∙ then_due t (due key) some;
}

-- Changes

-- a moment of another domain is none of the domain's
pub elsewhere : (t : ℕ) (d : DomainNo) (p : Moment) → p.domain ≢ d → moment_eq (record { due = t; domain = d }) p ≡ false
elsewhere t d p differ =
    false_from_ne_true (moment_eq (record { due = t; domain = d }) p)
    (λ same. differ (ap (λ (q : Moment). q.domain) (sym (same_moment (record { due = t; domain = d }) p same))))

pub not_of : (d : DomainNo) (p : Moment) → p.domain ≢ d → is_of d p ≡ false
not_of d p differ = false_from_ne_true (is_of d p) (λ same. differ (sym (same_domain d p.domain same)))

pub here : (t s : ℕ) (d : DomainNo) → moment_eq (record { due = t; domain = d }) (record { due = s; domain = d }) ≡ (t == s)
here t s d = ap (λ b. (t == s) && b) (eq-eqb d.0 d.0 refl) ∙ and_true (t == s)
  where
    and_true : (b : Bool) → (b && true) ≡ b
    and_true true = refl
    and_true false = refl

turned : (t s : ℕ) → (t == s) ≡ (s == t)
turned t s = elim (cases_Bool (t == s)) [
  | inl same ↦ same ∙ sym (eq-eqb s t (sym (eqb-true t s same)))
  | inr other ↦ other ∙ sym (false_from_ne_true (s == t) (λ same. false≢true (sym other ∙ eq-eqb t s (sym (eqb-true s t same)))))
]

-- the frame of one key at one moment of the domain
module _ (d : DomainNo) (old new : List Row) (t : ℕ) (k : OwedKey) (b : Bool)
    (holds : Holds (record { due = t; domain = d }) k b old new) where
  pub held_here : (s : ℕ) (q : OwedKey)
      → is_held new (record { due = s; domain = d }) q ≡ cond ((t == s) && key_eq k q) b (is_held old (record { due = s; domain = d }) q)
  held_here s q =
      holds.held (record { due = s; domain = d }) q
      ∙ ap (λ c. cond (c && key_eq k q) b (is_held old (record { due = s; domain = d }) q)) (here t s d)

  pub held_there : (p : Moment) (q : OwedKey) → p.domain ≢ d → is_held new p q ≡ is_held old p q
  held_there p q differ = holds.held p q ∙ ap (λ c. cond (c && key_eq k q) b (is_held old p q)) (elsewhere t d p differ)

  keeps_by : (due next : OwedKey → Option ℕ) → IsKept d old due
      → ((s : ℕ) (q : OwedKey) → is_due s (next q) ≡ cond ((t == s) && key_eq k q) b (is_due s (due q))) → Keeps d old new next
  keeps_by due next kept is = record {
    kept = record {
      shaped = holds.shaped kept.shaped;
      filled = holds.filled kept.filled;
      told = λ s q. held_here s q ∙ ap (λ c. cond ((t == s) && key_eq k q) b c) (kept.told s q) ∙ sym (is s q);
    };
    others = held_there;
  }

-- a frame is owed, whose key was not
pub keeps_added : (d : DomainNo) (old new : List Row) (t : ℕ) (k : OwedKey) → Holds (record { due = t; domain = d }) k true old new
    → (due next : OwedKey → Option ℕ) → IsKept d old due → due k ≡ None → ((q : OwedKey) → next q ≡ cond (key_eq k q) (Some t) (due q))
    → Keeps d old new next
keeps_added d old new t k holds due next kept none is =
    keeps_by d old new t k true holds due next kept (λ s q. ap (is_due s) (is q) ∙ at s q (key_eq k q) refl)
  where
    at : (s : ℕ) (q : OwedKey) (b : Bool) → key_eq k q ≡ b
        → is_due s (cond b (Some t) (due q)) ≡ cond ((t == s) && b) true (is_due s (due q))
    at s q true same =
        turned s t
        ∙ only (t == s)
        ∙ ap (λ (m : Option ℕ). cond ((t == s) && true) true (is_due s m)) (sym none ∙ ap due (same_key k q same))
      where
        only : (b : Bool) → b ≡ cond (b && true) true false
        only true = refl
        only false = refl
    at s q false other = never (t == s)
      where
        never : (b : Bool) → is_due s (due q) ≡ cond (b && false) true (is_due s (due q))
        never true = refl
        never false = refl

-- a frame is owed no more
pub keeps_taken : (d : DomainNo) (old new : List Row) (t : ℕ) (k : OwedKey) → Holds (record { due = t; domain = d }) k false old new
    → (due next : OwedKey → Option ℕ) → IsKept d old due → due k ≡ Some t → ((q : OwedKey) → next q ≡ cond (key_eq k q) None (due q))
    → Keeps d old new next
keeps_taken d old new t k holds due next kept some is =
    keeps_by d old new t k false holds due next kept (λ s q. ap (is_due s) (is q) ∙ at s q (key_eq k q) refl)
  where
    at : (s : ℕ) (q : OwedKey) (b : Bool) → key_eq k q ≡ b → is_due s (cond b None (due q)) ≡ cond ((t == s) && b) false (is_due s (due q))
    at s q true same =
        only (t == s)
        ∙ ap (λ c. cond ((t == s) && true) false c) (turned t s)
        ∙ ap (λ (m : Option ℕ). cond ((t == s) && true) false (is_due s m)) (sym some ∙ ap due (same_key k q same))
      where
        only : (b : Bool) → false ≡ cond (b && true) false b
        only true = refl
        only false = refl
    at s q false other = never (t == s)
      where
        never : (b : Bool) → is_due s (due q) ≡ cond (b && false) false (is_due s (due q))
        never true = refl
        never false = refl

-- nothing is changed, and the map says the same
pub keeps_still : (d : DomainNo) (old new : List Row) (due next : OwedKey → Option ℕ) → IsKept d old due → new ≡ old
    → ((q : OwedKey) → next q ≡ due q) → Keeps d old new next
keeps_still d old new due next kept same is = record {
  kept = record {
    shaped = subst IsShaped (sym same) kept.shaped;
    filled = subst IsFilled (sym same) kept.filled;
    told = λ s q. ap (λ rows. is_held rows (record { due = s; domain = d }) q) same ∙ kept.told s q ∙ ap (is_due s) (sym (is q));
  };
  others = λ p q differ. ap (λ rows. is_held rows p q) same;
}

-- one change after another
pub keeps_both : (d : DomainNo) (old between new : List Row) (first next : OwedKey → Option ℕ) → Keeps d old between first
    → Keeps d between new next → Keeps d old new next
keeps_both d old between new first next one two = record {
  kept = two.kept;
  others = λ p q differ. two.others p q differ ∙ one.others p q differ;
}

-- a frame is moved from one moment to another
pub keeps_moved : (d : DomainNo) (old new : List Row) (k : OwedKey) (before after : ℕ) → IsMoved d k before after old new
    → (due next : OwedKey → Option ℕ) → IsKept d old due → due k ≡ Some before → (before == after) ≡ false
    → ((q : OwedKey) → next q ≡ moved_to after (key_eq k q) (due q)) → Keeps d old new next
keeps_moved d old new k before after moved due next kept some differ is = record {
  kept = record {
    shaped = moved.taken.shaped (moved.added.shaped kept.shaped);
    filled = moved.taken.filled (moved.added.filled kept.filled);
    told = λ s q.
        held_here d moved.between new before k false moved.taken s q
        ∙ ap (λ c. cond ((before == s) && key_eq k q) false c)
        (held_here d old moved.between after k true moved.added s q ∙ ap (λ c. cond ((after == s) && key_eq k q) true c) (kept.told s q))
        ∙ at s q (key_eq k q) refl
        ∙ ap (is_due s) (sym (is q));
  };
  others = λ p q differs. held_there d moved.between new before k false moved.taken p q differs
      ∙ held_there d old moved.between after k true moved.added p q differs;
}
  where
    at : (s : ℕ) (q : OwedKey) (b : Bool) → key_eq k q ≡ b
        → cond ((before == s) && b) false (cond ((after == s) && b) true (is_due s (due q))) ≡ is_due s (moved_to after b (due q))
    at s q true same =
        let its : due q ≡ Some before = ap due (sym (same_key k q same)) ∙ some in
        ap (λ (m : Option ℕ). cond ((before == s) && true) false (cond ((after == s) && true) true (is_due s m))) its
        ∙ elim (cases_Bool (before == s)) [
          | inl then ↦
              let not_after : (after == s) ≡ false =
              ap (λ (n : ℕ). after == n) (sym (eqb-true before s then)) ∙ turned after before ∙ differ in
              (λ i. cond (then i && true) false (cond ((after == s) && true) true (s == before)))
              ∙ sym (turned s after ∙ not_after)
          | inr apart ↦
              (λ i. cond (apart i && true) false (cond ((after == s) && true) true ((turned s before ∙ apart) i)))
              ∙ only (after == s) ∙ turned after s
        ]
        ∙ ap (λ m. is_due s (moved_to after true m)) (sym its)
      where
        only : (b : Bool) → cond (b && true) true false ≡ b
        only true = refl
        only false = refl
    at s q false other = never (before == s) (after == s)
      where
        never : (a b : Bool) → cond (a && false) false (cond (b && false) true (is_due s (due q))) ≡ is_due s (due q)
        never true true = refl
        never true false = refl
        never false true = refl
        never false false = refl

-- frames whose keys pass a test are owed no more
pub keeps_dropped : (d : DomainNo) (old new : List Row) (test : OwedKey → Bool) (due next : OwedKey → Option ℕ) → IsKept d old due
    → IsShaped new → IsFilled new → ((p : Moment) (q : OwedKey) → is_held new p q ≡ cond (is_of d p && test q) false (is_held old p q))
    → ((q : OwedKey) → next q ≡ cond (test q) None (due q)) → Keeps d old new next
keeps_dropped d old new test due next kept shaped filled held is = record {
  kept = record {
    shaped = shaped;
    filled = filled;
    told = λ s q.
        held (record { due = s; domain = d }) q
        ∙ ap (λ b. cond (b && test q) false (is_held old (record { due = s; domain = d }) q)) (eq-eqb d.0 d.0 refl)
        ∙ ap (λ b. cond (test q) false b) (kept.told s q)
        ∙ drop (test q) s (due q)
        ∙ ap (is_due s) (sym (is q));
  };
  others = λ p q differ. held p q ∙ ap (λ b. cond (b && test q) false (is_held old p q)) (not_of d p differ);
}
  where
    drop : (b : Bool) (s : ℕ) (m : Option ℕ) → cond b false (is_due s m) ≡ is_due s (cond b None m)
    drop true s m = refl
    drop false s m = refl

-- Entries of a map that are taken out of the rows one after the other

-- whether a map's entries have the moment of a key that passes a test
abbrev pub is_told : DomainNo → (OwedKey → Bool) → List (OwedKey × ℕ) → Moment → OwedKey → Bool
is_told d test dues p k = is_of d p && (test k && list_any (λ e. (e.1 == p.due) && key_eq e.0 k) dues)

-- where no entry is left
pub none_told : (d : DomainNo) (test : OwedKey → Bool) (dues : List (OwedKey × ℕ)) (p : Moment) (k : OwedKey) (h : Bool) → dues ≡ []
    → h ≡ cond (is_told d test dues p k) false h
none_told d test dues p k h none = never (is_of d p) (test k) ∙ sym (λ i. cond (is_told d test (none i) p k) false h)
  where
    never : (a b : Bool) → h ≡ cond (a && (b && false)) false h
    never true true = refl
    never true false = refl
    never false b = refl

-- all entries of the domain's map are all frames of it
pub told_all : (d : DomainNo) (test : OwedKey → Bool) (dues : List (OwedKey × ℕ)) (rows : List Row) → IsKept d rows (due_of dues)
    → (p : Moment) (k : OwedKey)
    → cond (is_told d test dues p k) false (is_held rows p k) ≡ cond (is_of d p && test k) false (is_held rows p k)
told_all d test dues rows kept p k = elim (cases_Bool (is_of d p)) [
  | inr other ↦
      (λ i. cond (other i && (test k && any)) false (is_held rows p k)) ∙ sym (λ i. cond (other i && test k) false (is_held rows p k))
  | inl its ↦
      (λ i. cond (its i && (test k && any)) false (is_held rows p k))
      ∙ by_held its (is_held rows p k) refl
      ∙ sym (λ i. cond (its i && test k) false (is_held rows p k))
]
  where
    any : Bool
    any = list_any (λ e. (e.1 == p.due) && key_eq e.0 k) dues

    found : (es : List (OwedKey × ℕ)) → due_of es k ≡ Some p.due → list_any (λ e. (e.1 == p.due) && key_eq e.0 k) es ≡ true
    found [] some = absurd (none-some p.due some)
    found (e ∷ es) some = elim (cases_Bool (key_eq k e.0)) [
      | inl this ↦
          let at : e.1 ≡ p.due = same_Some e.1 p.due (sym (ap (λ b. cond b (Some e.1) (due_of es k)) this) ∙ some) in
          let one : key_eq e.0 k ≡ true = ap (key_eq e.0) (same_key k e.0 this) ∙ key_itself e.0 in
          (λ i. ((eq-eqb e.1 p.due at i) && one i) || list_any (λ e. (e.1 == p.due) && key_eq e.0 k) es)
      | inr other ↦
          or_right ((e.1 == p.due) && key_eq e.0 k) (list_any (λ e. (e.1 == p.due) && key_eq e.0 k) es)
          (found es (sym (ap (λ b. cond b (Some e.1) (due_of es k)) other) ∙ some))
    ]

    by_held : is_of d p ≡ true → (h : Bool) → is_held rows p k ≡ h
        → cond (test k && any) false (is_held rows p k) ≡ cond (test k) false (is_held rows p k)
    by_held its true there =
        let place : record { due = p.due; domain = d } ≡ p = λ i. record { due = p.due; domain = same_domain d p.domain its i } in
        let due = due_then p.due (due_of dues k) (sym (kept.told p.due k) ∙ ap (λ (q : Moment). is_held rows q k) place ∙ there) in
        (λ i. cond (test k && found dues due i) false (is_held rows p k)) ∙ and_last (test k) (is_held rows p k)
      where
        and_last : (b h : Bool) → cond (b && true) false h ≡ cond b false h
        and_last true h = refl
        and_last false h = refl
    by_held its false none =
        (λ i. cond (test k && any) false (none i)) ∙ never (test k && any) ∙ sym (never (test k)) ∙ sym (λ i. cond (test k) false (none i))
      where
        never : (b : Bool) → cond b false false ≡ false
        never true = refl
        never false = refl

-- Moments of keys that are moved

-- the moment of a key that is owed is another one
pub moved_one : (due : OwedKey → Option ℕ) (k : OwedKey) (before after : ℕ) → due k ≡ Some before → (q : OwedKey)
    → cond (key_eq k q) (Some after) (due q) ≡ moved_to after (key_eq k q) (due q)
moved_one due k before after some q = at (key_eq k q) refl
  where
    at : (b : Bool) → key_eq k q ≡ b → cond b (Some after) (due q) ≡ moved_to after b (due q)
    at true same = sym (ap (option_map (λ _. after)) (ap due (sym (same_key k q same)) ∙ some))
    at false other = refl

-- it is the moment that it was
pub moved_none : (due : OwedKey → Option ℕ) (k : OwedKey) (before : ℕ) → due k ≡ Some before → (q : OwedKey)
    → due q ≡ cond (key_eq k q) (Some before) (due q)
moved_none due k before some q = at (key_eq k q) refl
  where
    at : (b : Bool) → key_eq k q ≡ b → due q ≡ cond b (Some before) (due q)
    at true same = ap due (sym (same_key k q same)) ∙ some
    at false other = refl

-- a key that is not owed is not moved
pub moved_unowed : (due : OwedKey → Option ℕ) (k : OwedKey) (after : ℕ) → due k ≡ None → (q : OwedKey)
    → due q ≡ moved_to after (key_eq k q) (due q)
moved_unowed due k after none q = at (key_eq k q) refl
  where
    at : (b : Bool) → key_eq k q ≡ b → due q ≡ moved_to after b (due q)
    at true same =
        let its : due q ≡ None = ap due (sym (same_key k q same)) ∙ none in
        its ∙ sym (ap (option_map (λ _. after)) its)
    at false other = refl

-- first some keys, and then one more
pub moved_more : (after : ℕ) (a b : Bool) (m : Option ℕ) → moved_to after a (moved_to after b m) ≡ moved_to after (b || a) m
moved_more after true true None = refl
moved_more after true true (Some t) = refl
moved_more after true false m = refl
moved_more after false true m = refl
moved_more after false false m = refl

-- one more key of a list
pub one_more : (ks : List OwedKey) (i : ℕ) (d q : OwedKey) → i < length ks
    → has_key q (take (i + 1) ks) ≡ (has_key q (take i ks) || key_eq (get_or ks i d) q)
one_more ks i d q lt =
    ap (has_key q) (take_more ks i d lt)
    ∙ list_any-append (key_eq q) (take i ks) (get_or ks i d ∷ [])
    ∙ ap (λ b. has_key q (take i ks) || (b || false)) (turned_key q (get_or ks i d))
    ∙ last (has_key q (take i ks)) (key_eq (get_or ks i d) q)
  where
    last : (a b : Bool) → (a || (b || false)) ≡ (a || b)
    last true b = refl
    last false true = refl
    last false false = refl

-- a key that is paid among those up to one
pub paid_among : (upto : OwedKey → Bool) (k : OwedKey) (due : OwedKey → Option ℕ) → upto k ≡ true → (q : OwedKey)
    → cond (upto q) None (cond (key_eq k q) None (due q)) ≡ cond (upto q) None (due q)
paid_among upto k due passes q = at (key_eq k q) refl
  where
    at : (b : Bool) → key_eq k q ≡ b → cond (upto q) None (cond b None (due q)) ≡ cond (upto q) None (due q)
    at true same =
        let its : upto q ≡ true = ap upto (sym (same_key k q same)) ∙ passes in
        (λ i. cond (its i) None (cond true None (due q))) ∙ sym (λ i. cond (its i) None (due q))
    at false other = refl

-- all that are due at `now` are owed for a later moment at once
pub keeps_at_once : (d : DomainNo) (old between new : List Row) (due next : OwedKey → Option ℕ) (ks : List OwedKey) (now t : ℕ) → now < t
    → IsKept d old due → IsShaped new → IsFilled new
    → ((p : Moment) (q : OwedKey)
    → is_held between p q ≡ cond (moment_eq (record { due = t; domain = d }) p) (has_key q ks) (is_held old p q))
    → ((p : Moment) (q : OwedKey) → is_held new p q ≡ cond (is_before d now p) false (is_held between p q))
    → ((q : OwedKey) → next q ≡ option_map (renewed_due now t) (due q))
    → ((q : OwedKey) → has_key q ks ≡ is_due t (option_map (renewed_due now t) (due q)))
    → Keeps d old new next
keeps_at_once d old between new due next ks now t later kept shaped filled put taken is its = record {
  kept = record {
    shaped = shaped;
    filled = filled;
    told = λ s q.
        taken (record { due = s; domain = d }) q
        ∙ (λ i. cond (eq-eqb d.0 d.0 refl i && nat_le s now) false (put (record { due = s; domain = d }) q i))
        ∙ (λ i. cond (nat_le s now) false (cond (here t s d i) (its q i) (kept.told s q i)))
        ∙ at s (due q)
        ∙ ap (is_due s) (sym (is q));
  };
  others = λ p q differ.
      taken p q ∙ (λ i. cond (not_of d p differ i && nat_le p.due now) false (put p q i))
      ∙ ap (λ b. cond b (has_key q ks) (is_held old p q)) (elsewhere t d p differ);
}
  where
    apart : (a b : ℕ) → a < b → (a == b) ≡ false
    apart a b lt = false_from_ne_true (a == b) (λ same. absurd (omega (arith, eqb-true a b same)))

    over : (a b : ℕ) → b < a → (a == b) ≡ false
    over a b lt = false_from_ne_true (a == b) (λ same. absurd (omega (arith, eqb-true a b same)))

    never : (b : Bool) → cond b false false ≡ false
    never true = refl
    never false = refl

    at : (s : ℕ) (m : Option ℕ) → cond (nat_le s now) false (cond (t == s) (is_due t (option_map (renewed_due now t) m)) (is_due s m))
        ≡ is_due s (option_map (renewed_due now t) m)
    at s None = (λ i. cond (nat_le s now) false (never (t == s) i)) ∙ never (nat_le s now)
    at s (Some u) = elim (cases_lt now s) [
      | inr upto ↦
          (λ i. cond (le-leb s now upto i) false (cond (t == s) (t == renewed_due now t u) (s == u)))
          ∙ sym (elim (cases_lt now u) [
            | inl after ↦
                (λ i. s == cond (false_from_ne_true (nat_le u now) (λ le. absurd (omega (arith, leb-true u now le))) i) t u)
                ∙ apart s u (omega arith)
            | inr due_now ↦ (λ i. s == cond (le-leb u now due_now i) t u) ∙ apart s t (omega arith)
          ])
      | inl beyond ↦
          (λ i. cond (false_from_ne_true (nat_le s now) (λ le. absurd (omega (arith, leb-true s now le))) i)
          false (cond (t == s) (t == renewed_due now t u) (s == u)))
          ∙ elim (cases_Bool (t == s)) [
            | inl then ↦
                (λ i. cond (then i) (t == renewed_due now t u) (s == u)) ∙ ap (λ (n : ℕ). n == renewed_due now t u) (eqb-true t s then)
            | inr other ↦
                (λ i. cond (other i) (t == renewed_due now t u) (s == u))
                ∙ elim (cases_lt now u) [
                  | inl after ↦
                      sym (λ i. s == cond (false_from_ne_true (nat_le u now) (λ le. absurd (omega (arith, leb-true u now le))) i) t u)
                  | inr due_now ↦ over s u (omega arith) ∙ sym ((λ i. s == cond (le-leb u now due_now i) t u) ∙ turned s t ∙ other)
                ]
          ]
    ]

-- the keys that are then owed for it are those of a map that pass a test
module _ (now t : ℕ) where
  abbrev pub is_renewed : OwedKey × ℕ → Bool
  is_renewed e = renewed_due now t e.1 == t

  renewed_among : (all es : List (OwedKey × ℕ)) → All (λ e. due_of all e.0 ≡ Some e.1) es → (q : OwedKey)
      → has_key q (map (λ e. e.0) (filter is_renewed es)) ≡ true → is_due t (option_map (renewed_due now t) (due_of all q)) ≡ true
  renewed_among all [] found q there = absurd (false≢true there)
  renewed_among all (e ∷ es) found q there = elim (cases_Bool (is_renewed e)) [
    | inr goes ↦
        renewed_among all es (λ k d lt. found (suc k) d (omega arith))
        q (ap (λ b. has_key q (map (λ x. x.0) (cond b (e ∷ filter is_renewed es) (filter is_renewed es)))) (sym goes) ∙ there)
    | inl stays ↦ elim (cases_Bool (key_eq q e.0)) [
      | inl this ↦
          ap (λ (m : Option ℕ). is_due t (option_map (renewed_due now t) m))
          (ap (due_of all) (same_key q e.0 this) ∙ found 0 e (omega arith))
          ∙ turned t (renewed_due now t e.1) ∙ stays
      | inr other ↦
          renewed_among all es (λ k d lt. found (suc k) d (omega arith)) q
          (ap (λ b. b || has_key q (map (λ x. x.0) (filter is_renewed es))) (sym other)
          ∙ ap (λ b. has_key q (map (λ x. x.0) (cond b (e ∷ filter is_renewed es) (filter is_renewed es)))) (sym stays)
          ∙ there)
    ]
  ]

  among_renewed : (es : List (OwedKey × ℕ)) (q : OwedKey) → is_due t (option_map (renewed_due now t) (due_of es q)) ≡ true
      → has_key q (map (λ e. e.0) (filter is_renewed es)) ≡ true
  among_renewed [] q due = absurd (false≢true due)
  among_renewed (e ∷ es) q due = elim (cases_Bool (key_eq q e.0)) [
    | inl this ↦
        let stays : is_renewed e ≡ true =
        turned (renewed_due now t e.1) t
        ∙ ap (λ b. is_due t (option_map (renewed_due now t) (cond b (Some e.1) (due_of es q)))) (sym this)
        ∙ due in
        (λ i. has_key q (map (λ x. x.0) (cond (stays i) (e ∷ filter is_renewed es) (filter is_renewed es))))
        ∙ (λ i. this i || has_key q (map (λ x. x.0) (filter is_renewed es)))
    | inr other ↦
        kept_with (is_renewed e)
        (among_renewed es q (ap (λ b. is_due t (option_map (renewed_due now t) (cond b (Some e.1) (due_of es q)))) (sym other) ∙ due))
  ]
    where
      kept_with : (b : Bool) → has_key q (map (λ x. x.0) (filter is_renewed es)) ≡ true
          → has_key q (map (λ x. x.0) (cond b (e ∷ filter is_renewed es) (filter is_renewed es))) ≡ true
      kept_with true there = or_right (key_eq q e.0) (has_key q (map (λ x. x.0) (filter is_renewed es))) there
      kept_with false there = there

  pub renewed_keys : (es : List (OwedKey × ℕ)) → All (λ e. due_of es e.0 ≡ Some e.1) es → (q : OwedKey)
      → has_key q (map (λ e. e.0) (filter is_renewed es)) ≡ is_due t (option_map (renewed_due now t) (due_of es q))
  renewed_keys es found q = elim (cases_Bool (has_key q (map (λ e. e.0) (filter is_renewed es)))) [
    | inl there ↦ there ∙ sym (renewed_among es es found q there)
    | inr none ↦
        none ∙ sym (false_from_ne_true (is_due t (option_map (renewed_due now t) (due_of es q)))
        (λ due. false≢true (sym none ∙ among_renewed es q due)))
  ]

  found_by : (es : List (OwedKey × ℕ)) → All (λ e. lookup (is_at (keys.cmp-value.it e.0)) es ≡ Some e.1) es
      → All (λ e. due_of es e.0 ≡ Some e.1) es
  found_by es found k d lt = sym (looked_up (slice_index_or es k d).0 es) ∙ found k d lt

  -- so of a set of them
  pub renewed_set : (es : List (OwedKey × ℕ)) (ks : List OwedKey) → All (λ e. lookup (is_at (keys.cmp-value.it e.0)) es ≡ Some e.1) es
      → ((q : OwedKey)
      → list_any (is_at (keys.cmp-value.it q)) ks ≡ list_any (is_at (keys.cmp-value.it q)) (map (λ e. e.0) (filter is_renewed es)))
      → (q : OwedKey) → has_key q ks ≡ is_due t (option_map (renewed_due now t) (due_of es q))
  renewed_set es ks found made q =
      sym (contained q ks) ∙ made q ∙ contained q (map (λ e. e.0) (filter is_renewed es)) ∙ renewed_keys es (found_by es found) q
