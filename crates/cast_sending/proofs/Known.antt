-- What is known of messages by their ids, and what becomes of it in a map.
use Rattle.std.proofs.Common.{◌≡◌, ℕ, ◌≤◌, ◌<◌, ◌+◌, Bool, true, false, [], ◌∷◌, cond, length, arith}
use Rattle.std.proofs.Common.{Option, Some, None, Result, Ok, Err, refl, sym, ap, subst, ◌∙◌, inl, inr}
use Rattle.std.specs.Prelude.{◌&&◌, is_some, nat_le, IfOk, OnOk, OnErr}
use Rattle.std.specs.Option.{is_none}
use Rattle.std.specs.BTreeMap.{is_at}
use Rattle.std.specs.Map.{lookup}
use Rattle.std.proofs.lemmas.Bool.{cases_Bool, false≢true, le-leb, lt-leb, leb-false}
use Rattle.std.proofs.lemmas.Option.{none-some}
use Rattle.cast_types.specs.declared.names.Uid.{Uid}
use Rattle.cast_types.specs.Names.{uid_cmp, uid_eq}
use Rattle.cast_types.proofs.Orders.{uid_total, uid_exact, same_uid, uid_itself, tie_self, tie_other}
use Rattle.cast_sending.specs.declared.dues.Due.{Due}
use Rattle.cast_sending.specs.Dues.{Dues, due_of, count_known, kept_beside, Becomes, Learns}

id_tests : (a b : Uid) → is_at (uid_cmp a) b ≡ uid_eq a b
id_tests a b = elim (cases_Bool (uid_eq a b)) [
  | inl same ↦ tie_self uid_total a b (same_uid a b same) ∙ sym same
  | inr other ↦ tie_other uid_exact a b (λ e. false≢true (sym other ∙ ap (uid_eq a) (sym e) ∙ uid_itself a)) ∙ sym other
]

pub looked_up : (id : Uid) (dues : Dues) → lookup (is_at (uid_cmp id)) dues ≡ due_of dues id
looked_up id [] = refl
looked_up id (one ∷ others) = λ i. cond (id_tests id one.0 i) (Some one.1) (looked_up id others i)

-- in the words of a map
abbrev Sets : Dues → Uid → Option Due → Dues → Type 0
Sets old id due new =
    (other : Uid) → lookup (is_at (uid_cmp other)) new ≡ cond (is_at (uid_cmp id) other) due (lookup (is_at (uid_cmp other)) old)

becomes : (old new : Dues) (id : Uid) (due : Option Due) → Sets old id due new →
    length new + count_known (due_of old id) ≡ length old + count_known due → Becomes old id due new
becomes old new id due sets count = record {
  each = λ other. sym (looked_up other new) ∙ sets other ∙ (λ i. cond (id_tests id other i) due (looked_up other old i));
  count = count;
}

-- ---- what is forgotten

pub removed : (was : Option Due) (old new : Dues) (id : Uid) → was ≡ lookup (is_at (uid_cmp id)) old → Sets old id None new →
    length new + cond (is_some was) 1 0 ≡ length old → Becomes old id None new
removed was old new id found sets count =
    let same : due_of old id ≡ was = sym (looked_up id old) ∙ sym found in
    let less : length new + count_known (due_of old id) ≡ length old = ap (λ (o : Option Due). length new + count_known o) same ∙ count in
    becomes old new id None sets (omega (arith, less))

-- where there are many, and the message is not among them
pub all_forgotten : (dues : Dues) (id : Uid) → 4096 ≤ length dues → is_some (lookup (is_at (uid_cmp id)) dues) ≡ false →
    kept_beside dues id ≡ []
all_forgotten dues id many none =
    ap (λ (b : Bool). cond (b && is_none (due_of dues id)) [] dues) (le-leb 4096 (length dues) many)
    ∙ by (due_of dues id) (ap is_some (sym (looked_up id dues)) ∙ none)
  where
    by : (due : Option Due) → is_some due ≡ false → cond (is_none due) [] dues ≡ []
    by None is = refl
    by (Some due) is = absurd (false≢true (sym is))

pub known_stays : (dues : Dues) (id : Uid) → is_some (lookup (is_at (uid_cmp id)) dues) ≡ true → kept_beside dues id ≡ dues
known_stays dues id some = by (nat_le 4096 (length dues)) (due_of dues id) (ap is_some (sym (looked_up id dues)) ∙ some)
  where
    by : (many : Bool) (due : Option Due) → is_some due ≡ true → cond (many && is_none due) [] dues ≡ dues
    by many None is = absurd (false≢true is)
    by true (Some due) is = refl
    by false (Some due) is = refl

pub few_stay : (dues : Dues) (id : Uid) → length dues < 4096 → kept_beside dues id ≡ dues
few_stay dues id few = ap (λ (b : Bool). cond (b && is_none (due_of dues id)) [] dues) (lt-leb 4096 (length dues) few)

pub kept_same : (dues : Dues) (id : Uid) → due_of (kept_beside dues id) id ≡ due_of dues id
kept_same dues id = by (nat_le 4096 (length dues)) (due_of dues id) refl
  where
    by : (many : Bool) (due : Option Due) → due_of dues id ≡ due → due_of (cond (many && is_none due) [] dues) id ≡ due_of dues id
    by true None is = sym is
    by true (Some due) is = refl
    by false due is = refl

-- there is room for one more, or it is there
kept_few : (dues : Dues) (id : Uid) → length dues ≤ 4096 → length (kept_beside dues id) + 1 ≤ 4096 + count_known (due_of dues id)
kept_few dues id few = by (nat_le 4096 (length dues)) refl (due_of dues id)
  where
    by : (many : Bool) → nat_le 4096 (length dues) ≡ many → (due : Option Due) →
        length (cond (many && is_none due) [] dues) + 1 ≤ 4096 + count_known due
    by true is None = omega arith
    by true is (Some due) = omega (arith, few)
    by false is None = omega (arith, leb-false 4096 (length dues) is)
    by false is (Some due) = omega (arith, few)

-- ---- what is learnt

counted : (new old : ℕ) (was : Option Due) → new ≡ old + cond (is_some was) 0 1 → new + count_known was ≡ old + 1
counted new old None more = omega (arith, more)
counted new old (Some due) more = omega (arith, more)

inserted : (was : Option Due) (old new : Dues) (id : Uid) (due : Due) → was ≡ lookup (is_at (uid_cmp id)) old →
    Sets old id (Some due) new → length new ≡ length old + cond (is_some was) 0 1 → Becomes old id (Some due) new
inserted was old new id due found sets count =
    becomes old new id (Some due) sets
    (ap (λ (o : Option Due). length new + count_known o) (sym (looked_up id old) ∙ sym found) ∙ counted (length new) (length old) was count)

-- the map was as it is kept
pub learnt : {E : Type 0} (r : Result (Option Due) E) (old kept new : Dues) (id : Uid) (due : Due) → kept ≡ kept_beside old id →
    IfOk r (λ was. was ≡ lookup (is_at (uid_cmp id)) kept) → OnOk r (Sets kept id (Some due) new) →
    IfOk r (λ was. length new ≡ length kept + cond (is_some was) 0 1) →
    OnErr r (lookup (is_at (uid_cmp id)) kept ≡ None) → OnErr r (new ≡ kept) → Learns old id due new
learnt (Ok was) old kept new id due is found sets count absent stays =
    inl (subst (λ (k : Dues). Becomes k id (Some due) new) is (inserted was kept new id due found sets count))
learnt (Err e) old kept new id due is found sets count absent stays =
    inr (sym (kept_same old id) ∙ (ap (λ (k : Dues). due_of k id) (sym is) ∙ (sym (looked_up id kept) ∙ absent)), stays ∙ is)

-- a message that is known finds memory
pub relearnt : {E : Type 0} (r : Result (Option Due) E) (old new : Dues) (id : Uid) (before due : Due) → due_of old id ≡ Some before →
    IfOk r (λ was. was ≡ lookup (is_at (uid_cmp id)) old) → OnOk r (Sets old id (Some due) new) →
    IfOk r (λ was. length new ≡ length old + cond (is_some was) 0 1) →
    OnErr r (lookup (is_at (uid_cmp id)) old ≡ None) → Becomes old id (Some due) new
relearnt (Ok was) old new id before due some found sets count absent = inserted was old new id due found sets count
relearnt (Err e) old new id before due some found sets count absent =
    absurd (none-some before (sym absent ∙ (looked_up id old ∙ some)))

pub few_learnt : (old new : Dues) (id : Uid) (due : Due) → length old ≤ 4096 → Learns old id due new → length new ≤ 4096
few_learnt old new id due few (inl becomes) =
    omega (arith, becomes.count, ap count_known (kept_same old id), kept_few old id few)
few_learnt old new id due few (inr stays) =
    omega (arith, ap count_known stays.0, ap length stays.1, kept_few old id few)
