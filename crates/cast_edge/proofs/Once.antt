-- What is on the way is not handed in again.
use Rattle.std.proofs.Common.{◌∙◌, ap, refl, subst, sym}
use Rattle.std.proofs.lemmas.Bool.{eq-eqb, eqb-true, false≢true}
use Rattle.std.specs.Prelude.{◌≡◌, ◌++◌, ◌==◌, ◌∷◌, [], Bool, List, Some, false, filter, if◌then◌else◌, map, not, true, ℕ}
use Rattle.cast_edge.specs.declared.client.Session.{Session}
use Rattle.cast_edge.specs.declared.endings.End.{End as How}
use Rattle.cast_edge.specs.declared.endings.End.TheVariants as how
use Rattle.cast_edge.specs.declared.endings.Ending.{Ending}
use Rattle.cast_edge.specs.Endings.{ahead, asked_for, due_again, due_or, ended, is_of, next_due, now_asked, now_due}
use Rattle.cast_edge.specs.Ends.{Call, NoneIsAskedTwice, endings_after, is_on_the_way}
use Rattle.cast_edge.specs.Ends.Call.{Add, Ask, AskAgain, End, Remove}

-- it is not to be handed in
abbrev IsNotDue : How → Type 0
IsNotDue end = (s : Session) → end ≡ how.Due s → ⊥

-- none of this number is
abbrev NoneIsDue : ℕ → List Ending → Type 0
NoneIsDue n [] = Unit {0}
NoneIsDue n (e ∷ es) = (e.number ≡ n → IsNotDue e.end) × NoneIsDue n es

ahead_is_not : IsNotDue how.Ahead
ahead_is_not s is = cc

asked_is_not : (end : How) → IsNotDue (now_asked end)
asked_is_not how.Ahead s is = cc
asked_is_not (how.Due t) s is = cc
asked_is_not (how.Asked t) s is = cc

none_added : (n m : ℕ) (es : List Ending) → NoneIsDue n es → NoneIsDue n (es ++ ahead m ∷ [])
none_added n m [] none = ((λ same. ahead_is_not), tt)
none_added n m (e ∷ es) none = (none.0, none_added n m es none.1)

none_left : (n : ℕ) (test : Ending → Bool) (es : List Ending) → NoneIsDue n es → NoneIsDue n (filter test es)
none_left n test [] none = tt
none_left n test (e ∷ es) none = go (test e) (none_left n test es none.1)
  where
    go : (b : Bool) → NoneIsDue n (filter test es) → NoneIsDue n (if b then e ∷ filter test es else filter test es)
    go true rest = (none.0, rest)
    go false rest = rest

-- a change that leaves those of this number as they are
none_changed : (n : ℕ) (f : Ending → Ending) → ((e : Ending) → ((f e).number ≡ e.number) × (e.number ≡ n → f e ≡ e)) → (es : List Ending) →
    NoneIsDue n es → NoneIsDue n (map f es)
none_changed n f leaves [] none = tt
none_changed n f leaves (e ∷ es) none = (
  (λ same.
      let was : e.number ≡ n = sym (leaves e).0 ∙ same in
      subst (λ (x : Ending). IsNotDue x.end) (sym ((leaves e).1 was)) (none.0 was)),
  none_changed n f leaves es none.1,
)

-- a change of another number
other_than : (n m : ℕ) (change : Ending → Ending) → ((e : Ending) → (change e).number ≡ e.number) → (m == n) ≡ false → (e : Ending) →
    ((if is_of m e then change e else e).number ≡ e.number) × (e.number ≡ n → (if is_of m e then change e else e) ≡ e)
other_than n m change same other e = go (is_of m e) refl
  where
    go : (b : Bool) → is_of m e ≡ b →
        ((if b then change e else e).number ≡ e.number) × (e.number ≡ n → (if b then change e else e) ≡ e)
    go true is = (same e, λ it. absurd (false≢true (sym other ∙ eq-eqb m n (sym (eqb-true e.number m is) ∙ it))))
    go false is = (refl, λ it. refl)

-- those of the number that is asked for, whatever they were
none_asked : (n m : ℕ) → (m == n) ≡ true → (es : List Ending) → NoneIsDue n (map (asked_for m) es)
none_asked n m same [] = tt
none_asked n m same (e ∷ es) = (first (is_of m e) refl, none_asked n m same es)
  where
    first : (b : Bool) → is_of m e ≡ b → (if b then record e { end = now_asked e.end } else e).number ≡ n →
        IsNotDue (if b then record e { end = now_asked e.end } else e).end
    first true is it = asked_is_not e.end
    first false is it =
        absurd (false≢true (sym is ∙ eq-eqb e.number m (it ∙ sym (eqb-true m n same))))

on_the_way : (n : ℕ) (calls : List Call) → is_on_the_way n calls ≡ true → NoneIsDue n (endings_after calls)
on_the_way n [] is = absurd (false≢true is)
on_the_way n (Add m ∷ before) is = none_added n m (endings_after before) (on_the_way n before is)
on_the_way n (Remove m ∷ before) is = none_left n (λ e. not (is_of m e)) (endings_after before) (on_the_way n before is)
on_the_way n (End m s ∷ before) is = go (m == n) refl is (on_the_way n before)
  where
    go : (b : Bool) → (m == n) ≡ b → (if b then false else is_on_the_way n before) ≡ true →
        (is_on_the_way n before ≡ true → NoneIsDue n (endings_after before)) → NoneIsDue n (map (ended m s) (endings_after before))
    go true same is was = absurd (false≢true is)
    go false other is was =
        none_changed n (ended m s) (other_than n m (λ e. record e { end = how.Due s }) (λ e. refl) other) (endings_after before) (was is)
on_the_way n (Ask m ∷ before) is = go (m == n) refl is (on_the_way n before)
  where
    go : (b : Bool) → (m == n) ≡ b → (if b then true else is_on_the_way n before) ≡ true →
        (is_on_the_way n before ≡ true → NoneIsDue n (endings_after before)) → NoneIsDue n (map (asked_for m) (endings_after before))
    go true same is was = none_asked n m same (endings_after before)
    go false other is was =
        none_changed n (asked_for m) (other_than n m (λ e. record e { end = now_asked e.end }) (λ e. refl) other) (endings_after before)
        (was is)
on_the_way n (AskAgain m ∷ before) is = go (m == n) refl is (on_the_way n before)
  where
    go : (b : Bool) → (m == n) ≡ b → (if b then false else is_on_the_way n before) ≡ true →
        (is_on_the_way n before ≡ true → NoneIsDue n (endings_after before)) → NoneIsDue n (map (due_again m) (endings_after before))
    go true same is was = absurd (false≢true is)
    go false other is was =
        none_changed n (due_again m) (other_than n m (λ e. record e { end = now_due e.end }) (λ e. refl) other) (endings_after before)
        (was is)

abbrev Numbered : Type 0
Numbered = ℕ × Session

same_pair : (p q : Numbered) → Some p ≡ Some q → p ≡ q
same_pair p q same = cc

-- so none of them is found
not_found : (n : ℕ) (s : Session) (es : List Ending) → NoneIsDue n es → next_due es ≡ Some (n, s) → ⊥
not_found n s [] none found = cc
not_found n s (e ∷ es) none found = go e.end refl found (not_found n s es none.1)
  where
    go : (end : How) → e.end ≡ end → due_or e.number end (next_due es) ≡ Some (n, s) → (next_due es ≡ Some (n, s) → ⊥) → ⊥
    go how.Ahead is found others = others found
    go (how.Due t) is found others = none.0 (ap (λ (p : Numbered). p.0) (same_pair (e.number, t) (n, s) found)) t is
    go (how.Asked t) is found others = others found

pub none_is_asked_twice : NoneIsAskedTwice
none_is_asked_twice n s calls is found = not_found n s (endings_after calls) (on_the_way n calls is) found
