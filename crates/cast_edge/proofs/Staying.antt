-- Sessions that end, over all calls.
use Rattle.std.proofs.Common.{◌∙◌, ap, arith, inl, inr, refl, subst, suc, sym, zero}
use Rattle.std.proofs.lemmas.Bool.{cases_Bool, eq-eqb, eqb-true, false≢true, or_cases}
use Rattle.std.specs.List.{list_any}
use Rattle.std.specs.Prelude.{◌≡◌, ◌||◌, ◌⊎◌, ◌++◌, ◌==◌, ◌∷◌, [], Bool, Contains, List, false, filter, if◌then◌else◌, map, not, true, ℕ}
use Rattle.cast_types.proofs.Contains.{contains_here, contains_later}
use Rattle.cast_edge.specs.declared.client.Session.{Session}
use Rattle.cast_edge.specs.declared.endings.End.TheVariants as how
use Rattle.cast_edge.specs.declared.endings.Ending.{Ending}
use Rattle.cast_edge.specs.Endings.{ahead, asked_for, due_again, ended, is_of, now_asked, now_due}
use Rattle.cast_edge.specs.Ends.{IsEnding, NoEndIsForgotten, ends, endings_after}
use Rattle.cast_edge.specs.Ends.Call.{Add, Ask, AskAgain, End, Remove}

-- ---- what ends stays

abbrev Ends : ℕ → Session → List Ending → Type 0
Ends n s es = (e : Ending) × Contains es e × IsEnding n s e

here : (n : ℕ) (s : Session) (e : Ending) (es : List Ending) → IsEnding n s e → Ends n s (e ∷ es)
here n s e es is = (e, contains_here e es, is)

there : (n : ℕ) (s : Session) (e : Ending) (es : List Ending) → Ends n s es → Ends n s (e ∷ es)
there n s e es (found, at, is) = (found, contains_later found e es at, is)

-- one of a list ends: the first, or one of the others
first_or : (n : ℕ) (s : Session) (e : Ending) (es : List Ending) → Ends n s (e ∷ es) → IsEnding n s e ⊎ Ends n s es
first_or n s e es (found, (zero, lt, at), is) = inl (subst (IsEnding n s) (sym at) is)
first_or n s e es (found, (suc k, lt, at), is) = inr (found, (k, omega (arith, lt), at), is)

-- where each that ends still ends when it is changed
all_change : (f : Ending → Ending) (n : ℕ) (s : Session) → ((e : Ending) → IsEnding n s e → IsEnding n s (f e)) → (es : List Ending) →
    Ends n s es → Ends n s (map f es)
all_change f n s keeps [] (found, at, is) = absurd (omega (arith, at.1))
all_change f n s keeps (e ∷ es) ends = elim (first_or n s e es ends) [
  | inl is ↦ here n s (f e) (map f es) (keeps e is)
  | inr later ↦ there n s (f e) (map f es) (all_change f n s keeps es later)
]

all_stay : (test : Ending → Bool) (n : ℕ) (s : Session) → ((e : Ending) → IsEnding n s e → test e ≡ true) → (es : List Ending) →
    Ends n s es → Ends n s (filter test es)
all_stay test n s keeps [] (found, at, is) = absurd (omega (arith, at.1))
all_stay test n s keeps (e ∷ es) ends = elim (first_or n s e es ends) [
  | inl is ↦ subst (λ b. Ends n s (if b then e ∷ filter test es else filter test es)) (sym (keeps e is)) (here n s e (filter test es) is)
  | inr later ↦ go (test e) (all_stay test n s keeps es later)
]
  where
    go : (b : Bool) → Ends n s (filter test es) → Ends n s (if b then e ∷ filter test es else filter test es)
    go true rest = there n s e (filter test es) rest
    go false rest = rest

added : (n : ℕ) (s : Session) (e : Ending) (es : List Ending) → Ends n s es → Ends n s (es ++ e ∷ [])
added n s e [] (found, at, is) = absurd (omega (arith, at.1))
added n s e (one ∷ es) ends = elim (first_or n s one es ends) [
  | inl is ↦ here n s one (es ++ e ∷ []) is
  | inr later ↦ there n s one (es ++ e ∷ []) (added n s e es later)
]

asks : (n m : ℕ) (s : Session) (e : Ending) → IsEnding n s e → IsEnding n s (asked_for m e)
asks n m s e (number, is) = go (is_of m e)
  where
    go : (b : Bool) → IsEnding n s (if b then record e { end = now_asked e.end } else e)
    go true = (
      number,
      elim is [
        | inl due ↦ inr (ap now_asked due)
        | inr asked ↦ inr (ap now_asked asked)
      ],
    )
    go false = (number, is)

asks_again : (n m : ℕ) (s : Session) (e : Ending) → IsEnding n s e → IsEnding n s (due_again m e)
asks_again n m s e (number, is) = go (is_of m e)
  where
    go : (b : Bool) → IsEnding n s (if b then record e { end = now_due e.end } else e)
    go true = (
      number,
      elim is [
        | inl due ↦ inl (ap now_due due)
        | inr asked ↦ inl (ap now_due asked)
      ],
    )
    go false = (number, is)

other_ends : (n m : ℕ) (s t : Session) (e : Ending) → (m == n) ≡ false → IsEnding n s e → IsEnding n s (ended m t e)
other_ends n m s t e other (number, is) =
    let not_it : is_of m e ≡ false = not_of (cases_Bool (is_of m e)) in
    subst (λ b. IsEnding n s (if b then record e { end = how.Due t } else e)) (sym not_it) (number, is)
  where
    not_of : (is_of m e ≡ true) ⊎ (is_of m e ≡ false) → is_of m e ≡ false
    not_of (inl same) = absurd (false≢true (sym other ∙ eq-eqb m n (sym (eqb-true e.number m same) ∙ number)))
    not_of (inr differs) = differs

stays : (n m : ℕ) (s : Session) (e : Ending) → (m == n) ≡ false → IsEnding n s e → not (is_of m e) ≡ true
stays n m s e other (number, is) = go (cases_Bool (is_of m e))
  where
    go : (is_of m e ≡ true) ⊎ (is_of m e ≡ false) → not (is_of m e) ≡ true
    go (inl same) = absurd (false≢true (sym other ∙ eq-eqb m n (sym (eqb-true e.number m same) ∙ number)))
    go (inr differs) = ap not differs

-- the session under a number ends with this call
begins : (n : ℕ) (s : Session) (es : List Ending) → list_any (is_of n) es ≡ true → Ends n s (map (ended n s) es)
begins n s [] some = absurd (false≢true some)
begins n s (e ∷ es) some = elim (or_cases (is_of n e) (list_any (is_of n) es) some) [
  | inl is ↦
      here n s (ended n s e) (map (ended n s) es)
      (subst (λ b. IsEnding n s (if b then record e { end = how.Due s } else e)) (sym is) (eqb-true e.number n is, inl refl))
  | inr later ↦ there n s (ended n s e) (map (ended n s) es) (begins n s es later)
]

neither : (a b : Bool) → (a || b) ≡ false → (a ≡ false) × (b ≡ false)
neither true b is = absurd (false≢true (sym is))
neither false b is = (refl, is)

pub no_end_is_forgotten : NoEndIsForgotten
no_end_is_forgotten n s [] before some none = begins n s (endings_after before) some
no_end_is_forgotten n s (Add m ∷ later) before some none =
    added n s (ahead m) (endings_after (later ++ End n s ∷ before)) (no_end_is_forgotten n s later before some none)
no_end_is_forgotten n s (Remove m ∷ later) before some none =
    let parts = neither (m == n) (list_any (ends n) later) none in
    all_stay (λ e. not (is_of m e)) n s (λ e is. stays n m s e parts.0 is) (endings_after (later ++ End n s ∷ before))
    (no_end_is_forgotten n s later before some parts.1)
no_end_is_forgotten n s (End m t ∷ later) before some none =
    let parts = neither (m == n) (list_any (ends n) later) none in
    all_change (ended m t) n s (λ e is. other_ends n m s t e parts.0 is) (endings_after (later ++ End n s ∷ before))
    (no_end_is_forgotten n s later before some parts.1)
no_end_is_forgotten n s (Ask m ∷ later) before some none =
    all_change (asked_for m) n s (λ e is. asks n m s e is) (endings_after (later ++ End n s ∷ before))
    (no_end_is_forgotten n s later before some none)
no_end_is_forgotten n s (AskAgain m ∷ later) before some none =
    all_change (due_again m) n s (λ e is. asks_again n m s e is) (endings_after (later ++ End n s ∷ before))
    (no_end_is_forgotten n s later before some none)
