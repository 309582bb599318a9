-- Reading items one after the other, as a loop does, and what comes of all of them.
use Rattle.std.proofs.Common.{◌≡◌, ℕ, ◌+◌, ◌<◌, ◌≤◌, List, [], ◌∷◌, ◌++◌, length, get_or, drop}
use Rattle.std.proofs.Common.{map, Result, Ok, Err, refl, sym, ap, subst, ◌∙◌, append_assoc}
use Rattle.std.specs.List.{AllByRecursion}
use Rattle.std.proofs.lemmas.List.{append-nil, drop_all, drop_more}
use Rattle.cast_script.specs.WordReadings.{◌>>=◌, each}
use Rattle.cast_script.proofs.Results.{bind_ok, ok_is}

-- what was read before, and what is still read
abbrev pub with_front : {A E : Type 0} → List A → Result (List A) E → Result (List A) E
with_front front read = read >>= λ xs. Ok (front ++ xs)

regroup : {A E : Type 0} (front : List A) (y : A) (read : Result (List A) E)
    → with_front front (read >>= λ ys. Ok (y ∷ ys)) ≡ with_front (front ++ y ∷ []) read
regroup front y (Ok ys) = ap (λ zs. Ok zs) (sym (append_assoc front (y ∷ []) ys))
regroup front y (Err e) = refl

pub goes_on : {X A B E : Type 0} (f : X → A) (read : A → Result B E) (front : List B) (xs : List X) (i : ℕ) (d : X) (y : B)
    (total : Result (List B) E) → i < length xs → read (f (get_or xs i d)) ≡ Ok y
    → with_front front (each read (map f (drop i xs))) ≡ total → with_front (front ++ y ∷ []) (each read (map f (drop (i + 1) xs))) ≡ total
unfolding each
goes_on f read front xs i d y total lt h so_far =
    let one : with_front front (each read (map f (drop i xs))) ≡ with_front (front ++ y ∷ []) (each read (map f (drop (i + 1) xs))) =
    rw (drop_more xs i d lt, h) (regroup front y (each read (map f (drop (i + 1) xs)))) in
    sym one ∙ so_far

pub ends : {X A B E : Type 0} (f : X → A) (read : A → Result B E) (front : List B) (xs : List X) (i : ℕ) (d : X) (e : E)
    (total : Result (List B) E) → i < length xs → read (f (get_or xs i d)) ≡ Err e
    → with_front front (each read (map f (drop i xs))) ≡ total → total ≡ Err e
unfolding each
ends f read front xs i d e total lt h so_far =
    let one : with_front front (each read (map f (drop i xs))) ≡ Err e = rw (drop_more xs i d lt, h) refl in
    sym so_far ∙ one

pub is_done : {X A B E : Type 0} (f : X → A) (read : A → Result B E) (front : List B) (xs : List X) (i : ℕ) (total : Result (List B) E)
    → length xs ≤ i
    → with_front front (each read (map f (drop i xs))) ≡ total → total ≡ Ok front
unfolding each
is_done f read front xs i total le so_far =
    let one : with_front front (each read (map f (drop i xs))) ≡ Ok front = rw (drop_all i xs le) (ap (λ ys. Ok ys) (append-nil front)) in
    sym so_far ∙ one

-- where each item is read of its text, all are read of theirs
pub each_read : {A B E : Type 0} (read : A → Result B E) (text : B → A) (P : B → Type 0)
    (one : (a : A) (b : B) → read a ≡ Ok b → (a ≡ text b) × P b) → (items : List A) (bs : List B) → each read items ≡ Ok bs
    → (items ≡ map text bs) × AllByRecursion P bs
unfolding each
each_read {E = E} read text P one [] bs h = subst (λ bs. ([] ≡ map text bs) × AllByRecursion P bs) (ok_is E [] bs h) (refl, tt)
each_read {E = E} read text P one (a ∷ items) bs h =
    let first = bind_ok (read a) _ bs h in
    let rest = bind_ok (each read items) _ bs first.2 in
    let here = one a first.0 first.1 in
    let there = each_read read text P one items rest.0 rest.1 in
    subst (λ bs. (a ∷ items ≡ map text bs) × AllByRecursion P bs) (ok_is E (first.0 ∷ rest.0) bs rest.2)
    (cc (here.0, there.0), (here.1, there.1))

pub each_again : {A B E : Type 0} (read : A → Result B E) (text : B → A) (P : B → Type 0) (one : (b : B) → P b → read (text b) ≡ Ok b)
    → (bs : List B) → AllByRecursion P bs → each read (map text bs) ≡ Ok bs
unfolding each
each_again read text P one [] all = refl
each_again read text P one (b ∷ bs) all = rw (one b all.0, each_again read text P one bs all.1) refl
