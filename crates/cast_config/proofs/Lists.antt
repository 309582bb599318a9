-- The items of an array as a list, and tests of them one after the other, as a loop makes them.
use Rattle.std.proofs.Common.{◌≡◌, ℕ, ◌+◌, ◌<◌, ◌≤◌, List, [], ◌∷◌, length, get_or, drop, map, Result, Ok, Err, refl, sym, ap, ◌∙◌}
use Rattle.std.proofs.lemmas.List.{drop_all, drop_more}
use Rattle.toml.specs.declared.value.Value.{Value}
use Rattle.toml.specs.View.{items_view, view}
use Rattle.cast_config.specs.declared.fault.ConfigFault.{ConfigFault}
use Rattle.cast_config.specs.Fields.{all_pass, list_of}

pub list_of-items_view : (vs : List Value) → list_of (items_view vs) ≡ map view vs
list_of-items_view [] = refl
list_of-items_view (v ∷ vs) = ap (λ ds. view v ∷ ds) (list_of-items_view vs)

pub passes_on : {X A B : Type 0} (f : X → A) (read : A → Result B ConfigFault) (xs : List X) (i : ℕ) (d : X) (y : B)
    (total : Result (Unit {0}) ConfigFault) → i < length xs → read (f (get_or xs i d)) ≡ Ok y
    → all_pass read (map f (drop i xs)) ≡ total → all_pass read (map f (drop (i + 1) xs)) ≡ total
passes_on f read xs i d y total lt h so_far =
    let one : all_pass read (map f (drop i xs)) ≡ all_pass read (map f (drop (i + 1) xs)) = rw (drop_more xs i d lt, h) refl in
    sym one ∙ so_far

pub stops_at : {X A B : Type 0} (f : X → A) (read : A → Result B ConfigFault) (xs : List X) (i : ℕ) (d : X) (e : ConfigFault)
    (total : Result (Unit {0}) ConfigFault) → i < length xs → read (f (get_or xs i d)) ≡ Err e
    → all_pass read (map f (drop i xs)) ≡ total → total ≡ Err e
stops_at f read xs i d e total lt h so_far =
    let one : all_pass read (map f (drop i xs)) ≡ Err e = rw (drop_more xs i d lt, h) refl in
    sym so_far ∙ one

pub all_passed : {X A B : Type 0} (f : X → A) (read : A → Result B ConfigFault) (xs : List X) (i : ℕ)
    (total : Result (Unit {0}) ConfigFault) → length xs ≤ i
    → all_pass read (map f (drop i xs)) ≡ total → total ≡ Ok tt
all_passed f read xs i total le so_far =
    let one : all_pass read (map f (drop i xs)) ≡ Ok tt = rw (drop_all i xs le) refl in
    sym so_far ∙ one
