-- Entries by session, with one more at their end.
use Rattle.std.proofs.Common.{◌≡◌, ◌≢◌, ℕ, zero, suc, ◌+◌, ◌-◌, ◌<◌, ◌≤◌, max, ◌==◌, false, cond, List, [], ◌∷◌, ◌++◌}
use Rattle.std.proofs.Common.{map, filter, length, get_or, set, replicate, refl, sym, ap, ◌∙◌, append_assoc, arith}
use Rattle.std.specs.List.{range_with_len}
use Rattle.std.proofs.lemmas.Bool.{eq-eqb, ne_eqb}
use Rattle.std.proofs.lemmas.List.{append-nil, map-append, replicate_more}
use Rattle.std.proofs.lemmas.List.Elements.{filter-append}
use Rattle.std.proofs.lemmas.List.FromFn.{length-map-range_with_len, get_or-map-range_with_len, map-range_with_len_more}
use Rattle.cast_message.specs.declared.client.Push.{Push}
use Rattle.cast_rules.specs.Run.{entries_for}
use Rattle.cast_isolation.specs.Replays.{last_serial, by_session}

-- Functions over a range of numbers

same_mapped : {X : Type 0} (f g : ℕ → X) (a n : ℕ) → ((j : ℕ) → a ≤ j → f j ≡ g j) → map f (range_with_len a n) ≡ map g (range_with_len a n)
same_mapped f g a zero same = refl
same_mapped f g a (suc n) same =
    let later = same_mapped f g (a + 1) n (λ j above. same j (omega arith)) in
    λ i. same a (omega arith) i ∷ later i

-- another value at one place
set_mapped : {X : Type 0} (f g : ℕ → X) (a n i k : ℕ) → i < n → a + i ≡ k → ((j : ℕ) → j ≢ k → f j ≡ g j) →
    set (map f (range_with_len a n)) i (g k) ≡ map g (range_with_len a n)
set_mapped f g a zero i k below at same = absurd (omega arith)
set_mapped f g a (suc n) zero k below at same =
    let first : k ≡ a = omega arith in
    let later = same_mapped f g (a + 1) n (λ j above. same j (λ is. absurd (omega arith))) in
    λ i. g (first i) ∷ later i
set_mapped f g a (suc n) (suc i) k below at same =
    let first : f a ≡ g a = same a (λ is. absurd (omega arith)) in
    let later = set_mapped f g (a + 1) n i k (omega arith) (omega arith) same in
    λ j. first j ∷ later j

-- The entries of one session

none_for : (pushed : List (ℕ × Push)) (j : ℕ) → last_serial pushed < j → entries_for pushed j ≡ []
none_for [] j below = refl
none_for (x ∷ pushed) j below =
    let rest : List (ℕ × Push) = filter (λ (y : ℕ × Push). y.0 == j) pushed in
    let other : (x.0 == j) ≡ false = ne_eqb x.0 j (λ same. absurd (omega arith)) in
    ap (λ b. map (λ (y : ℕ × Push). y.1) (cond b (x ∷ rest) rest)) other ∙ none_for pushed j (omega arith)

-- lists of sessions behind the last are empty
none_behind : (pushed : List (ℕ × Push)) (n m : ℕ) → last_serial pushed ≤ n →
    map (entries_for pushed) (range_with_len 1 n) ++ replicate m [] ≡ map (entries_for pushed) (range_with_len 1 (n + m))
none_behind pushed n zero within =
    let all : n ≡ n + 0 = omega arith in
    append-nil (map (entries_for pushed) (range_with_len 1 n)) ∙ ap (λ k. map (entries_for pushed) (range_with_len 1 k)) all
none_behind pushed n (suc m) within =
    let front : List (List Push) = map (entries_for pushed) (range_with_len 1 n) in
    let one : suc m ≡ m + 1 = omega arith in
    let all : n + m + 1 ≡ n + suc m = omega arith in
    ap (λ k. front ++ replicate k []) one
    ∙ ap (λ more. front ++ more) (sym (replicate_more m []))
    ∙ sym (append_assoc front (replicate m []) ([] ∷ []))
    ∙ (λ i. none_behind pushed n m within i ++ sym (none_for pushed (1 + (n + m)) (omega arith)) i ∷ [])
    ∙ sym (map-range_with_len_more (entries_for pushed) 1 (n + m) (1 + (n + m)) refl)
    ∙ ap (λ k. map (entries_for pushed) (range_with_len 1 k)) all

module _ (k : ℕ) (p : Push) where
  last_more : (pushed : List (ℕ × Push)) → last_serial (pushed ++ (k, p) ∷ []) ≡ max (last_serial pushed) k
  last_more [] = omega arith
  last_more (x ∷ pushed) =
      ap (max x.0) (last_more pushed) ∙ omega arith

  entries_more : (pushed : List (ℕ × Push)) (j : ℕ) →
      entries_for (pushed ++ (k, p) ∷ []) j ≡ entries_for pushed j ++ entries_for ((k, p) ∷ []) j
  entries_more pushed j =
      ap (map (λ (y : ℕ × Push). y.1)) (filter-append (λ (y : ℕ × Push). y.0 == j) pushed ((k, p) ∷ []))
      ∙ map-append (λ (y : ℕ × Push). y.1) (filter (λ y. y.0 == j) pushed) (filter (λ y. y.0 == j) ((k, p) ∷ []))

  other_same : (pushed : List (ℕ × Push)) (j : ℕ) → j ≢ k → entries_for pushed j ≡ entries_for (pushed ++ (k, p) ∷ []) j
  other_same pushed j other =
      let differ : (k == j) ≡ false = ne_eqb k j (λ same. other (sym same)) in
      sym (append-nil (entries_for pushed j))
      ∙ sym (ap (λ b. entries_for pushed j ++ map (λ (y : ℕ × Push). y.1) (cond b ((k, p) ∷ []) [])) differ)
      ∙ sym (entries_more pushed j)

  own_more : (pushed : List (ℕ × Push)) → entries_for pushed k ++ p ∷ [] ≡ entries_for (pushed ++ (k, p) ∷ []) k
  own_more pushed =
      sym (ap (λ b. entries_for pushed k ++ map (λ (y : ℕ × Push). y.1) (cond b ((k, p) ∷ []) [])) (eq-eqb k k refl))
      ∙ sym (entries_more pushed k)

-- no session has the serial 0
pub nowhere_more : (pushed : List (ℕ × Push)) (p : Push) →
    by_session pushed ++ replicate (0 - length (by_session pushed)) [] ≡ by_session (pushed ++ (0, p) ∷ [])
nowhere_more pushed p =
    let none : 0 - length (by_session pushed) ≡ 0 = omega arith in
    let last : last_serial (pushed ++ (0, p) ∷ []) ≡ last_serial pushed = last_more 0 p pushed ∙ omega arith in
    ap (λ n. by_session pushed ++ replicate n []) none
    ∙ append-nil (by_session pushed)
    ∙ same_mapped (entries_for pushed) (entries_for (pushed ++ (0, p) ∷ [])) 1 (last_serial pushed)
    (λ j above. other_same 0 p pushed j (λ is. absurd (omega arith)))
    ∙ sym (ap (λ n. map (entries_for (pushed ++ (0, p) ∷ [])) (range_with_len 1 n)) last)

-- the lists reach the session of a serial
pub reached : (pushed : List (ℕ × Push)) (k : ℕ) → by_session pushed ++ replicate (k - length (by_session pushed))
    [] ≡ map (entries_for pushed) (range_with_len 1 (max (last_serial pushed) k))
reached pushed k =
    let long = length-map-range_with_len (entries_for pushed) 1 (last_serial pushed) in
    let last : last_serial pushed + (k - last_serial pushed) ≡ max (last_serial pushed) k = omega arith in
    ap (λ n. by_session pushed ++ replicate (k - n) []) long
    ∙ none_behind pushed (last_serial pushed) (k - last_serial pushed) (omega arith)
    ∙ ap (λ n. map (entries_for pushed) (range_with_len 1 n)) last

-- and its own has the entry at the end
pub session_more : (pushed : List (ℕ × Push)) (k i : ℕ) → 1 + i ≡ k → (p : Push) (lists : List (List Push)) →
    lists ≡ by_session pushed ++ replicate (k - length (by_session pushed)) [] → (own : List Push) → own ≡ get_or lists i own →
    set lists i (own ++ p ∷ []) ≡ by_session (pushed ++ (k, p) ∷ [])
session_more pushed k i at p lists is own read =
    let f : ℕ → List Push = entries_for pushed in
    let g : ℕ → List Push = entries_for (pushed ++ (k, p) ∷ []) in
    let n : ℕ = max (last_serial pushed) k in
    let there : lists ≡ map f (range_with_len 1 n) = is ∙ reached pushed k in
    let here : own ≡ f k =
    read ∙ ap (λ xs. get_or xs i own) there ∙ get_or-map-range_with_len f 1 n i k own (omega arith) at in
    (λ j. set (there j) i (here j ++ p ∷ []))
    ∙ ap (set (map f (range_with_len 1 n)) i) (own_more k p pushed)
    ∙ set_mapped f g 1 n i k (omega arith) at (λ j other. other_same k p pushed j other)
    ∙ sym (ap (λ m. map g (range_with_len 1 m)) (last_more k p pushed))
