-- Reading items one after the other, as a loop does.
use Rattle.std.proofs.Common.{◌≡◌, ◌≢◌, ℕ, suc, ◌-◌, ◌+◌, ◌≤◌, ◌<◌, List, [], ◌∷◌, ◌++◌}
use Rattle.std.proofs.Common.{Result, Ok, Err, refl, sym, ap, ◌∙◌, append_assoc, arith}
use Rattle.std.proofs.lemmas.List.{append-nil}
use Rattle.cast_field.specs.declared.fault.FrameFault.{FrameFault}
use Rattle.cast_field.specs.declared.fault.FrameFault.TheVariants.{NoMemory}
use Rattle.cast_field.specs.Reading.{◌>>=◌, Reader, many}

-- what was read before, and what is still read
abbrev pub with_front : {A : Type 0} → List A → Result (List A × List ℕ) FrameFault → Result (List A × List ℕ) FrameFault
with_front front read = read >>= λ x. Ok (front ++ x.0, x.1)

regroup : {A : Type 0} (front : List A) (n : A) (read : Result (List A × List ℕ) FrameFault)
    → with_front front (read >>= λ x. Ok (n ∷ x.0, x.1)) ≡ with_front (front ++ n ∷ []) read
regroup front n (Ok x) = ap (λ ns. Ok (ns, x.1)) (simp append_assoc)
regroup front n (Err f) = refl

pub goes_on : {S A : Type 0} (item : S → Reader A) (seen : A → S) (front : List A) (count i : ℕ) (last : S) (bytes : List ℕ) (n : A)
    (after : List ℕ) (total : Result (List A × List ℕ) FrameFault) → i < count → item last bytes ≡ Ok (n, after)
    → with_front front (many item seen (count - i) last bytes) ≡ total
    → with_front (front ++ n ∷ []) (many item seen (count - (i + 1)) (seen n) after) ≡ total
unfolding many
goes_on item seen front count i last bytes n after total lt h so_far =
    let k : count - i ≡ suc (count - (i + 1)) = omega arith in
    let one : with_front front (many item seen (count - i) last bytes)
    ≡ with_front (front ++ n ∷ []) (many item seen (count - (i + 1)) (seen n) after) =
    rw (k, h) (regroup front n (many item seen (count - (i + 1)) (seen n) after)) in
    sym one ∙ so_far

pub ends : {S A : Type 0} (item : S → Reader A) (seen : A → S) (e : FrameFault) (front : List A) (count i : ℕ) (last : S) (bytes : List ℕ)
    (total : Result (List A × List ℕ) FrameFault) → i < count → (e ≢ NoMemory → item last bytes ≡ Err e)
    → with_front front (many item seen (count - i) last bytes) ≡ total → e ≢ NoMemory → total ≡ Err e
unfolding many
ends item seen e front count i last bytes total lt h so_far other =
    let k : count - i ≡ suc (count - (i + 1)) = omega arith in
    let failed : item last bytes ≡ Err e = h other in
    let one : with_front front (many item seen (count - i) last bytes) ≡ Err e = rw (k, failed) refl in
    sym so_far ∙ one

pub is_done : {S A : Type 0} (item : S → Reader A) (seen : A → S) (front : List A) (count i : ℕ) (last : S) (bytes : List ℕ)
    (total : Result (List A × List ℕ) FrameFault) → count ≤ i → with_front front (many item seen (count - i) last bytes) ≡ total
    → total ≡ Ok (front, bytes)
unfolding many
is_done item seen front count i last bytes total le so_far =
    let k : count - i ≡ 0 = omega arith in
    let one : with_front front (many item seen (count - i) last bytes) ≡ Ok (front, bytes) =
    rw k (ap (λ ns. Ok (ns, bytes)) (append-nil front)) in
    sym so_far ∙ one
