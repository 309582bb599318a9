-- A refusal is that of its number, and its number is its own.
use Rattle.std.proofs.Common.{◌≡◌, ℕ, zero, suc, ◌+◌, Bool, true, ◌&&◌, eqb, List, [], ◌∷◌, get_or, Some, refl, ap, arith, lit≤}
use Rattle.std.specs.Prelude.{slice_get}
use Rattle.std.proofs.lemmas.Bool.{and_parts, eqb-true}
use Rattle.std.proofs.lemmas.Option.{slice_get-get_or}
use Rattle.cast_types.specs.declared.refusal.Refusal.{Refusal}
use Rattle.cast_types.specs.declared.refusal.Refusal.TheVariants.{BadFrame, NotOpen, TooManySessions, NoGroup, NotMember}
use Rattle.cast_types.specs.declared.refusal.Refusal.TheVariants.{AlreadyMember, Flushing, OwnAbcast, HeldFull, TooLong}
use Rattle.cast_types.specs.declared.refusal.Refusal.TheVariants.{NotHolder, Slow, Halted, GroupFull, OutOfRange}
use Rattle.cast_types.specs.Refusals.{refusal_code, refusals, refusal_numbered}
use Rattle.cast_message.specs.Replies.{reply_code}
use Rattle.cast_field.specs.Spelled.{IsFrom}

-- the numbers are k, k + 1 and so on
abbrev are_counted : ℕ → List Refusal → Bool
are_counted k [] = true
are_counted k (r ∷ rs) = eqb (refusal_code r) k && are_counted (suc k) rs

counted_at : (k : ℕ) (rs : List Refusal) (n : ℕ) (r : Refusal) → are_counted k rs ≡ true → slice_get rs n ≡ Some r → k + n ≡ refusal_code r
counted_at k [] n r h e = absurd cc
counted_at k (q ∷ qs) zero r h e =
    let first : refusal_code q ≡ k = eqb-true (refusal_code q) k ((and_parts (eqb (refusal_code q) k) (are_counted (suc k) qs) h).0) in
    let same : q ≡ r = cc in
    omega (arith, first, ap refusal_code same)
counted_at k (q ∷ qs) (suc n) r h e =
    let rest = counted_at (suc k) qs n r ((and_parts (eqb (refusal_code q) k) (are_counted (suc k) qs) h).1) e in
    omega (arith, rest)

pub reply_back : (n : ℕ) → IsFrom 0 15 n → n ≡ reply_code (refusal_numbered n)
reply_back zero h = refl
reply_back (suc n) h =
    let r = get_or refusals n BadFrame in
    let there : slice_get refusals n ≡ Some r = slice_get-get_or refusals n BadFrame (omega (arith, h.below)) in
    let number : 1 + n ≡ refusal_code r = counted_at 1 refusals n r refl there in
    rw there (omega (arith, number))

pub numbered_again : (r : Refusal) → (refusal_numbered (refusal_code r) ≡ Some r) × IsFrom 1 15 (refusal_code r)
numbered_again BadFrame = (refl, record { above = lit≤ tt; below = lit≤ tt })
numbered_again NotOpen = (refl, record { above = lit≤ tt; below = lit≤ tt })
numbered_again TooManySessions = (refl, record { above = lit≤ tt; below = lit≤ tt })
numbered_again NoGroup = (refl, record { above = lit≤ tt; below = lit≤ tt })
numbered_again NotMember = (refl, record { above = lit≤ tt; below = lit≤ tt })
numbered_again AlreadyMember = (refl, record { above = lit≤ tt; below = lit≤ tt })
numbered_again Flushing = (refl, record { above = lit≤ tt; below = lit≤ tt })
numbered_again OwnAbcast = (refl, record { above = lit≤ tt; below = lit≤ tt })
numbered_again HeldFull = (refl, record { above = lit≤ tt; below = lit≤ tt })
numbered_again TooLong = (refl, record { above = lit≤ tt; below = lit≤ tt })
numbered_again NotHolder = (refl, record { above = lit≤ tt; below = lit≤ tt })
numbered_again Slow = (refl, record { above = lit≤ tt; below = lit≤ tt })
numbered_again Halted = (refl, record { above = lit≤ tt; below = lit≤ tt })
numbered_again GroupFull = (refl, record { above = lit≤ tt; below = lit≤ tt })
numbered_again OutOfRange = (refl, record { above = lit≤ tt; below = lit≤ tt })
