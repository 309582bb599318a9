-- Powers of ten between two numbers.
use Rattle.std.proofs.Common.{◌≤◌, ◌<◌, ◌^◌, ℕ, arith, inl, inr, lit<}
use Rattle.std.proofs.lemmas.Bool.{cases_lt}
use Rattle.std.proofs.Math.Nat.{pow-le-pow_right}

pub ten_to : (i j : ℕ) → i ≤ j → 10 ^ i ≤ 10 ^ j
ten_to i j less = pow-le-pow_right {n = 10} (lit< tt) {i = i} {j = j} less

-- none is above the one number, which has as many digits, and not above the other
pub none_between : (number other d e k : ℕ) → d ≤ e → other < 10 ^ d → ((j : ℕ) → j < e → 10 ^ j ≤ number) → number < 10 ^ k →
    10 ^ k ≤ other → ⊥
none_between number other d e k fewer below above after before = elim (cases_lt k e) [
  | inl less ↦ absurd (omega (arith, above k less, after))
  | inr more ↦ let up : d ≤ k = omega (arith, fewer, more) in absurd (omega (arith, ten_to d k up, below, before))
]
