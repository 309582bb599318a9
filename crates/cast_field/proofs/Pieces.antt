-- Pieces that are put one behind the other are what was there, and behind it the pieces as one.
use Rattle.std.proofs.Common.{◌≡◌, ℕ, List, ◌++◌, append_assoc}

pub three : (out a b c : List ℕ) → ((out ++ a) ++ b) ++ c ≡ out ++ (a ++ (b ++ c))
three out a b c = simp append_assoc

pub four : (out a b c d : List ℕ) → (((out ++ a) ++ b) ++ c) ++ d ≡ out ++ (a ++ (b ++ (c ++ d)))
four out a b c d = simp append_assoc

pub five : (out a b c d e : List ℕ) → ((((out ++ a) ++ b) ++ c) ++ d) ++ e ≡ out ++ (a ++ (b ++ (c ++ (d ++ e))))
five out a b c d e = simp append_assoc

pub six : (out a b c d e f : List ℕ) → (((((out ++ a) ++ b) ++ c) ++ d) ++ e) ++ f ≡ out ++ (a ++ (b ++ (c ++ (d ++ (e ++ f)))))
six out a b c d e f = simp append_assoc
