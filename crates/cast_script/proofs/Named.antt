-- What a word names, of some that have words of their own.
use Rattle.std.proofs.Common.{◌≡◌, ◌≢◌, ℕ, bytes_eq, List, [], ◌∷◌, Ok, Err, inl, inr, refl, sym, subst, ◌∙◌}
use Rattle.std.proofs.lemmas.Bool.{cases_Bool, cond-false, cond-true}
use Rattle.std.proofs.lemmas.Slice.Eq.{bytes_eq-Decides}
use Rattle.cast_script.specs.declared.words.Reason.{Reason}
use Rattle.cast_script.specs.declared.words.Reason.TheVariants.{UnknownWord}
use Rattle.cast_script.specs.WordReadings.{named_among}
use Rattle.cast_script.proofs.Results.{ok_is}

pub among_is : {A : Type 0} (text : A → List ℕ) (xs : List A) (word : List ℕ) (x : A) → named_among text xs word ≡ Ok x → word ≡ text x
among_is text [] word x e = absurd cc
among_is text (y ∷ xs) word x e =
    elim (cases_Bool (bytes_eq word (text y))) [
      | inl same ↦
          let first = ok_is Reason y x (sym (cond-true (bytes_eq word (text y)) (Ok y) (named_among text xs word) same) ∙ e) in
          subst (λ z. word ≡ text z) first ((bytes_eq-Decides word (text y)).0 same)
      | inr other ↦ among_is text xs word x (sym (cond-false (bytes_eq word (text y)) (Ok y) (named_among text xs word) other) ∙ e)
    ]

pub none_among : {A : Type 0} (text : A → List ℕ) (xs : List A) (word : List ℕ) → ((x : A) → word ≢ text x) →
    named_among text xs word ≡ Err UnknownWord
none_among text [] word none = refl
none_among text (y ∷ xs) word none =
    elim (cases_Bool (bytes_eq word (text y))) [
      | inl same ↦ absurd (none y ((bytes_eq-Decides word (text y)).0 same))
      | inr other ↦ cond-false (bytes_eq word (text y)) (Ok y) (named_among text xs word) other ∙ none_among text xs word none
    ]
