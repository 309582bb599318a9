use Rattle.std.proofs.Common.{sym, ◌∙◌, inl, inr}
use Rattle.std.proofs.lemmas.Bool.{false≢true}
use Rattle.cast_delay.proofs.looked.Looked.wake.Goals as goal

-- nothing is filed under the id any more
pub returns-in_default-clause-known : goal.returns-in_default-clause-known
returns-in_default-clause-known c = λ done. record {
  within = c.loop-turn.invariant.within;
  each = λ o there lt. elim (c.loop-turn.invariant.each o there lt) [
    | inl known ↦ known
    | inr filed ↦ absurd (false≢true (sym (c.in_default.ensures.none o.key) ∙ filed))
  ];
}
