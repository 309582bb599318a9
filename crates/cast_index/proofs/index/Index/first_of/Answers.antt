use Rattle.std.proofs.Common.{◌≡◌, Bool, true, false, not, refl, sym, ap, subst, ◌∙◌}
use Rattle.std.proofs.lemmas.Bool.{false≢true}
use Rattle.cast_types.specs.Sources.{source_of}
use Rattle.cast_index.specs.Index.{is_from, IsFirstEntry}
use Rattle.cast_index.proofs.Lasts.{first_of, least_of, same_source, source_eq, source_itself}
use Rattle.cast_index.proofs.index.Index.first_of.Goals as goal

pub returns-then-ne-clause-none : goal.returns-then-ne-clause-none
returns-then-ne-clause-none c =
    let keys = c.self.inside.entries.keys in
    let id = c.in_ok-least.least.now.id in
    let first = subst (λ l. IsFirstEntry keys (is_from l) c.in_ok-least.least.now) c.lowest_of.ensures c.in_ok-least.ensures.some in
    rw (← c.self.view_is)
    (λ u k there is.
    let own = least_of keys c.args.source c.in_ok-least.least.now first u k there is in
    false≢true (ap not (sym (source_itself (source_of id) c.args.source own.0))
    ∙ ap (λ s. not (source_eq s c.args.source)) (sym c.source_of.ensures)
    ∙ sym c.ne.ensures
    ∙ c.if-ne.true))

pub returns-clause-some : goal.returns-clause-some
returns-clause-some c =
    let keys = c.self.inside.entries.keys in
    let id = c.in_ok-least.least.now.id in
    let first = subst (λ l. IsFirstEntry keys (is_from l) c.in_ok-least.least.now) c.lowest_of.ensures c.in_ok-least.ensures.some in
    let own =
    same_source (source_of id) c.args.source (not_false (source_eq (source_of id) c.args.source)
    (ap (λ s. not (source_eq s c.args.source)) (sym c.source_of.ensures) ∙ sym c.ne.ensures ∙ c.if-ne.false)) in
    rw (← c.self.view_is) (first_of keys c.args.source c.in_ok-least.least.now first own)
  where
    not_false : (b : Bool) → not b ≡ false → b ≡ true
    not_false true h = refl
    not_false false h = absurd (false≢true (sym h))
