use Rattle.std.proofs.Common.{◌≡◌, Bool, true, false, not, refl, sym, ap, ◌∙◌}
use Rattle.std.proofs.lemmas.Bool.{false≢true, false_from_ne_true}
use Rattle.cast_types.specs.Names.{uid_eq}
use Rattle.cast_types.proofs.Orders.{same_uid, uid_itself}
use Rattle.cast_index.specs.Index.{has}
use Rattle.cast_index.proofs.Orders.{between, from_id}
use Rattle.cast_index.proofs.index.Index.key_of.Goals as goal

pub returns-then-ne-clause-none : goal.returns-then-ne-clause-none
returns-then-ne-clause-none c =
    let keys = c.self.inside.entries.keys in
    let e = c.in_ok-entry.entry.now in
    let id = c.args.id in
    let first = c.in_ok-entry.ensures.some in
    rw (← c.self.view_is)
    (λ k. false_from_ne_true (has keys id k) (λ there.
    let same = (between id e k first.passes (first.first id k there (from_id id k))).0 in
    false≢true (ap not (sym (ap (uid_eq e.id) (sym same) ∙ uid_itself e.id)) ∙ sym c.ne.ensures ∙ c.if-ne.true)))

pub returns-clause-some : goal.returns-clause-some
returns-clause-some c =
    let keys = c.self.inside.entries.keys in
    let e = c.in_ok-entry.entry.now in
    let id = c.args.id in
    let first = c.in_ok-entry.ensures.some in
    let same = same_uid e.id id (not_false (uid_eq e.id id) (sym c.ne.ensures ∙ c.if-ne.false)) in
    rw (← c.self.view_is) (
      ap (λ u. has keys u (record { 0 = e.number })) (sym same) ∙ first.there,
      λ k there. (between id e k first.passes (first.first id k there (from_id id k))).1,
    )
  where
    not_false : (b : Bool) → not b ≡ false → b ≡ true
    not_false true h = refl
    not_false false h = absurd (false≢true (sym h))
