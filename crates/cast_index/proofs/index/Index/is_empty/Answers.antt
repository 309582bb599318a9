use Rattle.std.proofs.Common.{◌≡◌, ◌≢◌, true, List, [], ◌∷◌, length, refl, sym, ◌∙◌}
use Rattle.std.proofs.lemmas.Bool.{true≢false}
use Rattle.cast_types.specs.declared.names.Key.{Key}
use Rattle.cast_types.specs.declared.names.Uid.{Uid}
use Rattle.cast_index.specs.declared.entry.Entry.{Entry}
use Rattle.cast_index.specs.Index.{has}
use Rattle.cast_index.proofs.Firsts.{is_among}
use Rattle.cast_index.proofs.index.Index.is_empty.Goals as goal

-- a list that is not empty has its first entry
first_there : (keys : List Entry) → length keys ≢ 0 → (u : Uid) × (k : Key) × (has keys u k ≡ true)
first_there [] some = absurd (some refl)
first_there (e ∷ es) some = (e.id, record { 0 = e.number }, is_among e es)

pub returns-clause-some : goal.returns-clause-some
returns-clause-some c some =
    rw (← c.self.view_is) (first_there c.self.inside.entries.keys (λ none. true≢false (sym (c.is_empty.ensures.1 none) ∙ some)))
