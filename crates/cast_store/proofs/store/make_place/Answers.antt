use Rattle.std.proofs.Common.{◌≡◌, ◌+◌, ◌++◌, List, [], ◌∷◌, Option, None, length, replicate, take, refl, ◌∙◌, rules, arith}
use Rattle.std.specs.List.{FoldsTo}
use Rattle.std.proofs.lemmas.List.{take_all}
use Rattle.cast_store.proofs.store.make_place.Goals as goal

-- what comes of calls that each give none
all_none : {F X : Type 0} (step : F → Option X → F → Type 0) → ((f : F) (o : Option X) (g : F) → step f o g → o ≡ None) →
    (f g : F) (made : List (Option X)) → FoldsTo step f made g → made ≡ replicate (length made) None
all_none step says f g [] made = refl
all_none step says f g (o ∷ rest) made = λ i. says f o made.0 made.1 i ∷ all_none step says made.0 g rest made.2 i

pub returns-in_ok-resize_with-clause-padded : goal.returns-in_ok-resize_with-clause-padded
returns-in_ok-resize_with-clause-padded c =
    let lines = c.args.rows.now.items in
    let made = c.in_ok-resize_with.ensures.items in
    let whole : take (c.from-place.result + 1) lines ≡ lines =
    take_all (c.from-place.result + 1) lines (omega (arith, c.if-len-place.true, c.len.ensures, c.args.rows.now.ok.0)) in
    (length made.0, made.2 ∙ (λ i. whole i ++ all_none _ (λ f o g called. search rules) _ _ made.0 made.3 i))
