-- An order grows by what is told of it.
use Rattle.std.proofs.Common.{◌≡◌, ℕ, suc, ◌+◌, ◌-◌, ◌<◌, true, List, ◌∷◌, ◌++◌, length, Some, refl, sym, ap, ◌∙◌, arith}
use Rattle.std.specs.Prelude.{◌==◌, if◌then◌else◌}
use Rattle.std.specs.List.{find, enumerate_from}
use Rattle.std.specs.Option.{option_or, option_map}
use Rattle.std.proofs.lemmas.Bool.{or_left, or_right, eq-eqb}
use Rattle.std.proofs.lemmas.List.Folds.{list_any-append}
use Rattle.cast_types.specs.declared.limits.TheConstants.{MAX_POSITION}
use Rattle.cast_types.specs.Names.{Entry, entry_eq}
use Rattle.cast_types.specs.Sets.{is_among}
use Rattle.cast_types.proofs.Orders.{entry_itself}
use Rattle.cast_message.specs.Placement.{Placement}
use Rattle.cast_order.specs.Order.{Facts, facts_of, id_at, order_from, known_order, place_after}
use Rattle.cast_order.proofs.Told.{order_next, order_in_words, id_at-append, known_grows}

-- the order known goes on behind what was known
goes_on : (facts new : Facts) → known_order facts ++ order_from (MAX_POSITION - length (known_order facts)) (length (known_order facts) + 1)
    (facts ++ new) ≡ known_order (facts ++ new)
goes_on facts new = known_grows facts new (facts ++ new) (known_order facts) refl (λ place low high. refl)

-- what is in it stays in it
pub known_stays : (facts new : Facts) (e : Entry) → is_among entry_eq e (known_order facts) ≡ true →
    is_among entry_eq e (known_order (facts ++ new)) ≡ true
known_stays facts new e is =
    ap (is_among entry_eq e) (sym (goes_on facts new))
    ∙ list_any-append (entry_eq e) (known_order facts)
    (order_from (MAX_POSITION - length (known_order facts)) (length (known_order facts) + 1) (facts ++ new))
    ∙ or_left (is_among entry_eq e (known_order facts)) _ is

-- what is told of the next place stands in it
next_stands : (facts : Facts) (known : List Entry) (most n place : ℕ) (e : Entry) → n < most → id_at facts place ≡ Some e →
    is_among entry_eq e (known ++ order_from (most - n) place facts) ≡ true
next_stands facts known most n place e lt is =
    let one : most - n ≡ suc (most - n - 1) = omega (arith, lt) in
    ap (λ k. is_among entry_eq e (known ++ order_from k place facts)) one
    ∙ ap (λ rest. is_among entry_eq e (known ++ rest)) (order_next facts (most - n - 1) place e is)
    ∙ list_any-append (entry_eq e) known (e ∷ order_from (most - n - 1) (place + 1) facts)
    ∙ or_right (is_among entry_eq e known) _ (or_left (entry_eq e e) _ (entry_itself e))

-- a message tells its first id for its first place
first_told : (place : ℕ) (e : Entry) (es : List Entry) → id_at (enumerate_from place (e ∷ es)) place ≡ Some e
first_told place e es =
    ap (λ b. option_map (λ (f : ℕ × Entry). f.1) (if b then Some (place, e) else find (λ f. f.0 == place) (enumerate_from (place + 1) es)))
    (eq-eqb place place refl)

-- and the first id that is told for the place after it enters it
pub first_enters : (facts : Facts) (q : Placement) (e : Entry) (es : List Entry) → length (known_order facts) < MAX_POSITION →
    q.first ≡ place_after (known_order facts) → q.ids ≡ e ∷ es → is_among entry_eq e (known_order (facts ++ facts_of q)) ≡ true
first_enters facts q e es lt at are =
    let new : Facts = facts_of q in
    let place : ℕ = length (known_order facts) + 1 in
    let told : id_at (facts ++ new) place ≡ Some e =
    id_at-append facts new place
    ∙ ap (λ o. option_or o (id_at new place)) ((order_in_words facts).ends lt)
    ∙ (λ i. id_at (enumerate_from (at i) (are i)) place)
    ∙ first_told place e es in
    ap (is_among entry_eq e) (sym (goes_on facts new))
    ∙ next_stands (facts ++ new) (known_order facts) MAX_POSITION (length (known_order facts)) place e lt told
