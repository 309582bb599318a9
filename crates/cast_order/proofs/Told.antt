-- The order told: what is told of a place, and how the order grows with what is told.
use Rattle.std.proofs.Common.{◌≡◌, ℕ, zero, suc, ◌+◌, ◌-◌, ◌<◌, ◌≤◌, Bool, true, false, cond, ◌&&◌, List, [], ◌∷◌}
use Rattle.std.proofs.Common.{◌++◌, length, Option, Some, None, slice_get, refl, sym, ap, subst, ◌∙◌, inl, inr, arith}
use Rattle.std.specs.Prelude.{◌==◌, nat_lt, nat_le}
use Rattle.std.specs.List.{find, All}
use Rattle.std.specs.Map.{keys_of, lookup}
use Rattle.std.specs.BTreeMap.{is_at}
use Rattle.std.specs.BTreeMap.Range.{IsLeBy}
use Rattle.std.specs.Ordering.{nat_cmp, eq_by_cmp}
use Rattle.std.specs.Cmp.{unsigned_tied}
use Rattle.std.specs.FinMap.Entries.{find as find_key, put, find-put}
use Rattle.std.proofs.lemmas.Cmp.{nat_cmp_total}
use Rattle.std.proofs.lemmas.Bool.Decides.{nat_tests}
use Rattle.std.specs.Option.{option_or, option_map, is_none}
use Rattle.std.proofs.lemmas.Bool.{cases_Bool, cases_eq, false≢true, false_from_ne_true}
use Rattle.std.proofs.lemmas.Bool.{and_parts, and_from, lt-ltb, ltb-false, le-leb, eqb-true}
use Rattle.std.proofs.lemmas.List.Elements.{All-head, All-tail}
use Rattle.std.proofs.lemmas.List.Folds.{find-append}
use Rattle.std.proofs.lemmas.Map.Keys.{le_from_not_gt}
use Rattle.cast_types.specs.declared.limits.TheConstants.{MAX_POSITION}
use Rattle.cast_types.specs.Names.{Entry}
use Rattle.cast_types.proofs.Maps.{lookup_finds}
use Rattle.cast_order.specs.Order.{Facts, id_at, order_from, known_order, IsKnownOrder, KnownOrderInWords}
use Rattle.cast_order.specs.Log.{with_fact, with_facts, past}
use Rattle.cast_order.proofs.Lists.{or_none, or_again, find_kept}

abbrev going_on : ℕ → ℕ → Facts → Option Entry → List Entry
going_on n place facts o = elim o [ Some e ↦ e ∷ order_from n (place + 1) facts | None ↦ [] ]

pub order_next : (facts : Facts) (n place : ℕ) (e : Entry) → id_at facts place ≡ Some e →
    order_from (suc n) place facts ≡ e ∷ order_from n (place + 1) facts
order_next facts n place e is = ap (going_on n place facts) is

pub order_ends : (facts : Facts) (n place : ℕ) → id_at facts place ≡ None → order_from n place facts ≡ []
order_ends facts zero place none = refl
order_ends facts (suc n) place none = ap (going_on n place facts) none

-- facts that keep what others tell make the order go on behind theirs
abbrev pub Keeps : Facts → Facts → Type 0
Keeps facts more = (place : ℕ) (e : Entry) → id_at facts place ≡ Some e → id_at more place ≡ Some e

pub order_grows : (facts more : Facts) → Keeps facts more → (n place : ℕ) → order_from n place more
    ≡ order_from n place facts ++ order_from (n - length (order_from n place facts)) (place + length (order_from n place facts)) more
order_grows facts more keeps zero place = refl
order_grows facts more keeps (suc n) place =
    elim (id_at facts place) as (λ o. id_at facts place ≡ o → order_from (suc n) place more
    ≡ going_on n place facts o ++ order_from (suc n - length (going_on n place facts o)) (place + length (going_on n place facts o)) more) [
      | Some e ↦ λ is.
          let front = order_from n (place + 1) facts in
          let fewer : n - length front ≡ suc n - suc (length front) = omega arith in
          let further : place + 1 + length front ≡ place + suc (length front) = omega arith in
          order_next more n place e (keeps place e is)
          ∙ ap (λ rest. e ∷ rest) (order_grows facts more keeps n (place + 1))
          ∙ (λ i. e ∷ (front ++ order_from (fewer i) (further i) more))
      | None ↦ λ _.
          let same : suc n ≡ suc n - 0 = omega arith in
          let here : place ≡ place + 0 = omega arith in
          λ i. order_from (same i) (here i) more
    ] refl

-- facts that tell the same of some places make the same order there
pub order_agrees : (facts more : Facts) (n place : ℕ) → ((p : ℕ) → place ≤ p → p < place + n → id_at facts p ≡ id_at more p) →
    order_from n place facts ≡ order_from n place more
order_agrees facts more zero place same = refl
order_agrees facts more (suc n) place same =
    let here : id_at facts place ≡ id_at more place = same place (omega arith) (omega arith) in
    elim (id_at facts place) as (λ o. id_at facts place ≡ o → going_on n place facts o ≡ order_from (suc n) place more) [
      | Some e ↦ λ is.
          ap (λ rest. e ∷ rest) (order_agrees facts more n (place + 1) (λ p low high. same p (omega arith) (omega arith)))
          ∙ sym (order_next more n place e (sym here ∙ is))
      | None ↦ λ none. sym (order_ends more (suc n) place (sym here ∙ none))
    ] refl

-- The order in words

order_most : (facts : Facts) (n place : ℕ) → length (order_from n place facts) ≤ n
order_most facts zero place = omega arith
order_most facts (suc n) place =
    elim (id_at facts place) as (λ o. length (going_on n place facts o) ≤ suc n) [
      | Some e ↦ let rest = order_most facts n (place + 1) in omega arith
      | None ↦ omega arith
    ]

order_ids : (facts : Facts) (n place i : ℕ) → i < length (order_from n place facts) →
    slice_get (order_from n place facts) i ≡ id_at facts (i + place)
order_ids facts zero place i lt = absurd (omega arith)
order_ids facts (suc n) place zero lt =
    elim (id_at facts place) as (λ o. id_at facts place ≡ o → zero < length (going_on n place facts o) →
    slice_get (going_on n place facts o) zero ≡ id_at facts (zero + place)) [
      | Some e ↦ λ is _. let same : place ≡ zero + place = omega arith in sym is ∙ ap (id_at facts) same
      | None ↦ λ _ below. absurd (omega arith)
    ] refl lt
order_ids facts (suc n) place (suc i) lt =
    elim (id_at facts place) as (λ o. id_at facts place ≡ o → suc i < length (going_on n place facts o) →
    slice_get (going_on n place facts o) (suc i) ≡ id_at facts (suc i + place)) [
      | Some e ↦ λ _ below.
          let same : i + (place + 1) ≡ suc i + place = omega arith in
          order_ids facts n (place + 1) i (omega arith) ∙ ap (id_at facts) same
      | None ↦ λ _ below. absurd (omega arith)
    ] refl lt

order_stops : (facts : Facts) (n place : ℕ) → length (order_from n place facts) < n →
    id_at facts (length (order_from n place facts) + place) ≡ None
order_stops facts zero place lt = absurd (omega arith)
order_stops facts (suc n) place lt =
    elim (id_at facts place) as (λ o. id_at facts place ≡ o → length (going_on n place facts o) < suc n →
    id_at facts (length (going_on n place facts o) + place) ≡ None) [
      | Some e ↦ λ _ below.
          let same : suc (length (order_from n (place + 1) facts)) + place ≡ length (order_from n (place + 1) facts) + (place + 1) =
          omega arith in
          ap (id_at facts) same ∙ order_stops facts n (place + 1) (omega arith)
      | None ↦ λ none _. let same : 0 + place ≡ place = omega arith in ap (id_at facts) same ∙ none
    ] refl lt

known_is : (facts : Facts) → known_order facts ≡ order_from MAX_POSITION 1 facts
unfolding known_order
known_is facts = refl

pub none_known : known_order [] ≡ []
unfolding known_order
none_known = refl

in_words : (n : ℕ) (facts : Facts) (order : List Entry) → order ≡ order_from n 1 facts → n ≡ MAX_POSITION → IsKnownOrder facts order
in_words n facts order is most = record {
  ids = λ i lt. subst (λ o. i < length o → slice_get o i ≡ id_at facts (i + 1)) (sym is) (order_ids facts n 1 i) lt;
  ends = λ lt. subst (λ o. length o < n → id_at facts (length o + 1) ≡ None) (sym is) (order_stops facts n 1) (omega arith);
  most = let le : length order ≤ n = subst (λ o. length o ≤ n) (sym is) (order_most facts n 1) in omega arith;
}

pub order_in_words : KnownOrderInWords
order_in_words facts = in_words MAX_POSITION facts (known_order facts) (known_is facts) refl

-- What is told of a place

pub id_at-append : (facts more : Facts) (place : ℕ) → id_at (facts ++ more) place ≡ option_or (id_at facts place) (id_at more place)
id_at-append facts more place =
    ap (option_map (λ (f : ℕ × Entry). f.1)) (find-append (λ f. f.0 == place) facts more)
    ∙ of_either (find (λ f. f.0 == place) facts) (find (λ f. f.0 == place) more)
  where
    of_either : (a b : Option (ℕ × Entry)) → option_map (λ (f : ℕ × Entry). f.1) (option_or a b)
        ≡ option_or (option_map (λ (f : ℕ × Entry). f.1) a) (option_map (λ (f : ℕ × Entry). f.1) b)
    of_either None b = refl
    of_either (Some x) b = refl

keeps_more : (facts more : Facts) → Keeps facts (facts ++ more)
keeps_more facts more place e is = id_at-append facts more place ∙ ap (λ o. option_or o (id_at more place)) is

-- a fact of another place tells nothing of a place
id_elsewhere : (q : ℕ) (e : Entry) (place : ℕ) → (q == place) ≡ false → id_at ((q, e) ∷ []) place ≡ None
id_elsewhere q e place other = ap (λ b. option_map (λ (f : ℕ × Entry). f.1) (cond b (Some (q, e)) None)) other

some_told : (o : Option Entry) → is_none o ≡ false → (p : Option Entry) → o ≡ option_or o p
some_told None is p = absurd (false≢true (sym is))
some_told (Some e) is p = refl

-- places tie where they are the same
tied_place : (place q : ℕ) → eq_by_cmp nat_cmp place q ≡ (q == place)
tied_place place q = unsigned_tied place q ∙ grind (arith, nat_tests)

-- so a search by places finds what is told
by_place : (place : ℕ) (facts : Facts) → find_key nat_cmp place facts ≡ id_at facts place
by_place place [] = refl
by_place place (f ∷ facts) =
    (λ i. cond (tied_place place f.0 i) (Some f.1) (by_place place facts i))
    ∙ elim (f.0 == place) as (λ b. cond b (Some f.1) (id_at facts place)
    ≡ option_map (λ (g : ℕ × Entry). g.1) (cond b (Some f) (find (λ g. g.0 == place) facts))) [ true ↦ refl | false ↦ refl ]

-- and so does one in a map
pub looked_up : (place : ℕ) (facts : Facts) → lookup (is_at (nat_cmp place)) facts ≡ id_at facts place
looked_up place facts = lookup_finds nat_cmp place facts ∙ by_place place facts

-- a fact of a place of which nothing is told is told there, and changes no other place
put_told : (q : ℕ) (e : Entry) (facts : Facts) → is_none (id_at facts q) ≡ true → (place : ℕ) →
    id_at (put nat_cmp q e facts) place ≡ option_or (id_at facts place) (id_at ((q, e) ∷ []) place)
put_told q e facts new place =
    sym (by_place place (put nat_cmp q e facts))
    ∙ find-put nat_cmp nat_cmp_total place q e facts
    ∙ (λ i. cond (tied_place place q i) (Some e) (by_place place facts i))
    ∙ either (q == place) (id_at facts place)
    (λ same. none (id_at facts place) (subst (λ k. is_none (id_at facts k) ≡ true) (eqb-true q place same) new))
  where
    none : (o : Option Entry) → is_none o ≡ true → o ≡ None
    none None is = refl
    none (Some x) is = absurd (false≢true is)

    either : (b : Bool) (o : Option Entry) → (b ≡ true → o ≡ None) →
        cond b (Some e) o ≡ option_or o (option_map (λ (f : ℕ × Entry). f.1) (cond b (Some (q, e)) None))
    either true o lacks = sym (ap (λ p. option_or p (Some e)) (lacks refl))
    either false o lacks = sym (or_none o)

-- one more fact is kept unless its place has one, as the first of a place counts
one_told : (most known : ℕ) (facts : Facts) (q : ℕ) (e : Entry) (place : ℕ) →
    known < place → place ≤ most → id_at (cond (nat_lt known q && (nat_le q most && is_none (id_at facts q))) (put nat_cmp q e facts) facts)
    place ≡ option_or (id_at facts place) (id_at ((q, e) ∷ []) place)
one_told most known facts q e place low high = elim (cases_Bool (nat_lt known q && (nat_le q most && is_none (id_at facts q)))) [
  | inl all ↦
      let parts = and_parts (nat_lt known q) (nat_le q most && is_none (id_at facts q)) all in
      rw all (put_told q e facts (and_parts (nat_le q most) (is_none (id_at facts q)) parts.1).1 place)
  | inr left ↦ rw left (elim (cases_eq q place) [
    | inl same ↦
        let there : is_none (id_at facts q) ≡ false = false_from_ne_true (is_none (id_at facts q)) (λ none. false≢true (sym left
        ∙ and_from (nat_lt known q) (nat_le q most && is_none (id_at facts q)) (lt-ltb known q (omega arith))
        (and_from (nat_le q most) (is_none (id_at facts q)) (le-leb q most (omega arith)) none))) in
        some_told (id_at facts place) (subst (λ k. is_none (id_at facts k) ≡ false) same there) (id_at ((q, e) ∷ []) place)
    | inr other ↦
        let apart : (q == place) ≡ false = false_from_ne_true (q == place) (λ h. other (eqb-true q place h)) in
        sym (or_none (id_at facts place)) ∙ ap (option_or (id_at facts place)) (sym (id_elsewhere q e place apart))
  ])
]

pub facts_told : (known : ℕ) (facts more : Facts) (place : ℕ) → known < place → place ≤ MAX_POSITION →
    id_at (with_facts known facts more) place ≡ option_or (id_at facts place) (id_at more place)
facts_told known facts [] place low high = sym (or_none (id_at facts place))
facts_told known facts (f ∷ more) place low high =
    facts_told known (with_fact known facts f.0 f.1) more place low high
    ∙ ap (λ o. option_or o (id_at more place)) (one_told MAX_POSITION known facts f.0 f.1 place low high)
    ∙ or_again (id_at facts place) (id_at (f ∷ []) place) (id_at more place)
    ∙ ap (option_or (id_at facts place)) (sym (id_at-append (f ∷ []) more place))

-- facts up to a place are of no account past it
pub past_told : (known : ℕ) (facts : Facts) (place : ℕ) → known < place → id_at (past known facts) place ≡ id_at facts place
past_told known facts place lt =
    ap (option_map (λ (f : ℕ × Entry). f.1))
    (find_kept (λ f. f.0 == place) (λ f. nat_lt known f.0) (λ f low. false_from_ne_true (f.0 == place) (λ same.
    let below = ltb-false known f.0 low in
    let here = eqb-true f.0 place same in
    omega arith)) facts)

-- where no fact is of a place before one past those known, all stay
pub all_past : (known first : ℕ) (facts : Facts) → known < first → All (IsLeBy nat_cmp first) (keys_of facts) → facts ≡ past known facts
all_past known first [] lt least = refl
all_past known first (f ∷ facts) lt least =
    let le = le_from_not_gt first f.0 (All-head (IsLeBy nat_cmp first) f.0 (keys_of facts) least) in
    let stays = lt-ltb known f.0 (omega arith) in
    let rest = all_past known first facts lt (All-tail (IsLeBy nat_cmp first) f.0 (keys_of facts) least) in
    λ i. cond (sym stays i) (f ∷ rest i) (rest i)

-- the order known grows by what later facts tell
longer_by : (most : ℕ) (facts new later : Facts) (known : List Entry) → known ≡ order_from most 1 facts →
    ((place : ℕ) → length known < place → place ≤ most → id_at later place ≡ id_at (facts ++ new) place) →
    known ++ order_from (most - length known) (length known + 1) later ≡ order_from most 1 (facts ++ new)
longer_by most facts new later known is same =
    let grown =
    subst (λ k. order_from most 1 (facts ++ new) ≡ k ++ order_from (most - length k) (1 + length k) (facts ++ new)) (sym is)
    (order_grows facts (facts ++ new) (keeps_more facts new) most 1) in
    let agreed =
    order_agrees later (facts ++ new) (most - length known) (length known + 1) (λ p low high. same p (omega arith) (omega arith)) in
    let turned : length known + 1 ≡ 1 + length known = omega arith in
    ap (λ rest. known ++ rest) agreed
    ∙ ap (λ k. known ++ order_from (most - length known) k (facts ++ new)) turned
    ∙ sym grown

pub known_grows : (facts new later : Facts) (known : List Entry) → known ≡ known_order facts →
    ((place : ℕ) → length known < place → place ≤ MAX_POSITION → id_at later place ≡ id_at (facts ++ new) place) →
    known ++ order_from (MAX_POSITION - length known) (length known + 1) later ≡ known_order (facts ++ new)
known_grows facts new later known is same =
    longer_by MAX_POSITION facts new later known (is ∙ known_is facts) same ∙ sym (known_is (facts ++ new))
