-- Lists that are made item by item, of at most one item each; and what stands in a list that lacks at most its last item.
use Rattle.std.proofs.Common.{ap, append_assoc, arith, inl, inr, subst, sym, ◌∙◌}
use Rattle.std.proofs.lemmas.Grind.{flat_map-append}
use Rattle.std.specs.List.{flat_map}
use Rattle.std.specs.Prelude.{◌++◌, Contains, List, [], length, refl, ◌∷◌, ◌≡◌, ◌≤◌, ◌⊎◌}
use Rattle.cast_world.proofs.Lists.{contains_split, head_or, never_nil, tail_of}
use Rattle.cast_world.specs.Agreement.{IsPrefix}
use Rattle.cast_world.specs.HappenedBefore.{StandsBefore}

-- at most one item is made of each
abbrev pub MakesOne : {X Y : Type 0} → (X → List Y) → Type 0
MakesOne {X} {Y} f = (x : X) → (f x ≡ []) ⊎ ((y : Y) × (f x ≡ y ∷ []))

-- where an item stands in the list that is made, it was made of one that stands there
pub record MadeAt {X Y : Type 0} (f : X → List Y) (xs : List X) (a b : List Y) (y : Y) : Type 0 where
  pub before : List X
  pub later : List X
  pub item : X
  pub is : xs ≡ before ++ item ∷ later
  pub made_before : flat_map f before ≡ a
  pub made : f item ≡ y ∷ []
  pub made_later : flat_map f later ≡ b

pub made_at : {X Y : Type 0} (f : X → List Y) → MakesOne f → (xs : List X) (a b : List Y) (y : Y) → flat_map f xs ≡ a ++ y ∷ b →
    MadeAt f xs a b y
unfolding head_or tail_of
made_at f one [] a b y e = absurd (never_nil a b y e)
made_at {X} {Y} f one (x ∷ xs) a b y e = elim (one x) [
  | inl none ↦
      let m = made_at f one xs a b y (ap (λ l. l ++ flat_map f xs) (sym none) ∙ e) in
      record {
        before = x ∷ m.before;
        later = m.later;
        item = m.item;
        is = ap (λ l. x ∷ l) m.is;
        made_before = ap (λ l. l ++ flat_map f m.before) none ∙ m.made_before;
        made = m.made;
        made_later = m.made_later;
      }
  | inr (z, made) ↦ go z made a (ap (λ l. l ++ flat_map f xs) (sym made) ∙ e) (λ c. made_at f one xs c b y)
]
  where
    go : (z : Y) → f x ≡ z ∷ [] → (a : List Y) → z ∷ flat_map f xs ≡ a ++ y ∷ b →
        ((c : List Y) → flat_map f xs ≡ c ++ y ∷ b → MadeAt f xs c b y) → MadeAt f (x ∷ xs) a b y
    go z made [] e more = record {
      before = [];
      later = xs;
      item = x;
      is = refl;
      made_before = refl;
      made = made ∙ ap (λ w. w ∷ []) (ap (head_or y) e);
      made_later = ap tail_of e;
    }
    go z made (w ∷ c) e more =
        let m = more c (ap tail_of e) in
        record {
          before = x ∷ m.before;
          later = m.later;
          item = m.item;
          is = ap (λ l. x ∷ l) m.is;
          made_before = ap (λ l. l ++ flat_map f m.before) made ∙ (λ i. ap (head_or w) e i ∷ m.made_before i);
          made = m.made;
          made_later = m.made_later;
        }

-- two items stand in the list that is made as those of which they are made
pub stand_made : {X Y : Type 0} (f : X → List Y) (xs : List X) (x z : X) (y w : Y) → StandsBefore xs x z → f x ≡ y ∷ [] → f z ≡ w ∷ [] →
    StandsBefore (flat_map f xs) y w
stand_made f xs x z y w (a, b, c, is) one two = (
  flat_map f a,
  flat_map f b,
  flat_map f c,
  ap (flat_map f) is
      ∙ flat_map-append f (a ++ x ∷ b) (z ∷ c)
      ∙ ap (λ l. l ++ (f z ++ flat_map f c)) (flat_map-append f a (x ∷ b))
      ∙ (λ i. (flat_map f a ++ (one i ++ flat_map f b)) ++ (two i ++ flat_map f c)),
)

pub stand_as_made : {X Y : Type 0} (f : X → List Y) → MakesOne f → (xs : List X) (y w : Y) → StandsBefore (flat_map f xs) y w →
    (x z : X) × StandsBefore xs x z × (f x ≡ y ∷ []) × (f z ≡ w ∷ [])
stand_as_made f one xs y w (a, b, c, is) =
    let second = made_at f one xs (a ++ y ∷ b) c w is in
    let first = made_at f one second.before a b y second.made_before in (
      first.item,
      second.item,
      (first.before, first.later, second.later, second.is ∙ ap (λ l. l ++ second.item ∷ second.later) first.is),
      first.made,
      second.made,
    )

-- What stands where a list lacks at most its last item

-- all before some item stands there
pub cut_short : {X : Type 0} (xs rest a b : List X) (y : X) → length rest ≤ 1 → xs ++ rest ≡ a ++ y ∷ b → IsPrefix a xs
unfolding head_or tail_of
cut_short xs rest [] b y few e = (xs, refl)
cut_short [] rest (z ∷ a) b y few e = absurd (let long = ap length e in let parts = length_of a b y in omega (arith, few, long, parts))
  where
    length_of : {X : Type 0} (a b : List X) (y : X) → 1 ≤ length (a ++ y ∷ b)
    length_of [] b y = omega arith
    length_of (z ∷ a) b y = omega arith
cut_short (x ∷ xs) rest (z ∷ a) b y few e =
    let more = cut_short xs rest a b y few (ap tail_of e) in
    (more.0, λ i. sym (ap (head_or x) e) i ∷ more.1 i)

-- nothing stands there twice
abbrev pub NoneTwice : {X : Type 0} → List X → Type 0
NoneTwice {X} xs = (x : X) → StandsBefore xs x x → ⊥

rest_once : {X : Type 0} (z : X) (xs : List X) → NoneTwice (z ∷ xs) → NoneTwice xs
rest_once z xs once x (a, b, c, is) = once x (z ∷ a, b, c, ap (λ l. z ∷ l) is)

-- one thing stands at one place
pub one_place : {X : Type 0} (a b c d : List X) (x : X) → NoneTwice (a ++ x ∷ b) → a ++ x ∷ b ≡ c ++ x ∷ d → a ≡ c
unfolding head_or tail_of
one_place [] b [] d x once e = refl
one_place [] b (z ∷ c) d x once e =
    absurd (once x ([], c, d, e ∙ ap (λ w. w ∷ (c ++ x ∷ d)) (sym (ap (head_or x) e))))
one_place (y ∷ a) b [] d x once e =
    absurd (once x ([], a, b, ap (λ w. w ∷ (a ++ x ∷ b)) (ap (head_or x) e)))
one_place (y ∷ a) b (z ∷ c) d x once e =
    let first : y ≡ z = ap (head_or y) e in
    let more = one_place a b c d x (rest_once y (a ++ x ∷ b) once) (ap tail_of e) in
    λ i. first i ∷ more i

-- what stands before something that is in the first part stands before it there
pub stands_within : {X : Type 0} (xs rest : List X) (x y : X) → NoneTwice (xs ++ rest) → StandsBefore (xs ++ rest) x y → Contains xs y →
    StandsBefore xs x y
stands_within {X} xs rest x y once (a, b, c, is) at =
    let s = contains_split xs y at in
    let whole : xs ++ rest ≡ s.0 ++ y ∷ (s.1 ++ rest) = ap (λ l. l ++ rest) s.2 ∙ append_assoc s.0 (y ∷ s.1) rest in
    let same : s.0 ≡ a ++ x ∷ b =
    one_place s.0 (s.1 ++ rest) (a ++ x ∷ b) c y (subst NoneTwice whole once) (sym whole ∙ is) in
    (a, b, s.1, s.2 ∙ ap (λ l. l ++ y ∷ s.1) same)

-- what stands twice in the first part stands twice in all
pub once_within : {X : Type 0} (xs rest : List X) → NoneTwice (xs ++ rest) → NoneTwice xs
once_within xs rest once x (a, b, c, is) =
    once x (a, b, c ++ rest, ap (λ l. l ++ rest) is ∙ append_assoc (a ++ x ∷ b) (x ∷ c) rest)
