-- All frames that are due are owed for one moment, one after the other or all at once.
use Rattle.std.proofs.Common.{◌≡◌, ◌<◌, ℕ, Bool, true, false, cond, ◌||◌, List, [], ◌∷◌, length}
use Rattle.std.proofs.Common.{Less, Option, Some, None, refl, sym, ap, ◌∙◌, inl, inr, arith}
use Rattle.std.specs.Prelude.{◌==◌, is_some, map, nat_le}
use Rattle.std.specs.List.{list_any, fold}
use Rattle.std.specs.Option.{option_map}
use Rattle.std.specs.Ordering.{is_lt}
use Rattle.std.proofs.lemmas.Bool.{and_parts, and_from, cases_Bool, eq-eqb, false≢true, or_right}
use Rattle.std.proofs.lemmas.Cmp.{tied_itself}
use Rattle.std.proofs.lemmas.Option.{none-some, same_Some}
use Rattle.cast_types.specs.Rising.{is_rising}
use Rattle.cast_types.proofs.Rising.{rising_kept, less_is}
use Rattle.cast_timer.specs.declared.key.OwedKey.{OwedKey}
use Rattle.cast_timer.specs.declared.key.Owed.{Owed}
use Rattle.cast_timer.specs.Owed.{owed_cmp, key_eq, is_owed, renew, due_frames, due_at, all_renewed}
use Rattle.cast_timer.specs.Rows.{has_key, has_some}
use Rattle.cast_timer.specs.Index.{frame_eq, has, is_due, IsIndex, renewed_due, moved_to}
use Rattle.cast_timer.proofs.Orders.{owed_total, before}
use Rattle.cast_timer.proofs.Owing.{key_itself, turned_key}
use Rattle.cast_timer.proofs.Rows.{some_by}
use Rattle.cast_timer.proofs.Index.{same_frame, frame_itself, has_kept, index_renewed, owed_by}

either : (a b : Bool) → (a || b) ≡ true → a ≡ false → b ≡ true
either true b h other = absurd (false≢true (sym other))
either false b h other = h

-- Rising lists with the same frames are one

-- a frame that comes before all of a list comes before each frame in it
not_among : (o p : Owed) (os : List Owed) → before o os ≡ true → has os p ≡ true → owed_cmp o p ≡ Less
not_among o p [] all there = absurd (false≢true there)
not_among o p (q ∷ qs) all there =
    let parts = and_parts (is_lt (owed_cmp o q)) (before o qs) all in
    elim (cases_Bool (frame_eq p q)) [
      | inl this ↦ ap (owed_cmp o) (same_frame p q this) ∙ less_is (owed_cmp o q) parts.0
      | inr other ↦ not_among o p qs parts.1 (either (frame_eq p q) (has qs p) there other)
    ]

apart : (o p : Owed) → owed_cmp o p ≡ Less → o ≡ p → ⊥
apart o p less same = cc (less, ap (owed_cmp o) (sym same), tied_itself owed_total o)

-- two frames are not each before the other
not_both : (o p : Owed) → owed_cmp o p ≡ Less → owed_cmp p o ≡ Less → ⊥
not_both o p less more = apart o o (owed_total.trans o p o less more) refl

pub same_rising : (os ps : List Owed) → is_rising owed_cmp os ≡ true → is_rising owed_cmp ps ≡ true →
    ((o : Owed) → has os o ≡ true → has ps o ≡ true) → ((o : Owed) → has ps o ≡ true → has os o ≡ true) → os ≡ ps
same_rising [] [] rising rises to from = refl
same_rising [] (p ∷ ps) rising rises to from = absurd (false≢true (from p (ap (λ b. b || has ps p) (frame_itself p))))
same_rising (o ∷ os) [] rising rises to from = absurd (false≢true (to o (ap (λ b. b || has os o) (frame_itself o))))
same_rising (o ∷ os) (p ∷ ps) rising rises to from =
    let first = and_parts (before o os) (is_rising owed_cmp os) rising in
    let second = and_parts (before p ps) (is_rising owed_cmp ps) rises in
    let one = heads first.0 second.0 in
    let rest = same_rising os ps first.1 second.1 (λ q there. rest_to one first.0 q there) (λ q there. rest_from one second.0 q there) in
    λ i. one i ∷ rest i
  where
    heads : before o os ≡ true → before p ps ≡ true → o ≡ p
    heads above over = elim (cases_Bool (frame_eq o p)) [
      | inl this ↦ same_frame o p this
      | inr other ↦ elim (cases_Bool (frame_eq p o)) [
        | inl that ↦ sym (same_frame p o that)
        | inr differ ↦
            absurd (not_both p o
            (not_among p o ps over (either (frame_eq o p) (has ps o) (to o (ap (λ b. b || has os o) (frame_itself o))) other))
            (not_among o p os above (either (frame_eq p o) (has os p) (from p (ap (λ b. b || has ps p) (frame_itself p))) differ)))
      ]
    ]

    rest_to : o ≡ p → before o os ≡ true → (q : Owed) → has os q ≡ true → has ps q ≡ true
    rest_to one above q there = elim (cases_Bool (frame_eq q p)) [
      | inl this ↦ absurd (apart o q (not_among o q os above there) (one ∙ sym (same_frame q p this)))
      | inr other ↦ either (frame_eq q p) (has ps q) (to q (or_right (frame_eq q o) (has os q) there)) other
    ]

    rest_from : o ≡ p → before p ps ≡ true → (q : Owed) → has ps q ≡ true → has os q ≡ true
    rest_from one over q there = elim (cases_Bool (frame_eq q o)) [
      | inl this ↦ absurd (apart p q (not_among p q ps over there) (sym one ∙ sym (same_frame q o this)))
      | inr other ↦ either (frame_eq q o) (has os q) (from q (or_right (frame_eq q p) (has ps q) there)) other
    ]

-- so one map goes with one list of frames
pub one_index : (due : OwedKey → Option ℕ) (os ps : List Owed) → IsIndex due os → IsIndex due ps → os ≡ ps
one_index due os ps index other =
    same_rising os ps index.rising other.rising
    (λ o there. other.owes o.key o.due (index.told o there))
    (λ o there. index.owes o.key o.due (other.told o there))

pub index_alike : (due next : OwedKey → Option ℕ) (os : List Owed) → ((q : OwedKey) → next q ≡ due q) → IsIndex due os → IsIndex next os
index_alike due next os is index = record {
  rising = index.rising;
  told = λ o there. is o.key ∙ index.told o there;
  owes = λ key t some. index.owes key t (sym (is key) ∙ some);
}

-- Frames of keys that are owed for a moment one after the other

index_each : (t : ℕ) (ks : List OwedKey) (due : OwedKey → Option ℕ) (os : List Owed) → IsIndex due os → (next : OwedKey → Option ℕ) →
    ((q : OwedKey) → next q ≡ cond (list_any (λ k. key_eq k q) ks) (Some t) (due q)) → IsIndex next (fold (λ ps key. renew ps key t) os ks)
index_each t [] due os index next is = index_alike due next os is index
index_each t (k ∷ ks) due os index next is =
    let first = λ (q : OwedKey). cond (key_eq k q) (Some t) (due q) in
    index_each t ks first (renew os k t) (index_renewed due os index (record { due = t; key = k }) first (λ q. refl)) next
    (λ q. is q ∙ in_turn (key_eq k q) (list_any (λ j. key_eq j q) ks) (Some t) (due q))
  where
    in_turn : (a b : Bool) (s m : Option ℕ) → cond (a || b) s m ≡ cond b s (cond a s m)
    in_turn true true s m = refl
    in_turn true false s m = refl
    in_turn false b s m = refl

-- The frames that are due, by the map

-- what a map has for a key, where it is due
abbrev pub due_still : ℕ → Option ℕ → Option ℕ
due_still now None = None
due_still now (Some t) = cond (nat_le t now) (Some t) None

was_due : (now t : ℕ) (m : Option ℕ) → due_still now m ≡ Some t → (nat_le t now ≡ true) × (m ≡ Some t)
was_due now t None some = absurd (none-some t some)
was_due now t (Some s) some = elim (cases_Bool (nat_le s now)) [
  | inl le ↦
      let same : s ≡ t = same_Some s t (sym (ap (λ b. cond b (Some s) None) le) ∙ some) in
      (ap (λ n. nat_le n now) (sym same) ∙ le, ap Some same)
  | inr late ↦ absurd (none-some t (sym (ap (λ b. cond b (Some s) None) late) ∙ some))
]

index_due : (now : ℕ) (due : OwedKey → Option ℕ) (os : List Owed) → IsIndex due os →
    IsIndex (λ q. due_still now (due q)) (due_frames now os)
index_due now due os index = record {
  rising = rising_kept owed_cmp (λ o. nat_le o.due now) os index.rising;
  told = λ o there.
      let parts = and_parts (nat_le o.due now) (has os o) (sym (has_kept (λ p. nat_le p.due now) o os) ∙ there) in
      ap (due_still now) (index.told o parts.1) ∙ ap (λ b. cond b (Some o.due) None) parts.0;
  owes = λ key t some.
      let o : Owed = record { due = t; key = key } in
      let parts = was_due now t (due key) some in
      has_kept (λ p. nat_le p.due now) o os ∙ and_from (nat_le t now) (has os o) parts.0 (index.owes key t parts.1);
}

-- a key is among the keys of frames if it is owed
keys_owed : (os : List Owed) (q : OwedKey) → list_any (λ k. key_eq k q) (map (λ (o : Owed). o.key) os) ≡ is_owed os q
keys_owed [] q = refl
keys_owed (o ∷ os) q = ap (λ b. key_eq o.key q || b) (keys_owed os q)

moment : (now due : ℕ) (m : Option ℕ) → option_map (renewed_due now due) m ≡ cond (is_some (due_still now m)) (Some due) m
moment now due None = refl
moment now due (Some t) = elim (nat_le t now) as (λ b. Some (cond b due t) ≡ cond (is_some (cond b (Some t) None)) (Some due) (Some t)) [
  | true ↦ refl
  | false ↦ refl
]

-- the keys that are due are those whose moments change
module _ (now due : ℕ) (old : OwedKey → Option ℕ) (os : List Owed) (index : IsIndex old os) where
  are_due : (q : OwedKey) → list_any (λ k. key_eq k q) (due_at now os) ≡ is_some (due_still now (old q))
  are_due q =
      keys_owed (due_frames now os) q ∙ sym (owed_by (λ k. due_still now (old k)) (due_frames now os) (index_due now old os index) q)

  moments : (q : OwedKey) → option_map (renewed_due now due) (old q) ≡ cond (list_any (λ k. key_eq k q) (due_at now os)) (Some due) (old q)
  moments q = moment now due (old q) ∙ ap (λ b. cond b (Some due) (old q)) (sym (are_due q))

  -- so what is owed is what was owed once each was renewed in turn
  pub all_moved : (next : OwedKey → Option ℕ) (ps : List Owed) → ((q : OwedKey) → next q ≡ option_map (renewed_due now due) (old q)) →
      IsIndex next ps → ps ≡ all_renewed now due os
  all_moved next ps is other =
      one_index next ps (all_renewed now due os) other
      (index_each due (due_at now os) old os index next (λ q. is q ∙ moments q))

  due_key : (q : OwedKey) → has_key q (due_at now os) ≡ is_some (due_still now (old q))
  due_key q = ap (λ (f : OwedKey → Bool). list_any f (due_at now os)) (λ i k. turned_key q k i) ∙ are_due q

  -- the keys that are due, moved one by one
  pub moved_each : (q : OwedKey) → moved_to due (has_key q (due_at now os)) (old q) ≡ option_map (renewed_due now due) (old q)
  moved_each q = ap (λ b. moved_to due b (old q)) (due_key q) ∙ each (old q)
    where
      each : (m : Option ℕ) → moved_to due (is_some (due_still now m)) m ≡ option_map (renewed_due now due) m
      each None = refl
      each (Some t) = elim (nat_le t now) as (λ b. moved_to due (is_some (cond b (Some t) None)) (Some t) ≡ Some (cond b due t)) [
        | true ↦ refl
        | false ↦ refl
      ]

  -- a set of those that are then due at one moment has some, where any is due
  pub some_due : (ks : List OwedKey) → 0 < length (due_at now os) →
      ((q : OwedKey) → has_key q ks ≡ is_due due (option_map (renewed_due now due) (old q))) → has_some ks ≡ true
  some_due ks lt its = by_first (due_at now os) due_key lt
    where
      then : (m : Option ℕ) → is_some (due_still now m) ≡ true → is_due due (option_map (renewed_due now due) m) ≡ true
      then None some = absurd (false≢true some)
      then (Some t) some = elim (cases_Bool (nat_le t now)) [
        | inl le ↦ ap (λ b. due == cond b due t) le ∙ eq-eqb due due refl
        | inr late ↦ absurd (false≢true (sym (ap (λ b. is_some (cond b (Some t) None)) late) ∙ some))
      ]

      by_first : (js : List OwedKey) → ((q : OwedKey) → has_key q js ≡ is_some (due_still now (old q))) → 0 < length js → has_some ks ≡ true
      by_first [] same lt = absurd (omega arith)
      by_first (j ∷ js) same lt = some_by j ks (its j ∙ then (old j) (sym (same j) ∙ ap (λ b. b || has_key j js) (key_itself j)))
