-- What receipts show of the messages in the slots that they name.
use Rattle.std.proofs.Common.{◌≡◌, ℕ, zero, suc, ◌<◌, ◌≤◌, true, false, not, cond, ◌&&◌, List, [], ◌∷◌, ◌++◌, length}
use Rattle.std.proofs.Common.{get_or, Option, Some, None, refl, sym, ap, subst, ◌∙◌, inl, inr, arith, Contains, filter}
use Rattle.std.specs.Prelude.{◌==◌, nat_lt, slice_get}
use Rattle.std.specs.Option.{IfSome, IfNone, option_map}
use Rattle.std.specs.List.{find, list_all, cons_option}
use Rattle.std.proofs.lemmas.Bool.{cases_Bool}
use Rattle.std.proofs.lemmas.List.Elements.{filter_map-append}
use Rattle.cast_types.specs.declared.names.Key.{Key}
use Rattle.cast_types.specs.declared.names.Uid.{Uid}
use Rattle.cast_types.specs.declared.source.Source.{Source}
use Rattle.cast_types.specs.Names.{uid_eq}
use Rattle.cast_types.specs.Sources.{source_of}
use Rattle.cast_types.proofs.Contains.{contains_here, contains_later}
use Rattle.cast_message.specs.declared.message.Received.{Received}
use Rattle.cast_message.specs.Receipts.{key_eq, message_under}
use Rattle.cast_index.specs.Rises.{rises, all_below}
use Rattle.cast_store.specs.declared.receipt.Receipt.{Receipt}
use Rattle.cast_store.specs.declared.slot.Slot.{Slot}
use Rattle.cast_store.specs.Ids.{IsKeptOf, IsLedBy, KeepsAbcast, KeepsAbcastRange, KeepsFirst}
use Rattle.cast_store.specs.Ids.{KeepsNoAbcast, KeepsNoneOf, is_abcast, message_of}
use Rattle.cast_store.specs.Store.{is_rising, key_of}
use Rattle.cast_store.specs.Lines.{number_of, is_numbered, slot_under, slot_of, message_in, received_by}
use Rattle.cast_store.specs.Lines.{kept_by, but_number, key_of as receipt_key, HasAbcastRange, HasNoAbcast}
use Rattle.cast_store.specs.Lines.{HasNoneOf, IsFirstReceipt, IsHeld, IsReceivedOf, IsLedByReceipts}

-- a message with its key
abbrev pub received : Receipt → Slot → Received
received r s = record { key = record { 0 = r.number }; message = s.message }

-- slots that show the same
pub kept_still : (slots slots' : ℕ → Option Slot) (xs : List Receipt) → ((r : Receipt) → Contains xs r → slots' r.slot ≡ slots r.slot) →
    kept_by slots' xs ≡ kept_by slots xs
kept_still slots slots' [] still = refl
kept_still slots slots' (x ∷ xs) still =
    λ i. cons_option (option_map (received x) (still x (contains_here x xs) i))
    (kept_still slots slots' xs (λ r there. still r (contains_later r x xs there)) i)

-- one more
pub kept_push : (slots : ℕ → Option Slot) (xs : List Receipt) (r : Receipt) (s : Slot) → slots r.slot ≡ Some s →
    kept_by slots (xs ++ r ∷ []) ≡ kept_by slots xs ++ received r s ∷ []
kept_push slots xs r s is =
    filter_map-append (received_by slots) xs (r ∷ [])
    ∙ ap (λ (o : Option Slot). kept_by slots xs ++ cons_option (option_map (received r) o) []) is

-- those of a number taken out
abbrev pub left_of : ℕ → List Received → List Received
left_of n xs = filter (λ x. not (x.key.0 == n)) xs

pub kept_left : (slots slots' : ℕ → Option Slot) (n : ℕ) (xs : List Receipt) →
    ((r : Receipt) → Contains xs r → (r.number == n) ≡ false → slots' r.slot ≡ slots r.slot) →
    kept_by slots' (but_number n xs) ≡ left_of n (kept_by slots xs)
kept_left slots slots' n [] still = refl
kept_left slots slots' n (x ∷ xs) still =
    let later = kept_left slots slots' n xs (λ r there. still r (contains_later r x xs there)) in
    elim (cases_Bool (x.number == n)) [
      | inl here ↦
          ap (λ b. kept_by slots' (cond (not b) (x ∷ but_number n xs) (but_number n xs))) here ∙ later ∙ sym (gone here (slots x.slot))
      | inr away ↦
          ap (λ b. kept_by slots' (cond (not b) (x ∷ but_number n xs) (but_number n xs))) away
          ∙ (λ i. cons_option (option_map (received x) (still x (contains_here x xs) away i)) (later i))
          ∙ sym (stays away (slots x.slot))
    ]
  where
    gone : (x.number == n) ≡ true → (o : Option Slot) →
        left_of n (cons_option (option_map (received x) o) (kept_by slots xs)) ≡ left_of n (kept_by slots xs)
    gone here None = refl
    gone here (Some s) = ap (λ b. cond (not b) (received x s ∷ left_of n (kept_by slots xs)) (left_of n (kept_by slots xs))) here

    stays : (x.number == n) ≡ false → (o : Option Slot) → left_of n (cons_option (option_map (received x) o) (kept_by slots xs))
        ≡ cons_option (option_map (received x) o) (left_of n (kept_by slots xs))
    stays away None = refl
    stays away (Some s) = ap (λ b. cond (not b) (received x s ∷ left_of n (kept_by slots xs)) (left_of n (kept_by slots xs))) away

-- Where each slot is taken

module _ (slots : ℕ → Option Slot) where
  first_held : (x : Receipt) (xs : List Receipt) → IsHeld slots (x ∷ xs) → (s : Slot)
      × (slots x.slot ≡ Some s)
      × (s.message.id ≡ x.id)
      × (kept_by slots (x ∷ xs) ≡ received x s ∷ kept_by slots xs)
      × (is_abcast s.message ≡ x.atomic)
  first_held x xs held =
      let s = held x (contains_here x xs) in
      (s.0, s.1, s.2, ap (λ (o : Option Slot). cons_option (option_map (received x) o) (kept_by slots xs)) s.1, s.3)

  later_held : (x : Receipt) (xs : List Receipt) → IsHeld slots (x ∷ xs) → IsHeld slots xs
  later_held x xs held r there = held r (contains_later r x xs there)

  pub length_kept : (xs : List Receipt) → IsHeld slots xs → length (kept_by slots xs) ≡ length xs
  length_kept [] held = refl
  length_kept (x ∷ xs) held =
      let first = first_held x xs held in
      ap length first.3 ∙ ap suc (length_kept xs (later_held x xs held))

  pub kept_at : (xs : List Receipt) (i : ℕ) (d : Receipt) (s : Slot) → IsHeld slots xs → i < length xs →
      slots (get_or xs i d).slot ≡ Some s → slice_get (kept_by slots xs) i ≡ Some (received (get_or xs i d) s)
  kept_at [] i d s held lt is = absurd (omega (arith, lt))
  kept_at (x ∷ xs) zero d s held lt is =
      ap (λ (o : Option Slot). slice_get (cons_option (option_map (received x) o) (kept_by slots xs)) 0) is
  kept_at (x ∷ xs) (suc i) d s held lt is =
      let first = first_held x xs held in
      ap (λ (ys : List Received). slice_get ys (suc i)) first.3 ∙ kept_at xs i d s (later_held x xs held) (omega (arith, lt)) is

  -- numbers that rise
  all_by : (low : ℕ) (xs : List Receipt) → IsHeld slots xs →
      list_all (λ y. nat_lt low (key_of y)) (kept_by slots xs) ≡ list_all (λ y. nat_lt low (number_of y)) xs
  all_by low [] held = refl
  all_by low (x ∷ xs) held =
      ap (list_all (λ y. nat_lt low (key_of y))) (first_held x xs held).3
      ∙ ap (λ b. nat_lt low x.number && b) (all_by low xs (later_held x xs held))

  rises_by : (xs : List Receipt) → IsHeld slots xs → rises key_of (kept_by slots xs) ≡ rises number_of xs
  rises_by [] held = refl
  rises_by (x ∷ xs) held =
      let later = later_held x xs held in
      ap (rises key_of) (first_held x xs held).3 ∙ (λ i. all_by x.number xs later i && rises_by xs later i)

  below_by : (next : ℕ) (xs : List Receipt) → IsHeld slots xs → all_below key_of next (kept_by slots xs) ≡ all_below number_of next xs
  below_by next [] held = refl
  below_by next (x ∷ xs) held =
      ap (all_below key_of next) (first_held x xs held).3 ∙ ap (λ b. nat_lt x.number next && b) (below_by next xs (later_held x xs held))

  pub rising_kept : (next : ℕ) (xs : List Receipt) → IsHeld slots xs → is_rising next (kept_by slots xs) ≡ is_numbered next xs
  rising_kept next xs held = λ i. rises_by xs held i && below_by next xs held i

  -- the message under a key
  pub under_kept : (xs : List Receipt) (k : Key) → IsHeld slots xs →
      message_under (kept_by slots xs) k ≡ message_in slots (slot_under xs k.0)
  under_kept [] k held = refl
  under_kept (x ∷ xs) k held =
      let first = first_held x xs held in
      ap (λ (ys : List Received). message_under ys k) first.3
      ∙ elim (cases_Bool (x.number == k.0)) [
        | inl here ↦
            ap (λ b. option_map (λ y. y.message) (cond b (Some (received x first.0)) (find (λ y. key_eq y.key k) (kept_by slots xs)))) here
            ∙ sym (ap (option_map (λ s. s.message)) first.1)
            ∙ sym (ap (λ b. message_in slots (option_map (λ r. r.slot) (cond b (Some x) (find (λ r. r.number == k.0) xs)))) here)
        | inr away ↦
            ap (λ b. option_map (λ y. y.message) (cond b (Some (received x first.0)) (find (λ y. key_eq y.key k) (kept_by slots xs)))) away
            ∙ under_kept xs k (later_held x xs held)
            ∙ sym (ap (λ b. message_in slots (option_map (λ r. r.slot) (cond b (Some x) (find (λ r. r.number == k.0) xs)))) away)
      ]

  -- the first message of an id
  pub of_kept : (xs : List Receipt) (u : Uid) → IsHeld slots xs → message_of (kept_by slots xs) u ≡ message_in slots (slot_of xs u)
  of_kept [] u has = refl
  of_kept (x ∷ xs) u has =
      let first = first_held x xs has in
      ap (λ (ys : List Received). message_of ys u) first.3
      ∙ ap (λ id. option_map (λ y. y.message)
      (cond (uid_eq id u) (Some (received x first.0)) (find (λ y. uid_eq y.message.id u) (kept_by slots xs)))) first.2
      ∙ elim (cases_Bool (uid_eq x.id u)) [
        | inl here ↦
            ap (λ b.
            option_map (λ y. y.message) (cond b (Some (received x first.0)) (find (λ y. uid_eq y.message.id u) (kept_by slots xs)))) here
            ∙ sym (ap (option_map (λ s. s.message)) first.1)
            ∙ sym (ap (λ b. message_in slots (option_map (λ r. r.slot) (cond b (Some x) (find (λ r. uid_eq r.id u) xs)))) here)
        | inr away ↦
            ap (λ b.
            option_map (λ y. y.message) (cond b (Some (received x first.0)) (find (λ y. uid_eq y.message.id u) (kept_by slots xs)))) away
            ∙ of_kept xs u (later_held x xs has)
            ∙ sym (ap (λ b. message_in slots (option_map (λ r. r.slot) (cond b (Some x) (find (λ r. uid_eq r.id u) xs)))) away)
      ]

  -- a receipt's message is kept
  kept_there : (xs : List Receipt) (r : Receipt) → IsHeld slots xs → Contains xs r →
      (y : Received) × Contains (kept_by slots xs) y × (y.key ≡ receipt_key r) × (y.message.id ≡ r.id) × (is_abcast y.message ≡ r.atomic)
  kept_there [] r has (k, lt, at) = absurd (omega (arith, lt))
  kept_there (x ∷ xs) r has (zero, lt, at) =
      let first = first_held x xs has in (
        received x first.0,
        subst (λ (ys : List Received). Contains ys (received x first.0)) (sym first.3)
            (contains_here (received x first.0) (kept_by slots xs)),
        ap (λ (q : Receipt). record { 0 = q.number }) at,
        first.2 ∙ ap (λ (q : Receipt). q.id) at,
        first.4 ∙ ap (λ (q : Receipt). q.atomic) at,
      )
  kept_there (x ∷ xs) r has (suc k, lt, at) =
      let first = first_held x xs has in
      let y = kept_there xs r (later_held x xs has) (k, omega (arith, lt), at) in (
        y.0,
        subst (λ (ys : List Received). Contains ys y.0) (sym first.3) (contains_later y.0 (received x first.0) (kept_by slots xs) y.1),
        y.2,
        y.3,
        y.4,
      )

  -- and what is kept has a receipt
  receipt_there : (xs : List Receipt) (y : Received) → IsHeld slots xs → Contains (kept_by slots xs) y →
      (r : Receipt) × Contains xs r × (r.id ≡ y.message.id) × (r.atomic ≡ is_abcast y.message)
  receipt_there [] y has (k, lt, at) = absurd (omega (arith, lt))
  receipt_there (x ∷ xs) y has there =
      let first = first_held x xs has in
      by first.0 first.2 first.4 (λ later. receipt_there xs y (later_held x xs has) later)
      (subst (λ (ys : List Received). Contains ys y) first.3 there)
    where
      by : (s : Slot) → s.message.id ≡ x.id → is_abcast s.message ≡ x.atomic →
          (Contains (kept_by slots xs) y → (r : Receipt) × Contains xs r × (r.id ≡ y.message.id) × (r.atomic ≡ is_abcast y.message)) →
          Contains (received x s ∷ kept_by slots xs) y →
          (r : Receipt) × Contains (x ∷ xs) r × (r.id ≡ y.message.id) × (r.atomic ≡ is_abcast y.message)
      by s its kind behind (zero, lt, at) = (
        x,
        contains_here x xs,
        sym its ∙ ap (λ (z : Received). z.message.id) at,
        sym kind ∙ ap (λ (z : Received). is_abcast z.message) at,
      )
      by s its kind behind (suc k, lt, at) =
          let r = behind (k, omega (arith, lt), at) in
          (r.0, contains_later r.0 x xs r.1, r.2, r.3)

  -- so of what passes and of what fails
  kept_of : (Passes : Uid → Type 0) (xs : List Receipt) (k : Key) → IsHeld slots xs → IsReceivedOf Passes xs k →
      IsKeptOf Passes (kept_by slots xs) k
  kept_of Passes xs k has (r, there, is, passes) =
      let y = kept_there xs r has there in
      (y.0, y.1, y.2 ∙ is, subst Passes (sym y.3) passes)

  pub led_by : (Fails : Uid → Type 0) (xs : List Receipt) → IsHeld slots xs → IsLedByReceipts Fails xs → IsLedBy Fails (kept_by slots xs)
  led_by Fails xs has led y there =
      let r = receipt_there xs y has there in
      let s = led r.0 r.1 in
      let z = kept_there xs s.0 has s.1 in (
        z.0,
        z.1,
        ap source_of z.3 ∙ s.2 ∙ ap source_of r.2,
        subst (λ (u : Uid). u.count ≤ y.message.id.count) (sym z.3) (subst (λ (u : Uid). s.0.id.count ≤ u.count) r.2 s.3),
        subst Fails (sym z.3) s.4,
      )

  pub kept_of_some : (Passes : Uid → Type 0) (xs : List Receipt) (o : Option Key) → IsHeld slots xs → IfSome o (IsReceivedOf Passes xs) →
      IfSome o (IsKeptOf Passes (kept_by slots xs))
  kept_of_some Passes xs None has found = tt
  kept_of_some Passes xs (Some k) has found = kept_of Passes xs k has found

  pub led_by_none : (Fails : Uid → Type 0) (xs : List Receipt) (o : Option Key) → IsHeld slots xs → IfNone o (IsLedByReceipts Fails xs) →
      IfNone o (IsLedBy Fails (kept_by slots xs))
  led_by_none Fails xs None has led = led_by Fails xs has led
  led_by_none Fails xs (Some k) has led = tt

  -- of the first of a source
  first_kept : (xs : List Receipt) (s : Source) (first : Uid × Key) → IsHeld slots xs → IsFirstReceipt xs s first →
      KeepsFirst (kept_by slots xs) s first
  first_kept xs s first has is =
      let y = kept_there xs is.there.0 has is.there.1 in
      record {
        there = (y.0, y.1, y.3 ∙ is.there.2, y.2 ∙ is.there.3);
        own = is.own;
        least = λ z there its.
            let r = receipt_there xs z has there in
            subst (λ (u : Uid). first.0.count ≤ u.count) r.2 (is.least r.0 r.1 (ap source_of r.2 ∙ its));
      }

  pub first_kept_some : (xs : List Receipt) (s : Source) (o : Option (Uid × Key)) → IsHeld slots xs → IfSome o (IsFirstReceipt xs s) →
      IfSome o (KeepsFirst (kept_by slots xs) s)
  first_kept_some xs s None has is = tt
  first_kept_some xs s (Some first) has is = first_kept xs s first has is

  pub none_kept_none : (xs : List Receipt) (s : Source) (o : Option (Uid × Key)) → IsHeld slots xs → IfNone o (HasNoneOf xs s) →
      IfNone o (KeepsNoneOf (kept_by slots xs) s)
  none_kept_none xs s None has none = λ y there its. let r = receipt_there xs y has there in none r.0 r.1 (ap source_of r.2 ∙ its)
  none_kept_none xs s (Some first) has none = tt

  -- and of the ABCASTs of a source
  abcast_range : (xs : List Receipt) (s : Source) (range : ℕ × ℕ) → IsHeld slots xs → HasAbcastRange xs s range →
      KeepsAbcastRange (kept_by slots xs) s range
  abcast_range xs s range has counts = record {
    least = kept counts.least.0 counts.least.1 range.0 counts.least.2 counts.least.3 counts.least.4;
    greatest = kept counts.greatest.0 counts.greatest.1 range.1 counts.greatest.2 counts.greatest.3 counts.greatest.4;
    within = λ y there is its.
        let r = receipt_there xs y has there in
        let both = counts.within r.0 r.1 (r.3 ∙ is) (ap source_of r.2 ∙ its) in
        let same = ap (λ (u : Uid). u.count) r.2 in
        (omega (arith, both.0, same), omega (arith, both.1, same));
  }
    where
      kept : (r : Receipt) → Contains xs r → (n : ℕ) → r.atomic ≡ true → source_of r.id ≡ s → r.id.count ≡ n →
          KeepsAbcast (kept_by slots xs) s n
      kept r there n is its counts =
          let y = kept_there xs r has there in
          (y.0, y.1, y.4 ∙ is, ap source_of y.3 ∙ its, ap (λ (u : Uid). u.count) y.3 ∙ counts)

  pub abcast_range_some : (xs : List Receipt) (s : Source) (o : Option (ℕ × ℕ)) → IsHeld slots xs → IfSome o (HasAbcastRange xs s) →
      IfSome o (KeepsAbcastRange (kept_by slots xs) s)
  abcast_range_some xs s None has counts = tt
  abcast_range_some xs s (Some range) has counts = abcast_range xs s range has counts

  no_abcast : (xs : List Receipt) (s : Source) → IsHeld slots xs → HasNoAbcast xs s → KeepsNoAbcast (kept_by slots xs) s
  no_abcast xs s has none y there its =
      let r = receipt_there xs y has there in
      sym r.3 ∙ none r.0 r.1 (ap source_of r.2 ∙ its)

  pub no_abcast_none : (xs : List Receipt) (s : Source) (o : Option (ℕ × ℕ)) → IsHeld slots xs → IfNone o (HasNoAbcast xs s) →
      IfNone o (KeepsNoAbcast (kept_by slots xs) s)
  no_abcast_none xs s None has none = no_abcast xs s has none
  no_abcast_none xs s (Some range) has none = tt
