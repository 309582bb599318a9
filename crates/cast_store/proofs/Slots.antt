-- What is seen of a store, lines and the slab of all messages, after a message is kept or removed, or those of a domain are dropped.
use Rattle.std.proofs.Common.{◌≡◌, ◌≢◌, ℕ, zero, suc, ◌+◌, Bool, true, false, not, cond, List, [], ◌∷◌}
use Rattle.std.proofs.Common.{◌++◌, map, get_or, Option, Some, None, refl, sym, ap, subst, ◌∙◌, Contains}
use Rattle.std.specs.Prelude.{◌==◌, Result, is_err, Ok, Err, IfOk, OnOk, OnErr}
use Rattle.std.specs.Borrow.{MutBor}
use Rattle.std.specs.Option.{IfNone, option_map, option_map_or}
use Rattle.std.specs.List.{find}
use Rattle.cast_types.specs.declared.names.DomainNo.{DomainNo}
use Rattle.cast_types.specs.declared.names.Key.{Key}
use Rattle.cast_types.specs.declared.names.Uid.{Uid}
use Rattle.cast_message.specs.declared.message.Message.{Message}
use Rattle.cast_message.specs.declared.message.Received.{Received}
use Rattle.cast_message.specs.Receipts.{message_under}
use Rattle.slab.specs.Slab.{Slab, Updates, CalledAt, RetainsFrom, get as slot_at}
use Rattle.cast_store.specs.declared.receipt.Receipt.{Receipt}
use Rattle.cast_store.specs.declared.slot.Slot.{Slot}
use Rattle.cast_store.specs.Ids.{message_of}
use Rattle.cast_store.specs.Store.{Shelf, kept_in, next_in}
use Rattle.cast_store.specs.Lines.{Line, line_of, line_or_empty, message_in, receipts_in, receipts_of, next_number, receipt_of}
use Rattle.cast_store.specs.Lines.{slot_of, slot_under, slot_with, with_receipt, without_number, but_number, kept_by, shelf_by}
use Rattle.cast_store.specs.Lines.{shelves_by, only, ChangesLine, IsFilled, IsEmptied, IsHeld, IsPadded, IsStocked}
use Rattle.cast_store.proofs.Finds.{keep_all}
use Rattle.cast_store.proofs.Lines.{shelf_seen, padded_line, padded_shelves}
use Rattle.cast_store.proofs.Stocks.{find_there, added, added_still, removed, removed_still, removed_still_own, dropped, dropped_still}
use Rattle.cast_store.proofs.Shows.{under_kept, of_kept, kept_still, kept_push, kept_left, left_of}

-- What is seen

abbrev pub number_in : Option Line → ℕ
number_in o = option_map_or (λ l. l.next) o 0

pub receipts_or_empty : (o : Option Line) → receipts_of o ≡ (line_or_empty o).receipts
receipts_or_empty None = refl
receipts_or_empty (Some l) = refl

pub number_or_empty : (o : Option Line) → number_in o ≡ (line_or_empty o).next
number_or_empty None = refl
number_or_empty (Some l) = refl

module _ (slots : ℕ → Option Slot) (lines : List (Option Line)) (d : DomainNo) where
  kept_seen : kept_in (shelves_by slots lines) d ≡ kept_by slots (receipts_in lines d)
  kept_seen = ap (λ (o : Option Shelf). option_map_or (λ s. s.kept) o []) (shelf_seen slots d lines) ∙ by (line_of lines d)
    where
      by : (o : Option Line) → option_map_or (λ (s : Shelf). s.kept) (option_map (shelf_by slots d.0) o) [] ≡ kept_by slots (receipts_of o)
      by None = refl
      by (Some l) = refl

  next_seen : next_in (shelves_by slots lines) d ≡ next_number lines d
  next_seen = ap (λ (o : Option Shelf). option_map_or (λ s. s.next) o 0) (shelf_seen slots d lines) ∙ by (line_of lines d)
    where
      by : (o : Option Line) → option_map_or (λ (s : Shelf). s.next) (option_map (shelf_by slots d.0) o) 0 ≡ number_in o
      by None = refl
      by (Some l) = refl

-- where nothing changes
pub still : (lines lines' : List (Option Line)) (old new : Slab Slot) → IsStocked (receipts_in lines) (slot_at old) → lines' ≡ lines →
    new.slots ≡ old.slots → IsStocked (receipts_in lines') (slot_at new)
still lines lines' old new sound same slots =
    let a = subst (λ (ls : List (Option Line)). IsStocked (receipts_in ls) (slot_at old)) (sym same) sound in
    subst (λ (xs : List (Option Slot)). IsStocked (receipts_in lines') (λ key. slot_at (record old { slots = xs }) key)) (sym slots) a

pub shelves_still : (lines lines' : List (Option Line)) (old new : Slab Slot) → lines' ≡ lines → new.slots ≡ old.slots →
    shelves_by (slot_at new) lines' ≡ shelves_by (slot_at old) lines
shelves_still lines lines' old new same slots = λ i. shelves_by (λ key. get_or (slots i) key None) (same i)

-- or no more than places without a line are added
module _ (lines lines' : List (Option Line)) (old new : Slab Slot) (padded : IsPadded lines lines') (slots : new.slots ≡ old.slots) where
  pub padded_still : IsStocked (receipts_in lines) (slot_at old) → IsStocked (receipts_in lines') (slot_at new)
  padded_still sound =
      still lines' lines' old new (subst (λ (f : DomainNo → List Receipt). IsStocked f (slot_at old))
      (sym (λ i d. receipts_of (padded_line lines lines' padded d i))) sound) refl slots

  pub padded_shelves_still : shelves_by (slot_at new) lines' ≡ shelves_by (slot_at old) lines
  padded_shelves_still = shelves_still lines' lines' old new refl slots ∙ padded_shelves lines lines' padded (slot_at old)

-- a domain with a line, or with none
module _ (slots : ℕ → Option Slot) (lines : List (Option Line)) (d : DomainNo) (o : Option Line) (at : line_of lines d ≡ o) where
  pub kept_seen_at : kept_in (shelves_by slots lines) d ≡ kept_by slots (receipts_of o)
  kept_seen_at = kept_seen slots lines d ∙ ap (λ o. kept_by slots (receipts_of o)) at

  pub next_seen_at : next_in (shelves_by slots lines) d ≡ number_in o
  next_seen_at = next_seen slots lines d ∙ ap number_in at

-- the slots of a domain's receipts hold its messages
module _ (slots : ℕ → Option Slot) (lines : List (Option Line)) (sound : IsStocked (receipts_in lines) slots) (d : DomainNo) where
  held_in : IsHeld slots (receipts_in lines d)
  held_in r there =
      let s = sound.taken d r there in
      (s.0, s.1, s.4, s.5)

  pub under_seen_in : (key : Key) →
      message_in slots (slot_under (receipts_in lines d) key.0) ≡ message_under (kept_in (shelves_by slots lines) d) key
  under_seen_in key =
      sym (under_kept slots (receipts_in lines d) key held_in)
      ∙ ap (λ (xs : List Received). message_under xs key) (sym (kept_seen slots lines d))

  module _ (l : Line) (at : line_of lines d ≡ Some l) where
    pub held_at : IsHeld slots l.receipts
    held_at = subst (IsHeld slots) (ap receipts_of at) held_in

    pub under_seen : (key : Key) → message_in slots (slot_under l.receipts key.0) ≡ message_under (kept_in (shelves_by slots lines) d) key
    under_seen key = ap (λ (xs : List Receipt). message_in slots (slot_under xs key.0)) (sym (ap receipts_of at)) ∙ under_seen_in key

    pub of_seen : (id : Uid) → message_in slots (slot_of l.receipts id) ≡ message_of (kept_in (shelves_by slots lines) d) id
    of_seen id =
        sym (of_kept slots l.receipts id held_at)
        ∙ ap (λ (xs : List Received). message_of xs id) (sym (kept_seen_at slots lines d (Some l) at))

-- Changes

-- a domain keeps these, under keys below this number, and the others what they kept
pub record After (d : DomainNo) (these : List Received) (number : ℕ) (lines lines' : List (Option Line))
    (old new : Slab Slot) : Type 0 where
  pub sound : IsStocked (receipts_in lines') (slot_at new)
  pub kept : kept_in (shelves_by (slot_at new) lines') d ≡ these
  pub next : next_in (shelves_by (slot_at new) lines') d ≡ number
  pub others : (e : DomainNo) → e ≢ d → (kept_in (shelves_by (slot_at new) lines') e ≡ kept_in (shelves_by (slot_at old) lines) e)
      × (next_in (shelves_by (slot_at new) lines') e ≡ next_in (shelves_by (slot_at old) lines) e)

module _ (lines lines' : List (Option Line)) (old new : Slab Slot) (sound : IsStocked (receipts_in lines) (slot_at old))
    (d : DomainNo) where
  rest : (w : Option Line) → ChangesLine d w lines lines' → (e : DomainNo) → e ≢ d → receipts_in lines' e ≡ receipts_in lines e
  rest w changes e differ = ap receipts_of (changes.others e differ)

  after : (w : Option Line) (these : List Received) → ChangesLine d w lines lines' → IsStocked (receipts_in lines') (slot_at new) →
      ((e : DomainNo) → e ≢ d → (q : Receipt) → Contains (receipts_in lines e) q → slot_at new q.slot ≡ slot_at old q.slot) →
      kept_by (slot_at new) (receipts_of w) ≡ these → After d these (number_in w) lines lines' old new
  after w these changes now stays kept = record {
    sound = now;
    kept = kept_seen (slot_at new) lines' d ∙ ap (λ o. kept_by (slot_at new) (receipts_of o)) changes.here ∙ kept;
    next = next_seen (slot_at new) lines' d ∙ ap number_in changes.here;
    others = λ e differ. (
      kept_seen (slot_at new) lines' e ∙ ap (kept_by (slot_at new)) (rest w changes e differ)
          ∙ kept_still (slot_at old) (slot_at new) (receipts_in lines e) (stays e differ)
          ∙ sym (kept_seen (slot_at old) lines e),
      next_seen (slot_at new) lines' e ∙ ap number_in (changes.others e differ) ∙ sym (next_seen (slot_at old) lines e),
    );
  }

  -- a message is kept
  pub after_put : (m : Message) (l : Line) → line_or_empty (line_of lines d) ≡ l → slot_under l.receipts l.next ≡ None →
      ChangesLine d (Some (with_receipt old.vacant_key m l)) lines lines' → IsFilled (slot_with d l.next m) old new →
      After d (kept_in (shelves_by (slot_at old) lines) d
      ++ (record { key = record { 0 = next_in (shelves_by (slot_at old) lines) d }; message = m }) ∷ [])
      (next_in (shelves_by (slot_at old) lines) d + 1) lines lines' old new
  after_put m l is free changes filled =
      let was : receipts_in lines d ≡ l.receipts = receipts_or_empty (line_of lines d) ∙ ap (λ (k : Line). k.receipts) is in
      let key = old.vacant_key in
      let r = receipt_of l.next key m in
      let s : Slot = slot_with d l.next m in
      let none : slot_under (receipts_in lines d) l.next ≡ None = ap (λ (xs : List Receipt). slot_under xs l.next) was ∙ free in
      let own : receipts_in lines' d ≡ receipts_in lines d ++ r ∷ [] =
      ap receipts_of changes.here ∙ ap (λ (xs : List Receipt). xs ++ r ∷ []) (sym was) in
      let apart = rest (Some (with_receipt key m l)) changes in
      let stays =
      added_still (receipts_in lines) (receipts_in lines') (slot_at old) (slot_at new)
      sound d apart l.next key m filled.vacant none filled.slot.changed filled.slot.others own in
      let now =
      added (receipts_in lines) (receipts_in lines') (slot_at old) (slot_at new)
      sound d apart l.next key m filled.vacant none filled.slot.changed filled.slot.others own in
      let seen = next_seen (slot_at old) lines d ∙ number_or_empty (line_of lines d) ∙ ap (λ (k : Line). k.next) is in
      let kept : kept_by (slot_at new) (l.receipts ++ r ∷ [])
      ≡ kept_in (shelves_by (slot_at old) lines) d ++ (record { key = record { 0 = l.next }; message = m }) ∷ [] =
      kept_push (slot_at new) l.receipts r s filled.slot.changed
      ∙ ap (λ (xs : List Received). xs ++ (record { key = record { 0 = l.next }; message = m }) ∷ [])
      (ap (kept_by (slot_at new)) (sym was)
      ∙ kept_still (slot_at old) (slot_at new) (receipts_in lines d) (stays d)
      ∙ sym (kept_seen (slot_at old) lines d)) in
      subst (λ (n : ℕ). After d (kept_in (shelves_by (slot_at old) lines) d ++ (record { key = record { 0 = n }; message = m }) ∷ [])
      (n + 1) lines lines' old new) (sym seen)
      (after (Some (with_receipt key m l)) (kept_in (shelves_by (slot_at old) lines) d
      ++ (record { key = record { 0 = l.next }; message = m }) ∷ []) changes now (λ e differ. stays e) kept)

  -- a message is removed, or none is under the key
  pub after_remove : (k : Key) → ChangesLine d (option_map (without_number k.0) (line_of lines d)) lines lines' →
      IsEmptied old new (slot_under (receipts_in lines d) k.0) → (slot_under (receipts_in lines d) k.0 ≡ None → lines' ≡ lines) →
      After d (left_of k.0 (kept_in (shelves_by (slot_at old) lines) d)) (next_in (shelves_by (slot_at old) lines) d) lines lines' old new
  after_remove k changes emptied none = by (find (λ r. r.number == k.0) (receipts_in lines d)) refl
    where
      left_receipts : (o : Option Line) → receipts_of (option_map (without_number k.0) o) ≡ but_number k.0 (receipts_of o)
      left_receipts None = refl
      left_receipts (Some l) = refl

      left_number : (o : Option Line) → number_in (option_map (without_number k.0) o) ≡ number_in o
      left_number None = refl
      left_number (Some l) = refl

      own : receipts_in lines' d ≡ but_number k.0 (receipts_in lines d)
      own = ap receipts_of changes.here ∙ left_receipts (line_of lines d)

      by : (o : Option Receipt) → find (λ r. r.number == k.0) (receipts_in lines d) ≡ o → After d
          (left_of k.0 (kept_in (shelves_by (slot_at old) lines) d)) (next_in (shelves_by (slot_at old) lines) d) lines lines' old new
      by None is =
          let missing : slot_under (receipts_in lines d) k.0 ≡ None = ap (λ (o : Option Receipt). option_map (λ r. r.slot) o) is in
          let slots : new.slots ≡ old.slots = subst (IsEmptied old new) missing emptied in
          let same = none missing in
          let whole : left_of k.0 (kept_in (shelves_by (slot_at old) lines) d) ≡ kept_in (shelves_by (slot_at old) lines) d =
          ap (left_of k.0) (kept_seen (slot_at old) lines d)
          ∙ sym (kept_left (slot_at old) (slot_at old) k.0 (receipts_in lines d) (λ r there differ. refl))
          ∙ ap (kept_by (slot_at old)) (keep_all (λ r. r.number == k.0) (receipts_in lines d) is)
          ∙ sym (kept_seen (slot_at old) lines d) in
          let shelves = shelves_still lines lines' old new same slots in
          record {
            sound = still lines lines' old new sound same slots;
            kept = ap (λ (xs : List Shelf). kept_in xs d) shelves ∙ sym whole;
            next = ap (λ (xs : List Shelf). next_in xs d) shelves;
            others = λ e differ. (ap (λ (xs : List Shelf). kept_in xs e) shelves, ap (λ (xs : List Shelf). next_in xs e) shelves);
          }
      by (Some r) found =
          let w = option_map (without_number k.0) (line_of lines d) in
          let u : Updates old new r.slot None =
          subst (IsEmptied old new) (ap (λ (o : Option Receipt). option_map (λ r. r.slot) o) found) emptied in
          let apart = rest w changes in
          let stays =
          removed_still (receipts_in lines) (receipts_in lines') (slot_at old) (slot_at new)
          sound d apart k.0 r found u.changed u.others own in
          let stays_own =
          removed_still_own (receipts_in lines) (receipts_in lines') (slot_at old) (slot_at new)
          sound d apart k.0 r found u.changed u.others own in
          let now =
          removed (receipts_in lines) (receipts_in lines') (slot_at old) (slot_at new) sound d apart k.0 r found u.changed u.others own in
          let kept : kept_by (slot_at new) (receipts_of w) ≡ left_of k.0 (kept_in (shelves_by (slot_at old) lines) d) =
          ap (kept_by (slot_at new)) (left_receipts (line_of lines d))
          ∙ kept_left (slot_at old) (slot_at new) k.0 (receipts_in lines d) stays_own
          ∙ ap (left_of k.0) (sym (kept_seen (slot_at old) lines d)) in
          subst (λ (n : ℕ). After d (left_of k.0 (kept_in (shelves_by (slot_at old) lines) d)) n lines lines' old new)
          (left_number (line_of lines d) ∙ sym (next_seen (slot_at old) lines d))
          (after w (left_of k.0 (kept_in (shelves_by (slot_at old) lines) d)) changes now stays kept)

  -- where none comes back, nothing is changed
  pub nothing_removed : (k : Key) (o : Option Message) → o ≡ message_in (slot_at old) (slot_under (receipts_in lines d) k.0) →
      IsEmptied old new (slot_under (receipts_in lines d) k.0) → (slot_under (receipts_in lines d) k.0 ≡ None → lines' ≡ lines) →
      IfNone o (shelves_by (slot_at new) lines' ≡ shelves_by (slot_at old) lines)
  nothing_removed k (Some m) is emptied none = tt
  nothing_removed k None is emptied none = by (find (λ r. r.number == k.0) (receipts_in lines d)) refl
    where
      by : (o : Option Receipt) → find (λ r. r.number == k.0) (receipts_in lines d) ≡ o →
          shelves_by (slot_at new) lines' ≡ shelves_by (slot_at old) lines
      by None missing =
          let free : slot_under (receipts_in lines d) k.0 ≡ None = ap (λ (o : Option Receipt). option_map (λ r. r.slot) o) missing in
          shelves_still lines lines' old new (none free) (subst (IsEmptied old new) free emptied)
      by (Some r) found =
          let s = held_in (slot_at old) lines sound d r (find_there (λ r. r.number == k.0) (receipts_in lines d) r found).0 in
          let there : message_in (slot_at old) (slot_under (receipts_in lines d) k.0) ≡ Some s.0.message =
          ap (λ (o : Option Receipt). message_in (slot_at old) (option_map (λ r. r.slot) o)) found ∙ ap (option_map (λ s. s.message)) s.1 in
          absurd (cc (is ∙ there))

  -- all messages of a domain are dropped
  pub after_drop : ChangesLine d None lines lines' → new.slots ≡ map (only (λ s. not (s.domain.0 == d.0))) old.slots →
      After d [] 0 lines lines' old new
  after_drop changes slots =
      let left : (key : ℕ) → slot_at new key ≡ only (λ s. not (s.domain.0 == d.0)) (slot_at old key) =
      λ key. ap (λ (xs : List (Option Slot)). get_or xs key None) slots ∙ only_at (λ s. not (s.domain.0 == d.0)) old.slots key in
      let apart = rest None changes in
      let own : receipts_in lines' d ≡ [] = ap receipts_of changes.here in
      let stays = dropped_still (receipts_in lines) (receipts_in lines') (slot_at old) (slot_at new) sound d apart left own in
      let now = dropped (receipts_in lines) (receipts_in lines') (slot_at old) (slot_at new) sound d apart left own in
      after None [] changes now stays refl
    where
      only_at : (test : Slot → Bool) (xs : List (Option Slot)) (i : ℕ) → get_or (map (only test) xs) i None ≡ only test (get_or xs i None)
      only_at test [] i = refl
      only_at test (x ∷ xs) zero = refl
      only_at test (x ∷ xs) (suc i) = only_at test xs i

-- Results

pub ok_both : {X E P : Type 0} {A B : X → Type 0} (r : Result X E) → IfOk r A → OnOk r P → ((x : X) → A x → P → B x) → IfOk r B
ok_both (Ok x) a p both = both x a p
ok_both (Err y) a p both = a

-- what holds with an error holds where there is one, and so with a value
pub when_err : {X E P : Type 0} (r : Result X E) → is_err r ≡ true → OnErr r P → P
when_err (Ok x) is p = absurd (cc is)
when_err (Err y) is p = p

pub when_ok : {X E P : Type 0} (r : Result X E) → is_err r ≡ false → OnOk r P → P
when_ok (Ok x) is p = p
when_ok (Err y) is p = absurd (cc is)

-- two things that hold with a value, and with an error
pub on_ok_both : {X E P Q R : Type 0} (r : Result X E) → (P → Q → R) → OnOk r P → OnOk r Q → OnOk r R
on_ok_both (Ok x) f p q = f p q
on_ok_both (Err y) f p q = tt

pub on_err_both : {X E P Q R : Type 0} (r : Result X E) → (P → Q → R) → OnErr r P → OnErr r Q → OnErr r R
on_err_both (Ok x) f p q = tt
on_err_both (Err y) f p q = f p q

-- what a slab's `retain` leaves, where the closure keeps no state and leaves each value as it was
module _ {T F : Type 0} (step : F → ℕ → MutBor T → Bool → MutBor T → F → Type 0) (test : T → Bool) (f : F)
    (says : (key : ℕ) (old : T) (keep : Bool) (new : T) (next : F) → CalledAt step f key old keep new next →
    (keep ≡ test old) × (new ≡ old) × (next ≡ f)) where
  pub retained : (key : ℕ) (old kept : List (Option T)) → RetainsFrom step f key old kept → kept ≡ map (only test) old
  retained key [] kept is = is
  retained key (None ∷ rest) kept is = is.1 ∙ ap (λ xs. None ∷ xs) (retained (key + 1) rest is.0 is.2)
  retained key (Some x ∷ rest) kept is =
      let s = says key x is.0 is.1 is.2 is.3 in
      let later = retained (key + 1) rest is.4 (subst (λ g. RetainsFrom step g (key + 1) rest is.4) s.2 is.6) in
      is.5 ∙ (λ j. cond (s.0 j) (Some (s.1 j)) None ∷ later j)
