-- What the slab and the map of names are, and what is seen of them, after an outbox is changed, added or removed.
use Rattle.std.proofs.Common.{◌≡◌, ◌≢◌, ℕ, zero, suc, ◌+◌, Bool, true, false, not, cond, List, [], ◌∷◌, map}
use Rattle.std.proofs.Common.{filter, get_or, Option, Some, None, refl, sym, ap, subst, ◌∙◌, inl, inr, true≢false}
use Rattle.std.specs.Prelude.{◌==◌}
use Rattle.std.specs.Borrow.{MutBor}
use Rattle.std.proofs.lemmas.Bool.{cases_Bool, eqb-true, eq-eqb, false_from_ne_true}
use Rattle.std.specs.Option.{option_map_or}
use Rattle.std.specs.List.{list_any}
use Rattle.std.specs.Prelude.{Result, Ok, Err, OnErr}
use Rattle.std.specs.Map.{lookup}
use Rattle.cast_types.specs.declared.names.DomainNo.{DomainNo}
use Rattle.cast_message.specs.declared.client.Push.{Push}
use Rattle.slab.specs.Slab.{Slab, Updates, CalledAt, RetainsFrom, get as slot_at}
use Rattle.indexmap.specs.IndexMap.{IndexMap, UpdatesBy}
use Rattle.cast_outbox.specs.Pending.{Pending}
use Rattle.cast_outbox.specs.Outboxes.{outboxes_in, changed_at, entries_in, is_of, key_in, slot_named, name_eq}
use Rattle.cast_outbox.specs.Outboxes.{name_of, pending, with_entries, only, Named, IsNamed, Added}
use Rattle.cast_outbox.proofs.Entries.{with_at}
use Rattle.cast_outbox.proofs.Names.{one_name, Step, seen, without, step_add, step_set, step_remove, own_after, others_after}

module _ {S : Type 0} (names : IndexMap (ℕ × ℕ) ℕ S) (old : Slab Pending) (sound : IsNamed names old) (d : DomainNo) (k : ℕ) where
  -- what is seen is what is in the slot
  by_key : (o : Option ℕ) →
      option_map_or (λ key. entries_in (slot_at old key)) o [] ≡ entries_in (option_map_or (λ key. slot_at old key) o None)
  by_key None = refl
  by_key (Some key) = refl

  pub seen_in : outboxes_in old.slots d k ≡ entries_in (slot_named names old (d.0, k))
  seen_in = seen (key_in names) old.slots sound d k ∙ by_key (key_in names (d.0, k))

  pub seen_of : (slot : Option Pending) → slot ≡ slot_named names old (d.0, k) → outboxes_in old.slots d k ≡ entries_in slot
  seen_of slot is = seen_in ∙ ap entries_in (sym is)

  pub absent : key_in names (d.0, k) ≡ None → outboxes_in old.slots d k ≡ []
  absent none = seen_in ∙ ap (λ o. entries_in (option_map_or (λ key. slot_at old key) o None)) none

  pub gone : key_in names (d.0, k) ≡ None → list_any (is_of d k) old.slots ≡ false
  gone none = without (key_in names) old.slots sound d k none

  pub held : (key : ℕ) → key_in names (d.0, k) ≡ Some key →
      (x : Pending) × (slot_at old key ≡ Some x) × (outboxes_in old.slots d k ≡ x.entries)
  held key at =
      let x = sound.taken (d.0, k) key at in
      (x.0, x.1, seen_in ∙ ap (λ o. entries_in (option_map_or (λ key. slot_at old key) o None)) at ∙ ap entries_in x.1)

-- where neither changes
pub still : {S : Type 0} (names names' : IndexMap (ℕ × ℕ) ℕ S) (old new : Slab Pending) → IsNamed names old →
    names'.entries ≡ names.entries → new.slots ≡ old.slots → IsNamed names' new
still names names' old new sound entries slots =
    let a = subst (λ es. Named (λ p. lookup (name_eq p) es) (slot_at old)) (sym entries) sound in
    subst (λ (xs : List (Option Pending)). Named (key_in names') (λ key. slot_at (record old { slots = xs }) key)) (sym slots) a

-- both after a change at one name
pub record After {S : Type 0} (d : DomainNo) (k : ℕ) (f : List Push → List Push) (names names' : IndexMap (ℕ × ℕ) ℕ S)
    (old new : Slab Pending) : Type 0 where
  pub sound : IsNamed names' new
  pub own : outboxes_in new.slots d ≡ changed_at k f (outboxes_in old.slots d)
  pub others : (e : DomainNo) → e ≢ d → outboxes_in new.slots e ≡ outboxes_in old.slots e

module _ {S : Type 0} (names names' : IndexMap (ℕ × ℕ) ℕ S) (old new : Slab Pending) (sound : IsNamed names old) (d : DomainNo) (k : ℕ)
    (f : List Push → List Push) where
  after : (v was : List Push) → outboxes_in old.slots d k ≡ was → v ≡ f was →
      Step (d.0, k) v (key_in names) (key_in names') (slot_at old) (slot_at new) → After d k f names names' old new
  after v was is gives step = record {
    sound = step.sound;
    own =
        own_after (key_in names) (key_in names') old.slots new.slots sound d k v step
        ∙ ap (with_at (outboxes_in old.slots d) k) (gives ∙ ap f (sym is));
    others = others_after (key_in names) (key_in names') old.slots new.slots sound d k v step;
  }

  pub after_add : key_in names (d.0, k) ≡ None → Added (pending d k (f [])) names names' old new → After d k f names names' old new
  after_add none added =
      after (f []) [] (absent names old sound d k none) refl
      (step_add (key_in names) (key_in names') (slot_at old) (slot_at new) sound (d.0, k) added.key (pending d k (f []))
      refl added.slot.changed added.slot.others none added.vacant added.name added.names_stay)

module _ {S : Type 0} (names : IndexMap (ℕ × ℕ) ℕ S) (old new : Slab Pending) (sound : IsNamed names old) (d : DomainNo) (k : ℕ)
    (f : List Push → List Push) where
  pub after_set : (key : ℕ) → key_in names (d.0, k) ≡ Some key →
      ((x : Pending) → slot_at old key ≡ Some x → Updates old new key (Some (with_entries f x))) → After d k f names names old new
  unfolding held
  after_set key at changes =
      let x = sound.taken (d.0, k) key at in
      let h = held names old sound d k key at in
      let u = changes x.0 x.1 in
      after names names old new sound d k f (f x.0.entries) x.0.entries h.2 refl
      (step_set (key_in names) (key_in names) (slot_at old) (slot_at new) sound (d.0, k) key (with_entries f x.0)
      x.2 u.changed u.others at refl)

module _ {S : Type 0} (names names' : IndexMap (ℕ × ℕ) ℕ S) (old new : Slab Pending) (sound : IsNamed names old) (d : DomainNo)
    (k : ℕ) where
  pub after_remove : (key : ℕ) → key_in names (d.0, k) ≡ Some key → UpdatesBy name_eq (name_eq (d.0, k)) names names' None →
      Updates old new key None → After d k (λ _. []) names names' old new
  after_remove key at removed cleared =
      after names names' old new sound d k (λ _. []) [] (outboxes_in old.slots d k) refl refl
      (step_remove (key_in names) (key_in names') (slot_at old) (slot_at new) sound (d.0, k)
      key at cleared.changed cleared.others removed.1 removed.2)

  pub gone_after : (key : ℕ) → key_in names (d.0, k) ≡ Some key → UpdatesBy name_eq (name_eq (d.0, k)) names names' None →
      Updates old new key None → list_any (is_of d k) new.slots ≡ false
  gone_after key at removed cleared = gone names' new (after_remove key at removed cleared).sound d k removed.1

-- two things that hold with an error
pub on_err_both : {X E P Q R : Type 0} (r : Result X E) → (P → Q → R) → OnErr r P → OnErr r Q → OnErr r R
on_err_both (Ok x) f p q = tt
on_err_both (Err y) f p q = f p q

-- What is left of slots

-- what a slab's `retain` leaves, where the closure keeps no state and leaves each value as it was
module _ {T F : Type 0} (step : F → ℕ → MutBor T → Bool → MutBor T → F → Type 0) (test : T → Bool) (f : F)
    (says : (key : ℕ) (old : T) (keep : Bool) (new : T) (next : F) → CalledAt step f key old keep new next →
    (keep ≡ test old) × (new ≡ old) × (next ≡ f)) where
  pub retained : (key : ℕ) (old kept : List (Option T)) → RetainsFrom step f key old kept → kept ≡ map (only test) old
  retained key [] kept is = is
  retained key (None ∷ rest) kept is = is.1 ∙ ap (λ xs. None ∷ xs) (retained (key + 1) rest is.0 is.2)
  retained key (Some x ∷ rest) kept is =
      let s = says key x is.0 is.1 is.2 is.3 in
      let later = retained (key + 1) rest is.4 (subst (λ g. RetainsFrom step g (key + 1) rest is.4) s.2 is.6) in
      is.5 ∙ (λ j. cond (s.0 j) (Some (s.1 j)) None ∷ later j)

-- the slot of a key, where some are emptied
pub only_at : {T : Type 0} (test : T → Bool) (xs : List (Option T)) (i : ℕ) →
    get_or (map (only test) xs) i None ≡ only test (get_or xs i None)
only_at test [] i = refl
only_at test (x ∷ xs) zero = refl
only_at test (x ∷ xs) (suc i) = only_at test xs i

-- the key of a name, where those of a domain are taken out
module _ (d : ℕ) (q : ℕ × ℕ) where
  abbrev pub left : ℕ × ℕ → Bool
  left p = not (p.0 == d)

  mine : (p : ℕ × ℕ) → (q.0 == d) ≡ false → (p.0 == d) ≡ true → name_eq q p ≡ false
  mine p away there =
      false_from_ne_true (name_eq q p) (λ same. true≢false (sym there ∙ ap (λ (r : ℕ × ℕ). r.0 == d) (sym (one_name q p same)) ∙ away))

  theirs : (p : ℕ × ℕ) → (q.0 == d) ≡ true → (p.0 == d) ≡ false → name_eq q p ≡ false
  theirs p here there =
      false_from_ne_true (name_eq q p) (λ same. true≢false (sym here ∙ ap (λ (r : ℕ × ℕ). r.0 == d) (one_name q p same) ∙ there))

  pub lookup_away : (q.0 == d) ≡ false → (es : List ((ℕ × ℕ) × ℕ)) → lookup (name_eq q) (filter (λ e. left e.0) es) ≡ lookup (name_eq q) es
  lookup_away away [] = refl
  lookup_away away (e ∷ es) = elim (cases_Bool (e.0.0 == d)) [
    | inl there ↦
        ap (λ b. lookup (name_eq q) (cond (not b) (e ∷ filter (λ e. left e.0) es) (filter (λ e. left e.0) es))) there
        ∙ lookup_away away es ∙ sym (ap (λ b. cond b (Some e.1) (lookup (name_eq q) es)) (mine e.0 away there))
    | inr other ↦
        ap (λ b. lookup (name_eq q) (cond (not b) (e ∷ filter (λ e. left e.0) es) (filter (λ e. left e.0) es))) other
        ∙ ap (λ o. cond (name_eq q e.0) (Some e.1) o) (lookup_away away es)
  ]

  pub lookup_here : (q.0 == d) ≡ true → (es : List ((ℕ × ℕ) × ℕ)) → lookup (name_eq q) (filter (λ e. left e.0) es) ≡ None
  lookup_here here [] = refl
  lookup_here here (e ∷ es) = elim (cases_Bool (e.0.0 == d)) [
    | inl there ↦
        ap (λ b. lookup (name_eq q) (cond (not b) (e ∷ filter (λ e. left e.0) es) (filter (λ e. left e.0) es))) there
        ∙ lookup_here here es
    | inr other ↦
        ap (λ b. lookup (name_eq q) (cond (not b) (e ∷ filter (λ e. left e.0) es) (filter (λ e. left e.0) es))) other
        ∙ ap (λ b. cond b (Some e.1) (lookup (name_eq q) (filter (λ e. left e.0) es))) (theirs e.0 here other)
        ∙ lookup_here here es
  ]

-- the outboxes of a domain dropped
module _ {S : Type 0} (names names' : IndexMap (ℕ × ℕ) ℕ S) (old new : Slab Pending) (sound : IsNamed names old) (d : DomainNo)
    (entries : names'.entries ≡ filter (λ e. not (e.0.0 == d.0)) names.entries)
    (slots : new.slots ≡ map (only (λ x. not (x.domain == d.0))) old.slots) where
  key_away : (q : ℕ × ℕ) → (q.0 == d.0) ≡ false → key_in names' q ≡ key_in names q
  key_away q away = ap (lookup (name_eq q)) entries ∙ lookup_away d.0 q away names.entries

  key_here : (q : ℕ × ℕ) → (q.0 == d.0) ≡ true → key_in names' q ≡ None
  key_here q here = ap (lookup (name_eq q)) entries ∙ lookup_here d.0 q here names.entries

  slot_now : (key : ℕ) → slot_at new key ≡ only (λ x. not (x.domain == d.0)) (slot_at old key)
  slot_now key = ap (λ (xs : List (Option Pending)). get_or xs key None) slots ∙ only_at (λ x. not (x.domain == d.0)) old.slots key

  slot_away : (key : ℕ) (x : Pending) → slot_at old key ≡ Some x → (x.domain == d.0) ≡ false → slot_at new key ≡ Some x
  slot_away key x is away = slot_now key ∙ ap (only (λ x. not (x.domain == d.0))) is ∙ ap (λ b. cond (not b) (Some x) None) away

  -- a slot that is left was there, of another domain
  was_by : (slot : Option Pending) (x : Pending) → only (λ x. not (x.domain == d.0)) slot ≡ Some x →
      (slot ≡ Some x) × ((x.domain == d.0) ≡ false)
  was_by None x is = absurd (cc is)
  was_by (Some y) x is = elim (cases_Bool (y.domain == d.0)) [
    | inl there ↦ absurd (cc (sym (ap (λ b. cond (not b) (Some y) None) there) ∙ is))
    | inr other ↦
        let same : y ≡ x = cc (sym (ap (λ b. cond (not b) (Some y) None) other) ∙ is) in
        (ap Some same, ap (λ (z : Pending). z.domain == d.0) (sym same) ∙ other)
  ]

  taken_by : (q : ℕ × ℕ) (key : ℕ) → key_in names q ≡ Some key → (q.0 == d.0) ≡ false →
      (x : Pending) × (slot_at old key ≡ Some x) × (slot_at new key ≡ Some x) × (name_of x ≡ q)
  taken_by q key at away =
      let x = sound.taken q key at in
      (x.0, x.1, slot_away key x.0 x.1 (ap (λ (r : ℕ × ℕ). r.0 == d.0) x.2 ∙ away), x.2)

  now_taken : (q : ℕ × ℕ) (key : ℕ) → key_in names' q ≡ Some key → (x : Pending) × (slot_at new key ≡ Some x) × (name_of x ≡ q)
  now_taken q key at = elim (cases_Bool (q.0 == d.0)) [
    | inl here ↦ absurd (cc (sym at ∙ key_here q here))
    | inr away ↦ let x = taken_by q key (sym (key_away q away) ∙ at) away in (x.0, x.2, x.3)
  ]

  now_named : (key : ℕ) (x : Pending) → slot_at new key ≡ Some x → key_in names' (name_of x) ≡ Some key
  now_named key x is =
      let was = was_by (slot_at old key) x (sym (slot_now key) ∙ is) in
      key_away (name_of x) was.1 ∙ sound.named key x was.0

  pub dropped_sound : IsNamed names' new
  dropped_sound = record { taken = now_taken; named = now_named }

  pub dropped_own : outboxes_in new.slots d ≡ (λ k. [])
  dropped_own = λ i k. absent names' new dropped_sound d k (key_here (d.0, k) (eq-eqb d.0 d.0 refl)) i

  pub dropped_gone : (k : ℕ) → list_any (is_of d k) new.slots ≡ false
  dropped_gone k = gone names' new dropped_sound d k (key_here (d.0, k) (eq-eqb d.0 d.0 refl))

  slot_by : (q : ℕ × ℕ) → (q.0 == d.0) ≡ false → (o : Option ℕ) → key_in names q ≡ o →
      option_map_or (λ key. slot_at new key) o None ≡ option_map_or (λ key. slot_at old key) o None
  slot_by q away None none = refl
  slot_by q away (Some key) at = let x = taken_by q key at away in x.2 ∙ sym x.1

  pub dropped_others : (e : DomainNo) → e ≢ d → outboxes_in new.slots e ≡ outboxes_in old.slots e
  dropped_others e differ =
      let away = false_from_ne_true (e.0 == d.0) (λ same. differ (ap (λ (n : ℕ). record { 0 = n }) (eqb-true e.0 d.0 same))) in
      λ i k. (seen_in names' new dropped_sound e k
      ∙ ap (λ o. entries_in (option_map_or (λ key. slot_at new key) o None)) (key_away (e.0, k) away)
      ∙ ap entries_in (slot_by (e.0, k) away (key_in names (e.0, k)) refl)
      ∙ sym (seen_in names old sound e k)) i
