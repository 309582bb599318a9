-- What the sessions of all domains were pushed and have not taken.
use Rattle.std.specs.Prelude.{ℕ, Bool, false, cond, ◌==◌, ◌&&◌, ◌≡◌, List, [], Option, None, Some}
use Rattle.std.specs.List.{find}
use Rattle.std.specs.Option.{option_map_or}
use Rattle.cast_types.specs.declared.names.DomainNo.{DomainNo}
use Rattle.cast_types.specs.Sets.{set_at}
use Rattle.cast_message.specs.declared.client.Push.{Push}
use Rattle.cast_outbox.specs.Pending.{Pending}
use Rattle.slab.specs.Slab.{Slab, Updates, get as slot_at}
use Rattle.indexmap.specs.IndexMap.{IndexMap, get as value_at}

-- whether a slot holds the outbox of a serial in a domain
abbrev pub is_of : DomainNo → ℕ → Option Pending → Bool
is_of d k slot = option_map_or (λ x. x.domain == d.0 && x.serial == k) slot false

-- what a slot holds
abbrev pub entries_in : Option Pending → List Push
entries_in slot = option_map_or (λ x. x.entries) slot []

-- for a domain and a serial, the entries that were pushed and not taken, in order
unfoldable pub outboxes_in : List (Option Pending) → DomainNo → ℕ → List Push
outboxes_in slots d k = option_map_or entries_in (find (is_of d k) slots) []

-- What is kept

-- whether two names, of a domain and a serial, are one
abbrev pub name_eq : ℕ × ℕ → ℕ × ℕ → Bool
name_eq p q = p.0 == q.0 && p.1 == q.1

-- whose an outbox is
abbrev pub name_of : Pending → ℕ × ℕ
name_of x = (x.domain, x.serial)

-- the key of a domain and a serial
abbrev pub key_in : {S : Type 0} → IndexMap (ℕ × ℕ) ℕ S → ℕ × ℕ → Option ℕ
key_in names p = value_at name_eq names p

-- the slot of a domain and a serial
abbrev pub slot_named : {S : Type 0} → IndexMap (ℕ × ℕ) ℕ S → Slab Pending → ℕ × ℕ → Option Pending
slot_named names slots p = option_map_or (λ key. slot_at slots key) (key_in names p) None

-- Each key that is named is taken, for that domain and that serial. Each slot that is taken is
-- named, by the key that it has: so no key is named twice.
pub record Named (names : ℕ × ℕ → Option ℕ) (slots : ℕ → Option Pending) : Type 0 where
  pub taken : (p : ℕ × ℕ) (key : ℕ) → names p ≡ Some key
      → (x : Pending) × (slots key ≡ Some x) × (name_of x ≡ p)
  pub named : (key : ℕ) (x : Pending) → slots key ≡ Some x → names (name_of x) ≡ Some key

abbrev pub IsNamed : {S : Type 0} → IndexMap (ℕ × ℕ) ℕ S → Slab Pending → Type 0
IsNamed names slots = Named (key_in names) (slot_at slots)

-- Changes

-- the outbox of one serial changed
abbrev pub changed_at : ℕ → (List Push → List Push) → (ℕ → List Push) → ℕ → List Push
changed_at k f outboxes = set_at (λ a b. a == b) outboxes k (f (outboxes k))

-- an outbox
abbrev pub pending : DomainNo → ℕ → List Push → Pending
pending d k entries = record { domain = d.0; serial = k; entries = entries }

-- an outbox whose entries are changed
abbrev pub with_entries : (List Push → List Push) → Pending → Pending
with_entries f x = record x { entries = f x.entries }

-- an outbox is added, in a slot that was vacant, and its name is given the key
pub record Added {S : Type 0} (x : Pending) (names names' : IndexMap (ℕ × ℕ) ℕ S)
    (slots slots' : Slab Pending) : Type 0 where
  pub key : ℕ
  pub vacant : slot_at slots key ≡ None
  pub slot : Updates slots slots' key (Some x)
  pub name : key_in names' (name_of x) ≡ Some key
  pub names_stay : (q : ℕ × ℕ) → name_eq (name_of x) q ≡ false → key_in names' q ≡ key_in names q

-- a slot, emptied where what it holds fails the test
abbrev pub only : {T : Type 0} → (T → Bool) → Option T → Option T
only test None = None
only test (Some x) = cond (test x) (Some x) None
