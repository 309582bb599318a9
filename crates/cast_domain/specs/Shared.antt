-- What all domains of a daemon share, as one domain sees it.
-- It sees its own part, and what is left for the others.
use Rattle.std.specs.Prelude.{◌≡◌, ℕ, ◌+◌, not, ◌==◌, if◌then◌else◌}
use Rattle.std.specs.Prelude.{List, [], ◌∷◌, ◌++◌, filter, drop}
use Rattle.cast_types.specs.declared.names.DomainNo.{DomainNo}
use Rattle.cast_types.specs.declared.names.GroupNo.{GroupNo}
use Rattle.cast_types.specs.declared.names.Key.{Key}
use Rattle.cast_message.specs.Receipts.{key_eq}
use Rattle.cast_message.specs.declared.message.Message.{Message}
use Rattle.cast_message.specs.declared.message.Received.{Received}
use Rattle.cast_store.specs.Store.{kept_in, next_in}
use Rattle.cast_timer.specs.declared.key.Owed.{Owed}
use Rattle.cast_timer.specs.declared.key.OwedKey.{OwedKey}
use Rattle.cast_timer.specs.Owed.{with_owed, paid, renew, key_eq as owed_key_eq}
use Rattle.cast_timer.specs.Owed.{is_of_view, is_upto, all_renewed}
use Rattle.cast_timer.specs.Rows.{owed_in}
use Rattle.cast_outbox.specs.Pending.{with_entry}
use Rattle.cast_outbox.specs.Outboxes.{outboxes_in}
use Rattle.cast_types.specs.Sets.{set_at}
use Rattle.cast_message.specs.declared.client.Push.{Push}
use Rattle.cast_domain.specs.declared.shared.Shared.{Shared}

-- the messages that a domain keeps, in order of receipt, the number of the next key, the frames
-- that it owes, and the outboxes of its sessions, by serial
pub record Part : Type 0 where
  pub kept : List Received
  pub next : ℕ
  pub owed : List Owed
  pub outboxes : ℕ → List Push

abbrev pub no_part : Part
no_part = record { kept = []; next = 0; owed = []; outboxes = λ k. [] }

-- a domain's part
abbrev pub part_of : DomainNo → Shared → Part
part_of d s =
    record {
      kept = kept_in s.store d;
      next = next_in s.store d;
      owed = owed_in s.timers d;
      outboxes = outboxes_in s.outboxes d;
    }

-- the parts of all domains but one
abbrev pub rest_of : DomainNo → Shared → DomainNo → Part
rest_of d s e = if e.0 == d.0 then no_part else part_of e s

-- the parts of all domains but one stay as they are
abbrev pub LeavesOthers : DomainNo → Shared → Shared → Type 0
LeavesOthers d old new = rest_of d new ≡ rest_of d old

-- Changes of a part

-- one more message is kept, under the next key
abbrev pub part_with : Part → Message → Part
part_with p m = record p {
  kept = p.kept ++ record { key = record { 0 = p.next }; message = m } ∷ [];
  next = p.next + 1;
}

-- the message under a key is kept no longer
abbrev pub part_without : Part → Key → Part
part_without p key = record p { kept = filter (λ r. not (key_eq r.key key)) p.kept }

abbrev pub part_owing : Part → OwedKey → ℕ → Part
part_owing p key due = record p { owed = with_owed p.owed key due }

abbrev pub part_renewing : Part → OwedKey → ℕ → Part
part_renewing p key due = record p { owed = renew p.owed key due }

-- all frames that are due at a moment are owed for another one
abbrev pub part_renewing_due : Part → ℕ → ℕ → Part
part_renewing_due p now due = record p { owed = all_renewed now due p.owed }

abbrev pub part_paying : Part → OwedKey → Part
part_paying p key = record p { owed = paid (owed_key_eq key) p.owed }

abbrev pub part_paying_view : Part → GroupNo → Part
part_paying_view p g = record p { owed = paid (is_of_view g) p.owed }

abbrev pub part_paying_upto : Part → OwedKey → Part
part_paying_upto p key = record p { owed = paid (is_upto key) p.owed }

-- the outbox of a serial is another
abbrev pub part_boxing : Part → ℕ → List Push → Part
part_boxing p k entries = record p { outboxes = set_at (λ a b. a == b) p.outboxes k entries }

abbrev pub part_pushing : Part → ℕ → Push → Part
part_pushing p k entry = part_boxing p k (p.outboxes k ++ entry ∷ [])

-- the entry is pushed, or the end of its session, where as many stand there as may
abbrev pub part_pushing_within : ℕ → Part → ℕ → Push → Part
part_pushing_within limit p k entry = part_boxing p k (with_entry limit entry (p.outboxes k))

abbrev pub part_taking : Part → ℕ → ℕ → Part
part_taking p k most = part_boxing p k (drop most (p.outboxes k))
