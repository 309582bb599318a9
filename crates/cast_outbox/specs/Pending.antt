-- What one session was pushed and has not taken.
use Rattle.std.specs.Prelude.{ℕ, Bool, nat_le, List, [], ◌∷◌, ◌++◌, length, if◌then◌else◌}
use Rattle.cast_types.specs.declared.refusal.Refusal.TheVariants.{Slow}
use Rattle.cast_message.specs.declared.client.Push.{Push}
use Rattle.cast_message.specs.declared.client.Push.TheVariants.{Closed}
use Rattle.cast_outbox.specs.declared.outbox.Pushed.{Pushed}
use Rattle.cast_outbox.specs.declared.outbox.Pushed.TheVariants as pushed

-- what the session of a serial in a domain has not taken, in order
pub record Pending : Type 0 where
  pub domain : ℕ
  pub serial : ℕ
  pub entries : List Push

-- as many entries wait as may
abbrev pub is_full_at : ℕ → List Push → Bool
is_full_at limit entries = nat_le limit (length entries)

-- the entries and one more: the end of the session, where they are full
abbrev pub with_entry : ℕ → Push → List Push → List Push
with_entry limit entry entries =
    entries ++ (if is_full_at limit entries then Closed Slow else entry) ∷ []

-- what is told of an entry that is pushed to these
abbrev pub told_at : ℕ → List Push → Pushed
told_at limit entries = if is_full_at limit entries then pushed.Slow else pushed.Kept
