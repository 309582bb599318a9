-- The spellings of pushes, one after the other.
use Rattle.std.proofs.Common.{◌≡◌, ℕ, ◌+◌, ◌<◌, List, length, get_or, Option, subst}
use Rattle.std.specs.Io.KnownBytes.{Appends}
use Rattle.cast_message.specs.declared.client.ClientFrame.TheVariants as client
use Rattle.cast_message.specs.declared.client.Push.{Push}
use Rattle.cast_client.specs.Spelling.{spelled_client}
use Rattle.cast_device.specs.Writing.{WrotePart}
use Rattle.cast_device.proofs.Pieces as pieces
use Rattle.cast_session.specs.Outgoing.{spelled_pushes}

-- the pushes from the i-th on are to be written
abbrev pub WroteTo : Option (List ℕ) → Option (List ℕ) → List Push → ℕ → Type 0
WroteTo old new pushes i = pieces.WroteTo (λ p. spelled_client (client.Push p)) old new pushes i

module _ (pushes : List Push) (i : ℕ) (p : Push) (lt : i < length pushes) (is : p ≡ get_or pushes i p) where
  pub wrote_push : {a b c : Option (List ℕ)} → WroteTo a b pushes i → Appends b c (spelled_client (client.Push p)) →
      WroteTo a c pushes (i + 1)
  wrote_push {b = b} {c = c} w more =
      pieces.wrote_next (λ q. spelled_client (client.Push q))
      pushes i p lt w (subst (λ q. Appends b c (spelled_client (client.Push q))) is more)

  pub wrote_push_part : {a b c : Option (List ℕ)} → WroteTo a b pushes i → WrotePart b c (spelled_client (client.Push p)) →
      WrotePart a c (spelled_pushes pushes)
  wrote_push_part {b = b} {c = c} w part =
      pieces.wrote_next_part (λ q. spelled_client (client.Push q))
      pushes i p lt w (subst (λ q. WrotePart b c (spelled_client (client.Push q))) is part)
