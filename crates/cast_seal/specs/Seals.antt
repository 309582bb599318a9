-- Sealed datagrams: bytes from one site to another, behind a sum under a key that both have.
use Rattle.std.specs.Prelude.{◌≡◌, ℕ, List, ◌∷◌, ◌++◌, Contains, Option, Some, None, length}
use Rattle.std.specs.Int.{w16, w128, to_be_bytes, to_le_bytes}
use Rattle.cast_types.specs.declared.names.SiteNo.{SiteNo}
use Rattle.cast_seal.specs.Hmac.{sum_under}
use Rattle.cast_seal.specs.Poly1305.{sum_number}
use Rattle.cast_seal.specs.declared.sealing.SealKey.{SealKey}

-- `CS`, the version, the number of the key, and the sender
abbrev pub begins_with : ℕ → SiteNo → List ℕ
begins_with number from = 67 ∷ 83 ∷ 1 ∷ number ∷ to_be_bytes w16 from.0

-- what stands before the sum: this and a nonce
abbrev pub head : ℕ → SiteNo → List ℕ → List ℕ
head number from nonce = begins_with number from ++ nonce

-- the sum of a body: under a key that is made of this head and this receiver, and for no other
abbrev pub seal_sum : List ℕ → List ℕ → SiteNo → List ℕ → ℕ
seal_sum key head to body = sum_number (sum_under key (head ++ to_be_bytes w16 to.0)) body

-- a body behind its seal
abbrev pub sealed : SealKey → SiteNo → SiteNo → List ℕ → List ℕ → List ℕ
sealed k from to nonce body =
    head k.number from nonce
    ++ (to_le_bytes w128 (seal_sum k.key (head k.number from nonce) to body) ++ body)

-- a datagram is this body behind a seal of this key, from one site to another
abbrev pub IsSealed : SealKey → SiteNo → SiteNo → List ℕ → List ℕ → Type 0
IsSealed k from to body datagram =
    (nonce : List ℕ) × (length nonce ≡ 16) × (datagram ≡ sealed k from to nonce body)

-- behind a seal of one of these keys
abbrev pub IsSealedByAny : List SealKey → SiteNo → SiteNo → List ℕ → List ℕ → Type 0
IsSealedByAny keys from to body datagram =
    (k : SealKey) × Contains keys k × IsSealed k from to body datagram

-- this body stands behind such a seal, or there is none that does
abbrev pub IsOpened : List SealKey → SiteNo → SiteNo → List ℕ → Option (List ℕ) → Type 0
IsOpened keys from to datagram (Some body) = IsSealedByAny keys from to body datagram
IsOpened keys from to datagram None =
    (body : List ℕ) → IsSealedByAny keys from to body datagram → ⊥
