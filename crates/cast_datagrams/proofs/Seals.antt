-- Where keys seal nothing but what their sites sent, they are trusted.
use Rattle.std.proofs.Common.{ℕ, zero, suc, List, [], ◌∷◌, Contains, refl, sym, subst, ◌∙◌, arith}
use Rattle.std.specs.List.{AllByRecursion}
use Rattle.cast_types.specs.declared.names.DomainNo.{DomainNo}
use Rattle.cast_field.proofs.Fields.{IsBytes}
use Rattle.cast_frame.proofs.Frames.{found}
use Rattle.cast_trust.specs.Laws.{domain_at}
use Rattle.cast_world.specs.declared.step.Packet.{Packet}
use Rattle.cast_datagrams.specs.Laws.{SendersSealWhatIsSpelled}
use Rattle.cast_datagrams.specs.Typed.{IsByte}
use Rattle.cast_datagrams.proofs.Apart.{spellings_of_types_differ}
use Rattle.cast_datagrams.proofs.Datagrams.{in_own}
use Rattle.cast_datagrams.proofs.Ranges.{frame_fits}

are_bytes : (bytes : List ℕ) → AllByRecursion IsByte bytes → IsBytes bytes
are_bytes [] all i = omega arith
are_bytes (b ∷ bytes) all zero = all.0
are_bytes (b ∷ bytes) all (suc i) = are_bytes bytes all.1 i

pub senders_seal_what_is_spelled : SendersSealWhatIsSpelled
senders_seal_what_is_spelled n w keys from to short own only body datagram bytes f sealed carries reads =
    let d : DomainNo = domain_at w to in
    let x = only body datagram bytes sealed carries in
    let read = found bytes (d, from, f) (are_bytes bytes x.whole) reads in
    let same = spellings_of_types_differ x.domain d from from x.frame f short short x.typed (frame_fits f read.0.frame)
    (sym x.spelled ∙ read.1) in
    let sent : Packet = record { from = from; to = to; frame = f } in
    let among : Contains n.sent (d, sent) =
    subst (Contains n.sent) (λ i. (same.0 i, record { from = from; to = to; frame = same.2 i })) x.among in (
      sent,
      subst (λ (l : List Packet). Contains l sent) (sym own) (in_own d sent n.sent among),
      refl,
      refl,
      read.0,
      read.1,
    )
