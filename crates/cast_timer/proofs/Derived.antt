-- The derived order of keys is that of the definitions.
use Rattle.std.proofs.Common.{◌≡◌, Ordering, refl, ap, ◌∙◌}
use Rattle.std.specs.Ordering.{nat_cmp, ordering_then}
use Rattle.cast_types.specs.Names.{group_cmp, proc_cmp, site_cmp}
use Rattle.cast_timer.specs.declared.key.OwedKind.{OwedKind}
use Rattle.cast_timer.specs.declared.key.OwedKind.TheVariants.{Ask, Data, Prepare, Want, Install, Ack}
use Rattle.cast_timer.specs.declared.key.Side.{Side}
use Rattle.cast_timer.specs.declared.key.Side.TheVariants.{Site, Home}
use Rattle.cast_timer.specs.declared.key.OwedKey.{OwedKey}
use Rattle.cast_timer.specs.Owed.{kind_rank, side_rank, key_cmp}
use Rattle.cast_timer.specs.contracts.key.OwedKindOrd.TheImpl as kind
use Rattle.cast_timer.specs.contracts.key.SideOrd.TheImpl as side
use Rattle.cast_timer.specs.contracts.key.OwedKeyOrd.TheImpl as keys

kinds : (a b : OwedKind) → kind.cmp-value.it a b ≡ nat_cmp (kind_rank a) (kind_rank b)
kinds Ask Ask = refl
kinds Ask Data = refl
kinds Ask Prepare = refl
kinds Ask Want = refl
kinds Ask Install = refl
kinds Ask Ack = refl
kinds Data Ask = refl
kinds Data Data = refl
kinds Data Prepare = refl
kinds Data Want = refl
kinds Data Install = refl
kinds Data Ack = refl
kinds Prepare Ask = refl
kinds Prepare Data = refl
kinds Prepare Prepare = refl
kinds Prepare Want = refl
kinds Prepare Install = refl
kinds Prepare Ack = refl
kinds Want Ask = refl
kinds Want Data = refl
kinds Want Prepare = refl
kinds Want Want = refl
kinds Want Install = refl
kinds Want Ack = refl
kinds Install Ask = refl
kinds Install Data = refl
kinds Install Prepare = refl
kinds Install Want = refl
kinds Install Install = refl
kinds Install Ack = refl
kinds Ack Ask = refl
kinds Ack Data = refl
kinds Ack Prepare = refl
kinds Ack Want = refl
kinds Ack Install = refl
kinds Ack Ack = refl

sides : (a b : Side) → side.cmp-value.it a b ≡ nat_cmp (side_rank a) (side_rank b)
sides Site Site = refl
sides Site Home = refl
sides Home Site = refl
sides Home Home = refl

pub key_order : (a b : OwedKey) → keys.cmp-value.it a b ≡ key_cmp a b
key_order a b =
    ap (λ (o : Ordering). in_order o (side.cmp-value.it a.side b.side)) (kinds a.kind b.kind)
    ∙ ap (in_order (nat_cmp (kind_rank a.kind) (kind_rank b.kind))) (sides a.side b.side)
  where
    in_order : Ordering → Ordering → Ordering
    in_order by_kind by_side =
        ordering_then by_kind
        (ordering_then (group_cmp a.group b.group)
        (ordering_then (proc_cmp a.proc b.proc)
        (ordering_then (nat_cmp a.count b.count)
        (ordering_then (site_cmp a.site b.site) by_side))))
