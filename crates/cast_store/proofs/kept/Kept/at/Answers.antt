use Rattle.std.proofs.Common.{◌≡◌, ◌<◌, ◌++◌, List, length, Some, ap, sym, subst, ◌∙◌, get_or, refl}
use Rattle.std.specs.Prelude.{slice_get}
use Rattle.std.proofs.lemmas.List.Elements.{Contains-get_or}
use Rattle.cast_message.specs.declared.message.Received.{Received}
use Rattle.slab.specs.Slab.{get as slot_at}
use Rattle.cast_store.specs.declared.receipt.Receipt.{Receipt}
use Rattle.cast_store.specs.declared.slot.Slot.{Slot}
use Rattle.cast_store.proofs.Shows.{length_kept, kept_at, received}
use Rattle.cast_store.proofs.kept.Kept.at.Goals as goal

pub receipt_at-receipt-requires : goal.receipt_at-receipt-requires
receipt_at-receipt-requires c =
    let k = c.self.inside in
    subst (λ n. c.args.place < n)
    (ap (λ (xs : List Received). length xs) (sym c.self.view_is)
    ∙ length_kept (slot_at k.slots.now) (k.front.now ++ k.back.now) c.self.invariant)
    c.requires

-- the slot of the receipt is taken
taken : (c : goal.After-receipt_at-receipt) → (s : Slot) × (slot_at c.self.inside.slots.now c.receipt_at-receipt.result.slot ≡ Some s)
taken c =
    let k = c.self.inside in
    let r = c.receipt_at-receipt.result in
    let there = Contains-get_or (k.front.now ++ k.back.now) c.args.place r (receipt_at-receipt-requires c.before) in
    let s = c.self.invariant (get_or (k.front.now ++ k.back.now) c.args.place r) there in
    (s.0, ap (λ (q : Receipt). slot_at k.slots.now q.slot) (c.receipt_at-receipt.ensures r) ∙ s.1)

pub index-requires : goal.index-requires
index-requires c = let s = taken c in rw s.1 refl

pub returns : goal.returns
returns c =
    let k = c.self.inside in
    let r = c.receipt_at-receipt.result in
    let is = c.receipt_at-receipt.ensures r in
    let seen =
    kept_at (slot_at k.slots.now) (k.front.now ++ k.back.now) c.args.place r c.index.result.now c.self.invariant
    (receipt_at-receipt-requires c.before.before) (ap (λ (q : Receipt). slot_at k.slots.now q.slot) (sym is) ∙ c.index.ensures) in
    ap (λ (xs : List Received). slice_get xs c.args.place) (sym c.self.view_is)
    ∙ seen
    ∙ ap (λ (q : Receipt). Some (received q c.index.result.now)) (sym is)
