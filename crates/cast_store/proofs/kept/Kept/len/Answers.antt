use Rattle.std.proofs.Common.{List, length, length-append, ap, sym, ◌∙◌, ◌++◌}
use Rattle.cast_message.specs.declared.message.Received.{Received}
use Rattle.slab.specs.Slab.{get as slot_at}
use Rattle.cast_store.proofs.Shows.{length_kept}
use Rattle.cast_store.proofs.kept.Kept.len.Goals as goal

pub returns : goal.returns
returns c =
    let k = c.self.inside in
    sym (length-append k.front.now k.back.now)
    ∙ sym (length_kept (slot_at k.slots.now) (k.front.now ++ k.back.now) c.self.invariant)
    ∙ ap (λ (xs : List Received). length xs) c.self.view_is
