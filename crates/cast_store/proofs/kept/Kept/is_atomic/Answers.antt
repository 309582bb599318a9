use Rattle.std.proofs.Common.{◌<◌, ◌++◌, List, Option, length, Some, ap, sym, subst, ◌∙◌, get_or}
use Rattle.std.specs.Prelude.{slice_get}
use Rattle.std.specs.Option.{option_map}
use Rattle.std.proofs.lemmas.List.Elements.{Contains-get_or}
use Rattle.cast_message.specs.declared.message.Received.{Received}
use Rattle.slab.specs.Slab.{get as slot_at}
use Rattle.cast_store.specs.declared.receipt.Receipt.{Receipt}
use Rattle.cast_store.specs.Ids.{is_abcast}
use Rattle.cast_store.proofs.Shows.{length_kept, kept_at}
use Rattle.cast_store.proofs.kept.Kept.is_atomic.Goals as goal

pub receipt_at-requires : goal.receipt_at-requires
receipt_at-requires c =
    let k = c.self.inside in
    subst (λ n. c.args.place < n)
    (ap (λ (xs : List Received). length xs) (sym c.self.view_is)
    ∙ length_kept (slot_at k.slots.now) (k.front.now ++ k.back.now) c.self.invariant)
    c.requires

pub returns : goal.returns
returns c =
    let k = c.self.inside in
    let xs = k.front.now ++ k.back.now in
    let slots = slot_at k.slots.now in
    let r = c.receipt_at.result in
    let within = receipt_at-requires c.before in
    let s = c.self.invariant (get_or xs c.args.place r) (Contains-get_or xs c.args.place r within) in
    let seen = kept_at slots xs c.args.place r s.0 c.self.invariant within s.1 in
    ap (λ (ys : List Received). option_map (λ y. is_abcast y.message) (slice_get ys c.args.place)) (sym c.self.view_is)
    ∙ ap (λ (o : Option Received). option_map (λ y. is_abcast y.message) o) seen
    ∙ ap Some (s.3 ∙ ap (λ (q : Receipt). q.atomic) (sym (c.receipt_at.ensures r)))
