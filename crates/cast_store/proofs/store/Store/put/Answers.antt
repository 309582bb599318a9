use Rattle.std.proofs.Common.{◌≡◌, ◌+◌, ◌++◌, ◌∷◌, ◌∙◌, [], List, ap, sym, refl}
use Rattle.std.specs.Prelude.{OnErr, OnOk}
use Rattle.std.proofs.lemmas.Result.{on_err_weaker, on_ok_weaker}
use Rattle.slab.specs.Slab.{get as slot_at}
use Rattle.cast_types.proofs.Results.{either_way}
use Rattle.cast_types.specs.declared.names.Key.{Key}
use Rattle.cast_store.specs.declared.receipt.Receipt.{Receipt}
use Rattle.cast_store.specs.Store.{Shelf, kept_in, next_in}
use Rattle.cast_store.specs.Lines.{line_of, line_or_empty, message_in, receipts_in, shelves_by, slot_under}
use Rattle.cast_store.proofs.Slots.{After, after_put, number_or_empty, next_seen_at, ok_both, on_ok_both, on_err_both}
use Rattle.cast_store.proofs.Slots.{padded_still, padded_shelves_still, receipts_or_empty, under_seen_in}
use Rattle.cast_store.proofs.store.Store.put.Goals as goal

-- the number of the next key
next : (c : goal.After-put_in) → next_in (shelves_by (slot_at c.self.inside.slots) c.self.inside.rows.items)
    c.args.domain ≡ (line_or_empty (line_of c.self.inside.rows.items c.args.domain)).next
next c =
    let lines = c.self.inside.rows.items in
    let o = line_of lines c.args.domain in
    next_seen_at (slot_at c.self.inside.slots) lines c.args.domain o refl ∙ number_or_empty o

after : (c : goal.After-put_in) → OnOk c.put_in.result (After c.args.domain
    (kept_in (shelves_by (slot_at c.self.inside.slots) c.self.inside.rows.items) c.args.domain ++ (record {
      key = record {
        0 = next_in
            (shelves_by (slot_at c.self.inside.slots) c.self.inside.rows.items) c.args.domain;
      };
      message = c.args.message;
    }) ∷ [])
    (next_in (shelves_by (slot_at c.self.inside.slots) c.self.inside.rows.items) c.args.domain + 1)
    c.self.inside.rows.items c.put_in.new.rows.items c.self.inside.slots c.put_in.new.slots)
after c =
    let s = c.self.inside in
    let d = c.args.domain in
    on_ok_both c.put_in.result
    (λ ok filled. after_put s.rows.items c.put_in.new.rows.items s.slots c.put_in.new.slots c.self.invariant d c.args.message
    (line_or_empty (line_of s.rows.items d)) refl c.put_in.ensures.free ok filled)
    c.put_in.ensures.ok c.put_in.ensures.filled

-- a refused message leaves what is seen
stays : (c : goal.After-put_in) → OnErr c.put_in.result
    (shelves_by (slot_at c.put_in.new.slots) c.put_in.new.rows.items ≡ shelves_by (slot_at c.self.inside.slots) c.self.inside.rows.items)
stays c =
    let s = c.self.inside in
    on_err_both c.put_in.result (padded_shelves_still s.rows.items c.put_in.new.rows.items s.slots c.put_in.new.slots)
    c.put_in.ensures.err c.put_in.ensures.slots_stay

pub invariant_of-self : goal.invariant_of-self
invariant_of-self c =
    let s = c.self.inside in
    either_way c.put_in.result
    (on_ok_weaker c.put_in.result (λ now. now.sound) (after c))
    (on_err_both c.put_in.result
    (λ padded slots. padded_still s.rows.items c.put_in.new.rows.items s.slots c.put_in.new.slots padded slots c.self.invariant)
    c.put_in.ensures.err c.put_in.ensures.slots_stay)

pub returns-clause-key : goal.returns-clause-key
returns-clause-key c =
    rw (← c.self.view_is)
    (ok_both c.put_in.result c.put_in.ensures.key c.put_in.ensures.ok (λ key is _. is ∙ ap (λ n. record { 0 = n }) (sym (next c))))

pub returns-clause-kept : goal.returns-clause-kept
returns-clause-kept c =
    let kept = kept_in (shelves_by (slot_at c.self.inside.slots) c.self.inside.rows.items) c.args.domain in
    rw (← c.self.view_is)
    (ok_both c.put_in.result c.put_in.ensures.key (after c)
    (λ key is now. now.kept
    ∙ ap (λ (k : Key). kept ++ (record { key = k; message = c.args.message }) ∷ []) (sym (is ∙ ap (λ n. record { 0 = n }) (sym (next c))))))

pub returns-clause-next : goal.returns-clause-next
returns-clause-next c = rw (← c.self.view_is) (on_ok_weaker c.put_in.result (λ now. now.next) (after c))

pub returns-clause-free : goal.returns-clause-free
returns-clause-free c =
    let s = c.self.inside in
    let d = c.args.domain in
    let slots = slot_at s.slots in
    let line = line_or_empty (line_of s.rows.items d) in
    rw (← c.self.view_is)
    (sym (under_seen_in slots s.rows.items c.self.invariant d (record { 0 = next_in (shelves_by slots s.rows.items) d }))
    ∙ ap (λ n. message_in slots (slot_under (receipts_in s.rows.items d) n)) (next c)
    ∙ ap (λ (xs : List Receipt). message_in slots (slot_under xs line.next)) (receipts_or_empty (line_of s.rows.items d))
    ∙ ap (message_in slots) c.put_in.ensures.free)

pub returns-clause-err : goal.returns-clause-err
returns-clause-err c = rw (← c.self.view_is) (stays c)

pub returns-clause-others : goal.returns-clause-others
returns-clause-others c e differ =
    rw (← c.self.view_is)
    (either_way c.put_in.result
    (on_ok_weaker c.put_in.result (λ now. now.others e differ) (after c))
    (on_err_weaker c.put_in.result
    (λ same. (ap (λ (shelves : List Shelf). kept_in shelves e) same, ap (λ (shelves : List Shelf). next_in shelves e) same)) (stays c)))
