use Rattle.std.proofs.Common.{◌≡◌, ◌+◌, true, refl, rules, ap, sym, ◌∙◌}
use Rattle.cast_types.specs.declared.names.Key.{Key}
use Rattle.cast_index.specs.Index.{has}
use Rattle.cast_store.specs.declared.receipt.Receipt.{Receipt}
use Rattle.cast_store.proofs.Numbers.{numbered_push, free_number}
use Rattle.cast_store.proofs.Ids.{ids_push, not_named}
use Rattle.cast_store.proofs.Slots.{when_err, when_ok}
use Rattle.cast_store.proofs.row.Row.put.Goals as goal

-- where it is kept
pub invariant_of-self-2 : goal.invariant_of-self-2
invariant_of-self-2 c =
    let r : Receipt = record {
      number = c.self.inside.next;
      slot = c.vacant_key.result;
      id = c.args.message.id;
      atomic = c.is_atomic.result;
    } in
    let receipts = c.self.inside.receipts.items in
    let next : c.in-Some.next ≡ c.self.inside.next + 1 = search rules in
    let ok = when_ok c.add.result (sym c.is_err-2.ensures.value ∙ c.if-is_err-2.false) c.add.ensures.added in
    let named = when_ok c.add.result (sym c.is_err-2.ensures.value ∙ c.if-is_err-2.false) c.add.ensures.named in
    let abcast = when_ok c.add.result (sym c.is_err-2.ensures.value ∙ c.if-is_err-2.false) c.add.ensures.named_abcast in
    rw (ok, next)
    (record {
      numbered = numbered_push c.self.inside.next receipts r refl c.self.invariant.numbered;
      ids = ids_push (λ _. true) c.self.inside.ids.all c.add.new.ids.all receipts r c.self.invariant.ids named;
      abcasts = ids_push (λ r. r.atomic) c.self.inside.ids.abcasts c.add.new.ids.abcasts receipts r c.self.invariant.abcasts abcast;
    })

-- where there is no memory
pub invariant_of-self : goal.invariant_of-self
invariant_of-self c =
    let key : Key = record { 0 = c.self.inside.next } in
    let id = c.args.message.id in
    let free = c.self.invariant.ids id key ∙ not_named c.self.inside.next c.self.inside.receipts.items id c.self.invariant.numbered in
    let same = when_err c.add.result (sym c.is_err-2.ensures.value ∙ c.if-is_err-2.true) c.add.ensures.same in
    let unnamed = when_err c.add.result (sym c.is_err-2.ensures.value ∙ c.if-is_err-2.true) c.add.ensures.unnamed in
    let no_abcast = when_err c.add.result (sym c.is_err-2.ensures.value ∙ c.if-is_err-2.true) c.add.ensures.no_abcast in
    rw same
    (record {
      numbered = c.self.invariant.numbered;
      ids = λ u k. unnamed free u k ∙ c.self.invariant.ids u k;
      abcasts = λ u k. ap (λ es. has es u k) no_abcast ∙ c.self.invariant.abcasts u k;
    })

-- on each way out
pub returns-in_default-clause-free : goal.returns-in_default-clause-free
returns-in_default-clause-free c =
    rw (← c.self.view_is) (free_number c.self.inside.next c.self.inside.receipts.items c.self.invariant.numbered)

pub returns-then-is_err-clause-free : goal.returns-then-is_err-clause-free
returns-then-is_err-clause-free c =
    rw (← c.self.view_is) (free_number c.self.inside.next c.self.inside.receipts.items c.self.invariant.numbered)

pub returns-then-is_err-2-clause-free : goal.returns-then-is_err-2-clause-free
returns-then-is_err-2-clause-free c =
    rw (← c.self.view_is) (free_number c.self.inside.next c.self.inside.receipts.items c.self.invariant.numbered)

pub returns-clause-free : goal.returns-clause-free
returns-clause-free c = rw (← c.self.view_is) (free_number c.self.inside.next c.self.inside.receipts.items c.self.invariant.numbered)
