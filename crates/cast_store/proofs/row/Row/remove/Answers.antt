use Rattle.std.proofs.Common.{◌≡◌, List, Option, Some, None, ap, sym, subst, ◌∙◌, not, rules, true, false}
use Rattle.std.specs.Prelude.{◌==◌}
use Rattle.std.specs.Option.{option_map}
use Rattle.std.specs.List.{find, position, remove}
use Rattle.cast_index.proofs.Rises.{removed_is, place_within}
use Rattle.cast_store.specs.declared.receipt.Receipt.{Receipt}
use Rattle.cast_store.specs.Lines.{Line, slot_under, without_number, but_number, number_of, is_numbered, HasAbcastsOf, HasIdsOf}
use Rattle.cast_store.proofs.Ids.{ids_remove}
use Rattle.cast_store.proofs.Finds.{find_place, find_no_place, keep_all}
use Rattle.cast_store.proofs.Numbers.{numbered_parts, numbered_filter}
use Rattle.cast_store.proofs.row.Row.remove.Goals as goal

-- where nothing is under the key
missing : (c : goal.After-from_residual) → find (λ r. r.number == c.args.key.0) c.args.self.now.receipts ≡ None
missing c =
    let none : position (λ (r : Receipt). r.number == c.args.key.0) c.args.self.now.receipts ≡ None = search rules in
    find_no_place (λ r. r.number == c.args.key.0) c.args.self.now.receipts none

pub returns-in_err-place-clause-value : goal.returns-in_err-place-clause-value
returns-in_err-place-clause-value c =
    let none : slot_under c.args.self.now.receipts c.args.key.0 ≡ None =
    ap (λ (o : Option Receipt). option_map (λ r. r.slot) o) (missing c) in
    cc

pub returns-in_err-place-clause-left : goal.returns-in_err-place-clause-left
returns-in_err-place-clause-left c =
    let all = keep_all (λ r. r.number == c.args.key.0) c.args.self.now.receipts (missing c) in
    ap (λ (receipts : List Receipt). record c.args.self.now { receipts = receipts }) (sym all)

-- where a receipt is
found : (c : goal.After-take_out) →
    position (λ (r : Receipt). r.number == c.args.key.0) c.self.inside.receipts.items ≡ Some c.in_ok-place.place
found c = search rules

left : (c : goal.After-take_out) → c.take_out.new.receipts.items ≡ but_number c.args.key.0 c.self.inside.receipts.items
left c =
    let items : c.take_out.new.receipts.items ≡ remove c.self.inside.receipts.items c.in_ok-place.place = search rules in
    items ∙ removed_is number_of c.args.key.0 c.self.inside.receipts.items c.in_ok-place.place
    (numbered_parts c.self.inside.next c.self.inside.receipts.items c.self.invariant.numbered).0 (found c)

pub invariant_of-self : goal.invariant_of-self
invariant_of-self c =
    let next = c.self.inside.next in
    let receipts = c.self.inside.receipts.items in
    let place = c.in_ok-place.place in
    let d : Receipt = record {
      number = 0;
      slot = 0;
      id = record { group = record { 0 = 0 }; view = 0; proc = record { site = record { 0 = 0 }; serial = 0 }; count = 0 };
      atomic = false;
    } in
    record {
      numbered = ap (λ (xs : List Receipt). is_numbered next xs) (left c)
          ∙ numbered_filter (λ r. not (r.number == c.args.key.0)) next receipts c.self.invariant.numbered;
      ids = subst (HasIdsOf c.take_out.new.ids.all) (sym c.take_out.ensures.left)
          (ids_remove (λ _. true) next c.self.inside.ids.all c.take_out.new.ids.all receipts place d c.self.invariant.numbered
          (place_within number_of c.args.key.0 receipts place (found c)) c.self.invariant.ids (c.take_out.ensures.unnamed d));
      abcasts = subst (HasAbcastsOf c.take_out.new.ids.abcasts) (sym c.take_out.ensures.left)
          (ids_remove (λ r. r.atomic) next c.self.inside.ids.abcasts c.take_out.new.ids.abcasts receipts place d c.self.invariant.numbered
          (place_within number_of c.args.key.0 receipts place (found c)) c.self.invariant.abcasts (c.take_out.ensures.no_abcast d));
    }

-- what stands at the place
slot : (c : goal.After-take_out) → slot_under c.self.inside.receipts.items c.args.key.0 ≡ c.take_out.result
slot c =
    let d : Receipt = record {
      number = 0;
      slot = 0;
      id = record { group = record { 0 = 0 }; view = 0; proc = record { site = record { 0 = 0 }; serial = 0 }; count = 0 };
      atomic = false;
    } in
    ap (λ (o : Option Receipt). option_map (λ r. r.slot) o)
    (find_place (λ r. r.number == c.args.key.0) c.self.inside.receipts.items c.in_ok-place.place d (found c))
    ∙ sym (c.take_out.ensures.value d)

pub returns-clause-value : goal.returns-clause-value
returns-clause-value c = rw (← c.self.view_is) (sym (slot c))

pub returns-clause-left : goal.returns-clause-left
returns-clause-left c =
    let line : List Receipt → Line = λ receipts. record { next = c.self.inside.next; receipts = receipts } in
    ap line (left c) ∙ ap (without_number c.args.key.0) c.self.view_is

-- a receipt that is there has a slot
pub returns-clause-none : goal.returns-clause-none
returns-clause-none c =
    let d : Receipt = record {
      number = 0;
      slot = 0;
      id = record { group = record { 0 = 0 }; view = 0; proc = record { site = record { 0 = 0 }; serial = 0 }; count = 0 };
      atomic = false;
    } in
    rw (c.take_out.ensures.value d) tt
