use Rattle.std.proofs.Common.{◌≡◌, ◌∙◌, Some, None, set, sym, subst, ap, rules}
use Rattle.std.specs.List.{position}
use Rattle.cast_types.specs.Names.{proc_eq}
use Rattle.cast_delay.specs.declared.looked.Looked.{Looked}
use Rattle.cast_delay.specs.Queue.{row_of}
use Rattle.cast_delay.specs.Waits.{looked_of, AreLookedAt, AreKnown, AreSeen}
use Rattle.cast_delay.proofs.LookedAt.{entry_at, entry_none, process_at, set_other, set_looked, rest_looked}
use Rattle.cast_delay.proofs.LookedAt.{seen_known, seen_none, looked_row, first_looked, first_there}
use Rattle.cast_delay.proofs.waits.Waits.look.Goals as goal

pub look-requires-clause-before : goal.look-requires-clause-before
look-requires-clause-before c =
    let gates = c.args.gates.now in
    let rows = c.args.rows.now in
    let offered = c.args.offered.now in
    let items = c.self.inside.looked.items in
    let p = c.args.process in
    let known : AreLookedAt gates rows offered items =
    subst (λ ls. AreLookedAt gates rows offered ls) (sym c.self.view_is) c.requires.known in
    let seen : AreSeen gates rows offered items p c.args.first =
    subst (λ ls. AreSeen gates rows offered ls p c.args.first) (sym c.self.view_is) c.requires.seen in
    let row : row_of rows p ≡ Some c.in-Some.row.now = search rules in
    let l = c.index_mut-looked.result.now in
    let at : position (λ (x : Looked). proc_eq x.process p) items ≡ Some c.in-Some-place_of.place = search rules in
    let kept : looked_of items p ≡ Some l =
    entry_at items p c.in-Some-place_of.place at l ∙ ap Some (sym c.index_mut-looked.ensures.value) in
    λ o there. seen_known gates rows offered items p c.args.first seen c.in-Some.row.now row known l kept o there
    (first_there offered c.args.first o there)

pub look-requires-clause-within : goal.look-requires-clause-within
look-requires-clause-within c =
    let gates = c.args.gates.now in
    let rows = c.args.rows.now in
    let offered = c.args.offered.now in
    let items = c.self.inside.looked.items in
    let p = c.args.process in
    let known : AreLookedAt gates rows offered items =
    subst (λ ls. AreLookedAt gates rows offered ls) (sym c.self.view_is) c.requires.known in
    let row : row_of rows p ≡ Some c.in-Some.row.now = search rules in
    let l = c.index_mut-looked.result.now in
    let at : position (λ (x : Looked). proc_eq x.process p) items ≡ Some c.in-Some-place_of.place = search rules in
    let kept : looked_of items p ≡ Some l =
    entry_at items p c.in-Some-place_of.place at l ∙ ap Some (sym c.index_mut-looked.ensures.value) in
    ((known p l kept).known c.in-Some.row.now row).within

pub look_first-requires-clause-before : goal.look_first-requires-clause-before
look_first-requires-clause-before c =
    let gates = c.args.gates.now in
    let rows = c.args.rows.now in
    let offered = c.args.offered.now in
    let items = c.self.inside.looked.items in
    let p = c.args.process in
    let seen : AreSeen gates rows offered items p c.args.first =
    subst (λ ls. AreSeen gates rows offered ls p c.args.first) (sym c.self.view_is) c.requires.seen in
    let row : row_of rows p ≡ Some c.in-Some.row.now = search rules in
    let none : position (λ (x : Looked). proc_eq x.process p) items ≡ None = search rules in
    seen_none gates rows offered items p c.args.first seen c.in-Some.row.now row (entry_none items p none)

-- where memory is refused, what is kept of the others is known still
pub returns-then-is_err : goal.returns-then-is_err
returns-then-is_err c =
    let gates = c.args.gates.now in
    let rows = c.args.rows.now in
    let offered = c.args.offered.now in
    let items = c.self.inside.looked.items in
    let p = c.args.process in
    let known : AreLookedAt gates rows offered items =
    subst (λ ls. AreLookedAt gates rows offered ls) (sym c.self.view_is) c.requires.known in
    let l = c.index_mut-looked.result.now in
    let v = c.look.new.self in
    let at : position (λ (x : Looked). proc_eq x.process p) items ≡ Some c.in-Some-place_of.place = search rules in
    let process : v.process ≡ p =
    c.look.ensures.process
    ∙ ap (λ (x : Looked). x.process) c.index_mut-looked.ensures.value
    ∙ process_at items p c.in-Some-place_of.place at l in
    rw c.forget.ensures (rest_looked gates rows offered (set items c.in-Some-place_of.place v)
    p (λ q m apart is. known q m (sym (set_other items p c.in-Some-place_of.place at v process q apart) ∙ is)))

pub returns-else-is_err : goal.returns-else-is_err
returns-else-is_err c =
    let gates = c.args.gates.now in
    let rows = c.args.rows.now in
    let offered = c.args.offered.now in
    let items = c.self.inside.looked.items in
    let p = c.args.process in
    let known : AreLookedAt gates rows offered items =
    subst (λ ls. AreLookedAt gates rows offered ls) (sym c.self.view_is) c.requires.known in
    let row : row_of rows p ≡ Some c.in-Some.row.now = search rules in
    let l = c.index_mut-looked.result.now in
    let v = c.look.new.self in
    let at : position (λ (x : Looked). proc_eq x.process p) items ≡ Some c.in-Some-place_of.place = search rules in
    let process : v.process ≡ p =
    c.look.ensures.process
    ∙ ap (λ (x : Looked). x.process) c.index_mut-looked.ensures.value
    ∙ process_at items p c.in-Some-place_of.place at l in
    let now : AreKnown gates c.in-Some.row.now offered v = search rules in
    set_looked items p c.in-Some-place_of.place at v process gates rows offered (λ q m apart is. known q m is)
    (looked_row gates rows offered p c.in-Some.row.now v row c.requires.rising now)

pub returns-in-None : goal.returns-in-None
returns-in-None c =
    first_looked c.args.gates.now c.args.rows.now c.args.offered.now c.args.self.now c.look_first.new.self c.args.process c.in-Some.row.now
    (search rules) c.requires.rising c.requires.known c.look_first.result c.look_first.ensures.ok c.look_first.ensures.err
