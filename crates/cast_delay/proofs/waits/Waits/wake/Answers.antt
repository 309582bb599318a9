use Rattle.std.proofs.Common.{◌≡◌, ◌∙◌, Some, None, set, sym, ap, rules}
use Rattle.std.specs.List.{position}
use Rattle.cast_types.specs.Names.{proc_eq}
use Rattle.cast_delay.specs.declared.looked.Looked.{Looked}
use Rattle.cast_delay.specs.Queue.{row_of}
use Rattle.cast_delay.specs.Waits.{looked_of, AreKnown, IsToWake}
use Rattle.cast_delay.proofs.LookedAt.{entry_at, entry_none, process_at, set_other, set_looked, rest_looked, looked_row, own_none, row_none}
use Rattle.cast_delay.proofs.waits.Waits.wake.Goals as goal

-- nothing is kept of the process
pub returns-in_default : goal.returns-in_default
returns-in_default c =
    let p = c.args.process in
    let items = c.self.inside.looked.items in
    let none : position (λ (x : Looked). proc_eq x.process p) items ≡ None = search rules in
    own_none c.args.gates.now c.args.rows.now c.args.offered.now p c.args.id c.args.key c.args.self.now c.requires
    (ap (λ ls. looked_of ls p) (sym c.self.view_is) ∙ entry_none items p none)

-- it has no row
pub returns-in_default-find : goal.returns-in_default-find
returns-in_default-find c =
    let none : row_of c.args.rows.now c.args.process ≡ None = search rules in
    row_none c.args.gates.now c.args.rows.now c.args.offered.now c.args.process c.args.id c.args.key c.args.self.now c.requires none

-- what is kept of the process
kept : (c : goal.After-index_mut-looked) → looked_of c.args.self.now c.args.process ≡ Some c.index_mut-looked.result.now
kept c =
    let p = c.args.process in
    let items = c.self.inside.looked.items in
    let at : position (λ (x : Looked). proc_eq x.process p) items ≡ Some c.in-Some.place = search rules in
    ap (λ ls. looked_of ls p) (sym c.self.view_is)
    ∙ entry_at items p c.in-Some.place at c.index_mut-looked.result.now
    ∙ ap Some (sym c.index_mut-looked.ensures.value)

-- and its row has just taken the message
to_wake : (c : goal.After-index_mut-looked) →
    IsToWake c.args.gates.now c.in-Some-find.row.now c.args.offered.now c.args.id c.args.key c.index_mut-looked.result.now
to_wake c =
    let row : row_of c.args.rows.now c.args.process ≡ Some c.in-Some-find.row.now = search rules in
    (c.requires.own c.index_mut-looked.result.now (kept c)).2 c.in-Some-find.row.now row

pub wake-requires-clause-rising : goal.wake-requires-clause-rising
wake-requires-clause-rising c = (c.requires.own c.index_mut-looked.result.now (kept c)).0

pub wake-requires-clause-within : goal.wake-requires-clause-within
wake-requires-clause-within c = (to_wake c).within

pub wake-requires-clause-waking : goal.wake-requires-clause-waking
wake-requires-clause-waking c = (to_wake c).waking

pub wake-requires-clause-taken : goal.wake-requires-clause-taken
wake-requires-clause-taken c = (to_wake c).taken

pub returns-then-not-wake : goal.returns-then-not-wake
returns-then-not-wake c =
    let p = c.args.process in
    let items = c.self.inside.looked.items in
    let v = c.wake.new.self in
    let at : position (λ (x : Looked). proc_eq x.process p) items ≡ Some c.in-Some.place = search rules in
    let process : v.process ≡ p =
    c.wake.ensures.process
    ∙ ap (λ (x : Looked). x.process) c.index_mut-looked.ensures.value
    ∙ process_at items p c.in-Some.place at c.index_mut-looked.result.now in
    rw c.forget.ensures (rest_looked c.args.gates.now c.args.rows.now c.args.offered.now (set items c.in-Some.place v) p
    (λ q m apart is. c.requires.others q m apart
    (ap (λ ls. looked_of ls q) (sym c.self.view_is) ∙ sym (set_other items p c.in-Some.place at v process q apart) ∙ is)))

pub returns-else-not-wake : goal.returns-else-not-wake
returns-else-not-wake c =
    let gates = c.args.gates.now in
    let rows = c.args.rows.now in
    let offered = c.args.offered.now in
    let p = c.args.process in
    let items = c.self.inside.looked.items in
    let row : row_of rows p ≡ Some c.in-Some-find.row.now = search rules in
    let l = c.index_mut-looked.result.now in
    let v = c.wake.new.self in
    let at : position (λ (x : Looked). proc_eq x.process p) items ≡ Some c.in-Some.place = search rules in
    let process : v.process ≡ p =
    c.wake.ensures.process ∙ ap (λ (x : Looked). x.process) c.index_mut-looked.ensures.value ∙ process_at items p c.in-Some.place at l in
    let own =
    ap (λ ls. looked_of ls p) (sym c.self.view_is)
    ∙ entry_at items p c.in-Some.place at l
    ∙ ap Some (sym c.index_mut-looked.ensures.value) in
    let now : AreKnown gates c.in-Some-find.row.now offered v = search rules in
    set_looked items p c.in-Some.place at v process gates rows offered
    (λ q m apart is. c.requires.others q m apart (ap (λ ls. looked_of ls q) (sym c.self.view_is) ∙ is))
    (looked_row gates rows offered p c.in-Some-find.row.now v row (c.requires.own l own).0 now)
