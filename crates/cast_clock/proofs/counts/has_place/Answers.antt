use Rattle.std.proofs.Common.{◌≡◌, Some, None, sym, ap, ◌∙◌, length}
use Rattle.std.specs.Prelude.{nat_lt}
use Rattle.std.specs.FinMap.Entries.{find}
use Rattle.cast_types.specs.Names.{proc_cmp}
use Rattle.cast_clock.proofs.Valid.{place_kept, place_new}
use Rattle.cast_clock.proofs.counts.has_place.Goals as goal

pub returns-in-Some : goal.returns-in-Some
returns-in-Some c =
    let here : find proc_cmp c.args.process c.args.counts.now ≡ Some c.in-Some.field-0.now =
    ap (find proc_cmp c.args.process) (sym c.entries-entries.ensures.value) ∙ sym c.in-Some.ensures in
    sym (place_kept c.args.counts.now c.args.process c.args.count c.in-Some.field-0.now c.entries-entries.ensures.valid here)

pub returns-in-None : goal.returns-in-None
returns-in-None c =
    let none : find proc_cmp c.args.process c.args.counts.now ≡ None =
    ap (find proc_cmp c.args.process) (sym c.entries-entries.ensures.value) ∙ sym c.in-None.ensures in
    ap (λ es. nat_lt (length es) 64) c.entries-entries.ensures.value
    ∙ sym (place_new c.args.counts.now c.args.process c.args.count c.entries-entries.ensures.valid none)
