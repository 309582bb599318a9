use Rattle.std.proofs.Common.{◌≡◌, List, None, Some, inl, subst}
use Rattle.std.specs.Prelude.{slice_get}
use Rattle.cast_sending.specs.Frames.{Frame}
use Rattle.cast_sending.specs.Stables.{IsPlaceOfCovered}
use Rattle.cast_sending.proofs.Waits.{stables_last, stables_set, takes_place, waits_last}
use Rattle.cast_sending.proofs.stables.keep.Goals as goal

pub returns-in-Some-clause-kept : goal.returns-in-Some-clause-kept
returns-in-Some-clause-kept c =
    let place = c.in-Some.ensures in
    rw c.replace.ensures.after
    (inl (takes_place c.args.waiting.now.items c.in-Some.place c.args.frame place.0
    (subst (λ (l : List Frame). slice_get l c.in-Some.place ≡ Some place.0) c.deref.ensures.value place.1) place.2))

pub returns-in-Some-clause-stables : goal.returns-in-Some-clause-stables
returns-in-Some-clause-stables c =
    rw c.replace.ensures.after
    (stables_set c.args.waiting.now.items c.in-Some.place c.args.frame c.requires.stables c.requires.stable)

pub returns-clause-kept : goal.returns-clause-kept
returns-clause-kept c =
    waits_last c.args.waiting.now.items c.push.new.frames.items c.args.frame c.push.result
    (subst (λ (l : List Frame). IsPlaceOfCovered l c.args.frame None) c.deref.ensures.value c.in_default.ensures) c.push.ensures

pub returns-clause-stables : goal.returns-clause-stables
returns-clause-stables c =
    stables_last c.args.waiting.now.items c.push.new.frames.items c.args.frame c.push.result c.requires.stables c.requires.stable
    c.push.ensures
