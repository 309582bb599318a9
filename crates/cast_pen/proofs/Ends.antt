-- What follows once who has the pen has closed the stream.
use Rattle.std.proofs.Common.{◌≡◌, ℕ, Bool, true, false, true≢false, IsTrue, List, [], ◌∷◌, ◌++◌, refl, sym, ap, ◌∙◌}
use Rattle.std.specs.List.{list_any}
use Rattle.cast_pen.specs.declared.pen.Pen.{Pen}
use Rattle.cast_pen.specs.declared.pen.Place.{Place}
use Rattle.cast_pen.specs.declared.pen.Place.TheVariants as place
use Rattle.cast_pen.specs.declared.writing.WriterTask.TheVariants as task
use Rattle.cast_pen.specs.Pens.{asked, fetched, is_taken}
use Rattle.cast_pen.specs.Moves.{Move, Claimed, Called, Took, Wrote, Turned, WentOn, GaveUp, Passed, Fetched, Waited, Closed, Ended}
use Rattle.cast_pen.specs.Moves.{pen_after, holders, passes}
use Rattle.cast_pen.specs.Laws.{has, AreKept, writes, NothingBehindTheEnd}
use Rattle.cast_pen.proofs.Holders.{held_by, made, stands, waited_place}
use Rattle.cast_pen.proofs.Takes.{waited_over}

-- the stream is closed, and no thread has the pen
abbrev IsAtEnd : Pen → Type 0
IsAtEnd pen = (pen.is_over ≡ true) × (is_taken pen.place ≡ false)

nobody : (m : Move) (ms : List Move) (t : ℕ) → AreKept (m ∷ ms) → IsTrue (has t (holders ms)) → is_taken (pen_after ms).place ≡ false → ⊥
nobody m ms t kept is free =
    true≢false (sym (ap is_taken (held_by (pen_after ms).place (holders ms) (passes ms) t (stands ms kept.1) is).2) ∙ free)

asked_end : (to p : Place) (wanted over awaited : Bool) (turns : ℕ) → over ≡ true → is_taken p ≡ false →
    IsAtEnd (asked to (made p wanted over awaited turns))
asked_end to p wanted true awaited turns over free = (refl, free)
asked_end to p wanted false awaited turns over free = absurd (true≢false (sym over))

fetched_end : (p : Place) (wanted over awaited : Bool) (turns : ℕ) → over ≡ true → is_taken p ≡ false →
    IsAtEnd (fetched (made p wanted over awaited turns))
fetched_end p wanted true awaited turns over free = (refl, free)
fetched_end p wanted false awaited turns over free = absurd (true≢false (sym over))

end_stays : (m : Move) (ms : List Move) → AreKept (m ∷ ms) → IsAtEnd (pen_after ms) → IsAtEnd (pen_after (m ∷ ms)) × (writes m ≡ false)
end_stays (Claimed t) ms kept e =
    let pen = pen_after ms in
    (asked_end place.Held pen.place pen.is_wanted pen.is_over pen.is_awaited pen.turns e.0 e.1, refl)
end_stays Called ms kept e =
    let pen = pen_after ms in
    (asked_end (place.Passed task.Take) pen.place pen.is_wanted pen.is_over pen.is_awaited pen.turns e.0 e.1, refl)
end_stays (Took t pushes) ms kept e = absurd (nobody (Took t pushes) ms t kept kept.0.0 e.1)
end_stays (Wrote t n) ms kept e = absurd (nobody (Wrote t n) ms t kept kept.0 e.1)
end_stays (Turned t) ms kept e = absurd (nobody (Turned t) ms t kept kept.0 e.1)
end_stays (WentOn t) ms kept e = absurd (nobody (WentOn t) ms t kept kept.0.0 e.1)
end_stays (GaveUp t) ms kept e = absurd (nobody (GaveUp t) ms t kept kept.0.0 e.1)
end_stays (Passed t task) ms kept e = absurd (nobody (Passed t task) ms t kept kept.0.0 e.1)
end_stays (Fetched t) ms kept e =
    let pen = pen_after ms in
    (fetched_end pen.place pen.is_wanted pen.is_over pen.is_awaited pen.turns e.0 e.1, refl)
end_stays (Waited first times) ms kept e =
    let pen = pen_after ms in
    ((waited_over first times pen ∙ e.0, ap is_taken (waited_place first times pen) ∙ e.1), refl)
end_stays Closed ms kept e = ((refl, e.1), refl)
end_stays (Ended t) ms kept e = absurd (nobody (Ended t) ms t kept kept.0 e.1)

at_end : (newer older : List Move) (t : ℕ) → AreKept (newer ++ Ended t ∷ older) →
    IsAtEnd (pen_after (newer ++ Ended t ∷ older)) × (list_any writes newer ≡ false)
at_end [] older t kept = ((refl, refl), refl)
at_end (x ∷ newer) older t kept =
    let before = at_end newer older t kept.1 in
    let now = end_stays x (newer ++ Ended t ∷ older) kept before.0 in
    (now.0, rw (now.1, before.1) refl)

pub nothing_behind_the_end : NothingBehindTheEnd
nothing_behind_the_end newer older t kept = (at_end newer older t kept).1
