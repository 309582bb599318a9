-- What the stream took, what is in hand, and what is passed.
use Rattle.std.proofs.Common.{◌≡◌, ℕ, Bool, true, false, true≢false, cond, List, [], ◌∷◌, ◌++◌, drop, take, length, refl, sym, ap}
use Rattle.std.proofs.Common.{append_assoc, arith, subst, ◌∙◌}
use Rattle.std.specs.Prelude.{⊤}
use Rattle.std.proofs.lemmas.List.{append-nil, take-append-drop}
use Rattle.cast_pen.specs.declared.pen.Pen.{Pen}
use Rattle.cast_pen.specs.declared.pen.Place.{Place}
use Rattle.cast_pen.specs.declared.pen.Place.TheVariants as place
use Rattle.cast_session.specs.Outgoing.{spelled_pushes}
use Rattle.cast_pen.specs.Pens.{goes_on}
use Rattle.cast_pen.specs.Moves.{Move, Claimed, Called, Took, Wrote, Turned, WentOn, GaveUp, Passed, Fetched, Waited, Closed, Ended}
use Rattle.cast_pen.specs.Moves.{after, pen_after, holders, passes, handing, in_hand, left_in, streamed, taken}
use Rattle.cast_pen.specs.Laws.{AreKept, left_at, BytesAreKept, AllIsWritten}
use Rattle.cast_pen.proofs.Holders.{Stands, held_by, made, stands, waited_place}
use Rattle.cast_pen.proofs.Takes.{not_over, over_after}

-- nothing is in hand where no thread has the pen
abbrev Rests : Place → List ℕ → Type 0
Rests place.Free hand = hand ≡ []
Rests place.Missed hand = hand ≡ []
Rests place.Held hand = ⊤
Rests (place.Passed task) hand = hand ≡ []

-- or the stream is closed
abbrev RestsIf : Bool → Place → List ℕ → Type 0
RestsIf true p hand = ⊤
RestsIf false p hand = Rests p hand

-- these bytes were taken, the stream took those, and these are in hand
abbrev Keeps : Pen → List ℕ → List ℕ → List ℕ → Type 0
Keeps pen all out hand = (all ≡ out ++ (hand ++ left_at pen.place)) × RestsIf pen.is_over pen.place hand

held_rests : (over : Bool) (hand : List ℕ) → RestsIf over place.Held hand
held_rests true hand = tt
held_rests false hand = tt

rests : (over : Bool) (p : Place) (hand : List ℕ) → hand ≡ [] → RestsIf over p hand
rests true p hand none = tt
rests false place.Free hand none = none
rests false place.Missed hand none = none
rests false place.Held hand none = tt
rests false (place.Passed task) hand none = none

claimed_keeps : (p : Place) (wanted over awaited : Bool) (turns t : ℕ) (all out hand : List ℕ) →
    let pen = made p wanted over awaited turns in
    Keeps pen all out hand → Keeps (after pen (Claimed t)) all out hand
claimed_keeps p wanted true awaited turns t all out hand k = k
claimed_keeps place.Free wanted false awaited turns t all out hand k = (k.0, tt)
claimed_keeps place.Missed wanted false awaited turns t all out hand k = (k.0, tt)
claimed_keeps place.Held wanted false awaited turns t all out hand k = k
claimed_keeps (place.Passed task) wanted false awaited turns t all out hand k = k

called_keeps : (p : Place) (wanted over awaited : Bool) (turns : ℕ) (all out hand : List ℕ) →
    let pen = made p wanted over awaited turns in
    Keeps pen all out hand → Keeps (after pen Called) all out hand
called_keeps p wanted true awaited turns all out hand k = k
called_keeps place.Free wanted false awaited turns all out hand k = k
called_keeps place.Missed wanted false awaited turns all out hand k = k
called_keeps place.Held wanted false awaited turns all out hand k = k
called_keeps (place.Passed task) wanted false awaited turns all out hand k = k

fetched_keeps : (p : Place) (wanted over awaited : Bool) (turns t : ℕ) (all out hand : List ℕ) →
    let pen = made p wanted over awaited turns in
    Keeps pen all out hand → Keeps (after pen (Fetched t)) all out (handing (Fetched t) pen hand)
fetched_keeps p wanted true awaited turns t all out hand k = k
fetched_keeps place.Free wanted false awaited turns t all out hand k = k
fetched_keeps place.Missed wanted false awaited turns t all out hand k = k
fetched_keeps place.Held wanted false awaited turns t all out hand k = k
fetched_keeps (place.Passed task) wanted false awaited turns t all out hand k = (
  k.0 ∙ (ap (λ (l : List ℕ). out ++ (l ++ left_in task)) k.1 ∙ ap (λ (l : List ℕ). out ++ l) (sym (append-nil (left_in task)))),
  tt,
)

waited_keeps : (first times : ℕ) (pen : Pen) (all out hand : List ℕ) → Keeps pen all out hand →
    Keeps (after pen (Waited first times)) all out hand
waited_keeps first times pen all out hand k =
    let same = sym (waited_place first times pen) in
    let over = sym (over_after (Waited first times) pen refl) in (
      k.0 ∙ ap (λ p. out ++ (hand ++ left_at p)) same,
      subst (λ p. RestsIf (after pen (Waited first times)).is_over p hand) same (subst (λ b. RestsIf b pen.place hand) over k.1),
    )

-- all is out, where a thread has nothing in hand
all_out : (p : Place) (all out hand : List ℕ) → p ≡ place.Held → hand ≡ [] → all ≡ out ++ (hand ++ left_at p) → all ≡ out
all_out p all out hand held none is =
    is ∙ (ap (λ (l : List ℕ). out ++ (l ++ left_at p)) none ∙ (ap (λ q. out ++ left_at q) held ∙ append-nil out))

-- a thread has some in hand
some_out : (p : Place) (all out hand : List ℕ) → p ≡ place.Held → all ≡ out ++ (hand ++ left_at p) → all ≡ out ++ hand
some_out p all out hand held is =
    is ∙ (ap (λ q. out ++ (hand ++ left_at q)) held ∙ ap (λ (l : List ℕ). out ++ l) (append-nil hand))

nothing_more : (out hand : List ℕ) → hand ≡ [] → out ≡ out ++ (hand ++ [])
nothing_more out hand none = sym (ap (λ (l : List ℕ). out ++ (l ++ [])) none ∙ append-nil out)

wrote : (out hand left : List ℕ) (n : ℕ) → out ++ (hand ++ left) ≡ (out ++ take n hand) ++ (drop n hand ++ left)
wrote out hand left n =
    ap (λ (l : List ℕ). out ++ (l ++ left)) (sym (take-append-drop n hand))
    ∙ (ap (λ (l : List ℕ). out ++ l) (append_assoc (take n hand) (drop n hand) left)
    ∙ sym (append_assoc out (take n hand) (drop n hand ++ left)))

went_at : (p : Place) (b : Bool) (all out hand : List ℕ) → p ≡ place.Held → hand ≡ [] → all ≡ out →
    all ≡ out ++ (hand ++ left_at (cond b p place.Free))
went_at p true all out hand held none is = is ∙ (nothing_more out hand none ∙ ap (λ q. out ++ (hand ++ left_at q)) (sym held))
went_at p false all out hand held none is = is ∙ nothing_more out hand none

abbrev KeepsAll : List Move → Type 0
KeepsAll ms = Keeps (pen_after ms) (taken ms) (streamed ms) (in_hand ms)

keeps_next : (m : Move) (ms : List Move) → AreKept (m ∷ ms) → KeepsAll ms → KeepsAll (m ∷ ms)
keeps_next (Claimed t) ms kept k =
    let pen = pen_after ms in
    claimed_keeps pen.place pen.is_wanted pen.is_over pen.is_awaited pen.turns t (taken ms) (streamed ms) (in_hand ms) k
keeps_next Called ms kept k =
    let pen = pen_after ms in
    called_keeps pen.place pen.is_wanted pen.is_over pen.is_awaited pen.turns (taken ms) (streamed ms) (in_hand ms) k
keeps_next (Took t pushes) ms kept k =
    let pen = pen_after ms in
    let held = (held_by pen.place (holders ms) (passes ms) t (stands ms kept.1) kept.0.0).2 in
    let bytes = spelled_pushes pushes in
    let out = all_out pen.place (taken ms) (streamed ms) (in_hand ms) held kept.0.1 k.0 in (
      ap (λ (l : List ℕ). l ++ bytes) out
          ∙ (ap (λ (l : List ℕ). streamed ms ++ l) (sym (append-nil bytes)) ∙ ap (λ q. streamed ms ++ (bytes ++ left_at q)) (sym held)),
      subst (λ q. RestsIf pen.is_over q bytes) (sym held) (held_rests pen.is_over bytes),
    )
keeps_next (Wrote t n) ms kept k =
    let pen = pen_after ms in
    let held = (held_by pen.place (holders ms) (passes ms) t (stands ms kept.1) kept.0).2 in (
      k.0 ∙ wrote (streamed ms) (in_hand ms) (left_at pen.place) n,
      subst (λ q. RestsIf pen.is_over q (drop n (in_hand ms))) (sym held) (held_rests pen.is_over (drop n (in_hand ms))),
    )
keeps_next (Turned t) ms kept k = k
keeps_next (WentOn t) ms kept k =
    let pen = pen_after ms in
    let held = (held_by pen.place (holders ms) (passes ms) t (stands ms kept.1) kept.0.0).2 in
    let out = all_out pen.place (taken ms) (streamed ms) (in_hand ms) held kept.0.1 k.0 in (
      went_at pen.place (goes_on pen) (taken ms) (streamed ms) (in_hand ms) held kept.0.1 out,
      rests pen.is_over (pen_after (WentOn t ∷ ms)).place (in_hand ms) kept.0.1,
    )
keeps_next (GaveUp t) ms kept k =
    let pen = pen_after ms in
    let held = (held_by pen.place (holders ms) (passes ms) t (stands ms kept.1) kept.0.0).2 in
    let out = all_out pen.place (taken ms) (streamed ms) (in_hand ms) held kept.0.1 k.0 in (
      out ∙ nothing_more (streamed ms) (in_hand ms) kept.0.1,
      rests pen.is_over place.Missed (in_hand ms) kept.0.1,
    )
keeps_next (Passed t task) ms kept k =
    let pen = pen_after ms in
    let held = (held_by pen.place (holders ms) (passes ms) t (stands ms kept.1) kept.0.0).2 in
    let out = some_out pen.place (taken ms) (streamed ms) (in_hand ms) held k.0 in (
      out ∙ ap (λ (l : List ℕ). streamed ms ++ l) (sym kept.0.1),
      rests pen.is_over (place.Passed task) [] refl,
    )
keeps_next (Fetched t) ms kept k =
    let pen = pen_after ms in
    fetched_keeps pen.place pen.is_wanted pen.is_over pen.is_awaited pen.turns t (taken ms) (streamed ms) (in_hand ms) k
keeps_next (Waited first times) ms kept k = waited_keeps first times (pen_after ms) (taken ms) (streamed ms) (in_hand ms) k
keeps_next Closed ms kept k = (k.0, tt)
keeps_next (Ended t) ms kept k =
    let pen = pen_after ms in
    let held = (held_by pen.place (holders ms) (passes ms) t (stands ms kept.1) kept.0).2 in
    (k.0 ∙ ap (λ q. streamed ms ++ (in_hand ms ++ left_at q)) held, tt)

keeps : (ms : List Move) → AreKept ms → KeepsAll ms
keeps [] kept = (refl, refl)
keeps (m ∷ ms) kept = keeps_next m ms kept (keeps ms kept.1)

pub bytes_are_kept : BytesAreKept
bytes_are_kept ms kept = (keeps ms kept).0

free_rests : (p : Place) (over : Bool) (hs : List ℕ) (n : ℕ) (all out hand : List ℕ) → Stands p hs n → hs ≡ [] → n ≡ 0 → over ≡ false →
    RestsIf over p hand → all ≡ out ++ (hand ++ left_at p) → out ≡ all
free_rests p true hs n all out hand s unheld unpassed still r is = absurd (true≢false still)
free_rests place.Free false hs n all out hand s unheld unpassed still r is = sym (is ∙ sym (nothing_more out hand r))
free_rests place.Missed false hs n all out hand s unheld unpassed still r is = sym (is ∙ sym (nothing_more out hand r))
free_rests place.Held false hs n all out hand s unheld unpassed still r is =
    let one : 0 ≡ 1 = sym (ap length unheld) ∙ ap length s.1 in absurd (omega (arith, one))
free_rests (place.Passed task) false hs n all out hand s unheld unpassed still r is = absurd (omega (arith, s.1, unpassed))

pub all_is_written : AllIsWritten
all_is_written ms kept free =
    let pen = pen_after ms in
    let k = keeps ms kept in
    free_rests pen.place pen.is_over (holders ms) (passes ms) (taken ms) (streamed ms) (in_hand ms) (stands ms kept) free.unheld
    free.unpassed (not_over ms free.unclosed) k.1 k.0
