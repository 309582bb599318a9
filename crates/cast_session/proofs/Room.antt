-- The bytes at the front of a room.
use Rattle.std.proofs.Common.{◌≡◌, ℕ, ◌+◌, ◌-◌, ◌≤◌, List, ◌++◌, length, take, drop, sym, ap, ◌∙◌, arith}
use Rattle.std.proofs.lemmas.List.{length-append, length-drop, length-take-le, take_at, take-append-le, drop-take}
use Rattle.std.proofs.lemmas.List.Edits.{take-paste}
use Rattle.std.proofs.Math.Seq.{take-append-add}
use Rattle.std.specs.List.{copy_within}

-- a room of which the part behind them was written to
abbrev written_behind : List ℕ → List ℕ → ℕ → List ℕ
written_behind room written len = take len room ++ (written ++ drop (length room - len) (drop len room))

length-written_behind : (room written : List ℕ) (len : ℕ) → len ≤ length room → length written ≡ length room - len
    → length (written_behind room written len) ≡ length room
length-written_behind room written len within sizes =
    simp (length-append, length-drop) (let front = length-take-le len room within in omega (arith, front, sizes))

-- so many bytes came behind them
pub filled : (room written : List ℕ) (size len count : ℕ) → size ≡ length room → len ≤ length room → length written ≡ length room - len
    → count ≤ length written
    → take (len + count) (take size (written_behind room written len ++ drop (length (written_behind room written len)) room))
    ≡ take len room ++ take count written
filled room written size len count is within sizes few =
    let front = take len room in
    let rest = drop (length room - len) (drop len room) in
    let all = written_behind room written len in
    let same : length front ≡ len = length-take-le len room within in
    let whole : length all ≡ size = length-written_behind room written len within sizes ∙ sym is in
    ap (take (len + count)) (take_at all (drop (length all) room) size whole)
    ∙ (ap (λ (k : ℕ). take (k + count) all) (sym same)
    ∙ (take-append-add front (written ++ rest) count ∙ ap (λ (l : List ℕ). front ++ l) (take-append-le count written rest few)))

-- the first of them are taken away
pub shifted : (room : List ℕ) (count len : ℕ) → count ≤ len → len ≤ length room
    → take (len - count) (copy_within room count len 0) ≡ drop count (take len room)
shifted room count len few within =
    let n = len - count in
    let there : n ≤ length (drop count room) = omega (arith, length-drop count room) in
    let none : n ≡ 0 + n = omega arith in
    let all : count + n ≡ len = omega arith in
    ap (λ (k : ℕ). take k (copy_within room count len 0)) none
    ∙ (take-paste room 0 (drop count room) n (omega arith) there
    ∙ (sym (drop-take count n room) ∙ ap (λ (k : ℕ). drop count (take k room)) all))
