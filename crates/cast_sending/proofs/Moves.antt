-- What becomes of frames over lists of moves.
use Rattle.std.proofs.Common.{◌≡◌, ◌⊎◌, ◌≤◌, ◌<◌, ◌+◌, ℕ, zero, suc, Bool, true, List, [], ◌∷◌, ◌++◌, cond, Contains, get_or, length, arith}
use Rattle.std.proofs.Common.{refl, sym, ap, subst, ◌∙◌, inl, inr}
use Rattle.std.specs.Prelude.{filter, not, count_by}
use Rattle.std.proofs.lemmas.Bool.{cases_Bool, and_parts, and_from, not_from_true, not_from_false}
use Rattle.std.proofs.lemmas.List.{append-nil}
use Rattle.std.proofs.lemmas.List.Elements.{filter-append}
use Rattle.std.proofs.lemmas.List.Sums.{sum_by-append}
use Rattle.std.proofs.lemmas.List.Filters.{sum_by-filter_both}
use Rattle.cast_types.proofs.Contains.{contains_later}
use Rattle.cast_sending.specs.Frames.{Frame, Covers, is_stable, is_other}
use Rattle.cast_sending.specs.Stables.{are_stables, is_joined, AreParted, TakesPlace, Waits, AllWait}
use Rattle.cast_sending.specs.Laws.{Move, Hold, Join, Take, came_in, gone_in, all_came, all_gone, IsMove, AreMoves}
use Rattle.cast_sending.specs.Laws.{StablesAreCovered, OthersGoOn, NothingIsMadeUp}

-- ---- what a list has

-- one item of it after the other
abbrev In : Frame → List Frame → Type 0
In frame [] = ⊥
In frame (first ∷ frames) = (first ≡ frame) ⊎ In frame frames

in_from : (frames : List Frame) (frame : Frame) (k : ℕ) → k < length frames → get_or frames k frame ≡ frame → In frame frames
in_from [] frame k within at = absurd (omega (arith, within))
in_from (first ∷ frames) frame zero within at = inl at
in_from (first ∷ frames) frame (suc k) within at = inr (in_from frames frame k (omega (arith, within)) at)

contained : (frames : List Frame) (frame : Frame) → Contains frames frame → In frame frames
contained frames frame there = in_from frames frame there.0 there.1 there.2

contains : (frames : List Frame) (frame : Frame) → In frame frames → Contains frames frame
contains [] frame in_ = absurd in_
contains (first ∷ frames) frame (inl here) = (0, omega arith, here)
contains (first ∷ frames) frame (inr there) = contains_later frame first frames (contains frames frame there)

in_left : (frames more : List Frame) (frame : Frame) → In frame frames → In frame (frames ++ more)
in_left [] more frame in_ = absurd in_
in_left (first ∷ frames) more frame (inl here) = inl here
in_left (first ∷ frames) more frame (inr there) = inr (in_left frames more frame there)

in_right : (frames more : List Frame) (frame : Frame) → In frame more → In frame (frames ++ more)
in_right [] more frame in_ = in_
in_right (first ∷ frames) more frame in_ = inr (in_right frames more frame in_)

in_cases : (frames more : List Frame) (frame : Frame) → In frame (frames ++ more) → In frame frames ⊎ In frame more
in_cases [] more frame in_ = inr in_
in_cases (first ∷ frames) more frame (inl here) = inl (inl here)
in_cases (first ∷ frames) more frame (inr there) = elim (in_cases frames more frame there) [
  | inl left ↦ inl (inr left)
  | inr right ↦ inr right
]

in_same : (frames more : List Frame) (frame : Frame) → frames ≡ more → In frame frames → In frame more
in_same frames more frame same in_ = subst (λ (l : List Frame). In frame l) same in_

in_filter : (test : Frame → Bool) (frames : List Frame) (frame : Frame) → In frame frames → test frame ≡ true →
    In frame (filter test frames)
in_filter test [] frame in_ passes = absurd in_
in_filter test (first ∷ frames) frame (inl here) passes = rw (ap test here ∙ passes) (inl here)
in_filter test (first ∷ frames) frame (inr there) passes = elim (cases_Bool (test first)) [
  | inl first_passes ↦ rw first_passes (inr (in_filter test frames frame there passes))
  | inr first_fails ↦ rw first_fails (in_filter test frames frame there passes)
]

filter_in : (test : Frame → Bool) (frames : List Frame) (frame : Frame) → In frame (filter test frames) → In frame frames
filter_in test [] frame in_ = in_
filter_in test (first ∷ frames) frame in_ = elim (cases_Bool (test first)) [
  | inl passes ↦ elim (rw passes at in_) [
    | inl here ↦ inl here
    | inr there ↦ inr (filter_in test frames frame there)
  ]
  | inr fails ↦ inr (filter_in test frames frame (rw fails at in_))
]

filter_test : (test : Frame → Bool) (frames : List Frame) (frame : Frame) → In frame (filter test frames) → test frame ≡ true
filter_test test [] frame in_ = absurd in_
filter_test test (first ∷ frames) frame in_ = elim (cases_Bool (test first)) [
  | inl passes ↦ elim (rw passes at in_) [
    | inl here ↦ sym (ap test here) ∙ passes
    | inr there ↦ filter_test test frames frame there
  ]
  | inr fails ↦ filter_test test frames frame (rw fails at in_)
]

-- ---- parts

-- with none missing all are kept
none_missing : (kept missing all : List Frame) → AreParted kept missing all → length missing ≡ 0 → kept ≡ all
none_missing kept missing [] parted none = parted.0
none_missing kept missing (frame ∷ all) (inl here) none =
    here.1 ∙ ap (λ (l : List Frame). frame ∷ l) (none_missing here.0 missing all here.2 none)
none_missing kept missing (frame ∷ all) (inr there) none = absurd (omega (arith, ap length there.1, none))

-- ---- those that wait

abbrev CoveredIn : Frame → List Frame → Type 0
CoveredIn frame frames = (other : Frame) × Covers other frame × In other frames

covers_itself : (frame : Frame) → Covers frame frame
covers_itself frame domain site message tells = tells

covers_on : (first second third : Frame) → Covers second first → Covers third second → Covers third first
covers_on first second third one two domain site message tells = two domain site message (one domain site message tells)

place_keeps : (old new : List Frame) (frame waits : Frame) → TakesPlace old frame new → In waits old → CoveredIn waits new
place_keeps old new frame waits place in_ =
    let before = place.before in
    let after = place.after in
    elim (in_cases before (place.covered ∷ after) waits (in_same old (before ++ place.covered ∷ after) waits place.was in_)) [
      | inl first ↦ (
        waits,
        covers_itself waits,
        in_same (before ++ frame ∷ after) new waits (sym place.is) (in_left before (frame ∷ after)
            waits first),
      )
      | inr rest ↦ elim rest [
        | inl here ↦ (
          frame,
          subst (λ (f : Frame). Covers frame f) here place.covers,
          in_same (before ++ frame ∷ after) new frame (sym place.is) (in_right before (frame ∷ after) frame (inl refl)),
        )
        | inr later ↦ (
          waits,
          covers_itself waits,
          in_same (before ++ frame ∷ after) new waits (sym place.is) (in_right before (frame ∷ after)
              waits (inr later)),
        )
      ]
    ]

one_keeps : (old new : List Frame) (frame waits : Frame) → Waits old frame new → In waits old → CoveredIn waits new
one_keeps old new frame waits (inl place) in_ = place_keeps old new frame waits place in_
one_keeps old new frame waits (inr last) in_ =
    (waits, covers_itself waits, in_same (old ++ frame ∷ []) new waits (sym last.is) (in_left old (frame ∷ []) waits in_))

one_there : (old new : List Frame) (frame : Frame) → Waits old frame new → In frame new
one_there old new frame (inl place) =
    in_same (place.before ++ frame ∷ place.after) new frame (sym place.is) (in_right place.before (frame ∷ place.after) frame (inl refl))
one_there old new frame (inr last) = in_same (old ++ frame ∷ []) new frame (sym last.is) (in_right old (frame ∷ []) frame (inl refl))

all_keep : (frames old new : List Frame) (waits : Frame) → AllWait old frames new → In waits old → CoveredIn waits new
all_keep [] old new waits all in_ = (waits, covers_itself waits, in_same old new waits (sym all) in_)
all_keep (frame ∷ frames) old new waits all in_ =
    let one : CoveredIn waits all.0 = one_keeps old all.0 frame waits all.1 in_ in
    let more : CoveredIn one.0 new = all_keep frames all.0 new one.0 all.2 one.2 in
    (more.0, covers_on waits one.0 more.0 one.1 more.1, more.2)

all_there : (frames old new : List Frame) (frame : Frame) → AllWait old frames new → In frame frames → CoveredIn frame new
all_there [] old new frame all in_ = absurd in_
all_there (first ∷ frames) old new frame all (inl here) =
    all_keep frames all.0 new frame all.2 (subst (λ (f : Frame). In f all.0) here (one_there old all.0 first all.1))
all_there (first ∷ frames) old new frame all (inr there) = all_there frames all.0 new frame all.2 there

-- who waits waited or came
one_from : (old new : List Frame) (frame waits : Frame) → Waits old frame new → In waits new → In waits old ⊎ (frame ≡ waits)
one_from old new frame waits (inl place) in_ =
    let before = place.before in
    let after = place.after in
    elim (in_cases before (frame ∷ after) waits (in_same new (before ++ frame ∷ after) waits place.is in_)) [
      | inl first ↦ inl (in_same (before ++ place.covered ∷ after) old waits (sym place.was) (in_left before (place.covered ∷ after)
          waits first))
      | inr rest ↦ elim rest [
        | inl here ↦ inr here
        | inr later ↦
            inl (in_same (before ++ place.covered ∷ after) old waits (sym place.was) (in_right before (place.covered ∷ after)
            waits (inr later)))
      ]
    ]
one_from old new frame waits (inr last) in_ = elim (in_cases old (frame ∷ []) waits (in_same new (old ++ frame ∷ []) waits last.is in_)) [
  | inl first ↦ inl first
  | inr rest ↦ elim rest [
    | inl here ↦ inr here
    | inr none ↦ absurd none
  ]
]

all_from : (frames old new : List Frame) (waits : Frame) → AllWait old frames new → In waits new → In waits old ⊎ In waits frames
all_from [] old new waits all in_ = inl (in_same new old waits all in_)
all_from (frame ∷ frames) old new waits all in_ = elim (all_from frames all.0 new waits all.2 in_) [
  | inl first ↦ elim (one_from old all.0 frame waits all.1 first) [
    | inl waited ↦ inl waited
    | inr came ↦ inr (inl came)
  ]
  | inr later ↦ inr (inr later)
]

-- ---- moves

move_keeps : (old new : List Frame) (move : Move) (waits : Frame) → IsMove old move new → In waits old →
    CoveredIn waits (gone_in move) ⊎ CoveredIn waits new
move_keeps old new (Hold came went) waits is in_ = inr (all_keep (filter is_stable is.kept) old new waits is.stables in_)
move_keeps old new (Join came went) waits is in_ =
    let kept : In waits is.kept = in_same old is.kept waits (sym (none_missing is.kept is.missing old is.parted is.counted)) in_ in
    elim (cases_Bool (is_joined came waits)) [
      | inl joins ↦
          inl (
            waits,
            covers_itself waits,
            in_same (came ++ filter (is_joined came) is.kept) went waits (sym is.joined)
                (in_right came (filter (is_joined came) is.kept) waits (in_filter (is_joined came) is.kept waits kept joins)),
          )
      | inr stays ↦
          inr (
            waits,
            covers_itself waits,
            in_same (filter (λ f. not (is_joined came f)) is.kept) new waits (sym is.others)
                (in_filter (λ f. not (is_joined came f)) is.kept waits kept (not_from_false (is_joined came waits) stays)),
          )
    ]
move_keeps old new (Take went) waits is in_ = inl (waits, covers_itself waits, in_same old went waits (sym is.0) in_)

move_there : (old new : List Frame) (move : Move) (frame : Frame) → IsMove old move new → In frame (came_in move) → is_stable frame ≡ true →
    CoveredIn frame (gone_in move) ⊎ CoveredIn frame new
move_there old new (Hold came went) frame is in_ stable =
    let kept : In frame is.kept = in_same came is.kept frame (sym (none_missing is.kept is.missing came is.parted is.counted)) in_ in
    inr (all_there (filter is_stable is.kept) old new frame is.stables (in_filter is_stable is.kept frame kept stable))
move_there old new (Join came went) frame is in_ stable =
    inl (
      frame,
      covers_itself frame,
      in_same (came ++ filter (is_joined came) is.kept) went frame (sym is.joined) (in_left came (filter (is_joined came) is.kept)
          frame in_),
    )
move_there old new (Take went) frame is in_ stable = absurd in_

abbrev CoveredBy : Frame → List Move → List Frame → Type 0
CoveredBy frame moves new = (other : Frame) × Covers other frame × (In other (all_gone moves) ⊎ In other new)

went_first : (move : Move) (moves : List Move) (new : List Frame) (frame : Frame) → CoveredIn frame (gone_in move) →
    CoveredBy frame (move ∷ moves) new
went_first move moves new frame covered = (covered.0, covered.1, inl (in_left (gone_in move) (all_gone moves) covered.0 covered.2))

goes_later : (move : Move) (moves : List Move) (new : List Frame) (frame other : Frame) → Covers other frame → CoveredBy other moves new →
    CoveredBy frame (move ∷ moves) new
goes_later move moves new frame other covers more =
    let both : Covers more.0 frame = covers_on frame other more.0 covers more.1 in
    elim more.2 [
      | inl gone ↦ (more.0, both, inl (in_right (gone_in move) (all_gone moves) more.0 gone))
      | inr waits ↦ (more.0, both, inr waits)
    ]

moves_keep : (moves : List Move) (old new : List Frame) (waits : Frame) → AreMoves old moves new → In waits old → CoveredBy waits moves new
moves_keep [] old new waits are in_ = (waits, covers_itself waits, inr (in_same old new waits (sym are) in_))
moves_keep (move ∷ moves) old new waits are in_ = elim (move_keeps old are.0 move waits are.1 in_) [
  | inl gone ↦ went_first move moves new waits gone
  | inr kept ↦ goes_later move moves new waits kept.0 kept.1 (moves_keep moves are.0 new kept.0 are.2 kept.2)
]

moves_there : (move : Move) (moves : List Move) (old new : List Frame) (frame : Frame) → AreMoves old (move ∷ moves) new →
    In frame (came_in move) →
    is_stable frame ≡ true → CoveredBy frame (move ∷ moves) new
moves_there move moves old new frame are in_ stable = elim (move_there old are.0 move frame are.1 in_ stable) [
  | inl gone ↦ went_first move moves new frame gone
  | inr kept ↦ goes_later move moves new frame kept.0 kept.1 (moves_keep moves are.0 new kept.0 are.2 kept.2)
]

later_moves : (before after : List Move) (old new : List Frame) → AreMoves old (before ++ after) new →
    (between : List Frame) × AreMoves between after new
later_moves [] after old new are = (old, are)
later_moves (move ∷ before) after old new are = later_moves before after are.0 new are.2

pub stables_are_covered : StablesAreCovered
stables_are_covered before after move waiting frame are came stable =
    let later = later_moves before (move ∷ after) [] waiting are in
    let by : CoveredBy frame (move ∷ after) waiting =
    moves_there move after later.0 waiting frame later.1 (contained (came_in move) frame came) stable in
    elim by.2 [
      | inl gone ↦ (by.0, by.1, inl (contains (all_gone (move ∷ after)) by.0 gone))
      | inr waits ↦ (by.0, by.1, inr (contains waiting by.0 waits))
    ]

-- ---- the others

all_stables : (frames : List Frame) → ((frame : Frame) → In frame frames → is_stable frame ≡ true) → are_stables frames ≡ true
all_stables [] each = refl
all_stables (first ∷ frames) each =
    and_from (is_stable first) (are_stables frames) (each first (inl refl)) (all_stables frames (λ frame in_. each frame (inr in_)))

stable_in : (frames : List Frame) (frame : Frame) → are_stables frames ≡ true → In frame frames → is_stable frame ≡ true
stable_in [] frame all in_ = absurd in_
stable_in (first ∷ frames) frame all (inl here) =
    sym (ap is_stable here) ∙ (and_parts (is_stable first) (are_stables frames) all).0
stable_in (first ∷ frames) frame all (inr there) =
    stable_in frames frame (and_parts (is_stable first) (are_stables frames) all).1 there

none_other : (frames : List Frame) → are_stables frames ≡ true → filter is_other frames ≡ []
none_other [] all = refl
none_other (first ∷ frames) all =
    let parts = and_parts (is_stable first) (are_stables frames) all in
    rw (not_from_true (is_stable first) parts.0) (none_other frames parts.1)

others_twice : (frames : List Frame) → filter is_other (filter is_other frames) ≡ filter is_other frames
others_twice [] = refl
others_twice (first ∷ frames) = elim (cases_Bool (is_other first)) [
  | inl passes ↦ rw (passes, passes) (ap (λ (l : List Frame). first ∷ l) (others_twice frames))
  | inr fails ↦ rw fails (others_twice frames)
]

move_stables : (old new : List Frame) (move : Move) → IsMove old move new → are_stables old ≡ true → are_stables new ≡ true
move_stables old new (Hold came went) is stables =
    all_stables new (λ waits in_. elim (all_from (filter is_stable is.kept) old new waits is.stables in_) [
      | inl waited ↦ stable_in old waits stables waited
      | inr held ↦ filter_test is_stable is.kept waits held
    ])
move_stables old new (Join came went) is stables = all_stables new (λ waits in_.
    stable_in old waits stables
    (in_same is.kept old waits (none_missing is.kept is.missing old is.parted is.counted)
    (filter_in (λ f. not (is_joined came f)) is.kept waits (in_same new (filter (λ f. not (is_joined came f)) is.kept)
    waits is.others in_))))
move_stables old new (Take went) is stables = ap are_stables is.1

move_others : (old new : List Frame) (move : Move) → IsMove old move new → are_stables old ≡ true →
    filter is_other (gone_in move) ≡ filter is_other (came_in move)
move_others old new (Hold came went) is stables =
    ap (filter is_other) is.others
    ∙ (others_twice is.kept ∙ ap (filter is_other) (none_missing is.kept is.missing came is.parted is.counted))
move_others old new (Join came went) is stables =
    let joined : are_stables (filter (is_joined came) is.kept) ≡ true = all_stables (filter (is_joined came) is.kept) (λ waits in_.
    stable_in old waits stables
    (in_same is.kept old waits (none_missing is.kept is.missing old is.parted is.counted) (filter_in (is_joined came) is.kept waits in_)))
    in
    ap (filter is_other) is.joined
    ∙ (filter-append is_other came (filter (is_joined came) is.kept)
    ∙ (ap (λ (l : List Frame). filter is_other came ++ l) (none_other (filter (is_joined came) is.kept) joined)
    ∙ append-nil (filter is_other came)))
move_others old new (Take went) is stables = ap (filter is_other) is.0 ∙ none_other old stables

moves_others : (moves : List Move) (old new : List Frame) → AreMoves old moves new → are_stables old ≡ true →
    filter is_other (all_gone moves) ≡ filter is_other (all_came moves)
moves_others [] old new are stables = refl
moves_others (move ∷ moves) old new are stables =
    filter-append is_other (gone_in move) (all_gone moves)
    ∙ (ap (λ (l : List Frame). l ++ filter is_other (all_gone moves)) (move_others old are.0 move are.1 stables)
    ∙ (ap (λ (l : List Frame). filter is_other (came_in move) ++ l)
    (moves_others moves are.0 new are.2 (move_stables old are.0 move are.1 stables))
    ∙ sym (filter-append is_other (came_in move) (all_came moves))))

pub others_go_on : OthersGoOn
others_go_on moves waiting are = moves_others moves [] waiting are refl

-- ---- nothing is made up

-- what went came or waited, and so does what waits then
move_from : (old new : List Frame) (move : Move) (frame : Frame) → IsMove old move new → In frame (gone_in move) ⊎ In frame new →
    In frame old ⊎ In frame (came_in move)
move_from old new (Hold came went) frame is (inl gone) =
    inr (in_same is.kept came frame (none_missing is.kept is.missing came is.parted is.counted)
    (filter_in is_other is.kept frame (in_same went (filter is_other is.kept) frame is.others gone)))
move_from old new (Hold came went) frame is (inr waits) = elim (all_from (filter is_stable is.kept) old new frame is.stables waits) [
  | inl waited ↦ inl waited
  | inr held ↦
      inr (in_same is.kept came frame (none_missing is.kept is.missing came is.parted is.counted) (filter_in is_stable is.kept frame held))
]
move_from old new (Join came went) frame is (inl gone) =
    elim (in_cases came (filter (is_joined came) is.kept) frame (in_same went (came ++ filter (is_joined came) is.kept)
    frame is.joined gone)) [
      | inl came_ ↦ inr came_
      | inr joined ↦
          inl (in_same is.kept old frame (none_missing is.kept is.missing old is.parted is.counted) (filter_in (is_joined came)
          is.kept frame joined))
    ]
move_from old new (Join came went) frame is (inr waits) =
    inl (in_same is.kept old frame (none_missing is.kept is.missing old is.parted is.counted)
    (filter_in (λ f. not (is_joined came f)) is.kept frame (in_same new (filter (λ f. not (is_joined came f)) is.kept)
    frame is.others waits)))
move_from old new (Take went) frame is (inl gone) = inl (in_same went old frame is.0 gone)
move_from old new (Take went) frame is (inr waits) = absurd (in_same new [] frame is.1 waits)

moves_from : (moves : List Move) (old new : List Frame) (frame : Frame) → AreMoves old moves new → In frame (all_gone moves) →
    In frame old ⊎ In frame (all_came moves)
moves_from [] old new frame are gone = absurd gone
moves_from (move ∷ moves) old new frame are gone = elim (in_cases (gone_in move) (all_gone moves) frame gone) [
  | inl first ↦ elim (move_from old are.0 move frame are.1 (inl first)) [
    | inl waited ↦ inl waited
    | inr came ↦ inr (in_left (came_in move) (all_came moves) frame came)
  ]
  | inr rest ↦ elim (moves_from moves are.0 new frame are.2 rest) [
    | inl waits ↦ elim (move_from old are.0 move frame are.1 (inr waits)) [
      | inl waited ↦ inl waited
      | inr came ↦ inr (in_left (came_in move) (all_came moves) frame came)
    ]
    | inr later ↦ inr (in_right (came_in move) (all_came moves) frame later)
  ]
]

-- how many frames pass a test
count : (Frame → Bool) → List Frame → ℕ
count test frames = count_by test frames

count-append : (test : Frame → Bool) (frames more : List Frame) → count test (frames ++ more) ≡ count test frames + count test more
unfolding count
count-append test frames more = sum_by-append (λ f. cond (test f) 1 0) frames more

count-cons : (test : Frame → Bool) (frame : Frame) (frames : List Frame) →
    count test (frame ∷ frames) ≡ count test (frame ∷ []) + count test frames
count-cons test frame frames = count-append test (frame ∷ []) frames

count_both : (test split : Frame → Bool) (frames : List Frame) →
    count test (filter split frames) + count test (filter (λ f. not (split f)) frames) ≡ count test frames
unfolding count
count_both test split frames = sum_by-filter_both split (λ f. not (split f)) (λ _. refl) (λ f. cond (test f) 1 0) frames

none_counted : (test : Frame → Bool) → count test [] ≡ 0
unfolding count
none_counted test = refl

one_counted : (test : Frame → Bool) (old new : List Frame) (frame : Frame) → Waits old frame new →
    count test new ≤ count test old + count test (frame ∷ [])
one_counted test old new frame (inl place) =
    let before = place.before in
    let after = place.after in
    omega (
      arith,
      ap (count test) place.was,
      ap (count test) place.is,
      count-append test before (place.covered ∷ after),
      count-append test before (frame ∷ after),
      count-cons test place.covered after,
      count-cons test frame after,
    )
one_counted test old new frame (inr last) = omega (arith, ap (count test) last.is, count-append test old (frame ∷ []))

all_counted : (test : Frame → Bool) (frames old new : List Frame) → AllWait old frames new →
    count test new ≤ count test old + count test frames
all_counted test [] old new all = omega (arith, ap (count test) all)
all_counted test (frame ∷ frames) old new all =
    omega (
      arith,
      one_counted test old all.0 frame all.1,
      all_counted test frames all.0 new all.2,
      count-cons test frame frames,
    )

move_counted : (test : Frame → Bool) (old new : List Frame) (move : Move) → IsMove old move new →
    count test (gone_in move) + count test new ≤ count test old + count test (came_in move)
move_counted test old new (Hold came went) is =
    omega (
      arith,
      ap (count test) is.others,
      all_counted test (filter is_stable is.kept) old new is.stables,
      count_both test is_stable is.kept,
      ap (count test) (none_missing is.kept is.missing came is.parted is.counted),
    )
move_counted test old new (Join came went) is =
    omega (
      arith,
      ap (count test) is.joined,
      count-append test came (filter (is_joined came) is.kept),
      ap (count test) is.others,
      count_both test (is_joined came) is.kept,
      ap (count test) (none_missing is.kept is.missing old is.parted is.counted),
    )
move_counted test old new (Take went) is = omega (arith, ap (count test) is.0, ap (count test) is.1, none_counted test)

moves_counted : (test : Frame → Bool) (moves : List Move) (old new : List Frame) → AreMoves old moves new →
    count test (all_gone moves) + count test new ≤ count test old + count test (all_came moves)
moves_counted test [] old new are = omega (arith, ap (count test) are, none_counted test)
moves_counted test (move ∷ moves) old new are =
    omega (
      arith,
      move_counted test old are.0 move are.1,
      moves_counted test moves are.0 new are.2,
      count-append test (gone_in move) (all_gone moves),
      count-append test (came_in move) (all_came moves),
    )

pub nothing_is_made_up : NothingIsMadeUp
unfolding count
nothing_is_made_up moves waiting are = (
  λ frame gone. elim (moves_from moves [] waiting frame are (contained (all_gone moves) frame gone)) [
    | inl waited ↦ absurd waited
    | inr came ↦ contains (all_came moves) frame came
  ],
  λ test. omega (arith, moves_counted test moves [] waiting are, none_counted test),
)
