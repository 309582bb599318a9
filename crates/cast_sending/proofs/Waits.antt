-- Lists that are parted, and Stables that wait.
use Rattle.std.proofs.Common.{◌≡◌, ℕ, ◌<◌, ◌≤◌, ◌+◌, suc, zero, Bool, true, false, List, [], ◌∷◌, ◌++◌, Some, cond, None, arith}
use Rattle.std.proofs.Common.{refl, sym, ap, subst, ◌∙◌, inl, inr, get_or, length, take, drop, append_assoc}
use Rattle.std.proofs.Math.ListN.{set}
use Rattle.std.specs.Prelude.{filter, not, slice_get}
use Rattle.std.specs.Bool.{OnTrue}
use Rattle.std.proofs.lemmas.Bool.{cases_Bool, cases_lt, and_parts, and_from, not_from_true, not_from_false}
use Rattle.std.proofs.lemmas.List.{set-get_or, set_split, append-nil, length-append, length_push, take_at, get_or_default}
use Rattle.std.proofs.lemmas.List.Elements.{filter-append}
use Rattle.std.proofs.lemmas.Option.{slice_get_within, get_or_from_slice_get}
use Rattle.cast_sending.specs.Frames.{Frame, Covers, is_stable, is_other}
use Rattle.cast_sending.specs.Stables.{are_stables, is_joined, AreParted, IsPlaceOfCovered, TakesPlace, Waits, AllWait, Holds, Joins}

pub parted_own : (own others all : List Frame) (frame : Frame) → AreParted own others all →
    AreParted (own ++ frame ∷ []) others (all ++ frame ∷ [])
parted_own own others [] frame parted =
    inl ([], ap (λ (l : List Frame). l ++ frame ∷ []) parted.0, (refl, parted.1))
parted_own own others (first ∷ all) frame (inl here) =
    inl (here.0 ++ frame ∷ [], ap (λ (l : List Frame). l ++ frame ∷ []) here.1, parted_own here.0 others all frame here.2)
parted_own own others (first ∷ all) frame (inr there) =
    inr (there.0, there.1, parted_own own there.0 all frame there.2)

pub parted_other : (own others all : List Frame) (frame : Frame) → AreParted own others all →
    AreParted own (others ++ frame ∷ []) (all ++ frame ∷ [])
parted_other own others [] frame parted =
    inr ([], ap (λ (l : List Frame). l ++ frame ∷ []) parted.1, (parted.0, refl))
parted_other own others (first ∷ all) frame (inl here) =
    inl (here.0, here.1, parted_other here.0 others all frame here.2)
parted_other own others (first ∷ all) frame (inr there) =
    inr (there.0 ++ frame ∷ [], ap (λ (l : List Frame). l ++ frame ∷ []) there.1, parted_other own there.0 all frame there.2)

pub one_more_waits : (frames old between new : List Frame) (frame : Frame) → AllWait old frames between → Waits between frame new →
    AllWait old (frames ++ frame ∷ []) new
one_more_waits [] old between new frame all waits = (new, subst (λ (l : List Frame). Waits l frame new) all waits, refl)
one_more_waits (first ∷ frames) old between new frame all waits =
    (all.0, all.1, one_more_waits frames all.0 between new frame all.2 waits)

pub none_upto : (waiting : List Frame) (place : ℕ) (frame old : Frame) → ((k : ℕ) (d : Frame) → k < place →
    Covers frame (get_or waiting k d) → ⊥) →
    place < length waiting → old ≡ get_or waiting place old → (Covers frame old → ⊥) →
    (k : ℕ) (d : Frame) → k < place + 1 → Covers frame (get_or waiting k d) → ⊥
none_upto waiting place frame old before within is not_ k d upto covers = elim (cases_lt k place) [
  | inl less ↦ before k d less covers
  | inr here ↦
      let same : k ≡ place = omega (arith, here, upto) in
      let read : get_or waiting k d ≡ old =
      ap (λ (n : ℕ). get_or waiting n d) same ∙ (get_or_default waiting place d old within ∙ sym is) in
      not_ (subst (λ (f : Frame). Covers frame f) read covers)
]

split_at : (frames : List Frame) (place : ℕ) (d : Frame) → place < length frames →
    frames ≡ take place frames ++ get_or frames place d ∷ drop (suc place) frames
split_at frames place d within = sym (set-get_or frames place d) ∙ set_split frames place (get_or frames place d) within

pub takes_place : (waiting : List Frame) (place : ℕ) (frame covered : Frame) → slice_get waiting place ≡ Some covered →
    Covers frame covered →
    TakesPlace waiting frame (set waiting place frame)
takes_place waiting place frame covered read covers =
    let within : place < length waiting = slice_get_within waiting place covered read in
    record {
      before = take place waiting;
      covered = covered;
      after = drop (suc place) waiting;
      covers = covers;
      was = subst (λ (f : Frame). waiting ≡ take place waiting ++ f ∷ drop (suc place) waiting)
          (get_or_from_slice_get waiting place covered covered read) (split_at waiting place covered within);
      is = set_split waiting place frame within;
    }

pub stables_set : (frames : List Frame) (place : ℕ) (frame : Frame) → are_stables frames ≡ true → is_stable frame ≡ true →
    are_stables (set frames place frame) ≡ true
stables_set [] place frame all one = refl
stables_set (x ∷ xs) zero frame all one = and_from (is_stable frame) (are_stables xs) one (and_parts (is_stable x) (are_stables xs) all).1
stables_set (x ∷ xs) (suc place) frame all one =
    let parts = and_parts (is_stable x) (are_stables xs) all in
    and_from (is_stable x) (are_stables (set xs place frame)) parts.0 (stables_set xs place frame parts.1 one)

-- one that covers none comes behind the others, if there is memory for it
pub waits_last : (old new : List Frame) (frame : Frame) (is_pushed : Bool) → IsPlaceOfCovered old frame None →
    new ≡ cond is_pushed (old ++ frame ∷ []) old → OnTrue is_pushed (Waits old frame new)
waits_last old new frame true none is = inr (record { covers_none = none; is = is })
waits_last old new frame false none is = tt

stables_push : (frames : List Frame) (frame : Frame) → are_stables frames ≡ true → is_stable frame ≡ true →
    are_stables (frames ++ frame ∷ []) ≡ true
stables_push [] frame all one = and_from (is_stable frame) true one refl
stables_push (x ∷ xs) frame all one =
    let parts = and_parts (is_stable x) (are_stables xs) all in
    and_from (is_stable x) (are_stables (xs ++ frame ∷ [])) parts.0 (stables_push xs frame parts.1 one)

pub stables_last : (old new : List Frame) (frame : Frame) (is_pushed : Bool) → are_stables old ≡ true → is_stable frame ≡ true →
    new ≡ cond is_pushed (old ++ frame ∷ []) old → are_stables new ≡ true
stables_last old new frame true all one is = ap are_stables is ∙ stables_push old frame all one
stables_last old new frame false all one is = ap are_stables is ∙ all

stables_filter : (test : Frame → Bool) (frames : List Frame) → are_stables frames ≡ true → are_stables (filter test frames) ≡ true
stables_filter test [] all = refl
stables_filter test (x ∷ xs) all =
    let parts = and_parts (is_stable x) (are_stables xs) all in
    elim (cases_Bool (test x)) [
      | inl passes ↦ rw passes (and_from (is_stable x) (are_stables (filter test xs)) parts.0 (stables_filter test xs parts.1))
      | inr fails ↦ rw fails (stables_filter test xs parts.1)
    ]

stables_parted : (own others all : List Frame) → AreParted own others all → are_stables all ≡ true → are_stables own ≡ true
stables_parted own others [] parted stables = ap are_stables parted.0
stables_parted own others (x ∷ xs) (inl here) stables =
    let parts = and_parts (is_stable x) (are_stables xs) stables in
    ap are_stables here.1 ∙ and_from (is_stable x) (are_stables here.0) parts.0 (stables_parted here.0 others xs here.2 parts.1)
stables_parted own others (x ∷ xs) (inr there) stables =
    stables_parted own there.0 xs there.2 (and_parts (is_stable x) (are_stables xs) stables).1

pub joined_stables : {old going went new : List Frame} {lost : ℕ} → Joins old going went new lost → are_stables old ≡ true →
    are_stables new ≡ true
joined_stables {old} {going} {went} {new} {lost} joins stables =
    ap are_stables joins.others
    ∙ stables_filter (λ f. not (is_joined going f)) joins.kept (stables_parted joins.kept joins.missing old joins.parted stables)

-- ---- how far the frames are served

pub record HeldSoFar (old came rest others waiting : List Frame) (lost : ℕ) : Type 0 where
  pub served : List Frame
  pub kept : List Frame
  pub missing : List Frame
  pub all : served ++ rest ≡ came
  pub parted : AreParted kept missing served
  pub counted : length missing ≡ lost
  pub goes : others ≡ filter is_other kept
  pub waits : AllWait old (filter is_stable kept) waiting
  pub stables : are_stables waiting ≡ true

parted_length : (own others all : List Frame) → AreParted own others all → length own + length others ≡ length all
parted_length own others [] parted = omega (arith, ap length parted.0, ap length parted.1)
parted_length own others (first ∷ all) (inl here) = omega (arith, ap length here.1, parted_length here.0 others all here.2)
parted_length own others (first ∷ all) (inr there) = omega (arith, ap length there.1, parted_length own there.0 all there.2)

pub few_lost : {old came rest others waiting : List Frame} {lost : ℕ} → HeldSoFar old came rest others waiting lost →
    lost + length rest ≤ length came
few_lost {old} {came} {rest} {others} {waiting} {lost} held =
    omega (
      arith,
      parted_length held.kept held.missing held.served held.parted,
      held.counted,
      length-append held.served rest,
      ap length held.all,
    )

next_served : (served rest came : List Frame) (frame : Frame) → served ++ frame ∷ rest ≡ came → (served ++ frame ∷ []) ++ rest ≡ came
next_served served rest came frame all = append_assoc served (frame ∷ []) rest ∙ all

pub none_held : (old came rest others : List Frame) → rest ≡ came → others ≡ [] → are_stables old ≡ true →
    HeldSoFar old came rest others old 0
none_held old came rest others all none stables = record {
  served = [];
  kept = [];
  missing = [];
  all = all;
  parted = (refl, refl);
  counted = refl;
  goes = none;
  waits = refl;
  stables = stables;
}

pub all_held : {old came others waiting : List Frame} {lost : ℕ} (rest : List Frame) → length rest ≡ 0 →
    HeldSoFar old came rest others waiting lost →
    Holds old came others waiting lost
all_held {old} {came} {others} {waiting} {lost} [] none held = record {
  kept = held.kept;
  missing = held.missing;
  parted = subst (λ (l : List Frame). AreParted held.kept held.missing l) (sym (append-nil held.served) ∙ held.all) held.parted;
  counted = held.counted;
  others = held.goes;
  stables = held.waits;
}
all_held {old} {came} {others} {waiting} {lost} (frame ∷ rest) none held = absurd (omega (arith, none))

pub one_lost : {old came rest others waiting : List Frame} {lost : ℕ} {frame : Frame} →
    HeldSoFar old came (frame ∷ rest) others waiting lost →
    HeldSoFar old came rest others waiting (lost + 1)
one_lost {old} {came} {rest} {others} {waiting} {lost} {frame} held = record {
  served = held.served ++ frame ∷ [];
  kept = held.kept;
  missing = held.missing ++ frame ∷ [];
  all = next_served held.served rest came frame held.all;
  parted = parted_other held.kept held.missing held.served frame held.parted;
  counted = length_push held.missing frame ∙ ap (λ (n : ℕ). n + 1) held.counted;
  goes = held.goes;
  waits = held.waits;
  stables = held.stables;
}

filter_push : (test : Frame → Bool) (frames : List Frame) (frame : Frame) → test frame ≡ true →
    filter test (frames ++ frame ∷ []) ≡ filter test frames ++ frame ∷ []
filter_push test frames frame passes =
    filter-append test frames (frame ∷ []) ∙ ap (λ (l : List Frame). filter test frames ++ l) (ap (λ (b : Bool). cond b (frame ∷ []) [])
    passes)

filter_skip : (test : Frame → Bool) (frames : List Frame) (frame : Frame) → test frame ≡ false →
    filter test (frames ++ frame ∷ []) ≡ filter test frames
filter_skip test frames frame fails =
    filter-append test frames (frame ∷ [])
    ∙ (ap (λ (l : List Frame). filter test frames ++ l) (ap (λ (b : Bool). cond b (frame ∷ []) []) fails)
    ∙ append-nil (filter test frames))

pub one_waits : {old came rest others waiting new : List Frame} {lost : ℕ} {frame : Frame} →
    HeldSoFar old came (frame ∷ rest) others waiting lost →
    is_stable frame ≡ true → Waits waiting frame new → are_stables new ≡ true → HeldSoFar old came rest others new lost
one_waits {old} {came} {rest} {others} {waiting} {new} {lost} {frame} held stable waits stables = record {
  served = held.served ++ frame ∷ [];
  kept = held.kept ++ frame ∷ [];
  missing = held.missing;
  all = next_served held.served rest came frame held.all;
  parted = parted_own held.kept held.missing held.served frame held.parted;
  counted = held.counted;
  goes = held.goes ∙ sym (filter_skip is_other held.kept frame (not_from_true (is_stable frame) stable));
  waits = subst (λ (l : List Frame). AllWait old l new) (sym (filter_push is_stable held.kept frame stable))
      (one_more_waits (filter is_stable held.kept) old waiting new frame held.waits waits);
  stables = stables;
}

pub one_goes : {old came rest others waiting : List Frame} {lost : ℕ} {frame : Frame} →
    HeldSoFar old came (frame ∷ rest) others waiting lost →
    is_stable frame ≡ false → HeldSoFar old came rest (others ++ frame ∷ []) waiting lost
one_goes {old} {came} {rest} {others} {waiting} {lost} {frame} held other = record {
  served = held.served ++ frame ∷ [];
  kept = held.kept ++ frame ∷ [];
  missing = held.missing;
  all = next_served held.served rest came frame held.all;
  parted = parted_own held.kept held.missing held.served frame held.parted;
  counted = held.counted;
  goes = ap (λ (l : List Frame). l ++ frame ∷ []) held.goes ∙ sym (filter_push is_other held.kept frame (not_from_false (is_stable frame)
      other));
  waits = subst (λ (l : List Frame). AllWait old l waiting) (sym (filter_skip is_stable held.kept frame other)) held.waits;
  stables = held.stables;
}

-- ---- how far those that wait are joined

pub record JoinedSoFar (old going rest went others : List Frame) (lost : ℕ) : Type 0 where
  pub served : List Frame
  pub kept : List Frame
  pub missing : List Frame
  pub all : served ++ rest ≡ old
  pub parted : AreParted kept missing served
  pub counted : length missing ≡ lost
  pub joined : went ≡ going ++ filter (is_joined going) kept
  pub waits : others ≡ filter (λ frame. not (is_joined going frame)) kept

pub few_left_out : {old going rest went others : List Frame} {lost : ℕ} → JoinedSoFar old going rest went others lost →
    lost + length rest ≤ length old
few_left_out {old} {going} {rest} {went} {others} {lost} held =
    omega (
      arith,
      parted_length held.kept held.missing held.served held.parted,
      held.counted,
      length-append held.served rest,
      ap length held.all,
    )

pub going_first : {old going rest went others : List Frame} {lost : ℕ} → JoinedSoFar old going rest went others lost →
    take (length going) went ≡ going
going_first {old} {going} {rest} {went} {others} {lost} held =
    ap (take (length going)) held.joined ∙ take_at going (filter (is_joined going) held.kept) (length going) refl

pub none_joined : (old going rest others : List Frame) → rest ≡ old → others ≡ [] → JoinedSoFar old going rest going others 0
none_joined old going rest others all none = record {
  served = [];
  kept = [];
  missing = [];
  all = all;
  parted = (refl, refl);
  counted = refl;
  joined = sym (append-nil going);
  waits = none;
}

pub all_joined : {old going went others : List Frame} {lost : ℕ} (rest : List Frame) → length rest ≡ 0 →
    JoinedSoFar old going rest went others lost →
    Joins old going went others lost
all_joined {old} {going} {went} {others} {lost} [] none held = record {
  kept = held.kept;
  missing = held.missing;
  parted = subst (λ (l : List Frame). AreParted held.kept held.missing l) (sym (append-nil held.served) ∙ held.all) held.parted;
  counted = held.counted;
  joined = held.joined;
  others = held.waits;
}
all_joined {old} {going} {went} {others} {lost} (frame ∷ rest) none held = absurd (omega (arith, none))

pub one_left_out : {old going rest went others : List Frame} {lost : ℕ} {frame : Frame} →
    JoinedSoFar old going (frame ∷ rest) went others lost →
    JoinedSoFar old going rest went others (lost + 1)
one_left_out {old} {going} {rest} {went} {others} {lost} {frame} held = record {
  served = held.served ++ frame ∷ [];
  kept = held.kept;
  missing = held.missing ++ frame ∷ [];
  all = next_served held.served rest old frame held.all;
  parted = parted_other held.kept held.missing held.served frame held.parted;
  counted = length_push held.missing frame ∙ ap (λ (n : ℕ). n + 1) held.counted;
  joined = held.joined;
  waits = held.waits;
}

pub one_joins : {old going rest went others : List Frame} {lost : ℕ} {frame : Frame} →
    JoinedSoFar old going (frame ∷ rest) went others lost →
    is_joined going frame ≡ true → JoinedSoFar old going rest (went ++ frame ∷ []) others lost
one_joins {old} {going} {rest} {went} {others} {lost} {frame} held joins = record {
  served = held.served ++ frame ∷ [];
  kept = held.kept ++ frame ∷ [];
  missing = held.missing;
  all = next_served held.served rest old frame held.all;
  parted = parted_own held.kept held.missing held.served frame held.parted;
  counted = held.counted;
  joined = ap (λ (l : List Frame). l ++ frame ∷ []) held.joined
      ∙ (append_assoc going (filter (is_joined going) held.kept) (frame ∷ [])
      ∙ ap (λ (l : List Frame). going ++ l) (sym (filter_push (is_joined going) held.kept frame joins)));
  waits = held.waits ∙ sym (filter_skip (λ f. not (is_joined going f)) held.kept frame (not_from_true (is_joined going frame) joins));
}

pub one_stays : {old going rest went others : List Frame} {lost : ℕ} {frame : Frame} →
    JoinedSoFar old going (frame ∷ rest) went others lost →
    is_joined going frame ≡ false → JoinedSoFar old going rest went (others ++ frame ∷ []) lost
one_stays {old} {going} {rest} {went} {others} {lost} {frame} held stays = record {
  served = held.served ++ frame ∷ [];
  kept = held.kept ++ frame ∷ [];
  missing = held.missing;
  all = next_served held.served rest old frame held.all;
  parted = parted_own held.kept held.missing held.served frame held.parted;
  counted = held.counted;
  joined = held.joined ∙ ap (λ (l : List Frame). going ++ l) (sym (filter_skip (is_joined going) held.kept frame stays));
  waits = ap (λ (l : List Frame). l ++ frame ∷ []) held.waits
      ∙ sym (filter_push (λ f. not (is_joined going f)) held.kept frame (not_from_false (is_joined going frame) stays));
}
