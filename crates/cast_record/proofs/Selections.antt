-- Parts of records in other words.
use Rattle.std.proofs.Common.{◌≡◌, ◌+◌, ◌<◌, ◌≤◌, ℕ, Bool, true, false, cond, not, ◌&&◌, ◌||◌, ltb, List, [], ◌∷◌, ◌++◌, map}
use Rattle.std.proofs.Common.{refl, sym, ap, ◌∙◌, arith, inl, inr, Some, None}
use Rattle.std.specs.List.{AllZip}
use Rattle.std.proofs.lemmas.List.Sums.{sum_by-append}
use Rattle.std.proofs.lemmas.Bool.{lt-ltb, le-ltb, ltb-true, or_from, or_parts}
use Rattle.cast_record.specs.declared.joined.Part.{Part}
use Rattle.cast_record.specs.Lines.{is_comment, is_event, is_for, is_gap, is_head}
use Rattle.cast_record.specs.Parts.{Line, events_in, has_gap, has_place, is_over, is_taken, is_for_part, shown, shown_behind}
use Rattle.cast_record.specs.Laws.{EachLineIsShown, FilesDoNotMatter, IsShown, MoreTakesAll, NothingBehindTheEnd}
use Rattle.cast_record.specs.Laws.{OneOfAll, SaysTheSame, WholeIsAll, is_replayed}
use Rattle.cast_record.proofs.Progresses.{any_push, count_push}

-- Each line

shown_one : (b : Bool) (l : Line) → IsShown (cond b l.text []) l
shown_one true l = inl refl
shown_one false l = inr refl

shown_each : (part : Part) (before lines : List Line) → AllZip IsShown (shown_behind part before lines) lines
shown_each part before [] = tt
shown_each part before (l ∷ lines) = (shown_one (is_taken part before l) l, shown_each part (before ++ l ∷ []) lines)

pub each_line_is_shown : EachLineIsShown
each_line_is_shown part lines = shown_each part [] lines

-- The whole

taken_one : (over comment head first room : Bool) → over ≡ false → ((not comment && not head) ≡ true → room ≡ true)
    → (not over && (not comment && (cond head first room && true))) ≡ (not comment && (not head || first))
taken_one true comment head first room e h = absurd (cc)
taken_one false true head first room e h = refl
taken_one false false true true room e h = refl
taken_one false false true false room e h = refl
taken_one false false false first true e h = refl
taken_one false false false first false e h = absurd (let no' : false ≡ true = h refl in cc)

room_for : (v : Bool) (before rest until : ℕ) → before + (cond v 1 0 + rest) ≤ until → v ≡ true → ltb before until ≡ true
room_for true before rest until fits is = lt-ltb before until (omega arith)
room_for false before rest until fits is = absurd (cc)

whole_behind : (until : ℕ) (before lines : List Line) → has_gap before ≡ false → has_gap lines ≡ false
    → events_in before + events_in lines ≤ until
    → shown_behind (record { until = until; domain = None }) before lines ≡ map (λ l. cond (is_replayed l) l.text []) lines
whole_behind until before [] none gaps fits = refl
whole_behind until before (l ∷ lines) none gaps fits =
    let apart = or_parts (is_gap l.text) (has_gap lines) gaps in
    let over : is_over (record { until = until; domain = None }) before ≡ false =
    or_from (has_gap before) (ltb until (events_in before)) none (le-ltb until (events_in before) (omega arith)) in
    let split : events_in (l ∷ lines) ≡ (0 + cond (is_event l.text) 1 0) + events_in lines =
    sum_by-append (λ k. cond (is_event k.text) 1 0) (l ∷ []) lines in
    let room : events_in before + (cond (is_event l.text) 1 0 + events_in lines) ≤ until = omega arith in
    let taken : is_taken (record { until = until; domain = None }) before l ≡ is_replayed l =
    taken_one (is_over (record { until = until; domain = None }) before) (is_comment l.text) (is_head l.text) l.is_first
    (ltb (events_in before) until) over
    (room_for (is_event l.text) (events_in before) (events_in lines) until room) in
    let counted : events_in (before ++ l ∷ []) ≡ events_in before + cond (is_event l.text) 1 0 =
    count_push (λ k. is_event k.text) before l in
    let rest =
    whole_behind until (before ++ l ∷ []) lines
    (any_push (λ k. is_gap k.text) before l ∙ or_from (has_gap before) (is_gap l.text) none apart.0)
    apart.1
    (omega arith) in
    ap (λ b. cond b l.text [] ∷ shown_behind (record { until = until; domain = None }) (before ++ l ∷ []) lines) taken
    ∙ ap (λ ts. cond (is_replayed l) l.text [] ∷ ts) rest

pub whole_is_all : WholeIsAll
whole_is_all until lines gaps fits = whole_behind until [] lines refl gaps (omega arith)

-- More events

grows : (gap past past' says head first room room' wanted : Bool) → (past' ≡ true → past ≡ true) → (room ≡ true → room' ≡ true)
    → (not (gap || past) && (says && (cond head first room && wanted))) ≡ true
    → (not (gap || past') && (says && (cond head first room' && wanted))) ≡ true
grows true past past' says head first room room' wanted p r e = absurd (cc)
grows false true past' says head first room room' wanted p r e = absurd (cc)
grows false false true says head first room room' wanted p r e = absurd (let no' : false ≡ true = p refl in cc)
grows false false false false head first room room' wanted p r e = absurd (cc)
grows false false false true true first room room' wanted p r e = e
grows false false false true false first false room' wanted p r e = absurd (cc)
grows false false false true false first true true wanted p r e = e
grows false false false true false first true false wanted p r e = absurd (let no' : false ≡ true = r refl in cc)

pub more_takes_all : MoreTakesAll
more_takes_all few more domain before l fits e =
    let n = events_in before in
    grows (has_gap before) (ltb few n) (ltb more n) (not (is_comment l.text)) (is_head l.text) l.is_first (ltb n few) (ltb n more)
    (is_for_part (record { until = few; domain = domain }) l.text)
    (λ past. let above : more < n = ltb-true _ _ past in lt-ltb few n (omega arith))
    (λ room. let below : n < few = ltb-true _ _ room in lt-ltb n more (omega arith))
    e

ended : (over rest : Bool) → over ≡ true → (not over && rest) ≡ false
ended true rest e = refl
ended false rest e = absurd (cc)

pub nothing_behind_the_end : NothingBehindTheEnd
nothing_behind_the_end part before l e = ended (is_over part before) _ e

-- Domains

regroup : (a b c d : Bool) → (a && (b && (c && d))) ≡ ((a && (b && (c && true))) && d)
regroup true true true d = refl
regroup true true false d = refl
regroup true false c d = refl
regroup false b c d = refl

pub one_of_all : OneOfAll
one_of_all until d before l =
    regroup (not (is_over (record { until = until; domain = Some d }) before)) (not (is_comment l.text))
    (has_place (record { until = until; domain = Some d }) (events_in before) l)
    (is_for d l.text)

-- Files

place_same : (head f g room : Bool) → (head ≡ true → f ≡ g) → cond head f room ≡ cond head g room
place_same true f g room e = e refl
place_same false f g room e = refl

-- a line of a text is taken, by whether a gap and how many events stand before it
abbrev takes : Part → Bool → ℕ → Bool → List ℕ → Bool
takes part gap events first text =
    not (gap || ltb part.until events)
    && (not (is_comment text) && (cond (is_head text) first (ltb events part.until) && is_for_part part text))

shown_alike : (part : Part) (before other : List Line) (k l : Line) → has_gap before ≡ has_gap other → events_in before ≡ events_in other
    → SaysTheSame k l → shown part before k ≡ shown part other l
shown_alike part before other k l gap events same =
    ap (λ p. cond (not (is_over part before) && (not (is_comment k.text) && (p && is_for_part part k.text))) k.text [])
    (place_same (is_head k.text) k.is_first l.is_first (ltb (events_in before) part.until) same.1)
    ∙ (λ i. cond (takes part (gap i) (events i) l.is_first (same.0 i)) (same.0 i) [])

files_behind : (part : Part) (before other lines others : List Line) → has_gap before ≡ has_gap other
    → events_in before ≡ events_in other → AllZip SaysTheSame lines others
    → shown_behind part before lines ≡ shown_behind part other others
files_behind part before other [] [] gap events same = refl
files_behind part before other [] (l ∷ others) gap events same = absurd same
files_behind part before other (k ∷ lines) [] gap events same = absurd same
files_behind part before other (k ∷ lines) (l ∷ others) gap events same =
    let rest =
    files_behind part (before ++ k ∷ []) (other ++ l ∷ []) lines others
    (any_push (λ m. is_gap m.text) before k
    ∙ (λ i. gap i || is_gap (same.0.0 i))
    ∙ sym (any_push (λ m. is_gap m.text) other l))
    (count_push (λ m. is_event m.text) before k
    ∙ (λ i. events i + cond (is_event (same.0.0 i)) 1 0)
    ∙ sym (count_push (λ m. is_event m.text) other l))
    same.1 in
    ap (λ t. t ∷ shown_behind part (before ++ k ∷ []) lines) (shown_alike part before other k l gap events same.0)
    ∙ ap (λ ts. shown part other l ∷ ts) rest

pub files_do_not_matter : FilesDoNotMatter
files_do_not_matter part lines others same = files_behind part [] [] lines others refl refl same
