-- How far a part is, one line further.
use Rattle.std.proofs.Common.{◌≡◌, ◌+◌, ◌<◌, ◌≤◌, ℕ, Bool, true, false, cond, not, ◌&&◌, ◌||◌, ltb, leb, List, [], ◌∷◌, ◌++◌}
use Rattle.std.proofs.Common.{refl, sym, ap, ◌∙◌, arith, min, ⊎_elim}
use Rattle.std.specs.List.{list_any, count_by}
use Rattle.std.proofs.lemmas.List.Folds.{list_any-append}
use Rattle.std.proofs.lemmas.List.Sums.{sum_by-append}
use Rattle.std.proofs.lemmas.Bool.{lt-ltb, le-ltb, le-leb, lt-leb, cases_lt, ltb-true, ltb-false, or_parts, or_right}
use Rattle.cast_record.specs.declared.joined.Part.{Part}
use Rattle.cast_record.specs.declared.joined.Progress.{Progress}
use Rattle.cast_record.specs.Lines.{is_gap, is_event}
use Rattle.cast_record.specs.Parts.{Line, has_gap, events_in, before_gap, is_over, progress_of, behind}

or_false : (b : Bool) → (b || false) ≡ b
or_false true = refl
or_false false = refl

pub any_push : {X : Type 0} (p : X → Bool) (xs : List X) (x : X) → list_any p (xs ++ x ∷ []) ≡ (list_any p xs || p x)
any_push p xs x = list_any-append p xs (x ∷ []) ∙ ap (λ b. list_any p xs || b) (or_false (p x))

pub count_push : {X : Type 0} (p : X → Bool) (xs : List X) (x : X) → count_by p (xs ++ x ∷ []) ≡ count_by p xs + cond (p x) 1 0
count_push p xs x =
    let whole : count_by p (xs ++ x ∷ []) ≡ count_by p xs + (0 + cond (p x) 1 0) = sum_by-append (λ y. cond (p y) 1 0) xs (x ∷ []) in
    omega arith

gap_at : (b g : Bool) (l : Line) (rest lines : List Line) → (g ≡ false → rest ≡ lines) → (b || g) ≡ false → cond b [] (l ∷ rest) ≡ l ∷ lines
gap_at true g l rest lines same e = absurd (cc)
gap_at false g l rest lines same e = ap (λ ls. l ∷ ls) (same e)

gap_before : (lines : List Line) → has_gap lines ≡ false → before_gap lines ≡ lines
gap_before [] e = refl
gap_before (l ∷ lines) e = gap_at (is_gap l.text) (has_gap lines) l (before_gap lines) lines (gap_before lines) e

before_at : (b g h : Bool) (k : Line) (before rest lines more : List Line) → rest ≡ cond g before (cond h lines more)
    → cond b [] (k ∷ rest) ≡ cond (b || g) (cond b [] (k ∷ before)) (cond h (k ∷ lines) (k ∷ more))
before_at true g h k before rest lines more e = refl
before_at false true h k before rest lines more e = ap (λ ls. k ∷ ls) e
before_at false false true k before rest lines more e = ap (λ ls. k ∷ ls) e
before_at false false false k before rest lines more e = ap (λ ls. k ∷ ls) e

before_push : (lines : List Line) (l : Line) →
    before_gap (lines ++ l ∷ []) ≡ cond (has_gap lines) (before_gap lines) (cond (is_gap l.text) lines (lines ++ l ∷ []))
before_push [] l = refl
before_push (k ∷ lines) l =
    before_at (is_gap k.text) (has_gap lines) (is_gap l.text) k (before_gap lines) (before_gap (lines ++ l ∷ [])) lines (lines ++ l ∷ [])
    (before_push lines l)

events_of_cond : (g h : Bool) (xs ys zs : List Line) →
    events_in (cond g xs (cond h ys zs)) ≡ cond g (events_in xs) (cond h (events_in ys) (events_in zs))
events_of_cond true h xs ys zs = refl
events_of_cond false true xs ys zs = refl
events_of_cond false false xs ys zs = refl

same_progress : (p q : Progress) → p.events ≡ q.events → p.is_over ≡ q.is_over → p.has_gap ≡ q.has_gap → p ≡ q
same_progress p q e o g = λ i. record { events = e i; is_over = o i; has_gap = g i }

-- how far a part of so many events is, by how many events stand in all lines and before the first gap
abbrev progress : ℕ → ℕ → ℕ → Bool → Progress
progress u E B G = record { events = min u B; is_over = G || ltb u E; has_gap = G && leb B u }

-- one line further
abbrev next : ℕ → Bool → Bool → Progress → Progress
next u g v p =
    cond p.is_over p
    (cond g (record { events = p.events; is_over = true; has_gap = true })
    (cond (not v) p
    (cond (ltb p.events u) (record { events = p.events + 1; is_over = p.is_over; has_gap = p.has_gap })
    (record { events = p.events; is_over = true; has_gap = p.has_gap }))))

past_at : (b : Bool) (u m : ℕ) (g v : Bool) → b ≡ true →
    next u g v (record { events = m; is_over = b; has_gap = false }) ≡ record { events = m; is_over = true; has_gap = false }
past_at true u m g v e = refl
past_at false u m g v e = absurd (cc)

at_least : (u E X : ℕ) → u < E → E ≤ X → min u E ≡ min u X
at_least u E X far more = omega arith

no_less : (g v : Bool) (E : ℕ) → E ≤ cond g E (E + cond v 1 0)
no_less true v E = omega arith
no_less false v E = omega arith

not_reached : (g : Bool) (u E X : ℕ) → u < E → false ≡ (g && leb (cond g E X) u)
not_reached true u E X far = sym (lt-leb E u far)
not_reached false u E X far = refl

past : (u E : ℕ) (g v : Bool) → u < E
    → next u g v (progress u E E false) ≡ progress u (E + cond v 1 0) (cond g E (E + cond v 1 0)) g
past u E g v far =
    past_at (ltb u E) u (min u E) g v (lt-ltb u E far)
    ∙ same_progress (record { events = min u E; is_over = true; has_gap = false })
    (progress u (E + cond v 1 0) (cond g E (E + cond v 1 0)) g)
    (at_least u E (cond g E (E + cond v 1 0)) far (no_less g v E))
    (sym (or_right g (ltb u (E + cond v 1 0)) (lt-ltb u (E + cond v 1 0) (omega arith))))
    (not_reached g u E (E + cond v 1 0) far)

within_at : (b : Bool) (u m : ℕ) (g v : Bool) → b ≡ false →
    next u g v (record { events = m; is_over = b; has_gap = false })
    ≡ next u g v (record { events = m; is_over = false; has_gap = false })
within_at b u m g v e = ap (λ o. next u g v (record { events = m; is_over = o; has_gap = false })) e

pick : (b : Bool) (x y z : Progress) → (b ≡ true → x ≡ z) → (b ≡ false → y ≡ z) → cond b x y ≡ z
pick true x y z yes' no' = yes' refl
pick false x y z yes' no' = no' refl

counts : (u E : ℕ) → E ≤ u → ltb (min u E) u ≡ true →
    let after : Progress = progress u (E + 1) (E + 1) false in
    let counted : Progress = record { events = min u E + 1; is_over = false; has_gap = false } in counted ≡ after
counts u E near below =
    let less : min u E < u = ltb-true _ _ below in
    same_progress (record { events = min u E + 1; is_over = false; has_gap = false }) (progress u (E + 1) (E + 1) false)
    (omega arith) (sym (le-ltb u (E + 1) (omega arith))) refl

ends : (u E : ℕ) → E ≤ u → ltb (min u E) u ≡ false →
    let after : Progress = progress u (E + 1) (E + 1) false in
    let ended : Progress = record { events = min u E; is_over = true; has_gap = false } in ended ≡ after
ends u E near full =
    let least : u ≤ min u E = ltb-false _ _ full in
    same_progress (record { events = min u E; is_over = true; has_gap = false }) (progress u (E + 1) (E + 1) false)
    (omega arith) (sym (lt-ltb u (E + 1) (omega arith))) refl

within_by : (u E : ℕ) (g v : Bool) → E ≤ u →
    next u g v (record { events = min u E; is_over = false; has_gap = false })
    ≡ progress u (E + cond v 1 0) (cond g E (E + cond v 1 0)) g
within_by u E true v near =
    same_progress (record { events = min u E; is_over = true; has_gap = true }) (progress u (E + cond v 1 0) E true) refl refl
    (sym (le-leb E u near))
within_by u E false false near =
    same_progress (record { events = min u E; is_over = false; has_gap = false }) (progress u (E + 0) (E + 0) false)
    (omega arith) (sym (le-ltb u (E + 0) (omega arith))) refl
within_by u E false true near = pick (ltb (min u E) u) _ _ _ (counts u E near) (ends u E near)

within : (u E : ℕ) (g v : Bool) → E ≤ u
    → next u g v (progress u E E false) ≡ progress u (E + cond v 1 0) (cond g E (E + cond v 1 0)) g
within u E g v near = within_at (ltb u E) u (min u E) g v (le-ltb u E near) ∙ within_by u E g v near

further : (u E B : ℕ) (G g v : Bool) → (G ≡ false → B ≡ E)
    → next u g v (progress u E B G) ≡ progress u (E + cond v 1 0) (cond G B (cond g E (E + cond v 1 0))) (G || g)
further u E B true g v same = refl
further u E B false g v same =
    ap (λ n. next u g v (progress u E n false)) (same refl)
    ∙ ⊎_elim (λ far. past u E g v far) (λ near. within u E g v near) (cases_lt u E)

pub progress_push : (part : Part) (lines : List Line) (l : Line) →
    behind part.until l.text (progress_of part lines) ≡ progress_of part (lines ++ l ∷ [])
progress_push part lines l =
    let more : events_in (lines ++ l ∷ []) ≡ events_in lines + cond (is_event l.text) 1 0 = count_push (λ k. is_event k.text) lines l in
    let gap : has_gap (lines ++ l ∷ []) ≡ (has_gap lines || is_gap l.text) = any_push (λ k. is_gap k.text) lines l in
    let before : events_in (before_gap (lines ++ l ∷ []))
    ≡ cond (has_gap lines) (events_in (before_gap lines))
    (cond (is_gap l.text) (events_in lines) (events_in lines + cond (is_event l.text) 1 0)) =
    ap events_in (before_push lines l)
    ∙ events_of_cond (has_gap lines) (is_gap l.text) (before_gap lines) lines (lines ++ l ∷ [])
    ∙ ap (λ n. cond (has_gap lines) (events_in (before_gap lines)) (cond (is_gap l.text) (events_in lines) n)) more in
    further part.until (events_in lines) (events_in (before_gap lines)) (has_gap lines) (is_gap l.text) (is_event l.text)
    (λ none. ap events_in (gap_before lines none))
    ∙ sym
    (λ i. progress part.until (more i) (before i) (gap i))

-- a part that is not over has as many events before the next line as all lines have
pub events_so_far : (part : Part) (lines : List Line) → is_over part lines ≡ false → (progress_of part lines).events ≡ events_in lines
events_so_far part lines on =
    let parts = or_parts (has_gap lines) (ltb part.until (events_in lines)) on in
    let near : events_in lines ≤ part.until = ltb-false _ _ parts.1 in
    ap (λ n. min part.until n) (ap events_in (gap_before lines parts.0)) ∙ (omega arith)
