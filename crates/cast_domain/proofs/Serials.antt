-- What is seen of the sessions by serial, and what a change of their statuses is to that.
use Rattle.std.proofs.Common.{◌≡◌, ℕ, ◌+◌, ◌<◌, Bool, true, false, cond, not, List, []}
use Rattle.std.proofs.Common.{◌∷◌, ◌++◌, map, filter, Some, refl, ap, subst, ◌∙◌, arith}
use Rattle.std.specs.Prelude.{◌&&◌, ◌==◌, nat_le, if◌then◌else◌}
use Rattle.std.specs.List.{find}
use Rattle.std.specs.Map.{lookup}
use Rattle.std.specs.Map.Calls.{RetainsPairs}
use Rattle.std.specs.Option.{option_map_or}
use Rattle.std.proofs.lemmas.Bool.{and_parts, and_from, ne_eqb, leb-true, le-leb}
use Rattle.indexmap.specs.IndexMap.{insert_entry}
use Rattle.cast_types.proofs.Rising.{all_kept}
use Rattle.cast_stable.proofs.Runs.{eqb_sym}
use Rattle.cast_events.specs.declared.session.Status.{Status}
use Rattle.cast_events.specs.declared.session.Status.TheVariants.{Open, Closed, Gone}
use Rattle.cast_domain.specs.GivenSessions.{SessionRecord, are_given, closed_if, record_of, status_in}
use Rattle.cast_domain.specs.PartCalls.{with_status}

-- how a session stands is what is found at its serial
pub status_found : (k : ℕ) (es : List (ℕ × Status))
    → status_in (map record_of es) k ≡ option_map_or (λ (s : Status). s) (lookup (λ j. k == j) es) Gone
status_found k [] = refl
status_found k (e ∷ es) =
    ap (λ b. option_map_or (λ (x : SessionRecord). x.status)
    (cond b (Some (record_of e)) (find (λ (x : SessionRecord). x.serial == k) (map record_of es))) Gone) (eqb_sym e.0 k)
    ∙ by (k == e.0) (status_found k es)
  where
    by : (b : Bool) → status_in (map record_of es) k ≡ option_map_or (λ (s : Status). s) (lookup (λ j. k == j) es) Gone → option_map_or
        (λ (x : SessionRecord). x.status) (cond b (Some (record_of e)) (find (λ (x : SessionRecord). x.serial == k) (map record_of es)))
        Gone ≡ option_map_or (λ (s : Status). s) (cond b (Some e.1) (lookup (λ j. k == j) es)) Gone
    by true rest = refl
    by false rest = rest

-- One is opened

pub last_given : (k : ℕ) (used : ℕ) (es : List (ℕ × Status)) → used < k → are_given used es ≡ true
    → insert_entry (λ i j. i == j) es k Open ≡ es ++ (k, Open) ∷ []
last_given k used [] past given = refl
last_given k used (e ∷ es) past given =
    let parts = and_parts (nat_le e.0 used) (are_given used es) given in
    ap (λ b. if b then (e.0, Open) ∷ es else e ∷ insert_entry (λ i j. i == j) es k Open)
    (ne_eqb k e.0 (λ same. omega (arith, past, same, leb-true e.0 used parts.0)))
    ∙ ap (λ xs. e ∷ xs) (last_given k used es past parts.1)

pub given_more : (used : ℕ) (es : List (ℕ × Status)) → are_given used es ≡ true → are_given (used + 1) (es ++ (used + 1, Open) ∷ []) ≡ true
given_more used [] given = and_from (nat_le (used + 1) (used + 1)) true (le-leb (used + 1) (used + 1) (omega arith)) refl
given_more used (e ∷ es) given =
    let parts = and_parts (nat_le e.0 used) (are_given used es) given in
    and_from (nat_le e.0 (used + 1)) (are_given (used + 1) (es ++ (used + 1, Open) ∷ []))
    (le-leb e.0 (used + 1) (omega (arith, leb-true e.0 used parts.0))) (given_more used es parts.1)

pub seen_more : (k : ℕ) (es : List (ℕ × Status))
    → map record_of (es ++ (k, Open) ∷ []) ≡ map record_of es ++ record { serial = k; status = Open } ∷ []
seen_more k [] = refl
seen_more k (e ∷ es) = ap (λ xs. record_of e ∷ xs) (seen_more k es)

-- One is closed

pub closed_each : {F : Type 0} (T : F → ℕ → Status → Bool → Status → F → Type 0) (k : ℕ) (f : F)
    → ((j : ℕ) (v : Status) (b : Bool) (w : Status) (g : F) → T f j v b w g → (b ≡ true) × (w ≡ closed_if k (j, v)) × (g ≡ f))
    → (es kept : List (ℕ × Status)) → RetainsPairs T f es kept → kept ≡ map (λ e. (e.0, closed_if k e)) es
closed_each T k f says [] kept h = h
closed_each T k f says (e ∷ es) kept h =
    let s = says e.0 e.1 h.0 h.1 h.2 h.4 in
    let rest = closed_each T k f says es h.3 (subst (λ g. RetainsPairs T g es h.3) s.2 h.5) in
    h.6 ∙ (λ j. cond (s.0 j) ((e.0, s.1 j) ∷ rest j) (rest j))

pub seen_closed : (k : ℕ) (es : List (ℕ × Status))
    → map record_of (map (λ e. (e.0, closed_if k e)) es) ≡ map (with_status k Closed) (map record_of es)
seen_closed k [] = refl
seen_closed k (e ∷ es) = λ i. by (e.0 == k) i ∷ seen_closed k es i
  where
    by : (b : Bool) → record_of (e.0, (if b then Closed else e.1)) ≡ (if b then record (record_of e) { status = Closed } else record_of e)
    by true = refl
    by false = refl

pub given_closed : (used k : ℕ) (es : List (ℕ × Status)) → are_given used (map (λ e. (e.0, closed_if k e)) es) ≡ are_given used es
given_closed used k [] = refl
given_closed used k (e ∷ es) = ap (λ b. nat_le e.0 used && b) (given_closed used k es)

-- One is gone

pub seen_without : (k : ℕ) (es : List (ℕ × Status))
    → map record_of (filter (λ e. not (e.0 == k)) es) ≡ filter (λ x. not (x.serial == k)) (map record_of es)
seen_without k [] = refl
seen_without k (e ∷ es) = by (not (e.0 == k)) (seen_without k es)
  where
    left : List (ℕ × Status)
    left = filter (λ x. not (x.0 == k)) es

    seen : List SessionRecord
    seen = filter (λ (x : SessionRecord). not (x.serial == k)) (map record_of es)

    by : (b : Bool) → map record_of left ≡ seen → map record_of (cond b (e ∷ left) left) ≡ cond b (record_of e ∷ seen) seen
    by true rest = ap (λ xs. record_of e ∷ xs) rest
    by false rest = rest

pub given_without : (used k : ℕ) (es : List (ℕ × Status)) → are_given used es ≡ true
    → are_given used (filter (λ e. not (e.0 == k)) es) ≡ true
given_without used k es given = all_kept (λ e. nat_le e.0 used) (λ e. not (e.0 == k)) es given
