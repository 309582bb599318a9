-- The turns of all domains, one after another.
use Rattle.std.proofs.Common.{◌≡◌, ℕ, suc, ◌+◌, ◌<◌, ◌≤◌, Bool, true, false, cond, List, [], ◌∷◌, ◌++◌, length, take, drop, get_or}
use Rattle.std.proofs.Common.{Option, Some, None, Result, Ok, Err, slice_set, refl, sym, ap, subst, ◌∙◌, inl, inr, append_assoc, arith}
use Rattle.std.specs.List.{list_any, list_all}
use Rattle.std.specs.Prelude.{nat_le}
use Rattle.std.proofs.lemmas.Bool.{cases_Bool, and_parts, and_from, or_left, or_right, le-leb, leb-true, leb-false, eq-eqb}
use Rattle.std.proofs.lemmas.List.{append-nil, take_more, take_more_set, drop-set-lt, drop_more, take_all, length-append, drop-drop}
use Rattle.std.proofs.lemmas.List.Folds.{list_any-append}
use Rattle.std.proofs.Math.Seq.{take-append_seam}
use Rattle.cast_types.specs.declared.names.DomainNo.{DomainNo}
use Rattle.cast_types.specs.declared.refusal.Refusal.TheVariants as refusal
use Rattle.cast_domain.specs.declared.domain.Domain.{Domain}
use Rattle.cast_events.specs.declared.event.Event.{Event}
use Rattle.cast_events.specs.declared.event.Taken.{Taken}
use Rattle.cast_events.specs.declared.event.Taken.TheVariants.{Nothing, Refused}
use Rattle.cast_domain.specs.Records.{number_of, is_halted}
use Rattle.cast_events.specs.declared.log.Fault.{Fault}
use Rattle.cast_events.specs.declared.log.Fault.TheVariants.{NoMemory, Halted, NoDomain}
use Rattle.cast_table.specs.Tables.{AreTurns, IsTurn, Lent, answer_in_turn, halted_by, halted_in_turn, lower, IsLeast, IsLeastOf, domain_eq}

-- One turn more

turns_length : (event : Event) (olds news : List Domain) (first last : Lent) → AreTurns event olds news first last →
    length olds ≡ length news
turns_length event [] [] first last turns = refl
turns_length event [] (n ∷ news) first last turns = absurd turns
turns_length event (o ∷ olds) [] first last turns = absurd turns
turns_length event (o ∷ olds) (n ∷ news) first last turns = ap suc (turns_length event olds news turns.0 last turns.2)

turns_push : (event : Event) (olds news : List Domain) (old new : Domain) (first last next : Lent) → AreTurns event olds news first last →
    IsTurn (answer_in_turn old new) event old new last next → AreTurns event (olds ++ old ∷ []) (news ++ new ∷ []) first next
turns_push event [] [] old new first last next turns turn =
    (next, subst (λ (l : Lent). IsTurn (answer_in_turn old new) event old new l next) turns turn, refl)
turns_push event [] (n ∷ news) old new first last next turns turn = absurd turns
turns_push event (o ∷ olds) [] old new first last next turns turn = absurd turns
turns_push event (o ∷ olds) (n ∷ news) old new first last next turns turn =
    (turns.0, turns.1, turns_push event olds news old new turns.0 last next turns.2 turn)

stopped_push : (olds news : List Domain) (old new : Domain) → length olds ≡ length news →
    halted_in_turn (olds ++ old ∷ []) (news ++ new ∷ []) ≡ halted_in_turn olds news ++ halted_by (answer_in_turn old new)
stopped_push [] [] old new long = append-nil (halted_by (answer_in_turn old new))
stopped_push [] (n ∷ news) old new long = absurd (omega arith)
stopped_push (o ∷ olds) [] old new long = absurd (omega arith)
stopped_push (o ∷ olds) (n ∷ news) old new long =
    ap (λ more. halted_by (answer_in_turn o n) ++ more) (stopped_push olds news old new (omega arith))
    ∙ sym (append_assoc (halted_by (answer_in_turn o n)) (halted_in_turn olds news) (halted_by (answer_in_turn old new)))

one_at_most : (b : Result Taken Fault) → length (halted_by b) ≤ 1
one_at_most (Ok t) = omega arith
one_at_most (Err NoMemory) = omega arith
one_at_most (Err (Halted d)) = omega arith
one_at_most (Err NoDomain) = omega arith

-- no domain is halted that stays as it is

nothing_stops : (halted : Bool) (d : DomainNo) →
    halted_by (cond halted (Ok (Refused refusal.Halted)) (cond halted (Err (Halted d)) (Ok Nothing))) ≡ []
nothing_stops true d = refl
nothing_stops false d = refl

pub none_stopped : (domains : List Domain) → halted_in_turn domains domains ≡ []
none_stopped [] = refl
none_stopped (d ∷ domains) =
    ap (λ front. front ++ halted_in_turn domains domains) (nothing_stops (is_halted d) (number_of d)) ∙ none_stopped domains

-- the first domains have taken their turns, and the others are as they were
pub record Turned (event : Event) (olds : List Domain) (news : List Domain) (i : ℕ) (first : Lent) (last : Lent) : Type 0 where
  pub turns : AreTurns event (take i olds) (take i news) first last
  pub rest : drop i news ≡ drop i olds
  pub noted : last.outs.halted ≡ first.outs.halted ++ halted_in_turn (take i olds) (take i news)
  pub few : length (halted_in_turn (take i olds) (take i news)) ≤ i

pub turned_none : (event : Event) (domains : List Domain) (first : Lent) → Turned event domains domains 0 first first
turned_none event domains first =
    record { turns = refl; rest = refl; noted = sym (append-nil first.outs.halted); few = omega arith }

module _ (event : Event) (olds news : List Domain) (i : ℕ) (first last : Lent) (below : i < length news) (long : length news ≡ length olds)
    (turned : Turned event olds news i first last) where
  -- a domain whose turn is to come is as it was
  waits : (d : Domain) → get_or news i d ≡ get_or olds i d
  waits d =
      let within : i < length olds = omega (arith, long, below) in
      ap (λ xs. get_or xs 0 d) (sym (drop_more news i d below) ∙ turned.rest ∙ drop_more olds i d within)

  pub turned_more : (old new : Domain) (b : Result Taken Fault) (next : Lent) → old ≡ get_or news i old → b ≡ answer_in_turn old new →
      IsTurn b event old new last next → next.outs.halted ≡ last.outs.halted ++ halted_by b →
      Turned event olds (slice_set news i new) (i + 1) first next
  turned_more old new b next read is turn noted =
      let within : i < length olds = omega (arith, long, below) in
      let before : take (i + 1) olds ≡ take i olds ++ old ∷ [] =
      take_more olds i old within ∙ ap (λ d. take i olds ++ d ∷ []) (sym (read ∙ waits old)) in
      let after : take (i + 1) (slice_set news i new) ≡ take i news ++ new ∷ [] = take_more_set news i new below in
      let same : length (take i olds) ≡ length (take i news) = turns_length event (take i olds) (take i news) first last turned.turns in
      let more : halted_in_turn (take (i + 1) olds) (take (i + 1) (slice_set news i new))
      ≡ halted_in_turn (take i olds) (take i news) ++ halted_by b =
      (λ j. halted_in_turn (before j) (after j))
      ∙ stopped_push (take i olds) (take i news) old new same
      ∙ ap (λ a. halted_in_turn (take i olds) (take i news) ++ halted_by a) (sym is) in
      record {
        turns =
            subst (λ xs. AreTurns event xs (take (i + 1) (slice_set news i new)) first next) (sym before)
            (subst (λ xs. AreTurns event (take i olds ++ old ∷ []) xs first next) (sym after)
            (turns_push event (take i olds) (take i news) old new first last next turned.turns
            (subst (λ a. IsTurn a event old new last next) is turn)));
        rest =
            drop-set-lt (i + 1) news i new (omega arith)
            ∙ sym (drop-drop 1 i news)
            ∙ ap (drop 1) turned.rest
            ∙ drop-drop 1 i olds;
        noted =
            noted
            ∙ ap (λ front. front ++ halted_by b) turned.noted
            ∙ append_assoc first.outs.halted (halted_in_turn (take i olds) (take i news)) (halted_by b)
            ∙ ap (λ all. first.outs.halted ++ all) (sym more);
        few =
            let sizes = ap length more ∙ length-append (halted_in_turn (take i olds) (take i news)) (halted_by b) in
            let one = one_at_most b in
            let so_far = turned.few in
            omega (arith, sizes, one, so_far);
      }

-- what a loop leaves in the place of a vector's items
pub written : {X : Type 0} (xs ys : List X) (n : ℕ) → length xs ≡ length ys → n ≡ length ys → take n (xs ++ drop (length xs) ys) ≡ xs
written xs ys n long all =
    ap (λ k. take k (xs ++ drop (length xs) ys)) (all ∙ sym long) ∙ take-append_seam xs (drop (length xs) ys)

pub turned_all : (event : Event) (olds news : List Domain) (i : ℕ) (first last : Lent) → length news ≡ length olds → length news ≤ i →
    Turned event olds news i first last →
    AreTurns event olds news first last × (last.outs.halted ≡ first.outs.halted ++ halted_in_turn olds news)
turned_all event olds news i first last long above turned =
    let before : take i olds ≡ olds = take_all i olds (omega (arith, long, above)) in
    let after : take i news ≡ news = take_all i news above in (
      subst (λ xs. AreTurns event xs news first last) before (subst (λ xs. AreTurns event (take i olds) xs first last) after turned.turns),
      turned.noted ∙ (λ j. first.outs.halted ++ halted_in_turn (before j) (after j)),
    )

-- The least of the numbers so far

lower_all : (d e : DomainNo) (numbers : List DomainNo) → d.0 ≤ e.0 → list_all (λ n. nat_le e.0 n.0) numbers ≡ true →
    list_all (λ n. nat_le d.0 n.0) numbers ≡ true
lower_all d e [] below all = refl
lower_all d e (n ∷ numbers) below all =
    let parts = and_parts (nat_le e.0 n.0) (list_all (λ n. nat_le e.0 n.0) numbers) all in
    and_from (nat_le d.0 n.0) (list_all (λ n. nat_le d.0 n.0) numbers)
    (le-leb d.0 n.0 (omega (arith, below, leb-true e.0 n.0 parts.0)))
    (lower_all d e numbers below parts.1)

all_push : (d n : DomainNo) (numbers : List DomainNo) → d.0 ≤ n.0 → list_all (λ e. nat_le d.0 e.0) numbers ≡ true →
    list_all (λ e. nat_le d.0 e.0) (numbers ++ n ∷ []) ≡ true
all_push d n [] below all = and_from (nat_le d.0 n.0) true (le-leb d.0 n.0 below) refl
all_push d n (m ∷ numbers) below all =
    let parts = and_parts (nat_le d.0 m.0) (list_all (λ e. nat_le d.0 e.0) numbers) all in
    and_from (nat_le d.0 m.0) (list_all (λ e. nat_le d.0 e.0) (numbers ++ n ∷ [])) parts.0 (all_push d n numbers below parts.1)

last_among : (n : DomainNo) (numbers : List DomainNo) → list_any (domain_eq n) (numbers ++ n ∷ []) ≡ true
last_among n numbers =
    list_any-append (domain_eq n) numbers (n ∷ [])
    ∙ or_right (list_any (domain_eq n) numbers) (list_any (domain_eq n) (n ∷ [])) (or_left (domain_eq n n) false (eq-eqb n.0 n.0 refl))

pub least_more : (o : Option DomainNo) (n : DomainNo) (numbers : List DomainNo) → IsLeastOf o numbers →
    IsLeast (lower o n) (numbers ++ n ∷ [])
least_more None n numbers least =
    subst (λ xs. IsLeast n (xs ++ n ∷ [])) (sym least) (record { among = last_among n []; lowest = all_push n n [] (omega arith) refl })
least_more (Some d) n numbers least =
    elim (cases_Bool (nat_le d.0 n.0)) [
      | inl below ↦
          subst (λ e. IsLeast e (numbers ++ n ∷ [])) (sym (ap (λ b. cond b d n) below))
          (record {
            among = list_any-append (domain_eq d) numbers (n ∷ [])
                ∙ or_left (list_any (domain_eq d) numbers) (list_any (domain_eq d) (n ∷ [])) least.among;
            lowest = all_push d n numbers (leb-true d.0 n.0 below) least.lowest;
          })
      | inr above ↦
          let lt = leb-false d.0 n.0 above in
          let under : n.0 ≤ d.0 = omega (arith, lt) in
          subst (λ e. IsLeast e (numbers ++ n ∷ [])) (sym (ap (λ b. cond b d n) above))
          (record { among = last_among n numbers; lowest = all_push n n numbers (omega arith) (lower_all n d numbers under least.lowest) })
    ]
