-- What one event does to all domains of a table.
use Rattle.std.proofs.Common.{◌≡◌, ℕ, zero, suc, Bool, true, false, cond, List, [], ◌∷◌, map, Option, Some, None, Result, Ok, Err}
use Rattle.std.proofs.Common.{slice_set, refl, sym, ap, subst, ◌∙◌, inl, inr}
use Rattle.std.specs.Prelude.{slice_get}
use Rattle.std.specs.List.{AllByRecursion, AllZip, find}
use Rattle.std.specs.Option.{option_map_or}
use Rattle.std.proofs.lemmas.Bool.{false≢true}
use Rattle.cast_types.specs.declared.names.DomainNo.{DomainNo}
use Rattle.cast_events.specs.Events.{domain_of}
use Rattle.cast_events.specs.declared.event.Event.{Event}
use Rattle.cast_events.specs.declared.event.Taken.{Taken}
use Rattle.cast_events.specs.declared.log.Fault.{Fault}
use Rattle.cast_events.specs.declared.log.Fault.TheVariants.{NoMemory, Halted, NoDomain}
use Rattle.cast_domain.specs.declared.domain.Domain.{Domain}
use Rattle.cast_domain.specs.declared.shared.Shared.{Shared}
use Rattle.cast_domain.specs.Fits.{Represents}
use Rattle.cast_domain.specs.Records.{is_halted, number_of}
use Rattle.cast_domain.specs.Shared.{part_of}
use Rattle.cast_table.specs.Owns.{is_own}
use Rattle.cast_table.specs.Tables.{AreTurns, IsApplied, IsAppliedAt, IsAppliedTo, IsTicked, Lent, answer_in_turn, domain_eq}
use Rattle.cast_table.specs.Tables.{place_named}
use Rattle.cast_table.proofs.Parts.{domain_flipped, domain_itself}
use Rattle.cast_table.proofs.Places.{named_there, none_some, same_some}
use Rattle.cast_sites.proofs.Turns.{Keeps, Moves, Stands, keeps_both, keeps_same, moved_number, moves_within}
use Rattle.cast_sites.proofs.Turns.{turn_keeps, turn_moves}

-- Numbers

abbrev pub numbers_in : List Domain → List DomainNo
numbers_in ds = map number_of ds

-- a number is none of these
abbrev pub IsNone : DomainNo → List DomainNo → Type 0
IsNone d numbers = AllByRecursion (λ m. domain_eq m d ≡ false) numbers

-- no two of these are the same
abbrev pub AreApart : List DomainNo → Type 0
AreApart [] = Unit {0}
AreApart (d ∷ numbers) = IsNone d numbers × AreApart numbers

none_at : (d : DomainNo) (ds : List Domain) (k : ℕ) (x : Domain) → IsNone d (numbers_in ds) → slice_get ds k ≡ Some x →
    domain_eq (number_of x) d ≡ false
none_at d [] k x none stands = absurd (none_some x stands)
none_at d (y ∷ ds) zero x none stands =
    ap (λ (z : Domain). domain_eq (number_of z) d) (sym (same_some y x stands)) ∙ none.0
none_at d (y ∷ ds) (suc k) x none stands = none_at d ds k x none.1 stands

stands_there : (shared : Shared) (ds : List Domain) (k : ℕ) (x : Domain) → AllByRecursion (Stands shared) ds → slice_get ds k ≡ Some x →
    Stands shared x
stands_there shared [] k x all stands = absurd (none_some x stands)
stands_there shared (y ∷ ds) zero x all stands = subst (Stands shared) (same_some y x stands) all.0
stands_there shared (y ∷ ds) (suc k) x all stands = stands_there shared ds k x all.1 stands

-- where the parts of domains stay, they go on standing for what they stood for
stands_on : (d : DomainNo) (before after : Lent) (ds : List Domain) → IsNone d (numbers_in ds) →
    ((q : DomainNo) → domain_eq d q ≡ false → Keeps q before after) → AllByRecursion (Stands before.shared) ds →
    AllByRecursion (Stands after.shared) ds
stands_on d before after [] none keeps all = tt
stands_on d before after (x ∷ ds) none keeps all = (
  λ ran.
      let here = all.0 ran in
      let kept = keeps (number_of x) (domain_flipped (number_of x) d none.0) in
      (here.0, subst (λ p. Represents x p here.0) (sym kept.part) here.1),
  stands_on d before after ds none.1 keeps all.1,
)

-- A tick

module _ (e : Event) where
  -- all other numbers keep what they have
  turns_keep : (r : DomainNo) (olds news : List Domain) (first last : Lent) → IsNone r (numbers_in olds) → AreApart (numbers_in olds) →
      AllByRecursion (Stands first.shared) olds → AreTurns e olds news first last → Keeps r first last
  turns_keep r [] [] first last none apart all turns = keeps_same r first last turns
  turns_keep r [] (n ∷ news) first last none apart all turns = absurd turns
  turns_keep r (o ∷ olds) [] first last none apart all turns = absurd turns
  turns_keep r (o ∷ olds) (n ∷ news) first last none apart all turns =
      let between : Lent = turns.0 in
      let keeps : (q : DomainNo) → domain_eq (number_of o) q ≡ false → Keeps q first between =
      λ q other. turn_keeps e o n first between (answer_in_turn o n) q all.0 other turns.1 in
      keeps_both r first between last (keeps r none.0)
      (turns_keep r olds news between last none.1 apart.1 (stands_on (number_of o) first between olds apart.0 keeps all.1) turns.2)

  -- what was kept before is kept on
  kept_on : (d : DomainNo) (start before after : Lent) (numbers : List DomainNo) → IsNone d numbers →
      ((q : DomainNo) → domain_eq d q ≡ false → Keeps q before after) → AllByRecursion (λ q. Keeps q start before) numbers →
      AllByRecursion (λ q. Keeps q start after) numbers
  kept_on d start before after [] none keeps all = tt
  kept_on d start before after (q ∷ numbers) none keeps all =
      (keeps_both q start before after all.0 (keeps q (domain_flipped q d none.0)), kept_on d start before after numbers none.1 keeps all.1)

  turns_move : (own : (q : DomainNo) → is_own q e ≡ true) (start : Lent) (olds news : List Domain) (first last : Lent) →
      AreApart (numbers_in olds) → AllByRecursion (Stands first.shared) olds →
      AllByRecursion (λ q. Keeps q start first) (numbers_in olds) → AreTurns e olds news first last →
      AllZip (Moves e start last) olds news
  turns_move own start [] [] first last apart all kept turns = tt
  turns_move own start [] (n ∷ news) first last apart all kept turns = absurd turns
  turns_move own start (o ∷ olds) [] first last apart all kept turns = absurd turns
  turns_move own start (o ∷ olds) (n ∷ news) first last apart all kept turns =
      let between : Lent = turns.0 in
      let keeps : (q : DomainNo) → domain_eq (number_of o) q ≡ false → Keeps q first between =
      λ q other. turn_keeps e o n first between (answer_in_turn o n) q all.0 other turns.1 in
      let rest = stands_on (number_of o) first between olds apart.0 keeps all.1 in (
        moves_within e o n first between start last kept.0
            (turn_moves e o n first between (answer_in_turn o n) (own (number_of o)) turns.1)
            (turns_keep (number_of o) olds news between last apart.0 apart.1 rest turns.2),
        turns_move own start olds news between last apart.1 rest
            (kept_on (number_of o) start first between (numbers_in olds) apart.0 keeps kept.1) turns.2,
      )

-- An event that names a domain

all_stay : (e : Event) (before after : Lent) (ds : List Domain) →
    AllByRecursion (λ q. Keeps q before after) (numbers_in ds) → AllZip (Moves e before after) ds ds
all_stay e before after [] keeps = tt
all_stay e before after (x ∷ ds) keeps = (inl (record { same = refl; keeps = keeps.0 }), all_stay e before after ds keeps.1)

all_keep : (before after : Lent) (numbers : List DomainNo) → ((q : DomainNo) → Keeps q before after) →
    AllByRecursion (λ q. Keeps q before after) numbers
all_keep before after [] keeps = tt
all_keep before after (q ∷ numbers) keeps = (keeps q, all_keep before after numbers keeps)

others_keep : (d : DomainNo) (before after : Lent) (numbers : List DomainNo) → IsNone d numbers →
    ((q : DomainNo) → domain_eq d q ≡ false → Keeps q before after) → AllByRecursion (λ q. Keeps q before after) numbers
others_keep d before after [] none keeps = tt
others_keep d before after (q ∷ numbers) none keeps =
    (keeps q (domain_flipped q d none.0), others_keep d before after numbers none.1 keeps)

module _ (e : Event) (old new : Domain) (before after : Lent) (moves : Moves e before after old new)
    (keeps : (q : DomainNo) → domain_eq (number_of old) q ≡ false → Keeps q before after) where
  place_moves : (ds : List Domain) (k : ℕ) → AreApart (numbers_in ds) → slice_get ds k ≡ Some old →
      AllZip (Moves e before after) ds (slice_set ds k new)
  place_moves [] k apart stands = absurd (none_some old stands)
  place_moves (x ∷ ds) zero apart stands =
      let same : x ≡ old = same_some x old stands in
      let none : IsNone (number_of old) (numbers_in ds) = subst (λ y. IsNone (number_of y) (numbers_in ds)) same apart.0 in (
        subst (λ y. Moves e before after y new) (sym same) moves,
        all_stay e before after ds (others_keep (number_of old) before after (numbers_in ds) none keeps),
      )
  place_moves (x ∷ ds) (suc k) apart stands = (
    inl (record { same = refl; keeps = keeps (number_of x) (none_at (number_of x) ds k old apart.0 stands) }),
    place_moves ds k apart.1 stands,
  )

-- Any event

-- each domain stays, makes a step of its own or is halted, and a number that none of them has keeps nothing new
pub record AllMove (e : Event) (olds : List Domain) (news : List Domain) (before : Lent) (after : Lent) : Type 0 where
  pub moves : AllZip (Moves e before after) olds news
  pub others : (q : DomainNo) → IsNone q (numbers_in olds) → Keeps q before after

module _ (e : Event) (olds news : List Domain) (before after : Lent) (apart : AreApart (numbers_in olds))
    (all : AllByRecursion (Stands before.shared) olds) where
  unchanged : news ≡ olds → after ≡ before → AllMove e olds news before after
  unchanged same lent =
      let keeps : (q : DomainNo) → Keeps q before after = λ q. keeps_same q before after lent in
      record {
        moves = subst (λ ds. AllZip (Moves e before after) olds ds) (sym same)
            (all_stay e before after olds (all_keep before after (numbers_in olds) keeps));
        others = λ q none. keeps q;
      }

  by_turns : domain_of e ≡ None → AreTurns e olds news before after → AllMove e olds news before after
  by_turns tick turns =
      let own : (q : DomainNo) → is_own q e ≡ true = λ q. ap (λ o. option_map_or (λ m. domain_eq m q) o true) tick in
      record {
        moves =
            turns_move e own before olds news before after apart all
            (all_keep before before (numbers_in olds) (λ q. keeps_same q before before refl)) turns;
        others = λ q none. turns_keep e q olds news before after none apart all turns;
      }

  by_tick : (a : Result Taken Fault) → domain_of e ≡ None → IsTicked a e olds news before after → AllMove e olds news before after
  by_tick (Ok t) tick ticked = by_turns tick ticked.2
  by_tick (Err NoMemory) tick ticked = unchanged ticked.0 ticked.1
  by_tick (Err (Halted d)) tick ticked = by_turns tick ticked.1
  by_tick (Err NoDomain) tick ticked = absurd ticked

  by_name : (a : Result Taken Fault) (n : DomainNo) (place : Option ℕ) → place ≡ place_named n olds → domain_of e ≡ Some n →
      IsAppliedAt place a e olds news before after → AllMove e olds news before after
  by_name a n None found named applied = unchanged applied.1 applied.2
  by_name a n (Some k) found named applied =
      let old : Domain = applied.domain in
      let number : number_of old ≡ n = named_there n olds k old found applied.stands in
      let own : is_own (number_of old) e ≡ true =
      ap (λ o. option_map_or (λ m. domain_eq m (number_of old)) o true) named
      ∙ ap (domain_eq n) number
      ∙ domain_itself n in
      let here = stands_there before.shared olds k old all applied.stands in
      let keeps : (q : DomainNo) → domain_eq (number_of old) q ≡ false → Keeps q before after =
      λ q other. turn_keeps e old applied.next before after a q here other applied.turn in
      record {
        moves =
            subst (λ ds. AllZip (Moves e before after) olds ds) (sym applied.others)
            (place_moves e old applied.next before after (turn_moves e old applied.next before after a own applied.turn) keeps
            olds k apart applied.stands);
        others = λ q none. keeps q (none_at q olds k old none applied.stands);
      }

  by_event : (a : Result Taken Fault) (named : Option DomainNo) → domain_of e ≡ named → IsAppliedTo named a e olds news before after →
      AllMove e olds news before after
  by_event a None is applied = by_tick a is applied
  by_event a (Some n) is applied = by_name a n (place_named n olds) refl is applied

  pub applied_moves : (a : Result Taken Fault) → IsApplied a e olds news before after → AllMove e olds news before after
  applied_moves a applied = by_event a (domain_of e) refl applied

-- What stands in the table after it

module _ (e : Event) (before after : Lent) where
  stands_after : (old new : Domain) → Moves e before after old new → Stands before.shared old → Stands after.shared new
  stands_after old new (inl stays) stands = λ ran.
      let here = stands (subst (λ (x : Domain). is_halted x ≡ false) stays.same ran) in (
        here.0,
        subst (λ (x : Domain). Represents x (part_of (number_of x) after.shared) here.0) (sym stays.same)
            (subst (λ p. Represents old p here.0) (sym stays.keeps.part) here.1),
      )
  stands_after old new (inr (inl stops)) stands = λ ran. absurd (false≢true (sym ran ∙ stops.stops))
  stands_after old new (inr (inr goes)) stands = λ ran.
      let here = stands goes.ran in
      let step = goes.leads here.0 here.1 in
      (step.end, subst (λ (q : DomainNo). Represents new (part_of q after.shared) step.end) (sym goes.number) step.means)

  pub all_stand : (olds news : List Domain) → AllZip (Moves e before after) olds news → AllByRecursion (Stands before.shared) olds →
      AllByRecursion (Stands after.shared) news
  all_stand [] [] moves all = tt
  all_stand [] (n ∷ news) moves all = absurd moves
  all_stand (o ∷ olds) [] moves all = absurd moves
  all_stand (o ∷ olds) (n ∷ news) moves all = (stands_after o n moves.0 all.0, all_stand olds news moves.1 all.1)

  -- both tables have none of a number, or the one has moved to the other
  abbrev pub Alike : Option Domain → Option Domain → Type 0
  Alike None None = Unit {0}
  Alike None (Some new) = ⊥
  Alike (Some old) None = ⊥
  Alike (Some old) (Some new) = Moves e before after old new

  abbrev with_number : DomainNo → Domain → Bool
  with_number d x = domain_eq (number_of x) d

  alike_first : (b : Bool) (old new : Domain) (o p : Option Domain) → Moves e before after old new → Alike o p →
      Alike (cond b (Some old) o) (cond b (Some new) p)
  alike_first true old new o p moves later = moves
  alike_first false old new o p moves later = later

  pub found_alike : (d : DomainNo) (olds news : List Domain) → AllZip (Moves e before after) olds news →
      Alike (find (λ x. domain_eq (number_of x) d) olds) (find (λ x. domain_eq (number_of x) d) news)
  found_alike d [] [] moves = tt
  found_alike d [] (n ∷ news) moves = absurd moves
  found_alike d (o ∷ olds) [] moves = absurd moves
  found_alike d (o ∷ olds) (n ∷ news) moves =
      let first : Option Domain = find (with_number d) olds in
      let later : Option Domain = find (with_number d) news in
      subst (λ b. Alike (cond (with_number d o) (Some o) first) (cond b (Some n) later))
      (ap (λ m. domain_eq m d) (sym (moved_number e before after o n moves.0)))
      (alike_first (with_number d o) o n first later moves.0 (found_alike d olds news moves.1))

-- where none is found, none has the number
pub none_found : (d : DomainNo) (ds : List Domain) → find (λ x. domain_eq (number_of x) d) ds ≡ None → IsNone d (numbers_in ds)
none_found d [] found = tt
none_found d (x ∷ ds) found = go (domain_eq (number_of x) d) refl found (λ later. none_found d ds later)
  where
    go : (b : Bool) → domain_eq (number_of x) d ≡ b → cond b (Some x) (find (λ y. domain_eq (number_of y) d) ds) ≡ None →
        (find (λ y. domain_eq (number_of y) d) ds ≡ None → IsNone d (numbers_in ds)) → IsNone d (numbers_in (x ∷ ds))
    go true is here later = absurd (none_some x (sym here))
    go false is there later = (is, later there)
