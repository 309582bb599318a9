-- What an event does to what all domains stand for, and what its entry says of itself.
use Rattle.std.proofs.Common.{◌≡◌, ◌≢◌, ℕ, zero, suc, Bool, true, false, ◌||◌, List, [], ◌∷◌, Option}
use Rattle.std.proofs.Common.{Some, None, Result, Ok, Err, slice_set, refl, sym, ap, subst, ◌∙◌}
use Rattle.std.specs.Prelude.{slice_get, nat_le, if◌then◌else◌}
use Rattle.std.specs.List.{AllZip}
use Rattle.std.specs.Option.{option_map_or}
use Rattle.std.proofs.lemmas.Bool.{false≢true, and_from, or_left, or_right, or_from, or_parts, le-leb}
use Rattle.std.proofs.lemmas.List.Folds.{list_any-append}
use Rattle.std.proofs.Common.{arith}
use Rattle.cast_types.specs.declared.names.DomainNo.{DomainNo}
use Rattle.cast_types.specs.declared.refusal.Refusal.TheVariants as refusal
use Rattle.cast_events.specs.declared.event.Event.{Event}
use Rattle.cast_events.specs.declared.event.Taken.{Taken}
use Rattle.cast_events.specs.declared.event.Taken.TheVariants as taken
use Rattle.cast_events.specs.declared.log.Fault.{Fault}
use Rattle.cast_events.specs.declared.log.Fault.TheVariants.{NoMemory, Halted, NoDomain}
use Rattle.cast_events.specs.Events.{domain_of}
use Rattle.cast_domain.specs.declared.domain.Domain.{Domain}
use Rattle.cast_domain.specs.declared.shared.Shared.{Shared}
use Rattle.cast_domain.specs.Records.{number_of, is_halted}
use Rattle.cast_domain.specs.Shared.{part_of, LeavesOthers}
use Rattle.cast_domain.proofs.Shares.{others_part}
use Rattle.cast_table.specs.Tables.{domain_eq, place_named, IsTurn, Lent, IsTurnAt, IsAppliedAt, IsAppliedTo, IsApplied, IsTicked}
use Rattle.cast_table.specs.Tables.{AreTurns, NotesHalts, NotesHaltsOf, NotesOne, answer_in_turn, halted_by, halted_in_turn, IsLeast}
use Rattle.cast_table.specs.Owns.{names, is_own}
use Rattle.cast_table.proofs.Parts.{domain_itself, domain_flipped}
use Rattle.cast_table.proofs.Places.{named_there, same_some, none_some}
use Rattle.cast_events.specs.declared.entry.Noted.{Noted}
use Rattle.cast_events.specs.declared.entry.Noted.TheVariants as noted
use Rattle.cast_events.specs.declared.entry.Entry.{Entry}
use Rattle.cast_pool.specs.Traces.{is_among, TellsHalts, IsTickNoted}
use Rattle.cast_trail.specs.Notes.{noted_of, noted_taken}
use Rattle.cast_pool.proofs.Numbers.{are_apart, numbers_in, stands_among, other_number, first_apart, rest_apart, own_named}
use Rattle.cast_pool.proofs.Turns.{Follows, turned, left}

-- the others' parts stay
turn_leaves : (a : Result Taken Fault) (e : Event) (old new : Domain) (before after : Lent) → a ≢ Err NoMemory
    → IsTurn a e old new before after → LeavesOthers (number_of old) before.shared after.shared
turn_leaves (Ok t) e old new before after begun turn = turn.others
turn_leaves (Err NoMemory) e old new before after begun turn = absurd (begun refl)
turn_leaves (Err (Halted d)) e old new before after begun turn = turn.1.others
turn_leaves (Err NoDomain) e old new before after begun turn = absurd turn

-- An event that names a domain

-- a turn halts its own domain or none
halts_itself : (a : Result Taken Fault) (e : Event) (old new : Domain) (before after : Lent) (q : DomainNo)
    → IsTurn a e old new before after → domain_eq (number_of old) q ≡ false → is_among q (halted_by a) ≡ false
halts_itself (Ok t) e old new before after q turn other = refl
halts_itself (Err NoMemory) e old new before after q turn other = refl
halts_itself (Err (Halted d)) e old new before after q turn other =
    or_from (domain_eq q d) false (ap (domain_eq q) turn.0 ∙ domain_flipped (number_of old) q other) refl
halts_itself (Err NoDomain) e old new before after q turn other = refl

module _ (e : Entry) (a : Result Taken Fault) (begun : a ≢ Err NoMemory) (old new : Domain) (before after : Lent)
    (turn : IsTurn a e.event old new before after) (named : domain_of e.event ≡ Some (number_of old)) (says : Some e.answer ≡ noted_of a)
    (halts : e.halted ≡ halted_by a) where
  leaves : LeavesOthers (number_of old) before.shared after.shared
  leaves = turn_leaves a e.event old new before after begun turn

  other_left : (d : Domain) → domain_eq (number_of old) (number_of d) ≡ false → Follows e before.shared after.shared d d
  other_left d other =
      left e d (own_named e.event (number_of old) (number_of d) named ∙ other)
      (ap (is_among (number_of d)) halts ∙ halts_itself a e.event old new before after (number_of d) turn other)
      before.shared after.shared
      (others_part (number_of old) (number_of d) before.shared after.shared leaves (domain_flipped (number_of old) (number_of d) other))

  all_left : (ds : List Domain) → is_among (number_of old) (numbers_in ds) ≡ false → AllZip (Follows e before.shared after.shared) ds ds
  all_left [] none = tt
  all_left (d ∷ ds) none =
      let parts = or_parts (domain_eq (number_of old) (number_of d)) (is_among (number_of old) (numbers_in ds)) none in
      (other_left d parts.0, all_left ds parts.1)

  turned_here : Follows e before.shared after.shared old new
  turned_here =
      turned e old new before after (own_named e.event (number_of old) (number_of old) named ∙ domain_itself (number_of old))
      a begun (λ _. says)
      (ap (is_among (number_of old)) halts) turn before.shared after.shared refl refl

  pub named_follow : (ds : List Domain) (k : ℕ) → are_apart (numbers_in ds) ≡ true → slice_get ds k ≡ Some old
      → AllZip (Follows e before.shared after.shared) ds (slice_set ds k new)
  named_follow [] k apart stands = absurd (none_some old stands)
  named_follow (d ∷ ds) zero apart stands =
      let at : d ≡ old = same_some d old stands in
      let none : is_among (number_of old) (numbers_in ds) ≡ false =
      ap (λ (x : Domain). is_among (number_of x) (numbers_in ds)) (sym at) ∙ first_apart (number_of d) (numbers_in ds) apart in
      (subst (λ x. Follows e before.shared after.shared x new) (sym at) turned_here, all_left ds none)
  named_follow (d ∷ ds) (suc k) apart stands =
      let other : domain_eq (number_of d) (number_of old) ≡ false =
      other_number (number_of d) (number_of old) (numbers_in ds) (first_apart (number_of d) (numbers_in ds) apart)
      (stands_among ds k old stands) in (
        other_left d (domain_flipped (number_of d) (number_of old) other),
        named_follow ds k (rest_apart (number_of d) (numbers_in ds) apart) stands,
      )

-- A tick

abbrev in_turn : Bool → Bool → DomainNo → Result Taken Fault
in_turn was now d = if was then Ok (taken.Refused refusal.Halted) else if now then Err (Halted d) else Ok taken.Nothing

turn_begun : (was now : Bool) (d : DomainNo) → in_turn was now d ≢ Err NoMemory
turn_begun true now d e = cc
turn_begun false true d e = cc
turn_begun false false d e = cc

module _ (e : Entry) (tick : domain_of e.event ≡ None) where
  unnamed : (d : DomainNo) → names d e.event ≡ false
  unnamed d = ap (λ o. option_map_or (λ m. domain_eq m d) o false) tick

  own_all : (d : DomainNo) → is_own d e.event ≡ true
  own_all d = ap (λ o. option_map_or (λ m. domain_eq m d) o true) tick

  begun_in : (old new : Domain) → answer_in_turn old new ≢ Err NoMemory
  begun_in old new = turn_begun (is_halted old) (is_halted new) (number_of old)

  -- the parts of others stay
  turns_leave : (q : DomainNo) (olds news : List Domain) (first last : Lent) → AreTurns e.event olds news first last
      → is_among q (numbers_in olds) ≡ false → part_of q last.shared ≡ part_of q first.shared
  turns_leave q [] [] first last turns none = ap (λ (l : Lent). part_of q l.shared) turns
  turns_leave q [] (n ∷ news) first last turns none = absurd turns
  turns_leave q (o ∷ olds) [] first last turns none = absurd turns
  turns_leave q (o ∷ olds) (n ∷ news) first last turns none =
      let parts = or_parts (domain_eq q (number_of o)) (is_among q (numbers_in olds)) none in
      turns_leave q olds news turns.0 last turns.2 parts.1
      ∙ others_part (number_of o)
      q first.shared turns.0.shared (turn_leaves (answer_in_turn o n) e.event o n first turns.0 (begun_in o n) turns.1) parts.0

  -- and none of them is halted
  none_halted : (q : DomainNo) (olds news : List Domain) (first last : Lent) → AreTurns e.event olds news first last
      → is_among q (numbers_in olds) ≡ false → is_among q (halted_in_turn olds news) ≡ false
  none_halted q [] [] first last turns none = refl
  none_halted q [] (n ∷ news) first last turns none = absurd turns
  none_halted q (o ∷ olds) [] first last turns none = absurd turns
  none_halted q (o ∷ olds) (n ∷ news) first last turns none =
      let parts = or_parts (domain_eq q (number_of o)) (is_among q (numbers_in olds)) none in
      list_any-append (domain_eq q) (halted_by (answer_in_turn o n)) (halted_in_turn olds news)
      ∙ or_from (is_among q (halted_by (answer_in_turn o n))) (is_among q (halted_in_turn olds news))
      (halts_itself (answer_in_turn o n) e.event o n first turns.0 q turns.1 (domain_flipped q (number_of o) parts.0))
      (none_halted q olds news turns.0 last turns.2 parts.1)

  first_halted : (b c d : Bool) → b ≡ c || d → d ≡ false → b ≡ c
  first_halted b true d same gone = same
  first_halted b false d same gone = same ∙ gone

  rest_halted : (b c d : Bool) → b ≡ c || d → c ≡ false → b ≡ d
  rest_halted b c d same gone = same ∙ ap (λ x. x || d) gone

  pub ticked_follow : (olds news : List Domain) (first last : Lent) (start : Shared) → are_apart (numbers_in olds) ≡ true
      → AreTurns e.event olds news first last
      → ((q : DomainNo) → is_among q (numbers_in olds) ≡ true → is_among q e.halted ≡ is_among q (halted_in_turn olds news))
      → ((q : DomainNo) → is_among q (numbers_in olds) ≡ true → part_of q first.shared ≡ part_of q start)
      → AllZip (Follows e start last.shared) olds news
  ticked_follow [] [] first last start apart turns halts parts = tt
  ticked_follow [] (n ∷ news) first last start apart turns halts parts = absurd turns
  ticked_follow (o ∷ olds) [] first last start apart turns halts parts = absurd turns
  ticked_follow (o ∷ olds) (n ∷ news) first last start apart turns halts parts =
      let d = number_of o in
      let a : Result Taken Fault = answer_in_turn o n in
      let between : Lent = turns.0 in
      let alone : is_among d (numbers_in olds) ≡ false = first_apart d (numbers_in olds) apart in
      let here : is_among d (d ∷ numbers_in olds) ≡ true = or_left (domain_eq d d) (is_among d (numbers_in olds)) (domain_itself d) in
      let later : (q : DomainNo) → is_among q (numbers_in olds) ≡ true → is_among q (d ∷ numbers_in olds) ≡ true =
      λ q there. or_right (domain_eq q d) (is_among q (numbers_in olds)) there in
      let leaves = turn_leaves a e.event o n first between (begun_in o n) turns.1 in (
        turned e o n first between (own_all d) a (begun_in o n) (λ named. absurd (false≢true (sym (unnamed d) ∙ named)))
            (first_halted (is_among d e.halted) (is_among d (halted_by a)) (is_among d (halted_in_turn olds news))
            (halts d here ∙ list_any-append (domain_eq d) (halted_by a) (halted_in_turn olds news))
            (none_halted d olds news between last turns.2 alone))
            turns.1 start last.shared (parts d here) (turns_leave d olds news between last turns.2 alone),
        ticked_follow olds news between last start (rest_apart d (numbers_in olds) apart) turns.2
            (λ q there. rest_halted (is_among q e.halted) (is_among q (halted_by a)) (is_among q (halted_in_turn olds news))
            (halts q (later q there) ∙ list_any-append (domain_eq q) (halted_by a) (halted_in_turn olds news))
            (halts_itself a e.event o n first between q turns.1 (other_number d q (numbers_in olds) alone there)))
            (λ q there.
            others_part d q first.shared between.shared leaves (domain_flipped d q (other_number d q (numbers_in olds) alone there))
            ∙ parts q (later q there)),
      )

-- What an entry says of itself

quiet : (t : Taken) (numbers : List DomainNo) → numbers ≡ [] → TellsHalts (noted_taken t) numbers
quiet taken.Nothing numbers none = none
quiet (taken.Opened serial) numbers none = none
quiet (taken.Refused refusal) numbers none = none
quiet (taken.Entries entries) numbers none = none

one_least : (d : DomainNo) → IsLeast d (d ∷ [])
one_least d =
    record {
      among = or_left (domain_eq d d) false (domain_itself d);
      lowest = and_from (nat_le d.0 d.0) true (le-leb d.0 d.0 (omega arith)) refl;
    }

same_note : (a b : Noted) → Some a ≡ Some b → a ≡ b
same_note a b e = cc

none_kept : {X : Type 0} (x : X) → None ≡ Some x → ⊥
none_kept x e = cc

some_none : {X : Type 0} (x : X) → Some x ≡ None → ⊥
some_none x e = cc

same_number : (a b : DomainNo) → Some a ≡ Some b → a ≡ b
same_number a b e = cc

noted_halts : (a : Result Taken Fault) (numbers : List DomainNo) (n : Noted) → numbers ≡ halted_by a → noted_of a ≡ Some n
    → TellsHalts n numbers
noted_halts (Ok t) numbers n same says = subst (λ m. TellsHalts m numbers) (same_note (noted_taken t) n says) (quiet t numbers same)
noted_halts (Err NoMemory) numbers n same says = absurd (none_kept n says)
noted_halts (Err (Halted d)) numbers n same says =
    subst (λ m. TellsHalts m numbers) (same_note (noted.Halted d) n says) (subst (IsLeast d) (sym same) (one_least d))
noted_halts (Err NoDomain) numbers n same says = absurd (none_kept n says)

noted_begun : (a : Result Taken Fault) (n : Noted) → noted_of a ≡ Some n → a ≢ Err NoMemory
noted_begun a n says none = none_kept n (sym (ap noted_of none) ∙ says)

one_noted : (a : Result Taken Fault) (n : DomainNo) (numbers : List DomainNo) → NotesOne a n [] numbers → numbers ≡ halted_by a
one_noted (Ok t) n numbers notes = notes
one_noted (Err NoMemory) n numbers notes = notes
one_noted (Err (Halted d)) n numbers notes = notes.1
one_noted (Err NoDomain) n numbers notes = notes

-- what an entry says of itself, among these domains
pub record IsEntryAmong (domains : List Domain) (e : Entry) : Type 0 where
  pub halts : TellsHalts e.answer e.halted
  pub tick : domain_of e.event ≡ None → IsTickNoted e.answer
  pub known : (d : DomainNo) → domain_of e.event ≡ Some d → is_among d (numbers_in domains) ≡ true

-- what an event that was taken does to all domains, and what its entry says of itself
pub record Taken_in (e : Entry) (olds : List Domain) (news : List Domain) (before : Lent) (after : Lent) : Type 0 where
  pub follow : AllZip (Follows e before.shared after.shared) olds news
  pub entry : IsEntryAmong olds e

module _ (e : Entry) (olds news : List Domain) (before after : Lent) (apart : are_apart (numbers_in olds) ≡ true) where
  -- it names a domain, which stands at a place
  taken_at : (a : Result Taken Fault) (n : DomainNo) (k : ℕ) → noted_of a ≡ Some e.answer → domain_of e.event ≡ Some n
      → Some k ≡ place_named n olds → NotesOne a n [] e.halted → IsTurnAt k a e.event olds news before after
      → Taken_in e olds news before after
  taken_at a n k says is found notes turn =
      let named : number_of turn.domain ≡ n = named_there n olds k turn.domain found turn.stands in
      let halts : e.halted ≡ halted_by a = one_noted a n e.halted notes in
      record {
        follow =
            subst (λ ds. AllZip (Follows e before.shared after.shared) olds ds) (sym turn.others)
            (named_follow e a (noted_begun a e.answer says) turn.domain turn.next before after turn.turn (is ∙ ap Some (sym named))
            (sym says) halts olds k apart turn.stands);
        entry =
            record {
              halts = noted_halts a e.halted e.answer halts says;
              tick = λ none. absurd (some_none n (sym is ∙ none));
              known = λ d its. subst (λ m. is_among m (numbers_in olds) ≡ true) (named ∙ same_number n d (sym is ∙ its))
                  (stands_among olds k turn.domain turn.stands);
            };
      }

  taken_named : (a : Result Taken Fault) (n : DomainNo) → noted_of a ≡ Some e.answer → domain_of e.event ≡ Some n → NotesOne a n [] e.halted
      → (p : Option ℕ) → p ≡ place_named n olds → IsAppliedAt p a e.event olds news before after → Taken_in e olds news before after
  taken_named a n says is notes None at applied = absurd (none_kept e.answer (sym (ap noted_of applied.0) ∙ says))
  taken_named a n says is notes (Some k) at applied = taken_at a n k says is at notes applied

  -- it is a tick
  module _ (tick : domain_of e.event ≡ None) (halted : e.halted ≡ halted_in_turn olds news) where
    ticked_all : AreTurns e.event olds news before after → AllZip (Follows e before.shared after.shared) olds news
    ticked_all turns =
        ticked_follow e tick olds news before after before.shared apart turns (λ q there. ap (is_among q) halted) (λ q there. refl)

    taken_tick : (a : Result Taken Fault) → noted_of a ≡ Some e.answer → IsTicked a e.event olds news before after
        → Taken_in e olds news before after
    taken_tick (Ok t) says ticked =
        let nothing : noted.Nothing ≡ e.answer = ap noted_taken (sym ticked.0) ∙ same_note (noted_taken t) e.answer says in
        record {
          follow = ticked_all ticked.2;
          entry =
              record {
                halts = subst (λ m. TellsHalts m e.halted) nothing (halted ∙ ticked.1);
                tick = λ none. subst IsTickNoted nothing tt;
                known = λ d its. absurd (none_kept d (sym tick ∙ its));
              };
        }
    taken_tick (Err NoMemory) says ticked = absurd (none_kept e.answer says)
    taken_tick (Err (Halted d)) says ticked =
        let stop : noted.Halted d ≡ e.answer = same_note (noted.Halted d) e.answer says in
        record {
          follow = ticked_all ticked.1;
          entry =
              record {
                halts = subst (λ m. TellsHalts m e.halted) stop (subst (IsLeast d) (sym halted) ticked.0);
                tick = λ none. subst IsTickNoted stop tt;
                known = λ q its. absurd (none_kept q (sym tick ∙ its));
              };
        }
    taken_tick (Err NoDomain) says ticked = absurd ticked

  taken_by : (a : Result Taken Fault) → noted_of a ≡ Some e.answer → (o : Option DomainNo) → domain_of e.event ≡ o
      → IsAppliedTo o a e.event olds news before after → NotesHaltsOf o a olds news [] e.halted → Taken_in e olds news before after
  taken_by a says None is applied notes = taken_tick is notes a says applied
  taken_by a says (Some n) is applied notes = taken_named a n says is notes (place_named n olds) refl applied

  pub taken_in : (a : Result Taken Fault) → noted_of a ≡ Some e.answer → IsApplied a e.event olds news before after
      → NotesHalts a e.event olds news [] e.halted → Taken_in e olds news before after
  taken_in a says applied notes = taken_by a says (domain_of e.event) refl applied notes
