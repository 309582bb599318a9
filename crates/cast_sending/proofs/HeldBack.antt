-- What is known of a message is when it went to the wire last, and how often it was held back since.
use Rattle.std.proofs.Common.{◌≡◌, ℕ, ◌≤◌, ◌<◌, ◌+◌, Bool, true, false, List, [], ◌∷◌, cond, length, arith}
use Rattle.std.proofs.Common.{Option, Some, None, refl, sym, ap, subst, ◌∙◌, inl, inr}
use Rattle.std.specs.Prelude.{◌&&◌, nat_le, min, IfSome, MatchOption, MatchBool}
use Rattle.std.specs.Option.{is_none, option_map_or}
use Rattle.std.proofs.lemmas.Bool.{cases_Bool, leb-false, or_parts}
use Rattle.cast_types.specs.declared.names.Uid.{Uid}
use Rattle.cast_types.specs.Names.{uid_eq}
use Rattle.cast_types.proofs.Orders.{same_uid, uid_itself}
use Rattle.cast_sending.specs.declared.dues.Due.{Due}
use Rattle.cast_sending.specs.Dues.{Dues, due_of, gone, gone_again, held_back, goes_again, goes_now, waited_long}
use Rattle.cast_sending.specs.Dues.{kept_beside, Becomes, Learns, SendsAgain}
use Rattle.cast_sending.specs.HeldBack.{Call, Note, Forget, Clear, IsDue, held_since, last_gone, IsKnownAfter}
use Rattle.cast_sending.specs.HeldBack.{SevenAreHeldBackAtMost, KnownIsWhatHappened}
use Rattle.cast_sending.proofs.Known.{kept_same}

-- a message was held back so often, and went to the wire last at this tick; and this is known of it
abbrev Fits : ℕ → Option ℕ → Option Due → Type 0
Fits n last None = n ≤ 7
Fits n last (Some due) = (n ≤ 7) × (n ≡ due.waits) × (last ≡ Some due.tick)

fits_few : (n : ℕ) (last : Option ℕ) (due : Option Due) → Fits n last due → n ≤ 7
fits_few n last None fits = fits
fits_few n last (Some due) fits = fits.0

either : (b : Bool) (n m : ℕ) (last before : Option ℕ) (due : Option Due) → (b ≡ true → Fits n last due) →
    (b ≡ false → Fits m before due) → Fits (cond b n m) (cond b last before) due
either true n m last before due when unless = when refl
either false n m last before due when unless = unless refl

kept_fits : (n : ℕ) (last : Option ℕ) (dues : Dues) (other id : Uid) → Fits n last (due_of dues id) →
    Fits n last (due_of (kept_beside dues other) id)
kept_fits n last dues other id fits = by (nat_le 4096 (length dues) && is_none (due_of dues other))
  where
    by : (b : Bool) → Fits n last (due_of (cond b [] dues) id)
    by true = fits_few n last (due_of dues id) fits
    by false = fits

module _ (n : ℕ) (last : Option ℕ) (new : Dues) (other id : Uid) (apart : uid_eq other id ≡ false) where
  other_becomes : (old : Dues) (due : Option Due) → Becomes old other due new → Fits n last (due_of old id) →
      Fits n last (due_of new id)
  other_becomes old due becomes fits =
      subst (Fits n last) (sym (becomes.each id ∙ ap (λ b. cond b due (due_of old id)) apart)) fits

  other_learns : (old : Dues) (due : Due) → Learns old other due new → Fits n last (due_of old id) → Fits n last (due_of new id)
  other_learns old due (inl becomes) fits =
      other_becomes (kept_beside old other) (Some due) becomes (kept_fits n last old other id fits)
  other_learns old due (inr stays) fits =
      subst (λ (dues : Dues). Fits n last (due_of dues id)) (sym stays.1) (kept_fits n last old other id fits)

  other_sends : (old : Dues) (tick late : ℕ) → SendsAgain old other tick late new → Fits n last (due_of old id) →
      Fits n last (due_of new id)
  other_sends old tick late sends fits = by (due_of old other) sends
    where
      again : (due : Due) (goes : Bool) →
          MatchBool goes (Learns old other (gone_again due tick) new) (Becomes old other (Some (held_back due)) new) →
          Fits n last (due_of new id)
      again due true learns = other_learns old (gone_again due tick) learns fits
      again due false becomes = other_becomes old (Some (held_back due)) becomes fits

      by : (o : Option Due) → MatchOption o (Learns old other (gone tick 0) new)
          (λ due. MatchBool (goes_again due tick late) (Learns old other (gone_again due tick) new)
          (Becomes old other (Some (held_back due)) new)) → Fits n last (due_of new id)
      by None learns = other_learns old (gone tick 0) learns fits
      by (Some due) sends = again due (goes_again due tick late) sends

own_becomes : (n : ℕ) (last : Option ℕ) (old new : Dues) (id : Uid) (due : Option Due) → Becomes old id due new → Fits n last due →
    Fits n last (due_of new id)
own_becomes n last old new id due becomes fits =
    subst (Fits n last) (sym (becomes.each id ∙ ap (λ b. cond b due (due_of old id)) (uid_itself id))) fits

own_learns : (old new : Dues) (id : Uid) (tick doublings : ℕ) → Learns old id (gone tick doublings) new →
    Fits 0 (Some tick) (due_of new id)
own_learns old new id tick doublings (inl becomes) =
    own_becomes 0 (Some tick) (kept_beside old id) new id (Some (gone tick doublings)) becomes (omega arith, refl, refl)
own_learns old new id tick doublings (inr stays) =
    let none : due_of new id ≡ None = ap (λ (dues : Dues). due_of dues id) stays.1 ∙ (kept_same old id ∙ stays.0) in
    subst (Fits 0 (Some tick)) (sym none) (omega arith)

-- what the rules send goes to the wire, or is held back once more
own_sends : (n : ℕ) (last : Option ℕ) (old new : Dues) (id : Uid) (tick late : ℕ) (goes : Bool) → goes ≡ goes_now old id tick late →
    SendsAgain old id tick late new → Fits n last (due_of old id) → Fits (cond goes 0 (n + 1)) (cond goes (Some tick) last) (due_of new id)
own_sends n last old new id tick late goes = by (due_of old id)
  where
    again : (due : Due) (goes : Bool) → (goes ≡ false → due.waits + 1 < 8) →
        MatchBool goes (Learns old id (gone_again due tick) new) (Becomes old id (Some (held_back due)) new) → Fits n last (Some due) →
        Fits (cond goes 0 (n + 1)) (cond goes (Some tick) last) (due_of new id)
    again due true few learns fits = own_learns old new id tick (min (due.doublings + 1) 3) learns
    again due false few becomes fits =
        own_becomes (n + 1) last old new id (Some (held_back due)) becomes
        (omega (arith, few refl, fits.1), ap (λ (k : ℕ). k + 1) fits.1, fits.2)

    by : (o : Option Due) → goes ≡ option_map_or (λ due. goes_again due tick late) o true →
        MatchOption o (Learns old id (gone tick 0) new)
        (λ due. MatchBool (goes_again due tick late) (Learns old id (gone_again due tick) new)
        (Becomes old id (Some (held_back due)) new)) → Fits n last o →
        Fits (cond goes 0 (n + 1)) (cond goes (Some tick) last) (due_of new id)
    by None is learns fits =
        subst (λ b. Fits (cond b 0 (n + 1)) (cond b (Some tick) last) (due_of new id)) (sym is) (own_learns old new id tick 0 learns)
    by (Some due) is sends fits =
        again due goes
        (λ held. leb-false 8 (due.waits + 1) (or_parts (nat_le 8 (due.waits + 1)) (waited_long due tick late) (sym is ∙ held)).0)
        (subst (λ b. MatchBool b (Learns old id (gone_again due tick) new) (Becomes old id (Some (held_back due)) new)) (sym is) sends)
        fits

fits_all : (id : Uid) (calls : List Call) (dues : Dues) → IsKnownAfter calls dues →
    Fits (held_since id calls) (last_gone id calls) (due_of dues id)
fits_all id [] dues is = subst (λ (d : Dues). Fits 0 None (due_of d id)) (sym is) (omega arith)
fits_all id (Note other tick doublings ∷ before) dues is =
    let n = held_since id before in
    let last = last_gone id before in
    either (uid_eq other id) 0 n (Some tick) last (due_of dues id)
    (λ same.
    own_learns is.0 dues id tick doublings
    (subst (λ (u : Uid). Learns is.0 u (gone tick doublings) dues) (same_uid other id same) is.2))
    (λ apart. other_learns n last dues other id apart is.0 (gone tick doublings) is.2 (fits_all id before is.0 is.1))
fits_all id (Forget other ∷ before) dues is =
    let n = held_since id before in
    let last = last_gone id before in
    let old : Fits n last (due_of is.0 id) = fits_all id before is.0 is.1 in
    elim (cases_Bool (uid_eq other id)) [
      | inl same ↦
          subst (Fits n last) (sym (is.2.each id ∙ ap (λ b. cond b None (due_of is.0 id)) same)) (fits_few n last (due_of is.0 id) old)
      | inr apart ↦ other_becomes n last dues other id apart is.0 None is.2 old
    ]
fits_all id (Clear ∷ before) dues is =
    let n = held_since id before in
    let last = last_gone id before in
    subst (λ (d : Dues). Fits n last (due_of d id)) (sym is.2) (fits_few n last (due_of is.0 id) (fits_all id before is.0 is.1))
fits_all id (IsDue other tick late goes ∷ before) dues is =
    let n = held_since id before in
    let last = last_gone id before in
    let old : Fits n last (due_of is.0 id) = fits_all id before is.0 is.1 in
    either (uid_eq other id) (cond goes 0 (n + 1)) n (cond goes (Some tick) last) last (due_of dues id)
    (λ same.
    let one : other ≡ id = same_uid other id same in
    own_sends n last is.0 dues id tick late goes
    (subst (λ (u : Uid). goes ≡ goes_now is.0 u tick late) one is.2)
    (subst (λ (u : Uid). SendsAgain is.0 u tick late dues) one is.3) old)
    (λ apart. other_sends n last dues other id apart is.0 tick late is.3 old)

pub seven_are_held_back_at_most : SevenAreHeldBackAtMost
seven_are_held_back_at_most id calls dues is =
    fits_few (held_since id calls) (last_gone id calls) (due_of dues id) (fits_all id calls dues is)

pub known_is_what_happened : KnownIsWhatHappened
known_is_what_happened id calls dues is = by (due_of dues id) (fits_all id calls dues is)
  where
    by : (o : Option Due) → Fits (held_since id calls) (last_gone id calls) o →
        IfSome o (λ due. (last_gone id calls ≡ Some due.tick) × (held_since id calls ≡ due.waits))
    by None fits = tt
    by (Some due) fits = (fits.2, fits.1)
