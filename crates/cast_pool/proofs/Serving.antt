-- What an event that is served leaves: nothing, or one more entry, with the trace trimmed before it or not.
use Rattle.std.proofs.Common.{◌≡◌, ℕ, ◌+◌, Bool, true, false, cond, List, [], ◌∷◌, ◌++◌, length}
use Rattle.std.proofs.Common.{Some, None, Result, Ok, Err, refl, sym, ap, subst, ◌∙◌, arith, length-append}
use Rattle.std.proofs.lemmas.Bool.{false≢true, false_from_ne_true, eqb-true}
use Rattle.std.proofs.lemmas.List.{append-nil, append_assoc}
use Rattle.cast_types.specs.declared.names.DomainNo.{DomainNo}
use Rattle.cast_events.specs.declared.config.Config.{Config}
use Rattle.cast_events.specs.declared.event.Event.{Event}
use Rattle.cast_events.specs.declared.event.Outs.{Outs}
use Rattle.cast_events.specs.declared.event.Taken.{Taken}
use Rattle.cast_events.specs.declared.log.Fault.{Fault}
use Rattle.cast_events.specs.declared.log.Fault.TheVariants.{NoMemory, Halted, NoDomain}
use Rattle.cast_events.specs.Outs.{no_outs}
use Rattle.cast_table.specs.declared.table.Table.{Table}
use Rattle.cast_table.specs.Tables.{domains_of, lent_of, IsApplied, IsUnchanged, NotesHalts}
use Rattle.cast_events.specs.declared.entry.Noted.{Noted}
use Rattle.cast_events.specs.declared.entry.Noted.TheVariants as noted
use Rattle.cast_events.specs.declared.entry.Entry.{Entry}
use Rattle.cast_trail.specs.Notes.{noted_of, noted_taken}
use Rattle.cast_pool.specs.Kept.{Seen, IsLed, Replays, seen_of, events_of, is_full}
use Rattle.cast_pool.specs.Served.{IsAdded, IsServed, Serves}
use Rattle.cast_trail.specs.Room.{count_then, is_due, items_then}
use Rattle.cast_pool.proofs.Replays.{replays_push}

some_kept : {X : Type 0} (x : X) → Some x ≡ None → ⊥
some_kept x e = cc

none_kept : {X : Type 0} (x : X) → None ≡ Some x → ⊥
none_kept x e = cc

same_note : (a b : Noted) → Some a ≡ Some b → a ≡ b
same_note a b e = cc

pub same_seen : (old new : Seen) → new.config ≡ old.config → new.trace ≡ old.trace → new.count ≡ old.count → new.table ≡ old.table
    → new ≡ old
same_seen old new config trace count table = λ i. record { config = config i; count = count i; trace = trace i; table = table i }

-- an event that is not taken leaves the table
pub left_none : (a : Result Taken Fault) (old new : Table) (before after : Outs) → noted_of a ≡ None
    → IsUnchanged a old new before after → new ≡ old
left_none (Ok t) old new before after none same = absurd (some_kept (noted_taken t) none)
left_none (Err NoMemory) old new before after none same = same.0
left_none (Err (Halted d)) old new before after none same = absurd (some_kept (noted.Halted d) none)
left_none (Err NoDomain) old new before after none same = same.0

-- An event that can be counted

-- there is a number for it
pub counts_on : (s : Seen) → ((events_of s ≡ 18446744073709551615) → ⊥) → is_full s ≡ false
counts_on s not = false_from_ne_true (is_full s) (λ is. not (eqb-true (events_of s) 18446744073709551615 is))

module _ (event : Event) (old : Seen) (counts : is_full old ≡ false) where
  served_as : (a : Result Taken Fault) (outs : Outs) (new : Seen) (was now : ℕ) → IsServed event a outs old new was now
      → Serves event a outs old new was now
  served_as a outs new was now served =
      record { full = λ is. absurd (false≢true (sym counts ∙ is)); room = λ _. served }

  -- it was not taken
  pub served_none : (a : Result Taken Fault) (outs : Outs) (new : Seen) (was : ℕ) → noted_of a ≡ None
      → IsApplied a event (domains_of old.table) (domains_of new.table) (lent_of old.table no_outs) (lent_of new.table outs)
      → IsUnchanged a old.table new.table no_outs outs
      → new.config ≡ old.config → new.trace ≡ old.trace → new.count ≡ old.count → Serves event a outs old new was was
  served_none (Ok t) outs new was none applied same config trace count = absurd (some_kept (noted_taken t) none)
  served_none (Err NoMemory) outs new was none applied same config trace count =
      served_as (Err NoMemory) outs new was was (same.1, (same_seen old new config trace count same.0, refl))
  served_none (Err (Halted d)) outs new was none applied same config trace count = absurd (some_kept (noted.Halted d) none)
  served_none (Err NoDomain) outs new was none applied same config trace count =
      served_as (Err NoDomain) outs new was was (applied, same.1, (same_seen old new config trace count same.0, refl))

  served_some : (a : Result Taken Fault) (n : Noted) (outs : Outs) (new : Seen) (was now : ℕ) → noted_of a ≡ Some n
      → IsAdded event a n outs old new was now → Serves event a outs old new was now
  served_some (Ok t) n outs new was now says added =
      served_as (Ok t)
      outs new was now (subst (λ m. IsAdded event (Ok t) m outs old new was now) (sym (same_note (noted_taken t) n says)) added)
  served_some (Err NoMemory) n outs new was now says added = absurd (none_kept n says)
  served_some (Err (Halted d)) n outs new was now says added =
      served_as (Err (Halted d))
      outs new was now (subst (λ m. IsAdded event (Err (Halted d)) m outs old new was now) (sym (same_note (noted.Halted d) n says)) added)
  served_some (Err NoDomain) n outs new was now says added = absurd (none_kept n says)

abbrev pub entry_for : Event → Noted → List DomainNo → Entry
entry_for event n halted = record { event = event; answer = n; halted = halted }

-- One entry more: the trace before it is trimmed, or not

-- the events before the trace, and those of the trace, are together what they were
kept_on : (before trace : List Entry) (e : Entry) (b : Bool)
    → cond b (before ++ trace) before ++ (cond b [] trace ++ e ∷ []) ≡ (before ++ trace) ++ e ∷ []
kept_on before trace e true = refl
kept_on before trace e false = sym (append_assoc before trace (e ∷ []))

long_on : (before trace : List Entry) (count : ℕ) (b : Bool) → length before ≡ count
    → length (cond b (before ++ trace) before) ≡ cond b (count + length trace) count
long_on before trace count true long = length-append before trace ∙ ap (λ k. k + length trace) long
long_on before trace count false long = long

more_by : (trace : List Entry) (e : Entry) (count : ℕ) (b : Bool)
    → cond b (count + length trace) count + length (cond b [] trace ++ e ∷ []) ≡ count + length trace + 1
more_by trace e count true = omega arith
more_by trace e count false = ap (λ k. count + k) (length-append trace (e ∷ [])) ∙ omega arith

module _ (event : Event) (a : Result Taken Fault) (n : Noted) (outs : Outs) (old : Seen) (table : Table) (says : noted_of a ≡ Some n)
    (applied : IsApplied a event (domains_of old.table) (domains_of table) (lent_of old.table no_outs) (lent_of table outs))
    (notes : NotesHalts a event (domains_of old.table) (domains_of table) [] outs.halted) where
  abbrev after : Seen
  after =
      seen_of old.config (count_then old.count (length old.trace)) (items_then old.trace ++ entry_for event n outs.halted ∷ []) table

  added_for : (was : ℕ) → IsAdded event a n outs old after was (was + 1)
  added_for was = record { applied = applied; halted = notes; trace = refl; count = refl; config = refl; taken = refl }

  pub led_for : IsLed old → IsLed after
  led_for led =
      let e = entry_for event n outs.halted in
      let due = is_due (length old.trace) in
      record {
        before = cond due (led.before ++ old.trace) led.before;
        long = long_on led.before old.trace old.count due led.long;
        replays = subst (λ history. Replays old.config history table) (sym (kept_on led.before old.trace e due))
            (replays_push old.config (led.before ++ old.trace) old.table table e a no_outs outs led.replays says applied notes);
      }

  -- the number of events is one more
  pub one_more : events_of after ≡ events_of old + 1
  one_more = more_by old.trace (entry_for event n outs.halted) old.count (is_due (length old.trace))

  pub served_added : is_full old ≡ false → (was : ℕ) → Serves event a outs old after was (was + 1)
  served_added counts was = served_some event old counts a n outs after was (was + 1) says (added_for was)

-- A trim

pub led_trimmed : (config : Config) (count : ℕ) (trace : List Entry) (table : Table) → IsLed (seen_of config count trace table)
    → IsLed (seen_of config (count + length trace) [] table)
led_trimmed config count trace table led =
    record {
      before = led.before ++ trace;
      long = length-append led.before trace ∙ ap (λ k. k + length trace) led.long;
      replays = subst (λ history. Replays config history table) (sym (append-nil (led.before ++ trace))) led.replays;
    }
