-- How many bytes the spellings of fields have.
use Rattle.std.proofs.Common.{◌≡◌, ℕ, ◌+◌, ◌*◌, ◌≤◌, List, [], ◌∷◌, ◌++◌, length, Option, Some, None, refl, ap, ◌∙◌, arith}
use Rattle.std.specs.List.{flat_map, AllByRecursion}
use Rattle.std.proofs.lemmas.List.{length-append}
use Rattle.std.proofs.lemmas.List.Concat.{flat_map-cons}
use Rattle.cast_types.specs.declared.names.GroupNo.{GroupNo}
use Rattle.cast_types.specs.declared.names.Proc.{Proc}
use Rattle.cast_types.specs.declared.names.Uid.{Uid}
use Rattle.cast_types.specs.declared.clock.Clock.{Clock}
use Rattle.cast_types.specs.Names.{Entry}
use Rattle.cast_types.proofs.CountLists.{counts_parts}
use Rattle.cast_message.specs.declared.message.Body.{Body}
use Rattle.cast_message.specs.declared.message.Body.TheVariants as body
use Rattle.cast_message.specs.declared.message.Message.{Message}
use Rattle.cast_message.specs.Membership.{Membership}
use Rattle.cast_message.specs.Tail.{Tail}
use Rattle.cast_message.specs.Placement.{Placement}
use Rattle.cast_message.specs.KeptIds.{Marked, KeptList}
use Rattle.cast_message.specs.Bodies.{kind_of}
use Rattle.cast_field.specs.Spelling.{byte, short, word, spelled_proc, spelled_entry, spelled_uid, spelled_counts}
use Rattle.cast_field.specs.Spelling.{spelled_clock, spelled_times, spelled_payload, spelled_sequence, kind_code}
use Rattle.cast_field.specs.Spelling.{spelled_body, spelled_message, spelled_new_holder, spelled_holder}
use Rattle.cast_field.specs.Spelling.{spelled_members, spelled_tail, mark_code, spelled_marked, spelled_kept}
use Rattle.cast_field.specs.Spelled.{AreCounts, IsClock, AreTimes, ArePlaced, IsBody, IsMessage, AreMembers, IsTail, AreKept}
use Rattle.cast_field.proofs.Parts.{stamp_parts}
use Rattle.cast_field.proofs.Holders.{members_parts}
use Rattle.cast_field.proofs.Orders.{stretch_parts, sequence_parts, kept_parts}

pub short_size : (n : ℕ) → length (short n) ≡ 2
unfolding short
short_size n = refl

pub word_size : (n : ℕ) → length (word n) ≡ 4
unfolding word
word_size n = refl

pub byte_size : (n : ℕ) → length (byte n) ≡ 1
unfolding byte
byte_size n = refl

pub proc_size : (p : Proc) → length (spelled_proc p) ≡ 6
unfolding spelled_proc short word
proc_size p = refl

entry_size : (e : Entry) → length (spelled_entry e) ≡ 10
unfolding spelled_entry
entry_size e = omega (arith, length-append (spelled_proc e.0) (word e.1), proc_size e.0, word_size e.1)

pub uid_size : (u : Uid) → length (spelled_uid u) ≡ 16
unfolding spelled_uid
uid_size u =
    simp length-append (omega (arith, short_size u.group.0, word_size u.view, proc_size u.proc, word_size u.count))

cons_size : {A : Type 0} (spell : A → List ℕ) (x : A) (xs : List A) →
    length (flat_map spell (x ∷ xs)) ≡ length (spell x) + length (flat_map spell xs)
cons_size spell x xs = ap length (flat_map-cons spell x xs) ∙ length-append (spell x) (flat_map spell xs)

entries_size : (es : List Entry) → length (flat_map spelled_entry es) ≡ 10 * length es
entries_size [] = omega arith
entries_size (e ∷ es) = cons_size spelled_entry e es ∙ omega (arith, entry_size e, entries_size es)

pub procs_size : (ps : List Proc) → length (flat_map spelled_proc ps) ≡ 6 * length ps
procs_size [] = omega arith
procs_size (p ∷ ps) = cons_size spelled_proc p ps ∙ omega (arith, proc_size p, procs_size ps)

pub counts_size : (c : List Entry) → AreCounts c → length (spelled_counts c) ≤ 641
unfolding spelled_counts
counts_size c are =
    let few = (counts_parts c are.sorted).1 in
    omega (arith, length-append (byte (length c)) (flat_map spelled_entry c), byte_size (length c), entries_size c, few)

clock_size : (e : GroupNo × Clock) → IsClock e → length (spelled_clock e) ≤ 647
unfolding spelled_clock
clock_size e is =
    omega (
      arith,
      length-append (short e.0.0) (word e.1.view ++ spelled_counts e.1.counts),
      length-append (word e.1.view) (spelled_counts e.1.counts),
      short_size e.0.0,
      word_size e.1.view,
      counts_size e.1.counts is.counts,
    )

clocks_size : (t : List (GroupNo × Clock)) → AllByRecursion IsClock t → length (flat_map spelled_clock t) ≤ 647 * length t
clocks_size [] are = omega arith
clocks_size (e ∷ es) are = omega (arith, cons_size spelled_clock e es, clock_size e are.0, clocks_size es are.1)

times_size : (t : List (GroupNo × Clock)) → AreTimes t → length (spelled_times t) ≤ 20705
unfolding spelled_times
times_size t are =
    let few = (stamp_parts t are.sorted).1.below in
    omega (arith, length-append (byte (length t)) (flat_map spelled_clock t), byte_size (length t), clocks_size t are.clocks, few)

payload_size : (p : List ℕ) → length p ≤ 16384 → length (spelled_payload p) ≤ 16386
unfolding spelled_payload
payload_size p few = omega (arith, length-append (short (length p)) p, short_size (length p), few)

new_holder_size : (o : Option Proc) → length (spelled_new_holder o) ≤ 6
unfolding spelled_new_holder
new_holder_size None = omega arith
new_holder_size (Some p) = omega (arith, proc_size p)

sequence_size : (s : Placement) → ArePlaced s → length (spelled_sequence s) ≤ 651
unfolding spelled_sequence
sequence_size s are =
    let few = (sequence_parts s are.short).1.below in
    let behind : List ℕ = flat_map spelled_entry s.ids ++ spelled_new_holder s.holder in
    omega (
      arith,
      length-append (word s.first) (byte (length s.ids) ++ behind),
      length-append (byte (length s.ids)) behind,
      length-append (flat_map spelled_entry s.ids) (spelled_new_holder s.holder),
      word_size s.first,
      byte_size (length s.ids),
      entries_size s.ids,
      new_holder_size s.holder,
      few,
    )

body_size : (b : Body) → IsBody b → length (spelled_body b) ≤ 16386
unfolding spelled_body
body_size (body.Causal p) few = payload_size p few
body_size (body.Atomic p) few = payload_size p few
body_size (body.Order s) are = omega (arith, sequence_size s are)

pub message_size : (m : Message) → IsMessage m → length (spelled_message m) ≤ 37108
unfolding spelled_message
message_size m is =
    simp length-append
    (omega (arith, uid_size m.id, byte_size (kind_code (kind_of m.body)), times_size m.times is.times, body_size m.body is.body))

holder_size : (ps : List Proc) (h : Option Proc) → length (spelled_holder ps h) ≤ 1
unfolding spelled_holder byte
holder_size ps None = omega arith
holder_size ps (Some p) = omega arith

pub members_size : (m : Membership) → AreMembers m → length (spelled_members m) ≤ 386
unfolding spelled_members
members_size m are =
    let few = (members_parts m are.sorted).1 in
    omega (
      arith,
      length-append (byte (length m.list)) (flat_map spelled_proc m.list ++ spelled_holder m.list m.holder),
      length-append (flat_map spelled_proc m.list) (spelled_holder m.list m.holder),
      byte_size (length m.list),
      procs_size m.list,
      holder_size m.list m.holder,
      few,
    )

pub tail_size : (t : Tail) → IsTail t → length (spelled_tail t) ≤ 5766
unfolding spelled_tail
tail_size t is =
    let few = (stretch_parts t is.short).1 in
    omega (
      arith,
      length-append (word t.start) (short (length t.ids) ++ flat_map spelled_entry t.ids),
      length-append (short (length t.ids)) (flat_map spelled_entry t.ids),
      word_size t.start,
      short_size (length t.ids),
      entries_size t.ids,
      few,
    )

marked_size : (e : Marked) → length (spelled_marked e) ≡ 11
unfolding spelled_marked
marked_size e = omega (arith, length-append (spelled_entry e.0) (byte (mark_code e.1)), entry_size e.0, byte_size (mark_code e.1))

all_marked_size : (k : KeptList) → length (flat_map spelled_marked k) ≡ 11 * length k
all_marked_size [] = omega arith
all_marked_size (e ∷ es) = cons_size spelled_marked e es ∙ omega (arith, marked_size e, all_marked_size es)

pub kept_size : (k : KeptList) → AreKept k → length (spelled_kept k) ≤ 22530
unfolding spelled_kept
kept_size k are =
    let few = (kept_parts k are.sorted).1 in
    omega (arith, length-append (short (length k)) (flat_map spelled_marked k), short_size (length k), all_marked_size k, few)
