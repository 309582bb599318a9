-- The spelling of a frame is of bytes.
use Rattle.std.proofs.Common.{ℕ, zero, suc, ◌<◌, ◌≤◌, Bool, true, false, List, [], ◌∷◌}
use Rattle.std.proofs.Common.{◌++◌, length, Option, Some, None, inl, inr, sym, subst, arith}
use Rattle.std.specs.List.{All, AllByRecursion, flat_map, position_or_len}
use Rattle.std.specs.Int.{byte_at, bytes_high_first}
use Rattle.std.proofs.lemmas.Bool.{cases_lt}
use Rattle.std.proofs.lemmas.List.{get_or_past}
use Rattle.std.proofs.lemmas.List.Concat.{flat_map-cons}
use Rattle.std.proofs.lemmas.List.Elements.{All-append, All-cons, All-from_get_or, All-get_or, All-nil, All-same}
use Rattle.hex.specs.Hex.{IsBytes}
use Rattle.cast_types.specs.declared.clock.Clock.{Clock}
use Rattle.cast_types.specs.declared.names.DomainNo.{DomainNo}
use Rattle.cast_types.specs.declared.names.GroupNo.{GroupNo}
use Rattle.cast_types.specs.declared.names.Kind.{Kind}
use Rattle.cast_types.specs.declared.names.Kind.TheVariants as kind
use Rattle.cast_types.specs.declared.names.Proc.{Proc}
use Rattle.cast_types.specs.declared.names.SiteNo.{SiteNo}
use Rattle.cast_types.specs.declared.names.Uid.{Uid}
use Rattle.cast_types.specs.Names.{Entry, proc_eq}
use Rattle.cast_types.proofs.CountLists.{counts_parts}
use Rattle.cast_message.specs.declared.message.Body.{Body}
use Rattle.cast_message.specs.declared.message.Body.TheVariants as body
use Rattle.cast_message.specs.declared.message.Message.{Message}
use Rattle.cast_message.specs.declared.site.Change.{Change}
use Rattle.cast_message.specs.declared.site.Change.TheVariants as change
use Rattle.cast_message.specs.declared.site.SiteFrame.{SiteFrame}
use Rattle.cast_message.specs.declared.site.SiteFrame.TheVariants.{Data, Ack, Stable, Ask, Asked, Prepare, Flushed}
use Rattle.cast_message.specs.declared.site.SiteFrame.TheVariants.{Want, Forward, Install, Installed, Out}
use Rattle.cast_message.specs.Bodies.{kind_of}
use Rattle.cast_message.specs.KeptIds.{KeptList, Marked}
use Rattle.cast_message.specs.Membership.{Membership}
use Rattle.cast_message.specs.Placement.{Placement}
use Rattle.cast_message.specs.Tail.{Tail}
use Rattle.cast_message.proofs.Places.{position_or_len_within}
use Rattle.cast_field.specs.Spelling.{byte, kind_code, mark_code, short, spelled_body, spelled_clock, spelled_counts, spelled_entry}
use Rattle.cast_field.specs.Spelling.{spelled_holder, spelled_kept, spelled_marked, spelled_members, spelled_message, spelled_new_holder}
use Rattle.cast_field.specs.Spelling.{spelled_payload, spelled_proc, spelled_sequence, spelled_tail, spelled_times, spelled_uid, word}
use Rattle.cast_field.specs.Spelled.{AreCounts, AreMembers, ArePlaced, AreTimes, IsBody, IsClock, IsMessage}
use Rattle.cast_field.proofs.Holders.{members_parts}
use Rattle.cast_field.proofs.Orders.{sequence_parts}
use Rattle.cast_field.proofs.Parts.{stamp_parts}
use Rattle.cast_frame.specs.Spelling.{change_code, frame_code, full_code, is_handing, spelled_fields, spelled_site, version_code}
use Rattle.cast_frame.specs.Spelled.{IsFrame, IsSpelled}
use Rattle.cast_print.specs.Printable.{IsByteBody, IsByteFrame}

abbrev IsByte : ℕ → Type 0
IsByte b = b < 256

-- all of a list are bytes
abbrev Fit : List ℕ → Type 0
Fit bytes = All IsByte bytes

both : (a b : List ℕ) → Fit a → Fit b → Fit (a ++ b)
both a b left right = All-append IsByte a b left right

all_fit : {A : Type 0} (spell : A → List ℕ) (P : A → Type 0) → ((x : A) → P x → Fit (spell x)) → (xs : List A) → AllByRecursion P xs →
    Fit (flat_map spell xs)
all_fit spell P one [] are = All-nil IsByte
all_fit spell P one (x ∷ xs) are =
    All-same IsByte (flat_map spell (x ∷ xs)) (spell x ++ flat_map spell xs) (flat_map-cons spell x xs)
    (both (spell x) (flat_map spell xs) (one x are.0) (all_fit spell P one xs are.1))

each_fit : {A : Type 0} (spell : A → List ℕ) → ((x : A) → Fit (spell x)) → (xs : List A) → Fit (flat_map spell xs)
each_fit spell one [] = All-nil IsByte
each_fit spell one (x ∷ xs) =
    All-same IsByte (flat_map spell (x ∷ xs)) (spell x ++ flat_map spell xs) (flat_map-cons spell x xs)
    (both (spell x) (flat_map spell xs) (one x) (each_fit spell one xs))

from_bytes : (bytes : List ℕ) → IsBytes bytes → Fit bytes
from_bytes bytes are = All-from_get_or IsByte bytes 0 (λ i inside. are i)

to_bytes : (bytes : List ℕ) → Fit bytes → IsBytes bytes
to_bytes bytes fit i =
    elim (cases_lt i (length bytes)) [
      | inl inside ↦ All-get_or IsByte bytes i 0 inside fit
      | inr past ↦ subst IsByte (sym (get_or_past bytes i 0 past)) (omega arith)
    ]

pub no_bytes : IsBytes []
no_bytes = to_bytes [] (All-nil IsByte)

-- ---- numbers

at_fits : (k n : ℕ) → byte_at k n < 256
at_fits zero n = omega arith
at_fits (suc k) n = omega arith

high_first_fits : (k n : ℕ) → Fit (bytes_high_first k n)
high_first_fits zero n = All-nil IsByte
high_first_fits (suc k) n = All-cons IsByte (byte_at k n) (bytes_high_first k n) (at_fits k n) (high_first_fits k n)

byte_fits : (n : ℕ) → n < 256 → Fit (byte n)
unfolding byte
byte_fits n small = All-cons IsByte n [] small (All-nil IsByte)

short_fits : (n : ℕ) → Fit (short n)
unfolding short
short_fits n = high_first_fits 2 n

word_fits : (n : ℕ) → Fit (word n)
unfolding word
word_fits n = high_first_fits 4 n

-- ---- fields

proc_fits : (p : Proc) → Fit (spelled_proc p)
unfolding spelled_proc
proc_fits p = both (short p.site.0) (word p.serial) (short_fits p.site.0) (word_fits p.serial)

entry_fits : (e : Entry) → Fit (spelled_entry e)
unfolding spelled_entry
entry_fits e = both (spelled_proc e.0) (word e.1) (proc_fits e.0) (word_fits e.1)

uid_fits : (u : Uid) → Fit (spelled_uid u)
unfolding spelled_uid
uid_fits u =
    both (short u.group.0) _ (short_fits u.group.0)
    (both (word u.view) _ (word_fits u.view) (both (spelled_proc u.proc) (word u.count) (proc_fits u.proc) (word_fits u.count)))

counts_fit : (c : List Entry) → AreCounts c → Fit (spelled_counts c)
unfolding spelled_counts
counts_fit c are =
    let few = (counts_parts c are.sorted).1 in
    both (byte (length c)) (flat_map spelled_entry c) (byte_fits (length c) (omega (arith, few))) (each_fit spelled_entry entry_fits c)

clock_fits : (e : GroupNo × Clock) → IsClock e → Fit (spelled_clock e)
unfolding spelled_clock
clock_fits e is =
    both (short e.0.0) _ (short_fits e.0.0)
    (both (word e.1.view) (spelled_counts e.1.counts) (word_fits e.1.view) (counts_fit e.1.counts is.counts))

times_fit : (t : List (GroupNo × Clock)) → AreTimes t → Fit (spelled_times t)
unfolding spelled_times
times_fit t are =
    let few = (stamp_parts t are.sorted).1.below in
    both (byte (length t)) (flat_map spelled_clock t) (byte_fits (length t) (omega (arith, few)))
    (all_fit spelled_clock IsClock clock_fits t are.clocks)

payload_fits : (payload : List ℕ) → IsBytes payload → Fit (spelled_payload payload)
unfolding spelled_payload
payload_fits payload are = both (short (length payload)) payload (short_fits (length payload)) (from_bytes payload are)

new_holder_fits : (o : Option Proc) → Fit (spelled_new_holder o)
unfolding spelled_new_holder
new_holder_fits None = All-nil IsByte
new_holder_fits (Some p) = proc_fits p

sequence_fits : (s : Placement) → ArePlaced s → Fit (spelled_sequence s)
unfolding spelled_sequence
sequence_fits s are =
    let few = (sequence_parts s are.short).1.below in
    both (word s.first) _ (word_fits s.first)
    (both (byte (length s.ids)) _ (byte_fits (length s.ids) (omega (arith, few)))
    (both (flat_map spelled_entry s.ids) (spelled_new_holder s.holder) (each_fit spelled_entry entry_fits s.ids)
    (new_holder_fits s.holder)))

body_fits : (b : Body) → IsBody b → IsByteBody b → Fit (spelled_body b)
unfolding spelled_body
body_fits (body.Causal payload) is are = payload_fits payload are
body_fits (body.Atomic payload) is are = payload_fits payload are
body_fits (body.Order s) is are = sequence_fits s is

kind_fits : (k : Kind) → kind_code k < 256
kind_fits kind.Causal = omega arith
kind_fits kind.Atomic = omega arith
kind_fits kind.Order = omega arith

message_fits : (m : Message) → IsMessage m → IsByteBody m.body → Fit (spelled_message m)
unfolding spelled_message
message_fits m is are =
    both (spelled_uid m.id) _ (uid_fits m.id)
    (both (byte (kind_code (kind_of m.body))) _ (byte_fits _ (kind_fits (kind_of m.body)))
    (both (spelled_times m.times) (spelled_body m.body) (times_fit m.times is.times) (body_fits m.body is.body are)))

holder_fits : (procs : List Proc) (holder : Option Proc) → length procs ≤ 64 → Fit (spelled_holder procs holder)
unfolding spelled_holder
holder_fits procs None few = All-nil IsByte
holder_fits procs (Some p) few = byte_fits (position_or_len (proc_eq p) procs) (omega (arith, position_or_len_within (proc_eq p) procs))

members_fit : (m : Membership) → AreMembers m → Fit (spelled_members m)
unfolding spelled_members
members_fit m are =
    let few = (members_parts m are.sorted).1 in
    both (byte (length m.list)) _ (byte_fits (length m.list) (omega (arith, few)))
    (both (flat_map spelled_proc m.list) (spelled_holder m.list m.holder) (each_fit spelled_proc proc_fits m.list)
    (holder_fits m.list m.holder (omega (arith, few))))

tail_fits : (t : Tail) → Fit (spelled_tail t)
unfolding spelled_tail
tail_fits t =
    both (word t.start) _ (word_fits t.start)
    (both (short (length t.ids)) (flat_map spelled_entry t.ids) (short_fits (length t.ids)) (each_fit spelled_entry entry_fits t.ids))

mark_fits : (mark : Bool) → mark_code mark < 256
mark_fits true = omega arith
mark_fits false = omega arith

marked_fits : (e : Marked) → Fit (spelled_marked e)
unfolding spelled_marked
marked_fits e = both (spelled_entry e.0) (byte (mark_code e.1)) (entry_fits e.0) (byte_fits (mark_code e.1) (mark_fits e.1))

kept_fits : (k : KeptList) → Fit (spelled_kept k)
unfolding spelled_kept
kept_fits k = both (short (length k)) (flat_map spelled_marked k) (short_fits (length k)) (each_fit spelled_marked marked_fits k)

-- ---- frames

change_fits : (c : Change) → change_code c < 256
change_fits change.Join = omega arith
change_fits change.Leave = omega arith

full_fits : (full : Bool) → full_code full < 256
full_fits true = omega arith
full_fits false = omega arith

named : (g : GroupNo) (n : ℕ) → Fit (short g.0 ++ word n)
named g n = both (short g.0) (word n) (short_fits g.0) (word_fits n)

fields_fit : (f : SiteFrame) → IsFrame f → IsByteFrame f → Fit (spelled_fields f)
unfolding spelled_fields
fields_fit (Data m) is are = message_fits m is are
fields_fit (Ack u) is are = uid_fits u
fields_fit (Stable u) is are = uid_fits u
fields_fit (Ask g n c p) is are =
    both (short g.0) _ (short_fits g.0)
    (both (word n) _ (word_fits n) (both (byte (change_code c)) (spelled_proc p) (byte_fits (change_code c) (change_fits c)) (proc_fits p)))
fields_fit (Asked g n full) is are =
    both (short g.0) _ (short_fits g.0) (both (word n) (byte (full_code full)) (word_fits n) (byte_fits (full_code full) (full_fits full)))
fields_fit (Prepare g view) is are = named g view
fields_fit (Flushed g view counts tail kept) is are =
    both (short g.0) _ (short_fits g.0)
    (both (word view) _ (word_fits view)
    (both (spelled_counts counts) _ (counts_fit counts is.counts)
    (both (spelled_tail tail) (spelled_kept kept) (tail_fits tail) (kept_fits kept))))
fields_fit (Want u) is are = uid_fits u
fields_fit (Forward m) is are = message_fits m is are
fields_fit (Install g view members request cut tail) is are =
    both (short g.0) _ (short_fits g.0)
    (both (word view) _ (word_fits view)
    (both (spelled_members members) _ (members_fit members is.members)
    (both (word request) _ (word_fits request) (both (spelled_counts cut) (spelled_tail tail) (counts_fit cut is.cut) (tail_fits tail)))))
fields_fit (Installed g view) is are = named g view
fields_fit (Out g view) is are = named g view

code_fits : (f : SiteFrame) → frame_code f < 256
code_fits (Data m) = omega arith
code_fits (Ack u) = omega arith
code_fits (Stable u) = omega arith
code_fits (Ask g n c p) = omega arith
code_fits (Asked g n full) = omega arith
code_fits (Prepare g view) = omega arith
code_fits (Flushed g view counts tail kept) = omega arith
code_fits (Want u) = omega arith
code_fits (Forward m) = omega arith
code_fits (Install g view members request cut tail) = omega arith
code_fits (Installed g view) = omega arith
code_fits (Out g view) = omega arith

version_fits : (handing : Bool) → version_code handing < 256
version_fits true = omega arith
version_fits false = omega arith

pub frame_bytes : (d : DomainNo) (s : SiteNo) (f : SiteFrame) → IsSpelled d s f → IsByteFrame f → IsBytes (spelled_site d s f)
unfolding spelled_site
frame_bytes d s f is are =
    to_bytes (spelled_site d s f)
    (both (short 0x4344) _ (short_fits 0x4344)
    (both (byte (version_code (is_handing f))) _ (byte_fits _ (version_fits (is_handing f)))
    (both (byte (frame_code f)) _ (byte_fits (frame_code f) (code_fits f))
    (both (byte d.0) _ (byte_fits d.0 (omega (arith, is.domain.below)))
    (both (short s.0) (spelled_fields f) (short_fits s.0) (fields_fit f is.frame are))))))
