-- Values of their types are told apart by what they spell, whatever bytes follow.
use Rattle.std.proofs.Common.{◌≡◌, ℕ, ◌+◌, ◌^◌, ◌<◌, ◌≤◌, Bool, true, false, List, [], ◌∷◌, ◌++◌, length, take, drop, Option, Some, None}
use Rattle.std.proofs.Common.{refl, sym, ap, subst, ◌∙◌, append_assoc, arith, inl, inr, lit<}
use Rattle.std.specs.Prelude.{is_some}
use Rattle.std.specs.List.{flat_map, list_any, position_or_len, AllByRecursion}
use Rattle.std.specs.Int.{Width, w16, w32, byte_len, from_be_bytes, to_be_bytes}
use Rattle.std.proofs.lemmas.Bool.{cases_Bool, eqb-true, false≢true}
use Rattle.std.proofs.lemmas.List.{take_at, drop_at}
use Rattle.std.proofs.lemmas.List.Concat.{flat_map-cons}
use Rattle.cast_types.specs.declared.names.DomainNo.{DomainNo}
use Rattle.cast_types.specs.declared.names.SiteNo.{SiteNo}
use Rattle.cast_types.specs.declared.names.GroupNo.{GroupNo}
use Rattle.cast_types.specs.declared.names.Proc.{Proc}
use Rattle.cast_types.specs.Names.{Entry, proc_eq}
use Rattle.cast_types.proofs.Orders.{same_proc}
use Rattle.cast_message.specs.declared.message.Body.{Body}
use Rattle.cast_message.specs.declared.message.Body.TheVariants as body
use Rattle.cast_message.specs.declared.message.Message.{Message}
use Rattle.cast_message.specs.declared.site.Change.{Change}
use Rattle.cast_message.specs.declared.site.Change.TheVariants.{Join, Leave}
use Rattle.cast_message.specs.declared.site.SiteFrame.{SiteFrame}
use Rattle.cast_message.specs.declared.site.SiteFrame.TheVariants.{Data, Ack, Stable, Ask, Asked, Prepare, Flushed}
use Rattle.cast_message.specs.declared.site.SiteFrame.TheVariants.{Want, Forward, Install, Installed, Out}
use Rattle.cast_message.specs.Bodies.{hands_over, kind_of}
use Rattle.cast_message.specs.Membership.{Membership, is_held}
use Rattle.cast_message.specs.Tail.{Tail}
use Rattle.cast_message.specs.Placement.{Placement}
use Rattle.cast_message.specs.KeptIds.{KeptList}
use Rattle.cast_field.specs.Spelling.{byte, short, word, spelled_proc, spelled_entry, spelled_uid, spelled_counts, spelled_clock}
use Rattle.cast_field.specs.Spelling.{spelled_times, spelled_payload, spelled_new_holder, spelled_sequence, kind_code, spelled_body}
use Rattle.cast_field.specs.Spelling.{spelled_message}
use Rattle.cast_field.specs.Spelling.{spelled_holder, spelled_members, spelled_tail, mark_code, spelled_marked, spelled_kept}
use Rattle.cast_field.proofs.Fields.{IsWide, wide16, wide32}
use Rattle.cast_field.proofs.Holders.{members_parts}
use Rattle.cast_field.proofs.Orders.{kept_parts, sequence_parts, stretch_parts}
use Rattle.cast_frame.specs.Spelling.{change_code, full_code, frame_code, is_handing, version_code, spelled_fields, spelled_site}
use Rattle.cast_datagrams.specs.Laws.{SpellingsOfTypesDiffer}
use Rattle.cast_datagrams.specs.Typed.{IsShort, IsWord, FitsProc, FitsEntry, FitsUid, FitCounts, FitsClock, FitTimes, FitsNewHolder}
use Rattle.cast_datagrams.specs.Typed.{FitPlaces, FitsBody, FitsMessage, FitMembers, FitsTail, FitsMarked, FitKept, FitsType}

-- the value and the bytes behind it are the same where the whole is
abbrev Apart : {A : Type 0} → (A → List ℕ) → (A → Type 0) → Type 0
Apart {A = A} spell Fits =
    (x y : A) (r q : List ℕ) → Fits x → Fits y → spell x ++ r ≡ spell y ++ q → (x ≡ y) × (r ≡ q)

abbrev Whatever : {A : Type 0} → A → Type 0
Whatever x = Unit {0}

byte_apart : Apart byte Whatever
unfolding byte
byte_apart x y r q fx fy e = (cc, cc)

number_apart : (w : Width) (limit : ℕ) → IsWide w limit → Apart (to_be_bytes w) (λ (n : ℕ). n < limit)
number_apart w limit wide x y r q fx fy e =
    let front : to_be_bytes w x ≡ to_be_bytes w y =
    sym (take_at (to_be_bytes w x) r (byte_len w) (wide.len x))
    ∙ ap (take (byte_len w)) e
    ∙ take_at (to_be_bytes w y) q (byte_len w) (wide.len y) in (
      sym (wide.again x fx) ∙ ap (from_be_bytes w) front ∙ wide.again y fy,
      sym (drop_at (to_be_bytes w x) r (byte_len w) (wide.len x))
          ∙ ap (drop (byte_len w)) e
          ∙ drop_at (to_be_bytes w y) q (byte_len w) (wide.len y),
    )

short_apart : Apart short IsShort
unfolding short
short_apart = number_apart w16 (2 ^ 16) wide16

word_apart : Apart word IsWord
unfolding word
word_apart = number_apart w32 (2 ^ 32) wide32

-- two values one behind the other
both_apart : {A B : Type 0} (a : A → List ℕ) (b : B → List ℕ) (P : A → Type 0) (Q : B → Type 0) → Apart a P → Apart b Q →
    Apart (λ (z : A × B). a z.0 ++ b z.1) (λ (z : A × B). P z.0 × Q z.1)
both_apart a b P Q one two x y r q fx fy e =
    let first =
    one x.0 y.0 (b x.1 ++ r) (b y.1 ++ q) fx.0 fy.0 (sym (append_assoc (a x.0) (b x.1) r) ∙ e ∙ append_assoc (a y.0) (b y.1) q) in
    let second = two x.1 y.1 r q fx.1 fy.1 first.1 in
    ((λ i. (first.0 i, second.0 i)), second.1)

-- lists of one length
all_apart : {A : Type 0} (spell : A → List ℕ) (P : A → Type 0) → Apart spell P → (xs ys : List A) (r q : List ℕ) → length xs ≡ length ys →
    AllByRecursion P xs → AllByRecursion P ys → flat_map spell xs ++ r ≡ flat_map spell ys ++ q → (xs ≡ ys) × (r ≡ q)
all_apart spell P one [] [] r q same fx fy e = (refl, e)
all_apart spell P one [] (y ∷ ys) r q same fx fy e = absurd (omega (arith, same))
all_apart spell P one (x ∷ xs) [] r q same fx fy e = absurd (omega (arith, same))
all_apart spell P one (x ∷ xs) (y ∷ ys) r q same fx fy e =
    let apart : spell x ++ (flat_map spell xs ++ r) ≡ spell y ++ (flat_map spell ys ++ q) =
    sym (ap (λ (t : List ℕ). t ++ r) (flat_map-cons spell x xs) ∙ append_assoc (spell x) (flat_map spell xs) r)
    ∙ e
    ∙ (ap (λ (t : List ℕ). t ++ q) (flat_map-cons spell y ys) ∙ append_assoc (spell y) (flat_map spell ys) q) in
    let first = one x y (flat_map spell xs ++ r) (flat_map spell ys ++ q) fx.0 fy.0 apart in
    let others = all_apart spell P one xs ys r q (omega (arith, same)) fx.1 fy.1 first.1 in
    ((λ i. first.0 i ∷ others.0 i), others.1)

-- a list behind its length, which is written by count
counted_apart : {A : Type 0} (count : ℕ → List ℕ) (Few : ℕ → Type 0) (spell : A → List ℕ) (P : A → Type 0) → Apart count Few →
    Apart spell P → Apart (λ (xs : List A). count (length xs) ++ flat_map spell xs) (λ (xs : List A). Few (length xs) × AllByRecursion P xs)
counted_apart count Few spell P counts one x y r q fx fy e =
    let first =
    counts (length x) (length y) (flat_map spell x ++ r) (flat_map spell y ++ q) fx.0 fy.0
    (sym (append_assoc (count (length x)) (flat_map spell x) r) ∙ e ∙ append_assoc (count (length y)) (flat_map spell y) q) in
    all_apart spell P one x y r q first.0 fx.1 fy.1 first.1

proc_apart : Apart spelled_proc FitsProc
unfolding spelled_proc
proc_apart x y r q fx fy e =
    let z =
    both_apart short word IsShort IsWord short_apart word_apart (x.site.0, x.serial) (y.site.0, y.serial) r q
    (fx.site, fx.serial) (fy.site, fy.serial) e in
    ((λ i. record { site = record { 0 = (z.0 i).0 }; serial = (z.0 i).1 }), z.1)

entry_apart : Apart spelled_entry FitsEntry
unfolding spelled_entry
entry_apart x y r q fx fy e =
    both_apart spelled_proc word FitsProc IsWord proc_apart word_apart x y r q (fx.proc, fx.count) (fy.proc, fy.count) e

uid_apart : Apart spelled_uid FitsUid
unfolding spelled_uid
uid_apart x y r q fx fy e =
    let z =
    both_apart short (λ (u : ℕ × (Proc × ℕ)). word u.0 ++ (spelled_proc u.1.0 ++ word u.1.1)) IsShort
    (λ (u : ℕ × (Proc × ℕ)). IsWord u.0 × (FitsProc u.1.0 × IsWord u.1.1)) short_apart
    (both_apart word (λ (u : Proc × ℕ). spelled_proc u.0 ++ word u.1) IsWord (λ (u : Proc × ℕ). FitsProc u.0 × IsWord u.1) word_apart
    (both_apart spelled_proc word FitsProc IsWord proc_apart word_apart))
    (x.group.0, (x.view, (x.proc, x.count))) (y.group.0, (y.view, (y.proc, y.count))) r q
    (fx.group, (fx.view, (fx.proc, fx.count))) (fy.group, (fy.view, (fy.proc, fy.count))) e in
    ((λ i. record { group = record { 0 = (z.0 i).0 }; view = (z.0 i).1.0; proc = (z.0 i).1.1.0; count = (z.0 i).1.1.1 }), z.1)

counts_apart : Apart spelled_counts FitCounts
unfolding spelled_counts
counts_apart x y r q fx fy e =
    counted_apart byte Whatever spelled_entry FitsEntry byte_apart entry_apart x y r q (tt, fx.entries) (tt, fy.entries) e

clock_apart : Apart spelled_clock FitsClock
unfolding spelled_clock
clock_apart x y r q fx fy e =
    let z =
    both_apart short (λ (u : ℕ × List Entry). word u.0 ++ spelled_counts u.1) IsShort
    (λ (u : ℕ × List Entry). IsWord u.0 × FitCounts u.1) short_apart
    (both_apart word spelled_counts IsWord FitCounts word_apart counts_apart) (x.0.0, (x.1.view, x.1.counts))
    (y.0.0, (y.1.view, y.1.counts)) r q (fx.group, (fx.view, fx.counts)) (fy.group, (fy.view, fy.counts)) e in
    ((λ i. (record { 0 = (z.0 i).0 }, record { view = (z.0 i).1.0; counts = (z.0 i).1.1 })), z.1)

times_apart : Apart spelled_times FitTimes
unfolding spelled_times
times_apart x y r q fx fy e =
    counted_apart byte Whatever spelled_clock FitsClock byte_apart clock_apart x y r q (tt, fx.clocks) (tt, fy.clocks) e

payload_apart : Apart spelled_payload (λ (p : List ℕ). length p ≤ 16384)
unfolding spelled_payload
payload_apart x y r q fx fy e =
    let first =
    short_apart (length x) (length y) (x ++ r) (y ++ q) (omega (arith, fx)) (omega (arith, fy))
    (sym (append_assoc (short (length x)) x r) ∙ e ∙ append_assoc (short (length y)) y q) in (
      sym (take_at x r (length x) refl) ∙ ap (take (length x)) first.1 ∙ take_at y q (length x) (sym first.0),
      sym (drop_at x r (length x) refl) ∙ ap (drop (length x)) first.1 ∙ drop_at y q (length x) (sym first.0),
    )

-- the holders of two messages, of which both hand over the token or neither does
new_holder_apart : (x y : Option Proc) (r q : List ℕ) → FitsNewHolder x → FitsNewHolder y → is_some x ≡ is_some y →
    spelled_new_holder x ++ r ≡ spelled_new_holder y ++ q → (x ≡ y) × (r ≡ q)
unfolding spelled_new_holder
new_holder_apart None None r q fx fy same e = (refl, e)
new_holder_apart None (Some p) r q fx fy same e = absurd (false≢true same)
new_holder_apart (Some p) None r q fx fy same e = absurd (false≢true (sym same))
new_holder_apart (Some p) (Some o) r q fx fy same e = let z = proc_apart p o r q fx fy e in ((λ i. Some (z.0 i)), z.1)

sequence_apart : (x y : Placement) (r q : List ℕ) → IsWord x.first → IsWord y.first → FitPlaces x → FitPlaces y →
    is_some x.holder ≡ is_some y.holder → spelled_sequence x ++ r ≡ spelled_sequence y ++ q → (x ≡ y) × (r ≡ q)
unfolding spelled_sequence
sequence_apart x y r q small_x small_y fx fy same e =
    let behind : Placement → List ℕ = λ s. flat_map spelled_entry s.ids ++ spelled_new_holder s.holder in
    let apart : (s : Placement) (t : List ℕ) → (word s.first ++ (byte (length s.ids) ++ behind s)) ++ t
    ≡ word s.first ++ (byte (length s.ids) ++ (flat_map spelled_entry s.ids ++ (spelled_new_holder s.holder ++ t))) =
    λ s t. append_assoc (word s.first) (byte (length s.ids) ++ behind s) t
    ∙ ap (λ (u : List ℕ). word s.first ++ u) (append_assoc (byte (length s.ids)) (behind s) t
    ∙ ap (λ (u : List ℕ). byte (length s.ids) ++ u) (append_assoc (flat_map spelled_entry s.ids) (spelled_new_holder s.holder) t)) in
    let one =
    word_apart x.first y.first (byte (length x.ids) ++ (flat_map spelled_entry x.ids ++ (spelled_new_holder x.holder ++ r)))
    (byte (length y.ids) ++ (flat_map spelled_entry y.ids ++ (spelled_new_holder y.holder ++ q))) small_x small_y
    (sym (apart x r) ∙ e ∙ apart y q) in
    let two =
    byte_apart (length x.ids) (length y.ids) (flat_map spelled_entry x.ids ++ (spelled_new_holder x.holder ++ r))
    (flat_map spelled_entry y.ids ++ (spelled_new_holder y.holder ++ q)) tt tt one.1 in
    let three =
    all_apart spelled_entry FitsEntry entry_apart x.ids y.ids (spelled_new_holder x.holder ++ r) (spelled_new_holder y.holder ++ q)
    two.0 fx.ids fy.ids two.1 in
    let four = new_holder_apart x.holder y.holder r q fx.holder fy.holder same three.1 in
    ((λ i. record { first = one.0 i; ids = three.0 i; holder = four.0 i }), four.1)

small_first : (s : Placement) → FitPlaces s → IsWord s.first
small_first s fits = let parts = sequence_parts s fits.short in omega (arith, parts.0.below)

body_apart : (x y : Body) (r q : List ℕ) → FitsBody x → FitsBody y → kind_code (kind_of x) ≡ kind_code (kind_of y) →
    hands_over x ≡ hands_over y → spelled_body x ++ r ≡ spelled_body y ++ q → (x ≡ y) × (r ≡ q)
unfolding spelled_body
body_apart (body.Causal x) (body.Causal y) r q fx fy kind same e =
    let z = payload_apart x y r q fx fy e in ((λ i. body.Causal (z.0 i)), z.1)
body_apart (body.Atomic x) (body.Atomic y) r q fx fy kind same e =
    let z = payload_apart x y r q fx fy e in ((λ i. body.Atomic (z.0 i)), z.1)
body_apart (body.Order x) (body.Order y) r q fx fy kind same e =
    let z = sequence_apart x y r q (small_first x fx) (small_first y fy) fx fy same e in ((λ i. body.Order (z.0 i)), z.1)
body_apart x y r q fx fy kind same e = absurd (omega (arith, kind))

message_apart : (x y : Message) (r q : List ℕ) → FitsMessage x → FitsMessage y → hands_over x.body ≡ hands_over y.body →
    spelled_message x ++ r ≡ spelled_message y ++ q → (x ≡ y) × (r ≡ q)
unfolding spelled_message
message_apart x y r q fx fy same e =
    let code : Message → List ℕ = λ m. byte (kind_code (kind_of m.body)) in
    let apart : (m : Message) (t : List ℕ) → (spelled_uid m.id ++ (code m ++ (spelled_times m.times ++ spelled_body m.body))) ++ t
    ≡ spelled_uid m.id ++ (code m ++ (spelled_times m.times ++ (spelled_body m.body ++ t))) =
    λ m t. append_assoc (spelled_uid m.id) (code m ++ (spelled_times m.times ++ spelled_body m.body)) t
    ∙ ap (λ (u : List ℕ). spelled_uid m.id ++ u) (append_assoc (code m) (spelled_times m.times ++ spelled_body m.body) t
    ∙ ap (λ (u : List ℕ). code m ++ u) (append_assoc (spelled_times m.times) (spelled_body m.body) t)) in
    let one =
    uid_apart x.id y.id (code x ++ (spelled_times x.times ++ (spelled_body x.body ++ r)))
    (code y ++ (spelled_times y.times ++ (spelled_body y.body ++ q))) fx.id fy.id (sym (apart x r) ∙ e ∙ apart y q) in
    let two =
    byte_apart (kind_code (kind_of x.body)) (kind_code (kind_of y.body)) (spelled_times x.times ++ (spelled_body x.body ++ r))
    (spelled_times y.times ++ (spelled_body y.body ++ q)) tt tt one.1 in
    let three = times_apart x.times y.times (spelled_body x.body ++ r) (spelled_body y.body ++ q) fx.times fy.times two.1 in
    let four = body_apart x.body y.body r q fx.body fy.body two.0 same three.1 in
    ((λ i. record { id = one.0 i; times = three.0 i; body = four.0 i }), four.1)

-- of the processes in a list, each is told by the first place where it stands
named_apart : (ps : List Proc) (p o : Proc) → list_any (proc_eq p) ps ≡ true → list_any (proc_eq o) ps ≡ true →
    position_or_len (proc_eq p) ps ≡ position_or_len (proc_eq o) ps → p ≡ o
named_apart [] p o here there same = absurd (false≢true here)
named_apart (x ∷ ps) p o here there same = elim (cases_Bool (proc_eq p x)) [
  | inl is ↦ elim (cases_Bool (proc_eq o x)) [
    | inl its ↦ same_proc p x is ∙ sym (same_proc o x its)
    | inr other ↦ absurd (omega (arith, rw (is, other) at same))
  ]
  | inr other ↦ elim (cases_Bool (proc_eq o x)) [
    | inl its ↦ absurd (omega (arith, rw (other, its) at same))
    | inr differs ↦
        let places : 1 + position_or_len (proc_eq p) ps ≡ 1 + position_or_len (proc_eq o) ps = rw (other, differs) at same in
        named_apart ps p o (rw other at here) (rw differs at there) (omega (arith, places))
  ]
]

holder_apart : (ps : List Proc) (x y : Option Proc) (r q : List ℕ) → is_held ps x ≡ true → is_held ps y ≡ true →
    spelled_holder ps x ++ r ≡ spelled_holder ps y ++ q → (x ≡ y) × (r ≡ q)
unfolding spelled_holder
holder_apart ps None None r q hx hy e = (refl, e)
holder_apart [] None (Some o) r q hx hy e = absurd (false≢true hy)
holder_apart (p ∷ ps) None (Some o) r q hx hy e = absurd (omega (arith, eqb-true (length (p ∷ ps)) 0 hx))
holder_apart [] (Some p) None r q hx hy e = absurd (false≢true hx)
holder_apart (p ∷ ps) (Some o) None r q hx hy e = absurd (omega (arith, eqb-true (length (p ∷ ps)) 0 hy))
holder_apart ps (Some p) (Some o) r q hx hy e =
    let z = byte_apart (position_or_len (proc_eq p) ps) (position_or_len (proc_eq o) ps) r q tt tt e in
    (ap Some (named_apart ps p o hx hy z.0), z.1)

members_apart : Apart spelled_members FitMembers
unfolding spelled_members
members_apart x y r q fx fy e =
    let apart : (m : Membership) (t : List ℕ) →
    (byte (length m.list) ++ (flat_map spelled_proc m.list ++ spelled_holder m.list m.holder)) ++ t
    ≡ byte (length m.list) ++ (flat_map spelled_proc m.list ++ (spelled_holder m.list m.holder ++ t)) =
    λ m t. append_assoc (byte (length m.list)) (flat_map spelled_proc m.list ++ spelled_holder m.list m.holder) t
    ∙ ap (λ (u : List ℕ). byte (length m.list) ++ u) (append_assoc (flat_map spelled_proc m.list) (spelled_holder m.list m.holder) t) in
    let one =
    byte_apart (length x.list) (length y.list) (flat_map spelled_proc x.list ++ (spelled_holder x.list x.holder ++ r))
    (flat_map spelled_proc y.list ++ (spelled_holder y.list y.holder ++ q)) tt tt (sym (apart x r) ∙ e ∙ apart y q) in
    let two =
    all_apart spelled_proc FitsProc proc_apart x.list y.list (spelled_holder x.list x.holder ++ r) (spelled_holder y.list y.holder ++ q)
    one.0 fx.procs fy.procs one.1 in
    let held : is_held x.list y.holder ≡ true =
    subst (λ (ps : List Proc). is_held ps y.holder ≡ true) (sym two.0) (members_parts y fy.sorted).2 in
    let three =
    holder_apart x.list x.holder y.holder r q (members_parts x fx.sorted).2 held
    (two.1 ∙ ap (λ (ps : List Proc). spelled_holder ps y.holder ++ q) (sym two.0)) in
    ((λ i. record { list = two.0 i; holder = three.0 i }), three.1)

tail_apart : Apart spelled_tail FitsTail
unfolding spelled_tail
tail_apart x y r q fx fy e =
    let px = stretch_parts x fx.short in
    let py = stretch_parts y fy.short in
    let z =
    both_apart word (λ (ids : List Entry). short (length ids) ++ flat_map spelled_entry ids) IsWord
    (λ (ids : List Entry). IsShort (length ids) × AllByRecursion FitsEntry ids) word_apart
    (counted_apart short IsShort spelled_entry FitsEntry short_apart entry_apart) (x.start, x.ids) (y.start, y.ids) r q
    (omega (arith, px.0), (omega (arith, px.1), fx.ids)) (omega (arith, py.0), (omega (arith, py.1), fy.ids)) e in
    ((λ i. record { start = (z.0 i).0; ids = (z.0 i).1 }), z.1)

mark_is : (a b : Bool) → mark_code a ≡ mark_code b → a ≡ b
mark_is true true e = refl
mark_is false false e = refl
mark_is a b e = absurd (omega (arith, e))

marked_apart : Apart spelled_marked FitsMarked
unfolding spelled_marked
marked_apart x y r q fx fy e =
    let z =
    both_apart spelled_entry byte FitsEntry Whatever entry_apart byte_apart (x.0, mark_code x.1) (y.0, mark_code y.1) r q
    (fx, tt) (fy, tt) e in
    let mark : x.1 ≡ y.1 = mark_is x.1 y.1 (λ i. (z.0 i).1) in
    ((λ i. ((z.0 i).0, mark i)), z.1)

kept_apart : Apart spelled_kept FitKept
unfolding spelled_kept
kept_apart x y r q fx fy e =
    let px = kept_parts x fx.sorted in
    let py = kept_parts y fy.sorted in
    counted_apart short IsShort spelled_marked FitsMarked short_apart marked_apart x y r q
    (omega (arith, px.1), fx.ids) (omega (arith, py.1), fy.ids) e

-- Frames

change_is : (a b : Change) → change_code a ≡ change_code b → a ≡ b
change_is Join Join e = refl
change_is Leave Leave e = refl
change_is a b e = absurd (omega (arith, e))

full_is : (a b : Bool) → full_code a ≡ full_code b → a ≡ b
full_is true true e = refl
full_is false false e = refl
full_is a b e = absurd (omega (arith, e))

handing_is : (a b : Bool) → version_code a ≡ version_code b → a ≡ b
handing_is true true e = refl
handing_is false false e = refl
handing_is a b e = absurd (omega (arith, e))

-- a group and a view or the number of a request, with whatever follows
named_so : (g h : GroupNo) (v u : ℕ) (a b r q : List ℕ) → IsShort g.0 → IsShort h.0 → IsWord v → IsWord u →
    (short g.0 ++ (word v ++ a)) ++ r ≡ (short h.0 ++ (word u ++ b)) ++ q → (g ≡ h) × (v ≡ u) × (a ++ r ≡ b ++ q)
named_so g h v u a b r q fg fh fv fu e =
    let apart : (k : ℕ) (w : ℕ) (c t : List ℕ) → (short k ++ (word w ++ c)) ++ t ≡ short k ++ (word w ++ (c ++ t)) =
    λ k w c t. append_assoc (short k) (word w ++ c) t ∙ ap (λ (z : List ℕ). short k ++ z) (append_assoc (word w) c t) in
    let one = short_apart g.0 h.0 (word v ++ (a ++ r)) (word u ++ (b ++ q)) fg fh (sym (apart g.0 v a r) ∙ e ∙ apart h.0 u b q) in
    let two = word_apart v u (a ++ r) (b ++ q) fv fu one.1 in
    ((λ i. record { 0 = one.0 i }), two.0, two.1)

-- the same with nothing more
named_only : (g h : GroupNo) (v u : ℕ) (r q : List ℕ) → IsShort g.0 × IsWord v → IsShort h.0 × IsWord u →
    (short g.0 ++ word v) ++ r ≡ (short h.0 ++ word u) ++ q → (g ≡ h) × (v ≡ u)
named_only g h v u r q fx fy e =
    let z = both_apart short word IsShort IsWord short_apart word_apart (g.0, v) (h.0, u) r q fx fy e in
    ((λ i. record { 0 = (z.0 i).0 }), λ i. (z.0 i).1)

fields_apart : (f g : SiteFrame) (r q : List ℕ) → FitsType f → FitsType g → frame_code f ≡ frame_code g → is_handing f ≡ is_handing g →
    spelled_fields f ++ r ≡ spelled_fields g ++ q → f ≡ g
unfolding spelled_fields
fields_apart (Data m) (Data n) r q fx fy code same e = ap Data (message_apart m n r q fx fy same e).0
fields_apart (Ack u) (Ack v) r q fx fy code same e = ap Ack (uid_apart u v r q fx fy e).0
fields_apart (Stable u) (Stable v) r q fx fy code same e = ap Stable (uid_apart u v r q fx fy e).0
fields_apart (Ask g n c p) (Ask h m d o) r q fx fy code same e =
    let one =
    named_so g h n m (byte (change_code c) ++ spelled_proc p) (byte (change_code d) ++ spelled_proc o) r q fx.0 fy.0 fx.1 fy.1 e in
    let two =
    both_apart byte spelled_proc Whatever FitsProc byte_apart proc_apart (change_code c, p) (change_code d, o) r q (tt, fx.2) (tt, fy.2)
    one.2 in
    let change : c ≡ d = change_is c d (λ i. (two.0 i).0) in
    λ i. Ask (one.0 i) (one.1 i) (change i) (two.0 i).1
fields_apart (Asked g n full) (Asked h m whole) r q fx fy code same e =
    let one = named_so g h n m (byte (full_code full)) (byte (full_code whole)) r q fx.0 fy.0 fx.1 fy.1 e in
    let two : full ≡ whole = full_is full whole (byte_apart (full_code full) (full_code whole) r q tt tt one.2).0 in
    λ i. Asked (one.0 i) (one.1 i) (two i)
fields_apart (Prepare g v) (Prepare h u) r q fx fy code same e =
    let z = named_only g h v u r q fx fy e in λ i. Prepare (z.0 i) (z.1 i)
fields_apart (Flushed g v c t k) (Flushed h u d s l) r q fx fy code same e =
    let one =
    named_so g h v u (spelled_counts c ++ (spelled_tail t ++ spelled_kept k)) (spelled_counts d ++ (spelled_tail s ++ spelled_kept l)) r q
    fx.group fy.group fx.view fy.view e in
    let two =
    both_apart spelled_counts (λ (z : Tail × KeptList). spelled_tail z.0 ++ spelled_kept z.1) FitCounts
    (λ (z : Tail × KeptList). FitsTail z.0 × FitKept z.1) counts_apart
    (both_apart spelled_tail spelled_kept FitsTail FitKept tail_apart kept_apart) (c, (t, k)) (d, (s, l)) r q
    (fx.counts, (fx.tail, fx.kept)) (fy.counts, (fy.tail, fy.kept)) one.2 in
    λ i. Flushed (one.0 i) (one.1 i) (two.0 i).0 (two.0 i).1.0 (two.0 i).1.1
fields_apart (Want u) (Want v) r q fx fy code same e = ap Want (uid_apart u v r q fx fy e).0
fields_apart (Forward m) (Forward n) r q fx fy code same e = ap Forward (message_apart m n r q fx fy same e).0
fields_apart (Install g v m n c t) (Install h u o k d s) r q fx fy code same e =
    let one =
    named_so g h v u (spelled_members m ++ (word n ++ (spelled_counts c ++ spelled_tail t)))
    (spelled_members o ++ (word k ++ (spelled_counts d ++ spelled_tail s))) r q fx.group fy.group fx.view fy.view e in
    let two =
    both_apart spelled_members (λ (z : ℕ × (List Entry × Tail)). word z.0 ++ (spelled_counts z.1.0 ++ spelled_tail z.1.1)) FitMembers
    (λ (z : ℕ × (List Entry × Tail)). IsWord z.0 × (FitCounts z.1.0 × FitsTail z.1.1)) members_apart
    (both_apart word (λ (z : List Entry × Tail). spelled_counts z.0 ++ spelled_tail z.1) IsWord
    (λ (z : List Entry × Tail). FitCounts z.0 × FitsTail z.1) word_apart
    (both_apart spelled_counts spelled_tail FitCounts FitsTail counts_apart tail_apart))
    (m, (n, (c, t))) (o, (k, (d, s))) r q (fx.members, (fx.request, (fx.cut, fx.tail))) (fy.members, (fy.request, (fy.cut, fy.tail)))
    one.2 in
    λ i. Install (one.0 i) (one.1 i) (two.0 i).0 (two.0 i).1.0 (two.0 i).1.1.0 (two.0 i).1.1.1
fields_apart (Installed g v) (Installed h u) r q fx fy code same e =
    let z = named_only g h v u r q fx fy e in λ i. Installed (z.0 i) (z.1 i)
fields_apart (Out g v) (Out h u) r q fx fy code same e = let z = named_only g h v u r q fx fy e in λ i. Out (z.0 i) (z.1 i)
fields_apart f g r q fx fy code same e = absurd (omega (arith, code))

pub spellings_of_types_differ : SpellingsOfTypesDiffer
unfolding spelled_site
spellings_of_types_differ d e s t f g fs ft ff fg same =
    let after_site : SiteNo → SiteFrame → List ℕ = λ a b. short a.0 ++ spelled_fields b in
    let after_code : DomainNo → SiteNo → SiteFrame → List ℕ = λ x a b. byte x.0 ++ after_site a b in
    let after_version : DomainNo → SiteNo → SiteFrame → List ℕ = λ x a b. byte (frame_code b) ++ after_code x a b in
    let after_magic : DomainNo → SiteNo → SiteFrame → List ℕ = λ x a b. byte (version_code (is_handing b)) ++ after_version x a b in
    let magic = short_apart 0x4344 0x4344 (after_magic d s f) (after_magic e t g) (lit< tt) (lit< tt) same in
    let version =
    byte_apart (version_code (is_handing f)) (version_code (is_handing g)) (after_version d s f) (after_version e t g) tt tt magic.1 in
    let code = byte_apart (frame_code f) (frame_code g) (after_code d s f) (after_code e t g) tt tt version.1 in
    let domain = byte_apart d.0 e.0 (after_site s f) (after_site t g) tt tt code.1 in
    let site = short_apart s.0 t.0 (spelled_fields f) (spelled_fields g) fs ft domain.1 in (
      (λ i. record { 0 = domain.0 i }),
      (λ i. record { 0 = site.0 i }),
      fields_apart f g [] [] ff fg code.0 (handing_is (is_handing f) (is_handing g) version.0)
          (ap (λ (u : List ℕ). u ++ []) site.1),
    )
