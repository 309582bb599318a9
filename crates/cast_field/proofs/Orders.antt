-- The ids of tails, of placements and of kept messages are read as they were spelled.
use Rattle.std.proofs.Common.{◌≡◌, ℕ, ◌≤◌, ◌<◌, ◌^◌, Bool, true, false, ◌&&◌, eqb, List, [], ◌∷◌, ◌++◌, length, Option}
use Rattle.std.proofs.Common.{Some, None, Ok, refl, sym, ap, subst, ◌∙◌, append_assoc, arith, lit≤, lit<, inl, inr}
use Rattle.std.specs.Prelude.{nat_le, ◌||◌, is_some}
use Rattle.std.specs.List.{flat_map, AllByRecursion}
use Rattle.std.specs.Int.{w16, w32}
use Rattle.std.specs.FinMap.Entries.{is_sorted}
use Rattle.std.proofs.lemmas.Bool.{and_parts, and_from, cases_Bool, false≢true, le-leb, leb-true, eqb-true, eq-eqb}
use Rattle.cast_types.specs.declared.names.Proc.{Proc}
use Rattle.cast_types.specs.Names.{Entry, entry_cmp}
use Rattle.cast_types.proofs.Orders.{entry_total}
use Rattle.cast_message.specs.Tail.{Tail, is_tail}
use Rattle.cast_message.specs.Placement.{Placement, is_placement}
use Rattle.cast_message.specs.KeptIds.{Marked, KeptList, is_kept}
use Rattle.cast_field.specs.Spelling.{byte, short, word, spelled_entry, spelled_new_holder, spelled_sequence}
use Rattle.cast_field.specs.Spelling.{spelled_tail, mark_code, spelled_marked, spelled_kept}
use Rattle.cast_field.specs.Reading.{◌>>=◌, byte_at, number_at, many, above, proc_at, entry_at, id_at, nothing_of, least_ids}
use Rattle.cast_field.specs.Reading.{new_holder_at, sequence_at, tail_at, id_above, mark_at, marked_above, id_of, kept_at}
use Rattle.cast_field.specs.Spelled.{IsFrom, IsEntry, IsNewHolder, ArePlaced, IsTail, IsMarked, AreKept}
use Rattle.cast_field.proofs.Fields.{bind_ok, ok_is, Took, joined, Takes, Again, byte_takes}
use Rattle.cast_field.proofs.Fields.{byte_again, short_takes, short_again, word_takes, word_again}
use Rattle.cast_field.proofs.Lists.{AllFrom, many_takes, many_again, above_is, above_again, SortedMap, Placed, sorted_from, keyed_from}
use Rattle.cast_field.proofs.Parts.{proc_takes, proc_again, entry_takes, entry_again}

-- ---- ids in any order

abbrev Known : Unit {0} → Entry → Type 0
Known last e = IsEntry e

ids_known : (es : List Entry) → AllFrom Known nothing_of tt es → AllByRecursion IsEntry es
ids_known [] h = tt
ids_known (e ∷ es) h = (h.0, ids_known es h.1)

known_ids : (es : List Entry) → AllByRecursion IsEntry es → AllFrom Known nothing_of tt es
known_ids [] h = tt
known_ids (e ∷ es) h = (h.0, known_ids es h.1)

id_takes : (last : Unit {0}) → Takes (id_at last) spelled_entry (Known last)
unfolding id_at
id_takes last bytes x fits e = entry_takes bytes x fits e

id_again : (last : Unit {0}) → Again (id_at last) spelled_entry (Known last)
unfolding id_at
id_again last v rest fits = entry_again v rest fits

-- ---- the end of the order

stretch_from : (t : Tail) → t.start ≤ 4000000000 → length t.ids ≤ 576 → is_tail t ≡ true
stretch_from t low few =
    and_from (nat_le t.start 4000000000) (nat_le (length t.ids) 576) (le-leb t.start 4000000000 low) (le-leb (length t.ids) 576 few)

pub stretch_parts : (t : Tail) → is_tail t ≡ true → (t.start ≤ 4000000000) × (length t.ids ≤ 576)
stretch_parts t h =
    let parts = and_parts (nat_le t.start 4000000000) (nat_le (length t.ids) 576) h in
    (leb-true t.start 4000000000 parts.0, leb-true (length t.ids) 576 parts.1)

-- a tail of at most so many ids
abbrev pub IsTailOf : ℕ → Tail → Type 0
IsTailOf most t = IsTail t × (length t.ids ≤ most)

pub tail_takes : (most : ℕ) → most ≤ 576 → Takes (tail_at most) spelled_tail (IsTailOf most)
unfolding tail_at spelled_tail
tail_takes most low bytes x fits e =
    let a1 =
    bind_ok (number_at w32 0 4000000000 bytes) (λ start. number_at w16 0 most start.1
    >>= λ n. many id_at nothing_of n.0 tt n.1 >>= λ ids. Ok (record { start = start.0; ids = ids.0 }, ids.1)) x e in
    let a2 =
    bind_ok (number_at w16 0 most a1.0.1)
    (λ n. many id_at nothing_of n.0 tt n.1 >>= λ ids. Ok (record { start = a1.0.0; ids = ids.0 }, ids.1)) x a1.2 in
    let a3 = bind_ok (many id_at nothing_of a2.0.0 tt a2.0.1) (λ ids. Ok (record { start = a1.0.0; ids = ids.0 }, ids.1)) x a2.2 in
    let t1 = word_takes 0 4000000000 bytes a1.0 fits a1.1 in
    let t2 = short_takes 0 most a1.0.1 a2.0 t1.rest_fits a2.1 in
    let t3 = many_takes id_at nothing_of spelled_entry Known id_takes a2.0.0 tt a2.0.1 a3.0 t2.rest_fits a3.1 in
    let j2 = joined a1.0.1 (short a2.0.0) a2.0.1 (flat_map spelled_entry a3.0.0) a3.0.1 t2.parts t3.parts in
    let j1 = joined bytes (word a1.0.0) a1.0.1 (short a2.0.0 ++ flat_map spelled_entry a3.0.0) a3.0.1 t1.parts j2 in
    let whole = j1 ∙ ap (λ (n : ℕ). (word a1.0.0 ++ (short n ++ flat_map spelled_entry a3.0.0)) ++ a3.0.1) (sym t3.holds.0) in
    let few : length a3.0.0 ≤ most = omega (arith, t2.holds.below, t3.holds.0) in
    let made : Tail × List ℕ = (record { start = a1.0.0; ids = a3.0.0 }, a3.0.1) in
    subst (λ (y : Tail × List ℕ). Took bytes (spelled_tail y.0) y.1 (IsTailOf most y.0)) (ok_is made x a3.2)
    (record {
      parts = whole;
      rest_fits = t3.rest_fits;
      holds = (
        record {
          short = stretch_from (record { start = a1.0.0; ids = a3.0.0 }) t1.holds.below (omega (arith, few, low));
          ids = ids_known a3.0.0 t3.holds.1;
        },
        few,
      );
    })

pub tail_again : (most : ℕ) → most < 2 ^ 16 → Again (tail_at most) spelled_tail (IsTailOf most)
unfolding tail_at spelled_tail
tail_again most low v rest fits =
    let known = stretch_parts v fits.0.short in
    let regrouped : (word v.start ++ (short (length v.ids) ++ flat_map spelled_entry v.ids)) ++ rest
    ≡ word v.start ++ (short (length v.ids) ++ (flat_map spelled_entry v.ids ++ rest)) =
    append_assoc (word v.start) (short (length v.ids) ++ flat_map spelled_entry v.ids) rest
    ∙ ap (λ (t : List ℕ). word v.start ++ t) (append_assoc (short (length v.ids)) (flat_map spelled_entry v.ids) rest) in
    let start : IsFrom 0 4000000000 v.start = record { above = omega arith; below = known.0 } in
    let size : IsFrom 0 most (length v.ids) = record { above = omega arith; below = fits.1 } in
    let ids = many_again id_at nothing_of spelled_entry Known id_again v.ids tt rest (known_ids v.ids fits.0.ids) in
    ap (tail_at most) regrouped ∙ rw (
      word_again 0 4000000000 (lit< tt) v.start (short (length v.ids) ++ (flat_map spelled_entry v.ids ++ rest)) start,
      short_again 0 most low (length v.ids) (flat_map spelled_entry v.ids ++ rest) size,
      ids,
    ) refl

-- ---- places of the order

between : (low high n : ℕ) → IsFrom low high n → (nat_le low n && nat_le n high) ≡ true
between low high n h = and_from (nat_le low n) (nat_le n high) (le-leb low n h.above) (le-leb n high h.below)

between_parts : (low high n : ℕ) → (nat_le low n && nat_le n high) ≡ true → IsFrom low high n
between_parts low high n h =
    let parts = and_parts (nat_le low n) (nat_le n high) h in
    record { above = leb-true low n parts.0; below = leb-true n high parts.1 }

-- places of a message that hands over the token, or of one that does not
abbrev pub ArePlacedBy : Bool → Placement → Type 0
ArePlacedBy handing s = ArePlaced s × (is_some s.holder ≡ handing)

few_ids : (handing : Bool) (n : ℕ) → IsFrom (least_ids handing) 64 n → ((handing || nat_le 1 n) && nat_le n 64) ≡ true
few_ids true n h = le-leb n 64 h.below
few_ids false n h = between 1 64 n h

few_ids_back : (handing : Bool) (n : ℕ) → ((handing || nat_le 1 n) && nat_le n 64) ≡ true → IsFrom (least_ids handing) 64 n
few_ids_back true n h = record { above = omega arith; below = leb-true n 64 h }
few_ids_back false n h = between_parts 1 64 n h

sequence_from : (handing : Bool) (s : Placement) → IsFrom 1 4000000000 s.first → IsFrom (least_ids handing) 64 (length s.ids) →
    is_some s.holder ≡ handing → is_placement s ≡ true
sequence_from handing s first few is =
    and_from (nat_le 1 s.first && nat_le s.first 4000000000) ((is_some s.holder || nat_le 1 (length s.ids)) && nat_le (length s.ids) 64)
    (between 1 4000000000 s.first first)
    (ap (λ b. (b || nat_le 1 (length s.ids)) && nat_le (length s.ids) 64) is ∙ few_ids handing (length s.ids) few)

pub sequence_parts : (s : Placement) → is_placement s ≡ true →
    IsFrom 1 4000000000 s.first × IsFrom (least_ids (is_some s.holder)) 64 (length s.ids)
sequence_parts s h =
    let parts =
    and_parts (nat_le 1 s.first && nat_le s.first 4000000000)
    ((is_some s.holder || nat_le 1 (length s.ids)) && nat_le (length s.ids) 64) h in
    (between_parts 1 4000000000 s.first parts.0, few_ids_back (is_some s.holder) (length s.ids) parts.1)

-- the new holder
abbrev IsNewHolderBy : Bool → Option Proc → Type 0
IsNewHolderBy handing o = IsNewHolder o × (is_some o ≡ handing)

new_holder_takes : (handing : Bool) → Takes (new_holder_at handing) spelled_new_holder (IsNewHolderBy handing)
unfolding new_holder_at spelled_new_holder
new_holder_takes true bytes x fits e =
    let a1 = bind_ok (proc_at bytes) (λ proc. Ok (Some proc.0, proc.1)) x e in
    let t1 = proc_takes bytes a1.0 fits a1.1 in
    let made : Option Proc × List ℕ = (Some a1.0.0, a1.0.1) in
    subst (λ (y : Option Proc × List ℕ). Took bytes (spelled_new_holder y.0) y.1 (IsNewHolderBy true y.0)) (ok_is made x a1.2)
    (record { parts = t1.parts; rest_fits = t1.rest_fits; holds = (t1.holds, refl) })
new_holder_takes false bytes x fits e =
    let made : Option Proc × List ℕ = (None, bytes) in
    subst (λ (y : Option Proc × List ℕ). Took bytes (spelled_new_holder y.0) y.1 (IsNewHolderBy false y.0)) (ok_is made x e)
    (record { parts = refl; rest_fits = fits; holds = (tt, refl) })

new_holder_again : (o : Option Proc) (rest : List ℕ) → IsNewHolder o →
    new_holder_at (is_some o) (spelled_new_holder o ++ rest) ≡ Ok (o, rest)
unfolding new_holder_at spelled_new_holder
new_holder_again None rest fits = refl
new_holder_again (Some p) rest fits = rw (proc_again p rest fits) refl

pub sequence_takes : (handing : Bool) → Takes (sequence_at handing) spelled_sequence (ArePlacedBy handing)
unfolding sequence_at spelled_sequence
sequence_takes handing bytes x fits e =
    let a1 =
    bind_ok (number_at w32 1 4000000000 bytes) (λ first. byte_at (least_ids handing) 64 first.1 >>= λ n. many id_at nothing_of n.0 tt n.1
    >>= λ ids. new_holder_at handing ids.1 >>= λ holder. Ok (record { first = first.0; ids = ids.0; holder = holder.0 }, holder.1)) x e in
    let a2 =
    bind_ok (byte_at (least_ids handing) 64 a1.0.1) (λ n. many id_at nothing_of n.0 tt n.1 >>= λ ids.
    new_holder_at handing ids.1 >>= λ holder. Ok (record { first = a1.0.0; ids = ids.0; holder = holder.0 }, holder.1)) x a1.2 in
    let a3 =
    bind_ok (many id_at nothing_of a2.0.0 tt a2.0.1) (λ ids.
    new_holder_at handing ids.1 >>= λ holder. Ok (record { first = a1.0.0; ids = ids.0; holder = holder.0 }, holder.1)) x a2.2 in
    let a4 =
    bind_ok (new_holder_at handing a3.0.1) (λ holder. Ok (record { first = a1.0.0; ids = a3.0.0; holder = holder.0 }, holder.1)) x a3.2 in
    let t1 = word_takes 1 4000000000 bytes a1.0 fits a1.1 in
    let t2 = byte_takes (least_ids handing) 64 a1.0.1 a2.0 t1.rest_fits a2.1 in
    let t3 = many_takes id_at nothing_of spelled_entry Known id_takes a2.0.0 tt a2.0.1 a3.0 t2.rest_fits a3.1 in
    let t4 = new_holder_takes handing a3.0.1 a4.0 t3.rest_fits a4.1 in
    let behind : List ℕ = flat_map spelled_entry a3.0.0 ++ spelled_new_holder a4.0.0 in
    let j3 = joined a2.0.1 (flat_map spelled_entry a3.0.0) a3.0.1 (spelled_new_holder a4.0.0) a4.0.1 t3.parts t4.parts in
    let j2 = joined a1.0.1 (byte a2.0.0) a2.0.1 behind a4.0.1 t2.parts j3 in
    let j1 = joined bytes (word a1.0.0) a1.0.1 (byte a2.0.0 ++ behind) a4.0.1 t1.parts j2 in
    let whole = j1 ∙ ap (λ (n : ℕ). (word a1.0.0 ++ (byte n ++ behind)) ++ a4.0.1) (sym t3.holds.0) in
    let size : IsFrom (least_ids handing) 64 (length a3.0.0) = subst (IsFrom (least_ids handing) 64) (sym t3.holds.0) t2.holds in
    let made : Placement × List ℕ = (record { first = a1.0.0; ids = a3.0.0; holder = a4.0.0 }, a4.0.1) in
    subst (λ (y : Placement × List ℕ). Took bytes (spelled_sequence y.0) y.1 (ArePlacedBy handing y.0)) (ok_is made x a4.2)
    (record {
      parts = whole;
      rest_fits = t4.rest_fits;
      holds = (
        record { short = sequence_from handing made.0 t1.holds size t4.holds.1; ids = ids_known a3.0.0 t3.holds.1; holder = t4.holds.0 },
        t4.holds.1,
      );
    })

pub sequence_again : (v : Placement) (rest : List ℕ) → ArePlaced v →
    sequence_at (is_some v.holder) (spelled_sequence v ++ rest) ≡ Ok (v, rest)
unfolding sequence_at spelled_sequence
sequence_again v rest fits =
    let known = sequence_parts v fits.short in
    let r3 : List ℕ = spelled_new_holder v.holder ++ rest in
    let r2 : List ℕ = flat_map spelled_entry v.ids ++ r3 in
    let r1 : List ℕ = byte (length v.ids) ++ r2 in
    let regrouped : (word v.first ++ (byte (length v.ids) ++ (flat_map spelled_entry v.ids ++ spelled_new_holder v.holder))) ++ rest
    ≡ word v.first ++ r1 =
    append_assoc (word v.first) (byte (length v.ids) ++ (flat_map spelled_entry v.ids ++ spelled_new_holder v.holder)) rest
    ∙ ap (λ (t : List ℕ). word v.first ++ t)
    (append_assoc (byte (length v.ids)) (flat_map spelled_entry v.ids ++ spelled_new_holder v.holder) rest
    ∙ ap (λ (t : List ℕ). byte (length v.ids) ++ t) (append_assoc (flat_map spelled_entry v.ids) (spelled_new_holder v.holder) rest)) in
    let ids = many_again id_at nothing_of spelled_entry Known id_again v.ids tt r3 (known_ids v.ids fits.ids) in
    ap (sequence_at (is_some v.holder)) regrouped ∙ rw (
      word_again 1 4000000000 (lit< tt) v.first r1 known.0,
      byte_again (least_ids (is_some v.holder)) 64 (length v.ids) r2 known.1,
      ids,
      new_holder_again v.holder rest fits.holder,
    ) refl

-- ---- kept ids, with their marks

pub id_above_takes : (last : Option Entry) → Takes (id_above last) spelled_entry (Placed entry_cmp IsEntry last)
unfolding id_above
id_above_takes last bytes x fits e =
    let a = bind_ok (entry_at bytes) (λ k. above entry_cmp last k) x e in
    let g = above_is entry_cmp last a.0 x a.2 in
    let t = entry_takes bytes a.0 fits a.1 in
    subst (λ (y : Entry × List ℕ). Took bytes (spelled_entry y.0) y.1 (Placed entry_cmp IsEntry last y.0)) g.0
    (record { parts = t.parts; rest_fits = t.rest_fits; holds = (t.holds, g.1) })

pub id_above_again : (last : Option Entry) → Again (id_above last) spelled_entry (Placed entry_cmp IsEntry last)
unfolding id_above
id_above_again last v rest fits = rw (entry_again v rest fits.0) (above_again entry_cmp last (v, rest) fits.1)

mark_back : (n : ℕ) → IsFrom 0 1 n → n ≡ mark_code (eqb n 1)
mark_back n h =
    elim (cases_Bool (eqb n 1)) [
      | inl is ↦ rw is (eqb-true n 1 is)
      | inr not_one ↦
          let other : n ≡ 1 → ⊥ = λ z. false≢true (sym not_one ∙ eq-eqb n 1 z) in
          rw not_one (omega (arith, h.below, other))
    ]

mark_within : (mark : Bool) → IsFrom 0 1 (mark_code mark)
mark_within true = record { above = lit≤ tt; below = lit≤ tt }
mark_within false = record { above = lit≤ tt; below = lit≤ tt }

mark_same : (mark : Bool) → eqb (mark_code mark) 1 ≡ mark
mark_same true = refl
mark_same false = refl

mark_takes : Takes mark_at (λ (mark : Bool). byte (mark_code mark)) (λ (mark : Bool). Unit {0})
unfolding mark_at
mark_takes bytes x fits e =
    let a1 = bind_ok (byte_at 0 1 bytes) (λ n. Ok (eqb n.0 1, n.1)) x e in
    let t1 = byte_takes 0 1 bytes a1.0 fits a1.1 in
    let made : Bool × List ℕ = (eqb a1.0.0 1, a1.0.1) in
    subst (λ (y : Bool × List ℕ). Took bytes (byte (mark_code y.0)) y.1 (Unit {0})) (ok_is made x a1.2)
    (record { parts = t1.parts ∙ ap (λ (n : ℕ). byte n ++ a1.0.1) (mark_back a1.0.0 t1.holds); rest_fits = t1.rest_fits; holds = tt })

mark_again : Again mark_at (λ (mark : Bool). byte (mark_code mark)) (λ (mark : Bool). Unit {0})
unfolding mark_at
mark_again v rest fits = rw (byte_again 0 1 (mark_code v) rest (mark_within v), mark_same v) refl

marked_above_takes : (last : Option Entry) → Takes (marked_above last) spelled_marked (SortedMap entry_cmp IsMarked last)
unfolding marked_above spelled_marked
marked_above_takes last bytes x fits e =
    let a1 = bind_ok (id_above last bytes) (λ id. mark_at id.1 >>= λ mark. Ok ((id.0, mark.0), mark.1)) x e in
    let a2 = bind_ok (mark_at a1.0.1) (λ mark. Ok ((a1.0.0, mark.0), mark.1)) x a1.2 in
    let t1 = id_above_takes last bytes a1.0 fits a1.1 in
    let t2 = mark_takes a1.0.1 a2.0 t1.rest_fits a2.1 in
    let j1 = joined bytes (spelled_entry a1.0.0) a1.0.1 (byte (mark_code a2.0.0)) a2.0.1 t1.parts t2.parts in
    let made : Marked × List ℕ = ((a1.0.0, a2.0.0), a2.0.1) in
    subst (λ (y : Marked × List ℕ). Took bytes (spelled_marked y.0) y.1 (SortedMap entry_cmp IsMarked last y.0)) (ok_is made x a2.2)
    (record { parts = j1; rest_fits = t2.rest_fits; holds = (t1.holds.0, t1.holds.1) })

marked_above_again : (last : Option Entry) → Again (marked_above last) spelled_marked (SortedMap entry_cmp IsMarked last)
unfolding marked_above spelled_marked
marked_above_again last v rest fits =
    let regrouped : (spelled_entry v.0 ++ byte (mark_code v.1)) ++ rest ≡ spelled_entry v.0 ++ (byte (mark_code v.1) ++ rest) =
    append_assoc (spelled_entry v.0) (byte (mark_code v.1)) rest in
    ap (marked_above last) regrouped
    ∙ rw (id_above_again last v.0 (byte (mark_code v.1) ++ rest) (fits.0, fits.1), mark_again v.1 rest tt) refl

kept_from : (k : KeptList) → is_sorted entry_cmp k ≡ true → length k ≤ 2048 → is_kept k ≡ true
kept_from k sorted few = and_from (is_sorted entry_cmp k) (nat_le (length k) 2048) sorted (le-leb (length k) 2048 few)

pub kept_parts : (k : KeptList) → is_kept k ≡ true → (is_sorted entry_cmp k ≡ true) × (length k ≤ 2048)
kept_parts k h =
    let parts = and_parts (is_sorted entry_cmp k) (nat_le (length k) 2048) h in
    (parts.0, leb-true (length k) 2048 parts.1)

pub kept_takes : Takes kept_at spelled_kept AreKept
unfolding kept_at spelled_kept
kept_takes bytes x fits e =
    let a = bind_ok (number_at w16 0 2048 bytes) (λ n. many marked_above id_of n.0 None n.1) x e in
    let t1 = short_takes 0 2048 bytes a.0 fits a.1 in
    let t2 =
    many_takes marked_above id_of spelled_marked (SortedMap entry_cmp IsMarked) marked_above_takes a.0.0 None a.0.1 x t1.rest_fits a.2 in
    let j1 = joined bytes (short a.0.0) a.0.1 (flat_map spelled_marked x.0) x.1 t1.parts t2.parts in
    let known = sorted_from entry_cmp entry_total IsMarked None x.0 t2.holds.1 in
    let few : length x.0 ≤ 2048 = omega (arith, t1.holds.below, t2.holds.0) in
    record {
      parts = j1 ∙ ap (λ (n : ℕ). (short n ++ flat_map spelled_marked x.0) ++ x.1) (sym t2.holds.0);
      rest_fits = t2.rest_fits;
      holds = record { sorted = kept_from x.0 known.0 few; ids = known.2 };
    }

pub kept_again : Again kept_at spelled_kept AreKept
unfolding kept_at spelled_kept
kept_again v rest fits =
    let known = kept_parts v fits.sorted in
    let regrouped : (short (length v) ++ flat_map spelled_marked v) ++ rest ≡ short (length v) ++ (flat_map spelled_marked v ++ rest) =
    append_assoc (short (length v)) (flat_map spelled_marked v) rest in
    let size : IsFrom 0 2048 (length v) = record { above = omega arith; below = known.1 } in
    ap kept_at regrouped ∙ rw (short_again 0 2048 (lit< tt) (length v) (flat_map spelled_marked v ++ rest) size)
    (many_again marked_above id_of spelled_marked (SortedMap entry_cmp IsMarked)
    marked_above_again v None rest (keyed_from entry_cmp entry_total IsMarked None v known.0 tt fits.ids))
