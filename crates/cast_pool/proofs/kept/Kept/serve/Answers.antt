use Rattle.std.proofs.Common.{◌≡◌, ◌+◌, ◌++◌, ◌∷◌, [], length, refl, sym, ap, subst, ◌∙◌, arith}
use Rattle.cast_events.specs.declared.event.Outs.{Outs}
use Rattle.cast_events.specs.Outs.{no_outs}
use Rattle.cast_table.specs.Tables.{IsApplied, IsUnchanged, NotesHalts, domains_of, lent_of}
use Rattle.cast_pool.specs.Kept.{IsLed, Seen, events_of, seen_of}
use Rattle.cast_pool.specs.Served.{Serves}
use Rattle.cast_trail.specs.Room.{count_then, items_then}
use Rattle.cast_pool.proofs.Halts.{few_halted}
use Rattle.cast_pool.proofs.Serving.{counts_on, entry_for, left_none, led_for, one_more, served_added, served_none}
use Rattle.cast_pool.proofs.kept.Kept.serve.Goals as goal

pub fill-halted-requires-clause-room : goal.fill-halted-requires-clause-room
fill-halted-requires-clause-room g c =
    let old = c.self.inside.table in
    let new = c.apply-answer.new.self in
    let outs = c.apply-answer.new.outs in
    let a = c.apply-answer.result in
    let applied =
    subst (λ (o : Outs). IsApplied a c.args.event (domains_of old) (domains_of new) (lent_of old o) (lent_of new outs))
    c.new-outs.ensures c.apply-answer.ensures.applied in
    let notes =
    subst (λ (o : Outs). NotesHalts a c.args.event (domains_of old) (domains_of new) o.halted outs.halted)
    c.new-outs.ensures c.apply-answer.ensures.halted in
    let few =
    few_halted c.args.event (domains_of old) (domains_of new) (lent_of old no_outs) (lent_of new outs) a outs.halted applied notes in
    let same = ap length c.as_slice.ensures in
    let each = c.in-Ok.ensures.halted.1 in
    let len = c.len.ensures in
    omega (arith, few, same, each, len)

pub invariant_of-self-2 : goal.invariant_of-self-2
invariant_of-self-2 g c =
    let k = c.self.inside in
    let new = c.apply-answer.new.self in
    let outs = c.apply-answer.new.outs in
    let a = c.apply-answer.result in
    let n = c.in-Some.noted in
    let old = seen_of k.config k.trail.count k.trail.entries.items k.table in
    let same = c.room.ensures.same in
    let applied =
    subst (λ (o : Outs). IsApplied a c.args.event (domains_of k.table) (domains_of new) (lent_of k.table o) (lent_of new outs))
    c.new-outs.ensures c.apply-answer.ensures.applied in
    let notes =
    subst (λ (o : Outs). NotesHalts a c.args.event (domains_of k.table) (domains_of new) o.halted outs.halted)
    c.new-outs.ensures c.apply-answer.ensures.halted in
    let says = sym c.in-Some.ensures in
    let halted = c.fill-halted.ensures ∙ c.as_slice.ensures in
    let items : c.add.new.self.entries.items ≡ items_then k.trail.entries.items ++ entry_for c.args.event n outs.halted ∷ [] =
    c.add.ensures.items ∙ (λ i. items_then (same.0 i) ++ entry_for c.args.event n (halted i) ∷ []) in
    let count : c.add.new.self.count ≡ count_then k.trail.count (length k.trail.entries.items) =
    c.add.ensures.count ∙ (λ i. count_then (same.1 i) (length (same.0 i))) in
    let after : Seen =
    seen_of k.config (count_then k.trail.count (length k.trail.entries.items))
    (items_then k.trail.entries.items ++ entry_for c.args.event n outs.halted ∷ []) new in
    let made : seen_of k.config c.add.new.self.count c.add.new.self.entries.items new ≡ after =
    λ i. seen_of k.config (count i) (items i) new in
    let sum = ap events_of made ∙ one_more c.args.event a n outs old new says applied notes in
    let total = c.add-2.ensures.total in
    let before = c.audit.ensures.total in
    let counted = c.self.invariant.1 in
    let few = c.self.invariant.2 in
    let counts : events_of old ≡ 18446744073709551615 → ⊥ =
    λ e. c.if-events.false (c.events.ensures ∙ ap events_of (sym c.self.view_is) ∙ e) in (
      subst IsLed (sym made) (led_for c.args.event a n outs old new says applied notes c.self.invariant.0),
      omega (arith, sum, total, before, counted),
      omega (arith, sum, few, counts),
    )

pub returns-clause-done : goal.returns-clause-done
returns-clause-done g c =
    let k = c.self.inside in
    let new = c.apply-answer.new.self in
    let outs = c.apply-answer.new.outs in
    let a = c.apply-answer.result in
    let n = c.in-Some.noted in
    let was = c.args.mine.now.taken in
    let old = seen_of k.config k.trail.count k.trail.entries.items k.table in
    let same = c.room.ensures.same in
    let applied =
    subst (λ (o : Outs). IsApplied a c.args.event (domains_of k.table) (domains_of new) (lent_of k.table o) (lent_of new outs))
    c.new-outs.ensures c.apply-answer.ensures.applied in
    let notes =
    subst (λ (o : Outs). NotesHalts a c.args.event (domains_of k.table) (domains_of new) o.halted outs.halted)
    c.new-outs.ensures c.apply-answer.ensures.halted in
    let says = sym c.in-Some.ensures in
    let halted = c.fill-halted.ensures ∙ c.as_slice.ensures in
    let items : c.add.new.self.entries.items ≡ items_then k.trail.entries.items ++ entry_for c.args.event n outs.halted ∷ [] =
    c.add.ensures.items ∙ (λ i. items_then (same.0 i) ++ entry_for c.args.event n (halted i) ∷ []) in
    let count : c.add.new.self.count ≡ count_then k.trail.count (length k.trail.entries.items) =
    c.add.ensures.count ∙ (λ i. count_then (same.1 i) (length (same.0 i))) in
    let left : Seen = seen_of k.config c.add.new.self.count c.add.new.self.entries.items new in
    let after : Seen =
    seen_of k.config (count_then k.trail.count (length k.trail.entries.items))
    (items_then k.trail.entries.items ++ entry_for c.args.event n outs.halted ∷ []) new in
    let made : seen_of k.config c.add.new.self.count c.add.new.self.entries.items new ≡ after =
    λ i. seen_of k.config (count i) (items i) new in
    let counts = counts_on old (λ e. c.if-events.false (c.events.ensures ∙ ap events_of (sym c.self.view_is) ∙ e)) in
    subst (λ (s : Seen). Serves c.args.event a outs s left was (was + 1)) c.self.view_is
    (subst (λ (s : Seen). Serves c.args.event a outs old s was (was + 1)) (sym made)
    (served_added c.args.event a n outs old new says applied notes counts was))

-- an event that is not taken leaves the table and the trace
pub invariant_of-self-in_default-note_of : goal.invariant_of-self-in_default-note_of
invariant_of-self-in_default-note_of g c =
    let k = c.self.inside in
    let new = c.apply-answer.new.self in
    let outs = c.apply-answer.new.outs in
    let a = c.apply-answer.result in
    let same = c.room.ensures.same in
    let none = sym c.note_of.ensures ∙ c.in_default-note_of.is in
    let unchanged = subst (λ (o : Outs). IsUnchanged a k.table new o outs) c.new-outs.ensures c.apply-answer.ensures.unchanged in
    let table = left_none a k.table new no_outs outs none unchanged in
    rw (same.0, same.1, table) c.self.invariant

pub returns-in_default-note_of-clause-done : goal.returns-in_default-note_of-clause-done
returns-in_default-note_of-clause-done g c =
    let k = c.self.inside in
    let new = c.apply-answer.new.self in
    let outs = c.apply-answer.new.outs in
    let a = c.apply-answer.result in
    let was = c.args.mine.now.taken in
    let same = c.room.ensures.same in
    let old = seen_of k.config k.trail.count k.trail.entries.items k.table in
    let left = seen_of k.config c.room.new.self.count c.room.new.self.entries.items new in
    let none = sym c.note_of.ensures ∙ c.in_default-note_of.is in
    let applied =
    subst (λ (o : Outs). IsApplied a c.args.event (domains_of k.table) (domains_of new) (lent_of k.table o) (lent_of new outs))
    c.new-outs.ensures c.apply-answer.ensures.applied in
    let unchanged = subst (λ (o : Outs). IsUnchanged a k.table new o outs) c.new-outs.ensures c.apply-answer.ensures.unchanged in
    let counts = counts_on old (λ e. c.if-events.false (c.events.ensures ∙ ap events_of (sym c.self.view_is) ∙ e)) in
    subst (λ (s : Seen). Serves c.args.event a outs s left was was)
    c.self.view_is (served_none c.args.event old counts a outs left was none applied unchanged refl same.0 same.1)
