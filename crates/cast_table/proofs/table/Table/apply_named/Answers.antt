use Rattle.std.proofs.Common.{◌≡◌, ◌++◌, ◌∙◌, Some, slice_set, sym, ap, subst, arith}
use Rattle.cast_table.specs.declared.table.Table.{Table}
use Rattle.cast_table.specs.Tables.{IsAppliedAt, Lent, halted_by, lent_of, place_named}
use Rattle.cast_table.proofs.Applies.{not_begun, turn_applied, turn_noted}
use Rattle.cast_table.proofs.Numbers.{named_same, numbers_set, turn_number}
use Rattle.cast_table.proofs.Places.{named_within}
use Rattle.cast_table.proofs.table.Table.apply_named.Goals as goal

pub index_mut-domain-requires : goal.index_mut-domain-requires
index_mut-domain-requires c =
    let below =
    named_within c.args.number c.self.inside.domains.items c.in-Some.place (c.in-Some.ensures ∙ c.self.invariant c.args.number) in
    omega (arith, below, c.self.inside.domains.ok.0)

pub invariant_of-self : goal.invariant_of-self
invariant_of-self c = λ n.
    let ds = c.self.inside.domains.items in
    let number =
    turn_number c.turn-taken.result c.args.event.now c.index_mut-domain.result.now c.turn-taken.new.domain _ _ c.turn-taken.ensures.turn in
    c.self.invariant n ∙ named_same n ds _
    (numbers_set ds c.in-Some.place c.index_mut-domain.result.now c.turn-taken.new.domain c.index_mut-domain.ensures.value number)

pub returns-in_default-halted_with_room-clause-applied : goal.returns-in_default-halted_with_room-clause-applied
returns-in_default-halted_with_room-clause-applied c =
    let table : Table = c.args.self.now in
    let found : Some c.in-Some.place ≡ place_named c.args.number table.domains =
    c.in-Some.ensures ∙ c.self.invariant c.args.number ∙ ap (λ (t : Table). place_named c.args.number t.domains) c.self.view_is in
    not_begun c.args.number c.in-Some.place c.args.event.now table.domains found
    (named_within c.args.number table.domains c.in-Some.place found) _ _
    (λ i. record { shared = table.shared; outs = c.in_default-halted_with_room.ensures.err i })

pub returns-clause-applied : goal.returns-clause-applied
returns-clause-applied c =
    let ds = c.self.inside.domains.items in
    let found : Some c.in-Some.place ≡ place_named c.args.number ds = c.in-Some.ensures ∙ c.self.invariant c.args.number in
    let rest = c.in-Ok.ensures.rest in
    let after : Lent = record {
      shared = c.turn-taken.new.shared;
      outs = record {
        frames = c.turn-taken.new.outs.frames;
        halted = c.from_vec.result;
        delivered = c.turn-taken.new.outs.delivered;
        pushed = c.turn-taken.new.outs.pushed;
      };
    } in
    subst (λ (t : Table). IsAppliedAt (place_named c.args.number t.domains) c.turn-taken.result c.args.event.now t.domains
    (slice_set ds c.in-Some.place c.turn-taken.new.domain) (lent_of t c.args.outs.now) after) c.self.view_is
    (turn_applied c.args.number c.in-Some.place c.args.event.now ds found (named_within c.args.number ds c.in-Some.place found)
    c.index_mut-domain.result.now c.turn-taken.new.domain c.index_mut-domain.ensures.value c.turn-taken.result _ _
    c.turn-taken.ensures.turn _ _
    (λ i. record {
      shared = c.self.inside.shared;
      outs = record { frames = rest.0 i; halted = c.in-Ok.ensures.taken i; delivered = rest.1 i; pushed = rest.2 i };
    })
    (λ i. record {
      shared = c.turn-taken.new.shared;
      outs = record {
        frames = c.turn-taken.new.outs.frames;
        halted = sym c.from_vec.ensures i;
        delivered = c.turn-taken.new.outs.delivered;
        pushed = c.turn-taken.new.outs.pushed;
      };
    }))

pub returns-clause-halted : goal.returns-clause-halted
returns-clause-halted c =
    let ds = c.self.inside.domains.items in
    let found : Some c.in-Some.place ≡ place_named c.args.number ds = c.in-Some.ensures ∙ c.self.invariant c.args.number in
    turn_noted c.args.number c.in-Some.place c.args.event.now ds found (named_within c.args.number ds c.in-Some.place found)
    c.index_mut-domain.result.now c.turn-taken.new.domain c.index_mut-domain.ensures.value c.turn-taken.result _ _
    c.turn-taken.ensures.turn _ _
    (c.from_vec.ensures ∙ c.turn-taken.ensures.noted ∙ ap (λ front. front ++ halted_by c.turn-taken.result) c.in-Ok.ensures.taken)
