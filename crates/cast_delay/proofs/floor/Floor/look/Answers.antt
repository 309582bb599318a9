use Rattle.std.proofs.Common.{◌≡◌, true, Contains, inl, inr, subst, sym, rules}
use Rattle.std.specs.FinMap.Entries.{is_sorted}
use Rattle.cast_types.specs.Names.{group_cmp}
use Rattle.cast_types.specs.Stamps.{ClockList}
use Rattle.cast_delay.proofs.Floors.{IsTaken, still_taken, taken_within}
use Rattle.cast_delay.proofs.floor.Floor.look.Goals as goal

pub loop-group-preserved : goal.loop-group-preserved
loop-group-preserved c =
    let e = c.loop-group-item.result in
    let old = c.loop-group.self.counts in
    let new = c.holds-within.new.counts in
    let times = c.args.times.now in
    let items = c.clocks-group-items.result.now in
    let there : Contains items e = (c.loop-group.group-index, c.loop-group-test.true, sym c.loop-group-item.is) in
    record {
      under = c.holds-within.ensures.under;
      kept = λ g has. elim (c.note.ensures g has) [
        | inl before ↦ still_taken old new times g c.holds-within.ensures.rises (c.loop-group.invariant.kept g before)
        | inr now ↦ subst (IsTaken new times) now.1 (record {
          clock = e.1;
          there = subst (λ (xs : ClockList). Contains xs e) c.clocks-group-items.ensures.value there;
          within = c.holds-within.ensures.within now.0;
        })
      ];
      key = c.loop-group.invariant.key;
    }

pub returns-clause-within : goal.returns-clause-within
returns-clause-within c = λ e has kept.
    let sorted : is_sorted group_cmp c.args.times.now ≡ true = search rules in
    taken_within c.loop-group.self.counts c.args.times.now sorted e has (c.loop-group.invariant.kept e.0 kept)
