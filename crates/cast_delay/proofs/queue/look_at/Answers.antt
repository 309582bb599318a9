use Rattle.std.proofs.Common.{◌≡◌, true, sym, subst, ◌∙◌, rules}
use Rattle.cast_index.specs.Rises.{rises}
use Rattle.cast_types.specs.Stamps.{ClockList}
use Rattle.cast_delay.specs.Offers.{key_of}
use Rattle.cast_delay.specs.Floors.{IsUnder, AreWithin}
use Rattle.cast_delay.proofs.queue.look_at.Goals as goal

pub returns : goal.returns
returns c =
    let rising : rises key_of c.args.offered.now ≡ true = search rules in
    let floor = c.look.new.self in
    record {
      under = subst (IsUnder floor.counts) c.as_slice.ensures c.look.ensures.under;
      within = λ o there same.
          subst (λ (times : ClockList). AreWithin floor.counts times floor.groups.items)
          (sym (c.requires.last rising o there (same ∙ c.look.ensures.key))) c.look.ensures.within;
    }
