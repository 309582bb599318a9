use Rattle.std.proofs.Common.{◌∙◌, sym, ap, subst}
use Rattle.std.proofs.lemmas.Bool.{or_parts}
use Rattle.cast_rules.specs.Rules.Flushes.{go_on_all}
use Rattle.cast_rules.specs.Rules.Home.{lead}
use Rattle.cast_rules.specs.Rules.Order.{set_orders}
use Rattle.std.specs.Prelude.{◌||◌}
use Rattle.cast_domain.specs.Flags.{goes_on_some, leads_some, orders_some}
use Rattle.cast_domain.specs.Calls.{records}
use Rattle.cast_domain.specs.RestCalls.{resting_records}
use Rattle.cast_domain.specs.Records.{records_in}
use Rattle.cast_domain.specs.Freed.{AreNotFree}
use Rattle.cast_domain.proofs.NotFree.{none_lead}
use Rattle.cast_rest.proofs.rest.pass.Goals as goal

pub returns-clause-made : goal.returns-clause-made
returns-clause-made c none =
    c.in_ok-led.ensures.made
    ∙ ap (lead records)
    (c.in_ok-gone_on.ensures.made
    ∙ ap (go_on_all records resting_records)
    (c.in_ok-ordered.ensures.made ∙ ap (set_orders records resting_records) (c.in_ok-settled.ensures.made none)))

pub returns-clause-still : goal.returns-clause-still
returns-clause-still c e =
    let outer = or_parts _ _ e in
    let middle = or_parts _ _ outer.0 in
    let inner = or_parts _ _ middle.0 in
    c.in_ok-led.ensures.still outer.1
    ∙ c.in_ok-gone_on.ensures.still middle.1
    ∙ c.in_ok-ordered.ensures.still inner.1
    ∙ c.in_ok-settled.ensures.still inner.0

-- each part tells what it changed of what the parts before it left
pub returns-clause-told : goal.returns-clause-told
returns-clause-told c none =
    let settled = c.in_ok-settled.ensures.made none in
    let ordered = c.in_ok-ordered.ensures.made ∙ ap (set_orders records resting_records) settled in
    let gone_on = c.in_ok-gone_on.ensures.made ∙ ap (go_on_all records resting_records) ordered in
    (λ j.
    ((c.in_ok-settled.ensures.told none j || (c.in_ok-ordered.ensures.told ∙ ap orders_some settled) j)
    || (c.in_ok-gone_on.ensures.told ∙ ap goes_on_some ordered) j)
    || (c.in_ok-led.ensures.told ∙ ap leads_some gone_on) j)

-- the home frees none
pub returns-clause-none : goal.returns-clause-none
returns-clause-none c none =
    subst AreNotFree (sym c.in_ok-led.ensures.made)
    (none_lead (records_in c.go_on_all.new.domain c.go_on_all.new.lent)
    (c.in_ok-gone_on.ensures.none (c.in_ok-ordered.ensures.none (c.in_ok-settled.ensures.none none))))
