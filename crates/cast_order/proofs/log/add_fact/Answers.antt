use Rattle.std.proofs.Common.{◌≡◌, ◌∙◌, rules}
use Rattle.std.specs.Ordering.{nat_cmp}
use Rattle.std.specs.FinMap.Entries.{put}
use Rattle.cast_types.proofs.Maps.{insert_puts}
use Rattle.cast_order.proofs.log.add_fact.Goals as goal

pub returns-in_ok-insert : goal.returns-in_ok-insert
returns-in_ok-insert c =
    let facts = c.args.facts.now.entries in
    let taken : c.insert.new.self.entries ≡ put nat_cmp c.args.place c.args.id facts =
    c.in_ok-insert.ensures.entries ∙ insert_puts nat_cmp c.args.place c.args.id facts in
    search (rules, taken)
