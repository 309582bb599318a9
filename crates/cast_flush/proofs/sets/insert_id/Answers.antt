use Rattle.std.proofs.Common.{◌∙◌}
use Rattle.cast_types.specs.Names.{entry_cmp}
use Rattle.cast_types.proofs.Maps.{insert_key_adds}
use Rattle.cast_flush.proofs.sets.insert_id.Goals as goal

-- what the set's insert gives is the set with the item
pub returns-clause-ok : goal.returns-clause-ok
returns-clause-ok c = c.in_ok-insert.ensures.keys ∙ insert_key_adds entry_cmp c.args.id c.args.ids.now.keys
