use Rattle.toml.proofs.Views.{table_get}
use Rattle.cast_config.proofs.fields.find.Goals as goal

pub returns : goal.returns
returns c =
    rw c.name.ensures at (table_get c.get.result c.name.result.now c.args.table.now.entries c.get.ensures.value)
