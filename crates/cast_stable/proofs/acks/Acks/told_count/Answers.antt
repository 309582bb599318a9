use Rattle.std.proofs.Common.{rules}
use Rattle.cast_types.specs.Sources.{source_cmp}
use Rattle.cast_types.proofs.Maps.{lookup_finds}
use Rattle.cast_stable.proofs.acks.Acks.told_count.Goals as goal

pub returns-in-Some : goal.returns-in-Some
returns-in-Some c = search (rules, lookup_finds source_cmp c.args.source c.self.inside.told.entries)

pub returns-in-None : goal.returns-in-None
returns-in-None c = search (rules, lookup_finds source_cmp c.args.source c.self.inside.told.entries)
