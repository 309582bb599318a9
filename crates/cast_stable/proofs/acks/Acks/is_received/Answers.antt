use Rattle.std.proofs.Common.{rules}
use Rattle.cast_types.specs.Sources.{source_cmp, source_of}
use Rattle.cast_types.proofs.Maps.{lookup_finds}
use Rattle.cast_stable.proofs.Meanings.{is_received_means}
use Rattle.cast_stable.proofs.acks.Acks.is_received.Goals as goal

pub returns-clause-value : goal.returns-clause-value
returns-clause-value c = search (rules, lookup_finds source_cmp (source_of c.args.id) c.self.inside.received.entries)

pub returns-clause-meaning : goal.returns-clause-meaning
returns-clause-meaning c = is_received_means c.args.self.now c.args.id _ (returns-clause-value c)
