use Rattle.std.proofs.Common.{rules}
use Rattle.cast_types.specs.Sources.{source_of}
use Rattle.cast_stable.specs.Witnesses.{witness_cmp, witness}
use Rattle.cast_types.proofs.Maps.{lookup_finds}
use Rattle.cast_stable.proofs.Meanings.{has_acked_means}
use Rattle.cast_stable.proofs.acks.Acks.has_acked.Goals as goal

pub returns-clause-value : goal.returns-clause-value
returns-clause-value c = search (rules, lookup_finds witness_cmp (witness (source_of c.args.id) c.args.from) c.self.inside.acked.entries)

pub returns-clause-meaning : goal.returns-clause-meaning
returns-clause-meaning c = has_acked_means c.args.self.now c.args.id c.args.from _ (returns-clause-value c)
