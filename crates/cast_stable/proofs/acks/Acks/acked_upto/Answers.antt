use Rattle.std.proofs.Common.{rules}
use Rattle.cast_stable.specs.Witnesses.{witness_cmp, witness}
use Rattle.cast_types.proofs.Maps.{lookup_finds}
use Rattle.cast_stable.proofs.acks.Acks.acked_upto.Goals as goal

pub returns-in-Some : goal.returns-in-Some
returns-in-Some c = search (rules, lookup_finds witness_cmp (witness c.args.source c.args.site) c.self.inside.acked.entries)

pub returns-in-None : goal.returns-in-None
returns-in-None c = search (rules, lookup_finds witness_cmp (witness c.args.source c.args.site) c.self.inside.acked.entries)
