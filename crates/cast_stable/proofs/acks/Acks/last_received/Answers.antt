use Rattle.std.proofs.Common.{rules}
use Rattle.cast_types.specs.Sources.{source_cmp, source}
use Rattle.cast_stable.proofs.Last.{last_means}
use Rattle.cast_types.proofs.Maps.{lookup_finds}
use Rattle.cast_stable.proofs.acks.Acks.last_received.Goals as goal

pub returns-in-Some-clause-value : goal.returns-in-Some-clause-value
returns-in-Some-clause-value c =
    search (rules, lookup_finds source_cmp (source c.args.group c.args.view c.args.process) c.self.inside.received.entries)

pub returns-in-Some-clause-meaning : goal.returns-in-Some-clause-meaning
returns-in-Some-clause-meaning c =
    last_means c.args.self.now (source c.args.group c.args.view c.args.process) _ (returns-in-Some-clause-value c)

pub returns-in-None-clause-value : goal.returns-in-None-clause-value
returns-in-None-clause-value c =
    search (rules, lookup_finds source_cmp (source c.args.group c.args.view c.args.process) c.self.inside.received.entries)

pub returns-in-None-clause-meaning : goal.returns-in-None-clause-meaning
returns-in-None-clause-meaning c =
    last_means c.args.self.now (source c.args.group c.args.view c.args.process) _ (returns-in-None-clause-value c)
