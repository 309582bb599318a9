use Rattle.cast_view.proofs.Again.{prepares_once, installs_once, outs_once}
use Rattle.cast_view.proofs.laws.what_comes_again_changes_nothing.Goals as goal

pub returns-clause-prepares : goal.returns-clause-prepares
returns-clause-prepares c = prepares_once

pub returns-clause-installs : goal.returns-clause-installs
returns-clause-installs c = installs_once

pub returns-clause-outs : goal.returns-clause-outs
returns-clause-outs c = outs_once
