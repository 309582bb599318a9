use Rattle.cast_console.proofs.Cuts.{cut_at, not_cut}
use Rattle.cast_console.proofs.line.cut.Goals as goal

pub returns-in-Some : goal.returns-in-Some
returns-in-Some c = cut_at c.args.text.now c.in-Some.word c.in-Some.rest c.in-Some.ensures.cases

pub returns-in-None : goal.returns-in-None
returns-in-None c = not_cut c.args.text.now c.in-None.ensures.cases
