use Rattle.cast_world.proofs.Afterwards as over
use Rattle.cast_world.proofs.NewsRuns as lemma
use Rattle.cast_world.proofs.laws.programs_are_told.Goals as goal

pub returns : goal.returns
returns c = record {
  all = lemma.are_told;
  while_open = lemma.open_are_told;
  closed = lemma.closed_are_last;
  inside = lemma.inside_are_open;
  over = over.nothing_follows;
}
