use Rattle.std.specs.Prelude.{◌≡◌}
use Rattle.cast_pool.specs.Posts.{HasAnswered}
use Rattle.cast_pool.proofs.worker.work.Given as goal

abbrev pub invariant-loop : goal.invariant-loop
invariant-loop g l = record {
  parts : l.mine.parts ≡ l.initial.mine.parts;
  answered : HasAnswered l.fn.may_trim (g.P.Post.taken l.fn.post) (g.P.Post.taken l.post) (g.P.Post.sent l.fn.post) (g.P.Post.sent l.post);
}
