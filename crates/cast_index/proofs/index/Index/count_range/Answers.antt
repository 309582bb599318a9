use Rattle.std.proofs.Common.{subst, sym}
use Rattle.cast_index.specs.Index.{IsFirstOf}
use Rattle.cast_index.proofs.Lasts.{counts}
use Rattle.cast_index.proofs.index.Index.count_range.Goals as goal

pub returns-clause-some : goal.returns-clause-some
returns-clause-some c =
    let first = subst (λ keys. IsFirstOf keys c.args.source c.in_ok-first.first) (sym c.self.view_is) c.in_ok-first.ensures.some in
    rw (← c.self.view_is)
    (counts c.self.inside.entries.keys c.args.source c.in_ok-first.first c.in_ok-greatest.greatest.now first c.in_ok-greatest.ensures.some)
