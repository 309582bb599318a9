use Rattle.std.proofs.Common.{◌≡◌, drop}
use Rattle.std.specs.Prelude.{max, if◌then◌else◌}
use Rattle.std.specs.List.{fold}
use Rattle.cast_types.specs.Names.{proc_eq}
use Rattle.cast_view.specs.MemberSide.{greatest_of}
use Rattle.cast_view.proofs.member.greatest_of.Given as goal

-- the greatest so far with the counts that are left gives the greatest of all
abbrev pub invariant-loop-other : goal.invariant-loop-other
invariant-loop-other l =
    fold (λ n e. if proc_eq e.0 l.process then max n e.1 else n) l.greatest (drop l.other-index l.had) ≡ greatest_of l.had l.process
