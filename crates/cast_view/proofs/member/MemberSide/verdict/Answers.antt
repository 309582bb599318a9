use Rattle.std.proofs.Common.{rules, tests}
use Rattle.cast_view.proofs.member.MemberSide.verdict.Goals as goal

pub returns-then-is_some : goal.returns-then-is_some
returns-then-is_some c = search (tests, rules)
