use Rattle.std.proofs.Common.{◌+◌, ◌++◌, ◌∙◌, sym, ap, drop, filter, arith}
use Rattle.cast_events.specs.Outs.{no_outs}
use Rattle.cast_domain.specs.Shared.{no_part}
use Rattle.cast_domain.specs.Records.{records_of}
use Rattle.cast_domain.specs.PartCalls.{serials_in}
use Rattle.cast_domain.specs.ViewCalls.{is_member_in}
use Rattle.cast_domain.proofs.Rounds.{gather_next, gather_past, gather_end}
use Rattle.cast_domain.proofs.domain.Domain.serials_of_members.Goals as goal
use Rattle.cast_domain.proofs.domain.Domain.serials_of_members.Goals.{in-Some+in_ok-add_member, in_default}

pub loop-place-preserved : goal.loop-place-preserved
loop-place-preserved c =
    let test = is_member_in (records_of c.args.self.now no_part no_outs) c.args.group in
    let rows = c.args.self.now.delay.rows in
    let i = c.loop-place.place in
    elim c.match-process_at.branch [
      | in-Some+in_ok-add_member w ↦
          rw w.here-is
          (ap (λ ks. ks ++ filter test (drop (i + 1) (serials_in (records_of c.args.self.now no_part no_outs)))) w.in_ok-add_member.ensures
          ∙ gather_next test rows i w.in-Some.process c.loop-place.here.items (sym w.in-Some.ensures)
          ∙ c.loop-place.invariant)
      | in_default w ↦
          rw w.here-is (gather_past test rows i c.loop-place.here.items (sym w.in_default.ensures) ∙ c.loop-place.invariant)
    ]

pub returns : goal.returns
returns c =
    gather_end (is_member_in (records_of c.args.self.now no_part no_outs) c.args.group)
    c.args.self.now.delay.rows c.loop-place.place c.loop-place.here.items (omega arith)
    ∙ c.loop-place.invariant
