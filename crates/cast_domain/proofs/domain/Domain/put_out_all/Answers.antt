use Rattle.std.proofs.Common.{◌+◌, ◌∙◌, sym, ap, drop, subst}
use Rattle.std.specs.List.{fold}
use Rattle.cast_domain.specs.Records.{records_of}
use Rattle.cast_domain.specs.PartCalls.{serials_in}
use Rattle.cast_domain.specs.ViewCalls.{put_out_if_in}
use Rattle.cast_domain.proofs.Loops.{keeps_then}
use Rattle.cast_domain.proofs.Rows.{names_of}
use Rattle.cast_domain.proofs.Remaining.{RemainAs, gone_of, remain_put_out}
use Rattle.cast_domain.proofs.Rounds.{round_next, round_past}
use Rattle.cast_domain.proofs.domain.Domain.put_out_all.Goals as goal
use Rattle.cast_domain.proofs.domain.Domain.put_out_all.Goals.{in-Some+in_ok-put_out_if, in_default}

pub loop-place-preserved : goal.loop-place-preserved
loop-place-preserved c =
    let g = c.args.group in
    let skips = c.args.skips in
    let members = c.args.members.now in
    let i = c.loop-place.place in
    elim c.match-process_at.branch [
      | in-Some+in_ok-put_out_if w ↦
          let p = w.in-Some.process in
          rw w.self-is (record {
            same = keeps_then _ _ _ c.loop-place.invariant.same w.in_ok-put_out_if.ensures.same;
            remain = λ o part.
                let first = records_of c.args.self.now part o in
                subst (RemainAs first) (sym (w.in_ok-put_out_if.ensures.made o part))
                (remain_put_out first.site (names_of first.delay.rows) (gone_of first) g skips members (records_of c.loop-place.self part o)
                (c.loop-place.invariant.remain o part) p.serial);
            left = λ o part.
                let first = records_of c.args.self.now part o in
                ap (λ x. fold (put_out_if_in g skips members) x (drop (i + 1) (serials_in first))) (w.in_ok-put_out_if.ensures.made o part)
                ∙ round_next (put_out_if_in g skips members) first (records_of c.loop-place.self part o)
                (c.loop-place.invariant.remain o part) i p (sym w.in-Some.ensures)
                ∙ c.loop-place.invariant.left o part;
          })
      | in_default w ↦
          rw w.self-is (record {
            same = c.loop-place.invariant.same;
            remain = c.loop-place.invariant.remain;
            left = λ o part.
                round_past (put_out_if_in g skips members) (records_of c.args.self.now part o) (records_of c.loop-place.self part o)
                (c.loop-place.invariant.remain o part) i (sym w.in_default.ensures)
                ∙ c.loop-place.invariant.left o part;
          })
    ]
