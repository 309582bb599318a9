use Rattle.std.proofs.Common.{◌≡◌, ◌≤◌, length, filter, not, subst, sym, ◌∙◌, IsTrue}
use Rattle.std.proofs.lemmas.List.{drop_all}
use Rattle.cast_types.specs.Names.{proc_cmp}
use Rattle.cast_types.specs.Sets.{with_items}
use Rattle.cast_view.specs.Home.{decided_list, stays, is_suspected, is_sound}
use Rattle.cast_view.proofs.Rooms.{few_decided}
use Rattle.cast_flush.proofs.Gathered.{kept_next, passed_next}
use Rattle.cast_view.proofs.home.HomeSide.decided_list.Goals as goal
use Rattle.cast_view.proofs.home.HomeSide.decided_list.Goals.{then-stays+in_ok-insert, else-stays}

-- the processes are those that are decided, for whom there is room
pub returns-clause-few : goal.returns-clause-few
returns-clause-few c =
    let all =
    subst (λ xs.
    with_items proc_cmp c.loop-process.procs (filter (λ p. not (is_suspected c.args.self.now p.site)) xs) ≡ decided_list c.args.self.now)
    (drop_all c.loop-process.process-index c.as_slice-process-items.result.now c.loop-process-test.false) c.loop-process.invariant in
    subst (λ procs. length procs ≤ 64) (sym all)
    (few_decided c.args.self.now (subst (λ h. IsTrue (is_sound h)) c.self.view_is c.self.invariant))

-- one more member that stays is added before the rest
pub loop-member-preserved : goal.loop-member-preserved
loop-member-preserved c =
    let rest = filter (λ p. not (is_suspected c.args.self.now p.site)) c.args.self.now.joins in
    elim c.if-stays.branch [
      | then-stays+in_ok-insert w ↦
          kept_next proc_cmp (stays c.args.self.now)
          c.loop-member.procs c.if-stays.procs _ c.list-member-items.result.now c.loop-member.member-index _ c.loop-member-test.true rest
          (sym c.stays.ensures ∙ w.if-stays.true) (w.procs-is ∙ w.in_ok-insert.ensures.ok) c.loop-member.invariant
      | else-stays w ↦
          passed_next proc_cmp (stays c.args.self.now)
          c.loop-member.procs c.if-stays.procs _ c.list-member-items.result.now c.loop-member.member-index _ c.loop-member-test.true rest
          (sym c.stays.ensures ∙ w.if-stays.false) w.procs-is c.loop-member.invariant
    ]
