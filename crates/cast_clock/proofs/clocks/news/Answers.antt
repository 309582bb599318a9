use Rattle.std.proofs.Common.{◌≡◌, ◌+◌, ◌<◌, drop, ◌∷◌, ◌++◌, [], Bool, true, Option, unwrap_or, length, ap, sym, subst, ◌∙◌, arith}
use Rattle.std.specs.List.{list_all}
use Rattle.std.specs.FinMap.Entries.{find}
use Rattle.cast_types.specs.declared.names.GroupNo.{GroupNo}
use Rattle.cast_types.specs.declared.clock.Clock.{Clock}
use Rattle.cast_types.specs.Names.{group_cmp}
use Rattle.cast_types.specs.Counts.{is_counts}
use Rattle.cast_types.specs.Stamps.{ClockList}
use Rattle.cast_clock.specs.Times.{first_clock, clock_of, join_clocks, clock_has_room}
use Rattle.cast_clock.specs.News.{is_known, news}
use Rattle.cast_clock.proofs.News.{all_stops, all_goes, all_valid_push, known_fits, known_listed, news_skips, news_adds}
use Rattle.cast_clock.proofs.clocks.news.Goals as goal
use Rattle.cast_clock.proofs.clocks.news.Goals.{then-not-is_known+else-not-fits_joined+in_ok-join_clock+in_ok-push, else-not-is_known}

pub returns-then-not-fits_joined-clause-too_many : goal.returns-then-not-fits_joined-clause-too_many
returns-then-not-fits_joined-clause-too_many c = λ _.
    let e = c.loop-group-item.result in
    let fits : GroupNo × Clock → Bool = λ x. clock_has_room (join_clocks (clock_of c.args.mine.now x.0) x.1) in
    let tested : c.fits_joined.result ≡ fits e =
    c.fits_joined.ensures
    ∙ ap (λ (o : Option Clock). clock_has_room (join_clocks (unwrap_or o (first_clock 0)) e.1)) c.find_near-next.ensures in
    sym (all_stops fits c.args.theirs.now c.loop-group.group-index e (omega arith) c.loop-group-item.is c.loop-group.invariant.room
    (sym tested ∙ c.if-not-fits_joined.true))

-- the group is known
pub loop-group-preserved-then-is_passed : goal.loop-group-preserved-then-is_passed
loop-group-preserved-then-is_passed c =
    let e = c.loop-group-item.result in
    let i = c.loop-group.group-index in
    let mine = c.args.mine.now in
    let theirs = c.args.theirs.now in
    let at : i < length theirs = omega arith in
    let known =
    known_listed mine theirs c.args.known.now i e at c.loop-group-item.is c.requires.viewed c.requires.known
    c.is_passed.ensures.valid (c.is_passed.ensures.listed c.if-is_passed.true) in
    record {
      same = news_skips mine theirs c.loop-group.news.items i e at c.loop-group-item.is known c.loop-group.invariant.same;
      valid = c.loop-group.invariant.valid;
      room = all_goes (λ x. clock_has_room (join_clocks (clock_of mine x.0) x.1)) theirs i e at c.loop-group-item.is
          c.loop-group.invariant.room (known_fits mine e.0 e.1 c.requires.time known);
    }

pub loop-group-preserved : goal.loop-group-preserved
loop-group-preserved c =
    let e = c.loop-group-item.result in
    let i = c.loop-group.group-index in
    let mine = c.args.mine.now in
    let theirs = c.args.theirs.now in
    let at : i < length theirs = omega arith in
    let fits : GroupNo × Clock → Bool = λ x. clock_has_room (join_clocks (clock_of mine x.0) x.1) in
    let goes = all_goes fits theirs i e at c.loop-group-item.is c.loop-group.invariant.room in
    let tested : c.is_known.result ≡ is_known (find group_cmp e.0 mine) e.1 =
    c.is_known.ensures ∙ ap (λ (o : Option Clock). is_known o e.1) c.find_near-next.ensures in
    elim c.if-not-is_known.branch [
      | then-not-is_known+else-not-fits_joined+in_ok-join_clock+in_ok-push w ↦
          let k = w.in_ok-join_clock.field-0 in
          let joined : k ≡ join_clocks (clock_of mine e.0) e.1 =
          w.in_ok-join_clock.ensures.value
          ∙ ap (λ (o : Option Clock). join_clocks (unwrap_or o (first_clock 0)) e.1) c.find_near-next.ensures in
          let items : c.if-not-is_known.news.items ≡ c.loop-group.news.items ++ (e.0, k) ∷ [] =
          ap (λ v. v.items) w.news-is ∙ w.in_ok-push.ensures.items in
          record {
            same = subst (λ (l : ClockList). l ++ news mine (drop (i + 1) theirs) ≡ news mine theirs) (sym items)
                (news_adds mine theirs c.loop-group.news.items i e k at c.loop-group-item.is (sym tested ∙ w.if-not-is_known.true)
                joined c.loop-group.invariant.same);
            valid = subst (λ (l : ClockList). list_all (λ x. is_counts x.1.counts) l ≡ true) (sym items)
                (all_valid_push c.loop-group.news.items e.0 k c.loop-group.invariant.valid w.in_ok-join_clock.ensures.valid);
            room =
                goes (sym (w.fits_joined.ensures ∙ ap (λ (o : Option Clock). clock_has_room (join_clocks (unwrap_or o (first_clock 0)) e.1))
                c.find_near-next.ensures) ∙ w.if-not-fits_joined.false);
          }
      | else-not-is_known w ↦
          let items : c.if-not-is_known.news.items ≡ c.loop-group.news.items = ap (λ v. v.items) w.news-is in
          record {
            same =
                rw items (news_skips mine theirs c.loop-group.news.items i e at c.loop-group-item.is (sym tested ∙ w.if-not-is_known.false)
                c.loop-group.invariant.same);
            valid = rw items c.loop-group.invariant.valid;
            room = goes (known_fits mine e.0 e.1 c.requires.time (sym tested ∙ w.if-not-is_known.false));
          }
    ]
