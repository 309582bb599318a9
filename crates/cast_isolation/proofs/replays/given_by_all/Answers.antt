use Rattle.std.proofs.Common.{◌≡◌, ◌∙◌, ◌++◌, ◌+◌, ◌∷◌, [], drop, map, sym, ap}
use Rattle.std.specs.Option.{option_to_list}
use Rattle.std.proofs.lemmas.List.{append-nil, drop_all}
use Rattle.cast_events.specs.declared.log.Given.{Given}
use Rattle.cast_table.specs.Tables.{domains_of, pick_domains}
use Rattle.cast_isolation.specs.Replays.{given_of}
use Rattle.cast_isolation.proofs.Back.{picked_more}
use Rattle.cast_isolation.proofs.replays.given_by_all.Goals as goal
use Rattle.cast_isolation.proofs.replays.given_by_all.Goals.{in-Some+in_ok-given_by+in_ok-push, in_default}

pub loop-config-init : goal.loop-config-init
loop-config-init c =
    let items = c.as_slice-config-items.result.now in
    ap (λ front. front ++ map (given_of c.args.outs.now) (pick_domains items c.into_domains-domains.result.items)) c.new-given.ensures
    ∙ ap (λ ds. map (given_of c.args.outs.now) (pick_domains items ds)) c.into_domains-domains.ensures

pub loop-config-preserved : goal.loop-config-preserved
loop-config-preserved c =
    let i = c.loop-config.config-index in
    let items = c.as_slice-config-items.result.now in
    let outs = c.args.outs.now in
    let more =
    picked_more (given_of outs) c.loop-config.given items i c.config-item.result c.loop-config.domains.items c.loop-config-test.true
    c.config-item.is c.take_of.result c.take_of.ensures.first in
    let same : c.match-take_of.given ≡ c.loop-config.given ++ map (given_of outs) (option_to_list c.take_of.result) =
    elim c.match-take_of.branch [
      | in-Some+in_ok-given_by+in_ok-push w ↦
          w.given-is
          ∙ w.in_ok-push.ensures.ok
          ∙ ap (λ (g : Given). c.loop-config.given ++ g ∷ []) w.in_ok-given_by.ensures
          ∙ sym (ap (λ o. c.loop-config.given ++ map (given_of outs) (option_to_list o)) w.in-Some.is)
      | in_default w ↦
          w.given-is
          ∙ sym (append-nil c.loop-config.given)
          ∙ sym (ap (λ o. c.loop-config.given ++ map (given_of outs) (option_to_list o)) w.in_default.is)
    ] in
    ap (λ front. front ++ map (given_of outs) (pick_domains (drop (i + 1) items) c.take_of.new.domains.items)) same
    ∙ ap (λ rest. (c.loop-config.given ++ map (given_of outs) (option_to_list c.take_of.result))
    ++ map (given_of outs) (pick_domains (drop (i + 1) items) rest)) c.take_of.ensures.others
    ∙ sym more
    ∙ c.loop-config.invariant

pub returns : goal.returns
returns c =
    let none : drop c.loop-config.config-index c.as_slice-config-items.result.now ≡ [] =
    drop_all c.loop-config.config-index c.as_slice-config-items.result.now c.loop-config-test.false in
    sym (append-nil c.loop-config.given)
    ∙ sym (ap (λ rest. c.loop-config.given ++ map (given_of c.args.outs.now) (pick_domains rest c.loop-config.domains.items)) none)
    ∙ c.loop-config.invariant
    ∙ ap (λ cs. map (given_of c.args.outs.now) (pick_domains cs (domains_of c.args.table))) c.as_slice-config-items.ensures
