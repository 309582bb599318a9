use Rattle.std.proofs.Common.{◌≡◌, ◌∙◌, [], map, take, refl, sym, ap, subst, arith}
use Rattle.std.proofs.lemmas.List.{take_all}
use Rattle.cast_rules.specs.State.{opening}
use Rattle.cast_domain.specs.Shared.{no_part}
use Rattle.cast_domain.specs.Records.{Records}
use Rattle.cast_rules.specs.Run.{before_event}
use Rattle.cast_domain.specs.Fits.{Fits, AreDismissed, record_for}
use Rattle.cast_domain.specs.Freed.{AreNotFree}
use Rattle.cast_rules.proofs.Lawful.{lawful_opening}
use Rattle.cast_domain.proofs.Arrivals.{fits_before}
use Rattle.cast_domain.proofs.domain.Domain.new.Goals as goal

pub returns-clause-begins : goal.returns-clause-begins
returns-clause-begins c rising =
    let here = c.args.site in
    let config = c.args.config in
    let s = opening here config in
    let all : take c.loop-group.group-index c.as_slice-group-items.result.now ≡ c.as_slice-group-items.result.now =
    take_all _ _ (omega arith) in
    let groups : c.loop-group.groups.items ≡ map (record_for s) config.groups =
    c.loop-group.invariant ∙ ap (map (record_for s)) (all ∙ c.as_slice-group-items.ensures) in
    let stands = subst (λ (r : Records). Fits r (before_event s) × AreDismissed r × AreNotFree r) (sym (λ j. record {
      site = here;
      config = config;
      quotas = config.quotas;
      used = (c.new-2.ensures j).used;
      casts = 0;
      sessions = (c.new-2.ensures j).records;
      groups = groups j;
      moment = c.first.ensures j;
      part = no_part;
      delay = c.new-3.ensures j;
      acks = c.new-4.ensures j;
      orders = c.new-5.ensures j;
      frames = [];
      delivered = [];
      pushed = [];
    })) (fits_before here config, λ k gone. refl, λ x there. absurd (omega (arith, there.1))) in
    record {
      fits = stands.0;
      dismissed = stands.1;
      freed = stands.2;
      lawful = lawful_opening here config rising;
    }
