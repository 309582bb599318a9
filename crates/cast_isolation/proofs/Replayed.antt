-- A whole replay: what is given for each domain is what a daemon gives that serves it alone.
use Rattle.std.proofs.Common.{◌≡◌, true, List, [], ◌∷◌, map, length, Result, sym, subst, ◌∙◌}
use Rattle.std.specs.List.{AllZip}
use Rattle.cast_types.specs.declared.names.DomainNo.{DomainNo}
use Rattle.cast_types.specs.declared.names.SiteNo.{SiteNo}
use Rattle.cast_types.proofs.Zips.{zip_length}
use Rattle.cast_events.specs.declared.config.Config.{Config}
use Rattle.cast_domain.specs.declared.domain.Domain.{Domain}
use Rattle.cast_events.specs.declared.event.Event.{Event}
use Rattle.cast_events.specs.declared.event.Taken.{Taken}
use Rattle.cast_events.specs.declared.log.Fault.{Fault}
use Rattle.cast_events.specs.declared.log.Log.{Log}
use Rattle.cast_table.specs.Owns.{are_distinct, have_rising_groups}
use Rattle.cast_table.specs.Tables.{Lent, pick_domains}
use Rattle.cast_table.proofs.Ordered.{distinct_by_number, rising_by_number}
use Rattle.cast_isolation.specs.Replays.{Served, IsServed, IsReplay, frames_of, pushes_of, given_of, TellsNoDomain}
use Rattle.cast_isolation.proofs.Served.{HasGiven, given_with}
use Rattle.cast_isolation.proofs.Back.{back, answers_same, tells_same}
use Rattle.cast_isolation.proofs.SoFars.{SoFar, ordered}

all_served : (here : SiteNo) (events : List Event) (answers : List (Result Taken Fault)) (l : Lent) (served : List Served)
    (ds : List Domain) → AllZip (HasGiven here events answers l) served ds →
    AllZip (IsServed here events answers) served (map (given_of l.outs) ds)
all_served here events answers l [] [] given = given
all_served here events answers l [] (d ∷ ds) given = absurd given
all_served here events answers l (s ∷ served) [] given = absurd given
all_served here events answers l (s ∷ served) (d ∷ ds) given = (
  subst (λ (n : DomainNo). IsServed here events answers s (given_with (frames_of n l.outs.frames) (pushes_of n l.outs.pushed) d))
      (sym given.0.served.domain) given.0.served,
  all_served here events answers l served ds given.1,
)

pub replayed : (config : Config) (events : List Event) (log : Log) (l : Lent) (ds : List Domain) →
    log.given ≡ map (given_of l.outs) (pick_domains config.domains ds) → SoFar (ordered config) events log.answers l ds →
    are_distinct config.domains ≡ true → have_rising_groups config.domains ≡ true → IsReplay config events log
replayed config events log l ds given so_far distinct rising =
    let was = so_far.serves (distinct_by_number config.domains distinct) (rising_by_number config.domains ∙ rising) in
    let again =
    back (HasGiven config.site events log.answers l) (λ s d given. given.served.domain)
    config.domains was.served ds was.configured was.given in
    record {
      served = again.order;
      configured = again.configs;
      given =
          subst (AllZip (IsServed config.site events log.answers) again.order) (sym given)
          (all_served config.site events log.answers l again.order (pick_domains config.domains ds) again.given);
      answers = answers_same was.served again.order again.any again.named 0 events log.answers was.answered;
    }

pub answered_all : (config : Config) (events : List Event) (answers : List (Result Taken Fault)) (l : Lent) (ds : List Domain) →
    SoFar config events answers l ds → length answers ≡ length events
answered_all config events answers l ds so_far = sym (zip_length (TellsNoDomain config.domains) events answers so_far.named)

pub told_no_domain : (config : Config) (events : List Event) (answers : List (Result Taken Fault)) (l : Lent) (ds : List Domain) →
    SoFar (ordered config) events answers l ds → AllZip (TellsNoDomain config.domains) events answers
told_no_domain config events answers l ds so_far = tells_same config.domains events answers so_far.named
