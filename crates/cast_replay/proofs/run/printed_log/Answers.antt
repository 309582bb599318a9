use Rattle.std.proofs.Common.{◌≡◌, Ok, subst}
use Rattle.cast_script.specs.Readings.{script_of}
use Rattle.cast_script.proofs.Distinct.{has_distinct, has_rising}
use Rattle.cast_isolation.specs.Replays.{IsReplay}
use Rattle.cast_replay.proofs.run.printed_log.Goals as goal

pub returns : goal.returns
returns g c =
    let script = c.in_ok-script.script in
    let log = c.in_ok-log.log in
    record {
      ends = (
        c.in_ok-text.ensures.text.1,
        record {
          script = script;
          read = subst (λ text. script_of text ≡ Ok script) c.in_ok-text.ensures.text.0 c.in_ok-script.ensures.exact;
          log = log;
          replayed =
              subst (λ events. IsReplay script.config events log) c.as_slice.ensures
              (c.in_ok-log.ensures.replayed (has_distinct script.config c.in_ok-script.ensures.valid)
              (has_rising script.config c.in_ok-script.ensures.valid));
          printed = c.in_ok-print.ensures;
        },
      );
    }
