use Rattle.std.proofs.Common.{◌≡◌, ◌++◌, drop}
use Rattle.std.specs.List.{flat_map}
use Rattle.std.specs.String.{string_bytes}
use Rattle.cast_print.specs.Logs.{given_text, log_text}
use Rattle.cast_print.proofs.log.print.Given as goal

-- what is written, and what is left
abbrev pub invariant-loop-given : goal.invariant-loop-given
invariant-loop-given l =
    string_bytes l.text ++ flat_map (given_text l.site) (drop l.given-index l.log.given) ≡ log_text l.site l.log
