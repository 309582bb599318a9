use Rattle.std.proofs.Common.{◌≡◌, ◌++◌, drop}
use Rattle.std.specs.List.{flat_map}
use Rattle.std.specs.String.{string_bytes}
use Rattle.cast_print.proofs.Joined.{comma_text}
use Rattle.cast_print.proofs.head.put_numbers.Given as goal

-- what is written, and what is left
abbrev pub invariant-loop-number : goal.invariant-loop-number
invariant-loop-number l =
    string_bytes l.text ++ flat_map comma_text (drop l.number-index l.others) ≡ string_bytes l.initial.text ++ flat_map comma_text l.others
