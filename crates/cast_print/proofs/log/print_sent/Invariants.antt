use Rattle.std.proofs.Common.{◌≡◌, ◌++◌, drop}
use Rattle.std.specs.List.{flat_map}
use Rattle.std.specs.String.{string_bytes}
use Rattle.cast_print.specs.Logs.{frame_line}
use Rattle.cast_print.proofs.log.print_sent.Given as goal

-- what is written, and what is left
abbrev pub invariant-loop-receiver : goal.invariant-loop-receiver
invariant-loop-receiver l =
    string_bytes l.text ++ flat_map (frame_line l.domain l.site) (drop l.receiver-index l.sent)
    ≡ string_bytes l.initial.text ++ flat_map (frame_line l.domain l.site) l.sent
