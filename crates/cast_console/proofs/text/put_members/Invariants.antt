use Rattle.std.proofs.Common.{◌≡◌, ◌++◌, drop}
use Rattle.std.specs.List.{flat_map}
use Rattle.std.specs.String.{string_bytes}
use Rattle.cast_console.specs.Texts.{member_text}
use Rattle.cast_console.proofs.text.put_members.Given as goal

-- what is written, and what is left
abbrev pub invariant-loop-member : goal.invariant-loop-member
invariant-loop-member l =
    string_bytes l.text ++ flat_map member_text (drop l.member-index l.members)
    ≡ string_bytes l.initial.text ++ flat_map member_text l.members
