use Rattle.std.proofs.Common.{◌≡◌, drop}
use Rattle.cast_script.specs.Words.{parts_at, texts}
use Rattle.cast_script.specs.WordReadings.{each, group_of}
use Rattle.cast_script.proofs.Each.{with_front}
use Rattle.cast_script.proofs.words.group_list.Given as goal

-- what was read, and what is still read
abbrev pub invariant-loop-piece : goal.invariant-loop-piece
invariant-loop-piece l =
    with_front l.groups.items (each group_of (texts (drop l.piece-index l.piece-items))) ≡ each group_of (parts_at 44 l.word)
