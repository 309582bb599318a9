use Rattle.std.proofs.Common.{◌≡◌, drop}
use Rattle.cast_script.specs.Words.{parts_at, texts}
use Rattle.cast_script.specs.WordReadings.{each, site_of}
use Rattle.cast_script.proofs.Each.{with_front}
use Rattle.cast_script.proofs.words.site_list.Given as goal

-- what was read, and what is still read
abbrev pub invariant-loop-piece : goal.invariant-loop-piece
invariant-loop-piece l =
    with_front l.sites.items (each site_of (texts (drop l.piece-index l.piece-items))) ≡ each site_of (parts_at 44 l.word)
