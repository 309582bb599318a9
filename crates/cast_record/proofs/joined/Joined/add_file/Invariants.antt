use Rattle.std.proofs.Common.{◌≡◌, ◌++◌, List, ℕ, length, map}
use Rattle.std.specs.List.{slice_split}
use Rattle.cast_record.specs.Parts.{IsOf, Line, is_line_feed, line_of}
use Rattle.cast_record.proofs.joined.Joined.add_file.Given as goal

abbrev pub invariant-loop-line : goal.invariant-loop-line
invariant-loop-line l = record {
  part : l.self.part ≡ l.fn.self.part;
  lines : (lines : List Line) → IsOf l.fn.self lines →
      (read : List (List ℕ))
      × (slice_split is_line_feed l.bytes ≡ read ++ slice_split is_line_feed l.rest)
      × IsOf l.self (lines ++ map (line_of l.is_first) read);
}

abbrev pub decreases-loop-line : goal.decreases-loop-line
decreases-loop-line l = length l.rest
