-- Where none of the first messages is ready, those behind them tell as much as all.
use Rattle.std.proofs.Common.{◌≡◌, ℕ, Bool, true, not, ◌||◌, List, drop}
use Rattle.std.specs.List.{find}
use Rattle.std.proofs.lemmas.Bool.{and_parts, not-true}
use Rattle.cast_types.specs.declared.names.GroupNo.{GroupNo}
use Rattle.cast_types.specs.Names.{entry_of}
use Rattle.cast_ready.specs.declared.gate.Gate.{Gate}
use Rattle.cast_ready.specs.declared.row.Row.{Row}
use Rattle.cast_ready.specs.declared.turn.Turn.{Turn}
use Rattle.cast_ready.specs.declared.offered.Offered.{Offered}
use Rattle.cast_ready.specs.Ready.{has_turn, turn_in}
use Rattle.cast_ready.specs.Rows.{is_causally_ready_row, is_ready_row}
use Rattle.cast_delay.specs.Offers.{none_of}
use Rattle.cast_delay.proofs.ListLemmas.{find_past}

-- what is ready is causally ready
pub only_causally : (turns : List (GroupNo × Turn)) (gates : List (GroupNo × Gate)) (row : Row) (o : Offered) →
    is_ready_row turns gates row o ≡ true → is_causally_ready_row gates row o.id o.times ≡ true
only_causally turns gates row o ready =
    (and_parts (is_causally_ready_row gates row o.id o.times) (not o.atomic || has_turn (turn_in turns o.id.group) (entry_of o.id)) ready).0

-- messages from a place on tell as much as all, where none before them passes
module _ (t : Offered → Bool) (offered : List Offered) (n : ℕ) (none : none_of t n offered ≡ true) where
  pub first_behind : find t (drop n offered) ≡ find t offered
  first_behind = find_past (λ o. not (t o)) t (λ o not_so. not-true (t o) not_so) offered n none
