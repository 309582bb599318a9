use Rattle.cast_order.proofs.Hands.{new_hand_fits, hold_fits, hand_over_fits, tell_fits, follow_fits, place_fits}
use Rattle.cast_order.proofs.Hands.{note_fits, settled_rules, hand_of_change, learnt_each, change_rises, place_rises}
use Rattle.cast_order.proofs.laws.hands_keep_their_meaning.Goals as goal

pub returns-clause-new : goal.returns-clause-new
returns-clause-new c = new_hand_fits

pub returns-clause-hold : goal.returns-clause-hold
returns-clause-hold c = hold_fits

pub returns-clause-hand_over : goal.returns-clause-hand_over
returns-clause-hand_over c = hand_over_fits

pub returns-clause-tell : goal.returns-clause-tell
returns-clause-tell c = tell_fits

pub returns-clause-follow : goal.returns-clause-follow
returns-clause-follow c = follow_fits

pub returns-clause-place : goal.returns-clause-place
returns-clause-place c = place_fits

pub returns-clause-note : goal.returns-clause-note
returns-clause-note c = note_fits

pub returns-clause-settled : goal.returns-clause-settled
returns-clause-settled c = settled_rules

pub returns-clause-one : goal.returns-clause-one
returns-clause-one c = hand_of_change

pub returns-clause-all : goal.returns-clause-all
returns-clause-all c = learnt_each

pub returns-clause-rises : goal.returns-clause-rises
returns-clause-rises c = change_rises

pub returns-clause-rises_placed : goal.returns-clause-rises_placed
returns-clause-rises_placed c = place_rises
