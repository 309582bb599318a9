use Rattle.cast_witnesses.proofs.post.is_each_shown.Given as goal

abbrev pub ghosts-are_shown : goal.ghosts-are_shown
ghosts-are_shown g a = record { name = a.blank.name; parts = a.blank.parts }
