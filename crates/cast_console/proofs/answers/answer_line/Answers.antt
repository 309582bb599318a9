use Rattle.std.proofs.Common.{sym}
use Rattle.cast_console.proofs.answers.answer_line.Goals as goal

pub returns-in-Suspect-clause-done : goal.returns-in-Suspect-clause-done
returns-in-Suspect-clause-done g c = rw c.in-Suspect.is c.serve_event.ensures.done

pub returns-in-Show-clause-text : goal.returns-in-Show-clause-text
returns-in-Show-clause-text g c = rw (c.in-Show.is, c.text_answer-in-Show.ensures.text, sym c.table-in-Show.ensures) c.show_text.ensures

pub returns-in-Retire-clause-text : goal.returns-in-Retire-clause-text
returns-in-Retire-clause-text g c =
    rw (c.in-Retire.is, c.text_answer-in-Retire.ensures.text, sym c.table-in-Retire.ensures) c.retire_text.ensures
