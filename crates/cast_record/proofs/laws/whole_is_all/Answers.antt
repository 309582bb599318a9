use Rattle.cast_record.proofs.Selections.{each_line_is_shown, files_do_not_matter, whole_is_all}
use Rattle.cast_record.proofs.laws.whole_is_all.Goals as goal

pub returns-clause-whole : goal.returns-clause-whole
returns-clause-whole c = whole_is_all

pub returns-clause-shown : goal.returns-clause-shown
returns-clause-shown c = each_line_is_shown

pub returns-clause-files : goal.returns-clause-files
returns-clause-files c = files_do_not_matter
