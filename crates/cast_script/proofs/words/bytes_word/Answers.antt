use Rattle.std.proofs.Common.{rules}
use Rattle.cast_script.specs.WordReadings.{bytes_of}
use Rattle.cast_script.proofs.words.bytes_word.Goals as goal

pub returns-then-is_empty : goal.returns-then-is_empty
unfolding bytes_of
returns-then-is_empty c = search rules

pub returns-in-Ok : goal.returns-in-Ok
unfolding bytes_of
returns-in-Ok c = search rules

pub returns-in-Err-OutOfMemory : goal.returns-in-Err-OutOfMemory
unfolding bytes_of
returns-in-Err-OutOfMemory c = search rules

pub returns-in-Err : goal.returns-in-Err
unfolding bytes_of
returns-in-Err c = search rules
