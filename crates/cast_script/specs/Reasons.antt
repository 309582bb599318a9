-- What is said of a line that is refused.
use Rattle.std.specs.Prelude.{ℕ, List, codes}
use Rattle.cast_script.specs.declared.words.Reason.{Reason}
use Rattle.cast_script.specs.declared.words.Reason.TheVariants.{UnknownWord, WrongCount, BadNumber}
use Rattle.cast_script.specs.declared.words.Reason.TheVariants.{BadHex, BadFrame, Order}

abbrev pub reason_text : Reason → List ℕ
reason_text UnknownWord = codes "unknown word"
reason_text WrongCount = codes "wrong count"
reason_text BadNumber = codes "bad number"
reason_text BadHex = codes "bad hex"
reason_text BadFrame = codes "bad frame"
reason_text Order = codes "order"
