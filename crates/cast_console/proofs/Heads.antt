-- A first word that is none.
use Rattle.std.proofs.Common.{◌≡◌, ◌≢◌, ℕ, List, Err, ap}
use Rattle.cast_script.proofs.Named.{none_among}
use Rattle.cast_console.specs.declared.line.Head.{Head}
use Rattle.cast_console.specs.declared.line.LineFault.TheVariants.{UnknownWord}
use Rattle.cast_console.specs.Lines.{head_of, head_text, heads, or_line_fault}

pub head_not : (w : List ℕ) → ((h : Head) → w ≢ head_text h) → head_of w ≡ Err UnknownWord
unfolding head_of
head_not w none = ap or_line_fault (none_among head_text heads w none)
