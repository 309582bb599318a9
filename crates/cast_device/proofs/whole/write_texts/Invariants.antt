use Rattle.cast_device.proofs.Pieces.{WroteTo}
use Rattle.cast_device.proofs.whole.write_texts.Given as goal

abbrev pub invariant-loop-text : goal.invariant-loop-text
invariant-loop-text g l =
    WroteTo (λ text. text.now) (g.W.Write.contents l.fn.writer.device) (g.W.Write.contents l.writer.device) l.texts l.text-index
