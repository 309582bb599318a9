use Rattle.std.proofs.Common.{◌≡◌, List, sym, subst}
use Rattle.cast_sending.specs.Frames.{Frame}
use Rattle.cast_sending.specs.Silences.{Known, OnlySilentWait, Pass}
use Rattle.cast_sending.proofs.Passing.{only_silent_wait}
use Rattle.cast_sending.proofs.silence.Silences.pass.Goals as goal

pub returns-clause-silent : goal.returns-clause-silent
returns-clause-silent c =
    let old = c.self.inside.sites.items in
    let frames = c.into_vec-frames.result.items in
    let went = c.keep_passing.new.frames.items in
    let came : frames ≡ c.args.outs.now.frames = (cc) in
    let known : old ≡ c.args.self.now = (cc) in
    let pass : Pass old frames went c.keep_passing.new.sites.items = c.keep_passing.ensures in
    subst (λ (k : Known). OnlySilentWait k c.args.outs.now.frames c.from_vec.result) known
    (subst (λ (l : List Frame). OnlySilentWait old l c.from_vec.result) came
    (subst (λ (l : List Frame). OnlySilentWait old frames l) (sym c.from_vec.ensures)
    (only_silent_wait frames went old c.keep_passing.new.sites.items pass)))
