use Rattle.std.proofs.Common.{◌≡◌, ◌↔◌, Bool, true, subst, sym}
use Rattle.cast_sending.specs.Frames.{Covers}
use Rattle.cast_sending.proofs.Covering.{covers_decides}
use Rattle.cast_sending.proofs.stables.says_all.Goals as goal

pub returns : goal.returns
returns c =
    let new = c.args.new.now in
    let old = c.args.old.now in
    subst (λ (b : Bool). (b ≡ true) ↔ Covers new old) (sym c.names_say_all.ensures) (covers_decides new old c.requires)
