use Rattle.std.proofs.Common.{rules, ◌≡◌, [], ◌∙◌, Some, ap, drop, sym}
use Rattle.std.specs.List.{flat_map}
use Rattle.cast_link.specs.Bundles.{BeginsAsBundle, Splits, in_bundle}
use Rattle.cast_link.proofs.Bundles.{without_frames}
use Rattle.cast_link.proofs.bundle.unpack.Goals as goal

pub returns-then-is_empty : goal.returns-then-is_empty
returns-then-is_empty c =
    let begins : BeginsAsBundle c.args.datagram = search rules in
    let empty : c.in-Some.frames ≡ [] = search rules in
    let split : Splits c.advance.new.self (Some c.in-Some.frames) = rw c.in-Some.is at c.in_ok-frames.ensures in
    let none : drop 4 c.args.datagram ≡ [] = sym c.advance.ensures ∙ (split.1 ∙ ap (flat_map in_bundle) empty) in
    (begins, without_frames c.args.datagram none)
