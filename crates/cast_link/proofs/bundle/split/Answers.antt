use Rattle.std.proofs.Common.{rules, ◌≤◌, Some, None, length}
use Rattle.cast_link.specs.Bundles.{IsFirst}
use Rattle.cast_link.proofs.Bundles.{splits_none, one_more, led_further}
use Rattle.cast_link.proofs.bundle.split.Goals as goal

pub returns-in_default : goal.returns-in_default
returns-in_default c =
    let some : 1 ≤ length c.loop-rest.rest = search rules in
    let first : IsFirst c.loop-rest.rest None = rw c.as_slice.ensures at (rw c.in_default.is at c.first_len.ensures) in
    splits_none c.args.bytes c.loop-rest.rest c.loop-rest.invariant.1 some first

pub loop-rest-preserved : goal.loop-rest-preserved
loop-rest-preserved c =
    let first : IsFirst c.loop-rest.rest (Some c.in-Some.len) = rw c.as_slice.ensures at (rw c.in-Some.is at c.first_len.ensures) in (
      rw (c.in_ok-push.ensures.ok, c.in_ok-split_to.ensures.rest, c.in_ok-split_to.ensures.front, c.advance.ensures)
          (one_more c.args.bytes c.loop-rest.rest c.loop-rest.frames c.in-Some.len c.loop-rest.invariant.0 first),
      rw (c.in_ok-split_to.ensures.rest, c.advance.ensures)
          (led_further c.args.bytes c.loop-rest.rest c.in-Some.len c.loop-rest.invariant.1 first),
    )
