use Rattle.std.proofs.Common.{take, get_or, sym, ap, ◌∙◌, arith}
use Rattle.cast_timer.specs.declared.key.OwedKey.{OwedKey}
use Rattle.cast_timer.specs.declared.key.OwedKind.TheVariants.{Ask}
use Rattle.cast_timer.specs.declared.key.Side.TheVariants.{Site}
use Rattle.cast_timer.specs.Owed.{key_eq}
use Rattle.cast_timer.specs.Rows.{has_key}
use Rattle.cast_timer.specs.Index.{due_of, moved_to}
use Rattle.cast_timer.proofs.Kept.{keeps_both, moved_more, one_more}
use Rattle.cast_timer.proofs.frames.renew_each.Goals as goal

-- what stands past the end of the keys
none : OwedKey
none = record {
  kind = Ask;
  group = record { 0 = 0 };
  proc = record { site = record { 0 = 0 }; serial = 0 };
  count = 0;
  site = record { 0 = 0 };
  side = Site;
}

pub loop-key-preserved : goal.loop-key-preserved
unfolding none
loop-key-preserved c =
    let dues = c.loop-key.dues.entries in
    let new = c.renew.new.dues.entries in
    let keys = c.args.keys.now in
    let i = c.loop-key.key-index in
    record {
      kept = keeps_both c.args.domain c.args.moments.now.entries c.loop-key.moments.entries c.renew.new.moments.entries (due_of dues)
          (due_of new) c.loop-key.invariant.kept c.renew.ensures.kept;
      moved = λ q.
          c.in_ok-renew.ensures.ok q
          ∙ ap (λ m. moved_to c.args.due (key_eq (get_or keys i none) q) m) (c.loop-key.invariant.moved q)
          ∙ moved_more c.args.due (key_eq (get_or keys i none) q) (has_key q (take i keys)) (due_of c.args.dues.now.entries q)
          ∙ ap (λ b. moved_to c.args.due b (due_of c.args.dues.now.entries q)) (sym (one_more keys i none q (omega arith)));
    }
