use Rattle.std.proofs.Common.{◌≡◌, length, ◌<◌, Equal, get_or, arith}
use Rattle.std.proofs.lemmas.List.{get_or_default}
use Rattle.cast_types.proofs.Entries.{put_at}
use Rattle.cast_types.proofs.sorted.put.Goals as goal

-- the key was there, and its value is written over
pub returns-in-Equal-clause-ok : goal.returns-in-Equal-clause-ok
returns-in-Equal-clause-ok g c =
    let es = c.loop-at.entries.items in
    let at = c.loop-at.at in
    let d = c.index_mut.result.now in
    let lt : at < length es = omega arith in
    let read = get_or_default es at c.index.result.now d lt in
    let tie : g.K.Ord.cmp c.args.key (get_or es at d).0 ≡ Equal = cc (c.in-Equal.ensures, c.index.ensures) in
    let step = put_at g.K.Ord.cmp c.args.key c.args.value es at d lt tie in
    cc (c.index_mut.ensures.value, step)
