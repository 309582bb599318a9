use Rattle.std.proofs.Common.{sym}
use Rattle.cast_clock.proofs.Halving.{search_found, search_absent}
use Rattle.cast_clock.proofs.places.find_near.Goals as goal

pub returns-in-Ok : goal.returns-in-Ok
returns-in-Ok g c =
    sym (search_found g.K.Ord.cmp g.met.K.Ord.total c.args.key.now c.args.entries.now c.in-Ok.at c.index-entries-at.result c.requires
    c.in-Ok.ensures.bound c.in-Ok.ensures.position)

pub returns-in-Err : goal.returns-in-Err
returns-in-Err g c =
    sym (search_absent g.K.Ord.cmp g.met.K.Ord.total c.args.key.now c.args.entries.now c.in-Err.at c.requires c.in-Err.ensures.position)
