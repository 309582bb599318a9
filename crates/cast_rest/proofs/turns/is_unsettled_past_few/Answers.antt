use Rattle.std.proofs.Common.{◌≡◌, ◌∙◌, ◌-◌, ◌<◌, ℕ, sym, ap, arith}
use Rattle.std.proofs.lemmas.Bool.{lt-ltb}
use Rattle.std.proofs.lemmas.List.{length-drop}
use Rattle.cast_flush.proofs.Each.{length_filter}
use Rattle.cast_types.specs.Names.{uid_in}
use Rattle.cast_types.specs.declared.limits.TheConstants.{MAX_UNSETTLED}
use Rattle.cast_delay.specs.Queue.{delivered_in}
use Rattle.cast_events.specs.Outs.{no_outs}
use Rattle.cast_order.specs.Log.{Log, known_past, log_of}
use Rattle.cast_domain.specs.Shared.{no_part}
use Rattle.cast_domain.specs.Records.{records_of}
use Rattle.cast_domain.specs.ReleaseCalls.{settled_at, unsettled_at, waiting_past}
use Rattle.cast_rest.proofs.turns.is_unsettled_past_few.Goals as goal

pub returns-then-saturating_add-lt-MAX_UNSETTLED : goal.returns-then-saturating_add-lt-MAX_UNSETTLED
returns-then-saturating_add-lt-MAX_UNSETTLED c =
    let d = c.args.domain.now in
    let x = c.args.kept.now in
    let p = c.args.process in
    let r = records_of d no_part no_outs in
    let l : Log = log_of d.orders x.name in
    let m : ℕ = settled_at r p x in
    let few = length_filter (λ e. delivered_in r.delay p (uid_in x.name x.here.number e)) (known_past m l) in
    let past = length-drop (m - l.base) l.window in
    let waiting : c.waiting_past.result ≡ waiting_past l p m =
    c.waiting_past.ensures ∙ ap (waiting_past l p) c.settled_to-settled.ensures in
    let known = c.saturating_sub-known.ensures in
    let all = c.length.ensures in
    let sum = c.saturating_add.ensures in
    let settled = c.settled_to-settled.ensures in
    let below = c.if-saturating_add-lt-MAX_UNSETTLED.true in
    let least : unsettled_at r p x < MAX_UNSETTLED = omega (arith, few, past, waiting, known, all, sum, settled, below) in
    lt-ltb c.saturating_add.result MAX_UNSETTLED below ∙ sym (lt-ltb (unsettled_at r p x) MAX_UNSETTLED least)
