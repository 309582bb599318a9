use Rattle.std.proofs.Common.{◌≡◌, ℕ, ◌+◌, ◌-◌, ◌++◌, List, length, drop, ap, sym, ◌∙◌, rules, arith}
use Rattle.cast_types.specs.Names.{Entry}
use Rattle.cast_order.specs.Log.{Log, length_of, waiting_of, tail_start_in, tail_ids_in}
use Rattle.cast_order.proofs.Steps.{tail_are}
use Rattle.cast_order.proofs.log.OrderLog.tail.Goals as goal

pub returns : goal.returns
returns c =
    let was = c.self.inside in
    let o = c.args.holder in
    let l : Log = record {
      group = was.group;
      base = was.base;
      window = was.window.items;
      later = was.later.entries;
      places = was.places;
      hands = was.hands.items;
      closed = was.closed;
    } in
    let start = c.max-start.result in
    let same : length_of l ≡ length_of c.args.self.now = ap length_of c.self.view_is in
    let known = c.length-known.ensures in
    let waits : c.waiting_of-waiting.result.now ≡ waiting_of l o =
    c.waiting_of-waiting.ensures ∙ sym (ap (λ x. waiting_of x o) c.self.view_is) in
    let many : length c.waiting_of-waiting.result.now ≡ length (waiting_of l o) = ap length waits in
    let whole : c.in-Some.whole ≡ length_of l + length (waiting_of l o) = search (rules, same, known, many) in
    let at : start ≡ tail_start_in l o = omega (arith, whole) in
    let behind : c.saturating_sub-2.result ≡ start - length_of l = omega (arith, same, known) in
    let front : c.in_ok-ids.ids.items ≡ drop (start - was.base) was.window.items =
    c.in_ok-ids.ensures.items ∙ c.past_first.ensures ∙ ap (drop (start - was.base)) c.deref.ensures.value in
    let back : c.past_first-2.result.now ≡ drop (start - length_of l) (waiting_of l o) =
    c.past_first-2.ensures ∙ (λ i. drop (behind i) (waits i)) in
    let ids : c.from_vec.result ≡ drop (start - was.base) was.window.items ++ drop (start - length_of l) (waiting_of l o) =
    c.from_vec.ensures ∙ c.in_ok-extend_from_slice.ensures.items ∙ (λ i. front i ++ back i) in
    tail_are l o start c.from_vec.result at ids
    ∙ ap {B = ℕ × List Entry} (λ (x : Log). (tail_start_in x o, tail_ids_in x o)) c.self.view_is
