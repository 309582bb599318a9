-- What the calls leave and give, step by step.
use Rattle.std.proofs.Common.{◌≡◌, ℕ, suc, ◌+◌, ◌-◌, ◌<◌, min, true, ◌&&◌, List, [], ◌∷◌, ◌++◌}
use Rattle.std.proofs.Common.{length, drop, append_assoc, Option, Some, None, sym, ap, ◌∙◌, arith}
use Rattle.std.specs.Prelude.{nat_le}
use Rattle.std.proofs.lemmas.Bool.{and_from, le-leb}
use Rattle.std.proofs.lemmas.List.{append-nil, length-take}
use Rattle.cast_types.specs.declared.limits.TheConstants.{MAX_PLACED, MAX_POSITION}
use Rattle.cast_types.specs.declared.names.Proc.{Proc}
use Rattle.cast_types.specs.Names.{Entry}
use Rattle.cast_message.specs.Placement.{is_placement}
use Rattle.cast_order.specs.Order.{Facts, id_at, order_from, ids_to_list}
use Rattle.cast_order.specs.Log.{Log, length_of, waiting_of, tail_start_in, tail_ids_in}
use Rattle.cast_order.proofs.Lists.{drop_on}
use Rattle.cast_order.proofs.Told.{order_next, order_ends}

-- one more id of the order, and its end
pub one_more : (facts : Facts) (known whole : List Entry) (most place : ℕ) (e : Entry) → id_at facts place ≡ Some e → place < most →
    known ++ order_from (most - place) place facts ≡ whole → (known ++ e ∷ []) ++ order_from (most - (place + 1)) (place + 1) facts ≡ whole
one_more facts known whole most place e is lt so_far =
    let one : most - place ≡ suc (most - (place + 1)) = omega arith in
    append_assoc known (e ∷ []) (order_from (most - (place + 1)) (place + 1) facts)
    ∙ ap (λ rest. known ++ rest) (sym (order_next facts (most - (place + 1)) place e is))
    ∙ ap (λ n. known ++ order_from n place facts) (sym one)
    ∙ so_far

pub no_more : (facts : Facts) (known whole : List Entry) (n place : ℕ) → id_at facts place ≡ None →
    known ++ order_from n place facts ≡ whole → known ≡ whole
no_more facts known whole n place none so_far =
    sym (append-nil known) ∙ ap (λ rest. known ++ rest) (sym (order_ends facts n place none)) ∙ so_far

-- the tail of what is kept
pub tail_are : (l : Log) (o : Option Proc) (start : ℕ) (ids : List Entry) → start ≡ tail_start_in l o →
    ids ≡ drop (start - l.base) l.window ++ drop (start - length_of l) (waiting_of l o) →
    ◌≡◌ {A = ℕ × List Entry} (start, ids) (tail_start_in l o, tail_ids_in l o)
tail_are l o start ids at are =
    let less : start - length_of l ≡ start - l.base - length l.window = omega arith in
    let same : ids ≡ tail_ids_in l o =
    are ∙ ap (λ n. drop (start - l.base) l.window ++ drop n (waiting_of l o)) less
    ∙ sym (drop_on (start - l.base) l.window (waiting_of l o)) ∙ ap (λ n. drop (n - l.base) (l.window ++ waiting_of l o)) at in
    λ i. (at i, same i)

-- what waits makes places that a message may set
pub may_set : (waiting : List Entry) (known first : ℕ) (ids : List Entry) → 0 < length waiting → known < MAX_POSITION → first ≡ known + 1 →
    ids ≡ ids_to_list waiting → is_placement (record { first = first; ids = ids; holder = None }) ≡ true
may_set waiting known first ids some room at are =
    let few : length ids ≡ min MAX_PLACED (length waiting) = ap length are ∙ length-take MAX_PLACED waiting in
    and_from (nat_le 1 first && nat_le first MAX_POSITION) (nat_le 1 (length ids) && nat_le (length ids) MAX_PLACED)
    (and_from (nat_le 1 first) (nat_le first MAX_POSITION) (le-leb 1 first (omega arith)) (le-leb first MAX_POSITION (omega arith)))
    (and_from (nat_le 1 (length ids)) (nat_le (length ids) MAX_PLACED) (le-leb 1 (length ids) (omega arith))
    (le-leb (length ids) MAX_PLACED (omega arith)))
