-- The home ends a view's order with the longest order that was reported, and behind it ABCASTs without a place. Each order that was
-- reported is a prefix of the longest one.
use Rattle.std.proofs.Common.{ap, arith, inl, inr, subst, sym, ◌∙◌}
use Rattle.std.proofs.lemmas.Bool.{ltb-false, ltb-true}
use Rattle.std.proofs.lemmas.List.{length-append}
use Rattle.std.specs.List.{flat_map, fold}
use Rattle.std.specs.Prelude.{◌++◌, ◌-◌, Bool, Contains, List, Option, [], drop, false, filter, if◌then◌else◌, length}
use Rattle.std.specs.Prelude.{map, min, nat_lt, not, refl, suc, take, true, unwrap_or, zero, ℕ, ◌∷◌, ◌≡◌, ◌≤◌, ◌⊎◌}
use Rattle.cast_flush.specs.Decisions.{added_entries, end_of, longest, no_stretch, order_from, unplaced_entries}
use Rattle.cast_flush.specs.Reports.{Reports}
use Rattle.cast_flush.specs.declared.report.Report.{Report}
use Rattle.cast_rules.specs.Reports.{tail_of}
use Rattle.cast_message.specs.Tail.{Tail}
use Rattle.cast_message.specs.declared.message.Message.{Message}
use Rattle.cast_order.specs.Order.{tail_ids, tail_start}
use Rattle.cast_types.specs.Counts.{CountList, is_within}
use Rattle.cast_types.specs.Names.{Entry, entry_cmp, entry_eq}
use Rattle.cast_types.specs.Sets.{apart_from, is_among}
use Rattle.cast_types.specs.declared.limits.TheConstants.{MAX_ORDER, MAX_PLACED, MAX_POSITION, MAX_TAIL}
use Rattle.cast_types.specs.declared.names.GroupNo.{GroupNo}
use Rattle.cast_types.specs.declared.names.Proc.{Proc}
use Rattle.cast_types.specs.declared.names.SiteNo.{SiteNo}
use Rattle.cast_view.specs.Home.{installing}
use Rattle.cast_view.specs.declared.phase.Decision.{Decision}
use Rattle.cast_view.specs.declared.phase.Phase.TheVariants.{Installing}
use Rattle.cast_world.proofs.Allowed.{passed, taken_of}
use Rattle.cast_world.proofs.Closings.{End, HasReported, HasSaid, IsAbcast, Sided, end_tail}
use Rattle.cast_world.proofs.Firsts.{drop_length, kept_length, shorter_begins}
use Rattle.cast_world.proofs.Flush.{Choice}
use Rattle.cast_world.proofs.Homes.{among_kept, idle_not, same_decision, set_had}
use Rattle.cast_world.proofs.Invariants.{Sites}
use Rattle.cast_world.proofs.Tokens.{HandOvers}
use Rattle.cast_world.proofs.Orders.{Orders, done_in}
use Rattle.cast_world.proofs.Prefixes.{comparable, in_flat, prefix_trans}
use Rattle.cast_world.proofs.Runs.{from_mapped}
use Rattle.cast_world.proofs.Windows.{Safe}
use Rattle.cast_world.specs.Agreement.{IsPrefix}

-- Lists

pub take_all : {X : Type 0} (n : ℕ) (xs : List X) → length xs ≤ n → take n xs ≡ xs
take_all zero [] le = refl
take_all zero (x ∷ xs) le = absurd (omega (arith, le))
take_all (suc n) [] le = refl
take_all (suc n) (x ∷ xs) le = ap (λ l. x ∷ l) (take_all n xs (omega (arith, le)))

pub take_most : {X : Type 0} (n : ℕ) (xs : List X) → length (take n xs) ≤ n
take_most zero xs = omega arith
take_most (suc n) [] = omega arith
take_most (suc n) (x ∷ xs) = let le = take_most n xs in omega (arith, le)

-- The end of an order

start_low : (n : ℕ) → n - MAX_TAIL ≤ n
start_low n = omega arith

pub tail_starts : (whole : List Entry) → length whole ≤ MAX_POSITION → (tail_of whole).start ≡ tail_start whole
tail_starts whole few = go (length whole - MAX_TAIL) (let low = start_low (length whole) in omega (arith, low, few))
  where
    go : (n : ℕ) → n ≤ MAX_POSITION → min MAX_POSITION n ≡ n
    go n le = omega (arith, le)

-- it reaches as far as the order
pub tail_ends : (whole : List Entry) → length whole ≤ MAX_POSITION → end_of (tail_of whole) ≡ length whole
tail_ends whole few =
    let start = tail_starts whole few in
    let rest = drop_length (tail_start whole) whole (start_low (length whole)) in
    omega (arith, start, rest)

pub tail_few : (whole : List Entry) → length (tail_ids whole) ≤ MAX_TAIL
tail_few whole = let rest = drop_length (tail_start whole) whole (start_low (length whole)) in omega (arith, rest)

-- The longest of reports

abbrev longer : Tail → SiteNo × Report → Tail
longer t r = if nat_lt (end_of t) (end_of r.1.tail) then r.1.tail else t

abbrev IsLongest : Tail → Reports → Tail → Type 0
IsLongest first reports t =
    ((t ≡ first) ⊎ ((x : SiteNo × Report) × Contains reports x × (t ≡ x.1.tail)))
    × (end_of first ≤ end_of t)
    × ((x : SiteNo × Report) → Contains reports x → end_of x.1.tail ≤ end_of t)

longest_from : (first : Tail) (reports : Reports) → IsLongest first reports (fold longer first reports)
longest_from first [] = (inl refl, omega arith, (λ x c. absurd (omega (arith, c.1))))
longest_from first (r ∷ reports) = go (nat_lt (end_of first) (end_of r.1.tail)) refl (longest_from (longer first r) reports)
  where
    each : (x : SiteNo × Report) → Contains (r ∷ reports) x → end_of r.1.tail ≤ end_of (fold longer (longer first r) reports) →
        ((z : SiteNo × Report) → Contains reports z → end_of z.1.tail ≤ end_of (fold longer (longer first r) reports)) →
        end_of x.1.tail ≤ end_of (fold longer (longer first r) reports)
    each x (zero, lt, is) here more = let same = ap (λ (z : SiteNo × Report). end_of z.1.tail) is in omega (arith, same, here)
    each x (suc n, lt, is) here more = more x (n, omega (arith, lt), is)

    go : (b : Bool) → nat_lt (end_of first) (end_of r.1.tail) ≡ b →
        IsLongest (longer first r) reports (fold longer (longer first r) reports) →
        IsLongest first (r ∷ reports) (fold longer (longer first r) reports)
    go true e more =
        let lt = ltb-true (end_of first) (end_of r.1.tail) e in
        let here : longer first r ≡ r.1.tail = ap (λ b. if b then r.1.tail else first) e in
        let same = ap end_of here in
        let up = more.1 in (
          inr
              (elim more.0 [
                | inl is ↦ (r, (0, omega arith, refl), is ∙ here)
                | inr x ↦ (x.0, (suc x.1.0, omega (arith, x.1.1), x.1.2), x.2)
              ]),
          omega (arith, lt, same, up),
          λ x c. each x c (omega (arith, same, up)) more.2,
        )
    go false e more =
        let le = ltb-false (end_of first) (end_of r.1.tail) e in
        let here : longer first r ≡ first = ap (λ b. if b then r.1.tail else first) e in
        let same = ap end_of here in
        let up = more.1 in (
          elim more.0 [ inl is ↦ inl (is ∙ here) | inr x ↦ inr (x.0, (suc x.1.0, omega (arith, x.1.1), x.1.2), x.2) ],
          omega (arith, same, up),
          λ x c. each x c (omega (arith, le, same, up)) more.2,
        )

-- Orders that were said of one view are comparable

pub comparable_said : (choice : Choice) (at : Sites) (order : Orders) (handed : HandOvers) (s q : SiteNo) (g : GroupNo) (v : ℕ)
    (one two : List Entry) → Sided choice at order handed s g v one → Sided choice at order handed q g v two →
    IsPrefix one two ⊎ IsPrefix two one
comparable_said choice at order handed s q g v one two (inl a) (inl b) = comparable one two (order g v) a b
comparable_said choice at order handed s q g v one two (inl a) (inr b) = inl (prefix_trans one (order g v) two a b.all)
comparable_said choice at order handed s q g v one two (inr a) (inl b) = inr (prefix_trans two (order g v) one b a.all)
comparable_said choice at order handed s q g v one two (inr a) (inr b) =
    let same : a.holder ≡ b.holder = ap (λ (o : Option Proc). unwrap_or o a.holder) (sym a.chosen ∙ b.chosen) in
    let place : s ≡ q = sym a.there ∙ ap (λ (p : Proc). p.site) same ∙ b.there in
    comparable one two (done_in g v ((at q).abcasts b.holder.serial))
    (subst (IsPrefix one) (λ i. done_in g v ((at (place i)).abcasts (same i).serial)) a.done) b.done

-- The end that the home decides

module _ (choice : Choice) (at : Sites) (order : Orders) (handed : HandOvers) (safe : Safe) (g : GroupNo) (v : ℕ) (reports : Reports)
    (said : (q : SiteNo) (r : Report) → Contains reports (q, r) → HasReported choice at order handed safe q g v r.tail r.kept)
    (cut : CountList) where
  abbrev placed : List Entry
  placed = filter (is_within cut) (longest reports).ids

  abbrev extra : List Entry
  extra = added_entries cut reports placed

  is_longest : IsLongest no_stretch reports (longest reports)
  is_longest = longest_from no_stretch reports

  -- the order whose end is the longest
  pub record Longest : Type 0 where
    pub whole : List Entry
    pub side : (whole ≡ []) ⊎ ((q : SiteNo) × HasSaid choice at order handed safe q g v whole)
    pub tail : longest reports ≡ tail_of whole
    pub few : length whole ≤ MAX_POSITION

  pub longest_is : Longest
  longest_is = elim is_longest.0 [
    | inl none ↦ record { whole = []; side = inl refl; tail = none; few = omega arith }
    | inr x ↦ (let r = said x.0.0 x.0.1 x.1 in record { whole = r.0; side = inr (x.0.0, r.1); tail = x.2 ∙ r.2; few = r.1.few })
  ]

  abbrev pub decided_end : End
  decided_end = record { whole = longest_is.whole; start = (longest reports).start; added = extra }

  start_is : (longest reports).start ≡ tail_start longest_is.whole
  start_is = ap (λ (s : Tail). s.start) longest_is.tail ∙ tail_starts longest_is.whole longest_is.few

  pub start_within : (longest reports).start ≤ length longest_is.whole
  start_within = let is = start_is in let low = start_low (length longest_is.whole) in omega (arith, is, low)

  pub start_known : (longest reports).start ≤ safe g v
  start_known = let is = start_is in elim longest_is.side [
    | inl none ↦ (let n = ap length none in let low = start_low (length longest_is.whole) in omega (arith, is, low, n))
    | inr s ↦ (let below = s.1.below in let low = start_low (length longest_is.whole) in omega (arith, is, low, below))
  ]

  -- each order that was said begins it
  pub each_begins : (q : SiteNo) (r : Report) (c : Contains reports (q, r)) → IsPrefix (said q r c).0 longest_is.whole
  each_begins q r c =
      let one = said q r c in
      let short : length one.0 ≤ length longest_is.whole =
      (let far =
      is_longest.2 (q, r) c in
      let mine = ap end_of one.2 ∙ tail_ends one.0 one.1.few in
      let most = ap end_of longest_is.tail ∙ tail_ends longest_is.whole longest_is.few in
      omega (arith, far, mine, most)) in
      elim longest_is.side [
        | inl none ↦ (longest_is.whole, ap (λ l. l ++ longest_is.whole) (empty one.0 (let n = ap length none in omega (arith, short, n))))
        | inr s ↦
            shorter_begins one.0 longest_is.whole
            (comparable_said choice at order handed q s.0 g v one.0 longest_is.whole one.1.side s.1.side) short
      ]
    where
      empty : (l : List Entry) → length l ≡ 0 → l ≡ []
      empty [] e = refl
      empty (z ∷ l) e = absurd (omega (arith, e))

  -- what is added are ABCASTs
  pub added_kinds : (e : Entry) → Contains extra e → IsAbcast at g v e
  added_kinds e c =
      let apart = taken_of MAX_PLACED (apart_from entry_eq (filter (is_within cut) (unplaced_entries reports)) placed) e c in
      let within =
      among_kept (λ (z : Entry). not (is_among entry_eq z placed)) (filter (is_within cut) (unplaced_entries reports)) e apart in
      let all =
      set_had entry_cmp (flat_map (λ (r : SiteNo × Report). map (λ (k : Entry × Bool). k.0) (filter (λ k. k.1) r.1.kept)) reports)
      e (among_kept (is_within cut) (unplaced_entries reports) e within) in
      let r = in_flat (λ (r : SiteNo × Report). map (λ (k : Entry × Bool). k.0) (filter (λ k. k.1) r.1.kept)) reports e all in
      let k = from_mapped (λ (k : Entry × Bool). k.0) (filter (λ k. k.1) r.0.1.kept) e r.2 in
      let mark : k.0.1 ≡ true = passed (λ (z : Entry × Bool). z.1) r.0.1.kept k.0 k.1 in
      (said r.0.0 r.0.1 r.1).3 e
      (subst (Contains r.0.1.kept) (λ i. (k.2 i, mark i)) (among_kept (λ (z : Entry × Bool). z.1) r.0.1.kept k.0 k.1))

  -- the tail that goes with the Installs
  pub decided_tail : order_from cut reports ≡ end_tail cut decided_end
  decided_tail =
      let ids_are : (longest reports).ids ≡ drop (longest reports).start longest_is.whole =
      ap (λ (s : Tail). s.ids) longest_is.tail ∙ ap (λ n. drop n longest_is.whole) (sym start_is) in
      let few : length (placed ++ extra) ≤ MAX_ORDER =
      (let parts = length-append placed extra in
      let kept = kept_length (is_within cut) (longest reports).ids in
      let tail = ap length (ap (λ (s : Tail). s.ids) longest_is.tail) in
      let short = tail_few longest_is.whole in
      let more = take_most MAX_PLACED (apart_from entry_eq (filter (is_within cut) (unplaced_entries reports)) placed) in
      omega (arith, parts, kept, tail, short, more)) in
      λ i. record {
        start = (longest reports).start;
        ids = (take_all MAX_ORDER (placed ++ extra) few ∙ ap (λ l. filter (is_within cut) l ++ extra) ids_are) i;
      }

-- a phase that installs has the decision
pub installing_is : (left : List SiteNo) (c : Decision) (more : List Message) (waiting : List SiteNo) (d : Decision)
    (bodies : List Message) → installing left c more ≡ Installing waiting d bodies → d ≡ c
installing_is [] c more waiting d bodies e = absurd (idle_not waiting d bodies e)
installing_is (q ∷ left) c more waiting d bodies e = sym (same_decision (q ∷ left) waiting c d more bodies e)
