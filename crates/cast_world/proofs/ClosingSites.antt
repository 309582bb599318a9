-- While an Install waits, the order of the view is closed alike at each site, and members deliver by it.
use Rattle.std.proofs.Common.{ap, append_assoc, arith, inl, inr, subst, sym, ◌∙◌}
use Rattle.std.proofs.lemmas.List.Elements.{Contains-append_cases, filter-append}
use Rattle.std.proofs.lemmas.List.{append-nil, length-take-le, take-append-drop}
use Rattle.std.specs.Prelude.{◌+◌, ◌++◌, Bool, Contains, IsTrue, List, Some, [], drop, false, filter}
use Rattle.std.specs.Prelude.{if◌then◌else◌, length, refl, take, true, ℕ, ◌∷◌, ◌≡◌, ◌≤◌, ◌⊎◌}
use Rattle.cast_ready.specs.Ready.{has_delivered}
use Rattle.cast_rules.specs.Order.{order_of, order_told}
use Rattle.cast_rules.specs.State.{State, local}
use Rattle.cast_rules.specs.Turns.{is_ready_for}
use Rattle.cast_message.specs.Bodies.{kind_of}
use Rattle.cast_message.specs.declared.message.Message.{Message}
use Rattle.cast_order.specs.Order.{next_of}
use Rattle.cast_types.specs.Counts.{CountList, is_within}
use Rattle.cast_types.specs.Names.{Entry, entry_of, is_atomic, uid_in}
use Rattle.cast_types.specs.declared.names.GroupNo.{GroupNo}
use Rattle.cast_types.specs.declared.names.SiteNo.{SiteNo}
use Rattle.cast_types.specs.declared.names.Standing.TheVariants.{Member}
use Rattle.cast_types.specs.declared.names.Uid.{Uid}
use Rattle.cast_view.specs.MemberSide.{is_pending}
use Rattle.cast_world.proofs.Closings.{End, EndHolds, IsAbcast, final}
use Rattle.cast_world.proofs.Firsts.{apart_kept, firsts, firsts_apart, firsts_begin, firsts_had}
use Rattle.cast_world.proofs.Firsts.{kept_twice, next_first, prefix_kept, take_begin}
use Rattle.cast_world.proofs.Flush.{Choice, IsChosen, Told, numbers}
use Rattle.cast_world.proofs.FlushSites.{members_chosen}
use Rattle.cast_world.proofs.FlushSteps.{Flushing, own_agrees}
use Rattle.cast_world.proofs.Homes.{among_kept}
use Rattle.cast_world.proofs.Invariants.{Sites}
use Rattle.cast_world.proofs.Listings.{done_named, keeps_every}
use Rattle.cast_world.proofs.OrderMoves.{abcast_had, noted_abcast, own_ordered, stand_in}
use Rattle.cast_world.proofs.OrderTells.{is_next_frozen, knows_done}
use Rattle.cast_world.proofs.Tokens.{HandOvers}
use Rattle.cast_world.proofs.Orders.{AllOrdered, Apart, KnowsFirst, Orders, done_in}
use Rattle.cast_world.proofs.Prefixes.{next_begins, prefix_trans}
use Rattle.cast_world.proofs.Steps.{Now, own_holds, own_is, sites_at}
use Rattle.cast_world.proofs.Windows.{AllWindow, Safe}
use Rattle.cast_world.specs.Agreement.{IsPrefix}
use Rattle.cast_world.specs.Network.{Network}

-- The order with its end

-- it is the longest order within the cut, and behind it what was added
pub final_is : (cut : CountList) (e : End) → final cut e ≡ filter (is_within cut) e.whole ++ filter (is_within cut) e.added
final_is cut e =
    let test : Entry → Bool = is_within cut in
    filter-append test (take e.start e.whole) (filter test (drop e.start e.whole) ++ e.added)
    ∙ ap (λ l. filter test (take e.start e.whole) ++ l) (filter-append test (filter test (drop e.start e.whole)) e.added
    ∙ ap (λ l. l ++ filter test e.added) (kept_twice test (drop e.start e.whole)))
    ∙ sym (append_assoc (filter test (take e.start e.whole)) (filter test (drop e.start e.whole)) (filter test e.added))
    ∙ ap (λ l. l ++ filter test e.added)
    (sym (filter-append test (take e.start e.whole) (drop e.start e.whole)) ∙ ap (filter test) (take-append-drop e.start e.whole))

pub final_had : (cut : CountList) (e : End) (x : Entry) → Contains (final cut e) x → Contains e.whole x ⊎ Contains e.added x
final_had cut e x c =
    elim (Contains-append_cases (filter (is_within cut) e.whole) (filter (is_within cut) e.added)
    x (subst (λ l. Contains l x) (final_is cut e) c)) [
      | inl one ↦ inl (among_kept (is_within cut) e.whole x one)
      | inr two ↦ inr (among_kept (is_within cut) e.added x two)
    ]

-- what begins the longest order and is within the cut begins it
pub begins_final : (cut : CountList) (e : End) (done : List Entry) → Apart e.whole → IsPrefix done e.whole →
    ((x : Entry) → Contains done x → IsTrue (is_within cut x)) → IsPrefix done (firsts (final cut e))
begins_final cut e done apart p within =
    let test : Entry → Bool = is_within cut in
    let kept : filter test done ≡ done = keeps_every test done within in
    let one : IsPrefix done (filter test e.whole) = subst (λ l. IsPrefix l (filter test e.whole)) kept (prefix_kept test done e.whole p) in
    let two : IsPrefix (filter test e.whole) (firsts (final cut e)) =
    subst (λ l. IsPrefix (filter test e.whole) (firsts l)) (sym (final_is cut e))
    (firsts_begin (filter test e.whole) (filter test e.added) (apart_kept test e.whole apart)) in
    prefix_trans done (filter test e.whole) (firsts (final cut e)) one two

module _ (home : SiteNo) (w : Network) (a : SiteNo) where
  abbrev at : State → Sites
  at t = sites_at home w a t

  abbrev number : State → GroupNo → ℕ
  number t = numbers (sites_at home w a t) home

  module _ (t : State) (now : Now home w a t) (choice : Choice) (f : Flushing home w a t choice) (order : Orders) (handed : HandOvers)
      (x : AllOrdered choice (number t) (at t) order handed) (safe : Safe)
      (y : AllWindow choice (number t) (at t) order safe) (g : GroupNo) (e : End)
      (ended : EndHolds choice (at t) order handed safe g (t.group g).number e) (decided : (t.group g).number + 1 ≤ number t g) where
    abbrev v : ℕ
    v = (t.group g).number

    abbrev here_is : at t t.here ≡ t
    here_is = ap (at t) (own_holds home w a t now).here_is ∙ own_is home w a t

    chosen_here : (k : ℕ) → (t.process k).standing g ≡ Member → IsChosen choice g v (local t k)
    chosen_here k member =
        members_chosen choice g (t.group g) ((own_agrees home w a t choice f).groups g) (local t k)
        (((own_agrees home w a t choice f).ones k).listed g member)

    -- a site with a member knows the places before the start of the end
    pub start_same : (k : ℕ) → (t.process k).standing g ≡ Member → is_pending (t.group g) ≡ false →
        take e.start (order_told t g) ≡ take e.start e.whole
    start_same k member waits =
        let first : List Entry = take e.start (order g v) in
        let low : e.start ≤ length (order g v) = (let a = ended.known in let b = y.under g v in omega (arith, a, b)) in
        let long : length first ≡ e.start = length-take-le e.start (order g v) low in
        let begin : IsPrefix first (order g v) = (drop e.start (order g v), take-append-drop e.start (order g v)) in
        let got : KnowsFirst t.got g v (order g v) (safe g v) =
        subst (λ (s : State). KnowsFirst s.got g v (order g v) (safe g v))
        here_is (y.knows g v (local t k) (omega (arith, decided)) (chosen_here k member)) in
        let knows : KnowsFirst t.got g v (order g v) (length first) =
        λ b c z is lt. got b c z is (let a = ended.known in omega (arith, lt, long, a)) in
        let reach : IsPrefix first (order_told t g) =
        knows_done (order g v) t g waits (stand_in home w a t now choice f order handed x g v)
        first begin knows (let few = (x.orders g v).few in omega (arith, long, low, few)) in
        let mine : take e.start (order_told t g) ≡ take e.start first =
        sym (take_begin e.start first (order_told t g) reach (omega (arith, long))) in
        let common : take e.start first ≡ take e.start (order g v) = take_begin e.start first (order g v) begin (omega (arith, long)) in
        mine ∙ common ∙ elim ended.side [
          | inl p ↦ sym (take_begin e.start e.whole (order g v) p ended.low)
          | inr s ↦ take_begin e.start (order g v) e.whole s.2.all low
        ]

    -- what a member that passes has delivered of the view is within the cut
    pub within_cut : (k : ℕ) → (t.process k).standing g ≡ Member → IsChosen choice g (v + 1) (local t k) → (z : Entry) →
        Contains (done_in g v (t.abcasts k)) z → IsTrue (is_within (choice g (v + 1)).cut z)
    within_cut k member after z c =
        let had = abcast_had home w a t now choice f order handed x k (uid_in g v z) (done_named g v (t.abcasts k) z c) in
        let m : Message = had.0 in
        let group : m.id.group ≡ g = ap (λ (u : Uid). u.group) had.2 in
        let view : m.id.view ≡ v = ap (λ (u : Uid). u.view) had.2 in
        let entry : entry_of m.id ≡ z = ap entry_of had.2 in
        let told_it = f.covered g v (omega (arith, decided)) (local t k) (chosen_here k member) after in
        let told_here : Told choice (number t) t g v told_it.0 =
        subst (λ (s : State). Told choice (number t) s g v told_it.0) here_is told_it.1 in
        let sender : IsChosen choice g v m.id.proc =
        subst (λ n. IsChosen choice g n m.id.proc)
        view (subst (λ h. IsChosen choice h m.id.view m.id.proc) group (((own_agrees home w a t choice f).ones k).sender m had.4).1) in
        subst (λ q. IsTrue (is_within (choice g (v + 1)).cut q))
        entry (elim (told_here.within k m had.4 group view) [ inl low ↦ told_it.2 (entry_of m.id) tt sender low | inr within ↦ within.1 ])

    -- so it has delivered a prefix of the order with its end
    pub begins_end : (k : ℕ) → (t.process k).standing g ≡ Member → is_pending (t.group g) ≡ false → IsChosen choice g (v + 1) (local t k) →
        IsPrefix (done_in g v (t.abcasts k)) (firsts (final (choice g (v + 1)).cut e))
    begins_end k member waits after =
        let said = ended.covered (local t k) (chosen_here k member) after in
        let begin : IsPrefix (done_in g v (t.abcasts k)) said.0 =
        subst (λ (s : State). (s.process k).standing g ≡ Member → (s.group g).number ≡ v → is_pending (s.group g) ≡ false →
        IsPrefix (done_in g v (s.abcasts k)) said.0) here_is (said.1.begins k) member refl waits in
        begins_final (choice g (v + 1)).cut e (done_in g v (t.abcasts k))
        ended.apart (prefix_trans (done_in g v (t.abcasts k)) said.0 e.whole begin said.2) (within_cut k member after)

  -- a member delivers by the order with its end, where the Install waits
  module _ (t : State) (now : Now home w a t) (choice : Choice) (f : Flushing home w a t choice) (order : Orders) (handed : HandOvers)
      (x : AllOrdered choice (number t) (at t) order handed) (safe : Safe)
      (k : ℕ) (m : Message) (ready : is_ready_for t k m ≡ true) (atomic : is_atomic (kind_of m.body) ≡ true)
      (pending : is_pending (t.group m.id.group) ≡ true)
      (kinds : (e : Entry) → Contains (t.closed m.id.group) e → IsAbcast (at t) m.id.group (t.group m.id.group).number e) where
    abbrev g : GroupNo
    g = m.id.group

    abbrev view : ℕ
    view = (t.group m.id.group).number

    abbrev done : List Entry
    done = done_in g view (t.abcasts k)

    abbrev had : Entry → Bool
    had e = has_delivered (t.process k) (uid_in g view e)

    pub delivers_closed : IsPrefix done (firsts (t.closed g)) → IsPrefix (done ++ entry_of m.id ∷ []) (firsts (t.closed g))
    delivers_closed begin =
        let closed : order_of t g ≡ t.closed g = ap (λ b. if b then t.closed g else order_told t g) pending in
        let next : next_of had (firsts (t.closed g)) ≡ Some (entry_of m.id) =
        next_first had (t.closed g)
        ∙ ap (next_of had) (sym closed)
        ∙ is_next_frozen t k m tt ready atomic ((own_ordered home w a t now choice f order handed x).frozen g pending) in
        next_begins had done (firsts (t.closed g)) (firsts (t.closed g)) (entry_of m.id) (firsts_apart (t.closed g))
        begin ([], append-nil (firsts (t.closed g)))
        (λ e c. (abcast_had home w a t now choice f order handed x k (uid_in g view e) (done_named g view (t.abcasts k) e c)).5)
        (λ e c is. noted_abcast home w a t now choice f order handed x k g view e (kinds e (firsts_had (t.closed g) e c)) is) next
