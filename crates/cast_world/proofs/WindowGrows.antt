-- What holds of acknowledgements and of what sites know of orders is kept where a set-order message is sent.
use Rattle.std.proofs.Common.{ap, arith, inl, inr, subst, sym, ◌∙◌}
use Rattle.std.proofs.lemmas.Bool.{false≢true}
use Rattle.std.proofs.lemmas.List.Elements.{Contains-append_left, Contains-push_cases}
use Rattle.std.proofs.lemmas.List.{length-append}
use Rattle.std.specs.List.{enumerate_from}
use Rattle.std.specs.Prelude.{◌+◌, ◌++◌, ◌<◌, Contains, List, Some, [], drop, false}
use Rattle.std.specs.Prelude.{is_some, length, refl, suc, true, zero, ℕ, ◌∷◌, ◌≡◌, ◌≤◌, ◌⊎◌}
use Rattle.cast_clock.specs.Times.{count_in, view_of}
use Rattle.cast_ready.specs.Ready.{is_member}
use Rattle.cast_rules.specs.Acts.{Act}
use Rattle.cast_rules.specs.Acts.Act.{Sent}
use Rattle.cast_rules.specs.Effects.{next_message}
use Rattle.cast_rules.specs.Order.{holds, last_place, place_to_pass, told_by, unlisted_ids}
use Rattle.cast_rules.specs.Resting.{places_of}
use Rattle.cast_rules.specs.Rules.Commands.{body_handing}
use Rattle.cast_rules.specs.State.{State, local, noting_sent, receiving}
use Rattle.cast_message.specs.Bodies.{new_holder}
use Rattle.cast_message.specs.declared.message.Body.{Body}
use Rattle.cast_message.specs.declared.message.Message.{Message}
use Rattle.cast_order.specs.Order.{ids_to_list}
use Rattle.cast_types.specs.Names.{Entry}
use Rattle.cast_types.specs.declared.limits.TheConstants.{MAX_PLACED, MAX_UNSETTLED}
use Rattle.cast_types.specs.declared.names.GroupNo.{GroupNo}
use Rattle.cast_types.specs.declared.names.Proc.{Proc}
use Rattle.cast_types.specs.declared.names.SiteNo.{SiteNo}
use Rattle.cast_view.specs.MemberSide.{has_view, is_pending}
use Rattle.cast_world.proofs.Flush.{IsChosen, numbers}
use Rattle.cast_world.proofs.Invariants.{Later, Sites}
use Rattle.cast_world.proofs.Laters.{set_all}
use Rattle.cast_world.proofs.Lists.{contains_split, sent_same}
use Rattle.cast_world.proofs.Moves.{member_is}
use Rattle.cast_world.proofs.OrderGrows.{all_done, cases_here, grows, longer, longer_here, tells_it, token_as, waits}
use Rattle.cast_world.proofs.OrderHands.{place_is, settles_all, token_cases, waits_here}
use Rattle.cast_world.proofs.OrderMoves.{OrderNow}
use Rattle.cast_world.proofs.OrderSteps.{From}
use Rattle.cast_world.proofs.Orders.{KnowsFirst, Orders}
use Rattle.cast_world.proofs.Prefixes.{place_in}
use Rattle.cast_world.proofs.Steps.{own_holds, own_is, sites_at}
use Rattle.cast_world.proofs.Times.{bumped_count}
use Rattle.cast_world.proofs.WindowMoves.{Handing, Leading, Rising, own_handing, own_leading, own_rising, still_knows}
use Rattle.cast_world.proofs.WindowMoves.{wider, wider_few, wider_knows, wider_near, wider_under, wider_up, window_move}
use Rattle.cast_world.proofs.Windows.{AllWindow, Safe}
use Rattle.cast_world.specs.Network.{Network}
use Rattle.cast_message.specs.declared.message.Body.TheVariants as body

-- places are told from the first on
told_low : (ids : List Entry) (place : ℕ) (f : ℕ × Entry) → Contains (enumerate_from place ids) f → place ≤ f.0
told_low [] place f at = absurd (omega (arith, at.1))
told_low (e ∷ ids) place f (zero, lt, is) = let same = ap (λ (x : ℕ × Entry). x.0) is in omega (arith, same)
told_low (e ∷ ids) place f (suc n, lt, is) = let low = told_low ids (place + 1) f (n, omega (arith, lt), is) in omega (arith, low)

module _ (home : SiteNo) (w : Network) (a : SiteNo) where
  abbrev at : State → Sites
  at t = sites_at home w a t

  abbrev number : State → GroupNo → ℕ
  number t = numbers (sites_at home w a t) home

  -- a set-order message is sent
  module _ (t : State) (g : GroupNo) (k : ℕ) (content : Body) (i : OrderNow home w a t)
      (member : is_member ((t.process k).standing g) ≡ true) where
    abbrev m : Message
    m = next_message t g k content

    abbrev u : State
    u = receiving (noting_sent t k m) m

    abbrev v : ℕ
    v = (t.group g).number

    abbrev order : Orders
    order = i.3

    sent_or_new : (j : ℕ) (z : Message) → Contains (u.acts j) (Sent z) → Contains (t.acts j) (Sent z) ⊎ ((k ≡ j) × (m ≡ z))
    sent_or_new =
        set_all (λ j (l : List Act). (z : Message) → Contains l (Sent z) → Contains (t.acts j) (Sent z) ⊎ ((k ≡ j) × (m ≡ z)))
        t.acts k (t.acts k ++ Sent m ∷ []) (λ j z c. inl c)
        (λ z c. elim (Contains-push_cases (t.acts k) (Sent m) (Sent z) c) [ inl old ↦ inl old | inr same ↦ inr (refl, sent_same m z same) ])

    -- its count is above those of all that the process sent in the view
    counted : (z : Message) → Contains (t.acts k) (Sent z) → z.id.group ≡ g → z.id.view ≡ v → z.id.count < m.id.count
    counted z c group view =
        let one = (own_holds home w a t i.0).ones k in
        let parts = contains_split (t.acts k) (Sent z) c in
        let well = one.fits.each parts.0 parts.1 (Sent z) parts.2 in
        let current = (one.member g (member_is ((t.process k).standing g) member)).0 in
        let same_view : view_of (t.process k).time z.id.group ≡ view_of (t.process k).time g = ap (view_of (t.process k).time) group in
        let same_count : count_in (t.process k).time z.id.group z.id.proc ≡ count_in (t.process k).time g (local t k) =
        λ i. count_in (t.process k).time (group i) (well.own i) in
        let next = bumped_count (t.process k).time g (local t k) in
        elim (one.fits.covered z (inl c) z.id well.itself) [
          | inl above ↦ absurd (omega (arith, above, view, current, same_view))
          | inr level ↦ (let le = level.1 in omega (arith, le, same_count, next))
        ]

    -- it sets no place past the order that was told before
    low_before : (j : ℕ) (z : Message) → Contains (t.acts j) (Sent z) → z.id.group ≡ g → z.id.view ≡ v →
        last_place z.body ≤ length (order g v)
    low_before j z c group view =
        let placed = i.5.placed a j z (subst (λ (s : State). Contains (s.acts j) (Sent z)) (sym (own_is home w a t)) c) in
        subst (λ l. last_place z.body ≤ length l) (λ n. order (group n) (view n)) placed

    -- so what tells only places beyond that rises
    rises : (safe : Safe) → AllWindow i.1 (number t) (at t) i.3 safe →
        ((e : ℕ × Entry) → Contains (told_by content) e → length (order g v) + 1 ≤ e.0) → Rising home w a u
    rises safe y high_now j x z e at_x at_z group view lt told_z = elim (sent_or_new j x at_x) [
      | inl was_x ↦ elim (sent_or_new j z at_z) [
        | inl was_z ↦ own_rising home w a t i.1 i.3 safe y j x z e was_x was_z group view lt told_z
        | inr new_z ↦
            let low =
            low_before j x was_x (group ∙ sym (ap (λ (q : Message). q.id.group) new_z.1))
            (view ∙ sym (ap (λ (q : Message). q.id.view) new_z.1)) in
            let high = high_now e (subst (λ (q : Message). Contains (told_by q.body) e) (sym new_z.1) told_z) in
            omega (arith, low, high)
      ]
      | inr new_x ↦ elim (sent_or_new j z at_z) [
        | inl was_z ↦ absurd (
            let less =
            counted z (subst (λ n. Contains (t.acts n) (Sent z)) (sym new_x.0) was_z)
            (sym group ∙ sym (ap (λ (q : Message). q.id.group) new_x.1)) (sym view ∙ sym (ap (λ (q : Message). q.id.view) new_x.1)) in
            let same = ap (λ (q : Message). q.id.count) new_x.1 in
            omega (arith, less, same, lt))
        | inr new_z ↦ absurd (
            let one = ap (λ (q : Message). q.id.count) new_x.1 in
            let two = ap (λ (q : Message). q.id.count) new_z.1 in
            omega (arith, one, two, lt))
      ]
    ]

    hands_as : (more : Safe) →
        ((j : ℕ) (z : Message) (to : Proc) → Contains (t.acts j) (Sent z) → new_holder z.body ≡ Some to →
        last_place z.body ≤ more z.id.group z.id.view) →
        ((to : Proc) → new_holder content ≡ Some to → last_place content ≤ more g v) → Handing home w a u more
    hands_as more old new j z to c names = elim (sent_or_new j z c) [
      | inl was ↦ old j z to was names
      | inr same ↦
          subst (λ (q : Message). new_holder q.body ≡ Some to → last_place q.body ≤ more q.id.group q.id.view) same.1 (new to) names
    ]

    -- it places ABCASTs
    module _ (held : holds t g k ≡ true) (open_it : (t.group g).frozen ≡ false) (is : content ≡ body.Order (places_of t g k)) (safe : Safe)
        (y : AllWindow i.1 (number t) (at t) i.3 safe) where
      abbrev ids : List Entry
      ids = ids_to_list (unlisted_ids t g k)

      abbrev more : Orders
      more = longer home w a t i.0 i.1 i.2 i.3 i.4 i.5 g k content member held open_it is

      abbrev here : (j : GroupNo) (z : ℕ) → ((g ≡ j) × (z ≡ v)) ⊎ (more j z ≡ order j z)
      here = cases_here home w a t i.0 i.1 i.2 i.3 i.4 i.5 g k content member held open_it is

      abbrev is_here : more g v ≡ order g v ++ ids
      is_here = longer_here home w a t i.0 i.1 i.2 i.3 i.4 i.5 g k content member held open_it is

      high_now : (e : ℕ × Entry) → Contains (told_by content) e → length (order g v) + 1 ≤ e.0
      high_now e c =
          told_low ids (length (order g v) + 1)
          e (subst (λ l. Contains l e) (tells_it home w a t i.0 i.1 i.2 i.3 i.4 i.5 g k content member held open_it is) c)

      -- each place that was told before is known as it was
      first_known : (got : List Message) → KnowsFirst got g v (order g v) (safe g v) → KnowsFirst got g v (order g v ++ ids) (safe g v)
      first_known got knows b c e at_it lt = elim (place_in (order g v) ids b c e at_it) [
        | inl old ↦ knows b old.0 e old.1 lt
        | inr new ↦ absurd (
            let whole = ap length new.1 in
            let parts = length-append (order g v) new.0 in
            let low = y.under g v in
            omega (arith, whole, parts, low, lt))
      ]

      near_here : length (more g v) ≤ safe g v + MAX_UNSETTLED
      near_here =
          let whole = ap length (all_done home w a t i.0 i.1 i.2 i.3 i.4 i.5 g k content member held open_it is) in
          let parts = length-append (order g v ++ ids) (drop MAX_PLACED (unlisted_ids t g k)) in
          let same = ap length is_here in
          let low =
          own_leading home w a t i.1 i.3 safe y g k held (waits home w a t i.0 i.1 i.2 i.3 i.4 i.5 g k content member held open_it is) in
          omega (arith, whole, parts, same, low)

      -- who has a token had it before
      still_leads : Leading home w a u safe
      still_leads h j tells_it quiet =
          own_leading home w a t i.1 i.3 safe y h j
          (sym (ap is_some (token_as home w a t i.0 i.1 i.2 i.3 i.4 i.5 g k content member held open_it is j h)) ∙ tells_it) quiet

      pub window_grows : (later : Later t u) (r : From home w a t i u) → AllWindow r.1 (number u) (at u) more safe
      window_grows later r =
          window_move home w a t u later i r safe y (λ z c. Contains-append_left t.got (m ∷ []) z c) (λ q z c. inl c) (λ to f c. inl c)
          (rises safe y high_now) more safe (λ j z. omega arith)
          (λ j z q le chosen. elim (here j z) [
            | inl two ↦
                subst (λ n. KnowsFirst (at t q.site).got j n (more j n) (safe j n)) (sym two.1)
                (subst (λ h. KnowsFirst (at t q.site).got h v (more h v) (safe h v)) two.0
                (subst (λ l. KnowsFirst (at t q.site).got g v l (safe g v)) (sym is_here) (first_known (at t q.site).got
                (still_knows home w a t u later i r safe y (λ s c. Contains-append_left t.got (m ∷ []) s c) g v q
                (subst (λ h. v ≤ number u h) (sym two.0) (subst (λ n. n ≤ number u j) two.1 le))
                (subst (λ h. IsChosen r.1 h v q) (sym two.0) (subst (λ n. IsChosen r.1 j n q) two.1 chosen))))))
            | inr same ↦
                subst (λ l. KnowsFirst (at t q.site).got j z l (safe j z)) (sym same)
                (still_knows home w a t u later i r safe y (λ s c. Contains-append_left t.got (m ∷ []) s c) j z q le chosen)
          ])
          (λ j z.
          let p =
          grows home w a t i.0 i.1 i.2 i.3 i.4 i.5 g k content member held open_it is j z in
          let whole =
          ap length p.1 in let parts = length-append (order j z) p.0 in let low = y.under j z in omega (arith, whole, parts, low))
          (λ j z. elim (here j z) [
            | inl two ↦
                subst (λ n. length (more j n) ≤ safe j n + MAX_UNSETTLED) (sym two.1)
                (subst (λ h. length (more h v) ≤ safe h v + MAX_UNSETTLED) two.0 near_here)
            | inr same ↦ (let n = ap length same in let low = y.near j z in omega (arith, n, low))
          ])
          still_leads
          (hands_as safe (own_handing home w a t i.1 i.3 safe y)
          (λ to names. absurd (false≢true (ap is_some (sym (ap new_holder is) ∙ names)))))

    -- it hands the token over: all of the order is known at each site of the view
    module _ (place : ℕ) (to : Proc) (held : holds t g k ≡ true) (open_it : (t.group g).frozen ≡ false)
        (settled : place_to_pass t g k ≡ Some place) (is : content ≡ body_handing place to) (safe : Safe)
        (y : AllWindow i.1 (number t) (at t) i.3 safe) where
      pub quiet_here : is_pending (t.group g) ≡ false
      quiet_here = waits_here home w a t i.0 i.1 i.2 i.3 i.4 i.5 g k content place to member held open_it settled is

      pub viewed_here : has_view (t.group g) ≡ true
      viewed_here = (((own_holds home w a t i.0).ones k).member g (member_is ((t.process k).standing g) member)).1

      abbrev pub widened : Safe
      widened = wider home w a t i safe y g k held quiet_here viewed_here

      pub widened_up : (j : GroupNo) (z : ℕ) → safe j z ≤ widened j z
      widened_up = wider_up home w a t i safe y g k held quiet_here viewed_here

      tells_none_now : (e : ℕ × Entry) → Contains (told_by content) e → length (order g v) + 1 ≤ e.0
      tells_none_now e c = absurd (let none = subst (λ b. Contains (told_by b) e) is c in omega (arith, none.1))

      last_low : last_place content ≤ widened g v
      last_low =
          let last = ap last_place is in
          let one = place_is home w a t i.0 i.1 i.2 i.3 i.4 i.5 g k content place to member held open_it settled is in
          let all = settles_all home w a t i.0 i.1 i.2 i.3 i.4 i.5 g k content place to member held open_it settled is in
          let few = wider_few home w a t i safe y g k held quiet_here viewed_here in
          omega (arith, last, one, all, few)

      leads_now : Leading home w a u widened
      leads_now h j tells_it quiet =
          elim (token_cases home w a t i.0 i.1 i.2 i.3 i.4 i.5 g k content place to member held open_it settled is h j) [
            | inl gone ↦ absurd (false≢true (sym (ap is_some gone.2) ∙ tells_it))
            | inr same ↦
                (let low = own_leading home w a t i.1 i.3 safe y h j (sym (ap is_some same) ∙ tells_it) quiet in
                let more = widened_up h (t.group h).number in
                omega (arith, low, more))
          ]

      pub window_hands : (later : Later t u) (r : From home w a t i u) → AllWindow r.1 (number u) (at u) order widened
      window_hands later r =
          window_move home w a t u later i r safe y (λ z c. Contains-append_left t.got (m ∷ []) z c) (λ q z c. inl c) (λ p f c. inl c)
          (rises safe y tells_none_now) order widened widened_up
          (wider_knows home w a t i safe y g k held quiet_here viewed_here u later r (λ z c. Contains-append_left t.got (m ∷ []) z c))
          (wider_under home w a t i safe y g k held quiet_here viewed_here)
          (wider_near home w a t i safe y g k held quiet_here viewed_here) leads_now
          (hands_as widened (λ j z q c names.
          let low = own_handing home w a t i.1 i.3 safe y j z q c names in
          let more = widened_up z.id.group z.id.view in
          omega (arith, low, more)) (λ _ _. last_low))
