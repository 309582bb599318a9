-- The laws of group communication hold of what programs are told.
-- What a program was told lacks at most the last of what its process did (`missing`). So the casts that it was told are, in their order,
-- those that the process delivered, but for at most the last, and what stands before it stands as it did among the acts.
use Rattle.std.proofs.Common.{ap, append_assoc, arith, inl, inr, subst, sym, ◌∙◌}
use Rattle.std.proofs.lemmas.Bool.{and_parts, cases_Bool, eqb-true, true≢false}
use Rattle.std.proofs.lemmas.Grind.{flat_map-append}
use Rattle.std.proofs.lemmas.List.{append-nil}
use Rattle.std.proofs.lemmas.List.Elements.{Contains-append_left, Contains-append_right, filter-append}
use Rattle.std.specs.List.{flat_map}
use Rattle.std.specs.Prelude.{◌+◌, ◌++◌, ◌==◌, Bool, Contains, List, [], cond, false, filter, length, refl, true, ℕ, ◌∷◌, ◌≡◌, ◌≤◌, ◌⊎◌}
use Rattle.cast_rules.specs.Acts.{Act}
use Rattle.cast_rules.specs.Acts.Act.{Delivered, Entered, Left, Sent}
use Rattle.cast_rules.specs.Noted.{delivered_by}
use Rattle.cast_rules.specs.Rules.Commands.{body_of}
use Rattle.cast_message.specs.Bodies.{kind_of}
use Rattle.cast_message.specs.Membership.{Membership}
use Rattle.cast_message.specs.declared.client.CastKind.{CastKind}
use Rattle.cast_message.specs.declared.client.Push.{Push}
use Rattle.cast_message.specs.declared.message.Body.{Body}
use Rattle.cast_message.specs.declared.message.Message.{Message}
use Rattle.cast_events.specs.declared.config.DomainConfig.{DomainConfig}
use Rattle.cast_types.specs.Counts.{CountList}
use Rattle.cast_types.specs.Names.{group_eq, is_atomic}
use Rattle.cast_types.specs.declared.names.GroupNo.{GroupNo}
use Rattle.cast_types.specs.declared.names.Proc.{Proc}
use Rattle.cast_types.specs.declared.names.SiteNo.{SiteNo}
use Rattle.cast_types.specs.declared.names.Uid.{Uid}
use Rattle.cast_world.proofs.Acts.{contains_cons, contains_here}
use Rattle.cast_world.proofs.Allowed.{contains_kept, contains_more, passed}
use Rattle.cast_world.proofs.ClosingRuns.{same_order}
use Rattle.cast_world.proofs.Cuts.{deliveries_were_sent, fact, names_are_unique}
use Rattle.cast_world.proofs.Derivation.{done, first_source}
use Rattle.cast_world.proofs.Facts.{Facts}
use Rattle.cast_world.proofs.Flats.{MakesOne, NoneTwice, cut_short, made_at, once_within, stand_as_made, stand_made, stands_within}
use Rattle.cast_world.proofs.Homes.{among_kept}
use Rattle.cast_world.proofs.Lists.{contains_split, head_or}
use Rattle.cast_world.proofs.ListsAreActs.{TellsAbcasts, abcasts_told, delivered_append, lists_are_acts}
use Rattle.cast_world.proofs.NewsRuns.{are_told, reaches}
use Rattle.cast_world.proofs.OrderRuns.{orders_agree}
use Rattle.cast_world.proofs.Prefixes.{comparable, flat_has, in_flat, prefix_trans, same_rest}
use Rattle.cast_world.proofs.Properties.{deliver_causally, deliver_first_in_first_out, deliver_in_sending_view}
use Rattle.cast_world.proofs.Properties.{deliver_in_view, deliver_once, views_rise}
use Rattle.cast_world.proofs.Pushes.{told_in_every}
use Rattle.cast_world.proofs.Runs.{causal_delivery, holds_in_every}
use Rattle.cast_world.proofs.Same.{EachSeen, in_between, none_after, same_messages, seen_in_every}
use Rattle.cast_world.specs.Agreement.{IsPrefix, Passes, abcasts_of_view, delivered_of, is_abcast, is_in, of_view}
use Rattle.cast_world.specs.HappenedBefore.{HappenedBefore, NeverLeft, StandsBefore, acts_of, edge, path}
use Rattle.cast_world.specs.Laws.{DeliversInOrder, DeliveriesWereSent, NamesAreUnique}
use Rattle.cast_world.specs.Network.{Network, Reaches}
use Rattle.cast_world.specs.Programs.{AllOrdersToldAgree, AllShowRisingViews, AllToldCausally, AllToldFirstInFirstOut}
use Rattle.cast_world.specs.Programs.{AllToldInOneOrder, AllToldInSendingView, AllToldOnce, AllToldTheSame, AllToldWhenDue, AreTold}
use Rattle.cast_world.specs.Programs.{IsCast, IsLastView, News, ToldInSendingView, ToldWhenDue}
use Rattle.cast_world.specs.Programs.{all_done, all_told, casts_in, id_of, news_by, news_in, news_of}
use Rattle.cast_world.specs.Programs.News.{Cast, View}
use Rattle.cast_world.specs.Properties.{DeliversCausally, DeliversFirstInFirstOut, DeliversInSendingView, DeliversInView, DeliversOnce}
use Rattle.cast_world.specs.Properties.{HasEachOnce, HasRisingViews, IsIn, KeepsCausalOrder, KeepsSendingOrder, ViewsRise}
use Rattle.cast_world.specs.Pushed.{ReachesTelling}
use Rattle.cast_world.specs.declared.step.Step.{Step}
use Rattle.cast_message.specs.declared.client.CastKind.TheVariants as cast_kind
use Rattle.cast_message.specs.declared.client.Push.TheVariants as push
use Rattle.cast_message.specs.declared.message.Body.TheVariants as body

-- News of acts and of entries

no_item : {X : Type 0} (x : X) (xs : List X) → ◌≡◌ {A = List X} [] (x ∷ xs) → ⊥
no_item x xs e = let n = ap length e in omega (arith, n)

one_of_body : (u : Uid) (b : Body) → (news_of u b ≡ []) ⊎ ((n : News) × (news_of u b ≡ n ∷ []))
one_of_body u (body.Causal payload) = inr (Cast u cast_kind.Causal payload, refl)
one_of_body u (body.Atomic payload) = inr (Cast u cast_kind.Atomic payload, refl)
one_of_body u (body.Order sequence) = inl refl

one_news : MakesOne news_by
one_news (Sent m) = inl refl
one_news (Delivered m) = one_of_body m.id m.body
one_news (Entered g view cut) = inr (View g view, refl)
one_news (Left g) = inl refl

one_entry : MakesOne news_in
one_entry (push.Opened p) = inl refl
one_entry (push.Reply tag refusal) = inl refl
one_entry (push.View g view members) = inr (View g view, refl)
one_entry (push.Deliver u kind payload) = inr (Cast u kind payload, refl)
one_entry (push.Ejected g view) = inl refl
one_entry (push.Denied g refusal) = inl refl
one_entry (push.Closed refusal) = inl refl

one_id : MakesOne id_of
one_id (Cast u kind payload) = inr (u, refl)
one_id (View g view) = inl refl

-- an item that is made is all that is made
made_whole : {X Y : Type 0} (f : X → List Y) → MakesOne f → (x : X) (y : Y) → Contains (f x) y → f x ≡ y ∷ []
made_whole {X} {Y} f one x y at = elim (one x) [
  | inl none ↦ absurd (let at_none : Contains [] y = subst (λ l. Contains l y) none at in omega (arith, at_none.1))
  | inr (z, is) ↦ elim (contains_cons z [] y (subst (λ l. Contains l y) is at)) [
    | inl same ↦ is ∙ ap (λ w. w ∷ []) same
    | inr none ↦ absurd (omega (arith, none.1))
  ]
]

-- what news tell
is_cast : News → Bool
is_cast (Cast u kind payload) = true
is_cast (View g view) = false

news_id : Uid → News → Uid
news_id d (Cast u kind payload) = u
news_id d (View g view) = d

news_body : Body → News → Body
news_body d (Cast u kind payload) = body_of kind payload
news_body d (View g view) = d

news_group : GroupNo → News → GroupNo
news_group d (Cast u kind payload) = d
news_group d (View g view) = g

news_view : ℕ → News → ℕ
news_view d (Cast u kind payload) = d
news_view d (View g view) = view

not_view : (u : Uid) (kind : CastKind) (payload : List ℕ) (g : GroupNo) (view : ℕ) →
    ◌≡◌ {A = News} (Cast u kind payload) (View g view) → ⊥
unfolding is_cast
not_view u kind payload g view e = true≢false (ap is_cast e)

only : {X : Type 0} (x y : X) → x ∷ [] ≡ y ∷ [] → x ≡ y
unfolding head_or
only x y e = ap (head_or x) e

-- a message that is delivered as a cast of this id and this body
abbrev DeliversCast : Act → Uid → Body → Type 0
DeliversCast y u b = (m : Message) × (y ≡ Delivered m) × (m.id ≡ u) × (m.body ≡ b)

act_of_cast : (y : Act) (u : Uid) (kind : CastKind) (payload : List ℕ) → news_by y ≡ Cast u kind payload ∷ [] →
    DeliversCast y u (body_of kind payload)
unfolding news_id news_body
act_of_cast (Sent m) u kind payload e = absurd (no_item (Cast u kind payload) [] e)
act_of_cast (Delivered m) u kind payload e = go m.body refl e
  where
    go : (b : Body) → m.body ≡ b → news_of m.id b ≡ Cast u kind payload ∷ [] → DeliversCast (Delivered m) u (body_of kind payload)
    go (body.Causal l) is made =
        let same = only (Cast m.id cast_kind.Causal l) (Cast u kind payload) made in
        (m, refl, ap (news_id u) same, is ∙ ap (news_body (body.Causal l)) same)
    go (body.Atomic l) is made =
        let same = only (Cast m.id cast_kind.Atomic l) (Cast u kind payload) made in
        (m, refl, ap (news_id u) same, is ∙ ap (news_body (body.Atomic l)) same)
    go (body.Order sequence) is made = absurd (no_item (Cast u kind payload) [] made)
act_of_cast (Entered g view cut) u kind payload e =
    absurd (not_view u kind payload g view (sym (only (View g view) (Cast u kind payload) e)))
act_of_cast (Left g) u kind payload e = absurd (no_item (Cast u kind payload) [] e)

act_of_view : (y : Act) (g : GroupNo) (view : ℕ) → news_by y ≡ View g view ∷ [] → (cut : CountList) × (y ≡ Entered g view cut)
unfolding news_group news_view
act_of_view (Sent m) g view e = absurd (no_item (View g view) [] e)
act_of_view (Delivered m) g view e = go m.body e
  where
    go : (b : Body) → news_of m.id b ≡ View g view ∷ [] → (cut : CountList) × ◌≡◌ {A = Act} (Delivered m) (Entered g view cut)
    go (body.Causal l) made = absurd (not_view m.id cast_kind.Causal l g view (only (Cast m.id cast_kind.Causal l) (View g view) made))
    go (body.Atomic l) made = absurd (not_view m.id cast_kind.Atomic l g view (only (Cast m.id cast_kind.Atomic l) (View g view) made))
    go (body.Order sequence) made = absurd (no_item (View g view) [] made)
act_of_view (Entered h n cut) g view e =
    let same = only (View h n) (View g view) e in
    (cut, λ i. Entered (ap (news_group h) same i) (ap (news_view n) same i) cut)
act_of_view (Left g_left) g view e = absurd (no_item (View g view) [] e)

entry_of_view : (e : Push) (g : GroupNo) (view : ℕ) → news_in e ≡ View g view ∷ [] → (members : Membership) × (e ≡ push.View g view members)
unfolding news_group news_view
entry_of_view (push.Opened p) g view e = absurd (no_item (View g view) [] e)
entry_of_view (push.Reply tag refusal) g view e = absurd (no_item (View g view) [] e)
entry_of_view (push.View h n members) g view e =
    let same = only (View h n) (View g view) e in
    (members, λ i. push.View (ap (news_group h) same i) (ap (news_view n) same i) members)
entry_of_view (push.Deliver u kind payload) g view e =
    absurd (not_view u kind payload g view (only (Cast u kind payload) (View g view) e))
entry_of_view (push.Ejected h n) g view e = absurd (no_item (View g view) [] e)
entry_of_view (push.Denied h refusal) g view e = absurd (no_item (View g view) [] e)
entry_of_view (push.Closed refusal) g view e = absurd (no_item (View g view) [] e)

-- who is told an id is told it of a cast
news_of_id : (n : News) (u : Uid) → id_of n ≡ u ∷ [] → (kind : CastKind) × (payload : List ℕ) × (n ≡ Cast u kind payload)
news_of_id (Cast v kind payload) u e = (kind, payload, ap (λ x. Cast x kind payload) (only v u e))
news_of_id (View g view) u e = absurd (no_item u [] e)

-- what there is to tell of a cast
cast_told : (m : Message) (kind : CastKind) (payload : List ℕ) → m.body ≡ body_of kind payload →
    news_by (Delivered m) ≡ Cast m.id kind payload ∷ []
cast_told m kind payload is = ap (news_of m.id) is ∙ by kind
  where
    by : (k : CastKind) → news_of m.id (body_of k payload) ≡ Cast m.id k payload ∷ []
    by cast_kind.Causal = refl
    by cast_kind.Atomic = refl

stands_more : {X : Type 0} (xs rest : List X) (x y : X) → StandsBefore xs x y → StandsBefore (xs ++ rest) x y
stands_more xs rest x y (a, b, c, is) = (a, b, c ++ rest, ap (λ l. l ++ rest) is ∙ append_assoc (a ++ x ∷ b) (y ∷ c) rest)

none_kept : {X : Type 0} (test : X → Bool) (xs : List X) → ((x : X) → Contains xs x → test x ≡ false) → filter test xs ≡ []
none_kept test [] none = refl
none_kept test (x ∷ xs) none =
    ap (λ b. cond b (x ∷ filter test xs) (filter test xs)) (none x (0, omega arith, refl))
    ∙ none_kept test xs (λ y at. none y (Contains-append_right (x ∷ []) xs y at))

-- The casts of acts

abbrev casts_done : List Act → List Uid
casts_done acts = flat_map id_of (all_done acts)

delivered_has : (acts : List Act) (m : Message) → Contains acts (Delivered m) → Contains (delivered_by acts) m.id
delivered_has acts m at =
    let s = contains_split acts (Delivered m) at in
    subst (λ l. Contains l m.id) (sym (ap delivered_by s.2 ∙ delivered_append s.0 (Delivered m ∷ s.1)))
    (contains_here (delivered_by s.0) (delivered_by s.1) m.id)

delivered_from : (acts : List Act) (u : Uid) → Contains (delivered_by acts) u → (m : Message) × Contains acts (Delivered m) × (m.id ≡ u)
delivered_from [] u at = absurd (omega (arith, at.1))
delivered_from (Sent x ∷ acts) u at =
    let r = delivered_from acts u at in (r.0, contains_more (Sent x) acts (Delivered r.0) r.1, r.2)
delivered_from (Delivered x ∷ acts) u at = elim (contains_cons x.id (delivered_by acts) u at) [
  | inl same ↦ (x, contains_here [] acts (Delivered x), same)
  | inr later ↦ (let r = delivered_from acts u later in (r.0, contains_more (Delivered x) acts (Delivered r.0) r.1, r.2))
]
delivered_from (Entered g view cut ∷ acts) u at =
    let r = delivered_from acts u at in (r.0, contains_more (Entered g view cut) acts (Delivered r.0) r.1, r.2)
delivered_from (Left g ∷ acts) u at =
    let r = delivered_from acts u at in (r.0, contains_more (Left g) acts (Delivered r.0) r.1, r.2)

-- of an id among them a cast was delivered
cast_done : (acts : List Act) (n : News) (u : Uid) → Contains (all_done acts) n → Contains (id_of n) u →
    (m : Message) × Contains acts (Delivered m) × (m.id ≡ u) × IsCast m
cast_done acts n u at id_at =
    let is = news_of_id n u (made_whole id_of one_id n u id_at) in
    let from = in_flat news_by acts n at in
    let made = made_whole news_by one_news from.0 n from.2 in
    let y = act_of_cast from.0 u is.0 is.1 (subst (λ x. news_by from.0 ≡ x ∷ []) is.2 made) in
    (y.0, subst (Contains acts) y.1 from.1, y.2, (is.0, is.1, y.3))

-- casts stand there as their deliveries stand among the acts
casts_stand : (acts : List Act) (x m : Message) → StandsBefore acts (Delivered x) (Delivered m) → IsCast x → IsCast m →
    StandsBefore (casts_done acts) x.id m.id
casts_stand acts x m before (kind_x, payload_x, is_x) (kind_m, payload_m, is_m) =
    stand_made id_of (all_done acts) (Cast x.id kind_x payload_x) (Cast m.id kind_m payload_m) x.id m.id
    (stand_made news_by acts (Delivered x) (Delivered m) (Cast x.id kind_x payload_x) (Cast m.id kind_m payload_m) before
    (cast_told x kind_x payload_x is_x) (cast_told m kind_m payload_m is_m)) refl refl

-- Of a network

module _ (w : Network) (pushed : Proc → List Push) (are : AreTold w pushed) where
  -- what a program was not told: at most the last
  missing : (p : Proc) → (rest : List News) × (length rest ≤ 1) × (all_told (pushed p) ++ rest ≡ all_done (acts_of w p))
  missing p = elim (are p) [
    | inl all ↦ ([], omega arith, append-nil (all_told (pushed p)) ∙ all)
    | inr (x, all, slow) ↦ (x ∷ [], omega arith, all)
  ]

  abbrev ids_missing : Proc → List Uid
  ids_missing p = flat_map id_of (missing p).0

  -- so the casts that it was told are those of the acts, but for the last
  casts_all : (p : Proc) → casts_in (pushed p) ++ ids_missing p ≡ casts_done (acts_of w p)
  casts_all p = sym (flat_map-append id_of (all_told (pushed p)) (missing p).0) ∙ ap (flat_map id_of) (missing p).2

  cast_of : (p : Proc) (u : Uid) → Contains (casts_in (pushed p)) u →
      (m : Message) × Contains (acts_of w p) (Delivered m) × (m.id ≡ u) × IsCast m
  cast_of p u at =
      let n = in_flat id_of (all_told (pushed p)) u at in
      cast_done (acts_of w p) n.0 u
      (subst (λ l. Contains l n.0) (missing p).2 (Contains-append_left (all_told (pushed p)) (missing p).0 n.0 n.1)) n.2

  -- Messages of one id are one

  module _ (f : Facts w) (sent : DeliveriesWereSent w) (unique : NamesAreUnique w) (once : DeliversOnce w) where
    one_message : (p : Proc) (x y : Message) → Contains (acts_of w p) (Delivered y) → Contains (acts_of w x.id.proc) (Sent x) →
        y.id ≡ x.id → y ≡ x
    one_message p x y at_y at_x same =
        unique x.id.proc y x (subst (λ (u : Uid). Contains (acts_of w u.proc) (Sent y)) same (sent p y at_y)) at_x same

    told_is : (p : Proc) (x : Message) → Contains (casts_in (pushed p)) x.id → Contains (acts_of w x.id.proc) (Sent x) →
        Contains (acts_of w p) (Delivered x) × IsCast x
    told_is p x at at_x =
        let m = cast_of p x.id at in
        let same : m.0 ≡ x = one_message p x m.0 m.1 at_x m.2 in
        (subst (λ y. Contains (acts_of w p) (Delivered y)) same m.1, subst IsCast same m.3)

    none_twice : (p : Proc) → NoneTwice (casts_done (acts_of w p))
    none_twice p u stand =
        let n = stand_as_made id_of one_id (all_done (acts_of w p)) u u stand in
        let y = stand_as_made news_by one_news (acts_of w p) n.0 n.1 n.2 in
        let one = news_of_id n.0 u n.3 in
        let two = news_of_id n.1 u n.4 in
        let a = act_of_cast y.0 u one.0 one.1 (subst (λ z. news_by y.0 ≡ z ∷ []) one.2 y.3) in
        let b = act_of_cast y.1 u two.0 two.1 (subst (λ z. news_by y.1 ≡ z ∷ []) two.2 y.4) in
        once p a.0 b.0 (subst (λ z. StandsBefore (acts_of w p) z (Delivered b.0)) a.1
        (subst (λ z. StandsBefore (acts_of w p) y.0 z) b.1 y.2)) (a.2 ∙ sym b.2)

    told_none_twice : (p : Proc) → NoneTwice (casts_in (pushed p) ++ ids_missing p)
    told_none_twice p = subst NoneTwice (sym (casts_all p)) (none_twice p)

    -- a program is told casts in the order in which its process delivered them
    in_order : (p : Proc) (x m : Message) → Contains (casts_in (pushed p)) m.id → IsCast x → IsCast m →
        StandsBefore (acts_of w p) (Delivered x) (Delivered m) → StandsBefore (casts_in (pushed p)) x.id m.id
    in_order p x m at cast_x cast_m before =
        stands_within (casts_in (pushed p)) (ids_missing p) x.id m.id (told_none_twice p)
        (subst (λ l. StandsBefore l x.id m.id) (sym (casts_all p)) (casts_stand (acts_of w p) x m before cast_x cast_m)) at

    told_once : HasEachOnce (λ m. m.id) (λ p. casts_in (pushed p))
    told_once p x m stand same =
        once_within (casts_in (pushed p)) (ids_missing p) (told_none_twice p) m.id
        (subst (λ u. StandsBefore (casts_in (pushed p)) u m.id) same stand)

    later_sent : (x m : Message) → HappenedBefore w x m → Contains (acts_of w m.id.proc) (Sent m)
    later_sent x m (edge e) =
        let d = done w f x m e in subst (λ l. Contains l (Sent m)) (sym d.2) (contains_here d.0 d.1 (Sent m))
    later_sent x m (path {y = y} h e) =
        let d = done w f y m e in subst (λ l. Contains l (Sent m)) (sym d.2) (contains_here d.0 d.1 (Sent m))

    causally : DeliversCausally w → KeepsCausalOrder (λ m. m.id) w (λ p. casts_in (pushed p))
    causally deliver p x m at_x at_m before =
        let one = told_is p x at_x (first_source w f x m before).at in
        let two = told_is p m at_m (later_sent x m before) in
        in_order p x m at_m one.1 two.1 (deliver p x m one.0 two.0 before)

    when_due : DeliversInOrder w → ToldWhenDue w (λ p. casts_in (pushed p))
    when_due deliver p x m at_m before cast due =
        let two = told_is p m at_m (later_sent x m before) in
        in_order p x m at_m cast two.1 (deliver p x m two.0 before due)

    first_in_first_out : DeliversFirstInFirstOut w → KeepsSendingOrder (λ m. m.id) w (λ p. casts_in (pushed p))
    first_in_first_out deliver p q x m at_x at_m (a, b, c, is) =
        let sent_x : Contains (acts_of w q) (Sent x) =
        subst (λ l. Contains l (Sent x)) (sym is)
        (Contains-append_left (a ++ Sent x ∷ b) (Sent m ∷ c) (Sent x) (contains_here a b (Sent x))) in
        let sent_m : Contains (acts_of w q) (Sent m) =
        subst (λ l. Contains l (Sent m)) (sym is) (contains_here (a ++ Sent x ∷ b) c (Sent m)) in
        let own_x : x.id.proc ≡ q = (f.each q a (b ++ Sent m ∷ c) (Sent x) (is ∙ append_assoc a (Sent x ∷ b) (Sent m ∷ c))).own in
        let own_m : m.id.proc ≡ q = (f.each q (a ++ Sent x ∷ b) c (Sent m) is).own in
        let one = told_is p x at_x (subst (λ z. Contains (acts_of w z) (Sent x)) (sym own_x) sent_x) in
        let two = told_is p m at_m (subst (λ z. Contains (acts_of w z) (Sent m)) (sym own_m) sent_m) in
        in_order p x m at_m one.1 two.1 (deliver p q x m one.0 two.0 (a, b, c, is))

  -- Views

  rising : ViewsRise w → HasRisingViews push.View pushed
  rising rise p g view next one other stand =
      let told =
      stand_made news_in (pushed p) (push.View g view one) (push.View g next other) (View g view) (View g next) stand refl refl in
      let all =
      subst (λ l. StandsBefore l (View g view) (View g next)) (missing p).2
      (stands_more (all_told (pushed p)) (missing p).0 (View g view) (View g next) told) in
      let acts = stand_as_made news_by one_news (acts_of w p) (View g view) (View g next) all in
      let first = act_of_view acts.0 g view acts.3 in
      let second = act_of_view acts.1 g next acts.4 in
      rise p g view next first.0 second.0 (subst (λ z. StandsBefore (acts_of w p) z (Entered g next second.0)) first.1
      (subst (λ z. StandsBefore (acts_of w p) acts.0 z) second.1 acts.2))

  -- the last view that a program was told is the one that its process is in
  last_view : (entries : List Push) (acts : List Act) → all_done acts ≡ all_told entries → (g : GroupNo) (view : ℕ) → IsIn acts g view →
      IsLastView entries g view
  last_view entries acts same g view (a, b, cut, is, stays, never) =
      let whole : all_told entries ≡ all_done a ++ View g view ∷ all_done b =
      sym same ∙ ap all_done is ∙ flat_map-append news_by a (Entered g view cut ∷ b) in
      let at = made_at news_in one_entry entries (all_done a) (all_done b) (View g view) whole in
      let e = entry_of_view at.item g view at.made in (
        at.before,
        at.later,
        e.0,
        at.is ∙ ap (λ z. at.before ++ z ∷ at.later) e.1,
        (λ n members there.
            let news = flat_has news_in at.later (push.View g n members) (View g n) there (0, omega arith, refl) in
            let from = in_flat news_by b (View g n) (subst (λ l. Contains l (View g n)) at.made_later news) in
            let y = act_of_view from.0 g n (made_whole news_by one_news from.0 (View g n) from.2) in
            never n y.0 (subst (Contains b) y.1 from.1)),
      )

  sending_view : DeliversInView w → DeliversInSendingView w → ToldInSendingView w pushed
  sending_view inside sending p u kind payload a b is =
      let rest : List News = (missing p).0 in
      let n : News = Cast u kind payload in
      let whole : all_done (acts_of w p) ≡ all_told a ++ n ∷ (all_told b ++ rest) =
      sym (missing p).2
      ∙ ap (λ l. all_told l ++ rest) is
      ∙ ap (λ l. l ++ rest) (flat_map-append news_in a (push.Deliver u kind payload ∷ b))
      ∙ append_assoc (all_told a) (n ∷ all_told b) rest in
      let at = made_at news_by one_news (acts_of w p) (all_told a) (all_told b ++ rest) n whole in
      let d = act_of_cast at.item u kind payload at.made in
      let acts : acts_of w p ≡ at.before ++ Delivered d.0 ∷ at.later = at.is ∙ ap (λ z. at.before ++ z ∷ at.later) d.1 in
      let within = inside p d.0 at.before at.later acts in
      let s = sending p d.0 d.0.id.view at.before at.later acts within in (
        subst (λ (x : Uid). IsLastView a x.group x.view) d.2 (last_view a at.before at.made_before d.0.id.group d.0.id.view within),
        (
          d.0,
          s.0,
          s.1,
          d.2,
          d.3,
          subst (λ (x : Uid). acts_of w x.proc ≡ s.0 ++ Sent d.0 ∷ s.1) d.2 s.2,
          subst (λ (x : Uid). IsIn s.0 x.group x.view) d.2 s.3,
        ),
      )

  -- Agreement

  abbrev abcasts_told_of : GroupNo → ℕ → Proc → List Uid
  abcasts_told_of g view p = abcasts_of_view w g view (casts_in (pushed p))

  module _ (p : Proc) (tells : TellsAbcasts (is_abcast w) (acts_of w p)) (listed : delivered_of w p ≡ delivered_by (acts_of w p))
      (g : GroupNo) (view : ℕ) where
    -- one id more, on both sides or where it is of no ABCAST
    both_more : (u : Uid) (xs ys : List Uid) → abcasts_of_view w g view xs ≡ abcasts_of_view w g view ys →
        abcasts_of_view w g view (u ∷ xs) ≡ abcasts_of_view w g view (u ∷ ys)
    both_more u xs ys same = go (is_in g view u) (is_abcast w u)
      where
        go : (a b : Bool) → filter (is_abcast w) (cond a (u ∷ filter (is_in g view) xs) (filter (is_in g view) xs))
            ≡ filter (is_abcast w) (cond a (u ∷ filter (is_in g view) ys) (filter (is_in g view) ys))
        go true b = ap (λ l. cond (is_abcast w u) (u ∷ l) l) same
        go false b = same

    one_more : (u : Uid) (xs ys : List Uid) → is_abcast w u ≡ false → abcasts_of_view w g view xs ≡ abcasts_of_view w g view ys →
        abcasts_of_view w g view xs ≡ abcasts_of_view w g view (u ∷ ys)
    one_more u xs ys none same = go (is_in g view u)
      where
        go : (a : Bool) → abcasts_of_view w g view xs
            ≡ filter (is_abcast w) (cond a (u ∷ filter (is_in g view) ys) (filter (is_in g view) ys))
        go true = same ∙ ap (λ b. cond b (u ∷ abcasts_of_view w g view ys) (abcasts_of_view w g view ys)) (sym none)
        go false = same

    -- no set-order message is an ABCAST
    same_abcasts : (acts : List Act) → TellsAbcasts (is_abcast w) acts →
        abcasts_of_view w g view (casts_done acts) ≡ abcasts_of_view w g view (delivered_by acts)
    same_abcasts [] all = refl
    same_abcasts (Sent m ∷ acts) all = same_abcasts acts (λ x at. all x (contains_more (Sent m) acts (Delivered x) at))
    same_abcasts (Entered h n cut ∷ acts) all = same_abcasts acts (λ x at. all x (contains_more (Entered h n cut) acts (Delivered x) at))
    same_abcasts (Left h ∷ acts) all = same_abcasts acts (λ x at. all x (contains_more (Left h) acts (Delivered x) at))
    same_abcasts (Delivered m ∷ acts) all =
        go m.body refl (same_abcasts acts (λ x at. all x (contains_more (Delivered m) acts (Delivered x) at)))
      where
        go : (b : Body) → m.body ≡ b → abcasts_of_view w g view (casts_done acts) ≡ abcasts_of_view w g view (delivered_by acts) →
            abcasts_of_view w g view (flat_map id_of (news_of m.id b ++ all_done acts))
            ≡ abcasts_of_view w g view (m.id ∷ delivered_by acts)
        go (body.Causal payload) is more = both_more m.id (casts_done acts) (delivered_by acts) more
        go (body.Atomic payload) is more = both_more m.id (casts_done acts) (delivered_by acts) more
        go (body.Order sequence) is more =
            one_more m.id (casts_done acts) (delivered_by acts)
            (all m (contains_here [] acts (Delivered m)) ∙ ap (λ b. is_atomic (kind_of b)) is) more

    -- so of the ABCASTs of a view that a process delivered its program was told a prefix
    told_prefix : abcasts_told_of g view p ++ abcasts_of_view w g view (ids_missing p) ≡ abcasts_of_view w g view (delivered_of w p)
    told_prefix =
        sym (filter-append (is_abcast w) (of_view g view (casts_in (pushed p))) (of_view g view (ids_missing p)))
        ∙ ap (filter (is_abcast w)) (sym (filter-append (is_in g view) (casts_in (pushed p)) (ids_missing p)))
        ∙ ap (abcasts_of_view w g view) (casts_all p)
        ∙ same_abcasts (acts_of w p) tells
        ∙ ap (abcasts_of_view w g view) (sym listed)

  -- who passes from a view to the next was told all of the first
  module _ (f : Facts w) (seen : EachSeen w) (p : Proc) (g : GroupNo) (view : ℕ) (before cut : CountList) (a b c : List Act)
      (is : acts_of w p ≡ a ++ Entered g view before ∷ b ++ Entered g (view + 1) cut ∷ c) (stays : NeverLeft g b) where
    abbrev until : List Act
    until = a ++ Entered g view before ∷ b

    abbrev next : News
    next = View g (view + 1)

    whole_news : all_told (pushed p) ++ (missing p).0 ≡ all_done until ++ next ∷ all_done c
    whole_news = (missing p).2 ∙ ap all_done is ∙ flat_map-append news_by until (Entered g (view + 1) cut ∷ c)

    told_until : IsPrefix (all_done until) (all_told (pushed p))
    told_until = cut_short (all_told (pushed p)) (missing p).0 (all_done until) (all_done c) next (missing p).1 whole_news

    told_in_view : (m : Message) → Contains (acts_of w p) (Delivered m) → IsCast m → m.id.group ≡ g → m.id.view ≡ view →
        Contains (casts_in (pushed p)) m.id
    told_in_view m at (kind, payload, is_cast_m) group in_view =
        let in_b : Contains b (Delivered m) = in_between w f seen p g view before cut a b c is stays m at group in_view in
        let n : News = Cast m.id kind payload in
        let early : Contains (all_done until) n =
        flat_has news_by until (Delivered m) n
        (Contains-append_right a (Entered g view before ∷ b) (Delivered m) (contains_more (Entered g view before) b (Delivered m) in_b))
        (subst (λ l. Contains l n) (sym (cast_told m kind payload is_cast_m)) (0, omega arith, refl)) in
        flat_has id_of (all_told (pushed p)) n m.id
        (subst (λ l. Contains l n) told_until.1 (Contains-append_left (all_done until) told_until.0 n early)) (0, omega arith, refl)

    -- what it was not told is of no message of it
    missing_later : (u : Uid) → Contains (ids_missing p) u → is_in g view u ≡ false
    missing_later u at =
        let n = in_flat id_of (missing p).0 u at in
        let rest : told_until.0 ++ (missing p).0 ≡ next ∷ all_done c =
        same_rest (all_done until) (told_until.0 ++ (missing p).0) (all_done until) (next ∷ all_done c)
        (sym (append_assoc (all_done until) told_until.0 (missing p).0) ∙ ap (λ l. l ++ (missing p).0) told_until.1 ∙ whole_news) refl in
        elim (contains_cons next (all_done c) n.0
        (subst (λ l. Contains l n.0) rest (Contains-append_right told_until.0 (missing p).0 n.0 n.1))) [
          | inl same ↦ absurd (no_item u [] (ap id_of same ∙ made_whole id_of one_id n.0 u n.2))
          | inr later ↦ (let m = cast_done c n.0 u later n.2 in elim (cases_Bool (is_in g view u)) [
            | inl within ↦ absurd (
                let tests = and_parts (group_eq u.group g) (u.view == view) within in
                none_after w f seen p g view before cut a b c is stays m.0 m.1
                (ap (λ (x : Uid). x.group) m.2 ∙ ap (λ n. record { 0 = n }) (eqb-true u.group.0 g.0 tests.0))
                (ap (λ (x : Uid). x.view) m.2 ∙ eqb-true u.view view tests.1))
            | inr other ↦ other
          ])
        ]

    told_whole : (tells : TellsAbcasts (is_abcast w) (acts_of w p)) → delivered_of w p ≡ delivered_by (acts_of w p) →
        abcasts_told_of g view p ≡ abcasts_of_view w g view (delivered_of w p)
    told_whole tells listed =
        sym (append-nil (abcasts_told_of g view p))
        ∙ ap (λ l. abcasts_told_of g view p ++ filter (is_abcast w) l) (sym (none_kept (is_in g view) (ids_missing p) missing_later))
        ∙ told_prefix p tells listed g view

-- The laws, in every run

module _ (sites : List SiteNo) (config : SiteNo → DomainConfig) (steps : List Step) (pushed : Proc → List Push) (w : Network)
    (told : ReachesTelling sites config steps pushed w) where
  abbrev r : Reaches sites config steps w
  r = reaches sites config steps pushed w told

  abbrev are : AreTold w pushed
  are = are_told sites config steps pushed w told

  abbrev f : Facts w
  f = fact sites config steps w r

  tells_abcasts : (p : Proc) → TellsAbcasts (is_abcast w) (acts_of w p)
  tells_abcasts p =
      abcasts_told (config record { 0 = 0 }).home w (holds_in_every sites config steps w r) (told_in_every sites config steps w r.leads) p

  one_way : (p q : Proc) (g : GroupNo) (view : ℕ) → Passes w p g view → Passes w q g view → (u : Uid) →
      Contains (of_view g view (casts_in (pushed p))) u → Contains (of_view g view (casts_in (pushed q))) u
  one_way p q g view one two u at =
      let within : is_in g view u ≡ true = passed (is_in g view) (casts_in (pushed p)) u at in
      let m = cast_of w pushed are p u (among_kept (is_in g view) (casts_in (pushed p)) u at) in
      let listed : Contains (delivered_of w p) u = subst (λ l. Contains l u) (sym (lists_are_acts sites config steps w r p))
      (subst (Contains (delivered_by (acts_of w p))) m.2 (delivered_has (acts_of w p) m.0 m.1)) in
      let other = among_kept (is_in g view) (delivered_of w q) u ((same_messages sites config steps w r p q g view one two u).0
      (contains_kept (is_in g view) (delivered_of w p) u listed within)) in
      let x = delivered_from (acts_of w q) u (subst (λ l. Contains l u) (lists_are_acts sites config steps w r q) other) in
      let sent = deliveries_were_sent sites config steps w r in
      let same : x.0 ≡ m.0 = one_message w pushed are f sent (names_are_unique sites config steps w r)
      (deliver_once sites config steps w r) q m.0 x.0 x.1 (sent p m.0 m.1) (x.2 ∙ sym m.2) in
      let tests = and_parts (group_eq u.group g) (u.view == view) within in
      contains_kept (is_in g view) (casts_in (pushed q)) u
      (subst (Contains (casts_in (pushed q))) x.2
      (told_in_view w pushed are f (seen_in_every sites config steps w r) q g view two.0 two.1 two.2 two.3 two.4 two.5 two.6 x.0 x.1
      (subst IsCast (sym same) m.3)
      (ap (λ (y : Uid). y.group) x.2 ∙ ap (λ n. record { 0 = n }) (eqb-true u.group.0 g.0 tests.0))
      (ap (λ (y : Uid). y.view) x.2 ∙ eqb-true u.view view tests.1))) within

  all_of : (p : Proc) (g : GroupNo) (view : ℕ) → Passes w p g view →
      abcasts_of_view w g view (casts_in (pushed p)) ≡ abcasts_of_view w g view (delivered_of w p)
  all_of p g view one =
      told_whole w pushed are f (seen_in_every sites config steps w r) p g view one.0 one.1 one.2 one.3 one.4 one.5 one.6
      (tells_abcasts p) (lists_are_acts sites config steps w r p)

  prefix_of : (p : Proc) (g : GroupNo) (view : ℕ) →
      IsPrefix (abcasts_of_view w g view (casts_in (pushed p))) (abcasts_of_view w g view (delivered_of w p))
  prefix_of p g view = (
    abcasts_of_view w g view (ids_missing w pushed are p),
    told_prefix w pushed are p (tells_abcasts p) (lists_are_acts sites config steps w r p) g view,
  )

pub told_causally : AllToldCausally
told_causally sites config steps pushed w told =
    let r = reaches sites config steps pushed w told in
    causally w pushed (are_told sites config steps pushed w told) (fact sites config steps w r)
    (deliveries_were_sent sites config steps w r) (names_are_unique sites config steps w r) (deliver_once sites config steps w r)
    (deliver_causally sites config steps w r)

pub told_when_due : AllToldWhenDue
told_when_due sites config steps pushed w told =
    let r = reaches sites config steps pushed w told in
    when_due w pushed (are_told sites config steps pushed w told) (fact sites config steps w r)
    (deliveries_were_sent sites config steps w r) (names_are_unique sites config steps w r) (deliver_once sites config steps w r)
    (causal_delivery sites config steps w r)

pub told_first_in_first_out : AllToldFirstInFirstOut
told_first_in_first_out sites config steps pushed w told =
    let r = reaches sites config steps pushed w told in
    first_in_first_out w pushed (are_told sites config steps pushed w told) (fact sites config steps w r)
    (deliveries_were_sent sites config steps w r) (names_are_unique sites config steps w r) (deliver_once sites config steps w r)
    (deliver_first_in_first_out sites config steps w r)

pub each_told_once : AllToldOnce
each_told_once sites config steps pushed w told =
    let r = reaches sites config steps pushed w told in
    told_once w pushed (are_told sites config steps pushed w told) (fact sites config steps w r)
    (deliveries_were_sent sites config steps w r) (names_are_unique sites config steps w r) (deliver_once sites config steps w r)

pub show_rising_views : AllShowRisingViews
show_rising_views sites config steps pushed w told =
    rising w pushed (are_told sites config steps pushed w told) (views_rise sites config steps w (reaches sites config steps pushed w told))

pub told_in_sending_view : AllToldInSendingView
told_in_sending_view sites config steps pushed w told =
    let r = reaches sites config steps pushed w told in
    sending_view w pushed (are_told sites config steps pushed w told) (deliver_in_view sites config steps w r)
    (deliver_in_sending_view sites config steps w r)

pub told_the_same : AllToldTheSame
told_the_same sites config steps pushed w told p q g view one two u = (
  one_way sites config steps pushed w told p q g view one two u,
  one_way sites config steps pushed w told q p g view two one u,
)

pub told_in_one_order : AllToldInOneOrder
told_in_one_order sites config steps pushed w told p q g view one two =
    all_of sites config steps pushed w told p g view one
    ∙ same_order sites config steps w (reaches sites config steps pushed w told) p q g view one two
    ∙ sym (all_of sites config steps pushed w told q g view two)

pub orders_told_agree : AllOrdersToldAgree
orders_told_agree sites config steps pushed w told p q g view one two =
    let of : Proc → List Uid = λ x. abcasts_of_view w g view (casts_in (pushed x)) in
    let all : Proc → List Uid = λ x. abcasts_of_view w g view (delivered_of w x) in
    let at_p = prefix_of sites config steps pushed w told p g view in
    let at_q = prefix_of sites config steps pushed w told q g view in
    elim (orders_agree sites config steps w (reaches sites config steps pushed w told) p q g view one two) [
      | inl first ↦ comparable (of p) (of q) (all q) (prefix_trans (of p) (all p) (all q) at_p first) at_q
      | inr second ↦ comparable (of p) (of q) (all p) at_p (prefix_trans (of q) (all q) (all p) at_q second)
    ]
