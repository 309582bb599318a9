-- What the moves of a history keep, it keeps through each event and through the rest that follows.
use Rattle.std.proofs.Common.{ap, inl, inr, subst, sym, ◌∙◌}
use Rattle.std.proofs.lemmas.Bool.{and_from, and_parts, eq-eqb, false≢true, true≢false}
use Rattle.std.specs.List.{find, fold, list_any}
use Rattle.std.specs.Option.{option_map_or}
use Rattle.std.specs.Prelude.{Bool, Contains, None, List, Option, Some, [], false, filter, if◌then◌else◌, is_some}
use Rattle.std.specs.Prelude.{length, not, refl, true, unwrap_or, ℕ, ◌&&◌, ◌||◌, ◌+◌, ◌==◌, ◌∷◌, ◌≡◌, ◌⊎◌}
use Rattle.cast_ready.specs.Ready.{covered_entries, is_member}
use Rattle.cast_rules.specs.Effects.{delivering, sending}
use Rattle.cast_rules.specs.History.{history}
use Rattle.cast_rules.specs.Order.{has_place, holders, holds, order_told, unlisted_ids}
use Rattle.cast_rules.specs.Owing.{noting_owed}
use Rattle.cast_rules.specs.Reports.{has_delivered_cut, is_delivered_here, is_missing, missing_in}
use Rattle.cast_rules.specs.Rest.{RestsAt, deliver_all, deliver_first, is_free, let_go, pass, set_order, set_order_by, set_orders, settle}
use Rattle.cast_rules.specs.Resting.{next_places, places_of, resting}
use Rattle.cast_rules.specs.Rules.Events.{is_taken, may_open}
use Rattle.cast_rules.specs.Rules.Flushes.{complete, complete_or_want, go_on, go_on_all, own_want_key, want_own}
use Rattle.cast_rules.specs.Rules.Order.{list_places, may_list}
use Rattle.cast_rules.specs.Rules.Owing.{frame_for, owe}
use Rattle.cast_rules.specs.Rules.Room.{may_order}
use Rattle.cast_rules.specs.Rules.Sending.{may_raise}
use Rattle.cast_rules.specs.Run.{after_event, before_event}
use Rattle.cast_rules.specs.State.{State, is_received, local, serials, setting_quota, taking}
use Rattle.cast_rules.specs.Step.{act_of_event, opening_next, sessions_given}
use Rattle.cast_rules.specs.Turns.{is_ready_for}
use Rattle.cast_message.specs.Placement.{Placement}
use Rattle.cast_message.specs.declared.client.Command.{Command}
use Rattle.cast_message.specs.declared.message.Message.{Message}
use Rattle.cast_message.specs.declared.site.SiteFrame.{SiteFrame}
use Rattle.cast_events.specs.Session.{is_gone}
use Rattle.cast_events.specs.declared.event.Event.{Event}
use Rattle.cast_quota.specs.Quotas.{is_in_range, with_quota}
use Rattle.cast_quota.specs.declared.quotas.Quotas.{Quotas}
use Rattle.cast_timer.specs.Owed.{is_owed}
use Rattle.cast_timer.specs.declared.key.OwedKey.{OwedKey}
use Rattle.cast_types.proofs.Orders.{entry_itself}
use Rattle.cast_types.specs.Counts.{CountList}
use Rattle.cast_types.specs.Names.{Entry, entry_eq, uid_in, uid_eq}
use Rattle.cast_types.specs.Sets.{is_among}
use Rattle.cast_types.specs.declared.limits.TheConstants.{MAX_PLACED}
use Rattle.cast_types.specs.declared.names.GroupNo.{GroupNo}
use Rattle.cast_types.specs.declared.names.SiteNo.{SiteNo}
use Rattle.cast_types.specs.declared.names.Uid.{Uid}
use Rattle.cast_view.specs.Home.{is_empty}
use Rattle.cast_view.specs.MemberSide.{MemberSide}
use Rattle.cast_view.specs.declared.member.Pending.{Pending}
use Rattle.cast_world.proofs.Acts.{contains_here}
use Rattle.cast_world.proofs.Allowed.{among_of, contains_more, passed, taken_of}
use Rattle.cast_world.proofs.Handlers.{MayCommand, on_command_keeps, on_site_frame_keeps, install_keeps, lead_keeps}
use Rattle.cast_world.proofs.Handlers.{sending_keeps, suspect_keeps}
use Rattle.cast_world.proofs.Keeps.{found_is, keeps_fold, keeps_if, keeps_iterate, keeps_option}
use Rattle.cast_world.proofs.Homes.{among_kept}
use Rattle.cast_world.proofs.Kept.{AcksFreely, Any, Kept, KeptByOwing, OwedTrue, Wants, FullyKept, WhollyKept, completes, lists, kept_fully}
use Rattle.cast_world.proofs.Telling.{owe_keeps, tick_keeps}
use Rattle.cast_world.proofs.Tokens.{holds_still}
use Rattle.cast_world.proofs.Wholes.{kept_wholly}
use Rattle.cast_message.specs.declared.client.Command.TheVariants as command
use Rattle.cast_message.specs.declared.client.Request.TheVariants as request_of
use Rattle.cast_message.specs.declared.message.Body.TheVariants as body
use Rattle.cast_events.specs.declared.event.Event.TheVariants as event

-- where an event is a frame, it has come
abbrev pub HasCome : (SiteNo → SiteFrame → Type 0) → Event → Type 0
HasCome Came (event.Open d) = Unit {0}
HasCome Came (event.Command d n c) = Unit {0}
HasCome Came (event.Gone d n) = Unit {0}
HasCome Came (event.Frame d from f) = Came from f
HasCome Came (event.Suspect d site) = Unit {0}
HasCome Came (event.Quota d name value) = Unit {0}
HasCome Came (event.Take d n most) = Unit {0}
HasCome Came (event.Tick t) = Unit {0}

pub any_came : (e : Event) → HasCome Any e
any_came (event.Open d) = tt
any_came (event.Command d n c) = tt
any_came (event.Gone d n) = tt
any_came (event.Frame d from f) = tt
any_came (event.Suspect d site) = tt
any_came (event.Quota d name value) = tt
any_came (event.Take d n most) = tt
any_came (event.Tick t) = tt

-- where an event is a program's cast, programs may cast
abbrev pub MayHappen : Bool → Event → Type 0
MayHappen casting (event.Open d) = Unit {0}
MayHappen casting (event.Command d n c) = MayCommand casting c
MayHappen casting (event.Gone d n) = Unit {0}
MayHappen casting (event.Frame d from f) = Unit {0}
MayHappen casting (event.Suspect d site) = Unit {0}
MayHappen casting (event.Quota d name value) = Unit {0}
MayHappen casting (event.Take d n most) = Unit {0}
MayHappen casting (event.Tick t) = Unit {0}

any_commands : (c : Command) → MayCommand true c
any_commands (command.Request (request_of.Join tag g)) = tt
any_commands (command.Request (request_of.Leave tag g)) = tt
any_commands (command.Request (request_of.Cast tag g kind payload)) = refl
any_commands (command.Request (request_of.Pass tag g to)) = tt
any_commands command.Bad = tt

pub any_happens : (e : Event) → MayHappen true e
any_happens (event.Open d) = tt
any_happens (event.Command d n c) = any_commands c
any_happens (event.Gone d n) = tt
any_happens (event.Frame d from f) = tt
any_happens (event.Suspect d site) = tt
any_happens (event.Quota d name value) = tt
any_happens (event.Take d n most) = tt
any_happens (event.Tick t) = tt

-- where an event sets a quota, that is kept
abbrev pub SetsWell : (State → Type 0) → State → Event → Type 0
SetsWell I s (event.Open d) = Unit {0}
SetsWell I s (event.Command d n c) = Unit {0}
SetsWell I s (event.Gone d n) = Unit {0}
SetsWell I s (event.Frame d from f) = Unit {0}
SetsWell I s (event.Suspect d site) = Unit {0}
SetsWell I s (event.Quota d name value) = I (setting_quota s name value)
SetsWell I s (event.Take d n most) = Unit {0}
SetsWell I s (event.Tick t) = Unit {0}

-- so it is where any quotas are
pub sets_any : (I : State → Type 0) → ((s : State) (quotas : Quotas) → I s → I (record s { quotas = quotas })) → (s : State) (e : Event) →
    I s → SetsWell I s e
sets_any I any s (event.Open d) i = tt
sets_any I any s (event.Command d n c) i = tt
sets_any I any s (event.Gone d n) i = tt
sets_any I any s (event.Frame d from f) i = tt
sets_any I any s (event.Suspect d site) i = tt
sets_any I any s (event.Quota d name value) i = any s (with_quota name value s.quotas) i
sets_any I any s (event.Take d n most) i = tt
sets_any I any s (event.Tick t) i = tt

-- what is missing within a cut is one that the cut names
missing_named : (s : State) (g : GroupNo) (cut : CountList) (x : Entry) → Contains (missing_in s g cut) x →
    is_among entry_eq x (covered_entries cut) ≡ true
missing_named s g cut x at =
    among_of entry_eq entry_itself (covered_entries cut)
    x (among_kept (is_missing s g) (covered_entries cut) x (taken_of MAX_PLACED (filter (is_missing s g) (covered_entries cut)) x at))

-- it was not received
missing_lacked : (s : State) (g : GroupNo) (cut : CountList) (x : Entry) → Contains (missing_in s g cut) x →
    is_received s (uid_in g (s.group g).number x) ≡ false
missing_lacked s g cut x at =
    neither (is_delivered_here s g x) (is_received s (uid_in g (s.group g).number x))
    (passed (is_missing s g) (covered_entries cut) x (taken_of MAX_PLACED (filter (is_missing s g) (covered_entries cut)) x at))
  where
    neither : (a b : Bool) → not (a || b) ≡ true → b ≡ false
    neither true b e = absurd (false≢true e)
    neither false true e = absurd (false≢true e)
    neither false false e = refl

-- so a Want of it is of a message that the waiting Install covers
named_covers : (s : State) (g : GroupNo) (p : Pending) → (s.group g).pending ≡ Some p → (x : Entry) →
    is_among entry_eq x (covered_entries p.cut) ≡ true → Wants s (own_want_key history s g x)
named_covers s g p pending x named_it =
    ap (λ (o : Option Pending). elim o [
      | Some q ↦
          ((s.group g).number == (s.group g).number) && is_among entry_eq x (covered_entries q.cut)
      | None ↦ false
    ]) pending
    ∙ and_from ((s.group g).number == (s.group g).number) (is_among entry_eq x (covered_entries p.cut))
    (eq-eqb (s.group g).number (s.group g).number refl) named_it

is_false : (b : Bool) → not b ≡ true → b ≡ false
is_false true e = absurd (false≢true e)
is_false false e = refl

module _ (I : State → Type 0) (During : Uid → State → Type 0) (Came : SiteNo → SiteFrame → Type 0) (home_here casting : Bool)
    (k : WhollyKept I During Came home_here casting) where
  abbrev t : KeptByOwing Came I
  t = k.owing

  -- The rest

  let_go_keeps : (s : State) → I s → I (let_go s)
  let_go_keeps s i = t.releases s (is_free s) i

  deliver_first_keeps : (n : ℕ) (s : State) → I s → I (deliver_first n s)
  deliver_first_keeps n s i = go (find (is_ready_for s n) s.got) refl
    where
      go : (o : Option Message) → find (is_ready_for s n) s.got ≡ o → I (elim o [ Some m ↦ let_go (delivering s n m) | None ↦ s ])
      go None e = i
      go (Some m) e =
          let found = found_is (is_ready_for s n) s.got m e in
          let_go_keeps (delivering s n m) (k.delivers s n m i found.1 found.0)

  settle_keeps : (s : State) → I s → I (settle s)
  settle_keeps s i =
      keeps_fold I deliver_all (λ r n j. keeps_iterate I (deliver_first n) (deliver_first_keeps n) (length r.got) r j) (serials s) s i

  -- the places that a holder sets next are those after the order known here
  next_are : (s : State) (g : GroupNo) (n : ℕ) (places : Placement) → next_places s g n ≡ Some places →
      body.Order places ≡ body.Order (places_of s g n)
  next_are s g n places e = ap (λ (p : Placement). body.Order p) (go (not (is_empty (unlisted_ids s g n)) && has_place (order_told s g)) e)
    where
      go : (b : Bool) → (if b then Some (places_of s g n) else None) ≡ Some places → places ≡ places_of s g n
      go true is = sym (ap (λ o. unwrap_or o places) is)
      go false is = absurd (false≢true (ap is_some is))

  set_order_by_keeps : (s : State) (g : GroupNo) (n : ℕ) → I s → holds s g n ≡ true → I (set_order_by s g n)
  set_order_by_keeps s g n i held = keeps_if I (may_list history resting s g n) _ s
      (λ may. keeps_option I (list_places history resting s g n) (next_places s g n) s
      (λ places next. keeps_if I (may_raise (s.process n).time g (local s n)) (let_go (sending s g n (body.Order places))) s
      (λ _. let_go_keeps (sending s g n (body.Order places))
      (sending_keeps I During Came home_here casting k s g n (body.Order places) i
      (and_parts (is_member ((s.process n).standing g)) _ may).0
      (lists held (is_false (s.group g).frozen
      (and_parts (not (s.group g).frozen) (may_order history s) (and_parts (is_member ((s.process n).standing g)) _ may).1).0)
      (next_are s g n places next))
      (and_parts (not (s.group g).frozen) (may_order history s) (and_parts (is_member ((s.process n).standing g)) _ may).1).1
      (is_false (s.group g).frozen
      (and_parts (not (s.group g).frozen) (may_order history s) (and_parts (is_member ((s.process n).standing g)) _ may).1).0)
      (λ none. absurd (true≢false none))))
      (λ _. i)) i) (λ _. i)

  set_order_keeps : (s : State) (g : GroupNo) → I s → I (set_order s g)
  set_order_keeps s g i = each (holders s g) s i (λ n at. passed (holds s g) (serials s) n at)
    where
      each : (ns : List ℕ) (r : State) → I r → ((n : ℕ) → Contains ns n → holds r g n ≡ true) → I (fold (λ t n. set_order_by t g n) r ns)
      each [] r j held = j
      each (n ∷ ns) r j held =
          each ns (set_order_by r g n) (set_order_by_keeps r g n j (held n (contains_here [] ns n)))
          (λ m at. holds_still r g n m ∙ held m (contains_more n ns m at))

  -- owing a Want changes no group
  same_group : (s : State) (key : OwedKey) → (owe history s key).group ≡ s.group
  same_group s key = go (is_owed s.owed key) (frame_for history s key)
    where
      go : (b : Bool) (o : Option SiteFrame) →
          (if b then s else noting_owed (option_map_or (history.send s key.site) o s) key).group ≡ s.group
      go true o = refl
      go false None = refl
      go false (Some f) = refl

  -- and receives nothing
  same_got : (s : State) (key : OwedKey) → (owe history s key).got ≡ s.got
  same_got s key = go (is_owed s.owed key) (frame_for history s key)
    where
      go : (b : Bool) (o : Option SiteFrame) → (if b then s else noting_owed (option_map_or (history.send s key.site) o s) key).got ≡ s.got
      go true o = refl
      go false None = refl
      go false (Some f) = refl

  want_all : (g : GroupNo) (p : Pending) (xs : List Entry) (s : State) → I s → (s.group g).pending ≡ Some p →
      ((x : Entry) → Contains xs x → is_among entry_eq x (covered_entries p.cut) ≡ true) →
      ((x : Entry) → Contains xs x → is_received s (uid_in g (s.group g).number x) ≡ false) →
      I (fold (want_own history g) s xs)
  want_all g p [] s i pending named_all lacked = i
  want_all g p (x ∷ xs) s i pending named_all lacked =
      let key : OwedKey = own_want_key history s g x in
      want_all g p xs (owe history s key)
      (owe_keeps I t s key i tt (named_covers s g p pending x (named_all x (contains_here [] xs x))) (lacked x (contains_here [] xs x)) tt)
      (ap (λ (f : GroupNo → MemberSide). (f g).pending) (same_group s key) ∙ pending) (λ y at. named_all y (contains_more x xs y at))
      (λ y at. (λ i_at. list_any (λ (m : Message). uid_eq m.id (uid_in g (same_group s key i_at g).number y)) (same_got s key i_at))
      ∙ lacked y (contains_more x xs y at))

  go_on_keeps : (s : State) (g : GroupNo) → I s → I (go_on history resting s g)
  go_on_keeps s g i = go (s.group g).pending refl
    where
      go : (o : Option Pending) → (s.group g).pending ≡ o → I (elim o [ Some p ↦ complete_or_want history resting s g p | None ↦ s ])
      go None e = i
      go (Some p) e =
          keeps_if I (has_delivered_cut s g p.cut) (let_go (complete history s g p)) (fold (want_own history g) s (missing_in s g p.cut))
          (λ all. let_go_keeps (complete history s g p)
          (install_keeps I During Came home_here casting k s g false s.config.home ((s.group g).number + 1)
          p.members p.request p.cut i (completes p e all refl refl refl refl refl)))
          (λ _. want_all g p (missing_in s g p.cut) s i e (missing_named s g p.cut) (missing_lacked s g p.cut))

  pub pass_keeps : (s : State) → I s → I (pass s)
  pass_keeps s i =
      let settled : State = settle s in
      let ordered : State = set_orders settled in
      let gone_on : State = go_on_all history resting ordered in
      lead_keeps I During Came home_here casting k gone_on
      (keeps_fold I (go_on history resting) go_on_keeps ordered.config.groups ordered
      (keeps_fold I set_order set_order_keeps settled.config.groups settled (settle_keeps s i)))

  pub rests_keeps_wholly : (s r : State) → RestsAt s r → I s → I r
  rests_keeps_wholly s r (n, leads, rest) i = subst I leads (keeps_iterate I pass pass_keeps n s i)

  -- Events

  owed_or_free : (s : State) → I s → OwedTrue s ⊎ AcksFreely I
  owed_or_free s i = elim k.truly [ inl owed ↦ inl (owed s i) | inr free ↦ inr free ]

  acted_keeps : (s : State) (e : Event) → I s → HasCome Came e → SetsWell I s e → MayHappen casting e → I (act_of_event s e)
  acted_keeps s (event.Open d) i come sets may =
      keeps_if I (may_open history sessions_given s) (opening_next s) s (λ _. k.opens s i) (λ _. i)
  acted_keeps s (event.Command d n c) i come sets may = on_command_keeps I During Came home_here casting k s n c i may
  acted_keeps s (event.Gone d n) i come sets may = k.goes s n i
  acted_keeps s (event.Frame d from f) i come sets may = on_site_frame_keeps I During Came home_here casting k s from f i come
  acted_keeps s (event.Suspect d site) i come sets may = suspect_keeps I During Came home_here casting k s site i
  acted_keeps s (event.Quota d name value) i come sets may = keeps_if I (is_in_range name value) (setting_quota s name value) s
      (λ _. sets) (λ _. i)
  acted_keeps s (event.Take d n most) i come sets may = keeps_if I (not (is_gone (s.session n)) && is_taken most) (taking s n most) s
      (λ _. k.takes s n most i) (λ _. i)
  acted_keeps s (event.Tick time) i come sets may = tick_keeps I t s time i (owed_or_free s i)

  pub event_keeps_wholly : (s : State) (e : Event) → I (before_event s) → HasCome Came e → SetsWell I (before_event s) e →
      MayHappen casting e → I (after_event s e)
  event_keeps_wholly s e i come sets may = let_go_keeps (act_of_event (before_event s) e) (acted_keeps (before_event s) e i come sets may)

-- the same of what looks at each entry and each session by itself
module _ (I : State → Type 0) (Between : GroupNo → State → Type 0) (During : Uid → State → Type 0) (Came : SiteNo → SiteFrame → Type 0)
    (home_here casting : Bool) (k : FullyKept I Between During Came home_here casting) where
  pub rests_keeps_fully : (s r : State) → RestsAt s r → I s → I r
  rests_keeps_fully = rests_keeps_wholly I During Came home_here casting (kept_wholly I Between During Came home_here casting k)

  pub event_keeps_fully : (s : State) (e : Event) → I (before_event s) → HasCome Came e → SetsWell I (before_event s) e →
      MayHappen casting e → I (after_event s e)
  event_keeps_fully = event_keeps_wholly I During Came home_here casting (kept_wholly I Between During Came home_here casting k)

-- the same of what does not look at what is owed
module _ (I : State → Type 0) (Came : SiteNo → SiteFrame → Type 0) (home_here : Bool) (k : Kept I Came home_here) where
  pub rests_keeps : (s r : State) → RestsAt s r → I s → I r
  rests_keeps = rests_keeps_fully I (λ g. I) (λ u. I) Came home_here true (kept_fully I Came home_here k)

  pub after_event_keeps : (s : State) (e : Event) → I (before_event s) → HasCome Came e → I (after_event s e)
  after_event_keeps s e i come = event_keeps_fully I (λ g. I) (λ u. I) Came home_here true (kept_fully I Came home_here k) s e i come
      (sets_any I (λ t quotas j. k.telling.books t quotas t.moment t.acks t.told t.owed t.casts t.pushes j) (before_event s) e i)
      (any_happens e)
