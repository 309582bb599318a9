-- How views end, at every moment. Sites report the order that they have of a view that is flushed, the home makes one end of it, and who
-- passes to the next view has delivered a prefix of the order with that end.
use Rattle.std.proofs.Common.{ap, arith, inl, inr, subst, sym, ◌∙◌}
use Rattle.std.proofs.lemmas.Bool.{true≢false}
use Rattle.std.specs.Prelude.{◌+◌, ◌++◌, Bool, Contains, List, None, Option, Some, [], drop, false}
use Rattle.std.specs.Prelude.{filter, if◌then◌else◌, length, map, refl, true, unwrap_or, ℕ, ◌≡◌, ◌≤◌, ◌⊎◌}
use Rattle.cast_ready.specs.Ready.{Process}
use Rattle.cast_flush.specs.declared.report.Report.{Report}
use Rattle.cast_rules.specs.Acts.{Act}
use Rattle.cast_rules.specs.Acts.Act.{Delivered, Entered, Left, Sent}
use Rattle.cast_rules.specs.Noted.{abcasts_by}
use Rattle.cast_rules.specs.Reports.{tail_of}
use Rattle.cast_rules.specs.State.{State, local}
use Rattle.cast_message.specs.Bodies.{kind_of, new_holder}
use Rattle.cast_message.specs.KeptIds.{KeptList}
use Rattle.cast_message.specs.Tail.{Tail}
use Rattle.cast_message.specs.declared.message.Message.{Message}
use Rattle.cast_message.specs.declared.site.SiteFrame.{SiteFrame}
use Rattle.cast_order.specs.Order.{closed_order}
use Rattle.cast_types.specs.Counts.{CountList, is_within}
use Rattle.cast_types.specs.Names.{Entry, entry_of, is_atomic, uid_in, site_eq}
use Rattle.cast_types.specs.declared.limits.TheConstants.{MAX_POSITION, MAX_UNSETTLED}
use Rattle.cast_types.specs.declared.names.GroupNo.{GroupNo}
use Rattle.cast_types.specs.declared.names.Proc.{Proc}
use Rattle.cast_types.specs.declared.names.SiteNo.{SiteNo}
use Rattle.cast_types.specs.declared.names.Standing.TheVariants.{Member}
use Rattle.cast_types.specs.declared.names.Uid.{Uid}
use Rattle.cast_view.specs.Home.{Home}
use Rattle.cast_view.specs.MemberSide.{MemberSide, is_pending}
use Rattle.cast_view.specs.declared.member.Pending.{Pending}
use Rattle.cast_view.specs.declared.phase.Decision.{Decision}
use Rattle.cast_view.specs.declared.phase.Phase.TheVariants.{Installing}
use Rattle.cast_world.proofs.Acts.{contains_here}
use Rattle.cast_world.proofs.Facts.{Each}
use Rattle.cast_world.proofs.Firsts.{firsts}
use Rattle.cast_world.proofs.Flush.{Choice, Chosen, IsChosen, SiteAgrees, numbers}
use Rattle.cast_world.proofs.FlushLaters.{Extends}
use Rattle.cast_world.proofs.FlushSteps.{Flushing}
use Rattle.cast_world.proofs.Homes.{reports_of}
use Rattle.cast_world.proofs.Invariants.{IsSound, Later, SiteHolds, Sites, WasSent}
use Rattle.cast_world.proofs.OrderLaters.{sent_later}
use Rattle.cast_world.proofs.Tokens.{HandOvers}
use Rattle.cast_world.proofs.Orders.{Apart, Orders, done_in, token_at}
use Rattle.cast_world.proofs.Prefixes.{prefix_trans}
use Rattle.cast_world.proofs.Steps.{Now, ahead_at, own_holds, own_is, sites_at}
use Rattle.cast_world.proofs.Windows.{Safe}
use Rattle.cast_world.specs.Agreement.{IsPrefix, is_in}
use Rattle.cast_world.specs.Network.{Network}
use Rattle.cast_world.specs.Properties.{IsIn}
use Rattle.std.proofs.lemmas.List.{append-nil, map-append}
use Rattle.std.proofs.lemmas.List.Elements.{filter-append}
use Rattle.cast_message.specs.declared.site.SiteFrame.TheVariants as frame

-- how a view ended: the longest order that a site had of it, how many places of that each site knew, and the ABCASTs that had a place at no
-- site
pub record End : Type 0 where
  pub whole : List Entry
  pub start : ℕ
  pub added : List Entry

-- of each view; it is a ghost
abbrev pub Ends : Type 0
Ends = GroupNo → ℕ → End

abbrev pub end_ids : CountList → End → List Entry
end_ids cut e = filter (is_within cut) (drop e.start e.whole) ++ e.added

abbrev pub end_tail : CountList → End → Tail
end_tail cut e = record { start = e.start; ids = end_ids cut e }

-- the order of the view with this end
abbrev pub final : CountList → End → List Entry
final cut e = closed_order (is_within cut) e.start (end_ids cut e) e.whole

-- a site has stopped in a view
pub record Stopped (group : MemberSide) (view : ℕ) : Type 0 where
  pub reached : view ≤ group.number
  pub frozen : group.number ≡ view → group.frozen ≡ true

abbrev pub IsAbcast : Sites → GroupNo → ℕ → Entry → Type 0
IsAbcast at g view e = (m : Message) × WasSent at m × (m.id ≡ uid_in g view e) × (is_atomic (kind_of m.body) ≡ true)

-- an order is what who has the token of the view had delivered, at a site
pub record ByHolder (choice : Choice) (at : Sites) (order : Orders) (handed : HandOvers) (s : SiteNo) (g : GroupNo) (view : ℕ)
    (whole : List Entry) : Type 0 where
  pub holder : Proc
  pub chosen : token_at choice handed g view ≡ Some holder
  pub there : holder.site ≡ s
  pub all : IsPrefix (order g view) whole
  pub done : IsPrefix whole (done_in g view ((at s).abcasts holder.serial))

abbrev pub Sided : Choice → Sites → Orders → HandOvers → SiteNo → GroupNo → ℕ → List Entry → Type 0
Sided choice at order handed s g view whole = IsPrefix whole (order g view) ⊎ ByHolder choice at order handed s g view whole

-- a site stopped in a view with this order of it
pub record HasSaid (choice : Choice) (at : Sites) (order : Orders) (handed : HandOvers) (safe : Safe) (s : SiteNo) (g : GroupNo) (view : ℕ)
    (whole : List Entry) : Type 0 where
  pub stopped : Stopped ((at s).group g) view
  pub side : Sided choice at order handed s g view whole
  pub below : length whole ≤ safe g view + MAX_UNSETTLED
  pub few : length whole ≤ MAX_POSITION
  pub apart : Apart whole
  pub kinds : (e : Entry) → Contains whole e → IsAbcast at g view e
  pub begins : (k : ℕ) → ((at s).process k).standing g ≡ Member → ((at s).group g).number ≡ view → is_pending ((at s).group g) ≡ false →
      IsPrefix (done_in g view ((at s).abcasts k)) whole

-- and said so, and which ABCASTs without a place it had
abbrev pub HasReported : Choice → Sites → Orders → HandOvers → Safe → SiteNo → GroupNo → ℕ → Tail → KeptList → Type 0
HasReported choice at order handed safe s g view tail kept =
    (whole : List Entry)
    × HasSaid choice at order handed safe s g view whole
    × (tail ≡ tail_of whole)
    × ((e : Entry) → Contains kept (e, true) → IsAbcast at g view e)

-- a view ended with an order that some site had said, and who passes to the next one is at a site that had said a prefix of it
pub record EndHolds (choice : Choice) (at : Sites) (order : Orders) (handed : HandOvers) (safe : Safe) (g : GroupNo) (view : ℕ)
    (e : End) : Type 0 where
  pub low : e.start ≤ length e.whole
  pub known : e.start ≤ safe g view
  pub apart : Apart e.whole
  pub side : IsPrefix e.whole (order g view)
      ⊎ ((s : SiteNo) × Stopped ((at s).group g) view × ByHolder choice at order handed s g view e.whole)
  pub kinds : (x : Entry) → Contains e.whole x ⊎ Contains e.added x → IsAbcast at g view x
  pub covered : (q : Proc) → IsChosen choice g view q → IsChosen choice g (view + 1) q →
      (whole : List Entry) × HasSaid choice at order handed safe q.site g view whole × IsPrefix whole e.whole

-- after these acts a process enters the next view with a prefix of the order that this one ended with
abbrev pub CloseWell : Choice → Ends → List Act → Act → Type 0
CloseWell choice ends acts (Sent m) = Unit {0}
CloseWell choice ends acts (Delivered m) = Unit {0}
CloseWell choice ends acts (Entered g n cut) =
    (view : ℕ) → IsIn acts g view → n ≡ view + 1 →
    IsPrefix (done_in g view (abcasts_by acts)) (firsts (final (choice g (view + 1)).cut (ends g view)))
CloseWell choice ends acts (Left g) = Unit {0}

-- a report says what its site has, and an Install how the view before it ended
abbrev pub IsClosing : Choice → Sites → Orders → HandOvers → Safe → Ends → SiteNo → SiteFrame → Type 0
IsClosing choice at order handed safe ends from (frame.Data m) = Unit {0}
IsClosing choice at order handed safe ends from (frame.Ack u) = Unit {0}
IsClosing choice at order handed safe ends from (frame.Stable u) = Unit {0}
IsClosing choice at order handed safe ends from (frame.Ask g number what p) = Unit {0}
IsClosing choice at order handed safe ends from (frame.Asked g number full) = Unit {0}
IsClosing choice at order handed safe ends from (frame.Prepare g view) = Unit {0}
IsClosing choice at order handed safe ends from (frame.Flushed g view counts tail kept) =
    HasReported choice at order handed safe from g view tail kept
IsClosing choice at order handed safe ends from (frame.Want u) = Unit {0}
IsClosing choice at order handed safe ends from (frame.Forward m) = Unit {0}
IsClosing choice at order handed safe ends from (frame.Install g n members request cut tail) =
    (view : ℕ) → n ≡ view + 1 → tail ≡ end_tail (choice g (view + 1)).cut (ends g view)
IsClosing choice at order handed safe ends from (frame.Installed g view) = Unit {0}
IsClosing choice at order handed safe ends from (frame.Out g view) = Unit {0}

-- the parts of a site
pub record ClosingParts (choice : Choice) (at : Sites) (order : Orders) (handed : HandOvers) (safe : Safe) (ends : Ends) (s : SiteNo)
    (here : SiteNo) (process : ℕ → Process) (acts : ℕ → List Act) (abcasts : ℕ → List Uid)
    (group : GroupNo →
    MemberSide) (closed : GroupNo → List Entry) (home_of : GroupNo → Home) (frames : List (SiteNo × SiteFrame)) : Type 0 where
  -- an Install that waits has the order with the view's end, where a member of the view is here; and who is in the next view has delivered
  -- a prefix
  pub closes : (g : GroupNo) (p : Pending) (k : ℕ) → (group g).pending ≡ Some p → (process k).standing g ≡ Member →
      closed g ≡ final (choice g ((group g).number + 1)).cut (ends g (group g).number)
  pub begins : (g : GroupNo) (p : Pending) (k : ℕ) → (group g).pending ≡ Some p → (process k).standing g ≡ Member →
      Contains p.members.list (record { site = here; serial = k }) →
      IsPrefix (done_in g (group g).number (abcasts k)) (firsts (closed g))
  pub well : (k : ℕ) → Each (CloseWell choice ends) (acts k)
  pub reports : (g : GroupNo) (q : SiteNo) (r : Report) → Contains (reports_of (home_of g).phase) (q, r) →
      HasReported choice at order handed safe q g (home_of g).number r.tail r.kept
  pub decision : (g : GroupNo) (waiting : List SiteNo) (d : Decision) (bodies : List Message) (view : ℕ) →
      (home_of g).phase ≡ Installing waiting d bodies → (home_of g).number ≡ view + 1 →
      d.tail ≡ end_tail (choice g (view + 1)).cut (ends g view)
  pub sent : (to : SiteNo) (f : SiteFrame) → Contains frames (to, f) → IsClosing choice at order handed safe ends s f

abbrev pub SiteClosing : Choice → Sites → Orders → HandOvers → Safe → Ends → SiteNo → State → Type 0
SiteClosing choice at order handed safe ends s t =
    ClosingParts choice at order handed safe ends s t.here t.process t.acts t.abcasts t.group t.closed t.home t.frames

-- Later

done_more : (g : GroupNo) (v : ℕ) (us vs : List Uid) → IsPrefix us vs → IsPrefix (done_in g v us) (done_in g v vs)
done_more g v us vs p = (
  map entry_of (filter (is_in g v) p.0),
  sym (map-append entry_of (filter (is_in g v) us) (filter (is_in g v) p.0))
      ∙ ap (map entry_of) (sym (filter-append (is_in g v) us p.0) ∙ ap (filter (is_in g v)) p.1),
)

-- what a move of a site keeps: who has stopped goes on so, what was noted stays, and who has stopped delivers nothing
abbrev pub Stops : State → State → Type 0
Stops t u = (g : GroupNo) (v : ℕ) → Stopped (t.group g) v → Stopped (u.group g) v

abbrev pub Notes : State → State → Type 0
Notes t u = (k : ℕ) → IsPrefix (t.abcasts k) (u.abcasts k)

abbrev pub Calm : State → State → Type 0
Calm t u =
    (g : GroupNo) (v k : ℕ) → Stopped (t.group g) v → (u.process k).standing g ≡ Member → (u.group g).number ≡ v →
    is_pending (u.group g) ≡ false →
    ((t.process k).standing g ≡ Member)
    × ((t.group g).number ≡ v)
    × (is_pending (t.group g) ≡ false)
    × (done_in g v (u.abcasts k) ≡ done_in g v (t.abcasts k))

-- an order grows, and a token is handed over, only where who has the token is here and has not stopped
abbrev pub Grew : State → Choice → Orders → HandOvers → Orders → HandOvers → Type 0
Grew t choice order handed next given =
    (g : GroupNo) (v : ℕ) →
    ((next g v ≡ order g v) × (given g v ≡ handed g v))
    ⊎ ((k : ℕ) × (token_at choice handed g v ≡ Some (local t k)) × ((t.group g).number ≡ v) × ((t.group g).frozen ≡ false))

-- a move of one site, with what it may change of orders, of what is known and of what its processes delivered
module _ (home : SiteNo) (w : Network) (a : SiteNo) (t u : State) (later : Later t u) (now : Now home w a t) (choice more : Choice)
    (f : Flushing home w a t choice)
    (ext : Extends choice (numbers (sites_at home w a t) home) more (numbers (sites_at home w a u) home))
    (order next : Orders) (handed given : HandOvers) (safe wider : Safe) (up : (g : GroupNo) (v : ℕ) → safe g v ≤ wider g v)
    (grows : (g : GroupNo) (v : ℕ) → IsPrefix (order g v) (next g v))
    (grew : Grew t choice order handed next given) (stops : Stops t u) (notes : Notes t u) (calm : Calm t u) where
  abbrev at : State → Sites
  at s = sites_at home w a s

  pub stopped_later : (s : SiteNo) (g : GroupNo) (v : ℕ) → Stopped ((at t s).group g) v → Stopped ((at u s).group g) v
  stopped_later s g v = go (site_eq a s)
    where
      go : (b : Bool) → Stopped ((if b then t else w.at s).group g) v → Stopped ((if b then u else w.at s).group g) v
      go true x = stops g v x
      go false x = x

  noted_later : (s : SiteNo) (k : ℕ) → IsPrefix ((at t s).abcasts k) ((at u s).abcasts k)
  noted_later s k = go (site_eq a s)
    where
      go : (b : Bool) → IsPrefix ((if b then t else w.at s).abcasts k) ((if b then u else w.at s).abcasts k)
      go true = notes k
      go false = ([], append-nil ((w.at s).abcasts k))

  pub abcast_later : (g : GroupNo) (v : ℕ) (e : Entry) → IsAbcast (at t) g v e → IsAbcast (at u) g v e
  abcast_later g v e m = (m.0, sent_later home choice more (at t) (at u) ext (ahead_at home w a t u later) m.0 m.1, m.2, m.3)

  -- where who has the token of a view has stopped, its order grows no more, and the token is not handed over
  pub holder_later : (s : SiteNo) (g : GroupNo) (v : ℕ) (whole : List Entry) → v ≤ numbers (at t) home g → Stopped ((at t s).group g) v →
      ByHolder choice (at t) order handed s g v whole → ByHolder more (at u) next given s g v whole
  holder_later s g v whole le stopped b = elim (grew g v) [
    | inl same ↦ record {
      holder = b.holder;
      chosen =
          (λ i. elim (same.1 i) as (λ x. Option Proc) [ Some m ↦ new_holder m.body | None ↦ ((ext g).1 v le i).members.holder ]) ∙ b.chosen;
      there = b.there;
      all = subst (λ l. IsPrefix l whole) (sym same.0) b.all;
      done = prefix_trans whole (done_in g v ((at t s).abcasts b.holder.serial)) (done_in g v ((at u s).abcasts b.holder.serial))
          b.done (done_more g v ((at t s).abcasts b.holder.serial) ((at u s).abcasts b.holder.serial) (noted_later s b.holder.serial));
    }
    | inr grown ↦ absurd (
        let holder : b.holder ≡ local t grown.0 = ap (λ o. unwrap_or o b.holder) (sym b.chosen ∙ grown.1) in
        let here : s ≡ a = sym b.there ∙ ap (λ (p : Proc). p.site) holder ∙ (own_holds home w a t now).here_is in
        let own : Stopped (t.group g) v = subst (λ (z : State). Stopped (z.group g) v) (ap (at t) here ∙ own_is home w a t) stopped in
        true≢false (sym (own.frozen grown.2) ∙ grown.3))
  ]

  pub said_later : (s : SiteNo) (g : GroupNo) (v : ℕ) (whole : List Entry) → v ≤ numbers (at t) home g →
      HasSaid choice (at t) order handed safe s g v whole → HasSaid more (at u) next given wider s g v whole
  said_later s g v whole le x = record {
    stopped = stopped_later s g v x.stopped;
    side = elim x.side [
      | inl p ↦ inl (prefix_trans whole (order g v) (next g v) p (grows g v))
      | inr b ↦ inr (holder_later s g v whole le x.stopped b)
    ];
    below = (let low = x.below in let high = up g v in omega (arith, low, high));
    few = x.few;
    apart = x.apart;
    kinds = λ e c. abcast_later g v e (x.kinds e c);
    begins = λ k. begins k (site_eq a s) x.stopped (x.begins k);
  }
    where
      begins : (k : ℕ) (b : Bool) → Stopped ((if b then t else w.at s).group g) v →
          (((if b then t else w.at s).process k).standing g ≡ Member → ((if b then t else w.at s).group g).number ≡ v →
          is_pending ((if b then t else w.at s).group g) ≡ false → IsPrefix (done_in g v ((if b then t else w.at s).abcasts k)) whole) →
          ((if b then u else w.at s).process k).standing g ≡ Member → ((if b then u else w.at s).group g).number ≡ v →
          is_pending ((if b then u else w.at s).group g) ≡ false → IsPrefix (done_in g v ((if b then u else w.at s).abcasts k)) whole
      begins k true stopped old member current waits =
          let c = calm g v k stopped member current waits in subst (λ l. IsPrefix l whole) (sym c.3) (old c.0 c.1 c.2)
      begins k false stopped old member current waits = old member current waits

  pub reported_later : (s : SiteNo) (g : GroupNo) (v : ℕ) (tail : Tail) (kept : KeptList) → v ≤ numbers (at t) home g →
      HasReported choice (at t) order handed safe s g v tail kept → HasReported more (at u) next given wider s g v tail kept
  reported_later s g v tail kept le x = (x.0, said_later s g v x.0 le x.1, x.2, λ e c. abcast_later g v e (x.3 e c))

  pub end_later : (g : GroupNo) (v : ℕ) (e : End) → v + 1 ≤ numbers (at t) home g → EndHolds choice (at t) order handed safe g v e →
      EndHolds more (at u) next given wider g v e
  end_later g v e le x = record {
    low = x.low;
    known = (let low = x.known in let high = up g v in omega (arith, low, high));
    apart = x.apart;
    side = elim x.side [
      | inl p ↦ inl (prefix_trans e.whole (order g v) (next g v) p (grows g v))
      | inr b ↦ inr (b.0, stopped_later b.0 g v b.1, holder_later b.0 g v e.whole (omega (arith, le)) b.1 b.2)
    ];
    kinds = λ z c. abcast_later g v z (x.kinds z c);
    covered = λ q one two.
        let said =
        x.covered q (subst (λ (c : Chosen). Contains c.members.list q) ((ext g).1 v (omega (arith, le))) one)
        (subst (λ (c : Chosen). Contains c.members.list q) ((ext g).1 (v + 1) le) two) in
        (said.0, said_later q.site g v said.0 (omega (arith, le)) said.1, said.2);
  }

  module _ (ends new : Ends) (same : (g : GroupNo) (v : ℕ) → v + 1 ≤ numbers (at t) home g → new g v ≡ ends g v) where
    final_same : (g : GroupNo) (v : ℕ) → v + 1 ≤ numbers (at t) home g →
        final (more g (v + 1)).cut (new g v) ≡ final (choice g (v + 1)).cut (ends g v)
    final_same g v le = λ i. final ((ext g).1 (v + 1) le i).cut (same g v le i)

    tail_same : (g : GroupNo) (v : ℕ) → v + 1 ≤ numbers (at t) home g →
        end_tail (more g (v + 1)).cut (new g v) ≡ end_tail (choice g (v + 1)).cut (ends g v)
    tail_same g v le = λ i. end_tail ((ext g).1 (v + 1) le i).cut (same g v le i)

    pub closing_later : (from to : SiteNo) (fr : SiteFrame) → IsSound (at t) home from to fr →
        IsClosing choice (at t) order handed safe ends from fr → IsClosing more (at u) next given wider new from fr
    closing_later from to (frame.Data m) sound x = tt
    closing_later from to (frame.Ack z) sound x = tt
    closing_later from to (frame.Stable z) sound x = tt
    closing_later from to (frame.Ask g n what p) sound x = tt
    closing_later from to (frame.Asked g n full) sound x = tt
    closing_later from to (frame.Prepare g view) sound x = tt
    closing_later from to (frame.Flushed g view counts tail kept) sound x =
        reported_later from g view tail kept
        (let low = x.1.stopped.reached in let high = ((now.0 from).groups g).number in omega (arith, low, high)) x
    closing_later from to (frame.Want z) sound x = tt
    closing_later from to (frame.Forward m) sound x = tt
    closing_later from to (frame.Install g n members request cut tail) sound x =
        λ view is. x view is ∙ sym (tail_same g view (let low = sound.0 in omega (arith, low, is)))
    closing_later from to (frame.Installed g view) sound x = tt
    closing_later from to (frame.Out g view) sound x = tt

    well_later : (acts : List Act) (y : Act) → ((g : GroupNo) (n : ℕ) (cut : CountList) → y ≡ Entered g n cut → n ≤ numbers (at t) home g) →
        CloseWell choice ends acts y → CloseWell more new acts y
    well_later acts (Sent m) entered x = tt
    well_later acts (Delivered m) entered x = tt
    well_later acts (Entered g n cut) entered x = λ view is_in_it is.
        subst (λ l. IsPrefix (done_in g view (abcasts_by acts)) (firsts l))
        (sym (final_same g view (let le = entered g n cut refl in omega (arith, le, is)))) (x view is_in_it is)
    well_later acts (Left g) entered x = tt

    pub site_closing_later : (s : SiteNo) (st : State) → SiteHolds (at t) home s st → SiteAgrees choice (numbers (at t) home) (at t) s st →
        SiteClosing choice (at t) order handed safe ends s st → SiteClosing more (at u) next given wider new s st
    site_closing_later s st holds agrees x = record {
      closes = λ g p k e member. x.closes g p k e member ∙ sym (final_same g (st.group g).number ((holds.groups g).pending p e).0);
      begins = x.begins;
      well = λ k b c y e. well_later b y (λ g n cut is.
          ((agrees.ones k).entered g n cut (subst (Contains (st.acts k)) is (subst (λ l. Contains l y) (sym e) (contains_here b c y)))).0)
          (x.well k b c y e);
      reports = λ g q r c. reported_later q g (st.home g).number r.tail r.kept (holds.homes g).number (x.reports g q r c);
      decision = λ g waiting d bodies view e is. x.decision g waiting d bodies view e is
          ∙ sym (tail_same g view (let le = (holds.homes g).number in omega (arith, le, is)));
      sent = λ to fr c. closing_later s to fr (holds.sent to fr c) (x.sent to fr c);
    }
