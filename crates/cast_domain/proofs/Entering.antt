-- Processes enter a view one by one, and in the history at once.
use Rattle.std.proofs.Common.{◌≡◌, ℕ, ◌<◌, ◌++◌, Bool, true, false, ◌&&◌, ◌||◌, List, [], ◌∷◌}
use Rattle.std.proofs.Common.{Option, Some, None, ◌⊎◌, refl, sym, ap, subst, ◌∙◌, inl, inr, arith}
use Rattle.std.specs.Prelude.{◌==◌, if◌then◌else◌, slice_get}
use Rattle.std.specs.List.{fold, list_all}
use Rattle.std.specs.Option.{IsSome, option_map_or}
use Rattle.std.specs.Ordering.{is_lt}
use Rattle.std.proofs.lemmas.Bool.{cases_Bool, cases_eq, false≢true, false_from_ne_true, and_parts}
use Rattle.std.proofs.lemmas.Bool.{and_from, or_cases, or_from, or_left, or_right, eqb-true, eq-eqb, ne_eqb}
use Rattle.std.proofs.lemmas.Cmp.{tied_itself}
use Rattle.cast_types.specs.declared.names.GroupNo.{GroupNo}
use Rattle.cast_types.specs.declared.names.Proc.{Proc}
use Rattle.cast_types.specs.declared.names.Standing.{Standing}
use Rattle.cast_types.specs.declared.names.Standing.TheVariants.{Outside, Joining, Member}
use Rattle.cast_types.specs.Names.{site_eq, group_eq, proc_eq, proc_cmp}
use Rattle.cast_types.specs.Sets.{is_among, set_at}
use Rattle.cast_types.proofs.Orders.{proc_total, group_itself, same_group, same_site, same_proc, site_itself, proc_itself}
use Rattle.cast_types.specs.declared.clock.Clock.{Clock}
use Rattle.cast_types.specs.Stamps.{ClockList}
use Rattle.cast_clock.specs.Times.{count_in, entering}
use Rattle.cast_clock.proofs.Raised.{enter_leaves}
use Rattle.cast_types.specs.Counts.{CountList, count_of}
use Rattle.cast_message.specs.Membership.{Membership, is_members}
use Rattle.cast_types.specs.Rising.{is_rising}
use Rattle.cast_ready.specs.declared.row.Row.{Row}
use Rattle.cast_ready.specs.declared.row.ProcessUpdate.TheVariants as fact
use Rattle.cast_ready.specs.Ready.{Process, is_outside}
use Rattle.cast_ready.specs.Rows.{standing_in, told_row}
use Rattle.cast_delay.specs.Queue.{row_of}
use Rattle.cast_domain.specs.declared.record.GroupRecord.{GroupRecord}
use Rattle.cast_order.specs.Log.{Log, log_of, but_log}
use Rattle.cast_view.specs.MemberSide.{is_pending, with_view, is_taken_in, holder_at}
use Rattle.cast_rules.specs.Acts.{Act}
use Rattle.cast_rules.specs.State.{State, local, is_group, set_process, set_group, set_standing}
use Rattle.cast_rules.specs.Acts.Act.{Entered}
use Rattle.cast_rules.specs.Entering.{enters, in_view, completing, all_in_view}
use Rattle.cast_domain.specs.Records.{Records}
use Rattle.cast_domain.specs.PartCalls.{record_at, standing_of, tell_in}
use Rattle.cast_domain.specs.ViewCalls.{holding_from, enter_in, take_in, view_in, begin_view_in}
use Rattle.cast_rules.specs.Lawful.{IsLawful}
use Rattle.cast_domain.specs.Fits.{Fits}
use Rattle.cast_domain.proofs.Logs.{IsFresh, held_log, held_fresh, log_of_held}
use Rattle.cast_domain.proofs.Acting.{quiet_if, quiet_entered, logs_quiet}
use Rattle.cast_domain.proofs.Standing.{CountsStill, fits_if, record_there, standing_there, time_there}
use Rattle.cast_domain.proofs.GroupChanges.{fits_view}
use Rattle.cast_domain.proofs.ProcessChanges.{fits_told, fits_member, still_in, fits_acts}
use Rattle.cast_types.proofs.Bools.{and_none}

-- Small truths of tests

pub or_none : (a : Bool) → (a || false) ≡ a
or_none true = refl
or_none false = refl

pub and_true : (a : Bool) → (a && true) ≡ a
and_true true = refl
and_true false = refl

-- picked out before, or now by one test or by the other
either_of : (a b c d : Bool) → ((a || (b && c)) || (b && d)) ≡ (a || (b && (c || d)))
either_of true b c d = refl
either_of false true c d = refl
either_of false false c d = refl

-- what is changed where one test picks it out, or else where another does
later_changed : {X : Type 0} (f : X → X) (x : X) (a b : Bool) → (b ≡ true → a ≡ false) →
    (if b then f (if a then f x else x) else (if a then f x else x)) ≡ (if a || b then f x else x)
later_changed f x true true apart = absurd (false≢true (sym (apart refl)))
later_changed f x true false apart = refl
later_changed f x false true apart = refl
later_changed f x false false apart = refl

-- Processes that change

module _ (f : Process → Process) (t : State) where
  -- the processes that a test picks out changed
  abbrev pub changed : (ℕ → Bool) → State
  changed e = record t { process = λ k. if e k then f (t.process k) else t.process k }

  -- one more process changes
  pub changed_one : (e : ℕ → Bool) (k : ℕ) → e k ≡ false →
      record (changed e) { process = λ j. if k == j then f ((changed e).process j) else (changed e).process j }
      ≡ changed (λ j. e j || (k == j))
  changed_one e k fresh = λ i. record t {
    process = λ j. later_changed f (t.process j) (e j) (k == j) (λ same. sym (ap e (eqb-true k j same)) ∙ fresh) i;
  }

-- Facts of a process that has a row

-- who is taken in is in the group or joins it
taken_inside : (request : ℕ) (v : Standing) → is_taken_in request v ≡ true → is_outside v ≡ false
taken_inside request Outside is = absurd (false≢true is)
taken_inside request (Joining number heard) is = refl
taken_inside request Member is = refl

-- of a process without a row the queue says that it is in no group
pub has_row : (o : Option Row) (g : GroupNo) → is_outside (option_map_or (λ row. standing_in row g) o Outside) ≡ false → IsSome o
has_row None g inside = absurd (false≢true (sym inside))
has_row (Some row) g inside = refl

-- nothing is below itself
below_none : (p : Proc) (ps : List Proc) → list_all (λ q. is_lt (proc_cmp p q)) ps ≡ true → is_among proc_eq p ps ≡ true → ⊥
below_none p [] below among = false≢true among
below_none p (q ∷ ps) below among =
    let parts = and_parts (is_lt (proc_cmp p q)) (list_all (λ x. is_lt (proc_cmp p x)) ps) below in
    elim (or_cases (proc_eq p q) (is_among proc_eq p ps) among) [
      | inl same ↦
          false≢true
          (sym (ap is_lt (tied_itself proc_total p)) ∙ subst (λ x. is_lt (proc_cmp p x) ≡ true) (sym (same_proc p q same)) parts.0)
      | inr later ↦ below_none p ps parts.1 later
    ]

module _ (g : GroupNo) (n : ℕ) (members : Membership) (request : ℕ) (t : State) where
  -- the processes that a test picks out entered the view
  abbrev entered : (ℕ → Bool) → State
  entered e = changed (in_view g n) t e

  abbrev taken : ℕ → Bool
  taken k = is_taken_in request ((t.process k).standing g)

  abbrev take : Records → Proc → Records
  take r p = take_in g n request r p

  -- one process enters, by two facts
  viewed : (s : State) (k : ℕ) → set_standing (set_process s k (record (s.process k) { time = entering (s.process k).time g n }))
      k g Member ≡ record s { process = λ j. if k == j then in_view g n (s.process j) else s.process j }
  viewed s k = λ i. record s { process = λ j. at j i }
    where
      at : (j : ℕ) → (set_standing (set_process s k (record (s.process k) { time = entering (s.process k).time g n })) k g Member).process j
          ≡ (if k == j then in_view g n (s.process j) else s.process j)
      at j =
          let timed : Process = record (s.process k) { time = entering (s.process k).time g n } in
          let now : Bool → Process = λ b. if b then timed else s.process k in
          elim (k == j) as (λ b. (k == j) ≡ b →
          (if b then record (now (k == k)) { standing = set_at group_eq (now (k == k)).standing g Member }
          else (if b then timed else s.process j)) ≡ (if b then in_view g n (s.process j) else s.process j)) [
            | true ↦ λ same.
                ap (λ b. record (now b) { standing = set_at group_eq (now b).standing g Member }) (eq-eqb k k refl)
                ∙ ap (λ x. in_view g n (s.process x)) (eqb-true k j same)
            | false ↦ λ _. refl
          ] refl

  -- one more process enters
  enter_one : (e : ℕ → Bool) (k : ℕ) → e k ≡ false →
      set_standing (set_process (entered e) k (record ((entered e).process k) { time = entering ((entered e).process k).time g n }))
      k g Member ≡ entered (λ j. e j || (k == j))
  enter_one e k fresh = viewed (entered e) k ∙ changed_one (in_view g n) t e k fresh

  -- a process that did not enter yet has the standing that it had
  standing_now : (r : Records) (e : ℕ → Bool) → Fits r (entered e) → (k : ℕ) → e k ≡ false →
      standing_of r.delay (local t k) g ≡ (t.process k).standing g
  standing_now r e f k fresh =
      standing_there r (entered e) f k g ∙ ap (λ b. (if b then in_view g n (t.process k) else t.process k).standing g) fresh

  -- what is kept of orders stays
  take_orders : (r : Records) (p : Proc) → (take r p).orders ≡ r.orders
  take_orders r p =
      elim (site_eq p.site r.site && is_taken_in request (standing_of r.delay p g))
      as (λ b. (if b then enter_in g n r p else r).orders ≡ r.orders) [
        | true ↦ refl
        | false ↦ refl
      ]

  -- nothing is kept of the group's order yet, and no Install waits
  abbrev IsNew : Records → Type 0
  IsNew r = IsFresh (log_of r.orders g) × (is_pending (t.group g) ≡ false)

  -- a process that enters counts as before in the other groups
  entering_counts : (orders : List Log) (time : ClockList) (p : Proc) → IsFresh (log_of orders g) →
      CountsStill orders p time (entering time g n)
  entering_counts orders time p none h some = elim (cases_Bool (group_eq h g)) [
    | inl here ↦
        let empty : (log_of orders h).base ≡ 0 = ap (λ x. (log_of orders x).base) (same_group h g here) ∙ none.0 in
        absurd (omega (arith, some, empty))
    | inr other ↦
        let same : count_in (entering time g n) h p ≡ count_in time h p =
        ap (λ (c : Clock). count_of c.counts p)
        (enter_leaves time g h n (λ e. false≢true (sym other ∙ subst (λ x. group_eq h x ≡ true) e (group_itself h)))) in
        omega (arith, same)
  ]

  -- among the records: a process enters
  fits_enter : (r : Records) (e : ℕ → Bool) → Fits r (entered e) → IsNew r → is_group t g ≡ true → (k : ℕ) → e k ≡ false → taken k ≡ true →
      Fits (enter_in g n r (local t k)) (entered (λ j. e j || (k == j)))
  fits_enter r e f new listed k fresh in_it =
      let u : State = entered e in
      let p : Proc = local t k in
      let time = entering (u.process k).time g n in
      let row : IsSome (row_of r.delay.rows p) =
      has_row (row_of r.delay.rows p)
      g (ap is_outside (standing_now r e f k fresh) ∙ taken_inside request ((t.process k).standing g) in_it) in
      let r1 : Records = tell_in r p (fact.Time time) in
      let u1 : State = set_process u k (record (u.process k) { time = time }) in
      let f1 : Fits r1 u1 = fits_told r u f k row (fact.Time time) tt tt (entering_counts r.orders (u.process k).time p new.0) in
      let r2 : Records = tell_in r1 p (fact.Standing g Member) in
      let u2 : State = set_standing u1 k g Member in
      let f2 : Fits r2 u2 =
      fits_member r1 u1 f1 k (still_in p (told_row (fact.Time time)) (λ _. refl) p r.delay.rows row) g listed new.1 new.0.1 in
      subst (λ x. Fits (tell_in (tell_in r p (fact.Time (entering x g n))) p (fact.Standing g Member)) (entered (λ j. e j || (k == j))))
      (sym (time_there r u f k row))
      (subst (Fits r2) (enter_one e k fresh) f2)

  -- a process of this site is taken in or not
  fits_take_here : (r : Records) (e : ℕ → Bool) → Fits r (entered e) → IsNew r → is_group t g ≡ true → (k : ℕ) → e k ≡ false →
      Fits (take r (local t k)) (entered (λ j. e j || (taken k && (k == j))))
  fits_take_here r e f new listed k fresh =
      let p : Proc = local t k in
      let here : site_eq t.here r.site ≡ true = ap (λ x. site_eq t.here x) (ap (λ c. c.site) f.core) ∙ site_itself t.here in
      let same : (site_eq t.here r.site && is_taken_in request (standing_of r.delay p g)) ≡ taken k =
      ap (λ b. b && is_taken_in request (standing_of r.delay p g)) here ∙ ap (is_taken_in request) (standing_now r e f k fresh) in
      let more : State = entered (λ j. e j || (k == j)) in
      let known : (if taken k then more else entered e) ≡ entered (λ j. e j || (taken k && (k == j))) =
      elim (taken k) as (λ b. (if b then more else entered e) ≡ entered (λ j. e j || (b && (k == j)))) [
        | true ↦ refl
        | false ↦
            λ i. entered (λ j. sym (or_none (e j)) i)
      ] in
      subst (λ x. Fits (take r p) x) known
      (fits_if (site_eq t.here r.site && is_taken_in request (standing_of r.delay p g)) (taken k) (enter_in g n r p) r more (entered e) same
      (λ is. fits_enter r e f new listed k fresh (sym same ∙ is))
      (λ _. f))

  -- one of any site
  fits_take : (r : Records) (e : ℕ → Bool) → Fits r (entered e) → IsNew r → is_group t g ≡ true → (p : Proc) →
      ((k : ℕ) → proc_eq (local t k) p ≡ true → e k ≡ false) → Fits (take r p) (entered (λ j. e j || (taken j && proc_eq (local t j) p)))
  fits_take r e f new listed p fresh = elim (cases_Bool (site_eq p.site t.here)) [
    | inl here ↦
        let q : local t p.serial ≡ p = (λ i. record { site = sym (same_site p.site t.here here) i; serial = p.serial }) in
        let own : proc_eq (local t p.serial) p ≡ true =
        subst (λ x. proc_eq (local t p.serial) x ≡ true) q (proc_itself (local t p.serial)) in
        subst (λ x. Fits (take r x) (entered (λ j. e j || (taken j && proc_eq (local t j) x)))) q
        (subst (λ x. Fits (take r (local t p.serial)) (entered x)) (λ i j. e j || one p.serial j (cases_eq p.serial j) i)
        (fits_take_here r e f new listed p.serial (fresh p.serial own)))
    | inr other ↦
        subst (λ b. Fits (if b && is_taken_in request (standing_of r.delay p g) then enter_in g n r p else r)
        (entered (λ j. e j || (taken j && proc_eq (local t j) p)))) (sym (ap (λ x. site_eq p.site x) (ap (λ c. c.site) f.core) ∙ other))
        (subst (λ x. Fits r (entered x)) (λ i j. none other j i) f)
  ]
    where
      one : (k j : ℕ) → (k ≡ j) ⊎ (k ≡ j → ⊥) → (taken k && (k == j)) ≡ (taken j && proc_eq (local t j) (local t k))
      one k j (inl same) =
          ap (λ b. taken k && b) (eq-eqb k j same)
          ∙ ap (λ x. taken x && true) same
          ∙ ap (λ b. taken j && b) (sym (and_from (site_eq t.here t.here) (j == k) (site_itself t.here) (eq-eqb j k (sym same))))
      one k j (inr differ) =
          ap (λ b. taken k && b) (ne_eqb k j differ)
          ∙ and_none (taken k)
          ∙ sym (ap (λ b. taken j && (site_eq t.here t.here && b)) (ne_eqb j k (λ same. differ (sym same)))
          ∙ ap (λ b. taken j && b) (and_none (site_eq t.here t.here))
          ∙ and_none (taken j))

      none : site_eq p.site t.here ≡ false → (j : ℕ) → e j ≡ (e j || (taken j && proc_eq (local t j) p))
      none other j =
          let apart : site_eq t.here p.site ≡ false =
          false_from_ne_true (site_eq t.here p.site)
          (λ same. false≢true (sym other ∙ subst (λ x. site_eq x t.here ≡ true) (same_site t.here p.site same) (site_itself t.here))) in
          sym (ap (λ b. e j || (taken j && (b && (j == p.serial)))) apart ∙ ap (λ b. e j || b) (and_none (taken j)) ∙ or_none (e j))

  -- all that a view names
  fits_take_all : (ps : List Proc) (r : Records) (e : ℕ → Bool) → Fits r (entered e) → IsNew r → is_group t g ≡ true →
      is_rising proc_cmp ps ≡ true → ((k : ℕ) → is_among proc_eq (local t k) ps ≡ true → e k ≡ false) →
      Fits (fold take r ps) (entered (λ k. e k || (taken k && is_among proc_eq (local t k) ps)))
  fits_take_all [] r e f new listed rising fresh =
      subst (λ x. Fits r (entered x)) (λ i j. sym (ap (λ b. e j || b) (and_none (taken j)) ∙ or_none (e j)) i) f
  fits_take_all (p ∷ ps) r e f new listed rising fresh =
      let parts = and_parts (list_all (λ q. is_lt (proc_cmp p q)) ps) (is_rising proc_cmp ps) rising in
      let next : ℕ → Bool = λ k. e k || (taken k && proc_eq (local t k) p) in
      let step : Fits (take r p) (entered next) =
      fits_take r e f new listed p (λ k own. fresh k (or_left (proc_eq (local t k) p) (is_among proc_eq (local t k) ps) own)) in
      let apart : (k : ℕ) → is_among proc_eq (local t k) ps ≡ true → proc_eq (local t k) p ≡ false =
      (λ k later. false_from_ne_true (proc_eq (local t k) p)
      (λ own. below_none p ps parts.0 (subst (λ x. is_among proc_eq x ps ≡ true) (same_proc (local t k) p own) later))) in
      subst (λ x. Fits (fold take (take r p) ps) (entered x))
      (λ i k. either_of (e k) (taken k) (proc_eq (local t k) p) (is_among proc_eq (local t k) ps) i)
      (fits_take_all ps (take r p) next step (subst (λ os. IsFresh (log_of os g)) (sym (take_orders r p)) new.0, new.1) listed parts.1
      (λ k later.
      or_from (e k) (taken k && proc_eq (local t k) p) (fresh k (or_right (proc_eq (local t k) p) (is_among proc_eq (local t k) ps) later))
      (ap (λ b. taken k && b) (apart k later) ∙ and_none (taken k))))

-- a view is complete
pub fits_complete : (r : Records) (s : State) → Fits r s → IsLawful s → (i : ℕ) (g : GroupNo) → slice_get s.config.groups i ≡ Some g →
    is_group s g ≡ true → (n : ℕ) (members : Membership) (request : ℕ) (cut : CountList) → is_members members ≡ true →
    (s.group g).number < n → Fits (begin_view_in r i n members request) (completing s g n members request cut)
fits_complete r s f l i g at listed n members request cut typed newer =
    let viewed : State = set_group s g (with_view s.here n members (s.group g)) in
    let acts : ℕ → List Act = (all_in_view viewed g n members request cut).acts in
    let now : State = record viewed { acts = acts } in
    let first : Records = view_in r i n members in
    let seen : Fits first viewed = fits_view r s f l i g at n members newer in
    let f0 : Fits first now = fits_acts first viewed seen acts first.orders
    (logs_quiet viewed acts first.orders
    (λ k. quiet_if (enters viewed g members request k) (s.acts k) (s.acts k ++ Entered g n cut ∷ []) (quiet_entered g n cut (s.acts k)))
    seen.orders) in
    let rising = (and_parts (is_rising proc_cmp members.list) _ typed).0 in
    let name : (record_at r.groups i).name ≡ g = ap (λ (x : GroupRecord). x.name) (record_there r s f i g at) in
    let o : Option Proc = holder_at r.site (with_view r.site n members (record_at r.groups i).here) in
    let new : IsFresh (log_of first.orders g) =
    subst (λ h. IsFresh (log_of (holding_from h o (but_log h r.orders)) g)) (sym name)
    (subst IsFresh (sym (log_of_held r.orders g g o ∙ ap (λ b. if b then held_log g o else log_of r.orders g) (group_itself g)))
    (held_fresh g o)) in
    let unclosed : is_pending (now.group g) ≡ false =
    ap (λ b. is_pending (if b then with_view s.here n members (s.group g) else s.group g)) (group_itself g) in
    let all = fits_take_all g n members request now members.list first (λ k. false) f0 (new, unclosed) listed rising (λ k _. refl) in
    subst (λ h. Fits (fold (take_in h n request) first members.list) (completing s g n members request cut)) (sym name) all
