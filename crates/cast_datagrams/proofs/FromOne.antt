-- What it is for numbers to count from 1: those of sites, groups, serials, views and messages, in frames and in lists.
-- Lists that are made of such lists are such lists: times that are raised and joined, orders, reports and what is decided of them.
use Rattle.std.proofs.Common.{Equal, Greater, Less, Ordering, ap, arith, inl, inr, subst, sym, ◌∙◌}
use Rattle.std.proofs.lemmas.Bool.{false≢true, ltb-true}
use Rattle.std.proofs.lemmas.List.Elements.{Contains-append_cases}
use Rattle.std.specs.FinMap.Entries.{find, put}
use Rattle.std.specs.List.{cons_option, enumerate_from, filter_map, flat_map, fold, range_with_len}
use Rattle.std.specs.Option.{option_map, option_map_or}
use Rattle.std.specs.Ordering.{eq_by_cmp}
use Rattle.std.specs.Prelude.{◌+◌, Bool, Contains, List, None, Option, Some, [], cond, drop, false, filter, if◌then◌else◌, is_some, length}
use Rattle.std.specs.Prelude.{map, max, nat_lt, not, refl, suc, take, true, unwrap_or, zero, ℕ, ◌∷◌, ◌≡◌, ◌≤◌, ◌⊎◌}
use Rattle.cast_clock.specs.Times.{clock_of, count_in, entering, first_clock, join, join_clocks, join_counts, view_of, with_bump}
use Rattle.cast_flush.specs.Decisions.{end_of, ids_from, longest, no_stretch, order_from, unplaced_entries}
use Rattle.cast_flush.specs.Reports.{Reports, all_kept, has_body, is_needed, keeper_of, needed_entries, want_of, wanting, wants_of}
use Rattle.cast_flush.specs.declared.report.Report.{Report}
use Rattle.cast_message.specs.KeptIds.{Marked}
use Rattle.cast_message.specs.Membership.{Membership}
use Rattle.cast_message.specs.Tail.{Tail}
use Rattle.cast_message.specs.declared.message.Body.{Body}
use Rattle.cast_message.specs.declared.message.Body.TheVariants as body
use Rattle.cast_message.specs.declared.message.Message.{Message}
use Rattle.cast_message.specs.declared.site.SiteFrame.{SiteFrame}
use Rattle.cast_message.specs.declared.site.SiteFrame.TheVariants as frame
use Rattle.cast_order.specs.Order.{tail_start}
use Rattle.cast_ready.specs.Ready.{covered_entries, first_of}
use Rattle.cast_rules.specs.Order.{abcasts_delivered, facts_in, holder_here, is_of_view, order_told, told_by, unlisted_ids}
use Rattle.cast_rules.specs.Reports.{is_unplaced, kept_in, kept_list, report_in, unlisted_here, whole_order}
use Rattle.cast_rules.specs.State.{State}
use Rattle.cast_types.proofs.Contains.{contains_here, contains_later}
use Rattle.cast_types.proofs.Orders.{group_exact, proc_exact}
use Rattle.cast_types.specs.Counts.{CountList, count_of, is_within}
use Rattle.cast_types.specs.Names.{Entry, entry_cmp, entry_eq, entry_of, group_cmp, proc_cmp}
use Rattle.cast_types.specs.Sets.{apart_from, at_order, is_among, set_of}
use Rattle.cast_types.specs.Stamps.{ClockList}
use Rattle.cast_types.specs.declared.clock.Clock.{Clock}
use Rattle.cast_types.specs.declared.limits.TheConstants.{MAX_KEPT, MAX_ORDER, MAX_PLACED}
use Rattle.cast_types.specs.declared.names.GroupNo.{GroupNo}
use Rattle.cast_types.specs.declared.names.Proc.{Proc}
use Rattle.cast_types.specs.declared.names.SiteNo.{SiteNo}
use Rattle.cast_types.specs.declared.names.Uid.{Uid}
use Rattle.cast_view.specs.MemberSide.{counts_by, members_of}
use Rattle.cast_world.proofs.Allowed.{passed, taken_of}
use Rattle.cast_world.proofs.Homes.{among_kept, set_had}
use Rattle.cast_world.proofs.Lists.{contains_split}
use Rattle.cast_world.proofs.Prefixes.{in_flat, known_places}
use Rattle.cast_world.proofs.Times.{by_views, unwrapped}
use Rattle.cast_datagrams.proofs.Lists.{came_of}

abbrev pub Each : {X : Type 0} → (X → Type 0) → List X → Type 0
Each {X} P xs = (x : X) → Contains xs x → P x

pub record ProcFromOne (p : Proc) : Type 0 where
  pub site : 1 ≤ p.site.0
  pub serial : 1 ≤ p.serial

pub record EntryFromOne (e : Entry) : Type 0 where
  pub proc : ProcFromOne e.0
  pub count : 1 ≤ e.1

pub record UidFromOne (u : Uid) : Type 0 where
  pub group : 1 ≤ u.group.0
  pub view : 1 ≤ u.view
  pub proc : ProcFromOne u.proc
  pub count : 1 ≤ u.count

pub record ClockFromOne (e : GroupNo × Clock) : Type 0 where
  pub group : 1 ≤ e.0.0
  pub view : 1 ≤ e.1.view
  pub counts : Each EntryFromOne e.1.counts

abbrev pub HolderFromOne : Option Proc → Type 0
HolderFromOne None = Unit {0}
HolderFromOne (Some p) = ProcFromOne p

abbrev pub BodyFromOne : Body → Type 0
BodyFromOne (body.Causal payload) = Unit {0}
BodyFromOne (body.Atomic payload) = Unit {0}
BodyFromOne (body.Order s) = Each EntryFromOne s.ids × HolderFromOne s.holder

pub record MessageFromOne (m : Message) : Type 0 where
  pub id : UidFromOne m.id
  pub times : Each ClockFromOne m.times
  pub body : BodyFromOne m.body

abbrev pub MarkedFromOne : Marked → Type 0
MarkedFromOne k = EntryFromOne k.0

pub record ReportFromOne (r : Report) : Type 0 where
  pub counts : Each EntryFromOne r.counts
  pub tail : Each EntryFromOne r.tail.ids
  pub kept : Each MarkedFromOne r.kept

pub record NumberFromOne (g : GroupNo) (n : ℕ) : Type 0 where
  pub group : 1 ≤ g.0
  pub number : 1 ≤ n

pub record AskFromOne (g : GroupNo) (n : ℕ) (p : Proc) : Type 0 where
  pub group : 1 ≤ g.0
  pub number : 1 ≤ n
  pub proc : ProcFromOne p

pub record FlushedFromOne (g : GroupNo) (view : ℕ) (r : Report) : Type 0 where
  pub group : 1 ≤ g.0
  pub number : 1 ≤ view
  pub report : ReportFromOne r

pub record InstallFromOne (g : GroupNo) (view : ℕ) (m : Membership) (c : CountList) (t : Tail) : Type 0 where
  pub group : 1 ≤ g.0
  pub number : 1 ≤ view
  pub members : Each ProcFromOne m.list
  pub cut : Each EntryFromOne c
  pub tail : Each EntryFromOne t.ids

-- the number of a request too, but not where an Install answers none
abbrev pub FrameFromOne : SiteFrame → Type 0
FrameFromOne (frame.Data m) = MessageFromOne m
FrameFromOne (frame.Ack u) = UidFromOne u
FrameFromOne (frame.Stable u) = UidFromOne u
FrameFromOne (frame.Ask g number change p) = AskFromOne g number p
FrameFromOne (frame.Asked g number full) = NumberFromOne g number
FrameFromOne (frame.Prepare g view) = NumberFromOne g view
FrameFromOne (frame.Flushed g view counts tail kept) = FlushedFromOne g view (record { counts = counts; tail = tail; kept = kept })
FrameFromOne (frame.Want u) = UidFromOne u
FrameFromOne (frame.Forward m) = MessageFromOne m
FrameFromOne (frame.Install g view members request cut tail) = InstallFromOne g view members cut tail
FrameFromOne (frame.Installed g view) = NumberFromOne g view
FrameFromOne (frame.Out g view) = NumberFromOne g view

-- Lists

-- what is in a map with one more entry is that entry, or was there
put_had : {K V : Type 0} (cmp : K → K → Ordering) → ((x y : K) → cmp x y ≡ Equal → x ≡ y) → (k : K) (v : V) (es : List (K × V))
    (y : K × V) → Contains (put cmp k v es) y → ((k, v) ≡ y) ⊎ Contains es y
put_had cmp exact k v [] y (zero, lt, is) = inl is
put_had cmp exact k v [] y (suc n, lt, is) = absurd (omega (arith, lt))
put_had {K} {V} cmp exact k v (x ∷ es) y at = go (cmp k x.0) refl at (put_had cmp exact k v es y)
  where
    go : (o : Ordering) → cmp k x.0 ≡ o → Contains (at_order o ((k, v) ∷ x ∷ es) ((x.0, v) ∷ es) (x ∷ put cmp k v es)) y →
        (Contains (put cmp k v es) y → ((k, v) ≡ y) ⊎ Contains es y) → ((k, v) ≡ y) ⊎ Contains (x ∷ es) y
    go Less e (zero, lt, is) more = inl is
    go Less e (suc n, lt, is) more = inr (n, omega (arith, lt), is)
    go Equal e (zero, lt, is) more = inl ((λ i. (exact k x.0 e i, v)) ∙ is)
    go Equal e (suc n, lt, is) more = inr (suc n, omega (arith, lt), is)
    go Greater e (zero, lt, is) more = inr (0, omega arith, is)
    go Greater e (suc n, lt, is) more =
        elim (more (n, omega (arith, lt), is)) [ inl new ↦ inl new | inr old ↦ inr (contains_later y x es old) ]

pub dropped_of : {X : Type 0} (n : ℕ) (xs : List X) (x : X) → Contains (drop n xs) x → Contains xs x
dropped_of zero xs x at = at
dropped_of (suc n) [] x at = at
dropped_of (suc n) (y ∷ xs) x at = contains_later x y xs (dropped_of n xs x at)

picked_of : {X Y : Type 0} (f : X → Option Y) (xs : List X) (y : Y) → Contains (filter_map f xs) y →
    (x : X) × Contains xs x × (f x ≡ Some y)
picked_of f [] y at = absurd (omega (arith, at.1))
picked_of {X} {Y} f (x ∷ xs) y at = go (f x) refl at (picked_of f xs y)
  where
    later : (z : X) × Contains xs z × (f z ≡ Some y) → (z : X) × Contains (x ∷ xs) z × (f z ≡ Some y)
    later (z, there, is) = (z, contains_later z x xs there, is)

    go : (o : Option Y) → f x ≡ o → Contains (cons_option o (filter_map f xs)) y →
        (Contains (filter_map f xs) y → (z : X) × Contains xs z × (f z ≡ Some y)) → (z : X) × Contains (x ∷ xs) z × (f z ≡ Some y)
    go None e there more = later (more there)
    go (Some z) e (zero, lt, is) more = (x, contains_here x xs, e ∙ ap Some is)
    go (Some z) e (suc n, lt, is) more = later (more (n, omega (arith, lt), is))

in_range : (a n k : ℕ) → Contains (range_with_len a n) k → a ≤ k
in_range a zero k at = absurd (omega (arith, at.1))
in_range a (suc n) k (zero, lt, is) = omega (arith, is)
in_range a (suc n) k (suc i, lt, is) = let up = in_range (a + 1) n k (i, omega (arith, lt), is) in omega (arith, up)

enumerated : {X : Type 0} (n : ℕ) (xs : List X) (f : ℕ × X) → Contains (enumerate_from n xs) f → Contains xs f.1
enumerated n [] f at = absurd (omega (arith, at.1))
enumerated {X} n (x ∷ xs) f (zero, lt, is) = (0, omega arith, ap (λ (z : ℕ × X). z.1) is)
enumerated {X} n (x ∷ xs) f (suc i, lt, is) = contains_later f.1 x xs (enumerated (n + 1) xs f (i, omega (arith, lt), is))

folded : {X Y : Type 0} (P : Y → Type 0) (f : Y → X → Y) (xs : List X) (y : Y) → P y →
    ((z : Y) (x : X) → Contains xs x → P z → P (f z x)) → P (fold f y xs)
folded P f [] y holds each = holds
folded P f (x ∷ xs) y holds each =
    folded P f xs (f y x) (each y x (contains_here x xs) holds) (λ z w at. each z w (contains_later w x xs at))

-- Times

-- the clock of a group is one of the time's, or that of no view
clock_holds : (P : Clock → Type 0) → P (first_clock 0) → (t : ClockList) → ((e : GroupNo × Clock) → Contains t e → P e.1) → (g : GroupNo) →
    P (clock_of t g)
clock_holds P none [] each g = none
clock_holds P none (e ∷ t) each g =
    subst P (sym (unwrapped (eq_by_cmp group_cmp g e.0) e.1 (first_clock 0) (find group_cmp g t)))
    (go (eq_by_cmp group_cmp g e.0) (clock_holds P none t (λ x at. each x (contains_later x e t at)) g))
  where
    go : (b : Bool) → P (clock_of t g) → P (cond b e.1 (clock_of t g))
    go true more = each e (contains_here e t)
    go false more = more

clock_counts : (t : ClockList) → Each ClockFromOne t → (g : GroupNo) → Each EntryFromOne (clock_of t g).counts
clock_counts t each g =
    clock_holds (λ c. Each EntryFromOne c.counts) (λ e at. absurd (omega (arith, at.1))) t (λ e at. (each e at).counts) g

counts_put : (c : CountList) (p : Proc) (n : ℕ) → Each EntryFromOne c → ProcFromOne p → 1 ≤ n → Each EntryFromOne (put proc_cmp p n c)
counts_put c p n each one up e at = elim (put_had proc_cmp proc_exact p n c e at) [
  | inl new ↦ subst EntryFromOne new record { proc = one; count = up }
  | inr old ↦ each e old
]

counts_join : (c d : CountList) → Each EntryFromOne c → Each EntryFromOne d → Each EntryFromOne (join_counts c d)
counts_join c [] one two = one
counts_join c (e ∷ d) one two =
    let first = two e (contains_here e d) in
    counts_join (put proc_cmp e.0 (max (count_of c e.0) e.1) c) d
    (counts_put c e.0 (max (count_of c e.0) e.1) one first.proc (let up = first.count in omega (arith, up)))
    (λ x at. two x (contains_later x e d at))

times_put : (t : ClockList) (g : GroupNo) (c : Clock) → Each ClockFromOne t → ClockFromOne (g, c) → Each ClockFromOne (put group_cmp g c t)
times_put t g c each one e at = elim (put_had group_cmp group_exact g c t e at) [
  | inl new ↦ subst ClockFromOne new one
  | inr old ↦ each e old
]

pub times_bumped : (t : ClockList) (g : GroupNo) (p : Proc) → Each ClockFromOne t → 1 ≤ g.0 → ProcFromOne p → 1 ≤ view_of t g →
    Each ClockFromOne (with_bump t g p)
times_bumped t g p each group proc view =
    times_put t g (record { view = view_of t g; counts = put proc_cmp p (count_in t g p + 1) (clock_of t g).counts }) each record {
      group = group;
      view = view;
      counts = counts_put (clock_of t g).counts p (count_in t g p + 1) (clock_counts t each g) proc (omega arith);
    }

pub times_entered : (t : ClockList) (g : GroupNo) (n : ℕ) → Each ClockFromOne t → 1 ≤ g.0 → 1 ≤ n → Each ClockFromOne (entering t g n)
times_entered t g n each group view =
    times_put t g (first_clock n) each record { group = group; view = view; counts = λ e at. absurd (omega (arith, at.1)) }

pub times_joined : (s t : ClockList) → Each ClockFromOne s → Each ClockFromOne t → Each ClockFromOne (join s t)
times_joined s [] one two = one
times_joined s (e ∷ t) one two =
    let first = two e (contains_here e t) in
    let a : Clock = clock_of s e.0 in
    let counts : Each EntryFromOne a.counts = clock_counts s one e.0 in
    times_joined (put group_cmp e.0 (join_clocks a e.1) s) t
    (times_put s e.0 (join_clocks a e.1) one
    (by_views a e.1 (λ c. ClockFromOne (e.0, c)) (λ lt. first)
    (λ same. record {
      group = first.group;
      view = let up = first.view in omega (arith, same, up);
      counts = counts_join a.counts e.1.counts counts first.counts;
    })
    (λ gt. record { group = first.group; view = omega (arith, gt); counts = counts })))
    (λ x at. two x (contains_later x e t at))

-- Orders

told_from : (b : Body) (f : ℕ × Entry) → BodyFromOne b → Contains (told_by b) f → EntryFromOne f.1
told_from (body.Causal payload) f from at = absurd (omega (arith, at.1))
told_from (body.Atomic payload) f from at = absurd (omega (arith, at.1))
told_from (body.Order s) f from at = from.0 f.1 (enumerated s.first s.ids f at)

order_from_one : (s : State) (g : GroupNo) → Each MessageFromOne s.got → Each EntryFromOne (order_told s g)
order_from_one s g got e at =
    let split = contains_split (order_told s g) e at in
    let told = known_places (facts_in s g) split.0 split.1 e split.2 in
    let m = in_flat (λ (m : Message). told_by m.body) (filter (λ m. is_of_view s g m.id) s.got) (length split.0 + 1, e) told in
    told_from m.0.body (length split.0 + 1, e) (got m.0 (among_kept (λ (m : Message). is_of_view s g m.id) s.got m.0 m.1)).body m.2

id_entry : (u : Uid) → UidFromOne u → EntryFromOne (entry_of u)
id_entry u from = record { proc = from.proc; count = from.count }

pub unlisted_from_one : (s : State) (g : GroupNo) (k : ℕ) → Each UidFromOne (s.abcasts k) → Each EntryFromOne (unlisted_ids s g k)
unlisted_from_one s g k all e at =
    let from = came_of entry_of (filter (is_of_view s g) (s.abcasts k)) e
    (among_kept (λ (x : Entry). not (is_among entry_eq x (order_told s g))) (abcasts_delivered s g k) e at) in
    subst EntryFromOne from.2 (id_entry from.0 (all from.0 (among_kept (is_of_view s g) (s.abcasts k) from.0 from.1)))

whole_from_one : (s : State) (g : GroupNo) → Each MessageFromOne s.got → ((k : ℕ) → Each UidFromOne (s.abcasts k)) →
    Each EntryFromOne (whole_order s g)
whole_from_one s g got all e at = elim (Contains-append_cases (order_told s g) (unlisted_here s g) e at) [
  | inl told ↦ order_from_one s g got e told
  | inr more ↦ go (holder_here s g) more
]
  where
    go : (o : Option ℕ) → Contains (option_map_or (unlisted_ids s g) o []) e → EntryFromOne e
    go None there = absurd (omega (arith, there.1))
    go (Some k) there = unlisted_from_one s g k (all k) e there

-- Reports

pub counts_from_one : (count : Proc → ℕ) (procs : List Proc) → Each ProcFromOne procs → Each EntryFromOne (counts_by count procs)
counts_from_one count procs each e at =
    let up = ltb-true 0 e.1 (passed (λ (x : Entry). nat_lt 0 x.1) (map (λ p. (p, count p)) procs) e at) in
    let from = came_of (λ (p : Proc). (p, count p)) procs e
    (among_kept (λ (x : Entry). nat_lt 0 x.1) (map (λ p. (p, count p)) procs) e at) in
    record { proc = subst (λ (x : Entry). ProcFromOne x.0) from.2 (each from.0 from.1); count = omega (arith, up) }

kept_from_one : (kept : List Message) (order : List Entry) → Each MessageFromOne kept → Each MarkedFromOne (kept_list kept order)
kept_from_one kept order each k at =
    let named_ids : List Entry = set_of entry_cmp (map (λ (m : Message). entry_of m.id) kept) in
    let mark = came_of (λ (e : Entry). (e, is_unplaced kept order e)) named_ids k
    (taken_of MAX_KEPT (map (λ (e : Entry). (e, is_unplaced kept order e)) named_ids) k at) in
    let m = came_of (λ (m : Message). entry_of m.id) kept mark.0
    (set_had entry_cmp (map (λ (m : Message). entry_of m.id) kept) mark.0 mark.1) in
    subst MarkedFromOne mark.2 (subst EntryFromOne m.2 (id_entry m.0.id (each m.0 m.1).id))

pub report_from_one : (s : State) (g : GroupNo) → Each ProcFromOne (members_of (s.group g)) → Each MessageFromOne s.got →
    Each MessageFromOne s.kept → ((k : ℕ) → Each UidFromOne (s.abcasts k)) → ReportFromOne (report_in s g)
report_from_one s g members got kept all = record {
  counts = counts_from_one _ (members_of (s.group g)) members;
  tail = λ e at. whole_from_one s g got all e (dropped_of (tail_start (whole_order s g)) (whole_order s g) e at);
  kept = kept_from_one (kept_in s g) (whole_order s g)
      (λ m at. kept m (among_kept (λ (x : Message). is_of_view s g x.id) s.kept m at));
}

-- What is decided of reports

abbrev pub AllReported : Reports → Type 0
AllReported reports = (s : SiteNo) (r : Report) → Contains reports (s, r) → ReportFromOne r

longest_from_one : (reports : Reports) → AllReported reports → Each EntryFromOne (longest reports).ids
longest_from_one reports each =
    folded (λ (t : Tail). Each EntryFromOne t.ids) (λ t r. if nat_lt (end_of t) (end_of r.1.tail) then r.1.tail else t) reports no_stretch
    (λ e at. absurd (omega (arith, at.1)))
    (λ t r at holds. one (nat_lt (end_of t) (end_of r.1.tail)) t r.1.tail holds (each r.0 r.1 at).tail)
  where
    one : (b : Bool) (t u : Tail) → Each EntryFromOne t.ids → Each EntryFromOne u.ids → Each EntryFromOne (if b then u else t).ids
    one true t u old new = new
    one false t u old new = old

unplaced_from_one : (reports : Reports) → AllReported reports → Each EntryFromOne (unplaced_entries reports)
unplaced_from_one reports each e at =
    let all = set_had entry_cmp (flat_map (λ (r : SiteNo × Report). map (λ (k : Marked). k.0) (filter (λ k. k.1) r.1.kept)) reports) e at in
    let r = in_flat (λ (r : SiteNo × Report). map (λ (k : Marked). k.0) (filter (λ k. k.1) r.1.kept)) reports e all in
    let k = came_of (λ (k : Marked). k.0) (filter (λ k. k.1) r.0.1.kept) e r.2 in
    subst EntryFromOne k.2 ((each r.0.0 r.0.1 r.1).kept k.0 (among_kept (λ (z : Marked). z.1) r.0.1.kept k.0 k.1))

pub decided_from_one : (cut : CountList) (reports : Reports) → AllReported reports → Each EntryFromOne (order_from cut reports).ids
decided_from_one cut reports each e at =
    let placed : List Entry = filter (is_within cut) (longest reports).ids in
    let loose : List Entry = filter (is_within cut) (unplaced_entries reports) in
    elim (Contains-append_cases placed (take MAX_PLACED (apart_from entry_eq loose placed)) e
    (taken_of MAX_ORDER (ids_from cut reports) e at)) [
      | inl old ↦ longest_from_one reports each e (among_kept (is_within cut) (longest reports).ids e old)
      | inr new ↦ unplaced_from_one reports each e (among_kept (is_within cut) (unplaced_entries reports) e
          (among_kept (λ (z : Entry). not (is_among entry_eq z placed)) loose e
          (taken_of MAX_PLACED (apart_from entry_eq loose placed) e new)))
    ]

-- a message that the home wants is one that some site reported
pub wanted_from_one : (g : GroupNo) (view : ℕ) (cut : CountList) (reports : Reports) (bodies : List Message) → AllReported reports →
    (s : SiteNo) (e : Entry) → Contains (wants_of g view cut reports bodies) (s, e) →
    EntryFromOne e × ((t : SiteNo) × (r : Report) × Contains reports (t, r))
wanted_from_one g view cut reports bodies each s e at =
    let w = picked_of (want_of reports) (take MAX_PLACED (wanting g view cut reports bodies)) (s, e) at in
    let is : w.0 ≡ e = named_it w.0 (keeper_of reports w.0) w.2 in
    let needed = among_kept (λ (x : Entry). not (has_body g view bodies x)) (needed_entries cut reports) w.0
    (taken_of MAX_PLACED (wanting g view cut reports bodies) w.0 w.1) in
    let kept = set_had entry_cmp (flat_map (λ (r : SiteNo × Report). map (λ (k : Marked). k.0) r.1.kept) reports) w.0
    (among_kept (is_needed cut reports) (all_kept reports) w.0 needed) in
    let r = in_flat (λ (r : SiteNo × Report). map (λ (k : Marked). k.0) r.1.kept) reports w.0 kept in
    let k = came_of (λ (k : Marked). k.0) r.0.1.kept w.0 r.2 in
    (subst EntryFromOne (k.2 ∙ is) ((each r.0.0 r.0.1 r.1).kept k.0 k.1), (r.0.0, r.0.1, r.1))
  where
    named_it : (x : Entry) (o : Option SiteNo) → option_map {U = SiteNo × Entry} (λ (t : SiteNo). (t, x)) o ≡ Some (s, e) → x ≡ e
    named_it x None same = absurd (false≢true (ap is_some same))
    named_it x (Some t) same = ap (λ (o : Option (SiteNo × Entry)). (unwrap_or o (t, x)).1) same

-- what a cut covers are messages of its processes, from the first on
pub covered_from_one : (cut : CountList) → Each EntryFromOne cut → Each EntryFromOne (covered_entries cut)
covered_from_one cut each e at =
    let x = in_flat first_of cut e at in
    let k = came_of (λ (k : ℕ). (x.0.0, k)) (range_with_len 1 x.0.1) e x.2 in
    subst EntryFromOne k.2 record { proc = (each x.0 x.1).proc; count = in_range 1 x.0.1 k.0 k.1 }
