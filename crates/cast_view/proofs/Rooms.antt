-- The next views have room for whom they are to have: what changes the expected members keeps it
-- so.
-- A home is sound where no more processes are expected than a view may have. `sound_joined`,
-- `sound_leaving`, `sound_suspected`, `sound_joins` and `sound_passed` say that each change of the
-- expected members keeps it so. All but a join add no one to the expected, so they stay as few; a
-- join adds one, and is refused where there is no room for it (`join_fits`).
use Rattle.std.proofs.Common.{◌≡◌, ℕ, ◌+◌, ◌≤◌, ◌<◌, Bool, true, false, ◌&&◌, ◌||◌, not, List, [], ◌∷◌}
use Rattle.std.proofs.Common.{◌++◌, filter, length, Equal, refl, sym, ap, ◌∙◌, inl, inr, arith, IsTrue}
use Rattle.std.specs.Prelude.{if◌then◌else◌, nat_le}
use Rattle.std.specs.List.{list_all}
use Rattle.std.specs.Ordering.{is_lt}
use Rattle.std.proofs.lemmas.Cmp.{tied_itself}
use Rattle.std.proofs.lemmas.Bool.{and_parts, and_from, or_cases, or_left, or_right, cases_Bool, false≢true}
use Rattle.std.proofs.lemmas.Bool.{not_from_false, false_from_ne_true, leb-true, leb-false, le-leb, lt-leb}
use Rattle.std.proofs.lemmas.List.Folds.{list_any-append}
use Rattle.cast_types.specs.declared.limits.TheConstants.{MAX_MEMBERS}
use Rattle.cast_types.specs.declared.names.SiteNo.{SiteNo}
use Rattle.cast_types.specs.declared.names.Proc.{Proc}
use Rattle.cast_types.specs.Names.{site_eq, site_cmp, proc_eq, proc_cmp}
use Rattle.cast_types.specs.Sets.{is_among, with_item, with_items, without}
use Rattle.cast_types.proofs.Orders.{proc_total, proc_exact, site_exact, same_proc, proc_itself, site_itself}
use Rattle.cast_types.specs.Rising.{is_rising}
use Rattle.cast_message.specs.declared.message.Message.{Message}
use Rattle.cast_message.specs.declared.site.Change.TheVariants.{Join}
use Rattle.cast_view.specs.declared.phase.Decision.{Decision}
use Rattle.cast_view.specs.declared.phase.Phase.{Phase}
use Rattle.cast_view.specs.declared.phase.Phase.TheVariants.{Idle, Gathering, Installing}
use Rattle.cast_flush.specs.Reports.{cut_from}
use Rattle.cast_flush.specs.Decisions.{order_from}
use Rattle.cast_view.specs.Sites.{sites_of}
use Rattle.cast_view.specs.Home.{Home, expected_members, stays, is_leaving, is_suspected, is_crowded, is_refused, is_sound}
use Rattle.cast_view.specs.Home.{has_next_number, installing, decided_list, decided_phase, decide_view, marked_leaving}
use Rattle.cast_types.proofs.Rising.{rising_kept, rising-with_items}
use Rattle.cast_view.proofs.Among.{among_kept, among_with_item, among_set_of}
use Rattle.cast_flush.proofs.Each.{length_filter}

-- a process among a list is one of it, so that it is shorter without the process
without_length : (p : Proc) (xs : List Proc) → is_among proc_eq p xs ≡ true → length (without proc_eq p xs) + 1 ≤ length xs
without_length p [] among = absurd (false≢true among)
without_length p (x ∷ xs) among =
    let few = length_filter (λ y. not (proc_eq p y)) xs in
    elim (proc_eq p x) as (λ b. (b || is_among proc_eq p xs) ≡ true
    → length (if not b then x ∷ without proc_eq p xs else without proc_eq p xs) + 1 ≤ length (x ∷ xs)) [
      | true ↦ λ _. omega arith
      | false ↦ λ rest. let less = without_length p xs rest in omega arith
    ] among

-- what holds of each process of a list holds of one among them
holds_at : (test : Proc → Bool) (p : Proc) (xs : List Proc) → list_all test xs ≡ true → is_among proc_eq p xs ≡ true → test p ≡ true
holds_at test p [] all among = absurd (false≢true among)
holds_at test p (x ∷ xs) all among =
    let parts = and_parts (test x) (list_all test xs) all in
    elim (or_cases (proc_eq p x) (is_among proc_eq p xs) among) [
      | inl one ↦ ap test (same_proc p x one) ∙ parts.0
      | inr rest ↦ holds_at test p xs parts.1 rest
    ]

-- a process below another is not that one
below_differs : (x p : Proc) → is_lt (proc_cmp x p) ≡ true → proc_eq x p ≡ false
below_differs x p below =
    false_from_ne_true (proc_eq x p) (λ one.
    let tied : proc_cmp x p ≡ Equal = ap (proc_cmp x) (sym (same_proc x p one)) ∙ tied_itself proc_total x in
    false≢true (sym (ap is_lt tied) ∙ below))

-- a rising list all of whose processes are among another list is no longer than that
rising_length :
    (xs ys : List Proc) → is_rising proc_cmp xs ≡ true → ((p : Proc) → is_among proc_eq p xs ≡ true → is_among proc_eq p ys ≡ true)
    → length xs ≤ length ys
rising_length [] ys rising within = omega arith
rising_length (x ∷ xs) ys rising within =
    let parts = and_parts (list_all (λ y. is_lt (proc_cmp x y)) xs) (is_rising proc_cmp xs) rising in
    let rest =
    rising_length xs (without proc_eq x ys) parts.1 (λ p among.
    among_kept proc_eq same_proc (λ y. not (proc_eq x y)) p ys
    ∙ and_from (is_among proc_eq p ys) (not (proc_eq x p)) (within p (or_right (proc_eq p x) (is_among proc_eq p xs) among))
    (not_from_false (proc_eq x p) (below_differs x p (holds_at (λ y. is_lt (proc_cmp x y)) p xs parts.0 among)))) in
    let less = without_length x ys (within x (or_left (proc_eq x x) (is_among proc_eq x xs) (proc_itself x))) in
    omega arith

-- expected are the members that stay, and the joins
among_expected : (h : Home) (p : Proc)
    → is_among proc_eq p (expected_members h) ≡ ((is_among proc_eq p h.members.list && stays h p) || is_among proc_eq p h.joins)
among_expected h p =
    among_set_of proc_cmp proc_exact proc_eq p (filter (stays h) h.members.list ++ h.joins)
    ∙ list_any-append (proc_eq p) (filter (stays h) h.members.list) h.joins
    ∙ ap (λ (b : Bool). b || is_among proc_eq p h.joins) (among_kept proc_eq same_proc (stays h) p h.members.list)

-- decided are the members that stay, and the joins that are not at suspected sites
pub among_decided :
    (h : Home) (p : Proc)
    → is_among proc_eq p (decided_list h)
    ≡ ((is_among proc_eq p h.members.list && stays h p) || (is_among proc_eq p h.joins && not (is_suspected h p.site)))
among_decided h p =
    among_set_of proc_cmp proc_exact proc_eq p (filter (stays h) h.members.list ++ filter (λ q. not (is_suspected h q.site)) h.joins)
    ∙ list_any-append (proc_eq p) (filter (stays h) h.members.list) (filter (λ q. not (is_suspected h q.site)) h.joins)
    ∙ ap (λ (b : Bool). b || is_among proc_eq p (filter (λ q. not (is_suspected h q.site)) h.joins))
    (among_kept proc_eq same_proc (stays h) p h.members.list)
    ∙ ap (λ (b : Bool). (is_among proc_eq p h.members.list && stays h p) || b)
    (among_kept proc_eq same_proc (λ q. not (is_suspected h q.site)) p h.joins)

-- whom the next views are to have stand in rising order
rising_expected : (h : Home) → is_rising proc_cmp (expected_members h) ≡ true
rising_expected h = rising-with_items proc_cmp proc_total (filter (stays h) h.members.list ++ h.joins) [] refl

-- members that stay are expected
member_expected : (h : Home) (p : Proc) → is_among proc_eq p h.members.list ≡ true → stays h p ≡ true
    → is_among proc_eq p (expected_members h) ≡ true
member_expected h p member stay =
    among_expected h p
    ∙ or_left (is_among proc_eq p h.members.list && stays h p) (is_among proc_eq p h.joins)
    (and_from (is_among proc_eq p h.members.list) (stays h p) member stay)

-- and so are joins
join_expected : (h : Home) (p : Proc) → is_among proc_eq p h.joins ≡ true → is_among proc_eq p (expected_members h) ≡ true
join_expected h p joins = among_expected h p ∙ or_right (is_among proc_eq p h.members.list && stays h p) (is_among proc_eq p h.joins) joins

-- where only members that were to stay stay, and whoever joins was expected, nobody is expected who was not
expected_within :
    (new old : Home)
    → ((p : Proc) → is_among proc_eq p new.members.list ≡ true → stays new p ≡ true → is_among proc_eq p (expected_members old) ≡ true)
    → ((p : Proc) → is_among proc_eq p new.joins ≡ true → is_among proc_eq p (expected_members old) ≡ true)
    → (p : Proc) → is_among proc_eq p (expected_members new) ≡ true → is_among proc_eq p (expected_members old) ≡ true
expected_within new old members joins p among =
    elim (or_cases (is_among proc_eq p new.members.list && stays new p) (is_among proc_eq p new.joins)
    (sym (among_expected new p) ∙ among)) [
      | inl member ↦ (let parts = and_parts (is_among proc_eq p new.members.list) (stays new p) member in members p parts.0 parts.1)
      | inr join ↦ joins p join
    ]

-- where nobody is expected who was not, there is still room
sound_within :
    (new old : Home) → IsTrue (is_sound old)
    → ((p : Proc) → is_among proc_eq p (expected_members new) ≡ true → is_among proc_eq p (expected_members old) ≡ true)
    → has_next_number new.number new.phase ≡ true → IsTrue (is_sound new)
sound_within new old sound within number =
    let parts = and_parts (nat_le (length (expected_members old)) MAX_MEMBERS) (has_next_number old.number old.phase) sound in
    let room = leb-true (length (expected_members old)) MAX_MEMBERS parts.0 in
    let few = rising_length (expected_members new) (expected_members old) (rising_expected new) within in
    and_from (nat_le (length (expected_members new)) MAX_MEMBERS) (has_next_number new.number new.phase)
    (le-leb (length (expected_members new)) MAX_MEMBERS (omega arith)) number

-- whoever stays is neither leaving nor at a suspected site
stays_parts : (a b c d : Bool) → (a ≡ true → c ≡ true) → (b ≡ true → d ≡ true) → (not c && not d) ≡ true → (not a && not b) ≡ true
stays_parts false false c d first second stay = refl
stays_parts true b c d first second stay = absurd (false≢true (sym (ap (λ (x : Bool). not x && not d) (first refl)) ∙ stay))
stays_parts false true c d first second stay = absurd (false≢true (sym (and_none (not c) d (second refl)) ∙ stay))
  where
    and_none : (x y : Bool) → y ≡ true → (x && not y) ≡ false
    and_none true y is = ap not is
    and_none false y is = refl

-- with more leaving nobody is expected who was not
leaving_within :
    (h : Home) (leavings : List Proc) → ((p : Proc) → is_among proc_eq p h.leavings ≡ true → is_among proc_eq p leavings ≡ true)
    → (p : Proc) → is_among proc_eq p (expected_members (record h { leavings = leavings })) ≡ true
    → is_among proc_eq p (expected_members h) ≡ true
leaving_within h leavings more =
    expected_within (record h { leavings = leavings }) h
    (λ p member stay. member_expected h p member
    (stays_parts (is_leaving h p) (is_suspected h p.site) (is_among proc_eq p leavings) (is_suspected h p.site) (more p) (λ is. is) stay))
    (join_expected h)

-- with more leaving there is still room
pub sound_leaving :
    (h : Home) (leavings : List Proc) → ((p : Proc) → is_among proc_eq p h.leavings ≡ true → is_among proc_eq p leavings ≡ true)
    → IsTrue (is_sound h) → IsTrue (is_sound (record h { leavings = leavings }))
sound_leaving h leavings more sound =
    let parts = and_parts (nat_le (length (expected_members h)) MAX_MEMBERS) (has_next_number h.number h.phase) sound in
    sound_within (record h { leavings = leavings }) h sound (leaving_within h leavings more) parts.1

-- with more suspected there is still room
pub sound_suspected :
    (h : Home) (suspected : List SiteNo) → ((s : SiteNo) → is_among site_eq s h.suspected ≡ true → is_among site_eq s suspected ≡ true)
    → IsTrue (is_sound h) → IsTrue (is_sound (record h { suspected = suspected }))
sound_suspected h suspected more sound =
    let parts = and_parts (nat_le (length (expected_members h)) MAX_MEMBERS) (has_next_number h.number h.phase) sound in
    sound_within (record h { suspected = suspected }) h sound
    (expected_within (record h { suspected = suspected }) h
    (λ p member stay. member_expected h p member (stays_parts (is_leaving h p) (is_suspected h p.site) (is_leaving h p)
    (is_among site_eq p.site suspected) (λ is. is) (more p.site) stay))
    (join_expected h))
    parts.1

-- with fewer joins there is still room
pub sound_joins :
    (h : Home) (joins : List Proc) → ((p : Proc) → is_among proc_eq p joins ≡ true → is_among proc_eq p h.joins ≡ true)
    → IsTrue (is_sound h) → IsTrue (is_sound (record h { joins = joins }))
sound_joins h joins fewer sound =
    let parts = and_parts (nat_le (length (expected_members h)) MAX_MEMBERS) (has_next_number h.number h.phase) sound in
    sound_within (record h { joins = joins }) h sound
    (expected_within (record h { joins = joins }) h (member_expected h) (λ p join. join_expected h p (fewer p join)))
    parts.1

-- a process that is taken out was among those before
pub without_fewer : (p q : Proc) (xs : List Proc) → is_among proc_eq q (without proc_eq p xs) ≡ true → is_among proc_eq q xs ≡ true
without_fewer p q xs among =
    (and_parts (is_among proc_eq q xs) (not (proc_eq p q)) (sym (among_kept proc_eq same_proc (λ y. not (proc_eq p y)) q xs) ∙ among)).0

-- with a process more those before are still among them
pub with_more : (p q : Proc) (xs : List Proc) → is_among proc_eq q xs ≡ true → is_among proc_eq q (with_item proc_cmp p xs) ≡ true
with_more p q xs among = among_with_item proc_cmp proc_exact proc_eq q p xs ∙ or_right (proc_eq q p) (is_among proc_eq q xs) among

-- with a site more those before are still among them
pub with_more_sites : (s t : SiteNo) (sites : List SiteNo) → is_among site_eq t sites ≡ true
    → is_among site_eq t (with_item site_cmp s sites) ≡ true
with_more_sites s t sites among =
    among_with_item site_cmp site_exact site_eq t s sites ∙ or_right (site_eq t s) (is_among site_eq t sites) among

-- installing needs no further number
next_installing : (n : ℕ) (waiting : List SiteNo) (decision : Decision) (bodies : List Message)
    → has_next_number n (installing waiting decision bodies) ≡ true
next_installing n [] decision bodies = refl
next_installing n (s ∷ waiting) decision bodies = refl

-- after a decision none is needed
pub next_decided : (h : Home) (n : ℕ) (members : List Proc) (phase : Phase) → has_next_number n (decided_phase h members phase) ≡ true
next_decided h n members Idle = refl
next_decided h n members (Gathering awaited reports bodies) =
    next_installing n (with_items site_cmp (sites_of members) awaited)
    (record { cut = cut_from h.members.list reports; tail = order_from (cut_from h.members.list reports) reports; answers = h.answers })
    bodies
next_decided h n members (Installing waiting decision bodies) = refl

-- whoever is decided was expected
decided_expected : (h : Home) (p : Proc) → is_among proc_eq p (decided_list h) ≡ true → is_among proc_eq p (expected_members h) ≡ true
decided_expected h p among =
    elim (or_cases (is_among proc_eq p h.members.list && stays h p) (is_among proc_eq p h.joins && not (is_suspected h p.site))
    (sym (among_decided h p) ∙ among)) [
      | inl member ↦ (let parts = and_parts (is_among proc_eq p h.members.list) (stays h p) member in member_expected h p parts.0 parts.1)
      | inr join ↦ join_expected h p (and_parts (is_among proc_eq p h.joins) (not (is_suspected h p.site)) join).0
    ]

-- and so do the decided
rising_decided : (h : Home) → is_rising proc_cmp (decided_list h) ≡ true
rising_decided h =
    rising-with_items proc_cmp proc_total (filter (stays h) h.members.list ++ filter (λ p. not (is_suspected h p.site)) h.joins) [] refl

-- the next view has no more members than a view may have
pub few_decided : (h : Home) → IsTrue (is_sound h) → length (decided_list h) ≤ MAX_MEMBERS
few_decided h sound =
    let parts = and_parts (nat_le (length (expected_members h)) MAX_MEMBERS) (has_next_number h.number h.phase) sound in
    let room = leb-true (length (expected_members h)) MAX_MEMBERS parts.0 in
    let few = rising_length (decided_list h) (expected_members h) (rising_decided h) (decided_expected h) in
    omega arith

-- after a decision there is still room: the members were expected, and so were the joins that are left
pub sound_decided : (h : Home) → IsTrue (is_sound h) → IsTrue (is_sound (decide_view h))
sound_decided h sound =
    sound_within (decide_view h) h sound
    (expected_within (decide_view h) h
    (λ p member stay. decided_expected h p member)
    (λ p join.
    join_expected h p
    (and_parts (is_among proc_eq p h.joins) (is_suspected h p.site)
    (sym (among_kept proc_eq same_proc (λ q. is_suspected h q.site) p h.joins) ∙ join)).0))
    (next_decided h (h.number + 1) (decided_list h) h.phase)

-- in whatever phase that needs no further number
pub sound_passed : (h : Home) (phase : Phase) → has_next_number (h.number + 1) phase ≡ true → IsTrue (is_sound h)
    → IsTrue (is_sound (record (decide_view h) { phase = phase }))
sound_passed h phase next sound =
    let parts =
    and_parts (nat_le (length (expected_members (decide_view h))) MAX_MEMBERS)
    (has_next_number (h.number + 1) (decided_phase h (decided_list h) h.phase)) (sound_decided h sound) in
    and_from (nat_le (length (expected_members (decide_view h))) MAX_MEMBERS) (has_next_number (h.number + 1) phase) parts.0 next

-- where a process is not crowded out, there is room for one beside the others
not_crowded : (h : Home) (p : Proc) → is_crowded h p ≡ false → length (without proc_eq p (expected_members h)) < MAX_MEMBERS
not_crowded h p free = leb-false MAX_MEMBERS (length (without proc_eq p (expected_members h))) free

-- an item among a list is the one or among the list without it
one_or_rest : (p q : Proc) (xs : List Proc) → is_among proc_eq q xs ≡ true → is_among proc_eq q (p ∷ without proc_eq p xs) ≡ true
one_or_rest p q xs among =
    elim (cases_Bool (proc_eq q p)) [
      | inl one ↦ or_left (proc_eq q p) (is_among proc_eq q (without proc_eq p xs)) one
      | inr other ↦ or_right (proc_eq q p) (is_among proc_eq q (without proc_eq p xs))
          (among_kept proc_eq same_proc (λ y. not (proc_eq p y)) q xs
          ∙ and_from (is_among proc_eq q xs) (not (proc_eq p q)) among
          (not_from_false (proc_eq p q) (false_from_ne_true (proc_eq p q) (λ one.
          false≢true (sym other ∙ ap (λ (r : Proc). proc_eq q r) (same_proc p q one) ∙ proc_itself q)))))
    ]

-- with a join nobody else is expected
joined_within :
    (h : Home) (p q : Proc) → is_among proc_eq q (expected_members (record h { joins = with_item proc_cmp p h.joins })) ≡ true
    → is_among proc_eq q (p ∷ without proc_eq p (expected_members h)) ≡ true
joined_within h p q among =
    elim (or_cases (is_among proc_eq q h.members.list && stays h q) (is_among proc_eq q (with_item proc_cmp p h.joins))
    (sym (among_expected (record h { joins = with_item proc_cmp p h.joins }) q) ∙ among)) [
      | inl member ↦
          (let both = and_parts (is_among proc_eq q h.members.list) (stays h q) member in
          one_or_rest p q (expected_members h) (member_expected h q both.0 both.1))
      | inr join ↦
          elim (or_cases (proc_eq q p) (is_among proc_eq q h.joins)
          (sym (among_with_item proc_cmp proc_exact proc_eq q p h.joins) ∙ join)) [
            | inl one ↦ or_left (proc_eq q p) (is_among proc_eq q (without proc_eq p (expected_members h))) one
            | inr before ↦ one_or_rest p q (expected_members h) (join_expected h q before)
          ]
    ]

-- with a join that is not crowded there is still room
pub sound_joined : (h : Home) (p : Proc) → is_crowded h p ≡ false → IsTrue (is_sound h)
    → IsTrue (is_sound (record h { joins = with_item proc_cmp p h.joins }))
sound_joined h p free sound =
    let parts = and_parts (nat_le (length (expected_members h)) MAX_MEMBERS) (has_next_number h.number h.phase) sound in
    let room = not_crowded h p free in
    let few =
    rising_length (expected_members (record h { joins = with_item proc_cmp p h.joins })) (p ∷ without proc_eq p (expected_members h))
    (rising_expected (record h { joins = with_item proc_cmp p h.joins }))
    (joined_within h p) in
    and_from (nat_le (length (expected_members (record h { joins = with_item proc_cmp p h.joins }))) MAX_MEMBERS)
    (has_next_number h.number h.phase)
    (le-leb (length (expected_members (record h { joins = with_item proc_cmp p h.joins }))) MAX_MEMBERS (omega arith)) parts.1

-- where others are expected, but nobody who was not, a process that was not crowded is not
crowded_within :
    (new old : Home) (p : Proc)
    → ((q : Proc) → is_among proc_eq q (expected_members new) ≡ true → is_among proc_eq q (expected_members old) ≡ true)
    → is_crowded old p ≡ false → is_crowded new p ≡ false
crowded_within new old p within free =
    let room = not_crowded old p free in
    let few =
    rising_length (without proc_eq p (expected_members new)) (without proc_eq p (expected_members old))
    (rising_kept proc_cmp (λ y. not (proc_eq p y)) (expected_members new) (rising_expected new))
    (λ q among.
    let parts =
    and_parts (is_among proc_eq q (expected_members new)) (not (proc_eq p q))
    (sym (among_kept proc_eq same_proc (λ y. not (proc_eq p y)) q (expected_members new)) ∙ among) in
    among_kept proc_eq same_proc (λ y. not (proc_eq p y)) q (expected_members old)
    ∙ and_from (is_among proc_eq q (expected_members old)) (not (proc_eq p q)) (within q parts.0) parts.1) in
    lt-leb MAX_MEMBERS (length (without proc_eq p (expected_members new))) (omega arith)

-- a process that is not crowded is not after it is marked
crowded_marked : (h : Home) (p : Proc) → is_crowded h p ≡ false → is_crowded (marked_leaving h p) p ≡ false
crowded_marked h p free =
    elim (is_among proc_eq p h.members.list)
    as (λ b. is_crowded (if b then record h { leavings = with_item proc_cmp p h.leavings } else h) p ≡ false) [
      | true ↦
          crowded_within (record h { leavings = with_item proc_cmp p h.leavings })
          h p (leaving_within h (with_item proc_cmp p h.leavings) (λ q. with_more p q h.leavings)) free
      | false ↦ free
    ]

-- for a join that is not refused there is room
pub join_fits : (h : Home) (p : Proc) → is_refused h p.site Join p ≡ false → is_crowded (marked_leaving h p) p ≡ false
join_fits h p free = crowded_marked h p (sym (ap (λ (b : Bool). b && is_crowded h p) (site_itself p.site)) ∙ free)
