-- What holds of each history that events lead to is kept where a site passes to a view.
-- `lawful_passing` says so. First the members that the view does not name are put out
-- (`lawful_all_parted`), and then those that it names are in it (`lawful_all_in_view`): each is a
-- member whose time is in the new view (`placed_new`). In the other groups each process is what it
-- was (`placed_old`). The view is a later one, so what was reached is reached still, and what was
-- spent is spent.
use Rattle.std.proofs.Common.{◌≡◌, ℕ, ◌<◌, ◌≤◌, Bool, true, false, not, List, [], ◌∷◌}
use Rattle.std.proofs.Common.{Some, None, refl, sym, ap, subst, ◌∙◌, inl, inr, arith}
use Rattle.std.specs.Prelude.{◌&&◌, ◌||◌, ◌==◌, if◌then◌else◌}
use Rattle.std.specs.List.{list_any}
use Rattle.std.proofs.lemmas.Bool.{cases_Bool, and_parts, or_cases, or_left, or_right, and_from, false≢true, false_from_ne_true}
use Rattle.cast_types.specs.declared.names.SiteNo.{SiteNo}
use Rattle.cast_types.specs.declared.names.GroupNo.{GroupNo}
use Rattle.cast_types.specs.declared.names.Proc.{Proc}
use Rattle.cast_types.specs.declared.names.Uid.{Uid}
use Rattle.cast_types.specs.declared.names.Standing.{Standing}
use Rattle.cast_types.specs.declared.names.Standing.TheVariants.{Outside, Joining, Member}
use Rattle.cast_types.specs.declared.clock.Clock.{Clock}
use Rattle.cast_types.specs.Names.{site_eq, group_eq, proc_eq}
use Rattle.cast_types.specs.Sets.{is_among}
use Rattle.cast_types.proofs.Orders.{same_site, site_itself, same_group, group_itself}
use Rattle.cast_clock.specs.Times.{view_of, entering}
use Rattle.cast_clock.proofs.Raised.{enter_begins, enter_leaves}
use Rattle.cast_message.specs.declared.message.Message.{Message}
use Rattle.cast_message.specs.Membership.{Membership}
use Rattle.cast_ready.specs.Ready.{is_member, has_delivered}
use Rattle.cast_view.specs.MemberSide.{MemberSide, no_group, has_view, members_of, with_view, is_taken_in}
use Rattle.cast_view.specs.Sites.{is_at}
use Rattle.cast_rules.specs.State.{State, local, is_group, may_speak, set_group, was_given}
use Rattle.cast_rules.specs.Acts.Act.{Entered, Left}
use Rattle.cast_types.specs.Counts.{CountList}
use Rattle.cast_rules.specs.Entering.{put_outside, is_put_out, all_parted, putting_out, enters, in_view, all_in_view, passing}
use Rattle.cast_rules.specs.Lawful.{IsSpent, Waits, IsLawful}
use Rattle.cast_rules.proofs.Lawful.{Placed, PlacedIn, placed_of, lawful_from, SpeaksStill, each_act_on, traced_on, kept_map, spent_on}

-- Views

-- a view that names a process of this site is kept here
pub named_here : (here : SiteNo) (k : ℕ) (procs : List Proc) → is_among proc_eq (record { site = here; serial = k }) procs ≡ true →
    list_any (is_at here) procs ≡ true
named_here here k [] named = absurd (false≢true named)
named_here here k (p ∷ procs) named =
    elim (or_cases (site_eq here p.site && (k == p.serial)) (is_among proc_eq (record { site = here; serial = k }) procs) named) [
      | inl first ↦
          or_left (is_at here p) (list_any (is_at here) procs) (subst (λ x. site_eq x here ≡ true)
          (same_site here p.site (and_parts (site_eq here p.site) (k == p.serial) first).0) (site_itself here))
      | inr later ↦ or_right (is_at here p) (list_any (is_at here) procs) (named_here here k procs later)
    ]

seen_here : (here : SiteNo) (n : ℕ) (members : Membership) (group : MemberSide) → list_any (is_at here) members.list ≡ true →
    has_view (with_view here n members group) ≡ true
seen_here here n members group at = ap (λ b. has_view (record no_group { view = if b then Some members else None })) at

-- a process that is in the new view of a group
placed_new : (s : State) (g : GroupNo) (n : ℕ) (members : Membership) (k : ℕ) → IsLawful s → is_group s g ≡ true →
    is_among proc_eq (local s k) members.list ≡ true → (h : GroupNo) →
    PlacedIn (set_group s g (with_view s.here n members (s.group g))) (in_view g n (s.process k)) h
placed_new s g n members k l listed named h =
    let t = (s.process k).time in
    elim (group_eq g h) as (λ b. group_eq g h ≡ b → Placed (is_group s h) (if b then Member else (s.process k).standing h)
    (view_of (entering t g n) h) (if b then with_view s.here n members (s.group g) else s.group h)) [
      | true ↦ λ is. let same : g ≡ h = same_group g h is in record {
        known = λ _. subst (λ x. is_group s x ≡ true) same listed;
        current = λ _. subst (λ x. view_of (entering t g n) x ≡ n) same (ap (λ (c : Clock). c.view) (enter_begins t g n));
        viewed = λ _. seen_here s.here n members (s.group g) (named_here s.here k members.list named);
      }
      | false ↦ λ other. record {
        known = l.known k h;
        current = λ member. ap (λ (c : Clock). c.view)
            (enter_leaves t g h n (λ e. false≢true (sym other ∙ subst (λ x. group_eq g x ≡ true) (sym e) (group_itself g))))
            ∙ l.current k h member;
        viewed = l.viewed k h;
      }
    ] refl

-- one that is not: it is no member
placed_old : (s : State) (g : GroupNo) (n : ℕ) (members : Membership) (k : ℕ) → IsLawful s → is_member ((s.process k).standing g) ≡ false →
    (h : GroupNo) → PlacedIn (set_group s g (with_view s.here n members (s.group g))) (s.process k) h
placed_old s g n members k l none h =
    elim (group_eq g h) as (λ b. group_eq g h ≡ b → Placed (is_group s h) ((s.process k).standing h) (view_of (s.process k).time h)
    (if b then with_view s.here n members (s.group g) else s.group h)) [
      | true ↦ λ is.
          let out : is_member ((s.process k).standing h) ≡ false =
          subst (λ x. is_member ((s.process k).standing x) ≡ false) (same_group g h is) none in record {
            known = l.known k h;
            current = λ member. absurd (false≢true (sym out ∙ member));
            viewed = λ member. absurd (false≢true (sym out ∙ member));
          }
      | false ↦ λ _. placed_of s l k h
    ] refl

-- the view names each member of the group that is here
abbrev pub Stays : State → GroupNo → Membership → Type 0
Stays s g members = (k : ℕ) → is_member ((s.process k).standing g) ≡ true → is_among proc_eq (local s k) members.list ≡ true

-- so who does not enter is no member
pub outside_still : (s : State) (g : GroupNo) (members : Membership) (number : ℕ) (k : ℕ) → Stays s g members →
    enters s g members number k ≡ false → is_member ((s.process k).standing g) ≡ false
outside_still s g members number k stays out = false_from_ne_true (is_member ((s.process k).standing g)) (λ member.
    false≢true (sym out ∙ and_from (is_taken_in number ((s.process k).standing g)) (is_among proc_eq (local s k) members.list)
    (taken ((s.process k).standing g) member) (stays k member)))
  where
    taken : (v : Standing) → is_member v ≡ true → is_taken_in number v ≡ true
    taken Outside is = absurd (false≢true is)
    taken (Joining asked heard) is = absurd (false≢true is)
    taken Member is = refl

pub lawful_all_in_view : (s : State) (g : GroupNo) (n : ℕ) (members : Membership) (request : ℕ) (cut : CountList) → IsLawful s →
    is_group s g ≡ true → Stays s g members → (s.group g).number < n →
    IsLawful (all_in_view (set_group s g (with_view s.here n members (s.group g))) g n members request cut)
lawful_all_in_view s g n members request cut l listed stays later =
    let now : State = set_group s g (with_view s.here n members (s.group g)) in
    lawful_from s (all_in_view now g n members request cut) l refl
    (λ k h. elim (enters now g members request k)
    as (λ b. enters now g members request k ≡ b → PlacedIn now (if b then in_view g n (s.process k) else s.process k) h) [
      | true ↦ λ in_it.
          placed_new s g n members k l listed
          (and_parts (is_taken_in request ((s.process k).standing g)) (is_among proc_eq (local s k) members.list) in_it).1 h
      | false ↦ λ out. placed_old s g n members k l (outside_still s g members request k stays out) h
    ] refl)
    l.stamped
    (kept_map (IsSpent s) (IsSpent (all_in_view now g n members request cut)) spent_now s.got s.kept l.spent)
    (λ h. elim (group_eq g h)
    as (λ b. group_eq g h ≡ b → has_view (if b then with_view s.here n members (s.group g) else s.group h) ≡ true → is_group s h ≡ true) [
      | true ↦ λ is _. subst (λ x. is_group s x ≡ true) (same_group g h is) listed
      | false ↦ λ _ seen. l.listed h seen
    ] refl)
    (traced_on s (all_in_view now g n members request cut) refl (λ k. refl) risen speaking
    (λ k u is. elim (enters now g members request k)
    as (λ b. has_delivered (if b then in_view g n (s.process k) else s.process k) u ≡ true) [ true ↦ is | false ↦ is ])
    (each_act_on s (enters now g members request) (Entered g n cut) tt) l.traced)
    (λ h. elim (group_eq g h) as (λ b. Waits (if b then with_view s.here n members (s.group g) else s.group h).frozen
    (if b then with_view s.here n members (s.group g) else s.group h).pending) [
      | true ↦ tt
      | false ↦ l.waiting h
    ])
  where
    risen : (h : GroupNo) → (s.group h).number ≤ ((set_group s g (with_view s.here n members (s.group g))).group h).number
    risen h =
        elim (group_eq g h)
        as (λ b. group_eq g h ≡ b → (s.group h).number ≤ (if b then with_view s.here n members (s.group g) else s.group h).number) [
          | true ↦ λ is. subst (λ x. (s.group x).number ≤ n) (same_group g h is) (omega (arith, later))
          | false ↦ λ _. omega arith
        ] refl

    -- the group has another view, the others have theirs
    speaking : SpeaksStill s (all_in_view (set_group s g (with_view s.here n members (s.group g))) g n members request cut)
    speaking h p =
        elim (group_eq g h) as (λ b. group_eq g h ≡ b →
        (s.group h).number ≡ (if b then with_view s.here n members (s.group g) else s.group h).number → may_speak s h p ≡ true →
        (is_among proc_eq p (members_of (if b then with_view s.here n members (s.group g) else s.group h))
        || site_eq p.site s.here) ≡ true) [
          | true ↦
              λ is same _.
              let before =
              subst (λ x. (s.group x).number < n) (same_group g h is) later in absurd (omega (arith, before, same))
          | false ↦ λ _ _ may. may
        ] refl

    -- the group's view is another now, and in the other groups each process is what it was
    spent_now : (m : Message) → IsSpent s m →
        IsSpent (all_in_view (set_group s g (with_view s.here n members (s.group g))) g n members request cut) m
    spent_now m spent =
        let w : MemberSide = with_view s.here n members (s.group g) in
        elim (cases_Bool (group_eq g m.id.group)) [
          | inl same ↦
              let number : (if group_eq g m.id.group then w else s.group m.id.group).number ≡ n =
              ap (λ b. (if b then w else s.group m.id.group).number) same in
              let before : m.id.view ≤ (s.group g).number =
              subst (λ h. m.id.view ≤ (s.group h).number) (sym (same_group g m.id.group same)) spent.reached in
              record {
                reached = omega (arith, before, number, later);
                delivered = λ k given is here. absurd (omega (arith, before, here, number, later));
              }
          | inr other ↦
              let number : (if group_eq g m.id.group then w else s.group m.id.group).number ≡ (s.group m.id.group).number =
              ap (λ b. (if b then w else s.group m.id.group).number) other in
              record {
                reached = subst (λ x. m.id.view ≤ x) (sym number) spent.reached;
                delivered = λ k given is here. still_delivered other spent k given is (here ∙ number);
              }
        ]
      where
        still_delivered : group_eq g m.id.group ≡ false → IsSpent s m → (k : ℕ) → was_given s.used k ≡ true →
            is_member (((all_in_view (set_group s g (with_view s.here n members (s.group g))) g n members request cut).process k).standing
            m.id.group) ≡ true → m.id.view ≡ (s.group m.id.group).number →
            has_delivered ((all_in_view (set_group s g (with_view s.here n members (s.group g))) g n members request cut).process k)
            m.id ≡ true
        still_delivered other spent k given =
            elim (enters (set_group s g (with_view s.here n members (s.group g))) g members request k)
            as (λ b. is_member ((if b then in_view g n (s.process k) else s.process k).standing m.id.group) ≡ true →
            m.id.view ≡ (s.group m.id.group).number → has_delivered (if b then in_view g n (s.process k) else s.process k) m.id ≡ true) [
              | true ↦ λ is here.
                  spent.delivered k given (ap (λ c. is_member (if c then Member else (s.process k).standing m.id.group)) (sym other) ∙ is)
                  here
              | false ↦ λ is here. spent.delivered k given is here
            ]

-- Members that are put out

pub lawful_all_parted : (s : State) (g : GroupNo) (goes : ℕ → Bool) → IsLawful s → IsLawful (all_parted s g goes)
lawful_all_parted s g goes l =
    lawful_from s (all_parted s g goes) l refl placed l.stamped
    (kept_map (IsSpent s) (IsSpent (all_parted s g goes)) (spent_on s (all_parted s g goes) refl (λ h. refl) members same)
    s.got s.kept l.spent)
    l.listed
    (traced_on s (all_parted s g goes) refl (λ k. refl) (λ h. omega arith) (λ h p _ may. may)
    same (each_act_on s goes (Left g) tt) l.traced)
    l.waiting
  where
    same : (k : ℕ) (u : Uid) → has_delivered (s.process k) u ≡ true → has_delivered ((all_parted s g goes).process k) u ≡ true
    same k u is =
        elim (goes k) as (λ b. has_delivered (if b then put_outside g (s.process k) else s.process k) u ≡ true) [ true ↦ is | false ↦ is ]

    members : (k : ℕ) (h : GroupNo) → is_member (((all_parted s g goes).process k).standing h) ≡ true →
        is_member ((s.process k).standing h) ≡ true
    members k h =
        elim (goes k) as (λ b. is_member ((if b then put_outside g (s.process k) else s.process k).standing h) ≡ true →
        is_member ((s.process k).standing h) ≡ true) [
          | true ↦
              elim (group_eq g h) as (λ b. is_member (if b then Outside else (s.process k).standing h) ≡ true →
              is_member ((s.process k).standing h) ≡ true) [ true ↦ λ is. absurd (false≢true is) | false ↦ λ is. is ]
          | false ↦ λ is. is
        ]

    placed : (k : ℕ) (h : GroupNo) → PlacedIn (all_parted s g goes) ((all_parted s g goes).process k) h
    placed k h = elim (goes k) as (λ b. PlacedIn s (if b then put_outside g (s.process k) else s.process k) h) [
      | true ↦
          elim (group_eq g h)
          as (λ b. Placed (is_group s h) (if b then Outside else (s.process k).standing h) (view_of (s.process k).time h) (s.group h)) [
            | true ↦ record {
              known = λ inside. absurd (false≢true (sym inside));
              current = λ is. absurd (false≢true is);
              viewed = λ is. absurd (false≢true is);
            }
            | false ↦ placed_of s l k h
          ]
      | false ↦ placed_of s l k h
    ]

-- members that are left are those that the view names
pub stays_then : (s : State) (g : GroupNo) (skips : Bool) (members : Membership) → Stays (putting_out s g skips members) g members
stays_then s g skips members k = left (is_put_out s g skips members k) refl
  where
    named : (c d : Bool) → (c || not d) ≡ false → d ≡ true
    named true d is = absurd (false≢true (sym is))
    named false true is = refl
    named false false is = absurd (false≢true (sym is))

    left : (b : Bool) → is_put_out s g skips members k ≡ b →
        is_member ((if b then put_outside g (s.process k) else s.process k).standing g) ≡ true →
        is_among proc_eq (local s k) members.list ≡ true
    left true is member =
        absurd (false≢true (sym (ap (λ b. is_member (if b then Outside else (s.process k).standing g)) (group_itself g)) ∙ member))
    left false is member = named skips (is_among proc_eq (local s k) members.list)
        (sym (ap (λ b. b && (skips || not (is_among proc_eq (local s k) members.list))) member) ∙ is)

pub lawful_passing : (s : State) (g : GroupNo) (skips : Bool) (n : ℕ) (members : Membership) (request : ℕ) (cut : CountList) → IsLawful s →
    is_group s g ≡ true → (s.group g).number < n → IsLawful (passing s g skips n members request cut)
lawful_passing s g skips n members request cut l listed later =
    lawful_all_in_view (putting_out s g skips members) g n members request cut (lawful_all_parted s g (is_put_out s g skips members) l)
    listed (stays_then s g skips members) later
