-- Members that a view lacks are put out one by one, and in the history at once; then processes enter it.
use Rattle.std.proofs.Common.{◌≡◌, ℕ, zero, suc, ◌+◌, ◌<◌, ◌≤◌, Bool, true, false, not, ◌&&◌, ◌||◌, [], ◌∷◌}
use Rattle.std.proofs.Common.{◌++◌, filter, Some, None, ◌⊎◌, inl, inr, refl, sym, ap, subst, ◌∙◌, arith}
use Rattle.std.specs.Prelude.{◌==◌, if◌then◌else◌, slice_get}
use Rattle.std.specs.List.{fold, range_with_len}
use Rattle.std.specs.Option.{IsSome}
use Rattle.std.proofs.lemmas.Bool.{cases_Bool, false≢true, eqb-true, ne_eqb, and_parts, or_from}
use Rattle.cast_types.specs.declared.names.GroupNo.{GroupNo}
use Rattle.cast_types.specs.declared.names.Standing.{Standing}
use Rattle.cast_types.specs.declared.names.Standing.TheVariants.{Outside, Joining, Member}
use Rattle.cast_types.specs.Names.{proc_eq}
use Rattle.cast_types.specs.Sets.{is_among}
use Rattle.cast_types.specs.Counts.{CountList}
use Rattle.cast_types.proofs.Bools.{and_none}
use Rattle.cast_message.specs.Membership.{Membership, is_members}
use Rattle.cast_ready.specs.declared.row.ProcessUpdate.TheVariants as fact
use Rattle.cast_ready.specs.Ready.{is_member, is_outside}
use Rattle.cast_delay.specs.Queue.{row_of}
use Rattle.cast_domain.specs.declared.record.GroupRecord.{GroupRecord}
use Rattle.cast_rules.specs.State.{State, local, serials, is_group, local_members, set_standing}
use Rattle.cast_rules.specs.Entering.{put_outside, is_put_out, putting_out, passing}
use Rattle.cast_rules.specs.Acts.Act.{Left}
use Rattle.cast_rules.specs.Lawful.{IsLawful}
use Rattle.cast_rules.proofs.LawfulViews.{lawful_all_parted}
use Rattle.cast_domain.specs.Records.{Records}
use Rattle.cast_domain.specs.PartCalls.{local_in, serials_in, record_at, standing_of, tell_in}
use Rattle.cast_domain.specs.ViewCalls.{put_out_in, is_put_out_in, put_out_if_in, put_out_all_in}
use Rattle.cast_domain.specs.ViewCalls.{begin_view_in, pass_in, gone_in, members_in}
use Rattle.cast_domain.specs.Fits.{Fits}
use Rattle.cast_domain.proofs.Acting.{quiet_if, quiet_left, logs_quiet}
use Rattle.cast_domain.proofs.Standing.{member_of_none, fits_if, record_there, standing_there}
use Rattle.cast_domain.proofs.ProcessChanges.{fits_told, fits_acts}
use Rattle.cast_domain.proofs.Statuses.{within, not_given}
use Rattle.cast_domain.proofs.Entering.{or_none, and_true, changed, changed_one, has_row, fits_complete}
use Rattle.cast_domain.proofs.Rows.{row_ungiven, row_untested, filter_within}
use Rattle.cast_domain.proofs.Rounds.{serials_there, round_put_out}

-- who is a member is not outside
member_inside : (v : Standing) → is_member v ≡ true → is_outside v ≡ false
member_inside Outside is = absurd (false≢true is)
member_inside (Joining number heard) is = absurd (false≢true is)
member_inside Member is = refl

-- a process changed by its serial is the one at that place
parted_here : (g : GroupNo) (s : State) (k : ℕ) →
    set_standing s k g Outside ≡ record s { process = λ j. if k == j then put_outside g (s.process j) else s.process j }
parted_here g s k = λ i. record s { process = λ j. at j i }
  where
    at : (j : ℕ) →
        (if k == j then put_outside g (s.process k) else s.process j) ≡ (if k == j then put_outside g (s.process j) else s.process j)
    at j =
        elim (k == j) as (λ b. (k == j) ≡ b →
        (if b then put_outside g (s.process k) else s.process j) ≡ (if b then put_outside g (s.process j) else s.process j)) [
          | true ↦ λ same. ap (λ x. put_outside g (s.process x)) (eqb-true k j same)
          | false ↦ λ _. refl
        ] refl

module _ (g : GroupNo) (skips : Bool) (members : Membership) (t : State) where
  abbrev gone : (ℕ → Bool) → State
  gone e = changed (put_outside g) t e

  abbrev goes : ℕ → Bool
  goes k = is_put_out t g skips members k

  -- a process of which nothing was changed yet is put out on both sides, or on neither
  goes_there : (r : Records) (e : ℕ → Bool) → Fits r (gone e) → (k : ℕ) → e k ≡ false → is_put_out_in g skips members r k ≡ goes k
  goes_there r e f k fresh =
      let name : local_in r k ≡ local t k = (λ i. record { site = (f.core i).site; serial = k }) in
      let standing : standing_of r.delay (local t k) g ≡ (t.process k).standing g =
      standing_there r (gone e) f k g ∙ ap (λ b. (if b then put_outside g (t.process k) else t.process k).standing g) fresh in
      (λ i. is_member (standing_of r.delay (name i) g) && (skips || not (is_among proc_eq (name i) members.list)))
      ∙ ap (λ v. is_member v && (skips || not (is_among proc_eq (local t k) members.list))) standing

  -- one is put out
  fits_put_out : (r : Records) (e : ℕ → Bool) → Fits r (gone e) → (k : ℕ) → e k ≡ false → goes k ≡ true →
      Fits (put_out_in g r (local_in r k)) (gone (λ j. e j || (k == j)))
  fits_put_out r e f k fresh out =
      let u : State = gone e in
      let member = (and_parts (is_member ((t.process k).standing g)) _ out).0 in
      let standing : standing_of r.delay (local t k) g ≡ (t.process k).standing g =
      standing_there r u f k g ∙ ap (λ b. (if b then put_outside g (t.process k) else t.process k).standing g) fresh in
      let row : IsSome (row_of r.delay.rows (local t k)) =
      has_row (row_of r.delay.rows (local t k)) g (ap is_outside standing ∙ member_inside ((t.process k).standing g) member) in
      let told : Fits (tell_in r (local t k) (fact.Standing g Outside)) (set_standing u k g Outside) =
      fits_told r u f k row (fact.Standing g Outside) (λ inside. absurd (false≢true (sym inside))) refl (λ h _. omega arith) in
      subst (λ p. Fits (tell_in r p (fact.Standing g Outside)) (gone (λ j. e j || (k == j))))
      (λ i. record { site = (sym fits_site i); serial = k })
      (subst (Fits (tell_in r (local t k) (fact.Standing g Outside))) (parted_here g u k ∙ changed_one (put_outside g) t e k fresh) told)
    where
      fits_site : r.site ≡ t.here
      fits_site = ap (λ c. c.site) f.core

  -- all serials from one on
  fits_put_out_from : (m a : ℕ) (r : Records) (e : ℕ → Bool) → Fits r (gone e) → ((k : ℕ) → a ≤ k → e k ≡ false) →
      Fits (fold (put_out_if_in g skips members) r (range_with_len a m)) (gone (λ j. e j || (goes j && within a m j)))
  fits_put_out_from zero a r e f fresh = subst (λ x. Fits r (gone x)) (λ i j. none j i) f
    where
      none : (j : ℕ) → e j ≡ (e j || (goes j && false))
      none j = sym (ap (λ b. e j || b) (and_none (goes j)) ∙ or_none (e j))
  fits_put_out_from (suc m) a r e f fresh =
      let one : Fits (put_out_if_in g skips members r a) (gone (λ j. e j || (goes a && (a == j)))) =
      subst (λ x. Fits (put_out_if_in g skips members r a) x) (known (goes a))
      (fits_if (is_put_out_in g skips members r a) (goes a) (put_out_in g r (local_in r a)) r (gone (λ j. e j || (a == j))) (gone e)
      (goes_there r e f a (fresh a (omega arith)))
      (λ is. fits_put_out r e f a (fresh a (omega arith)) (sym (goes_there r e f a (fresh a (omega arith))) ∙ is))
      (λ _. f)) in
      subst (λ x. Fits (fold (put_out_if_in g skips members) (put_out_if_in g skips members r a) (range_with_len (a + 1) m)) (gone x))
      (λ i j. joined j i)
      (fits_put_out_from m (a + 1) (put_out_if_in g skips members r a) (λ j. e j || (goes a && (a == j))) one
      (λ k above. or_from (e k) (goes a && (a == k)) (fresh k (omega (arith, above)))
      (ap (λ b. goes a && b) (ne_eqb a k (λ same. omega (arith, same, above))) ∙ and_none (goes a))))
    where
      known : (b : Bool) → (if b then gone (λ j. e j || (a == j)) else gone e) ≡ gone (λ j. e j || (b && (a == j)))
      known true = refl
      known false = λ i. gone (λ j. sym (or_none (e j)) i)

      parts : (x y z w : Bool) → ((x || (y && z)) || (y && w)) ≡ (x || (y && (z || w)))
      parts true y z w = refl
      parts false true z w = refl
      parts false false z w = refl

      -- the first one is put out, or not, as any
      first : (j : ℕ) → (goes a && (a == j)) ≡ (goes j && (a == j))
      first j = elim (a == j) as (λ b. (a == j) ≡ b → (goes a && b) ≡ (goes j && b)) [
        | true ↦ λ same. ap (λ x. goes x && true) (eqb-true a j same)
        | false ↦ λ _. and_none (goes a) ∙ sym (and_none (goes j))
      ] refl

      joined : (j : ℕ) → ((e j || (goes a && (a == j))) || (goes j && within (a + 1) m j)) ≡ (e j || (goes j && within a (suc m) j))
      joined j = ap (λ b. (e j || b) || (goes j && within (a + 1) m j)) (first j) ∙ parts (e j) (goes j) (a == j) (within (a + 1) m j)

-- all members that a view lacks are put out
fits_put_out_all : (g : GroupNo) (skips : Bool) (members : Membership) (r : Records) (s : State) → Fits r s →
    Fits (put_out_all_in g skips members r) (putting_out s g skips members)
fits_put_out_all g skips members r s f =
    let goes : ℕ → Bool = is_put_out s g skips members in
    let t : State = record s { acts = λ k. if goes k then s.acts k ++ Left g ∷ [] else s.acts k } in
    let f0 : Fits r t =
    fits_acts r s f t.acts r.orders
    (logs_quiet s t.acts r.orders (λ k. quiet_if (goes k) (s.acts k) (s.acts k ++ Left g ∷ []) (quiet_left g (s.acts k))) f.orders) in
    let all : Fits (fold (put_out_if_in g skips members) r (range_with_len 1 t.used))
    (changed (put_outside g) t (λ j. goes j && within 1 t.used j)) =
    fits_put_out_from g skips members t t.used 1 r (λ j. false) f0 (λ k _. refl) in
    subst (λ x. Fits x (putting_out s g skips members)) (sym (round_put_out g skips members r s f))
    (subst (λ x. Fits (fold (put_out_if_in g skips members) r (range_with_len 1 t.used)) x)
    (λ i. changed (put_outside g) t (λ j. given j (cases_Bool (within 1 t.used j)) i))
    all)
  where
    given : (j : ℕ) → (within 1 s.used j ≡ true) ⊎ (within 1 s.used j ≡ false) →
        (is_put_out s g skips members j && within 1 s.used j) ≡ is_put_out s g skips members j
    given j (inl is) = ap (λ b. is_put_out s g skips members j && b) is ∙ and_true (is_put_out s g skips members j)
    given j (inr past) =
        ap (λ b. is_put_out s g skips members j && b) past
        ∙ and_none (is_put_out s g skips members j)
        ∙ sym (ap (λ b. b && (skips || not (is_among proc_eq (local s j) members.list)))
        (member_of_none r s f j (row_ungiven s r.delay.rows f.processes.has_row s.used f.processes.rows j (not_given s.used j past)) g))

-- the site passes to the next view
pub fits_pass : (r : Records) (s : State) → Fits r s → IsLawful s → (i : ℕ) (g : GroupNo) → slice_get s.config.groups i ≡ Some g →
    is_group s g ≡ true → (skips : Bool) (n : ℕ) (members : Membership) (request : ℕ) (cut : CountList) → is_members members ≡ true →
    (s.group g).number < n → Fits (pass_in r i skips n members request) (passing s g skips n members request cut)
fits_pass r s f l i g at listed skips n members request cut typed newer =
    let left : State = putting_out s g skips members in
    let name : (record_at r.groups i).name ≡ g = ap (λ (x : GroupRecord). x.name) (record_there r s f i g at) in
    subst (λ h. Fits (begin_view_in (put_out_all_in h skips members r) i n members request) (passing s g skips n members request cut))
    (sym name)
    (fits_complete (put_out_all_in g skips members r) left (fits_put_out_all g skips members r s f)
    (lawful_all_parted s g (is_put_out s g skips members) l) i g at listed n members request cut typed newer)

-- Who is told

-- who has no row is no member, so the serials of rows that pass a test that members alone pass are all that do
passing_rows : (p q : ℕ → Bool) (r : Records) (s : State) (f : Fits r s) → ((k : ℕ) → p k ≡ q k) →
    ((k : ℕ) → f.processes.has_row k ≡ false → q k ≡ false) → filter p (serials_in r) ≡ filter q (serials s)
passing_rows p q r s f same none =
    ap (filter p) (serials_there r s f)
    ∙ (λ i. filter (λ k. same k i) (filter f.processes.has_row (serials s)))
    ∙ filter_within q f.processes.has_row none (serials s)

-- a process whose serial has no row
rowless : (r : Records) (s : State) (f : Fits r s) (k : ℕ) → f.processes.has_row k ≡ false → row_of r.delay.rows (local s k) ≡ None
rowless r s f k out = row_untested s r.delay.rows f.processes.has_row s.used f.processes.rows k out

pub members_there : (r : Records) (s : State) → Fits r s → (i : ℕ) (g : GroupNo) → slice_get s.config.groups i ≡ Some g →
    members_in r i ≡ local_members s g
members_there r s f i g at =
    let name : (record_at r.groups i).name ≡ g = ap (λ (x : GroupRecord). x.name) (record_there r s f i g at) in
    ap (λ h. filter (λ k. is_member (standing_of r.delay (local_in r k) h)) (serials_in r)) name
    ∙ passing_rows (λ k. is_member (standing_of r.delay (local_in r k) g)) (λ k. is_member ((s.process k).standing g)) r s f
    (λ k. (λ j. is_member (standing_of r.delay (record { site = (f.core j).site; serial = k }) g))
    ∙ ap is_member (standing_there r s f k g))
    (λ k out. member_of_none r s f k (rowless r s f k out) g)

pub gone_there : (r : Records) (s : State) → Fits r s → (i : ℕ) (g : GroupNo) → slice_get s.config.groups i ≡ Some g →
    (skips : Bool) (members : Membership) → gone_in r i skips members ≡ filter (is_put_out s g skips members) (serials s)
gone_there r s f i g at skips members =
    let name : (record_at r.groups i).name ≡ g = ap (λ (x : GroupRecord). x.name) (record_there r s f i g at) in
    ap (λ h. filter (is_put_out_in h skips members r) (serials_in r)) name
    ∙ passing_rows (is_put_out_in g skips members r) (is_put_out s g skips members) r s f
    (λ k. (λ j. is_member (standing_of r.delay (record { site = (f.core j).site; serial = k }) g)
    && (skips || not (is_among proc_eq (record { site = (f.core j).site; serial = k }) members.list)))
    ∙ ap (λ v. is_member v && (skips || not (is_among proc_eq (local s k) members.list))) (standing_there r s f k g))
    (λ k out. ap (λ b. b && (skips || not (is_among proc_eq (local s k) members.list))) (member_of_none r s f k (rowless r s f k out) g))
