-- What rules do to the records, but that a session opens or is gone, leaves the processes of the queue's rows and the sessions that are
-- gone.
use Rattle.std.proofs.Common.{◌≡◌, ℕ, Bool, true, false, List, [], ◌∷◌, map, filter}
use Rattle.std.proofs.Common.{Option, Some, None, inl, inr, refl, sym, ap, subst, ◌∙◌}
use Rattle.std.specs.Prelude.{◌==◌, ◌&&◌, if◌then◌else◌}
use Rattle.std.specs.List.{fold}
use Rattle.std.proofs.lemmas.Bool.{false≢true, cases_Bool, eqb-true}
use Rattle.cast_types.specs.declared.names.SiteNo.{SiteNo}
use Rattle.cast_types.specs.declared.names.GroupNo.{GroupNo}
use Rattle.cast_types.specs.declared.names.Proc.{Proc}
use Rattle.cast_types.specs.declared.names.Key.{Key}
use Rattle.cast_types.specs.declared.names.Uid.{Uid}
use Rattle.cast_types.specs.declared.names.Standing.TheVariants.{Outside, Joining, Member}
use Rattle.cast_types.specs.Names.{site_eq}
use Rattle.cast_clock.specs.Times.{entering}
use Rattle.cast_message.specs.Membership.{Membership}
use Rattle.cast_ready.specs.declared.offered.Offered.{Offered}
use Rattle.cast_ready.specs.declared.row.Row.{Row}
use Rattle.cast_ready.specs.declared.row.ProcessUpdate.{ProcessUpdate}
use Rattle.cast_ready.specs.declared.row.ProcessUpdate.TheVariants as fact
use Rattle.cast_ready.specs.Rows.{told_row, delivered_row}
use Rattle.cast_delay.specs.Queue.{change_row, offered_under, after_delivery}
use Rattle.cast_delay.proofs.RowLemmas.{names_ended}
use Rattle.cast_events.specs.declared.session.Status.{Status}
use Rattle.cast_events.specs.declared.session.Status.TheVariants.{Open, Closed, Gone}
use Rattle.cast_events.specs.Session.{is_open_status, is_gone_status}
use Rattle.cast_view.specs.MemberSide.{is_taken_in}
use Rattle.cast_rules.specs.Rules.Commands.{message_sent}
use Rattle.cast_rules.specs.Rules.Release.{is_free, let_go}
use Rattle.cast_rules.proofs.Rules.Follows.{IsInvariant, IsInvariantOfAll}
use Rattle.cast_domain.specs.GivenSessions.{SessionRecord, status_in}
use Rattle.cast_domain.proofs.Statuses.{found_first}
use Rattle.cast_domain.specs.Records.{Records}
use Rattle.cast_domain.specs.PartCalls.{local_in, serials_in, record_at, standing_of, time_of, with_status, tell_in}
use Rattle.cast_domain.specs.ViewCalls.{enter_in, take_in, view_in, pass_in, is_put_out_in, put_out_in, put_out_if_in, put_out_all_in}
use Rattle.cast_domain.specs.ReleaseCalls.{release_in, release_all_in, is_ended_in}
use Rattle.cast_domain.specs.Calls.{records}
use Rattle.cast_domain.specs.RestCalls.{resting_records}
use Rattle.cast_domain.proofs.Rows.{names_of}
use Rattle.cast_domain.proofs.ProcessChanges.{told_keeps, same_names}

-- a delivery leaves the rows of the same processes
pub names_after : (offered : List Offered) (p : Proc) (key : Key) (rows : List Row) →
    map (λ (row : Row). row.process) (after_delivery offered p key rows) ≡ map (λ (row : Row). row.process) rows
names_after offered p key rows = names_found (offered_under offered key)
  where
    names_found : (o : Option Offered) → map (λ (row : Row). row.process)
        (elim o as (λ _. List Row) [ Some x ↦ change_row p (delivered_row x.id x.times) rows | None ↦ rows ])
        ≡ map (λ (row : Row). row.process) rows
    names_found (Some x) = same_names p (delivered_row x.id x.times) (λ _. refl) rows
    names_found None = refl

-- records of this site whose queue has rows of these processes, and of whose sessions these are gone
abbrev pub Remain : SiteNo → List Proc → (ℕ → Bool) → Records → Type 0
Remain site names gone r =
    (r.site ≡ site) × (names_of r.delay.rows ≡ names) × ((k : ℕ) → is_gone_status (status_in r.sessions k) ≡ gone k)

-- which of the records' sessions are gone
abbrev pub gone_of : Records → ℕ → Bool
gone_of r k = is_gone_status (status_in r.sessions k)

-- as records had them
abbrev pub RemainAs : Records → Records → Type 0
RemainAs r = Remain r.site (names_of r.delay.rows) (gone_of r)

pub remain_as : (r : Records) → RemainAs r r
remain_as r = (refl, refl, λ k. refl)

-- An open session that is closed is not gone, and no other changes

closed_is : (x : SessionRecord) (k : ℕ) → x.serial == k ≡ true → with_status k Closed x ≡ record x { status = Closed }
closed_is x k same = ap (λ b. if b then record x { status = Closed } else x) same

closed_not : (x : SessionRecord) (k : ℕ) → x.serial == k ≡ false → with_status k Closed x ≡ x
closed_not x k other = ap (λ b. if b then record x { status = Closed } else x) other

same_serial : (x : SessionRecord) (k : ℕ) → (with_status k Closed x).serial ≡ x.serial
same_serial x k =
    elim (x.serial == k) as (λ b. (if b then record x { status = Closed } else x).serial ≡ x.serial) [ true ↦ refl | false ↦ refl ]

open_not_gone : (status : Status) → is_open_status status ≡ true → false ≡ is_gone_status status
open_not_gone Open is = refl
open_not_gone Closed is = refl
open_not_gone Gone is = absurd (false≢true is)

-- the later records say of it what others do
later_same : (b : Bool) (first : SessionRecord) (some others : List SessionRecord) (j : ℕ) → status_in some j ≡ status_in others j →
    found_first b first some j ≡ found_first b first others j
later_same true first some others j same = refl
later_same false first some others j same = same

closed_gone : (rows : List SessionRecord) (k : ℕ) → is_open_status (status_in rows k) ≡ true → (j : ℕ) →
    is_gone_status (status_in (map (with_status k Closed) rows) j) ≡ is_gone_status (status_in rows j)
closed_gone rows k is j = by_serial (k == j) refl
  where
    other : (xs : List SessionRecord) → k == j ≡ false → status_in (map (with_status k Closed) xs) j ≡ status_in xs j
    other [] apart = refl
    other (x ∷ xs) apart = elim (cases_Bool (x.serial == k)) [
      | inl here ↦
          let not_here : x.serial == j ≡ false = ap (λ i. i == j) (eqb-true x.serial k here) ∙ apart in
          ap (λ i. found_first (i == j) (with_status k Closed x) (map (with_status k Closed) xs) j) (same_serial x k)
          ∙ ap (λ b. found_first b (with_status k Closed x) (map (with_status k Closed) xs) j) not_here
          ∙ other xs apart
          ∙ sym (ap (λ b. found_first b x xs j) not_here)
      | inr elsewhere ↦
          ap (λ (y : SessionRecord). found_first (y.serial == j) y (map (with_status k Closed) xs) j) (closed_not x k elsewhere)
          ∙ later_same (x.serial == j) x (map (with_status k Closed) xs) xs j (other xs apart)
    ]

    own : (xs : List SessionRecord) → is_open_status (status_in xs k) ≡ true →
        is_gone_status (status_in (map (with_status k Closed) xs) k) ≡ is_gone_status (status_in xs k)
    own [] none = absurd (false≢true none)
    own (x ∷ xs) there = elim (cases_Bool (x.serial == k)) [
      | inl here ↦
          ap (λ (y : SessionRecord). is_gone_status (found_first (y.serial == k) y (map (with_status k Closed) xs) k)) (closed_is x k here)
          ∙ ap (λ b. is_gone_status (found_first b (record x { status = Closed }) (map (with_status k Closed) xs) k)) here
          ∙ open_not_gone (status_in (x ∷ xs) k) there
      | inr elsewhere ↦
          ap (λ (y : SessionRecord). is_gone_status (found_first (y.serial == k) y (map (with_status k Closed) xs) k))
          (closed_not x k elsewhere)
          ∙ ap (λ b. is_gone_status (found_first b x (map (with_status k Closed) xs) k)) elsewhere
          ∙ own xs (ap (λ b. is_open_status (found_first b x xs k)) (sym elsewhere) ∙ there)
          ∙ sym (ap (λ b. is_gone_status (found_first b x xs k)) elsewhere)
    ]

    by_serial : (b : Bool) → k == j ≡ b → is_gone_status (status_in (map (with_status k Closed) rows) j) ≡ is_gone_status (status_in rows j)
    by_serial true same =
        subst (λ i. is_gone_status (status_in (map (with_status k Closed) rows) i) ≡ is_gone_status (status_in rows i)) (eqb-true k j same)
        (own rows is)
    by_serial false apart = ap is_gone_status (other rows apart)

module _ (site : SiteNo) (names : List Proc) (gone : ℕ → Bool) where
  abbrev Same : Records → Type 0
  Same = Remain site names gone

  pub remain_tell : (r : Records) → Same r → (p : Proc) (f : ProcessUpdate) → Same (tell_in r p f)
  remain_tell r h p f = (h.0, same_names p (told_row f) (told_keeps f) r.delay.rows ∙ h.1, h.2)

  pub remain_fold : {X : Type 0} (f : Records → X → Records) → ((r : Records) → Same r → (x : X) → Same (f r x)) →
      (xs : List X) (r : Records) → Same r → Same (fold f r xs)
  remain_fold f each [] r h = h
  remain_fold f each (x ∷ xs) r h = remain_fold f each xs (f r x) (each r h x)

  pub remain_release : (r : Records) → Same r → (passes : Uid → Bool) → Same (release_all_in r passes)
  remain_release r h passes =
      remain_fold release_in (λ x same key. same) (map (λ x. x.key) (filter (λ x. passes x.message.id) r.part.kept)) r h

  -- a member is put out
  pub remain_put_out : (g : GroupNo) (skips : Bool) (members : Membership) (r : Records) → Same r → (k : ℕ) →
      Same (put_out_if_in g skips members r k)
  remain_put_out g skips members r h k =
      elim (is_put_out_in g skips members r k) as (λ b. Same (if b then put_out_in g r (local_in r k) else r)) [
        | true ↦ remain_tell r h (local_in r k) (fact.Standing g Outside)
        | false ↦ h
      ]

  -- processes enter a view
  remain_take : (g : GroupNo) (n : ℕ) (request : ℕ) (r : Records) → Same r → (p : Proc) → Same (take_in g n request r p)
  remain_take g n request r h p =
      elim (site_eq p.site r.site && is_taken_in request (standing_of r.delay p g)) as (λ b. Same (if b then enter_in g n r p else r)) [
        | true ↦
            let timed : Records = tell_in r p (fact.Time (entering (time_of r.delay p) g n)) in
            remain_tell timed (remain_tell r h p (fact.Time (entering (time_of r.delay p) g n))) p (fact.Standing g Member)
        | false ↦ h
      ]

  pub remain_pass_to : (r : Records) → Same r → (i : ℕ) (skips : Bool) (n : ℕ) (members : Membership) (request : ℕ) →
      Same (pass_in r i skips n members request)
  remain_pass_to r h i skips n members request =
      let g : GroupNo = (record_at r.groups i).name in
      let left : Records = put_out_all_in g skips members r in
      let out : Same left = remain_fold (put_out_if_in g skips members) (remain_put_out g skips members) (serials_in r) r h in
      remain_fold (take_in (record_at left.groups i).name n request) (remain_take (record_at left.groups i).name n request)
      members.list (view_in left i n members)
      (out.0, names_ended (record_at left.groups i).name n left.delay.rows ∙ out.1, out.2)

  pub moves_remain : IsInvariant records Same
  moves_remain = record {
    send = λ r h to f. h;
    note_owed = λ r h key. h;
    note_resent = λ r h key. h;
    pay = λ r h key. h;
    pay_upto = λ r h key. h;
    pay_view = λ r h g. h;
    note_moment = λ r h t. h;
    note_ack = λ r h from u. h;
    note_stable = λ r h u. h;
  }

  pub all_remain : IsInvariantOfAll records Same
  all_remain = record {
    keeps = moves_remain;
    push = λ r h k given room p. h;
    note_cast = λ r h. h;
    note_joining = λ r h k given g i at number heard. remain_tell r h (local_in r k) (fact.Standing g (Joining number heard));
    note_outside = λ r h k g is. remain_tell r h (local_in r k) (fact.Standing g Outside);
    sends = λ r h i k g content sent. remain_tell r h (local_in r k) (fact.Time (message_sent records r k g i content).times);
    receive = λ r h i from m taken. h;
    brings = λ r h i m brought. h;
    freeze = λ r h i. h;
    pend = λ r h i p tail pended. h;
    note_request = λ r h i what p. h;
    note_answer = λ r h i. h;
    move_home = λ r h i move. h;
    enter_view = λ r h i g skips n members request cut is. remain_pass_to r h i skips n members request;
    release_ended = λ r h i. remain_release r h (is_ended_in r i);
    close = λ r h k given refusal. (h.0, h.1, λ j. closed_gone r.sessions k given j ∙ h.2 j);
  }

  pub remain_let_go : (r : Records) → Same r → Same (let_go records resting_records r)
  remain_let_go r h = remain_release r h (is_free records resting_records r)
