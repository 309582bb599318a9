-- What processes did stays while programs are told something; who is a member once a site passes to a view has entered it, and who is put
-- out has left.
use Rattle.std.proofs.Common.{ap, append_assoc, subst, sym, ◌∙◌}
use Rattle.std.proofs.lemmas.Bool.{eq-eqb, false≢true}
use Rattle.std.proofs.lemmas.List.{append-nil}
use Rattle.std.proofs.lemmas.List.Elements.{Contains-append_left}
use Rattle.std.specs.List.{fold}
use Rattle.std.specs.Prelude.{◌&&◌, ◌++◌, Bool, Contains, List, Some, [], false, if◌then◌else◌, is_some, refl, true, unwrap_or, ℕ, ◌∷◌, ◌≡◌}
use Rattle.cast_ready.specs.Ready.{is_member}
use Rattle.cast_rules.specs.Acts.{Act}
use Rattle.cast_rules.specs.Acts.Act.{Delivered, Entered, Left, Sent}
use Rattle.cast_rules.specs.Entering.{enters, in_view, is_put_out, passing, putting_out}
use Rattle.cast_rules.specs.History.{history}
use Rattle.cast_rules.specs.Rules.Leaving.{tell}
use Rattle.cast_rules.specs.Rules.Rest.{told_of}
use Rattle.cast_rules.specs.State.{State, local_members, noting_act, noting_sent, outside, serials, with_delivery}
use Rattle.cast_message.specs.Membership.{Membership}
use Rattle.cast_message.specs.declared.client.Push.{Push}
use Rattle.cast_message.specs.declared.message.Body.{Body}
use Rattle.cast_message.specs.declared.message.Message.{Message}
use Rattle.cast_types.specs.Counts.{CountList}
use Rattle.cast_types.specs.declared.names.GroupNo.{GroupNo}
use Rattle.cast_view.specs.MemberSide.{is_taken_in}
use Rattle.cast_world.proofs.Acts.{contains_here, sent_delivered, sent_entered, sent_left}
use Rattle.cast_world.proofs.Allowed.{contains_more, passed}
use Rattle.cast_types.specs.declared.names.SiteNo.{SiteNo}
use Rattle.cast_message.specs.declared.site.SiteFrame.{SiteFrame}
use Rattle.cast_world.proofs.Kept.{Any, FullyKeptByTelling}
use Rattle.cast_world.proofs.Laters.{set_all}
use Rattle.cast_world.proofs.Moves.{member_is}
use Rattle.cast_world.proofs.Telling.{tell_keeps}
use Rattle.cast_world.proofs.Views.{still_member}
use Rattle.cast_world.specs.Agreement.{IsPrefix}
use Rattle.cast_world.specs.Laws.{AgreesWith}
use Rattle.cast_message.specs.declared.client.CastKind.TheVariants as kind
use Rattle.cast_message.specs.declared.client.Push.TheVariants as push
use Rattle.cast_message.specs.declared.message.Body.TheVariants as body

-- What processes did goes on

abbrev pub GoesOn : State → State → Type 0
GoesOn s t = (k : ℕ) → IsPrefix (s.acts k) (t.acts k)

more : (acts later : List Act) (x : Act) → IsPrefix acts later → IsPrefix acts (later ++ x ∷ [])
more acts later x goes = (goes.0 ++ x ∷ [], sym (append_assoc acts goes.0 (x ∷ [])) ∙ ap (λ l. l ++ x ∷ []) goes.1)

-- an act that was there is there later
still_there : (acts later : List Act) → IsPrefix acts later → (x : Act) → Contains acts x → Contains later x
still_there acts later goes x at = subst (λ l. Contains l x) goes.1 (Contains-append_left acts goes.0 x at)

-- so what a push says stays so
pub agrees_later : (acts later : List Act) → IsPrefix acts later → (p : Push) → AgreesWith acts p → AgreesWith later p
agrees_later acts later goes (push.Opened p) agrees = tt
agrees_later acts later goes (push.Reply tag refusal) agrees = tt
agrees_later acts later goes (push.View g view members) agrees = (agrees.0, still_there acts later goes (Entered g view agrees.0) agrees.1)
agrees_later acts later goes (push.Deliver u kind payload) agrees =
    (agrees.0, still_there acts later goes (Delivered agrees.0) agrees.1, agrees.2, agrees.3)
agrees_later acts later goes (push.Ejected g view) agrees = still_there acts later goes (Left g) agrees
agrees_later acts later goes (push.Denied g refusal) agrees = tt
agrees_later acts later goes (push.Closed refusal) agrees = tt

pub part_goes_on : (s t : State) (k : ℕ) (g : GroupNo) → GoesOn s t → GoesOn s (outside t k g)
part_goes_on s t k g goes j = go (is_member ((t.process k).standing g))
  where
    go : (b : Bool) → IsPrefix (s.acts j) ((if b then (noting_act t k (Left g)).acts else t.acts) j)
    go true =
        set_all (λ i l. IsPrefix (s.acts i) l) t.acts k (t.acts k ++ Left g ∷ []) goes (more (s.acts k) (t.acts k) (Left g) (goes k)) j
    go false = goes j

pub delivery_goes_on : (s : State) (k : ℕ) (m : Message) → GoesOn s (with_delivery s k m)
delivery_goes_on s k m =
    set_all (λ j l. IsPrefix (s.acts j) l) s.acts k (s.acts k ++ Delivered m ∷ []) (λ j. ([], append-nil (s.acts j)))
    (Delivered m ∷ [], refl)

pub sending_goes_on : (s : State) (k : ℕ) (m : Message) → GoesOn s (noting_sent s k m)
sending_goes_on s k m =
    set_all (λ j l. IsPrefix (s.acts j) l) s.acts k (s.acts k ++ Sent m ∷ []) (λ j. ([], append-nil (s.acts j))) (Sent m ∷ [], refl)

pub passing_goes_on : (s : State) (g : GroupNo) (skipped : Bool) (n : ℕ) (members : Membership) (request : ℕ) (cut : CountList) →
    GoesOn s (passing s g skipped n members request cut)
passing_goes_on s g skipped n members request cut k =
    two (enters (putting_out s g skipped members) g members request k) (one (is_put_out s g skipped members k))
  where
    one : (b : Bool) → IsPrefix (s.acts k) (if b then s.acts k ++ Left g ∷ [] else s.acts k)
    one true = (Left g ∷ [], refl)
    one false = ([], append-nil (s.acts k))

    two : (b : Bool) → IsPrefix (s.acts k) ((putting_out s g skipped members).acts k) →
        IsPrefix (s.acts k)
        (if b then (putting_out s g skipped members).acts k ++ Entered g n cut ∷ [] else (putting_out s g skipped members).acts k)
    two true goes = more (s.acts k) ((putting_out s g skipped members).acts k) (Entered g n cut) goes
    two false goes = goes

pub goes_on_telling : (s : State) → FullyKeptByTelling Any (GoesOn s)
goes_on_telling s = record {
  emits = λ t to f i says adds draws. i;
  books = λ t moment casts i. i;
  pushes = λ t k p i agrees. i;
  owes = λ t key due i owes wants lacks awaited. i;
  renews = λ t key due i owes owed. i;
  pays = λ t test i. i;
  releases = λ t passes i. i;
  sets_session = λ t k v i same. i;
  parts = λ t k g i. part_goes_on s t k g i;
  requests = λ t g what p i inside. i;
}

-- Several programs are told the same

abbrev pub told_all : Push → List ℕ → State → State
told_all p who s = fold (λ t k. tell history t k p) s who

abbrev pub AllAgree : Push → List ℕ → State → Type 0
AllAgree p who s = (k : ℕ) → Contains who k → AgreesWith (s.acts k) p

module _ (p : Push) where
  told_goes_on : (s : State) (k : ℕ) → AgreesWith (s.acts k) p → GoesOn s (tell history s k p)
  told_goes_on s k agrees = tell_keeps (GoesOn s) (goes_on_telling s) s k p (λ j. ([], append-nil (s.acts j))) agrees

  still_agree : (k : ℕ) (who : List ℕ) (s : State) → AllAgree p (k ∷ who) s → AllAgree p who (tell history s k p)
  still_agree k who s agree j at =
      agrees_later (s.acts j) ((tell history s k p).acts j) (told_goes_on s k (agree k (contains_here [] who k)) j)
      p (agree j (contains_more k who j at))

  module _ (I : State → Type 0) {Came : SiteNo → SiteFrame → Type 0} (t : FullyKeptByTelling Came I) where
    pub tell_all_keeps : (who : List ℕ) (s : State) → I s → AllAgree p who s → I (told_all p who s)
    tell_all_keeps [] s i agree = i
    tell_all_keeps (k ∷ who) s i agree =
        tell_all_keeps who (tell history s k p) (tell_keeps I t s k p i (agree k (contains_here [] who k))) (still_agree k who s agree)

  pub tell_all_goes_on : (who : List ℕ) (s : State) → AllAgree p who s → GoesOn s (told_all p who s)
  tell_all_goes_on who s agree = tell_all_keeps (GoesOn s) (goes_on_telling s) who s (λ j. ([], append-nil (s.acts j))) agree

-- A site passes to a view

module _ (s : State) (g : GroupNo) (skipped : Bool) (n : ℕ) (members : Membership) (request : ℕ) (cut : CountList) where
  abbrev left : State
  left = putting_out s g skipped members

  abbrev entered : State
  entered = passing s g skipped n members request cut

  -- who was put out has left the group
  pub put_out_left : AllAgree (push.Ejected g n) (history.put_out s g skipped members) entered
  put_out_left k at =
      go (enters left g members request k) (is_put_out s g skipped members k) (passed (is_put_out s g skipped members) (serials s) k at)
    where
      go : (b out : Bool) → out ≡ true → Contains (if b then (if out then s.acts k ++ Left g ∷ [] else s.acts k) ++ Entered g n cut ∷ []
          else if out then s.acts k ++ Left g ∷ [] else s.acts k) (Left g)
      go true true e = Contains-append_left (s.acts k ++ Left g ∷ []) (Entered g n cut ∷ []) (Left g) (contains_here (s.acts k) [] (Left g))
      go false true e = contains_here (s.acts k) [] (Left g)
      go b false e = absurd (false≢true e)

  -- who is a member has entered the view
  pub members_entered : AllAgree (push.View g n members) (local_members entered g) entered
  members_entered k at = (
    cut,
    go (enters left g members request k) refl (passed (λ j. is_member ((entered.process j).standing g)) (serials entered) k at),
  )
    where
      -- a member that was not put out is taken in
      taken : is_member ((left.process k).standing g) ≡ true → enters left g members request k ≡ true
      taken member =
          let is = member_is ((left.process k).standing g) member in
          let named = (still_member s g skipped members k is).2 in
          λ i. is_taken_in request (is i) && named i

      go : (b : Bool) → enters left g members request k ≡ b →
          is_member ((if b then in_view g n (left.process k) else left.process k).standing g) ≡ true →
          Contains (if b then left.acts k ++ Entered g n cut ∷ [] else left.acts k) (Entered g n cut)
      go true e member = contains_here (left.acts k) [] (Entered g n cut)
      go false e member = absurd (false≢true (sym e ∙ taken member))

-- Nothing is sent where a process parts or delivers, or a site passes to a view

abbrev pub SendsNone : State → State → Type 0
SendsNone s t = (k : ℕ) (m : Message) → Contains (t.acts k) (Sent m) → Contains (s.acts k) (Sent m)

pub part_sends_none : (s : State) (k : ℕ) (g : GroupNo) → SendsNone s (outside s k g)
part_sends_none s k g j m c = go (is_member ((s.process k).standing g)) c
  where
    go : (b : Bool) → Contains ((if b then (noting_act s k (Left g)).acts else s.acts) j) (Sent m) → Contains (s.acts j) (Sent m)
    go true d =
        set_all (λ i l. Contains l (Sent m) → Contains (s.acts i) (Sent m)) s.acts k (s.acts k ++ Left g ∷ []) (λ i e. e)
        (λ e. sent_left (s.acts k) g m e) j d
    go false d = d

pub delivery_sends_none : (s : State) (k : ℕ) (x : Message) → SendsNone s (with_delivery s k x)
delivery_sends_none s k x j m c =
    set_all (λ i l. Contains l (Sent m) → Contains (s.acts i) (Sent m)) s.acts k (s.acts k ++ Delivered x ∷ []) (λ i e. e)
    (λ e. sent_delivered (s.acts k) x m e) j c

pub passing_sends_none : (s : State) (g : GroupNo) (skipped : Bool) (n : ℕ) (members : Membership) (request : ℕ) (cut : CountList) →
    SendsNone s (passing s g skipped n members request cut)
passing_sends_none s g skipped n members request cut k m c =
    one (is_put_out s g skipped members k) (two (enters (putting_out s g skipped members) g members request k) c)
  where
    one : (b : Bool) → Contains (if b then s.acts k ++ Left g ∷ [] else s.acts k) (Sent m) → Contains (s.acts k) (Sent m)
    one true d = sent_left (s.acts k) g m d
    one false d = d

    two : (b : Bool) →
        Contains (if b then (putting_out s g skipped members).acts k ++ Entered g n cut ∷ [] else (putting_out s g skipped members).acts k)
        (Sent m) → Contains ((putting_out s g skipped members).acts k) (Sent m)
    two true d = sent_entered ((putting_out s g skipped members).acts k) g n cut m d
    two false d = d

-- A delivery

pub told_agrees : (acts : List Act) (m : Message) → Contains acts (Delivered m) → (p : Push) → told_of m.id m.body ≡ Some p →
    AgreesWith acts p
told_agrees acts m at p e = go m.body refl e
  where
    told_is : (q : Push) → Some q ≡ Some p → AgreesWith acts q → AgreesWith acts p
    told_is q is agrees = subst (AgreesWith acts) (ap (λ o. unwrap_or o p) is) agrees

    go : (b : Body) → m.body ≡ b → told_of m.id b ≡ Some p → AgreesWith acts p
    go (body.Causal payload) is told = told_is (push.Deliver m.id kind.Causal payload) told (m, at, refl, is)
    go (body.Atomic payload) is told = told_is (push.Deliver m.id kind.Atomic payload) told (m, at, refl, is)
    go (body.Order sequence) is told = absurd (false≢true (ap is_some told))

pub delivered_now : (s : State) (k : ℕ) (m : Message) → Contains ((with_delivery s k m).acts k) (Delivered m)
delivered_now s k m =
    subst (λ l. Contains l (Delivered m)) (sym (ap (λ b. if b then s.acts k ++ Delivered m ∷ [] else s.acts k) (eq-eqb k k refl)))
    (contains_here (s.acts k) [] (Delivered m))
