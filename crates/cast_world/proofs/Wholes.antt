-- What the moves of a history keep, each entry and each session by itself, is kept where telling programs is a part of the move.
use Rattle.std.specs.List.{fold}
use Rattle.std.specs.Prelude.{Bool, Contains, None, Option, Some, refl, true, ℕ, ◌≡◌}
use Rattle.cast_rules.specs.Acts.Act.{Delivered}
use Rattle.cast_rules.specs.Effects.{delivering}
use Rattle.cast_rules.specs.Entering.{passing}
use Rattle.cast_rules.specs.History.{history}
use Rattle.cast_rules.specs.Rules.Rest.{tell_if, told_of}
use Rattle.cast_rules.specs.Rules.Views.{change_view, enter_and_tell, tell_out, tell_view}
use Rattle.cast_rules.specs.State.{State, local_members, with_delivery}
use Rattle.cast_rules.specs.Turns.{is_ready_for}
use Rattle.cast_message.specs.Membership.{Membership}
use Rattle.cast_message.specs.declared.client.Push.{Push}
use Rattle.cast_message.specs.declared.message.Message.{Message}
use Rattle.cast_message.specs.declared.site.SiteFrame.{SiteFrame}
use Rattle.cast_events.specs.Session.{taken_from}
use Rattle.cast_types.specs.Counts.{CountList}
use Rattle.cast_types.specs.declared.names.GroupNo.{GroupNo}
use Rattle.cast_types.specs.declared.names.SiteNo.{SiteNo}
use Rattle.cast_types.specs.declared.names.Uid.{Uid}
use Rattle.cast_world.proofs.Entries.{agrees_later, delivered_now, members_entered, put_out_left, tell_all_goes_on, tell_all_keeps}
use Rattle.cast_world.proofs.Entries.{told_agrees}
use Rattle.cast_world.proofs.Kept.{Comes, FullyKept, FullyKeptByTelling, WhollyKept, owing_of}
use Rattle.cast_world.proofs.Telling.{close_session_keeps, end_session_keeps, tell_keeps}
use Rattle.cast_message.specs.declared.client.Push.TheVariants as push

module _ (I : State → Type 0) (Between : GroupNo → State → Type 0) (During : Uid → State → Type 0) (Came : SiteNo → SiteFrame → Type 0)
    (home_here casting : Bool) (k : FullyKept I Between During Came home_here casting) where
  abbrev t : FullyKeptByTelling Came I
  t = k.telling

  tell_of_keeps : (s : State) (n : ℕ) (m : Message) → I s → Contains (s.acts n) (Delivered m) →
      I (tell_if history s n (told_of m.id m.body))
  tell_of_keeps s n m i delivered = go (told_of m.id m.body) refl
    where
      go : (o : Option Push) → told_of m.id m.body ≡ o → I (tell_if history s n o)
      go None e = i
      go (Some p) e = tell_keeps I t s n p i (told_agrees (s.acts n) m delivered p e)

  delivering_keeps : (s : State) (n : ℕ) (m : Message) → I s → Contains s.got m → is_ready_for s n m ≡ true → I (delivering s n m)
  delivering_keeps s n m i c ready = tell_of_keeps (with_delivery s n m) n m (k.delivers s n m i c ready) (delivered_now s n m)

  change_view_keeps : (s : State) (g : GroupNo) (skipped : Bool) (n : ℕ) (members : Membership) (request : ℕ) (cut : CountList) → I s →
      Comes Came s g skipped n members request cut → I (change_view history skipped s g n members request cut)
  change_view_keeps s g skipped n members request cut i comes =
      let entered : State = passing s g skipped n members request cut in
      let out : State = fold (tell_out history g n) entered (history.put_out s g skipped members) in
      let told : State = fold (tell_view history g n members) out (local_members entered g) in
      let b : FullyKeptByTelling Came (Between g) = k.between g in
      let all : Between g (enter_and_tell history skipped s g n members request cut) =
      tell_all_keeps (push.View g n members) (Between g) b (local_members entered g) out
      (tell_all_keeps (push.Ejected g n) (Between g) b (history.put_out s g skipped members)
      entered (k.passes s g skipped n members request cut i comes) (put_out_left s g skipped n members request cut))
      (λ q at. agrees_later (entered.acts q) (out.acts q)
      (tell_all_goes_on (push.Ejected g n) (history.put_out s g skipped members) entered (put_out_left s g skipped n members request cut) q)
      (push.View g n members) (members_entered s g skipped n members request cut q at)) in
      k.ends told g all

  pub kept_wholly : WhollyKept I During Came home_here casting
  kept_wholly = record {
    owing = owing_of I t;
    during = λ u. owing_of (During u) (k.during u);
    truly = k.truly;
    fixed = k.fixed;
    opens = k.opens;
    takes = λ s n most i. t.sets_session s n (taken_from most (s.session n)) i (λ e. e);
    replies = λ s n tag refusal i. tell_keeps I t s n (push.Reply tag refusal) i tt;
    denies = λ s n g refusal i. tell_keeps I t s n (push.Denied g refusal) i tt;
    closes = λ s n refusal i open_it. close_session_keeps I t s n refusal i;
    goes = λ s n i. end_session_keeps I t s n i;
    answers = k.answers;
    joins = k.joins;
    sends = k.sends;
    receives = k.receives;
    received = k.received;
    acknowledged = k.acknowledged;
    learns = k.learns;
    delivers = delivering_keeps;
    freezes = k.freezes;
    pends = k.pends;
    enters = change_view_keeps;
    homes = k.homes;
  }
