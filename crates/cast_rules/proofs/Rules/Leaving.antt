-- By the rules of leaving, of what programs are told, and of how sessions end, a site that follows another goes on standing for it.
use Rattle.std.proofs.Common.{◌≡◌, ℕ, true, false, Some, refl, sym, ap, subst}
use Rattle.std.specs.Prelude.{◌==◌, if◌then◌else◌}
use Rattle.cast_types.specs.declared.names.GroupNo.{GroupNo}
use Rattle.cast_types.specs.declared.refusal.Refusal.{Refusal}
use Rattle.cast_types.specs.declared.refusal.Refusal.TheVariants.{NotMember, Slow}
use Rattle.cast_types.specs.declared.limits.TheConstants.{MAX_NUMBER}
use Rattle.cast_message.specs.declared.site.Change.TheVariants as change
use Rattle.cast_message.specs.declared.client.Push.{Push}
use Rattle.cast_ready.specs.Ready.{is_outside}
use Rattle.cast_view.specs.MemberSide.{MemberSide}
use Rattle.cast_rules.specs.Rules.Interface.{Site}
use Rattle.cast_rules.specs.Rules.Asking.{request}
use Rattle.cast_rules.specs.Rules.Leaving.{Attempt, named_here, leave_group, leave_at, leave_each}
use Rattle.cast_rules.specs.Rules.Leaving.{leave_all, close_session, tell_open, tell, end_session}
use Rattle.cast_rules.proofs.Rules.Follows.{FollowsAll, choose, each_place, IsInvariantOfAll, AlsoHolds, SamePlace, follows_itself_in_all}
use Rattle.cast_rules.proofs.Rules.Asking.{request_follows}

-- both calls are refused alike, or none is
abbrev pub Attempts : {R S : Type 0} → (R → S → Type 0) → Attempt R → Attempt S → Type 0
Attempts fits x y = fits x.0 y.0 × (x.1 ≡ y.1)

module _ {R S H K : Type 0} (a : Site R H) (b : Site S K) (fits : R → S → Type 0) (stands : H → K → Type 0)
    (all : FollowsAll a b fits stands) where
  leave_group_follows : (r : R) (s : S) → fits r s → (k : ℕ) (g : GroupNo) → is_outside (b.standing s k g) ≡ false → (h : H) (l : K) →
      stands h l → fits (leave_group a r k g h) (leave_group b s k g l)
  leave_group_follows r s f k g inside h l at =
      let here = all.follows.here r s f in
      let next : R = a.note_outside r k g in
      let after : S = b.note_outside s k g in
      let now : fits next after = all.note_outside r s f k g inside in
      let left : S = request b after l change.Leave (named_here b s k) in
      choose fits ((a.group r h).asked == MAX_NUMBER) ((b.group s l).asked == MAX_NUMBER)
      next (request a next h change.Leave (named_here a r k)) after left
      (ap (λ (x : MemberSide). x.asked == MAX_NUMBER) (all.follows.group r s f h l at))
      (λ _. now)
      (λ _. subst (λ t. fits (request a next h change.Leave (record { site = t; serial = k })) left) (sym here)
      (request_follows a b fits stands all next after now h l at change.Leave (named_here b s k)))

  pub leave_at_follows : (r : R) (s : S) → fits r s → (k : ℕ) (g : GroupNo) (h : H) (l : K) → stands h l →
      (Attempts fits) (leave_at a r k g h) (leave_at b s k g l)
  leave_at_follows r s f k g h l at =
      choose (Attempts fits) (is_outside (a.standing r k g)) (is_outside (b.standing s k g)) (r, Some NotMember) _ (s, Some NotMember) _
      (ap is_outside (all.standing r s f k g))
      (λ _. (f, refl))
      (λ inside. (leave_group_follows r s f k g inside h l at, refl))

  leave_each_follows : (k : ℕ) (r : R) (s : S) → fits r s → (h : H) (l : K) → stands h l → fits (leave_each a k r h) (leave_each b k s l)
  leave_each_follows k r s f h l at =
      let g : GroupNo = b.name s l in
      subst (λ x. fits (leave_at a r k x h).0 (leave_at b s k g l).0) (sym (all.name r s f h l at)) (leave_at_follows r s f k g h l at).0

  pub leave_all_follows : (r : R) (s : S) → fits r s → (k : ℕ) → fits (leave_all a r k) (leave_all b s k)
  leave_all_follows r s f k =
      each_place fits stands (leave_each a k) (leave_each b k) (leave_each_follows k) (a.places r) (b.places s) (all.places r s f) r s f

  pub close_session_follows : (r : R) (s : S) → fits r s → (k : ℕ) → b.is_open s k ≡ true → (refusal : Refusal) →
      fits (close_session a r k refusal) (close_session b s k refusal)
  close_session_follows r s f k given refusal =
      let why : Refusal = if b.is_full s k then Slow else refusal in
      subst (λ c. fits (leave_all a (a.close r k (if c then Slow else refusal)) k) (leave_all b (b.close s k why) k))
      (sym (all.is_full r s f k))
      (leave_all_follows (a.close r k why) (b.close s k why) (all.close r s f k given why) k)

  tell_open_follows : (r : R) (s : S) → fits r s → (k : ℕ) → b.is_open s k ≡ true → (p : Push) →
      fits (tell_open a r k p) (tell_open b s k p)
  tell_open_follows r s f k given p =
      choose fits (a.is_full r k) (b.is_full s k) (close_session a r k Slow) (a.push r k p) (close_session b s k Slow) (b.push s k p)
      (all.is_full r s f k)
      (λ _. close_session_follows r s f k given Slow)
      (λ room. all.push r s f k given room p)

  pub tell_follows : (r : R) (s : S) → fits r s → (k : ℕ) (p : Push) → fits (tell a r k p) (tell b s k p)
  tell_follows r s f k p =
      choose fits (a.is_open r k) (b.is_open s k) (tell_open a r k p) r (tell_open b s k p) s (all.is_open r s f k)
      (λ given. tell_open_follows r s f k given p)
      (λ _. f)

  pub ended_follows : (r : R) (s : S) → fits r s → (k : ℕ) → fits (a.go r k) (b.go s k) → fits (end_session a r k) (end_session b s k)
  ended_follows r s f k went =
      choose fits (a.is_gone r k) (b.is_gone s k) r (leave_all a (a.go r k) k) s (leave_all b (b.go s k) k) (all.is_gone r s f k)
      (λ _. f)
      (λ _. leave_all_follows (a.go r k) (b.go s k) went k)

-- an invariant of the moves holds once a process has left all its groups, and, where it holds once a session is gone, after that ends
pub left_keeps : {S H : Type 0} (d : Site S H) (holds : S → Type 0) → IsInvariantOfAll d holds → (s : S) → holds s → (k : ℕ) →
    holds (leave_all d s k)
left_keeps d holds keeps s l k = (leave_all_follows d d (AlsoHolds holds) SamePlace (follows_itself_in_all d holds keeps) s s (refl, l) k).1

pub ended_keeps : {S H : Type 0} (d : Site S H) (holds : S → Type 0) → IsInvariantOfAll d holds → (s : S) → holds s → (k : ℕ) →
    holds (d.go s k) → holds (end_session d s k)
ended_keeps d holds keeps s l k went =
    (ended_follows d d (AlsoHolds holds) SamePlace (follows_itself_in_all d holds keeps) s s (refl, l) k (refl, went)).1

-- and after a program is told something
pub told_keeps : {S H : Type 0} (d : Site S H) (holds : S → Type 0) → IsInvariantOfAll d holds → (s : S) → holds s → (k : ℕ) (p : Push) →
    holds (tell d s k p)
told_keeps d holds keeps s l k p = (tell_follows d d (AlsoHolds holds) SamePlace (follows_itself_in_all d holds keeps) s s (refl, l) k p).1
