-- Where a program is told something, or its session is closed, nothing is let go, and nobody becomes a member.
use Rattle.std.proofs.Common.{◌≡◌, ℕ, Bool, true, false, List, [], ◌∷◌, Option, Some, None, refl, sym, ap, ◌∙◌}
use Rattle.std.specs.Prelude.{◌==◌, if◌then◌else◌}
use Rattle.std.specs.List.{fold}
use Rattle.std.proofs.lemmas.Bool.{false≢true, eqb-true}
use Rattle.cast_types.specs.declared.names.GroupNo.{GroupNo}
use Rattle.cast_types.specs.declared.names.Standing.TheVariants.{Outside}
use Rattle.cast_types.specs.declared.refusal.Refusal.{Refusal}
use Rattle.cast_types.specs.declared.refusal.Refusal.TheVariants.{NotMember, Slow}
use Rattle.cast_types.specs.declared.limits.TheConstants.{MAX_NUMBER}
use Rattle.cast_types.specs.Names.{group_eq}
use Rattle.cast_types.specs.Sets.{set_at}
use Rattle.cast_message.specs.declared.site.Change.TheVariants as change
use Rattle.cast_message.specs.declared.client.Push.{Push}
use Rattle.cast_ready.specs.Ready.{Process, is_member, is_outside}
use Rattle.cast_rules.specs.State.{State, local, outside, is_filled, pushing, closing}
use Rattle.cast_rules.specs.History.{history}
use Rattle.cast_rules.specs.Rules.Asking.{request}
use Rattle.cast_rules.specs.Rules.Leaving.{Attempt, leave_group, leave_each, close_session, tell_open, tell}
use Rattle.cast_rules.specs.Rules.Rest.{tell_if}
use Rattle.cast_rules.proofs.SameLaw.{SameLaw, same_pushing, same_closing, same_request}
use Rattle.cast_events.specs.Session.{is_open}

pub record Tells (s : State) (t : State) : Type 0 where
  pub kept : t.kept ≡ s.kept
  pub members : (k : ℕ) (g : GroupNo) → is_member ((t.process k).standing g) ≡ true → is_member ((s.process k).standing g) ≡ true

tells_self : (s : State) → Tells s s
tells_self s = record { kept = refl; members = λ k g is. is }

tells_then : (s t u : State) → Tells s t → Tells t u → Tells s u
tells_then s t u a b = record { kept = b.kept ∙ a.kept; members = λ k g is. a.members k g (b.members k g is) }

tells_if : (s x y : State) (b : Bool) → Tells s x → Tells s y → Tells s (if b then x else y)
tells_if s x y true p q = p
tells_if s x y false p q = q

tells_fold : {X : Type 0} (f : State → X → State) → ((s : State) (x : X) → Tells s (f s x)) → (xs : List X) (s : State) →
    Tells s (fold f s xs)
tells_fold f h [] s = tells_self s
tells_fold f h (x ∷ xs) s = tells_then s (f s x) (fold f (f s x) xs) (h s x) (tells_fold f h xs (f s x))

tells_same : (s t : State) → SameLaw s t → Tells s t
tells_same s t a = record { kept = a.kept; members = λ k g is. ap (λ (p : Process). is_member (p.standing g)) (sym (a.process k)) ∙ is }

tells_outside : (s : State) (k : ℕ) (g : GroupNo) → Tells s (outside s k g)
tells_outside s k g = record {
  kept = refl;
  members = λ j h.
      elim (k == j) as (λ b. k == j ≡ b →
      is_member ((if b then record (s.process k) { standing = set_at group_eq (s.process k).standing g Outside } else s.process j).standing
      h) ≡ true → is_member ((s.process j).standing h) ≡ true) [
        | true ↦ λ same is. ap (λ i. is_member ((s.process i).standing h)) (sym (eqb-true k j same)) ∙ left h (group_eq g h) is
        | false ↦ λ _ is. is
      ] refl;
}
  where
    left : (h : GroupNo) (b : Bool) → is_member (if b then Outside else (s.process k).standing h) ≡ true →
        is_member ((s.process k).standing h) ≡ true
    left h true is = absurd (false≢true is)
    left h false is = is

tells_leave_group : (s : State) (k : ℕ) (g : GroupNo) → Tells s (leave_group history s k g g)
tells_leave_group s k g =
    let next : State = outside s k g in
    let a : Tells s next = tells_outside s k g in
    tells_if s next (request history next g change.Leave (local s k)) ((s.group g).asked == MAX_NUMBER) a
    (tells_then s next (request history next g change.Leave (local s k))
    a (tells_same next (request history next g change.Leave (local s k)) (same_request next g change.Leave (local s k))))

tells_leave_each : (k : ℕ) (s : State) (g : GroupNo) → Tells s (leave_each history k s g)
tells_leave_each k s g =
    by_standing (is_outside ((s.process k).standing g))
  where
    attempt : Bool → Attempt State
    attempt b = if b then (s, Some NotMember) else (leave_group history s k g g, None)

    by_standing : (b : Bool) → Tells s (attempt b).0
    by_standing true = tells_self s
    by_standing false = tells_leave_group s k g

tells_close_session : (s : State) (k : ℕ) (refusal : Refusal) → Tells s (close_session history s k refusal)
tells_close_session s k refusal =
    let why : Refusal = if is_filled s k then Slow else refusal in
    let now : State = closing s k why in
    tells_then s now (close_session history s k refusal) (tells_same s now (same_closing s k why))
    (tells_fold (leave_each history k) (tells_leave_each k) now.config.groups now)

tells_told : (s : State) (k : ℕ) (p : Push) → Tells s (tell history s k p)
tells_told s k p =
    tells_if s (tell_open history s k p) s (is_open (s.session k))
    (tells_if s (close_session history s k Slow) (pushing s k p) (is_filled s k) (tells_close_session s k Slow)
    (tells_same s (pushing s k p) (same_pushing s k p)))
    (tells_self s)

pub tells_told_if : (s : State) (k : ℕ) (o : Option Push) → Tells s (tell_if history s k o)
tells_told_if s k (Some p) = tells_told s k p
tells_told_if s k None = tells_self s
