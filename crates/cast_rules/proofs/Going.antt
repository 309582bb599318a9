-- Where a pass goes on with the Installs that wait, fewer wait then, or nothing changes but what is owed and sent.
use Rattle.std.proofs.Common.{◌≡◌, ◌<◌, ◌⊎◌, Bool, true, false, List, [], ◌∷◌, Some}
use Rattle.std.proofs.Common.{None, Option, refl, sym, ap, subst, ◌∙◌, inl, inr, arith}
use Rattle.std.specs.Prelude.{if◌then◌else◌}
use Rattle.std.specs.List.{fold}
use Rattle.cast_types.specs.declared.names.GroupNo.{GroupNo}
use Rattle.cast_view.specs.declared.member.Pending.{Pending}
use Rattle.cast_view.specs.MemberSide.{is_pending}
use Rattle.cast_rules.specs.State.{State}
use Rattle.cast_rules.specs.History.{history}
use Rattle.cast_rules.specs.Resting.{resting}
use Rattle.cast_rules.specs.Reports.{has_delivered_cut, missing_in}
use Rattle.cast_rules.specs.Rules.Flushes.{own_want_key, complete, want_own, complete_or_want, go_on, go_on_all}
use Rattle.cast_rules.specs.Rest.{let_go}
use Rattle.cast_rules.specs.Endings.{pendings}
use Rattle.cast_rules.proofs.Totals.{In}
use Rattle.cast_rules.proofs.Alikes.{Alike, alike_self, alike_then, alike_fold, alike_owe}
use Rattle.cast_rules.proofs.Rests.{pendings_alike, let_go_less, moves_completed}

-- fewer Installs wait, in the same groups, or all is alike but what is owed and sent
pub record GoesOn (s : State) (t : State) : Type 0 where
  pub config : t.config ≡ s.config
  pub way : (pendings t < pendings s) ⊎ Alike s t

goes_alike : (s t : State) → Alike s t → GoesOn s t
goes_alike s t a = record { config = a.config; way = inr a }

way_then : (s t u : State) → (pendings t < pendings s) ⊎ Alike s t → (pendings u < pendings t) ⊎ Alike t u →
    (pendings u < pendings s) ⊎ Alike s u
way_then s t u (inl a) (inl b) = inl (omega arith)
way_then s t u (inl a) (inr b) = inl (subst (λ n. n < pendings s) (sym (pendings_alike t u b)) a)
way_then s t u (inr a) (inl b) = inl (subst (λ n. pendings u < n) (pendings_alike s t a) b)
way_then s t u (inr a) (inr b) = inr (alike_then s t u a b)

goes_then : (s t u : State) → GoesOn s t → GoesOn t u → GoesOn s u
goes_then s t u a b = record { config = b.config ∙ a.config; way = way_then s t u a.way b.way }

-- one that waits is completed, or what is missing is wanted
goes_waiting : (s : State) (g : GroupNo) (p : Pending) → In g s.config.groups → (s.group g).pending ≡ Some p → (b : Bool) →
    GoesOn s (if b then let_go (complete history s g p) else fold (want_own history g) s (missing_in s g p.cut))
goes_waiting s g p at waits true =
    let is : is_pending (s.group g) ≡ true = ap (λ (o : Option Pending). elim o as (λ _. Bool) [ Some p ↦ true | None ↦ false ]) waits in
    record { config = (moves_completed s g p at is).config; way = inl (let_go_less s g p at is) }
goes_waiting s g p at waits false =
    goes_alike s (fold (want_own history g) s (missing_in s g p.cut))
    (alike_fold (want_own history g) (λ t e. alike_owe t (own_want_key history t g e)) (missing_in s g p.cut) s)

goes_group : (s : State) (g : GroupNo) → In g s.config.groups → GoesOn s (go_on history resting s g)
goes_group s g at =
    elim (s.group g).pending
    as (λ o. (s.group g).pending ≡ o → GoesOn s (elim o [ Some p ↦ complete_or_want history resting s g p | None ↦ s ])) [
      | None ↦ λ _. goes_alike s s (alike_self s)
      | Some p ↦ λ waits. goes_waiting s g p at waits (has_delivered_cut s g p.cut)
    ] refl

goes_groups : (gs : List GroupNo) (s : State) → ((g : GroupNo) → In g gs → In g s.config.groups) →
    GoesOn s (fold (go_on history resting) s gs)
goes_groups [] s among = goes_alike s s (alike_self s)
goes_groups (g ∷ gs) s among =
    let t : State = go_on history resting s g in
    let a : GoesOn s t = goes_group s g (among g (inl refl)) in
    goes_then s t (fold (go_on history resting) t gs) a
    (goes_groups gs t (λ h at. subst (λ c. In h c.groups) (sym a.config) (among h (inr at))))

pub goes_on : (s : State) → GoesOn s (go_on_all history resting s)
goes_on s = goes_groups s.config.groups s (λ g at. at)
