-- What a state is that has come to rest, in words and not by the rules that led there.
use Rattle.std.specs.Prelude.{◌≡◌, ℕ, Bool, true, false, not, ◌&&◌, ◌||◌, is_some, Some, None}
use Rattle.std.specs.List.{list_all, list_any}
use Rattle.cast_types.specs.declared.names.GroupNo.{GroupNo}
use Rattle.cast_timer.specs.Owed.{is_owed}
use Rattle.cast_events.specs.declared.event.Event.{Event}
use Rattle.cast_events.specs.declared.event.Taken.{Taken}
use Rattle.cast_view.specs.declared.member.Pending.{Pending}
use Rattle.cast_view.specs.Home.{may_start, may_decide}
use Rattle.cast_rules.specs.State.{State, is_group, local, serials}
use Rattle.cast_rules.specs.Order.{holders}
use Rattle.cast_rules.specs.Turns.{is_ready_for}
use Rattle.cast_rules.specs.Reports.{has_delivered_cut, missing_in}
use Rattle.cast_rules.specs.History.{history}
use Rattle.cast_rules.specs.Rules.Asking.{is_home}
use Rattle.cast_rules.specs.Rules.Order.{may_list}
use Rattle.cast_rules.specs.Resting.{resting, next_places}
use Rattle.cast_rules.specs.Rules.Sending.{may_raise}
use Rattle.cast_rules.specs.Rules.Keys.{want_key}
use Rattle.cast_rules.specs.Rules.Home.{wants}
use Rattle.cast_rules.specs.Rules.Flushes.{own_want_key}
use Rattle.cast_rules.specs.Rest.{is_free, pass}
use Rattle.cast_rules.specs.Run.{IsStep}

-- no message that is kept is free
abbrev pub NoneIsFree : State → Type 0
NoneIsFree s = list_all (λ m. not (is_free s m.id)) s.kept ≡ true

-- a process of this site has ABCASTs of a group's view to list at places of its order, and it may,
-- and its count may be raised
abbrev pub lists_some : State → GroupNo → ℕ → Bool
lists_some s g k =
    may_list history resting s g k
    && (is_some (next_places s g k)
    && may_raise (s.process k).time g (local s k))

-- nothing is left to be done for a group of the configuration
pub record IsGroupAtRest (s : State) (g : GroupNo) : Type 0 where
  -- no process of this site that holds the token of its view has anything to list that it may list
  pub listed : list_all (λ k. not (lists_some s g k)) (holders s g) ≡ true
  -- an Install waits only for what some member here has not delivered, and what the site lacks of
  -- that is wanted
  pub waits : (p : Pending) → (s.group g).pending ≡ Some p → has_delivered_cut s g p.cut ≡ false
  pub wanted : (p : Pending) → (s.group g).pending ≡ Some p
      → list_all (λ e. is_owed s.owed (own_want_key history s g e)) (missing_in s g p.cut) ≡ true
  -- its home has nothing to start and nothing to decide, and what some site lacks is wanted
  pub started : is_home history s ≡ true → may_start (s.home g) ≡ false
  pub decided : is_home history s ≡ true → may_decide g (s.home g) ≡ false
  pub lacked : is_home history s ≡ true
      → list_all (λ w. is_owed s.owed (want_key g w)) (wants history s g) ≡ true

-- nothing is left to be done: nothing is ready for any process, nor in any group, and no kept
-- message is free
pub record IsAtRest (s : State) : Type 0 where
  pub free : NoneIsFree s
  pub ready : list_all (λ k. not (list_any (is_ready_for s k) s.got)) (serials s) ≡ true
  pub groups : (g : GroupNo) → is_group s g ≡ true → IsGroupAtRest s g

-- so each event ends
abbrev pub RestIsQuiet : Type 0
RestIsQuiet =
    (s : State) (e : Event) (answer : Taken) (t : State) → IsStep s e answer t → IsAtRest t

-- and a state of which that holds stays as it is
abbrev pub QuietStays : Type 0
QuietStays = (s : State) → IsAtRest s → pass s ≡ s

-- The same, computed

abbrev pub is_group_at_rest : State → GroupNo → Bool
is_group_at_rest s g =
    list_all (λ k. not (lists_some s g k)) (holders s g)
    && (elim (s.group g).pending [
      | Some p ↦
          not (has_delivered_cut s g p.cut)
          && list_all (λ e. is_owed s.owed (own_want_key history s g e)) (missing_in s g p.cut)
      | None ↦ true
    ]
    && (not (is_home history s)
    || (not (may_start (s.home g))
    && (not (may_decide g (s.home g))
    && list_all (λ w. is_owed s.owed (want_key g w)) (wants history s g)))))

abbrev pub is_at_rest : State → Bool
is_at_rest s =
    list_all (λ m. not (is_free s m.id)) s.kept
    && (list_all (λ k. not (list_any (is_ready_for s k) s.got)) (serials s)
    && list_all (is_group_at_rest s) s.config.groups)

abbrev pub RestIsComputed : Type 0
RestIsComputed = (s : State) → is_at_rest s ≡ true → IsAtRest s
