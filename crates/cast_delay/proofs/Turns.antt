-- What is ready in its turn is causally ready, and only the turns of its process's groups bear on it.
use Rattle.std.proofs.Common.{◌≡◌, Bool, true, false, not, ◌&&◌, ◌||◌, List, refl, sym, ap, ◌∙◌, inl, inr}
use Rattle.std.specs.Prelude.{◌==◌}
use Rattle.std.specs.List as list
use Rattle.std.proofs.lemmas.Bool.{false≢true, and_parts, or_cases, not-true}
use Rattle.cast_types.specs.declared.names.GroupNo.{GroupNo}
use Rattle.cast_types.specs.Names.{entry_of, is_atomic}
use Rattle.cast_clock.specs.Times.{join, has_room}
use Rattle.cast_message.specs.declared.message.Message.{Message}
use Rattle.cast_message.specs.Bodies.{kind_of}
use Rattle.cast_ready.specs.declared.turn.Turn.{Turn}
use Rattle.cast_ready.specs.declared.gate.Gate.{Gate}
use Rattle.cast_ready.specs.Ready.{Process, is_open_to, is_member, has_delivered, group_allows, has_turn, is_causally_ready, is_ready}

-- what is asked of a message beside causal readiness
abbrev pub in_turn : (GroupNo → Turn) → Message → Bool
in_turn turn m = not (is_atomic (kind_of m.body)) || has_turn (turn m.id.group) (entry_of m.id)

-- a second test counts only where the first one passes
pub and_agree : (a b c : Bool) → (a ≡ true → b ≡ c) → (a && b) ≡ (a && c)
and_agree true b c same = same refl
and_agree false b c same = refl

module _ (groups : List GroupNo) (gate : GroupNo → Gate) (p : Process) where
  -- the process is a member of the group of what is causally ready
  pub causally_member : (m : Message) → is_causally_ready groups gate p m ≡ true → is_member (p.standing m.id.group) ≡ true
  causally_member m ready =
      (and_parts (is_member (p.standing m.id.group))
      ((m.id.view == (gate m.id.group).number)
      && (is_open_to (gate m.id.group) (entry_of m.id)
      && (not (has_delivered p m.id)
      && (list.list_all (λ h. group_allows (p.standing h) p (gate h) m h) groups
      && has_room (join p.time m.times))))) ready).0

  -- turns that agree on the groups that the process is a member of let the same be delivered
  pub same_turns : (turn other : GroupNo → Turn) → ((g : GroupNo) → is_member (p.standing g) ≡ true → turn g ≡ other g) → (m : Message) →
      is_ready groups gate turn p m ≡ is_ready groups gate other p m
  same_turns turn other agree m = and_agree (is_causally_ready groups gate p m) (in_turn turn m) (in_turn other m) (λ ready.
      ap (λ t. not (is_atomic (kind_of m.body)) || has_turn t (entry_of m.id)) (agree m.id.group (causally_member m ready)))

  module _ (turn : GroupNo → Turn) (m : Message) where
    -- what is ready is causally ready
    pub ready_causally : is_ready groups gate turn p m ≡ true → is_causally_ready groups gate p m ≡ true
    ready_causally ready = (and_parts (is_causally_ready groups gate p m) (in_turn turn m) ready).0

    -- and an ABCAST has its turn
    pub ready_has_turn : is_ready groups gate turn p m ≡ true → is_atomic (kind_of m.body) ≡ true →
        has_turn (turn m.id.group) (entry_of m.id) ≡ true
    ready_has_turn ready atomic =
        elim (or_cases (not (is_atomic (kind_of m.body))) (has_turn (turn m.id.group) (entry_of m.id))
        (and_parts (is_causally_ready groups gate p m) (in_turn turn m) ready).1) [
          | inl other ↦ absurd (false≢true (sym (not-true (is_atomic (kind_of m.body)) other) ∙ atomic))
          | inr its ↦ its
        ]
