-- How a site passes to the next view of a group.
-- A flush freezes it, the Install of the next one waits, members that the next one lacks are put
-- out, and those that it takes in enter it.
use Rattle.std.specs.Prelude.{ℕ, Bool, not, ◌&&◌, ◌||◌, if◌then◌else◌, [], ◌∷◌, ◌++◌}
use Rattle.cast_types.specs.declared.names.GroupNo.{GroupNo}
use Rattle.cast_types.specs.declared.names.Standing.TheVariants.{Outside, Member}
use Rattle.cast_types.specs.Names.{group_eq, proc_eq}
use Rattle.cast_types.specs.Sets.{is_among, set_at}
use Rattle.cast_types.specs.Counts.{CountList, is_within}
use Rattle.cast_clock.specs.Times.{entering}
use Rattle.cast_message.specs.Membership.{Membership}
use Rattle.cast_message.specs.Tail.{Tail}
use Rattle.cast_order.specs.Order.{closed_order}
use Rattle.cast_view.specs.declared.member.Pending.{Pending}
use Rattle.cast_ready.specs.Ready.{Process, is_member}
use Rattle.cast_view.specs.MemberSide.{frozen_side, with_pending, with_view, is_taken_in}
use Rattle.cast_rules.specs.Acts.Act.{Entered, Left}
use Rattle.cast_rules.specs.State.{State, local, set_group}
use Rattle.cast_rules.specs.Order.{order_told}

-- a flush has frozen a group
abbrev pub freezing : State → GroupNo → State
freezing s g = set_group s g (frozen_side (s.group g))

-- the Install of a group's next view waits, with the end of the order of the one that ends
abbrev pub pending_install : State → GroupNo → Pending → Tail → State
pending_install s g p tail =
    record (set_group s g (with_pending (s.group g) p)) {
      closed = set_at group_eq s.closed g
          (closed_order (is_within p.cut) tail.start tail.ids (order_told s g));
    }

-- a process that is outside a group
abbrev pub put_outside : GroupNo → Process → Process
put_outside g p = record p { standing = set_at group_eq p.standing g Outside }

-- a member is put out that the next view does not name, and any member where a view was skipped
abbrev pub is_put_out : State → GroupNo → Bool → Membership → ℕ → Bool
is_put_out s g skips members k =
    is_member ((s.process k).standing g)
    && (skips || not (is_among proc_eq (local s k) members.list))

abbrev pub all_parted : State → GroupNo → (ℕ → Bool) → State
all_parted s g goes =
    record s {
      process = λ k. if goes k then put_outside g (s.process k) else s.process k;
      acts = λ k. if goes k then s.acts k ++ Left g ∷ [] else s.acts k;
    }

-- members are put out, all at once
abbrev pub putting_out : State → GroupNo → Bool → Membership → State
putting_out s g skips members = all_parted s g (is_put_out s g skips members)

-- a view takes a process in: it names it, and the process is a member or its join was applied
abbrev pub enters : State → GroupNo → Membership → ℕ → ℕ → Bool
enters s g members request k =
    is_taken_in request ((s.process k).standing g) && is_among proc_eq (local s k) members.list

-- a process in a view
abbrev pub in_view : GroupNo → ℕ → Process → Process
in_view g n p = record p {
  time = entering p.time g n;
  standing = set_at group_eq p.standing g Member;
}

abbrev pub all_in_view : State → GroupNo → ℕ → Membership → ℕ → CountList → State
all_in_view s g n members request cut =
    record s {
      process =
          λ k. if enters s g members request k then in_view g n (s.process k) else s.process k;
      acts =
          λ k. if enters s g members request k then s.acts k ++ Entered g n cut ∷ [] else s.acts k;
    }

-- a view is complete: members and joining processes in it enter it, all at once
abbrev pub completing : State → GroupNo → ℕ → Membership → ℕ → CountList → State
completing s g n members request cut =
    all_in_view (set_group s g (with_view s.here n members (s.group g))) g n members request cut

-- the site passes to the next view of a group
abbrev pub passing : State → GroupNo → Bool → ℕ → Membership → ℕ → CountList → State
passing s g skips n members request cut =
    completing (putting_out s g skips members) g n members request cut
