-- How the calls of a domain take its records to a view, exactly.
use Rattle.std.specs.Prelude.{ℕ, Bool, not, ◌&&◌, ◌||◌, if◌then◌else◌}
use Rattle.std.specs.Prelude.{List, filter, Option, Some, None}
use Rattle.std.specs.List.{fold}
use Rattle.cast_types.specs.declared.names.GroupNo.{GroupNo}
use Rattle.cast_types.specs.declared.names.Proc.{Proc}
use Rattle.cast_types.specs.declared.names.Standing.TheVariants.{Outside, Member}
use Rattle.cast_types.specs.Names.{site_eq, proc_eq}
use Rattle.cast_types.specs.Sets.{is_among}
use Rattle.cast_types.specs.Places.{update}
use Rattle.cast_clock.specs.Times.{entering}
use Rattle.cast_message.specs.Membership.{Membership}
use Rattle.cast_ready.specs.Ready.{is_member}
use Rattle.cast_ready.specs.declared.row.ProcessUpdate.TheVariants as fact
use Rattle.cast_delay.specs.Queue.{queue_viewing}
use Rattle.cast_order.specs.Hand.{hold_from}
use Rattle.cast_order.specs.Log.{Log, change_log, but_log, with_hand}
use Rattle.cast_stable.specs.Acks.{told_ledger}
use Rattle.cast_view.specs.MemberSide.{members_of, holder_at, with_view, is_taken_in}
use Rattle.cast_view.specs.Sites.{other_sites}
use Rattle.cast_domain.specs.Records.{Records}
use Rattle.cast_domain.specs.PartCalls.{local_in, serials_in, record_at}
use Rattle.cast_domain.specs.PartCalls.{standing_of, time_of, tell_in}

-- a process enters a view
abbrev pub enter_in : GroupNo → ℕ → Records → Proc → Records
enter_in g n r p =
    tell_in (tell_in r p (fact.Time (entering (time_of r.delay p) g n))) p (fact.Standing g Member)

-- a process that a view names, where it is here and is taken in
abbrev pub take_in : GroupNo → ℕ → ℕ → Records → Proc → Records
take_in g n request r p =
    if site_eq p.site r.site && is_taken_in request (standing_of r.delay p g)
    then enter_in g n r p
    else r

-- a group's view has a holder, which is a process here, or none is
abbrev pub holding_from : GroupNo → Option Proc → List Log → List Log
holding_from g None orders = orders
holding_from g (Some p) orders = change_log g (with_hand p (hold_from 1)) orders

abbrev pub view_in : Records → ℕ → ℕ → Membership → Records
view_in r i n members =
    record r {
      groups = update r.groups i (λ x. record x { here = with_view r.site n members x.here });
      delay = queue_viewing (record_at r.groups i).name n r.delay;
      acks = told_ledger r.acks (record_at r.groups i).name n (other_sites r.site
          (members_of (with_view r.site n members (record_at r.groups i).here)));
      orders = holding_from (record_at r.groups i).name
          (holder_at r.site (with_view r.site n members (record_at r.groups i).here))
          (but_log (record_at r.groups i).name r.orders);
    }

abbrev pub begin_view_in : Records → ℕ → ℕ → Membership → ℕ → Records
begin_view_in r i n members request =
    fold (take_in (record_at r.groups i).name n request) (view_in r i n members) members.list

-- a member of a group is put out
abbrev pub put_out_in : GroupNo → Records → Proc → Records
put_out_in g r p = tell_in r p (fact.Standing g Outside)

-- where the next view does not name it, or a view was skipped
abbrev pub is_put_out_in : GroupNo → Bool → Membership → Records → ℕ → Bool
is_put_out_in g skips members r k =
    is_member (standing_of r.delay (local_in r k) g)
    && (skips || not (is_among proc_eq (local_in r k) members.list))

abbrev pub put_out_if_in : GroupNo → Bool → Membership → Records → ℕ → Records
put_out_if_in g skips members r k =
    if is_put_out_in g skips members r k then put_out_in g r (local_in r k) else r

abbrev pub put_out_all_in : GroupNo → Bool → Membership → Records → Records
put_out_all_in g skips members r = fold (put_out_if_in g skips members) r (serials_in r)

-- the site passes to the next view of the group at a place
abbrev pub pass_in : Records → ℕ → Bool → ℕ → Membership → ℕ → Records
pass_in r i skips n members request =
    begin_view_in (put_out_all_in (record_at r.groups i).name skips members r) i n members request

-- who is put out then, and who is a member of a group
abbrev pub serials_put_out : GroupNo → Bool → Membership → Records → List ℕ
serials_put_out g skips members r = filter (is_put_out_in g skips members r) (serials_in r)

abbrev pub is_member_in : Records → GroupNo → ℕ → Bool
is_member_in r g k = is_member (standing_of r.delay (local_in r k) g)

abbrev pub serials_of_members : Records → GroupNo → List ℕ
serials_of_members r g = filter (is_member_in r g) (serials_in r)

-- of the group at a place
abbrev pub gone_in : Records → ℕ → Bool → Membership → List ℕ
gone_in r i skips members = serials_put_out (record_at r.groups i).name skips members r

abbrev pub members_in : Records → ℕ → List ℕ
members_in r i = serials_of_members r (record_at r.groups i).name
