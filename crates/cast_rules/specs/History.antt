-- The history of a domain as the rules see it.
use Rattle.std.specs.Prelude.{if◌then◌else◌, filter, Some, None}
use Rattle.cast_types.specs.declared.names.GroupNo.{GroupNo}
use Rattle.cast_stable.specs.Stable.{has_acked}
use Rattle.cast_types.specs.declared.names.Standing.TheVariants.{Joining}
use Rattle.cast_events.specs.Session.{is_open, is_gone}
use Rattle.cast_timer.specs.Owed.{is_owed, due_at}
use Rattle.cast_view.specs.MemberSide.{with_request, with_answer}
use Rattle.cast_view.specs.Home.{apply_move}
use Rattle.cast_rules.specs.State.{State, serials, is_group, set_group, set_home, set_standing}
use Rattle.cast_rules.specs.State.{emit, is_filled, pushing, local_members, receiving}
use Rattle.cast_rules.specs.State.{noting_sent, awaits_own, is_received, held_count, message_of}
use Rattle.cast_rules.specs.State.{others_of, is_stable, upto, noting_ack, noting_stable}
use Rattle.cast_rules.specs.State.{releasing_ended, outside, closing, going, counting_cast}
use Rattle.cast_rules.specs.Order.{holds, place_to_pass}
use Rattle.cast_rules.specs.Owing.{noting_owed, noting_resent, paying}
use Rattle.cast_rules.specs.Owing.{paying_upto, paying_view, at_moment}
use Rattle.cast_rules.specs.Entering.{freezing, pending_install, is_put_out, passing}
use Rattle.cast_rules.specs.Reports.{report_in}
use Rattle.cast_rules.specs.Rules.Interface.{Site}

-- a group stands under its name
abbrev pub history : Site State GroupNo
history = record {
  here = λ s. s.here;
  config = λ s. s.config;
  quotas = λ s. s.quotas;
  place = λ s g. if is_group s g then Some g else None;
  name = λ s g. g;
  places = λ s. s.config.groups;
  group = λ s g. s.group g;
  home = λ s g. s.home g;
  others = others_of;
  held = held_count;
  is_received = is_received;
  has_acked = λ s u to. has_acked s.acks u to;
  is_stable = is_stable;
  stable_upto = upto;
  message = message_of;
  is_open = λ s k. is_open (s.session k);
  is_full = is_filled;
  members = local_members;
  put_out = λ s g skips members. filter (is_put_out s g skips members) (serials s);
  standing = λ s k g. (s.process k).standing g;
  time = λ s k. (s.process k).time;
  awaits_own = awaits_own;
  holds = holds;
  place_to_pass = place_to_pass;
  is_owed = λ s key. is_owed s.owed key;
  due = λ s. due_at s.moment s.owed;
  is_gone = λ s k. is_gone (s.session k);
  report = report_in;
  send = emit;
  note_owed = noting_owed;
  note_resent = noting_resent;
  pay = paying;
  pay_upto = paying_upto;
  pay_view = paying_view;
  note_moment = at_moment;
  note_ack = noting_ack;
  note_stable = noting_stable;
  push = pushing;
  note_cast = counting_cast;
  note_joining = λ s k g number heard. set_standing s k g (Joining number heard);
  note_outside = outside;
  note_sent = noting_sent;
  receive = receiving;
  note_request = λ s g what p. set_group s g (with_request (s.group g) what p);
  note_answer = λ s g. set_group s g (with_answer (s.group g));
  freeze = freezing;
  pend = pending_install;
  move_home = λ s g move. set_home s g (apply_move move (s.home g));
  enter_view = passing;
  release_ended = releasing_ended;
  close = closing;
  go = going;
}
