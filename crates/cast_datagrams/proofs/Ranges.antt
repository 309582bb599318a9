-- A frame that has a spelling is a value of its type.
use Rattle.std.proofs.Common.{ℕ, List, Option, Some, None, arith}
use Rattle.std.specs.List.{AllByRecursion}
use Rattle.cast_types.specs.declared.names.GroupNo.{GroupNo}
use Rattle.cast_types.specs.declared.names.Proc.{Proc}
use Rattle.cast_types.specs.declared.names.Uid.{Uid}
use Rattle.cast_types.specs.declared.clock.Clock.{Clock}
use Rattle.cast_types.specs.Names.{Entry}
use Rattle.cast_message.specs.declared.message.Body.{Body}
use Rattle.cast_message.specs.declared.message.Body.TheVariants as body
use Rattle.cast_message.specs.declared.message.Message.{Message}
use Rattle.cast_message.specs.declared.site.SiteFrame.{SiteFrame}
use Rattle.cast_message.specs.declared.site.SiteFrame.TheVariants.{Data, Ack, Stable, Ask, Asked, Prepare, Flushed}
use Rattle.cast_message.specs.declared.site.SiteFrame.TheVariants.{Want, Forward, Install, Installed, Out}
use Rattle.cast_message.specs.Membership.{Membership}
use Rattle.cast_message.specs.Tail.{Tail}
use Rattle.cast_message.specs.KeptIds.{Marked, KeptList}
use Rattle.cast_field.specs.Spelled.{IsName, IsCount, IsProc, IsEntry, IsUid, AreCounts, IsClock, IsNewHolder, IsBody, IsMessage}
use Rattle.cast_field.specs.Spelled.{AreMembers, IsTail, IsMarked, AreKept}
use Rattle.cast_frame.specs.Spelled.{IsFrame}
use Rattle.cast_sites.proofs.Networks.{all_weaker}
use Rattle.cast_datagrams.specs.Typed.{IsShort, IsWord, FitsProc, FitsEntry, FitsUid, FitCounts, FitsClock, FitsNewHolder, FitsBody}
use Rattle.cast_datagrams.specs.Typed.{FitsMessage, FitMembers, FitsTail, FitsMarked, FitKept, FitsType}

pub name_fits : (n : ℕ) → IsName n → IsShort n
name_fits n is = omega (arith, is.below)

count_fits : (n : ℕ) → IsCount n → IsWord n
count_fits n is = omega (arith, is.below)

proc_fits : (p : Proc) → IsProc p → FitsProc p
proc_fits p is = record { site = name_fits p.site.0 is.site; serial = count_fits p.serial is.serial }

entry_fits : (e : Entry) → IsEntry e → FitsEntry e
entry_fits e is = record { proc = proc_fits e.0 is.proc; count = count_fits e.1 is.count }

uid_fits : (u : Uid) → IsUid u → FitsUid u
uid_fits u is =
    record {
      group = name_fits u.group.0 is.group;
      view = count_fits u.view is.view;
      proc = proc_fits u.proc is.proc;
      count = count_fits u.count is.count;
    }

entries_fit : (es : List Entry) → AllByRecursion IsEntry es → AllByRecursion FitsEntry es
entries_fit es all = all_weaker IsEntry FitsEntry es entry_fits all

counts_fit : (c : List Entry) → AreCounts c → FitCounts c
counts_fit c are = record { sorted = are.sorted; entries = entries_fit c are.entries }

clock_fits : (e : GroupNo × Clock) → IsClock e → FitsClock e
clock_fits e is =
    record { group = name_fits e.0.0 is.group; view = count_fits e.1.view is.view; counts = counts_fit e.1.counts is.counts }

new_holder_fits : (o : Option Proc) → IsNewHolder o → FitsNewHolder o
new_holder_fits None is = tt
new_holder_fits (Some p) is = proc_fits p is

body_fits : (b : Body) → IsBody b → FitsBody b
body_fits (body.Causal payload) is = is
body_fits (body.Atomic payload) is = is
body_fits (body.Order s) is =
    record { short = is.short; ids = entries_fit s.ids is.ids; holder = new_holder_fits s.holder is.holder }

message_fits : (m : Message) → IsMessage m → FitsMessage m
message_fits m is =
    record {
      id = uid_fits m.id is.id;
      times = record { sorted = is.times.sorted; clocks = all_weaker IsClock FitsClock m.times clock_fits is.times.clocks };
      body = body_fits m.body is.body;
    }

members_fit : (m : Membership) → AreMembers m → FitMembers m
members_fit m are = record { sorted = are.sorted; procs = all_weaker IsProc FitsProc m.list proc_fits are.procs }

tail_fits : (t : Tail) → IsTail t → FitsTail t
tail_fits t is = record { short = is.short; ids = entries_fit t.ids is.ids }

kept_fit : (k : KeptList) → AreKept k → FitKept k
kept_fit k are = record { sorted = are.sorted; ids = all_weaker IsMarked FitsMarked k (λ (e : Marked) is. entry_fits e.0 is) are.ids }

pub frame_fits : (f : SiteFrame) → IsFrame f → FitsType f
frame_fits (Data m) is = message_fits m is
frame_fits (Ack u) is = uid_fits u is
frame_fits (Stable u) is = uid_fits u is
frame_fits (Ask g n change p) is = (name_fits g.0 is.0, count_fits n is.1, proc_fits p is.2)
frame_fits (Asked g n full) is = (name_fits g.0 is.0, count_fits n is.1)
frame_fits (Prepare g view) is = (name_fits g.0 is.0, count_fits view is.1)
frame_fits (Flushed g view counts tail kept) is =
    record {
      group = name_fits g.0 is.group;
      view = count_fits view is.view;
      counts = counts_fit counts is.counts;
      tail = tail_fits tail is.tail;
      kept = kept_fit kept is.kept;
    }
frame_fits (Want u) is = uid_fits u is
frame_fits (Forward m) is = message_fits m is
frame_fits (Install g view members request cut tail) is =
    record {
      group = name_fits g.0 is.group;
      view = count_fits view is.view;
      members = members_fit members is.members;
      request = omega (arith, is.request.below);
      cut = counts_fit cut is.cut;
      tail = tail_fits tail is.tail;
    }
frame_fits (Installed g view) is = (name_fits g.0 is.0, count_fits view is.1)
frame_fits (Out g view) is = (name_fits g.0 is.0, count_fits view is.1)
