-- A frame that is a value of its type has a spelling, if its numbers that count from 1 do.
use Rattle.std.proofs.Common.{ℕ, ◌≤◌, List, [], ◌∷◌, Option, Some, None, arith}
use Rattle.std.specs.List.{AllByRecursion}
use Rattle.cast_types.proofs.Contains.{contains_here, contains_later}
use Rattle.cast_types.specs.declared.names.DomainNo.{DomainNo}
use Rattle.cast_types.specs.declared.names.GroupNo.{GroupNo}
use Rattle.cast_types.specs.declared.names.Proc.{Proc}
use Rattle.cast_types.specs.declared.names.SiteNo.{SiteNo}
use Rattle.cast_types.specs.declared.names.Uid.{Uid}
use Rattle.cast_types.specs.declared.clock.Clock.{Clock}
use Rattle.cast_types.specs.Names.{Entry}
use Rattle.cast_message.specs.declared.message.Body.{Body}
use Rattle.cast_message.specs.declared.message.Body.TheVariants as body
use Rattle.cast_message.specs.declared.message.Message.{Message}
use Rattle.cast_message.specs.declared.site.SiteFrame.{SiteFrame}
use Rattle.cast_message.specs.declared.site.SiteFrame.TheVariants.{Data, Ack, Stable, Ask, Asked, Prepare, Flushed}
use Rattle.cast_message.specs.declared.site.SiteFrame.TheVariants.{Want, Forward, Install, Installed, Out}
use Rattle.cast_message.specs.Membership.{Membership}
use Rattle.cast_message.specs.Tail.{Tail}
use Rattle.cast_message.specs.KeptIds.{Marked, KeptList}
use Rattle.cast_field.specs.Spelled.{IsName, IsCount, IsProc, IsEntry, IsUid, AreCounts, IsClock, IsNewHolder, IsBody, IsMessage}
use Rattle.cast_field.specs.Spelled.{AreMembers, IsTail, IsMarked, AreKept}
use Rattle.cast_frame.specs.Spelled.{IsFrame, IsSpelled}
use Rattle.cast_datagrams.specs.Typed.{IsByte, IsShort, IsWord, FitsProc, FitsEntry, FitsUid, FitCounts, FitsClock, FitsNewHolder}
use Rattle.cast_datagrams.specs.Typed.{FitsBody, FitsMessage, FitMembers, FitsTail, FitsMarked, FitKept, FitsType}
use Rattle.cast_datagrams.proofs.Few.{FewIds}
use Rattle.cast_datagrams.proofs.FromOne.{BodyFromOne, ClockFromOne, Each, EntryFromOne, FrameFromOne, HolderFromOne, MarkedFromOne}
use Rattle.cast_datagrams.proofs.FromOne.{MessageFromOne, ProcFromOne, UidFromOne}

-- what the types and the numbers of items say
each_is : {A : Type 0} (Fits From Is : A → Type 0) → ((x : A) → Fits x → From x → Is x) → (xs : List A) →
    AllByRecursion Fits xs → Each From xs → AllByRecursion Is xs
each_is Fits From Is one [] fit from = tt
each_is Fits From Is one (x ∷ xs) fit from = (
  one x fit.0 (from x (contains_here x xs)),
  each_is Fits From Is one xs fit.1 (λ y at. from y (contains_later y x xs at)),
)

is_name : (n : ℕ) → IsShort n → 1 ≤ n → IsName n
is_name n fits from = record { above = from; below = omega (arith, fits) }

is_count : (n : ℕ) → IsWord n → 1 ≤ n → IsCount n
is_count n fits from = record { above = from; below = omega (arith, fits) }

is_proc : (p : Proc) → FitsProc p → ProcFromOne p → IsProc p
is_proc p fits from = record { site = is_name p.site.0 fits.site from.site; serial = is_count p.serial fits.serial from.serial }

is_entry : (e : Entry) → FitsEntry e → EntryFromOne e → IsEntry e
is_entry e fits from = record { proc = is_proc e.0 fits.proc from.proc; count = is_count e.1 fits.count from.count }

is_uid : (u : Uid) → FitsUid u → UidFromOne u → IsUid u
is_uid u fits from =
    record {
      group = is_name u.group.0 fits.group from.group;
      view = is_count u.view fits.view from.view;
      proc = is_proc u.proc fits.proc from.proc;
      count = is_count u.count fits.count from.count;
    }

are_entries : (es : List Entry) → AllByRecursion FitsEntry es → Each EntryFromOne es → AllByRecursion IsEntry es
are_entries = each_is FitsEntry EntryFromOne IsEntry is_entry

are_counts : (c : List Entry) → FitCounts c → Each EntryFromOne c → AreCounts c
are_counts c fit from = record { sorted = fit.sorted; entries = are_entries c fit.entries from }

is_clock : (e : GroupNo × Clock) → FitsClock e → ClockFromOne e → IsClock e
is_clock e fits from =
    record {
      group = is_name e.0.0 fits.group from.group;
      view = is_count e.1.view fits.view from.view;
      counts = are_counts e.1.counts fits.counts from.counts;
    }

is_new_holder : (o : Option Proc) → FitsNewHolder o → HolderFromOne o → IsNewHolder o
is_new_holder None fits from = tt
is_new_holder (Some p) fits from = is_proc p fits from

is_body : (b : Body) → FitsBody b → BodyFromOne b → IsBody b
is_body (body.Causal payload) fits from = fits
is_body (body.Atomic payload) fits from = fits
is_body (body.Order s) fits from =
    record {
      short = fits.short;
      ids = are_entries s.ids fits.ids from.0;
      holder = is_new_holder s.holder fits.holder from.1;
    }

is_message : (m : Message) → FitsMessage m → MessageFromOne m → IsMessage m
is_message m fits from =
    record {
      id = is_uid m.id fits.id from.id;
      times =
          record {
            sorted = fits.times.sorted;
            clocks = each_is FitsClock ClockFromOne IsClock is_clock m.times fits.times.clocks from.times;
          };
      body = is_body m.body fits.body from.body;
    }

are_members : (m : Membership) → FitMembers m → Each ProcFromOne m.list → AreMembers m
are_members m fit from =
    record { sorted = fit.sorted; procs = each_is FitsProc ProcFromOne IsProc is_proc m.list fit.procs from }

is_tail : (t : Tail) → FitsTail t → Each EntryFromOne t.ids → IsTail t
is_tail t fits from = record { short = fits.short; ids = are_entries t.ids fits.ids from }

are_kept : (k : KeptList) → FitKept k → Each MarkedFromOne k → AreKept k
are_kept k fit from =
    record {
      sorted = fit.sorted;
      ids = each_is FitsMarked MarkedFromOne IsMarked (λ (e : Marked) fits of. is_entry e.0 fits of) k fit.ids from;
    }

is_frame : (f : SiteFrame) → FitsType f → FrameFromOne f → FewIds f → IsFrame f
is_frame (Data m) fits from few = is_message m fits from
is_frame (Ack u) fits from few = is_uid u fits from
is_frame (Stable u) fits from few = is_uid u fits from
is_frame (Ask g n change p) fits from few = (is_name g.0 fits.0 from.group, is_count n fits.1 from.number, is_proc p fits.2 from.proc)
is_frame (Asked g n full) fits from few = (is_name g.0 fits.0 from.group, is_count n fits.1 from.number)
is_frame (Prepare g view) fits from few = (is_name g.0 fits.0 from.group, is_count view fits.1 from.number)
is_frame (Flushed g view counts tail kept) fits from few =
    record {
      group = is_name g.0 fits.group from.group;
      view = is_count view fits.view from.number;
      counts = are_counts counts fits.counts from.report.counts;
      tail = is_tail tail fits.tail from.report.tail;
      few = few;
      kept = are_kept kept fits.kept from.report.kept;
    }
is_frame (Want u) fits from few = is_uid u fits from
is_frame (Forward m) fits from few = is_message m fits from
is_frame (Install g view members request cut tail) fits from few =
    record {
      group = is_name g.0 fits.group from.group;
      view = is_count view fits.view from.number;
      members = are_members members fits.members from.members;
      request = record { above = omega arith; below = omega (arith, fits.request) };
      cut = are_counts cut fits.cut from.cut;
      tail = is_tail tail fits.tail from.tail;
    }
is_frame (Installed g view) fits from few = (is_name g.0 fits.0 from.group, is_count view fits.1 from.number)
is_frame (Out g view) fits from few = (is_name g.0 fits.0 from.group, is_count view fits.1 from.number)

pub is_spelled : (d : DomainNo) (s : SiteNo) (f : SiteFrame) → IsByte d.0 → IsShort s.0 → FitsType f → FewIds f → 1 ≤ d.0 → 1 ≤ s.0 →
    FrameFromOne f → IsSpelled d s f
is_spelled d s f byte short fits few domain site from =
    record {
      domain = record { above = domain; below = omega (arith, byte) };
      site = is_name s.0 short site;
      frame = is_frame f fits from few;
    }
