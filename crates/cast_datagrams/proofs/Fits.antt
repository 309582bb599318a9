-- Whether a frame is a value of its type, tested.
use Rattle.std.proofs.Common.{◌≡◌, ℕ, ◌^◌, Bool, true, List, [], ◌∷◌, length, Option, Some, None}
use Rattle.std.specs.Prelude.{◌&&◌, nat_le, nat_lt}
use Rattle.std.specs.List.{AllByRecursion, list_all}
use Rattle.std.proofs.lemmas.Bool.{and_parts, leb-true, ltb-true}
use Rattle.cast_types.specs.declared.names.DomainNo.{DomainNo}
use Rattle.cast_types.specs.declared.names.GroupNo.{GroupNo}
use Rattle.cast_types.specs.declared.names.Proc.{Proc}
use Rattle.cast_types.specs.declared.names.SiteNo.{SiteNo}
use Rattle.cast_types.specs.declared.names.Uid.{Uid}
use Rattle.cast_types.specs.declared.clock.Clock.{Clock}
use Rattle.cast_types.specs.Names.{Entry}
use Rattle.cast_types.specs.Counts.{is_counts}
use Rattle.cast_types.specs.Stamps.{is_stamp}
use Rattle.cast_message.specs.declared.message.Body.{Body}
use Rattle.cast_message.specs.declared.message.Body.TheVariants as body
use Rattle.cast_message.specs.declared.message.Message.{Message}
use Rattle.cast_message.specs.declared.site.SiteFrame.{SiteFrame}
use Rattle.cast_message.specs.declared.site.SiteFrame.TheVariants.{Data, Ack, Stable, Ask, Asked, Prepare, Flushed}
use Rattle.cast_message.specs.declared.site.SiteFrame.TheVariants.{Want, Forward, Install, Installed, Out}
use Rattle.cast_message.specs.Membership.{Membership, is_members}
use Rattle.cast_message.specs.Tail.{Tail, is_tail}
use Rattle.cast_message.specs.Placement.{Placement, is_placement}
use Rattle.cast_message.specs.KeptIds.{KeptList, Marked, is_kept}
use Rattle.cast_datagrams.specs.Typed.{FitCounts, FitKept, FitMembers, FitPlaces, FitsBody, FitsClock, FitsEntry, FitsMarked}
use Rattle.cast_datagrams.specs.Typed.{FitsMessage, FitsNewHolder, FitsProc, FitsSent, FitsTail, FitsType, FitsUid, IsShort, IsWord}

-- what a test says of each item
pub all_pass : {X : Type 0} (P : X → Type 0) (test : X → Bool) → ((x : X) → test x ≡ true → P x) → (xs : List X) →
    list_all test xs ≡ true → AllByRecursion P xs
all_pass P test one [] pass = tt
all_pass P test one (x ∷ xs) pass =
    let parts = and_parts (test x) (list_all test xs) pass in
    (one x parts.0, all_pass P test one xs parts.1)

abbrev short : ℕ → Bool
short n = nat_lt n (2 ^ 16)

abbrev word : ℕ → Bool
word n = nat_lt n (2 ^ 32)

is_short : (n : ℕ) → short n ≡ true → IsShort n
is_short n pass = ltb-true n (2 ^ 16) pass

is_word : (n : ℕ) → word n ≡ true → IsWord n
is_word n pass = ltb-true n (2 ^ 32) pass

abbrev proc : Proc → Bool
proc p = short p.site.0 && word p.serial

fits_proc : (p : Proc) → proc p ≡ true → FitsProc p
fits_proc p pass =
    let parts = and_parts (short p.site.0) (word p.serial) pass in
    record { site = is_short p.site.0 parts.0; serial = is_word p.serial parts.1 }

abbrev entry : Entry → Bool
entry e = proc e.0 && word e.1

fits_entry : (e : Entry) → entry e ≡ true → FitsEntry e
fits_entry e pass =
    let parts = and_parts (proc e.0) (word e.1) pass in
    record { proc = fits_proc e.0 parts.0; count = is_word e.1 parts.1 }

abbrev uid : Uid → Bool
uid u = short u.group.0 && (word u.view && (proc u.proc && word u.count))

fits_uid : (u : Uid) → uid u ≡ true → FitsUid u
fits_uid u pass =
    let group = and_parts (short u.group.0) (word u.view && (proc u.proc && word u.count)) pass in
    let view = and_parts (word u.view) (proc u.proc && word u.count) group.1 in
    let rest = and_parts (proc u.proc) (word u.count) view.1 in
    record {
      group = is_short u.group.0 group.0;
      view = is_word u.view view.0;
      proc = fits_proc u.proc rest.0;
      count = is_word u.count rest.1;
    }

abbrev counts : List Entry → Bool
counts c = is_counts c && list_all entry c

fit_counts : (c : List Entry) → counts c ≡ true → FitCounts c
fit_counts c pass =
    let parts = and_parts (is_counts c) (list_all entry c) pass in
    record { sorted = parts.0; entries = all_pass FitsEntry entry fits_entry c parts.1 }

abbrev clock : GroupNo × Clock → Bool
clock e = short e.0.0 && (word e.1.view && counts e.1.counts)

fits_clock : (e : GroupNo × Clock) → clock e ≡ true → FitsClock e
fits_clock e pass =
    let group = and_parts (short e.0.0) (word e.1.view && counts e.1.counts) pass in
    let view = and_parts (word e.1.view) (counts e.1.counts) group.1 in
    record { group = is_short e.0.0 group.0; view = is_word e.1.view view.0; counts = fit_counts e.1.counts view.1 }

abbrev holder : Option Proc → Bool
holder None = true
holder (Some p) = proc p

fits_holder : (o : Option Proc) → holder o ≡ true → FitsNewHolder o
fits_holder None pass = tt
fits_holder (Some p) pass = fits_proc p pass

abbrev places : Placement → Bool
places s = is_placement s && (list_all entry s.ids && holder s.holder)

fit_places : (s : Placement) → places s ≡ true → FitPlaces s
fit_places s pass =
    let short = and_parts (is_placement s) (list_all entry s.ids && holder s.holder) pass in
    let rest = and_parts (list_all entry s.ids) (holder s.holder) short.1 in
    record { short = short.0; ids = all_pass FitsEntry entry fits_entry s.ids rest.0; holder = fits_holder s.holder rest.1 }

abbrev body_passes : Body → Bool
body_passes (body.Causal payload) = nat_le (length payload) 16384
body_passes (body.Atomic payload) = nat_le (length payload) 16384
body_passes (body.Order s) = places s

fits_body : (b : Body) → body_passes b ≡ true → FitsBody b
fits_body (body.Causal payload) pass = leb-true (length payload) 16384 pass
fits_body (body.Atomic payload) pass = leb-true (length payload) 16384 pass
fits_body (body.Order s) pass = fit_places s pass

abbrev message : Message → Bool
message m = uid m.id && ((is_stamp m.times && list_all clock m.times) && body_passes m.body)

fits_message : (m : Message) → message m ≡ true → FitsMessage m
fits_message m pass =
    let id = and_parts (uid m.id) ((is_stamp m.times && list_all clock m.times) && body_passes m.body) pass in
    let rest = and_parts (is_stamp m.times && list_all clock m.times) (body_passes m.body) id.1 in
    let times = and_parts (is_stamp m.times) (list_all clock m.times) rest.0 in
    record {
      id = fits_uid m.id id.0;
      times = record { sorted = times.0; clocks = all_pass FitsClock clock fits_clock m.times times.1 };
      body = fits_body m.body rest.1;
    }

abbrev members : Membership → Bool
members m = is_members m && list_all proc m.list

fit_members : (m : Membership) → members m ≡ true → FitMembers m
fit_members m pass =
    let parts = and_parts (is_members m) (list_all proc m.list) pass in
    record { sorted = parts.0; procs = all_pass FitsProc proc fits_proc m.list parts.1 }

abbrev tail : Tail → Bool
tail t = is_tail t && list_all entry t.ids

fits_tail : (t : Tail) → tail t ≡ true → FitsTail t
fits_tail t pass =
    let parts = and_parts (is_tail t) (list_all entry t.ids) pass in
    record { short = parts.0; ids = all_pass FitsEntry entry fits_entry t.ids parts.1 }

abbrev kept : KeptList → Bool
kept k = is_kept k && list_all (λ (e : Marked). entry e.0) k

fit_kept : (k : KeptList) → kept k ≡ true → FitKept k
fit_kept k pass =
    let parts = and_parts (is_kept k) (list_all (λ (e : Marked). entry e.0) k) pass in
    let one : (e : Marked) → entry e.0 ≡ true → FitsMarked e = λ e pass. fits_entry e.0 pass in
    record { sorted = parts.0; ids = all_pass FitsMarked (λ (e : Marked). entry e.0) one k parts.1 }

abbrev pub passes : SiteFrame → Bool
passes (Data m) = message m
passes (Ack u) = uid u
passes (Stable u) = uid u
passes (Ask g number change p) = short g.0 && (word number && proc p)
passes (Asked g number full) = short g.0 && word number
passes (Prepare g view) = short g.0 && word view
passes (Flushed g view c t k) = short g.0 && (word view && (counts c && (tail t && kept k)))
passes (Want u) = uid u
passes (Forward m) = message m
passes (Install g view m request cut t) = short g.0 && (word view && (members m && (word request && (counts cut && tail t))))
passes (Installed g view) = short g.0 && word view
passes (Out g view) = short g.0 && word view

two : (g : GroupNo) (n : ℕ) → (short g.0 && word n) ≡ true → IsShort g.0 × IsWord n
two g n pass =
    let parts = and_parts (short g.0) (word n) pass in
    (is_short g.0 parts.0, is_word n parts.1)

fits_type : (f : SiteFrame) → passes f ≡ true → FitsType f
fits_type (Data m) pass = fits_message m pass
fits_type (Ack u) pass = fits_uid u pass
fits_type (Stable u) pass = fits_uid u pass
fits_type (Ask g number change p) pass =
    let group = and_parts (short g.0) (word number && proc p) pass in
    let rest = and_parts (word number) (proc p) group.1 in
    (is_short g.0 group.0, is_word number rest.0, fits_proc p rest.1)
fits_type (Asked g number full) pass = two g number pass
fits_type (Prepare g view) pass = two g view pass
fits_type (Flushed g view c t k) pass =
    let a = and_parts (short g.0) (word view && (counts c && (tail t && kept k))) pass in
    let b = and_parts (word view) (counts c && (tail t && kept k)) a.1 in
    let r = and_parts (counts c) (tail t && kept k) b.1 in
    let s = and_parts (tail t) (kept k) r.1 in
    record {
      group = is_short g.0 a.0;
      view = is_word view b.0;
      counts = fit_counts c r.0;
      tail = fits_tail t s.0;
      kept = fit_kept k s.1;
    }
fits_type (Want u) pass = fits_uid u pass
fits_type (Forward m) pass = fits_message m pass
fits_type (Install g view m request cut t) pass =
    let a = and_parts (short g.0) (word view && (members m && (word request && (counts cut && tail t)))) pass in
    let b = and_parts (word view) (members m && (word request && (counts cut && tail t))) a.1 in
    let r = and_parts (members m) (word request && (counts cut && tail t)) b.1 in
    let s = and_parts (word request) (counts cut && tail t) r.1 in
    let e = and_parts (counts cut) (tail t) s.1 in
    record {
      group = is_short g.0 a.0;
      view = is_word view b.0;
      members = fit_members m r.0;
      request = is_word request s.0;
      cut = fit_counts cut e.0;
      tail = fits_tail t e.1;
    }
fits_type (Installed g view) pass = two g view pass
fits_type (Out g view) pass = two g view pass

abbrev pub passes_sent : DomainNo × SiteNo × SiteFrame → Bool
passes_sent f = nat_lt f.0.0 (2 ^ 8) && (short f.1.0 && passes f.2)

pub fits_sent : (f : DomainNo × SiteNo × SiteFrame) → passes_sent f ≡ true → FitsSent f
fits_sent f pass =
    let domain = and_parts (nat_lt f.0.0 (2 ^ 8)) (short f.1.0 && passes f.2) pass in
    let rest = and_parts (short f.1.0) (passes f.2) domain.1 in
    record {
      domain = ltb-true f.0.0 (2 ^ 8) domain.0;
      to = is_short f.1.0 rest.0;
      frame = fits_type f.2 rest.1;
    }
