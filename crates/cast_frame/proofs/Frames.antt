-- Frames are read as they were spelled: what is read is spelled so, and what is spelled so is read.
-- `found` says that bytes that are read as a frame are the ones that spell it; `read_again` says
-- that the bytes that spell a frame of at most 60000 bytes are read as that frame. Both follow
-- field by field: a reader `Takes` what its spelling says, and leaves the bytes behind it alone.
-- Each frame type has one such lemma (`data_takes` to `out_takes`), so a frame is a header and one
-- of these cases.
use Rattle.std.proofs.Common.{◌≡◌, ℕ, ◌≤◌, Bool, true, false, not, cond, eqb, ltb, List, [], ◌++◌, length, Result}
use Rattle.std.proofs.Common.{Ok, Err, refl, sym, ap, subst, ◌∙◌, append_assoc, arith, lit<, lit≤, inl, inr}
use Rattle.std.specs.Prelude.{◌||◌}
use Rattle.std.specs.Int.{w16, w32}
use Rattle.std.proofs.lemmas.Bool.{cases_Bool, false≢true, eqb-true, eq-eqb, le-ltb}
use Rattle.std.proofs.lemmas.List.{append-nil, nil_from_length}
use Rattle.cast_types.specs.declared.names.DomainNo.{DomainNo}
use Rattle.cast_types.specs.declared.names.SiteNo.{SiteNo}
use Rattle.cast_types.specs.declared.names.GroupNo.{GroupNo}
use Rattle.cast_types.specs.declared.names.Proc.{Proc}
use Rattle.cast_types.specs.declared.names.Uid.{Uid}
use Rattle.cast_types.specs.Names.{Entry}
use Rattle.cast_field.specs.declared.fault.FrameFault.{FrameFault}
use Rattle.cast_field.specs.declared.fault.FrameFault.TheVariants.{Magic, Version, WrongType, Length, Range}
use Rattle.cast_message.specs.declared.message.Message.{Message}
use Rattle.cast_message.specs.declared.site.Change.{Change}
use Rattle.cast_message.specs.declared.site.Change.TheVariants.{Join, Leave}
use Rattle.cast_message.specs.declared.site.SiteFrame.{SiteFrame}
use Rattle.cast_message.specs.declared.site.SiteFrame.TheVariants.{Data, Ack, Stable, Ask, Asked, Prepare, Flushed}
use Rattle.cast_message.specs.declared.site.SiteFrame.TheVariants.{Want, Forward, Install, Installed, Out}
use Rattle.cast_frame.specs.declared.reading.FrameType.{FrameType}
use Rattle.cast_frame.specs.declared.reading.FrameType.TheVariants as types
use Rattle.cast_message.specs.Membership.{Membership}
use Rattle.cast_message.specs.Tail.{Tail}
use Rattle.cast_message.specs.KeptIds.{KeptList}
use Rattle.cast_message.specs.Bodies.{hands_over}
use Rattle.cast_field.specs.Spelling.{byte, short, word, spelled_proc, spelled_counts, spelled_members, spelled_tail, spelled_kept}
use Rattle.cast_frame.specs.Spelling.{change_code, full_code, frame_code, is_handing, version_code, spelled_fields, spelled_site}
use Rattle.cast_field.specs.Reading.{◌>>=◌, byte_at, number_at, domain_at, site_at, group_at, count_at}
use Rattle.cast_field.specs.Reading.{proc_at, uid_at, counts_at, message_at, members_at, tail_at, kept_at}
use Rattle.cast_frame.specs.Reading.{change_of, full_of, data_at, ack_at, stable_at, ask_at, asked_at, prepare_at}
use Rattle.cast_frame.specs.Reading.{flushed_at, want_at, forward_at, install_at, installed_at, out_at, type_of, may_stand}
use Rattle.cast_frame.specs.Reading.{type_at, fields_at, magic_at, version_of, version_at, frame_at, site_frame_of}
use Rattle.cast_field.specs.Spelled.{IsFrom, IsName, IsCount, IsProc, IsUid, IsMessage}
use Rattle.cast_frame.specs.Spelled.{IsFlushed, IsInstall, IsFrame, IsSpelled}
use Rattle.cast_field.proofs.Fields.{IsBytes, bind_ok, guard_ok, pass_ok, ok_is, Took, joined, Takes}
use Rattle.cast_field.proofs.Fields.{byte_takes, byte_again, short_takes, short_again, word_takes, word_again}
use Rattle.cast_field.proofs.Parts.{domain_takes, domain_again, site_takes, site_again, group_takes, group_again, count_takes}
use Rattle.cast_field.proofs.Parts.{count_again, proc_takes, proc_again, uid_takes, uid_again, counts_takes, counts_again}
use Rattle.cast_field.proofs.Holders.{chosen, members_take, members_again}
use Rattle.cast_field.proofs.Orders.{stretch_parts, tail_takes, tail_again, kept_takes, kept_again}
use Rattle.cast_field.proofs.Messages.{message_takes, message_again}

-- ---- the fields of each frame

change_back : (n : ℕ) → IsFrom 1 2 n → n ≡ change_code (change_of n)
change_back n h =
    elim (cases_Bool (eqb n 1)) [
      | inl is ↦ rw is (eqb-true n 1 is)
      | inr not_one ↦
          let other : n ≡ 1 → ⊥ = λ z. false≢true (sym not_one ∙ eq-eqb n 1 z) in
          rw not_one (omega (arith, h.above, h.below, other))
    ]

change_again : (c : Change) → change_of (change_code c) ≡ c
change_again Join = refl
change_again Leave = refl

change_within : (c : Change) → IsFrom 1 2 (change_code c)
change_within Join = record { above = lit≤ tt; below = lit≤ tt }
change_within Leave = record { above = lit≤ tt; below = lit≤ tt }

full_back : (n : ℕ) (full : Bool) → full_of n ≡ Ok full → n ≡ full_code full
unfolding full_of
full_back n full e =
    elim (chosen (eqb n 0) (Ok false) (cond (eqb n 14) (Ok true) (Err Range)) (Ok full) e) [
      | inl none ↦ eqb-true n 0 none.0 ∙ ap full_code (ok_is false full none.1)
      | inr some ↦
          let g = pass_ok (eqb n 14) Range (Ok true) full some.1 in
          eqb-true n 14 g.0 ∙ ap full_code (ok_is true full g.1)
    ]

full_again : (full : Bool) → full_of (full_code full) ≡ Ok full
unfolding full_of
full_again true = refl
full_again false = refl

full_within : (full : Bool) → IsFrom 0 255 (full_code full)
full_within true = record { above = lit≤ tt; below = lit≤ tt }
full_within false = record { above = lit≤ tt; below = lit≤ tt }

-- a frame of a type, whose message hands over the token or does not
abbrev pub IsOf : Bool → ℕ → SiteFrame → Type 0
IsOf handing code f = IsFrame f × (frame_code f ≡ code) × (is_handing f ≡ handing)

pub data_takes : (handing : Bool) → Takes (data_at handing) (spelled_fields) (IsOf handing 1)
unfolding data_at spelled_fields
data_takes handing bytes x fits e =
    let a1 = bind_ok (message_at handing bytes) (λ message. Ok (Data message.0, message.1)) x e in
    let t1 = message_takes handing bytes a1.0 fits a1.1 in
    let made : SiteFrame × List ℕ = (Data a1.0.0, a1.0.1) in
    subst (λ (y : SiteFrame × List ℕ). Took bytes ((spelled_fields) y.0) y.1 ((IsOf handing 1) y.0)) (ok_is made x a1.2)
    (record { parts = t1.parts; rest_fits = t1.rest_fits; holds = (t1.holds.0, refl, t1.holds.1) })

pub ack_takes : Takes ack_at (spelled_fields) (IsOf false 2)
unfolding ack_at spelled_fields
ack_takes bytes x fits e =
    let a1 = bind_ok (uid_at bytes) (λ id. Ok (Ack id.0, id.1)) x e in
    let t1 = uid_takes bytes a1.0 fits a1.1 in
    let made : SiteFrame × List ℕ = (Ack a1.0.0, a1.0.1) in
    subst (λ (y : SiteFrame × List ℕ). Took bytes ((spelled_fields) y.0) y.1 ((IsOf false 2) y.0)) (ok_is made x a1.2)
    (record { parts = t1.parts; rest_fits = t1.rest_fits; holds = (t1.holds, refl, refl) })

pub stable_takes : Takes stable_at spelled_fields (IsOf false 3)
unfolding stable_at spelled_fields
stable_takes bytes x fits e =
    let a1 = bind_ok (uid_at bytes) (λ id. Ok (Stable id.0, id.1)) x e in
    let t1 = uid_takes bytes a1.0 fits a1.1 in
    let made : SiteFrame × List ℕ = (Stable a1.0.0, a1.0.1) in
    subst (λ (y : SiteFrame × List ℕ). Took bytes (spelled_fields y.0) y.1 (IsOf false 3 y.0)) (ok_is made x a1.2)
    (record { parts = t1.parts; rest_fits = t1.rest_fits; holds = (t1.holds, refl, refl) })

pub ask_takes : Takes ask_at spelled_fields (IsOf false 4)
unfolding ask_at spelled_fields
ask_takes bytes x fits e =
    let a1 =
    bind_ok (group_at bytes) (λ group. count_at group.1 >>= λ number. byte_at 1 2 number.1
    >>= λ change. proc_at change.1 >>= λ proc. Ok (Ask group.0 number.0 (change_of change.0) proc.0, proc.1)) x e in
    let a2 =
    bind_ok (count_at a1.0.1) (λ number. byte_at 1 2 number.1
    >>= λ change. proc_at change.1 >>= λ proc. Ok (Ask a1.0.0 number.0 (change_of change.0) proc.0, proc.1)) x a1.2 in
    let a3 =
    bind_ok (byte_at 1 2 a2.0.1)
    (λ change. proc_at change.1 >>= λ proc. Ok (Ask a1.0.0 a2.0.0 (change_of change.0) proc.0, proc.1)) x a2.2 in
    let a4 = bind_ok (proc_at a3.0.1) (λ proc. Ok (Ask a1.0.0 a2.0.0 (change_of a3.0.0) proc.0, proc.1)) x a3.2 in
    let t1 = group_takes bytes a1.0 fits a1.1 in
    let t2 = count_takes a1.0.1 a2.0 t1.rest_fits a2.1 in
    let t3 = byte_takes 1 2 a2.0.1 a3.0 t2.rest_fits a3.1 in
    let t4 = proc_takes a3.0.1 a4.0 t3.rest_fits a4.1 in
    let code = change_code (change_of a3.0.0) in
    let p3 = t3.parts ∙ ap (λ (n : ℕ). byte n ++ a3.0.1) (change_back a3.0.0 t3.holds) in
    let j3 = joined a2.0.1 (byte code) a3.0.1 (spelled_proc a4.0.0) a4.0.1 p3 t4.parts in
    let j2 = joined a1.0.1 (word a2.0.0) a2.0.1 (byte code ++ spelled_proc a4.0.0) a4.0.1 t2.parts j3 in
    let j1 = joined bytes (short a1.0.0.0) a1.0.1 (word a2.0.0 ++ (byte code ++ spelled_proc a4.0.0)) a4.0.1 t1.parts j2 in
    let made : SiteFrame × List ℕ = (Ask a1.0.0 a2.0.0 (change_of a3.0.0) a4.0.0, a4.0.1) in
    subst (λ (y : SiteFrame × List ℕ). Took bytes (spelled_fields y.0) y.1 (IsOf false 4 y.0)) (ok_is made x a4.2)
    (record { parts = j1; rest_fits = t4.rest_fits; holds = ((t1.holds, t2.holds, t4.holds), refl, refl) })

pub asked_takes : Takes asked_at spelled_fields (IsOf false 5)
unfolding asked_at spelled_fields
asked_takes bytes x fits e =
    let a1 =
    bind_ok (group_at bytes) (λ group. count_at group.1
    >>= λ number. byte_at 0 255 number.1 >>= λ code. full_of code.0 >>= λ full. Ok (Asked group.0 number.0 full, code.1)) x e in
    let a2 =
    bind_ok (count_at a1.0.1)
    (λ number. byte_at 0 255 number.1 >>= λ code. full_of code.0 >>= λ full. Ok (Asked a1.0.0 number.0 full, code.1)) x a1.2 in
    let a3 = bind_ok (byte_at 0 255 a2.0.1) (λ code. full_of code.0 >>= λ full. Ok (Asked a1.0.0 a2.0.0 full, code.1)) x a2.2 in
    let a4 = bind_ok (full_of a3.0.0) (λ full. Ok (Asked a1.0.0 a2.0.0 full, a3.0.1)) x a3.2 in
    let t1 = group_takes bytes a1.0 fits a1.1 in
    let t2 = count_takes a1.0.1 a2.0 t1.rest_fits a2.1 in
    let t3 = byte_takes 0 255 a2.0.1 a3.0 t2.rest_fits a3.1 in
    let p3 = t3.parts ∙ ap (λ (n : ℕ). byte n ++ a3.0.1) (full_back a3.0.0 a4.0 a4.1) in
    let j2 = joined a1.0.1 (word a2.0.0) a2.0.1 (byte (full_code a4.0)) a3.0.1 t2.parts p3 in
    let j1 = joined bytes (short a1.0.0.0) a1.0.1 (word a2.0.0 ++ byte (full_code a4.0)) a3.0.1 t1.parts j2 in
    let made : SiteFrame × List ℕ = (Asked a1.0.0 a2.0.0 a4.0, a3.0.1) in
    subst (λ (y : SiteFrame × List ℕ). Took bytes (spelled_fields y.0) y.1 (IsOf false 5 y.0)) (ok_is made x a4.2)
    (record { parts = j1; rest_fits = t3.rest_fits; holds = ((t1.holds, t2.holds), refl, refl) })

pub prepare_takes : Takes prepare_at spelled_fields (IsOf false 6)
unfolding prepare_at spelled_fields
prepare_takes bytes x fits e =
    let a1 = bind_ok (group_at bytes) (λ group. count_at group.1 >>= λ view. Ok (Prepare group.0 view.0, view.1)) x e in
    let a2 = bind_ok (count_at a1.0.1) (λ view. Ok (Prepare a1.0.0 view.0, view.1)) x a1.2 in
    let t1 = group_takes bytes a1.0 fits a1.1 in
    let t2 = count_takes a1.0.1 a2.0 t1.rest_fits a2.1 in
    let j1 = joined bytes (short a1.0.0.0) a1.0.1 (word a2.0.0) a2.0.1 t1.parts t2.parts in
    let made : SiteFrame × List ℕ = (Prepare a1.0.0 a2.0.0, a2.0.1) in
    subst (λ (y : SiteFrame × List ℕ). Took bytes (spelled_fields y.0) y.1 (IsOf false 6 y.0)) (ok_is made x a2.2)
    (record { parts = j1; rest_fits = t2.rest_fits; holds = ((t1.holds, t2.holds), refl, refl) })

pub flushed_takes : Takes flushed_at spelled_fields (IsOf false 7)
unfolding flushed_at spelled_fields
flushed_takes bytes x fits e =
    let a1 =
    bind_ok (group_at bytes) (λ group. count_at group.1 >>= λ view. counts_at view.1 >>= λ counts.
    tail_at 512 counts.1 >>= λ tail. kept_at tail.1 >>= λ kept. Ok (Flushed group.0 view.0 counts.0 tail.0 kept.0, kept.1)) x e in
    let a2 =
    bind_ok (count_at a1.0.1) (λ view. counts_at view.1 >>= λ counts.
    tail_at 512 counts.1 >>= λ tail. kept_at tail.1 >>= λ kept. Ok (Flushed a1.0.0 view.0 counts.0 tail.0 kept.0, kept.1)) x a1.2 in
    let a3 =
    bind_ok (counts_at a2.0.1) (λ counts.
    tail_at 512 counts.1 >>= λ tail. kept_at tail.1 >>= λ kept. Ok (Flushed a1.0.0 a2.0.0 counts.0 tail.0 kept.0, kept.1)) x a2.2 in
    let a4 =
    bind_ok (tail_at 512 a3.0.1) (λ tail. kept_at tail.1 >>= λ kept. Ok (Flushed a1.0.0 a2.0.0 a3.0.0 tail.0 kept.0, kept.1)) x a3.2 in
    let a5 = bind_ok (kept_at a4.0.1) (λ kept. Ok (Flushed a1.0.0 a2.0.0 a3.0.0 a4.0.0 kept.0, kept.1)) x a4.2 in
    let t1 = group_takes bytes a1.0 fits a1.1 in
    let t2 = count_takes a1.0.1 a2.0 t1.rest_fits a2.1 in
    let t3 = counts_takes a2.0.1 a3.0 t2.rest_fits a3.1 in
    let t4 = tail_takes 512 (lit≤ tt) a3.0.1 a4.0 t3.rest_fits a4.1 in
    let t5 = kept_takes a4.0.1 a5.0 t4.rest_fits a5.1 in
    let j4 = joined a3.0.1 (spelled_tail a4.0.0) a4.0.1 (spelled_kept a5.0.0) a5.0.1 t4.parts t5.parts in
    let j3 = joined a2.0.1 (spelled_counts a3.0.0) a3.0.1 (spelled_tail a4.0.0 ++ spelled_kept a5.0.0) a5.0.1 t3.parts j4 in
    let j2 =
    joined a1.0.1 (word a2.0.0) a2.0.1 (spelled_counts a3.0.0 ++ (spelled_tail a4.0.0 ++ spelled_kept a5.0.0)) a5.0.1 t2.parts j3 in
    let j1 =
    joined bytes (short a1.0.0.0) a1.0.1 (word a2.0.0 ++ (spelled_counts a3.0.0 ++ (spelled_tail a4.0.0 ++ spelled_kept a5.0.0)))
    a5.0.1 t1.parts j2 in
    let made : SiteFrame × List ℕ = (Flushed a1.0.0 a2.0.0 a3.0.0 a4.0.0 a5.0.0, a5.0.1) in
    subst (λ (y : SiteFrame × List ℕ). Took bytes (spelled_fields y.0) y.1 (IsOf false 7 y.0)) (ok_is made x a5.2)
    (record {
      parts = j1;
      rest_fits = t5.rest_fits;
      holds = (
        record { group = t1.holds; view = t2.holds; counts = t3.holds; tail = t4.holds.0; few = t4.holds.1; kept = t5.holds },
        refl,
        refl,
      );
    })

pub want_takes : Takes want_at spelled_fields (IsOf false 8)
unfolding want_at spelled_fields
want_takes bytes x fits e =
    let a1 = bind_ok (uid_at bytes) (λ id. Ok (Want id.0, id.1)) x e in
    let t1 = uid_takes bytes a1.0 fits a1.1 in
    let made : SiteFrame × List ℕ = (Want a1.0.0, a1.0.1) in
    subst (λ (y : SiteFrame × List ℕ). Took bytes (spelled_fields y.0) y.1 (IsOf false 8 y.0)) (ok_is made x a1.2)
    (record { parts = t1.parts; rest_fits = t1.rest_fits; holds = (t1.holds, refl, refl) })

pub forward_takes : (handing : Bool) → Takes (forward_at handing) spelled_fields (IsOf handing 9)
unfolding forward_at spelled_fields
forward_takes handing bytes x fits e =
    let a1 = bind_ok (message_at handing bytes) (λ message. Ok (Forward message.0, message.1)) x e in
    let t1 = message_takes handing bytes a1.0 fits a1.1 in
    let made : SiteFrame × List ℕ = (Forward a1.0.0, a1.0.1) in
    subst (λ (y : SiteFrame × List ℕ). Took bytes (spelled_fields y.0) y.1 (IsOf handing 9 y.0)) (ok_is made x a1.2)
    (record { parts = t1.parts; rest_fits = t1.rest_fits; holds = (t1.holds.0, refl, t1.holds.1) })

pub install_takes : Takes install_at (spelled_fields) (IsOf false 10)
unfolding install_at spelled_fields
install_takes bytes x fits e =
    let a1 =
    bind_ok (group_at bytes) (λ group. count_at group.1
    >>= λ view. members_at view.1 >>= λ members. number_at w32 0 4294967295 members.1 >>= λ request. counts_at request.1
    >>= λ cut. tail_at 576 cut.1 >>= λ tail. Ok (Install group.0 view.0 members.0 request.0 cut.0 tail.0, tail.1)) x e in
    let a2 =
    bind_ok (count_at a1.0.1)
    (λ view. members_at view.1 >>= λ members. number_at w32 0 4294967295 members.1 >>= λ request. counts_at request.1
    >>= λ cut. tail_at 576 cut.1 >>= λ tail. Ok (Install a1.0.0 view.0 members.0 request.0 cut.0 tail.0, tail.1)) x a1.2 in
    let a3 =
    bind_ok (members_at a2.0.1) (λ members. number_at w32 0 4294967295 members.1 >>= λ request. counts_at request.1
    >>= λ cut. tail_at 576 cut.1 >>= λ tail. Ok (Install a1.0.0 a2.0.0 members.0 request.0 cut.0 tail.0, tail.1)) x a2.2 in
    let a4 =
    bind_ok (number_at w32 0 4294967295 a3.0.1) (λ request. counts_at request.1
    >>= λ cut. tail_at 576 cut.1 >>= λ tail. Ok (Install a1.0.0 a2.0.0 a3.0.0 request.0 cut.0 tail.0, tail.1)) x a3.2 in
    let a5 =
    bind_ok (counts_at a4.0.1)
    (λ cut. tail_at 576 cut.1 >>= λ tail. Ok (Install a1.0.0 a2.0.0 a3.0.0 a4.0.0 cut.0 tail.0, tail.1)) x a4.2 in
    let a6 = bind_ok (tail_at 576 a5.0.1) (λ tail. Ok (Install a1.0.0 a2.0.0 a3.0.0 a4.0.0 a5.0.0 tail.0, tail.1)) x a5.2 in
    let t1 = group_takes bytes a1.0 fits a1.1 in
    let t2 = count_takes a1.0.1 a2.0 t1.rest_fits a2.1 in
    let t3 = members_take a2.0.1 a3.0 t2.rest_fits a3.1 in
    let t4 = word_takes 0 4294967295 a3.0.1 a4.0 t3.rest_fits a4.1 in
    let t5 = counts_takes a4.0.1 a5.0 t4.rest_fits a5.1 in
    let t6 = tail_takes 576 (lit≤ tt) a5.0.1 a6.0 t5.rest_fits a6.1 in
    let j5 = joined a4.0.1 (spelled_counts (a5.0.0)) a5.0.1 (spelled_tail (a6.0.0)) a6.0.1 t5.parts t6.parts in
    let j4 = joined a3.0.1 (word (a4.0.0)) a4.0.1 (spelled_counts (a5.0.0) ++ spelled_tail (a6.0.0)) a6.0.1 t4.parts j5 in
    let j3 =
    joined a2.0.1 (spelled_members (a3.0.0)) a3.0.1 (word (a4.0.0) ++ (spelled_counts (a5.0.0) ++ spelled_tail (a6.0.0)))
    a6.0.1 t3.parts j4 in
    let j2 =
    joined a1.0.1 (word (a2.0.0)) a2.0.1 (spelled_members (a3.0.0) ++ (word (a4.0.0) ++ (spelled_counts (a5.0.0) ++ spelled_tail (a6.0.0))))
    a6.0.1 t2.parts j3 in
    let j1 =
    joined bytes (short (a1.0.0).0) a1.0.1 (word (a2.0.0)
    ++ (spelled_members (a3.0.0) ++ (word (a4.0.0) ++ (spelled_counts (a5.0.0) ++ spelled_tail (a6.0.0))))) a6.0.1 t1.parts j2 in
    let made : SiteFrame × List ℕ = (Install a1.0.0 a2.0.0 a3.0.0 a4.0.0 a5.0.0 a6.0.0, a6.0.1) in
    subst (λ (y : SiteFrame × List ℕ). Took bytes ((spelled_fields) y.0) y.1 ((IsOf false 10) y.0)) (ok_is made x a6.2)
    (record {
      parts = j1;
      rest_fits = t6.rest_fits;
      holds = (
        record { group = t1.holds; view = t2.holds; members = t3.holds; request = t4.holds; cut = t5.holds; tail = t6.holds.0 },
        refl,
        refl,
      );
    })

pub installed_takes : Takes installed_at (spelled_fields) (IsOf false 11)
unfolding installed_at spelled_fields
installed_takes bytes x fits e =
    let a1 = bind_ok (group_at bytes) (λ group. count_at group.1 >>= λ view. Ok (Installed group.0 view.0, view.1)) x e in
    let a2 = bind_ok (count_at a1.0.1) (λ view. Ok (Installed a1.0.0 view.0, view.1)) x a1.2 in
    let t1 = group_takes bytes a1.0 fits a1.1 in
    let t2 = count_takes a1.0.1 a2.0 t1.rest_fits a2.1 in
    let j1 = joined bytes (short (a1.0.0).0) a1.0.1 (word (a2.0.0)) a2.0.1 t1.parts t2.parts in
    let made : SiteFrame × List ℕ = (Installed a1.0.0 a2.0.0, a2.0.1) in
    subst (λ (y : SiteFrame × List ℕ). Took bytes ((spelled_fields) y.0) y.1 ((IsOf false 11) y.0)) (ok_is made x a2.2)
    (record { parts = j1; rest_fits = t2.rest_fits; holds = ((t1.holds, t2.holds), refl, refl) })

pub out_takes : Takes out_at spelled_fields (IsOf false 12)
unfolding out_at spelled_fields
out_takes bytes x fits e =
    let a1 = bind_ok (group_at bytes) (λ group. count_at group.1 >>= λ view. Ok (Out group.0 view.0, view.1)) x e in
    let a2 = bind_ok (count_at a1.0.1) (λ view. Ok (Out a1.0.0 view.0, view.1)) x a1.2 in
    let t1 = group_takes bytes a1.0 fits a1.1 in
    let t2 = count_takes a1.0.1 a2.0 t1.rest_fits a2.1 in
    let j1 = joined bytes (short a1.0.0.0) a1.0.1 (word a2.0.0) a2.0.1 t1.parts t2.parts in
    let made : SiteFrame × List ℕ = (Out a1.0.0 a2.0.0, a2.0.1) in
    subst (λ (y : SiteFrame × List ℕ). Took bytes (spelled_fields y.0) y.1 (IsOf false 12 y.0)) (ok_is made x a2.2)
    (record { parts = j1; rest_fits = t2.rest_fits; holds = ((t1.holds, t2.holds), refl, refl) })

data_again : (m : Message) (rest : List ℕ) → IsMessage m → data_at (hands_over m.body) (spelled_fields (Data m) ++ rest) ≡ Ok (Data m, rest)
unfolding data_at spelled_fields
data_again m rest is_message =
    rw (message_again (m) (rest) is_message) refl

ack_again : (u : Uid) (rest : List ℕ) → IsUid u → ack_at (spelled_fields (Ack u) ++ rest) ≡ Ok (Ack u, rest)
unfolding ack_at spelled_fields
ack_again u rest is_id =
    rw (uid_again (u) (rest) is_id) refl

stable_again : (u : Uid) (rest : List ℕ) → IsUid u → stable_at (spelled_fields (Stable u) ++ rest) ≡ Ok (Stable u, rest)
unfolding stable_at spelled_fields
stable_again u rest is_id = rw (uid_again u rest is_id) refl

ask_again : (g : GroupNo) (n : ℕ) (c : Change) (p : Proc) (rest : List ℕ) → IsName g.0 → IsCount n → IsProc p →
    ask_at (spelled_fields (Ask g n c p) ++ rest) ≡ Ok (Ask g n c p, rest)
unfolding ask_at spelled_fields
ask_again g n c p rest is_group is_number is_proc =
    let regrouped : spelled_fields (Ask g n c p) ++ rest
    ≡ (short g.0) ++ ((word n) ++ ((byte (change_code c)) ++ ((spelled_proc p) ++ rest))) =
    append_assoc (short g.0) (word n ++ (byte (change_code c) ++ spelled_proc p)) rest
    ∙ ap (λ (t : List ℕ). (short g.0) ++ t) (append_assoc (word n) (byte (change_code c) ++ spelled_proc p) rest
    ∙ ap (λ (t : List ℕ). (word n) ++ t) (append_assoc (byte (change_code c)) (spelled_proc p) rest)) in
    ap ask_at regrouped ∙ rw (
      group_again (g) ((word n) ++ ((byte (change_code c)) ++ ((spelled_proc p) ++ rest))) is_group,
      count_again (n) ((byte (change_code c)) ++ ((spelled_proc p) ++ rest)) is_number,
      byte_again 1 2 (change_code c) ((spelled_proc p) ++ rest) (change_within c),
      proc_again (p) (rest) is_proc,
      change_again c,
    ) refl

asked_again : (g : GroupNo) (n : ℕ) (full : Bool) (rest : List ℕ) → IsName g.0 → IsCount n →
    asked_at (spelled_fields (Asked g n full) ++ rest) ≡ Ok (Asked g n full, rest)
unfolding asked_at spelled_fields
asked_again g n full rest is_group is_number =
    let regrouped : spelled_fields (Asked g n full) ++ rest ≡ (short g.0) ++ ((word n) ++ ((byte (full_code full)) ++ rest)) =
    append_assoc (short g.0) (word n ++ byte (full_code full)) rest
    ∙ ap (λ (t : List ℕ). (short g.0) ++ t) (append_assoc (word n) (byte (full_code full)) rest) in
    ap asked_at regrouped ∙ rw (
      group_again (g) ((word n) ++ ((byte (full_code full)) ++ rest)) is_group,
      count_again (n) ((byte (full_code full)) ++ rest) is_number,
      byte_again 0 255 (full_code full) (rest) (full_within full),
      full_again full,
    ) refl

prepare_again : (g : GroupNo) (view : ℕ) (rest : List ℕ) → IsName g.0 → IsCount view →
    prepare_at (spelled_fields (Prepare g view) ++ rest) ≡ Ok (Prepare g view, rest)
unfolding prepare_at spelled_fields
prepare_again g view rest is_group is_view =
    ap prepare_at (append_assoc (short g.0) (word view) rest)
    ∙ rw (group_again g (word view ++ rest) is_group, count_again view rest is_view) refl

flushed_again : (g : GroupNo) (view : ℕ) (counts : List Entry) (tail : Tail) (kept : KeptList) (rest : List ℕ) →
    IsFlushed g view counts tail kept →
    flushed_at (spelled_fields (Flushed g view counts tail kept) ++ rest) ≡ Ok (Flushed g view counts tail kept, rest)
unfolding flushed_at spelled_fields
flushed_again g view counts tail kept rest fits =
    let r4 : List ℕ = spelled_kept kept ++ rest in
    let r3 : List ℕ = spelled_tail tail ++ r4 in
    let r2 : List ℕ = spelled_counts counts ++ r3 in
    let r1 : List ℕ = word view ++ r2 in
    let regrouped : spelled_fields (Flushed g view counts tail kept) ++ rest ≡ short g.0 ++ r1 =
    append_assoc (short g.0) (word view ++ (spelled_counts counts ++ (spelled_tail tail ++ spelled_kept kept))) rest
    ∙ ap (λ (t : List ℕ). short g.0 ++ t) (append_assoc (word view) (spelled_counts counts ++ (spelled_tail tail ++ spelled_kept kept)) rest
    ∙ ap (λ (t : List ℕ). word view ++ t) (append_assoc (spelled_counts counts) (spelled_tail tail ++ spelled_kept kept) rest
    ∙ ap (λ (t : List ℕ). spelled_counts counts ++ t) (append_assoc (spelled_tail tail) (spelled_kept kept) rest))) in
    ap flushed_at regrouped ∙ rw (
      group_again g r1 fits.group,
      count_again view r2 fits.view,
      counts_again counts r3 fits.counts,
      tail_again 512 (lit< tt) tail r4 (fits.tail, fits.few),
      kept_again kept rest fits.kept,
    ) refl

want_again : (u : Uid) (rest : List ℕ) → IsUid u → want_at (spelled_fields (Want u) ++ rest) ≡ Ok (Want u, rest)
unfolding want_at spelled_fields
want_again u rest is_id = rw (uid_again u rest is_id) refl

forward_again : (m : Message) (rest : List ℕ) → IsMessage m →
    forward_at (hands_over m.body) (spelled_fields (Forward m) ++ rest) ≡ Ok (Forward m, rest)
unfolding forward_at spelled_fields
forward_again m rest is_message = rw (message_again m rest is_message) refl

install_again : (g : GroupNo) (view : ℕ) (m : Membership) (request : ℕ) (cut : List Entry) (tail : Tail) (rest : List ℕ) →
    IsInstall g view m request cut tail →
    install_at (spelled_fields (Install g view m request cut tail) ++ rest) ≡ Ok (Install g view m request cut tail, rest)
unfolding install_at spelled_fields
install_again g view m request cut tail rest fits =
    let regrouped : spelled_fields (Install g view m request cut tail) ++ rest
    ≡ (short g.0) ++ ((word view) ++ ((spelled_members m) ++ ((word request) ++ ((spelled_counts cut) ++ ((spelled_tail tail) ++ rest))))) =
    append_assoc (short g.0) (word view ++ (spelled_members m ++ (word request ++ (spelled_counts cut ++ spelled_tail tail)))) rest
    ∙ ap (λ (t : List ℕ). (short g.0) ++ t)
    (append_assoc (word view) (spelled_members m ++ (word request ++ (spelled_counts cut ++ spelled_tail tail))) rest
    ∙ ap (λ (t : List ℕ). (word view) ++ t) (append_assoc (spelled_members m) (word request ++ (spelled_counts cut ++ spelled_tail tail))
    rest ∙ ap (λ (t : List ℕ). (spelled_members m) ++ t) (append_assoc (word request) (spelled_counts cut ++ spelled_tail tail) rest
    ∙ ap (λ (t : List ℕ). (word request) ++ t) (append_assoc (spelled_counts cut) (spelled_tail tail) rest)))) in
    ap install_at regrouped ∙ rw (
      group_again (g) ((word view) ++ ((spelled_members m) ++ ((word request) ++ ((spelled_counts cut) ++ ((spelled_tail tail) ++ rest)))))
          fits.group,
      count_again (view) ((spelled_members m) ++ ((word request) ++ ((spelled_counts cut) ++ ((spelled_tail tail) ++ rest)))) fits.view,
      members_again (m) ((word request) ++ ((spelled_counts cut) ++ ((spelled_tail tail) ++ rest))) fits.members,
      word_again 0 4294967295 (lit< tt) (request) ((spelled_counts cut) ++ ((spelled_tail tail) ++ rest)) fits.request,
      counts_again (cut) ((spelled_tail tail) ++ rest) fits.cut,
      tail_again 576 (lit< tt) tail rest (fits.tail, (stretch_parts tail fits.tail.short).1),
    ) refl

installed_again : (g : GroupNo) (view : ℕ) (rest : List ℕ) → IsName g.0 → IsCount view →
    installed_at (spelled_fields (Installed g view) ++ rest) ≡ Ok (Installed g view, rest)
unfolding installed_at spelled_fields
installed_again g view rest is_group is_view =
    let regrouped : spelled_fields (Installed g view) ++ rest ≡ (short g.0) ++ ((word view) ++ rest) =
    append_assoc (short g.0) (word view) rest in
    ap installed_at regrouped ∙ rw (group_again (g) ((word view) ++ rest) is_group, count_again (view) (rest) is_view) refl

out_again : (g : GroupNo) (view : ℕ) (rest : List ℕ) → IsName g.0 → IsCount view →
    out_at (spelled_fields (Out g view) ++ rest) ≡ Ok (Out g view, rest)
unfolding out_at spelled_fields
out_again g view rest is_group is_view =
    ap out_at (append_assoc (short g.0) (word view) rest)
    ∙ rw (group_again g (word view ++ rest) is_group, count_again view rest is_view) refl

-- ---- the header

either : (b : Bool) → (b || true) ≡ true
either true = refl
either false = refl

abbrev pub type_code : FrameType → ℕ
type_code types.Data = 1
type_code types.Ack = 2
type_code types.Stable = 3
type_code types.Ask = 4
type_code types.Asked = 5
type_code types.Prepare = 6
type_code types.Flushed = 7
type_code types.Want = 8
type_code types.Forward = 9
type_code types.Install = 10
type_code types.Installed = 11
type_code types.Out = 12

abbrev pub type_of_frame : SiteFrame → FrameType
type_of_frame (Data m) = types.Data
type_of_frame (Ack u) = types.Ack
type_of_frame (Stable u) = types.Stable
type_of_frame (Ask g n c p) = types.Ask
type_of_frame (Asked g n full) = types.Asked
type_of_frame (Prepare g view) = types.Prepare
type_of_frame (Flushed g view counts tail kept) = types.Flushed
type_of_frame (Want u) = types.Want
type_of_frame (Forward m) = types.Forward
type_of_frame (Install g view m request cut tail) = types.Install
type_of_frame (Installed g view) = types.Installed
type_of_frame (Out g view) = types.Out

frame_code_is : (f : SiteFrame) → frame_code f ≡ type_code (type_of_frame f)
frame_code_is (Data m) = refl
frame_code_is (Ack u) = refl
frame_code_is (Stable u) = refl
frame_code_is (Ask g n c p) = refl
frame_code_is (Asked g n full) = refl
frame_code_is (Prepare g view) = refl
frame_code_is (Flushed g view counts tail kept) = refl
frame_code_is (Want u) = refl
frame_code_is (Forward m) = refl
frame_code_is (Install g view m request cut tail) = refl
frame_code_is (Installed g view) = refl
frame_code_is (Out g view) = refl

-- a frame that has no message is of the first version
plain : (handing : Bool) → (not handing || false) ≡ true → false ≡ handing
plain true may = may
plain false may = refl

fields_take : (handing : Bool) (t : FrameType) → may_stand handing t ≡ true →
    Takes (fields_at handing t) spelled_fields (IsOf handing (type_code t))
unfolding fields_at
fields_take handing types.Data may bytes x fits e = data_takes handing bytes x fits e
fields_take handing types.Ack may bytes x fits e =
    subst (λ h. Took bytes (spelled_fields x.0) x.1 (IsOf h 2 x.0)) (plain handing may) (ack_takes bytes x fits e)
fields_take handing types.Stable may bytes x fits e =
    subst (λ h. Took bytes (spelled_fields x.0) x.1 (IsOf h 3 x.0)) (plain handing may) (stable_takes bytes x fits e)
fields_take handing types.Ask may bytes x fits e =
    subst (λ h. Took bytes (spelled_fields x.0) x.1 (IsOf h 4 x.0)) (plain handing may) (ask_takes bytes x fits e)
fields_take handing types.Asked may bytes x fits e =
    subst (λ h. Took bytes (spelled_fields x.0) x.1 (IsOf h 5 x.0)) (plain handing may) (asked_takes bytes x fits e)
fields_take handing types.Prepare may bytes x fits e =
    subst (λ h. Took bytes (spelled_fields x.0) x.1 (IsOf h 6 x.0)) (plain handing may) (prepare_takes bytes x fits e)
fields_take handing types.Flushed may bytes x fits e =
    subst (λ h. Took bytes (spelled_fields x.0) x.1 (IsOf h 7 x.0)) (plain handing may) (flushed_takes bytes x fits e)
fields_take handing types.Want may bytes x fits e =
    subst (λ h. Took bytes (spelled_fields x.0) x.1 (IsOf h 8 x.0)) (plain handing may) (want_takes bytes x fits e)
fields_take handing types.Forward may bytes x fits e = forward_takes handing bytes x fits e
fields_take handing types.Install may bytes x fits e =
    subst (λ h. Took bytes (spelled_fields x.0) x.1 (IsOf h 10 x.0)) (plain handing may) (install_takes bytes x fits e)
fields_take handing types.Installed may bytes x fits e =
    subst (λ h. Took bytes (spelled_fields x.0) x.1 (IsOf h 11 x.0)) (plain handing may) (installed_takes bytes x fits e)
fields_take handing types.Out may bytes x fits e =
    subst (λ h. Took bytes (spelled_fields x.0) x.1 (IsOf h 12 x.0)) (plain handing may) (out_takes bytes x fits e)

fields_again : (f : SiteFrame) (rest : List ℕ) → IsFrame f →
    fields_at (is_handing f) (type_of_frame f) (spelled_fields f ++ rest) ≡ Ok (f, rest)
unfolding fields_at
fields_again (Data m) rest fits = data_again m rest fits
fields_again (Ack u) rest fits = ack_again u rest fits
fields_again (Stable u) rest fits = stable_again u rest fits
fields_again (Ask g n c p) rest fits = ask_again g n c p rest fits.0 fits.1 fits.2
fields_again (Asked g n full) rest fits = asked_again g n full rest fits.0 fits.1
fields_again (Prepare g view) rest fits = prepare_again g view rest fits.0 fits.1
fields_again (Flushed g view counts tail kept) rest fits = flushed_again g view counts tail kept rest fits
fields_again (Want u) rest fits = want_again u rest fits
fields_again (Forward m) rest fits = forward_again m rest fits
fields_again (Install g view m request cut tail) rest fits = install_again g view m request cut tail rest fits
fields_again (Installed g view) rest fits = installed_again g view rest fits.0 fits.1
fields_again (Out g view) rest fits = out_again g view rest fits.0 fits.1

-- the number is a type's, or one of those that come later
one_of : (n k : ℕ) (a t : FrameType) (later : Result FrameType FrameFault) → k ≡ type_code a → (later ≡ Ok t → n ≡ type_code t) →
    cond (eqb n k) (Ok a) later ≡ Ok t → n ≡ type_code t
one_of n k a t later code next e =
    elim (chosen (eqb n k) (Ok a) later (Ok t) e) [
      | inl is ↦ eqb-true n k is.0 ∙ code ∙ ap type_code (ok_is a t is.1)
      | inr other ↦ next other.1
    ]

none_of : (n : ℕ) (t : FrameType) → Err WrongType ≡ Ok t → n ≡ type_code t
none_of n t e = absurd cc

type_of_is : (n : ℕ) (t : FrameType) → type_of n ≡ Ok t → n ≡ type_code t
unfolding type_of
type_of_is n t =
    one_of n 1 types.Data t _ refl
    (one_of n 2 types.Ack t _ refl
    (one_of n 3 types.Stable t _ refl
    (one_of n 4 types.Ask t _ refl
    (one_of n 5 types.Asked t _ refl
    (one_of n 6 types.Prepare t _ refl
    (one_of n 7 types.Flushed t _ refl
    (one_of n 8 types.Want t _ refl
    (one_of n 9 types.Forward t _ refl
    (one_of n 10 types.Install t _ refl
    (one_of n 11 types.Installed t _ refl
    (one_of n 12 types.Out t _ refl
    (none_of n t))))))))))))

type_of_again : (t : FrameType) → type_of (type_code t) ≡ Ok t
unfolding type_of
type_of_again types.Data = refl
type_of_again types.Ack = refl
type_of_again types.Stable = refl
type_of_again types.Ask = refl
type_of_again types.Asked = refl
type_of_again types.Prepare = refl
type_of_again types.Flushed = refl
type_of_again types.Want = refl
type_of_again types.Forward = refl
type_of_again types.Install = refl
type_of_again types.Installed = refl
type_of_again types.Out = refl

type_within : (t : FrameType) → IsFrom 0 255 (type_code t)
type_within types.Data = record { above = lit≤ tt; below = lit≤ tt }
type_within types.Ack = record { above = lit≤ tt; below = lit≤ tt }
type_within types.Stable = record { above = lit≤ tt; below = lit≤ tt }
type_within types.Ask = record { above = lit≤ tt; below = lit≤ tt }
type_within types.Asked = record { above = lit≤ tt; below = lit≤ tt }
type_within types.Prepare = record { above = lit≤ tt; below = lit≤ tt }
type_within types.Flushed = record { above = lit≤ tt; below = lit≤ tt }
type_within types.Want = record { above = lit≤ tt; below = lit≤ tt }
type_within types.Forward = record { above = lit≤ tt; below = lit≤ tt }
type_within types.Install = record { above = lit≤ tt; below = lit≤ tt }
type_within types.Installed = record { above = lit≤ tt; below = lit≤ tt }
type_within types.Out = record { above = lit≤ tt; below = lit≤ tt }

type_takes : (handing : Bool) (bytes : List ℕ) (x : FrameType × List ℕ) → IsBytes bytes → type_at handing bytes ≡ Ok x →
    Took bytes (byte (type_code x.0)) x.1 (may_stand handing x.0 ≡ true)
unfolding type_at
type_takes handing bytes x fits e =
    let a1 =
    bind_ok (byte_at 0 255 bytes) (λ n. type_of n.0 >>= λ type. cond (may_stand handing type) (Ok (type, n.1)) (Err WrongType)) x e in
    let a2 = bind_ok (type_of a1.0.0) (λ type. cond (may_stand handing type) (Ok (type, a1.0.1)) (Err WrongType)) x a1.2 in
    let g = pass_ok (may_stand handing a2.0) WrongType (Ok (a2.0, a1.0.1)) x a2.2 in
    let t1 = byte_takes 0 255 bytes a1.0 fits a1.1 in
    let made : FrameType × List ℕ = (a2.0, a1.0.1) in
    subst (λ (y : FrameType × List ℕ). Took bytes (byte (type_code y.0)) y.1 (may_stand handing y.0 ≡ true)) (ok_is made x g.1)
    (record { parts = t1.parts ∙ ap (λ (n : ℕ). byte n ++ a1.0.1) (type_of_is a1.0.0 a2.0 a2.1); rest_fits = t1.rest_fits; holds = g.0 })

type_again : (handing : Bool) (t : FrameType) (rest : List ℕ) → may_stand handing t ≡ true →
    type_at handing (byte (type_code t) ++ rest) ≡ Ok (t, rest)
unfolding type_at
type_again handing t rest may = rw (byte_again 0 255 (type_code t) rest (type_within t), type_of_again t, may) refl

-- the version of a frame fits its type
stands : (f : SiteFrame) → may_stand (is_handing f) (type_of_frame f) ≡ true
stands (Data m) = either (not (hands_over m.body))
stands (Ack u) = refl
stands (Stable u) = refl
stands (Ask g n c p) = refl
stands (Asked g n full) = refl
stands (Prepare g view) = refl
stands (Flushed g view counts tail kept) = refl
stands (Want u) = refl
stands (Forward m) = either (not (hands_over m.body))
stands (Install g view m request cut tail) = refl
stands (Installed g view) = refl
stands (Out g view) = refl

magic_takes : (bytes rest : List ℕ) → IsBytes bytes → magic_at bytes ≡ Ok rest → Took bytes (short 0x4344) rest (Unit {0})
unfolding magic_at
magic_takes bytes rest fits e =
    let a = bind_ok (number_at w16 0 65535 bytes) (λ n. cond (eqb n.0 0x4344) (Ok n.1) (Err Magic)) rest e in
    let g = pass_ok (eqb a.0.0 0x4344) Magic (Ok a.0.1) rest a.2 in
    let t = short_takes 0 65535 bytes a.0 fits a.1 in
    subst (λ (y : List ℕ). Took bytes (short 0x4344) y (Unit {0})) (ok_is a.0.1 rest g.1)
    (record { parts = t.parts ∙ ap (λ (n : ℕ). short n ++ a.0.1) (eqb-true a.0.0 0x4344 g.0); rest_fits = t.rest_fits; holds = tt })

magic_again : (rest : List ℕ) → magic_at (short 0x4344 ++ rest) ≡ Ok rest
unfolding magic_at
magic_again rest = rw (short_again 0 65535 (lit< tt) 0x4344 rest (record { above = lit≤ tt; below = lit≤ tt })) refl

version_back : (n : ℕ) (handing : Bool) → version_of n ≡ Ok handing → n ≡ version_code handing
unfolding version_of
version_back n handing e =
    elim (chosen (eqb n 1) (Ok false) (cond (eqb n 2) (Ok true) (Err Version)) (Ok handing) e) [
      | inl first ↦ eqb-true n 1 first.0 ∙ ap version_code (ok_is false handing first.1)
      | inr other ↦
          let g = pass_ok (eqb n 2) Version (Ok true) handing other.1 in
          eqb-true n 2 g.0 ∙ ap version_code (ok_is true handing g.1)
    ]

version_of_again : (handing : Bool) → version_of (version_code handing) ≡ Ok handing
unfolding version_of
version_of_again true = refl
version_of_again false = refl

version_within : (handing : Bool) → IsFrom 0 255 (version_code handing)
version_within true = record { above = lit≤ tt; below = lit≤ tt }
version_within false = record { above = lit≤ tt; below = lit≤ tt }

version_takes : Takes version_at (λ (handing : Bool). byte (version_code handing)) (λ (handing : Bool). Unit {0})
unfolding version_at
version_takes bytes x fits e =
    let a1 = bind_ok (byte_at 0 255 bytes) (λ n. version_of n.0 >>= λ handing. Ok (handing, n.1)) x e in
    let a2 = bind_ok (version_of a1.0.0) (λ handing. Ok (handing, a1.0.1)) x a1.2 in
    let t1 = byte_takes 0 255 bytes a1.0 fits a1.1 in
    let made : Bool × List ℕ = (a2.0, a1.0.1) in
    subst (λ (y : Bool × List ℕ). Took bytes (byte (version_code y.0)) y.1 (Unit {0})) (ok_is made x a2.2)
    (record { parts = t1.parts ∙ ap (λ (n : ℕ). byte n ++ a1.0.1) (version_back a1.0.0 a2.0 a2.1); rest_fits = t1.rest_fits; holds = tt })

version_again : (handing : Bool) (rest : List ℕ) → version_at (byte (version_code handing) ++ rest) ≡ Ok (handing, rest)
unfolding version_at
version_again handing rest = rw (byte_again 0 255 (version_code handing) rest (version_within handing), version_of_again handing) refl

-- ---- all of the bytes

abbrev ended : DomainNo × SiteNo × SiteFrame → List ℕ → Result (DomainNo × SiteNo × SiteFrame) FrameFault
ended x rest = cond (eqb (length rest) 0) (Ok x) (Err Length)

frame_takes : (bytes : List ℕ) (x : DomainNo × SiteNo × SiteFrame) → IsBytes bytes → frame_at bytes ≡ Ok x →
    IsSpelled x.0 x.1 x.2 × (bytes ≡ spelled_site x.0 x.1 x.2)
unfolding frame_at spelled_site
frame_takes bytes x fits e =
    let a1 =
    bind_ok (magic_at bytes)
    (λ magic. version_at magic >>= λ version. type_at version.0 version.1 >>= λ type. domain_at type.1 >>= λ domain.
    site_at domain.1 >>= λ site. fields_at version.0 type.0 site.1 >>= λ frame. ended (domain.0, site.0, frame.0) frame.1) x e in
    let a2 =
    bind_ok (version_at a1.0) (λ version. type_at version.0 version.1 >>= λ type. domain_at type.1 >>= λ domain.
    site_at domain.1 >>= λ site. fields_at version.0 type.0 site.1 >>= λ frame. ended (domain.0, site.0, frame.0) frame.1) x a1.2 in
    let a3 =
    bind_ok (type_at a2.0.0 a2.0.1) (λ type. domain_at type.1 >>= λ domain.
    site_at domain.1 >>= λ site. fields_at a2.0.0 type.0 site.1 >>= λ frame. ended (domain.0, site.0, frame.0) frame.1) x a2.2 in
    let a4 =
    bind_ok (domain_at a3.0.1) (λ domain.
    site_at domain.1 >>= λ site. fields_at a2.0.0 a3.0.0 site.1 >>= λ frame. ended (domain.0, site.0, frame.0) frame.1) x a3.2 in
    let a5 =
    bind_ok (site_at a4.0.1) (λ site. fields_at a2.0.0 a3.0.0 site.1 >>= λ frame. ended (a4.0.0, site.0, frame.0) frame.1) x a4.2 in
    let a6 = bind_ok (fields_at a2.0.0 a3.0.0 a5.0.1) (λ frame. ended (a4.0.0, a5.0.0, frame.0) frame.1) x a5.2 in
    let g = pass_ok (eqb (length a6.0.1) 0) Length (Ok (a4.0.0, a5.0.0, a6.0.0)) x a6.2 in
    let nothing : a6.0.1 ≡ [] = nil_from_length a6.0.1 (eqb-true (length a6.0.1) 0 g.0) in
    let t1 = magic_takes bytes a1.0 fits a1.1 in
    let t2 = version_takes a1.0 a2.0 t1.rest_fits a2.1 in
    let t3 = type_takes a2.0.0 a2.0.1 a3.0 t2.rest_fits a3.1 in
    let t4 = domain_takes a3.0.1 a4.0 t3.rest_fits a4.1 in
    let t5 = site_takes a4.0.1 a5.0 t4.rest_fits a5.1 in
    let t6 = fields_take a2.0.0 a3.0.0 t3.holds a5.0.1 a6.0 t5.rest_fits a6.1 in
    let f = a6.0.0 in
    let version : List ℕ = byte (version_code (is_handing f)) in
    let p2 : a1.0 ≡ version ++ a2.0.1 = t2.parts ∙ ap (λ (h : Bool). byte (version_code h) ++ a2.0.1) (sym t6.holds.2) in
    let p3 = t3.parts ∙ ap (λ (n : ℕ). byte n ++ a3.0.1) (sym t6.holds.1) in
    let p6 : a5.0.1 ≡ spelled_fields f = t6.parts ∙ ap (λ (r : List ℕ). spelled_fields f ++ r) nothing ∙ append-nil (spelled_fields f) in
    let p5 : a4.0.1 ≡ short a5.0.0.0 ++ spelled_fields f = t5.parts ∙ ap (λ (r : List ℕ). short a5.0.0.0 ++ r) p6 in
    let p4 : a3.0.1 ≡ byte a4.0.0.0 ++ (short a5.0.0.0 ++ spelled_fields f) = t4.parts ∙ ap (λ (r : List ℕ). byte a4.0.0.0 ++ r) p5 in
    let q3 : a2.0.1 ≡ byte (frame_code f) ++ (byte a4.0.0.0 ++ (short a5.0.0.0 ++ spelled_fields f)) =
    p3 ∙ ap (λ (r : List ℕ). byte (frame_code f) ++ r) p4 in
    let q2 : a1.0 ≡ version ++ (byte (frame_code f) ++ (byte a4.0.0.0 ++ (short a5.0.0.0 ++ spelled_fields f))) =
    p2 ∙ ap (λ (r : List ℕ). version ++ r) q3 in
    let q1 : bytes ≡ spelled_site a4.0.0 a5.0.0 f = t1.parts ∙ ap (λ (r : List ℕ). short 0x4344 ++ r) q2 in
    subst (λ (y : DomainNo × SiteNo × SiteFrame). IsSpelled y.0 y.1 y.2 × (bytes ≡ spelled_site y.0 y.1 y.2))
    (ok_is (a4.0.0, a5.0.0, f) x g.1)
    (record { domain = t4.holds; site = t5.holds; frame = t6.holds.0 }, q1)

frame_again : (d : DomainNo) (s : SiteNo) (f : SiteFrame) → IsSpelled d s f → frame_at (spelled_site d s f) ≡ Ok (d, s, f)
unfolding frame_at spelled_site
frame_again d s f fits =
    let t = type_of_frame f in
    let r5 : List ℕ = spelled_fields f in
    let r4 : List ℕ = short s.0 ++ spelled_fields f in
    let r3 : List ℕ = byte d.0 ++ (short s.0 ++ spelled_fields f) in
    let code : byte (frame_code f) ++ r3 ≡ byte (type_code t) ++ r3 = ap (λ (n : ℕ). byte n ++ r3) (frame_code_is f) in
    let type : type_at (is_handing f) (byte (frame_code f) ++ r3) ≡ Ok (t, r3) =
    ap (type_at (is_handing f)) code ∙ type_again (is_handing f) t r3 (stands f) in
    let fields : fields_at (is_handing f) t (spelled_fields f) ≡ Ok (f, []) =
    ap (fields_at (is_handing f) t) (sym (append-nil (spelled_fields f))) ∙ fields_again f [] fits.frame in
    rw (
      magic_again (byte (version_code (is_handing f)) ++ (byte (frame_code f) ++ r3)),
      version_again (is_handing f) (byte (frame_code f) ++ r3),
      type,
      domain_again d r4 fits.domain,
      site_again s r5 fits.site,
      fields,
    ) refl

pub found : (bytes : List ℕ) (x : DomainNo × SiteNo × SiteFrame) → IsBytes bytes → site_frame_of bytes ≡ Ok x →
    IsSpelled x.0 x.1 x.2 × (bytes ≡ spelled_site x.0 x.1 x.2)
unfolding site_frame_of
found bytes x fits e = frame_takes bytes x fits ((guard_ok (ltb 60000 (length bytes)) Length (frame_at bytes) (Ok x) e x refl).1)

pub read_again : (d : DomainNo) (s : SiteNo) (f : SiteFrame) → IsSpelled d s f → length (spelled_site d s f) ≤ 60000 →
    site_frame_of (spelled_site d s f) ≡ Ok (d, s, f)
unfolding site_frame_of
read_again d s f fits few = rw (le-ltb _ _ few) (frame_again d s f fits)
