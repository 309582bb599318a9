-- The parts of the frames between a program and its daemon: what is read is spelled so, and what
-- is spelled so is read.
-- `parts_take` says what reading the parts of one type takes: a frame of this type, and no more
-- bytes than those that spell it. `parts_again` says that the bytes that spell a frame are read as
-- that frame. There is one case for each type of frame, made of its fields in turn; the last field
-- of a frame may reach to the end, and its length is that of the whole frame.
use Rattle.std.proofs.Common.{◌≡◌, ℕ, ◌≤◌, cond, eqb, ltb, List, [], ◌++◌, length, Option, Some, None}
use Rattle.std.proofs.Common.{Result, Ok, Err, refl, sym, ap, subst, ◌∙◌, arith, lit<, lit≤, inl, inr}
use Rattle.std.proofs.lemmas.Bool.{cases_Bool, false≢true, eqb-true, eq-eqb, le-ltb, ltb-false}
use Rattle.std.proofs.lemmas.List.{append-nil}
use Rattle.cast_types.specs.declared.names.GroupNo.{GroupNo}
use Rattle.cast_types.specs.declared.names.Proc.{Proc}
use Rattle.cast_types.specs.declared.names.Uid.{Uid}
use Rattle.cast_types.specs.declared.refusal.Refusal.{Refusal}
use Rattle.cast_types.specs.Refusals.{refusal_code, refusal_numbered}
use Rattle.cast_field.specs.declared.fault.FrameFault.{FrameFault}
use Rattle.cast_field.specs.declared.fault.FrameFault.TheVariants.{WrongType, Range}
use Rattle.cast_message.specs.declared.client.CastKind.{CastKind}
use Rattle.cast_message.specs.declared.client.CastKind.TheVariants.{Causal, Atomic}
use Rattle.cast_message.specs.declared.client.Request.TheVariants.{Join, Leave, Cast, Pass}
use Rattle.cast_message.specs.declared.client.Push.TheVariants.{Opened, Reply, View, Deliver, Ejected, Denied, Closed}
use Rattle.cast_message.specs.declared.client.ClientFrame.{ClientFrame}
use Rattle.cast_message.specs.declared.client.ClientFrame.TheVariants as client
use Rattle.cast_message.specs.Membership.{Membership}
use Rattle.cast_field.specs.Spelling.{byte, short, word, spelled_proc, spelled_uid, spelled_members}
use Rattle.cast_message.specs.Replies.{reply_code}
use Rattle.cast_client.specs.Spelling.{cast_code, client_code, spelled_request, spelled_push, spelled_parts}
use Rattle.cast_field.specs.Reading.{Reader, byte_at, group_at, count_at, proc_at, uid_at, members_at}
use Rattle.cast_client.specs.Reading.{tag_at, cast_numbered, cast_kind_at, reply_at, named_refusal, refusal_at}
use Rattle.cast_client.specs.Reading.{end_at, short_end_at, join_at, leave_at, cast_at, pass_at, opened_at}
use Rattle.cast_client.specs.Reading.{replied_at, view_at, deliver_at, ejected_at, denied_at, closed_at, parts_at}
use Rattle.cast_field.specs.Spelled.{IsFrom, IsName, IsCount, IsProc, IsUid, AreMembers}
use Rattle.cast_client.specs.Spelled.{IsTag, IsClient}
use Rattle.cast_field.proofs.Fields.{bind_ok, guard_ok, done, ok_is, Took, joined, Takes}
use Rattle.cast_field.proofs.Fields.{Again, byte_takes, byte_again, word_takes, word_again}
use Rattle.cast_field.proofs.Parts.{group_takes, group_again, count_takes, count_again, proc_takes, proc_again, uid_takes, uid_again}
use Rattle.cast_field.proofs.Holders.{chosen, members_take, members_again}
use Rattle.cast_client.proofs.Sizes.{request_size}
use Rattle.cast_client.proofs.Refusals.{reply_back, numbered_again}

-- ---- fields

tag_takes : Takes tag_at word IsTag
unfolding tag_at
tag_takes = word_takes 0 4294967295

tag_again : Again tag_at word IsTag
unfolding tag_at
tag_again = word_again 0 4294967295 (lit< tt)

cast_back : (n : ℕ) → IsFrom 1 2 n → n ≡ cast_code (cast_numbered n)
cast_back n h =
    elim (cases_Bool (eqb n 1)) [
      | inl is ↦ rw is (eqb-true n 1 is)
      | inr not_one ↦
          let other : n ≡ 1 → ⊥ = λ z. false≢true (sym not_one ∙ eq-eqb n 1 z) in
          rw not_one (omega (arith, h.above, h.below, other))
    ]

cast_kind_takes : Takes cast_kind_at (λ (k : CastKind). byte (cast_code k)) (λ (k : CastKind). Unit {0})
unfolding cast_kind_at
cast_kind_takes bytes x fits e =
    let a1 = bind_ok (byte_at 1 2 bytes) _ x e in
    let t1 = byte_takes 1 2 bytes a1.0 fits a1.1 in
    let made : CastKind × List ℕ = (cast_numbered a1.0.0, a1.0.1) in
    subst (λ (y : CastKind × List ℕ). Took bytes (byte (cast_code y.0)) y.1 (Unit {0})) (ok_is made x a1.2)
    (record { parts = t1.parts ∙ ap (λ (n : ℕ). byte n ++ a1.0.1) (cast_back a1.0.0 t1.holds); rest_fits = t1.rest_fits; holds = tt })

pub cast_kind_again : (k : CastKind) (rest : List ℕ) → cast_kind_at (byte (cast_code k) ++ rest) ≡ Ok (k, rest)
unfolding cast_kind_at
cast_kind_again Causal rest = rw (byte_again 1 2 1 rest (record { above = lit≤ tt; below = lit≤ tt })) refl
cast_kind_again Atomic rest = rw (byte_again 1 2 2 rest (record { above = lit≤ tt; below = lit≤ tt })) refl

reply_takes : Takes reply_at (λ (o : Option Refusal). byte (reply_code o)) (λ (o : Option Refusal). Unit {0})
unfolding reply_at
reply_takes bytes x fits e =
    let a1 = bind_ok (byte_at 0 15 bytes) _ x e in
    let t1 = byte_takes 0 15 bytes a1.0 fits a1.1 in
    let made : Option Refusal × List ℕ = (refusal_numbered a1.0.0, a1.0.1) in
    subst (λ (y : Option Refusal × List ℕ). Took bytes (byte (reply_code y.0)) y.1 (Unit {0})) (ok_is made x a1.2)
    (record { parts = t1.parts ∙ ap (λ (n : ℕ). byte n ++ a1.0.1) (reply_back a1.0.0 t1.holds); rest_fits = t1.rest_fits; holds = tt })

reply_again : (o : Option Refusal) (rest : List ℕ) → reply_at (byte (reply_code o) ++ rest) ≡ Ok (o, rest)
unfolding reply_at
reply_again None rest = rw (byte_again 0 15 0 rest (record { above = lit≤ tt; below = lit≤ tt })) refl
reply_again (Some r) rest =
    let number = numbered_again r in
    let within : IsFrom 0 15 (refusal_code r) = record { above = omega arith; below = number.1.below } in
    rw (byte_again 0 15 (refusal_code r) rest within, number.0) refl

named_is : (o : Option Refusal) (r : Refusal) → named_refusal o ≡ Ok r → o ≡ Some r
unfolding named_refusal
named_is None r e = absurd cc
named_is (Some q) r e = cc

refusal_takes : Takes refusal_at (λ (r : Refusal). byte (refusal_code r)) (λ (r : Refusal). Unit {0})
unfolding refusal_at
refusal_takes bytes x fits e =
    let a1 = bind_ok (byte_at 1 15 bytes) _ x e in
    let a2 = bind_ok (named_refusal (refusal_numbered a1.0.0)) _ x a1.2 in
    let t1 = byte_takes 1 15 bytes a1.0 fits a1.1 in
    let within : IsFrom 0 15 a1.0.0 = record { above = omega arith; below = t1.holds.below } in
    let back : a1.0.0 ≡ refusal_code a2.0 = reply_back a1.0.0 within ∙ ap reply_code (named_is (refusal_numbered a1.0.0) a2.0 a2.1) in
    let made : Refusal × List ℕ = (a2.0, a1.0.1) in
    subst (λ (y : Refusal × List ℕ). Took bytes (byte (refusal_code y.0)) y.1 (Unit {0})) (ok_is made x a2.2)
    (record { parts = t1.parts ∙ ap (λ (n : ℕ). byte n ++ a1.0.1) back; rest_fits = t1.rest_fits; holds = tt })

refusal_again : (r : Refusal) (rest : List ℕ) → refusal_at (byte (refusal_code r) ++ rest) ≡ Ok (r, rest)
unfolding refusal_at named_refusal
refusal_again r rest =
    let number = numbered_again r in
    rw (byte_again 1 15 (refusal_code r) rest number.1, number.0) refl

-- ---- the parts of each frame

-- a frame of a type. A payload to the end does not say how long it may be: the whole frame does
abbrev pub IsOf : ℕ → ClientFrame → Type 0
IsOf code f = (length (spelled_parts f) ≤ 19995 → IsClient f) × (client_code f ≡ code)

-- what is read is a frame, and the bytes after it
made_is : (code : ℕ) (bytes : List ℕ) (f : ClientFrame) (rest : List ℕ) (x : ClientFrame × List ℕ) → done (f, rest) ≡ done x →
    Took bytes (spelled_parts f) rest (IsOf code f) → Took bytes (spelled_parts x.0) x.1 (IsOf code x.0)
made_is code bytes f rest x e took =
    subst (λ (y : ClientFrame × List ℕ). Took bytes (spelled_parts y.0) y.1 (IsOf code y.0)) (ok_is (f, rest) x e) took

join_takes : Takes join_at spelled_parts (IsOf 1)
unfolding join_at spelled_request
join_takes bytes x fits e =
    let a1 = bind_ok (tag_at bytes) _ x e in
    let a2 = bind_ok (group_at a1.0.1) _ x a1.2 in
    let t1 = tag_takes bytes a1.0 fits a1.1 in
    let t2 = group_takes a1.0.1 a2.0 t1.rest_fits a2.1 in
    made_is 1 bytes (client.Request (Join a1.0.0 a2.0.0)) a2.0.1 x a2.2
    (record { parts = joined _ _ _ _ _ t1.parts t2.parts; rest_fits = t2.rest_fits; holds = (λ few. (t1.holds, t2.holds), refl) })

leave_takes : Takes leave_at spelled_parts (IsOf 2)
unfolding leave_at spelled_request
leave_takes bytes x fits e =
    let a1 = bind_ok (tag_at bytes) _ x e in
    let a2 = bind_ok (group_at a1.0.1) _ x a1.2 in
    let t1 = tag_takes bytes a1.0 fits a1.1 in
    let t2 = group_takes a1.0.1 a2.0 t1.rest_fits a2.1 in
    made_is 2 bytes (client.Request (Leave a1.0.0 a2.0.0)) a2.0.1 x a2.2
    (record { parts = joined _ _ _ _ _ t1.parts t2.parts; rest_fits = t2.rest_fits; holds = (λ few. (t1.holds, t2.holds), refl) })

cast_takes : Takes cast_at spelled_parts (IsOf 3)
unfolding cast_at end_at spelled_request
cast_takes bytes x fits e =
    let a1 = bind_ok (tag_at bytes) _ x e in
    let a2 = bind_ok (group_at a1.0.1) _ x a1.2 in
    let a3 = bind_ok (cast_kind_at a2.0.1) _ x a2.2 in
    let t1 = tag_takes bytes a1.0 fits a1.1 in
    let t2 = group_takes a1.0.1 a2.0 t1.rest_fits a2.1 in
    let t3 = cast_kind_takes a2.0.1 a3.0 t2.rest_fits a3.1 in
    let request = Cast a1.0.0 a2.0.0 a3.0.0 a3.0.1 in
    let whole : bytes ≡ spelled_parts (client.Request request) =
    t1.parts ∙ ap (λ (r : List ℕ). word a1.0.0 ++ r) (t2.parts ∙ ap (λ (r : List ℕ). short a2.0.0.0 ++ r) t3.parts) in
    let few_bytes : length (spelled_parts (client.Request request)) ≤ 19995 → length a3.0.1 ≤ 19988 =
    λ few. omega (arith, request_size request, few) in
    made_is 3 bytes (client.Request request) [] x a3.2
    (record {
      parts = whole ∙ sym (append-nil _);
      rest_fits = λ i. omega arith;
      holds = (λ few. (t1.holds, t2.holds, few_bytes few), refl);
    })

pass_takes : Takes pass_at spelled_parts (IsOf 4)
unfolding pass_at spelled_request
pass_takes bytes x fits e =
    let a1 = bind_ok (tag_at bytes) _ x e in
    let a2 = bind_ok (group_at a1.0.1) _ x a1.2 in
    let a3 = bind_ok (proc_at a2.0.1) _ x a2.2 in
    let t1 = tag_takes bytes a1.0 fits a1.1 in
    let t2 = group_takes a1.0.1 a2.0 t1.rest_fits a2.1 in
    let t3 = proc_takes a2.0.1 a3.0 t2.rest_fits a3.1 in
    made_is 4 bytes (client.Request (Pass a1.0.0 a2.0.0 a3.0.0)) a3.0.1 x a3.2
    (record {
      parts = joined _ _ _ _ _ t1.parts (joined _ _ _ _ _ t2.parts t3.parts);
      rest_fits = t3.rest_fits;
      holds = (λ few. (t1.holds, t2.holds, t3.holds), refl);
    })

opened_takes : Takes opened_at spelled_parts (IsOf 65)
unfolding opened_at spelled_push
opened_takes bytes x fits e =
    let a1 = bind_ok (proc_at bytes) _ x e in
    let t1 = proc_takes bytes a1.0 fits a1.1 in
    made_is 65 bytes (client.Push (Opened a1.0.0)) a1.0.1 x a1.2
    (record { parts = t1.parts; rest_fits = t1.rest_fits; holds = (λ few. t1.holds, refl) })

replied_takes : Takes replied_at spelled_parts (IsOf 66)
unfolding replied_at spelled_push
replied_takes bytes x fits e =
    let a1 = bind_ok (tag_at bytes) _ x e in
    let a2 = bind_ok (reply_at a1.0.1) _ x a1.2 in
    let t1 = tag_takes bytes a1.0 fits a1.1 in
    let t2 = reply_takes a1.0.1 a2.0 t1.rest_fits a2.1 in
    made_is 66 bytes (client.Push (Reply a1.0.0 a2.0.0)) a2.0.1 x a2.2
    (record { parts = joined _ _ _ _ _ t1.parts t2.parts; rest_fits = t2.rest_fits; holds = (λ few. t1.holds, refl) })

view_takes : Takes view_at spelled_parts (IsOf 67)
unfolding view_at spelled_push
view_takes bytes x fits e =
    let a1 = bind_ok (group_at bytes) _ x e in
    let a2 = bind_ok (count_at a1.0.1) _ x a1.2 in
    let a3 = bind_ok (members_at a2.0.1) _ x a2.2 in
    let t1 = group_takes bytes a1.0 fits a1.1 in
    let t2 = count_takes a1.0.1 a2.0 t1.rest_fits a2.1 in
    let t3 = members_take a2.0.1 a3.0 t2.rest_fits a3.1 in
    made_is 67 bytes (client.Push (View a1.0.0 a2.0.0 a3.0.0)) a3.0.1 x a3.2
    (record {
      parts = joined _ _ _ _ _ t1.parts (joined _ _ _ _ _ t2.parts t3.parts);
      rest_fits = t3.rest_fits;
      holds = (λ few. (t1.holds, t2.holds, t3.holds), refl);
    })

deliver_takes : Takes deliver_at spelled_parts (IsOf 68)
unfolding deliver_at short_end_at spelled_push
deliver_takes bytes x fits e =
    let a1 = bind_ok (uid_at bytes) _ x e in
    let a2 = bind_ok (cast_kind_at a1.0.1) _ x a1.2 in
    let a3 = bind_ok (short_end_at a2.0.1) _ x a2.2 in
    let g = guard_ok (ltb 16384 (length a2.0.1)) Range (Ok (a2.0.1, [])) (Ok a3.0) a3.1 a3.0 refl in
    let t1 = uid_takes bytes a1.0 fits a1.1 in
    let t2 = cast_kind_takes a1.0.1 a2.0 t1.rest_fits a2.1 in
    let push = Deliver a1.0.0 a2.0.0 a2.0.1 in
    let whole : bytes ≡ spelled_parts (client.Push push) = t1.parts ∙ ap (λ (r : List ℕ). spelled_uid a1.0.0 ++ r) t2.parts in
    let made : done (client.Push push, []) ≡ done x =
    ap (λ (y : List ℕ × List ℕ). done (client.Push (Deliver a1.0.0 a2.0.0 y.0), y.1)) (ok_is (a2.0.1, []) a3.0 g.1) ∙ a3.2 in
    made_is 68 bytes (client.Push push) [] x made
    (record { parts = whole ∙ sym (append-nil _); rest_fits = λ i. omega arith; holds = (λ few. (t1.holds, ltb-false _ _ g.0), refl) })

ejected_takes : Takes ejected_at spelled_parts (IsOf 69)
unfolding ejected_at spelled_push
ejected_takes bytes x fits e =
    let a1 = bind_ok (group_at bytes) _ x e in
    let a2 = bind_ok (count_at a1.0.1) _ x a1.2 in
    let t1 = group_takes bytes a1.0 fits a1.1 in
    let t2 = count_takes a1.0.1 a2.0 t1.rest_fits a2.1 in
    made_is 69 bytes (client.Push (Ejected a1.0.0 a2.0.0)) a2.0.1 x a2.2
    (record { parts = joined _ _ _ _ _ t1.parts t2.parts; rest_fits = t2.rest_fits; holds = (λ few. (t1.holds, t2.holds), refl) })

denied_takes : Takes denied_at spelled_parts (IsOf 70)
unfolding denied_at spelled_push
denied_takes bytes x fits e =
    let a1 = bind_ok (group_at bytes) _ x e in
    let a2 = bind_ok (refusal_at a1.0.1) _ x a1.2 in
    let t1 = group_takes bytes a1.0 fits a1.1 in
    let t2 = refusal_takes a1.0.1 a2.0 t1.rest_fits a2.1 in
    made_is 70 bytes (client.Push (Denied a1.0.0 a2.0.0)) a2.0.1 x a2.2
    (record { parts = joined _ _ _ _ _ t1.parts t2.parts; rest_fits = t2.rest_fits; holds = (λ few. t1.holds, refl) })

closed_takes : Takes closed_at spelled_parts (IsOf 71)
unfolding closed_at spelled_push
closed_takes bytes x fits e =
    let a1 = bind_ok (refusal_at bytes) _ x e in
    let t1 = refusal_takes bytes a1.0 fits a1.1 in
    made_is 71 bytes (client.Push (Closed a1.0.0)) a1.0.1 x a1.2
    (record { parts = t1.parts; rest_fits = t1.rest_fits; holds = (λ few. tt, refl) })

-- the parts are those of this type, or of one that comes later
one_of : (n code : ℕ) (bytes : List ℕ) (read later : Result (ClientFrame × List ℕ) FrameFault) (x : ClientFrame × List ℕ) →
    (read ≡ Ok x → Took bytes (spelled_parts x.0) x.1 (IsOf code x.0)) → (later ≡ Ok x → Took bytes (spelled_parts x.0) x.1 (IsOf n x.0)) →
    cond (eqb n code) read later ≡ Ok x → Took bytes (spelled_parts x.0) x.1 (IsOf n x.0)
one_of n code bytes read later x this next e =
    elim (chosen (eqb n code) read later (Ok x) e) [
      | inl is ↦ subst (λ (m : ℕ). Took bytes (spelled_parts x.0) x.1 (IsOf m x.0)) (sym (eqb-true n code is.0)) (this is.1)
      | inr other ↦ next other.1
    ]

none_of : (n : ℕ) (bytes : List ℕ) (x : ClientFrame × List ℕ) → Err WrongType ≡ Ok x → Took bytes (spelled_parts x.0) x.1 (IsOf n x.0)
none_of n bytes x e = absurd cc

pub parts_take : (n : ℕ) → Takes (parts_at n) spelled_parts (IsOf n)
unfolding parts_at
parts_take n bytes x fits =
    one_of n 1 bytes _ _ x (join_takes bytes x fits)
    (one_of n 2 bytes _ _ x (leave_takes bytes x fits)
    (one_of n 3 bytes _ _ x (cast_takes bytes x fits)
    (one_of n 4 bytes _ _ x (pass_takes bytes x fits)
    (one_of n 65 bytes _ _ x (opened_takes bytes x fits)
    (one_of n 66 bytes _ _ x (replied_takes bytes x fits)
    (one_of n 67 bytes _ _ x (view_takes bytes x fits)
    (one_of n 68 bytes _ _ x (deliver_takes bytes x fits)
    (one_of n 69 bytes _ _ x (ejected_takes bytes x fits)
    (one_of n 70 bytes _ _ x (denied_takes bytes x fits)
    (one_of n 71 bytes _ _ x (closed_takes bytes x fits)
    (none_of n bytes x)))))))))))

-- ---- what is spelled so is read

-- the last part of a frame
last : {A : Type 0} (read : Reader A) (text : List ℕ) (x : A) → read (text ++ []) ≡ Ok (x, []) → read text ≡ Ok (x, [])
last read text x e = ap read (sym (append-nil text)) ∙ e

join_again : (tag : ℕ) (g : GroupNo) → IsTag tag → IsName g.0 →
    join_at (spelled_parts (client.Request (Join tag g))) ≡ Ok (client.Request (Join tag g), [])
unfolding join_at spelled_request
join_again tag g is_tag is_group =
    rw (tag_again tag (short g.0) is_tag, last group_at (short g.0) g (group_again g [] is_group)) refl

leave_again : (tag : ℕ) (g : GroupNo) → IsTag tag → IsName g.0 →
    leave_at (spelled_parts (client.Request (Leave tag g))) ≡ Ok (client.Request (Leave tag g), [])
unfolding leave_at spelled_request
leave_again tag g is_tag is_group =
    rw (tag_again tag (short g.0) is_tag, last group_at (short g.0) g (group_again g [] is_group)) refl

cast_again : (tag : ℕ) (g : GroupNo) (kind : CastKind) (payload : List ℕ) → IsTag tag → IsName g.0 →
    cast_at (spelled_parts (client.Request (Cast tag g kind payload))) ≡ Ok (client.Request (Cast tag g kind payload), [])
unfolding cast_at end_at spelled_request
cast_again tag g kind payload is_tag is_group =
    rw (
      tag_again tag (short g.0 ++ (byte (cast_code kind) ++ payload)) is_tag,
      group_again g (byte (cast_code kind) ++ payload) is_group,
      cast_kind_again kind payload,
    ) refl

pass_again : (tag : ℕ) (g : GroupNo) (to : Proc) → IsTag tag → IsName g.0 → IsProc to →
    pass_at (spelled_parts (client.Request (Pass tag g to))) ≡ Ok (client.Request (Pass tag g to), [])
unfolding pass_at spelled_request
pass_again tag g to is_tag is_group is =
    rw (
      tag_again tag (short g.0 ++ spelled_proc to) is_tag,
      group_again g (spelled_proc to) is_group,
      last proc_at (spelled_proc to) to (proc_again to [] is),
    ) refl

opened_again : (p : Proc) → IsProc p → opened_at (spelled_parts (client.Push (Opened p))) ≡ Ok (client.Push (Opened p), [])
unfolding opened_at spelled_push
opened_again p is = rw (last proc_at (spelled_proc p) p (proc_again p [] is)) refl

replied_again : (tag : ℕ) (refusal : Option Refusal) → IsTag tag →
    replied_at (spelled_parts (client.Push (Reply tag refusal))) ≡ Ok (client.Push (Reply tag refusal), [])
unfolding replied_at spelled_push
replied_again tag refusal is_tag =
    rw (tag_again tag (byte (reply_code refusal)) is_tag, last reply_at (byte (reply_code refusal)) refusal (reply_again refusal [])) refl

view_again : (g : GroupNo) (view : ℕ) (m : Membership) → IsName g.0 → IsCount view → AreMembers m →
    view_at (spelled_parts (client.Push (View g view m))) ≡ Ok (client.Push (View g view m), [])
unfolding view_at spelled_push
view_again g view m is_group is_view are =
    rw (
      group_again g (word view ++ spelled_members m) is_group,
      count_again view (spelled_members m) is_view,
      last members_at (spelled_members m) m (members_again m [] are),
    ) refl

deliver_again : (id : Uid) (kind : CastKind) (payload : List ℕ) → IsUid id → length payload ≤ 16384 →
    deliver_at (spelled_parts (client.Push (Deliver id kind payload))) ≡ Ok (client.Push (Deliver id kind payload), [])
unfolding deliver_at short_end_at spelled_push
deliver_again id kind payload is few =
    rw (uid_again id (byte (cast_code kind) ++ payload) is, cast_kind_again kind payload, le-ltb _ _ few) refl

ejected_again : (g : GroupNo) (view : ℕ) → IsName g.0 → IsCount view →
    ejected_at (spelled_parts (client.Push (Ejected g view))) ≡ Ok (client.Push (Ejected g view), [])
unfolding ejected_at spelled_push
ejected_again g view is_group is_view =
    rw (group_again g (word view) is_group, last count_at (word view) view (count_again view [] is_view)) refl

denied_again : (g : GroupNo) (refusal : Refusal) → IsName g.0 →
    denied_at (spelled_parts (client.Push (Denied g refusal))) ≡ Ok (client.Push (Denied g refusal), [])
unfolding denied_at spelled_push
denied_again g refusal is_group =
    rw (
      group_again g (byte (refusal_code refusal)) is_group,
      last refusal_at (byte (refusal_code refusal)) refusal (refusal_again refusal []),
    ) refl

closed_again : (refusal : Refusal) → closed_at (spelled_parts (client.Push (Closed refusal))) ≡ Ok (client.Push (Closed refusal), [])
unfolding closed_at spelled_push
closed_again refusal = rw (last refusal_at (byte (refusal_code refusal)) refusal (refusal_again refusal [])) refl

pub parts_again : (f : ClientFrame) → IsClient f → parts_at (client_code f) (spelled_parts f) ≡ Ok (f, [])
unfolding parts_at
parts_again (client.Request (Join tag g)) is = join_again tag g is.0 is.1
parts_again (client.Request (Leave tag g)) is = leave_again tag g is.0 is.1
parts_again (client.Request (Cast tag g kind payload)) is = cast_again tag g kind payload is.0 is.1
parts_again (client.Request (Pass tag g to)) is = pass_again tag g to is.0 is.1 is.2
parts_again (client.Push (Opened p)) is = opened_again p is
parts_again (client.Push (Reply tag refusal)) is = replied_again tag refusal is
parts_again (client.Push (View g view members)) is = view_again g view members is.0 is.1 is.2
parts_again (client.Push (Deliver id kind payload)) is = deliver_again id kind payload is.0 is.1
parts_again (client.Push (Ejected g view)) is = ejected_again g view is.0 is.1
parts_again (client.Push (Denied g refusal)) is = denied_again g refusal is
parts_again (client.Push (Closed refusal)) is = closed_again refusal
